-- No run of a script that keeps within sizes no larger than a file can be finds a file too large for what is written to it.
use Rattle.std.proofs.Common.{◌≡◌, ◌≢◌, ◌⊎◌, inl, inr, ℕ, zero, suc, ◌+◌, ◌<◌, ◌≤◌, List, [], ◌∷◌, Bool, true, false, Option, Some, None, length, drop, refl, sym, ap, ◌∙◌, subst, arith}
use Rattle.std.specs.Prelude.{◌||◌, option_map}
use Rattle.std.specs.List.{list_any}
use Rattle.std.specs.Str.{bytes_eq}
use Rattle.std.proofs.lemmas.Bool.{or_right}
use Rattle.std.proofs.lemmas.Slice.Eq.{bytes_eq-Decides}
use Rattle.sh_tree.specs.Tree.{Tree, exec, redir, pipe, list, back}
use Rattle.mem_files.specs.Name.{Name, Bytes}
use Rattle.mem_files.specs.Files.{files}
use Rattle.mem_files.specs.Listing.{AreFiles, max_size}
use Rattle.prog_parts.specs.declared.program.Program.{Program}
use Rattle.prog_parts.specs.Words.{files_written}
use Rattle.script_load.specs.declared.profile.Profile.{Profile}
use Rattle.script_load.specs.Line.{ScriptLine, command, bad, cd}
use Rattle.user_calls.specs.declared.calls.Call.{Call}
use Rattle.user_calls.specs.declared.calls.Call.TheVariants.{Exit, Wait, Write}
use Rattle.user_calls.specs.declared.calls.Mode.TheVariants.{Input as ToRead}
use Rattle.user_progs.specs.State.{State}
use Rattle.user_progs.specs.View.{first_state}
use Rattle.tree_model.specs.FilesAhead.{Sizes, sizes}
use Rattle.tree_model.specs.Tame.{IsTame}
use Rattle.tree_model.specs.ProgramBytes.{call_bytes, later_bytes}
use Rattle.fd_table.specs.declared.names.Mode.TheVariants.{Input as ForReading}
use Rattle.fd_table.specs.declared.names.Object.{Object}
use Rattle.fd_table.specs.declared.names.Object.TheVariants.{File}
use Rattle.fd_table.specs.Descriptors.{Descriptors, entry_of}
use Rattle.fd_table.specs.Entries.{OpenFile as Opened}
use Rattle.proc_table.specs.Slots.{Process, at, is_zombie_status, parent_or_init}
use Rattle.kernel_model.specs.declared.events.Event.{Event}
use Rattle.kernel_model.specs.declared.events.Full.TheVariants.{Size}
use Rattle.kernel_model.specs.KernelState.{KernelState, fds_of, fds_at, file_at}
use Rattle.kernel_model.specs.Modes.{entry_mode}
use Rattle.kernel_model.specs.Writing.{write_object, write_entry, write_held}
use Rattle.kernel_model.specs.Events.{acted, counted, run}
use Rattle.law_kernel.proofs.kernel.Runs.{runs_alive}
use Rattle.run_model.specs.ScriptRun.{script_kernel}
use Rattle.sh_machine.specs.declared.state.Phase.TheVariants.{Starts}
use Rattle.sh_machine.specs.State.{User, init, shell, top}
use Rattle.sh_machine.specs.Turn.{call_of, next_of, runs as runs_tree, execs_found}
use Rattle.process_model.specs.Seen.{Entry, diag, file, Fds, fd_at, Act, act_of, Seen, live, seen_by, seen_slot, fds_seen, Place, View, view}
use Rattle.process_model.specs.Own.{IsWriter}
use Rattle.process_model.specs.Shows.{IsNamed, IsFile}
use Rattle.process_model.specs.Phases.{Stage, closes_read, closes_write, waits_two, waits_one, leaves_pipe, Step, closes_old, dups_kept, drops_read, drops_write, Phase, at_lines, waits_line, begins, opens, waits_list, forks_left, forks_right, has_forked, on_left, on_right, does, has_open}
use Rattle.law_runs.specs.Consistent.{IsConsistent}
use Rattle.law_runs.proofs.views.Runs as settling
use Rattle.law_runs.proofs.views.Tables.{seen_up}
use Rattle.law_runs.proofs.room.Marks.{WritesTooMuch, tells}
use Rattle.law_limits.proofs.behind.Sums.{total, total_zero}
use Rattle.law_limits.proofs.behind.Runs.{in_range}
use Rattle.room_model.specs.Place.{counted_if}
use Rattle.room_model.specs.Sizes.{KeepsWithin}
use Rattle.law_limits.proofs.sizes.Doings.{a_file, goes_by, written_by, Doing, over, in_phase, runs, IsEnding, IsOver, IsOwnFile, reads_left, writes_to, may, IsRun, Is}
use Rattle.law_limits.proofs.sizes.Keeps.{Inv, total_moves}
use Rattle.law_limits.proofs.sizes.Runs.{IsNew, Holds, every_run_holds}
use Rattle.law_limits.proofs.sizes.Marked.{FirstMark, first_mark}

-- ---- who writes to a file

abbrev ToDiag : Fds → ℕ → Type 0
ToDiag d fd = (fd ≡ 2) × (fd_at d 2 ≡ Some diag)

module _ (fd : ℕ) (bytes : Bytes) where
  found_writes : (o : Option State) (name : Bytes) → (execs_found o name).call ≡ Write fd bytes → ⊥
  found_writes None name is = let z : ⊥ = cc in z
  found_writes (Some state) name is = let z : ⊥ = cc in z

  tree_writes : (tree : Tree) → (runs_tree tree).call ≡ Write fd bytes → ⊥
  tree_writes (exec []) is = let z : ⊥ = cc in z
  tree_writes (exec (name ∷ arguments)) is = found_writes (first_state (name ∷ arguments)) name is
  tree_writes (redir mode name body) is = let z : ⊥ = cc in z
  tree_writes (pipe left right) is = let z : ⊥ = cc in z
  tree_writes (list left right) is = let z : ⊥ = cc in z
  tree_writes (back body) is = let z : ⊥ = cc in z

  module _ (profile : Profile) (a b old : Entry) where
    lines_write : (lines : List ScriptLine) → (does profile (at_lines lines)).call ≡ Write fd bytes → ToDiag (has_open (at_lines lines) a b old) fd
    lines_write [] is = absurd (let z : ⊥ = cc in z)
    lines_write (command tree ∷ later) is = absurd (let z : ⊥ = cc in z)
    lines_write (bad fault text ∷ later) is = absurd (let z : ⊥ = cc in z)
    lines_write (cd text ∷ later) is = let z : 2 ≡ fd = cc in (sym z, refl)

    stage_writes : (stage : Stage) (i : ℕ) → (does profile (has_forked stage i)).call ≡ Write fd bytes → ⊥
    stage_writes closes_read i is = let z : ⊥ = cc in z
    stage_writes closes_write i is = let z : ⊥ = cc in z
    stage_writes waits_two i is = let z : ⊥ = cc in z
    stage_writes waits_one i is = let z : ⊥ = cc in z
    stage_writes leaves_pipe i is = let z : ⊥ = cc in z

    left_writes : (step : Step) (tree : Tree) → (does profile (on_left step tree)).call ≡ Write fd bytes → ⊥
    left_writes closes_old tree is = let z : ⊥ = cc in z
    left_writes dups_kept tree is = let z : ⊥ = cc in z
    left_writes drops_read tree is = let z : ⊥ = cc in z
    left_writes drops_write tree is = let z : ⊥ = cc in z

    right_writes : (step : Step) (tree : Tree) → (does profile (on_right step tree)).call ≡ Write fd bytes → ⊥
    right_writes closes_old tree is = let z : ⊥ = cc in z
    right_writes dups_kept tree is = let z : ⊥ = cc in z
    right_writes drops_read tree is = let z : ⊥ = cc in z
    right_writes drops_write tree is = let z : ⊥ = cc in z

    phase_writes : (phase : Phase) → (does profile phase).call ≡ Write fd bytes → ToDiag (has_open phase a b old) fd
    phase_writes (at_lines lines) is = lines_write lines is
    phase_writes (waits_line lines) is = absurd (let z : ⊥ = cc in z)
    phase_writes (begins tree) is = absurd (tree_writes tree is)
    phase_writes (opens mode name body) is = absurd (let z : ⊥ = cc in z)
    phase_writes (waits_list later) is = absurd (let z : ⊥ = cc in z)
    phase_writes (forks_left left right i) is = absurd (let z : ⊥ = cc in z)
    phase_writes (forks_right right i) is = absurd (let z : ⊥ = cc in z)
    phase_writes (has_forked stage i) is = absurd (stage_writes stage i is)
    phase_writes (on_left step tree) is = absurd (left_writes step tree is)
    phase_writes (on_right step tree) is = absurd (right_writes step tree is)

to_file_not : (d : Fds) (fd e : ℕ) → ToDiag d fd → fd_at d fd ≡ Some (file e) → ⊥
to_file_not d fd e (two, is) at = let z : Some diag ≡ Some (file e) = sym is ∙ (ap (fd_at d) (sym two) ∙ at) in let w : ⊥ = cc in w

module _ (profile : Profile) (L : Sizes) (V : View) (N : ℕ → ℕ) (p : ℕ) (fd e : ℕ) (bytes : Bytes) (parent put : ℕ) (act : Act) (d : Fds) (slot : V.slots p ≡ live parent act put d) (is_write : act.call ≡ Write fd bytes) (to_file : fd_at d fd ≡ Some (file e)) (writes : (V.places e).mode ≢ ToRead) where
  call_is : (other : Act) (q put' : ℕ) (d' : Fds) → V.slots p ≡ live q other put' d' → (other.call ≡ Write fd bytes) × (fd_at d' fd ≡ Some (file e))
  call_is other q put' d' is =
      let z : live parent act put d ≡ live q other put' d' = sym slot ∙ is in
      let same : act ≡ other = cc in
      let fds_same : d ≡ d' = cc in
      (sym (ap (λ (x : Act). x.call) same) ∙ is_write, sym (ap (λ x. fd_at x fd) fds_same) ∙ to_file)

  ending_not : IsEnding profile act d → ⊥
  ending_not (inl is) = let z : Exit ≡ Write fd bytes = sym (ap (λ (x : Act). x.call) is) ∙ is_write in let w : ⊥ = cc in w
  ending_not (inr (message, is, two)) =
      let z : Write 2 message ≡ Write fd bytes = sym (ap (λ (x : Act). x.call) is) ∙ is_write in
      let same : 2 ≡ fd = cc in
      to_file_not d fd e (sym same, two) to_file

  module _ (which : Program) (arguments : List Bytes) (call : Call) (state : State) (m : ℕ) (d' : Fds) (r : IsRun profile V p which arguments call state m d') where
    is : (call ≡ Write fd bytes) × (fd_at d' fd ≡ Some (file e))
    is = call_is _ r.parent m d' r.slot

    abbrev name : Name
    name = (V.places e).name

    same_name : bytes_eq name name ≡ true
    same_name = (bytes_eq-Decides name name).1 refl

    tame : IsTame which arguments r.opened (Write fd bytes)
    tame = subst (IsTame which arguments r.opened) is.0 (r.tame [])

    enough : (c : Bool) → c ≡ true → length bytes ≤ call_bytes call m → length bytes ≤ counted_if c (call_bytes call m + later_bytes state (reads_left L V N d' state))
    enough true is less = omega (arith, less)
    enough false is less = absurd (let w : ⊥ = cc in w)

    to_output : fd ≡ 1 → length bytes ≤ may L V N (a_file name) (runs which arguments call state m d')
    to_output one = enough (writes_to L V N (a_file name) which arguments d') yes less
      where
        output : fd_at d' 1 ≡ Some (file e)
        output = ap (fd_at d') (sym one) ∙ is.1

        b_is : r.b ≡ file e
        b_is = let z : Some r.b ≡ Some (file e) = sym r.output ∙ output in cc

        yes : writes_to L V N (a_file name) which arguments d' ≡ true
        yes = ap (λ o. goes_by V (a_file name) o || list_any (bytes_eq name) (files_written which arguments)) output ∙ ap (λ c. c || list_any (bytes_eq name) (files_written which arguments)) same_name

        by : (m ≡ 0) ⊎ (IsWriter r.b × ((b : Bytes) × (call ≡ Write 1 b))) → m ≡ 0
        by (inl none) = none
        by (inr some) = absurd (subst IsWriter b_is some.0)

        less : length bytes ≤ call_bytes call m
        less = omega (arith, ap (λ c. call_bytes c m) is.0, ap (λ n. call_bytes (Write n bytes) m) one, ap (λ n. length (drop n bytes)) (by r.part))

    to_own : 2 < fd → length bytes ≤ may L V N (a_file name) (runs which arguments call state m d')
    to_own up = enough (writes_to L V N (a_file name) which arguments d') (or_right (goes_by V (a_file name) (fd_at d' 1)) (written_by which arguments name) (by own.named)) (omega (arith, ap (λ c. call_bytes c m) is.0, high fd up))
      where
        own : IsOwnFile V (written_by which arguments) (file e)
        own = r.above fd (file e) up is.1

        same_entry : own.entry ≡ e
        same_entry = let z : file e ≡ file own.entry = own.is in cc

        by : ((V.places own.entry).mode ≡ ToRead) ⊎ (written_by which arguments (V.places own.entry).name ≡ true) → written_by which arguments name ≡ true
        by (inl read) = absurd (writes (ap (λ n. (V.places n).mode) (sym same_entry) ∙ read))
        by (inr named) = ap (λ n. written_by which arguments (V.places n).name) (sym same_entry) ∙ named

        high : (n : ℕ) → 2 < n → length bytes ≤ call_bytes (Write n bytes) m
        high zero low = absurd (omega (arith, low))
        high (suc zero) low = absurd (omega (arith, low))
        high (suc (suc zero)) low = absurd (omega (arith, low))
        high (suc (suc (suc n))) low = omega arith

    run_may : length bytes ≤ may L V N (a_file name) (runs which arguments call state m d')
    run_may = by tame
      where
        by : IsTame which arguments r.opened (Write fd bytes) → length bytes ≤ may L V N (a_file name) (runs which arguments call state m d')
        by (inl one) = to_output one
        by (inr (inl two)) = absurd (to_file_not d' fd e (two, r.messages) is.1)
        by (inr (inr among)) = to_own (r.high fd among)

  pub may_all : (doing : Doing) → Is profile V p doing → length bytes ≤ may L V N (a_file (V.places e).name) doing
  may_all over it = absurd (ending_not (subst (IsOver profile) slot it))
  may_all (in_phase phase a b old) (q, at, fine, known) = let w = call_is (does profile phase) q 0 (has_open phase a b old) at in absurd (to_file_not (has_open phase a b old) fd e (phase_writes fd bytes profile a b old phase w.0) w.1)
  may_all (runs which arguments call state m d') r = run_may which arguments call state m d' r

-- ---- the first that is too large

one_of : (f : ℕ → ℕ) (p : ℕ) → p < 64 → f p ≤ total f 0 64
one_of f p few = omega (arith, total_moves f (λ q. 0) p few (λ q ne. omega arith), total_zero (λ q. 0) 0 64 (λ q. refl))

-- a descriptor is seen to hold what its entry is named
seen_at : (named : ℕ → Entry) (fds : Descriptors) (fd : ℕ) → fd_at (fds_seen named fds) fd ≡ option_map named (entry_of fds fd)
seen_at named [] fd = refl
seen_at named (x ∷ fds) zero = refl
seen_at named (x ∷ fds) (suc fd) = seen_at named fds fd

-- a write through an entry that was opened to read marks nothing
reading_marks : (k : KernelState User) (pid fd : ℕ) (after : User) (bytes : Bytes) (refused : Bool) (o : Option ℕ) (f : Opened) (name : Name) → entry_of (fds_at k pid) fd ≡ o → file_at k.entries o ≡ Some f → f.object ≡ File name ForReading → (acted k pid after (Write fd bytes) refused).full ≡ k.full
reading_marks k pid fd after bytes refused None f name at opened object = absurd (let z : ⊥ = cc in z)
reading_marks k pid fd after bytes refused (Some e) f name at opened object =
    ap (λ o. (write_held k pid after bytes refused o).full) at
    ∙ (ap (λ o. (write_entry k pid after e bytes refused o).full) opened ∙ ap (λ x. (write_object k pid after e f.offset bytes refused x).full) object)

module _ (profile : Profile) (L : Sizes) (lines : List ScriptLine) (input : Bytes) (list : List (Name × Bytes)) (are : AreFiles list) (keeps : KeepsWithin lines input (files list) L) (small : (name : Name) → L name ≤ max_size) where
  module _ (f : FirstMark init (shell profile (top Starts lines)) input list Size) where
    abbrev k : KernelState User
    k = f.kernel

    abbrev q : Process User
    q = f.marks.process

    abbrev pid : ℕ
    pid = f.marks.pid

    abbrev call : Call
    call = call_of q.machine q.reply

    holds : Holds profile L (IsNew lines list) k
    holds = every_run_holds profile L lines input list are keeps f.reached.events f.reached.notes k f.reached.runs f.clean

    settled : IsConsistent k
    settled = settling.settled init (shell profile (top Starts lines)) input list are k f.reached

    w : WritesTooMuch (counted k) pid call
    w = tells pid (counted k) (next_of q.machine q.reply) call f.clean f.marks.refused Size f.marks.marked

    module _ (names : Rattle.process_model.specs.Seen.Names) (shows : Rattle.process_model.specs.Shows.ShowsIn names k) (has_init : Rattle.law_runs.specs.Seen.IsInit k) (inv : Inv profile L (IsNew lines list) (view names k)) where
      abbrev V : View
      V = view names k

      abbrev d : Fds
      d = fds_seen names.name q.fds

      up : pid ≢ 0
      up is =
          let waits : call ≡ Wait = ap (λ m. call_of m q.reply) (has_init q (sym (ap (at k.table) is) ∙ f.marks.there)).0 in
          let z : Write w.fd w.bytes ≡ Wait = sym w.asks ∙ waits in
          let x : ⊥ = cc in x

      alive : (b : Bool) → b ≡ false → seen_by b names.name q ≡ live (parent_or_init q.parent) (act_of q.machine q.reply) q.put d
      alive true is = absurd (let z : ⊥ = cc in z)
      alive false is = refl

      seen : V.slots pid ≡ live (parent_or_init q.parent) (act_of q.machine q.reply) q.put d
      seen = seen_up names.name k.table pid up ∙ (ap (seen_slot names.name) f.marks.there ∙ alive (is_zombie_status q.status) (runs_alive f.marks.hart q.status f.marks.running))

      fds_here : fds_at k pid ≡ q.fds
      fds_here = ap fds_of f.marks.there

      by : (o : Option ℕ) → entry_of (fds_at k pid) w.fd ≡ o → file_at k.entries o ≡ Some w.entry → ⊥
      by None held opened = let z : ⊥ = cc in z
      by (Some e) held opened = too_large
        where
          named : IsFile names (files k.files) (k.events + 1) (names.name e) w.name w.mode w.entry.offset
          named = subst (λ (o : Object). IsNamed names (files k.files) (k.events + 1) (names.name e) o w.entry.offset) w.object (shows.named e w.entry opened)

          to_file : fd_at d w.fd ≡ Some (file named.id)
          to_file = seen_at names.name q.fds w.fd ∙ (ap (option_map names.name) (sym (ap (λ fds. entry_of fds w.fd) fds_here) ∙ held) ∙ ap (λ x. Some x) named.is)

          -- it was opened to write, since the call marks the kernel
          writes : (V.places named.id).mode ≢ ToRead
          writes read =
              let mode : w.mode ≡ ForReading = sym named.moded ∙ ap entry_mode read in
              let object : w.entry.object ≡ File w.name ForReading = w.object ∙ ap (File w.name) mode in
              let same : (acted (counted k) pid (next_of q.machine q.reply) (Write w.fd w.bytes) f.marks.refused).full ≡ k.full = reading_marks (counted k) pid w.fd (next_of q.machine q.reply) w.bytes f.marks.refused (Some e) w.entry w.name held opened object in
              let marked : (acted (counted k) pid (next_of q.machine q.reply) (Write w.fd w.bytes) f.marks.refused).full ≡ Some Size = subst (λ c. (acted (counted k) pid (next_of q.machine q.reply) c f.marks.refused).full ≡ Some Size) w.asks f.marks.marked in
              let z : None ≡ Some Size = sym f.clean ∙ (sym same ∙ marked) in
              let x : ⊥ = cc in x

          may_write : length w.bytes ≤ may L V inv.left (a_file (V.places named.id).name) (inv.doing pid)
          may_write = may_all profile L V inv.left pid w.fd named.id w.bytes (parent_or_init q.parent) q.put (act_of q.machine q.reply) d seen w.asks to_file writes (inv.doing pid) (inv.is pid)

          few : pid < 64
          few = (in_range names k settled pid (omega (arith, ap Rattle.process_model.specs.Shape.is_used seen))).1

          too_large : ⊥
          too_large =
              omega (
                arith,
                w.much,
                ap (λ n. sizes (files k.files) n) named.named,
                small (V.places named.id).name,
                inv.within (a_file (V.places named.id).name),
                may_write,
                one_of (λ p. may L V inv.left (a_file (V.places named.id).name) (inv.doing p)) pid few,
              )

    never : ⊥
    never = by holds.names holds.shows holds.has_init holds.inv (entry_of (fds_at k pid) w.fd) refl w.opened

  pub file_stays_small : (es : List Event) (ns : List Bool) (m : KernelState User) → run call_of next_of (Some (script_kernel profile lines input list)) es ns ≡ Some m → m.full ≡ Some Size → ⊥
  file_stays_small es ns m is marked = never (first_mark init (shell profile (top Starts lines)) input list Size es ns m is marked)
