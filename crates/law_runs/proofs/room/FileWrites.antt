-- What a process of the tree writes to a file is among the bytes that are still to be written.
use Rattle.std.proofs.Common.{◌≡◌, ◌⊎◌, inl, inr, ℕ, zero, suc, ◌+◌, ◌-◌, ◌<◌, ◌≤◌, List, [], ◌∷◌, Option, Some, None, length, drop, refl, sym, ap, ◌∙◌, subst, arith}
use Rattle.sh_tree.specs.Tree.{Tree, exec, redir, pipe, list, back}
use Rattle.mem_files.specs.Name.{Bytes}
use Rattle.script_load.specs.declared.profile.Profile.{Profile}
use Rattle.script_load.specs.Line.{ScriptLine, command, bad, cd}
use Rattle.user_calls.specs.declared.calls.Call.{Call}
use Rattle.user_calls.specs.declared.calls.Call.TheVariants.{Fork, Exec, Exit, Wait, MakePipe, Read, Write, OpenFile, Close, Dup}
use Rattle.user_progs.specs.State.{State}
use Rattle.user_progs.specs.Turn.{Turn}
use Rattle.user_progs.specs.View.{first_state}
use Rattle.tree_model.specs.Tame.{IsTame, Among}
use Rattle.tree_model.specs.FilesAhead.{Sizes}
use Rattle.sh_machine.specs.Turn.{runs, execs_found}
use Rattle.tree_model.specs.Bound.{bytes_left}
use Rattle.tree_model.specs.ProgramBytes.{call_bytes, write_bytes}
use Rattle.process_model.specs.Seen.{Entry, diag, reader, writer, file, Fds, fd_at, Act, Seen, free, zombie, live, View}
use Rattle.process_model.specs.Own.{Owned, own_fds, OwnFds, IsWriter, PutFits, program_act, Works}
use Rattle.process_model.specs.Phases.{Stage, closes_read, closes_write, waits_two, waits_one, leaves_pipe, Step, closes_old, dups_kept, drops_read, drops_write, at_lines, has_forked, on_left, on_right, does, plain_fds}
use Rattle.process_model.specs.Shape.{Node, reaped, gone, starts, works, tells, leaves, reads_lines, in_line, in_list, pipe_made, pipe_half, pipe_both, left_child, right_child, opening, under_input, under_output, Has, same, occurs, stands_for}
use Rattle.process_model.proofs.Counts.{same_yes, none_or_some}
use Rattle.law_runs.proofs.standing.OwnFiles.{found}

-- the slot's process is about to write these bytes to a file
abbrev pub WritesFile : ℕ → Bytes → ℕ → Seen → Type 0
WritesFile fd bytes id free = ⊥
WritesFile fd bytes id (zombie q) = ⊥
WritesFile fd bytes id (live q act put d) = (act.call ≡ Write fd bytes) × (fd_at d fd ≡ Some (file id))

-- any call but a write
abbrev IsNoWrite : Call → Type 0
IsNoWrite Fork = Unit {0}
IsNoWrite (Exec found) = Unit {0}
IsNoWrite Exit = Unit {0}
IsNoWrite Wait = Unit {0}
IsNoWrite MakePipe = Unit {0}
IsNoWrite (Read fd most) = Unit {0}
IsNoWrite (Write fd bytes) = ⊥
IsNoWrite (OpenFile name mode) = Unit {0}
IsNoWrite (Close fd) = Unit {0}
IsNoWrite (Dup fd) = Unit {0}

found_no : (o : Option State) (name : Bytes) → IsNoWrite (execs_found o name).call
found_no None name = tt
found_no (Some state) name = tt

first_no : (tree : Tree) → IsNoWrite (runs tree).call
first_no (exec []) = tt
first_no (exec (name ∷ arguments)) = found_no (first_state (name ∷ arguments)) name
first_no (redir mode name body) = tt
first_no (pipe l r) = tt
first_no (list l r) = tt
first_no (back body) = tt

stage_no : (profile : Profile) (stage : Stage) (i : ℕ) → IsNoWrite (does profile (has_forked stage i)).call
stage_no profile closes_read i = tt
stage_no profile closes_write i = tt
stage_no profile waits_two i = tt
stage_no profile waits_one i = tt
stage_no profile leaves_pipe i = tt

left_no : (profile : Profile) (step : Step) (tree : Tree) → IsNoWrite (does profile (on_left step tree)).call
left_no profile closes_old tree = tt
left_no profile dups_kept tree = tt
left_no profile drops_read tree = tt
left_no profile drops_write tree = tt

right_no : (profile : Profile) (step : Step) (tree : Tree) → IsNoWrite (does profile (on_right step tree)).call
right_no profile closes_old tree = tt
right_no profile dups_kept tree = tt
right_no profile drops_read tree = tt
right_no profile drops_write tree = tt

-- a write to descriptor 2 goes to no file
to_diag : (d : Fds) (message bytes : Bytes) (fd id : ℕ) → fd_at d 2 ≡ Some diag → ◌≡◌ {A = Call} (Write 2 message) (Write fd bytes) → fd_at d fd ≡ Some (file id) → ⊥
to_diag d message bytes fd id two same here =
    let is : 2 ≡ fd = cc in
    let z : Some diag ≡ Some (file id) = sym two ∙ (ap (fd_at d) is ∙ here) in
    let w : ⊥ = cc in w

-- a program's write to a file is whole before it
write_whole : (a b : Entry) (owns : List Owned) (d : Fds) (turn : Turn) (put fd id : ℕ) (bytes : Bytes) → OwnFds a b owns d → PutFits b turn put → turn.call ≡ Write fd bytes → fd_at d fd ≡ Some (file id)
    → (fd ≡ 1) ⊎ ((fd ≡ 2) ⊎ (2 < fd)) → length bytes ≤ call_bytes turn.call put
write_whole a b owns d turn put fd id bytes own fits call at which = subst (λ c. length bytes ≤ call_bytes c put) (sym call) (by which fits)
  where
    to_one : (put ≡ 0) ⊎ (IsWriter b × ((bytes : Bytes) × (turn.call ≡ Write 1 bytes))) → fd ≡ 1 → put ≡ 0
    to_one (inl none) one = none
    to_one (inr w) one =
        let z : Some b ≡ Some (file id) = sym own.output ∙ (sym (ap (fd_at d) one) ∙ at) in
        let same : b ≡ file id = cc in
        absurd (subst IsWriter same w.0)

    by : (fd ≡ 1) ⊎ ((fd ≡ 2) ⊎ (2 < fd)) → (put ≡ 0) ⊎ (IsWriter b × ((bytes : Bytes) × (turn.call ≡ Write 1 bytes))) → length bytes ≤ write_bytes fd bytes put
    by (inl one) f = subst (λ n. length bytes ≤ write_bytes n bytes put) (sym one) (subst (λ n. length bytes ≤ length (drop n bytes)) (sym (to_one f one)) (omega arith))
    by (inr (inl two)) f = absurd (let z : Some diag ≡ Some (file id) = sym own.messages ∙ (sym (ap (fd_at d) two) ∙ at) in let w : ⊥ = cc in w)
    by (inr (inr up)) f = above fd up
      where
        above : (n : ℕ) → 2 < n → length bytes ≤ write_bytes n bytes put
        above zero up = absurd (omega (arith, up))
        above (suc zero) up = absurd (omega (arith, up))
        above (suc (suc zero)) up = absurd (omega (arith, up))
        above (suc (suc (suc n))) up = omega arith

-- which descriptor a program writes to
program_which : (V : View) (a b : Entry) (parent p : ℕ) (turn : Turn) (put : ℕ) (owns : List Owned) (fd : ℕ) (bytes : Bytes) → Works V a b parent p turn put owns → turn.call ≡ Write fd bytes → (fd ≡ 1) ⊎ ((fd ≡ 2) ⊎ (2 < fd))
program_which V a b parent p turn put owns fd bytes h call = by (subst (IsTame h.tame.which h.tame.arguments (own_fds owns)) call (h.tame.calls []))
  where
    by : (fd ≡ 1) ⊎ ((fd ≡ 2) ⊎ Among fd (own_fds owns)) → (fd ≡ 1) ⊎ ((fd ≡ 2) ⊎ (2 < fd))
    by (inl one) = inl one
    by (inr (inl two)) = inr (inl two)
    by (inr (inr own)) = inr (inr (found V owns fd own h.apart h.placed h.plain).above)

module _ (profile : Profile) (V : View) (p fd id : ℕ) (bytes : Bytes) (writes : WritesFile fd bytes id (V.slots p)) where
  -- the process r
  at_here : (r : ℕ) (s : Seen) → V.slots r ≡ s → 1 ≤ same p r → WritesFile fd bytes id s
  at_here r s is some = subst (WritesFile fd bytes id) (ap V.slots (same_yes p r some) ∙ is) writes

  -- it isn't a process whose next call is no write
  not_it : (r parent put : ℕ) (act : Act) (d : Fds) → V.slots r ≡ live parent act put d → IsNoWrite act.call → 1 ≤ same p r → ⊥
  not_it r parent put act d is other some = subst IsNoWrite (at_here r (live parent act put d) is some).0 other

  -- nor one that prints a message
  not_diag : (r parent put : ℕ) (act : Act) (d : Fds) (message : Bytes) → V.slots r ≡ live parent act put d → act.call ≡ Write 2 message → fd_at d 2 ≡ Some diag → 1 ≤ same p r → ⊥
  not_diag r parent put act d message is call two some =
      let w = at_here r (live parent act put d) is some in
      to_diag d message bytes fd id two (sym call ∙ w.0) w.1

  -- so it is inside what runs under it
  inside : (r n parent put : ℕ) (act : Act) (d : Fds) → V.slots r ≡ live parent act put d → IsNoWrite act.call → 1 ≤ same p r + n → 1 ≤ n
  inside r n parent put act d is other some = elim (none_or_some (same p r)) [ inl none ↦ omega (arith, none, some) | inr one ↦ absurd (not_it r parent put act d is other one) ]

  no_lines : (r parent : ℕ) (a b old : Entry) (lines : List ScriptLine) → V.slots r ≡ live parent (does profile (at_lines lines)) 0 (plain_fds a b) → 1 ≤ same p r → ⊥
  no_lines r parent a b old [] is some = not_it r _ _ _ _ is tt some
  no_lines r parent a b old (command tree ∷ later) is some = not_it r _ _ _ _ is tt some
  no_lines r parent a b old (bad fault text ∷ later) is some = not_it r _ _ _ _ is tt some
  no_lines r parent a b old (cd text ∷ later) is some = not_diag r _ _ _ _ _ is refl refl some

  pub ahead : (a b old : Entry) (parent : ℕ) (t : Node) → Has profile V a b old parent t → 1 ≤ occurs p t → (n : ℕ) (L : Sizes) → length bytes ≤ bytes_left (stands_for t) n L
  ahead a b old parent reaped h some n L = absurd (omega (arith, some))
  ahead a b old parent (gone r) h some n L = absurd (at_here r _ h some)
  ahead a b old parent (starts r tree) h some n L = absurd (not_it r _ _ _ _ h (first_no tree) some)
  ahead a b old parent (works r turn put owns) h some n L =
      let w = at_here r (live parent (program_act turn) put h.fds) h.slot some in
      omega (arith, write_whole a b owns h.fds turn put fd id bytes h.opened h.fits w.0 w.1 (program_which V a b parent r turn put owns fd bytes h w.0))
  ahead a b old parent (tells r message) h some n L = absurd (not_diag r _ _ _ h.0 message h.1 refl h.2 some)
  ahead a b old parent (leaves r) h some n L = absurd (not_it r _ _ _ h.0 h.1 tt some)
  ahead a b old parent (reads_lines r lines) h some n L = absurd (no_lines r parent a b old lines h some)
  ahead a b old parent (in_line r x lines) h some n L = omega (arith, ahead a b old r x h.2 (inside r (occurs p x) _ _ _ _ h.0 tt some) n L)
  ahead a b old parent (in_list r x later) h some n L = omega (arith, ahead a b old r x h.2 (inside r (occurs p x) _ _ _ _ h.0 tt some) n L)
  ahead a b old parent (pipe_made r i l c) h some n L = absurd (not_it r _ _ _ _ h.0 tt some)
  ahead a b old parent (pipe_half r i lost x held c) h some n L = omega (arith, ahead a (writer i) b r x h.3 (inside r (occurs p x) _ _ _ _ h.0 tt some) n L)
  ahead a b old parent (pipe_both r i stage lost x held y) h some n L =
      let within : 1 ≤ occurs p x + occurs p y = inside r (occurs p x + occurs p y) _ _ _ _ h.0 (stage_no profile stage i) (omega (arith, some)) in
      elim (none_or_some (occurs p x)) [
        | inl none ↦ omega (arith, ahead (reader i) b a r y h.4 (omega (arith, within, none)) (length held + bytes_left (stands_for x) n L) L)
        | inr one ↦ omega (arith, ahead a (writer i) b r x h.3 one n L)
      ]
  ahead a b old parent (left_child r step tree) h some n L = absurd (not_it r _ _ _ _ h (left_no profile step tree) some)
  ahead a b old parent (right_child r step tree) h some n L = absurd (not_it r _ _ _ _ h (right_no profile step tree) some)
  ahead a b old parent (opening r mode name body) h some n L = absurd (not_it r _ _ _ _ h tt some)
  ahead a b old parent (under_input e name at x) h some n L = ahead (file e) b old parent x h.2 some (L name - at) L
  ahead a b old parent (under_output e mode name at x) h some n L = ahead a (file e) old parent x h.2 some n L
