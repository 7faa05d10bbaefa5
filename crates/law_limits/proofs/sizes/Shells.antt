-- Each call of the shell, by the phase that it is made in.
use Rattle.std.proofs.Common.{◌≡◌, ◌≢◌, ◌⊎◌, inl, inr, ℕ, zero, suc, ◌+◌, ◌<◌, ◌≤◌, Bool, true, false, List, [], ◌∷◌, length, drop, Option, Some, None, refl, sym, ap, ◌∙◌, subst, arith, codes}
use Rattle.std.specs.Prelude.{◌||◌, ◌++◌, if◌then◌else◌, replicate, slice_set}
use Rattle.std.specs.List.{list_any}
use Rattle.std.specs.Str.{bytes_eq}
use Rattle.std.proofs.lemmas.Bool.{cases_eq, eq-eqb, ne_eqb}
use Rattle.sh_tree.specs.declared.tree.Mode.{Mode}
use Rattle.sh_tree.specs.declared.tree.Mode.TheVariants.{Input, Fresh, Over}
use Rattle.sh_tree.specs.Tree.{Tree, exec, redir, pipe, list, back}
use Rattle.mem_files.specs.Name.{Name, Bytes, is_openable}
use Rattle.mem_files.specs.Files.{FileMap, with_file, bytes_of}
use Rattle.prog_parts.specs.declared.program.Program.{Program}
use Rattle.prog_parts.specs.Program.{program_of}
use Rattle.prog_parts.specs.NameSets.{no_names, among}
use Rattle.prog_parts.specs.Words.{files_written, by_program}
use Rattle.script_load.specs.declared.profile.Profile.{Profile}
use Rattle.script_load.specs.declared.profile.Profile.TheVariants.{Xv6, Append as AppendAll}
use Rattle.script_load.specs.Line.{ScriptLine, command, bad, cd}
use Rattle.meaning_model.specs.Meaning.{script_tree}
use Rattle.user_calls.specs.declared.calls.Call.TheVariants.{Exec}
use Rattle.user_calls.specs.declared.calls.Mode.{Mode as CallMode}
use Rattle.user_calls.specs.declared.calls.Mode.TheVariants.{Input as ToRead, Fresh as ToFresh, Over as ToOver, Append as ToAppend}
use Rattle.user_calls.specs.declared.calls.Reply.TheVariants.{Done, Fd, Ends, Refused}
use Rattle.user_progs.specs.State.{State, begins as begins_program}
use Rattle.user_progs.specs.Turn.{turn, block}
use Rattle.user_progs.specs.View.{begun as found_by}
use Rattle.law_trees.proofs.programs.Taming.{always_tame}
use Rattle.tree_model.specs.FilesAhead.{Sizes, sizes}
use Rattle.tree_model.specs.ProgramBytes.{later_bytes}
use Rattle.sh_machine.specs.State.{program, unknown}
use Rattle.sh_machine.specs.Turn.{calls, fault_text, execs_found}
use Rattle.process_model.specs.Seen.{Entry, input, out, diag, reader, writer, file, Fds, fd_at, Act, act_of, free, live, Place, View}
use Rattle.process_model.specs.Phases.{Stage, closes_read, closes_write, waits_two, waits_one, leaves_pipe, Step, closes_old, dups_kept, drops_read, drops_write, Phase, at_lines, waits_line, begins, opens, waits_list, forks_left, forks_right, has_forked, on_left, on_right, shell_act, does, fds, plain_fds, pipe_fds, has_open}
use Rattle.process_model.specs.Shape.{OpensOutput, is_used}
use Rattle.process_model.specs.Effect.{Sets, Rest, Answers as Answered, Forks, Exits, Reaps, WaitsFor, reaps, has_none, sleeps, MakesPipe, Opens, OpensBy, OpensNamed, files_read, files_kept, files_opened, lowest, answered, EffectBy, IsCall}
use Rattle.law_runs.proofs.standing.CallKinds.{effect_at}
use Rattle.law_runs.proofs.standing.Openable.{whole, same_openable}
use Rattle.law_trees.proofs.tree_ends.TurnBytes.{turn_pays}
use Rattle.law_limits.proofs.behind.Sums.{put, put_here, put_there}
use Rattle.room_model.specs.Files.{names_written}
use Rattle.room_model.specs.Place.{program_bytes, counted_if, to_place}
use Rattle.law_limits.proofs.sizes.More.{counted_more, place_more, none_place}
use Rattle.law_limits.proofs.sizes.Doings.{NoName, NoPhase, NoFile, Goal, a_pipe, a_file, goes_to, has, names_of, IsOld, Doing, over, in_phase, runs, IsEnding, IsOver, IsFine, IsOldPhase, ahead, of_tree, of_phase, reads_left, writes_left, may, Is}
use Rattle.law_limits.proofs.sizes.Later.{Later, ahead_less, goes_same, phase_less, fine_still, phase_still}
use Rattle.law_limits.proofs.sizes.Giving.{Answers, turn_reads, turn_asked}
use Rattle.law_limits.proofs.sizes.Effects.{cap, rest_later, new_later, has_same}
use Rattle.law_limits.proofs.sizes.Running.{Kept, GivesNone, Goes}

-- no descriptor above 2 is open
none_at : (n fd : ℕ) → fd_at (replicate n None) fd ≡ None
none_at zero fd = refl
none_at (suc n) zero = refl
none_at (suc n) (suc fd) = none_at n fd

above_two : (a b : Entry) (fd : ℕ) → 2 < fd → fd_at (plain_fds a b) fd ≡ None
above_two a b zero up = absurd (omega (arith, up))
above_two a b (suc zero) up = absurd (omega (arith, up))
above_two a b (suc (suc zero)) up = absurd (omega (arith, up))
above_two a b (suc (suc (suc zero))) up = refl
above_two a b (suc (suc (suc (suc zero)))) up = refl
above_two a b (suc (suc (suc (suc (suc fd))))) up = none_at 11 fd

none_either : (b c : Bool) → (b || c) ≡ false → (b ≡ false) × (c ≡ false)
none_either true c none = let z : ⊥ = cc in absurd z
none_either false c none = (refl, none)

none_among : (n : Name) (xs ys : List Name) → among (xs ++ ys) n ≡ false → (among xs n ≡ false) × (among ys n ≡ false)
none_among n [] ys none = (refl, none)
none_among n (x ∷ xs) ys none =
    let w = none_either (bytes_eq n x) (among (xs ++ ys) n) none in
    let rest = none_among n xs ys w.1 in
    (ap (λ b. b || among xs n) w.0 ∙ rest.0, rest.1)

both_absent : (n : Name) (left right : Tree) → NoName n (list left right) → NoName n left × NoName n right
both_absent n left right none = none_among n (names_written left) (names_written right) none

-- a process forks, and both go on
pub record Splits (profile : Profile) (L : Sizes) (V W : View) (N : ℕ → ℕ) (p : ℕ) (doing : Doing) : Type 0 where
  pub to : Doing
  pub born : Doing
  pub child : ℕ
  pub was_free : V.slots child ≡ free
  pub is : Is profile W p to
  pub born_is : Is profile W child born
  pub used : is_used (W.slots child) ≡ 1
  pub later : Later V W N N
  pub others : (q : ℕ) → q ≢ p → q ≢ child → W.slots q ≡ V.slots q
  pub names : (f : Name) → NoFile f doing → NoFile f to × NoFile f born
  pub files : W.files ≡ V.files
  pub rate : (x : Goal) → has W x + may L W N x to + may L W N x born ≤ has V x + may L V N x doing

-- what a call makes of it
pub data After (profile : Profile) (L : Sizes) (V W : View) (N : ℕ → ℕ) (p : ℕ) (doing : Doing) : Type 0 where
  goes : Goes profile L V W N p doing → After profile L V W N p doing
  splits : Splits profile L V W N p doing → After profile L V W N p doing

module _ (profile : Profile) (L : Sizes) (V W : View) (N : ℕ → ℕ) (p : ℕ) (next : W.next ≡ V.next + 1) where
  none_still : GivesNone V.next N → GivesNone W.next N
  none_still none i high = none i (omega (arith, high, next))

  -- only p's slot changes: it is in another phase
  moves : (phase to : Phase) (a b old x y z : Entry) (parent : ℕ) → Sets V W p (live parent (does profile to) 0 (has_open to x y z)) → Rest V W → IsFine profile V x y → IsOldPhase V.next to
      → ((f : Name) → NoPhase f phase → NoPhase f to) → ((g : Goal) → of_phase L V N g to x y ≤ of_phase L V N g phase a b) → After profile L V W N p (in_phase phase a b old)
  moves phase to a b old x y z parent sets rest fine known names less =
      let later = rest_later V W N next rest in
      goes (record {
        to = in_phase to x y z;
        is = (parent, sets.here, fine_still profile V W N N later x y fine, phase_still profile V W N N later to known);
        left = N;
        later = later;
        others = λ q ne. inl (sets.others q ne);
        zero = none_still;
        names = names;
        files = λ f absent none. ap (λ (F : FileMap). F f) rest.files ∙ none;
        rate = λ g. omega (arith, has_same V W rest.pipes rest.files g, phase_less L V W N N later g to x y fine.old_input fine.old_output known, less g);
      })

  -- it prints a message and exits, or exits
  pub ends : (doing : Doing) (parent : ℕ) (act : Act) (d : Fds) → Sets V W p (live parent act 0 d) → Rest V W → IsEnding profile act d → After profile L V W N p doing
  ends doing parent act d sets rest ending =
      goes (record {
        to = over;
        is = subst (IsOver profile) (sym sets.here) ending;
        left = N;
        later = rest_later V W N next rest;
        others = λ q ne. inl (sets.others q ne);
        zero = none_still;
        names = λ f absent. tt;
        files = λ f absent none. ap (λ (F : FileMap). F f) rest.files ∙ none;
        rate = λ g. omega (arith, has_same V W rest.pipes rest.files g);
      })

  pub exited : (doing : Doing) (parent : ℕ) → Exits V W p parent → After profile L V W N p doing
  exited doing parent e =
      goes (record {
        to = over;
        is = subst (IsOver profile) (sym e.here) tt;
        left = N;
        later = rest_later V W N next e.rest;
        others = λ q ne. inr (inl (e.others q ne));
        zero = none_still;
        names = λ f absent. tt;
        files = λ f absent none. ap (λ (F : FileMap). F f) e.rest.files ∙ none;
        rate = λ g. omega (arith, has_same V W e.rest.pipes e.rest.files g);
      })

  -- it waits: the child is gone, or there is none, or it sleeps
  waits : (phase to : Phase) (a b old : Entry) (parent : ℕ) (act : Act) (d : Fds) → WaitsFor V W p parent act d
      → live parent act 0 d ≡ live parent (does profile phase) 0 (has_open phase a b old) → answered parent act Done d ≡ live parent (does profile to) 0 (has_open to a b old) → IsEnding profile (act_of act.next Refused) d
      → IsFine profile V a b → IsOldPhase V.next phase → IsOldPhase V.next to → ((f : Name) → NoPhase f phase → NoPhase f to) → ((g : Goal) → of_phase L V N g to a b ≤ of_phase L V N g phase a b) → After profile L V W N p (in_phase phase a b old)
  waits phase to a b old parent act d (reaps r) same on ending fine known known_to names less =
      let later = rest_later V W N next r.rest in
      goes (record {
        to = in_phase to a b old;
        is = (parent, r.here ∙ on, fine_still profile V W N N later a b fine, phase_still profile V W N N later to known_to);
        left = N;
        later = later;
        others = kept r;
        zero = none_still;
        names = names;
        files = λ f absent none. ap (λ (F : FileMap). F f) r.rest.files ∙ none;
        rate = λ g. omega (arith, has_same V W r.rest.pipes r.rest.files g, phase_less L V W N N later g to a b fine.old_input fine.old_output known_to, less g);
      })
    where
      kept : Reaps V W p parent act d → (q : ℕ) → q ≢ p → Kept V W p q
      kept r q ne = by (cases_eq q r.child)
        where
          by : (q ≡ r.child) ⊎ (q ≢ r.child) → Kept V W p q
          by (inl is) = inr (inr (p, ap V.slots is ∙ r.was, ap W.slots is ∙ r.gone))
          by (inr other) = inl (r.others q ne other)
  waits phase to a b old parent act d (has_none none a') same on ending fine known known_to names less = ends (in_phase phase a b old) parent (act_of act.next Refused) d a'.slots a'.rest ending
  waits phase to a b old parent act d (sleeps child kid none sets rest asleep) same on ending fine known known_to names less =
      moves phase phase a b old a b old parent (subst (Sets V W p) same sets) rest fine known (λ n absent. absent) (λ g. omega arith)

  -- it forks
  forked : (phase : Phase) (a b old : Entry) (to born : Doing) (parent : ℕ) (act : Act) (d : Fds) → (f : Forks V W p parent act d) → Is profile W p to → Is profile W f.child born
      → ((n : Name) → NoPhase n phase → NoFile n to × NoFile n born) → ((g : Goal) → may L W N g to + may L W N g born ≤ of_phase L V N g phase a b) → After profile L V W N p (in_phase phase a b old)
  forked phase a b old to born parent act d f is born_is names less =
      splits (record {
        to = to;
        born = born;
        child = f.child;
        was_free = f.was_free;
        is = is;
        born_is = born_is;
        used = ap is_used f.child_is;
        later = rest_later V W N next f.rest;
        others = f.others;
        names = names;
        files = f.rest.files;
        rate = λ g. omega (arith, has_same V W f.rest.pipes f.rest.files g, less g);
      })

  module _ (ev : IsCall V W p) (a b old : Entry) (parent : ℕ) (fine : IsFine profile V a b) (none : GivesNone V.next N) where
    abbrev Afterwards : Phase → Type 0
    Afterwards phase = After profile L V W N p (in_phase phase a b old)

    abbrev Before : Phase → Type 0
    Before phase = V.slots p ≡ live parent (does profile phase) 0 (has_open phase a b old)

    effect : (phase : Phase) → Before phase → EffectBy V W p parent 0 (does profile phase) (has_open phase a b old) (does profile phase).call
    effect phase slot = effect_at V W p parent 0 (does profile phase) (has_open phase a b old) ev slot

    same_less : (phase : Phase) (g : Goal) → of_phase L V N g phase a b ≤ of_phase L V N g phase a b
    same_less phase g = omega arith

    fine_now : Rest V W → IsFine profile W a b
    fine_now rest = fine_still profile V W N N (rest_later V W N next rest) a b fine

    phase_now : Rest V W → (phase : Phase) (x y : Entry) → IsOld V.next x → IsOld V.next y → IsOldPhase V.next phase → (g : Goal) → of_phase L W N g phase x y ≤ of_phase L V N g phase x y
    phase_now rest phase x y oldx oldy known g = phase_less L V W N N (rest_later V W N next rest) g phase x y oldx oldy known

    -- ---- main

    lines_go : (lines : List ScriptLine) → Before (at_lines lines) → Afterwards (at_lines lines)
    lines_go [] slot = exited (in_phase (at_lines []) a b old) parent (effect (at_lines []) slot)
    lines_go (command tree ∷ later) slot =
        let f = effect (at_lines (command tree ∷ later)) slot in
        forked (at_lines (command tree ∷ later)) a b old (in_phase (waits_line (command tree ∷ later)) a b old) (in_phase (begins tree) a b old) parent _ _ f
        (parent, f.here, fine_now f.rest, tt) (p, f.child_is, fine_now f.rest, tt)
        (λ n absent. let w = both_absent n tree (script_tree later) absent in (w.1, w.0))
        (λ g. omega (arith, phase_now f.rest (waits_line (command tree ∷ later)) a b fine.old_input fine.old_output tt g, phase_now f.rest (begins tree) a b fine.old_input fine.old_output tt g))
    lines_go (bad fault text ∷ later) slot =
        let f = effect (at_lines (bad fault text ∷ later)) slot in
        forked (at_lines (bad fault text ∷ later)) a b old (in_phase (waits_line (bad fault text ∷ later)) a b old) over parent _ _ f
        (parent, f.here, fine_now f.rest, tt) (subst (IsOver profile) (sym f.child_is) (inr (block (fault_text fault text), refl, refl)))
        (λ n absent. (absent, tt))
        (λ g. omega (arith, phase_now f.rest (waits_line (bad fault text ∷ later)) a b fine.old_input fine.old_output tt g))
    lines_go (cd text ∷ later) slot =
        let f = effect (at_lines (cd text ∷ later)) slot in
        moves (at_lines (cd text ∷ later)) (at_lines later) a b old a b old parent f.slots f.rest fine tt (λ n absent. absent) (λ g. omega arith)

    waits_go : (lines : List ScriptLine) → Before (waits_line lines) → Afterwards (waits_line lines)
    waits_go lines slot = waits (waits_line lines) (at_lines (drop 1 lines)) a b old parent _ _ (effect (waits_line lines) slot) refl refl (inl refl) fine tt tt (λ n absent. absent) (λ g. omega arith)

    list_waits : (later : Tree) → Before (waits_list later) → Afterwards (waits_list later)
    list_waits later slot = waits (waits_list later) (begins later) a b old parent _ _ (effect (waits_list later) slot) refl refl (inl refl) fine tt tt (λ n absent. absent) (λ g. omega arith)

    -- ---- pipes

    fine_left : (i : ℕ) → i < V.next → IsFine profile V a (writer i)
    fine_left i made = record { can_read = fine.can_read; can_write = tt; to_read = fine.to_read; to_write = tt; old_input = fine.old_input; old_output = made }

    fine_right : (i : ℕ) → i < V.next → IsFine profile V (reader i) b
    fine_right i made = record { can_read = tt; can_write = fine.can_write; to_read = tt; to_write = fine.to_write; old_input = made; old_output = fine.old_output }

    left_forks : (left right : Tree) (i : ℕ) → i < V.next → Before (forks_left left right i) → Afterwards (forks_left left right i)
    left_forks left right i made slot =
        let f = effect (forks_left left right i) slot in
        let later = rest_later V W N next f.rest in
        forked (forks_left left right i) a b old (in_phase (forks_right right i) a b old) (in_phase (on_left closes_old left) a (writer i) b) parent _ _ f
        (parent, f.here, fine_now f.rest, omega (arith, made, next)) (p, f.child_is, fine_still profile V W N N later a (writer i) (fine_left i made), tt)
        (λ n absent. (absent.1, absent.0))
        (λ g. omega (arith, phase_now f.rest (forks_right right i) a b fine.old_input fine.old_output made g, phase_now f.rest (begins left) a (writer i) fine.old_input made tt g))

    right_forks : (right : Tree) (i : ℕ) → i < V.next → Before (forks_right right i) → Afterwards (forks_right right i)
    right_forks right i made slot =
        let f = effect (forks_right right i) slot in
        let later = rest_later V W N next f.rest in
        forked (forks_right right i) a b old (in_phase (has_forked closes_read i) a b old) (in_phase (on_right closes_old right) (reader i) b a) parent _ _ f
        (parent, f.here, fine_now f.rest, tt) (p, f.child_is, fine_still profile V W N N later (reader i) b (fine_right i made), tt)
        (λ n absent. (tt, absent))
        (λ g. omega (arith, phase_now f.rest (begins right) (reader i) b made fine.old_output tt g))

    has_forks : (stage : Stage) (i : ℕ) → Before (has_forked stage i) → Afterwards (has_forked stage i)
    has_forks closes_read i slot = let f = effect (has_forked closes_read i) slot in moves (has_forked closes_read i) (has_forked closes_write i) a b old a b old parent f.slots f.rest fine tt (λ n absent. absent) (λ g. omega arith)
    has_forks closes_write i slot = let f = effect (has_forked closes_write i) slot in moves (has_forked closes_write i) (has_forked waits_two i) a b old a b old parent f.slots f.rest fine tt (λ n absent. absent) (λ g. omega arith)
    has_forks waits_two i slot = waits (has_forked waits_two i) (has_forked waits_one i) a b old parent _ _ (effect (has_forked waits_two i) slot) refl refl (inl refl) fine tt tt (λ n absent. absent) (λ g. omega arith)
    has_forks waits_one i slot = waits (has_forked waits_one i) (has_forked leaves_pipe i) a b old parent _ _ (effect (has_forked waits_one i) slot) refl refl (inl refl) fine tt tt (λ n absent. absent) (λ g. omega arith)
    has_forks leaves_pipe i slot = exited (in_phase (has_forked leaves_pipe i) a b old) parent (effect (has_forked leaves_pipe i) slot)

    left_goes : (step : Step) (tree : Tree) → Before (on_left step tree) → Afterwards (on_left step tree)
    left_goes closes_old tree slot = let f = effect (on_left closes_old tree) slot in moves (on_left closes_old tree) (on_left dups_kept tree) a b old a b old parent f.slots f.rest fine tt (λ n absent. absent) (λ g. omega arith)
    left_goes dups_kept tree slot = let f = effect (on_left dups_kept tree) slot in moves (on_left dups_kept tree) (on_left drops_read tree) a b old a b old parent f.slots f.rest fine tt (λ n absent. absent) (λ g. omega arith)
    left_goes drops_read tree slot = let f = effect (on_left drops_read tree) slot in moves (on_left drops_read tree) (on_left drops_write tree) a b old a b old parent f.slots f.rest fine tt (λ n absent. absent) (λ g. omega arith)
    left_goes drops_write tree slot = let f = effect (on_left drops_write tree) slot in moves (on_left drops_write tree) (begins tree) a b old a b old parent f.slots f.rest fine tt (λ n absent. absent) (λ g. omega arith)

    right_goes : (step : Step) (tree : Tree) → Before (on_right step tree) → Afterwards (on_right step tree)
    right_goes closes_old tree slot = let f = effect (on_right closes_old tree) slot in moves (on_right closes_old tree) (on_right dups_kept tree) a b old a b old parent f.slots f.rest fine tt (λ n absent. absent) (λ g. omega arith)
    right_goes dups_kept tree slot = let f = effect (on_right dups_kept tree) slot in moves (on_right dups_kept tree) (on_right drops_read tree) a b old a b old parent f.slots f.rest fine tt (λ n absent. absent) (λ g. omega arith)
    right_goes drops_read tree slot = let f = effect (on_right drops_read tree) slot in moves (on_right drops_read tree) (on_right drops_write tree) a b old a b old parent f.slots f.rest fine tt (λ n absent. absent) (λ g. omega arith)
    right_goes drops_write tree slot = let f = effect (on_right drops_write tree) slot in moves (on_right drops_write tree) (begins tree) a b old a b old parent f.slots f.rest fine tt (λ n absent. absent) (λ g. omega arith)

    -- ---- what is begun

    run_goes : (name : Bytes) (arguments : List Bytes) → Before (begins (exec (name ∷ arguments))) → Afterwards (begins (exec (name ∷ arguments)))
    run_goes name arguments slot = by (program_of name) refl
      where
        by : (o : Option Program) → program_of name ≡ o → Afterwards (begins (exec (name ∷ arguments)))
        by None missing =
            let act : Act = shell_act profile (calls (Exec false) (unknown name)) in
            let here : V.slots p ≡ live parent act 0 (plain_fds a b) = slot ∙ ap (λ o. live parent (shell_act profile (execs_found (found_by o arguments) name)) 0 (plain_fds a b)) missing in
            let f : Answered V W p parent act Refused (plain_fds a b) = effect_at V W p parent 0 act (plain_fds a b) ev here in
            ends (in_phase (begins (exec (name ∷ arguments))) a b old) parent _ _ f.slots f.rest (inr (block (codes "exec " ++ (name ++ codes " failed\n")), refl, refl))
        by (Some which) some = goes (record {
          to = runs which arguments (turn state Done).call (turn state Done).next 0 d;
          is = record {
            parent = parent;
            slot = f.slots.here;
            a = a;
            b = b;
            input = refl;
            output = refl;
            messages = refl;
            fine = fine_now f.rest;
            above = λ fd x up at. absurd (let z : None ≡ Some x = sym (above_two a b fd up) ∙ at in let w : ⊥ = cc in w);
            opened = [];
            tame = λ replies. always_tame which arguments Done replies;
            asked = turn_asked state Done;
            high = λ fd among. absurd among;
            part = inl refl;
          };
          left = N;
          later = later;
          others = λ q ne. inl (f.slots.others q ne);
          zero = none_still;
          names = λ n absent. sym (ap (λ o. among (by_program files_written [] o arguments) n) some) ∙ absent;
          files = λ n absent none. ap (λ (F : FileMap). F n) f.rest.files ∙ none;
          rate = rate;
        })
          where
            state : State
            state = begins_program which arguments

            act : Act
            act = record { call = Exec true; next = program state }

            d : Fds
            d = plain_fds a b

            here : V.slots p ≡ live parent act 0 d
            here = slot ∙ ap (λ o. live parent (shell_act profile (execs_found (found_by o arguments) name)) 0 (plain_fds a b)) some

            f : Answered V W p parent act Done d
            f = effect_at V W p parent 0 act d ev here

            later : Later V W N N
            later = rest_later V W N next f.rest

            answers : Answers L V W N N d d state Done
            answers = record {
              zeroth = ahead_less L V W N N later a fine.old_input;
              nothing = λ is. refl;
              source = λ fd is. let z : ⊥ = cc in absurd z;
              opens = λ n fd is it. let z : ⊥ = cc in absurd z;
            }

            now : ℕ
            now = writes_left L W N (turn state Done).call (turn state Done).next 0 d

            was : ℕ
            was = later_bytes state (reads_left L V N d state)

            pays : now ≤ was
            pays = turn_pays state Done (reads_left L V N d state) (reads_left L W N d (turn state Done).next) (turn_reads L V W N N d d state Done answers)

            begun_is : program_bytes (program_of name) arguments (ahead L V N a) L ≡ was
            begun_is = ap (λ o. program_bytes o arguments (ahead L V N a) L) some

            written_is : (x : Goal) → (goes_to V x b || list_any (names_of x) (by_program files_written [] (program_of name) arguments)) ≡ (goes_to V x b || list_any (names_of x) (files_written which arguments))
            written_is x = ap (λ o. goes_to V x b || list_any (names_of x) (by_program files_written [] o arguments)) some

            rate : (x : Goal) → has W x + counted_if (goes_to W x b || list_any (names_of x) (files_written which arguments)) now + cap L N x ≤ has V x + of_tree L V N x a b (exec (name ∷ arguments)) + cap L N x
            rate x =
                omega (
                  arith,
                  has_same V W f.rest.pipes f.rest.files x,
                  ap (λ c. counted_if (c || list_any (names_of x) (files_written which arguments)) now) (goes_same L V W N N later x b fine.old_output),
                  counted_more (goes_to V x b || list_any (names_of x) (files_written which arguments)) now was pays,
                  ap (λ c. counted_if c (program_bytes (program_of name) arguments (ahead L V N a) L)) (written_is x),
                  ap (counted_if (goes_to V x b || list_any (names_of x) (files_written which arguments))) begun_is,
                )

    redir_begins : (mode : Mode) (name : Name) (body : Tree) → Before (begins (redir mode name body)) → Afterwards (begins (redir mode name body))
    redir_begins Input name body slot = let f = effect (begins (redir Input name body)) slot in moves (begins (redir Input name body)) (opens Input name body) a b old a b old parent f.slots f.rest fine tt (λ n absent. absent) (λ g. omega arith)
    redir_begins Fresh name body slot = let f = effect (begins (redir Fresh name body)) slot in moves (begins (redir Fresh name body)) (opens Fresh name body) a b old a b old parent f.slots f.rest fine tt (λ n absent. absent) (λ g. omega arith)
    redir_begins Over name body slot = let f = effect (begins (redir Over name body)) slot in moves (begins (redir Over name body)) (opens Over name body) a b old a b old parent f.slots f.rest fine tt (λ n absent. absent) (λ g. omega arith)

    list_begins : (left right : Tree) → Before (begins (list left right)) → Afterwards (begins (list left right))
    list_begins left right slot =
        let f = effect (begins (list left right)) slot in
        forked (begins (list left right)) a b old (in_phase (waits_list right) a b old) (in_phase (begins left) a b old) parent _ _ f
        (parent, f.here, fine_now f.rest, tt) (p, f.child_is, fine_now f.rest, tt)
        (λ n absent. let w = both_absent n left right absent in (w.1, w.0))
        (λ g. omega (arith, phase_now f.rest (waits_list right) a b fine.old_input fine.old_output tt g, phase_now f.rest (begins left) a b fine.old_input fine.old_output tt g))

    back_begins : (body : Tree) → Before (begins (back body)) → Afterwards (begins (back body))
    back_begins body slot =
        let f = effect (begins (back body)) slot in
        forked (begins (back body)) a b old over (in_phase (begins body) a b old) parent _ _ f
        (subst (IsOver profile) (sym f.here) (inl refl)) (p, f.child_is, fine_now f.rest, tt)
        (λ n absent. (tt, absent))
        (λ g. omega (arith, phase_now f.rest (begins body) a b fine.old_input fine.old_output tt g))

    -- the pipe is named by this event, and gives what the left side writes
    pipe_begins : (left right : Tree) → Before (begins (pipe left right)) → Afterwards (begins (pipe left right))
    pipe_begins left right slot = by f.read_fd f.write_fd f.read_end f.write_end f.slots
      where
        f : MakesPipe V W p parent (does profile (begins (pipe left right))) (plain_fds a b)
        f = effect (begins (pipe left right)) slot

        amount : ℕ
        amount = to_place no_names true left (ahead L V N a) L

        M : ℕ → ℕ
        M = put N V.next amount

        same_pipes : (i : ℕ) → i ≢ V.next → M i ≡ N i
        same_pipes i ne = put_there N V.next amount i ne

        later : Later V W N M
        later = record {
          pipes = λ i made. omega (arith, same_pipes i (λ same. absurd (omega (arith, same, made))));
          input = omega (arith, ap (length {A = ℕ}) f.others.input);
          name = λ e made. ap (λ (x : Place). x.name) (f.others.places e);
          mode = λ e made. ap (λ (x : Place). x.mode) (f.others.places e);
          at = λ e made. omega (arith, ap (λ (x : Place). x.at) (f.others.places e));
          next = omega (arith, next);
        }

        left_less : (x : Goal) (c : Bool) → to_place (names_of x) c left (ahead L W M a) L ≤ to_place (names_of x) c left (ahead L V N a) L
        left_less x c = place_more (names_of x) c left (ahead L W M a) (ahead L V N a) L (ahead_less L V W N M later a fine.old_input)

        gives : M V.next ≡ amount
        gives = put_here N V.next amount

        begun_right : Goal → Bool → ℕ
        begun_right x c = to_place (names_of x) c right (M V.next) L

        right_same : (x : Goal) → begun_right x (goes_to W x b) ≡ to_place (names_of x) (goes_to V x b) right amount L
        right_same x = ap (λ c. begun_right x c) (goes_same L V W N M later x b fine.old_output) ∙ ap (λ n. to_place (names_of x) (goes_to V x b) right n L) gives

        old_apart : (i : ℕ) (y : Entry) → V.next ≤ i → IsOld V.next y → goes_to V (a_pipe i) y ≡ false
        old_apart i input high known = refl
        old_apart i out high known = refl
        old_apart i diag high known = refl
        old_apart i (reader k) high known = refl
        old_apart i (writer k) high known = ne_eqb i k (λ same. absurd (omega (arith, same, high, known)))
        old_apart i (file e) high known = refl

        new_rate : length (W.pipes V.next) + (of_tree L W M (a_pipe V.next) a (writer V.next) left + of_tree L W M (a_pipe V.next) (reader V.next) b right) + N V.next ≤ length (V.pipes V.next) + of_tree L V N (a_pipe V.next) a b (pipe left right) + M V.next
        new_rate =
            omega (
              arith,
              ap (length {A = ℕ}) f.empty,
              ap (λ c. to_place no_names c left (ahead L W M a) L) (eq-eqb V.next V.next refl),
              left_less (a_pipe V.next) true,
              ap (λ c. to_place no_names c right (M V.next) L) (goes_same L V W N M later (a_pipe V.next) b fine.old_output ∙ old_apart V.next b (omega arith) fine.old_output),
              none_place right (M V.next) L,
              none V.next (omega arith),
              gives,
            )

        rate : (x : Goal) → has W x + (of_tree L W M x a (writer V.next) left + of_tree L W M x (reader V.next) b right) + cap L N x ≤ has V x + of_tree L V N x a b (pipe left right) + cap L M x
        rate (a_file n) =
            omega (
              arith,
              ap (λ (F : FileMap). sizes F n) f.others.files,
              left_less (a_file n) false,
              right_same (a_file n),
            )
        rate (a_pipe j) = at_pipe (cases_eq j V.next)
          where
            at_pipe : (j ≡ V.next) ⊎ (j ≢ V.next) → length (W.pipes j) + (of_tree L W M (a_pipe j) a (writer V.next) left + of_tree L W M (a_pipe j) (reader V.next) b right) + N j ≤ length (V.pipes j) + of_tree L V N (a_pipe j) a b (pipe left right) + M j
            at_pipe (inl same) = subst (λ j. length (W.pipes j) + (of_tree L W M (a_pipe j) a (writer V.next) left + of_tree L W M (a_pipe j) (reader V.next) b right) + N j ≤ length (V.pipes j) + of_tree L V N (a_pipe j) a b (pipe left right) + M j) (sym same) new_rate
            at_pipe (inr ne) =
                omega (
                  arith,
                  ap (length {A = ℕ}) (f.others.pipes j ne),
                  ap (λ c. to_place no_names c left (ahead L W M a) L) (ne_eqb j V.next ne),
                  left_less (a_pipe j) false,
                  right_same (a_pipe j),
                  same_pipes j ne,
                )

        made : Sets V W p (answered parent (does profile (begins (pipe left right))) (Ends 3 4) (pipe_fds a b V.next)) → Afterwards (begins (pipe left right))
        made sets = goes (record {
          to = in_phase (forks_left left right V.next) a b old;
          is = (parent, sets.here, fine_still profile V W N M later a b fine, omega (arith, next));
          left = M;
          later = later;
          others = λ q ne. inl (sets.others q ne);
          zero = λ gives_none i high. omega (arith, same_pipes i (λ same. absurd (omega (arith, same, high, next))), gives_none i (omega (arith, high, next)));
          names = λ n absent. both_absent n left right absent;
          files = λ n absent gone. ap (λ (F : FileMap). F n) f.others.files ∙ gone;
          rate = rate;
        })

        by : (r w : ℕ) → lowest (plain_fds a b) ≡ Some r → lowest (slice_set (plain_fds a b) r (Some (reader V.next))) ≡ Some w → Sets V W p (answered parent (does profile (begins (pipe left right))) (Ends r w) (slice_set (slice_set (plain_fds a b) r (Some (reader V.next))) w (Some (writer V.next)))) → Afterwards (begins (pipe left right))
        by r w first second sets = at_four (subst (λ r. lowest (slice_set (plain_fds a b) r (Some (reader V.next))) ≡ Some w) (sym three) second) (subst (λ r. Sets V W p (answered parent (does profile (begins (pipe left right))) (Ends r w) (slice_set (slice_set (plain_fds a b) r (Some (reader V.next))) w (Some (writer V.next))))) (sym three) sets)
          where
            three : 3 ≡ r
            three = let z : Some 3 ≡ Some r = first in cc

            at_four : lowest (slice_set (plain_fds a b) 3 (Some (reader V.next))) ≡ Some w → Sets V W p (answered parent (does profile (begins (pipe left right))) (Ends 3 w) (slice_set (slice_set (plain_fds a b) 3 (Some (reader V.next))) w (Some (writer V.next)))) → Afterwards (begins (pipe left right))
            at_four second sets = made (subst (λ w. Sets V W p (answered parent (does profile (begins (pipe left right))) (Ends 3 w) (slice_set (slice_set (plain_fds a b) 3 (Some (reader V.next))) w (Some (writer V.next))))) (sym four) sets)
              where
                four : 4 ≡ w
                four = let z : Some 4 ≡ Some w = second in cc

    -- ---- redirections

    module _ (name : Name) (body : Tree) where
      young : (k : ℕ) → k < V.next → k ≢ V.next
      young k less same = absurd (omega (arith, less, same))

      cant : (mode : Mode) → Answered V W p parent (does profile (opens mode name body)) Refused (has_open (opens mode name body) a b old) → fd_at (has_open (opens mode name body) a b old) 2 ≡ Some diag → Afterwards (opens mode name body)
      cant mode f two = ends (in_phase (opens mode name body) a b old) parent _ _ f.slots f.rest (inr (block (codes "open " ++ (name ++ codes " failed\n")), refl, two))

      -- for reading
      read_opened : Opens V W p parent (does profile (opens Input name body)) (has_open (opens Input name body) a b old) name ToRead V.files → Afterwards (opens Input name body)
      read_opened o = by o.fd o.place o.slots
        where
          later : Later V W N N
          later = new_later V W N next _ V.files o.entry

          fine_w : IsFine profile W a b
          fine_w = fine_still profile V W N N later a b fine

          rate : (g : Goal) → has W g + of_tree L W N g (file V.next) b body + cap L N g ≤ has V g + of_phase L V N g (opens Input name body) a b + cap L N g
          rate g =
              omega (
                arith,
                has_same V W o.entry.pipes o.entry.files g,
                ap (λ c. to_place (names_of g) c body (ahead L W N (file V.next)) L) (goes_same L V W N N later g b fine.old_output),
                place_more (names_of g) (goes_to V g b) body (ahead L W N (file V.next)) (L name) L (omega (arith, ap (λ (x : Place). L x.name) o.entry.place)),
              )

          by : (fd : ℕ) → lowest (has_open (opens Input name body) a b old) ≡ Some fd → Sets V W p (answered parent (does profile (opens Input name body)) (Fd fd) (slice_set (has_open (opens Input name body) a b old) fd (Some (file V.next)))) → Afterwards (opens Input name body)
          by fd low sets =
              let here : 0 ≡ fd = let z : Some 0 ≡ Some fd = low in cc in
              let now = subst (λ n. Sets V W p (answered parent (does profile (opens Input name body)) (Fd n) (slice_set (has_open (opens Input name body) a b old) n (Some (file V.next))))) (sym here) sets in
              goes (record {
                to = in_phase (begins body) (file V.next) b old;
                is = (
                  parent,
                  now.here,
                  record { can_read = tt; can_write = fine_w.can_write; to_read = ap (λ (x : Place). x.mode) o.entry.place; to_write = fine_w.to_write; old_input = omega (arith, next); old_output = fine_w.old_output },
                  tt,
                );
                left = N;
                later = later;
                others = λ q ne. inl (now.others q ne);
                zero = none_still;
                names = λ n absent. absent;
                files = λ n absent gone. ap (λ (F : FileMap). F n) o.entry.files ∙ gone;
                rate = rate;
              })

      -- for writing
      write_opened : (mode : Mode) (way : CallMode) (F : FileMap) → OpensOutput profile way → ((f : Name) → sizes F f ≤ sizes V.files f) → ((f : Name) → bytes_eq f name ≡ false → V.files f ≡ None → F f ≡ None) → ((f : Name) → NoName f (redir mode name body) → (bytes_eq f name ≡ false) × NoName f body)
          → has_open (opens mode name body) a b old ≡ fds (Some a) None None None → act_of (does profile (opens mode name body)).next (Fd 1) ≡ does profile (begins body)
          → ((g : Goal) → to_place (names_of g) (names_of g name) body (ahead L V N a) L ≤ of_phase L V N g (opens mode name body) a b)
          → Opens V W p parent (does profile (opens mode name body)) (has_open (opens mode name body) a b old) name way F → Afterwards (opens mode name body)
      write_opened mode way F ok smaller absent parts open_fds runs_body less o = by o.fd (ap lowest (sym open_fds) ∙ o.place) (subst (λ d. Sets V W p (answered parent (does profile (opens mode name body)) (Fd o.fd) (slice_set d o.fd (Some (file V.next))))) open_fds o.slots)
        where
          later : Later V W N N
          later = new_later V W N next _ F o.entry

          fine_w : IsFine profile W a b
          fine_w = fine_still profile V W N N later a b fine

          goes_there : (g : Goal) → goes_to W g (file V.next) ≡ names_of g name
          goes_there (a_pipe i) = refl
          goes_there (a_file f) = ap (λ (x : Place). bytes_eq f x.name) o.entry.place

          has_less : (g : Goal) → has W g ≤ has V g
          has_less (a_pipe i) = omega (arith, ap (length {A = ℕ}) (o.entry.pipes i))
          has_less (a_file f) = omega (arith, ap (λ (G : FileMap). sizes G f) o.entry.files, smaller f)

          rate : (g : Goal) → has W g + of_tree L W N g a (file V.next) body + cap L N g ≤ has V g + of_phase L V N g (opens mode name body) a b + cap L N g
          rate g =
              omega (
                arith,
                has_less g,
                ap (λ c. to_place (names_of g) c body (ahead L W N a) L) (goes_there g),
                place_more (names_of g) (names_of g name) body (ahead L W N a) (ahead L V N a) L (ahead_less L V W N N later a fine.old_input),
                less g,
              )

          by : (fd : ℕ) → lowest (fds (Some a) None None None) ≡ Some fd → Sets V W p (answered parent (does profile (opens mode name body)) (Fd fd) (slice_set (fds (Some a) None None None) fd (Some (file V.next)))) → Afterwards (opens mode name body)
          by fd low sets =
              let here : 1 ≡ fd = let z : Some 1 ≡ Some fd = low in cc in
              let now = subst (λ n. Sets V W p (answered parent (does profile (opens mode name body)) (Fd n) (slice_set (fds (Some a) None None None) n (Some (file V.next))))) (sym here) sets in
              goes (record {
                to = in_phase (begins body) a (file V.next) old;
                is = (
                  parent,
                  now.here ∙ ap (λ act. live parent act 0 (plain_fds a (file V.next))) runs_body,
                  record {
                    can_read = fine_w.can_read;
                    can_write = tt;
                    to_read = fine_w.to_read;
                    to_write = subst (OpensOutput profile) (sym (ap (λ (x : Place). x.mode) o.entry.place)) ok;
                    old_input = fine_w.old_input;
                    old_output = omega (arith, next);
                  },
                  tt,
                );
                left = N;
                later = later;
                others = λ q ne. inl (now.others q ne);
                zero = none_still;
                names = λ n written. (parts n written).1;
                files = λ n written gone. ap (λ (G : FileMap). G n) o.entry.files ∙ absent n (parts n written).0 gone;
                rate = rate;
              })

      emptied : (F : FileMap) (f : Name) → sizes (with_file F name []) f ≤ sizes F f
      emptied F f = by (bytes_eq f name)
        where
          by : (c : Bool) → length (bytes_of (if c then Some [] else F f)) ≤ sizes F f
          by true = omega arith
          by false = omega arith

      emptied_absent : (F : FileMap) (f : Name) → bytes_eq f name ≡ false → F f ≡ None → with_file F name [] f ≡ None
      emptied_absent F f other gone = ap (λ (c : Bool). if c then Some [] else F f) other ∙ gone

      kept_absent : (F : FileMap) (o : Option Bytes) (f : Name) → bytes_eq f name ≡ false → F f ≡ None → files_kept F name o f ≡ None
      kept_absent F None f other gone = emptied_absent F f other gone
      kept_absent F (Some bytes) f other gone = gone

      kept_less : (F : FileMap) (o : Option Bytes) (f : Name) → sizes (files_kept F name o) f ≤ sizes F f
      kept_less F None f = emptied F f
      kept_less F (Some bytes) f = omega arith

      -- the effect of the open, for a name that can be opened, and for one that can't
      good_effect : (mode : Mode) (way : CallMode) → is_openable name ≡ true → OpensNamed V W p parent (does profile (opens mode name body)) (has_open (opens mode name body) a b old) (block name) way (is_openable (block name)) → OpensBy V W p parent (does profile (opens mode name body)) (has_open (opens mode name body) a b old) name way (files_opened V.files name way)
      good_effect mode way good f =
          subst (λ n. OpensBy V W p parent (does profile (opens mode name body)) (has_open (opens mode name body) a b old) n way (files_opened V.files n way)) (whole name good)
          (subst (OpensNamed V W p parent (does profile (opens mode name body)) (has_open (opens mode name body) a b old) (block name) way) (same_openable name ∙ good) f)

      bad_effect : (mode : Mode) (way : CallMode) → is_openable name ≡ false → OpensNamed V W p parent (does profile (opens mode name body)) (has_open (opens mode name body) a b old) (block name) way (is_openable (block name)) → Answered V W p parent (does profile (opens mode name body)) Refused (has_open (opens mode name body) a b old)
      bad_effect mode way closed f = subst (OpensNamed V W p parent (does profile (opens mode name body)) (has_open (opens mode name body) a b old) (block name) way) (same_openable name ∙ closed) f

      input_opens : Before (opens Input name body) → Afterwards (opens Input name body)
      input_opens slot = by (is_openable name) refl
        where
          there : (o : Option Bytes) → OpensBy V W p parent (does profile (opens Input name body)) (has_open (opens Input name body) a b old) name ToRead (files_read V.files o) → Afterwards (opens Input name body)
          there None f = cant Input f refl
          there (Some bytes) f = read_opened f

          by : (c : Bool) → is_openable name ≡ c → Afterwards (opens Input name body)
          by true good = there (V.files name) (good_effect Input ToRead good (effect (opens Input name body) slot))
          by false closed = cant Input (bad_effect Input ToRead closed (effect (opens Input name body) slot)) refl

      fresh_opens : Before (opens Fresh name body) → Afterwards (opens Fresh name body)
      fresh_opens slot = by (is_openable name) refl
        where
          ok : (q : Profile) → OpensOutput q ToFresh
          ok Xv6 = tt
          ok AppendAll = tt

          by : (c : Bool) → is_openable name ≡ c → Afterwards (opens Fresh name body)
          by true good = write_opened Fresh ToFresh (with_file V.files name []) (ok profile) (emptied V.files) (emptied_absent V.files) (λ n absent. none_either (bytes_eq n name) (among (names_written body) n) absent) refl refl (λ g. omega arith) (good_effect Fresh ToFresh good (effect (opens Fresh name body) slot))
          by false closed = cant Fresh (bad_effect Fresh ToFresh closed (effect (opens Fresh name body) slot)) refl

-- `>>`, whose mode is the profile's
module _ (L : Sizes) (V W : View) (N : ℕ → ℕ) (p : ℕ) (next : W.next ≡ V.next + 1) (ev : IsCall V W p) (a b old : Entry) (parent : ℕ) (none : GivesNone V.next N) where
  over_opens : (name : Name) (body : Tree) (profile : Profile) → IsFine profile V a b → V.slots p ≡ live parent (does profile (opens Over name body)) 0 (has_open (opens Over name body) a b old) → After profile L V W N p (in_phase (opens Over name body) a b old)
  over_opens name body Xv6 fine slot = by (is_openable name) refl
    where
      by : (c : Bool) → is_openable name ≡ c → After Xv6 L V W N p (in_phase (opens Over name body) a b old)
      by true good = write_opened Xv6 L V W N p next ev a b old parent fine none name body Over ToOver (files_kept V.files name (V.files name)) tt (kept_less Xv6 L V W N p next ev a b old parent fine none name body V.files (V.files name)) (kept_absent Xv6 L V W N p next ev a b old parent fine none name body V.files (V.files name)) (λ n absent. none_either (bytes_eq n name) (among (names_written body) n) absent) refl refl (λ g. omega arith) (good_effect Xv6 L V W N p next ev a b old parent fine none name body Over ToOver good (effect Xv6 L V W N p next ev a b old parent fine none (opens Over name body) slot))
      by false closed = cant Xv6 L V W N p next ev a b old parent fine none name body Over (bad_effect Xv6 L V W N p next ev a b old parent fine none name body Over ToOver closed (effect Xv6 L V W N p next ev a b old parent fine none (opens Over name body) slot)) refl
  over_opens name body AppendAll fine slot = by (is_openable name) refl
    where
      by : (c : Bool) → is_openable name ≡ c → After AppendAll L V W N p (in_phase (opens Over name body) a b old)
      by true good = write_opened AppendAll L V W N p next ev a b old parent fine none name body Over ToAppend (files_kept V.files name (V.files name)) tt (kept_less AppendAll L V W N p next ev a b old parent fine none name body V.files (V.files name)) (kept_absent AppendAll L V W N p next ev a b old parent fine none name body V.files (V.files name)) (λ n absent. none_either (bytes_eq n name) (among (names_written body) n) absent) refl refl (λ g. omega arith) (good_effect AppendAll L V W N p next ev a b old parent fine none name body Over ToAppend good (effect AppendAll L V W N p next ev a b old parent fine none (opens Over name body) slot))
      by false closed = cant AppendAll L V W N p next ev a b old parent fine none name body Over (bad_effect AppendAll L V W N p next ev a b old parent fine none name body Over ToAppend closed (effect AppendAll L V W N p next ev a b old parent fine none (opens Over name body) slot)) refl

  -- ---- any phase
  module _ (profile : Profile) (fine : IsFine profile V a b) where
    pub shell_goes : (phase : Phase) → IsOldPhase V.next phase → V.slots p ≡ live parent (does profile phase) 0 (has_open phase a b old) → After profile L V W N p (in_phase phase a b old)
    shell_goes (at_lines lines) known slot = lines_go profile L V W N p next ev a b old parent fine none lines slot
    shell_goes (waits_line lines) known slot = waits_go profile L V W N p next ev a b old parent fine none lines slot
    shell_goes (begins (exec [])) known slot = exited profile L V W N p next (in_phase (begins (exec [])) a b old) parent (effect profile L V W N p next ev a b old parent fine none (begins (exec [])) slot)
    shell_goes (begins (exec (name ∷ arguments))) known slot = run_goes profile L V W N p next ev a b old parent fine none name arguments slot
    shell_goes (begins (redir mode name body)) known slot = redir_begins profile L V W N p next ev a b old parent fine none mode name body slot
    shell_goes (begins (pipe left right)) known slot = pipe_begins profile L V W N p next ev a b old parent fine none left right slot
    shell_goes (begins (list left right)) known slot = list_begins profile L V W N p next ev a b old parent fine none left right slot
    shell_goes (begins (back body)) known slot = back_begins profile L V W N p next ev a b old parent fine none body slot
    shell_goes (opens Input name body) known slot = input_opens profile L V W N p next ev a b old parent fine none name body slot
    shell_goes (opens Fresh name body) known slot = fresh_opens profile L V W N p next ev a b old parent fine none name body slot
    shell_goes (opens Over name body) known slot = over_opens name body profile fine slot
    shell_goes (waits_list later) known slot = list_waits profile L V W N p next ev a b old parent fine none later slot
    shell_goes (forks_left left right i) known slot = left_forks profile L V W N p next ev a b old parent fine none left right i known slot
    shell_goes (forks_right right i) known slot = right_forks profile L V W N p next ev a b old parent fine none right i known slot
    shell_goes (has_forked stage i) known slot = has_forks profile L V W N p next ev a b old parent fine none stage i slot
    shell_goes (on_left step tree) known slot = left_goes profile L V W N p next ev a b old parent fine none step tree slot
    shell_goes (on_right step tree) known slot = right_goes profile L V W N p next ev a b old parent fine none step tree slot
