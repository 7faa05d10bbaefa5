-- Once something was read, nobody has more to read, and so nobody more to write.
use Rattle.std.proofs.Common.{◌≡◌, ◌⊎◌, inl, inr, ℕ, zero, suc, ◌<◌, ◌≤◌, Bool, true, false, List, length, drop, Option, Some, None, refl, sym, ap, ◌∙◌, subst, arith}
use Rattle.std.specs.Prelude.{◌||◌}
use Rattle.std.specs.List.{list_any}
use Rattle.std.specs.Str.{bytes_eq}
use Rattle.sh_tree.specs.Tree.{Tree}
use Rattle.mem_files.specs.Name.{Name, Bytes}
use Rattle.prog_parts.specs.declared.program.Program.{Program}
use Rattle.prog_parts.specs.Words.{files_written}
use Rattle.script_load.specs.declared.profile.Profile.{Profile}
use Rattle.meaning_model.specs.Meaning.{script_tree}
use Rattle.user_calls.specs.declared.calls.Call.{Call}
use Rattle.user_calls.specs.declared.calls.Mode.TheVariants.{Input as ToRead}
use Rattle.user_progs.specs.State.{Source, standard, file as file_at, State, begins, echo_word, echo_space, opens, works, closes, tees, told, ended}
use Rattle.tree_model.specs.Ahead.{still_uses}
use Rattle.tree_model.specs.FilesAhead.{Sizes}
use Rattle.tree_model.specs.Bound.{input_ahead}
use Rattle.process_model.specs.Seen.{Entry, input, out, diag, reader, writer, file, Fds, fd_at, View}
use Rattle.process_model.specs.Shape.{OpensOutput}
use Rattle.process_model.specs.Phases.{Phase, at_lines, waits_line, begins as begins_tree, opens as opens_redir, waits_list, forks_left, forks_right, has_forked, on_left, on_right}
use Rattle.process_model.specs.Part.{OpenedToRead, OpenedToWrite}
use Rattle.law_trees.proofs.tree_ends.TurnBytes.{later_more}
use Rattle.room_model.specs.Place.{counted_if, output_under, to_place}
use Rattle.law_limits.proofs.sizes.More.{counted_more, input_under_more, place_more, input_more}
use Rattle.law_limits.proofs.sizes.Doings.{Goal, a_pipe, a_file, names_of, goes_to, goes_by, IsOld, Doing, over, in_phase, runs, IsFine, IsOldPhase, IsOwnFile, ahead, ahead_by, of_tree, of_phase, of_source, of_files, reads_left, writes_left, writes_to, may, IsRun, Is}

-- W comes later than V: where N and M are what each pipe may still give
pub record Later (V W : View) (N M : ℕ → ℕ) : Type 0 where
  pub pipes : (i : ℕ) → i < V.next → M i ≤ N i
  pub input : length W.input ≤ length V.input
  pub name : (e : ℕ) → e < V.next → (W.places e).name ≡ (V.places e).name
  pub mode : (e : ℕ) → e < V.next → (W.places e).mode ≡ (V.places e).mode
  pub at : (e : ℕ) → e < V.next → (V.places e).at ≤ (W.places e).at
  pub next : V.next ≤ W.next

module _ (L : Sizes) (V W : View) (N M : ℕ → ℕ) (later : Later V W N M) where
  pub ahead_less : (x : Entry) → IsOld V.next x → ahead L W M x ≤ ahead L V N x
  ahead_less input old = later.input
  ahead_less out old = omega arith
  ahead_less diag old = omega arith
  ahead_less (reader i) old = later.pipes i old
  ahead_less (writer i) old = omega arith
  ahead_less (file e) old = omega (arith, ap L (later.name e old), later.at e old)

  pub goes_same : (x : Goal) (b : Entry) → IsOld V.next b → goes_to W x b ≡ goes_to V x b
  goes_same (a_pipe i) b old = refl
  goes_same (a_file f) input old = refl
  goes_same (a_file f) out old = refl
  goes_same (a_file f) diag old = refl
  goes_same (a_file f) (reader i) old = refl
  goes_same (a_file f) (writer i) old = refl
  goes_same (a_file f) (file e) old = ap (bytes_eq f) (later.name e old)

  -- a command with this input and this output
  pub tree_less : (x : Goal) (a b : Entry) (tree : Tree) → IsOld V.next a → IsOld V.next b → of_tree L W M x a b tree ≤ of_tree L V N x a b tree
  tree_less x a b tree olda oldb =
      omega (arith, ap (λ c. to_place (names_of x) c tree (ahead L W M a) L) (goes_same x b oldb), place_more (names_of x) (goes_to V x b) tree (ahead L W M a) (ahead L V N a) L (ahead_less a olda))

  pub phase_less : (x : Goal) (phase : Phase) (a b : Entry) → IsOld V.next a → IsOld V.next b → IsOldPhase V.next phase → of_phase L W M x phase a b ≤ of_phase L V N x phase a b
  phase_less x (at_lines lines) a b olda oldb old = tree_less x a b (script_tree lines) olda oldb
  phase_less x (waits_line lines) a b olda oldb old = tree_less x a b (script_tree (drop 1 lines)) olda oldb
  phase_less x (begins_tree tree) a b olda oldb old = tree_less x a b tree olda oldb
  phase_less x (opens_redir mode name body) a b olda oldb old =
      omega (
        arith,
        ap (λ c. to_place (names_of x) (output_under (names_of x) mode name c) body (Rattle.tree_model.specs.Bound.input_under mode (ahead L W M a) (L name)) L) (goes_same x b oldb),
        place_more (names_of x) (output_under (names_of x) mode name (goes_to V x b)) body _ _ L (input_under_more mode (ahead L W M a) (ahead L V N a) (L name) (ahead_less a olda)),
      )
  phase_less x (waits_list later) a b olda oldb old = tree_less x a b later olda oldb
  phase_less x (forks_left left right i) a b olda oldb old = omega (arith, tree_less x a (writer i) left olda old, tree_less x (reader i) b right old oldb)
  phase_less x (forks_right right i) a b olda oldb old = tree_less x (reader i) b right old oldb
  phase_less x (has_forked stage i) a b olda oldb old = omega arith
  phase_less x (on_left step tree) a b olda oldb old = tree_less x a b tree olda oldb
  phase_less x (on_right step tree) a b olda oldb old = tree_less x a b tree olda oldb

  -- a program
  abbrev pub AllOld : Fds → Type 0
  AllOld d = (fd : ℕ) (x : Entry) → fd_at d fd ≡ Some x → IsOld V.next x

  pub by_less : (o : Option Entry) → ((x : Entry) → o ≡ Some x → IsOld V.next x) → ahead_by L W M o ≤ ahead_by L V N o
  by_less None old = omega arith
  by_less (Some x) old = ahead_less x (old x refl)

  source_less : (d : Fds) (source : Source) → AllOld d → of_source L W M d source ≤ of_source L V N d source
  source_less d standard old = omega arith
  source_less d (file_at fd name more) old = omega (arith, by_less (fd_at d fd) (λ x is. old fd x is))

  files_less : (d : Fds) (state : State) → AllOld d → of_files L W M d state ≤ of_files L V N d state
  files_less d (begins which arguments) old = omega arith
  files_less d (echo_word more) old = omega arith
  files_less d (echo_space more) old = omega arith
  files_less d (opens filter name more) old = omega arith
  files_less d (works work source) old = source_less d source old
  files_less d (closes filter more) old = omega arith
  files_less d (tees tee) old = omega arith
  files_less d told old = omega arith
  files_less d ended old = omega arith

  reads_less : (d : Fds) (state : State) → AllOld d → reads_left L W M d state ≤ reads_left L V N d state
  reads_less d state old = omega (arith, input_more (still_uses state) _ _ (by_less (fd_at d 0) (λ x is. old 0 x is)), files_less d state old)

  pub writes_less : (call : Call) (state : State) (put : ℕ) (d : Fds) → AllOld d → writes_left L W M call state put d ≤ writes_left L V N call state put d
  writes_less call state put d old = omega (arith, later_more state (reads_left L V N d state) (reads_left L W M d state) (reads_less d state old))

  pub by_same : (x : Goal) (o : Option Entry) → ((y : Entry) → o ≡ Some y → IsOld V.next y) → goes_by W x o ≡ goes_by V x o
  by_same x None old = refl
  by_same x (Some y) old = goes_same x y (old y refl)

  pub to_same : (x : Goal) (which : Program) (arguments : List Bytes) (d : Fds) → AllOld d → writes_to L W M x which arguments d ≡ writes_to L V N x which arguments d
  to_same x which arguments d old = ap (λ c. c || list_any (names_of x) (files_written which arguments)) (by_same x (fd_at d 1) (λ y is. old 1 y is))

  run_less : (x : Goal) (which : Program) (arguments : List Bytes) (call : Call) (state : State) (put : ℕ) (d : Fds) → AllOld d → may L W M x (runs which arguments call state put d) ≤ may L V N x (runs which arguments call state put d)
  run_less x which arguments call state put d old =
      omega (
        arith,
        ap (λ c. counted_if c (writes_left L W M call state put d)) (to_same x which arguments d old),
        counted_more (writes_to L V N x which arguments d) _ _ (writes_less call state put d old),
      )

  module _ (profile : Profile) where
    -- all that a program has open is older than the next event
    pub run_old : (p : ℕ) (which : Program) (arguments : List Bytes) (call : Call) (state : State) (put : ℕ) (d : Fds) → IsRun profile V p which arguments call state put d → AllOld d
    run_old p which arguments call state put d r = go
      where
        some_same : (x y : Entry) → Some x ≡ Some y → x ≡ y
        some_same x y same = cc

        go : (fd : ℕ) (x : Entry) → fd_at d fd ≡ Some x → IsOld V.next x
        go zero x is = subst (IsOld V.next) (some_same r.a x (sym r.input ∙ is)) r.fine.old_input
        go (suc zero) x is = subst (IsOld V.next) (some_same r.b x (sym r.output ∙ is)) r.fine.old_output
        go (suc (suc zero)) x is = subst (IsOld V.next) (some_same diag x (sym r.messages ∙ is)) tt
        go (suc (suc (suc fd))) x is = let own = r.above (suc (suc (suc fd))) x (omega arith) is in subst (IsOld V.next) (sym own.is) own.old

    pub may_less : (x : Goal) (p : ℕ) (doing : Doing) → Is profile V p doing → may L W M x doing ≤ may L V N x doing
    may_less x p over is = omega arith
    may_less x p (in_phase phase a b old) (parent, slot, fine, known) = phase_less x phase a b fine.old_input fine.old_output known
    may_less x p (runs which arguments call state put d) r = run_less x which arguments call state put d (run_old p which arguments call state put d r)

-- ---- a process stays what it is

module _ (profile : Profile) (V W : View) (N M : ℕ → ℕ) (later : Later V W N M) where
  old_still : (x : Entry) → IsOld V.next x → IsOld W.next x
  old_still input old = tt
  old_still out old = tt
  old_still diag old = tt
  old_still (reader i) old = omega (arith, old, later.next)
  old_still (writer i) old = omega (arith, old, later.next)
  old_still (file e) old = omega (arith, old, later.next)

  read_still : (a : Entry) → IsOld V.next a → OpenedToRead V a → OpenedToRead W a
  read_still input old ok = tt
  read_still out old ok = tt
  read_still diag old ok = tt
  read_still (reader i) old ok = tt
  read_still (writer i) old ok = tt
  read_still (file e) old ok = later.mode e old ∙ ok

  write_still : (b : Entry) → IsOld V.next b → OpenedToWrite profile V b → OpenedToWrite profile W b
  write_still input old ok = tt
  write_still out old ok = tt
  write_still diag old ok = tt
  write_still (reader i) old ok = tt
  write_still (writer i) old ok = tt
  write_still (file e) old ok = subst (OpensOutput profile) (sym (later.mode e old)) ok

  pub fine_still : (a b : Entry) → IsFine profile V a b → IsFine profile W a b
  fine_still a b fine = record {
    can_read = fine.can_read;
    can_write = fine.can_write;
    to_read = read_still a fine.old_input fine.to_read;
    to_write = write_still b fine.old_output fine.to_write;
    old_input = old_still a fine.old_input;
    old_output = old_still b fine.old_output;
  }

  pub phase_still : (phase : Phase) → IsOldPhase V.next phase → IsOldPhase W.next phase
  phase_still (at_lines lines) old = tt
  phase_still (waits_line lines) old = tt
  phase_still (begins_tree tree) old = tt
  phase_still (opens_redir mode name body) old = tt
  phase_still (waits_list more) old = tt
  phase_still (forks_left left right i) old = omega (arith, old, later.next)
  phase_still (forks_right right i) old = omega (arith, old, later.next)
  phase_still (has_forked stage i) old = tt
  phase_still (on_left step tree) old = tt
  phase_still (on_right step tree) old = tt

  pub own_still : (written : Name → Bool) (x : Entry) → IsOwnFile V written x → IsOwnFile W written x
  own_still written x own = record { entry = own.entry; is = own.is; old = omega (arith, own.old, later.next); named = by own.named }
    where
      by : ((V.places own.entry).mode ≡ ToRead) ⊎ (written (V.places own.entry).name ≡ true) → ((W.places own.entry).mode ≡ ToRead) ⊎ (written (W.places own.entry).name ≡ true)
      by (inl read) = inl (later.mode own.entry own.old ∙ read)
      by (inr named) = inr (ap written (later.name own.entry own.old) ∙ named)
