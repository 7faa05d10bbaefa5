-- A process of the shell that begins a command: what its first call does to its place.
use Rattle.std.proofs.Common.{◌≡◌, ◌≢◌, inl, ℕ, zero, suc, ◌<◌, ◌≤◌, List, [], ◌∷◌, Option, Some, None, true, false, arith, refl, sym, ap, ◌∙◌, subst}
use Rattle.std.specs.Prelude.{replicate, slice_set, codes, ◌++◌}
use Rattle.mem_files.specs.Name.{Name, Bytes}
use Rattle.prog_parts.specs.declared.program.Program.{Program}
use Rattle.prog_parts.specs.Program.{program_of}
use Rattle.sh_tree.specs.declared.tree.Mode.{Mode}
use Rattle.sh_tree.specs.declared.tree.Mode.TheVariants.{Input, Fresh, Over}
use Rattle.sh_tree.specs.Tree.{Tree, exec, redir, pipe, list, back}
use Rattle.script_load.specs.declared.profile.Profile.{Profile}
use Rattle.user_calls.specs.declared.calls.Call.TheVariants.{Exec}
use Rattle.user_calls.specs.declared.calls.Reply.TheVariants.{Done, Ends, Refused}
use Rattle.user_progs.specs.State.{begins as begins_program}
use Rattle.user_progs.specs.Turn.{turn, block}
use Rattle.user_progs.specs.View.{begun as found_by}
use Rattle.law_trees.proofs.programs.Taming.{always_tame}
use Rattle.tree_model.specs.Residual.{done, running}
use Rattle.tree_model.specs.Rules.{silent, begins as begins_it, calls as program_calls}
use Rattle.tree_model.specs.Begin.{unfolded, run_left, begun}
use Rattle.sh_machine.specs.State.{pipes, unknown}
use Rattle.sh_machine.specs.Turn.{calls, exits, runs, execs_found}
use Rattle.process_model.specs.Seen.{Entry, reader, writer, fd_at, Act, live, View}
use Rattle.process_model.specs.Phases.{shell_act, plain_fds, pipe_fds}
use Rattle.process_model.specs.Own.{Works}
use Rattle.process_model.specs.Shape.{Node, starts, works, tells, in_list, pipe_made, opening, same, occurs}
use Rattle.process_model.specs.Effect.{ParentIs, Sets, Answers, MakesPipe, lowest, answered, IsCall}
use Rattle.process_model.specs.Part.{goes, then_goes, Part, After}
use Rattle.process_model.proofs.Counts.{same_yes, called_once}
use Rattle.law_runs.proofs.standing.Steady.{steady_next}
use Rattle.law_runs.proofs.standing.CallKinds as kinds

-- no descriptor above 2
none_at : (n fd : ℕ) → fd_at (replicate n None) fd ≡ None
none_at zero fd = refl
none_at (suc n) zero = refl
none_at (suc n) (suc fd) = none_at n fd

above_two : (a b : Entry) (fd : ℕ) → 2 < fd → fd_at (plain_fds a b) fd ≡ None
above_two a b zero up = absurd (omega (arith, up))
above_two a b (suc zero) up = absurd (omega (arith, up))
above_two a b (suc (suc zero)) up = absurd (omega (arith, up))
above_two a b (suc (suc (suc zero))) up = refl
above_two a b (suc (suc (suc (suc zero)))) up = refl
above_two a b (suc (suc (suc (suc (suc fd))))) up = none_at 11 fd

module _ (profile : Profile) (V W : View) (a b old : Entry) (parent p : ℕ) (ev : IsCall V W p) where
  -- a process with no children
  childless : (t : Node) → ((q : ℕ) → occurs q t ≡ same q p) → ((c : ℕ) → ParentIs (V.slots c) p → 1 ≤ occurs c t) → (q : ℕ) → q ≢ p → ParentIs (V.slots q) p → ⊥
  childless t one kids q ne kid = ne (same_yes q p (omega (arith, kids q kid, one q)))

  -- a command without words
  begins_none : Part profile V a b old parent p (starts p (exec [])) → After profile V W p a b old parent (starts p (exec []))
  begins_none g =
      kinds.ended V W profile a b old parent p (shell_act profile exits) (plain_fds a b) (starts p (exec [])) g.has (kinds.effect_at V W p parent 0 (shell_act profile exits) (plain_fds a b) ev g.has)
      (childless (starts p (exec [])) (λ q. refl) g.kids) (goes (begins_it refl)) (λ q. refl) refl (omega arith)

  -- a simple command, whose program is there or not
  begins_words : (name : Bytes) (arguments : List Bytes) → Part profile V a b old parent p (starts p (exec (name ∷ arguments))) → After profile V W p a b old parent (starts p (exec (name ∷ arguments)))
  begins_words name arguments g = by (program_of name) refl
    where
      by : (o : Option Program) → program_of name ≡ o → After profile V W p a b old parent (starts p (exec (name ∷ arguments)))
      by None none =
          let act : Act = shell_act profile (calls (Exec false) (unknown name)) in
          let slot : V.slots p ≡ live parent act 0 (plain_fds a b) = g.has ∙ ap (λ o. live parent (shell_act profile (execs_found (found_by o arguments) name)) 0 (plain_fds a b)) none in
          let f : Answers V W p parent act Refused (plain_fds a b) = kinds.effect_at V W p parent 0 act (plain_fds a b) ev slot in
          let left : done ≡ unfolded (exec (name ∷ arguments)) = sym (ap (λ o. run_left (begun o arguments)) none) in
          kinds.calm V W profile a b old parent p (live parent act 0 (plain_fds a b)) _ (starts p (exec (name ∷ arguments))) (tells p (block (codes "exec " ++ (name ++ codes " failed\n")))) slot f.slots f.rest refl (plain_fds a b, f.slots.here, refl, inl refl) (goes (begins_it left)) (λ q. refl) (λ k. omega arith) refl (omega arith)
      by (Some program) some =
          let state = begins_program program arguments in
          let act : Act = record { call = Exec true; next = Rattle.sh_machine.specs.State.program state } in
          let slot : V.slots p ≡ live parent act 0 (plain_fds a b) = g.has ∙ ap (λ o. live parent (shell_act profile (execs_found (found_by o arguments) name)) 0 (plain_fds a b)) some in
          let f : Answers V W p parent act Done (plain_fds a b) = kinds.effect_at V W p parent 0 act (plain_fds a b) ev slot in
          let left : running (record { turn = record { call = Exec true; next = state }; own = []; put = 0 }) ≡ unfolded (exec (name ∷ arguments)) = sym (ap (λ o. run_left (begun o arguments)) some) in
          let now : Works W a b parent p (turn state Done) 0 [] = record {
            fds = plain_fds a b;
            slot = f.slots.here;
            opened = record { input = refl; output = refl; messages = refl; above = above_two a b };
            apart = tt;
            placed = tt;
            fits = inl refl;
            tame = record { which = program; arguments = arguments; calls = λ replies. always_tame program arguments Done replies };
            plain = tt;
            steady = steady_next state Done tt;
          } in
          kinds.calm V W profile a b old parent p (live parent act 0 (plain_fds a b)) _ (starts p (exec (name ∷ arguments))) (works p (turn state Done) 0 []) slot f.slots f.rest refl now (then_goes (goes (begins_it left)) (program_calls refl refl refl)) (λ q. refl) (λ k. omega arith) refl (omega arith)

  -- a redirection
  begins_redir : (mode : Mode) (name : Name) (body : Tree) → Part profile V a b old parent p (starts p (redir mode name body)) → After profile V W p a b old parent (starts p (redir mode name body))
  begins_redir Input name body g =
      let f = kinds.effect_at V W p parent 0 _ (plain_fds a b) ev g.has in
      kinds.calm V W profile a b old parent p _ _ (starts p (redir Input name body)) (opening p Input name body) g.has f.slots f.rest refl f.slots.here (goes (begins_it refl)) (λ q. refl) (λ k. omega arith) refl (omega arith)
  begins_redir Fresh name body g =
      let f = kinds.effect_at V W p parent 0 _ (plain_fds a b) ev g.has in
      kinds.calm V W profile a b old parent p _ _ (starts p (redir Fresh name body)) (opening p Fresh name body) g.has f.slots f.rest refl f.slots.here (goes (begins_it refl)) (λ q. refl) (λ k. omega arith) refl (omega arith)
  begins_redir Over name body g =
      let f = kinds.effect_at V W p parent 0 _ (plain_fds a b) ev g.has in
      kinds.calm V W profile a b old parent p _ _ (starts p (redir Over name body)) (opening p Over name body) g.has f.slots f.rest refl f.slots.here (goes (begins_it refl)) (λ q. refl) (λ k. omega arith) refl (omega arith)

  -- a list
  begins_list : (left right : Tree) → Part profile V a b old parent p (starts p (list left right)) → After profile V W p a b old parent (starts p (list left right))
  begins_list left right g =
      let f = kinds.effect_at V W p parent 0 _ (plain_fds a b) ev g.has in
      kinds.forked V W profile a b old parent p _ (plain_fds a b) _ (starts p (list left right)) (in_list p (starts f.child left) right) g.has refl f (f.here, refl, f.child_is) (goes (begins_it refl)) (λ q. refl) (λ k. omega arith) refl (omega arith)

  -- a pipe
  begins_pipe : (left right : Tree) → Part profile V a b old parent p (starts p (pipe left right)) → After profile V W p a b old parent (starts p (pipe left right))
  begins_pipe left right g =
      let f = kinds.effect_at V W p parent 0 _ (plain_fds a b) ev g.has in
      by f.read_fd f.write_fd f.read_end f.write_end f.slots
    where
      f : MakesPipe V W p parent (shell_act profile (runs (pipe left right))) (plain_fds a b)
      f = kinds.effect_at V W p parent 0 _ (plain_fds a b) ev g.has

      fresh : (k : ℕ) → k < V.next → k ≢ V.next
      fresh k lt e = absurd (omega (arith, lt, e))

      made : Sets V W p (answered parent (shell_act profile (runs (pipe left right))) (Ends 3 4) (pipe_fds a b V.next)) → After profile V W p a b old parent (starts p (pipe left right))
      made slots = record {
        to = pipe_made p V.next left right;
        label = silent;
        files = V.files;
        has = (slots.here, f.empty);
        steps = 1;
        moves = goes (begins_it refl);
        tells = (
          kinds.same_but V W f.others.input f.others.out a (λ k l. (f.others.pipes k (fresh k (g.ends_known k (omega (arith, l)))), f.others.places k)),
          kinds.same_but V W f.others.input f.others.out b (λ k l. (f.others.pipes k (fresh k (g.ends_known k (omega (arith, l)))), f.others.places k)),
          f.others.files,
        );
        pids = λ q. omega (arith, kinds.sets_used V W p _ _ g.has slots refl q);
        ids = λ k. omega arith;
        others = λ k na nb lt none. (f.others.pipes k (fresh k lt), f.others.places k);
        input_stays = λ n. f.others.input;
        out_stays = λ n. f.others.out;
        there = refl;
        over = λ z. refl;
        pays = omega (arith, called_once W p);
      }

      by : (r w : ℕ) → lowest (plain_fds a b) ≡ Some r → lowest (slice_set (plain_fds a b) r (Some (reader V.next))) ≡ Some w → Sets V W p (answered parent (shell_act profile (runs (pipe left right))) (Ends r w) (slice_set (slice_set (plain_fds a b) r (Some (reader V.next))) w (Some (writer V.next)))) → After profile V W p a b old parent (starts p (pipe left right))
      by r w first second slots = at_four (subst (λ r. lowest (slice_set (plain_fds a b) r (Some (reader V.next))) ≡ Some w) (sym three) second) (subst (λ r. Sets V W p (answered parent (shell_act profile (runs (pipe left right))) (Ends r w) (slice_set (slice_set (plain_fds a b) r (Some (reader V.next))) w (Some (writer V.next))))) (sym three) slots)
        where
          three : 3 ≡ r
          three = let z : Some 3 ≡ Some r = first in cc

          at_four : lowest (slice_set (plain_fds a b) 3 (Some (reader V.next))) ≡ Some w → Sets V W p (answered parent (shell_act profile (runs (pipe left right))) (Ends 3 w) (slice_set (slice_set (plain_fds a b) 3 (Some (reader V.next))) w (Some (writer V.next)))) → After profile V W p a b old parent (starts p (pipe left right))
          at_four second slots = made (subst (λ w. Sets V W p (answered parent (shell_act profile (runs (pipe left right))) (Ends 3 w) (slice_set (slice_set (plain_fds a b) 3 (Some (reader V.next))) w (Some (writer V.next))))) (sym four) slots)
            where
              four : 4 ≡ w
              four = let z : Some 4 ≡ Some w = second in cc

  -- any command that isn't behind &
  pub begins_command : (tree : Tree) → Part profile V a b old parent p (starts p tree) → After profile V W p a b old parent (starts p tree)
  begins_command (exec []) g = begins_none g
  begins_command (exec (name ∷ arguments)) g = begins_words name arguments g
  begins_command (redir mode name body) g = begins_redir mode name body g
  begins_command (pipe left right) g = begins_pipe left right g
  begins_command (list left right) g = begins_list left right g
  begins_command (back body) g = absurd (let z : true ≡ false = g.plain in let w : ⊥ = cc in w)
