-- A process of the shell that waits for its children, forks them, or closes and doubles the ends of a pipe.
use Rattle.std.proofs.Common.{◌≡◌, ◌≢◌, inl, ℕ, ◌+◌, ◌≤◌, List, [], ◌∷◌, Bool, false, arith, refl, ap, ◌∙◌, subst}
use Rattle.mem_files.specs.Name.{Bytes}
use Rattle.sh_tree.specs.Tree.{Tree}
use Rattle.script_load.specs.Line.{ScriptLine, command, bad, cd}
use Rattle.script_load.specs.declared.profile.Profile.{Profile}
use Rattle.user_calls.specs.declared.calls.Call.TheVariants.{Write}
use Rattle.user_progs.specs.Turn.{block}
use Rattle.tree_model.specs.Rules.{begins as begins_it, seq_steps, seq_ends}
use Rattle.sh_machine.specs.Turn.{calls, exits, fault_text}
use Rattle.sh_machine.specs.State.{told}
use Rattle.process_model.specs.Seen.{Entry, writer, Fds, Act, View}
use Rattle.process_model.specs.Phases.{closes_read, Step, closes_old, dups_kept, drops_read, drops_write, shell_act, plain_fds, pipe_fds}
use Rattle.process_model.specs.Shape.{Node, starts, tells, leaves, reads_lines, in_line, pipe_made, pipe_half, pipe_both, left_child, right_child, Has, same, occurs, is_used}
use Rattle.process_model.specs.Effect.{ParentIs, Forks, EffectBy, IsCall}
use Rattle.process_model.specs.Part.{stays as stay, goes, then_goes, Part, After}
use Rattle.process_model.proofs.Counts.{same_self, same_yes}
use Rattle.law_runs.proofs.standing.Frame.{stays}
use Rattle.law_runs.proofs.standing.Kids.{placed}
use Rattle.law_runs.proofs.standing.CallKinds as kinds

module _ (profile : Profile) (V W : View) (a b old : Entry) (parent p : ℕ) (ev : IsCall V W p) where
  childless : (t : Node) → ((q : ℕ) → occurs q t ≡ same q p) → ((c : ℕ) → ParentIs (V.slots c) p → 1 ≤ occurs c t) → (q : ℕ) → q ≢ p → ParentIs (V.slots q) p → ⊥
  childless t one kids q ne kid = ne (same_yes q p (omega (arith, kids q kid, one q)))

  -- ---- a message, and the end

  pub says : (message : Bytes) → Part profile V a b old parent p (tells p message) → After profile V W p a b old parent (tells p message)
  says message g =
      let act = shell_act profile (calls (Write 2 message) told) in
      let slot = g.has.1 in
      let e0 : EffectBy V W p parent 0 act g.has.0 (Write 2 message) = kinds.effect_at V W p parent 0 act g.has.0 ev slot in
      let f = subst (λ x. Rattle.process_model.specs.Effect.WritesAt V W p parent 0 act g.has.0 message x) g.has.2 e0 in
      kinds.calm V W profile a b old parent p _ _ (tells p message) (leaves p) slot f.slots f.rest refl (g.has.0, f.slots.here, g.has.3) stay (λ q. refl) (λ k. omega arith) refl (omega arith)

  pub leaves_now : Part profile V a b old parent p (leaves p) → After profile V W p a b old parent (leaves p)
  leaves_now g =
      kinds.ended V W profile a b old parent p (shell_act profile exits) g.has.0 (leaves p) g.has.1 (kinds.effect_at V W p parent 0 (shell_act profile exits) g.has.0 ev g.has.1)
      (childless (leaves p) (λ q. refl) g.kids) stay (λ q. refl) refl (omega arith)

  -- ---- the lines of the script

  begins_line : (line : ScriptLine) (later : List ScriptLine) → Part profile V a b old parent p (reads_lines p (line ∷ later)) → After profile V W p a b old parent (reads_lines p (line ∷ later))
  begins_line (command tree) later g =
      let f = kinds.effect_at V W p parent 0 _ (plain_fds a b) ev g.has in
      kinds.forked V W profile a b old parent p _ (plain_fds a b) _ (reads_lines p (command tree ∷ later)) (in_line p (starts f.child tree) (command tree ∷ later)) g.has refl f (f.here, refl, f.child_is) (goes (begins_it refl)) (λ q. refl) (λ k. omega arith) refl (omega arith)
  begins_line (bad fault text) later g =
      let f = kinds.effect_at V W p parent 0 _ (plain_fds a b) ev g.has in
      kinds.forked V W profile a b old parent p _ (plain_fds a b) _ (reads_lines p (bad fault text ∷ later)) (in_line p (tells f.child (block (fault_text fault text))) (bad fault text ∷ later)) g.has refl f (f.here, refl, (plain_fds a b, f.child_is, refl, inl refl))
      (then_goes (goes (begins_it refl)) (seq_steps (begins_it refl))) (λ q. refl) (λ k. omega arith) refl (omega arith)
  begins_line (cd text) later g =
      let f = kinds.effect_at V W p parent 0 _ (plain_fds a b) ev g.has in
      kinds.calm V W profile a b old parent p _ _ (reads_lines p (cd text ∷ later)) (reads_lines p later) g.has f.slots f.rest refl f.slots.here
      (then_goes (then_goes (goes (begins_it refl)) (seq_steps (begins_it refl))) seq_ends) (λ q. refl) (λ k. omega arith) refl (omega arith)

  pub reads_on : (lines : List ScriptLine) → Part profile V a b old parent p (reads_lines p lines) → After profile V W p a b old parent (reads_lines p lines)
  reads_on [] g =
      kinds.ended V W profile a b old parent p (shell_act profile exits) (plain_fds a b) (reads_lines p []) g.has (kinds.effect_at V W p parent 0 (shell_act profile exits) (plain_fds a b) ev g.has)
      (childless (reads_lines p []) (λ q. refl) g.kids) (goes (begins_it refl)) (λ q. refl) refl (omega arith)
  reads_on (line ∷ later) g = begins_line line later g

  -- ---- forks of a pipe

  -- a part without p stays, where only the slots of p and a free one change
  beside_fork : (act : Act) (d : Fds) (f : Forks V W p parent act d) (α β o : Entry) (r : ℕ) (x : Node) → occurs p x ≡ 0 → Has profile V α β o r x → Has profile W α β o r x
  beside_fork act d f α β o r x z h =
      stays profile V W α β o r x (record {
        slots = λ q l. f.others q (λ e. absurd (omega (arith, z, l, ap (λ n. occurs n x) e))) (λ e. absurd (omega (arith, (placed profile V α β o r x h q l).used_is, ap is_used (ap V.slots e ∙ f.was_free))));
        pipes = λ k l. f.rest.pipes k;
        places = λ k l. f.rest.places k;
      }) h

  pub forks_left_side : (i : ℕ) (left right : Tree) → Part profile V a b old parent p (pipe_made p i left right) → After profile V W p a b old parent (pipe_made p i left right)
  forks_left_side i left right g =
      let f = kinds.effect_at V W p parent 0 _ (pipe_fds a b i) ev g.has.0 in
      kinds.forked V W profile a b old parent p _ (pipe_fds a b i) _ (pipe_made p i left right) (pipe_half p i false (left_child f.child closes_old left) [] right) g.has.0 refl f
      (f.here, f.rest.pipes i ∙ g.has.1, refl, f.child_is) stay (λ q. refl) (λ k. omega arith) refl (omega arith)

  pub forks_right_side : (i : ℕ) (lost : Bool) (x : Node) (bytes : Bytes) (right : Tree) → Part profile V a b old parent p (pipe_half p i lost x bytes right) → After profile V W p a b old parent (pipe_half p i lost x bytes right)
  forks_right_side i lost x bytes right g =
      let f = kinds.effect_at V W p parent 0 _ (pipe_fds a b i) ev g.has.0 in
      let nx : occurs p x ≡ 0 = omega (arith, g.once p, same_self p) in
      kinds.forked V W profile a b old parent p _ (pipe_fds a b i) _ (pipe_half p i lost x bytes right) (pipe_both p i closes_read lost x bytes (right_child f.child closes_old right)) g.has.0 refl f
      (f.here, f.rest.pipes i ∙ g.has.1, ap (λ n. n + 1) g.has.2, beside_fork _ _ f a (writer i) b p x nx g.has.3, f.child_is) stay (λ q. omega arith) (λ k. omega arith) refl (omega arith)

  -- ---- the children of a pipe take their ends

  pub left_goes : (step : Step) (tree : Tree) → Part profile V a b old parent p (left_child p step tree) → After profile V W p a b old parent (left_child p step tree)
  left_goes closes_old tree g =
      let f = kinds.effect_at V W p parent 0 _ _ ev g.has in
      kinds.calm V W profile a b old parent p _ _ (left_child p closes_old tree) (left_child p dups_kept tree) g.has f.slots f.rest refl f.slots.here stay (λ q. refl) (λ k. omega arith) refl (omega arith)
  left_goes dups_kept tree g =
      let f = kinds.effect_at V W p parent 0 _ _ ev g.has in
      kinds.calm V W profile a b old parent p _ _ (left_child p dups_kept tree) (left_child p drops_read tree) g.has f.slots f.rest refl f.slots.here stay (λ q. refl) (λ k. omega arith) refl (omega arith)
  left_goes drops_read tree g =
      let f = kinds.effect_at V W p parent 0 _ _ ev g.has in
      kinds.calm V W profile a b old parent p _ _ (left_child p drops_read tree) (left_child p drops_write tree) g.has f.slots f.rest refl f.slots.here stay (λ q. refl) (λ k. omega arith) refl (omega arith)
  left_goes drops_write tree g =
      let f = kinds.effect_at V W p parent 0 _ _ ev g.has in
      kinds.calm V W profile a b old parent p _ _ (left_child p drops_write tree) (starts p tree) g.has f.slots f.rest refl f.slots.here stay (λ q. refl) (λ k. omega arith) refl (omega arith)

  pub right_goes : (step : Step) (tree : Tree) → Part profile V a b old parent p (right_child p step tree) → After profile V W p a b old parent (right_child p step tree)
  right_goes closes_old tree g =
      let f = kinds.effect_at V W p parent 0 _ _ ev g.has in
      kinds.calm V W profile a b old parent p _ _ (right_child p closes_old tree) (right_child p dups_kept tree) g.has f.slots f.rest refl f.slots.here stay (λ q. refl) (λ k. omega arith) refl (omega arith)
  right_goes dups_kept tree g =
      let f = kinds.effect_at V W p parent 0 _ _ ev g.has in
      kinds.calm V W profile a b old parent p _ _ (right_child p dups_kept tree) (right_child p drops_read tree) g.has f.slots f.rest refl f.slots.here stay (λ q. refl) (λ k. omega arith) refl (omega arith)
  right_goes drops_read tree g =
      let f = kinds.effect_at V W p parent 0 _ _ ev g.has in
      kinds.calm V W profile a b old parent p _ _ (right_child p drops_read tree) (right_child p drops_write tree) g.has f.slots f.rest refl f.slots.here stay (λ q. refl) (λ k. omega arith) refl (omega arith)
  right_goes drops_write tree g =
      let f = kinds.effect_at V W p parent 0 _ _ ev g.has in
      kinds.calm V W profile a b old parent p _ _ (right_child p drops_write tree) (starts p tree) g.has f.slots f.rest refl f.slots.here stay (λ q. refl) (λ k. omega arith) refl (omega arith)
