use Rattle.std.proofs.Common.{◌≡◌, List, true, subst, rules}
use Rattle.std.specs.Prelude.{All}
use Rattle.kernel_model.specs.KernelState.{KernelState}
use Rattle.kernel_model.specs.Boot.{boot_kernel}
use Rattle.order_search.specs.declared.outcomes.Outcome.{Outcome}
use Rattle.play_states.specs.declared.spots.Shown.{Shown}
use Rattle.play_states.specs.Plays.{IsShown, IsAlikeTo, IsTurnTo, IsCovered}
use Rattle.play_states.proofs.Told.{turns_to}
use Rattle.play_states.proofs.ground.Ground.tell.Goals as goal

pub returns : goal.returns
returns g c =
    let S = g.row.M-State.Denot in
    let call = g.M.Machine.call_of in
    let next = g.M.Machine.next_of in
    let v = g.M.Machine.view in
    let o = c.self.inside.origin in
    let shown = c.in_ok-shown.shown.items in
    let outcomes = c.args.outcomes.items in
    let now : KernelState S = c.args.self.now in
    let boot : KernelState S = boot_kernel (v o.init) (v o.shell) o.stdin.now o.files.now in
    let covers : c.are_covered.result ≡ true = search rules in
    let each : All (IsShown call next now outcomes) shown = subst (λ (os : List Outcome). All (IsShown call next now os) shown) c.deref.ensures.value c.in_ok-shown.ensures in
    let alike : All (λ (s : Shown). All (IsAlikeTo call next now shown s.spot.pids.items) s.spot.turns.items) shown = subst (λ (ss : List Shown). All (λ (s : Shown). All (IsAlikeTo call next now ss s.spot.pids.items) s.spot.turns.items) ss) c.deref-2.ensures.value c.in_ok-check_all_turns.ensures in
    let T : KernelState S → Type 0 = λ k. All (IsShown call next k outcomes) shown → All (λ (s : Shown). All (IsAlikeTo call next k shown s.spot.pids.items) s.spot.turns.items) shown → All (λ (s : Shown). All (IsTurnTo call next k outcomes shown s.spot.pids.items) s.spot.turns.items) shown in
    let to : T now = subst T c.self.view_is (turns_to call next c.kernels_with_the_same_key_have_the_same_outcomes.ensures (v o.init) (v o.shell) o.stdin.now o.files.now c.are_files.ensures outcomes shown) in
    record {
      each = each;
      turns = to each alike;
      covered = subst (λ (ss : List Shown). All (IsCovered ss) ss) c.deref-3.ensures.value (c.are_covered.ensures covers);
    }
