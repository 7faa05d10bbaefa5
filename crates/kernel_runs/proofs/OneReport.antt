-- Runs by one schedule in which nothing was full are reported alike.
use Rattle.std.proofs.Common.{◌≡◌, ◌∙◌, ℕ, List, Some, None, sym, ap, subst, arith}
use Rattle.std.proofs.lemmas.Grind.{same_number_lists}
use Rattle.user_calls.specs.declared.calls.Call.{Call}
use Rattle.user_calls.specs.declared.calls.Reply.{Reply}
use Rattle.kernel_model.specs.declared.events.Event.{Event}
use Rattle.kernel_model.specs.KernelState.{KernelState}
use Rattle.kernel_model.specs.Events.{run, IsFinished}
use Rattle.kernel_model.proofs.Quiet.{one_run}
use Rattle.kernel_events.specs.declared.report.Report.{Report}
use Rattle.kernel_events.specs.Harts.{AreCounts}
use Rattle.kernel_events.specs.Reports.{IsReport, Tells}
use Rattle.kernel_events.specs.Same.{AreSame}

same_counts : (a b : List ℕ) (events : List Event) → AreCounts a events → AreCounts b events → a ≡ b
same_counts a b events left right =
    same_number_lists a b (left.0 ∙ sym right.0) (λ h within. left.1 h (omega (arith, within, left.0)) ∙ sym (right.1 h (omega (arith, within, left.0))))

same_told : {A B : _} {S : Type 0} (first : Report A) (second : Report B) (k m : KernelState S) → k ≡ m → first.schedule ≡ second.schedule → IsFinished m → Tells k first → Tells m second → AreSame first second
same_told first second k m is schedule finished left right = (
  (
    left.out ∙ ap (λ (k : KernelState _). k.out) is ∙ sym right.out,
    left.diag ∙ ap (λ (k : KernelState _). k.diag) is ∙ sym right.diag,
    left.files ∙ ap (λ (k : KernelState _). k.files) is ∙ sym right.files,
  ),
  (
    left.full ∙ ap (λ (k : KernelState _). k.full) is ∙ sym right.full,
    left.finished.1 (subst IsFinished (sym is) finished) ∙ sym (right.finished.1 finished),
  ),
  (schedule, same_counts first.by_hart second.by_hart second.schedule (subst (AreCounts first.by_hart) schedule left.by_hart) right.by_hart),
)

pub one_report : {A B : _} {S : Type 0} (call : S → Reply → Call) (next : S → Reply → S) (start : KernelState S) (first : Report A) (second : Report B) → IsReport call next start first → IsReport call next start second → first.schedule ≡ second.schedule → first.full ≡ None → second.full ≡ None → AreSame first second
one_report call next start first second left right schedule quiet_left quiet_right =
    let is : left.last ≡ right.last
    = one_run call next start left.last right.last first.schedule left.notes right.notes left.runs (ap (λ es. run call next (Some start) es right.notes) schedule ∙ right.runs) (sym left.tells.full ∙ quiet_left) (sym right.tells.full ∙ quiet_right) in
    same_told first second left.last right.last is schedule right.finished left.tells right.tells
