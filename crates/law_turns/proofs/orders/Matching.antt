-- What a run, and what turns of a kernel that is alike, come to by turns.
use Rattle.std.proofs.Common.{◌≡◌, List, Bool, Some, None, sym, ap, ◌∙◌}
use Rattle.user_calls.specs.declared.calls.Call.{Call}
use Rattle.user_calls.specs.declared.calls.Reply.{Reply}
use Rattle.kernel_model.specs.declared.events.Event.{Event}
use Rattle.kernel_model.specs.KernelState.{KernelState}
use Rattle.kernel_model.specs.Events.{run}
use Rattle.kernel_model.specs.Quiet.{no_refusals}
use Rattle.kernel_model.proofs.Quiet.{run_quiet}
use Rattle.kernel_model.specs.Alike.{Alike, IsStill}
use Rattle.kernel_model.specs.Turns.{Turn, turns_of, quiet_turns, callers, by_turns}
use Rattle.law_turns.specs.Matched.{IsMatchedBy}
use Rattle.law_turns.proofs.orders.Back.{matched, alike_back, quiet_is}
use Rattle.law_turns.proofs.orders.Booted.{alike_itself, same_outcome}
use Rattle.law_turns.proofs.orders.Turning.{followed}

module _ {S : Type 0} (call : S → Reply → Call) (next : S → Reply → S) where
  pub run_matched : (start m : KernelState S) (es : List Event) (ns : List Bool) → IsStill start → run call next (Some start) es ns ≡ Some m → IsMatchedBy call next start (turns_of es ns) m
  run_matched start m es ns still is =
      let f = followed call next start start m es ns is (record { alike = alike_itself start; names = still.names }) still in
      record { last = f.last; turns = f.runs; alike = f.alike; outcome = same_outcome m f.last f.alike }

  pub quiet_matched : (start m : KernelState S) (es : List Event) → IsStill start → run call next (Some start) es (no_refusals es) ≡ Some m → IsMatchedBy call next start (quiet_turns (callers es)) m
  quiet_matched start m es still is =
      let f = run_matched start m es (no_refusals es) still is in
      record { last = f.last; turns = ap (λ (ts : List Turn). by_turns call next (Some start) ts) (sym (quiet_is es)) ∙ f.turns; alike = f.alike; outcome = f.outcome }

  pub roomy_matched : (start m : KernelState S) (es : List Event) (ns : List Bool) → IsStill start → run call next (Some start) es ns ≡ Some m → m.full ≡ None → IsMatchedBy call next start (quiet_turns (callers es)) m
  roomy_matched start m es ns still is roomy = quiet_matched start m es still (run_quiet call next start m es ns is roomy)

  pub alike_matched : (k l m : KernelState S) (ts : List Turn) → IsStill k → IsStill l → Alike k l → by_turns call next (Some k) ts ≡ Some m → IsMatchedBy call next l ts m
  alike_matched k l m ts still too alike is =
      let f = matched call next l k m ts is (alike_back k l alike) too still in
      let a = alike_back f.last m f.alike in
      record { last = f.last; turns = f.runs; alike = a; outcome = same_outcome m f.last a }
