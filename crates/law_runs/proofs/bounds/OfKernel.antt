-- The law on finished runs, of the kernel that a history comes to.
use Rattle.std.proofs.Common.{◌≡◌, ◌<◌, Some, length, sym, ap, ◌∙◌, subst}
use Rattle.mem_files.specs.Files.{files}
use Rattle.mem_files.specs.Listing.{AreFiles}
use Rattle.tree_model.specs.Tidy.{IsClearScript}
use Rattle.kernel_model.specs.KernelState.{KernelState}
use Rattle.run_model.specs.ScriptRun.{script_kernel}
use Rattle.kernel_model.specs.Booted.{IsBooted}
use Rattle.kernel_model.specs.Events.{run, IsFinished}
use Rattle.kernel_model.specs.History.{History}
use Rattle.sh_machine.specs.State.{User}
use Rattle.sh_machine.specs.Turn.{call_of, next_of}
use Rattle.run_model.specs.Plain.{IsPlainRun}
use Rattle.step_bounds.specs.Most.{most_events}
use Rattle.law_runs.proofs.bounds.Bounded.{finished_then}

pub finished_of : (h : History User) → IsBooted h.boot → run call_of next_of (Some h.boot) h.schedule h.notes ≡ Some h.now → (p : IsPlainRun h) → IsClearScript p.lines → most_events p.lines p.input (files p.files) < length h.schedule → IsFinished h.now
finished_of h booted replays p clear long =
    let start : h.boot ≡ script_kernel p.profile p.lines p.input p.files = p.begun in
    let same : booted.files ≡ p.files = ap (λ (k : KernelState User). k.files) (sym booted.start ∙ start) in
    finished_then p.profile p.lines p.input p.files (subst AreFiles same booted.are) clear h.schedule h.notes h.now
    (ap (λ (k : KernelState User). run call_of next_of (Some k) h.schedule h.notes) (sym start) ∙ replays) p.roomy long
