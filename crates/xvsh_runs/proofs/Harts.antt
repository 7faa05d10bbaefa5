-- Why there is no run on some harts, or on one, as the program's fault.
use Rattle.std.proofs.Common.{◌≡◌, ℕ, refl}
use Rattle.sh_machine.specs.State.{User}
use Rattle.kernel_model.specs.KernelState.{KernelState}
use Rattle.run_model.specs.ScriptRun.{IsSpentFrom}
use Rattle.kernel_runs.specs.declared.run.RunOneFault.{RunOneFault}
use Rattle.kernel_runs.specs.declared.run.RunOneFault.TheVariants.{BadTurns as one_turns, Spent as one_spent, Memory as one_memory}
use Rattle.kernel_threads.specs.Ranges.{AreBadHarts, AreBadTurns}
use Rattle.kernel_threads.specs.declared.faults.RunFault.{RunFault as HartsFault}
use Rattle.kernel_threads.specs.declared.faults.RunFault.TheVariants.{BadHarts as bad_harts, BadTurns as bad_turns, Spent as harts_spent, Memory as harts_memory}
use Rattle.xvsh_runs.specs.Status.{of_harts, of_one}
use Rattle.xvsh_runs.specs.Why.{IsHartsFault, no_memory, harts_out_of_range, turns_out_of_range, turns_spent}

pub harts_fault : (kernel : KernelState User) (harts turns : ℕ) (fault : HartsFault) → (fault ≡ bad_harts → AreBadHarts harts) → (fault ≡ bad_turns → AreBadTurns turns) → (fault ≡ harts_spent → IsSpentFrom kernel turns) → IsHartsFault kernel harts turns (of_harts fault)
harts_fault kernel harts turns bad_harts of_number of_turns spent = harts_out_of_range (of_number refl)
harts_fault kernel harts turns bad_turns of_number of_turns spent = turns_out_of_range (of_turns refl)
harts_fault kernel harts turns harts_spent of_number of_turns spent = turns_spent (spent refl)
harts_fault kernel harts turns harts_memory of_number of_turns spent = no_memory

pub one_fault : (kernel : KernelState User) (turns : ℕ) (fault : RunOneFault) → (fault ≡ one_turns → AreBadTurns turns) → (fault ≡ one_spent → IsSpentFrom kernel turns) → IsHartsFault kernel 1 turns (of_one fault)
one_fault kernel turns one_turns of_turns spent = turns_out_of_range (of_turns refl)
one_fault kernel turns one_spent of_turns spent = turns_spent (spent refl)
one_fault kernel turns one_memory of_turns spent = no_memory
