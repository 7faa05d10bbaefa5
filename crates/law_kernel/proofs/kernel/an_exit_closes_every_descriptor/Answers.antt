use Rattle.std.proofs.Common.{◌≡◌, ℕ, true}
use Rattle.std.specs.Prelude.{◌↔◌}
use Rattle.user_calls.specs.declared.calls.Call.{Call}
use Rattle.user_calls.specs.declared.calls.Reply.{Reply}
use Rattle.mem_files.specs.Listing.{AreFiles}
use Rattle.kernel_model.specs.declared.events.Event.TheVariants.{Trap}
use Rattle.kernel_model.specs.KernelState.{KernelState}
use Rattle.kernel_model.specs.KernelRun.{KernelRun}
use Rattle.kernel_model.specs.Pipes.{pipe_of}
use Rattle.kernel_model.specs.Sound.{IsSound}
use Rattle.law_kernel.specs.Ends.{EndsAgree, reads_pipe, writes_pipe, read_end_open, write_end_open}
use Rattle.law_kernel.specs.Exiting.{IsExit, IsHeldByOther}
use Rattle.law_kernel.proofs.kernel.EndsRuns.{next_in_step}
use Rattle.law_kernel.proofs.kernel.SoundRuns.{every_run_is_sound, next_is_sound}
use Rattle.law_kernel.proofs.kernel.Held.{open_while_held}
use Rattle.law_kernel.proofs.kernel.ExitCloses as exit
use Rattle.law_kernel.proofs.kernel.an_exit_closes_every_descriptor.Goals as goal

module _ {S : Type 0} (call : S → Reply → Call) (next : S → Reply → S) (r : KernelRun call next) (are : AreFiles r.files) (pid : ℕ) (now : KernelState S) (gone : IsExit call next r.last pid now) where
  before : IsSound r.last.table r.last.entries
  before = every_run_is_sound call next r.init r.shell r.input r.files r.schedule r.notes r.last are r.runs

  after : IsSound now.table now.entries
  after = next_is_sound call next r.init r.shell r.input r.files r.schedule r.notes r.last (Trap gone.hart pid) gone.refused now are r.runs gone.happened

  agree : EndsAgree now.entries now.pipes
  agree = next_in_step call next r.init r.shell r.input r.files r.schedule r.notes r.last (Trap gone.hart pid) gone.refused now r.runs gone.happened

  reader : (id : ℕ) → (read_end_open (pipe_of now.pipes id) ≡ true) ↔ IsHeldByOther r.last pid (reads_pipe id)
  reader id =
      let there = open_while_held now after (reads_pipe id) (read_end_open (pipe_of now.pipes id)) (agree.readers id) in
      let ends = exit.ends call next r.last pid now gone before after (reads_pipe id) in
      (λ is. ends.0 (there.0 is), λ h. there.1 (ends.1 h))

  writer : (id : ℕ) → (write_end_open (pipe_of now.pipes id) ≡ true) ↔ IsHeldByOther r.last pid (writes_pipe id)
  writer id =
      let there = open_while_held now after (writes_pipe id) (write_end_open (pipe_of now.pipes id)) (agree.writers id) in
      let ends = exit.ends call next r.last pid now gone before after (writes_pipe id) in
      (λ is. ends.0 (there.0 is), λ h. there.1 (ends.1 h))

pub returns-clause-none : goal.returns-clause-none
returns-clause-none g c = λ r pid now are gone.
    let call = g.M.Machine.call_of in
    let next = g.M.Machine.next_of in
    exit.none call next r.last pid now gone (before call next r are pid now gone) (after call next r are pid now gone)

pub returns-clause-others : goal.returns-clause-others
returns-clause-others g c = λ r pid now other are gone ne.
    exit.kept g.M.Machine.call_of g.M.Machine.next_of r.last pid now gone (before g.M.Machine.call_of g.M.Machine.next_of r are pid now gone) other ne

pub returns-clause-entries : goal.returns-clause-entries
returns-clause-entries g c = λ r pid now e are gone.
    let call = g.M.Machine.call_of in
    let next = g.M.Machine.next_of in
    exit.entries call next r.last pid now gone (before call next r are pid now gone) (after call next r are pid now gone) e

pub returns-clause-readers : goal.returns-clause-readers
returns-clause-readers g c = λ r pid now id are gone. reader g.M.Machine.call_of g.M.Machine.next_of r are pid now gone id

pub returns-clause-writers : goal.returns-clause-writers
returns-clause-writers g c = λ r pid now id are gone. writer g.M.Machine.call_of g.M.Machine.next_of r are pid now gone id
