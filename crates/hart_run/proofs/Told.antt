-- What a booted kernel's schedule leads to is a run from the start, so the laws of runs hold of it.
use Rattle.std.proofs.Common.{◌≡◌, ℕ, List, ◌++◌, Bool, true, Some, sym, ap, subst, ◌∙◌}
use Rattle.std.specs.Prelude.{◌↔◌}
use Rattle.user_calls.specs.declared.calls.Call.{Call}
use Rattle.user_calls.specs.declared.calls.Reply.{Reply}
use Rattle.byte_pipe.specs.PipeState.{PipeState}
use Rattle.kernel_model.specs.declared.events.Event.{Event}
use Rattle.kernel_model.specs.KernelState.{KernelState}
use Rattle.kernel_model.specs.Boot.{boot_kernel}
use Rattle.kernel_model.specs.Booted.{IsBooted}
use Rattle.kernel_model.specs.Events.{run}
use Rattle.kernel_model.specs.Pipes.{pipe_of}
use Rattle.kernel_model.specs.Sound.{IsSound}
use Rattle.law_kernel.specs.Ends.{EndsAgree, read_end_open, reads_pipe, write_end_open, writes_pipe}
use Rattle.law_kernel.specs.Held.{IsHeld}
use Rattle.law_kernel.specs.Sleeping.{Rests}
use Rattle.law_kernel.proofs.kernel.EndsRuns.{every_run_in_step}
use Rattle.law_kernel.proofs.kernel.Held.{open_while_held}
use Rattle.law_kernel.proofs.kernel.OnePipe.{small_found}
use Rattle.law_kernel.proofs.kernel.Runs.{every_run_rests}
use Rattle.law_kernel.proofs.kernel.SoundRuns.{every_run_is_sound}
use Rattle.law_kernel.specs.Asking.{AllAsk}
use Rattle.law_kernel.specs.Flow.{put_by, taken_by, all_moved}
use Rattle.law_kernel.specs.Limits.{IsWithin}
use Rattle.law_kernel.proofs.kernel.AskRuns.{every_run_asks}
use Rattle.law_kernel.proofs.kernel.EntriesLong.{every_run_has_entries}
use Rattle.law_kernel.proofs.kernel.FlowRuns.{put_is_taken_and_held}

module _ {S : Type 0} (call : S → Reply → Call) (next : S → Reply → S) (boot now : KernelState S) (events : List Event) (notes : List Bool) (replays : run call next (Some boot) events notes ≡ Some now) (booted : IsBooted boot) where
  abbrev start : KernelState S
  start = boot_kernel booted.init booted.shell booted.input booted.files

  from_start : run call next (Some start) events notes ≡ Some now
  from_start = ap (λ (k : KernelState S). run call next (Some k) events notes) (sym booted.start) ∙ replays

  pub rests : Rests now.table now.pipes
  rests = every_run_rests call next booted.init booted.shell booted.input booted.files events notes now from_start

  sound : IsSound now.table now.entries
  sound = every_run_is_sound call next booted.init booted.shell booted.input booted.files events notes now booted.are from_start

  ends : EndsAgree now.entries now.pipes
  ends = every_run_in_step call next booted.init booted.shell booted.input booted.files events notes now from_start

  pub reader_held : (id : ℕ) → (read_end_open (pipe_of now.pipes id) ≡ true) ↔ IsHeld now (reads_pipe id)
  reader_held id = open_while_held now sound (reads_pipe id) (read_end_open (pipe_of now.pipes id)) (ends.readers id)

  pub writer_held : (id : ℕ) → (write_end_open (pipe_of now.pipes id) ≡ true) ↔ IsHeld now (writes_pipe id)
  writer_held id = open_while_held now sound (writes_pipe id) (write_end_open (pipe_of now.pipes id)) (ends.writers id)

  pub asks : AllAsk call now
  asks = every_run_asks call next booted.init booted.shell booted.input booted.files events notes now booted.are from_start

  pub within : IsWithin now
  within =
      record {
        processes = sound.slots;
        entries = every_run_has_entries call next booted.init booted.shell booted.input booted.files events notes now from_start;
        descriptors = sound.places;
        bytes = λ id p found. small_found now.pipes id p rests.small found;
      }

  pub nothing_lost : (id : ℕ) (p : PipeState) → pipe_of now.pipes id ≡ Some p → all_moved call next (put_by id) (Some boot) events notes ≡ all_moved call next (taken_by id) (Some boot) events notes ++ p.bytes
  nothing_lost id p found =
      let P : KernelState S → Type 0 = λ k. all_moved call next (put_by id) (Some k) events notes ≡ all_moved call next (taken_by id) (Some k) events notes ++ p.bytes in
      subst P (sym booted.start) (put_is_taken_and_held call next id booted.init booted.shell booted.input booted.files events notes now from_start p found)
