-- A write to a pipe loses no wake-up: it wakes the readers, and has to sleep where the pipe is full before all is put.
use Rattle.std.proofs.Common.{◌≡◌, ℕ, ◌+◌, ◌<◌, ◌≤◌, List, [], ◌++◌, Bool, true, Some, length, take, refl, ap, subst, ◌∙◌, arith, length-append}
use Rattle.std.proofs.lemmas.List.{length-take}
use Rattle.std.proofs.lemmas.Bool.{both_ways, eq-eqb}
use Rattle.std.specs.Prelude.{if◌then◌else◌, min}
use Rattle.user_calls.specs.declared.calls.Reply.TheVariants.{Done}
use Rattle.byte_pipe.specs.Limits.{pipe_size}
use Rattle.byte_pipe.specs.PipeState.{PipeState, room, appended, after_put}
use Rattle.proc_table.specs.declared.states.Channel.{Channel}
use Rattle.proc_table.specs.declared.states.Channel.TheVariants.{PipeBytes, PipeRoom}
use Rattle.proc_table.specs.Slots.{same_channel}
use Rattle.proc_table.specs.Calls.{readied, slept, all_woken}
use Rattle.kernel_model.specs.KernelState.{KernelState}
use Rattle.kernel_model.specs.Pipes.{Pipes, pipe_of, with_pipe}
use Rattle.kernel_model.specs.Replies.{answered, sleeps, wakes}
use Rattle.law_kernel.specs.Sleeping.{Waits, AreSmall, Rests}
use Rattle.law_kernel.specs.Busy.{IsBusy, IsFair}
use Rattle.law_kernel.proofs.kernel.OnePipe.{pipe_still, found_now, small_found, small_with}
use Rattle.law_kernel.proofs.kernel.Slots.{rests, ready_busy, sleep_busy, wake_busy, awake, asleep_where, slept_before}
use Rattle.byte_pipe.proofs.Within.{few_appended}

pub same_bytes : (id : ℕ) → same_channel (PipeBytes id) (PipeBytes id) ≡ true
same_bytes id = eq-eqb id id refl

-- ---- how many bytes a pipe holds after a put

no_more_than_fits : (p : PipeState) (xs : List ℕ) → length p.bytes ≤ pipe_size → length (after_put p xs).bytes ≤ pipe_size
no_more_than_fits p xs fits = omega (arith, length-append p.bytes (appended p xs), few_appended p.reader (room p) xs, fits)

held_after : (p : PipeState) (xs : List ℕ) → p.reader ≡ true → length (after_put p xs).bytes ≡ length p.bytes + min (room p) (length xs)
held_after p xs reads =
    ap (λ (b : Bool). length (p.bytes ++ (if b then take (room p) xs else []))) reads ∙ omega (arith, length-append p.bytes (take (room p) xs), length-take (room p) xs)

still_full : (p : PipeState) (xs : List ℕ) → length p.bytes ≡ pipe_size → length (after_put p xs).bytes ≡ pipe_size
still_full p xs full = omega (arith, length-append p.bytes (appended p xs), few_appended p.reader (room p) xs, full)

-- ---- the write

module _ {S : Type 0} (k : KernelState S) (pid : ℕ) (after : S) (id : ℕ) (xs : List ℕ) (busy : IsBusy k.table k.pipes pid) (p : PipeState) (found : pipe_of k.pipes id ≡ Some p) where
  -- the pipes after the put
  abbrev now : Pipes
  now = with_pipe k.pipes id (after_put p xs)

  abbrev AtRest : KernelState S → Type 0
  AtRest m = Rests m.table m.pipes

  fits : length p.bytes ≤ pipe_size
  fits = small_found k.pipes id p busy.small found

  small_now : AreSmall now
  small_now = small_with k.pipes id (after_put p xs) busy.small (no_more_than_fits p xs fits)

  fair : IsFair id (PipeBytes id) p (after_put p xs)
  fair =
      record {
        bytes = λ unlike w. absurd (both_ways (same_channel (PipeBytes id) (PipeBytes id)) unlike (same_bytes id));
        room = λ unlike w. record { filled = still_full p xs w.filled; reader = w.reader };
      }

  pub done_rests : AtRest (wakes (PipeBytes id) (answered (record k { pipes = now }) pid after Done))
  done_rests =
      let t = readied k.table pid after Done in
      rests (all_woken (PipeBytes id) t) now pid
      (wake_busy t k.pipes now pid (PipeBytes id) small_now (pipe_still t k.pipes id (PipeBytes id) p (after_put p xs) found fair) (ready_busy k.table k.pipes pid after Done busy))
      (λ c asleep. absurd (awake k.table pid after Done c (slept_before t pid (PipeBytes id) c asleep).0))

  -- not all of it could be put, so the pipe is full now
  pub part_rests : (n so_far : ℕ) → p.reader ≡ true → room p ≡ n → n < length xs → AtRest (wakes (PipeBytes id) (sleeps (record k { pipes = now }) pid (PipeRoom id) so_far))
  part_rests n so_far reads filled some =
      let t = slept k.table pid (PipeRoom id) so_far in
      let u = all_woken (PipeBytes id) t in
      let waits : Waits u now pid (PipeRoom id) = record { pipe = after_put p xs; found = found_now k.pipes id p (after_put p xs) found; holds = record { filled = omega (arith, filled, some, held_after p xs reads, fits); reader = reads } } in
      rests u now pid
      (wake_busy t k.pipes now pid (PipeBytes id) small_now (pipe_still t k.pipes id (PipeBytes id) p (after_put p xs) found fair) (sleep_busy k.table k.pipes pid (PipeRoom id) so_far busy))
      (λ c asleep. subst (λ (d : Channel). Waits u now pid d) (asleep_where k.table pid (PipeRoom id) so_far c (slept_before t pid (PipeBytes id) c asleep).0) waits)
