-- A read of a pipe loses no wake-up: it takes bytes and wakes the writers, or has to sleep.
use Rattle.std.proofs.Common.{◌≡◌, ℕ, ◌≤◌, List, [], true, Some, length, refl, subst, arith}
use Rattle.std.proofs.lemmas.List.{length-drop}
use Rattle.std.proofs.lemmas.Bool.{both_ways, eq-eqb}
use Rattle.user_calls.specs.declared.calls.Reply.TheVariants.{Bytes}
use Rattle.byte_pipe.specs.Limits.{pipe_size}
use Rattle.byte_pipe.specs.PipeState.{PipeState, after_take}
use Rattle.proc_table.specs.declared.states.Channel.{Channel}
use Rattle.proc_table.specs.declared.states.Channel.TheVariants.{PipeBytes, PipeRoom}
use Rattle.proc_table.specs.Slots.{same_channel}
use Rattle.proc_table.specs.Calls.{readied, slept, all_woken}
use Rattle.kernel_model.specs.KernelState.{KernelState}
use Rattle.kernel_model.specs.Pipes.{Pipes, pipe_of, with_pipe}
use Rattle.kernel_model.specs.Replies.{answered, sleeps, wakes}
use Rattle.law_kernel.specs.Sleeping.{Waits, WaitsForBytes, AreSmall, Rests}
use Rattle.law_kernel.specs.Busy.{IsBusy, IsFair}
use Rattle.law_kernel.proofs.kernel.OnePipe.{pipe_still, small_found, small_with}
use Rattle.law_kernel.proofs.kernel.Slots.{rests, ready_busy, sleep_busy, wake_busy, awake, asleep_where, slept_before}

pub same_room : (id : ℕ) → same_channel (PipeRoom id) (PipeRoom id) ≡ true
same_room id = eq-eqb id id refl

no_more_held : (p : PipeState) (n : ℕ) → length p.bytes ≤ pipe_size → length (after_take p n).bytes ≤ pipe_size
no_more_held p n fits = omega (arith, length-drop n p.bytes, fits)

module _ {S : Type 0} (k : KernelState S) (pid : ℕ) (after : S) (id : ℕ) (busy : IsBusy k.table k.pipes pid) (p : PipeState) (found : pipe_of k.pipes id ≡ Some p) where
  abbrev AtRest : KernelState S → Type 0
  AtRest m = Rests m.table m.pipes

  -- bytes were there, so nobody waited for any, and who waits for room is woken
  pub take_rests : (n : ℕ) (got : List ℕ) → (p.bytes ≡ [] → ⊥) → AtRest (wakes (PipeRoom id) (answered (record k { pipes = with_pipe k.pipes id (after_take p n) }) pid after (Bytes got)))
  take_rests n got some =
      let now : Pipes = with_pipe k.pipes id (after_take p n) in
      let t = readied k.table pid after (Bytes got) in
      let small : AreSmall now = small_with k.pipes id (after_take p n) busy.small (no_more_held p n (small_found k.pipes id p busy.small found)) in
      let fair : IsFair id (PipeRoom id) p (after_take p n) =
      record { bytes = λ unlike w. absurd (some w.empty); room = λ unlike w. absurd (both_ways (same_channel (PipeRoom id) (PipeRoom id)) unlike (same_room id)) } in
      rests (all_woken (PipeRoom id) t) now pid
      (wake_busy t k.pipes now pid (PipeRoom id) small (pipe_still t k.pipes id (PipeRoom id) p (after_take p n) found fair) (ready_busy k.table k.pipes pid after (Bytes got) busy))
      (λ c asleep. absurd (awake k.table pid after (Bytes got) c (slept_before t pid (PipeRoom id) c asleep).0))

  -- a reader that finds nothing has to wait where the write end is open
  pub sleep_rests : WaitsForBytes p → AtRest (sleeps k pid (PipeBytes id) 0)
  sleep_rests w =
      let t = slept k.table pid (PipeBytes id) 0 in
      let waits : Waits t k.pipes pid (PipeBytes id) = record { pipe = p; found = found; holds = w } in
      rests t k.pipes pid (sleep_busy k.table k.pipes pid (PipeBytes id) 0 busy)
      (λ c asleep. subst (λ (d : Channel). Waits t k.pipes pid d) (asleep_where k.table pid (PipeBytes id) 0 c asleep) waits)
