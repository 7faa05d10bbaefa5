-- What holds of kernels to which turns lead from a boot.
use Rattle.std.proofs.Common.{◌≡◌, ℕ, zero, suc, List, [], ◌∷◌, ◌++◌, false, Option, Some, None, refl, sym, ap, subst, ◌∙◌}
use Rattle.user_calls.specs.declared.calls.Call.{Call}
use Rattle.user_calls.specs.declared.calls.Reply.{Reply}
use Rattle.mem_files.specs.Name.{Name, Bytes}
use Rattle.proc_table.specs.Slots.{Slot, Process, at}
use Rattle.kernel_model.specs.KernelState.{KernelState}
use Rattle.kernel_model.specs.Boot.{boot_kernel}
use Rattle.kernel_model.specs.Events.{counted}
use Rattle.kernel_model.proofs.Lasting.{no_run}
use Rattle.law_kernel.proofs.outcomes.Outcomes.{every_call_ends}
use Rattle.law_kernel.specs.Sleeping.{Rests}
use Rattle.law_kernel.specs.Asking.{AllAsk}
use Rattle.law_kernel.proofs.kernel.Runs.{every_run_rests, past_two}
use Rattle.law_kernel.proofs.kernel.AskRuns.{every_run_asks}
use Rattle.kernel_model.specs.Alike.{IsStill}
use Rattle.kernel_model.specs.Turns.{by_turns, after_turn, after_turns, quiet_turns, turn_events, turn_notes}
use Rattle.law_turns.proofs.orders.Back.{matched, could_turn}
use Rattle.law_turns.proofs.orders.Booted.{alike_itself, boot_still}
use Rattle.law_turns.proofs.orders.Follow.{after_turn as turned, given_0}
use Rattle.kernel_model.specs.Begun.{IsBegun}
use Rattle.law_turns.proofs.private_turns.Fine.{Fine, AllFine, fine_set, fine_running, outcome_fine}
use Rattle.law_turns.proofs.private_turns.Turned.{turn_is, ready_slot}

boot_fine : {S : Type 0} (init shell : S) (input : Bytes) (list : List (Name × Bytes)) → AllFine (boot_kernel init shell input list).table
boot_fine init shell input list zero = tt
boot_fine init shell input list (suc zero) = tt
boot_fine {S} init shell input list (suc (suc q)) = subst (λ (x : Slot S). Fine x) (sym (past_two S 62 q)) tt

-- what a kernel of a run is between two turns: still, and whoever sleeps has to, and will make the same call again
pub record IsSettled {S : Type 0} (call : S → Reply → Call) (k : KernelState S) : Type 0 where
  pub still : IsStill k
  pub fine : AllFine k.table
  pub rests : Rests k.table k.pipes
  pub asks : AllAsk call k

module _ {S : Type 0} (call : S → Reply → Call) (next : S → Reply → S) where
  pub after_still : (k now : KernelState S) (p : ℕ) → IsStill k → after_turn call next k p ≡ Some now → IsStill now
  after_still k now p still is = (matched call next k k now (quiet_turns (p ∷ [])) is (alike_itself k) still still).still_too

  turns_still : (k now : KernelState S) (pids : List ℕ) → IsStill k → after_turns call next k pids ≡ Some now → IsStill now
  turns_still k now pids still is = (matched call next k k now (quiet_turns pids) is (alike_itself k) still still).still_too

  turn_fine : (k now : KernelState S) (q : ℕ) → IsStill k → AllFine k.table → after_turn call next k q ≡ Some now → AllFine now.table
  turn_fine k now q still all is =
      let r = ready_slot (at k.table q) (could_turn call next k (record { pid = q; refused = false }) (now, is)) in
      let y : Process S = r.process in
      let both : Some (turned call next k q y false) ≡ Some now = sym (turn_is call next k q y still r.there r.ready) ∙ is in
      let same : turned call next k q y false ≡ now = cc in
      let d : KernelState S = counted (given_0 k q) in
      let given : AllFine d.table = fine_set k.table q _ all (fine_running 0 (at k.table q)) in
      subst (λ (m : KernelState S). AllFine m.table) same (outcome_fine q d (next y.machine y.reply) (call y.machine y.reply) (turned call next k q y false) given (every_call_ends d q (next y.machine y.reply) (call y.machine y.reply) false))

  turns_fine : (k m : KernelState S) (pids : List ℕ) → IsStill k → AllFine k.table → after_turns call next k pids ≡ Some m → AllFine m.table
  turns_fine k m [] still all is = let same : k ≡ m = cc in subst (λ (j : KernelState S). AllFine j.table) same all
  turns_fine k m (p ∷ pids) still all is = by (after_turn call next k p) refl (λ j. turns_fine j m pids) is where
    by : (o : Option (KernelState S)) → after_turn call next k p ≡ o → ((j : KernelState S) → IsStill j → AllFine j.table → after_turns call next j pids ≡ Some m → AllFine m.table) → by_turns call next o (quiet_turns pids) ≡ Some m → AllFine m.table
    by None first on rest = absurd (no_run call next (turn_events (quiet_turns pids)) (turn_notes (quiet_turns pids)) m rest)
    by (Some j) first on rest = on j (after_still k j p still first) (turn_fine k j p still all first) rest

  more_turns : (pids more : List ℕ) (o : Option (KernelState S)) → by_turns call next o (quiet_turns (pids ++ more)) ≡ by_turns call next (by_turns call next o (quiet_turns pids)) (quiet_turns more)
  more_turns [] more o = refl
  more_turns (p ∷ pids) more o = more_turns pids more (by_turns call next o (quiet_turns (p ∷ [])))

  pub begun_on : (k m : KernelState S) (more : List ℕ) → IsBegun call next k → after_turns call next k more ≡ Some m → IsBegun call next m
  begun_on k m more b is =
      record {
        init = b.init;
        shell = b.shell;
        input = b.input;
        files = b.files;
        are = b.are;
        pids = b.pids ++ more;
        turns = more_turns b.pids more (Some (boot_kernel b.init b.shell b.input b.files)) ∙ ap (λ (o : Option (KernelState S)). by_turns call next o (quiet_turns more)) b.turns ∙ is;
      }

  module _ (k : KernelState S) (b : IsBegun call next k) where
    abbrev boot : KernelState S
    boot = boot_kernel b.init b.shell b.input b.files

    boots : IsStill boot
    boots = boot_still b.init b.shell b.input b.files b.are

    pub begun_still : IsStill k
    begun_still = turns_still boot k b.pids boots b.turns

    begun_fine : AllFine k.table
    begun_fine = turns_fine boot k b.pids boots (boot_fine b.init b.shell b.input b.files) b.turns

    begun_rests : Rests k.table k.pipes
    begun_rests = every_run_rests call next b.init b.shell b.input b.files (turn_events (quiet_turns b.pids)) (turn_notes (quiet_turns b.pids)) k b.turns

    begun_asks : AllAsk call k
    begun_asks = every_run_asks call next b.init b.shell b.input b.files (turn_events (quiet_turns b.pids)) (turn_notes (quiet_turns b.pids)) k b.are b.turns

    pub begun_settled : IsSettled call k
    begun_settled = record { still = begun_still; fine = begun_fine; rests = begun_rests; asks = begun_asks }
