-- A wait keeps a kernel sound.
use Rattle.std.proofs.Common.{◌≡◌, ◌≢◌, ◌⊎◌, ℕ, true, false, Option, Some, None, length, refl, sym, ap, subst, ◌∙◌, arith, inl, inr}
use Rattle.std.proofs.Math.ListN.{length-set}
use Rattle.std.proofs.lemmas.Bool.{cases_eq, and_parts}
use Rattle.user_calls.specs.declared.calls.Reply.TheVariants.{Done, Refused}
use Rattle.fd_table.specs.Entries.{Entries}
use Rattle.proc_table.specs.declared.states.Channel.TheVariants.{Children}
use Rattle.proc_table.specs.declared.table.Waited.{Waited}
use Rattle.proc_table.specs.declared.table.Waited.TheVariants.{Reaped, NoChildren, MustSleep}
use Rattle.proc_table.specs.Slots.{Table, Slot, Process, at, is_zombie, is_running, is_running_status, is_zombie_child_of}
use Rattle.proc_table.specs.Calls.{forked, newborn, lowest_free as lowest_free_slot, exited, reaped, zombie_child, wait_answer, wait_by as waited_by, some_child, given, woken_by_exit, with_status, woken, fds_set, with_fds, all_woken}
use Rattle.proc_table.proofs.Changes.{reaped_is_free, reaped_others, reaped_nothing, caller_stays, was_zombie_child}
use Rattle.proc_table.proofs.Counts.{wait_states}
use Rattle.kernel_model.specs.KernelState.{KernelState, fds_of}
use Rattle.kernel_model.specs.Sound.{IsMid, Keeps}
use Rattle.proc_table.specs.Slots.{put_of}
use Rattle.kernel_model.specs.Processes.{wait_by}
use Rattle.kernel_model.proofs.Sound.{near_sound, IsNear, near_same}
use Rattle.kernel_model.proofs.Held.{not_zombie}
use Rattle.kernel_model.proofs.Keeps.{ready_keeps, sleep_keeps}

module _ {S : Type 0} (n pid : ℕ) where
  -- the kernel in the middle of a call of pid, and after it
  abbrev Mid : KernelState S → Type 0
  Mid k = IsMid n k.table k.entries pid

  abbrev After : KernelState S → Type 0
  After k = Keeps n k.table k.entries

  reaped_mid : (t : Table S) (E : Entries) (o : Option ℕ) → zombie_child t pid ≡ o → IsMid n t E pid → IsMid n (reaped t pid) E pid
  reaped_mid t E None found m = subst (λ (u : Table S). IsMid n u E pid) (sym (reaped_nothing t pid found)) m
  reaped_mid t E (Some child) found m =
      record {
        sound = near_sound t (reaped t pid) E (length-reaped (zombie_child t pid)) (λ q. near q (cases_eq q child)) m.sound;
        runs = ap is_running (caller_stays t pid (not_zombie (at t pid) m.runs)) ∙ m.runs;
        count = omega (arith, wait_states is_running_status t pid child found, m.count);
      } where
        length-reaped : (o : Option ℕ) → length (Rattle.proc_table.specs.Calls.freed t o) ≡ length t
        length-reaped None = refl
        length-reaped (Some c) = length-set t c None

        near : (q : ℕ) → (q ≡ child) ⊎ (q ≢ child) → IsNear (at t q) (at (reaped t pid) q)
        near q (inl is) =
            let P : ℕ → Type 0 = λ j. IsNear (at t j) (at (reaped t pid) j) in
            let none : at (reaped t pid) child ≡ None = reaped_is_free t pid child found in
            let dead : is_zombie (at t child) ≡ true = (and_parts (Rattle.proc_table.specs.Slots.is_child_of pid (at t child)) (is_zombie (at t child)) (was_zombie_child t pid child found).1).1 in
            subst P (sym is) (record { fds = ap fds_of none ∙ sym (m.sound.zombies child dead); zombie = λ z. absurd (let no_way : false ≡ true = sym (ap is_zombie none) ∙ z in let bad : ⊥ = cc in bad) })
        near q (inr ne) = near_same (at t q) (at (reaped t pid) q) (reaped_others t pid child q found ne)

  pub wait_after : (k : KernelState S) (after : S) (w : Waited) → Mid k → After (wait_by k pid after w)
  wait_after k after (Reaped child) m = ready_keeps n (reaped k.table pid) k.entries pid after Done (reaped_mid k.table k.entries (zombie_child k.table pid) refl m)
  wait_after k after NoChildren m = ready_keeps n k.table k.entries pid after Refused m
  wait_after k after MustSleep m = sleep_keeps n k.table k.entries pid (Children pid) 0 m
