-- An exit keeps a kernel sound.
use Rattle.std.proofs.Common.{◌≡◌, ◌≢◌, ◌⊎◌, ℕ, Bool, true, false, Some, None, length, refl, sym, ap, subst, ◌∙◌, arith, inl, inr}
use Rattle.std.proofs.Math.ListN.{length-set}
use Rattle.std.proofs.lemmas.Bool.{cases_eq}
use Rattle.std.specs.Prelude.{replicate, is_some, map, if◌then◌else◌}
use Rattle.user_calls.specs.declared.calls.Reply.TheVariants.{Refused}
use Rattle.fd_table.specs.Entries.{Entries}
use Rattle.fd_table.specs.declared.descriptors.TheConstants.{DESCRIPTORS}
use Rattle.fd_table.proofs.Lists.{is_replicate}
use Rattle.proc_table.specs.declared.states.Channel.TheVariants.{Children}
use Rattle.proc_table.specs.declared.states.Status.TheVariants.{Zombie}
use Rattle.proc_table.specs.Slots.{Table, Slot, Process, at, is_zombie, is_running, is_running_status, is_zombie_child_of}
use Rattle.proc_table.specs.Calls.{forked, newborn, lowest_free as lowest_free_slot, exited, reaped, zombie_child, wait_answer, wait_by as waited_by, some_child, given, woken_by_exit, with_status, woken, fds_set, with_fds, all_woken}
use Rattle.proc_table.proofs.Changes.{exit_self, exit_other}
use Rattle.proc_table.proofs.Counts.{exit_counts_by}
use Rattle.kernel_model.specs.KernelState.{KernelState, fds_of, fds_at}
use Rattle.kernel_model.specs.Sound.{IsMid, Keeps}
use Rattle.kernel_model.specs.Replies.{answered}
use Rattle.kernel_model.specs.Descriptors.{closed_below}
use Rattle.proc_table.specs.Slots.{put_of}
use Rattle.kernel_model.specs.Processes.{fork, fork_into, exec, exit, wait, wait_by}
use Rattle.kernel_model.specs.Processes as processes
use Rattle.kernel_model.proofs.Sound.{IsNear, near_same, woken_near, length-map, tables_same}
use Rattle.kernel_model.proofs.Held.{running_is}
use Rattle.kernel_model.proofs.Keeps.{ready_keeps, runs_tally}
use Rattle.kernel_model.proofs.Closing.{closed_below_mid, bare_below}

module _ {S : Type 0} (n pid : ℕ) where
  -- the kernel in the middle of a call of pid, and after it
  abbrev Mid : KernelState S → Type 0
  Mid k = IsMid n k.table k.entries pid

  abbrev After : KernelState S → Type 0
  After k = Keeps n k.table k.entries

  given_near : (x : Slot S) → IsNear x (given pid x)
  given_near None = near_same None None refl
  given_near (Some p) = record { fds = refl; zombie = λ z. z }

  near_trans : (x y z : Slot S) → IsNear x y → IsNear y z → IsNear x z
  near_trans x y z a b = record { fds = b.fds ∙ a.fds; zombie = λ dead. a.zombie (b.zombie dead) }

  near_if : (b : Bool) (x y z : Slot S) → IsNear x y → IsNear x z → IsNear x (if b then y else z)
  near_if true x y z a c = a
  near_if false x y z a c = c

  exit_near : (t : Table S) (x : Slot S) → IsNear x (woken_by_exit t pid (given pid x))
  exit_near t x =
      let parent = Rattle.proc_table.specs.Slots.parent_of (at t pid) in
      let g = given pid x in
      let once = woken (Children parent) g in
      let a : IsNear x once = near_trans x g once (given_near x) (woken_near (Children parent) g) in
      near_if (is_some (zombie_child t pid)) x (woken (Children 0) once) once (near_trans x once (woken (Children 0) once) a (woken_near (Children 0) once)) a

  dead_fds : (x : Slot S) → fds_of (with_status Zombie (given pid x)) ≡ fds_of x
  dead_fds None = refl
  dead_fds (Some p) = refl

  length-if : (b : Bool) (t u : Table S) (m : ℕ) → length t ≡ m → length u ≡ m → length (if b then t else u) ≡ m
  length-if true t u m a b = a
  length-if false t u m a b = b

  length-exited : (t : Table S) → length (exited t pid) ≡ length t
  length-exited t =
      let gone = all_woken (Children (Rattle.proc_table.specs.Slots.parent_of (at t pid))) (Rattle.proc_table.specs.Calls.buried t pid) in
      let long : length gone ≡ length t = length-map (woken (Children (Rattle.proc_table.specs.Slots.parent_of (at t pid)))) (Rattle.proc_table.specs.Calls.buried t pid) ∙ length-set (map (given pid) t) pid _ ∙ length-map (given pid) t in
      length-if (is_some (zombie_child t pid)) (all_woken (Children 0) gone) gone (length t) (length-map (woken (Children 0)) gone ∙ long) long

  exited_fds : (t : Table S) (q : ℕ) → (q ≡ pid) ⊎ (q ≢ pid) → fds_of (at (exited t pid) q) ≡ fds_of (at t q)
  exited_fds t q (inl is) = ap (λ (j : ℕ). fds_of (at (exited t pid) j)) is ∙ ap fds_of (exit_self t pid) ∙ dead_fds (at t pid) ∙ ap (λ (j : ℕ). fds_of (at t j)) (sym is)
  exited_fds t q (inr ne) = ap fds_of (exit_other t pid q ne) ∙ (exit_near t (at t q)).fds

  exited_keeps : (t : Table S) (E : Entries) → IsMid n t E pid → fds_of (at t pid) ≡ replicate DESCRIPTORS None → Keeps n (exited t pid) E
  exited_keeps t E m bare =
      let same : (q : ℕ) → fds_of (at (exited t pid) q) ≡ fds_of (at t q) = λ q. exited_fds t q (cases_eq q pid) in
      let p = running_is (at t pid) m.runs in
      record {
        sound = record {
          counts = subst (Rattle.fd_table.specs.Holders.CountHolders E) (sym (tables_same t (exited t pid) (length-exited t) same)) m.sound.counts;
          slots = length-exited t ∙ m.sound.slots;
          places = λ q. ap length (same q) ∙ m.sound.places q;
          zombies = λ q dead. same q ∙ zombie q dead (cases_eq q pid);
          offsets = m.sound.offsets;
        };
        count = omega (arith, exit_counts_by is_running_status (λ c. refl) t pid p.0 p.1, runs_tally (at t pid) p.0 p.1 m.runs, m.count);
      } where
        zombie : (q : ℕ) → is_zombie (at (exited t pid) q) ≡ true → (q ≡ pid) ⊎ (q ≢ pid) → fds_of (at t q) ≡ replicate DESCRIPTORS None
        zombie q dead (inl is) = ap (λ (j : ℕ). fds_of (at t j)) is ∙ bare
        zombie q dead (inr ne) = m.sound.zombies q ((exit_near t (at t q)).zombie (sym (ap is_zombie (exit_other t pid q ne)) ∙ dead))

  pub exit_after : (k : KernelState S) (after : S) (b : Bool) → Mid k → After (if b then answered k pid after Refused else processes.ended pid (closed_below k pid DESCRIPTORS))
  exit_after k after true m = ready_keeps n k.table k.entries pid after Refused m
  exit_after k after false m =
      let gone = closed_below k pid DESCRIPTORS in
      let h : Mid gone = closed_below_mid n pid k DESCRIPTORS m in
      exited_keeps gone.table gone.entries h (is_replicate (fds_at gone pid) DESCRIPTORS None (h.sound.places pid) (λ i lt. bare_below n pid k DESCRIPTORS i m lt))
