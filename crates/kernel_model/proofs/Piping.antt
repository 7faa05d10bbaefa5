-- A pipe call keeps a kernel sound: two free descriptors are enough for its two ends.
use Rattle.std.proofs.Common.{◌≡◌, ℕ, suc, ◌+◌, ◌<◌, ◌≤◌, [], ◌∷◌, Bool, true, false, Option, Some, None, length, get_or, refl, sym, ap, subst, ◌∙◌, arith}
use Rattle.std.proofs.lemmas.Bool.{ltb-false}
use Rattle.std.proofs.lemmas.List.Sums.{sum_by-set, sum_by-cons, fails_before_first}
use Rattle.std.proofs.lemmas.Grind.{common_steps}
use Rattle.std.specs.List.{position_or_len}
use Rattle.std.specs.Prelude.{IsSome, nat_lt, count_by, cond, position, if◌then◌else◌}
use Rattle.user_calls.specs.declared.calls.Reply.TheVariants.{Refused}
use Rattle.fd_table.specs.declared.names.Object.{Object}
use Rattle.fd_table.specs.declared.names.Object.TheVariants.{PipeRead, PipeWrite}
use Rattle.fd_table.specs.Entries.{lowest_free_entry, is_free, free_count}
use Rattle.fd_table.specs.Descriptors.{Descriptors, lowest_free, installed, installed_at}
use Rattle.fd_table.proofs.Lists.{position_found}
use Rattle.proc_table.specs.Slots.{at}
use Rattle.proc_table.specs.Calls.{with_fds}
use Rattle.proc_table.proofs.Changes.{written}
use Rattle.kernel_model.specs.KernelState.{KernelState, fds_of, fds_at}
use Rattle.kernel_model.specs.Sound.{IsMid, Keeps}
use Rattle.kernel_model.specs.Replies.{answered, refused_for}
use Rattle.kernel_model.specs.Descriptors.{opened_at, with_reader, with_ends, make_pipe, ends_reply}
use Rattle.kernel_model.specs.declared.events.Full.TheVariants.{Open, Fds, Memory}
use Rattle.kernel_model.specs.Pipes.{with_new}
use Rattle.kernel_model.proofs.Keeps.{ready_keeps, fds_given}
use Rattle.kernel_model.proofs.Opening.{open_mid}

none_passes : (l : Descriptors) → ((k : ℕ) → k < length l → is_free (get_or l k None) ≡ false) → count_by is_free l ≡ 0
none_passes [] fails = refl
none_passes (x ∷ l) fails =
    omega (arith, sum_by-cons (λ (y : Option ℕ). cond {A = ℕ} (is_free y) 1 0) x l, ap (λ (b : Bool). cond {A = ℕ} b 1 0) (fails 0 (omega arith)), none_passes l (λ k lt. fails (suc k) (omega arith)))

free_by : (l : Descriptors) (o : Option ℕ) → position is_free l ≡ o → 1 ≤ count_by is_free l → IsSome o
free_by l (Some fd) found some = refl
free_by [] None found some = absurd (omega arith)
free_by (x ∷ l) None found some =
    let past : length (x ∷ l) ≤ position_or_len is_free (x ∷ l) = grind (arith, common_steps) in
    absurd (omega (arith, none_passes (x ∷ l) (λ k lt. fails_before_first is_free (x ∷ l) k None (omega arith))))

free_found : (l : Descriptors) → 1 ≤ free_count l → IsSome (lowest_free l)
free_found l some = free_by l (lowest_free l) refl some

one_less : (fds : Descriptors) (e : ℕ) (place : Option ℕ) → lowest_free fds ≡ place → free_count fds ≤ free_count (installed_at fds place e) + 1
one_less fds e None found = omega arith
one_less fds e (Some fd) found =
    let at_fd = position_found is_free fds None fd found in
    omega (arith, sum_by-set (λ (y : Option ℕ). cond {A = ℕ} (is_free y) 1 0) fds fd (Some e) None at_fd.0, ap (λ (b : Bool). cond {A = ℕ} b 1 0) at_fd.1)

module _ {S : Type 0} (n pid : ℕ) where
  -- the kernel in the middle of a call of pid, and after it
  abbrev Mid : KernelState S → Type 0
  Mid k = IsMid n k.table k.entries pid

  abbrev After : KernelState S → Type 0
  After k = Keeps n k.table k.entries

  installed_somewhere : (k : KernelState S) (object : Object) (place : Option ℕ) → Mid k → 2 ≤ free_count (fds_at k pid) → IsSome (lowest_free (fds_at (opened_at k pid object place) pid))
  installed_somewhere k object None m two = free_found (fds_at k pid) (omega arith)
  installed_somewhere k object (Some e) m two =
      let fds = fds_at k pid in
      let now : fds_at (opened_at k pid object (Some e)) pid ≡ installed fds e = ap fds_of (written (with_fds (installed fds e)) refl k.table pid) ∙ fds_given (installed fds e) (at k.table pid) m.runs in
      subst (λ (l : Descriptors). IsSome (lowest_free l)) (sym now) (free_found (installed fds e) (omega (arith, one_less fds e (lowest_free fds) refl)))

  module _ (k : KernelState S) (after : S) (m : Mid k) where
    both_ends : 2 ≤ free_count (fds_at k pid) → Mid (with_ends k pid k.events)
    both_ends two =
        let new : KernelState S = record k { pipes = with_new k.pipes k.events } in
        open_mid n pid (with_reader k pid k.events) (PipeWrite k.events) (installed_somewhere new (PipeRead k.events) (lowest_free_entry k.entries) m two) (open_mid n pid new (PipeRead k.events) (free_found (fds_at k pid) (omega arith)) m)

    made : (a b c : Bool) → nat_lt (free_count (fds_at k pid)) 2 ≡ b → After (if a then refused_for k pid after Open else (if b then refused_for k pid after Fds else (if c then refused_for k pid after Memory else answered (with_ends k pid k.events) pid after (ends_reply (lowest_free (fds_at k pid)) (lowest_free (fds_at (with_reader k pid k.events) pid))))))
    made true b c is = ready_keeps n k.table k.entries pid after Refused m
    made false true c is = ready_keeps n k.table k.entries pid after Refused m
    made false false true is = ready_keeps n k.table k.entries pid after Refused m
    made false false false is =
        ready_keeps n (with_ends k pid k.events).table (with_ends k pid k.events).entries pid after (ends_reply (lowest_free (fds_at k pid)) (lowest_free (fds_at (with_reader k pid k.events) pid))) (both_ends (ltb-false (free_count (fds_at k pid)) 2 is))

    pub make_pipe_after : (refused : Bool) → After (make_pipe k pid after refused)
    make_pipe_after refused = made (nat_lt (free_count k.entries) 2) (nat_lt (free_count (fds_at k pid)) 2) refused refl
