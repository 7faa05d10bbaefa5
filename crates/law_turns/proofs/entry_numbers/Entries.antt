-- Entries that are the same under other numbers are so again after each call on them.
use Rattle.std.proofs.Common.{◌≡◌, ◌≢◌, ◌⊎◌, ℕ, zero, suc, ◌+◌, [], ◌∷◌, Option, Some, None, inl, inr, refl, sym, ap, ◌∙◌, arith, get_or-set_other}
use Rattle.std.proofs.Math.ListN.{set}
use Rattle.std.proofs.lemmas.Bool.{cases_eq}
use Rattle.std.proofs.lemmas.List.{set-get_or}
use Rattle.std.proofs.lemmas.List.Sums.{sum_by-set, sum_by-cons}
use Rattle.std.specs.Prelude.{cond, Ok}
use Rattle.fd_table.specs.Entries.{OpenFile, Entries, entry_at, is_free, free_count, more_held, less_held, last_object, moved_on, advanced, going_on_at, moved_to}
use Rattle.fd_table.specs.Descriptors.{Descriptors, holders_in, close_answer, released_by_close, held_by_dup, all_held_from, all_held}
use Rattle.fd_table.proofs.Holding.{entry_at-all_held}
use Rattle.fd_table.proofs.Lists.{within_list}
use Rattle.kernel_model.specs.KernelState.{file_at}
use Rattle.kernel_model.specs.Numbers.{Numbering, AreRenumbered, renumbered_place, renumbered_fds}
use Rattle.law_turns.proofs.entry_numbers.Tables.{same_holders}

-- an entry that was written by what it held
pub changed_entry : (f : Option OpenFile → Option OpenFile) → f None ≡ None → (t : Entries) (e : ℕ) → entry_at (set t e (f (entry_at t e))) e ≡ f (entry_at t e)
changed_entry f free [] e = sym free
changed_entry f free (x ∷ t) zero = refl
changed_entry f free (x ∷ t) (suc e) = changed_entry f free t e

more_free : (n : ℕ) (x : Option OpenFile) → is_free (more_held n x) ≡ is_free x
more_free n None = refl
more_free n (Some f) = refl

free_held_from : (e : ℕ) (t : Entries) (fds : Descriptors) → free_count (all_held_from e t fds) ≡ free_count t
free_held_from e [] fds = refl
free_held_from e (x ∷ t) fds =
    sum_by-cons (λ (y : Option OpenFile). cond {A = ℕ} (is_free y) 1 0) (more_held (holders_in fds e) x) (all_held_from (e + 1) t fds) ∙
    (λ i. cond {A = ℕ} (more_free (holders_in fds e) x i) 1 0 + free_held_from (e + 1) t fds i) ∙ sym (sum_by-cons (λ (y : Option OpenFile). cond {A = ℕ} (is_free y) 1 0) x t)

module _ (n : Numbering) (t u : Entries) (are : AreRenumbered n t u) where
  other_number : (i e : ℕ) → i ≢ e → n.to i ≢ n.to e
  other_number i e ne is = ne (sym (n.there i) ∙ ap n.back is ∙ n.there e)

  -- an entry in use becomes this in both
  free_after : (e : ℕ) (f : OpenFile) (x : Option OpenFile) → entry_at t e ≡ Some f → free_count (set u (n.to e) x) ≡ free_count (set t e x)
  free_after e f x is =
      let is_u : entry_at u (n.to e) ≡ Some f = are.same e ∙ is in
      let one = sum_by-set (λ (y : Option OpenFile). cond {A = ℕ} (is_free y) 1 0) t e x None (within_list t e f is) in
      let two = sum_by-set (λ (y : Option OpenFile). cond {A = ℕ} (is_free y) 1 0) u (n.to e) x None (within_list u (n.to e) f is_u) in
      let used : cond {A = ℕ} (is_free (entry_at u (n.to e))) 1 0 ≡ cond {A = ℕ} (is_free (entry_at t e)) 1 0 = ap (λ (y : Option OpenFile). cond {A = ℕ} (is_free y) 1 0) (are.same e) in
      omega (arith, one, two, used, are.free)

  -- an entry becomes what f makes of it
  changed : (f : Option OpenFile → Option OpenFile) → f None ≡ None → (e : ℕ) → AreRenumbered n (set t e (f (entry_at t e))) (set u (n.to e) (f (entry_at u (n.to e))))
  changed f free e = record { same = λ i. same i (cases_eq i e); free = by (entry_at t e) refl } where
    same : (i : ℕ) → (i ≡ e) ⊎ (i ≢ e) → entry_at (set u (n.to e) (f (entry_at u (n.to e)))) (n.to i) ≡ entry_at (set t e (f (entry_at t e))) i
    same i (inl is) =
        (λ j. entry_at (set u (n.to e) (f (entry_at u (n.to e)))) (n.to (is j))) ∙ changed_entry f free u (n.to e) ∙ ap f (are.same e) ∙ sym (changed_entry f free t e) ∙
        (λ j. entry_at (set t e (f (entry_at t e))) (sym is j))
    same i (inr ne) = get_or-set_other u (n.to e) (n.to i) _ None (other_number i e ne) ∙ are.same i ∙ sym (get_or-set_other t e i _ None ne)

    by : (o : Option OpenFile) → entry_at t e ≡ o → free_count (set u (n.to e) (f (entry_at u (n.to e)))) ≡ free_count (set t e (f (entry_at t e)))
    by None is =
        let stays_u : f (entry_at u (n.to e)) ≡ entry_at u (n.to e) = ap f (are.same e ∙ is) ∙ free ∙ sym (are.same e ∙ is) in
        let stays : f (entry_at t e) ≡ entry_at t e = ap f is ∙ free ∙ sym is in
        ap free_count (ap (λ (x : Option OpenFile). set u (n.to e) x) stays_u ∙ set-get_or u (n.to e) None) ∙ are.free ∙ sym (ap free_count (ap (λ (x : Option OpenFile). set t e x) stays ∙ set-get_or t e None))
    by (Some x) is = ap (λ (y : Option OpenFile). free_count (set u (n.to e) (f y))) (are.same e) ∙ free_after e x (f (entry_at t e)) is

  pub same_file : (o : Option ℕ) → file_at u (renumbered_place n.to o) ≡ file_at t o
  same_file None = refl
  same_file (Some e) = are.same e

  pub same_answer : (o : Option ℕ) → close_answer u (renumbered_place n.to o) ≡ close_answer t o
  same_answer None = refl
  same_answer (Some e) = ap (λ (x : Option OpenFile). Ok (last_object x)) (are.same e)

  pub released_so : (o : Option ℕ) → AreRenumbered n (released_by_close t o) (released_by_close u (renumbered_place n.to o))
  released_so None = are
  released_so (Some e) = changed less_held refl e

  pub dup_so : (o place : Option ℕ) → AreRenumbered n (held_by_dup t o place) (held_by_dup u (renumbered_place n.to o) place)
  dup_so None place = are
  dup_so (Some e) None = are
  dup_so (Some e) (Some place) = changed (more_held 1) refl e

  pub advanced_so : (e m : ℕ) → AreRenumbered n (advanced t e m) (advanced u (n.to e) m)
  advanced_so e m = changed (moved_on m) refl e

  pub moved_so : (e m : ℕ) → AreRenumbered n (moved_to t e m) (moved_to u (n.to e) m)
  moved_so e m = changed (going_on_at m) refl e

  pub all_held_so : (fds : Descriptors) → AreRenumbered n (all_held t fds) (all_held u (renumbered_fds n.to fds))
  all_held_so fds =
      record {
        same = λ e. entry_at-all_held u (renumbered_fds n.to fds) (n.to e) ∙ (λ i. more_held (same_holders n fds e i) (are.same e i)) ∙ sym (entry_at-all_held t fds e);
        free = free_held_from 0 u (renumbered_fds n.to fds) ∙ are.free ∙ sym (free_held_from 0 t fds);
      }
