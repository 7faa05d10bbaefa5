-- Where each node is its own and no slot has an owner, all lists are empty.
use Rattle.std.proofs.Common.{◌≡◌, ℕ, ◌+◌, ◌<◌, List, length, get_or, sym, ap, subst, ◌∙◌, arith}
use Rattle.std.proofs.lemmas.Bool.{ne_eqb}
use Rattle.slot_lists.specs.Links.{Linked, AreLists, has}
use Rattle.slot_lists.proofs.Walks.{own_end}

module _ (next prev owner : List ℕ) (nexts : length next ≡ 136) (prevs : length prev ≡ 136) (owners : length owner ≡ 64) (own_next : (i : ℕ) → i < 136 → get_or next i 0 ≡ i) (own_prev : (i : ℕ) → i < 136 → get_or prev i 0 ≡ i) (none : (i : ℕ) → i < 64 → get_or owner i 0 ≡ 72) where
  pub new_lists : AreLists next prev owner
  new_lists = record {
    nexts = nexts;
    prevs = prevs;
    owners = owners;
    next_linked = λ i linked. subst (λ (k : ℕ). Linked owner k) (sym (own_next i linked.0)) linked;
    prev_linked = λ i linked. subst (λ (k : ℕ). Linked owner k) (sym (own_prev i linked.0)) linked;
    prev_next = λ i linked. ap (λ (k : ℕ). get_or prev k 0) (own_next i linked.0) ∙ own_prev i linked.0;
    next_prev = λ i linked. ap (λ (k : ℕ). get_or next k 0) (own_prev i linked.0) ∙ own_next i linked.0;
    ends = λ h lt. (own_end next h (own_next (64 + h) (omega arith))).1;
    owned = λ h slot lt small. ap (λ (xs : List ℕ). has xs slot) (own_end next h (own_next (64 + h) (omega arith))).0 ∙ sym (ne_eqb (get_or owner slot 0) h (λ same. omega (arith, same, none slot small)));
  }
