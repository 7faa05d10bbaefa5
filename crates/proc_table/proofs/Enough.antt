-- There is a list for each channel: where all were in use, a sleeper would stand in each, and the slot that comes in none.
use Rattle.std.proofs.Common.{◌≡◌, ◌≢◌, ℕ, zero, suc, ◌<◌, ◌≤◌, List, [], ◌∷◌, Bool, true, false, Option, Some, None, length, refl, sym, ap, subst, ◌∙◌, arith}
use Rattle.std.proofs.lemmas.Bool.{eqb-true}
use Rattle.std.proofs.lemmas.Map.Steps.{length-le_from_distinct_below}
use Rattle.std.specs.List.{IsDistinct}
use Rattle.std.specs.Prelude.{◌==◌, ◌||◌, nat_eq}
use Rattle.slot_lists.specs.Links.{has}
use Rattle.slot_lists.proofs.Walks.{all_apart}
use Rattle.proc_table.specs.declared.heads.Head.{Head}
use Rattle.proc_table.specs.declared.states.Channel.{Channel}
use Rattle.proc_table.specs.Heads.{head_at}
use Rattle.proc_table.specs.Channels.{channel_of}
use Rattle.proc_table.specs.Queues.{AreQueued, IsUsed, Queues, sleepers_of, sleeps_on}
use Rattle.proc_table.proofs.Queueing.{nobody_sleeps, one_channel}

module _ (heads : List (Option Head)) (queues : Queues) (queued : AreQueued heads queues) (full : (list : ℕ) → list < 64 → channel_of queues.channels list ≢ None) where
  some : (list : ℕ) → list < 64 → IsUsed queues.lists list
  some list lt = by (channel_of queues.channels list) refl where
    by : (x : Option Channel) → channel_of queues.channels list ≡ x → IsUsed queues.lists list
    by None is = absurd (full list lt is)
    by (Some channel) is = queued.used list channel is

  -- of so many lists a sleeper each, none twice
  seats : (n : ℕ) → n ≤ 64 → (xs : List ℕ) × (length xs ≡ n) × IsDistinct nat_eq xs × ((x : ℕ) → has xs x ≡ true → (list : ℕ) × (list < n) × (x < 64) × (has (sleepers_of queues.lists list) x ≡ true))
  unfolding IsDistinct
  seats zero le = ([], refl, tt, λ x is. absurd (let no : ⊥ = cc in no))
  seats (suc n) le =
      let rest = seats n (omega arith) in
      let u = some n (omega arith) in
      (u.0 ∷ rest.0, ap suc rest.1, (all_apart u.0 rest.0 (fresh rest.0 rest.3 u (has rest.0 u.0) refl), rest.2), λ x is. of rest.0 rest.3 u x (x == u.0) refl is)
    where
      Seated : List ℕ → Type 0
      Seated xs = (x : ℕ) → has xs x ≡ true → (list : ℕ) × (list < n) × (x < 64) × (has (sleepers_of queues.lists list) x ≡ true)

      fresh : (xs : List ℕ) → Seated xs → (u : IsUsed queues.lists n) (b : Bool) → has xs u.0 ≡ b → has xs u.0 ≡ false
      fresh xs seated u false is = is
      fresh xs seated u true is =
          let s = seated u.0 is in
          let both = one_channel (channel_of queues.channels s.0) (channel_of queues.channels n) (head_at heads u.0)
          (sym (queued.standing.asleep s.0 u.0 (omega (arith, s.1, le)) s.2) ∙ s.3) (sym (queued.standing.asleep n u.0 (omega arith) u.1) ∙ u.2) in
          absurd (omega (arith, queued.standing.once s.0 n both.0 both.1 both.2, s.1))

      of : (xs : List ℕ) → Seated xs → (u : IsUsed queues.lists n) (x : ℕ) (b : Bool) → (x == u.0) ≡ b → (b || has xs x) ≡ true → (list : ℕ) × (list < suc n) × (x < 64) × (has (sleepers_of queues.lists list) x ≡ true)
      of xs seated u x true test is =
          let same : x ≡ u.0 = eqb-true x u.0 test in
          (n, omega arith, subst (λ (s : ℕ). s < 64) (sym same) u.1, ap (has (sleepers_of queues.lists n)) same ∙ u.2)
      of xs seated u x false test is = let s = seated x is in (s.0, omega (arith, s.1), s.2, s.3)

  pub never_full : (slot : ℕ) → slot < 64 → head_at heads slot ≡ None → ⊥
  unfolding IsDistinct
  never_full slot small free =
      let all = seats 64 (omega arith) in
      let many : length (slot ∷ all.0) ≤ 64 = length-le_from_distinct_below (slot ∷ all.0) 64 (all_apart slot all.0 (apart all.0 all.3 (has all.0 slot) refl), all.2) (λ x is. below all.0 all.3 x (x == slot) refl is) in
      omega (arith, many, all.1)
    where
      Seated : List ℕ → Type 0
      Seated xs = (x : ℕ) → has xs x ≡ true → (list : ℕ) × (list < 64) × (x < 64) × (has (sleepers_of queues.lists list) x ≡ true)

      apart : (xs : List ℕ) → Seated xs → (b : Bool) → has xs slot ≡ b → has xs slot ≡ false
      apart xs seated false is = is
      apart xs seated true is =
          let s = seated slot is in
          absurd (let no : false ≡ true = sym (ap (sleeps_on (channel_of queues.channels s.0)) free ∙ nobody_sleeps (channel_of queues.channels s.0)) ∙ sym (queued.standing.asleep s.0 slot s.1 small) ∙ s.3 in let not : ⊥ = cc in not)

      below : (xs : List ℕ) → Seated xs → (x : ℕ) (b : Bool) → (x == slot) ≡ b → (b || has xs x) ≡ true → x < 64
      below xs seated x true test is = subst (λ (s : ℕ). s < 64) (sym (eqb-true x slot test)) small
      below xs seated x false test is = (seated x is).2
