-- A call names at most one pipe more, by its event, so that alike kernels stay alike.
use Rattle.std.proofs.Common.{◌≡◌, ℕ, zero, suc, ◌+◌, ◌≤◌, ◌<◌, Bool, true, false, refl, sym, ap, ◌∙◌, arith}
use Rattle.std.proofs.lemmas.Bool.{eq-eqb, eqb-true, lt-ltb, le-ltb, ltb-false, ltb-true}
use Rattle.std.specs.Prelude.{◌==◌, nat_lt}
use Rattle.user_calls.specs.declared.calls.Call.{Call}
use Rattle.kernel_model.specs.KernelState.{KernelState}
use Rattle.kernel_model.specs.Events.{acted}
use Rattle.kernel_model.specs.Idle.{idle_kernel}
use Rattle.kernel_model.specs.Alike.{Alike, IsOneToOne, HasNamesUpTo}
use Rattle.law_turns.proofs.orders.Calls.{acted_idle}

-- larger than each name that is given up to n
unfoldable pub past_all : (ℕ → ℕ) → ℕ → ℕ
past_all name zero = name 0 + 1
past_all name (suc n) = past_all name n + name (suc n) + 1

pub is_past_all : (name : ℕ → ℕ) (n id : ℕ) → id ≤ n → name id < past_all name n
unfolding past_all
is_past_all name zero zero le = omega arith
is_past_all name zero (suc id) le = absurd (omega arith)
is_past_all name (suc n) id le = by (nat_lt id (suc n)) refl (is_past_all name n id) where
  by : (b : Bool) → nat_lt id (suc n) ≡ b → (id ≤ n → name id < past_all name n) → name id < past_all name n + name (suc n) + 1
  by true is before = let lt = ltb-true id (suc n) is in let h = before (omega (arith, lt)) in omega (arith, h)
  by false is before = let same : id ≡ suc n = omega (arith, ltb-false id (suc n) is) in omega (arith, ap name same)

-- a name that extends another one: up to `last` as before, `now` for the new pipe, and for all others something past `now`
abbrev pub by_age : (ℕ → ℕ) → ℕ → ℕ → Bool → Bool → ℕ
by_age name now id true is_new = name id
by_age name now id false true = now
by_age name now id false false = now + 1 + id

abbrev pub extended : (ℕ → ℕ) → ℕ → ℕ → ℕ → ℕ → ℕ
extended name last new now id = by_age name now id (nat_lt id (last + 1)) (id == new)

module _ (name : ℕ → ℕ) (last new now : ℕ) where
  abbrev Name : ℕ → ℕ
  Name id = extended name last new now id

  extended_one_by : IsOneToOne name → ((id : ℕ) → id ≤ last → name id < now) → (a b : ℕ) (ua na ub nb : Bool) → nat_lt a (last + 1) ≡ ua → (a == new) ≡ na → nat_lt b (last + 1) ≡ ub → (b == new) ≡ nb → by_age name now a ua na ≡ by_age name now b ub nb → a ≡ b
  extended_one_by one low a b true na true nb ia ja ib jb is = one a b is
  extended_one_by one low a b true na false true ia ja ib jb is = let lt = ltb-true a (last + 1) ia in let h = low a (omega (arith, lt)) in absurd (omega (arith, h, is))
  extended_one_by one low a b true na false false ia ja ib jb is = let lt = ltb-true a (last + 1) ia in let h = low a (omega (arith, lt)) in absurd (omega (arith, h, is))
  extended_one_by one low a b false true true nb ia ja ib jb is = let lt = ltb-true b (last + 1) ib in let h = low b (omega (arith, lt)) in absurd (omega (arith, h, is))
  extended_one_by one low a b false true false true ia ja ib jb is = eqb-true a new ja ∙ sym (eqb-true b new jb)
  extended_one_by one low a b false true false false ia ja ib jb is = absurd (omega (arith, is))
  extended_one_by one low a b false false true nb ia ja ib jb is = let lt = ltb-true b (last + 1) ib in let h = low b (omega (arith, lt)) in absurd (omega (arith, h, is))
  extended_one_by one low a b false false false true ia ja ib jb is = absurd (omega (arith, is))
  extended_one_by one low a b false false false false ia ja ib jb is = omega (arith, is)

  pub extended_one : IsOneToOne name → ((id : ℕ) → id ≤ last → name id < now) → IsOneToOne Name
  extended_one one low a b is = extended_one_by one low a b (nat_lt a (last + 1)) (a == new) (nat_lt b (last + 1)) (b == new) refl refl refl refl is

  pub extended_old : (id : ℕ) → id ≤ last → Name id ≡ name id
  extended_old id le = ap (λ (u : Bool). by_age name now id u (id == new)) (lt-ltb id (last + 1) (omega arith))

  pub extended_new : last < new → Name new ≡ now
  extended_new later = ap (λ (u : Bool). by_age name now new u (new == new)) (le-ltb new (last + 1) (omega arith)) ∙ ap (by_age name now new false) (eq-eqb new new refl)

pub more_names : {S : Type 0} (k : KernelState S) (m n : ℕ) → m ≤ n → HasNamesUpTo m k → HasNamesUpTo n k
more_names k m n le names f g one two agree = names f g one two (λ id is. agree id (omega arith))

-- the only name that a call adds is that of its event
pub acted_names : {S : Type 0} (k : KernelState S) (pid : ℕ) (after : S) (call : Call) (refused : Bool) → HasNamesUpTo k.events k → HasNamesUpTo k.events (acted k pid after call refused)
acted_names k pid after call refused names f g one two agree =
    let before : idle_kernel f (f k.events) k ≡ idle_kernel g (g k.events) k = λ i. record (names f g one two agree i) { events = agree k.events (omega arith) i } in
    let seen : idle_kernel f (f k.events) (acted k pid after call refused) ≡ idle_kernel g (g k.events) (acted k pid after call refused) =
    sym (acted_idle f one (f k.events) pid after k call refused refl) ∙ ap (λ (l : KernelState _). acted l pid after call refused) before ∙ acted_idle g two (g k.events) pid after k call refused refl in
    λ i. record (seen i) { events = 0 }

-- the same call in two kernels that are alike, each of which names only pipes of earlier events
pub acted_alike : {S : Type 0} (k l : KernelState S) (m n pid : ℕ) (after : S) (c : Call) (refused : Bool) → HasNamesUpTo m k → HasNamesUpTo n l → m < k.events → n < l.events → Alike k l → Alike (acted k pid after c refused) (acted l pid after c refused)
acted_alike k l m n pid after c refused names names_too later later_too a =
    let now : ℕ = past_all a.first m + past_all a.second n in
    let f : ℕ → ℕ = extended a.first m k.events now in
    let g : ℕ → ℕ = extended a.second n l.events now in
    let f_one : IsOneToOne f = extended_one a.first m k.events now a.first_one_to_one (λ id le. (let h = is_past_all a.first m id le in omega (arith, h))) in
    let g_one : IsOneToOne g = extended_one a.second n l.events now a.second_one_to_one (λ id le. (let h = is_past_all a.second n id le in omega (arith, h))) in
    let f_new : f k.events ≡ now = extended_new a.first m k.events now later in
    let g_new : g l.events ≡ now = extended_new a.second n l.events now later_too in
    let before : idle_kernel f 0 k ≡ idle_kernel g 0 l =
    names f a.first f_one a.first_one_to_one (extended_old a.first m k.events now) ∙ a.same ∙ sym (names_too g a.second g_one a.second_one_to_one (extended_old a.second n l.events now)) in
    let both : idle_kernel f now (acted k pid after c refused) ≡ idle_kernel g now (acted l pid after c refused) =
    sym (acted_idle f f_one now pid after k c refused (sym f_new)) ∙ (λ i. acted (record (before i) { events = now }) pid after c refused) ∙ acted_idle g g_one now pid after l c refused (sym g_new) in
    record { first = f; second = g; first_one_to_one = f_one; second_one_to_one = g_one; same = λ i. record (both i) { events = 0 } }
