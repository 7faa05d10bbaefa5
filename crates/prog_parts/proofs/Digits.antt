-- The digits of a count.
use Rattle.std.proofs.Common.{◌≡◌, ℕ, ◌+◌, ◌-◌, ◌*◌, ◌<◌, ◌≤◌, ◌^◌, nat_le, true, [], ◌∷◌, length, take, get_or, sym, ◌∙◌, ap, arith, rules}
use Rattle.std.proofs.lemmas.Bool.Decides.{nat_tests}
use Rattle.std.specs.List.{list_all}
use Rattle.std.specs.Char.{digit_value}
use Rattle.std.specs.Str.Parse.{AllDigits, digits_value}
use Rattle.std.proofs.lemmas.Int.Digits.{digits_value-lt, digits_value_more}
use Rattle.std.proofs.lemmas.Str.Parse.{digits_value-take-le, digit_at}
use Rattle.std.proofs.Math.Nat.{pow-le-pow_right}
use Rattle.prog_parts.specs.Head.{is_digit, are_count_digits}
use Rattle.mem_files.specs.Name.{Bytes}

digit_small : (c : ℕ) → is_digit c ≡ true → digit_value c < 10
digit_small c is = grind (arith, nat_tests)

all_digits : (ds : Bytes) → list_all is_digit ds ≡ true → AllDigits 10 ds
all_digits [] all = tt
all_digits (d ∷ ds) all = let both : (is_digit d ≡ true) × (list_all is_digit ds ≡ true) = search rules in (digit_small d both.0, all_digits ds both.1)

count_digits : (ds : Bytes) → are_count_digits ds ≡ true → (length ds ≤ 9) × AllDigits 10 ds
count_digits ds count =
    let parts : (nat_le 1 (length ds) ≡ true) × ((nat_le (length ds) 9 ≡ true) × (list_all is_digit ds ≡ true)) = search rules in
    (grind (arith, nat_tests), all_digits ds parts.1.1)

digit_is : (c : ℕ) → 48 ≤ c → c ≤ 57 → digit_value c ≡ c - 48
digit_is c low high = grind (arith, nat_tests)

-- one digit more, and no more than nine
pub one_digit : (ds : Bytes) (i : ℕ) → are_count_digits ds ≡ true → i < length ds → (digits_value 10 (take i ds) * 10 + (get_or ds i 0 - 48) ≡ digits_value 10 (take (i + 1) ds)) × (digits_value 10 (take (i + 1) ds) < 1000000000)
one_digit ds i count inside =
    let all = count_digits ds count in
    let digit = digit_at ds i all.1 inside in
    let more = digits_value_more 10 ds i inside in
    let whole : digits_value 10 (take (i + 1) ds) ≤ digits_value 10 ds = digits_value-take-le 10 ds (i + 1) (omega arith) in
    let small : digits_value 10 ds < 10 ^ length ds = digits_value-lt 10 ds all.1 in
    let power : 10 ^ length ds ≤ 10 ^ 9 = pow-le-pow_right (omega arith) all.0 in
    (ap (λ d. digits_value 10 (take i ds) * 10 + d) (sym (digit_is (get_or ds i 0) digit.0 digit.1)) ∙ sym more, omega arith)
