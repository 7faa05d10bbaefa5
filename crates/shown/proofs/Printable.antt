-- What is shown is printable.
use Rattle.std.proofs.Common.{◌≡◌, ℕ, ◌<◌, ◌/◌, ◌%◌, ◌==◌, Bool, true, false, ◌&&◌, ◌||◌, rules, nat_lt, if◌then◌else◌, List, [], ◌∷◌, All, refl, sym, ◌∙◌, ap, arith}
use Rattle.std.specs.Prelude.{codes, nat_le}
use Rattle.std.specs.List.{list_all}
use Rattle.std.proofs.lemmas.List.Folds.{list_all-append, list_all_at}
use Rattle.std.proofs.lemmas.List.Elements.{All-head, All-tail}
use Rattle.std.proofs.lemmas.Grind.{common_steps}
use Rattle.shown.specs.Shown.{digit, is_printable, shown_byte, shown, is_name_text, shown_name_byte, shown_name}

is_true : (b : Bool) → (b ≡ false → true ≡ false) → b ≡ true
is_true true not_false = refl
is_true false not_false = sym (not_false refl)

digit_printable : (number : ℕ) → number < 16 → is_printable (digit number) ≡ true
digit_printable number below = is_true (is_printable (digit number)) (λ is. list_all_at is_printable (codes "0123456789abcdef") number 0 below is)

either : (b : Bool) (xs ys : List ℕ) → list_all is_printable xs ≡ true → list_all is_printable ys ≡ true → list_all is_printable (if b then xs else ys) ≡ true
either true xs ys one other = one
either false xs ys one other = other

itself : (byte : ℕ) (b : Bool) (ys : List ℕ) → is_printable byte ≡ b → list_all is_printable ys ≡ true → list_all is_printable (if b then byte ∷ [] else ys) ≡ true
itself byte true ys is other = grind arith
itself byte false ys is other = other

pub byte_printable : (byte : ℕ) → byte < 256 → list_all is_printable (shown_byte byte) ≡ true
byte_printable byte below =
    let high : is_printable (digit (byte / 16)) ≡ true = digit_printable (byte / 16) (omega arith) in
    let low : is_printable (digit (byte % 16)) ≡ true = digit_printable (byte % 16) (omega arith) in
    either (byte == 10) _ _ refl (either (byte == 13) _ _ refl (either (byte == 9) _ _ refl (either (byte == 92) _ _ refl
    (itself byte (is_printable byte) _ refl (grind (arith, high, low))))))

pub all_printable : (bytes : List ℕ) → All (λ byte. byte < 256) bytes → list_all is_printable (shown bytes) ≡ true
all_printable [] are = refl
all_printable (byte ∷ bytes) are =
    list_all-append is_printable (shown_byte byte) (shown bytes) ∙ ap (λ b. b && list_all is_printable (shown bytes)) (byte_printable byte (All-head (λ b. b < 256) byte bytes are)) ∙ all_printable bytes (All-tail (λ b. b < 256) byte bytes are)

both : (b c d e : Bool) → (b && c) ≡ true → (c ≡ true → e ≡ true) → ((b || d) && e) ≡ true
both true c d e are rest = rest are
both false c d e are rest = absurd (search (rules, are))

of_name : (byte : ℕ) (b : Bool) → nat_lt byte 128 ≡ b → list_all is_name_text (shown_byte byte) ≡ true → list_all is_name_text (if b then shown_byte byte else byte ∷ []) ≡ true
of_name byte true is shown_so = shown_so
of_name byte false is shown_so = grind (arith, common_steps)

-- printable bytes are bytes of a shown name
may_stand : (bytes : List ℕ) → list_all is_printable bytes ≡ true → list_all is_name_text bytes ≡ true
may_stand [] are = refl
may_stand (byte ∷ bytes) are = both (is_printable byte) (list_all is_printable bytes) (nat_le 128 byte) (list_all is_name_text bytes) are (may_stand bytes)

name_byte_readable : (byte : ℕ) → byte < 256 → list_all is_name_text (shown_name_byte byte) ≡ true
name_byte_readable byte below = of_name byte (nat_lt byte 128) refl (may_stand (shown_byte byte) (byte_printable byte below))

pub all_readable : (name : List ℕ) → All (λ byte. byte < 256) name → list_all is_name_text (shown_name name) ≡ true
all_readable [] are = refl
all_readable (byte ∷ name) are =
    list_all-append is_name_text (shown_name_byte byte) (shown_name name) ∙ ap (λ b. b && list_all is_name_text (shown_name name)) (name_byte_readable byte (All-head (λ b. b < 256) byte name are)) ∙ all_readable name (All-tail (λ b. b < 256) byte name are)
