-- The counts of bytes that stand in two parts.
use Rattle.std.proofs.Common.{◌≡◌, ℕ, ◌+◌, ◌==◌, Bool, [], ◌∷◌, ◌++◌, refl, arith}
use Rattle.std.specs.Prelude.{not, if◌then◌else◌}
use Rattle.std.proofs.lemmas.List.Sums.{sum_by-append}
use Rattle.sh_lexer.specs.Tokens.{is_white}
use Rattle.mem_files.specs.Name.{Bytes}
use Rattle.prog_parts.specs.Wc.{line_ends, words_after, ends_inside}

pub line_ends_more : (bytes more : Bytes) → line_ends (bytes ++ more) ≡ line_ends bytes + line_ends more
line_ends_more bytes more = sum_by-append (λ (byte : ℕ). if byte == 10 then 1 else 0) bytes more

pub words_more : (inside : Bool) (bytes more : Bytes) → words_after inside (bytes ++ more) ≡ words_after inside bytes + words_after (ends_inside inside bytes) more
words_more inside [] more = omega arith
words_more inside (b ∷ bytes) more =
    let ih = words_more (not (is_white b)) bytes more in omega (arith, ih)

pub ends_more : (inside : Bool) (bytes more : Bytes) → ends_inside inside (bytes ++ more) ≡ ends_inside (ends_inside inside bytes) more
ends_more inside [] more = refl
ends_more inside (b ∷ bytes) more = ends_more (not (is_white b)) bytes more
