-- The counts of wc are no greater than the number of bytes.
use Rattle.std.proofs.Common.{◌≡◌, ℕ, ◌<◌, ◌≤◌, ◌+◌, ◌^◌, ◌==◌, ◌&&◌, not, Bool, true, false, cond, [], ◌∷◌, length, arith}
use Rattle.std.proofs.lemmas.List.Sums.{count_by-le-length}
use Rattle.sh_lexer.specs.Tokens.{is_white}
use Rattle.mem_files.specs.Name.{Bytes}
use Rattle.prog_parts.specs.Wc.{capped, line_ends, words, words_after}

one_more : (b : Bool) (n m : ℕ) → n ≤ m → cond b 1 0 + n ≤ 1 + m
one_more true n m few = omega arith
one_more false n m few = omega arith

words_few : (inside : Bool) (bytes : Bytes) → words_after inside bytes ≤ length bytes
words_few inside [] = omega arith
words_few inside (b ∷ bytes) =
    let more = one_more (not inside && not (is_white b)) (words_after (not (is_white b)) bytes) (length bytes) (words_few (not (is_white b)) bytes) in omega (arith, more)

small : (n : ℕ) → n < 2 ^ 128 → capped n ≡ n
small n below = omega arith

pub ends_exact : (bytes : Bytes) → length bytes < 2 ^ 128 → capped (line_ends bytes) ≡ line_ends bytes
ends_exact bytes below = small (line_ends bytes) (omega (arith, count_by-le-length (λ byte. byte == 10) bytes))

pub words_exact : (bytes : Bytes) → length bytes < 2 ^ 128 → capped (words bytes) ≡ words bytes
words_exact bytes below = small (words bytes) (omega (arith, words_few false bytes))

pub bytes_exact : (bytes : Bytes) → length bytes < 2 ^ 128 → capped (length bytes) ≡ length bytes
bytes_exact bytes below = small (length bytes) below
