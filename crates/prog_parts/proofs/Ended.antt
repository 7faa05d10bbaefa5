-- The first ended line of some bytes, and what grep makes of it.
use Rattle.std.proofs.Common.{◌≡◌, ◌≢◌, ℕ, ◌==◌, true, false, Bool, cond, [], ◌∷◌, ◌++◌, length, drop, refl, sym, ◌∙◌, ap, arith, append_assoc}
use Rattle.std.proofs.lemmas.Bool.Decides.{nat_tests}
use Rattle.std.specs.Prelude.{filter, take_while}
use Rattle.std.proofs.lemmas.List.{append-nil}
use Rattle.std.proofs.lemmas.List.Sums.{take_while-cons}
use Rattle.grep_match.specs.Match.{matches}
use Rattle.mem_files.specs.Name.{Bytes}
use Rattle.prog_parts.specs.Lines.{HasNoLf}
use Rattle.prog_parts.specs.Grep.{longer, ended_lines, is_whole, tested, with_ends, grep_out, untested}
use Rattle.prog_parts.proofs.Cuts.{all_tail}

not_lf : (b : ℕ) (bytes : Bytes) → HasNoLf (b ∷ bytes) → (b == 10) ≡ false
not_lf b bytes none = let other : b ≢ 10 = none 0 0 (omega arith) in grind (arith, nat_tests)

pub ended_none : (bytes : Bytes) → HasNoLf bytes → ended_lines bytes ≡ []
ended_none [] none = refl
ended_none (b ∷ bytes) none =
    ap (λ is. cond is ([] ∷ ended_lines bytes) (longer b (ended_lines bytes))) (not_lf b bytes none)
    ∙ ap (longer b) (ended_none bytes (all_tail (λ c. c ≢ 10) b bytes none))

pub ended_one : (line rest : Bytes) → HasNoLf line → ended_lines (line ++ 10 ∷ rest) ≡ line ∷ ended_lines rest
ended_one [] rest none = refl
ended_one (b ∷ line) rest none =
    ap (λ is. cond is ([] ∷ ended_lines (line ++ 10 ∷ rest)) (longer b (ended_lines (line ++ 10 ∷ rest)))) (not_lf b line none)
    ∙ ap (longer b) (ended_one line rest (all_tail (λ c. c ≢ 10) b line none))

pub tested_none : (bytes : Bytes) → HasNoLf bytes → tested bytes ≡ []
tested_none bytes none = ap (take_while is_whole) (ended_none bytes none)

pub tested_one : (line rest : Bytes) (b : Bool) → HasNoLf line → is_whole line ≡ b → tested (line ++ 10 ∷ rest) ≡ cond b (line ∷ tested rest) []
tested_one line rest b none whole =
    ap (take_while is_whole) (ended_one line rest none) ∙ take_while-cons is_whole line (ended_lines rest) ∙ ap (λ is. cond is (line ∷ tested rest) []) whole

drop_line : (line w rest : Bytes) → drop (length (line ++ 10 ∷ w)) (line ++ 10 ∷ rest) ≡ drop (length w) rest
drop_line [] w rest = refl
drop_line (b ∷ line) w rest = drop_line line w rest

-- without an ended line nothing is written
pub out_none : (pattern bytes : Bytes) → HasNoLf bytes → grep_out pattern bytes ≡ []
out_none pattern bytes none = ap (λ ls. with_ends (filter (matches pattern) ls)) (tested_none bytes none)

pub untested_none : (bytes : Bytes) → HasNoLf bytes → untested bytes ≡ bytes
untested_none bytes none = ap (λ ls. drop (length (with_ends ls)) bytes) (tested_none bytes none)

-- before a line that is not whole, too
pub out_stop : (pattern line rest : Bytes) → HasNoLf line → is_whole line ≡ false → grep_out pattern (line ++ 10 ∷ rest) ≡ []
out_stop pattern line rest none whole = ap (λ ls. with_ends (filter (matches pattern) ls)) (tested_one line rest false none whole)

pub untested_stop : (line rest : Bytes) → HasNoLf line → is_whole line ≡ false → untested (line ++ 10 ∷ rest) ≡ line ++ 10 ∷ rest
untested_stop line rest none whole = ap (λ ls. drop (length (with_ends ls)) (line ++ 10 ∷ rest)) (tested_one line rest false none whole)

-- a whole line is tested, and then the rest
pub out_line : (pattern line rest : Bytes) → HasNoLf line → is_whole line ≡ true → matches pattern line ≡ true → grep_out pattern (line ++ 10 ∷ rest) ≡ line ++ 10 ∷ grep_out pattern rest
out_line pattern line rest none whole is =
    ap (λ ls. with_ends (filter (matches pattern) ls)) (tested_one line rest true none whole)
    ∙ ap (λ b. with_ends (cond b (line ∷ filter (matches pattern) (tested rest)) (filter (matches pattern) (tested rest)))) is

pub out_other : (pattern line rest : Bytes) → HasNoLf line → is_whole line ≡ true → matches pattern line ≡ false → grep_out pattern (line ++ 10 ∷ rest) ≡ grep_out pattern rest
out_other pattern line rest none whole is =
    ap (λ ls. with_ends (filter (matches pattern) ls)) (tested_one line rest true none whole)
    ∙ ap (λ b. with_ends (cond b (line ∷ filter (matches pattern) (tested rest)) (filter (matches pattern) (tested rest)))) is

pub untested_line : (line rest : Bytes) → HasNoLf line → is_whole line ≡ true → untested (line ++ 10 ∷ rest) ≡ untested rest
untested_line line rest none whole =
    ap (λ ls. drop (length (with_ends ls)) (line ++ 10 ∷ rest)) (tested_one line rest true none whole)
    ∙ drop_line line (with_ends (tested rest)) rest

-- a line that matches is written with its LF, and the rest follows
pub on_match : (pattern line after rest out new whole : Bytes) → HasNoLf line → rest ≡ line ++ 10 ∷ after → is_whole line ≡ true → matches pattern line ≡ true → new ≡ (out ++ line) ++ 10 ∷ [] → out ++ grep_out pattern rest ≡ whole → new ++ grep_out pattern after ≡ whole
on_match pattern line after rest out new whole none cut fits is written so_far =
    ap (λ o. o ++ grep_out pattern after) written
    ∙ append_assoc (out ++ line) (10 ∷ []) (grep_out pattern after)
    ∙ append_assoc out line (10 ∷ grep_out pattern after)
    ∙ ap (λ o. out ++ o) (sym (out_line pattern line after none fits is) ∙ ap (grep_out pattern) (sym cut))
    ∙ so_far

pub on_other : (pattern line after rest out whole : Bytes) → HasNoLf line → rest ≡ line ++ 10 ∷ after → is_whole line ≡ true → matches pattern line ≡ false → out ++ grep_out pattern rest ≡ whole → out ++ grep_out pattern after ≡ whole
on_other pattern line after rest out whole none cut fits is so_far =
    ap (λ o. out ++ o) (sym (out_other pattern line after none fits is) ∙ ap (grep_out pattern) (sym cut)) ∙ so_far

pub on_line : (line after rest whole : Bytes) → HasNoLf line → rest ≡ line ++ 10 ∷ after → is_whole line ≡ true → untested rest ≡ whole → untested after ≡ whole
on_line line after rest whole none cut fits so_far = sym (untested_line line after none fits) ∙ ap untested (sym cut) ∙ so_far

-- nothing more is written
pub at_end : (pattern rest out whole : Bytes) → grep_out pattern rest ≡ [] → out ++ grep_out pattern rest ≡ whole → out ≡ whole
at_end pattern rest out whole nothing so_far = sym (ap (λ o. out ++ o) nothing ∙ append-nil out) ∙ so_far
