-- grep's buffer and the bytes that follow it.
use Rattle.std.proofs.Common.{◌≡◌, ◌≢◌, ◌∙◌, ◌⊎◌, inl, inr, ℕ, zero, suc, ◌+◌, ◌-◌, ◌<◌, ◌≤◌, ◌==◌, Bool, true, false, [], ◌∷◌, ◌++◌, length, drop, nat_le, refl, sym, ap, subst, arith, append_assoc}
use Rattle.std.specs.Prelude.{filter, if◌then◌else◌}
use Rattle.std.proofs.lemmas.Bool.{eqb-true}
use Rattle.std.proofs.lemmas.Bool.Decides.{nat_tests}
use Rattle.std.proofs.lemmas.List.{take_all, length-append, drop_all, append-nil}
use Rattle.std.proofs.Math.Seq.{drop-append_seam}
use Rattle.mem_files.specs.Name.{Name, Bytes}
use Rattle.grep_match.specs.Match.{matches}
use Rattle.prog_parts.specs.Lines.{HasNoLf}
use Rattle.prog_parts.specs.Grep.{is_whole, tested, with_ends, grep_out, grep_left}
use Rattle.prog_parts.proofs.Cuts.{all_tail}
use Rattle.user_calls.specs.Limits.{block_size}
use Rattle.user_progs.specs.State.{searching, grep_reads}
use Rattle.user_progs.specs.Turn.{yields, Step, reads, finishes, block, grep_lines, grep_goes_on, grep_got}
use Rattle.tree_model.specs.Alone.{Takes}
use Rattle.prog_parts.proofs.Ended.{tested_none, tested_one, out_line, out_other, untested_line}
use Rattle.user_progs.proofs.Buffer.{at_match, at_other}
use Rattle.law_trees.proofs.programs.Work.{Kept, left_over}

-- some bytes have no LF, or a first one
abbrev Cut : Bytes → Type 0
Cut bytes = HasNoLf bytes ⊎ ((line : Bytes) × (rest : Bytes) × HasNoLf line × (bytes ≡ line ++ 10 ∷ rest))

no_lf_more : (b : ℕ) (bytes : Bytes) → (b == 10) ≡ false → HasNoLf bytes → HasNoLf (b ∷ bytes)
no_lf_more b bytes e none zero d inside = λ is. grind (arith, nat_tests)
no_lf_more b bytes e none (suc k) d inside = none k d (omega (arith, inside))

first_cut : (bytes : Bytes) → Cut bytes
first_cut [] = inl (λ k d inside. absurd (omega (arith, inside)))
first_cut (b ∷ bytes) = go (b == 10) refl (first_cut bytes)
  where
    go : (is : Bool) → (b == 10) ≡ is → Cut bytes → Cut (b ∷ bytes)
    go true e cut = inr ([], bytes, (λ k d inside. absurd (omega (arith, inside))), ap (λ (c : ℕ). c ∷ bytes) (eqb-true b 10 e))
    go false e (inl none) = inl (no_lf_more b bytes e none)
    go false e (inr (line, rest, none, cut)) = inr (b ∷ line, rest, no_lf_more b line e none, ap (λ (z : Bytes). b ∷ z) cut)

-- a property of bytes holds where it holds without a line to test, and of a whole line and bytes of which it holds
pub by_lines : (Q : Bytes → Type 0) → ((bytes : Bytes) → tested bytes ≡ [] → Q bytes) →
    ((line rest : Bytes) → HasNoLf line → is_whole line ≡ true → Q rest → Q (line ++ 10 ∷ rest)) → (n : ℕ) (bytes : Bytes) → length bytes ≤ n → Q bytes
by_lines Q none more zero [] few = none [] refl
by_lines Q none more zero (b ∷ bytes) few = absurd (omega (arith, few))
by_lines Q none more (suc n) bytes few = go (first_cut bytes) (λ rest fewer. by_lines Q none more n rest fewer)
  where
    whole : (line rest : Bytes) → HasNoLf line → bytes ≡ line ++ 10 ∷ rest → ((rest : Bytes) → length rest ≤ n → Q rest) → (is : Bool) → is_whole line ≡ is → Q bytes
    whole line rest no_lf cut again true is =
        subst Q (sym cut) (more line rest no_lf is (again rest (omega (arith, few, ap length cut, length-append line (10 ∷ rest)))))
    whole line rest no_lf cut again false is = none bytes (ap tested cut ∙ tested_one line rest false no_lf is)

    go : Cut bytes → ((rest : Bytes) → length rest ≤ n → Q rest) → Q bytes
    go (inl no_lf) again = none bytes (tested_none bytes no_lf)
    go (inr (line, rest, no_lf, cut)) again = whole line rest no_lf cut again (is_whole line) refl

-- bytes without a line to test, as many as fill the buffer, and what follows them
longer_line : (bytes line rest left : Bytes) → HasNoLf bytes → bytes ++ left ≡ line ++ 10 ∷ rest → length bytes ≤ length line
longer_line [] line rest left none cut = omega arith
longer_line (b ∷ bytes) [] rest left none cut = absurd (none 0 0 (omega arith) cc)
longer_line (b ∷ bytes) (l ∷ line) rest left none cut =
    let shorter : bytes ++ left ≡ line ++ 10 ∷ rest = cc in
    omega (arith, longer_line bytes line rest left (all_tail (λ c. c ≢ 10) b bytes none) shorter)

not_whole : (line : Bytes) → 1023 ≤ length line → is_whole line ≡ false
not_whole line long = grind (arith, nat_tests)

-- nothing of it is ever tested
full_buffer : (bytes left : Bytes) → tested bytes ≡ [] → 1023 ≤ length bytes → tested (bytes ++ left) ≡ []
full_buffer bytes left nothing full = go (first_cut bytes)
  where
    long : HasNoLf bytes → Cut (bytes ++ left) → tested (bytes ++ left) ≡ []
    long no_lf (inl none) = tested_none (bytes ++ left) none
    long no_lf (inr (line, rest, none, cut)) =
        ap tested cut ∙ tested_one line rest false none (not_whole line (omega (arith, full, longer_line bytes line rest left no_lf cut)))

    broken : (line rest : Bytes) → HasNoLf line → bytes ≡ line ++ 10 ∷ rest → (is : Bool) → is_whole line ≡ is → tested (bytes ++ left) ≡ []
    broken line rest none cut true is = let one : line ∷ tested rest ≡ [] = sym (ap tested cut ∙ tested_one line rest true none is) ∙ nothing in cc
    broken line rest none cut false is =
        ap tested (ap (λ (z : Bytes). z ++ left) cut ∙ append_assoc line (10 ∷ rest) left) ∙ tested_one line (rest ++ left) false none is

    go : Cut bytes → tested (bytes ++ left) ≡ []
    go (inl none) = long none (first_cut (bytes ++ left))
    go (inr (line, rest, none, cut)) = broken line rest none cut (is_whole line) refl

nothing_out : (pattern bytes : Bytes) → tested bytes ≡ [] → grep_out pattern bytes ≡ []
nothing_out pattern bytes nothing = ap (λ ls. with_ends (filter (matches pattern) ls)) nothing

nothing_tested : (bytes : Bytes) → tested bytes ≡ [] → grep_left bytes ≡ drop 1023 bytes
nothing_tested bytes nothing = ap (λ ls. drop 1023 (drop (length (with_ends ls)) bytes)) nothing

-- what grep does with its buffer, in terms of what it does with the buffer and what follows it
abbrev BufferKept : Bytes → Name → Bytes → Bytes → Type 0
BufferKept pattern name left buffer =
    length buffer ≤ 1023 → Kept (searching pattern) (grep_goes_on pattern buffer) name (grep_out pattern (buffer ++ left)) (grep_left (buffer ++ left)) left

no_line_kept : (pattern : Bytes) (name : Name) (left buffer : Bytes) → tested buffer ≡ [] → BufferKept pattern name left buffer
no_line_kept pattern name left buffer nothing few =
    subst (λ (s : Step). Kept (searching pattern) s name (grep_out pattern (buffer ++ left)) (grep_left (buffer ++ left)) left)
    (sym (ap (λ ls. grep_lines pattern ls buffer) nothing))
    (go (nat_le 1023 (length buffer)) refl)
  where
    go : (is : Bool) → nat_le 1023 (length buffer) ≡ is →
        Kept (searching pattern) (if is then finishes else reads (1023 - length buffer) (grep_reads pattern buffer)) name (grep_out pattern (buffer ++ left)) (grep_left (buffer ++ left)) left
    go true e =
        let full : 1023 ≤ length buffer = grind (arith, nat_tests) in
        let none = full_buffer buffer left nothing full in
        let exact : 1023 ≡ length buffer = omega (arith, full, few) in
        record {
          on = tt;
          out = nothing_out pattern (buffer ++ left) none;
          rest = nothing_tested (buffer ++ left) none ∙ ap (λ (n : ℕ). drop n (buffer ++ left)) exact ∙ drop-append_seam buffer left;
        }
    go false e = record { on = refl; out = refl; rest = refl }

line_kept : (pattern : Bytes) (name : Name) (left line rest : Bytes) → HasNoLf line → is_whole line ≡ true → BufferKept pattern name left rest → BufferKept pattern name left (line ++ 10 ∷ rest)
line_kept pattern name left line rest none whole again few = go (matches pattern line) refl
  where
    size : length (line ++ 10 ∷ rest) ≡ length line + suc (length rest)
    size = length-append line (10 ∷ rest)

    after : (line ++ 10 ∷ rest) ++ left ≡ line ++ 10 ∷ (rest ++ left)
    after = append_assoc line (10 ∷ rest) left

    go : (is : Bool) → matches pattern line ≡ is → Kept (searching pattern) (grep_goes_on pattern (line ++ 10 ∷ rest)) name (grep_out pattern ((line ++ 10 ∷ rest) ++ left)) (grep_left ((line ++ 10 ∷ rest) ++ left)) left
    go true is =
        subst (λ (s : Step). Kept (searching pattern) s name (grep_out pattern ((line ++ 10 ∷ rest) ++ left)) (grep_left ((line ++ 10 ∷ rest) ++ left)) left)
        (sym (at_match pattern line rest (line ++ 10 ∷ rest) none refl whole is))
        (record {
          on = refl;
          out =
              ap (grep_out pattern) after
              ∙ out_line pattern line (rest ++ left) none whole is
              ∙ sym (append_assoc line (10 ∷ []) (grep_out pattern (rest ++ left)))
              ∙ ap (λ (z : Bytes). z ++ grep_out pattern (rest ++ left)) (sym (take_all block_size (line ++ 10 ∷ []) (omega (arith, few, size, length-append line (10 ∷ [])))));
          rest = ap grep_left after ∙ ap (λ (z : Bytes). drop 1023 z) (untested_line line (rest ++ left) none whole);
        })
    go false is =
        let kept = again (omega (arith, few, size)) in
        subst (λ (s : Step). Kept (searching pattern) s name (grep_out pattern ((line ++ 10 ∷ rest) ++ left)) (grep_left ((line ++ 10 ∷ rest) ++ left)) left)
        (sym (at_other pattern line rest (line ++ 10 ∷ rest) none refl whole is))
        (record {
          on = kept.on;
          out = ap (grep_out pattern) after ∙ out_other pattern line (rest ++ left) none whole is ∙ kept.out;
          rest = ap grep_left after ∙ ap (λ (z : Bytes). drop 1023 z) (untested_line line (rest ++ left) none whole) ∙ kept.rest;
        })

pub buffer_kept : (pattern : Bytes) (name : Name) (left buffer : Bytes) → length buffer ≤ 1023 →
    Kept (searching pattern) (grep_goes_on pattern buffer) name (grep_out pattern (buffer ++ left)) (grep_left (buffer ++ left)) left
buffer_kept pattern name left buffer few =
    by_lines (BufferKept pattern name left) (no_line_kept pattern name left) (line_kept pattern name left) (length buffer) buffer (omega arith) few

pub grep_kept : (pattern kept : Bytes) (name : Name) (left bytes : Bytes) → tested kept ≡ [] → length kept < 1023 → Takes (1023 - length kept) left bytes →
    Kept (searching pattern) (grep_got pattern kept (yields bytes)) name (grep_out pattern (kept ++ left)) (grep_left (kept ++ left)) (drop (length bytes) left)
grep_kept pattern kept name left [] nothing few is =
    let none : left ≡ [] = is.some refl in
    let alone : kept ++ left ≡ kept = ap (λ (z : Bytes). kept ++ z) none ∙ append-nil kept in
    record {
      on = tt;
      out = ap (grep_out pattern) alone ∙ nothing_out pattern kept nothing;
      rest = ap grep_left alone ∙ nothing_tested kept nothing ∙ drop_all 1023 kept (omega (arith, few)) ∙ sym none;
    }
grep_kept pattern kept name left (byte ∷ bytes) nothing few is =
    let b = byte ∷ bytes in
    let more = drop (length b) left in
    let size : length (kept ++ b) ≤ 1023 = omega (arith, few, is.few, length-append kept b) in
    let whole : block (kept ++ b) ≡ kept ++ b = take_all block_size (kept ++ b) (omega (arith, size)) in
    let all : kept ++ left ≡ (kept ++ b) ++ more = ap (λ (z : Bytes). kept ++ z) (left_over (1023 - length kept) left b is) ∙ sym (append_assoc kept b more) in
    let done = buffer_kept pattern name more (kept ++ b) size in
    subst (λ (z : Bytes). Kept (searching pattern) (grep_goes_on pattern z) name (grep_out pattern (kept ++ left)) (grep_left (kept ++ left)) more) (sym whole)
    (record { on = done.on; out = ap (grep_out pattern) all ∙ done.out; rest = ap grep_left all ∙ done.rest })
