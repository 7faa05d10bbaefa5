-- wc's counts of some bytes and of those that follow them.
use Rattle.std.proofs.Common.{◌≡◌, ◌∙◌, ℕ, ◌+◌, ◌^◌, ◌<◌, ◌≤◌, Bool, [], ◌∷◌, ◌++◌, length, drop, refl, sym, ap, arith}
use Rattle.std.specs.Fmt.{decimal}
use Rattle.std.proofs.lemmas.List.{length-append, take_all, append-nil}
use Rattle.std.proofs.lemmas.Fmt.{length-decimal-le_wide}
use Rattle.mem_files.specs.Name.{Name, Bytes}
use Rattle.user_calls.specs.Limits.{block_size}
use Rattle.prog_parts.specs.Wc.{line_ends, words_after, ends_inside, capped}
use Rattle.user_progs.specs.State.{counting, wc_reads}
use Rattle.user_progs.specs.Turn.{yields, counts_line, wc_got, block}
use Rattle.prog_parts.proofs.CountsOfParts.{line_ends_more, words_more}
use Rattle.tree_model.specs.Alone.{Takes}
use Rattle.tree_model.specs.Still.{work_out}
use Rattle.law_trees.proofs.programs.Work.{Kept, left_over}

pub capped_again : (a : ℕ) → capped (capped a) ≡ capped a
capped_again a = omega arith

capped_small : (a : ℕ) → capped a ≡ a → a < 2 ^ 128
capped_small a e = omega (arith, e)

digits_few : (n : ℕ) → n < 2 ^ 128 → length (decimal n) ≤ 39
digits_few n small = length-decimal-le_wide 39 n (omega arith) (omega (arith, small)) (omega (arith, small))

pub line_whole : (l w c : ℕ) (name : Name) → capped l ≡ l → capped w ≡ w → capped c ≡ c → length name ≤ 14 → block (counts_line l w c name) ≡ counts_line l w c name
line_whole l w c name el ew ec short =
    take_all block_size (counts_line l w c name)
    (omega (
      arith,
      short,
      digits_few l (capped_small l el),
      digits_few w (capped_small w ew),
      digits_few c (capped_small c ec),
      length-append (decimal l) (32 ∷ (decimal w ++ 32 ∷ (decimal c ++ 32 ∷ (name ++ 10 ∷ [])))),
      length-append (decimal w) (32 ∷ (decimal c ++ 32 ∷ (name ++ 10 ∷ []))),
      length-append (decimal c) (32 ∷ (name ++ 10 ∷ [])),
      length-append name (10 ∷ []),
    ))

pub wc_kept : (l w c : ℕ) (inside : Bool) (name : Name) (most : ℕ) (left bytes : Bytes) → capped l ≡ l → capped w ≡ w → capped c ≡ c → length name ≤ 14 → Takes most left bytes →
    Kept counting (wc_got l w c inside name (yields bytes)) name (work_out (wc_reads l w c inside) name left) [] (drop (length bytes) left)
wc_kept l w c inside name most left [] el ew ec short is =
    let none : left ≡ [] = is.some refl in
    record {
      on = refl;
      out =
          ap (λ (z : Bytes). work_out (wc_reads l w c inside) name z) none
          ∙ (λ i. counts_line ((ap capped (plus_none l) ∙ el) i) ((ap capped (plus_none w) ∙ ew) i) ((ap capped (plus_none c) ∙ ec) i) name)
          ∙ sym (line_whole l w c name el ew ec short)
          ∙ sym (append-nil (block (counts_line l w c name)));
      rest = sym none;
    }
  where
    plus_none : (n : ℕ) → n + 0 ≡ n
    plus_none n = omega arith
wc_kept l w c inside name most left (byte ∷ bytes) el ew ec short is =
    let b = byte ∷ bytes in
    let more = drop (length b) left in
    record {
      on = refl;
      out =
          ap (λ (z : Bytes). work_out (wc_reads l w c inside) name z) (left_over most left b is)
          ∙ (λ i. counts_line (each l (line_ends b) (line_ends more) (line_ends (b ++ more)) (line_ends_more b more) i)
          (each w (words_after inside b) (words_after (ends_inside inside b) more) (words_after inside (b ++ more)) (words_more inside b more) i)
          (each c (length b) (length more) (length (b ++ more)) (length-append b more) i) name);
      rest = refl;
    }
  where
    each : (n a d s : ℕ) → s ≡ a + d → capped (n + s) ≡ capped (capped (n + a) + d)
    each n a d s e = omega (arith, e)
