-- What the work on one input still writes and leaves is kept by each step of it.
use Rattle.std.proofs.Common.{◌≡◌, ◌∙◌, ℕ, zero, suc, ◌+◌, ◌<◌, false, [], ◌∷◌, ◌++◌, length, drop, refl, sym, ap, arith}
use Rattle.std.proofs.Math.Seq.{drop-append_seam}
use Rattle.mem_files.specs.Name.{Name, Bytes}
use Rattle.prog_parts.specs.Head.{first_lines, after_lines}
use Rattle.prog_parts.specs.Wc.{line_ends, words_after, capped}
use Rattle.user_progs.specs.State.{Filter, copying, heading, counting, searching}
use Rattle.user_progs.specs.Turn.{yields, Step, reads, writes, finishes, fails, quits, counts_line, first_step, filter_of, head_goes_on, head_got, cat_got}
use Rattle.tree_model.specs.Alone.{Takes}
use Rattle.tree_model.specs.Still.{of_input, work_out, work_rest}
use Rattle.tree_model.specs.Reads.{unread}

-- what a step still writes of the bytes that are left, and what it leaves of them
abbrev pub step_out : Step → Name → Bytes → Bytes
step_out (reads most work) name left = work_out work name left
step_out (writes bytes work) name left = bytes ++ work_out work name left
step_out finishes name left = []
step_out (fails message) name left = []
step_out quits name left = []

abbrev pub step_rest : Step → Bytes → Bytes
step_rest (reads most work) left = work_rest work left
step_rest (writes bytes work) left = work_rest work left
step_rest finishes left = left
step_rest (fails message) left = left
step_rest quits left = left

-- it goes on with work of this filter, or finishes
abbrev pub GoesOn : Filter → Step → Type 0
GoesOn filter (reads most work) = filter_of work ≡ filter
GoesOn filter (writes bytes work) = filter_of work ≡ filter
GoesOn filter finishes = Unit {0}
GoesOn filter (fails message) = ⊥
GoesOn filter quits = ⊥

-- a step of the work of this filter on an input of this name, of which so much was left, and now is
pub record Kept (filter : Filter) (step : Step) (name : Name) (told unread left : Bytes) : Type 0 where
  pub on : GoesOn filter step
  pub out : told ≡ step_out step name left
  pub rest : unread ≡ step_rest step left

-- what is left of what a read takes from
pub left_over : (most : ℕ) (left bytes : Bytes) → Takes most left bytes → left ≡ bytes ++ drop (length bytes) left
left_over most left bytes is =
    is.prefix ∙ ap (λ (z : Bytes). bytes ++ z) (sym (drop-append_seam bytes is.more) ∙ ap (λ (z : Bytes). drop (length bytes) z) (sym is.prefix))

pub head_begins : (lines wanted : ℕ) (name : Name) (left : Bytes) → Kept (heading lines) (head_goes_on lines wanted) name (first_lines wanted left) (after_lines wanted left) left
head_begins lines zero name left = record { on = tt; out = refl; rest = refl }
head_begins lines (suc wanted) name left = record { on = refl; out = refl; rest = refl }

-- the first step on an input
pub begins_kept : (filter : Filter) (name : Name) (left : Bytes) → Kept filter (first_step filter) name (of_input filter name left) (unread filter left) left
begins_kept copying name left = record { on = refl; out = refl; rest = refl }
begins_kept (heading lines) name left = head_begins lines lines name left
begins_kept counting name left =
    record {
      on = refl;
      out = λ i. counts_line (capped (none_more (line_ends left) i)) (capped (none_more (words_after false left) i)) (capped (none_more (length left) i)) name;
      rest = refl;
    }
  where
    none_more : (n : ℕ) → n ≡ 0 + n
    none_more n = omega arith
begins_kept (searching pattern) name left = record { on = refl; out = refl; rest = refl }

pub cat_kept : (name : Name) (most : ℕ) (left bytes : Bytes) → Takes most left bytes → Kept copying (cat_got (yields bytes)) name left [] (drop (length bytes) left)
cat_kept name most left [] is = record { on = tt; out = is.some refl; rest = sym (is.some refl) }
cat_kept name most left (byte ∷ bytes) is = record { on = refl; out = left_over most left (byte ∷ bytes) is; rest = refl }

pub head_kept : (lines wanted : ℕ) (name : Name) (left bytes : Bytes) → 0 < wanted → Takes 1 left bytes → Kept (heading lines) (head_got lines wanted (yields bytes)) name (first_lines wanted left) (after_lines wanted left) (drop (length bytes) left)
head_kept lines zero name left bytes some is = absurd (omega (arith, some))
head_kept lines (suc wanted) name left [] some is =
    let none : left ≡ [] = is.some refl in
    record { on = tt; out = ap (λ (z : Bytes). first_lines (suc wanted) z) none; rest = ap (λ (z : Bytes). after_lines (suc wanted) z) none ∙ sym none }
head_kept lines (suc wanted) name left (byte ∷ []) some is =
    record {
      on = refl;
      out = ap (λ (z : Bytes). first_lines (suc wanted) z) (left_over 1 left (byte ∷ []) is);
      rest = ap (λ (z : Bytes). after_lines (suc wanted) z) (left_over 1 left (byte ∷ []) is);
    }
head_kept lines (suc wanted) name left (byte ∷ next ∷ bytes) some is = absurd (omega (arith, is.few))
