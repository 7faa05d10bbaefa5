-- Spans of names: what one line more changes, and what they say of the lines before and after a place.
use Rattle.std.proofs.Common.{◌≡◌, ◌≢◌, ℕ, zero, suc, ◌+◌, ◌<◌, ◌≤◌, Bool, true, false, ◌||◌, cond, List, [], ◌∷◌, length, take, drop, Option, Some, None, refl, sym, ap, subst, ◌∙◌, arith}
use Rattle.std.specs.Prelude.{nat_lt}
use Rattle.std.specs.declared.cmp.Ordering.TheVariants.{Less, Equal, Greater}
use Rattle.std.specs.Ordering.{is_eq, nat_cmp, match_ordering}
use Rattle.std.specs.Cmp.Lexicographic.{slice_cmp}
use Rattle.std.specs.Map.{lookup}
use Rattle.std.specs.BTreeMap.{insert_entry}
use Rattle.std.specs.Str.{bytes_eq}
use Rattle.std.proofs.lemmas.Bool.{false≢true, or_from, or_left, or_right, false_from_ne_true}
use Rattle.std.proofs.lemmas.Bool.Decides.{nat_tests}
use Rattle.std.proofs.lemmas.Map.Text.{is_eq-slice_cmp}
use Rattle.std.proofs.lemmas.Slice.Eq.{bytes_eq-Decides}
use Rattle.mem_files.specs.Name.{Name}
use Rattle.std.proofs.Math.Bool.{or_comm}
use Rattle.prog_parts.specs.NameSets.{both}
use Rattle.conflict_check.specs.Names.{names}
use Rattle.script_load.specs.declared.line.Line.{Line}
use Rattle.script_load.specs.Line.{line_of}
use Rattle.meaning_model.specs.Meaning.{line_tree}
use Rattle.plain_run.specs.declared.name_lines.Span.{Span}
use Rattle.plain_run.specs.Spans.{Reaches, all_names, has_at, other_line, reach, reached}
use Rattle.plain_run.specs.Told.{is_some}
use Rattle.plain_run.proofs.NameSets.{same}

-- an entry more, under a name that may be there
module _ {K : Type 0} (items : K → Name) (name : Name) where
  abbrev at_name : K → Bool
  at_name key = is_eq (slice_cmp nat_cmp name (items key))

  over : {X : Type 0} (b : Bool) (one other rest : Option X) → cond b one rest ≡ cond b one (cond b other rest)
  over true one other rest = refl
  over false one other rest = refl

  exchanged : {X : Type 0} (a b : Bool) (one other rest : Option X) → (a ≡ true → b ≡ true → ⊥) → cond a one (cond b other rest) ≡ cond b other (cond a one rest)
  exchanged true true one other rest never = absurd (never refl refl)
  exchanged true false one other rest never = refl
  exchanged false b one other rest never = refl

  pub put_in : {X : Type 0} (es : List (K × X)) (key : K) (x : X) → lookup at_name (insert_entry (λ a b. slice_cmp nat_cmp (items a) (items b)) es key x) ≡ cond (bytes_eq name (items key)) (Some x) (lookup at_name es)
  put_in [] key x = ap (λ b. cond b (Some x) None) (is_eq-slice_cmp name (items key))
  put_in (e ∷ es) key x =
      elim (slice_cmp nat_cmp (items key) (items e.0)) as (λ o. slice_cmp nat_cmp (items key) (items e.0) ≡ o → lookup at_name (match_ordering o ((key, x) ∷ e ∷ es) ((e.0, x) ∷ es) (e ∷ insert_entry (λ a b. slice_cmp nat_cmp (items a) (items b)) es key x)) ≡ cond (bytes_eq name (items key)) (Some x) (lookup at_name (e ∷ es))) [
        | Less ↦ λ o. ap (λ b. cond b (Some x) (lookup at_name (e ∷ es))) (is_eq-slice_cmp name (items key))
        | Equal ↦ λ o.
            let there : at_name e.0 ≡ bytes_eq name (items key) = is_eq-slice_cmp name (items e.0) ∙ ap (bytes_eq name) (sym (same (items key) (items e.0) o)) in
            ap (λ b. cond b (Some x) (lookup at_name es)) there
            ∙ over (bytes_eq name (items key)) (Some x) (Some e.1) (lookup at_name es)
            ∙ ap (λ b. cond (bytes_eq name (items key)) (Some x) (cond b (Some e.1) (lookup at_name es))) (sym there)
        | Greater ↦ λ o.
            ap (cond (at_name e.0) (Some e.1)) (put_in es key x)
            ∙ exchanged (at_name e.0) (bytes_eq name (items key)) (Some e.1) (Some x) (lookup at_name es) (λ there here.
            let equal : items key ≡ items e.0 = sym ((bytes_eq-Decides name (items key)).0 here) ∙ (bytes_eq-Decides name (items e.0)).0 (sym (is_eq-slice_cmp name (items e.0)) ∙ there) in
            false≢true (sym (ap is_eq o) ∙ is_eq-slice_cmp (items key) (items e.0) ∙ (bytes_eq-Decides (items key) (items e.0)).1 equal))
      ] refl

abbrev pub from_to : ℕ → ℕ → Span
from_to first last = record { first = first; last = last }

pub from_held : (first line : ℕ) (span : Span) (of_name : Option Span) → first ≡ span.first → Some span ≡ of_name → from_to first line ≡ reach line of_name
from_held first line span of_name is held = ap (λ f. from_to f line) is ∙ ap (reach line) held

pub from_none : (first line : ℕ) (of_name : Option Span) → first ≡ line → None ≡ of_name → from_to first line ≡ reach line of_name
from_none first line of_name is none = ap (λ f. from_to f line) is ∙ ap (reach line) none

-- the span that was put in is the one that reaches to the line
pub put_span : (line : ℕ) (b : Bool) (of_other of_name : Option Span) (span : Span) → (b ≡ true → of_other ≡ of_name) → span ≡ reach line of_name → cond b (Some span) of_other ≡ reached b line of_other
put_span line true of_other of_name span there is = ap Some (is ∙ ap (reach line) (sym (there refl)))
put_span line false of_other of_name span there is = refl

-- two names of one line
pub reached_again : (a b : Bool) (line : ℕ) (span : Option Span) → reached b line (reached a line span) ≡ reached (a || b) line span
reached_again true true line None = refl
reached_again true true line (Some span) = refl
reached_again true false line span = refl
reached_again false b line span = refl

at_or_below : {P : Type 0} (k i : ℕ) → k < i + 1 → (k < i → P) → (k ≡ i → P) → P
at_or_below {P} k i low first second =
    elim (nat_lt k i) as (λ t. nat_lt k i ≡ t → P) [
      | true ↦ λ e. first (grind (arith, nat_tests))
      | false ↦ λ e. second (let not_below : i ≤ k = grind (arith, nat_tests) in omega arith)
    ] refl

reaches_one : (has : ℕ → Bool) (i : ℕ) (b : Bool) (span : Option Span) → has i ≡ b → Reaches has i span → Reaches has (i + 1) (reached b i span)
reaches_one has i false None e none = λ k low. at_or_below k i low (none k) (λ is. ap has is ∙ e)
reaches_one has i false (Some span) e so_far = record {
  first = so_far.first;
  last = so_far.last;
  order = so_far.order;
  below = omega (arith, so_far.below);
  each = λ k low is. at_or_below k i low (λ lt. so_far.each k lt is) (λ at. absurd (false≢true (sym e ∙ sym (ap has at) ∙ is)));
}
reaches_one has i true None e none = record {
  first = e;
  last = e;
  order = omega arith;
  below = omega arith;
  each = λ k low is. at_or_below k i low (λ lt. absurd (false≢true (sym (none k lt) ∙ is))) (λ at. (omega (arith, at), omega (arith, at)));
}
reaches_one has i true (Some span) e so_far = record {
  first = so_far.first;
  last = e;
  order = omega (arith, so_far.order, so_far.below);
  below = omega arith;
  each = λ k low is. at_or_below k i low (λ lt. ((so_far.each k lt is).0, omega arith)) (λ at. (omega (arith, at, so_far.order, so_far.below), omega (arith, at)));
}

-- one line more
pub reaches_more : (has : ℕ → Bool) (i : ℕ) (b : Bool) (span new : Option Span) → b ≡ has i → new ≡ reached b i span → Reaches has i span → Reaches has (i + 1) new
reaches_more has i b span new e is so_far = subst (Reaches has (i + 1)) (sym is) (reaches_one has i b span (sym e) so_far)

beyond : {B : _} (lines : List (Line B)) (name : Name) (k : ℕ) → length lines ≤ k → has_at lines name k ≡ false
beyond [] name k over = refl
beyond (line ∷ lines) name zero over = absurd (omega arith)
beyond (line ∷ lines) name (suc k) over = beyond lines name k (omega arith)

before_none : {B : _} (lines : List (Line B)) (name : Name) (j : ℕ) → ((k : ℕ) → k < j → has_at lines name k ≡ false) → all_names (take j lines) name ≡ false
before_none [] name zero none = refl
before_none [] name (suc j) none = refl
before_none (line ∷ lines) name zero none = refl
before_none (line ∷ lines) name (suc j) none =
    or_from (names (line_tree (line_of line)) name) (all_names (take j lines) name) (none 0 (omega arith)) (before_none lines name j (λ k low. none (suc k) (omega arith)))

before_some : {B : _} (lines : List (Line B)) (name : Name) (j k : ℕ) → k < j → has_at lines name k ≡ true → all_names (take j lines) name ≡ true
before_some lines name zero k low is = absurd (omega arith)
before_some [] name (suc j) k low is = absurd (false≢true is)
before_some (line ∷ lines) name (suc j) zero low is = or_left (names (line_tree (line_of line)) name) (all_names (take j lines) name) is
before_some (line ∷ lines) name (suc j) (suc k) low is = or_right (names (line_tree (line_of line)) name) (all_names (take j lines) name) (before_some lines name j k (omega arith) is)

after_none : {B : _} (lines : List (Line B)) (name : Name) (j : ℕ) → ((k : ℕ) → j ≤ k → has_at lines name k ≡ false) → all_names (drop j lines) name ≡ false
after_none [] name zero none = refl
after_none [] name (suc j) none = refl
after_none (line ∷ lines) name zero none =
    or_from (names (line_tree (line_of line)) name) (all_names lines name) (none 0 (omega arith)) (after_none lines name zero (λ k high. none (suc k) (omega arith)))
after_none (line ∷ lines) name (suc j) none = after_none lines name j (λ k high. none (suc k) (omega arith))

after_some : {B : _} (lines : List (Line B)) (name : Name) (j k : ℕ) → j ≤ k → has_at lines name k ≡ true → all_names (drop j lines) name ≡ true
after_some [] name j k high is = absurd (false≢true is)
after_some (line ∷ lines) name zero zero high is = or_left (names (line_tree (line_of line)) name) (all_names lines name) is
after_some (line ∷ lines) name zero (suc k) high is = or_right (names (line_tree (line_of line)) name) (all_names lines name) (after_some lines name zero k (omega arith) is)
after_some (line ∷ lines) name (suc j) zero high is = absurd (omega arith)
after_some (line ∷ lines) name (suc j) (suc k) high is = after_some lines name j k (omega arith) is

nowhere : {B : _} (lines : List (Line B)) (name : Name) (n : ℕ) → length lines ≤ n → ((k : ℕ) → k < n → has_at lines name k ≡ false) → (k : ℕ) → has_at lines name k ≡ false
nowhere lines name n long none k =
    elim (nat_lt k n) as (λ t. nat_lt k n ≡ t → has_at lines name k ≡ false) [
      | true ↦ λ e. none k (grind (arith, nat_tests))
      | false ↦ λ e. beyond lines name k (let high : n ≤ k = grind (arith, nat_tests) in omega arith)
    ] refl

-- another line than this has the name
abbrev is_beside : ℕ → Option Span → Bool
is_beside line None = false
is_beside line (Some span) = nat_lt span.first line || nat_lt line span.last

-- the span of all lines says whether a line before or after has the name
beside_told : {B : _} (lines : List (Line B)) (name : Name) (n line : ℕ) (span : Option Span) → length lines ≤ n → Reaches (has_at lines name) n span → is_beside line span ≡ (all_names (take line lines) name || all_names (drop (line + 1) lines) name)
beside_told lines name n line None long none =
    let never = nowhere lines name n long none in
    sym (or_from (all_names (take line lines) name) (all_names (drop (line + 1) lines) name) (before_none lines name line (λ k low. never k)) (after_none lines name (line + 1) (λ k high. never k)))
beside_told lines name n line (Some span) long so_far =
    elim (nat_lt span.first line) as (λ s. nat_lt span.first line ≡ s → (s || nat_lt line span.last) ≡ (all_names (take line lines) name || all_names (drop (line + 1) lines) name)) [
      | true ↦ λ e.
          let low : span.first < line = grind (arith, nat_tests) in
          sym (or_left (all_names (take line lines) name) (all_names (drop (line + 1) lines) name) (before_some lines name line span.first low so_far.first))
      | false ↦ λ e.
          let not_low : line ≤ span.first = grind (arith, nat_tests) in
          elim (nat_lt line span.last) as (λ t. nat_lt line span.last ≡ t → t ≡ (all_names (take line lines) name || all_names (drop (line + 1) lines) name)) [
            | true ↦ λ f.
                let high : line < span.last = grind (arith, nat_tests) in
                sym (or_right (all_names (take line lines) name) (all_names (drop (line + 1) lines) name) (after_some lines name (line + 1) span.last (omega arith) so_far.last))
            | false ↦ λ f.
                let not_high : span.last ≤ line = grind (arith, nat_tests) in
                sym (or_from (all_names (take line lines) name) (all_names (drop (line + 1) lines) name)
                (before_none lines name line (λ k low. false_from_ne_true (has_at lines name k) (λ is. let p = so_far.each k (omega (arith, so_far.order, so_far.below)) is in omega (arith, p.0, p.1))))
                (after_none lines name (line + 1) (λ k high.
                elim (nat_lt k n) as (λ t. nat_lt k n ≡ t → has_at lines name k ≡ false) [
                  | true ↦ λ g. false_from_ne_true (has_at lines name k) (λ is. let within : k < n = grind (arith, nat_tests) in let p = so_far.each k within is in omega (arith, p.1))
                  | false ↦ λ g. beyond lines name k (let high : n ≤ k = grind (arith, nat_tests) in omega arith)
                ] refl)))
          ] refl
    ] refl

other_so : (line : ℕ) (span : Option Span) → is_some (other_line line span) ≡ is_beside line span
other_so line None = refl
other_so line (Some span) = tests (nat_lt span.first line) (nat_lt line span.last) span.first span.last where
  tests : (s t : Bool) (first last : ℕ) → is_some (cond s (Some first) (cond t (Some last) None)) ≡ (s || t)
  tests true t first last = refl
  tests false true first last = refl
  tests false false first last = refl

-- whether there is another line
pub other_told : {B : _} (lines : List (Line B)) (name : Name) (line : ℕ) (span : Option Span) → Reaches (has_at lines name) (length lines) span → is_some (other_line line span) ≡ both (all_names (drop (line + 1) lines)) (all_names (take line lines)) name
other_told lines name line span reaches =
    other_so line span
    ∙ beside_told lines name (length lines) line span (omega arith) reaches
    ∙ or_comm (all_names (take line lines) name) (all_names (drop (line + 1) lines) name)

-- this line is another one, and has the name
pub record IsOther (has : ℕ → Bool) (count line other : ℕ) : Type 0 where
  pub inside : other < count
  pub apart : other ≢ line
  pub names : has other ≡ true

abbrev pub AreOther : (ℕ → Bool) → ℕ → ℕ → Option ℕ → Type 0
AreOther has count line None = Unit {0}
AreOther has count line (Some other) = IsOther has count line other

pub other_is : (has : ℕ → Bool) (count line : ℕ) (span : Option Span) → Reaches has count span → AreOther has count line (other_line line span)
other_is has count line None none = tt
other_is has count line (Some span) so_far =
    elim (nat_lt span.first line) as (λ s. nat_lt span.first line ≡ s → AreOther has count line (cond s (Some span.first) (cond (nat_lt line span.last) (Some span.last) None))) [
      | true ↦ λ e.
          let low : span.first < line = grind (arith, nat_tests) in
          record { inside = omega (arith, so_far.order, so_far.below); apart = λ same. omega (arith, low, same); names = so_far.first }
      | false ↦ λ e.
          elim (nat_lt line span.last) as (λ t. nat_lt line span.last ≡ t → AreOther has count line (cond t (Some span.last) None)) [
            | true ↦ λ f.
                let high : line < span.last = grind (arith, nat_tests) in
                record { inside = so_far.below; apart = λ same. omega (arith, high, same); names = so_far.last }
            | false ↦ λ f. tt
          ] refl
    ] refl
