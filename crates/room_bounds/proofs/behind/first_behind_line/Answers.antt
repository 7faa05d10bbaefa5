use Rattle.std.proofs.Common.{◌≡◌, ◌⊎◌, inl, inr, ℕ, ◌+◌, ◌<◌, ◌≤◌, ◌++◌, ◌∷◌, [], length, take, sym, ap, ◌∙◌, subst, arith}
use Rattle.std.specs.Prelude.{map}
use Rattle.std.proofs.lemmas.Bool.{cases_lt}
use Rattle.std.proofs.lemmas.List.{length-map, take_all}
use Rattle.script_load.specs.Line.{line_of}
use Rattle.room_bounds.specs.Behind.{FitsBehind, IsBegun, IsNeedBehind}
use Rattle.room_bounds.proofs.Beginnings.{next_line}
use Rattle.room_bounds.proofs.behind.first_behind_line.Goals as goal

pub loop-i-init : goal.loop-i-init
loop-i-init g c = (c.nothing_begun-so_far.ensures, λ fewer low. absurd (omega (arith, low)))

pub returns-in-Some-clause-some : goal.returns-in-Some-clause-some
returns-in-Some-clause-some g c =
    let lines = c.args.lines.now in
    let i = c.loop-i.i in
    let held = c.behind_by.ensures (take i (map line_of lines)) c.loop-i.invariant.0 in
    let within : i ≤ length (map line_of lines) = omega (arith, length-map lines line_of) in
    record {
      within = within;
      before = c.loop-i.invariant.1;
      need = c.in-Some.ensures.need (take i (map line_of lines)) held;
      much = c.in-Some.ensures.much;
    }

pub loop-i-preserved : goal.loop-i-preserved
loop-i-preserved g c =
    let lines = c.args.lines.now in
    let i = c.loop-i.i in
    let item = c.index-lines-i.result in
    let inside : i < length lines = omega arith in
    let next = next_line lines i item inside ∙ ap (λ l. take i (map line_of lines) ++ line_of l ∷ []) (sym c.index-lines-i.is) in
    let held = c.behind_by.ensures (take i (map line_of lines)) c.loop-i.invariant.0 in
    let here = c.in-None.ensures.none (take i (map line_of lines)) held in (
      subst (λ ls. IsBegun ls c.begun_with-so_far.result) (sym next) (c.begun_with-so_far.ensures (take i (map line_of lines)) c.loop-i.invariant.0),
      λ fewer low. by fewer low here (cases_lt fewer i),
    )
  where
    by : (fewer : ℕ) → fewer < c.loop-i.i + 1 → FitsBehind (take c.loop-i.i (map line_of c.args.lines.now)) → (fewer < c.loop-i.i) ⊎ (c.loop-i.i ≤ fewer) → FitsBehind (take fewer (map line_of c.args.lines.now))
    by fewer low here (inl less) = c.loop-i.invariant.1 fewer less
    by fewer low here (inr more) =
        let same : c.loop-i.i ≡ fewer = omega (arith, low, more) in
        subst (λ j. FitsBehind (take j (map line_of c.args.lines.now))) same here

pub returns-in-Some-first_over-clause-some : goal.returns-in-Some-first_over-clause-some
returns-in-Some-first_over-clause-some g c =
    let lines = c.args.lines.now in
    let i = c.loop-i.i in
    let held = c.behind_by-2.ensures (take i (map line_of lines)) c.loop-i.invariant.0 in
    let all : i ≡ length lines = omega arith in
    let within : length lines ≤ length (map line_of lines) = omega (arith, length-map lines line_of) in
    record {
      within = within;
      before = λ fewer low. c.loop-i.invariant.1 fewer (omega (arith, low, all));
      need = subst (λ j. IsNeedBehind c.in-Some-first_over.table (take j (map line_of lines)) c.in-Some-first_over.need) all (c.in-Some-first_over.ensures.need (take i (map line_of lines)) held);
      much = c.in-Some-first_over.ensures.much;
    }

pub returns-in-None-first_over-clause-none : goal.returns-in-None-first_over-clause-none
returns-in-None-first_over-clause-none g c =
    let lines = c.args.lines.now in
    let i = c.loop-i.i in
    let held = c.behind_by-2.ensures (take i (map line_of lines)) c.loop-i.invariant.0 in
    let all : length (map line_of lines) ≤ i = omega (arith, length-map lines line_of) in
    subst (λ ls. FitsBehind ls) (take_all i (map line_of lines) all) (c.in-None-first_over.ensures.none (take i (map line_of lines)) held)
