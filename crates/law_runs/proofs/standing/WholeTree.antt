-- Every event of a kernel that has a tree of processes: it has one after it.
use Rattle.std.proofs.Common.{◌≡◌, inl, inr, ℕ, ◌+◌, ◌*◌, ◌<◌, ◌≤◌, refl, sym, ap, ◌∙◌, subst, arith}
use Rattle.script_load.specs.declared.profile.Profile.{Profile}
use Rattle.tree_model.specs.Moving.{IsPlain}
use Rattle.law_runs.specs.Walks.{Walks, stands}
use Rattle.process_model.specs.Seen.{Seen, input, out, free, zombie, live, View}
use Rattle.process_model.specs.Shape.{Node, reaped, gone, IsShape, occurs, names, is_used, stands_for}
use Rattle.process_model.specs.Effect.{ParentIs, Quiet, IsCall}
use Rattle.process_model.specs.Part.{calls_left, called, Part, After}
use Rattle.process_model.proofs.Counts.{same_cases, none_or_some}
use Rattle.law_runs.specs.Seen.{TakesAway}
use Rattle.law_runs.proofs.standing.Frame.{stays}
use Rattle.law_runs.proofs.standing.WaitsSeen.{zombie_kid}
use Rattle.law_runs.proofs.standing.Reaching.{stage_with, moves_walk}
use Rattle.law_runs.proofs.standing.Steps.{steps}

-- the tree afterwards, and the machine's steps, which pay for so many calls
pub record Goes (profile : Profile) (V W : View) (calls : ℕ) (t : Node) : Type 0 where
  pub to : Node
  pub shape : IsShape profile W to
  pub steps : ℕ
  pub walks : Walks profile steps (stage_with (stands_for t) V.input V.out V.files) (stage_with (stands_for to) W.input W.out W.files)
  pub pays : calls_left to + calls ≤ calls_left t + 15 * steps

used_once : (s : Seen) → is_used s ≤ 1
used_once free = omega arith
used_once (zombie q) = omega arith
used_once (live q act put d) = omega arith

kid_used : (s : Seen) (p : ℕ) → ParentIs s p → is_used s ≡ 1
kid_used free p kid = absurd kid
kid_used (zombie q) p kid = refl
kid_used (live q act put d) p kid = refl

module _ (profile : Profile) (V W : View) (t : Node) (none : V.slots 0 ≡ free) (shape : IsShape profile V t) where
  -- a call
  pub call_goes : (p : ℕ) → IsCall V W p → IsPlain (stands_for t) → Goes profile V W (called W p) t
  call_goes p ev plain = record {
    to = r.to;
    shape = record { has = r.has; all = λ q. omega (arith, r.pids q, shape.all q); once = once; known = known };
    steps = r.steps;
    walks = moves_walk profile V W (stands_for t) (stands_for r.to) r.files r.label r.moves r.tells;
    pays = r.pays;
  }
    where
      whole : Part profile V input out out 0 p t
      whole = record {
        has = shape.has;
        inside = omega (arith, shape.all p, ap is_used ev.slot);
        once = λ q. omega (arith, shape.all q, used_once (V.slots q));
        above = shape.all 0 ∙ ap is_used none;
        apart = λ k. omega (arith, shape.once k);
        known = shape.known;
        ends_known = λ k l. absurd (omega (arith, l));
        can_read = tt;
        can_write = tt;
        to_read = tt;
        to_write = tt;
        kids = λ c kid. omega (arith, shape.all c, kid_used (V.slots c) p kid);
        plain = plain;
      }

      r : After profile V W p input out out 0 t
      r = steps profile V W p ev input out out 0 t whole

      old : (k : ℕ) → V.next ≤ k → names k t ≡ 0
      old k le = elim (none_or_some (names k t)) [ inl z ↦ z | inr some ↦ absurd (omega (arith, shape.known k some, le)) ]

      once : (k : ℕ) → names k r.to ≤ 1
      once k =
          elim (same_cases k V.next) [
            | inl is ↦ omega (arith, r.ids k, is.1, old k (omega (arith, is.0)))
            | inr ne ↦ omega (arith, r.ids k, ne.1, shape.once k)
          ]

      known : (k : ℕ) → 1 ≤ names k r.to → k < W.next
      known k some =
          elim (same_cases k V.next) [
            | inl is ↦ omega (arith, is.0, ev.next)
            | inr ne ↦ omega (arith, shape.known k (omega (arith, some, r.ids k, ne.1)), ev.next)
          ]

  -- nothing
  pub nothing_goes : W.next ≡ V.next + 1 → Quiet V W → Goes profile V W 0 t
  nothing_goes next quiet = record {
    to = t;
    shape = record {
      has = stays profile V W input out out 0 t (record { slots = λ q l. quiet.slots q; pipes = λ k l. quiet.rest.pipes k; places = λ k l. quiet.rest.places k }) shape.has;
      all = λ q. shape.all q ∙ sym (ap is_used (quiet.slots q));
      once = shape.once;
      known = λ k l. omega (arith, shape.known k l, next);
    };
    steps = 0;
    walks =
        subst (λ i. Walks profile 0 (stage_with (stands_for t) V.input V.out V.files) (stage_with (stands_for t) i W.out W.files)) (sym quiet.rest.input)
        (subst (λ o. Walks profile 0 (stage_with (stands_for t) V.input V.out V.files) (stage_with (stands_for t) V.input o W.files)) (sym quiet.rest.out)
        (subst (λ F. Walks profile 0 (stage_with (stands_for t) V.input V.out V.files) (stage_with (stands_for t) V.input V.out F)) (sym quiet.rest.files) stands));
    pays = omega arith;
  }

  -- init takes the last zombie away
  pub init_goes : TakesAway V W → Goes profile V W 0 t
  init_goes z = record {
    to = reaped;
    shape = record { has = tt; all = unused; once = λ k. omega arith; known = λ k l. absurd (omega (arith, l)) };
    steps = 0;
    walks =
        subst (λ n. Walks profile 0 (stage_with (stands_for n) V.input V.out V.files) (stage_with (stands_for reaped) W.input W.out W.files)) (sym is_gone)
        (subst (λ i. Walks profile 0 (stage_with (stands_for reaped) V.input V.out V.files) (stage_with (stands_for reaped) i W.out W.files)) (sym z.rest.input)
        (subst (λ o. Walks profile 0 (stage_with (stands_for reaped) V.input V.out V.files) (stage_with (stands_for reaped) V.input o W.files)) (sym z.rest.out)
        (subst (λ F. Walks profile 0 (stage_with (stands_for reaped) V.input V.out V.files) (stage_with (stands_for reaped) V.input V.out F)) (sym z.rest.files) stands)));
    pays = omega arith;
  }
    where
      is_gone : t ≡ gone z.child
      is_gone = zombie_kid profile V 0 input out out t z.child shape.has (shape.all 0 ∙ ap is_used none) z.was (omega (arith, shape.all z.child, ap is_used z.was))

      unused : (q : ℕ) → 0 ≡ is_used (W.slots q)
      unused q =
          elim (same_cases q z.child) [
            | inl is ↦ sym (ap (λ n. is_used (W.slots n)) is.0 ∙ ap is_used z.gone)
            | inr ne ↦ sym (ap is_used (z.others q ne.0) ∙ sym (shape.all q) ∙ ap (occurs q) is_gone ∙ ne.1)
          ]
