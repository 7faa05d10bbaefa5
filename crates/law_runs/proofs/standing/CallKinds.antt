-- Kinds of calls at a process's own place: one that changes its slot alone, one that makes a child, one that takes one
-- away, and one that changes nothing.
use Rattle.std.proofs.Common.{◌≡◌, ◌≢◌, inl, inr, ℕ, ◌+◌, ◌*◌, ◌≤◌, Bool, true, arith, refl, sym, ap, ◌∙◌, subst}
use Rattle.std.specs.Prelude.{if◌then◌else◌}
use Rattle.std.proofs.lemmas.Bool.{ne_eqb}
use Rattle.script_load.specs.declared.profile.Profile.{Profile}
use Rattle.tree_model.specs.Rules.{silent}
use Rattle.process_model.specs.Seen.{Entry, input, out, diag, reader, writer, file, Fds, Act, Seen, free, zombie, live, View}
use Rattle.process_model.specs.Shape.{Node, Has, same, occurs, names, is_there, is_used, stands_for}
use Rattle.process_model.specs.Effect.{ParentIs, Sets, Rest, Quiet, Forks, Exits, Reaps, given, EffectBy, IsCall}
use Rattle.process_model.specs.Part.{name_of, CanBeInput, CanBeOutput, Same, Moves, stays as stay, calls_left, After}
use Rattle.process_model.proofs.Counts.{same_self, same_cases, called_once, not_called}
use Rattle.law_runs.proofs.standing.Frame.{stays}

-- p's slot, with the effect of its call
abbrev EffectOf : View → View → ℕ → Seen → Type 0
EffectOf V W p free = Unit {0}
EffectOf V W p (zombie parent) = Unit {0}
EffectOf V W p (live parent act put d) = EffectBy V W p parent put act d act.call

module _ (V W : View) where
  -- the effect of p's call, by what its slot is known to be
  pub effect_at : (p parent put : ℕ) (act : Act) (d : Fds) → IsCall V W p → V.slots p ≡ live parent act put d → EffectBy V W p parent put act d act.call
  effect_at p parent put act d c is = subst (EffectOf V W p) (sym c.slot ∙ is) c.effect

  pub lives : (p r : ℕ) → IsCall V W p → V.slots p ≡ zombie r → ⊥
  lives p r c is = let z : live c.parent c.act c.put c.fds ≡ zombie r = sym c.slot ∙ is in let w : ⊥ = cc in w

  -- ---- who stays

  pub not_given : (p : ℕ) (s : Seen) → (ParentIs s p → ⊥) → given p s ≡ s
  not_given p free none = refl
  not_given p (zombie q) none = ap (λ (b : Bool). zombie (if b then 0 else q)) (ne_eqb p q (λ e. none (sym e)))
  not_given p (live q act put d) none = ap (λ (b : Bool). live (if b then 0 else q) act put d) (ne_eqb p q (λ e. none (sym e)))

  -- ---- names that stay

  pub same_of : Rest V W → (e : Entry) → Same V W e
  same_of r input = r.input
  same_of r out = r.out
  same_of r diag = tt
  same_of r (reader i) = r.pipes i
  same_of r (writer i) = r.pipes i
  same_of r (file e) = r.places e

  -- an entry whose name nothing is done to
  pub same_but : (W.input ≡ V.input) → (W.out ≡ V.out) → (e : Entry) → ((k : ℕ) → 1 ≤ name_of k e → (W.pipes k ≡ V.pipes k) × (W.places k ≡ V.places k)) → Same V W e
  same_but i o input h = i
  same_but i o out h = o
  same_but i o diag h = tt
  same_but i o (reader k) h = (h k (omega (arith, same_self k))).0
  same_but i o (writer k) h = (h k (omega (arith, same_self k))).0
  same_but i o (file k) h = (h k (omega (arith, same_self k))).1

  -- the input of a part that stays, and the output
  pub in_beside : (a : Entry) → CanBeInput a → W.input ≡ V.input → ((k : ℕ) → 1 ≤ name_of k a → (W.pipes k ≡ V.pipes k) × (W.places k ≡ V.places k)) → Same V W a
  in_beside input i e h = e
  in_beside out i e h = absurd i
  in_beside diag i e h = absurd i
  in_beside (reader k) i e h = (h k (omega (arith, same_self k))).0
  in_beside (writer k) i e h = absurd i
  in_beside (file k) i e h = (h k (omega (arith, same_self k))).1

  pub out_beside : (b : Entry) → CanBeOutput b → W.out ≡ V.out → ((k : ℕ) → 1 ≤ name_of k b → (W.pipes k ≡ V.pipes k) × (W.places k ≡ V.places k)) → Same V W b
  out_beside input i e h = absurd i
  out_beside out i e h = e
  out_beside diag i e h = absurd i
  out_beside (reader k) i e h = absurd i
  out_beside (writer k) i e h = (h k (omega (arith, same_self k))).0
  out_beside (file k) i e h = (h k (omega (arith, same_self k))).1

  -- ---- slots that are used

  pub sets_used : (p : ℕ) (s s' : Seen) → V.slots p ≡ s → Sets V W p s' → is_used s ≡ is_used s' → (q : ℕ) → is_used (V.slots q) ≡ is_used (W.slots q)
  sets_used p s s' e z u q =
      elim (same_cases q p) [
        | inl h ↦ ap (λ x. is_used (V.slots x)) h.0 ∙ ap is_used e ∙ u ∙ sym (ap is_used z.here) ∙ sym (ap (λ x. is_used (W.slots x)) h.0)
        | inr h ↦ sym (ap is_used (z.others q h.0))
      ]

  pub forks_used : (p parent : ℕ) (act : Act) (d : Fds) (s : Seen) → V.slots p ≡ s → is_used s ≡ 1 → (f : Forks V W p parent act d) → (q : ℕ) → is_used (W.slots q) ≡ is_used (V.slots q) + same q f.child
  forks_used p parent act d s e u f q =
      elim (same_cases q f.child) [
        | inl h ↦ omega (arith, h.1, ap (λ x. is_used (W.slots x)) h.0, ap is_used f.child_is, ap (λ x. is_used (V.slots x)) h.0, ap is_used f.was_free)
        | inr h ↦
            elim (same_cases q p) [
              | inl i ↦ omega (arith, h.1, ap (λ x. is_used (W.slots x)) i.0, ap is_used f.here, ap (λ x. is_used (V.slots x)) i.0, ap is_used e, u)
              | inr i ↦ omega (arith, h.1, ap is_used (f.others q i.0 h.0))
            ]
      ]

  pub reaps_used : (p parent : ℕ) (act : Act) (d : Fds) (s : Seen) → V.slots p ≡ s → is_used s ≡ 1 → (f : Reaps V W p parent act d) → (q : ℕ) → is_used (W.slots q) + same q f.child ≡ is_used (V.slots q)
  reaps_used p parent act d s e u f q =
      elim (same_cases q f.child) [
        | inl h ↦ omega (arith, h.1, ap (λ x. is_used (W.slots x)) h.0, ap is_used f.gone, ap (λ x. is_used (V.slots x)) h.0, ap is_used f.was)
        | inr h ↦
            elim (same_cases q p) [
              | inl i ↦ omega (arith, h.1, ap (λ x. is_used (W.slots x)) i.0, ap is_used f.here, ap (λ x. is_used (V.slots x)) i.0, ap is_used e, u)
              | inr i ↦ omega (arith, h.1, ap is_used (f.others q i.0 h.0))
            ]
      ]

  -- ---- kinds of calls

  module _ (profile : Profile) (a b old : Entry) (parent : ℕ) where
    -- only the slot of p changes
    pub calm : (p : ℕ) (s s' : Seen) (t to : Node) → V.slots p ≡ s → Sets V W p s' → Rest V W → is_used s ≡ is_used s' → Has profile W a b old parent to → {n : ℕ} → Moves profile n (stands_for t) V.files silent (stands_for to) V.files → ((q : ℕ) → occurs q to ≡ occurs q t) → ((k : ℕ) → names k to ≤ names k t) → is_there to ≡ is_there t → calls_left to + 1 ≤ calls_left t + 15 * n → After profile V W p a b old parent t
    calm p s s' t to e z r u h {n} m oc nm l pays = record {
      to = to;
      label = silent;
      files = V.files;
      has = h;
      steps = n;
      moves = m;
      tells = (same_of r a, same_of r b, r.files);
      pids = λ q. omega (arith, oc q, sets_used p s s' e z u q);
      ids = λ k. omega (arith, nm k);
      others = λ k na nb lt none. (r.pipes k, r.places k);
      input_stays = λ n. r.input;
      out_stays = λ n. r.out;
      there = l;
      over = λ z. refl;
      pays = omega (arith, pays, called_once W p);
    }

    -- nothing changes, and p sleeps
    pub nothing : (p : ℕ) → W.asleep p ≡ true → (t : Node) → Has profile V a b old parent t → Quiet V W → After profile V W p a b old parent t
    nothing p asleep t h z = record {
      to = t;
      label = silent;
      files = V.files;
      has = stays profile V W a b old parent t (record { slots = λ q l. z.slots q; pipes = λ k l. z.rest.pipes k; places = λ k l. z.rest.places k }) h;
      steps = 0;
      moves = stay;
      tells = (same_of z.rest a, same_of z.rest b, z.rest.files);
      pids = λ q. omega (arith, ap is_used (z.slots q));
      ids = λ k. omega arith;
      others = λ k na nb lt none. (z.rest.pipes k, z.rest.places k);
      input_stays = λ n. z.rest.input;
      out_stays = λ n. z.rest.out;
      there = refl;
      over = λ z. refl;
      pays = omega (arith, not_called W p asleep);
    }

    -- a child is made
    pub forked : (p : ℕ) (act : Act) (d : Fds) (s : Seen) (t to : Node) → V.slots p ≡ s → is_used s ≡ 1 → (f : Forks V W p parent act d) → Has profile W a b old parent to → {n : ℕ} → Moves profile n (stands_for t) V.files silent (stands_for to) V.files → ((q : ℕ) → occurs q to ≡ occurs q t + same q f.child) → ((k : ℕ) → names k to ≤ names k t) → is_there to ≡ is_there t → calls_left to + 1 ≤ calls_left t + 15 * n → After profile V W p a b old parent t
    forked p act d s t to e u f h {n} m oc nm l pays = record {
      to = to;
      label = silent;
      files = V.files;
      has = h;
      steps = n;
      moves = m;
      tells = (same_of f.rest a, same_of f.rest b, f.rest.files);
      pids = λ q. omega (arith, oc q, forks_used p parent act d s e u f q);
      ids = λ k. omega (arith, nm k);
      others = λ k na nb lt none. (f.rest.pipes k, f.rest.places k);
      input_stays = λ n. f.rest.input;
      out_stays = λ n. f.rest.out;
      there = l;
      over = λ z. refl;
      pays = omega (arith, pays, called_once W p);
    }

    -- a child is taken away
    pub reaped_one : (p : ℕ) (act : Act) (d : Fds) (s : Seen) (t to : Node) → V.slots p ≡ s → is_used s ≡ 1 → (f : Reaps V W p parent act d) → Has profile W a b old parent to → {n : ℕ} → Moves profile n (stands_for t) V.files silent (stands_for to) V.files → ((q : ℕ) → occurs q to + same q f.child ≡ occurs q t) → ((k : ℕ) → names k to ≤ names k t) → is_there to ≡ is_there t → calls_left to + 1 ≤ calls_left t + 15 * n → After profile V W p a b old parent t
    reaped_one p act d s t to e u f h {n} m oc nm l pays = record {
      to = to;
      label = silent;
      files = V.files;
      has = h;
      steps = n;
      moves = m;
      tells = (same_of f.rest a, same_of f.rest b, f.rest.files);
      pids = λ q. omega (arith, oc q, reaps_used p parent act d s e u f q);
      ids = λ k. omega (arith, nm k);
      others = λ k na nb lt none. (f.rest.pipes k, f.rest.places k);
      input_stays = λ n. f.rest.input;
      out_stays = λ n. f.rest.out;
      there = l;
      over = λ z. refl;
      pays = omega (arith, pays, called_once W p);
    }

    -- p, whose children are all gone, ends
    pub ended : (p : ℕ) (act : Act) (d : Fds) (t : Node) → V.slots p ≡ live parent act 0 d → Exits V W p parent → ((q : ℕ) → q ≢ p → ParentIs (V.slots q) p → ⊥) → {n : ℕ} → Moves profile n (stands_for t) V.files silent (stands_for (Rattle.process_model.specs.Shape.gone p)) V.files → ((q : ℕ) → same q p ≡ occurs q t) → is_there t ≡ 1 → 1 ≤ calls_left t + 15 * n → After profile V W p a b old parent t
    ended p act d t e x none {n} m oc l pays =
        calm p (live parent act 0 d) (zombie parent) t (Rattle.process_model.specs.Shape.gone p) e (record { here = x.here; others = λ q ne. x.others q ne ∙ not_given p (V.slots q) (none q ne) }) x.rest refl x.here {n = n} m oc (λ k. omega arith) (sym l) (omega (arith, pays))
