-- A call of a process inside a part: the whole that the part is in goes on with it.
use Rattle.std.proofs.Common.{◌≡◌, ◌≢◌, ◌⊎◌, inl, inr, ℕ, suc, ◌+◌, ◌<◌, ◌≤◌, List, drop, Bool, arith, refl, sym, ap, ◌∙◌, subst}
use Rattle.mem_files.specs.Name.{Name, Bytes}
use Rattle.sh_tree.specs.Tree.{Tree}
use Rattle.script_load.specs.Line.{ScriptLine}
use Rattle.script_load.specs.declared.profile.Profile.{Profile}
use Rattle.meaning_model.specs.Meaning.{script_tree}
use Rattle.user_calls.specs.declared.calls.Mode.{Mode}
use Rattle.user_calls.specs.declared.calls.Mode.TheVariants.{Input as ToRead}
use Rattle.tree_model.specs.Residual.{done, todo, from, into}
use Rattle.tree_model.specs.Rules.{silent, from_silent, into_silent, from_ends, into_ends}
use Rattle.process_model.specs.Seen.{Entry, reader, writer, file, Fds, Act, live, View}
use Rattle.process_model.specs.Phases.{Stage}
use Rattle.process_model.specs.Shape.{Node, reaped, gone, starts, works, tells, leaves, reads_lines, in_line, in_list, pipe_made, pipe_half, pipe_both, left_child, right_child, opening, under_input, under_output, Has, occurs, names, is_there, is_up, is_used, position, stands_for}
use Rattle.process_model.specs.Effect.{ParentIs}
use Rattle.process_model.specs.Part.{name_of, Tells, Moves, then_goes, Part, After}
use Rattle.process_model.proofs.Counts.{called_once}
use Rattle.law_runs.proofs.standing.Frame.{stays, up_there}
use Rattle.law_runs.proofs.standing.CallKinds.{in_beside, out_beside}
use Rattle.law_runs.proofs.standing.Kids.{placed, held, keeps_read, keeps_write, beside, differ}
use Rattle.law_runs.proofs.standing.Whole.{silent_moves, seq_moves, left_whole, right_whole, input_whole, output_whole}

module _ (profile : Profile) (V W : View) (p : ℕ) (same_slot : (q : ℕ) → q ≢ p → (ParentIs (V.slots q) p → ⊥) → is_used (V.slots q) ≡ 1 → W.slots q ≡ V.slots q) where
  apart_from : (q : ℕ) (x : Node) → occurs p x ≡ 0 → 1 ≤ occurs q x → q ≢ p
  apart_from q x z l e = absurd (omega (arith, z, l, ap (λ r. occurs r x) e))

  -- a process above p stays
  keep : (pp parent k : ℕ) (act : Act) (d : Fds) → V.slots pp ≡ live parent act k d → pp ≢ p → p ≢ parent → W.slots pp ≡ live parent act k d
  keep pp parent k act d e n m = same_slot pp n (λ h. m (sym (subst (λ s. ParentIs s p) e h))) (ap is_used e) ∙ e

  pub in_list_steps : (a b old : Entry) (parent pp : ℕ) (x : Node) (t : Tree) → Part profile V a b old parent p (in_list pp x t) → p ≢ pp → After profile V W p a b old pp x → After profile V W p a b old parent (in_list pp x t)
  in_list_steps a b old parent pp x t g n r = record {
    to = in_list pp r.to t;
    label = r.label;
    files = r.files;
    has = (keep pp parent 0 _ _ g.has.0 (λ e. n (sym e)) (differ profile V p parent (in_list pp x t) g.above g.inside), r.there ∙ g.has.1, r.has);
    steps = r.steps;
    moves = seq_moves profile (stands_for x) (stands_for r.to) t r.label V.files r.files r.moves;
    pids = λ q. omega (arith, r.pids q);
    ids = λ k. r.ids k;
    others = λ k na nb lt z. r.others k na nb lt z;
    input_stays = r.input_stays;
    out_stays = r.out_stays;
    tells = r.tells;
    there = refl;
    over = λ z. absurd (omega (arith, z));
    pays = r.pays;
  }

  pub in_line_steps : (a b old : Entry) (parent pp : ℕ) (x : Node) (t : List ScriptLine) → Part profile V a b old parent p (in_line pp x t) → p ≢ pp → After profile V W p a b old pp x → After profile V W p a b old parent (in_line pp x t)
  in_line_steps a b old parent pp x t g n r = record {
    to = in_line pp r.to t;
    label = r.label;
    files = r.files;
    has = (keep pp parent 0 _ _ g.has.0 (λ e. n (sym e)) (differ profile V p parent (in_line pp x t) g.above g.inside), r.there ∙ g.has.1, r.has);
    steps = r.steps;
    moves = seq_moves profile (stands_for x) (stands_for r.to) (script_tree (drop 1 t)) r.label V.files r.files r.moves;
    pids = λ q. omega (arith, r.pids q);
    ids = λ k. r.ids k;
    others = λ k na nb lt z. r.others k na nb lt z;
    input_stays = r.input_stays;
    out_stays = r.out_stays;
    tells = r.tells;
    there = refl;
    over = λ z. absurd (omega (arith, z));
    pays = r.pays;
  }

  pub in_half_steps : (a b old : Entry) (parent pp i : ℕ) (lost : Bool) (x : Node) (u : Bytes) (c : Tree) → Part profile V a b old parent p (pipe_half pp i lost x u c) → p ≢ pp → After profile V W p a (writer i) b pp x → After profile V W p a b old parent (pipe_half pp i lost x u c)
  in_half_steps a b old parent pp i lost x u c g n r =
      let eb = out_beside V W b g.can_write (r.out_stays tt) (λ k l. r.others k (omega (arith, l, g.apart k)) (omega (arith, l, g.apart k)) (g.ends_known k (omega (arith, l))) (omega (arith, l, g.apart k))) in
      let w = left_whole profile V W a b i r.files (stands_for x) (stands_for r.to) (todo c) lost u r.label r.moves r.tells g.has.1 eb (λ nh. absurd (held profile V (reader i) pp _ _ 3 _ _ g.has.0 refl nh)) in
      record {
        to = pipe_half pp i w.lost r.to (W.pipes i) c;
        label = w.whole.label;
        files = w.whole.files;
        has = (keep pp parent 0 _ _ g.has.0 (λ e. n (sym e)) (differ profile V p parent (pipe_half pp i lost x u c) g.above g.inside), refl, r.there ∙ g.has.2, r.has);
        steps = r.steps;
        moves = w.whole.moves;
        pids = λ q. omega (arith, r.pids q);
        ids = λ k. omega (arith, r.ids k);
        others = λ k na nb lt z. r.others k na (omega (arith, z)) lt (omega (arith, z));
        input_stays = r.input_stays;
        out_stays = λ m. r.out_stays tt;
        tells = w.whole.tells;
        there = refl;
        over = λ z. absurd (omega (arith, z));
        pays = omega (arith, r.pays);
      }

  -- a part beside that of p stays
  frame_beside : (a b old α β : Entry) (pp : ℕ) (x y : Node) → Has profile V a b old pp y → p ≢ pp → occurs p y ≡ 0 → ((k : ℕ) → 1 ≤ names k y → (k < V.next) × (name_of k α ≡ 0) × (name_of k β ≡ 0) × (names k x ≡ 0)) → ((k : ℕ) → name_of k α ≡ 0 → name_of k β ≡ 0 → k < V.next → names k x ≡ 0 → (W.pipes k ≡ V.pipes k) × (W.places k ≡ V.places k)) → Has profile W a b old pp y
  frame_beside a b old α β pp x y h n z kk others =
      stays profile V W a b old pp y (record {
        slots = λ q l. same_slot q (apart_from q y z l) (λ k. absurd (omega (arith, l, beside profile V a b old p pp q y h n z k))) (placed profile V a b old pp y h q l).used_is;
        pipes = λ k l. let w = kk k l in (others k w.1 w.2 w.0 w.3).0;
        places = λ k l. let w = kk k l in (others k w.1 w.2 w.0 w.3).1;
      }) h

  pub in_left_steps : (a b old : Entry) (parent pp i : ℕ) (ph : Stage) (lost : Bool) (x y : Node) (u : Bytes) → Part profile V a b old parent p (pipe_both pp i ph lost x u y) → p ≢ pp → 1 ≤ occurs p x → After profile V W p a (writer i) b pp x → After profile V W p a b old parent (pipe_both pp i ph lost x u y)
  in_left_steps a b old parent pp i ph lost x y u g n l r =
      let eb = out_beside V W b g.can_write (r.out_stays tt) (λ k l. r.others k (omega (arith, l, g.apart k)) (omega (arith, l, g.apart k)) (g.ends_known k (omega (arith, l))) (omega (arith, l, g.apart k))) in
      let w = left_whole profile V W a b i r.files (stands_for x) (stands_for r.to) (stands_for y) lost u r.label r.moves r.tells g.has.1 eb (keeps_read profile V (reader i) b a pp y g.has.4) in
      let zy : occurs p y ≡ 0 = omega (arith, l, g.once p) in
      let hy = frame_beside (reader i) b a a (writer i) pp x y g.has.4 n zy (λ k m. (g.known k (omega (arith, m)), omega (arith, m, g.apart k), omega (arith, m, g.apart k), omega (arith, m, g.apart k))) r.others in
      record {
        to = pipe_both pp i ph w.lost r.to (W.pipes i) y;
        label = w.whole.label;
        files = w.whole.files;
        has = (keep pp parent 0 _ _ g.has.0 (λ e. n (sym e)) (differ profile V p parent (pipe_both pp i ph lost x u y) g.above g.inside), refl, ap (λ m. m + is_there y) r.there ∙ g.has.2, r.has, hy);
        steps = r.steps;
        moves = w.whole.moves;
        pids = λ q. omega (arith, r.pids q);
        ids = λ k. omega (arith, r.ids k);
        others = λ k na nb lt z. r.others k na (omega (arith, z)) lt (omega (arith, z));
        input_stays = r.input_stays;
        out_stays = λ m. r.out_stays tt;
        tells = w.whole.tells;
        there = refl;
        over = λ z. absurd (omega (arith, z));
        pays = omega (arith, r.pays);
      }

  pub in_right_steps : (a b old : Entry) (parent pp i : ℕ) (ph : Stage) (lost : Bool) (x y : Node) (u : Bytes) → Part profile V a b old parent p (pipe_both pp i ph lost x u y) → p ≢ pp → 1 ≤ occurs p y → After profile V W p (reader i) b a pp y → After profile V W p a b old parent (pipe_both pp i ph lost x u y)
  in_right_steps a b old parent pp i ph lost x y u g n l r =
      let ea = in_beside V W a g.can_read (r.input_stays tt) (λ k l. r.others k (omega (arith, l, g.apart k)) (omega (arith, l, g.apart k)) (g.ends_known k (omega (arith, l))) (omega (arith, l, g.apart k))) in
      let w = right_whole profile V W a b i r.files (stands_for x) (stands_for y) (stands_for r.to) lost u r.label r.moves r.tells g.has.1 ea (keeps_write profile V a (writer i) b pp x g.has.3) in
      let zx : occurs p x ≡ 0 = omega (arith, l, g.once p) in
      let hx = frame_beside a (writer i) b (reader i) b pp y x g.has.3 n zx (λ k m. (g.known k (omega (arith, m)), omega (arith, m, g.apart k), omega (arith, m, g.apart k), omega (arith, m, g.apart k))) r.others in
      record {
        to = pipe_both pp i ph lost x (W.pipes i) r.to;
        label = w.label;
        files = w.files;
        has = (keep pp parent 0 _ _ g.has.0 (λ e. n (sym e)) (differ profile V p parent (pipe_both pp i ph lost x u y) g.above g.inside), refl, ap (λ m. is_there x + m) r.there ∙ g.has.2, hx, r.has);
        steps = r.steps;
        moves = w.moves;
        pids = λ q. omega (arith, r.pids q);
        ids = λ k. omega (arith, r.ids k);
        others = λ k na nb lt z. r.others k (omega (arith, z)) nb lt (omega (arith, z));
        input_stays = λ m. r.input_stays tt;
        out_stays = r.out_stays;
        tells = w.tells;
        there = refl;
        over = λ z. absurd (omega (arith, z));
        pays = omega (arith, r.pays);
      }

  -- up, or gone
  up_or : (n : Node) → (is_up n ≡ 1) ⊎ ((n ≡ reaped) ⊎ ((q : ℕ) × (n ≡ gone q)))
  up_or reaped = inr (inl refl)
  up_or (gone q) = inr (inr (q, refl))
  up_or (starts q t) = inl refl
  up_or (works q t put owns) = inl refl
  up_or (tells q m) = inl refl
  up_or (leaves q) = inl refl
  up_or (reads_lines q l) = inl refl
  up_or (in_line q x l) = inl refl
  up_or (in_list q x t) = inl refl
  up_or (pipe_made q i l r) = inl refl
  up_or (pipe_half q i lost x u r) = inl refl
  up_or (pipe_both q i ph lost x u y) = inl refl
  up_or (left_child q s t) = inl refl
  up_or (right_child q s t) = inl refl
  up_or (opening q m f t) = inl refl
  up_or (under_input e f at x) = inl refl
  up_or (under_output e mode f at x) = inl refl

  pub under_input_steps : (a b old : Entry) (parent e : ℕ) (f : Name) (at : ℕ) (x : Node) → Part profile V a b old parent p (under_input e f at x) → After profile V W p (file e) b old parent x → After profile V W p a b old parent (under_input e f at x)
  under_input_steps a b old parent e f at x g r =
      let ea = in_beside V W a g.can_read (r.input_stays tt) (λ k l. r.others k (omega (arith, l, g.apart k)) (omega (arith, l, g.apart k)) (g.ends_known k (omega (arith, l))) (omega (arith, l, g.apart k))) in
      elim (up_or r.to) [
        | inl z ↦
            let w = input_whole profile V W a b e ToRead f at r.files g.has.0 (stands_for x) (stands_for r.to) r.label r.moves r.tells ea in
            record {
              to = under_input e f w.at r.to;
              label = w.whole.label;
              files = w.whole.files;
              has = (w.place, z, r.has);
              steps = r.steps;
              moves = w.whole.moves;
              pids = r.pids;
              ids = λ k. omega (arith, r.ids k);
              others = λ k na nb lt z. r.others k (omega (arith, z)) nb lt (omega (arith, z));
              input_stays = λ m. r.input_stays tt;
              out_stays = r.out_stays;
              tells = w.whole.tells;
              there = refl;
              over = λ z. absurd (omega (arith, z));
              pays = r.pays;
            }
        | inr (inl z) ↦ let w = sym r.there ∙ ap is_there z in absurd (omega (arith, w, up_there x g.has.1))
        | inr (inr z) ↦
            let t = r.over (ap is_up z.1) in
            let m = subst (λ k. Moves profile r.steps (stands_for x) V.files k (stands_for (gone z.0)) r.files) t (subst (λ n. Moves profile r.steps (stands_for x) V.files r.label (stands_for n) r.files) z.1 r.moves) in
            let ef = subst (Tells V W r.files (file e) b) t r.tells in
            record {
              to = gone z.0;
              label = silent;
              files = r.files;
              has = subst (λ n. Has profile W (file e) b old parent n) z.1 r.has;
              steps = suc r.steps;
              moves = then_goes (silent_moves profile (λ y. from f at y) (stands_for x) done V.files r.files (λ y v i j s. from_silent s) m) from_ends;
              pids = λ q. omega (arith, r.pids q, ap (occurs q) z.1);
              ids = λ k. omega arith;
              others = λ k na nb lt z. r.others k (omega (arith, z)) nb lt (omega (arith, z));
              input_stays = λ m. r.input_stays tt;
              out_stays = r.out_stays;
              tells = (ea, ef.1, ef.2);
              there = refl;
              over = λ z. refl;
              pays = omega (arith, r.pays, called_once W p);
            }
      ]

  pub under_output_steps : (a b old : Entry) (parent e : ℕ) (mode : Mode) (f : Name) (at : ℕ) (x : Node) → Part profile V a b old parent p (under_output e mode f at x) → After profile V W p a (file e) old parent x → After profile V W p a b old parent (under_output e mode f at x)
  under_output_steps a b old parent e mode f at x g r =
      let eb = out_beside V W b g.can_write (r.out_stays tt) (λ k l. r.others k (omega (arith, l, g.apart k)) (omega (arith, l, g.apart k)) (g.ends_known k (omega (arith, l))) (omega (arith, l, g.apart k))) in
      elim (up_or r.to) [
        | inl z ↦
            let w = output_whole profile V W a b e mode f at r.files g.has.0 (stands_for x) (stands_for r.to) r.label r.moves r.tells eb in
            record {
              to = under_output e mode f w.at r.to;
              label = w.whole.label;
              files = w.whole.files;
              has = (w.place, z, r.has, g.has.3);
              steps = r.steps;
              moves = w.whole.moves;
              pids = r.pids;
              ids = λ k. omega (arith, r.ids k);
              others = λ k na nb lt z. r.others k na (omega (arith, z)) lt (omega (arith, z));
              input_stays = r.input_stays;
              out_stays = λ m. r.out_stays tt;
              tells = w.whole.tells;
              there = refl;
              over = λ z. absurd (omega (arith, z));
              pays = r.pays;
            }
        | inr (inl z) ↦ let w = sym r.there ∙ ap is_there z in absurd (omega (arith, w, up_there x g.has.1))
        | inr (inr z) ↦
            let t = r.over (ap is_up z.1) in
            let m = subst (λ k. Moves profile r.steps (stands_for x) V.files k (stands_for (gone z.0)) r.files) t (subst (λ n. Moves profile r.steps (stands_for x) V.files r.label (stands_for n) r.files) z.1 r.moves) in
            let ef = subst (Tells V W r.files a (file e)) t r.tells in
            record {
              to = gone z.0;
              label = silent;
              files = r.files;
              has = subst (λ n. Has profile W a (file e) old parent n) z.1 r.has;
              steps = suc r.steps;
              moves = then_goes (silent_moves profile (λ y. into f (position mode at) y) (stands_for x) done V.files r.files (λ y v i j s. into_silent s) m) into_ends;
              pids = λ q. omega (arith, r.pids q, ap (occurs q) z.1);
              ids = λ k. omega arith;
              others = λ k na nb lt z. r.others k na (omega (arith, z)) lt (omega (arith, z));
              input_stays = r.input_stays;
              out_stays = λ m. r.out_stays tt;
              tells = (ef.0, eb, ef.2);
              there = refl;
              over = λ z. refl;
              pays = omega (arith, r.pays, called_once W p);
            }
      ]
