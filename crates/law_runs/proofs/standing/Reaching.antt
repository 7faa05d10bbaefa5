-- Steps of the machine, from what a call of the whole tree did to input, output and files.
use Rattle.std.proofs.Common.{◌≡◌, ℕ, suc, ◌+◌, arith, length, drop, refl, sym, ap, ◌∙◌, subst, append-nil}
use Rattle.std.proofs.Math.Seq.{drop-append_seam}
use Rattle.mem_files.specs.Name.{Bytes}
use Rattle.mem_files.specs.Files.{FileMap}
use Rattle.script_load.specs.declared.profile.Profile.{Profile}
use Rattle.tree_model.specs.Residual.{Residual}
use Rattle.tree_model.specs.Rules.{Label, silent, takes, meets_end, puts, refused, Steps}
use Rattle.tree_model.specs.Moving.{IsPlain}
use Rattle.tree_model.specs.Runs.{Stage, Goes, Reaches, reached, goes_on}
use Rattle.law_trees.proofs.trees.Progress.{plain_kept}
use Rattle.law_runs.specs.Walks.{Walks, stands, walks_on}
use Rattle.process_model.specs.Seen.{input, out, View}
use Rattle.process_model.specs.Part.{Tells, Moves, stays, goes, then_goes}

abbrev pub stage_with : Residual → Bytes → Bytes → FileMap → Stage
stage_with X i o F = record { left = X; input = i; out = o; files = F }

module _ (profile : Profile) where
  pub reach : {n : ℕ} {x y : Stage} → Walks profile n x y → Reaches profile x y
  reach stands = reached
  reach (walks_on g r) = goes_on g (reach r)

  pub walks_then : {n m : ℕ} {x y z : Stage} → Walks profile n x y → Walks profile m y z → (k : ℕ) × (k ≡ n + m) × Walks profile k x z
  walks_then {m = m} stands r = (m, omega arith, r)
  walks_then (walks_on g first) r = let w = walks_then first r in (suc w.0, omega (arith, w.1), walks_on g w.2)

  one : (x y : Stage) → Goes profile x y → Walks profile 1 x y
  one x y g = walks_on g stands

  one_more : {n : ℕ} {x y z : Stage} → Walks profile n x y → Goes profile y z → Walks profile (suc n) x z
  one_more stands g = walks_on g stands
  one_more (walks_on h r) g = walks_on h (one_more r g)

  silently : (X Y : Residual) (F G : FileMap) (i o : Bytes) → Steps profile X F silent Y G → Goes profile (stage_with X i o F) (stage_with Y i o G)
  silently X Y F G i o s = record { label = silent; steps = s; met = tt; input = refl; out = sym (append-nil o) }

  silent_walk : (X Y : Residual) (F G : FileMap) (i o : Bytes) → {n : ℕ} → Moves profile n X F silent Y G → Walks profile n (stage_with X i o F) (stage_with Y i o G)
  silent_walk X Y F G i o stays = stands
  silent_walk X Y F G i o (goes s) = one (stage_with X i o F) (stage_with Y i o G) (silently X Y F G i o s)
  silent_walk X Z F H i o (then_goes {Y = Y} {G = G} m s) = one_more (silent_walk X Y F G i o m) (silently Y Z G H i o s)

  -- from what was left before the call to what is left after it
  pub moves_walk : (V W : View) (X Y : Residual) (G : FileMap) (label : Label) → {n : ℕ} → Moves profile n X V.files label Y G → Tells V W G input out label → Walks profile n (stage_with X V.input V.out V.files) (stage_with Y W.input W.out W.files)
  moves_walk V W X Y G silent {n} m t =
      subst (λ F. Walks profile n (stage_with X V.input V.out V.files) (stage_with Y W.input W.out F)) (sym t.2)
      (subst (λ o. Walks profile n (stage_with X V.input V.out V.files) (stage_with Y W.input o G)) (sym t.1)
      (subst (λ i. Walks profile n (stage_with X V.input V.out V.files) (stage_with Y i V.out G)) (sym t.0) (silent_walk X Y V.files G V.input V.out m)))
  moves_walk V W X Y G (takes c) (goes s) t =
      one (stage_with X V.input V.out V.files) (stage_with Y W.input W.out W.files) (record {
        label = takes c;
        steps = subst (Steps profile X V.files (takes c) Y) (sym t.2) s;
        met = (W.input, t.0);
        input = sym (ap (drop (length c)) t.0 ∙ drop-append_seam c W.input);
        out = t.1 ∙ sym (append-nil V.out);
      })
  moves_walk V W X Y G meets_end (goes s) t =
      one (stage_with X V.input V.out V.files) (stage_with Y W.input W.out W.files) (record {
        label = meets_end;
        steps = subst (Steps profile X V.files meets_end Y) (sym t.3) s;
        met = (refl, t.0);
        input = t.1;
        out = t.2 ∙ sym (append-nil V.out);
      })
  moves_walk V W X Y G (puts c) (goes s) t =
      one (stage_with X V.input V.out V.files) (stage_with Y W.input W.out W.files) (record {
        label = puts c;
        steps = subst (Steps profile X V.files (puts c) Y) (sym t.0.1) s;
        met = tt;
        input = t.1;
        out = t.0.0;
      })
  moves_walk V W X Y G refused (goes s) t = absurd t.0

  -- no command is behind & along the way
  pub reaches_plain : {x y : Stage} → Reaches profile x y → IsPlain x.left → IsPlain y.left
  reaches_plain reached h = h
  reaches_plain (goes_on g r) h = reaches_plain r (plain_kept profile g.steps h)
