-- No run is longer than the steps that are left at its begin; so each can be gone on with until all is done.
use Rattle.std.proofs.Common.{◌≡◌, inl, inr, ℕ, zero, suc, ◌+◌, ◌-◌, ◌≤◌, Bool, true, false, length, sym, ap, arith}
use Rattle.std.proofs.lemmas.List.{length-drop, length-append}
use Rattle.mem_files.specs.Name.{Name, Bytes}
use Rattle.script_load.specs.declared.profile.Profile.{Profile}
use Rattle.tree_model.specs.FilesAhead.{sizes}
use Rattle.tree_model.specs.Residual.{done}
use Rattle.tree_model.specs.Rules.{Label, silent, takes, meets_end, puts, refused, IsMet, taken, put_out}
use Rattle.tree_model.specs.Runs.{Stage, Goes, Reaches, reached, goes_on}
use Rattle.law_trees.proofs.trees.Progress.{IsSound, sound_next, Next, next}
use Rattle.tree_model.specs.Bound.{bytes_left, steps_left}
use Rattle.tree_model.specs.Ends.{steps_of}
use Rattle.law_trees.proofs.tree_ends.StepFalls.{falls}

taken_few : (l : Label) (closed ended : Bool) (i : Bytes) → IsMet l closed ended i → taken l ≤ length i
taken_few silent closed ended i met = omega arith
taken_few (takes bytes) closed ended i (more, is) = omega (arith, ap length is, length-append bytes more)
taken_few meets_end closed ended i met = omega arith
taken_few (puts bytes) closed ended i met = omega arith
taken_few refused closed ended i met = omega arith

module _ (profile : Profile) where
  -- a step of a run
  record Fewer (x y : Stage) : Type 0 where
    pub bytes : length y.out + bytes_left y.left (length y.input) (sizes y.files) ≤ length x.out + bytes_left x.left (length x.input) (sizes x.files)
    pub grow : (f : Name) → sizes y.files f + bytes_left y.left (length y.input) (sizes y.files) ≤ sizes x.files f + bytes_left x.left (length x.input) (sizes x.files)
    pub steps : suc (steps_left y.left (length y.input) (sizes y.files)) ≤ steps_left x.left (length x.input) (sizes x.files)

  fewer : (x y : Stage) → Goes profile x y → IsSound profile x → Fewer x y
  fewer x y g h =
      let few = taken_few g.label false true x.input g.met in
      let f = falls profile (length x.input) g.steps few h.0 h.1 in
      let size : length x.input - taken g.label ≡ length y.input = sym (omega (arith, ap length g.input, length-drop (taken g.label) x.input)) in
      let b = ap (λ n. bytes_left y.left n (sizes y.files)) size in
      let s = ap (λ n. steps_left y.left n (sizes y.files)) size in
      let out = ap length g.out in
      record {
        bytes = omega (arith, f.bytes, b, out, length-append x.out (put_out g.label));
        grow = λ name. let w = f.grow name in omega (arith, w, b);
        steps = omega (arith, f.steps, s);
      }

  -- a whole run
  pub record Bounded (x z : Stage) (run : Reaches profile x z) : Type 0 where
    pub bytes : length z.out + bytes_left z.left (length z.input) (sizes z.files) ≤ length x.out + bytes_left x.left (length x.input) (sizes x.files)
    pub grow : (f : Name) → sizes z.files f + bytes_left z.left (length z.input) (sizes z.files) ≤ sizes x.files f + bytes_left x.left (length x.input) (sizes x.files)
    pub steps : steps_of run + steps_left z.left (length z.input) (sizes z.files) ≤ steps_left x.left (length x.input) (sizes x.files)

  pub bounded : {x z : Stage} (run : Reaches profile x z) → IsSound profile x → Bounded x z run
  bounded reached h = record { bytes = omega arith; grow = λ f. omega arith; steps = omega arith }
  bounded (goes_on {stage = x} {next = y} {last = z} g run) h =
      let f = fewer x y g h in
      let later = bounded run (sound_next profile x y g h) in
      record {
        bytes = omega (arith, f.bytes, later.bytes);
        grow = λ name. let a = f.grow name in let b = later.grow name in omega (arith, a, b);
        steps = omega (arith, f.steps, later.steps);
      }

  -- some run leads to the end
  abbrev pub Finish : Stage → Type 0
  Finish x = (z : Stage) × Reaches profile x z × (z.left ≡ done)

  finish_by : (k : ℕ) (x : Stage) → IsSound profile x → steps_left x.left (length x.input) (sizes x.files) ≤ k → Finish x
  finish_by zero x h few = go (next profile x h)
    where
      go : Next profile x → Finish x
      go (inl e) = (x, reached, e)
      go (inr (y, g)) = absurd (omega (arith, few, (fewer x y g h).steps))
  finish_by (suc k) x h few = go (next profile x h) (λ y. finish_by k y)
    where
      go : Next profile x → ((y : Stage) → IsSound profile y → steps_left y.left (length y.input) (sizes y.files) ≤ k → Finish y) → Finish x
      go (inl e) on = (x, reached, e)
      go (inr (y, g)) on =
          let f = on y (sound_next profile x y g h) (omega (arith, few, (fewer x y g h).steps)) in
          (f.0, goes_on g f.1, f.2)

  pub finish : (x : Stage) → IsSound profile x → Finish x
  finish x h = finish_by (steps_left x.left (length x.input) (sizes x.files)) x h (omega arith)
