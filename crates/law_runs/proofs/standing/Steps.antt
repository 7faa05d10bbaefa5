-- A call of any process of a part: the part goes on with it.
use Rattle.std.proofs.Common.{◌≡◌, ◌≢◌, inl, inr, ℕ, ◌≤◌, ◌∙◌, ap, subst, arith}
use Rattle.script_load.specs.declared.profile.Profile.{Profile}
use Rattle.process_model.specs.Seen.{Entry, reader, writer, file, View}
use Rattle.process_model.specs.Shape.{Node, reaped, gone, starts, works, tells, leaves, reads_lines, in_line, in_list, pipe_made, pipe_half, pipe_both, left_child, right_child, opening, under_input, under_output, occurs, is_used}
use Rattle.process_model.specs.Effect.{ParentIs, IsCall}
use Rattle.process_model.specs.Part.{Part, After}
use Rattle.process_model.proofs.Counts.{same_yes, same_cases, none_or_some}
use Rattle.law_runs.proofs.standing.Kids.{part_under_input, part_under_output, part_line, part_list, part_one, part_left, part_right}
use Rattle.law_runs.proofs.standing.Within.{in_list_steps, in_line_steps, in_half_steps, in_left_steps, in_right_steps, under_input_steps, under_output_steps}
use Rattle.law_runs.proofs.standing.Apart.{call_apart}
use Rattle.law_runs.proofs.standing.ShellBegins.{begins_command}
use Rattle.law_runs.proofs.standing.ShellGoes.{says, leaves_now, reads_on, forks_left_side, forks_right_side, left_goes, right_goes}
use Rattle.law_runs.proofs.standing.ShellJoins.{list_waits, line_waits, pipe_goes}
use Rattle.law_runs.proofs.standing.ShellOpens.{opens_now}
use Rattle.law_runs.proofs.standing.Programs.{program_goes}
use Rattle.law_runs.proofs.standing.CallKinds as kinds

module _ (profile : Profile) (V W : View) (p : ℕ) (ev : IsCall V W p) where
  -- a call of the process at the root
  at_root : (a b old : Entry) (parent q : ℕ) (f : ℕ → Node) → p ≡ q → (Part profile V a b old parent p (f p) → After profile V W p a b old parent (f p)) → Part profile V a b old parent p (f q) → After profile V W p a b old parent (f q)
  at_root a b old parent q f is own g = subst (λ n. Part profile V a b old parent p (f n) → After profile V W p a b old parent (f n)) is own g

  elsewhere : (q : ℕ) → q ≢ p → (ParentIs (V.slots q) p → ⊥) → is_used (V.slots q) ≡ 1 → W.slots q ≡ V.slots q
  elsewhere = call_apart V W p ev

  pub steps : (a b old : Entry) (parent : ℕ) (t : Node) → Part profile V a b old parent p t → After profile V W p a b old parent t
  steps a b old parent reaped g = absurd (omega (arith, g.inside))
  steps a b old parent (gone q) g = absurd (kinds.lives V W p parent ev (ap V.slots (same_yes p q g.inside) ∙ g.has))
  steps a b old parent (starts q tree) g = at_root a b old parent q (λ n. starts n tree) (same_yes p q g.inside) (begins_command profile V W a b old parent p ev tree) g
  steps a b old parent (works q turn put owns) g = at_root a b old parent q (λ n. works n turn put owns) (same_yes p q g.inside) (program_goes profile V W a b old parent p ev turn put owns) g
  steps a b old parent (tells q message) g = at_root a b old parent q (λ n. tells n message) (same_yes p q g.inside) (says profile V W a b old parent p ev message) g
  steps a b old parent (leaves q) g = at_root a b old parent q leaves (same_yes p q g.inside) (leaves_now profile V W a b old parent p ev) g
  steps a b old parent (reads_lines q lines) g = at_root a b old parent q (λ n. reads_lines n lines) (same_yes p q g.inside) (reads_on profile V W a b old parent p ev lines) g
  steps a b old parent (in_line q x lines) g =
      elim (same_cases p q) [
        | inl is ↦ at_root a b old parent q (λ n. in_line n x lines) is.0 (line_waits profile V W a b old parent p ev x lines) g
        | inr ne ↦ in_line_steps profile V W p elsewhere a b old parent q x lines g ne.0 (steps a b old q x (part_line profile V a b old parent p q x lines g (omega (arith, g.inside, ne.1))))
      ]
  steps a b old parent (in_list q x later) g =
      elim (same_cases p q) [
        | inl is ↦ at_root a b old parent q (λ n. in_list n x later) is.0 (list_waits profile V W a b old parent p ev x later) g
        | inr ne ↦ in_list_steps profile V W p elsewhere a b old parent q x later g ne.0 (steps a b old q x (part_list profile V a b old parent p q x later g (omega (arith, g.inside, ne.1))))
      ]
  steps a b old parent (pipe_made q i left right) g = at_root a b old parent q (λ n. pipe_made n i left right) (same_yes p q g.inside) (forks_left_side profile V W a b old parent p ev i left right) g
  steps a b old parent (pipe_half q i lost x bytes right) g =
      elim (same_cases p q) [
        | inl is ↦ at_root a b old parent q (λ n. pipe_half n i lost x bytes right) is.0 (forks_right_side profile V W a b old parent p ev i lost x bytes right) g
        | inr ne ↦ in_half_steps profile V W p elsewhere a b old parent q i lost x bytes right g ne.0 (steps a (writer i) b q x (part_one profile V a b old parent p q i lost x bytes right g (omega (arith, g.inside, ne.1))))
      ]
  steps a b old parent (pipe_both q i stage lost x bytes y) g =
      elim (same_cases p q) [
        | inl is ↦ at_root a b old parent q (λ n. pipe_both n i stage lost x bytes y) is.0 (pipe_goes profile V W a b old parent p ev i stage lost x y bytes) g
        | inr ne ↦
            elim (none_or_some (occurs p x)) [
              | inl none ↦
                  let l : 1 ≤ occurs p y = omega (arith, g.inside, ne.1, none) in
                  in_right_steps profile V W p elsewhere a b old parent q i stage lost x y bytes g ne.0 l (steps (reader i) b a q y (part_right profile V a b old parent p q i stage lost x y bytes g l))
              | inr l ↦ in_left_steps profile V W p elsewhere a b old parent q i stage lost x y bytes g ne.0 l (steps a (writer i) b q x (part_left profile V a b old parent p q i stage lost x y bytes g l))
            ]
      ]
  steps a b old parent (left_child q step tree) g = at_root a b old parent q (λ n. left_child n step tree) (same_yes p q g.inside) (left_goes profile V W a b old parent p ev step tree) g
  steps a b old parent (right_child q step tree) g = at_root a b old parent q (λ n. right_child n step tree) (same_yes p q g.inside) (right_goes profile V W a b old parent p ev step tree) g
  steps a b old parent (opening q mode name body) g = at_root a b old parent q (λ n. opening n mode name body) (same_yes p q g.inside) (opens_now V W a b old parent p ev profile mode name body) g
  steps a b old parent (under_input e name at x) g = under_input_steps profile V W p elsewhere a b old parent e name at x g (steps (file e) b old parent x (part_under_input profile V a b old parent p e name at x g))
  steps a b old parent (under_output e mode name at x) g = under_output_steps profile V W p elsewhere a b old parent e mode name at x g (steps a (file e) old parent x (part_under_output profile V a b old parent p e mode name at x g))
