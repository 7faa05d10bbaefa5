-- Where no slot is used, the tree has no process, and so nothing is left.
use Rattle.std.proofs.Common.{◌≡◌, ℕ, zero, suc, ◌≤◌, refl, sym, ap, ◌∙◌, arith}
use Rattle.script_load.specs.declared.profile.Profile.{Profile}
use Rattle.proc_table.specs.Slots.{IsAlone, at}
use Rattle.kernel_model.specs.KernelState.{KernelState}
use Rattle.tree_model.specs.Residual.{done}
use Rattle.tree_model.specs.Runs.{Stage}
use Rattle.sh_machine.specs.State.{User}
use Rattle.process_model.specs.Seen.{Entry, input, out, file, seen_slot, View, view}
use Rattle.process_model.specs.Shape.{Node, reaped, gone, starts, works, tells, leaves, reads_lines, in_line, in_list, pipe_made, pipe_half, pipe_both, left_child, right_child, opening, under_input, under_output, is_up, Has, occurs, is_used, stands_for}
use Rattle.process_model.specs.Standing.{Stands}
use Rattle.process_model.proofs.Counts.{same_self}

module _ (profile : Profile) (V : View) where
  -- what is up has a process
  up_occurs : (a b old : Entry) (parent : ℕ) (t : Node) → Has profile V a b old parent t → is_up t ≡ 1 → (p : ℕ) × (1 ≤ occurs p t)
  up_occurs a b old parent reaped h up = absurd (omega (arith, up))
  up_occurs a b old parent (gone p) h up = (p, omega (arith, same_self p))
  up_occurs a b old parent (starts p tree) h up = (p, omega (arith, same_self p))
  up_occurs a b old parent (works p turn put owns) h up = (p, omega (arith, same_self p))
  up_occurs a b old parent (tells p message) h up = (p, omega (arith, same_self p))
  up_occurs a b old parent (leaves p) h up = (p, omega (arith, same_self p))
  up_occurs a b old parent (reads_lines p lines) h up = (p, omega (arith, same_self p))
  up_occurs a b old parent (in_line p x lines) h up = (p, omega (arith, same_self p))
  up_occurs a b old parent (in_list p x later) h up = (p, omega (arith, same_self p))
  up_occurs a b old parent (pipe_made p i left right) h up = (p, omega (arith, same_self p))
  up_occurs a b old parent (pipe_half p i lost x bytes right) h up = (p, omega (arith, same_self p))
  up_occurs a b old parent (pipe_both p i stage lost x bytes y) h up = (p, omega (arith, same_self p))
  up_occurs a b old parent (left_child p step tree) h up = (p, omega (arith, same_self p))
  up_occurs a b old parent (right_child p step tree) h up = (p, omega (arith, same_self p))
  up_occurs a b old parent (opening p mode name body) h up = (p, omega (arith, same_self p))
  up_occurs a b old parent (under_input e name at x) h up = up_occurs (file e) b old parent x h.2 h.1
  up_occurs a b old parent (under_output e mode name at x) h up = up_occurs a (file e) old parent x h.2 h.1

  -- a tree without processes has nothing left
  pub nothing_left : (a b old : Entry) (parent : ℕ) (t : Node) → Has profile V a b old parent t → ((q : ℕ) → occurs q t ≡ 0) → stands_for t ≡ done
  nothing_left a b old parent reaped h none = refl
  nothing_left a b old parent (gone p) h none = refl
  nothing_left a b old parent (tells p message) h none = refl
  nothing_left a b old parent (leaves p) h none = refl
  nothing_left a b old parent (under_input e name at x) h none = let o = up_occurs (file e) b old parent x h.2 h.1 in absurd (omega (arith, o.1, none o.0))
  nothing_left a b old parent (under_output e mode name at x) h none = let o = up_occurs a (file e) old parent x h.2 h.1 in absurd (omega (arith, o.1, none o.0))
  nothing_left a b old parent (starts p tree) h none = absurd (omega (arith, none p, same_self p))
  nothing_left a b old parent (works p turn put owns) h none = absurd (omega (arith, none p, same_self p))
  nothing_left a b old parent (reads_lines p lines) h none = absurd (omega (arith, none p, same_self p))
  nothing_left a b old parent (in_line p x lines) h none = absurd (omega (arith, none p, same_self p))
  nothing_left a b old parent (in_list p x later) h none = absurd (omega (arith, none p, same_self p))
  nothing_left a b old parent (pipe_made p i left right) h none = absurd (omega (arith, none p, same_self p))
  nothing_left a b old parent (pipe_half p i lost x bytes right) h none = absurd (omega (arith, none p, same_self p))
  nothing_left a b old parent (pipe_both p i stage lost x bytes y) h none = absurd (omega (arith, none p, same_self p))
  nothing_left a b old parent (left_child p step tree) h none = absurd (omega (arith, none p, same_self p))
  nothing_left a b old parent (right_child p step tree) h none = absurd (omega (arith, none p, same_self p))
  nothing_left a b old parent (opening p mode name body) h none = absurd (omega (arith, none p, same_self p))

pub finished : (profile : Profile) (k : KernelState User) (stage : Stage) → Stands profile k stage → IsAlone k.table → stage.left ≡ done
finished profile k stage s alone = sym s.left ∙ nothing_left profile (view s.names k) input out out 0 s.tree s.shape.has (λ q. s.shape.all q ∙ unused q)
  where
    unused : (q : ℕ) → is_used ((view s.names k).slots q) ≡ 0
    unused zero = refl
    unused (suc q) = ap (λ x. is_used (seen_slot s.names.name x)) (alone (suc q) (λ e. absurd (omega (arith, e))))
