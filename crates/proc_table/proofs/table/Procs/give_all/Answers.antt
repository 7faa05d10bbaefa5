-- A child that was given is no child of the process any more, and none is left at the end.
use Rattle.std.proofs.Common.{◌∙◌, ap, sym, ◌<◌, subst}
use Rattle.std.specs.Prelude.{map, count_by}
use Rattle.proc_table.specs.Calls.{given}
use Rattle.proc_table.specs.Slots.{is_child_of}
use Rattle.proc_table.proofs.Kept.{one_given, fewer_children, no_children}
use Rattle.proc_table.proofs.table.Procs.give_all.Goals as goal

pub loop-child-smaller : goal.loop-child-smaller
loop-child-smaller g c =
    subst (λ t. count_by (is_child_of c.args.pid) t < count_by (is_child_of c.args.pid) c.loop-child.self) (sym c.give.ensures)
    (fewer_children c.args.pid c.loop-child.self c.in-Some.child c.requires (sym c.in-Some.ensures.value))

pub loop-child-preserved : goal.loop-child-preserved
loop-child-preserved g c =
    ap (map (given c.args.pid)) c.give.ensures ∙ one_given c.args.pid c.loop-child.self c.in-Some.child (sym c.in-Some.ensures.value) ∙ c.loop-child.invariant

pub returns : goal.returns
returns g c = sym (no_children c.args.pid c.loop-child.self (sym c.in_default.ensures.value)) ∙ c.loop-child.invariant
