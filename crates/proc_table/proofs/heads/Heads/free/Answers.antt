-- The lowest slot in the group of the free ones.
use Rattle.std.proofs.Common.{ap, ◌∙◌}
use Rattle.std.specs.Prelude.{map, position}
use Rattle.proc_table.specs.Heads.{head_is_free, state_key}
use Rattle.proc_table.proofs.Grouping.{first_free}
use Rattle.proc_table.proofs.heads.Heads.free.Goals as goal

pub returns-clause-value : goal.returns-clause-value
returns-clause-value c =
    c.first.ensures.value (map state_key c.self.inside.heads) c.self.invariant.by_state ∙ first_free c.self.inside.heads ∙ ap (position head_is_free) c.self.view_is
