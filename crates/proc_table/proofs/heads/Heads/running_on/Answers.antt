-- The lowest slot in the group of the hart, where there is such a hart.
use Rattle.std.proofs.Common.{ap, sym, ◌∙◌}
use Rattle.std.specs.Prelude.{map, position}
use Rattle.proc_table.specs.Slots.{is_running_on_status}
use Rattle.proc_table.specs.Heads.{hart_key, head_at, head_has}
use Rattle.proc_table.proofs.Grouping.{first_on, none_found, not_on}
use Rattle.proc_table.proofs.heads.Heads.running_on.Goals as goal

pub returns-then-hart-lt-HARTS-clause-value : goal.returns-then-hart-lt-HARTS-clause-value
returns-then-hart-lt-HARTS-clause-value c =
    c.first.ensures.value (map hart_key c.self.inside.heads) c.self.invariant.by_hart ∙ first_on c.args.hart c.self.inside.heads ∙ ap (position (head_has (is_running_on_status c.args.hart))) c.self.view_is

pub returns-else-hart-lt-HARTS-clause-value : goal.returns-else-hart-lt-HARTS-clause-value
returns-else-hart-lt-HARTS-clause-value c =
    let heads = c.self.inside.heads in
    sym (ap (position (head_has (is_running_on_status c.args.hart))) (sym c.self.view_is)
    ∙ none_found (head_has (is_running_on_status c.args.hart)) heads (λ slot. not_on c.args.hart (head_at heads slot) (c.self.invariant.on_harts slot) c.if-hart-lt-HARTS.false))
