-- Nothing runs where the search finds nothing.
use Rattle.std.proofs.Common.{◌≡◌, Bool, not, false, true, refl, sym, ap, ◌∙◌}
use Rattle.std.specs.Option.{is_some}
use Rattle.proc_table.specs.Slots.{is_running_on_status}
use Rattle.proc_table.specs.Heads.{head_has}
use Rattle.proc_table.proofs.Grouping.{none_of_all, none_there}
use Rattle.proc_table.proofs.Kept.{nothing}
use Rattle.proc_table.proofs.heads.Heads.is_idle.Goals as goal

not_false : (b : Bool) → not b ≡ false → b ≡ true
not_false true is = refl
not_false false is = absurd (let no : ⊥ = cc in no)

pub returns : goal.returns
returns c =
    let runs = head_has (is_running_on_status c.args.hart) in (
      (λ idle. none_there runs refl c.args.self.now (sym c.running_on.ensures.value ∙ nothing c.running_on.result (c.is_none.ensures ∙ ap not idle))),
      λ all. not_false c.is_none.result (sym c.is_none.ensures ∙ ap is_some (c.running_on.ensures.value ∙ none_of_all runs refl c.args.self.now all)),
    )
