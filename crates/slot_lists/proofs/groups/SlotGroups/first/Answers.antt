-- The lowest slot whose flag is set is the lowest one with the key.
use Rattle.std.proofs.Common.{ℕ, List, get_or, ◌∙◌, refl, sym, subst, arith}
use Rattle.std.specs.Prelude.{map}
use Rattle.slot_lists.specs.Sets.{HasFlags, is_key}
use Rattle.slot_lists.proofs.Grouping.{flags_there}
use Rattle.slot_lists.proofs.Found.{found_by}
use Rattle.slot_lists.proofs.groups.SlotGroups.first.Goals as goal

pub returns-clause-value : goal.returns-clause-value
returns-clause-value g c = λ keys grouped.
    c.first.ensures.value (map (is_key c.args.group) keys) (flags_there c.self.inside.sets c.args.group c.index-self-group.result (map (is_key c.args.group) keys) (omega arith) (subst (λ (sets : List ℕ). HasFlags (get_or sets c.args.group 0) (map (is_key c.args.group) keys)) (sym c.self.view_is) (grouped.theirs c.args.group c.requires))) ∙ found_by (is_key c.args.group) (λ flag. flag) (is_key c.args.group) (λ key. refl) keys
