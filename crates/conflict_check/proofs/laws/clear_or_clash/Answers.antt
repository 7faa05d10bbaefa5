use Rattle.conflict_check.proofs.FirstClash.{clear_or_clash as known, not_clear}
use Rattle.conflict_check.proofs.laws.clear_or_clash.Goals as goal

pub returns : goal.returns
returns c = record {
  either = λ tree. known tree;
  never_both = λ tree kind name first clear. not_clear first clear;
}
