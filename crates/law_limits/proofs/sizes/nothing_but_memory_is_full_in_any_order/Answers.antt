use Rattle.law_limits.proofs.sizes.OnlyMemory.{only_memory}
use Rattle.law_limits.proofs.sizes.nothing_but_memory_is_full_in_any_order.Goals as goal

pub returns : goal.returns
returns c = λ r room. only_memory r.profile r.lines r.input r.files r.are room r.schedule r.notes r.last r.runs
