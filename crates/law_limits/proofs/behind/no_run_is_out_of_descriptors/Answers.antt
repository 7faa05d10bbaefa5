use Rattle.law_limits.proofs.behind.FewPlaces.{descriptor_is_free}
use Rattle.law_limits.proofs.behind.no_run_is_out_of_descriptors.Goals as goal

pub returns : goal.returns
returns c = λ r few full. descriptor_is_free r.profile r.lines r.input r.files r.are r.schedule r.notes r.last r.runs few full
