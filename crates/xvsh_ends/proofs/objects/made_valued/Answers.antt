use Rattle.std.proofs.Common.{sym, ◌∙◌}
use Rattle.std.proofs.lemmas.Bool.{false≢true}
use Rattle.xvsh_ends.specs.Ends.{unvalued}
use Rattle.xvsh_ends.proofs.objects.made_valued.Goals as goal

pub returns-then-is_object_status : goal.returns-then-is_object_status
returns-then-is_object_status c input file what due =
    c.made_objected.ensures input file what (c.is_object_status.ensures.0 c.if-is_object_status.true) due

pub returns-else-is_object_status : goal.returns-else-is_object_status
returns-else-is_object_status c input file what due =
    unvalued (λ is. false≢true (sym c.if-is_object_status.false ∙ c.is_object_status.ensures.1 is)) due
