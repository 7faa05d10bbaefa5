use Rattle.std.proofs.Common.{subst, sym}
use Rattle.embed.specs.declared.fault.EmbedFault.TheVariants.{Start}
use Rattle.embed.specs.Tells.{IsNotesFault, no_notes}
use Rattle.embed.proofs.whys.notes_on.Goals as goal

pub returns-in-Err-clause-fault : goal.returns-in-Err-clause-fault
returns-in-Err-clause-fault c =
    subst (λ f. IsNotesFault c.args.script.now (Start f)) (sym c.from.ensures) (no_notes c.in-Err.fault c.in-Err.ensures.fault)
