use Rattle.std.proofs.Common.{◌∙◌, sym}
use Rattle.grep_match.specs.Pattern.{items_of}
use Rattle.grep_match.proofs.Searching.{somewhere_goes, somewhere_fits}
use Rattle.grep_match.proofs.search.fits_somewhere.Goals as goal

pub loop-unread-preserved : goal.loop-unread-preserved
loop-unread-preserved c =
    somewhere_goes (items_of c.args.items.now) c.loop-unread.unread.now c.in-Some.later.now c.in-Some.field-0-0.now _
    c.in-Some.ensures.cases.0 (sym c.fits.ensures ∙ c.loop-unread-test.true) c.loop-unread.invariant

pub returns : goal.returns
returns c =
    somewhere_fits (items_of c.args.items.now) c.loop-unread.unread.now _ (sym c.fits.ensures ∙ c.loop-unread-test.false) c.loop-unread.invariant
