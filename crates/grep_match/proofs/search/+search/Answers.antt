use Rattle.std.proofs.Common.{◌∙◌, sym, arith}
use Rattle.grep_match.specs.Pattern.{items_of}
use Rattle.grep_match.proofs.Searching.{one_fails, one_fits, end_fails, star_goes, star_fails, star_fits}
use Rattle.grep_match.proofs.search.+search.Goals as goal

pub fits-returns-in_default-split_first : goal.fits-returns-in_default-split_first
fits-returns-in_default-split_first t c =
    one_fails c.in-One.byte c.in-Some.item c.loop-item.left.now c.in-Some.rest.now c.loop-item.unread.now c.in-Some-split_first.later.now c.in-Some-split_first.field-0-0.now _
    c.in-Some.ensures.split c.in-One.is c.in-Some-split_first.ensures.cases.0 (sym c.stands_for.ensures ∙ c.if-stands_for.false) c.loop-item.invariant.same

pub fits-returns-in-End-2 : goal.fits-returns-in-End-2
fits-returns-in-End-2 t c =
    end_fails c.in-Some.item c.loop-item.left.now c.in-Some.rest.now c.loop-item.unread.now _
    c.in-Some.ensures.split c.in-End.is (sym c.is_empty.ensures ∙ c.if-is_empty.false) c.loop-item.invariant.same

pub fits-loop-item-preserved-in-Some-split_first : goal.fits-loop-item-preserved-in-Some-split_first
fits-loop-item-preserved-in-Some-split_first t c = record {
  fewer = omega (arith, c.in-Some.ensures.fewer, c.loop-item.invariant.fewer);
  same = one_fits c.in-One.byte c.in-Some.item c.loop-item.left.now c.in-Some.rest.now c.loop-item.unread.now c.in-Some-split_first.later.now c.in-Some-split_first.field-0-0.now _
      c.in-Some.ensures.split c.in-One.is c.in-Some-split_first.ensures.cases.0 (sym c.stands_for.ensures ∙ c.if-stands_for.true) c.loop-item.invariant.same;
}

pub fits_star-loop-unread-preserved : goal.fits_star-loop-unread-preserved
fits_star-loop-unread-preserved t c =
    star_goes c.args.byte (items_of c.args.items.now) c.loop-unread.unread.now c.in-Some.later.now c.in-Some.field-0-0.now _
    c.in-Some.ensures.cases.0 (sym c.fits.ensures ∙ c.loop-unread-test.true) (sym c.stands_for.ensures ∙ c.if-stands_for.true) c.loop-unread.invariant

pub fits_star-returns-in_default : goal.fits_star-returns-in_default
fits_star-returns-in_default t c =
    star_fails c.args.byte (items_of c.args.items.now) c.loop-unread.unread.now c.in-Some.later.now c.in-Some.field-0-0.now _
    c.in-Some.ensures.cases.0 (sym c.fits.ensures ∙ c.loop-unread-test.true) (sym c.stands_for.ensures ∙ c.if-stands_for.false) c.loop-unread.invariant

pub fits_star-returns : goal.fits_star-returns
fits_star-returns t c =
    star_fits c.args.byte (items_of c.args.items.now) c.loop-unread.unread.now _ (sym c.fits.ensures ∙ c.loop-unread-test.false) c.loop-unread.invariant
