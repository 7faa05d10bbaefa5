use Rattle.std.proofs.Common.{Some, sym, ap, ◌∙◌}
use Rattle.std.proofs.lemmas.Option.{slice_get-get_or}
use Rattle.script_outcomes.proofs.pair.weigh.Goals as goal

pub returns-clause-weight : goal.returns-clause-weight
returns-clause-weight c = record {
  one = c.index-outcomes-first.result;
  first = slice_get-get_or c.args.outcomes.now c.args.first c.index-outcomes-first.result c.requires.first ∙ ap Some (sym c.index-outcomes-first.is);
  two = c.index-outcomes-other.result;
  other = slice_get-get_or c.args.outcomes.now c.args.other c.index-outcomes-other.result c.requires.other ∙ ap Some (sym c.index-outcomes-other.is);
  contrast = c.between-contrast.result;
  is = c.between-contrast.ensures;
  same = c.weight.ensures;
}
