use Rattle.std.proofs.Common.{rules}
use Rattle.script_outcomes.proofs.contrast.Contrast.between.Goals as goal

pub returns : goal.returns
returns c = record {
  output = search rules;
  diagnostics = search rules;
  files = search rules;
  full = search rules;
  talk = c.has_diagnostics.ensures;
  torn = c.has_torn.ensures;
}
