use Rattle.std.proofs.Common.{◌≡◌, ◌∙◌, Some, None}
use Rattle.clap.specs.Matches.{found_of}
use Rattle.clap.specs.declared.parser.matches.ValueSource.TheVariants.{DefaultValue}
use Rattle.xvsh.proofs.Parsed.{given_found}
use Rattle.xvsh.proofs.parsing.is_given.Goals as goal

pub returns-in-Some-DefaultValue : goal.returns-in-Some-DefaultValue
returns-in-Some-DefaultValue c =
    let arm = c.in-Some-DefaultValue in
    let is : c.value_source.result ≡ Some DefaultValue = cc in
    (given_found (found_of c.args.words.now) c.args.name.now c.value_source.result c.value_source.ensures).0 is

pub returns-in-Some-CommandLine : goal.returns-in-Some-CommandLine
returns-in-Some-CommandLine c =
    let arm = c.in-Some-CommandLine in
    c.contains_id.ensures ∙ (given_found (found_of c.args.words.now) c.args.name.now c.value_source.result c.value_source.ensures).1 (λ e. cc)

pub returns-in-None : goal.returns-in-None
returns-in-None c =
    let arm = c.in-None in
    c.contains_id-in-None.ensures ∙ (given_found (found_of c.args.words.now) c.args.name.now c.value_source.result c.value_source.ensures).1 (λ e. cc)
