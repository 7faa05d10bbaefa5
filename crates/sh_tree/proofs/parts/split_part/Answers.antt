use Rattle.std.proofs.Common.{◌≡◌, ◌∙◌, sym, Some, rules}
use Rattle.sh_lexer.specs.declared.token.Kind.TheVariants.{Word}
use Rattle.sh_tree.specs.Reading.{mode_of}
use Rattle.sh_tree.proofs.EachPart.{first_token, other_tokens, reads_word, reads_redirection}
use Rattle.sh_tree.proofs.parts.split_part.Goals as goal

pub returns-then-eq : goal.returns-then-eq
returns-then-eq c =
    let is_word : c.in_ok-first.first.now.kind ≡ Word = search (rules, c.eq.ensures, c.if-eq.true) in
    let read = reads_word c.args.line.now c.args.tokens.now c.in_ok-first.first.now c.in_ok-first.after.now c.text_of.result.now c.in_ok-first.ensures.cases.0 is_word c.text_of.ensures c.requires in
    record { part_read = read.0; goes_on = read.1; fewer = read.2 }

pub text_of-requires-2 : goal.text_of-requires-2
text_of-requires-2 c =
    first_token c.args.line.now c.in_ok-first.after.now c.in-Some.name.now c.in-Some.rest.now c.in-Some.ensures.cases.0
    (other_tokens c.args.line.now c.args.tokens.now c.in_ok-first.first.now c.in_ok-first.after.now c.in_ok-first.ensures.cases.0 c.requires.ready.tokens)

pub returns : goal.returns
returns c =
    let sign : mode_of c.in_ok-first.first.now.kind ≡ Some c.in_ok-mode.mode = sym c.mode_of.ensures ∙ c.in_ok-mode.was in
    let read = reads_redirection c.args.line.now c.args.tokens.now c.in_ok-first.first.now c.in_ok-first.after.now c.in_ok-mode.mode c.in-Some.name.now c.in-Some.rest.now c.text_of-2.result.now c.in_ok-first.ensures.cases.0 sign c.in-Some.ensures.cases.0 c.text_of-2.ensures c.requires in
    record { part_read = read.0; goes_on = read.1; fewer = read.2 }
