use Rattle.std.proofs.Common.{◌≡◌, ℕ, List, true, false, Ok, Err, inl, inr, refl, sym, ◌∙◌, ap}
use Rattle.std.specs.Prelude.{map, string_bytes}
use Rattle.clap.specs.Simple.{app_of, subcommand_of}
use Rattle.clap.specs.declared.parser.matches.ArgMatches.{ArgMatches}
use Rattle.xvsh.specs.Parsing.{are_apart, for_misuse, own_program}
use Rattle.xvsh.proofs.Parsed.{own_faults, own_rows}
use Rattle.xvsh.proofs.Refused.{unparsed_by}
use Rattle.xvsh.proofs.parsing.parsed_words.Goals as goal

pub returns-then-are_apart-clause-unparsed : goal.returns-then-are_apart-clause-unparsed
returns-then-are_apart-clause-unparsed c = λ input file.
    let words : List (List ℕ) = map string_bytes c.args.words.now in
    let rows = own_rows (app_of c.in-Ok.command) words c.in-Ok-try_get_matches_from.matches (c.in-Ok.ensures refl) c.in-Ok-try_get_matches_from.ensures.matches in
    for_misuse (inr (ap are_apart (sym rows) ∙ sym c.are_apart.ensures ∙ c.if-are_apart.true)) (c.misuse_ending.ensures.due input file)

pub returns-in-Ok-try_get_matches_from-clause-parsed : goal.returns-in-Ok-try_get_matches_from-clause-parsed
returns-in-Ok-try_get_matches_from-clause-parsed c =
    let words : List (List ℕ) = map string_bytes c.args.words.now in
    let matches = c.in-Ok-try_get_matches_from.matches in
    let own = c.in-Ok.ensures refl in
    let rows = own_rows (app_of c.in-Ok.command) words matches own c.in-Ok-try_get_matches_from.ensures.matches in
    record {
      parsed = record {
        taken = own_faults (app_of c.in-Ok.command) words (Ok matches) own c.in-Ok-try_get_matches_from.ensures.kinds;
        together = ap are_apart (sym rows) ∙ sym c.are_apart.ensures ∙ c.if-are_apart.false;
      };
      rows = rows;
    }

pub returns-clause-unparsed : goal.returns-clause-unparsed
returns-clause-unparsed c = λ input file.
    let words : List (List ℕ) = map string_bytes c.args.words.now in
    let error = c.in-Err.error in
    unparsed_by input file words error c.error_ending.result (own_faults {T = ArgMatches} (app_of c.in-Ok.command) words (Err error) (c.in-Ok.ensures refl) c.in-Err.ensures.kinds) c.error_ending.ensures.memory (λ other shown. c.error_ending.ensures.help other shown input file) (λ other shown. c.error_ending.ensures.misuse other shown input file)
