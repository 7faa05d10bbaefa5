-- What clap gives of the program's own command line.
use Rattle.std.proofs.Common.{◌≡◌, ℕ, Bool, true, false, List, Option, Some, None, Result, Ok, Err, refl, sym, subst, ◌∙◌, ap}
use Rattle.std.specs.Prelude.{Box, is_some, option_map, option_and_then}
use Rattle.std.specs.Box.{box_value}
use Rattle.std.specs.Option.{option_map_or}
use Rattle.clap.specs.Facts.{explicit_source}
use Rattle.clap.specs.Faults.{fault_of, is_simple_and_free}
use Rattle.clap.specs.Kinds.{FailsBy}
use Rattle.clap.specs.Matches.{matched_of, subcommand_name_of}
use Rattle.clap.specs.Simple.{App, HasMatchesOf, is_simple, subcommand_of, subcommand_rows, subcommand_rows_of}
use Rattle.clap.specs.Takes.{is_given}
use Rattle.clap.specs.Walk.{Row, rows_of}
use Rattle.clap.specs.declared.error.Error.{Error}
use Rattle.clap.specs.declared.parser.matches.ArgMatches.{ArgMatches}
use Rattle.clap.specs.declared.parser.matches.ArgMatches.TheViews.{out-ArgMatches, out-SubCommand}
use Rattle.clap.specs.declared.parser.matches.Found.{Found}
use Rattle.clap.specs.declared.parser.matches.MatchedArg.{MatchedArg}
use Rattle.clap.specs.declared.parser.matches.SubCommand.{SubCommand}
use Rattle.clap.specs.declared.parser.matches.ValueSource.{ValueSource}
use Rattle.clap.specs.declared.parser.matches.ValueSource.TheVariants.{DefaultValue, CommandLine}
use Rattle.clap.proofs.TakesLemmas.{present_row}
use Rattle.xvsh.specs.Parsing.{are_apart, own_program}

-- clap states which matches a command line of its kind has, and which faults
own_is_simple : is_simple own_program ≡ true
own_is_simple = refl

own_is_free : is_simple_and_free own_program ≡ true
own_is_free = refl

pub own_rows : (app : App) (words : List (List ℕ)) (matches : ArgMatches) → app ≡ own_program → HasMatchesOf app words matches → subcommand_rows_of matches ≡ subcommand_of own_program words
own_rows app words matches own has = (subst (λ a. HasMatchesOf a words matches) own has own_is_simple).1

pub own_faults : {T : Type 0} (app : App) (words : List (List ℕ)) (result : Result T Error) → app ≡ own_program → (is_simple_and_free app ≡ true → FailsBy (fault_of app words) result) → FailsBy (fault_of own_program words) result
own_faults app words result own fails = subst (λ a. is_simple_and_free a ≡ true → FailsBy (fault_of a words) result) own fails own_is_free

-- the command that the words name, with its rows, by what clap gives of either
pub named_rows : (matches : ArgMatches) (name : List ℕ) (rows : List Row) → Some name ≡ subcommand_name_of matches → Some rows ≡ option_map (λ p. p.1) (subcommand_rows_of matches) → subcommand_rows_of matches ≡ Some (name, rows)
named_rows matches name rows named is = go (out-ArgMatches matches).subcommand named is
  where
    go : {Z : Type 0} (met : Option (Box SubCommand Z)) → Some name ≡ option_map (λ b. (out-SubCommand (box_value b)).name.now) met → Some rows ≡ option_map (λ p. p.1) (subcommand_rows met) → subcommand_rows met ≡ Some (name, rows)
    go None one two = cc
    go (Some b) one two = cc

pub no_rows : (matches : ArgMatches) → None ≡ subcommand_name_of matches → are_apart (subcommand_rows_of matches) ≡ false
no_rows matches named = go (out-ArgMatches matches).subcommand named
  where
    go : {Z : Type 0} (met : Option (Box SubCommand Z)) → None ≡ option_map (λ b. (out-SubCommand (box_value b)).name.now) met → are_apart (subcommand_rows met) ≡ false
    go None one = refl
    go (Some b) one = cc

-- a word is given where it was found, and not as a default
pub given_found : (found : Found) (id : List ℕ) (source : Option ValueSource) → source ≡ option_and_then (λ a. a.source) (matched_of found id) → (source ≡ Some DefaultValue → false ≡ is_given id (rows_of found)) × ((source ≡ Some DefaultValue → ⊥) → is_some (matched_of found id) ≡ is_given id (rows_of found))
given_found found id source of = (λ is. go_default (matched_of found id) (sym of ∙ is) ∙ present_row found id, λ isnt. go_other (matched_of found id) (λ is. isnt (of ∙ is)) ∙ present_row found id)
  where
    go_default : (met : Option MatchedArg) → option_and_then (λ a. a.source) met ≡ Some DefaultValue → false ≡ option_map_or (λ (a : MatchedArg). explicit_source a.source) met false
    go_default None is = refl
    go_default (Some a) is = ap explicit_source (sym is)

    source_of : (own : Option ValueSource) → (own ≡ Some DefaultValue → ⊥) → true ≡ explicit_source own
    source_of None isnt = refl
    source_of (Some DefaultValue) isnt = absurd (isnt refl)
    source_of (Some CommandLine) isnt = refl

    go_other : (met : Option MatchedArg) → (option_and_then (λ a. a.source) met ≡ Some DefaultValue → ⊥) → is_some met ≡ option_map_or (λ (a : MatchedArg). explicit_source a.source) met false
    go_other None isnt = refl
    go_other (Some a) isnt = source_of a.source isnt
