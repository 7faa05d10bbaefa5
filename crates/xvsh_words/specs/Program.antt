-- The command line of the program: its commands, and the words that each takes.
use Rattle.std.specs.Prelude.{◌≡◌, ℕ, true, false, List, [], ◌∷◌, Some, codes}
use Rattle.clap.specs.declared.builder.command.Command.TheViews.{out-Command}
use Rattle.clap.specs.Lexer.{usize_max}
use Rattle.clap.specs.Simple.{App, Shape, shape_of, new_rule, new_shape}
use Rattle.clap.specs.Walk.{Rule}
use Rattle.clap.specs.declared.builder.action.ArgAction.TheVariants.{Set, Append, SetTrue}
use Rattle.clap.specs.declared.builder.command.Command.{Command}
use Rattle.clap.specs.declared.builder.value_parser.ValueParser.TheVariants.{Unsigned}

-- a flag; a number from 1 to the most; a word that has to be there; the files of the script
abbrev pub flag_rule : List ℕ → Rule
flag_rule name = record (new_rule name) { long = Some name; action = Some SetTrue }

abbrev pub number_rule : List ℕ → ℕ → Rule
number_rule name most = record (new_rule name) { long = Some name; value_names = 1; parser = Some (Unsigned 1 most); action = Some Set }

-- an option with a path, of a file or of a folder
abbrev pub path_rule : List ℕ → Rule
path_rule name = record (new_rule name) { long = Some name; value_names = 1; action = Some Set }

-- `-c`
abbrev pub text_rule : Rule
text_rule = record (new_rule (codes "text")) { short = Some 99; action = Some SetTrue }

-- a script's standard input
abbrev pub input_rule : Rule
input_rule = path_rule (codes "input")

abbrev pub word_rule : List ℕ → Rule
word_rule name = record (new_rule name) { value_names = 1; required = true; action = Some Set }

abbrev pub files_rule : Rule
files_rule = record (new_rule (codes "paths")) { value_names = 1; range = Some (record { start_inclusive = 0; end_inclusive = usize_max }); action = Some Append }

-- one more word, or none
abbrev pub other_rule : List ℕ → Rule
other_rule name = record (new_rule name) { value_names = 1; range = Some (record { start_inclusive = 0; end_inclusive = 1 }); action = Some Set }

-- the most that a seed may be
abbrev pub most_seed : ℕ
most_seed = 18446744073709551615

-- the most mebibytes of a search
abbrev pub most_mebibytes : ℕ
most_mebibytes = 1048576

-- the commands; `run` by the most harts and the most turns that it may have
abbrev pub run_shape : ℕ → ℕ → Shape
run_shape harts turns = record (new_shape (codes "run")) {
  rules = number_rule (codes "harts") harts ∷ number_rule (codes "turns") turns ∷ number_rule (codes "seed") most_seed ∷ path_rule (codes "order") ∷ flag_rule (codes "schedule") ∷ path_rule (codes "schedule-to") ∷ path_rule (codes "files-to") ∷ path_rule (codes "trace") ∷ flag_rule (codes "lines") ∷ flag_rule (codes "strict") ∷ flag_rule (codes "append") ∷ flag_rule (codes "files") ∷ flag_rule (codes "quiet") ∷ flag_rule (codes "json") ∷ input_rule ∷ text_rule ∷ word_rule (codes "script") ∷ files_rule ∷ [];
}

abbrev pub replay_shape : Shape
replay_shape = record (new_shape (codes "replay")) {
  rules = path_rule (codes "files-to") ∷ path_rule (codes "trace") ∷ flag_rule (codes "lines") ∷ flag_rule (codes "append") ∷ flag_rule (codes "files") ∷ flag_rule (codes "json") ∷ input_rule ∷ text_rule ∷ word_rule (codes "events") ∷ word_rule (codes "script") ∷ files_rule ∷ [];
}

abbrev pub plain_shape : Shape
plain_shape = record (new_shape (codes "plain")) {
  rules = path_rule (codes "files-to") ∷ flag_rule (codes "diagnostics") ∷ flag_rule (codes "strict") ∷ flag_rule (codes "append") ∷ flag_rule (codes "files") ∷ flag_rule (codes "json") ∷ input_rule ∷ text_rule ∷ word_rule (codes "script") ∷ files_rule ∷ [];
}

abbrev pub check_shape : Shape
check_shape = record (new_shape (codes "check")) {
  rules = flag_rule (codes "turns") ∷ flag_rule (codes "room") ∷ flag_rule (codes "strict") ∷ flag_rule (codes "json") ∷ input_rule ∷ text_rule ∷ word_rule (codes "script") ∷ files_rule ∷ [];
}

-- `explore` by the most states that it may keep
abbrev pub explore_shape : ℕ → Shape
explore_shape states = record (new_shape (codes "explore")) {
  rules = number_rule (codes "states") states ∷ number_rule (codes "memory") most_mebibytes ∷ flag_rule (codes "all") ∷ flag_rule (codes "full") ∷ path_rule (codes "witness") ∷ path_rule (codes "draw") ∷ path_rule (codes "play") ∷ path_rule (codes "pair") ∷ flag_rule (codes "json") ∷ flag_rule (codes "append") ∷ input_rule ∷ text_rule ∷ word_rule (codes "script") ∷ files_rule ∷ [];
}

abbrev pub explain_shape : Shape
explain_shape = record (new_shape (codes "explain")) {
  rules = flag_rule (codes "why") ∷ flag_rule (codes "fix") ∷ flag_rule (codes "append") ∷ flag_rule (codes "json") ∷ input_rule ∷ text_rule ∷ word_rule (codes "script") ∷ files_rule ∷ [];
}

-- `draw` by the most events that a run may have
abbrev pub draw_shape : ℕ → Shape
draw_shape turns = record (new_shape (codes "draw")) {
  rules = number_rule (codes "from") turns ∷ number_rule (codes "to") turns ∷ flag_rule (codes "svg") ∷ word_rule (codes "trace") ∷ other_rule (codes "other") ∷ [];
}

abbrev pub step_shape : Shape
step_shape = record (new_shape (codes "step")) {
  rules = path_rule (codes "schedule") ∷ flag_rule (codes "append") ∷ flag_rule (codes "json") ∷ input_rule ∷ text_rule ∷ word_rule (codes "script") ∷ files_rule ∷ [];
}

-- `grade` by the most threads that it may have, and the most states
abbrev pub grade_shape : ℕ → ℕ → Shape
grade_shape jobs states = record (new_shape (codes "grade")) {
  rules = flag_rule (codes "json") ∷ flag_rule (codes "tap") ∷ flag_rule (codes "gradescope") ∷ number_rule (codes "jobs") jobs ∷ number_rule (codes "states") states ∷ word_rule (codes "suite") ∷ files_rule ∷ [];
}

-- the program, without a command and with all of them
abbrev pub bare_program : App
bare_program = record {
  top = record (new_shape (codes "xvsh")) {
    no_binary_name = true;
    disable_help_subcommand = true;
    has_version = true;
    subcommand_required = true;
  };
  subs = [];
}

abbrev pub program : ℕ → ℕ → ℕ → ℕ → App
program harts turns states jobs = record {
  top = record bare_program.top { is_leaf = false };
  subs = run_shape harts turns ∷ replay_shape ∷ plain_shape ∷ check_shape ∷ explain_shape ∷ explore_shape states ∷ draw_shape turns ∷ step_shape ∷ grade_shape jobs states ∷ [];
}

-- a command of this shape, none of whose arguments are of its subcommands too
abbrev pub IsCommand : Shape → Command → Type 0
IsCommand shape command = (shape_of command ≡ shape) × ((out-Command command).has_globals ≡ false)
