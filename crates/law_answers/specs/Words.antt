-- The words of a strict run, and what they are said to have written.
use Rattle.std.specs.Prelude.{◌≡◌, ℕ, List, Option, Some, None, codes}
use Rattle.clap.specs.Simple.{subcommand_of}
use Rattle.clap.specs.Walk.{Row, first_of, one_of, rows_of}
use Rattle.clap.specs.declared.parser.matches.Found.{Found}
use Rattle.xvsh_read.specs.Console.{Known}
use Rattle.xvsh_runs.specs.declared.request.RunRequest.{RunRequest}
use Rattle.xvsh_read.specs.Given.{Sees, Sight}
use Rattle.xvsh_read.specs.declared.given.Inputs.{Inputs}
use Rattle.xvsh.specs.Parsing.{AreParsed, own_program}
use Rattle.xvsh.specs.Words.{AreInputsIn, IsRunOf}
use Rattle.law_answers.specs.Settings.{Outputs, Setting, WritesMeaningIn}

-- a flag is among the words of a command, or isn't; and an option isn't
abbrev pub HasFlag : List Row → List ℕ → Type 0
HasFlag rows name = one_of name rows ≡ Some (codes "true")

abbrev pub LacksFlag : List Row → List ℕ → Type 0
LacksFlag rows name = one_of name rows ≡ Some (codes "false")

abbrev pub LacksOption : List Row → List ℕ → Type 0
LacksOption rows name = first_of name rows ≡ None

-- these are the words of `run --strict`, with no other form of what it writes and no other place for it
pub record AreOfStrictRun (words : List (List ℕ)) (rows : List Row) : Type 0 where
  pub parsed : AreParsed words
  pub command : subcommand_of own_program words ≡ Some (codes "run", rows)
  pub strict : HasFlag rows (codes "strict")
  pub no_json : LacksFlag rows (codes "json")
  pub no_lines : LacksFlag rows (codes "lines")
  pub no_schedule_to : LacksOption rows (codes "schedule-to")
  pub no_files_to : LacksOption rows (codes "files-to")
  pub no_trace : LacksOption rows (codes "trace")

-- what a run was asked for begins with, and what the two outputs hold
abbrev pub setting_of : Sight → RunRequest → Setting
setting_of sight request = record { input = sight.input; file = sight.file; profile = request.source.profile; script = request.source.script.now; paths = request.source.files.now }

abbrev pub outputs_of : Known → Known → Outputs
outputs_of old new = record { out = old.out; out_after = new.out; err = old.err; err_after = new.err }

-- the run that these words of `run` ask for, of the standard input, the script and the files that they name, is of a settled script,
-- whose recursive meaning was added to standard output, with the lists that the words ask for
pub record WroteMeaningOf (old new : Known) (rows : List Row) : Type 0 where
  pub found : Found
  pub own : rows_of found ≡ rows
  pub request : RunRequest
  pub made : IsRunOf found request
  pub inputs : Inputs
  pub given : AreInputsIn found inputs
  pub sight : Sight
  pub sees : Sees old.input old.file inputs sight
  pub wrote : WritesMeaningIn (setting_of sight request) request.lists (outputs_of old new)
