-- What the words of a command line are: a command with its words, a call for help, or neither.
use Rattle.std.specs.Prelude.{◌≡◌, ◌⊎◌, ◌&&◌, ◌||◌, ℕ, Bool, true, false, not, if◌then◌else◌, List, [], ◌∷◌, Option, Some, None, codes}
use Rattle.std.specs.Str.{bytes_eq}
use Rattle.clap.specs.Faults.{fault_of}
use Rattle.clap.specs.Kinds.{IsAmong}
use Rattle.clap.specs.Simple.{App, subcommand_of, subcommand_rows_of}
use Rattle.clap.specs.Takes.{is_given}
use Rattle.clap.specs.Walk.{Row}
use Rattle.clap.specs.declared.error.kind.ErrorKind.{ErrorKind}
use Rattle.clap.specs.declared.error.kind.ErrorKind.TheVariants.{DisplayHelp, DisplayVersion}
use Rattle.clap.specs.declared.parser.matches.ArgMatches.{ArgMatches}
use Rattle.xvsh_words.specs.Program.{program}
use Rattle.xvsh_read.specs.Path.{Path}
use Rattle.xvsh_read.specs.Status.{fault_told}
use Rattle.xvsh_read.specs.declared.fault.Fault.TheVariants.{Memory}
use Rattle.xvsh_ends.specs.Ends.{IsDue, Tells, help, misuse}
use Rattle.xvsh_ends.specs.declared.ending.Ending.{Ending}

-- the program's command line: on at most 8 harts, in at most 1,000,000,000 turns, of at most 10,000,000 states, and by at most 256
-- threads
abbrev pub own_program : App
own_program = program 8 1000000000 10000000 256

-- both are among the words
abbrev pub are_given : List Row → List ℕ → List ℕ → Bool
are_given rows one other = is_given one rows && is_given other rows

-- this is among the words, and what it needs isn't
abbrev pub is_alone : List Row → List ℕ → List ℕ → Bool
is_alone rows one needed = is_given one rows && not (is_given needed rows)

-- this is among the words of a check that counts no turns and reports no room
abbrev pub is_without : List Row → List ℕ → Bool
is_without rows one = is_alone rows one (codes "turns") && not (is_given (codes "room") rows)

-- of each command, whether words stand beside each other that can't: a number of harts, a seed and an order; lines' numbers, or
-- diagnostics, or a mended script, and an object; turns and room of a check, or files or an input of one without both; two forms of a report
abbrev pub run_conflicts : List Row → Bool
run_conflicts rows = are_given rows (codes "harts") (codes "seed") || (are_given rows (codes "harts") (codes "order") || (are_given rows (codes "seed") (codes "order") || are_given rows (codes "lines") (codes "json")))

abbrev pub check_conflicts : List Row → Bool
check_conflicts rows = are_given rows (codes "turns") (codes "room") || (is_without rows (codes "paths") || is_without rows (codes "input"))

abbrev pub grade_conflicts : List Row → Bool
grade_conflicts rows = are_given rows (codes "json") (codes "tap") || (are_given rows (codes "json") (codes "gradescope") || are_given rows (codes "tap") (codes "gradescope"))

abbrev pub conflicts : List ℕ → List Row → Bool
conflicts name rows =
    if bytes_eq name (codes "run") then run_conflicts rows
    else (if bytes_eq name (codes "replay") then are_given rows (codes "lines") (codes "json")
    else (if bytes_eq name (codes "plain") then are_given rows (codes "diagnostics") (codes "json")
    else (if bytes_eq name (codes "check") then check_conflicts rows
    else (if bytes_eq name (codes "explain") then are_given rows (codes "fix") (codes "json")
    else (if bytes_eq name (codes "grade") then grade_conflicts rows else false)))))

-- the words of the command, if there is one, conflict
abbrev pub are_apart : Option (List ℕ × List Row) → Bool
are_apart None = false
are_apart (Some p) = conflicts p.0 p.1

-- the words are a command with words of it: no fault is found in them, and none stands beside one that it can't
pub record AreParsed (words : List (List ℕ)) : Type 0 where
  pub taken : fault_of own_program words ≡ []
  pub together : are_apart (subcommand_of own_program words) ≡ false

-- and these are the command and its words
pub record IsParse (words : List (List ℕ)) (matches : ArgMatches) : Type 0 where
  pub parsed : AreParsed words
  pub rows : subcommand_rows_of matches ≡ subcommand_of own_program words

-- of this kind is what goes to standard output: a help, or the version
abbrev pub is_shown : ErrorKind → Bool
is_shown DisplayHelp = true
is_shown DisplayVersion = true
is_shown _ = false

-- the first thing that is found in the words, but for words of a command, is a call for help or for the version
abbrev pub AreForHelp : List (List ℕ) → Type 0
AreForHelp words = (kind : ErrorKind) × IsAmong kind (fault_of own_program words) × (is_shown kind ≡ true)

-- it is a fault; or words conflict
abbrev pub AreMisused : List (List ℕ) → Type 0
AreMisused words = ((kind : ErrorKind) × IsAmong kind (fault_of own_program words) × (is_shown kind ≡ false)) ⊎ (are_apart (subcommand_of own_program words) ≡ true)

-- the ending is due for words that are no command with words of it: for a call for help, for a misuse, or since memory was refused
pub data IsUnparsed (input : Option (List ℕ)) (file : Path → Option (List ℕ)) (words : List (List ℕ)) (ending : Ending) : Type 0 where
  for_help : AreForHelp words → IsDue input file help ending → IsUnparsed input file words ending
  for_misuse : AreMisused words → IsDue input file misuse ending → IsUnparsed input file words ending
  for_memory : Tells (fault_told Memory) 4 ending → IsUnparsed input file words ending
