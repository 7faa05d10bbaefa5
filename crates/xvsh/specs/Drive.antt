-- What the program does with the script that its host holds.
use Rattle.std.specs.Prelude.{◌≡◌, ℕ, if◌then◌else◌, List, [], ◌∷◌, Option, Some, IfSome, codes}
use Rattle.std.specs.Borrow.{Bor}
use Rattle.std.specs.Str.{bytes_eq}
use Rattle.std.specs.Io.KnownBytes.{Appends}
use Rattle.mem_files.specs.Files.{no_files}
use Rattle.script_load.specs.declared.profile.Profile.TheVariants.{Xv6}
use Rattle.script_load.specs.Line.{ScriptLine}
use Rattle.meaning_model.specs.Meaning.{script_meaning}
use Rattle.script_load.specs.Script.{IsScript}
use Rattle.clap.specs.Matches.{subcommand_name_of}
use Rattle.clap.specs.declared.parser.matches.ArgMatches.{ArgMatches}
use Rattle.xvsh_read.specs.Path.{Path}
use Rattle.xvsh_read.specs.Status.{fault_told}
use Rattle.xvsh_read.specs.declared.fault.Fault.TheVariants.{Memory}
use Rattle.xvsh_read.specs.Console.{Known}
use Rattle.xvsh_ends.specs.Ends.{Asked, Ends, IsDue, Tells, Writes, help, misuse}
use Rattle.xvsh_ends.specs.declared.ending.Ending.{Ending}
use Rattle.xvsh_ends.specs.Requests.{asked, unread_asked}
use Rattle.xvsh_ends.specs.declared.request.Request.{Request}
use Rattle.xvsh_read.specs.Given.{Sees, Sight}
use Rattle.xvsh.specs.Parsing.{AreForHelp, AreMisused, IsParse}
use Rattle.xvsh.specs.Words.{AreInputsOf, IsNamed, IsRequestOf}
use Rattle.xvsh_read.specs.declared.given.Inputs.{Inputs}

-- where the host states its input and the writer what it holds, the output of the input's script under
-- xv6's profile, on an empty standard input and no files, is added to the writer, and nothing else
abbrev pub WritesMeaning : Option (List ℕ) → Option (List ℕ) → Option (List ℕ) → Type 0
WritesMeaning told old new =
    IfSome told (λ bytes. (lines : List ScriptLine) × IsScript bytes lines × Appends old new (script_meaning Xv6 lines [] no_files).out)

-- parsed words ask for this, of what a command sees: a request that they make, of the host's standard input and files but for those
-- that they give; a standard input that can't be read; or, of a command that makes no request, nothing
pub data IsAskedBy (input : Option (List ℕ)) (file : Path → Option (List ℕ)) (matches : ArgMatches) : Sight → Asked → Type 0 where
  asks : {sight : Sight} (request : Request) (inputs : Inputs) → IsRequestOf matches request → AreInputsOf matches inputs → Sees input file inputs sight → IsAskedBy input file matches sight (asked request)
  asks_unread : {path : Bor Path} (request : Request) (inputs : Inputs) → IsRequestOf matches request → AreInputsOf matches inputs → inputs.input ≡ Some path → IsAskedBy input file matches (record { input = input; file = file }) (unread_asked request path.now)
  asks_nothing : {sight : Sight} → (IsNamed (subcommand_name_of matches) → ⊥) → IsAskedBy input file matches sight misuse

-- the ending is due for a request, with what the words give, or says that their standard input can't be read
pub data IsDueGiven (input : Option (List ℕ)) (file : Path → Option (List ℕ)) (inputs : Inputs) (request : Request) (ending : Ending) : Type 0 where
  due : (sight : Sight) → Sees input file inputs sight → IsDue sight.input sight.file (asked request) ending → IsDueGiven input file inputs request ending
  ungiven : {path : Bor Path} → inputs.input ≡ Some path → IsDue input file (unread_asked request path.now) ending → IsDueGiven input file inputs request ending

-- the words behind `help` as a call for the help of the command that they name, or of the program
abbrev pub help_words : List (List ℕ) → List (List ℕ)
help_words [] = codes "--help" ∷ []
help_words (word ∷ words) = word ∷ (codes "--help" ∷ words)

-- the words as they are meant: the command that `-c TEXT` leaves out is `plain`, and `help COMMAND` is `COMMAND --help`
abbrev pub completed : List (List ℕ) → List (List ℕ)
completed [] = []
completed (word ∷ words) =
    if bytes_eq word (codes "-c") then codes "plain" ∷ (word ∷ words)
    else (if bytes_eq word (codes "help") then help_words words else word ∷ words)

-- what comes of words: what is asked for, by what a command sees, gives it; or memory was refused
pub data ComesOf (input : Option (List ℕ)) (file : Path → Option (List ℕ)) (words : List (List ℕ)) (Gives : Sight → Asked → Type 0) (Lacks : Type 0) : Type 0 where
  -- they are parsed, and make a request
  of_command : (matches : ArgMatches) (sight : Sight) (what : Asked) → IsParse words matches → IsAskedBy input file matches sight what → Gives sight what → ComesOf input file words Gives Lacks
  -- they call for help
  of_help : AreForHelp words → Gives (record { input = input; file = file }) help → ComesOf input file words Gives Lacks
  -- they are no command line
  of_misuse : AreMisused words → Gives (record { input = input; file = file }) misuse → ComesOf input file words Gives Lacks
  of_no_memory : Lacks → ComesOf input file words Gives Lacks

-- the ending is due for these words
abbrev pub IsDueOn : Option (List ℕ) → (Path → Option (List ℕ)) → List (List ℕ) → Ending → Type 0
IsDueOn input file words ending =
    ComesOf input file words (λ sight what. IsDue sight.input sight.file what ending) (Tells (fault_told Memory) 4 ending)

-- the program ends with this status on these words, by what is known of its console before and after
abbrev pub EndsOn : Known → Known → List (List ℕ) → ℕ → Type 0
EndsOn old new words status =
    ComesOf old.input old.file words (λ sight what. Ends sight.input sight.file old.out new.out old.err new.err what status) (Writes [] (fault_told Memory) 4 old.out new.out old.err new.err status)
