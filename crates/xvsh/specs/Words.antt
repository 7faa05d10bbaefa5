-- The request that the words of a command line make, as they were parsed.
use Rattle.std.specs.Prelude.{◌≡◌, ℕ, ◌<◌, ◌^◌, ◌⊎◌, Bool, true, false, if◌then◌else◌, List, [], ◌∷◌, Option, Some, None, is_some, map, option_map, unwrap_or, codes}
use Rattle.std.specs.Borrow.{Bor}
use Rattle.std.specs.Str.{bytes_eq}
use Rattle.std.specs.Str.Parse.{IsNumeral, digits_value, without_leading_plus}
use Rattle.clap.specs.Matches.{found_of, first_value, matched_of, one_text, raw_values, subcommand_name_of}
use Rattle.clap.specs.Simple.{subcommand_rows_of}
use Rattle.clap.specs.Walk.{rows_of}
use Rattle.clap.specs.declared.parser.matches.ArgMatches.{ArgMatches}
use Rattle.clap.specs.declared.parser.matches.Found.{Found}
use Rattle.xvsh_read.specs.Path.{Path}
use Rattle.xvsh_read.specs.Words.{profile_of}
use Rattle.xvsh_read.specs.declared.starting.Source.{Source}
use Rattle.xvsh_runs.specs.declared.request.RunRequest.{RunRequest}
use Rattle.xvsh_runs.specs.declared.request.ReplayRequest.{ReplayRequest}
use Rattle.xvsh_plain.specs.declared.request.PlainRequest.{PlainRequest}
use Rattle.xvsh_checks.specs.declared.request.CheckRequest.{CheckRequest}
use Rattle.xvsh_checks.specs.declared.request.ExplainRequest.{ExplainRequest}
use Rattle.xvsh_explores.specs.declared.request.ExploreRequest.{ExploreRequest}
use Rattle.xvsh_draws.specs.declared.request.DrawRequest.{DrawRequest}
use Rattle.xvsh_ends.specs.declared.request.Request.{Request}
use Rattle.xvsh_ends.specs.declared.request.Request.TheVariants.{Run, Replay, Plain, Check, Explain, Explore, Draw}
use Rattle.xvsh_read.specs.Given.{text_path}
use Rattle.xvsh_read.specs.declared.given.Inputs.{Inputs}
use Rattle.xvsh.specs.declared.request.TheConstants.{HARTS, STATES}

-- whether a flag is among the words: it is where it has the value `true`, and not where it has `false` or no value
abbrev pub IsFlag : Found → List ℕ → Bool → Type 0
IsFlag found id is =
    (one_text found id ≡ None → is ≡ false) × (one_text found id ≡ Some (codes "true") → is ≡ true) × (one_text found id ≡ Some (codes "false") → is ≡ false)

-- the path under a name, or `-` where there is none
abbrev pub IsPath : Found → List ℕ → Path → Type 0
IsPath found id path = path ≡ unwrap_or (first_value found id) (codes "-")

-- the paths under a name, or none
abbrev pub ArePaths : Found → List ℕ → List (Bor Path) → Type 0
ArePaths found id paths = map (λ path. path.now) paths ≡ unwrap_or (option_map raw_values (matched_of found id)) []

-- the number of so many bits under a name, or a default where there is none
abbrev pub IsNumber : ℕ → ℕ → Found → List ℕ → ℕ → Type 0
IsNumber bits default found id number =
    (one_text found id ≡ None → number ≡ default)
    × ((text : List ℕ) → one_text found id ≡ Some text → IsNumeral 10 (without_leading_plus text) → digits_value 10 (without_leading_plus text) < 2 ^ bits → number ≡ digits_value 10 (without_leading_plus text))

-- the word under a name, if there is one
abbrev pub IsWord : Found → List ℕ → Option (Bor Path) → Type 0
IsWord found id word = option_map (λ text. text.now) word ≡ first_value found id

-- the number of 64 bits under a name, if there is one
abbrev pub IsNumberOrNone : Found → List ℕ → Option ℕ → Type 0
IsNumberOrNone found id number =
    (one_text found id ≡ None → number ≡ None)
    × ((text : List ℕ) → one_text found id ≡ Some text → IsNumeral 10 (without_leading_plus text) → digits_value 10 (without_leading_plus text) < 2 ^ 64 → number ≡ Some (digits_value 10 (without_leading_plus text)))

-- how many harts a run has if the words don't say: one, where they say in which order its processes take their turns
abbrev pub default_harts : Option (Bor Path) → Option ℕ → ℕ
default_harts None None = HARTS
default_harts None (Some seed) = 1
default_harts (Some word) seed = 1

-- the path at which a path's bytes are: where the words give the script a standard input, `-` is the program's own
abbrev pub path_beside : Bool → Path → Path
path_beside false path = path
path_beside true path = if bytes_eq path (codes "-") then codes "/dev/stdin" else path

-- the path of a schedule
pub record IsPathBeside (found : Found) (id : List ℕ) (path : Path) : Type 0 where
  pub input : Option (Bor Path)
  pub given : IsWord found (codes "input") input
  pub word : Path
  pub own : IsPath found id word
  pub at : path ≡ path_beside (is_some input) word

-- the path of the script: that of the words' own script with `-c`
pub record IsScriptOf (found : Found) (path : Path) : Type 0 where
  pub is_text : Bool
  pub flag : IsFlag found (codes "text") is_text
  pub of_text : is_text ≡ true → path ≡ text_path
  pub of_path : is_text ≡ false → IsPathBeside found (codes "script") path

-- the script that is among the words, if it is
pub record IsTextOf (found : Found) (text : Option (Bor Path)) : Type 0 where
  pub is_text : Bool
  pub flag : IsFlag found (codes "text") is_text
  pub own : is_text ≡ true → (word : Bor Path) × (text ≡ Some word) × IsPath found (codes "script") word.now
  pub none : is_text ≡ false → text ≡ None

-- where the words of a command say that standard input and the script come from
pub record AreInputsIn (found : Found) (inputs : Inputs) : Type 0 where
  pub input : IsWord found (codes "input") inputs.input
  pub text : IsTextOf found inputs.text

-- the script, its files and its profile
pub record IsSourceOf (found : Found) (source : Source) : Type 0 where
  pub script : IsScriptOf found source.script.now
  pub files : ArePaths found (codes "paths") source.files.now
  pub appends : Bool
  pub append : IsFlag found (codes "append") appends
  pub profile : source.profile ≡ profile_of appends

-- the words of each command make a request
pub record IsRunOf (found : Found) (request : RunRequest) : Type 0 where
  pub source : IsSourceOf found request.source
  pub order : IsWord found (codes "order") request.order
  pub seed : IsNumberOrNone found (codes "seed") request.seed
  pub harts : IsNumber 8 (default_harts request.order request.seed) found (codes "harts") request.harts
  pub turns : IsNumberOrNone found (codes "turns") request.turns
  pub files : IsFlag found (codes "files") request.lists.files
  pub schedule : IsFlag found (codes "schedule") request.lists.events
  pub strict : IsFlag found (codes "strict") request.is_strict
  pub schedule_to : IsWord found (codes "schedule-to") request.schedule_to
  pub files_to : IsWord found (codes "files-to") request.files_to
  pub trace : IsWord found (codes "trace") request.trace
  pub lines : IsFlag found (codes "lines") request.is_lined
  pub json : IsFlag found (codes "json") request.is_json

pub record IsReplayOf (found : Found) (request : ReplayRequest) : Type 0 where
  pub schedule : IsPathBeside found (codes "events") request.schedule.now
  pub source : IsSourceOf found request.source
  pub files : IsFlag found (codes "files") request.lists.files
  pub events : request.lists.events ≡ false
  pub files_to : IsWord found (codes "files-to") request.files_to
  pub trace : IsWord found (codes "trace") request.trace
  pub lines : IsFlag found (codes "lines") request.is_lined
  pub json : IsFlag found (codes "json") request.is_json

pub record IsPlainOf (found : Found) (request : PlainRequest) : Type 0 where
  pub source : IsSourceOf found request.source
  pub files : IsFlag found (codes "files") request.lists_files
  pub files_to : IsWord found (codes "files-to") request.files_to
  pub strict : IsFlag found (codes "strict") request.is_strict
  pub json : IsFlag found (codes "json") request.is_json
  pub diagnostics : IsFlag found (codes "diagnostics") request.finds_diagnostics

pub record IsCheckOf (found : Found) (request : CheckRequest) : Type 0 where
  pub script : IsScriptOf found request.script.now
  pub files : ArePaths found (codes "paths") request.files.now
  pub turns : IsFlag found (codes "turns") request.counts_turns
  pub room : IsFlag found (codes "room") request.tells_room
  pub strict : IsFlag found (codes "strict") request.is_strict
  pub json : IsFlag found (codes "json") request.is_json

-- why a script is settled is reported where that is requested, or the words give a standard input or files
abbrev pub tells_why : Bool → Option (Bor Path) → List (Bor Path) → Bool
tells_why is_asked None [] = is_asked
tells_why is_asked None (path ∷ paths) = true
tells_why is_asked (Some word) paths = true

pub record IsExplainOf (found : Found) (request : ExplainRequest) : Type 0 where
  pub source : IsSourceOf found request.source
  pub asked : Bool
  pub why : IsFlag found (codes "why") asked
  pub input : Option (Bor Path)
  pub given : IsWord found (codes "input") input
  pub tells : request.tells_why ≡ tells_why asked input request.source.files.now
  pub fixes : IsFlag found (codes "fix") request.fixes
  pub json : IsFlag found (codes "json") request.is_json

pub record IsExploreOf (found : Found) (request : ExploreRequest) : Type 0 where
  pub source : IsSourceOf found request.source
  pub states : IsNumber 64 STATES found (codes "states") request.states
  pub all : IsFlag found (codes "all") request.is_thorough
  pub full : IsFlag found (codes "full") request.is_full
  pub witness : IsWord found (codes "witness") request.witness
  pub draw : IsWord found (codes "draw") request.draw
  pub play : IsWord found (codes "play") request.play
  pub pair : IsWord found (codes "pair") request.pair
  pub json : IsFlag found (codes "json") request.is_json
  pub input : IsWord found (codes "input") request.input
  pub text : IsTextOf found request.text

pub record IsDrawOf (found : Found) (request : DrawRequest) : Type 0 where
  pub trace : IsPath found (codes "trace") request.trace.now
  pub other : IsWord found (codes "other") request.other
  pub from : IsNumberOrNone found (codes "from") request.bounds.from
  pub to : IsNumberOrNone found (codes "to") request.bounds.to
  pub svg : IsFlag found (codes "svg") request.is_svg

-- the words name a command, and this was found in those of it
pub record Names (matches : ArgMatches) (name : List ℕ) (found : Found) : Type 0 where
  pub named : subcommand_name_of matches ≡ Some name
  pub rows : option_map (λ p. p.1) (subcommand_rows_of matches) ≡ Some (rows_of found)

-- where parsed words say that standard input and the script come from: by the words of the command that they name, and nowhere
-- without one
abbrev pub AreInputsOf : ArgMatches → Inputs → Type 0
AreInputsOf matches inputs =
    ((name : List ℕ) × (found : Found) × Names matches name found × AreInputsIn found inputs)
    ⊎ ((subcommand_name_of matches ≡ None) × ((inputs.input ≡ None) × (inputs.text ≡ None)))

-- parsed words make a request
abbrev pub IsRequestOf : ArgMatches → Request → Type 0
IsRequestOf matches (Run request) = (found : Found) × Names matches (codes "run") found × IsRunOf found request
IsRequestOf matches (Replay request) = (found : Found) × Names matches (codes "replay") found × IsReplayOf found request
IsRequestOf matches (Plain request) = (found : Found) × Names matches (codes "plain") found × IsPlainOf found request
IsRequestOf matches (Check request) = (found : Found) × Names matches (codes "check") found × IsCheckOf found request
IsRequestOf matches (Explain request) = (found : Found) × Names matches (codes "explain") found × IsExplainOf found request
IsRequestOf matches (Explore request) = (found : Found) × Names matches (codes "explore") found × IsExploreOf found request
IsRequestOf matches (Draw request) = (found : Found) × Names matches (codes "draw") found × IsDrawOf found request

-- the name of a command
abbrev pub IsNamed : Option (List ℕ) → Type 0
IsNamed name = (name ≡ Some (codes "run")) ⊎ ((name ≡ Some (codes "replay")) ⊎ ((name ≡ Some (codes "plain")) ⊎ ((name ≡ Some (codes "check")) ⊎ ((name ≡ Some (codes "explain")) ⊎ ((name ≡ Some (codes "explore")) ⊎ (name ≡ Some (codes "draw")))))))
