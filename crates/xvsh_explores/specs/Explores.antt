-- What `explore` finds of a script.
use Rattle.std.specs.Prelude.{◌≡◌, ◌≤◌, ℕ, Bool, false, List, [], Option, Some, length}
use Rattle.std.specs.Borrow.{Bor}
use Rattle.mem_files.specs.Name.{Name, Bytes}
use Rattle.script_load.specs.declared.profile.Profile.{Profile}
use Rattle.script_load.specs.Line.{ScriptLine}
use Rattle.script_outcomes.specs.Named.{IsNamed}
use Rattle.script_outcomes.specs.declared.pair.Pair.{Pair}
use Rattle.order_search.specs.declared.outcomes.Outcome.{Outcome}
use Rattle.script_outcomes.specs.declared.finding.Found.{Found}
use Rattle.script_outcomes.specs.declared.finding.Found.TheVariants.{Settled, Tried}
use Rattle.script_outcomes.specs.Found.{IsFound}
use Rattle.xvsh_read.specs.declared.fault.Fault.{Fault}
use Rattle.xvsh_read.specs.declared.fault.Fault.TheVariants.{TooLarge, Memory}
use Rattle.xvsh_read.specs.Path.{Path}
use Rattle.xvsh_read.specs.Starting.{Starts, IsStartFault}
use Rattle.xvsh_explores.specs.declared.fault.ExploringFault.{ExploringFault}
use Rattle.xvsh_explores.specs.declared.fault.ExploringFault.TheVariants.{Common, NoPair, NoOutcome}

-- the outcomes that were found by trying orders
abbrev pub tried_outcomes : Found → List Outcome
tried_outcomes (Settled value) = []
tried_outcomes (Tried tried) = tried.found.outcomes.items

-- how many outcomes were found: one of a settled script
abbrev pub outcome_count : Found → ℕ
outcome_count (Settled value) = 1
outcome_count (Tried tried) = length tried.found.outcomes.items

-- where there is the word of a pair, these are the two outcomes that it names
abbrev pub IsPairOf : Option (Bor Path) → Option Pair → Type 0
IsPairOf word pair = (own : Bor Path) → word ≡ Some own → (named : Pair) × (pair ≡ Some named) × IsNamed own.now named

-- such a word names no two outcomes, or one that isn't there
abbrev pub IsPairFault : Option (Bor Path) → ExploringFault → Type 0
IsPairFault word (Common fault) = ⊥
IsPairFault word (NoPair own) = word ≡ Some own
IsPairFault word (NoOutcome own count) = word ≡ Some own

-- no word was refused because of what was found
abbrev pub IsBeforeSearch : ExploringFault → Type 0
IsBeforeSearch (Common fault) = Unit {0}
IsBeforeSearch (NoPair own) = Unit {0}
IsBeforeSearch (NoOutcome own count) = ⊥

-- the word names two outcomes, and the later one isn't among the so many that were found
pub record MissesPair (found : Found) (word : Bytes) (count : ℕ) : Type 0 where
  pub named : Pair
  pub is : IsNamed word named
  pub past : length (tried_outcomes found) ≤ named.other
  pub counted : count ≡ outcome_count found

-- an outcome is said to be missing only where it is
abbrev pub IsMissingFrom : Found → ExploringFault → Type 0
IsMissingFrom found (Common fault) = Unit {0}
IsMissingFrom found (NoPair own) = Unit {0}
IsMissingFrom found (NoOutcome own count) = MissesPair found own.now count

-- what follows is by what the host states of standard input and of the files at paths
module _ (input : Option Bytes) (file : Path → Option Bytes) where
  -- this was found of the script at a path under a profile, on the files at these paths, of at most so many states, and with every
  -- order tried of a settled script too or not
  pub record RanExplore (profile : Profile) (script : Path) (paths : List (Bor Path)) (states : ℕ) (all : Bool) (found : Found) : Type 0 where
    pub lines : List ScriptLine
    pub given : List (Name × Bytes)
    pub stdin : Bytes
    pub starts : Starts input file false script paths lines given stdin
    pub is : IsFound profile lines stdin given states all found

  -- why nothing was: there is nothing to explore, a run has more turns than can be counted, or memory was refused
  pub data IsExploreFault (script : Path) (paths : List (Bor Path)) : Fault → Type 0 where
    no_start : {fault : Fault} → IsStartFault input file false script paths fault → IsExploreFault script paths fault
    too_many_turns : IsExploreFault script paths TooLarge
    no_memory : IsExploreFault script paths Memory

  -- the same of a request with the word of a pair, if there is one
  abbrev pub IsExploringFault : Path → List (Bor Path) → Option (Bor Path) → ExploringFault → Type 0
  IsExploringFault script paths word (Common fault) = IsExploreFault script paths fault
  IsExploringFault script paths word (NoPair own) = IsPairFault word (NoPair own)
  IsExploringFault script paths word (NoOutcome own count) = IsPairFault word (NoOutcome own count)

  -- an outcome is said to be missing only where this was found and it is missing from it
  abbrev pub IsMissing : Profile → Path → List (Bor Path) → ℕ → Bool → ExploringFault → Type 0
  IsMissing profile script paths states all (Common fault) = Unit {0}
  IsMissing profile script paths states all (NoPair own) = Unit {0}
  IsMissing profile script paths states all (NoOutcome own count) = (found : Found) × RanExplore profile script paths states all found × MissesPair found own.now count
