-- Why nothing is found.
use Rattle.std.proofs.Common.{◌≡◌, ℕ, Bool, List, sym, subst, Option, inl, inr}
use Rattle.std.specs.Prelude.{◌⊎◌}
use Rattle.std.specs.Borrow.{Bor}
use Rattle.mem_files.specs.Name.{Bytes}
use Rattle.script_load.specs.declared.profile.Profile.{Profile}
use Rattle.script_outcomes.specs.declared.finding.Found.{Found}
use Rattle.xvsh_read.specs.declared.fault.Fault.{Fault}
use Rattle.xvsh_read.specs.declared.fault.Fault.TheVariants.{Memory, TooLarge}
use Rattle.xvsh_read.specs.Path.{Path}
use Rattle.xvsh_explores.specs.Explores.{IsBeforeSearch, IsExploreFault, IsExploringFault, IsMissing, IsMissingFrom, IsPairFault, RanExplore, too_many_turns, no_memory}
use Rattle.xvsh_explores.specs.declared.fault.ExploringFault.{ExploringFault}
use Rattle.xvsh_explores.specs.declared.fault.ExploringFault.TheVariants.{Common, NoPair, NoOutcome}

-- want of memory, or of a number for a run's turns
pub told_faults : (input : Option Bytes) (file : Path → Option Bytes) (script : Path) (paths : List (Bor Path)) (fault : Fault) → (fault ≡ Memory) ⊎ (fault ≡ TooLarge) → IsExploreFault input file script paths fault
told_faults input file script paths fault (inl is) = subst (IsExploreFault input file script paths) (sym is) no_memory
told_faults input file script paths fault (inr is) = subst (IsExploreFault input file script paths) (sym is) too_many_turns

-- or the word of a pair
pub pair_faults : (input : Option Bytes) (file : Path → Option Bytes) (script : Path) (paths : List (Bor Path)) (word : Option (Bor Path)) (fault : ExploringFault) → IsPairFault word fault → IsExploringFault input file script paths word fault
pair_faults input file script paths word (Common fault) is = absurd is
pair_faults input file script paths word (NoPair own) is = is
pair_faults input file script paths word (NoOutcome own count) is = is

-- no outcome is said to be missing before there is something found
pub missing_early : (input : Option Bytes) (file : Path → Option Bytes) (profile : Profile) (script : Path) (paths : List (Bor Path)) (states : ℕ) (all : Bool) (fault : ExploringFault) → IsBeforeSearch fault → IsMissing input file profile script paths states all fault
missing_early input file profile script paths states all (Common fault) is = tt
missing_early input file profile script paths states all (NoPair own) is = tt
missing_early input file profile script paths states all (NoOutcome own count) is = absurd is

-- and then only where it is
pub missing_found : (input : Option Bytes) (file : Path → Option Bytes) (profile : Profile) (script : Path) (paths : List (Bor Path)) (states : ℕ) (all : Bool) (found : Found) (fault : ExploringFault) → RanExplore input file profile script paths states all found → IsMissingFrom found fault → IsMissing input file profile script paths states all fault
missing_found input file profile script paths states all found (Common fault) ran is = tt
missing_found input file profile script paths states all found (NoPair own) ran is = tt
missing_found input file profile script paths states all found (NoOutcome own count) ran is = (found, ran, is)
