-- What mends come to is a fix, or that there is none.
use Rattle.std.proofs.Common.{◌≡◌, ℕ, List, Option, Some, None, Result, Ok, Err, false, sym, subst}
use Rattle.std.specs.Prelude.{IfErr, IfNone, IfOk, IfSome, MatchOption}
use Rattle.std.specs.Borrow.{Bor}
use Rattle.mem_files.specs.Name.{Name, Bytes}
use Rattle.mem_files.specs.Files.{FileMap, files}
use Rattle.script_load.specs.declared.profile.Profile.{Profile}
use Rattle.script_load.specs.Line.{ScriptLine}
use Rattle.script_load.specs.Script.{IsScript}
use Rattle.script_load.proofs.OneScript.{one_script}
use Rattle.meaning_model.specs.Limits.{Outgrows}
use Rattle.meaning_model.specs.Meaning.{script_tree}
use Rattle.script_mends.specs.Mended.{AreMends, IsSettledText, IsUnmended}
use Rattle.plain_run.specs.declared.fault.PlainFault.{PlainFault}
use Rattle.plain_run.specs.declared.fault.PlainFault.TheVariants.{TooLarge as Large, Memory as NoRoom}
use Rattle.script_mends.specs.Rounds.{IsMendFault, most_mends}
use Rattle.script_mends.specs.declared.rounds.MendFault.TheVariants.{Plain}
use Rattle.xvsh_plain.specs.Running.{of_plain}
use Rattle.xvsh_read.specs.declared.fault.Fault.{Fault}
use Rattle.xvsh_read.specs.Path.{Path}
use Rattle.xvsh_read.specs.Reading.{Agree, told_at}
use Rattle.xvsh_read.specs.Starting.{Starts, bad_script}
use Rattle.xvsh_read.proofs.Begins.{load_fault}
use Rattle.xvsh_checks.specs.Fixes.{HasNoFix, IsFix, IsFixFault, RanFix, RanNoFix, not_fixed, outgrown, refused}
use Rattle.xvsh_checks.specs.Whys.{IsWhysFault, no_notes, no_whys, whys_not_told}

-- a fault of the meaning is one
pub plain_fault : (profile : Profile) (stdin : Bytes) (F : FileMap) (bytes : Bytes) (fault : PlainFault) → IsMendFault profile stdin F bytes (Plain fault) → IsFixFault profile stdin F bytes (of_plain fault)
plain_fault profile stdin F bytes Large is = outgrown is.0 is.1 is.2
plain_fault profile stdin F bytes NoRoom is = not_fixed

pub fix_by : {T : Type 0} (profile : Profile) (stdin : Bytes) (F : FileMap) (bytes : Bytes) (found : Option T) (text : T → Bytes) →
    IfSome found (λ t. IsSettledText profile stdin F (text t)) → IfSome found (λ t. (count : ℕ) × AreMends profile stdin F count bytes (text t)) →
    (IsSettledText profile stdin F bytes → MatchOption found ⊥ (λ t. text t ≡ bytes)) → IfNone found (IsUnmended profile stdin F most_mends bytes) →
    MatchOption found (HasNoFix profile stdin F bytes) (λ t. IsFix profile stdin F bytes (text t))
fix_by profile stdin F bytes None text settled mends same none = record { unsettled = same; unmended = none }
fix_by profile stdin F bytes (Some t) text settled mends same none = record { settled = settled; count = mends.0; mends = mends.1; same = same }

module _ (input : Option Bytes) (file : Path → Option Bytes) (profile : Profile) (script : Path) (paths : List (Bor Path)) (lines : List ScriptLine) (given : List (Name × Bytes)) (stdin bytes : Bytes) where
  pub ran_by : {T : Type 0} (text : T → Bytes) (found : Option T) → ((starts : Starts input file false script paths lines given stdin) × (starts.loaded.bytes ≡ bytes)) →
      MatchOption found (HasNoFix profile stdin (files given) bytes) (λ t. IsFix profile stdin (files given) bytes (text t)) →
      MatchOption found (RanNoFix input file profile script paths) (λ t. RanFix input file profile script paths (text t))
  ran_by text None (starts, same) is = record { lines = lines; given = given; stdin = stdin; starts = starts; none = subst (HasNoFix profile stdin (files given)) (sym same) is }
  ran_by text (Some t) (starts, same) is = record { lines = lines; given = given; stdin = stdin; starts = starts; fix = subst (λ b. IsFix profile stdin (files given) b (text t)) (sym same) is }

  pub fault_by : (fault : Fault) → Agree (told_at input file script) bytes → ((starts : Starts input file false script paths lines given stdin) × (starts.loaded.bytes ≡ bytes)) →
      IsFixFault profile stdin (files given) bytes fault → IsWhysFault input file profile script paths fault
  fault_by fault own starts (refused load has) = no_notes (bad_script bytes own (load_fault bytes load has))
  fault_by fault own starts (outgrown others is large) =
      no_whys lines given stdin starts.0 (subst (λ ls. Outgrows profile (script_tree ls) stdin (files given)) (one_script bytes others lines is (subst (λ b. IsScript b lines) starts.1 starts.0.loaded.cut)) large)
  fault_by fault own starts not_fixed = whys_not_told

  -- the same of what a call returns, and of its fault
  pub ran_result : {T E : Type 0} (result : Result (Option T) E) (text : T → Bytes) → ((starts : Starts input file false script paths lines given stdin) × (starts.loaded.bytes ≡ bytes)) →
      IfOk result (λ found. MatchOption found (HasNoFix profile stdin (files given) bytes) (λ t. IsFix profile stdin (files given) bytes (text t))) →
      IfOk result (λ found. MatchOption found (RanNoFix input file profile script paths) (λ t. RanFix input file profile script paths (text t)))
  ran_result (Ok found) text starts is = ran_by text found starts is
  ran_result (Err error) text starts is = tt

  pub fault_result : {T : Type 0} (result : Result T Fault) → Agree (told_at input file script) bytes → ((starts : Starts input file false script paths lines given stdin) × (starts.loaded.bytes ≡ bytes)) →
      IfErr result (IsFixFault profile stdin (files given) bytes) → IfErr result (IsWhysFault input file profile script paths)
  fault_result (Ok found) own starts is = tt
  fault_result (Err fault) own starts is = fault_by fault own starts is
