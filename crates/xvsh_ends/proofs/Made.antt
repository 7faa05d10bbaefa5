-- What is printed of values, as an object or as a text, is due where the text is.
use Rattle.std.proofs.Common.{◌≡◌, ℕ, Bool, true, false, [], Option, Result, Ok, Err, refl, ◌∙◌, ap}
use Rattle.std.specs.Prelude.{IfOk, MatchResult}
use Rattle.mem_files.specs.Name.{Bytes}
use Rattle.xvsh_read.specs.declared.fault.Fault.TheVariants.{Memory}
use Rattle.xvsh_read.specs.Path.{Path}
use Rattle.xvsh_read.specs.Status.{fault_told, status_code}
use Rattle.xvsh_read.specs.Writing.{out_text}
use Rattle.xvsh_ends.specs.Ends.{Asked, Due, IsDue, IsObjectStatus, PrintsAlone, Tells, TellsOr, tells, lacks_memory, told_text, valued}
use Rattle.xvsh_ends.specs.Printed.{IsPrinted, as_object, as_text, unmade}
use Rattle.xvsh_ends.specs.Requests.{json_asked}
use Rattle.xvsh_ends.specs.declared.ending.Ending.{Ending}
use Rattle.xvsh_ends.proofs.Dues.{due_by, due_memory}

module _ (input : Option Bytes) (file : Path → Option Bytes) (what : Asked) where
  pub due_printed : (is_json : Bool) (text told : Bytes) (status : ℕ) (ending : Ending) → IsPrinted is_json text told status ending → IsObjectStatus status → Due input file what text told status → IsDue input file (json_asked is_json what) ending
  due_printed true text told status ending (as_object object asked is) with due = due_by input file (json_asked true what) object [] status ending is.out is.reported is.with (valued object with due)
  due_printed false text told status ending (as_object object asked is) with due = let wrong : false ≡ true = asked in cc
  due_printed true text told status ending (as_text asked out reported same) with due = let wrong : true ≡ false = asked in cc
  due_printed false text told status ending (as_text asked out reported same) with due = due_by input file what text told status ending out reported same due
  due_printed is_json text told status ending (unmade is) with due = due_memory input file (json_asked is_json what) ending is

-- what was made of values is printed
pub prints_made : {T E : Type 0} (is_json : Bool) (made : Result T E) (bytes : T → Bytes) (text : Bytes) (status : ℕ) (ending : Ending) → MatchResult made (λ found. PrintsAlone (bytes found) status ending) (λ _. Tells (fault_told Memory) 4 ending) → (is_json ≡ false → IfOk made (λ found. bytes found ≡ text)) → IsPrinted is_json text [] status ending
prints_made true (Ok found) bytes text status ending is same = as_object (bytes found) refl is
prints_made false (Ok found) bytes text status ending is same = as_text refl (is.out ∙ same refl) is.reported is.with
prints_made is_json (Err refused) bytes text status ending is same = unmade is

-- an object is printed in place of any text and report, and so is the report of a fault
pub prints_object : {T E : Type 0} (made : Result T E) (bytes : T → Bytes) (text told : Bytes) (status : ℕ) (ending : Ending) → MatchResult made (λ found. PrintsAlone (bytes found) status ending) (λ _. Tells (fault_told Memory) 4 ending) → IsPrinted true text told status ending
prints_object (Ok found) bytes text told status ending is = as_object (bytes found) refl is
prints_object (Err refused) bytes text told status ending is = unmade is

pub prints_report : (told : Bytes) (status : ℕ) (ending : Ending) → TellsOr told status ending → IsPrinted false [] told status ending
prints_report told status ending (tells is) = as_text refl is.nothing is.reported is.with
prints_report told status ending (lacks_memory is) = unmade is

-- an ending that prints and reports the same with the same status is printed
pub prints_as : (is_json : Bool) (text told : Bytes) (status : ℕ) (old new : Ending) → out_text new.output ≡ out_text old.output → told_text new ≡ told_text old → new.status ≡ old.status → IsPrinted is_json text told status old → IsPrinted is_json text told status new
prints_as is_json text told status old new out reported with (as_object object asked is) =
    as_object object asked (record { out = out ∙ is.out; reported = reported ∙ is.reported; with = ap status_code with ∙ is.with })
prints_as is_json text told status old new out reported with (as_text asked text_is told_is status_is) = as_text asked (out ∙ text_is) (reported ∙ told_is) (ap status_code with ∙ status_is)
prints_as is_json text told status old new out reported with (unmade is) =
    unmade (record { nothing = out ∙ is.nothing; reported = reported ∙ is.reported; with = ap status_code with ∙ is.with })
