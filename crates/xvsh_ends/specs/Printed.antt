-- What is printed of values: one object of JSON, if one is requested, or their text.
use Rattle.std.specs.Prelude.{◌≡◌, ℕ, Bool, true, false}
use Rattle.mem_files.specs.Name.{Bytes}
use Rattle.xvsh_read.specs.declared.fault.Fault.TheVariants.{Memory}
use Rattle.xvsh_read.specs.Status.{fault_told, status_code}
use Rattle.xvsh_read.specs.Writing.{out_text}
use Rattle.xvsh_ends.specs.Ends.{PrintsAlone, Tells, told_text}
use Rattle.xvsh_ends.specs.declared.ending.Ending.{Ending}

-- with this status an object is printed alone, if one is requested, and else this text and this report; or that memory was refused
pub data IsPrinted (is_json : Bool) (text told : Bytes) (status : ℕ) (ending : Ending) : Type 0 where
  as_object : (object : Bytes) → is_json ≡ true → PrintsAlone object status ending → IsPrinted is_json text told status ending
  as_text : is_json ≡ false → out_text ending.output ≡ text → told_text ending ≡ told → status_code ending.status ≡ status → IsPrinted is_json text told status ending
  unmade : Tells (fault_told Memory) 4 ending → IsPrinted is_json text told status ending
