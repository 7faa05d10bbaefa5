-- What a run begins with, of what its steps read.
use Rattle.std.proofs.Common.{◌≡◌, ◌≢◌, Bool, true, false, List, Option, codes, subst}
use Rattle.mem_files.specs.Name.{Bytes}
use Rattle.script_load.specs.declared.fault.LoadFault.{LoadFault}
use Rattle.script_load.specs.declared.fault.LoadFault.TheVariants.{LineTooLong, ByteZero, Memory}
use Rattle.script_load.specs.Line.{ScriptLine}
use Rattle.script_load.specs.Script.{IsScript, HasLoadFault}
use Rattle.xvsh_read.specs.Path.{Path}
use Rattle.xvsh_read.specs.Reading.{Agree, told_at}
use Rattle.xvsh_read.specs.Starting.{IsScriptFault, AreLinesAt, IsInputOf}
use Rattle.xvsh_read.specs.Status.{of_load}

pub load_fault : (bytes : Bytes) (fault : LoadFault) → HasLoadFault bytes fault → IsScriptFault bytes (of_load fault)
load_fault bytes (LineTooLong n) is = is
load_fault bytes (ByteZero n) is = is
load_fault bytes Memory is = is

module _ (input : Option Bytes) (file : Path → Option Bytes) (script : Path) where
  pub lines_at : (bytes seen : Bytes) (lines : List ScriptLine) → Agree (told_at input file script) bytes → seen ≡ bytes → IsScript seen lines → AreLinesAt input file script lines
  lines_at bytes seen lines own same cut = record { bytes = bytes; own = own; cut = subst (λ b. IsScript b lines) same cut }

-- reading the script and the files leaves the input, unless the script was read from it
pub input_kept : (input input' : Option Bytes) (file file' : Path → Option Bytes) (script : Path) (is_taken : Bool) (stdin : Bytes) → (script ≢ codes "-" → input' ≡ input) → IsInputOf input' file' is_taken script stdin → IsInputOf input file is_taken script stdin
input_kept input input' file file' script true stdin stays own = own
input_kept input input' file file' script false stdin stays own = (own.0, λ other. subst (λ told. Agree told stdin) (stays other) (own.1 other))
