-- A script's start is a boot.
use Rattle.std.proofs.Common.{List, [], refl}
use Rattle.mem_files.specs.Name.{Name, Bytes}
use Rattle.mem_files.specs.Listing.{AreFiles}
use Rattle.script_load.specs.Line.{ScriptLine}
use Rattle.script_load.specs.declared.profile.Profile.{Profile}
use Rattle.sh_machine.specs.declared.state.Phase.TheVariants.{Starts}
use Rattle.sh_machine.specs.State.{init, shell, top}
use Rattle.sh_machine.specs.Turn.{call_of, next_of}
use Rattle.run_model.specs.ScriptRun.{script_kernel}
use Rattle.kernel_model.specs.Begun.{IsBegun}

pub script_begun : (profile : Profile) (lines : List ScriptLine) (input : Bytes) (list : List (Name × Bytes)) → AreFiles list → IsBegun call_of next_of (script_kernel profile lines input list)
script_begun profile lines input list are =
    record {
      init = init;
      shell = shell profile (top Starts lines);
      input = input;
      files = list;
      are = are;
      pids = [];
      turns = refl;
    }
