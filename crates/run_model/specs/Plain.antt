-- A run of a script without `&` in which nothing was full.
use Rattle.std.specs.Prelude.{◌≡◌, false, List, None}
use Rattle.mem_files.specs.Name.{Name, Bytes}
use Rattle.conflict_check.specs.Clear.{has_back}
use Rattle.script_load.specs.Line.{ScriptLine}
use Rattle.script_load.specs.declared.profile.Profile.{Profile}
use Rattle.meaning_model.specs.Meaning.{script_tree}
use Rattle.sh_machine.specs.State.{User}
use Rattle.kernel_model.specs.History.{History}
use Rattle.run_model.specs.ScriptRun.{script_kernel}

-- the kernel began with the script's processes on some input and files, no line holds a `&`, and no call was refused for want of room
pub record IsPlainRun (h : History User) : Type 0 where
  pub profile : Profile
  pub lines : List ScriptLine
  pub input : Bytes
  pub files : List (Name × Bytes)
  pub begun : h.boot ≡ script_kernel profile lines input files
  pub plain : has_back (script_tree lines) ≡ false
  pub roomy : h.now.full ≡ None
