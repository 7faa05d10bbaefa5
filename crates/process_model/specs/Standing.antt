-- When a kernel's state stands for a stage of the tree machine.
use Rattle.std.specs.Prelude.{◌≡◌}
use Rattle.mem_files.specs.Files.{files}
use Rattle.script_load.specs.declared.profile.Profile.{Profile}
use Rattle.kernel_model.specs.KernelState.{KernelState}
use Rattle.sh_machine.specs.State.{User}
use Rattle.tree_model.specs.Runs.{Stage}
use Rattle.process_model.specs.Seen.{Names, view}
use Rattle.process_model.specs.Shows.{ShowsIn}
use Rattle.process_model.specs.Shape.{Node, IsShape, stands_for}

-- the kernel, under some names, has a tree of processes that stands for what is left; and the files, the input that wasn't
-- read and the output are those of the stage
pub record Stands (profile : Profile) (k : KernelState User) (stage : Stage) : Type 0 where
  pub names : Names
  pub tree : Node
  pub shows : ShowsIn names k
  pub shape : IsShape profile (view names k) tree
  pub left : stands_for tree ≡ stage.left
  pub files : files k.files ≡ stage.files
  pub input : k.input ≡ stage.input
  pub out : k.out ≡ stage.out
