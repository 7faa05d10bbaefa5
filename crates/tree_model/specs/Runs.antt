-- Runs of the machine: steps one after the other, from a command on its input and files.
use Rattle.std.specs.Prelude.{◌≡◌, true, false, List, [], ◌∷◌, ◌++◌, drop}
use Rattle.sh_tree.specs.Tree.{Tree}
use Rattle.mem_files.specs.Name.{Name, Bytes}
use Rattle.mem_files.specs.Files.{FileMap}
use Rattle.script_load.specs.declared.profile.Profile.{Profile}
use Rattle.meaning_model.specs.Value.{Value}
use Rattle.tree_model.specs.Residual.{Residual, todo}
use Rattle.tree_model.specs.Step.{Choice, step}
use Rattle.tree_model.specs.Rules.{Label, Steps, IsMet, taken, put_out}
use Rattle.tree_model.specs.Final.{final, left_met}
use Rattle.tree_model.specs.Tidy.{IsTidy}
use Rattle.tree_model.specs.Kept.{Keeps}

-- what is left to do, the input that was not read, what was written, and the files
pub record Stage : Type 0 where
  pub left : Residual
  pub input : Bytes
  pub out : Bytes
  pub files : FileMap

abbrev pub first_stage : Tree → Bytes → FileMap → Stage
first_stage tree input F = record { left = todo tree; input = input; out = []; files = F }

-- a step by the rules: the input never gets more bytes, and the output can always be written
pub record Goes (profile : Profile) (stage next : Stage) : Type 0 where
  pub label : Label
  pub steps : Steps profile stage.left stage.files label next.left next.files
  pub met : IsMet label false true stage.input
  pub input : next.input ≡ drop (taken label) stage.input
  pub out : next.out ≡ stage.out ++ put_out label

-- any number of steps
pub data Reaches (profile : Profile) : Stage → Stage → Type 0 where
  reached : {stage : Stage} → Reaches profile stage stage
  goes_on : {stage next last : Stage} → Goes profile stage next → Reaches profile next last → Reaches profile stage last

-- a step by a choice
abbrev pub next_stage : Profile → Stage → Choice → Stage
next_stage profile stage c = record {
  left = (step profile stage.left c false true stage.input stage.files).next;
  input = drop (step profile stage.left c false true stage.input stage.files).took stage.input;
  out = stage.out ++ (step profile stage.left c false true stage.input stage.files).wrote;
  files = (step profile stage.left c false true stage.input stage.files).files;
}

abbrev pub after_steps : Profile → List Choice → Stage → Stage
after_steps profile [] stage = stage
after_steps profile (c ∷ cs) stage = after_steps profile cs (next_stage profile stage c)

-- a stage on the way from a command of this value: tidy, and what it wrote so far followed by what it still gives keeps the
-- value, and meets no name
pub record IsOnWay (profile : Profile) (value : Value) (stage : Stage) : Type 0 where
  pub tidy : IsTidy stage.left stage.files
  pub kept : Keeps stage.out value (final profile stage.left stage.input stage.files) (left_met profile stage.left stage.input stage.files)

-- the output of a value, its files but for soft names, and what it leaves of the input, unless that is loose
pub record Agrees (stage : Stage) (value : Value) : Type 0 where
  pub out : stage.out ≡ value.out
  pub files : (name : Name) → value.soft name ≡ false → stage.files name ≡ value.files name
  pub rest : value.loose ≡ false → stage.input ≡ value.rest
