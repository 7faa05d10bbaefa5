-- What a run of a task by its meaning gives, and why it gives nothing.
use Rattle.std.specs.Prelude.{◌≡◌, ◌↔◌, IsTrue, List}
use Rattle.mem_files.specs.Name.{Name, Bytes}
use Rattle.mem_files.specs.Files.{files}
use Rattle.mem_files.specs.Listing.{AreFiles}
use Rattle.script_load.specs.declared.profile.Profile.{Profile}
use Rattle.script_load.specs.Line.{ScriptLine}
use Rattle.meaning_model.specs.Limits.{Outgrows}
use Rattle.meaning_model.specs.Meaning.{script_meaning, script_tree}
use Rattle.meaning_model.specs.Settled.{IsSettledScript}
use Rattle.embed.specs.declared.task.Task.{Task}
use Rattle.embed.specs.Profiles.{profile_by}
use Rattle.embed.specs.Starting.{Starts, IsStartFault}
use Rattle.embed.specs.Packing.{sizes_of, block_of}
use Rattle.embed.specs.declared.plain.PlainAnswer.{PlainAnswer}
use Rattle.embed.specs.declared.fault.EmbedFault.{EmbedFault}
use Rattle.embed.specs.declared.fault.EmbedFault.TheVariants.{Start, TooLarge, Memory, BadTurns, Spent, NoEvent, NotRunnable, NotRunning, Unfinished, BadOrder, BadStates}

-- the answer is the meaning of these lines on this input and these files, and their verdict
pub record IsMeant (profile : Profile) (lines : List ScriptLine) (stdin : Bytes) (given : List (Name × Bytes)) (answer : PlainAnswer) : Type 0 where
  pub prints : answer.out.items ≡ (script_meaning profile lines stdin (files given)).out
  pub left : List (Name × Bytes)
  pub are : AreFiles left
  pub leaves : (name : Name) → files left name ≡ (script_meaning profile lines stdin (files given)).files name
  pub sizes : answer.files.sizes.items ≡ sizes_of (script_meaning profile lines stdin (files given)).soft left
  pub block : answer.files.block.items ≡ block_of left
  pub verdict : IsTrue answer.is_settled ↔ IsSettledScript profile lines stdin (files given)

-- why there is none: it passes a limit, or memory was refused
abbrev pub IsMeaningFault : Profile → List ScriptLine → Bytes → List (Name × Bytes) → EmbedFault → Type 0
IsMeaningFault profile lines stdin given (Start fault) = ⊥
IsMeaningFault profile lines stdin given TooLarge = Outgrows profile (script_tree lines) stdin (files given)
IsMeaningFault profile lines stdin given Memory = Unit {0}
IsMeaningFault profile lines stdin given BadTurns = ⊥
IsMeaningFault profile lines stdin given Spent = ⊥
IsMeaningFault profile lines stdin given (NoEvent n) = ⊥
IsMeaningFault profile lines stdin given (NotRunnable n) = ⊥
IsMeaningFault profile lines stdin given (NotRunning n) = ⊥
IsMeaningFault profile lines stdin given Unfinished = ⊥
IsMeaningFault profile lines stdin given BadOrder = ⊥
IsMeaningFault profile lines stdin given BadStates = ⊥

-- the answer is the meaning of the task's script on what a run of it begins with
pub record IsPlainAnswer (task : Task) (answer : PlainAnswer) : Type 0 where
  pub lines : List ScriptLine
  pub given : List (Name × Bytes)
  pub starts : Starts task lines given
  pub meant : IsMeant (profile_by task.appends) lines task.stdin.now given answer

-- why there is none: the run can't begin, or failed
pub data IsPlainFault (task : Task) : EmbedFault → Type 0 where
  no_start : {fault : _} → IsStartFault task fault → IsPlainFault task (Start fault)
  no_run : {fault : EmbedFault} (lines : List ScriptLine) (given : List (Name × Bytes)) → Starts task lines given → IsMeaningFault (profile_by task.appends) lines task.stdin.now given fault → IsPlainFault task fault
