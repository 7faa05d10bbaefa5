-- A finished run of a settled script prints the script's meaning.
use Rattle.std.proofs.Common.{◌≡◌, ◌⊎◌, inl, inr, Bool, List, Option, Some, None, sym, ap, ◌∙◌, append-nil}
use Rattle.std.specs.Borrow.{Bor}
use Rattle.mem_files.specs.Name.{Name, Bytes}
use Rattle.mem_files.specs.Files.{files}
use Rattle.mem_files.specs.Listing.{AreFiles}
use Rattle.script_load.specs.declared.profile.Profile.{Profile}
use Rattle.script_load.specs.Line.{ScriptLine}
use Rattle.meaning_model.specs.Meaning.{script_tree, script_meaning}
use Rattle.meaning_model.specs.Settled.{IsSettledScript}
use Rattle.tree_model.specs.Tidy.{HasShortCommands}
use Rattle.law_trees.proofs.trees.Short.{script_short}
use Rattle.sh_machine.specs.State.{init, shell, top}
use Rattle.sh_machine.specs.Turn.{call_of, next_of}
use Rattle.sh_machine.specs.declared.state.Phase.TheVariants.{Starts as Begins}
use Rattle.kernel_model.specs.declared.events.Event.{Event}
use Rattle.law_kernel.proofs.kernel.SoundRuns.{every_run_has_files}
use Rattle.law_runs.proofs.standing.RunsEnd.{finished_means}
use Rattle.run_model.specs.ScriptRun.{script_kernel}
use Rattle.kernel_model.specs.declared.events.Full.{Full}
use Rattle.kernel_model.specs.declared.events.Full.TheVariants.{Memory}
use Rattle.room_model.specs.Roomy.{IsRoomyScript}
use Rattle.law_runs.proofs.room.Roomy.{only_memory}
use Rattle.xvsh_read.specs.Path.{Path}
use Rattle.xvsh_read.specs.Starting.{Starts}
use Rattle.xvsh_runs.specs.Lists.{Prints, run_text}
use Rattle.xvsh_runs.specs.declared.report.Lists.{Lists}
use Rattle.law_answers.specs.Written.{IsValueText}

module _ (profile : Profile) (lines : List ScriptLine) (stdin : Bytes) (given : List (Name × Bytes)) (settled : IsSettledScript profile lines stdin (files given)) (events : List Event) (lists : Lists) (text diag : Bytes) (gave : Prints (script_kernel profile lines stdin given) events lists None text diag) where
  value_text : AreFiles given → HasShortCommands (script_tree lines) → IsValueText (script_meaning profile lines stdin (files given)) lists events text
  value_text are short =
      let value = script_meaning profile lines stdin (files given) in
      let first = shell profile (top Begins lines) in
      let agrees = finished_means profile lines stdin given events gave.notes gave.last are settled short gave.runs (sym gave.marked) gave.finished in
      let prints : text ≡ run_text lists value.out gave.last.files events = gave.prints ∙ ap (λ out. run_text lists out gave.last.files events) agrees.out in
      record {
        left = gave.last.files;
        are = every_run_has_files call_of next_of init first stdin given events gave.notes gave.last are gave.runs;
        same = agrees.files;
        prints = prints;
        alone = λ none. prints ∙ ap (λ l. run_text l value.out gave.last.files events) none ∙ append-nil value.out;
      }

  -- whatever the host states, and whether standard input was taken before
  pub means : (input : Option Bytes) (file : Path → Option Bytes) (is_taken : Bool) (script : Path) (paths : List (Bor Path)) → Starts input file is_taken script paths lines given stdin → IsValueText (script_meaning profile lines stdin (files given)) lists events text
  means input file is_taken script paths starts = value_text starts.are (script_short starts.loaded.bytes lines starts.loaded.cut)

-- where the script also has room, nothing but memory was full
pub only_memory_was_full : (profile : Profile) (lines : List ScriptLine) (stdin : Bytes) (given : List (Name × Bytes)) → IsSettledScript profile lines stdin (files given) → IsRoomyScript lines stdin given
    → (events : List Event) (lists : Lists) (full : Option Full) (text diag : Bytes) → Prints (script_kernel profile lines stdin given) events lists full text diag
    → (input : Option Bytes) (file : Path → Option Bytes) (is_taken : Bool) (script : Path) (paths : List (Bor Path)) → Starts input file is_taken script paths lines given stdin → (full ≡ None) ⊎ (full ≡ Some Memory)
only_memory_was_full profile lines stdin given settled roomy events lists full text diag gave input file is_taken script paths starts =
    by (only_memory profile lines stdin given starts.are roomy events gave.notes gave.last gave.runs (record { no_back = settled.0; clear = settled.1; short = script_short starts.loaded.bytes lines starts.loaded.cut }))
  where
    by : (gave.last.full ≡ None) ⊎ (gave.last.full ≡ Some Memory) → (full ≡ None) ⊎ (full ≡ Some Memory)
    by (inl none) = inl (gave.marked ∙ none)
    by (inr memory) = inr (gave.marked ∙ memory)
