-- Where the tree machine begins for a run of a script, and when a run has left what its script means.
use Rattle.mem_files.specs.Files.{files}
use Rattle.meaning_model.specs.Meaning.{script_tree}
use Rattle.tree_model.specs.Residual.{done}
use Rattle.tree_model.specs.Runs.{Agrees, Stage, first_stage}
use Rattle.run_model.specs.ScriptRun.{ScriptRun, meaning_of}

-- the whole script is left to do, on the input and the files of the run
abbrev pub begin_of : ScriptRun → Stage
begin_of r = first_stage (script_tree r.lines) r.input (files r.files)

-- the output, the files but for soft names, and what is left of the input unless that is loose, are those of the meaning
abbrev pub HasMeaning : ScriptRun → Type 0
HasMeaning r = Agrees (record { left = done; input = r.last.input; out = r.last.out; files = files r.last.files }) (meaning_of r)
