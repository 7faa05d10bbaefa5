-- A run of a settled script has no more steps than its number, and goes on until it has given the meaning.
use Rattle.std.proofs.Common.{◌≡◌, ◌⊎◌, inl, inr, ◌≤◌, List, arith}
use Rattle.mem_files.specs.Files.{FileMap}
use Rattle.mem_files.specs.Name.{Bytes}
use Rattle.script_load.specs.declared.profile.Profile.{Profile}
use Rattle.script_load.specs.Line.{ScriptLine}
use Rattle.meaning_model.specs.Meaning.{script_meaning, script_tree}
use Rattle.meaning_model.specs.Settled.{IsSettledScript}
use Rattle.tree_model.specs.Residual.{done}
use Rattle.tree_model.specs.Runs.{Agrees, Goes, Reaches, Stage, first_stage}
use Rattle.tree_model.specs.Tidy.{HasShortCommands}
use Rattle.law_trees.proofs.trees.OneAnswer.{reaches_way, first_way, done_agrees}
use Rattle.law_trees.proofs.trees.Progress.{IsSound, Next, next, sound}
use Rattle.tree_model.specs.Bound.{most_steps}
use Rattle.tree_model.specs.Ends.{steps_of}
use Rattle.law_trees.proofs.tree_ends.Ending.{bounded}

pub gives_meaning : (profile : Profile) (lines : List ScriptLine) (input : Bytes) (F : FileMap) (last : Stage) → IsSettledScript profile lines input F → HasShortCommands (script_tree lines) →
    (run : Reaches profile (first_stage (script_tree lines) input F) last) →
    (steps_of run ≤ most_steps lines input F) × (((last.left ≡ done) × Agrees last (script_meaning profile lines input F)) ⊎ ((next : Stage) × Goes profile last next))
gives_meaning profile lines input F last settled short run = (omega (arith, (bounded profile run first).steps), go (next profile last (sound profile run first)))
  where
    first : IsSound profile (first_stage (script_tree lines) input F)
    first = ((settled.1, short), settled.0)

    go : Next profile last → ((last.left ≡ done) × Agrees last (script_meaning profile lines input F)) ⊎ ((next : Stage) × Goes profile last next)
    go (inl e) = inl (e, done_agrees profile (script_meaning profile lines input F) last (reaches_way profile (script_meaning profile lines input F) run (first_way profile lines input F settled short)) e)
    go (inr on) = inr on
