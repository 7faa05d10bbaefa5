-- Runs of a script in which no pipe is cut: each gives the whole meaning, and in none is a write refused.
use Rattle.std.proofs.Common.{◌≡◌, ◌∙◌, true, false, List, [], ◌++◌, drop, refl, sym, ap, subst, append-nil}
use Rattle.std.proofs.lemmas.Bool.{false_from_ne_true}
use Rattle.mem_files.specs.Name.{Bytes}
use Rattle.mem_files.specs.Files.{FileMap}
use Rattle.prog_parts.specs.NameSets.{no_names}
use Rattle.script_load.specs.declared.profile.Profile.{Profile}
use Rattle.script_load.specs.Line.{ScriptLine}
use Rattle.meaning_model.specs.Meaning.{script_tree, script_meaning}
use Rattle.meaning_model.specs.Settled.{IsSettledScript}
use Rattle.tree_model.specs.Residual.{Residual, done}
use Rattle.tree_model.specs.Step.{Move, step}
use Rattle.tree_model.specs.Runs.{Stage, first_stage, Goes, Reaches, reached, goes_on, Agrees}
use Rattle.tree_model.specs.Tidy.{HasShortCommands, IsTidy}
use Rattle.tree_model.specs.Uncut.{IsUncutScript, AgreesWholly, has_lost}
use Rattle.law_trees.proofs.trees.Bools.{not_both}
use Rattle.law_trees.proofs.trees.Chosen.{chosen}
use Rattle.law_trees.proofs.trees.OneAnswer.{reaches_way, first_way, done_agrees}
use Rattle.law_trees.proofs.trees.Progress.{after}
use Rattle.law_trees.proofs.trees.Smaller.{refused_closed}
use Rattle.law_trees.proofs.trees.Uncut.{uncut_firm, uncut_settled}
use Rattle.law_trees.proofs.trees.UncutFrame.{IsUncutLeft}
use Rattle.law_trees.proofs.trees.UncutKept.{step_uncut, uncut_lost}

module _ (profile : Profile) where
  -- along a run
  record IsUncutStage (x : Stage) : Type 0 where
    pub tidy : IsTidy x.left x.files
    pub uncut : IsUncutLeft profile x.left x.input x.files

  goes_uncut : (x y : Stage) → Goes profile x y → IsUncutStage x → IsUncutStage y
  goes_uncut x y g h =
      let a = chosen profile false true x.input g.steps g.met in
      let m = step profile x.left a.0 false true x.input x.files in
      let u = step_uncut profile x.left a.0 false true x.input [] x.files h.tidy (λ e. refl) (false_from_ne_true m.refused (λ e. not_both false (refused_closed profile x.left a.0 false true x.input x.files e) refl))
      (subst (λ j. IsUncutLeft profile x.left j x.files) (sym (append-nil x.input)) h.uncut) in
      let whole : drop m.took x.input ++ [] ≡ y.input = append-nil (drop m.took x.input) ∙ ap (λ (k : Move Residual). drop k.took x.input) a.1 ∙ sym g.input in
      record {
        tidy = (after profile g.label g.steps h.tidy).tidy;
        uncut = subst (λ (k : Move Residual). IsUncutLeft profile k.next y.input k.files) a.1 (subst (λ j. IsUncutLeft profile m.next j m.files) whole u);
      }

  reaches_uncut : {x z : Stage} → Reaches profile x z → IsUncutStage x → IsUncutStage z
  reaches_uncut reached h = h
  reaches_uncut (goes_on {stage = x} {next = y} g r) h = reaches_uncut r (goes_uncut x y g h)

  pub settled_script : (lines : List ScriptLine) (i : Bytes) (F : FileMap) → IsUncutScript profile lines i F → IsSettledScript profile lines i F
  settled_script lines i F h = (h.0, h.1, uncut_settled profile (script_tree lines) no_names i F h.2)

  pub none_lost : (lines : List ScriptLine) (i : Bytes) (F : FileMap) (last : Stage) → IsUncutScript profile lines i F → HasShortCommands (script_tree lines) → Reaches profile (first_stage (script_tree lines) i F) last → has_lost last.left ≡ false
  none_lost lines i F last h short run =
      let u = reaches_uncut run (record { tidy = (h.1, short); uncut = h.2 }) in
      uncut_lost profile last.left last.input last.files u.uncut

  pub wholly : (lines : List ScriptLine) (i : Bytes) (F : FileMap) (last : Stage) → IsUncutScript profile lines i F → HasShortCommands (script_tree lines) → Reaches profile (first_stage (script_tree lines) i F) last → last.left ≡ done → AgreesWholly last (script_meaning profile lines i F)
  wholly lines i F last h short run ends =
      let v = script_meaning profile lines i F in
      let firm = uncut_firm profile (script_tree lines) i F h.2 in
      let a : Agrees last v = done_agrees profile v last (reaches_way profile v run (first_way profile lines i F (settled_script lines i F h) short)) ends in
      record { out = a.out; files = λ n. a.files n (firm.soft n); rest = a.rest firm.loose }
