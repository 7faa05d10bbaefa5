-- Whole runs: each step keeps what was written so far followed by what is still to come, so what is done agrees with the
-- recursive meaning.
use Rattle.std.proofs.Common.{◌≡◌, true, false, List, [], ◌∷◌, ◌++◌, drop, refl, sym, ap, ◌∙◌, subst, append_assoc, append-nil}
use mathlib.Core.Path.{transport}
use Rattle.std.proofs.lemmas.Bool.{false_from_ne_true}
use Rattle.mem_files.specs.Name.{Bytes}
use Rattle.mem_files.specs.Files.{FileMap}
use Rattle.prog_parts.specs.NameSets.{Names, no_names}
use Rattle.script_load.specs.declared.profile.Profile.{Profile}
use Rattle.script_load.specs.Line.{ScriptLine}
use Rattle.meaning_model.specs.Value.{Value, nothing}
use Rattle.meaning_model.specs.Meaning.{script_tree, script_meaning}
use Rattle.meaning_model.specs.Settled.{IsSettledScript}
use Rattle.meaning_model.proofs.NothingMet.{meets_nothing}
use Rattle.tree_model.specs.Residual.{done}
use Rattle.tree_model.specs.Step.{Choice, step}
use Rattle.tree_model.specs.Final.{final, left_met}
use Rattle.tree_model.specs.Tidy.{HasShortCommands}
use Rattle.tree_model.specs.Runs.{Stage, first_stage, Goes, Reaches, reached, goes_on, next_stage, after_steps, IsOnWay, Agrees}
use Rattle.law_trees.proofs.trees.Bools.{not_both}
use Rattle.law_trees.proofs.trees.Chosen.{chosen}
use Rattle.law_trees.proofs.trees.Joins.{keeps_refl}
use Rattle.law_trees.proofs.trees.Keep.{keeps}
use Rattle.law_trees.proofs.trees.Smaller.{refused_closed}
use Rattle.law_trees.proofs.trees.StepTidy.{step_tidy}
use Rattle.law_trees.proofs.trees.Values.{Keeps, KeepsLeft}

keeps_on : (a b : Bytes) (u v w : Value) {m k : Names} → Keeps a u v m → Keeps b v w k → Keeps (a ++ b) u w k
keeps_on a b u v w k l = record {
  out = k.out ∙ ap (λ x. a ++ x) l.out ∙ sym (append_assoc a b w.out);
  files = record { at = λ n e. k.files.at n e ∙ l.files.at n (k.soft n e) };
  rest = λ e. k.rest e ∙ l.rest (k.loose e);
  loose = λ e. l.loose (k.loose e);
  soft = λ n e. l.soft n (k.soft n e);
  met = l.met;
}

module _ (profile : Profile) where
  -- steps by choices
  pub next_on : (v : Value) (x : Stage) (c : Choice) → IsOnWay profile v x → IsOnWay profile v (next_stage profile x c)
  next_on v x c h =
      let m = step profile x.left c false true x.input x.files in
      let whole = append-nil x.input in
      let k = keeps profile x.left c false true x.input [] x.files h.tidy (λ e. refl) (λ n. ap (λ j. left_met profile x.left j x.files n) whole ∙ h.kept.met n)
      (false_from_ne_true m.refused (λ e. not_both false (refused_closed profile x.left c false true x.input x.files e) refl)) in
      let k2 : KeepsLeft profile m.wrote x.left x.input x.files m.next (drop m.took x.input) m.files =
      transport (λ z. KeepsLeft profile m.wrote x.left (whole z) x.files m.next (append-nil (drop m.took x.input) z) m.files) k in
      record { tidy = step_tidy profile x.left c false true x.input x.files h.tidy; kept = keeps_on x.out m.wrote v _ _ h.kept k2 }

  pub run_on : (v : Value) (cs : List Choice) (x : Stage) → IsOnWay profile v x → IsOnWay profile v (after_steps profile cs x)
  run_on v [] x h = h
  run_on v (c ∷ cs) x h = run_on v cs (next_stage profile x c) (next_on v x c h)

  -- steps by rules
  pub goes_way : (v : Value) (x y : Stage) → Goes profile x y → IsOnWay profile v x → IsOnWay profile v y
  goes_way v x y g h =
      let a = chosen profile false true x.input g.steps g.met in
      let here : next_stage profile x a.0 ≡ y =
      λ t. record { left = (a.1 t).next; input = (ap (λ m. drop m.took x.input) a.1 ∙ sym g.input) t; out = (ap (λ m. x.out ++ m.wrote) a.1 ∙ sym g.out) t; files = (a.1 t).files } in
      subst (IsOnWay profile v) here (next_on v x a.0 h)

  pub reaches_way : (v : Value) {x z : Stage} → Reaches profile x z → IsOnWay profile v x → IsOnWay profile v z
  reaches_way v reached h = h
  reaches_way v (goes_on {stage = x} {next = y} g r) h = reaches_way v r (goes_way v x y g h)

  -- a settled script is on its way from the first stage on, and what is done agrees with its meaning
  pub first_way : (lines : List ScriptLine) (i : Bytes) (F : FileMap) → IsSettledScript profile lines i F → HasShortCommands (script_tree lines) → IsOnWay profile (script_meaning profile lines i F) (first_stage (script_tree lines) i F)
  first_way lines i F settled short =
      record { tidy = (settled.1, short); kept = keeps_refl (script_meaning profile lines i F) ((meets_nothing profile (script_tree lines) no_names i F settled.2).met) }

  pub done_agrees : (v : Value) (x : Stage) → IsOnWay profile v x → x.left ≡ done → Agrees x v
  done_agrees v x h ends =
      let k : Keeps x.out v (nothing x.input x.files) no_names = subst (λ r. Keeps x.out v (final profile r x.input x.files) (left_met profile r x.input x.files)) ends h.kept in
      record { out = sym (k.out ∙ append-nil x.out); files = λ n e. sym (k.files.at n e); rest = λ e. sym (k.rest e) }
