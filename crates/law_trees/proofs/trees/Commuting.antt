-- A step of the left side of a pipe and then one of its right side give the same files in the other order.
use Rattle.std.proofs.Common.{◌≡◌, ◌∙◌, Bool, true, false, refl, sym, subst}
use mathlib.Core.Path.{fun_ext}
use Rattle.mem_files.specs.Name.{Name, Bytes}
use Rattle.mem_files.specs.Files.{FileMap}
use Rattle.script_load.specs.declared.profile.Profile.{Profile}
use Rattle.tree_model.specs.Residual.{Residual, piped, left_names, left_writes}
use Rattle.tree_model.specs.Rules.{Label, silent, Steps}
use Rattle.tree_model.specs.Rules.Steps.{left_silent, right_silent}
use Rattle.tree_model.specs.AsksItsOwn.{AsksItsOwn}
use Rattle.law_trees.proofs.trees.Progress.{rule_only}
use Rattle.law_trees.proofs.trees.RuleFrame.{Elsewhere, elsewhere}
use Rattle.law_trees.proofs.trees.StepFrame.{named}
use Rattle.meaning_model.proofs.Bools.{apart}

module _ (profile : Profile) where
  pub commute : (X X' Y Y' : Residual) (F G H : FileMap) (l m : Label) → AsksItsOwn X → AsksItsOwn Y →
      ((n : Name) → left_writes X n ≡ true → left_names Y n ≡ false) → ((n : Name) → left_writes Y n ≡ true → left_names X n ≡ false) →
      Steps profile X F l X' G → Steps profile Y G m Y' H → (K : FileMap) × Steps profile Y F m Y' K × Steps profile X K l X' H
  commute X X' Y Y' F G H l m dx dy xy yx s t = (y.files, y.steps, subst (λ (z : FileMap). Steps profile X y.files l X' z) same x.steps)
    where
      left : (n : Name) → left_writes X n ≡ false → G n ≡ F n
      left = rule_only profile l s dx

      -- the right side's names are as they were after the left side's step
      quiet : (n : Name) → left_names Y n ≡ true → G n ≡ F n
      quiet n e = left n (apart (left_writes X n) (left_names Y n) (xy n) e)

      right : (n : Name) → left_writes Y n ≡ false → H n ≡ G n
      right = rule_only profile m t dy

      y : Elsewhere profile (λ n. left_names Y n ≡ true) Y F m Y' H
      y = elsewhere profile (λ n. left_names Y n ≡ true) F t dy (λ n e. e) (record { at = quiet })

      first : (n : Name) → left_writes Y n ≡ false → y.files n ≡ F n
      first = rule_only profile m y.steps dy

      still : (n : Name) → left_names X n ≡ true → F n ≡ y.files n
      still n e = sym (first n (apart (left_writes Y n) (left_names X n) (yx n) e))

      x : Elsewhere profile (λ n. left_names X n ≡ true) X y.files l X' G
      x = elsewhere profile (λ n. left_names X n ≡ true) y.files s dx (λ n e. e) (record { at = still })

      second : (n : Name) → left_writes X n ≡ false → x.files n ≡ y.files n
      second = rule_only profile l x.steps dx

      by_right : (n : Name) → left_writes X n ≡ false → (b : Bool) → left_names Y n ≡ b → y.files n ≡ H n
      by_right n e true is = sym (y.alike.at n is)
      by_right n e false is = first n (named Y n is) ∙ sym (left n e) ∙ sym (right n (named Y n is))

      is_named : (n : Name) → left_writes X n ≡ true → (b : Bool) → left_names X n ≡ b → left_names X n ≡ true
      is_named n e true is = is
      is_named n e false is = let never : true ≡ false = sym e ∙ named X n is in cc

      at : (n : Name) (b : Bool) → left_writes X n ≡ b → x.files n ≡ H n
      at n true e = sym (x.alike.at n (is_named n e (left_names X n) refl)) ∙ sym (right n (named Y n (xy n e)))
      at n false e = second n e ∙ by_right n e (left_names Y n) refl

      same : x.files ≡ H
      same = fun_ext (λ n. at n (left_writes X n) refl)

  pub pipe_commutes : (lost : Bool) (q : Bytes) (X X' Y Y' : Residual) (F G H : FileMap) → AsksItsOwn X → AsksItsOwn Y →
      ((n : Name) → left_writes X n ≡ true → left_names Y n ≡ false) → ((n : Name) → left_writes Y n ≡ true → left_names X n ≡ false) →
      Steps profile X F silent X' G → Steps profile Y G silent Y' H →
      (K : FileMap) × Steps profile (piped lost X q Y) F silent (piped lost X q Y') K × Steps profile (piped lost X q Y') K silent (piped lost X' q Y') H
  pipe_commutes lost q X X' Y Y' F G H dx dy xy yx s t =
      let c = commute X X' Y Y' F G H silent silent dx dy xy yx s t in
      (c.0, right_silent c.1, left_silent c.2)
