-- A redirection that opens its file, a step under one, and its end keep its final value.
use Rattle.std.proofs.Common.{◌≡◌, ℕ, Bool, true, false, [], ◌++◌, Option, Some, None, length, drop, refl, sym, ap, ◌∙◌, subst, append-nil, append_assoc}
use Rattle.std.specs.Prelude.{if◌then◌else◌}
use Rattle.std.proofs.Math.Seq.{drop-nil}
use Rattle.sh_tree.specs.declared.tree.Mode.{Mode}
use Rattle.sh_tree.specs.declared.tree.Mode.TheVariants.{Input, Fresh, Over}
use Rattle.sh_tree.specs.Tree.{Tree, redir}
use Rattle.mem_files.specs.Name.{is_openable}
use Rattle.mem_files.specs.Overlay.{written}
use Rattle.mem_files.proofs.Overlays.{written_start, written_end, written_none, written_twice}
use Rattle.conflict_check.specs.Names.{names, writes}
use Rattle.script_load.specs.declared.profile.Profile.TheVariants.{Xv6, Append}
use Rattle.meaning_model.specs.Inputs.{found}
use Rattle.prog_parts.specs.NameSets.{no_names}
use Rattle.meaning_model.specs.Met.{input_met, met_names}
use Rattle.meaning_model.specs.Value.{from_value}
use Rattle.meaning_model.specs.Meaning.{input_value, output_value, opened, over_end, at_end, written_value, meaning}
use Rattle.law_trees.proofs.programs.Keeps.{found_is}
use Rattle.tree_model.specs.Residual.{Residual, done, unopened, from, into, Position, at_byte, at_file_end, byte_in, moved_on, left_names, left_writes}
use Rattle.tree_model.specs.Begin.{over_start, start_at, open_from, open_into, opens_file}
use Rattle.tree_model.specs.Rules.{patch, patched}
use Rattle.tree_model.specs.Step.{from_end, into_end}
use Rattle.tree_model.specs.Final.{patch_value, final, left_met}
use Rattle.tree_model.specs.Tidy.{HasShortCommands, IsTidyTree, IsTidy}
use Rattle.law_trees.proofs.trees.Bools.{not_both}
use Rattle.law_trees.proofs.trees.Frame.{tidy_agree, only, frame}
use Rattle.law_trees.proofs.trees.Joins.{keeps_refl}
use Rattle.law_trees.proofs.trees.Parts.{patched_other}
use Rattle.law_trees.proofs.trees.StepFrame.{tree_named, named}
use Rattle.law_trees.proofs.trees.TreeFrame.{tree_only}
use Rattle.law_trees.proofs.trees.Values.{Alike, Keeps, KeepsLeft}
use Rattle.std.specs.Str.{bytes_eq}
use Rattle.std.proofs.lemmas.Bool.{false_from_ne_true, cond-false, cond-true}
use Rattle.mem_files.specs.Name.{Name, Bytes}
use Rattle.mem_files.specs.Files.{FileMap, bytes_of}
use Rattle.script_load.specs.declared.profile.Profile.{Profile}
use Rattle.meaning_model.specs.Value.{Value}
use Rattle.law_trees.proofs.programs.Giving.{same_name}

patch_twice : (o : Option Bytes) (at : Position) (w x : Bytes) → patch o at (w ++ x) ≡ patch (patch o at w) (moved_on at (length w)) x
patch_twice None at w x = refl
patch_twice (Some b) (at_byte n) w x = ap Some (sym (written_twice b n w x))
patch_twice (Some b) at_file_end w x =
    let whole : written b (length b) (w ++ x) ≡ (b ++ w) ++ x = written_end b (w ++ x) ∙ sym (append_assoc b w x) in
    let parts : written (written b (length b) w) (length (written b (length b) w)) x ≡ (b ++ w) ++ x = ap (λ z. written z (length z) x) (written_end b w) ∙ written_end (b ++ w) x in
    ap Some (whole ∙ sym parts)

cond_same : (t : Bool) (x y : Option Bytes) → x ≡ y → (if t then x else y) ≡ y
cond_same true x y e = e
cond_same false x y e = refl

patch_none : (o : Option Bytes) (at : Position) → patch o at [] ≡ o
patch_none None at = refl
patch_none (Some b) at = ap Some (written_none b (byte_in at b))

-- a redirection of the output
abbrev IsOut : Mode → Type 0
IsOut Input = ⊥
IsOut Fresh = Unit {0}
IsOut Over = Unit {0}

-- >> ends as its profile says: over the file's beginning, or behind its end
over_self : (profile : Profile) (held b : Bytes) → over_end profile held b ≡ written held (byte_in (over_start profile) held) b
over_self Xv6 held b = sym (written_start held b)
over_self Append held b = sym (written_end held b)

module _ (profile : Profile) where
  -- the file as it was opened holds at the end what the meaning says
  opened_self : (m : Mode) (F : FileMap) (f n : Name) → IsOut m → bytes_eq n f ≡ true → (b : Bytes) → Some (at_end profile m (bytes_of (F f)) b) ≡ patch (opened m f F n) (start_at profile m) b
  opened_self Input F f n out e b = absurd out
  opened_self Fresh F f n out e b =
      let o : opened Fresh f F n ≡ Some [] = cond-true (bytes_eq n f) (Some []) (F n) e in
      ap Some (sym (written_start [] b ∙ ap (λ x. b ++ x) (drop-nil (length b)) ∙ append-nil b)) ∙ sym (ap (λ x. patch x (at_byte 0) b) o)
  opened_self Over F f n out e b =
      let o : opened Over f F n ≡ Some (bytes_of (F f)) = cond-true (bytes_eq n f) (Some (bytes_of (F f))) (F n) e in
      ap Some (over_self profile (bytes_of (F f)) b) ∙ sym (ap (λ x. patch x (over_start profile) b) o)

  open_kept : (m : Mode) (f : Name) (T : Tree) (i : Bytes) (F : FileMap) → IsOut m → HasShortCommands T → names T f ≡ false → ((n : Name) → met_names profile T i (opened m f F) n ≡ false) → Keeps [] (written_value profile m f F (meaning profile T i (opened m f F))) (patch_value f (start_at profile m) (meaning profile T i (opened m f F))) (met_names profile T i (opened m f F))
  open_kept m f T i F out s nf b = record {
    out = refl;
    files = record { at = λ n e. go n (bytes_eq n f) refl };
    rest = λ e. refl;
    loose = λ e. e;
    soft = λ n e. e;
    met = b;
  }
    where
      u : Value
      u = meaning profile T i (opened m f F)

      go : (n : Name) (t : Bool) → bytes_eq n f ≡ t → (if bytes_eq n f then Some (at_end profile m (bytes_of (F f)) u.out) else u.files n) ≡ (if bytes_eq n f then patch (u.files n) (start_at profile m) u.out else u.files n)
      go n false e = cond-false (bytes_eq n f) (Some (at_end profile m (bytes_of (F f)) u.out)) (u.files n) e ∙ sym (cond-false (bytes_eq n f) (patch (u.files n) (start_at profile m) u.out) (u.files n) e)
      go n true e =
          let nf' : n ≡ f = same_name n f e in
          let un : writes T n ≡ false = tree_named T n (subst (λ x. names T x ≡ false) (sym nf') nf) in
          let fs : u.files n ≡ opened m f F n = tree_only profile T i (opened m f F) n s un in
          cond-true (bytes_eq n f) (Some (at_end profile m (bytes_of (F f)) u.out)) (u.files n) e ∙ opened_self m F f n out e u.out ∙ ap (λ x. patch x (start_at profile m) u.out) (sym fs) ∙ sym (cond-true (bytes_eq n f) (patch (u.files n) (start_at profile m) u.out) (u.files n) e)

  pub into_kept : (X : Residual) (f : Name) (at : Position) (w i j : Bytes) (F M : FileMap) (X' : Residual) → IsTidy X F → IsTidy X' M → left_names X f ≡ false → left_names X' f ≡ false → ((n : Name) → left_writes X n ≡ false → M n ≡ F n) → KeepsLeft profile w X i F X' j M → KeepsLeft profile [] (into f at X) i F (into f (moved_on at (length w)) X') j (patched M f at w)
  into_kept X f at w i j F M X' d d' nf nf' mf k = record {
    out = refl;
    files = record { at = λ n e. go n e (bytes_eq n f) refl };
    rest = λ e. k.rest e ∙ a.rest;
    loose = λ e. sym a.loose ∙ k.loose e;
    soft = λ n e. sym (ap (λ s. s n) a.soft) ∙ k.soft n e;
    met = λ n. sym (ap (λ s. s n) a.met) ∙ k.met n;
  }
    where
      G : FileMap
      G = patched M f at w

      v : Value
      v = final profile X i F

      v' : Value
      v' = final profile X' j M

      v2 : Value
      v2 = final profile X' j (patched M f at w)

      unnamed : (n : Name) → left_names X' n ≡ true → bytes_eq n f ≡ false
      unnamed n e = false_from_ne_true (bytes_eq n f) (λ g. not_both (left_names X' f) (subst (λ x. left_names X' x ≡ true) (same_name n f g) e) nf')

      a : Alike (λ n. bytes_eq n f ≡ false) (final profile X' j M) (final profile X' j (patched M f at w)) (left_met profile X' j M) (left_met profile X' j (patched M f at w))
      a = frame profile (λ n. bytes_eq n f ≡ false) X' j M (patched M f at w) d' unnamed (record { at = λ n e. sym (patched_other M f n at w e) })

      d2 : IsTidy X' (patched M f at w)
      d2 = tidy_agree X' M (patched M f at w) (λ n e. sym (patched_other M f n at w (unnamed n e))) d'

      go : (n : Name) → v.soft n ≡ false → (t : Bool) → bytes_eq n f ≡ t → (if bytes_eq n f then patch (v.files n) at v.out else v.files n) ≡ (if bytes_eq n f then patch (v2.files n) (moved_on at (length w)) v2.out else v2.files n)
      go n s false e =
          cond-false (bytes_eq n f) (patch (v.files n) at v.out) (v.files n) e ∙ k.files.at n s ∙ a.files.at n e ∙ sym (cond-false (bytes_eq n f) (patch (v2.files n) (moved_on at (length w)) v2.out) (v2.files n) e)
      go n s true e =
          let g : n ≡ f = same_name n f e in
          let un : left_writes X n ≡ false = named X n (subst (λ x. left_names X x ≡ false) (sym g) nf) in
          let un' : left_writes X' n ≡ false = named X' n (subst (λ x. left_names X' x ≡ false) (sym g) nf') in
          let first : v.files n ≡ F n = only profile X i F n d un in
          let second : v2.files n ≡ patch (F n) at w = only profile X' j (patched M f at w) n d2 un' ∙ cond-true (bytes_eq n f) (patch (M n) at w) (M n) e ∙ ap (λ x. patch x at w) (mf n un) in
          let o : v.out ≡ w ++ v2.out = k.out ∙ ap (λ x. w ++ x) a.out in
          cond-true (bytes_eq n f) (patch (v.files n) at v.out) (v.files n) e ∙ (λ t. patch (first t) at (o t)) ∙ patch_twice (F n) at w v2.out ∙ ap (λ x. patch x (moved_on at (length w)) v2.out) (sym second) ∙ sym (cond-true (bytes_eq n f) (patch (v2.files n) (moved_on at (length w)) v2.out) (v2.files n) e)

  pub from_ends : (f : Name) (at : ℕ) (X : Residual) (i : Bytes) (F : FileMap) → ((n : Name) → left_met profile (from f at X) i F n ≡ false) → KeepsLeft profile [] (from f at X) i F (from_end f at X) i F
  from_ends f at done i F b = keeps_refl _ b
  from_ends f at X i F b = keeps_refl _ b

  pub into_ends : (f : Name) (at : Position) (X : Residual) (i : Bytes) (F : FileMap) → ((n : Name) → left_met profile (into f at X) i F n ≡ false) → KeepsLeft profile [] (into f at X) i F (into_end f at X) i F
  into_ends f at done i F b = record { out = refl; files = record { at = λ n e. cond_same (bytes_eq n f) (patch (F n) at []) (F n) (patch_none (F n) at) }; rest = λ e. refl; loose = λ e. refl; soft = λ n e. refl; met = λ n. refl }
  into_ends f at X i F b = keeps_refl _ b

  input_kept : (x : Option Bytes) (f : Name) (T : Tree) (i : Bytes) (F : FileMap) → found F f ≡ x → ((n : Name) → input_met x (λ b. met_names profile T b F) n ≡ false) → Keeps [] (input_value x i F (λ b. meaning profile T b F)) (final profile (open_from x f T F).next i (open_from x f T F).files) (left_met profile (open_from x f T F).next i (open_from x f T F).files)
  input_kept None f T i F e b = keeps_refl _ b
  input_kept (Some y) f T i F e b =
      let R : Bytes → Type 0 = λ z. Keeps [] (from_value i (meaning profile T y F)) (from_value i (meaning profile T (drop 0 z) F)) (met_names profile T (drop 0 z) F) in
      subst R (sym (ap bytes_of (found_is F f y e))) (keeps_refl (from_value i (meaning profile T y F)) b)

  output_kept : (o : Bool) (m : Mode) (f : Name) (T : Tree) (i : Bytes) (F : FileMap) → IsOut m → HasShortCommands T → names T f ≡ false → ((n : Name) → (if o then met_names profile T i (opened m f F) else no_names) n ≡ false) → Keeps [] (output_value o i F (written_value profile m f F (meaning profile T i (opened m f F)))) (final profile (open_into profile o m f T F).next i (open_into profile o m f T F).files) (left_met profile (open_into profile o m f T F).next i (open_into profile o m f T F).files)
  output_kept false m f T i F out s nf b = keeps_refl _ b
  output_kept true m f T i F out s nf b = open_kept m f T i F out s nf b

  -- a redirection opens its file
  pub opens_kept : (m : Mode) (f : Name) (T : Tree) (i : Bytes) (F : FileMap) → IsTidyTree (redir m f T) → ((n : Name) → met_names profile (redir m f T) i F n ≡ false) → KeepsLeft profile [] (unopened m f T) i F (opens_file profile m f T F).next i (opens_file profile m f T F).files
  opens_kept Input f T i F h b = input_kept (found F f) f T i F refl b
  opens_kept Fresh f T i F h b = output_kept (is_openable f) Fresh f T i F tt h.1 h.0.0 b
  opens_kept Over f T i F h b = output_kept (is_openable f) Over f T i F tt h.1 h.0.0 b
