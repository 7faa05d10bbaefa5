-- Lines one after the other: what was done so far, and what the lines that are left make of it, is the whole.
use Rattle.std.proofs.Common.{◌≡◌, Bool, true, false, ◌||◌, ap₂, ℕ, ◌+◌, ◌<◌, ◌≤◌, List, [], ◌∷◌, ◌++◌, length, drop, get_or, drop-cons, add-one, refl, sym, ◌∙◌, ap, subst, inl}
use Rattle.std.specs.Prelude.{map}
use Rattle.std.proofs.lemmas.List.{append-nil, drop_all}
use Rattle.sh_tree.specs.Tree.{list}
use Rattle.mem_files.specs.Name.{Name, Bytes}
use Rattle.prog_parts.specs.NameSets.{among}
use Rattle.mem_files.specs.Files.{FileMap}
use Rattle.script_load.specs.declared.line.Line.{Line}
use Rattle.meaning_model.specs.Limits.{Outgrows}
use Rattle.script_load.specs.Line.{ScriptLine, line_of}
use Rattle.script_load.specs.declared.profile.Profile.{Profile}
use Rattle.meaning_model.specs.Meaning.{meaning, line_tree, script_tree}
use Rattle.plain_run.specs.declared.fault.PlainFault.{PlainFault}
use Rattle.plain_run.specs.Gives.{Gives, IsDue}
use Rattle.plain_run.specs.Tells.{Tells}
use Rattle.plain_run.proofs.Steps.{due_more, list_gives, due_later}
use Rattle.plain_run.proofs.Verdicts.{among_two}

-- whatever the lines that are left give, the whole script gives; and where they pass a limit, it does
pub record IsRunTo (profile : Profile) (whole : List ScriptLine) (input : Bytes) (F : FileMap) (old : Bytes) (lines : List ScriptLine) (rest : Bytes) (G : FileMap) (now : Bytes) : Type 0 where
  pub completes : (new left : Bytes) (H : FileMap) → Gives (meaning profile (script_tree lines) rest G) now new left H → Gives (meaning profile (script_tree whole) input F) old new left H
  pub due : (fault : PlainFault) → IsDue (Outgrows profile (script_tree lines) rest G) fault → IsDue (Outgrows profile (script_tree whole) input F) fault

pub run_none : (profile : Profile) (lines : List ScriptLine) (input old : Bytes) (F : FileMap) → IsRunTo profile lines input F old lines input F old
run_none profile lines input old F = record { completes = λ new left H gives. gives; due = λ fault due. due }

-- one more line
pub run_one : (profile : Profile) (whole : List ScriptLine) (input : Bytes) (F : FileMap) (old : Bytes) (line : ScriptLine) (lines : List ScriptLine) (rest now new left : Bytes) (G H : FileMap) → IsRunTo profile whole input F old (line ∷ lines) rest G now → Gives (meaning profile (line_tree line) rest G) now new left H → IsRunTo profile whole input F old lines left H new
run_one profile whole input F old line lines rest now new left G H so_far gives = record {
  completes = λ new' left' H' then. so_far.completes new' left' H' (list_gives profile (line_tree line) (script_tree lines) rest now new new' left left' G H H' gives then);
  due = λ fault later. so_far.due fault (due_later profile (line_tree line) (script_tree lines) rest now new left G H fault gives later);
}

-- a line that passes a limit
pub line_due : (profile : Profile) (whole : List ScriptLine) (input : Bytes) (F : FileMap) (old : Bytes) (line : ScriptLine) (lines : List ScriptLine) (rest now : Bytes) (G : FileMap) (fault : PlainFault) → IsRunTo profile whole input F old (line ∷ lines) rest G now → IsDue (Outgrows profile (line_tree line) rest G) fault → IsDue (Outgrows profile (script_tree whole) input F) fault
line_due profile whole input F old line lines rest now G fault so_far due =
    so_far.due fault (due_more (Outgrows profile (line_tree line) rest G) (Outgrows profile (list (line_tree line) (script_tree lines)) rest G) fault inl due)

-- no line is left
pub run_all : (profile : Profile) (whole : List ScriptLine) (input : Bytes) (F : FileMap) (old : Bytes) (lines : List ScriptLine) (rest now : Bytes) (G : FileMap) → lines ≡ [] → IsRunTo profile whole input F old lines rest G now → Gives (meaning profile (script_tree whole) input F) old now rest G
run_all profile whole input F old lines rest now G none so_far =
    so_far.completes now rest G (subst (λ ls. Gives (meaning profile (script_tree ls) rest G) now now rest G) (sym none) (record { out = sym (append-nil now); rest = refl; files = refl }))

-- the line at a place, and those after it
pub next_line : {A : _} (lines : List (Line A)) (i : ℕ) (d : Line A) → i < length lines → map line_of (drop i lines) ≡ line_of (get_or lines i d) ∷ map line_of (drop (i + 1) lines)
next_line lines i d inside = ap (map line_of) (drop-cons lines i d inside) ∙ ap (λ j. line_of (get_or lines i d) ∷ map line_of (drop j lines)) (sym (add-one i))

pub no_line : {A : _} (lines : List (Line A)) (i : ℕ) → length lines ≤ i → map line_of (drop i lines) ≡ []
no_line lines i over = ap (map line_of) (drop_all i lines over)

-- the verdict of the lines so far, and the lines that are left, make the verdict of the whole script
pub record IsToldTo (profile : Profile) (whole : List ScriptLine) (input : Bytes) (F : FileMap) (lines : List ScriptLine) (rest : Bytes) (G : FileMap) (is_loose : Bool) (names : List Name) : Type 0 where
  pub loose : (meaning profile (script_tree whole) input F).loose ≡ (is_loose || (meaning profile (script_tree lines) rest G).loose)
  pub soft : (name : Name) → (meaning profile (script_tree whole) input F).soft name ≡ (among names name || (meaning profile (script_tree lines) rest G).soft name)

pub told_none : (profile : Profile) (lines : List ScriptLine) (input : Bytes) (F : FileMap) (is_loose : Bool) (names : List Name) → is_loose ≡ false → names ≡ [] → IsToldTo profile lines input F lines input F is_loose names
told_none profile lines input F is_loose names l s = record {
  loose = ap (λ b. b || (meaning profile (script_tree lines) input F).loose) (sym l);
  soft = λ name. ap (λ ns. among ns name || (meaning profile (script_tree lines) input F).soft name) (sym s);
}

or_or : (a b c : Bool) → (a || (b || c)) ≡ ((a || b) || c)
or_or true b c = refl
or_or false b c = refl

-- one more line
pub told_one : (profile : Profile) (whole : List ScriptLine) (input : Bytes) (F : FileMap) (line : ScriptLine) (lines : List ScriptLine) (rest now new left : Bytes) (G H : FileMap) (before own after : Bool) (earlier names later : List Name) → IsToldTo profile whole input F (line ∷ lines) rest G before earlier → Gives (meaning profile (line_tree line) rest G) now new left H → Tells (meaning profile (line_tree line) rest G) own names → after ≡ (before || own) → later ≡ earlier ++ names → IsToldTo profile whole input F lines left H after later
told_one profile whole input F line lines rest now new left G H before own after earlier names later so_far gives told l s =
    let V = meaning profile (line_tree line) rest G in
    let same : meaning profile (script_tree lines) V.rest V.files ≡ meaning profile (script_tree lines) left H =
    ap (λ i. meaning profile (script_tree lines) i V.files) (sym gives.rest) ∙ ap (λ K. meaning profile (script_tree lines) left K) (sym gives.files)
    in
    record {
      loose = so_far.loose ∙ ap₂ (λ a b. before || (a || b)) (sym told.loose) (ap (λ v. v.loose) same) ∙ or_or before own (meaning profile (script_tree lines) left H).loose
          ∙ ap (λ b. b || (meaning profile (script_tree lines) left H).loose) (sym l);
      soft = λ name. so_far.soft name ∙ ap₂ (λ a b. among earlier name || (a || b)) (sym (told.soft name)) (ap (λ v. v.soft name) same)
          ∙ or_or (among earlier name) (among names name) ((meaning profile (script_tree lines) left H).soft name)
          ∙ ap (λ b. b || (meaning profile (script_tree lines) left H).soft name) (sym (ap (λ ns. among ns name) s ∙ among_two earlier names name));
    }

no_more : (a : Bool) → (a || false) ≡ a
no_more true = refl
no_more false = refl

-- no line is left
pub told_all : (profile : Profile) (whole : List ScriptLine) (input : Bytes) (F : FileMap) (lines : List ScriptLine) (rest : Bytes) (G : FileMap) (is_loose : Bool) (names : List Name) → lines ≡ [] → IsToldTo profile whole input F lines rest G is_loose names → Tells (meaning profile (script_tree whole) input F) is_loose names
told_all profile whole input F lines rest G is_loose names none so_far =
    let end = subst (λ ls. IsToldTo profile whole input F ls rest G is_loose names) none so_far in
    record {
      loose = sym (end.loose ∙ no_more is_loose);
      soft = λ name. sym (end.soft name ∙ no_more (among names name));
    }
