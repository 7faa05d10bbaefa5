-- How the verdict of a command is made of those of its parts.
use Rattle.std.proofs.Common.{◌≡◌, ◌≢◌, Bool, true, false, ◌||◌, ◌&&◌, not, List, [], ◌++◌, refl, sym, ap, ap₂, subst, ◌∙◌, Some}
use Rattle.std.specs.Str.{bytes_eq}
use Rattle.std.proofs.lemmas.List.Folds.{list_any-append}
use Rattle.sh_tree.specs.declared.tree.Mode.{Mode}
use Rattle.sh_tree.specs.declared.tree.Mode.TheVariants.{Input, Fresh, Over}
use Rattle.sh_tree.specs.Tree.{Tree, redir, pipe, list}
use Rattle.mem_files.specs.Name.{Name, Bytes, is_openable}
use Rattle.mem_files.specs.Files.{FileMap}
use Rattle.prog_parts.specs.NameSets.{among}
use Rattle.conflict_check.specs.Names.{writes, uses_input}
use Rattle.conflict_check.specs.Occurrences.{written}
use Rattle.prog_parts.specs.Program.{is_empty}
use Rattle.conflict_check.proofs.Listed.{writes_listed}
use Rattle.script_load.specs.declared.profile.Profile.{Profile}
use Rattle.meaning_model.specs.Inputs.{found}
use Rattle.meaning_model.specs.Meaning.{meaning, input_value, opened, written_value}
use Rattle.meaning_model.specs.Value.{is_cut}
use Rattle.plain_run.specs.Gives.{Gives}
use Rattle.plain_run.specs.Tells.{Tells, with_lost}
use Rattle.plain_run.proofs.Steps.{output_is}

pub among_two : (xs ys : List Name) (name : Name) → among (xs ++ ys) name ≡ (among xs name || among ys name)
among_two xs ys name = list_any-append (bytes_eq name) xs ys

or_nothing : (a : Bool) → a ≡ (a || false)
or_nothing true = refl
or_nothing false = refl

pub among_lost : (cut : Bool) (soft : List Name) (left : Tree) (name : Name) → among (with_lost cut soft left) name ≡ (among soft name || (cut && writes left name))
among_lost true soft left name = among_two soft (written left) name ∙ ap (λ b. among soft name || b) (sym (writes_listed left name))
among_lost false soft left name = or_nothing (among soft name)

exchanged : (a b c : Bool) → ((a || c) || b) ≡ ((a || b) || c)
exchanged true b c = refl
exchanged false true true = refl
exchanged false true false = refl
exchanged false false true = refl
exchanged false false false = refl

-- a command under > or >>
pub into_tells : (profile : Profile) (mode : Mode) (name : Name) (T : Tree) (input : Bytes) (F F1 : FileMap) (loose loose' : Bool) (soft soft' : List Name) → mode ≢ Input → is_openable name ≡ true → F1 ≡ opened mode name F → Tells (meaning profile T input F1) loose soft → loose' ≡ loose → soft' ≡ soft → Tells (meaning profile (redir mode name T) input F) loose' soft'
into_tells profile Input name T input F F1 loose loose' soft soft' writes good is told l s = absurd (writes (λ _. Input))
into_tells profile Fresh name T input F F1 loose loose' soft soft' writes good is told l s =
    let body = subst (λ G. Tells (meaning profile T input G) loose soft) is told in
    subst (λ v. Tells v loose' soft') (sym (output_is (is_openable name) input F (written_value profile Fresh name F (meaning profile T input (opened Fresh name F))) good))
    (record { loose = l ∙ body.loose; soft = λ n. ap (λ names. among names n) s ∙ body.soft n })
into_tells profile Over name T input F F1 loose loose' soft soft' writes good is told l s =
    let body = subst (λ G. Tells (meaning profile T input G) loose soft) is told in
    subst (λ v. Tells v loose' soft') (sym (output_is (is_openable name) input F (written_value profile Over name F (meaning profile T input (opened Over name F))) good))
    (record { loose = l ∙ body.loose; soft = λ n. ap (λ names. among names n) s ∙ body.soft n })

-- one command and then another
pub list_tells : (profile : Profile) (L R : Tree) (input old mid rest : Bytes) (F F1 : FileMap) (first second both : Bool) (soft then all : List Name) → Gives (meaning profile L input F) old mid rest F1 → Tells (meaning profile L input F) first soft → Tells (meaning profile R rest F1) second then → both ≡ (first || second) → all ≡ soft ++ then → Tells (meaning profile (list L R) input F) both all
list_tells profile L R input old mid rest F F1 first second both soft then all gives one other l s =
    let same : meaning profile R rest F1 ≡ meaning profile R (meaning profile L input F).rest (meaning profile L input F).files =
    ap (λ i. meaning profile R i F1) gives.rest ∙ ap (λ G. meaning profile R (meaning profile L input F).rest G) gives.files
    in
    let next = subst (λ v. Tells v second then) same other in
    record {
      loose = l ∙ ap₂ ◌||◌ one.loose next.loose;
      soft = λ n. ap (λ names. among names n) s ∙ among_two soft then n ∙ ap₂ ◌||◌ (one.soft n) (next.soft n);
    }

-- a pipe
pub pipe_tells : (profile : Profile) (L R : Tree) (input middle rest left : Bytes) (F F1 : FileMap) (cut first second both : Bool) (soft then all : List Name) → Gives (meaning profile L input F) [] middle rest F1 → Tells (meaning profile L input F) first soft → left ≡ (meaning profile R middle F1).rest → Tells (meaning profile R middle F1) second then → cut ≡ (not (is_empty left) || second) → both ≡ (first || (cut && uses_input L)) → all ≡ with_lost cut soft L ++ then → Tells (meaning profile (pipe L R) input F) both all
pipe_tells profile L R input middle rest left F F1 cut first second both soft then all gives one unread other c l s =
    let same : meaning profile R middle F1 ≡ meaning profile R (meaning profile L input F).out (meaning profile L input F).files =
    ap (λ i. meaning profile R i F1) gives.out ∙ ap (λ G. meaning profile R (meaning profile L input F).out G) gives.files
    in
    let W = meaning profile R (meaning profile L input F).out (meaning profile L input F).files in
    let next : Tells W second then = subst (λ v. Tells v second then) same other in
    let is : cut ≡ is_cut W = c ∙ ap₂ (λ b lo. not (is_empty b) || lo) (unread ∙ ap (λ v. v.rest) same) next.loose in
    record {
      loose = l ∙ ap₂ (λ a b. a || (b && uses_input L)) one.loose is;
      soft = λ n. ap (λ names. among names n) s ∙ among_two (with_lost cut soft L) then n ∙ ap (λ b. b || among then n) (among_lost cut soft L n)
          ∙ exchanged (among soft n) (among then n) (cut && writes L n)
          ∙ ap₂ (λ a b. (a || b) || (cut && writes L n)) (one.soft n) (next.soft n)
          ∙ ap (λ b. ((meaning profile L input F).soft n || W.soft n) || (b && writes L n)) is;
    }

-- a command under <
pub from_tells : (profile : Profile) (file : Name) (T : Tree) (input bytes : Bytes) (F : FileMap) (loose loose' : Bool) (soft soft' : List Name) → found F file ≡ Some bytes → Tells (meaning profile T bytes F) loose soft → loose' ≡ false → soft' ≡ soft → Tells (meaning profile (redir Input file T) input F) loose' soft'
from_tells profile file T input bytes F loose loose' soft soft' is told l s =
    subst (λ o. Tells (input_value o input F (λ b. meaning profile T b F)) loose' soft') (sym is) (record { loose = l; soft = λ n. ap (λ names. among names n) s ∙ told.soft n })
