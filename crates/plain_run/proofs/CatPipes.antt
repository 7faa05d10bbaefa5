-- A pipe one of whose sides is `cat` alone does and says what the other side does.
use Rattle.std.proofs.Common.{◌≡◌, Bool, true, false, ◌||◌, ◌&&◌, not, List, [], refl, ap, ap₂, ◌∙◌, inl}
use Rattle.std.specs.Prelude.{Result}
use Rattle.std.proofs.lemmas.Result.{IfOk-weaker, IfErr-weaker}
use Rattle.sh_tree.specs.Tree.{Tree, pipe}
use Rattle.mem_files.specs.Name.{Name, Bytes}
use Rattle.mem_files.specs.Files.{FileMap, files}
use Rattle.prog_parts.specs.NameSets.{no_names, among, both}
use Rattle.conflict_check.specs.Names.{names}
use Rattle.script_load.specs.declared.profile.Profile.{Profile}
use Rattle.meaning_model.specs.Limits.{Outgrows}
use Rattle.meaning_model.specs.Meaning.{meaning}
use Rattle.meaning_model.specs.Value.{fixed, is_cut}
use Rattle.plain_run.specs.Gives.{Gives}
use Rattle.plain_run.specs.declared.fault.PlainFault.{PlainFault}
use Rattle.plain_run.specs.Again.{TellsAgain, named_again, reuses_input}
use Rattle.plain_run.specs.CatAlone.{cat_alone}
use Rattle.prog_parts.specs.Program.{is_empty}
use Rattle.plain_run.specs.Means.{Means}
use Rattle.plain_run.specs.Tells.{Tells}
use Rattle.plain_run.specs.declared.run.Ran.{Ran}
use Rattle.plain_run.specs.declared.run.Runner.{Runner}
use Rattle.plain_run.proofs.Steps.{due_more}

-- it writes all of its input, leaves nothing unread, and names no file
cat_passes : (profile : Profile) (input : Bytes) (F : FileMap) → meaning profile cat_alone input F ≡ fixed input [] F
cat_passes profile input F = refl

or_none : (a : Bool) → a ≡ (a || false)
or_none true = refl
or_none false = refl

cut_none : (cut b o : Bool) → b ≡ ((false || b) || ((cut && false) && o))
cut_none true b o = or_none b
cut_none false b o = or_none b

-- a pipe whose left side is `cat` alone names again what its right side does
pub after_cat_again : (profile : Profile) (R : Tree) (input : Bytes) (F : FileMap) (again : List Name) (reuses : Bool) → TellsAgain profile R input F again reuses → TellsAgain profile (pipe cat_alone R) input F again reuses
after_cat_again profile R input F again reuses told = record {
  named = λ name. told.named name ∙ cut_none (is_cut (meaning profile R input F)) (named_again profile R no_names input F name) (both (names R) no_names name);
  reused = told.reused;
}

pub after_cat_gives : (profile : Profile) (R : Tree) (input old new rest : Bytes) (F G : FileMap) → Gives (meaning profile R input F) old new rest G → Gives (meaning profile (pipe cat_alone R) input F) old new [] G
after_cat_gives profile R input old new rest F G right = record { out = right.out; rest = refl; files = right.files }

cut_all : (b : Bool) → b ≡ (false || (b && true))
cut_all true = refl
cut_all false = refl

soft_none : (s c : Bool) → s ≡ ((false || s) || (c && false))
soft_none s true = or_none s
soft_none s false = or_none s

pub after_cat_tells : (profile : Profile) (R : Tree) (input unread : Bytes) (F : FileMap) (loose cut all : Bool) (soft soft' : List Name) → unread ≡ (meaning profile R input F).rest → Tells (meaning profile R input F) loose soft → cut ≡ (not (is_empty unread) || loose) → all ≡ cut → soft' ≡ soft → Tells (meaning profile (pipe cat_alone R) input F) all soft'
after_cat_tells profile R input unread F loose cut all soft soft' left told c l s =
    let W = meaning profile R input F in
    record {
      loose = l ∙ c ∙ ap₂ (λ b lo. not (is_empty b) || lo) left told.loose ∙ cut_all (is_cut W);
      soft = λ name. ap (λ ns. among ns name) s ∙ told.soft name ∙ soft_none (W.soft name) (is_cut W);
    }

-- what the left side does is all that the pipe does
pub into_cat : {A : _} (old new : Runner A) (L : Tree) (input : Bytes) (result : Result (Ran A) PlainFault) → Means old new L input result → Means old new (pipe L cat_alone) input result
into_cat old new L input result left =
    let profile = old.profile in
    let F = files old.store in
    let value = meaning profile L input F in
    record {
      profile = left.profile;
      gives = IfOk-weaker result _ _ (λ ran given. record { out = given.out; rest = given.rest; files = given.files }) left.gives;
      tells = IfOk-weaker result _ _ (λ ran told. record { loose = told.loose ∙ or_none value.loose; soft = λ name. told.soft name ∙ or_none (value.soft name) ∙ or_none (value.soft name || false) }) left.tells;
      again = IfOk-weaker result _ _ (λ ran told. record {
        named = λ name. told.named name ∙ or_none (named_again profile L no_names input F name) ∙ or_none (named_again profile L no_names input F name || false);
        reused = told.reused ∙ or_none (reuses_input profile L input F);
      }) left.again;
      large = IfErr-weaker result _ _ (λ fault due. due_more (Outgrows profile L input F) (Outgrows profile (pipe L cat_alone) input F) fault inl due) left.large;
    }
