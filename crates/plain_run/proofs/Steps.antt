-- How the value of a command is made of what its parts gave, and when a limit was passed.
use Rattle.std.proofs.Common.{◌≡◌, ◌≢◌, ◌<◌, Bool, true, false, [], ◌++◌, length, refl, sym, ◌∙◌, ap, subst, append_assoc, inl, inr, arith, None, Some}
use Rattle.std.proofs.lemmas.List.{append-nil, drop_all}
use Rattle.sh_tree.specs.declared.tree.Mode.{Mode}
use Rattle.sh_tree.specs.declared.tree.Mode.TheVariants.{Input, Fresh, Over}
use Rattle.sh_tree.specs.Tree.{Tree, redir, pipe, list}
use Rattle.mem_files.specs.Name.{Name, Bytes, is_openable}
use Rattle.mem_files.specs.Files.{FileMap, with_file, bytes_of}
use Rattle.mem_files.specs.Listing.{max_size}
use Rattle.script_load.specs.declared.profile.Profile.{Profile}
use Rattle.script_load.specs.declared.profile.Profile.TheVariants.{Xv6, Append}
use Rattle.meaning_model.specs.Limits.{OnOpened, Outgrows, HasNoRoom}
use Rattle.meaning_model.specs.Inputs.{found}
use Rattle.meaning_model.specs.Meaning.{meaning, input_value, opened, over_end, at_end, output_value, written_value}
use Rattle.meaning_model.specs.Value.{Value}
use Rattle.plain_run.specs.declared.fault.PlainFault.{PlainFault}
use Rattle.plain_run.specs.declared.fault.PlainFault.TheVariants.{TooLarge, Memory}
use Rattle.plain_run.specs.Gives.{Gives, IsDue}
use Rattle.plain_run.specs.Held.{held}
use Rattle.plain_run.proofs.Kept.{meaning_keeps, opened_is_there}

-- what makes one fault due makes another so
pub due_more : (P Q : Type 0) (fault : PlainFault) → (P → Q) → IsDue P fault → IsDue Q fault
due_more P Q TooLarge more due = more due
due_more P Q Memory more due = tt

pub output_is : (b : Bool) (input : Bytes) (F : FileMap) (done : Value) → b ≡ true → output_value b input F done ≡ done
output_is true input F done is = refl
output_is false input F done is = let e : false ≡ true = is in cc

-- over no bytes nothing else stands
end_of_none : (profile : Profile) (w : Bytes) → over_end profile [] w ≡ w
end_of_none Xv6 w = ap (λ x. w ++ x) (drop_all (length w) [] (omega arith)) ∙ append-nil w
end_of_none Append w = refl

-- the right side of a pipe
pub due_right : (profile : Profile) (L R : Tree) (input middle rest : Bytes) (F F1 : FileMap) (fault : PlainFault) → Gives (meaning profile L input F) [] middle rest F1 → IsDue (Outgrows profile R middle F1) fault → IsDue (Outgrows profile (pipe L R) input F) fault
due_right profile L R input middle rest F F1 fault gives due =
    due_more (Outgrows profile R middle F1) (Outgrows profile (pipe L R) input F) fault
    (λ h. inr (subst (λ o. Outgrows profile R o (meaning profile L input F).files) gives.out (subst (λ G. Outgrows profile R middle G) gives.files h))) due

-- the right side of a list
pub due_later : (profile : Profile) (L R : Tree) (input old mid rest : Bytes) (F F1 : FileMap) (fault : PlainFault) → Gives (meaning profile L input F) old mid rest F1 → IsDue (Outgrows profile R rest F1) fault → IsDue (Outgrows profile (list L R) input F) fault
due_later profile L R input old mid rest F F1 fault gives due =
    due_more (Outgrows profile R rest F1) (Outgrows profile (list L R) input F) fault
    (λ h. inr (subst (λ o. Outgrows profile R o (meaning profile L input F).files) gives.rest (subst (λ G. Outgrows profile R rest G) gives.files h))) due

pub list_gives : (profile : Profile) (L R : Tree) (input old mid new rest left : Bytes) (F F1 F2 : FileMap) → Gives (meaning profile L input F) old mid rest F1 → Gives (meaning profile R rest F1) mid new left F2 → Gives (meaning profile (list L R) input F) old new left F2
list_gives profile L R input old mid new rest left F F1 F2 first second =
    let same : meaning profile R rest F1 ≡ meaning profile R (meaning profile L input F).rest (meaning profile L input F).files =
    ap (λ i. meaning profile R i F1) first.rest ∙ ap (λ G. meaning profile R (meaning profile L input F).rest G) first.files
    in
    let then = subst (λ v. Gives v mid new left F2) same second in
    record {
      out = then.out ∙ ap (λ o. o ++ (meaning profile R (meaning profile L input F).rest (meaning profile L input F).files).out) first.out ∙ append_assoc old (meaning profile L input F).out (meaning profile R (meaning profile L input F).rest (meaning profile L input F).files).out;
      rest = then.rest;
      files = then.files;
    }

pub pipe_gives : (profile : Profile) (L R : Tree) (input middle old new rest left : Bytes) (F F1 F2 : FileMap) → Gives (meaning profile L input F) [] middle rest F1 → Gives (meaning profile R middle F1) old new left F2 → Gives (meaning profile (pipe L R) input F) old new rest F2
pipe_gives profile L R input middle old new rest left F F1 F2 first second =
    let same : meaning profile R middle F1 ≡ meaning profile R (meaning profile L input F).out (meaning profile L input F).files =
    ap (λ i. meaning profile R i F1) first.out ∙ ap (λ G. meaning profile R (meaning profile L input F).out G) first.files
    in
    let then = subst (λ v. Gives v old new left F2) same second in
    record { out = then.out; rest = first.rest; files = then.files }

-- a redirection's file is there at the end of its body
pub still_there : (profile : Profile) (mode : Mode) (name : Name) (T : Tree) (input written rest : Bytes) (F F1 : FileMap) → mode ≢ Input → Gives (meaning profile T input (opened mode name F)) [] written rest F1 → F1 name ≢ None
still_there profile mode name T input written rest F F1 writes gives none =
    meaning_keeps profile T input (opened mode name F) name (opened_is_there mode name F writes) (ap (λ G. G name) (sym gives.files) ∙ none)

-- a command under a redirection of its output
pub into_gives : (profile : Profile) (mode : Mode) (name : Name) (T : Tree) (input old written rest : Bytes) (F F1 F2 : FileMap) → mode ≢ Input → is_openable name ≡ true → Gives (meaning profile T input (opened mode name F)) [] written rest F1 → F2 ≡ with_file F1 name (over_end profile (held mode F name) written) → Gives (meaning profile (redir mode name T) input F) old old rest F2
into_gives profile Input name T input old written rest F F1 F2 writes good gives end = absurd (writes (λ _. Input))
into_gives profile Fresh name T input old written rest F F1 F2 writes good gives end =
    subst (λ v. Gives v old old rest F2) (sym (output_is (is_openable name) input F (written_value profile Fresh name F (meaning profile T input (opened Fresh name F))) good)) (record {
      out = sym (append-nil old);
      rest = gives.rest;
      files = end ∙ ap (λ G. with_file G name (over_end profile [] written)) gives.files ∙ ap (λ b. with_file (meaning profile T input (opened Fresh name F)).files name b) (end_of_none profile written ∙ gives.out);
    })
into_gives profile Over name T input old written rest F F1 F2 writes good gives end =
    subst (λ v. Gives v old old rest F2) (sym (output_is (is_openable name) input F (written_value profile Over name F (meaning profile T input (opened Over name F))) good)) (record {
      out = sym (append-nil old);
      rest = gives.rest;
      files = end ∙ ap (λ G. with_file G name (over_end profile (bytes_of (F name)) written)) gives.files ∙ ap (λ b. with_file (meaning profile T input (opened Over name F)).files name (over_end profile (bytes_of (F name)) b)) gives.out;
    })

-- its body passed a limit
pub due_body : (profile : Profile) (mode : Mode) (name : Name) (T : Tree) (input : Bytes) (F F1 : FileMap) (fault : PlainFault) → mode ≢ Input → is_openable name ≡ true → F1 ≡ opened mode name F → IsDue (Outgrows profile T input F1) fault → IsDue (Outgrows profile (redir mode name T) input F) fault
due_body profile Input name T input F F1 fault writes good is due = absurd (writes (λ _. Input))
due_body profile Fresh name T input F F1 fault writes good is due =
    due_more (Outgrows profile T input F1) (Outgrows profile (redir Fresh name T) input F) fault
    (λ h. let there : OnOpened true (HasNoRoom F name) (Outgrows profile T input (opened Fresh name F)) (max_size < length (meaning profile T input (opened Fresh name F)).out) = inr (inl (subst (λ G. Outgrows profile T input G) is h)) in
    subst (λ b. OnOpened b (HasNoRoom F name) (Outgrows profile T input (opened Fresh name F)) (max_size < length (meaning profile T input (opened Fresh name F)).out)) (sym good) there) due
due_body profile Over name T input F F1 fault writes good is due =
    due_more (Outgrows profile T input F1) (Outgrows profile (redir Over name T) input F) fault
    (λ h. let there : OnOpened true (HasNoRoom F name) (Outgrows profile T input (opened Over name F)) (max_size < length (at_end profile Over (bytes_of (F name)) (meaning profile T input (opened Over name F)).out)) = inr (inl (subst (λ G. Outgrows profile T input G) is h)) in
    subst (λ b. OnOpened b (HasNoRoom F name) (Outgrows profile T input (opened Over name F)) (max_size < length (at_end profile Over (bytes_of (F name)) (meaning profile T input (opened Over name F)).out))) (sym good) there) due

-- its file is too large at the end
pub due_end : (profile : Profile) (mode : Mode) (name : Name) (T : Tree) (input written rest : Bytes) (F F1 : FileMap) (fault : PlainFault) → mode ≢ Input → is_openable name ≡ true → Gives (meaning profile T input (opened mode name F)) [] written rest F1 → IsDue (max_size < length (over_end profile (held mode F name) written)) fault → IsDue (Outgrows profile (redir mode name T) input F) fault
due_end profile Input name T input written rest F F1 fault writes good gives due = absurd (writes (λ _. Input))
due_end profile Fresh name T input written rest F F1 fault writes good gives due =
    due_more (max_size < length (over_end profile [] written)) (Outgrows profile (redir Fresh name T) input F) fault
    (λ h. let there : OnOpened true (HasNoRoom F name) (Outgrows profile T input (opened Fresh name F)) (max_size < length (meaning profile T input (opened Fresh name F)).out) = inr (inr (subst (λ b. max_size < length b) (end_of_none profile written ∙ gives.out) h)) in
    subst (λ b. OnOpened b (HasNoRoom F name) (Outgrows profile T input (opened Fresh name F)) (max_size < length (meaning profile T input (opened Fresh name F)).out)) (sym good) there) due
due_end profile Over name T input written rest F F1 fault writes good gives due =
    due_more (max_size < length (over_end profile (bytes_of (F name)) written)) (Outgrows profile (redir Over name T) input F) fault
    (λ h. let there : OnOpened true (HasNoRoom F name) (Outgrows profile T input (opened Over name F)) (max_size < length (at_end profile Over (bytes_of (F name)) (meaning profile T input (opened Over name F)).out)) = inr (inr (subst (λ w. max_size < length (over_end profile (bytes_of (F name)) w)) gives.out h)) in
    subst (λ b. OnOpened b (HasNoRoom F name) (Outgrows profile T input (opened Over name F)) (max_size < length (at_end profile Over (bytes_of (F name)) (meaning profile T input (opened Over name F)).out))) (sym good) there) due

-- a command under <, on these bytes of its file
pub from_gives : (profile : Profile) (file : Name) (T : Tree) (input bytes old new rest : Bytes) (F G : FileMap) → found F file ≡ Some bytes → Gives (meaning profile T bytes F) old new rest G → Gives (meaning profile (redir Input file T) input F) old new input G
from_gives profile file T input bytes old new rest F G is body =
    subst (λ o. Gives (input_value o input F (λ b. meaning profile T b F)) old new input G) (sym is) (record { out = body.out; rest = refl; files = body.files })
