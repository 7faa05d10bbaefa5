-- The sentence of each reason why a script isn't settled, and of one that is (own).
use Rattle.std.specs.Prelude.{ℕ, List, [], ◌∷◌, ◌++◌, ◌==◌, if◌then◌else◌, flat_map, codes}
use Rattle.std.specs.Fmt.{decimal}
use Rattle.mem_files.specs.Name.{Bytes}
use Rattle.conflict_check.specs.declared.conflict.ClashKind.{ClashKind}
use Rattle.conflict_check.specs.declared.conflict.ClashKind.TheVariants.{PipeSides, Enclosing}
use Rattle.plain_run.specs.declared.reason.Reason.{Reason}
use Rattle.plain_run.specs.declared.reason.Reason.TheVariants.{Background, Clash, CutPipe, LooseInput}

-- `line N: not settled: `
abbrev pub head_text : ℕ → Bytes
head_text line = codes "line " ++ (decimal line ++ codes ": not settled: ")

-- what another line is called in the sentence of this one
abbrev pub place_text : ℕ → ℕ → Bytes
place_text line other = if line == other then codes "the line" else codes "line " ++ decimal other

abbrev pub background_text : ℕ → Bytes
background_text line = head_text line ++ codes "a command runs behind &, so what comes next doesn't wait for it and may run at the same time\n"

abbrev pub clash_begin : ClashKind → Bytes
clash_begin PipeSides = codes "both sides of a pipe use the file "
clash_begin Enclosing = codes "a redirection opens the file "

abbrev pub clash_end : ClashKind → Bytes
clash_end PipeSides = codes " and one of them writes it, so what comes out may depend on which is faster\n"
clash_end Enclosing = codes " and its command uses it too, so it may be emptied or changed before it is read\n"

abbrev pub clash_text : ℕ → ClashKind → Bytes → Bytes
clash_text line kind name = head_text line ++ (clash_begin kind ++ (name ++ clash_end kind))

abbrev pub cut_text : ℕ → Bytes → ℕ → Bytes
cut_text line name again =
    head_text line ++ (codes "a pipe's right side may stop before it has read all, as head does, so how much the left side writes to the file "
    ++ (name ++ (codes " isn't fixed, and " ++ (place_text line again ++ codes " names that file again\n"))))

abbrev pub loose_text : ℕ → ℕ → Bytes
loose_text line user =
    head_text line ++ (codes "a command may stop before it has read all of its input, so how much of that is left isn't fixed, and a later command of "
    ++ (place_text line user ++ codes " may read on from there\n"))

abbrev pub reason_text : {A : _} → Reason A → Bytes
reason_text (Background line) = background_text line
reason_text (Clash line kind name) = clash_text line kind name
reason_text (CutPipe line name again) = cut_text line name again
reason_text (LooseInput line user) = loose_text line user

abbrev pub settled_text : Bytes
settled_text = codes "settled: on these files and this input every order of the processes prints the same; its pipes are safe, for the sides of each share no file that one of them writes, and what a reader leaves unread decides nothing that is used later\n"

-- one after the other
abbrev pub joined : List Bytes → Bytes
joined texts = flat_map (λ text. text) texts

-- all of these sentences, or where there is none that the script is settled
abbrev pub why_text : List Bytes → Bytes
why_text [] = settled_text
why_text (text ∷ texts) = text ++ joined texts

-- the first of these sentences, if there is one
abbrev pub first_text : List Bytes → Bytes
first_text [] = []
first_text (text ∷ texts) = text
