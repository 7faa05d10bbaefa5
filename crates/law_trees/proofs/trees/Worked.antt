-- The definitions at work: runs that compute.
use Rattle.std.proofs.Common.{List, ◌≡◌, true, false, [], ◌∷◌, Some, refl, codes}
use Rattle.sh_tree.specs.declared.tree.Mode.TheVariants.{Fresh, Over}
use Rattle.sh_tree.specs.Tree.{Tree, exec, redir, pipe}
use Rattle.mem_files.specs.Name.{Bytes}
use Rattle.mem_files.specs.Files.{FileMap, no_files, with_file}
use Rattle.script_load.specs.declared.profile.Profile.TheVariants.{Xv6, Append}
use Rattle.meaning_model.specs.Meaning.{meaning}
use Rattle.user_calls.specs.declared.calls.Call.TheVariants.{Exit, Write}
use Rattle.user_progs.specs.State.{told, ended}
use Rattle.tree_model.specs.Residual.{Residual, done, running, into, at_byte}
use Rattle.tree_model.specs.Step.{Choice, here, on_left, on_right, step}
use Rattle.tree_model.specs.Runs.{Stage, after_steps, first_stage}

abbrev l : Choice
l = on_left (here 0)

abbrev r : Choice
r = on_right (here 0)

-- tee c | head -1, on two lines: tee writes two bytes of four and gives nothing to c, since head exits after its line and
-- what tee still writes is refused
abbrev early : Tree
early = pipe (exec (codes "tee" ∷ codes "c" ∷ [])) (exec (codes "head" ∷ codes "-1" ∷ []))

abbrev text : Bytes
text = codes "a\nb\n"

abbrev cut_short : List Choice
cut_short = here 0 ∷ l ∷ r ∷ l ∷ r ∷ l ∷ on_left (here 9) ∷ on_left (here 2) ∷ on_right (here 1) ∷ on_right (here 1) ∷ on_right (here 1) ∷ on_right (here 1) ∷ r ∷ l ∷ l ∷ l ∷ here 0 ∷ []

abbrev early_end : Stage
early_end = after_steps Xv6 cut_short (first_stage early text no_files)

early_ends : early_end.left ≡ done
early_ends = refl

early_says : early_end.out ≡ codes "a\n"
early_says = refl

-- so c is soft, and holds nothing here; in the meaning it holds both lines
early_gives : early_end.files (codes "c") ≡ Some []
early_gives = refl

early_soft : (meaning Xv6 early text no_files).soft (codes "c") ≡ true
early_soft = refl

early_means : (meaning Xv6 early text no_files).files (codes "c") ≡ Some text
early_means = refl

-- cat > x, in small pieces
abbrev copy : Tree
copy = redir Fresh (codes "x") (exec (codes "cat" ∷ []))

abbrev slowly : List Choice
slowly = here 0 ∷ here 0 ∷ l ∷ l ∷ on_left (here 1) ∷ on_left (here 9) ∷ on_left (here 2) ∷ on_left (here 1) ∷ on_left (here 9) ∷ l ∷ l ∷ here 0 ∷ []

abbrev copy_end : Stage
copy_end = after_steps Xv6 slowly (first_stage copy text no_files)

copy_ends : copy_end.left ≡ done
copy_ends = refl

copied : copy_end.files (codes "x") ≡ Some text
copied = refl

-- echo b >> x over two lines: xv6 writes from the file's beginning on, the other profile at its end
abbrev behind : Tree
behind = redir Over (codes "x") (exec (codes "echo" ∷ codes "b" ∷ []))

abbrev lines : FileMap
lines = with_file no_files (codes "x") (codes "a\nc\n")

abbrev writes_b : List Choice
writes_b = here 0 ∷ here 0 ∷ l ∷ l ∷ on_left (here 9) ∷ on_left (here 9) ∷ l ∷ here 0 ∷ []

over_ends : (after_steps Xv6 writes_b (first_stage behind [] lines)).left ≡ done
over_ends = refl

over_writes : (after_steps Xv6 writes_b (first_stage behind [] lines)).files (codes "x") ≡ Some (codes "b\nc\n")
over_writes = refl

append_ends : (after_steps Append writes_b (first_stage behind [] lines)).left ≡ done
append_ends = refl

append_writes : (after_steps Append writes_b (first_stage behind [] lines)).files (codes "x") ≡ Some (codes "a\nc\nb\n")
append_writes = refl

-- a write past the end of its file, which no clear script makes, is refused and leaves the file
abbrev past : Residual
past = into (codes "x") (at_byte 5) (running (record { turn = record { call = Write 1 (codes "b"); next = told }; own = []; put = 0 }))

past_left : (step Xv6 past l false true [] lines).next ≡ into (codes "x") (at_byte 5) (running (record { turn = record { call = Exit; next = ended }; own = []; put = 0 }))
past_left = refl

past_files : (step Xv6 past l false true [] lines).files (codes "x") ≡ Some (codes "a\nc\n")
past_files = refl
