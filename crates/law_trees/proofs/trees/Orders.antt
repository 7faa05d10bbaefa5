-- Small scripts run in all orders of their steps, one by one: each order ends, with the output of the meaning.
use Rattle.std.proofs.Common.{◌≡◌, ℕ, zero, suc, Bool, true, false, List, [], ◌∷◌, ◌++◌, drop, refl, codes, ◌&&◌, not}
use Rattle.std.specs.List.{list_all}
use Rattle.std.specs.Str.{bytes_eq}
use Rattle.sh_tree.specs.Tree.{Tree, exec, pipe}
use Rattle.mem_files.specs.Name.{Bytes}
use Rattle.mem_files.specs.Files.{FileMap, no_files, with_file, bytes_of}
use Rattle.script_load.specs.declared.profile.Profile.{Profile}
use Rattle.script_load.specs.declared.profile.Profile.TheVariants.{Xv6}
use Rattle.meaning_model.specs.Meaning.{meaning}
use Rattle.tree_model.specs.Residual.{Residual, done, todo, running, seq, piped, unopened, from, into, keeps_0, keeps_1}
use Rattle.tree_model.specs.Answers.{Kind, leaves, reads_input, writes_output, asks, kind_of}
use Rattle.tree_model.specs.Rules.{is_gap}
use Rattle.tree_model.specs.Step.{Choice, here, on_left, on_right}
use Rattle.tree_model.specs.Runs.{Stage, next_stage, first_stage, after_steps}

-- the choices that lead on: reads and writes of as many bytes as there are, and refused writes
abbrev read_choices : Bytes → Bool → List Choice
read_choices (byte ∷ input) ended = here 9 ∷ []
read_choices [] true = here 0 ∷ []
read_choices [] false = []

abbrev write_choices : Bytes → Bool → List Choice
write_choices [] closed = here 0 ∷ []
write_choices (byte ∷ left) true = here 0 ∷ here 9 ∷ []
write_choices (byte ∷ left) false = here 9 ∷ []

abbrev call_choices : Kind → ℕ → Bool → Bool → Bytes → List Choice
call_choices leaves put closed ended input = here 0 ∷ []
call_choices (reads_input most) put closed ended input = read_choices input ended
call_choices (writes_output bytes) put closed ended input = write_choices (drop put bytes) closed
call_choices asks put closed ended input = here 0 ∷ []

abbrev inside : (Choice → Choice) → List Choice → List Choice
inside side [] = []
inside side (c ∷ cs) = side c ∷ inside side cs

abbrev choices : Residual → Bool → Bool → Bytes → FileMap → List Choice
choices done closed ended input F = []
choices (todo tree) closed ended input F = here 0 ∷ []
choices (running run) closed ended input F = call_choices (kind_of run.turn.call) run.put closed ended input
choices (seq done later) closed ended input F = here 0 ∷ []
choices (seq X later) closed ended input F = inside on_left (choices X closed ended input F)
choices (piped lost done bytes done) closed ended input F = here 0 ∷ []
choices (piped lost X bytes Y) closed ended input F = inside on_left (choices X (not (keeps_0 Y)) ended input F) ++ inside on_right (choices Y closed (not (keeps_1 X)) bytes F)
choices (unopened mode file body) closed ended input F = here 0 ∷ []
choices (from file at done) closed ended input F = here 0 ∷ []
choices (from file at X) closed ended input F = inside on_left (choices X closed true (drop at (bytes_of (F file))) F)
choices (into file at done) closed ended input F = here 0 ∷ []
choices (into file at X) closed ended input F = inside on_left (choices X (is_gap (F file) at) ended input F)

-- within so many steps every order is done, and has written this
abbrev goes_on : List Choice → Bool
goes_on [] = false
goes_on (c ∷ cs) = true

abbrev if_done : Residual → Bool → Bool → Bool
if_done done same later = same
if_done left same later = later

abbrev pub all_end : Profile → (Stage → Bool) → ℕ → Stage → Bool
all_end profile is_right zero stage = false
all_end profile is_right (suc more) stage =
    if_done stage.left (is_right stage)
    (goes_on (choices stage.left false true stage.input stage.files)
    && list_all (λ c. all_end profile is_right more (next_stage profile stage c)) (choices stage.left false true stage.input stage.files))

abbrev all_give : ℕ → Bytes → Stage → Bool
all_give most out stage = all_end Xv6 (λ last. bytes_eq last.out out) most stage

-- echo a | cat
abbrev echo_cat : Tree
echo_cat = pipe (exec (codes "echo" ∷ codes "a" ∷ [])) (exec (codes "cat" ∷ []))

echo_cat_gives : all_give 20 (codes "a\n") (first_stage echo_cat [] no_files) ≡ true
echo_cat_gives = refl

echo_cat_means : (meaning Xv6 echo_cat [] no_files).out ≡ codes "a\n"
echo_cat_means = refl

-- cat p | head -1, where head leaves the second line of p, and cat may be refused its write
abbrev two_lines : FileMap
two_lines = with_file no_files (codes "p") (codes "a\nb\n")

abbrev cat_head : Tree
cat_head = pipe (exec (codes "cat" ∷ codes "p" ∷ [])) (exec (codes "head" ∷ codes "-1" ∷ []))

cat_head_gives : all_give 24 (codes "a\n") (first_stage cat_head [] two_lines) ≡ true
cat_head_gives = refl

cat_head_means : (meaning Xv6 cat_head [] two_lines).out ≡ codes "a\n"
cat_head_means = refl

-- echo a | (echo b | cat), where no process reads what the first echo writes, from where all three programs have begun
abbrev unread : Tree
unread = pipe (exec (codes "echo" ∷ codes "a" ∷ [])) (pipe (exec (codes "echo" ∷ codes "b" ∷ [])) (exec (codes "cat" ∷ [])))

abbrev all_begun : List Choice
all_begun =
    let l = on_left (here 0) in
    let r = on_right (here 0) in
    here 0 ∷ l ∷ l ∷ r ∷ on_right l ∷ on_right l ∷ on_right r ∷ on_right r ∷ []

unread_gives : all_give 20 (codes "b\n") (after_steps Xv6 all_begun (first_stage unread [] no_files)) ≡ true
unread_gives = refl

unread_means : (meaning Xv6 unread [] no_files).out ≡ codes "b\n"
unread_means = refl
