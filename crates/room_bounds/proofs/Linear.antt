-- As files grow by one byte more, what a command writes either stays as it is or grows by one byte at least.
use Rattle.std.proofs.Common.{◌≡◌, ◌⊎◌, inl, inr, ℕ, ◌+◌, ◌*◌, ◌≤◌, Bool, true, false, List, [], ◌∷◌, Option, Some, None, length, refl, ap, arith}
use Rattle.std.specs.Prelude.{◌||◌}
use Rattle.std.specs.List.{list_any}
use Rattle.std.proofs.Math.Nat.{mul-le-mul_right, mul-add, add-mul}
use Rattle.sh_tree.specs.declared.tree.Mode.{Mode}
use Rattle.sh_tree.specs.declared.tree.Mode.TheVariants.{Input, Fresh, Over}
use Rattle.sh_tree.specs.Tree.{Tree, exec, redir, pipe, list, back}
use Rattle.mem_files.specs.Name.{Bytes, Name}
use Rattle.mem_files.specs.Files.{FileMap}
use Rattle.prog_parts.specs.NameSets.{Names, no_names}
use Rattle.prog_parts.specs.declared.program.Program.{Program}
use Rattle.prog_parts.specs.declared.program.Program.TheVariants.{Cat, Echo, Grep, Head, Tee, Wc}
use Rattle.prog_parts.specs.Program.{program_of, program_uses_input}
use Rattle.prog_parts.specs.Words.{files_read, words_files_written}
use Rattle.script_load.specs.Line.{ScriptLine}
use Rattle.tree_model.specs.FilesAhead.{Sizes, sizes, all_sizes}
use Rattle.tree_model.specs.Bound.{input_ahead, input_under}
use Rattle.tree_model.specs.ProgramBytes.{begin_bytes}
use Rattle.room_model.specs.Place.{program_bytes, words_bytes, counted_if, output_under, to_place}
use Rattle.room_bounds.specs.Growth.{grown_where, is_written}

abbrev pub Stays : (ℕ → ℕ) → Type 0
Stays f = (m : ℕ) → f m ≡ f 0

abbrev pub Grows : (ℕ → ℕ) → Type 0
Grows f = (m : ℕ) → f 0 + m ≤ f m

abbrev pub Follows : (ℕ → ℕ) → Type 0
Follows f = Stays f ⊎ Grows f

sum : (f g : ℕ → ℕ) → Follows f → Follows g → Follows (λ m. f m + g m)
sum f g (inl s) (inl t) = inl (λ m. omega (arith, s m, t m))
sum f g (inl s) (inr t) = inr (λ m. omega (arith, s m, t m))
sum f g (inr s) (inl t) = inr (λ m. omega (arith, s m, t m))
sum f g (inr s) (inr t) = inr (λ m. omega (arith, s m, t m))

copies : (f : ℕ → ℕ) (k : ℕ) → Follows f → Follows (λ m. f m * (k + 1))
copies f k (inl s) = inl (λ m. ap (λ x. x * (k + 1)) (s m))
copies f k (inr s) = inr (λ m. omega (arith, mul-le-mul_right (k + 1) (s m), add-mul (f 0) m (k + 1), mul-add m k 1))

counted : (c : Bool) (f : ℕ → ℕ) → Follows f → Follows (λ m. counted_if c (f m))
counted true f is = is
counted false f is = inl (λ m. refl)

input_follows : (uses : Bool) (n : ℕ → ℕ) → Follows n → Follows (λ m. input_ahead uses (n m))
input_follows true n is = is
input_follows false n is = inl (λ m. refl)

under_follows : (mode : Mode) (n l : ℕ → ℕ) → Follows n → Follows l → Follows (λ m. input_under mode (n m) (l m))
under_follows Input n l few large = large
under_follows Fresh n l few large = few
under_follows Over n l few large = few

module _ (L : ℕ → Sizes) (follow : (name : Name) → Follows (λ m. L m name)) where
  all_follow : (names : List Name) → Follows (λ m. all_sizes names (L m))
  all_follow [] = inl (λ m. refl)
  all_follow (name ∷ names) = sum (λ m. L m name) (λ m. all_sizes names (L m)) (follow name) (all_follow names)

  program_follows : (program : Program) (arguments : List Bytes) (r : ℕ → ℕ) → Follows r → Follows (λ m. begin_bytes program arguments (r m))
  program_follows Cat arguments r is = is
  program_follows Echo arguments r is = inl (λ m. refl)
  program_follows Grep arguments r is = is
  program_follows Head arguments r is = is
  program_follows Tee arguments r is = copies r (length arguments) is
  program_follows Wc arguments r is = inl (λ m. refl)

  begun_follows : (o : Option Program) (arguments : List Bytes) (n : ℕ → ℕ) → Follows n → Follows (λ m. program_bytes o arguments (n m) (L m))
  begun_follows None arguments n few = inl (λ m. refl)
  begun_follows (Some program) arguments n few =
      let uses = program_uses_input program arguments in
      let names = files_read program arguments in
      let reads = sum (λ m. input_ahead uses (n m)) (λ m. all_sizes names (L m)) (input_follows uses n few) (all_follow names) in
      program_follows program arguments (λ m. input_ahead uses (n m) + all_sizes names (L m)) reads

  words_follow : (words : List Bytes) (n : ℕ → ℕ) → Follows n → Follows (λ m. words_bytes words (n m) (L m))
  words_follow [] n few = inl (λ m. refl)
  words_follow (word ∷ arguments) n few = begun_follows (program_of word) arguments n few

  pub place_follows : (named : Names) (out : Bool) (t : Tree) (n : ℕ → ℕ) → Follows n → Follows (λ m. to_place named out t (n m) (L m))
  place_follows named out (exec words) n few = counted (out || list_any named (words_files_written words)) _ (words_follow words n few)
  place_follows named out (redir mode name body) n few = place_follows named (output_under named mode name out) body (λ m. input_under mode (n m) (L m name)) (under_follows mode n (λ m. L m name) few (follow name))
  place_follows named out (pipe left right) n few =
      sum (λ m. to_place named false left (n m) (L m)) (λ m. to_place named out right (to_place no_names true left (n m) (L m)) (L m)) (place_follows named false left n few)
      (place_follows named out right (λ m. to_place no_names true left (n m) (L m)) (place_follows no_names true left n few))
  place_follows named out (list left right) n few =
      sum (λ m. to_place named out left (n m) (L m)) (λ m. to_place named out right (n m) (L m)) (place_follows named out left n few) (place_follows named out right n few)
  place_follows named out (back body) n few = place_follows named out body n few

pub sizes_follow : (lines : List ScriptLine) (F : FileMap) (name : Name) → Follows (λ m. grown_where lines F m name)
sizes_follow lines F name = sum (λ m. sizes F name) (λ m. counted_if (is_written lines name) m) (inl (λ m. refl)) (counted (is_written lines name) (λ m. m) (inr (λ m. omega arith)))
