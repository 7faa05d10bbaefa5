-- Agreement of files, values alike on some names, and what a step keeps of a value.
use Rattle.std.proofs.Common.{◌≡◌, Bool, true, false, ◌++◌, refl, subst}
use Rattle.std.specs.Prelude.{◌||◌, ◌&&◌, not}
use Rattle.mem_files.specs.Name.{Name, Bytes}
use Rattle.mem_files.specs.Files.{FileMap}
use Rattle.prog_parts.specs.NameSets.{Names, no_names}
use Rattle.prog_parts.specs.Program.{is_empty}
use Rattle.script_load.specs.declared.profile.Profile.{Profile}
use Rattle.meaning_model.specs.Met.{seq_met}
use Rattle.meaning_model.specs.Value.{Value, nothing, seq_value, from_value}
pub use Rattle.tree_model.specs.Kept.{Agree, Keeps}
use Rattle.tree_model.specs.Final.{piped_value, final, pipe_met, left_met}
use Rattle.tree_model.specs.Residual.{Residual}
use Rattle.tree_model.specs.Step.{Move}

-- values alike on some names, and the names that each meets
pub record Alike (N : Name → Type 0) (v w : Value) (m k : Names) : Type 0 where
  pub out : v.out ≡ w.out
  pub rest : v.rest ≡ w.rest
  pub files : Agree N v.files w.files
  pub loose : v.loose ≡ w.loose
  pub soft : v.soft ≡ w.soft
  pub met : m ≡ k

-- a step that wrote this keeps what is left
abbrev pub KeepsLeft : Profile → Bytes → Residual → Bytes → FileMap → Residual → Bytes → FileMap → Type 0
KeepsLeft profile written X i F Y j G = Keeps written (final profile X i F) (final profile Y j G) (left_met profile Y j G)

-- moves alike on some names
pub record AlikeMove {X : Type 0} (N : Name → Type 0) (m k : Move X) : Type 0 where
  pub wrote : m.wrote ≡ k.wrote
  pub refused : m.refused ≡ k.refused
  pub took : m.took ≡ k.took
  pub next : m.next ≡ k.next
  pub files : Agree N m.files k.files

pub alike_nothing : (N : Name → Type 0) (i : Bytes) (F G : FileMap) → Agree N F G → Alike N (nothing i F) (nothing i G) no_names no_names
alike_nothing N i F G h = record { out = refl; rest = refl; files = h; loose = refl; soft = refl; met = refl }

pub alike_seq : (N : Name → Type 0) (ns : Names) (u : Bool) (v v' w w' : Value) {m m' k k' : Names} → Alike N v v' m m' → Alike N w w' k k' → Alike N (seq_value v w) (seq_value v' w') (seq_met ns u v m k) (seq_met ns u v' m' k')
alike_seq N ns u v v' w w' a b = record {
  out = λ t. a.out t ++ b.out t;
  rest = b.rest;
  files = b.files;
  loose = λ t. a.loose t || b.loose t;
  soft = λ t n. a.soft t n || b.soft t n;
  met = λ t n. a.met t n || b.met t n || (a.soft t n && ns n) || (a.loose t && u);
}

pub alike_pipe : (N : Name → Type 0) (l : Bool) (ws : Names) (u : Bool) (v v' w w' : Value) {m m' k k' : Names} → Alike N v v' m m' → Alike N w w' k k' → Alike N (piped_value l ws u v w) (piped_value l ws u v' w') (pipe_met l m k) (pipe_met l m' k')
alike_pipe N false ws u v v' w w' a b = record {
  out = b.out;
  rest = a.rest;
  files = b.files;
  loose = λ t. a.loose t || ((not (is_empty (b.rest t)) || b.loose t) && u);
  soft = λ t n. a.soft t n || b.soft t n || ((not (is_empty (b.rest t)) || b.loose t) && ws n);
  met = λ t n. a.met t n || b.met t n;
}
alike_pipe N true ws u v v' w w' a b = record {
  out = b.out;
  rest = a.rest;
  files = b.files;
  loose = refl;
  soft = λ t n. b.soft t n || ws n;
  met = b.met;
}

pub alike_from : (N : Name → Type 0) (i : Bytes) (v w : Value) {m k : Names} → Alike N v w m k → Alike N (from_value i v) (from_value i w) m k
alike_from N i v w a = record { out = a.out; rest = refl; files = a.files; loose = refl; soft = a.soft; met = a.met }

-- a continuation that is alike on alike files is alike on the inputs of alike values
pub alike_then : {I : Type 0} (N : Name → Type 0) (k : I → FileMap → Value) (m : I → FileMap → Names) (i j : I) (F G : FileMap) → i ≡ j → Alike N (k i F) (k i G) (m i F) (m i G) → Alike N (k i F) (k j G) (m i F) (m j G)
alike_then N k m i j F G e a = subst (λ x. Alike N (k i F) (k x G) (m i F) (m x G)) e a
