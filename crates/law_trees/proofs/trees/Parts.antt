-- Files and values of parts that are alike on some names, and what is opened or written at one name alone.
use Rattle.std.proofs.Common.{◌≡◌, Bool, true, false, [], Option, Some, None, refl, ap, subst}
use Rattle.std.specs.Prelude.{◌||◌, if◌then◌else◌}
use Rattle.std.specs.Str.{bytes_eq}
use Rattle.std.proofs.lemmas.Bool.{or_left}
use Rattle.sh_tree.specs.declared.tree.Mode.{Mode}
use Rattle.sh_tree.specs.declared.tree.Mode.TheVariants.{Input, Fresh, Over}
use Rattle.mem_files.specs.Name.{Name, Bytes, is_openable}
use Rattle.mem_files.specs.Files.{FileMap, with_file, bytes_of}
use Rattle.prog_parts.specs.NameSets.{Names, no_names}
use Rattle.meaning_model.specs.Inputs.{found}
use Rattle.meaning_model.specs.Met.{input_met}
use Rattle.meaning_model.specs.Value.{Value, into_value}
use Rattle.meaning_model.specs.Meaning.{input_value, output_value, opened}
use Rattle.law_trees.proofs.programs.Framing.{itself}
use Rattle.tree_model.specs.Residual.{Position}
use Rattle.tree_model.specs.Rules.{patch, patched}
use Rattle.tree_model.specs.Final.{piped_value, patch_value}
use Rattle.law_trees.proofs.trees.Values.{Agree, Alike, alike_nothing, alike_from}

pub agree_with : (N : Name → Type 0) (F G : FileMap) (f : Name) (b c : Bytes) → Agree N F G → b ≡ c → Agree N (with_file F f b) (with_file G f c)
agree_with N F G f b c h e = record { at = λ n hn t. if bytes_eq n f then Some (e t) else h.at n hn t }

pub agree_opened : (N : Name → Type 0) (m : Mode) (F G : FileMap) (f : Name) → N f → Agree N F G → Agree N (opened m f F) (opened m f G)
agree_opened N Input F G f nf h = h
agree_opened N Fresh F G f nf h = agree_with N F G f [] [] h refl
agree_opened N Over F G f nf h = agree_with N F G f (bytes_of (F f)) (bytes_of (G f)) h (ap bytes_of (h.at f nf))

pub alike_into : (N : Name → Type 0) (f : Name) (b c : Bytes) (v w : Value) {m k : Names} → b ≡ c → Alike N v w m k → Alike N (into_value f b v) (into_value f c w) m k
alike_into N f b c v w e a = record { out = refl; rest = a.rest; files = agree_with N v.files w.files f b c a.files e; loose = a.loose; soft = a.soft; met = a.met }

pub agree_patched : (N : Name → Type 0) (F G : FileMap) (f : Name) (at : Position) (o o' : Bytes) → Agree N F G → o ≡ o' → Agree N (patched F f at o) (patched G f at o')
agree_patched N F G f at o o' h e = record { at = λ n hn t. if bytes_eq n f then patch (h.at n hn t) at (e t) else h.at n hn t }

pub alike_patch : (N : Name → Type 0) (f : Name) (at : Position) (v w : Value) {m k : Names} → Alike N v w m k → Alike N (patch_value f at v) (patch_value f at w) m k
alike_patch N f at v w a = record { out = refl; rest = a.rest; files = agree_patched N v.files w.files f at v.out w.out a.files a.out; loose = a.loose; soft = a.soft; met = a.met }

pub found_same : (f : Name) (F G : FileMap) → F f ≡ G f → found F f ≡ found G f
found_same f F G e = λ t. if is_openable f then e t else None

pub alike_input : (N : Name → Type 0) (b c : Option Bytes) (i : Bytes) (F G : FileMap) (k l : Bytes → Value) (m n : Bytes → Names) → b ≡ c → Agree N F G → ((x : Bytes) → Alike N (k x) (l x) (m x) (n x)) → Alike N (input_value b i F k) (input_value c i G l) (input_met b m) (input_met c n)
alike_input N b c i F G k l m n e h a = subst (λ x. Alike N (input_value b i F k) (input_value x i G l) (input_met b m) (input_met x n)) e (go b)
  where
    go : (b : Option Bytes) → Alike N (input_value b i F k) (input_value b i G l) (input_met b m) (input_met b n)
    go None = alike_nothing N i F G h
    go (Some b) = alike_from N i (k b) (l b) (a b)

pub alike_output : (N : Name → Type 0) (t : Bool) (i : Bytes) (F G : FileMap) (v w : Value) {m k : Names} → Agree N F G → Alike N v w m k → Alike N (output_value t i F v) (output_value t i G w) (if t then m else no_names) (if t then k else no_names)
alike_output N false i F G v w h a = alike_nothing N i F G h
alike_output N true i F G v w h a = a

pub named_self : (f : Name) (b : Bool) → (bytes_eq f f || b) ≡ true
named_self f b = or_left (bytes_eq f f) b (itself f)

pub with_other : (F : FileMap) (f n : Name) (b : Bytes) → bytes_eq n f ≡ false → with_file F f b n ≡ F n
with_other F f n b e = ap (λ (t : Bool). if t then Some b else F n) e

pub patched_other : (F : FileMap) (f n : Name) (at : Position) (o : Bytes) → bytes_eq n f ≡ false → patched F f at o n ≡ F n
patched_other F f n at o e = ap (λ (t : Bool). if t then patch (F n) at o else F n) e

pub opened_other : (m : Mode) (F : FileMap) (f n : Name) → bytes_eq n f ≡ false → opened m f F n ≡ F n
opened_other Input F f n e = refl
opened_other Fresh F f n e = with_other F f n [] e
opened_other Over F f n e = with_other F f n (bytes_of (F f)) e

pub input_only : (b : Option Bytes) (i : Bytes) (F : FileMap) (k : Bytes → Value) (n : Name) → ((x : Bytes) → (k x).files n ≡ F n) → (input_value b i F k).files n ≡ F n
input_only None i F k n a = refl
input_only (Some b) i F k n a = a b

pub output_only : (t : Bool) (i : Bytes) (F : FileMap) (v : Value) (n : Name) → v.files n ≡ F n → (output_value t i F v).files n ≡ F n
output_only false i F v n a = refl
output_only true i F v n a = a

pub pipe_files : (b : Bool) (ws : Names) (u : Bool) (v w : Value) (n : Name) → (piped_value b ws u v w).files n ≡ w.files n
pipe_files false ws u v w n = refl
pipe_files true ws u v w n = refl
