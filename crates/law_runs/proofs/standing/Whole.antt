-- A step of one side of a pipe, or of a redirection's body, as a step of the whole.
use Rattle.std.proofs.Common.{◌≡◌, ℕ, ◌+◌, ◌++◌, length, drop, Bool, true, false, refl, sym, ap, ◌∙◌, subst}
use Rattle.mem_files.specs.Name.{Name, Bytes}
use Rattle.mem_files.specs.Files.{FileMap, bytes_of}
use Rattle.sh_tree.specs.Tree.{Tree}
use Rattle.script_load.specs.declared.profile.Profile.{Profile}
use Rattle.user_calls.specs.declared.calls.Mode.{Mode}
use Rattle.user_calls.specs.declared.calls.Mode.TheVariants.{Input as ToRead, Fresh as ToFresh, Over as ToOver, Append as ToAppend}
use Rattle.tree_model.specs.Residual.{Residual, seq, piped, from, into, moved_on, keeps_0, keeps_1}
use Rattle.tree_model.specs.Rules.{Label, silent, takes, meets_end, puts, refused, Steps, is_gap, patched, seq_steps, left_silent, left_takes, left_meets_end, left_puts, left_refused, right_silent, right_takes, right_meets_end, right_puts, right_refused, from_silent, from_takes, from_meets_end, from_puts, from_refused, into_silent, into_takes, into_meets_end, into_puts, into_refused}
use Rattle.process_model.specs.Seen.{Entry, reader, writer, file, Place, View}
use Rattle.process_model.specs.Shape.{position, position_of}
use Rattle.process_model.specs.Effect.{NoHolder, further}
use Rattle.process_model.specs.Part.{Same, Tells, Moves, stays, goes, then_goes}

pub record Whole (profile : Profile) (n : ℕ) (V W : View) (a b : Entry) (X X' : Residual) : Type 0 where
  pub label : Label
  pub files : FileMap
  pub moves : Moves profile n X V.files label X' files
  pub tells : Tells V W files a b label

pub silent_moves : (profile : Profile) (f : Residual → Residual) (X X' : Residual) (F G : FileMap) → ((Y Z : Residual) (H I : FileMap) → Steps profile Y H silent Z I → Steps profile (f Y) H silent (f Z) I) → {n : ℕ} → Moves profile n X F silent X' G → Moves profile n (f X) F silent (f X') G
silent_moves profile f X X' F G step stays = stays
silent_moves profile f X X' F G step (goes s) = goes (step _ _ _ _ s)
silent_moves profile f X X' F G step (then_goes m s) = then_goes (silent_moves profile f X _ F _ step m) (step _ _ _ _ s)

pub seq_moves : (profile : Profile) (X X' : Residual) (t : Tree) (l : Label) (F G : FileMap) → {n : ℕ} → Moves profile n X F l X' G → Moves profile n (seq X t) F l (seq X' t) G
seq_moves profile X X' t silent F G m = silent_moves profile (λ Y. seq Y t) X X' F G (λ Y Z H I s. seq_steps s) m
seq_moves profile X X' t (takes c) F G (goes s) = goes (seq_steps s)
seq_moves profile X X' t meets_end F G (goes s) = goes (seq_steps s)
seq_moves profile X X' t (puts c) F G (goes s) = goes (seq_steps s)
seq_moves profile X X' t refused F G (goes s) = goes (seq_steps s)

same_bytes : (profile : Profile) (Z X' Y' : Residual) (lost : Bool) (q q' : Bytes) (l : Label) (F G : FileMap) → q' ≡ q → {n : ℕ} → Moves profile n Z F l (piped lost X' q Y') G → Moves profile n Z F l (piped lost X' q' Y') G
same_bytes profile Z X' Y' lost q q' l F G e {n} m = subst (λ z. Moves profile n Z F l (piped lost X' z Y') G) (sym e) m

-- whether a write was lost, and the step of the pipe
pub record Left (profile : Profile) (n : ℕ) (V W : View) (a b : Entry) (X : Residual) (Z : Bool → Residual) : Type 0 where
  pub lost : Bool
  pub whole : Whole profile n V W a b X (Z lost)

module _ (profile : Profile) (V W : View) (a b : Entry) (i : ℕ) (G : FileMap) where
  pub left_whole : (X X' Y : Residual) (lost : Bool) (q : Bytes) (l : Label) → {n : ℕ} → Moves profile n X V.files l X' G → Tells V W G a (writer i) l → V.pipes i ≡ q → Same V W b → (NoHolder V (reader i) → keeps_0 Y ≡ false) → Left profile n V W a b (piped lost X q Y) (λ lost'. piped lost' X' (W.pipes i) Y)
  left_whole X X' Y lost q silent m f e eb nk = record { lost = lost; whole = record { label = silent; files = G; moves = same_bytes profile (piped lost X q Y) X' Y lost q _ silent V.files G (f.1 ∙ e) (silent_moves profile (λ z. piped lost z q Y) X X' V.files G (λ y z h i s. left_silent s) m); tells = (f.0, eb, f.2) } }
  left_whole X X' Y lost q (takes c) (goes m) f e eb nk = record { lost = lost; whole = record { label = takes c; files = G; moves = same_bytes profile (piped lost X q Y) X' Y lost q _ (takes c) V.files G (f.1 ∙ e) (goes (left_takes m)); tells = (f.0, eb, f.2) } }
  left_whole X X' Y lost q meets_end (goes m) f e eb nk = record { lost = lost; whole = record { label = meets_end; files = G; moves = same_bytes profile (piped lost X q Y) X' Y lost q _ meets_end V.files G (f.2 ∙ e) (goes (left_meets_end m)); tells = (f.0, f.1, eb, f.3) } }
  left_whole X X' Y lost q (puts c) (goes m) f e eb nk = record { lost = lost; whole = record { label = silent; files = G; moves = goes (left_puts m (f.0.0 ∙ ap (λ z. z ++ c) e) f.0.1); tells = (f.1, eb, f.0.2) } }
  left_whole X X' Y lost q refused (goes m) f e eb nk = record { lost = true; whole = record { label = silent; files = G; moves = same_bytes profile (piped lost X q Y) X' Y true q _ silent V.files G (f.2 ∙ e) (goes (left_refused m (nk f.0))); tells = (f.1, eb, f.3) } }

  pub right_whole : (X Y Y' : Residual) (lost : Bool) (q : Bytes) (l : Label) → {n : ℕ} → Moves profile n Y V.files l Y' G → Tells V W G (reader i) b l → V.pipes i ≡ q → Same V W a → (NoHolder V (writer i) → keeps_1 X ≡ false) → Whole profile n V W a b (piped lost X q Y) (piped lost X (W.pipes i) Y')
  right_whole X Y Y' lost q silent m f e ea nk = record { label = silent; files = G; moves = same_bytes profile (piped lost X q Y) X Y' lost q _ silent V.files G (f.0 ∙ e) (silent_moves profile (λ z. piped lost X q z) Y Y' V.files G (λ y z h i s. right_silent s) m); tells = (ea, f.1, f.2) }
  right_whole X Y Y' lost q (takes c) (goes m) f e ea nk = record { label = silent; files = G; moves = goes (right_takes m (sym e ∙ f.0)); tells = (ea, f.1, f.2) }
  right_whole X Y Y' lost q meets_end (goes m) f e ea nk = record { label = silent; files = G; moves = same_bytes profile (piped lost X q Y) X Y' lost q _ silent V.files G (f.1 ∙ e) (goes (right_meets_end m (sym e ∙ f.0.0) (nk f.0.1))); tells = (ea, f.2, f.3) }
  right_whole X Y Y' lost q (puts c) (goes m) f e ea nk = record { label = puts c; files = G; moves = same_bytes profile (piped lost X q Y) X Y' lost q _ (puts c) V.files G (f.1 ∙ e) (goes (right_puts m)); tells = (f.0, ea) }
  right_whole X Y Y' lost q refused (goes m) f e ea nk = record { label = refused; files = G; moves = same_bytes profile (piped lost X q Y) X Y' lost q _ refused V.files G (f.1 ∙ e) (goes (right_refused m)); tells = (f.0, ea, f.2, f.3) }

-- a redirection's body: where it stands afterwards
pub record Redirected (profile : Profile) (n : ℕ) (V W : View) (a b : Entry) (e : ℕ) (mode : Mode) (f : Name) (X : Residual) (Y : ℕ → Residual) : Type 0 where
  pub at : ℕ
  pub place : W.places e ≡ record { name = f; mode = mode; at = at }
  pub whole : Whole profile n V W a b X (Y at)

module _ (profile : Profile) (V W : View) (a b : Entry) (e : ℕ) (mode : Mode) (f : Name) (at : ℕ) (G : FileMap) (place : V.places e ≡ record { name = f; mode = mode; at = at }) where
  pub input_whole : (X X' : Residual) (l : Label) → {n : ℕ} → Moves profile n X V.files l X' G → Tells V W G (file e) b l → Same V W a → Redirected profile n V W a b e mode f (from f at X) (λ n. from f n X')
  input_whole X X' silent m g ea = record { at = at; place = g.0 ∙ place; whole = record { label = silent; files = G; moves = silent_moves profile (λ z. from f at z) X X' V.files G (λ y z h i s. from_silent s) m; tells = (ea, g.1, g.2) } }
  input_whole X X' (takes c) (goes m) g ea = record { at = at + length c; place = g.0.0 ∙ ap (λ (x : Place). further x (length c)) place; whole = record { label = silent; files = G; moves = goes (from_takes g.0.1.0 m (sym (ap (λ (x : Place). drop x.at (bytes_of (V.files x.name))) place) ∙ g.0.1.1) refl); tells = (ea, g.1, g.2) } }
  input_whole X X' meets_end (goes m) g ea = record { at = at; place = g.1 ∙ place; whole = record { label = silent; files = G; moves = goes (from_meets_end m (sym (ap (λ (x : Place). drop x.at (bytes_of (V.files x.name))) place) ∙ g.0)); tells = (ea, g.2, g.3) } }
  input_whole X X' (puts c) (goes m) g ea = record { at = at; place = g.1 ∙ place; whole = record { label = puts c; files = G; moves = goes (from_puts m); tells = (g.0, ea) } }
  input_whole X X' refused (goes m) g ea = record { at = at; place = g.1 ∙ place; whole = record { label = refused; files = G; moves = goes (from_refused m); tells = (g.0, ea, g.2, g.3) } }

  -- behind what was put
  position_on : (way : Mode) (count : ℕ) → position way (at + count) ≡ moved_on (position way at) count
  position_on ToRead count = refl
  position_on ToFresh count = refl
  position_on ToOver count = refl
  position_on ToAppend count = refl

  pub output_whole : (X X' : Residual) (l : Label) → {n : ℕ} → Moves profile n X V.files l X' G → Tells V W G a (file e) l → Same V W b → Redirected profile n V W a b e mode f (into f (position mode at) X) (λ n. into f (position mode n) X')
  output_whole X X' silent m g eb = record { at = at; place = g.1 ∙ place; whole = record { label = silent; files = G; moves = silent_moves profile (λ z. into f (position mode at) z) X X' V.files G (λ y z h i s. into_silent s) m; tells = (g.0, eb, g.2) } }
  output_whole X X' (takes c) (goes m) g eb = record { at = at; place = g.1 ∙ place; whole = record { label = takes c; files = G; moves = goes (into_takes m); tells = (g.0, eb, g.2) } }
  output_whole X X' meets_end (goes m) g eb = record { at = at; place = g.2 ∙ place; whole = record { label = meets_end; files = G; moves = goes (into_meets_end m); tells = (g.0, g.1, eb, g.3) } }
  output_whole X X' (puts c) (goes m) g eb = record { at = at + length c; place = g.0.0 ∙ ap (λ (x : Place). further x (length c)) place; whole = record { label = silent; files = W.files; moves = goes (into_puts m (λ gap. g.0.1 (ap (λ (x : Place). is_gap (V.files x.name) (position_of x)) place ∙ gap)) (position_on mode (length c)) (g.0.2 ∙ ap (λ (x : Place). patched G x.name (position_of x) c) place)); tells = (g.1, eb, refl) } }
  output_whole X X' refused (goes m) g eb = record { at = at; place = g.2 ∙ place; whole = record { label = silent; files = G; moves = goes (into_refused m (sym (ap (λ (x : Place). is_gap (V.files x.name) (position_of x)) place) ∙ g.0)); tells = (g.1, eb, g.3) } }
