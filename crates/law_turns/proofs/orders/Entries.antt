-- The calls of entries and of pipes commute with new names of pipes.
use Rattle.std.proofs.Common.{◌≡◌, ℕ, ◌+◌, List, [], ◌∷◌, Bool, true, false, Option, Some, None, refl, sym, ap, ◌∙◌}
use Rattle.std.proofs.Math.ListN.{set, get_or-map}
use Rattle.std.proofs.lemmas.List.{map-set, map-append}
use Rattle.std.specs.Prelude.{map, nat_le, ◌==◌, ◌||◌, if◌then◌else◌, Result, Ok, Err}
use Rattle.byte_pipe.specs.PipeState.{PipeState, new_pipe, after_put, after_take, after_close_read, after_close_write}
use Rattle.fd_table.specs.declared.names.Object.{Object}
use Rattle.fd_table.specs.declared.faults.FdFault.{FdFault}
use Rattle.fd_table.specs.Entries.{OpenFile, Entries, entry_at, is_free, lowest_free_entry, free_count, added, added_at, opened, more_held, less_held, last_object, moved_on, advanced, going_on_at, moved_to}
use Rattle.fd_table.specs.Descriptors.{Descriptors, close_answer, released_by_close, held_by_dup, holders_in, all_held_from, all_held}
use Rattle.kernel_model.specs.KernelState.{file_at}
use Rattle.kernel_model.specs.Pipes.{Pipes, pipe_of, with_pipe, without_pipe, with_new, kept_while_open, put_into, taken_from, reader_gone, writer_gone}
use Rattle.kernel_model.specs.Idle.{renamed_object, renamed_entry, renamed_pipe}
use Rattle.kernel_model.specs.Alike.{IsOneToOne}
use Rattle.law_turns.proofs.orders.Tables.{position_map, count_map, same_eq}

-- ---- one entry

renamed_free : (name : ℕ → ℕ) (x : Option OpenFile) → is_free (renamed_entry name x) ≡ is_free x
renamed_free name None = refl
renamed_free name (Some f) = refl

renamed_more : (name : ℕ → ℕ) (n : ℕ) (x : Option OpenFile) → more_held n (renamed_entry name x) ≡ renamed_entry name (more_held n x)
renamed_more name n None = refl
renamed_more name n (Some f) = refl

less_by : (name : ℕ → ℕ) (f : OpenFile) (b : Bool) (less : OpenFile) → (if b then None else Some (record less { object = renamed_object name less.object })) ≡ renamed_entry name (if b then None else Some less)
less_by name f true less = refl
less_by name f false less = refl

renamed_less : (name : ℕ → ℕ) (x : Option OpenFile) → less_held (renamed_entry name x) ≡ renamed_entry name (less_held x)
renamed_less name None = refl
renamed_less name (Some f) = less_by name f (nat_le f.count 1) _

renamed_on : (name : ℕ → ℕ) (n : ℕ) (x : Option OpenFile) → moved_on n (renamed_entry name x) ≡ renamed_entry name (moved_on n x)
renamed_on name n None = refl
renamed_on name n (Some f) = refl

renamed_going : (name : ℕ → ℕ) (n : ℕ) (x : Option OpenFile) → going_on_at n (renamed_entry name x) ≡ renamed_entry name (going_on_at n x)
renamed_going name n None = refl
renamed_going name n (Some f) = refl

-- the object, if there is one
abbrev pub renamed_if : (ℕ → ℕ) → Option Object → Option Object
renamed_if name None = None
renamed_if name (Some object) = Some (renamed_object name object)

last_by : (name : ℕ → ℕ) (b : Bool) (object : Object) → (if b then Some (renamed_object name object) else None) ≡ renamed_if name (if b then Some object else None)
last_by name true object = refl
last_by name false object = refl

renamed_last : (name : ℕ → ℕ) (x : Option OpenFile) → last_object (renamed_entry name x) ≡ renamed_if name (last_object x)
renamed_last name None = refl
renamed_last name (Some f) = last_by name (nat_le f.count 1) f.object

-- the answer of a close
abbrev pub renamed_answer : (ℕ → ℕ) → Result (Option Object) FdFault → Result (Option Object) FdFault
renamed_answer name (Ok o) = Ok (renamed_if name o)
renamed_answer name (Err fault) = Err fault

-- ---- the entries

module _ (name : ℕ → ℕ) where
  abbrev pub entries_renamed : Entries → Entries
  entries_renamed t = map (renamed_entry name) t

  pub entry_renamed : (t : Entries) (e : ℕ) → entry_at (entries_renamed t) e ≡ renamed_entry name (entry_at t e)
  entry_renamed t e = get_or-map (renamed_entry name) t e None

  pub file_renamed : (t : Entries) (o : Option ℕ) → file_at (entries_renamed t) o ≡ renamed_entry name (file_at t o)
  file_renamed t None = refl
  file_renamed t (Some e) = entry_renamed t e

  pub lowest_renamed : (t : Entries) → lowest_free_entry (entries_renamed t) ≡ lowest_free_entry t
  lowest_renamed t = position_map is_free is_free (renamed_entry name) (renamed_free name) t

  pub free_renamed : (t : Entries) → free_count (entries_renamed t) ≡ free_count t
  free_renamed t = count_map is_free is_free (renamed_entry name) (renamed_free name) t

  set_renamed : (f : Option OpenFile → Option OpenFile) → ((x : Option OpenFile) → f (renamed_entry name x) ≡ renamed_entry name (f x)) → (t : Entries) (e : ℕ) → set (entries_renamed t) e (f (entry_at (entries_renamed t) e)) ≡ entries_renamed (set t e (f (entry_at t e)))
  set_renamed f each t e =
      ap (λ (x : Option OpenFile). set (entries_renamed t) e x) (ap f (entry_renamed t e) ∙ each (entry_at t e)) ∙ sym (map-set (renamed_entry name) t e (f (entry_at t e)))

  pub advanced_renamed : (t : Entries) (e n : ℕ) → advanced (entries_renamed t) e n ≡ entries_renamed (advanced t e n)
  advanced_renamed t e n = set_renamed (moved_on n) (renamed_on name n) t e

  pub moved_renamed : (t : Entries) (e n : ℕ) → moved_to (entries_renamed t) e n ≡ entries_renamed (moved_to t e n)
  moved_renamed t e n = set_renamed (going_on_at n) (renamed_going name n) t e

  added_at_renamed : (t : Entries) (o : Option ℕ) (object : Object) → added_at (entries_renamed t) o (renamed_object name object) ≡ entries_renamed (added_at t o object)
  added_at_renamed t None object = refl
  added_at_renamed t (Some e) object = sym (map-set (renamed_entry name) t e (Some (opened object)))

  pub added_renamed : (t : Entries) (object : Object) → added (entries_renamed t) (renamed_object name object) ≡ entries_renamed (added t object)
  added_renamed t object = ap (λ (o : Option ℕ). added_at (entries_renamed t) o (renamed_object name object)) (lowest_renamed t) ∙ added_at_renamed t (lowest_free_entry t) object

  pub closed_renamed : (t : Entries) (o : Option ℕ) → released_by_close (entries_renamed t) o ≡ entries_renamed (released_by_close t o)
  closed_renamed t None = refl
  closed_renamed t (Some e) = set_renamed less_held (renamed_less name) t e

  pub answer_renamed : (t : Entries) (o : Option ℕ) → close_answer (entries_renamed t) o ≡ renamed_answer name (close_answer t o)
  answer_renamed t None = refl
  answer_renamed t (Some e) = ap Ok (ap last_object (entry_renamed t e) ∙ renamed_last name (entry_at t e))

  pub dup_renamed : (t : Entries) (o place : Option ℕ) → held_by_dup (entries_renamed t) o place ≡ entries_renamed (held_by_dup t o place)
  dup_renamed t None place = refl
  dup_renamed t (Some e) None = refl
  dup_renamed t (Some e) (Some place) = set_renamed (more_held 1) (renamed_more name 1) t e

  held_from_renamed : (e : ℕ) (t : Entries) (fds : Descriptors) → all_held_from e (entries_renamed t) fds ≡ entries_renamed (all_held_from e t fds)
  held_from_renamed e [] fds = refl
  held_from_renamed e (x ∷ t) fds = λ i. renamed_more name (holders_in fds e) x i ∷ held_from_renamed (e + 1) t fds i

  pub all_held_renamed : (t : Entries) (fds : Descriptors) → all_held (entries_renamed t) fds ≡ entries_renamed (all_held t fds)
  all_held_renamed t fds = held_from_renamed 0 t fds

-- ---- the pipes

module _ (name : ℕ → ℕ) (one : IsOneToOne name) where
  abbrev pub pipes_renamed : Pipes → Pipes
  pipes_renamed pipes = map (renamed_pipe name) pipes

  pub pipe_renamed : (pipes : Pipes) (id : ℕ) → pipe_of (pipes_renamed pipes) (name id) ≡ pipe_of pipes id
  pipe_renamed [] id = refl
  pipe_renamed (p ∷ rest) id = λ i. if same_eq name one id p.0 i then Some p.1 else pipe_renamed rest id i

  with_by : (b : Bool) (p q : ℕ × PipeState) (rest more : Pipes) → (if b then renamed_pipe name q ∷ pipes_renamed rest else renamed_pipe name p ∷ pipes_renamed more) ≡ pipes_renamed (if b then q ∷ rest else p ∷ more)
  with_by true p q rest more = refl
  with_by false p q rest more = refl

  pub with_renamed : (pipes : Pipes) (id : ℕ) (now : PipeState) → with_pipe (pipes_renamed pipes) (name id) now ≡ pipes_renamed (with_pipe pipes id now)
  with_renamed [] id now = refl
  with_renamed (p ∷ rest) id now =
      (λ i. if same_eq name one id p.0 i then (name p.0, now) ∷ pipes_renamed rest else renamed_pipe name p ∷ with_renamed rest id now i) ∙ with_by (id == p.0) p (p.0, now) rest (with_pipe rest id now)

  without_by : (b : Bool) (p : ℕ × PipeState) (rest more : Pipes) → (if b then pipes_renamed rest else renamed_pipe name p ∷ pipes_renamed more) ≡ pipes_renamed (if b then rest else p ∷ more)
  without_by true p rest more = refl
  without_by false p rest more = refl

  without_renamed : (pipes : Pipes) (id : ℕ) → without_pipe (pipes_renamed pipes) (name id) ≡ pipes_renamed (without_pipe pipes id)
  without_renamed [] id = refl
  without_renamed (p ∷ rest) id =
      (λ i. if same_eq name one id p.0 i then pipes_renamed rest else renamed_pipe name p ∷ without_renamed rest id i) ∙ without_by (id == p.0) p rest (without_pipe rest id)

  pub new_renamed : (pipes : Pipes) (id : ℕ) → with_new (pipes_renamed pipes) (name id) ≡ pipes_renamed (with_new pipes id)
  new_renamed pipes id = sym (map-append (renamed_pipe name) pipes ((id, new_pipe) ∷ []))

  kept_by : (b : Bool) (x y : Pipes) (u v : Pipes) → x ≡ pipes_renamed u → y ≡ pipes_renamed v → (if b then x else y) ≡ pipes_renamed (if b then u else v)
  kept_by true x y u v is or = is
  kept_by false x y u v is or = or

  kept_renamed : (pipes : Pipes) (id : ℕ) (now : PipeState) → kept_while_open (pipes_renamed pipes) (name id) now ≡ pipes_renamed (kept_while_open pipes id now)
  kept_renamed pipes id now = kept_by (now.reader || now.writer) _ _ _ _ (with_renamed pipes id now) (without_renamed pipes id)

  pub put_renamed : (pipes : Pipes) (id : ℕ) (xs : List ℕ) (o : Option PipeState) → put_into (pipes_renamed pipes) (name id) xs o ≡ pipes_renamed (put_into pipes id xs o)
  put_renamed pipes id xs None = refl
  put_renamed pipes id xs (Some p) = with_renamed pipes id (after_put p xs)

  pub taken_renamed : (pipes : Pipes) (id n : ℕ) (o : Option PipeState) → taken_from (pipes_renamed pipes) (name id) n o ≡ pipes_renamed (taken_from pipes id n o)
  taken_renamed pipes id n None = refl
  taken_renamed pipes id n (Some p) = with_renamed pipes id (after_take p n)

  pub reader_renamed : (pipes : Pipes) (id : ℕ) (o : Option PipeState) → reader_gone (pipes_renamed pipes) (name id) o ≡ pipes_renamed (reader_gone pipes id o)
  reader_renamed pipes id None = refl
  reader_renamed pipes id (Some p) = kept_renamed pipes id (after_close_read p)

  pub writer_renamed : (pipes : Pipes) (id : ℕ) (o : Option PipeState) → writer_gone (pipes_renamed pipes) (name id) o ≡ pipes_renamed (writer_gone pipes id o)
  writer_renamed pipes id None = refl
  writer_renamed pipes id (Some p) = kept_renamed pipes id (after_close_write p)
