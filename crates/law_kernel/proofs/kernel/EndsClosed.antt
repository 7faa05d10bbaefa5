-- An open, a close and a new pipe keep the ends of pipes and the entries that hold them in step.
use Rattle.std.proofs.Common.{◌≡◌, ◌≢◌, ◌⊎◌, ℕ, zero, suc, ◌+◌, Bool, true, false, Option, Some, None, refl, sym, ap, subst, ◌∙◌, arith, inl, inr}
use Rattle.std.proofs.Math.ListN.{set}
use Rattle.std.proofs.lemmas.Bool.{cases_eq, eq-eqb, ne_eqb}
use Rattle.std.specs.Prelude.{◌==◌, ◌||◌, if◌then◌else◌, nat_le, ◌-◌, count_by, Ok}
use Rattle.fd_table.specs.declared.names.Object.{Object}
use Rattle.fd_table.specs.declared.names.Object.TheVariants.{Input, Out, Diag, File, PipeRead, PipeWrite}
use Rattle.fd_table.specs.Entries.{Entries, OpenFile, entry_at, less_held, last_object, released}
use Rattle.fd_table.specs.Descriptors.{entry_of}
use Rattle.byte_pipe.specs.PipeState.{PipeState, after_close_read, after_close_write}
use Rattle.proc_table.specs.Slots.{tally}
use Rattle.kernel_model.specs.KernelState.{KernelState, fds_at}
use Rattle.kernel_model.specs.Pipes.{Pipes, pipe_of, with_pipe, without_pipe, kept_while_open, reader_gone, writer_gone}
use Rattle.kernel_model.specs.Descriptors.{let_go, let_go_of, taken_away, closed_by, closed, closed_below}
use Rattle.law_kernel.specs.Ends.{reads_pipe, writes_pipe, has_object, read_end_open, write_end_open, AreApart, EndsAgree}
use Rattle.law_kernel.proofs.kernel.OnePipe.{found_now, others_found, others_stay}
use Rattle.law_kernel.proofs.kernel.PipeNames.{apart_with, apart_without, apart_closed, given_up_is_gone}
use Rattle.law_kernel.proofs.kernel.EntryCounts.{unchanged, freed}
use mathlib.Core.Bool.{or-false}

-- entries that have the same objects open
pub entries_agree : (E now : Entries) (pipes : Pipes) → ((test : Object → Bool) → count_by (has_object test) now ≡ count_by (has_object test) E) → EndsAgree E pipes → EndsAgree now pipes
entries_agree E now pipes same a =
    record { readers = λ id. same (reads_pipe id) ∙ a.readers id; writers = λ id. same (writes_pipe id) ∙ a.writers id; apart = a.apart }

-- pipes with the same ends open
pub pipes_agree : (E : Entries) (pipes now : Pipes) → ((i : ℕ) → read_end_open (pipe_of now i) ≡ read_end_open (pipe_of pipes i)) → ((i : ℕ) → write_end_open (pipe_of now i) ≡ write_end_open (pipe_of pipes i)) → AreApart now → EndsAgree E pipes → EndsAgree E now
pipes_agree E pipes now readers writers apart a =
    record { readers = λ id. a.readers id ∙ ap tally (sym (readers id)); writers = λ id. a.writers id ∙ ap tally (sym (writers id)); apart = apart }

-- what a test says of the pipe of each name, once the one named id became `now`
told_now : (told : Option PipeState → Bool) (pipes : Pipes) (id i : ℕ) (p now : PipeState) (v : Bool) → pipe_of pipes id ≡ Some p → told (Some now) ≡ v → (i ≡ id → v ≡ told (pipe_of pipes i)) → (i ≡ id) ⊎ (i ≢ id) → told (pipe_of (with_pipe pipes id now) i) ≡ told (pipe_of pipes i)
told_now told pipes id i p now v found is same (inl at) = ap (λ (k : ℕ). told (pipe_of (with_pipe pipes id now) k)) at ∙ ap told (found_now pipes id p now found) ∙ is ∙ same at
told_now told pipes id i p now v found is same (inr ne) = ap told (others_found pipes id i now ne)

-- bytes come and go, and the ends stay
pub bytes_agree : (E : Entries) (pipes : Pipes) (id : ℕ) (p now : PipeState) → pipe_of pipes id ≡ Some p → now.reader ≡ p.reader → now.writer ≡ p.writer → EndsAgree E pipes → EndsAgree E (with_pipe pipes id now)
bytes_agree E pipes id p now found reader writer a =
    pipes_agree E pipes (with_pipe pipes id now)
    (λ i. told_now read_end_open pipes id i p now p.reader found reader (λ at. sym (ap (λ (k : ℕ). read_end_open (pipe_of pipes k)) at ∙ ap read_end_open found)) (cases_eq i id))
    (λ i. told_now write_end_open pipes id i p now p.writer found writer (λ at. sym (ap (λ (k : ℕ). write_end_open (pipe_of pipes k)) at ∙ ap write_end_open found)) (cases_eq i id))
    (apart_with pipes id now a.apart) a

-- ---- an end is closed

-- what a test says of the pipe of each name, once an end of the one named id was closed
told_gone : (told : Option PipeState → Bool) (pipes : Pipes) (id i : ℕ) (p now : PipeState) (b : Bool) → AreApart pipes → pipe_of pipes id ≡ Some p → told None ≡ false → (i ≡ id) ⊎ (i ≢ id) → told (pipe_of (if b then with_pipe pipes id now else without_pipe pipes id) i) ≡ (if i == id then (if b then told (Some now) else false) else told (pipe_of pipes i))
told_gone told pipes id i p now true apart found none (inl at) =
    ap (λ (k : ℕ). told (pipe_of (with_pipe pipes id now) k)) at ∙ ap told (found_now pipes id p now found) ∙ ap (λ (b : Bool). if b then told (Some now) else told (pipe_of pipes i)) (sym (eq-eqb i id at))
told_gone told pipes id i p now false apart found none (inl at) =
    ap (λ (k : ℕ). told (pipe_of (without_pipe pipes id) k)) at ∙ ap told (given_up_is_gone pipes id apart) ∙ none ∙ ap (λ (b : Bool). if b then false else told (pipe_of pipes i)) (sym (eq-eqb i id at))
told_gone told pipes id i p now true apart found none (inr ne) =
    ap told (others_found pipes id i now ne) ∙ ap (λ (b : Bool). if b then told (Some now) else told (pipe_of pipes i)) (sym (ne_eqb i id ne))
told_gone told pipes id i p now false apart found none (inr ne) =
    ap told (others_stay pipes id i ne) ∙ ap (λ (b : Bool). if b then false else told (pipe_of pipes i)) (sym (ne_eqb i id ne))

-- the counts of the entries that hold an end, of which one was freed
one_freed : (before now : ℕ) (same held : Bool) → now + tally same ≡ before → before ≡ tally held → now ≡ tally (if same then false else held)
one_freed before now true true freed_one is = omega (arith, freed_one, is)
one_freed before now true false freed_one is = absurd (omega (arith, freed_one, is))
one_freed before now false held freed_one is = omega (arith, freed_one, is)

none_freed : (before now : ℕ) (held still : Bool) → now + 0 ≡ before → before ≡ tally held → still ≡ held → now ≡ tally still
none_freed before now held still none is same = omega (arith, none, is, ap tally same)

if_false : (a b : Bool) → (if b then false else false) ≡ false
if_false a true = refl
if_false a false = refl

-- an end stays as it was, also where its pipe is given up: it was closed then
stays_open : (i id : ℕ) (b open_there : Bool) (o : Bool) → (i ≡ id → o ≡ b) → (i ≡ id) ⊎ (i ≢ id) → (if i == id then (if b then b else false) else o) ≡ o
stays_open i id true open_there o there (inl at) = ap (λ (x : Bool). if x then true else o) (eq-eqb i id at) ∙ sym (there at)
stays_open i id false open_there o there (inl at) = ap (λ (x : Bool). if x then false else o) (eq-eqb i id at) ∙ sym (there at)
stays_open i id b open_there o there (inr ne) = ap (λ (x : Bool). if x then (if b then b else false) else o) (ne_eqb i id ne)

closed_end : (i id : ℕ) (b o : Bool) → (if i == id then (if b then false else false) else o) ≡ (if i == id then false else o)
closed_end i id b o = ap (λ (x : Bool). if i == id then x else o) (if_false b b)

module _ (E : Entries) (pipes : Pipes) (e id : ℕ) (f : OpenFile) (a : EndsAgree E pipes) (is : entry_at E e ≡ Some f) where
  -- the last holder of a read end closes it
  reader_agrees : f.object ≡ PipeRead id → (o : Option PipeState) → pipe_of pipes id ≡ o → EndsAgree (set E e None) (reader_gone pipes id o)
  reader_agrees object None found =
      absurd (omega (arith, freed (reads_pipe id) E e f is, ap (λ (x : Object). tally (reads_pipe id x)) object, ap tally (eq-eqb id id refl), a.readers id, ap (λ (x : Option PipeState). tally (read_end_open x)) found))
  reader_agrees object (Some p) found =
      let now = after_close_read p in
      record {
        readers = λ i.
            one_freed (count_by (has_object (reads_pipe i)) E) (count_by (has_object (reads_pipe i)) (set E e None)) (i == id) (read_end_open (pipe_of pipes i))
            (omega (arith, freed (reads_pipe i) E e f is, ap (λ (x : Object). tally (reads_pipe i x)) object)) (a.readers i)
            ∙ ap tally (sym (told_gone read_end_open pipes id i p now p.writer a.apart found refl (cases_eq i id) ∙ closed_end i id p.writer (read_end_open (pipe_of pipes i))));
        writers = λ i.
            none_freed (count_by (has_object (writes_pipe i)) E) (count_by (has_object (writes_pipe i)) (set E e None)) (write_end_open (pipe_of pipes i)) (write_end_open (pipe_of (kept_while_open pipes id now) i))
            (omega (arith, freed (writes_pipe i) E e f is, ap (λ (x : Object). tally (writes_pipe i x)) object)) (a.writers i)
            (told_gone write_end_open pipes id i p now p.writer a.apart found refl (cases_eq i id)
            ∙ stays_open i id p.writer true (write_end_open (pipe_of pipes i)) (λ at. ap (λ (k : ℕ). write_end_open (pipe_of pipes k)) at ∙ ap write_end_open found) (cases_eq i id));
        apart = apart_closed pipes id now a.apart;
      }

  -- the last holder of a write end closes it
  writer_agrees : f.object ≡ PipeWrite id → (o : Option PipeState) → pipe_of pipes id ≡ o → EndsAgree (set E e None) (writer_gone pipes id o)
  writer_agrees object None found =
      absurd (omega (arith, freed (writes_pipe id) E e f is, ap (λ (x : Object). tally (writes_pipe id x)) object, ap tally (eq-eqb id id refl), a.writers id, ap (λ (x : Option PipeState). tally (write_end_open x)) found))
  writer_agrees object (Some p) found = by (p.reader || false) (or-false p.reader) where
    now : PipeState
    now = after_close_write p

    by : (b : Bool) → b ≡ p.reader → EndsAgree (set E e None) (if b then with_pipe pipes id now else without_pipe pipes id)
    by b same =
        record {
          readers = λ i.
              none_freed (count_by (has_object (reads_pipe i)) E) (count_by (has_object (reads_pipe i)) (set E e None)) (read_end_open (pipe_of pipes i)) (read_end_open (pipe_of (if b then with_pipe pipes id now else without_pipe pipes id) i))
              (omega (arith, freed (reads_pipe i) E e f is, ap (λ (x : Object). tally (reads_pipe i x)) object)) (a.readers i)
              (told_gone read_end_open pipes id i p now b a.apart found refl (cases_eq i id)
              ∙ ap (λ (x : Bool). if i == id then (if b then x else false) else read_end_open (pipe_of pipes i)) (sym same)
              ∙ stays_open i id b true (read_end_open (pipe_of pipes i)) (λ at. ap (λ (k : ℕ). read_end_open (pipe_of pipes k)) at ∙ ap read_end_open found ∙ sym same) (cases_eq i id));
          writers = λ i.
              one_freed (count_by (has_object (writes_pipe i)) E) (count_by (has_object (writes_pipe i)) (set E e None)) (i == id) (write_end_open (pipe_of pipes i))
              (omega (arith, freed (writes_pipe i) E e f is, ap (λ (x : Object). tally (writes_pipe i x)) object)) (a.writers i)
              ∙ ap tally (sym (told_gone write_end_open pipes id i p now b a.apart found refl (cases_eq i id) ∙ closed_end i id b (write_end_open (pipe_of pipes i))));
          apart = apart_by b;
        } where
          apart_by : (b : Bool) → AreApart (if b then with_pipe pipes id now else without_pipe pipes id)
          apart_by true = apart_with pipes id now a.apart
          apart_by false = apart_without pipes id a.apart

module _ {S : Type 0} (pid : ℕ) where
  -- the ends of the kernel's pipes and its entries are in step
  abbrev Agrees : KernelState S → Type 0
  Agrees k = EndsAgree k.entries k.pipes

  -- ---- a close

  -- the last holder of anything else closes no end
  freed_other : (k : KernelState S) (e : ℕ) (f : OpenFile) (object : Object) → entry_at k.entries e ≡ Some f → f.object ≡ object → ((id : ℕ) → reads_pipe id object ≡ false) → ((id : ℕ) → writes_pipe id object ≡ false) → Agrees k → EndsAgree (set k.entries e None) k.pipes
  freed_other k e f object is at no_reader no_writer a =
      record {
        readers = λ id. omega (arith, freed (reads_pipe id) k.entries e f is, ap (λ (x : Object). tally (reads_pipe id x)) at, ap tally (no_reader id), a.readers id);
        writers = λ id. omega (arith, freed (writes_pipe id) k.entries e f is, ap (λ (x : Object). tally (writes_pipe id x)) at, ap tally (no_writer id), a.writers id);
        apart = a.apart;
      }

  let_go_agrees : (k : KernelState S) (e : ℕ) (f : OpenFile) (object : Object) → entry_at k.entries e ≡ Some f → f.object ≡ object → Agrees k → Agrees (let_go (record k { entries = set k.entries e None }) object)
  let_go_agrees k e f Input is at a = freed_other k e f Input is at (λ id. refl) (λ id. refl) a
  let_go_agrees k e f Out is at a = freed_other k e f Out is at (λ id. refl) (λ id. refl) a
  let_go_agrees k e f Diag is at a = freed_other k e f Diag is at (λ id. refl) (λ id. refl) a
  let_go_agrees k e f (File name mode) is at a = freed_other k e f (File name mode) is at (λ id. refl) (λ id. refl) a
  let_go_agrees k e f (PipeRead id) is at a = reader_agrees k.entries k.pipes e id f a is at (pipe_of k.pipes id) refl
  let_go_agrees k e f (PipeWrite id) is at a = writer_agrees k.entries k.pipes e id f a is at (pipe_of k.pipes id) refl

  moved : (k l : KernelState S) → k.entries ≡ l.entries → k.pipes ≡ l.pipes → Agrees l → Agrees k
  moved k l e p a = subst (λ (P : Pipes). EndsAgree k.entries P) (sym p) (subst (λ (E : Entries). EndsAgree E l.pipes) (sym e) a)

  -- what is let go depends on the pipes alone
  let_go_same : (k l : KernelState S) (o : Option Object) → k.entries ≡ l.entries → k.pipes ≡ l.pipes → Agrees (let_go_of l (Ok o)) → Agrees (let_go_of k (Ok o))
  let_go_same k l None e p a = moved k l e p a
  let_go_same k l (Some Input) e p a = moved k l e p a
  let_go_same k l (Some Out) e p a = moved k l e p a
  let_go_same k l (Some Diag) e p a = moved k l e p a
  let_go_same k l (Some (File name mode)) e p a = moved k l e p a
  let_go_same k l (Some (PipeRead id)) e p a = subst (λ (P : Pipes). EndsAgree k.entries (reader_gone P id (pipe_of P id))) (sym p) (subst (λ (E : Entries). EndsAgree E (reader_gone l.pipes id (pipe_of l.pipes id))) (sym e) a)
  let_go_same k l (Some (PipeWrite id)) e p a = subst (λ (P : Pipes). EndsAgree k.entries (writer_gone P id (pipe_of P id))) (sym p) (subst (λ (E : Entries). EndsAgree E (writer_gone l.pipes id (pipe_of l.pipes id))) (sym e) a)

  release_by : (k : KernelState S) (e : ℕ) (f : OpenFile) (b : Bool) → entry_at k.entries e ≡ Some f → Agrees k
      → Agrees (let_go_of (record k { entries = set k.entries e (if b then None else Some (record { object = f.object; count = f.count - 1; offset = f.offset })) }) (Ok (if b then Some f.object else None)))
  release_by k e f true is a = let_go_agrees k e f f.object is refl a
  release_by k e f false is a =
      let less : Option OpenFile = Some (record { object = f.object; count = f.count - 1; offset = f.offset }) in
      entries_agree k.entries (set k.entries e less) k.pipes (λ test. unchanged test k.entries e less (sym (ap (has_object test) is))) a

  release_agrees : (k : KernelState S) (e : ℕ) (o : Option OpenFile) → entry_at k.entries e ≡ o → Agrees k → Agrees (let_go_of (record k { entries = set k.entries e (less_held o) }) (Ok (last_object o)))
  release_agrees k e None is a = entries_agree k.entries (set k.entries e None) k.pipes (λ test. unchanged test k.entries e None (sym (ap (has_object test) is))) a
  release_agrees k e (Some f) is a = release_by k e f (nat_le f.count 1) is a

  closed_by_agrees : (k : KernelState S) (fd : ℕ) (entry : Option ℕ) → Agrees k → Agrees (closed_by k pid fd entry)
  closed_by_agrees k fd None a = a
  closed_by_agrees k fd (Some e) a = let_go_same (taken_away k pid fd (Some e)) (record k { entries = released k.entries e }) (last_object (entry_at k.entries e)) refl refl (release_agrees k e (entry_at k.entries e) refl a)

  pub closed_agrees : (k : KernelState S) (fd : ℕ) → Agrees k → Agrees (closed k pid fd)
  closed_agrees k fd a = closed_by_agrees k fd (entry_of (fds_at k pid) fd) a

  pub closed_below_agrees : (k : KernelState S) (n : ℕ) → Agrees k → Agrees (closed_below k pid n)
  unfolding closed_below
  closed_below_agrees k zero a = a
  closed_below_agrees k (suc n) a = closed_agrees (closed_below k pid n) n (closed_below_agrees k n a)
