-- Names stay right through the changes of a call: of entries, of pipes and of files.
use Rattle.std.proofs.Common.{◌≡◌, ◌≢◌, ◌⊎◌, ℕ, ◌+◌, ◌≤◌, Bool, true, false, [], Option, Some, None, refl, sym, ap, ◌∙◌, subst, inl, inr, arith}
use Rattle.std.specs.Prelude.{◌==◌, ◌||◌, if◌then◌else◌}
use Rattle.std.specs.Option.{is_some}
use Rattle.std.proofs.lemmas.Bool.{cases_eq, ne_eqb, eq-eqb}
use Rattle.byte_pipe.specs.PipeState.{PipeState, after_close_read, after_close_write, new_pipe}
use Rattle.mem_files.specs.Name.{Name, Bytes}
use Rattle.mem_files.specs.Files.{FileMap}
use Rattle.fd_table.specs.declared.names.Object.{Object}
use Rattle.fd_table.specs.declared.names.Object.TheVariants.{Input, Out, Diag, File, PipeRead, PipeWrite}
use Rattle.fd_table.specs.Entries.{Entries, OpenFile, entry_at}
use Rattle.kernel_model.specs.Pipes.{Pipes, pipe_of, with_pipe, without_pipe, with_new, kept_while_open, reader_gone, writer_gone}
use Rattle.law_kernel.specs.Ends.{AreApart}
use Rattle.law_kernel.proofs.kernel.OnePipe.{found_now, others_found, others_stay}
use Rattle.law_kernel.proofs.kernel.PipeNames.{given_up_is_gone, new_self, new_other}
use Rattle.process_model.specs.Seen.{Entry, file, Place, Names}
use Rattle.process_model.specs.Shows.{IsNamed, GoesOnAt, Shows}

-- ---- what is still there is as it was

-- an entry in use was in use, on the same object at the same offset
pub record Kept (E G : Entries) : Type 0 where
  pub was : (e : ℕ) (f : OpenFile) → entry_at G e ≡ Some f → (h : OpenFile) × (entry_at E e ≡ Some h) × (f.object ≡ h.object) × (f.offset ≡ h.offset)

pub kept_all : (E : Entries) → Kept E E
kept_all E = record { was = λ e f is. (f, is, refl, refl) }

-- a pipe that is there was there, and held the same bytes
pub record KeptPipes (P Q : Pipes) : Type 0 where
  pub was : (id : ℕ) (p : PipeState) → pipe_of Q id ≡ Some p → (q : PipeState) × (pipe_of P id ≡ Some q) × (p.bytes ≡ q.bytes)

pub kept_pipes : (P : Pipes) → KeptPipes P P
kept_pipes P = record { was = λ id p is. (p, is, refl) }

-- a file that was there still is
abbrev pub Stay : FileMap → FileMap → Type 0
Stay F G = (name : Name) → is_some (F name) ≡ true → is_some (G name) ≡ true

-- the name of an entry, under names that have the same places, among files that stay and after later events
pub named_on : (g h : Names) (F G : FileMap) (n m : ℕ) (x : Entry) (o : Object) (at : ℕ) → ((id : ℕ) → x ≡ file id → h.places id ≡ g.places id) → Stay F G → n ≤ m → IsNamed g F n x o at → IsNamed h G m x o at
named_on g h F G n m x Input at places stay le is = is
named_on g h F G n m x Out at places stay le is = is
named_on g h F G n m x Diag at places stay le is = is
named_on g h F G n m x (File name mode) at places stay le is =
    let same = places is.id is.is in
    record {
      id = is.id;
      is = is.is;
      old = omega (arith, is.old, le);
      named = ap (λ (p : Place). p.name) same ∙ is.named;
      moded = ap (λ (p : Place). Rattle.kernel_model.specs.Modes.entry_mode p.mode) same ∙ is.moded;
      goes_on = subst (λ (p : Place). GoesOnAt p.mode p.at at) (sym same) is.goes_on;
      there = stay name is.there;
    }
named_on g h F G n m x (PipeRead id) at places stay le is = (is.0, omega (arith, is.1, le))
named_on g h F G n m x (PipeWrite id) at places stay le is = (is.0, omega (arith, is.1, le))

module _ (g : Names) where
  pub shows_on : (E G : Entries) (P Q : Pipes) (F H : FileMap) (n m : ℕ) → Kept E G → KeptPipes P Q → Stay F H → n ≤ m → Shows g E P F n → Shows g G Q H m
  shows_on E G P Q F H n m entries pipes stay le s = record {
    named = λ e f is.
        let z = entries.was e f is in
        let at_it = named_on g g F H n m (g.name e) z.0.object z.0.offset (λ id x. refl) stay le (s.named e z.0 z.1) in
        subst (λ o. IsNamed g H m (g.name e) o f.offset) (sym z.2) (subst (λ at. IsNamed g H m (g.name e) z.0.object at) (sym z.3) at_it);
    apart = λ e d f h is it same. let z = entries.was e f is in let y = entries.was d h it in s.apart e d z.0 y.0 z.1 y.1 same;
    holds = λ id p is. let z = pipes.was id p is in s.holds id z.0 z.1 ∙ sym z.2;
  }

  -- one more event
  pub shows_later : (E : Entries) (P : Pipes) (F : FileMap) (n : ℕ) → Shows g E P F n → Shows g E P F (n + 1)
  shows_later E P F n s = shows_on E E P P F F n (n + 1) (kept_all E) (kept_pipes P) (λ name is. is) (omega arith) s

-- ---- one pipe holds other bytes

abbrev pub with_bytes : Names → ℕ → Bytes → Names
with_bytes g id bytes = record { name = g.name; pipes = λ k. if k == id then bytes else g.pipes k; places = g.places }

pub bytes_here : (g : Names) (id : ℕ) (bytes : Bytes) → (with_bytes g id bytes).pipes id ≡ bytes
bytes_here g id bytes = ap (λ (b : Bool). if b then bytes else g.pipes id) (eq-eqb id id refl)

pub bytes_elsewhere : (g : Names) (id k : ℕ) (bytes : Bytes) → k ≢ id → (with_bytes g id bytes).pipes k ≡ g.pipes k
bytes_elsewhere g id k bytes ne = ap (λ (b : Bool). if b then bytes else g.pipes k) (ne_eqb k id ne)

pub shows_bytes : (g : Names) (E : Entries) (P : Pipes) (F : FileMap) (n id : ℕ) (p now : PipeState) → pipe_of P id ≡ Some p → Shows g E P F n → Shows (with_bytes g id now.bytes) E (with_pipe P id now) F n
shows_bytes g E P F n id p now is s = record {
  named = λ e f it. named_on g (with_bytes g id now.bytes) F F n n (g.name e) f.object f.offset (λ k x. refl) (λ name y. y) (omega arith) (s.named e f it);
  apart = s.apart;
  holds = λ k q it. by k q it (cases_eq k id);
}
  where
    by : (k : ℕ) (q : PipeState) → pipe_of (with_pipe P id now) k ≡ Some q → (k ≡ id) ⊎ (k ≢ id) → (with_bytes g id now.bytes).pipes k ≡ q.bytes
    by k q it (inl same) =
        let found : Some now ≡ Some q = sym (found_now P id p now is) ∙ ap (pipe_of (with_pipe P id now)) (sym same) ∙ it in
        let z : now ≡ q = cc in
        ap (with_bytes g id now.bytes).pipes same ∙ bytes_here g id now.bytes ∙ ap (λ (r : PipeState). r.bytes) z
    by k q it (inr ne) = bytes_elsewhere g id k now.bytes ne ∙ s.holds k q (sym (others_found P id k now ne) ∙ it)

-- ---- an end of a pipe is closed

kept_with : (P : Pipes) (id : ℕ) (p now : PipeState) → pipe_of P id ≡ Some p → now.bytes ≡ p.bytes → KeptPipes P (with_pipe P id now)
kept_with P id p now is same_bytes = record { was = λ k q it. by k q it (cases_eq k id) }
  where
    by : (k : ℕ) (q : PipeState) → pipe_of (with_pipe P id now) k ≡ Some q → (k ≡ id) ⊎ (k ≢ id) → (r : PipeState) × (pipe_of P k ≡ Some r) × (q.bytes ≡ r.bytes)
    by k q it (inl same) =
        let found : Some now ≡ Some q = sym (found_now P id p now is) ∙ ap (pipe_of (with_pipe P id now)) (sym same) ∙ it in
        let z : q ≡ now = cc in
        (p, ap (pipe_of P) same ∙ is, ap (λ (r : PipeState). r.bytes) z ∙ same_bytes)
    by k q it (inr ne) = (q, sym (others_found P id k now ne) ∙ it, refl)

kept_without : (P : Pipes) (id : ℕ) → AreApart P → KeptPipes P (without_pipe P id)
kept_without P id apart = record { was = λ k q it. by k q it (cases_eq k id) }
  where
    by : (k : ℕ) (q : PipeState) → pipe_of (without_pipe P id) k ≡ Some q → (k ≡ id) ⊎ (k ≢ id) → (r : PipeState) × (pipe_of P k ≡ Some r) × (q.bytes ≡ r.bytes)
    by k q it (inl same) = absurd (let z : None ≡ Some q = sym (given_up_is_gone P id apart) ∙ ap (pipe_of (without_pipe P id)) (sym same) ∙ it in let w : ⊥ = cc in w)
    by k q it (inr ne) = (q, sym (others_stay P id k ne) ∙ it, refl)

kept_closed : (P : Pipes) (id : ℕ) (p now : PipeState) → pipe_of P id ≡ Some p → now.bytes ≡ p.bytes → AreApart P → KeptPipes P (kept_while_open P id now)
kept_closed P id p now is same apart = by (now.reader || now.writer)
  where
    by : (b : Bool) → KeptPipes P (if b then with_pipe P id now else without_pipe P id)
    by true = kept_with P id p now is same
    by false = kept_without P id apart

pub kept_reader_gone : (P : Pipes) (id : ℕ) → AreApart P → KeptPipes P (reader_gone P id (pipe_of P id))
kept_reader_gone P id apart = by (pipe_of P id) refl
  where
    by : (o : Option PipeState) → pipe_of P id ≡ o → KeptPipes P (reader_gone P id o)
    by None is = kept_pipes P
    by (Some p) is = kept_closed P id p (after_close_read p) is refl apart

pub kept_writer_gone : (P : Pipes) (id : ℕ) → AreApart P → KeptPipes P (writer_gone P id (pipe_of P id))
kept_writer_gone P id apart = by (pipe_of P id) refl
  where
    by : (o : Option PipeState) → pipe_of P id ≡ o → KeptPipes P (writer_gone P id o)
    by None is = kept_pipes P
    by (Some p) is = kept_closed P id p (after_close_write p) is refl apart

-- ---- a pipe is made

pub shows_new_pipe : (g : Names) (E : Entries) (P : Pipes) (F : FileMap) (n id : ℕ) → pipe_of P id ≡ None → Shows g E P F n → Shows (with_bytes g id []) E (with_new P id) F n
shows_new_pipe g E P F n id none s = record {
  named = λ e f it. named_on g (with_bytes g id []) F F n n (g.name e) f.object f.offset (λ k x. refl) (λ name y. y) (omega arith) (s.named e f it);
  apart = s.apart;
  holds = λ k q it. by k q it (cases_eq k id);
}
  where
    by : (k : ℕ) (q : PipeState) → pipe_of (with_new P id) k ≡ Some q → (k ≡ id) ⊎ (k ≢ id) → (with_bytes g id []).pipes k ≡ q.bytes
    by k q it (inl same) =
        let found : Some new_pipe ≡ Some q = sym (new_self P id none) ∙ ap (pipe_of (with_new P id)) (sym same) ∙ it in
        let z : new_pipe ≡ q = cc in
        ap (with_bytes g id []).pipes same ∙ bytes_here g id [] ∙ ap (λ (r : PipeState). r.bytes) z
    by k q it (inr ne) = bytes_elsewhere g id k [] ne ∙ s.holds k q (sym (new_other P id k ne) ∙ it)
