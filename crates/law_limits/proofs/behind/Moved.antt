-- What a quiet call does to the slots: its process goes on with a reply, goes on with its call, or nothing is seen.
use Rattle.std.proofs.Common.{◌≡◌, inl, inr, ℕ, ◌+◌, Bool, true, false, Option, Some, None, length, refl, arith}
use Rattle.std.specs.Prelude.{nat_lt, min}
use Rattle.mem_files.specs.Name.{Name, Bytes, is_openable}
use Rattle.mem_files.specs.Files.{FileMap}
use Rattle.user_calls.specs.Limits.{block_size}
use Rattle.user_calls.specs.declared.calls.Call.{Call}
use Rattle.user_calls.specs.declared.calls.Call.TheVariants.{Fork, Exec, Exit, Wait, MakePipe, Read, Write, OpenFile, Close, Dup}
use Rattle.user_calls.specs.declared.calls.Mode.{Mode}
use Rattle.user_calls.specs.declared.calls.Mode.TheVariants.{Input as ToRead, Fresh, Over, Append}
use Rattle.user_calls.specs.declared.calls.Reply.{Reply}
use Rattle.process_model.specs.Seen.{Entry, input, out, diag, reader, writer, file, Fds, fd_at, Act, live, View}
use Rattle.process_model.specs.Effect.{Sets, Answers, answered, ReadsPipe, gets, meets_end, finds_none, ReadsBytes, ReadsFile, ReadsAt, WritesPipe, puts_all, puts_some, has_no_reader, finds_it_full, WritesHere, WritesOver, WritesBehind, WritesFile, WritesAt, OpensBy, OpensNamed, files_opened, ClosesAt, DupsTo, DupsAt, lowest, EffectBy}
use Rattle.law_limits.proofs.behind.Fits.{IsQuiet}
use Rattle.law_limits.proofs.behind.Used.{used, used_less, used_more, After, other_after}

module _ (V W : View) (p parent : ℕ) (act : Act) (d : Fds) where
  pub data Moved (call : Call) : Type 0 where
    goes : (reply : Reply) (e : Fds) → After call (used d) reply (used e) → Sets V W p (answered parent act reply e) → Moved call
    holds : (n : ℕ) → Sets V W p (live parent act n d) → Moved call
    rests : ((q : ℕ) → W.slots q ≡ V.slots q) → Moved call

  module _ (call : Call) (other : (fd : ℕ) → call ≡ Close fd → ⊥) where
    -- with the same descriptors
    goes_on : (reply : Reply) → Sets V W p (answered parent act reply d) → Moved call
    goes_on reply sets = goes reply d (other_after call (used d) reply (used d) other (omega arith)) sets

    answers : (reply : Reply) → Answers V W p parent act reply d → Moved call
    answers reply a = goes_on reply a.slots

    reads_pipe : (most i : ℕ) → ReadsPipe V W p parent act d most i → Moved call
    reads_pipe most i (gets some is others sets) = goes_on _ sets
    reads_pipe most i (meets_end none closed a) = answers _ a
    reads_pipe most i (finds_none none sets rest sleeps) = holds 0 sets

    reads_bytes : (most e : ℕ) (o : Option Bytes) → ReadsBytes V W p parent act d most e o → Moved call
    reads_bytes most e None is = absurd is
    reads_bytes most e (Some bytes) is = goes_on _ is.0

    reads_file : (most e : ℕ) (mode : Mode) → ReadsFile V W p parent act d most e mode → Moved call
    reads_file most e ToRead is = reads_bytes most e (V.files (V.places e).name) is
    reads_file most e Fresh is = answers _ is
    reads_file most e Over is = answers _ is
    reads_file most e Append is = answers _ is

    reads_at : (most : ℕ) (o : Option Entry) → ReadsAt V W p parent act d most o → Moved call
    reads_at most None is = answers _ is
    reads_at most (Some input) is = goes_on _ is.0
    reads_at most (Some out) is = answers _ is
    reads_at most (Some diag) is = answers _ is
    reads_at most (Some (reader i)) is = reads_pipe most i is
    reads_at most (Some (writer i)) is = answers _ is
    reads_at most (Some (file e)) is = reads_file most e (V.places e).mode is

    writes_pipe : (put : ℕ) (bytes : Bytes) (i : ℕ) → WritesPipe V W p parent put act d bytes i → Moved call
    writes_pipe put bytes i (puts_all is small others sets) = goes_on _ sets
    writes_pipe put bytes i (puts_some now later parts some more is small others sets) = holds (put + length now) sets
    writes_pipe put bytes i (has_no_reader some closed a) = answers _ a
    writes_pipe put bytes i (finds_it_full some quiet sleeps) = rests quiet.slots

    writes_here : (bytes : Bytes) (e : ℕ) (held : Bytes) (gap : Bool) → WritesHere V W p parent act d bytes e held gap → Moved call
    writes_here bytes e held true is = answers _ is
    writes_here bytes e held false is = goes_on _ is.0

    writes_over : (bytes : Bytes) (e : ℕ) (o : Option Bytes) → WritesOver V W p parent act d bytes e o → Moved call
    writes_over bytes e None is = absurd is
    writes_over bytes e (Some held) is = writes_here bytes e held (nat_lt (length held) (V.places e).at) is

    writes_behind : (bytes : Bytes) (e : ℕ) (o : Option Bytes) → WritesBehind V W p parent act d bytes e o → Moved call
    writes_behind bytes e None is = absurd is
    writes_behind bytes e (Some held) is = goes_on _ is.0

    writes_file : (bytes : Bytes) (e : ℕ) (mode : Mode) → WritesFile V W p parent act d bytes e mode → Moved call
    writes_file bytes e ToRead is = answers _ is
    writes_file bytes e Fresh is = writes_over bytes e (V.files (V.places e).name) is
    writes_file bytes e Over is = writes_over bytes e (V.files (V.places e).name) is
    writes_file bytes e Append is = writes_behind bytes e (V.files (V.places e).name) is

    writes_at : (put : ℕ) (bytes : Bytes) (o : Option Entry) → WritesAt V W p parent put act d bytes o → Moved call
    writes_at put bytes None is = answers _ is
    writes_at put bytes (Some input) is = answers _ is
    writes_at put bytes (Some out) is = goes_on _ is.0
    writes_at put bytes (Some diag) is = answers _ is
    writes_at put bytes (Some (reader i)) is = answers _ is
    writes_at put bytes (Some (writer i)) is = writes_pipe put bytes i is
    writes_at put bytes (Some (file e)) is = writes_file bytes e (V.places e).mode is

  opens_by : (name word : Name) (mode : Mode) (o : Option FileMap) → OpensBy V W p parent act d name mode o → Moved (OpenFile word mode)
  opens_by name word mode None is = answers (OpenFile word mode) (λ fd e. let z : ⊥ = cc in z) _ is
  opens_by name word mode (Some F) is = goes _ _ (other_after (OpenFile word mode) _ _ _ (λ fd e. let z : ⊥ = cc in z) (used_more d is.fd (Some (file V.next)))) is.slots

  opens_named : (name : Name) (mode : Mode) (b : Bool) → OpensNamed V W p parent act d name mode b → Moved (OpenFile name mode)
  opens_named name mode true is = opens_by name name mode (files_opened V.files name mode) is
  opens_named name mode false is = answers (OpenFile name mode) (λ fd e. let z : ⊥ = cc in z) _ is

  closes_at : (fd : ℕ) (o : Option Entry) → fd_at d fd ≡ o → ClosesAt V W p parent act d fd o → Moved (Close fd)
  closes_at fd None held is = goes _ d (record { most = omega arith; closed = λ other same. inr refl }) is.slots
  closes_at fd (Some x) held is =
      let less = used_less d fd x held in
      goes _ _ (record { most = omega (arith, less); closed = λ other same. inl (refl, omega (arith, less)) }) is.slots

  dups_to : (fd : ℕ) (x : Entry) (o : Option ℕ) → DupsTo V W p parent act d x o → Moved (Dup fd)
  dups_to fd x None is = absurd is
  dups_to fd x (Some place) is = goes _ _ (other_after (Dup fd) _ _ _ (λ other e. let z : ⊥ = cc in z) (used_more d place (Some x))) is.slots

  dups_at : (fd : ℕ) (o : Option Entry) → DupsAt V W p parent act d o → Moved (Dup fd)
  dups_at fd None is = answers (Dup fd) (λ other e. let z : ⊥ = cc in z) _ is
  dups_at fd (Some x) is = dups_to fd x (lowest d) is

  pub moved : (put : ℕ) (call : Call) → IsQuiet call → EffectBy V W p parent put act d call → Moved call
  moved put Fork quiet is = absurd quiet
  moved put (Exec found) quiet is = answers (Exec found) (λ other e. let z : ⊥ = cc in z) _ is
  moved put Exit quiet is = absurd quiet
  moved put Wait quiet is = absurd quiet
  moved put MakePipe quiet is = absurd quiet
  moved put (Read fd most) quiet is = reads_at (Read fd most) (λ other e. let z : ⊥ = cc in z) (min most block_size) (fd_at d fd) is
  moved put (Write fd bytes) quiet is = writes_at (Write fd bytes) (λ other e. let z : ⊥ = cc in z) put bytes (fd_at d fd) is
  moved put (OpenFile name mode) quiet is = opens_named name mode (is_openable name) is
  moved put (Close fd) quiet is = closes_at fd (fd_at d fd) refl is
  moved put (Dup fd) quiet is = dups_at fd (fd_at d fd) is
