-- A call of p changes no other slot that is used, but those of its children.
use Rattle.std.proofs.Common.{◌≡◌, ◌≢◌, ℕ, Bool, true, false, Option, Some, None, refl, sym, ap, ◌∙◌, subst, arith}
use Rattle.std.specs.Prelude.{nat_lt, length}
use Rattle.mem_files.specs.Name.{Name, Bytes, is_openable}
use Rattle.mem_files.specs.Files.{FileMap}
use Rattle.user_calls.specs.declared.calls.Call.{Call}
use Rattle.user_calls.specs.declared.calls.Call.TheVariants.{Fork, Exec, Exit, Wait, MakePipe, Read, Write, OpenFile, Close, Dup}
use Rattle.user_calls.specs.declared.calls.Mode.{Mode}
use Rattle.user_calls.specs.declared.calls.Mode.TheVariants.{Input as ToRead, Fresh, Over, Append}
use Rattle.process_model.specs.Seen.{Entry, input, out, diag, reader, writer, file, Fds, fd_at, Act, View}
use Rattle.process_model.specs.Shape.{is_used}
use Rattle.process_model.specs.Effect.{ParentIs, reaps, has_none, sleeps, ClosesAt, DupsAt, DupsTo, OpensBy, OpensNamed, ReadsPipe, gets, meets_end, finds_none, ReadsBytes, ReadsFile, ReadsAt, WritesPipe, puts_all, puts_some, has_no_reader, finds_it_full, WritesHere, WritesOver, WritesBehind, WritesFile, WritesAt, EffectBy, IsCall, files_opened, lowest}

module _ (V W : View) (p parent put : ℕ) (act : Act) (d : Fds) where
  -- of all slots only p's changes
  abbrev Alone : Type 0
  Alone = (q : ℕ) → q ≢ p → W.slots q ≡ V.slots q

  close_alone : (fd : ℕ) (x : Option Entry) → ClosesAt V W p parent act d fd x → Alone
  close_alone fd None c = c.slots.others
  close_alone fd (Some x) c = c.slots.others

  dup_to : (x : Entry) (place : Option ℕ) → DupsTo V W p parent act d x place → Alone
  dup_to x None c = absurd c
  dup_to x (Some place) c = c.slots.others

  dup_alone : (x : Option Entry) → DupsAt V W p parent act d x → Alone
  dup_alone None c = c.slots.others
  dup_alone (Some x) c = dup_to x (lowest d) c

  open_by : (name : Name) (mode : Mode) (o : Option FileMap) → OpensBy V W p parent act d name mode o → Alone
  open_by name mode None c = c.slots.others
  open_by name mode (Some F) c = c.slots.others

  open_alone : (name : Name) (mode : Mode) (good : Bool) → OpensNamed V W p parent act d name mode good → Alone
  open_alone name mode true c = open_by name mode (files_opened V.files name mode) c
  open_alone name mode false c = c.slots.others

  bytes_alone : (most e : ℕ) (o : Option Bytes) → ReadsBytes V W p parent act d most e o → Alone
  bytes_alone most e None c = absurd c
  bytes_alone most e (Some bytes) c = c.0.others

  file_alone : (most e : ℕ) (mode : Mode) → ReadsFile V W p parent act d most e mode → Alone
  file_alone most e ToRead c = bytes_alone most e (V.files (V.places e).name) c
  file_alone most e Fresh c = c.slots.others
  file_alone most e Over c = c.slots.others
  file_alone most e Append c = c.slots.others

  pipe_alone : (most i : ℕ) → ReadsPipe V W p parent act d most i → Alone
  pipe_alone most i (gets some now rest slots) = slots.others
  pipe_alone most i (meets_end none nobody c) = c.slots.others
  pipe_alone most i (finds_none none slots rest asleep) = slots.others

  read_alone : (most : ℕ) (x : Option Entry) → ReadsAt V W p parent act d most x → Alone
  read_alone most None c = c.slots.others
  read_alone most (Some input) c = c.0.others
  read_alone most (Some out) c = c.slots.others
  read_alone most (Some diag) c = c.slots.others
  read_alone most (Some (reader i)) c = pipe_alone most i c
  read_alone most (Some (writer i)) c = c.slots.others
  read_alone most (Some (file e)) c = file_alone most e (V.places e).mode c

  here_alone : (bytes : Bytes) (e : ℕ) (held : Bytes) (gap : Bool) → WritesHere V W p parent act d bytes e held gap → Alone
  here_alone bytes e held true c = c.slots.others
  here_alone bytes e held false c = c.0.others

  over_alone : (bytes : Bytes) (e : ℕ) (o : Option Bytes) → WritesOver V W p parent act d bytes e o → Alone
  over_alone bytes e None c = absurd c
  over_alone bytes e (Some held) c = here_alone bytes e held (nat_lt (length held) (V.places e).at) c

  behind_alone : (bytes : Bytes) (e : ℕ) (o : Option Bytes) → WritesBehind V W p parent act d bytes e o → Alone
  behind_alone bytes e None c = absurd c
  behind_alone bytes e (Some held) c = c.0.others

  into_alone : (bytes : Bytes) (e : ℕ) (mode : Mode) → WritesFile V W p parent act d bytes e mode → Alone
  into_alone bytes e ToRead c = c.slots.others
  into_alone bytes e Fresh c = over_alone bytes e (V.files (V.places e).name) c
  into_alone bytes e Over c = over_alone bytes e (V.files (V.places e).name) c
  into_alone bytes e Append c = behind_alone bytes e (V.files (V.places e).name) c

  put_alone : (bytes : Bytes) (i : ℕ) → WritesPipe V W p parent put act d bytes i → Alone
  put_alone bytes i (puts_all now fits rest slots) = slots.others
  put_alone bytes i (puts_some first later parts some more now fits rest slots) = slots.others
  put_alone bytes i (has_no_reader some nobody c) = c.slots.others
  put_alone bytes i (finds_it_full some quiet asleep) = λ q ne. quiet.slots q

  write_alone : (bytes : Bytes) (x : Option Entry) → WritesAt V W p parent put act d bytes x → Alone
  write_alone bytes None c = c.slots.others
  write_alone bytes (Some input) c = c.slots.others
  write_alone bytes (Some out) c = c.0.others
  write_alone bytes (Some diag) c = c.slots.others
  write_alone bytes (Some (reader i)) c = c.slots.others
  write_alone bytes (Some (writer i)) c = put_alone bytes i c
  write_alone bytes (Some (file e)) c = into_alone bytes e (V.places e).mode c

  -- of those that are used and no children of p
  abbrev Others : Type 0
  Others = (q : ℕ) → q ≢ p → (ParentIs (V.slots q) p → ⊥) → is_used (V.slots q) ≡ 1 → W.slots q ≡ V.slots q

  others_stay : Alone → Others
  others_stay a q ne none used = a q ne

  by_call : (call : Call) → EffectBy V W p parent put act d call → Others
  by_call Fork c = λ q ne none used. c.others q ne (λ e. absurd (omega (arith, used, ap is_used (ap V.slots e ∙ c.was_free))))
  by_call (Exec found) c = others_stay c.slots.others
  by_call Exit c = λ q ne none used. c.others q ne ∙ Rattle.law_runs.proofs.standing.CallKinds.not_given V W p (V.slots q) none
  by_call Wait (reaps r) = λ q ne none used. r.others q ne (λ e. none (subst (λ s. ParentIs s p) (sym (ap V.slots e ∙ r.was)) refl))
  by_call Wait (has_none n c) = others_stay c.slots.others
  by_call Wait (sleeps child kid n slots rest asleep) = others_stay slots.others
  by_call MakePipe c = others_stay c.slots.others
  by_call (Read fd most) c = others_stay (read_alone _ (fd_at d fd) c)
  by_call (Write fd bytes) c = others_stay (write_alone bytes (fd_at d fd) c)
  by_call (OpenFile name mode) c = others_stay (open_alone name mode (is_openable name) c)
  by_call (Close fd) c = others_stay (close_alone fd (fd_at d fd) c)
  by_call (Dup fd) c = others_stay (dup_alone (fd_at d fd) c)

pub call_apart : (V W : View) (p : ℕ) → IsCall V W p → (q : ℕ) → q ≢ p → (ParentIs (V.slots q) p → ⊥) → is_used (V.slots q) ≡ 1 → W.slots q ≡ V.slots q
call_apart V W p c = by_call V W p c.parent c.put c.act c.fds c.act.call c.effect
