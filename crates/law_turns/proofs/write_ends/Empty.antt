-- A read of an empty pipe that comes before the close of its last write end sleeps, and is woken by it: it isn't needed.
use Rattle.std.proofs.Common.{◌≡◌, ℕ, [], Bool, true, false, Option, Some, None, length, drop, zero, suc, ◌∷◌, refl, sym, ap, ◌∙◌}
use Rattle.std.proofs.Math.ListN.{set}
use Rattle.std.proofs.Math.Seq.{map-set_same}
use Rattle.std.proofs.lemmas.List.{map-set}
use Rattle.std.specs.Prelude.{min, take, if◌then◌else◌, ◌==◌, List}
use Rattle.user_calls.specs.Limits.{block_size}
use Rattle.user_calls.specs.declared.calls.Call.TheVariants.{Read}
use Rattle.byte_pipe.specs.declared.Take.TheVariants.{Got, Empty, End}
use Rattle.byte_pipe.specs.PipeState.{PipeState, take_answer, after_take}
use Rattle.fd_table.specs.declared.names.Object.TheVariants.{PipeRead}
use Rattle.fd_table.specs.Entries.{OpenFile as Opened}
use Rattle.fd_table.specs.Descriptors.{Descriptors, entry_of}
use Rattle.proc_table.specs.declared.states.Channel.{Channel}
use Rattle.proc_table.specs.declared.states.Channel.TheVariants.{PipeBytes}
use Rattle.proc_table.specs.declared.states.Status.TheVariants.{Runnable, Running}
use Rattle.proc_table.specs.Slots.{Slot, Table, Process, at}
use Rattle.proc_table.specs.Calls.{dispatched, slept, put_to_sleep, with_status}
use Rattle.proc_table.proofs.Changes.{written, mapped}
use Rattle.kernel_model.specs.KernelState.{KernelState, fds_at, file_at}
use Rattle.kernel_model.specs.Pipes.{Pipes, pipe_of, with_pipe, taken_from}
use Rattle.kernel_model.specs.Replies.{sleeps}
use Rattle.kernel_model.specs.Reading.{read_held, read_entry, read_object, read_pipe, read_by}
use Rattle.kernel_model.specs.Events.{acted}
use Rattle.kernel_model.specs.Woke.{woke_slot, woke_table}
use Rattle.law_turns.specs.Retold.{Left, retold_slot, retold_table}
use Rattle.law_turns.proofs.private_turns.Turned.{set_twice}

-- ---- to wake, and to leave something in a slot

retold_woke : {S : Type 0} (left : Left S) (x : Slot S) → woke_slot (retold_slot left x) ≡ retold_slot left (woke_slot x)
retold_woke left None = refl
retold_woke left (Some y) = refl

pub table_woke : {S : Type 0} (p : ℕ) (left : Left S) (t : Table S) → woke_table (retold_table p left t) ≡ retold_table p left (woke_table t)
table_woke p left t =
    map-set woke_slot t p (retold_slot left (at t p)) ∙ ap (λ (x : Slot _). set (woke_table t) p x) (retold_woke left (at t p) ∙ ap (retold_slot left) (sym (mapped woke_slot refl t p)))

-- who fell asleep with nothing put, once awake
pub slept_woke : {S : Type 0} (t : Table S) (q : ℕ) (y : Process S) (c : Channel) → at t q ≡ Some y → y.status ≡ Runnable → y.put ≡ 0 → woke_table (slept (dispatched t q 0) q c 0) ≡ woke_table t
slept_woke t q y c there runs none =
    let s : Slot _ = put_to_sleep c 0 (with_status (Running 0) (at t q)) in
    let same : woke_slot s ≡ woke_slot (at t q) =
    ap (λ (x : Slot _). woke_slot (put_to_sleep c 0 (with_status (Running 0) x))) there ∙ (λ i. Some (record y { status = Runnable; put = sym none i })) ∙ sym (λ i. woke_slot (Some (record y { status = runs i }))) ∙ sym (ap woke_slot there) in
    ap (λ (x : Slot _). woke_table (set (dispatched t q 0) q (put_to_sleep c 0 x))) (written (with_status (Running 0)) refl t q) ∙
    ap woke_table (set_twice t q (with_status (Running 0) (at t q)) s) ∙ map-set_same woke_slot t q s None same

-- ---- the read

drop_none : (n : ℕ) → drop {A = ℕ} n [] ≡ []
drop_none zero = refl
drop_none (suc n) = refl

with_same : (pipes : Pipes) (id : ℕ) (p : PipeState) → pipe_of pipes id ≡ Some p → with_pipe pipes id p ≡ pipes
with_same [] id p there = refl
with_same (q ∷ rest) id p there = by (id == q.0) refl (with_same rest id p) there where
  by : (b : Bool) → (id == q.0) ≡ b → (pipe_of rest id ≡ Some p → with_pipe rest id p ≡ rest) → (if id == q.0 then Some q.1 else pipe_of rest id) ≡ Some p → (if id == q.0 then (q.0, p) ∷ rest else q ∷ with_pipe rest id p) ≡ q ∷ rest
  by true is again there =
      let here : Some q.1 ≡ Some p = sym (ap (λ (b : Bool). if b then Some q.1 else pipe_of rest id) is) ∙ there in
      let same : q.1 ≡ p = cc in
      ap (λ (b : Bool). if b then (q.0, p) ∷ rest else q ∷ with_pipe rest id p) is ∙ (λ i. (q.0, sym same i) ∷ rest)
  by false is again there =
      ap (λ (b : Bool). if b then (q.0, p) ∷ rest else q ∷ with_pipe rest id p) is ∙ ap (λ (l : Pipes). q ∷ l) (again (sym (ap (λ (b : Bool). if b then Some q.1 else pipe_of rest id) is) ∙ there))

nothing_taken : (pipes : Pipes) (id n : ℕ) (p : PipeState) → pipe_of pipes id ≡ Some p → p.bytes ≡ [] → with_pipe pipes id (after_take p n) ≡ pipes
nothing_taken pipes id n p there empty =
    let left : drop n p.bytes ≡ p.bytes = ap (drop n) empty ∙ drop_none n ∙ sym empty in
    (λ i. with_pipe pipes id (record p { bytes = left i })) ∙ with_same pipes id p there

module _ {S : Type 0} (d : KernelState S) (q : ℕ) (after : S) (id : ℕ) (pp : PipeState) (there : pipe_of d.pipes id ≡ Some pp) (empty : pp.bytes ≡ []) (open_too : pp.writer ≡ true) where
  waits : (m : ℕ) → take_answer pp m ≡ Empty
  waits m =
      ap (λ (xs : List ℕ). if length xs == 0 then (if pp.writer then Empty else End) else Got (min (length xs) m)) empty ∙ ap (λ (b : Bool). if b then Empty else End) open_too

  pipe_waits : (m : ℕ) → read_pipe d q after id m (pipe_of d.pipes id) ≡ sleeps d q (PipeBytes id) 0
  pipe_waits m =
      ap (read_pipe d q after id m) there ∙ ap (read_by (record d { pipes = taken_from d.pipes id m (Some pp) }) q after id (take m pp.bytes)) (waits m) ∙
      (λ i. sleeps (record d { pipes = nothing_taken d.pipes id m pp there empty i }) q (PipeBytes id) 0)

  entry_waits : (e m : ℕ) (f : Opened) → f.object ≡ PipeRead id → read_entry d q after e m (Some f) ≡ sleeps d q (PipeBytes id) 0
  entry_waits e m f reads = ap (read_object d q after e f.offset m) reads ∙ pipe_waits m

  held_waits : (m : ℕ) (o : Option ℕ) (f : Opened) → file_at d.entries o ≡ Some f → f.object ≡ PipeRead id → read_held d q after m o ≡ sleeps d q (PipeBytes id) 0
  held_waits m None f is reads = absurd (let z : ⊥ = cc in z)
  held_waits m (Some e) f is reads = ap (read_entry d q after e m) is ∙ entry_waits e m f reads

  pub read_waits : (rd n : ℕ) (fds : Descriptors) (f : Opened) → fds_at d q ≡ fds → file_at d.entries (entry_of fds rd) ≡ Some f → f.object ≡ PipeRead id → acted d q after (Read rd n) false ≡ sleeps d q (PipeBytes id) 0
  read_waits rd n fds f is held reads = ap (λ (g : Descriptors). read_held d q after (min n block_size) (entry_of g rd)) is ∙ held_waits (min n block_size) (entry_of fds rd) f held reads
