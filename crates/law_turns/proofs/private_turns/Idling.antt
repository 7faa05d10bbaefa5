-- The call of a process that has to wait changes nothing but that it sleeps.
use Rattle.std.proofs.Common.{◌≡◌, ℕ, zero, suc, ◌<◌, List, [], ◌∷◌, ◌++◌, Bool, true, false, Option, Some, None, length, take, drop, refl, sym, ap, subst, ◌∙◌, arith}
use Rattle.std.proofs.Math.Seq.{map-set_same}
use Rattle.std.proofs.lemmas.List.{append-nil}
use Rattle.std.proofs.lemmas.Bool.{ne_eqb}
use Rattle.std.specs.Prelude.{min, not, ◌==◌, if◌then◌else◌}
use Rattle.user_calls.specs.Limits.{block_size}
use Rattle.user_calls.specs.declared.calls.Call.{Call}
use Rattle.user_calls.specs.declared.calls.Call.TheVariants.{Wait}
use Rattle.fd_table.specs.declared.names.Object.TheVariants.{PipeRead, PipeWrite}
use Rattle.fd_table.specs.Entries.{OpenFile, entry_at}
use Rattle.fd_table.specs.Descriptors.{entry_of}
use Rattle.fd_table.proofs.Lists.{position_found}
use Rattle.byte_pipe.specs.declared.Take.{Take}
use Rattle.byte_pipe.specs.declared.Take.TheVariants.{Got, Empty, End}
use Rattle.byte_pipe.specs.declared.Put.{Put}
use Rattle.byte_pipe.specs.declared.Put.TheVariants.{Took, Full as NoRoom, Closed}
use Rattle.byte_pipe.specs.PipeState.{PipeState, room, take_answer, put_answer, after_take, after_put}
use Rattle.proc_table.specs.declared.states.Channel.{Channel}
use Rattle.proc_table.specs.declared.states.Channel.TheVariants.{PipeBytes, PipeRoom, Children}
use Rattle.proc_table.specs.declared.states.Status.{Status}
use Rattle.proc_table.specs.declared.states.Status.TheVariants.{Asleep}
use Rattle.proc_table.specs.declared.table.Waited.{Waited}
use Rattle.proc_table.specs.declared.table.Waited.TheVariants.{MustSleep}
use Rattle.proc_table.specs.Slots.{Slot, Process, at, put_of, is_child_of, is_zombie_child_of}
use Rattle.proc_table.specs.Calls.{put_to_sleep, slept, wait_by as waited, zombie_child, some_child}
use Rattle.kernel_model.specs.KernelState.{KernelState, fds_at, file_at}
use Rattle.kernel_model.specs.Pipes.{Pipes, pipe_of, with_pipe}
use Rattle.kernel_model.specs.Replies.{sleeps}
use Rattle.kernel_model.specs.Processes.{wait_by}
use Rattle.kernel_model.specs.Reading.{read_held, read_entry, read_object, read_pipe, read_by}
use Rattle.kernel_model.specs.Writing.{write_held, write_entry, write_object, write_pipe, write_by}
use Rattle.kernel_model.specs.Events.{acted}
use Rattle.law_kernel.specs.Outcome.{object_of}
use Rattle.law_kernel.specs.Sleeping.{Waits, WaitsForBytes, WaitsForRoom, WaitsForChild, IsThere}
use Rattle.law_kernel.specs.Asking.{MaySleep}
use Rattle.law_kernel.proofs.kernel.Children.{none_at}
use Rattle.kernel_model.specs.Woke.{woke_slot, woke_table, woke}
use Rattle.law_turns.proofs.private_turns.Fine.{FinePut}
use Rattle.law_turns.proofs.private_turns.Wakes.{unseen}

-- a pipe that becomes what it was
same_pipe_by : (id : ℕ) (q : ℕ × PipeState) (rest : Pipes) (p : PipeState) (b : Bool) → (pipe_of rest id ≡ Some p → with_pipe rest id p ≡ rest) → (if b then Some q.1 else pipe_of rest id) ≡ Some p → (if b then (q.0, p) ∷ rest else q ∷ with_pipe rest id p) ≡ q ∷ rest
same_pipe_by id q rest p true on is = let it : q.1 ≡ p = cc in ap (λ (r : PipeState). (q.0, r) ∷ rest) (sym it)
same_pipe_by id q rest p false on is = ap (λ (l : Pipes). q ∷ l) (on is)

same_pipe : (pipes : Pipes) (id : ℕ) (p : PipeState) → pipe_of pipes id ≡ Some p → with_pipe pipes id p ≡ pipes
same_pipe [] id p is = refl
same_pipe (q ∷ rest) id p is = same_pipe_by id q rest p (id == q.0) (same_pipe rest id p) is

module _ {S : Type 0} (k : KernelState S) (p : ℕ) (x : Process S) (there : at k.table p ≡ Some x) (after : S) where
  -- to fall asleep with as much put as before, beside pipes that are what they were
  asleep_so : (c : Channel) (put : ℕ) (pipes : Pipes) → x.put ≡ put → pipes ≡ k.pipes → woke (sleeps (record k { pipes = pipes }) p c put) ≡ woke (sleeps k p c x.put)
  asleep_so c put pipes same is = λ i. woke (sleeps (record k { pipes = is i }) p c (sym same i))

  -- ---- wait

  waits_by : (o any : Option ℕ) → zombie_child k.table p ≡ o → some_child k.table p ≡ any → WaitsForChild k.table p → waited o any ≡ MustSleep
  waits_by (Some child) any dead some w =
      let no : true ≡ false = sym (position_found (is_zombie_child_of p) k.table None child dead).1 ∙ w.living child in
      absurd (let z : ⊥ = cc in z)
  waits_by None (Some child) dead some w = refl
  waits_by None None dead some w =
      let no : true ≡ false = sym w.child.1 ∙ none_at (is_child_of p) refl k.table some w.child.0 in
      absurd (let z : ⊥ = cc in z)

  sleeps_wait : x.put ≡ 0 → WaitsForChild k.table p → (refused : Bool) → woke (acted k p after Wait refused) ≡ woke (sleeps k p (Children p) x.put)
  sleeps_wait put w refused =
      ap (λ (a : Waited). woke (wait_by k p after a)) (waits_by (zombie_child k.table p) (some_child k.table p) refl refl w) ∙ asleep_so (Children p) 0 k.pipes put refl

  -- ---- read

  drop_nothing : (n : ℕ) (bytes : List ℕ) → bytes ≡ [] → drop n bytes ≡ []
  drop_nothing zero bytes is = is
  drop_nothing (suc n) [] is = refl
  drop_nothing (suc n) (b ∷ bytes) is = absurd (let z : ⊥ = cc in z)

  takes_nothing : (q : PipeState) (n : ℕ) → WaitsForBytes q → take_answer q n ≡ Empty
  takes_nothing q n w = (λ i. if length (w.empty i) == 0 then (if w.writer i then Empty else End) else Got (min (length (w.empty i)) n))

  stays_empty : (q : PipeState) (n : ℕ) → WaitsForBytes q → after_take q n ≡ q
  stays_empty q n w = λ i. record q { bytes = (drop_nothing n q.bytes w.empty ∙ sym w.empty) i }

  sleeps_read : (id n : ℕ) → x.put ≡ 0 → (w : IsThere WaitsForBytes k.pipes id) → woke (read_pipe k p after id n (pipe_of k.pipes id)) ≡ woke (sleeps k p (PipeBytes id) x.put)
  sleeps_read id n put w =
      ap (λ (o : Option PipeState). woke (read_pipe k p after id n o)) w.found ∙
      ap (λ (t : Take). woke (read_by (record k { pipes = with_pipe k.pipes id (after_take w.pipe n) }) p after id (take n w.pipe.bytes) t)) (takes_nothing w.pipe n w.holds) ∙
      asleep_so (PipeBytes id) 0 (with_pipe k.pipes id (after_take w.pipe n)) put (ap (with_pipe k.pipes id) (stays_empty w.pipe n w.holds) ∙ same_pipe k.pipes id w.pipe w.found)

  read_is : (id n : ℕ) (o : Option ℕ) → object_of (file_at k.entries o) ≡ Some (PipeRead id) → read_held k p after n o ≡ read_pipe k p after id n (pipe_of k.pipes id)
  read_is id n None is = absurd (let z : ⊥ = cc in z)
  read_is id n (Some e) is = by (entry_at k.entries e) is where
    by : (f : Option OpenFile) → object_of f ≡ Some (PipeRead id) → read_entry k p after e n f ≡ read_pipe k p after id n (pipe_of k.pipes id)
    by None is = absurd (let z : ⊥ = cc in z)
    by (Some f) is = let it : f.object ≡ PipeRead id = cc in ap (read_object k p after e f.offset n) it

  -- ---- write

  puts_nothing : (q : PipeState) (xs : List ℕ) → WaitsForRoom q → 0 < length xs → put_answer q xs ≡ NoRoom
  puts_nothing q xs w some =
      let full : room q ≡ 0 = let f = w.filled in omega (arith, f) in
      let left : (length xs == 0) ≡ false = ne_eqb (length xs) 0 (λ e. absurd (omega (arith, e, some))) in
      (λ i. if left i then Took 0 else (if not (w.reader i) then Closed else (if room q == 0 then NoRoom else Took (min (room q) (length xs))))) ∙ ap (λ (n : ℕ). if n == 0 then NoRoom else Took (min n (length xs))) full

  stays_full : (q : PipeState) (xs : List ℕ) → WaitsForRoom q → after_put q xs ≡ q
  stays_full q xs w =
      let full : room q ≡ 0 = let f = w.filled in omega (arith, f) in
      λ i. record q { bytes = ((λ j. q.bytes ++ (if w.reader j then take (full j) xs else [])) ∙ append-nil q.bytes) i }

  sleeps_write : (id : ℕ) (xs : List ℕ) → 0 < length xs → (w : IsThere WaitsForRoom k.pipes id) → woke (write_pipe k p after id x.put xs (pipe_of k.pipes id)) ≡ woke (sleeps k p (PipeRoom id) x.put)
  sleeps_write id xs some w =
      let j : KernelState S = record k { pipes = with_pipe k.pipes id (after_put w.pipe xs) } in
      ap (λ (o : Option PipeState). woke (write_pipe k p after id x.put xs o)) w.found ∙
      ap (λ (t : Put). woke (write_by j p after id x.put (length xs) t)) (puts_nothing w.pipe xs w.holds some) ∙ unseen p (sleeps j p (PipeRoom id) x.put) (PipeBytes id) ∙
      asleep_so (PipeRoom id) x.put (with_pipe k.pipes id (after_put w.pipe xs)) refl (ap (with_pipe k.pipes id) (stays_full w.pipe xs w.holds) ∙ same_pipe k.pipes id w.pipe w.found)

  write_is : (id : ℕ) (b : List ℕ) (refused : Bool) (o : Option ℕ) → object_of (file_at k.entries o) ≡ Some (PipeWrite id) → write_held k p after b refused o ≡ write_pipe k p after id (put_of (at k.table p)) (drop (put_of (at k.table p)) b) (pipe_of k.pipes id)
  write_is id b refused None is = absurd (let z : ⊥ = cc in z)
  write_is id b refused (Some e) is = by (entry_at k.entries e) is where
    by : (f : Option OpenFile) → object_of f ≡ Some (PipeWrite id) → write_entry k p after e b refused f ≡ write_pipe k p after id (put_of (at k.table p)) (drop (put_of (at k.table p)) b) (pipe_of k.pipes id)
    by None is = absurd (let z : ⊥ = cc in z)
    by (Some f) is = let it : f.object ≡ PipeWrite id = cc in ap (write_object k p after e f.offset b refused) it

  left_some : (put : ℕ) (b : List ℕ) → put < length b → 0 < length (drop put b)
  left_some zero b less = less
  left_some (suc put) [] less = absurd (omega (arith, less))
  left_some (suc put) (y ∷ b) less = left_some put b (omega (arith, less))

  -- ---- any call of one that has to wait

  pub sleeps_call : (ch : Channel) (c : Call) (refused : Bool) → FinePut (Asleep ch) x.put → Waits k.table k.pipes p ch → MaySleep k p c x.put ch → woke (acted k p after c refused) ≡ woke (sleeps k p ch x.put)
  sleeps_call (Children pid) c refused none w m =
      ap (λ (d : Call). woke (acted k p after d refused)) m.1 ∙ sleeps_wait none w.1 refused ∙ (λ i. woke (sleeps k p (Children (sym w.0 i)) x.put))
  sleeps_call (PipeBytes id) c refused none w m =
      ap (λ (d : Call). woke (acted k p after d refused)) m.2 ∙ ap woke (read_is id (min m.1 block_size) (entry_of (fds_at k p) m.0) m.3) ∙ sleeps_read id (min m.1 block_size) none w
  sleeps_call (PipeRoom id) c refused fine w m =
      let at_p : put_of (at k.table p) ≡ x.put = ap put_of there in
      ap (λ (d : Call). woke (acted k p after d refused)) m.1.1 ∙ ap woke (write_is id m.0 refused (entry_of (fds_at k p) m.1.0) m.1.2) ∙
      (λ i. woke (write_pipe k p after id (at_p i) (drop (at_p i) m.0) (pipe_of k.pipes id))) ∙ sleeps_write id (drop x.put m.0) (left_some x.put m.0 m.2) w

  -- ---- any call of one that sleeps

  -- whoever sleeps with as much put as before is as if awake
  sleeps_unseen : (c : Channel) → x.status ≡ Asleep c → woke_table (slept k.table p c x.put) ≡ woke_table k.table
  sleeps_unseen c asleep =
      map-set_same woke_slot k.table p (put_to_sleep c x.put (at k.table p)) None
      (ap (λ (y : Slot S). woke_slot (put_to_sleep c x.put y)) there ∙ (λ i. woke_slot (Some (record x { status = sym asleep i }))) ∙ ap woke_slot (sym there))

  pub idle_call : (ch : Channel) (c : Call) (refused : Bool) → x.status ≡ Asleep ch → FinePut x.status x.put → Waits k.table k.pipes p ch → MaySleep k p c x.put ch → woke (acted k p after c refused) ≡ woke k
  idle_call ch c refused asleep fine w m =
      sleeps_call ch c refused (subst (λ (s : Status). FinePut s x.put) asleep fine) w m ∙ (λ i. record k { table = sleeps_unseen ch asleep i })
