-- What one call puts into a pipe and takes from it accounts for what the pipe then holds.
use Rattle.std.proofs.Common.{◌≡◌, ◌≢◌, ◌⊎◌, ℕ, ◌+◌, ◌-◌, List, [], ◌++◌, Bool, true, false, Option, Some, None, take, drop, refl, sym, ap, ◌∙◌, inl, inr, arith}
use Rattle.std.proofs.lemmas.Bool.{cases_eq, eq-eqb, ne_eqb}
use Rattle.std.specs.Prelude.{◌==◌, if◌then◌else◌}
use Rattle.std.proofs.lemmas.List.{take-append-drop}
use Rattle.user_calls.specs.declared.calls.Call.{Call}
use Rattle.user_calls.specs.declared.calls.Call.TheVariants.{Fork, Exec, Exit, Wait, MakePipe, Read, Write, OpenFile, Close, Dup}
use Rattle.user_calls.specs.declared.calls.Reply.{Reply}
use Rattle.user_calls.specs.declared.calls.Reply.TheVariants.{Done, Bytes as Given, Refused}
use Rattle.fd_table.specs.declared.descriptors.TheConstants.{DESCRIPTORS}
use Rattle.fd_table.specs.declared.names.Object.{Object}
use Rattle.fd_table.specs.declared.names.Object.TheVariants.{Input, Out, Diag, File, PipeRead, PipeWrite}
use Rattle.byte_pipe.specs.PipeState.{PipeState, new_pipe, after_put, after_take, appended}
use Rattle.proc_table.specs.declared.states.Channel.{Channel}
use Rattle.proc_table.specs.declared.states.Channel.TheVariants.{PipeBytes, PipeRoom}
use Rattle.proc_table.specs.Slots.{Slot, Table, Process, at, put_of}
use Rattle.proc_table.specs.Calls.{readied, made_ready, slept, put_to_sleep, all_woken, woken}
use Rattle.proc_table.proofs.Changes.{written, mapped}
use Rattle.kernel_model.specs.KernelState.{KernelState}
use Rattle.kernel_model.specs.Pipes.{Pipes, pipe_of, with_pipe, with_new}
use Rattle.kernel_model.specs.Descriptors.{with_reader}
use Rattle.kernel_model.specs.Opening.{with_bytes}
use Rattle.kernel_model.specs.Modes.{entry_mode}
use Rattle.law_kernel.specs.Ends.{AreApart, reads_pipe, writes_pipe}
use Rattle.law_kernel.proofs.kernel.OnePipe.{found_now, others_found}
use Rattle.law_kernel.proofs.kernel.PipeNames.{new_other, new_self}
use Rattle.law_kernel.specs.Outcome.{Outcome, IsRead, IsWrite, object_at, left_of, refused, lacks, forks, runs, exits, reaps, waits, opens, opens_empty, closes, dups, pipes, reads_input, reads_file, takes, waits_for_bytes, meets_end, tells, complains, writes_over, appends, puts_all, puts_part}
use Rattle.law_kernel.specs.Flow.{got, went, passes, put_by, taken_by}
use Rattle.law_kernel.proofs.kernel.BytesKept.{closed_kept, closed_below_kept, open_pipes}

-- the bytes x come into a pipe and y leave it: it holds what it held, or it is made at this event, and nothing moves; or only
-- one of the two is anything
pub data Moves (id event : ℕ) (before now : Option PipeState) (x y : List ℕ) : Type 0 where
  stays : x ≡ [] → y ≡ [] → ((q : PipeState) → now ≡ Some q → (p : PipeState) × (before ≡ Some p) × (q.bytes ≡ p.bytes)) → Moves id event before now x y
  begins : x ≡ [] → y ≡ [] → id ≡ event → ((q : PipeState) → now ≡ Some q → q.bytes ≡ []) → Moves id event before now x y
  comes : (p : PipeState) → before ≡ Some p → y ≡ [] → ((q : PipeState) → now ≡ Some q → q.bytes ≡ p.bytes ++ x) → Moves id event before now x y
  goes : (p : PipeState) (rest : List ℕ) → before ≡ Some p → x ≡ [] → p.bytes ≡ y ++ rest → ((q : PipeState) → now ≡ Some q → q.bytes ≡ rest) → Moves id event before now x y

-- ---- what a slot shows

if_none : (b : Bool) (x : List ℕ) → x ≡ [] → (if b then x else []) ≡ []
if_none true x none = none
if_none false x none = refl

less_again : (a n : ℕ) → (a + n) - a ≡ n
less_again a n = omega arith

module _ {S : Type 0} (id : ℕ) (k : KernelState S) (pid : ℕ) (after : S) (call : Call) (new : KernelState S) (p0 : Process S) (there : at k.table pid ≡ Some p0) where
  abbrev Step : Type 0
  Step = Moves id k.events (pipe_of k.pipes id) (pipe_of new.pipes id) (put_by id k pid call new) (taken_by id k pid call new)

  -- ---- calls that move nothing

  nothing_put : (c : Call) → ((before : ℕ) (left : List ℕ) → went before left (at new.table pid) ≡ []) → put_by id k pid c new ≡ []
  nothing_put Fork none = refl
  nothing_put (Exec found) none = refl
  nothing_put Exit none = refl
  nothing_put Wait none = refl
  nothing_put MakePipe none = refl
  nothing_put (Read fd n) none = refl
  nothing_put (Write fd b) none = if_none (passes (writes_pipe id) (object_at k pid fd)) _ (none (put_of (at k.table pid)) (left_of k pid b))
  nothing_put (OpenFile name mode) none = refl
  nothing_put (Close fd) none = refl
  nothing_put (Dup fd) none = refl

  nothing_taken : (c : Call) → got (at new.table pid) ≡ [] → taken_by id k pid c new ≡ []
  nothing_taken Fork none = refl
  nothing_taken (Exec found) none = refl
  nothing_taken Exit none = refl
  nothing_taken Wait none = refl
  nothing_taken MakePipe none = refl
  nothing_taken (Read fd n) none = if_none (passes (reads_pipe id) (object_at k pid fd)) _ none
  nothing_taken (Write fd b) none = refl
  nothing_taken (OpenFile name mode) none = refl
  nothing_taken (Close fd) none = refl
  nothing_taken (Dup fd) none = refl

  -- the pipes are as they were
  same_pipes : new.pipes ≡ k.pipes → (q : PipeState) → pipe_of new.pipes id ≡ Some q → (p : PipeState) × (pipe_of k.pipes id ≡ Some p) × (q.bytes ≡ p.bytes)
  same_pipes same q found = (q, ap (λ (l : Pipes). pipe_of l id) (sym same) ∙ found, refl)

  -- a call that is neither a read nor a write
  other_call : (c : Call) → call ≡ c → put_by id k pid c new ≡ [] → taken_by id k pid c new ≡ [] → ((q : PipeState) → pipe_of new.pipes id ≡ Some q → (p : PipeState) × (pipe_of k.pipes id ≡ Some p) × (q.bytes ≡ p.bytes)) → Step
  other_call c is no_put no_take kept =
      stays (ap (λ (d : Call). put_by id k pid d new) is ∙ no_put) (ap (λ (d : Call). taken_by id k pid d new) is ∙ no_take) kept

  -- a read or a write of something that is no pipe
  other_read : (object : Object) → IsRead k pid call object → reads_pipe id object ≡ false → new.pipes ≡ k.pipes → Step
  other_read object r unlike same =
      stays (ap (λ (d : Call). put_by id k pid d new) r.2)
      (ap (λ (d : Call). taken_by id k pid d new) r.2 ∙ ap (λ (o : Option Object). if passes (reads_pipe id) o then got (at new.table pid) else []) r.3 ∙ ap (λ (b : Bool). if b then got (at new.table pid) else []) unlike)
      (same_pipes same)

  other_write : (object : Object) (b : List ℕ) → IsWrite k pid call object b → writes_pipe id object ≡ false → new.pipes ≡ k.pipes → Step
  other_write object b w unlike same =
      stays
      (ap (λ (d : Call). put_by id k pid d new) w.1 ∙ ap (λ (o : Option Object). if passes (writes_pipe id) o then went (put_of (at k.table pid)) (left_of k pid b) (at new.table pid) else []) w.2 ∙ ap (λ (c : Bool). if c then went (put_of (at k.table pid)) (left_of k pid b) (at new.table pid) else []) unlike)
      (ap (λ (d : Call). taken_by id k pid d new) w.1)
      (same_pipes same)

  -- ---- what reads and writes of pipes move

  taken_here : (other : ℕ) → IsRead k pid call (PipeRead other) → taken_by id k pid call new ≡ (if id == other then got (at new.table pid) else [])
  taken_here other r = ap (λ (d : Call). taken_by id k pid d new) r.2 ∙ ap (λ (o : Option Object). if passes (reads_pipe id) o then got (at new.table pid) else []) r.3

  put_here : (other : ℕ) (b : List ℕ) → IsWrite k pid call (PipeWrite other) b → put_by id k pid call new ≡ (if id == other then went (put_of (at k.table pid)) (left_of k pid b) (at new.table pid) else [])
  put_here other b w = ap (λ (d : Call). put_by id k pid d new) w.1 ∙ ap (λ (o : Option Object). if passes (writes_pipe id) o then went (put_of (at k.table pid)) (left_of k pid b) (at new.table pid) else []) w.2

  -- a read of a pipe that got nothing
  nothing_read : (other : ℕ) → IsRead k pid call (PipeRead other) → got (at new.table pid) ≡ [] → new.pipes ≡ k.pipes → Step
  nothing_read other r none same =
      stays (ap (λ (d : Call). put_by id k pid d new) r.2) (taken_here other r ∙ if_none (id == other) (got (at new.table pid)) none) (same_pipes same)

  take_step : (other n : ℕ) (p : PipeState) → IsRead k pid call (PipeRead other) → pipe_of k.pipes other ≡ Some p → new.pipes ≡ with_pipe k.pipes other (after_take p n) → got (at new.table pid) ≡ take n p.bytes → (id ≡ other) ⊎ (id ≢ other) → Step
  take_step other n p r found now answer (inl same) =
      goes p (drop n p.bytes) (ap (pipe_of k.pipes) same ∙ found) (ap (λ (d : Call). put_by id k pid d new) r.2)
      (sym (take-append-drop {A = ℕ} n p.bytes) ∙ ap (λ (l : List ℕ). l ++ drop n p.bytes) (sym (taken_here other r ∙ ap (λ (b : Bool). if b then got (at new.table pid) else []) (eq-eqb id other same) ∙ answer)))
      (λ q is.
      let both : Some (after_take p n) ≡ Some q = sym (found_now k.pipes other p (after_take p n) found) ∙ sym (ap (λ (l : Pipes). pipe_of l other) now) ∙ ap (pipe_of new.pipes) (sym same) ∙ is in
      let it : after_take p n ≡ q = cc in
      ap (λ (x : PipeState). x.bytes) (sym it))
  take_step other n p r found now answer (inr ne) =
      stays (ap (λ (d : Call). put_by id k pid d new) r.2) (taken_here other r ∙ ap (λ (b : Bool). if b then got (at new.table pid) else []) (ne_eqb id other ne))
      (λ q is. (q, sym (others_found k.pipes other id (after_take p n) ne) ∙ sym (ap (λ (l : Pipes). pipe_of l id) now) ∙ is, refl))

  put_step : (other : ℕ) (p : PipeState) (b : List ℕ) → IsWrite k pid call (PipeWrite other) b → pipe_of k.pipes other ≡ Some p → new.pipes ≡ with_pipe k.pipes other (after_put p (left_of k pid b)) → went (put_of (at k.table pid)) (left_of k pid b) (at new.table pid) ≡ appended p (left_of k pid b) → (id ≡ other) ⊎ (id ≢ other) → Step
  put_step other p b w found now all (inl same) =
      comes p (ap (pipe_of k.pipes) same ∙ found) (ap (λ (d : Call). taken_by id k pid d new) w.1)
      (λ q is.
      let put : PipeState = after_put p (left_of k pid b) in
      let both : Some put ≡ Some q = sym (found_now k.pipes other p put found) ∙ sym (ap (λ (l : Pipes). pipe_of l other) now) ∙ ap (pipe_of new.pipes) (sym same) ∙ is in
      let it : put ≡ q = cc in
      ap (λ (x : PipeState). x.bytes) (sym it)
      ∙ ap (λ (l : List ℕ). p.bytes ++ l) (sym (put_here other b w ∙ ap (λ (c : Bool). if c then went (put_of (at k.table pid)) (left_of k pid b) (at new.table pid) else []) (eq-eqb id other same) ∙ all)))
  put_step other p b w found now all (inr ne) =
      stays (put_here other b w ∙ ap (λ (c : Bool). if c then went (put_of (at k.table pid)) (left_of k pid b) (at new.table pid) else []) (ne_eqb id other ne)) (ap (λ (d : Call). taken_by id k pid d new) w.1)
      (λ q is. (q, sym (others_found k.pipes other id (after_put p (left_of k pid b)) ne) ∙ sym (ap (λ (l : Pipes). pipe_of l id) now) ∙ is, refl))

  -- a new pipe
  pipe_step : call ≡ MakePipe → pipe_of k.pipes k.events ≡ None → new.pipes ≡ with_new k.pipes k.events → (id ≡ k.events) ⊎ (id ≢ k.events) → Step
  pipe_step is none now (inl same) =
      begins (ap (λ (d : Call). put_by id k pid d new) is) (ap (λ (d : Call). taken_by id k pid d new) is) same
      (λ q found.
      let both : Some new_pipe ≡ Some q = sym (new_self k.pipes k.events none) ∙ sym (ap (λ (l : Pipes). pipe_of l k.events) now) ∙ ap (pipe_of new.pipes) (sym same) ∙ found in
      let it : new_pipe ≡ q = cc in
      ap (λ (x : PipeState). x.bytes) (sym it))
  pipe_step is none now (inr ne) =
      other_call MakePipe is refl refl (λ q found. (q, sym (new_other k.pipes k.events id ne) ∙ sym (ap (λ (l : Pipes). pipe_of l id) now) ∙ found, refl))

  -- ---- the slot of the caller after the call

  ready_slot : (j : Table S) (m : S) (r : Reply) (o : Slot S) → at j pid ≡ o → at (readied j pid m r) pid ≡ made_ready m r o
  ready_slot j m r o is = written (made_ready m r) refl j pid ∙ ap (made_ready m r) is

  woken_slot : (c : Channel) (m : S) (r : Reply) → at (all_woken c (readied k.table pid m r)) pid ≡ made_ready m r (Some p0)
  woken_slot c m r = mapped (woken c) refl (readied k.table pid m r) pid ∙ ap (woken c) (ready_slot k.table m r (Some p0) there)

  sleeping_slot : (c : Channel) (put : ℕ) → at (slept k.table pid c put) pid ≡ put_to_sleep c put (Some p0)
  sleeping_slot c put = written (put_to_sleep c put) refl k.table pid ∙ ap (put_to_sleep c put) there

  put_slot : (one other put : ℕ) → at (all_woken (PipeBytes one) (slept k.table pid (PipeRoom other) put)) pid ≡ put_to_sleep (PipeRoom other) put (Some p0)
  put_slot one other put = mapped (woken (PipeBytes one)) refl (slept k.table pid (PipeRoom other) put) pid ∙ ap (woken (PipeBytes one)) (sleeping_slot (PipeRoom other) put)

  -- ---- each way to end

  abbrev pipes_now : KernelState S → Pipes
  pipes_now n = n.pipes

  slot_now : (m : KernelState S) (x : Slot S) → new ≡ m → at m.table pid ≡ x → at new.table pid ≡ x
  slot_now m x is at_m = ap (λ (n : KernelState S). at n.table pid) is ∙ at_m

  refused_moves : new.table ≡ readied k.table pid after Refused → new.pipes ≡ k.pipes → Step
  refused_moves is same =
      let slot : at new.table pid ≡ made_ready after Refused (Some p0) = ap (λ (t : Table S). at t pid) is ∙ ready_slot k.table after Refused (Some p0) there in
      stays (nothing_put call (λ before left. ap (went before left) slot)) (nothing_taken call (ap got slot)) (same_pipes same)

  pub outcome_moves : AreApart k.pipes → pipe_of k.pipes k.events ≡ None → Outcome k pid after call new → Step
  outcome_moves apart none (refused is) = refused_moves (ap (λ (n : KernelState S). n.table) is) (ap pipes_now is)
  outcome_moves apart none (lacks full is) = refused_moves (ap (λ (n : KernelState S). n.table) is) (ap pipes_now is)
  outcome_moves apart none (forks child c free is) = other_call Fork c refl refl (same_pipes (ap pipes_now is))
  outcome_moves apart none (runs c is) = other_call (Exec true) c refl refl (same_pipes (ap pipes_now is))
  outcome_moves apart none (exits c ne is) =
      other_call Exit c refl refl (λ q found. (closed_below_kept id pid k DESCRIPTORS apart).bytes q (ap (λ (n : KernelState S). pipe_of n.pipes id) (sym is) ∙ found))
  outcome_moves apart none (reaps child c dead is) = other_call Wait c refl refl (same_pipes (ap pipes_now is))
  outcome_moves apart none (waits child c dead some is) = other_call Wait c refl refl (same_pipes (ap pipes_now is))
  outcome_moves apart none (opens name mode fd c is) =
      other_call (OpenFile name mode) c refl refl (same_pipes (ap pipes_now is ∙ open_pipes id pid k (File name (entry_mode mode))))
  outcome_moves apart none (opens_empty name mode fd c is) =
      other_call (OpenFile name mode) c refl refl (same_pipes (ap pipes_now is ∙ open_pipes id pid (with_bytes k name []) (File name (entry_mode mode))))
  outcome_moves apart none (closes fd c is) =
      other_call (Close fd) c refl refl (λ q found. (closed_kept id pid k fd apart).bytes q (ap (λ (n : KernelState S). pipe_of n.pipes id) (sym is) ∙ found))
  outcome_moves apart none (dups fd entry place c held free is) = other_call (Dup fd) c refl refl (same_pipes (ap pipes_now is))
  outcome_moves apart none (pipes reader writer c two is) =
      let made : KernelState S = record k { pipes = with_new k.pipes k.events } in
      pipe_step c none (ap pipes_now is ∙ open_pipes id pid (with_reader k pid k.events) (PipeWrite k.events) ∙ open_pipes id pid made (PipeRead k.events)) (cases_eq id k.events)
  outcome_moves apart none (reads_input n r is) = other_read Input r refl (ap pipes_now is)
  outcome_moves apart none (reads_file name mode entry n bytes r is) = other_read (File name mode) r refl (ap pipes_now is)
  outcome_moves apart none (takes other n p r found some is) =
      take_step other n p r found (ap pipes_now is) (ap got (slot_now _ _ is (woken_slot (PipeRoom other) after (Given (take n p.bytes))))) (cases_eq id other)
  outcome_moves apart none (waits_for_bytes other p r found empty unshut is) =
      nothing_read other r (ap got (slot_now _ _ is (sleeping_slot (PipeBytes other) 0))) (ap pipes_now is)
  outcome_moves apart none (meets_end other p r found empty shut is) =
      nothing_read other r (ap got (slot_now _ _ is (ready_slot k.table after (Given []) (Some p0) there))) (ap pipes_now is)
  outcome_moves apart none (tells b w is) = other_write Out b w refl (ap pipes_now is)
  outcome_moves apart none (complains b w is) = other_write Diag b w refl (ap pipes_now is)
  outcome_moves apart none (writes_over name mode entry b bytes w is) = other_write (File name mode) b w refl (ap pipes_now is)
  outcome_moves apart none (appends name mode entry b bytes w is) = other_write (File name mode) b w refl (ap pipes_now is)
  outcome_moves apart none (puts_all other p b w found all is) =
      put_step other p b w found (ap pipes_now is) (ap (went (put_of (at k.table pid)) (left_of k pid b)) (slot_now _ _ is (woken_slot (PipeBytes other) after Done)) ∙ sym all) (cases_eq id other)
  outcome_moves apart none (puts_part other n p b w found reads filled part some is) =
      let before = put_of (at k.table pid) in
      put_step other p b w found (ap pipes_now is)
      (ap (went before (left_of k pid b)) (slot_now _ _ is (put_slot other other (before + n))) ∙ ap (λ (m : ℕ). take m (left_of k pid b)) (less_again before n) ∙ sym part) (cases_eq id other)
