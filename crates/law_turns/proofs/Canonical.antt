-- Kernels of runs that are alike but for who sleeps have the same key: each pipe that is named is there, so it has a place.
use Rattle.std.proofs.Common.{◌≡◌, ℕ, suc, ◌<◌, [], ◌∷◌, Bool, true, false, Option, Some, None, refl, sym, ap, subst, ◌∙◌, arith}
use Rattle.std.proofs.lemmas.Bool.{eq-eqb}
use Rattle.std.proofs.lemmas.List.Sums.{sum_by-cons}
use Rattle.std.specs.Prelude.{map, cond, count_by, ◌==◌, if◌then◌else◌}
use Rattle.user_calls.specs.declared.calls.Call.{Call}
use Rattle.user_calls.specs.declared.calls.Reply.{Reply}
use Rattle.byte_pipe.specs.PipeState.{PipeState}
use Rattle.fd_table.specs.declared.names.Object.{Object}
use Rattle.fd_table.specs.declared.names.Object.TheVariants.{Input, Out, Diag, File, PipeRead, PipeWrite}
use Rattle.fd_table.specs.Entries.{Entries, OpenFile}
use Rattle.proc_table.specs.declared.states.Status.{Status}
use Rattle.proc_table.specs.declared.states.Status.TheVariants.{Runnable, Running, Asleep, Zombie}
use Rattle.proc_table.specs.Slots.{Slot, Table, tally}
use Rattle.kernel_model.specs.Pipes.{Pipes, pipe_of}
use Rattle.kernel_model.specs.KernelState.{KernelState}
use Rattle.law_kernel.specs.Ends.{reads_pipe, writes_pipe, has_object, read_end_open, write_end_open, EndsAgree}
use Rattle.law_kernel.proofs.kernel.EndsRuns.{every_run_in_step}
use Rattle.kernel_model.specs.Idle.{renamed_object, renamed_entry, renamed_pipe, idle_status, idle_slot, idle_kernel}
use Rattle.kernel_model.specs.Alike.{IsOneToOne}
use Rattle.kernel_model.specs.Key.{place_in, key}
use Rattle.kernel_model.specs.Turns.{quiet_turns, turn_events, turn_notes}
use Rattle.law_turns.proofs.orders.Tables.{same_eq}
use Rattle.kernel_model.specs.Woke.{woke_status, woke_slot, woke_table, woke, AlikeAwake, SameKeyAwake}
use Rattle.kernel_model.specs.Begun.{IsBegun}

-- ---- places

abbrev IsNamed : Pipes → ℕ → Type 0
IsNamed pipes id = (p : PipeState) × (pipe_of pipes id ≡ Some p)

module _ (name : ℕ → ℕ) (one : IsOneToOne name) where
  place_by : (p : ℕ × PipeState) (rest : Pipes) (id : ℕ) (b : Bool) → (IsNamed rest id → place_in (map (renamed_pipe name) rest) (name id) ≡ place_in rest id) → (q : PipeState) → (if b then Some p.1 else pipe_of rest id) ≡ Some q
      → (if b then 0 else suc (place_in (map (renamed_pipe name) rest) (name id))) ≡ (if b then 0 else suc (place_in rest id))
  place_by p rest id true on q is = refl
  place_by p rest id false on q is = ap suc (on (q, is))

  place_same : (pipes : Pipes) (id : ℕ) → IsNamed pipes id → place_in (map (renamed_pipe name) pipes) (name id) ≡ place_in pipes id
  place_same [] id named = absurd (let e = named.1 in let z : ⊥ = cc in z)
  place_same (p ∷ rest) id named =
      (λ i. if same_eq name one id p.0 i then 0 else suc (place_in (map (renamed_pipe name) rest) (name id))) ∙ place_by p rest id (id == p.0) (place_same rest id) named.0 named.1

  -- ---- the pipes

  abbrev Each : (ℕ → Type 0) → Pipes → Type 0
  Each G [] = Unit {0}
  Each G (p ∷ rest) = G p.0 × Each G rest

  each_more : (G H : ℕ → Type 0) → ((id : ℕ) → G id → H id) → (pipes : Pipes) → Each G pipes → Each H pipes
  each_more G H more [] each = tt
  each_more G H more (p ∷ rest) each = (more p.0 each.0, each_more G H more rest each.1)

  named_on : (p : ℕ × PipeState) (rest : Pipes) (id : ℕ) → IsNamed rest id → IsNamed (p ∷ rest) id
  named_on p rest id named = by (id == p.0) where
    by : (b : Bool) → (q : PipeState) × ((if b then Some p.1 else pipe_of rest id) ≡ Some q)
    by true = (p.1, refl)
    by false = named

  each_named : (pipes : Pipes) → Each (IsNamed pipes) pipes
  each_named [] = tt
  each_named (p ∷ rest) =
      ((p.1, ap (λ (b : Bool). if b then Some p.1 else pipe_of rest p.0) (eq-eqb p.0 p.0 refl)), each_more (IsNamed rest) (IsNamed (p ∷ rest)) (named_on p rest) rest (each_named rest))

  module _ (p q : ℕ → ℕ) where
    abbrev Same : ℕ → Type 0
    Same id = p (name id) ≡ q id

    pipes_same : (pipes : Pipes) → Each Same pipes → map (renamed_pipe p) (map (renamed_pipe name) pipes) ≡ map (renamed_pipe q) pipes
    pipes_same [] each = refl
    pipes_same (x ∷ rest) each = λ i. (each.0 i, x.1) ∷ pipes_same rest each.1 i

    -- ---- the entries

    abbrev HasNamed : Entries → Type 0
    HasNamed E = ((id : ℕ) → 0 < count_by (has_object (reads_pipe id)) E → Same id) × ((id : ℕ) → 0 < count_by (has_object (writes_pipe id)) E → Same id)

    less_counted : (test : Option OpenFile → Bool) (x : Option OpenFile) (E : Entries) → 0 < count_by test E → 0 < count_by test (x ∷ E)
    less_counted test x E some = omega (arith, some, sum_by-cons (λ (y : Option OpenFile). cond {A = ℕ} (test y) 1 0) x E)

    here_counted : (test : Option OpenFile → Bool) (x : Option OpenFile) (E : Entries) → test x ≡ true → 0 < count_by test (x ∷ E)
    here_counted test x E is = omega (arith, sum_by-cons (λ (y : Option OpenFile). cond {A = ℕ} (test y) 1 0) x E, ap (λ (b : Bool). cond {A = ℕ} b 1 0) is)

    object_same : (o : Object) → ((id : ℕ) → reads_pipe id o ≡ true → Same id) → ((id : ℕ) → writes_pipe id o ≡ true → Same id) → renamed_object p (renamed_object name o) ≡ renamed_object q o
    object_same Input r w = refl
    object_same Out r w = refl
    object_same Diag r w = refl
    object_same (File file mode) r w = refl
    object_same (PipeRead id) r w = ap PipeRead (r id (eq-eqb id id refl))
    object_same (PipeWrite id) r w = ap PipeWrite (w id (eq-eqb id id refl))

    entry_same : (x : Option OpenFile) → ((id : ℕ) → has_object (reads_pipe id) x ≡ true → Same id) → ((id : ℕ) → has_object (writes_pipe id) x ≡ true → Same id) → renamed_entry p (renamed_entry name x) ≡ renamed_entry q x
    entry_same None r w = refl
    entry_same (Some f) r w = λ i. Some (record f { object = object_same f.object r w i })

    entries_same : (E : Entries) → HasNamed E → map (renamed_entry p) (map (renamed_entry name) E) ≡ map (renamed_entry q) E
    entries_same [] has = refl
    entries_same (x ∷ E) has =
        let here = entry_same x (λ id is. has.0 id (here_counted (has_object (reads_pipe id)) x E is)) (λ id is. has.1 id (here_counted (has_object (writes_pipe id)) x E is)) in
        let rest = entries_same E ((λ id some. has.0 id (less_counted (has_object (reads_pipe id)) x E some)), (λ id some. has.1 id (less_counted (has_object (writes_pipe id)) x E some))) in
        λ i. here i ∷ rest i

    -- ---- the table, where nobody sleeps

    status_same : (s : Status) → idle_status p (idle_status name (woke_status s)) ≡ idle_status q (woke_status s)
    status_same Runnable = refl
    status_same (Running h) = refl
    status_same (Asleep c) = refl
    status_same Zombie = refl

    slot_same : {S : Type 0} (x : Slot S) → idle_slot p (idle_slot name (woke_slot x)) ≡ idle_slot q (woke_slot x)
    slot_same None = refl
    slot_same (Some x) = λ i. Some (record x { status = status_same x.status i })

    table_same : {S : Type 0} (t : Table S) → map (idle_slot p) (map (idle_slot name) (woke_table t)) ≡ map (idle_slot q) (woke_table t)
    table_same [] = refl
    table_same (x ∷ t) = λ i. slot_same x i ∷ table_same t i

  -- ---- the kernel

  tally_some : (b : Bool) → 0 < tally b → b ≡ true
  tally_some true some = refl
  tally_some false some = absurd (omega (arith, some))

  read_named : (pipes : Pipes) (id : ℕ) (o : Option PipeState) → pipe_of pipes id ≡ o → read_end_open o ≡ true → IsNamed pipes id
  read_named pipes id None is open_end = absurd (let z : ⊥ = cc in z)
  read_named pipes id (Some p) is open_end = (p, is)

  write_named : (pipes : Pipes) (id : ℕ) (o : Option PipeState) → pipe_of pipes id ≡ o → write_end_open o ≡ true → IsNamed pipes id
  write_named pipes id None is open_end = absurd (let z : ⊥ = cc in z)
  write_named pipes id (Some p) is open_end = (p, is)

  pub rekeyed : {S : Type 0} (k : KernelState S) → EndsAgree k.entries k.pipes → key (idle_kernel name 0 (woke k)) ≡ key (woke k)
  rekeyed k ends =
      let p : ℕ → ℕ = place_in (map (renamed_pipe name) k.pipes) in
      let q : ℕ → ℕ = place_in k.pipes in
      let reads : (id : ℕ) → 0 < count_by (has_object (reads_pipe id)) k.entries → Same p q id = λ id some.
      place_same k.pipes id (read_named k.pipes id (pipe_of k.pipes id) refl (tally_some (read_end_open (pipe_of k.pipes id)) (subst (λ (n : ℕ). 0 < n) (ends.readers id) some))) in
      let writes : (id : ℕ) → 0 < count_by (has_object (writes_pipe id)) k.entries → Same p q id = λ id some.
      place_same k.pipes id (write_named k.pipes id (pipe_of k.pipes id) refl (tally_some (write_end_open (pipe_of k.pipes id)) (subst (λ (n : ℕ). 0 < n) (ends.writers id) some))) in
      λ i. record (key (woke k)) {
        table = table_same p q k.table i;
        entries = entries_same p q k.entries (reads, writes) i;
        pipes = pipes_same p q k.pipes (each_more (IsNamed k.pipes) (Same p q) (place_same k.pipes) k.pipes (each_named k.pipes)) i;
      }

module _ {S : Type 0} (call : S → Reply → Call) (next : S → Reply → S) where
  ends_agree : (k : KernelState S) (b : IsBegun call next k) → EndsAgree k.entries k.pipes
  ends_agree k b = every_run_in_step call next b.init b.shell b.input b.files (turn_events (quiet_turns b.pids)) (turn_notes (quiet_turns b.pids)) k b.turns

  pub alike_same_key : (k l : KernelState S) → IsBegun call next k → IsBegun call next l → AlikeAwake k l → SameKeyAwake k l
  alike_same_key k l b d a = sym (rekeyed a.first a.first_one_to_one k (ends_agree k b)) ∙ ap key a.same ∙ rekeyed a.second a.second_one_to_one l (ends_agree l d)
