-- Whoever sleeps on the bytes of a pipe or on children has put nothing.
use Rattle.std.proofs.Common.{◌≡◌, ◌⊎◌, ℕ, zero, suc, Bool, true, false, Option, Some, None, refl, sym, subst, inl, inr}
use Rattle.std.proofs.Math.ListN.{set}
use Rattle.std.specs.Prelude.{is_some, map, if◌then◌else◌, Result, Ok, Err}
use Rattle.user_calls.specs.declared.calls.Call.{Call}
use Rattle.user_calls.specs.declared.calls.Reply.{Reply}
use Rattle.fd_table.specs.declared.descriptors.TheConstants.{DESCRIPTORS}
use Rattle.fd_table.specs.declared.faults.FdFault.{FdFault}
use Rattle.fd_table.specs.declared.names.Object.{Object}
use Rattle.fd_table.specs.declared.names.Object.TheVariants.{Input, Out, Diag, File, PipeRead, PipeWrite}
use Rattle.fd_table.specs.Entries.{lowest_free_entry}
use Rattle.fd_table.specs.Descriptors.{Descriptors, close_answer}
use Rattle.proc_table.specs.declared.states.Channel.{Channel}
use Rattle.proc_table.specs.declared.states.Channel.TheVariants.{PipeBytes, PipeRoom, Children}
use Rattle.proc_table.specs.declared.states.Status.{Status}
use Rattle.proc_table.specs.declared.states.Status.TheVariants.{Runnable, Running, Asleep, Zombie}
use Rattle.proc_table.specs.Slots.{Slot, Table, at, same_channel, parent_of}
use Rattle.proc_table.specs.Calls.{made_ready, put_to_sleep, with_fds, with_status, woken, woken_status, all_woken, given, buried, exited, freed, reaped, zombie_child}
use Rattle.proc_table.proofs.Changes.{mapped}
use Rattle.kernel_model.specs.KernelState.{KernelState}
use Rattle.kernel_model.specs.Descriptors.{let_go, let_go_of, taken_away, closed, closed_below, opened_at, with_open, with_reader, with_ends}
use Rattle.kernel_model.proofs.Offsets.{slot_cases}
use Rattle.law_kernel.specs.Outcome.{Outcome, refused, lacks, forks, runs, exits, reaps, waits, opens, opens_empty, closes, dups, pipes, reads_input, reads_file, takes, waits_for_bytes, meets_end, tells, complains, writes_over, appends, puts_all, puts_part}

abbrev pub FinePut : Status → ℕ → Type 0
FinePut Runnable put = Unit {0}
FinePut (Running h) put = Unit {0}
FinePut (Asleep (PipeBytes id)) put = put ≡ 0
FinePut (Asleep (PipeRoom id)) put = Unit {0}
FinePut (Asleep (Children pid)) put = put ≡ 0
FinePut Zombie put = Unit {0}

abbrev pub Fine : {S : Type 0} → Slot S → Type 0
Fine None = Unit {0}
Fine (Some p) = FinePut p.status p.put

abbrev pub AllFine : {S : Type 0} → Table S → Type 0
AllFine t = (q : ℕ) → Fine (at t q)

fine_if : (b : Bool) (d : Channel) (put : ℕ) → FinePut (Asleep d) put → FinePut (if b then Runnable else Asleep d) put
fine_if true d put f = tt
fine_if false d put f = f

fine_woken_status : (c : Channel) (s : Status) (put : ℕ) → FinePut s put → FinePut (woken_status c s) put
fine_woken_status c Runnable put f = tt
fine_woken_status c (Running h) put f = tt
fine_woken_status c (Asleep d) put f = fine_if (same_channel c d) d put f
fine_woken_status c Zombie put f = tt

fine_woken : {S : Type 0} (c : Channel) (x : Slot S) → Fine x → Fine (woken c x)
fine_woken c None f = tt
fine_woken c (Some p) f = fine_woken_status c p.status p.put f

fine_given : {S : Type 0} (pid : ℕ) (x : Slot S) → Fine x → Fine (given pid x)
fine_given pid None f = tt
fine_given pid (Some p) f = f

fine_ready : {S : Type 0} (m : S) (r : Reply) (x : Slot S) → Fine (made_ready m r x)
fine_ready m r None = tt
fine_ready m r (Some p) = tt

fine_fds : {S : Type 0} (fds : Descriptors) (x : Slot S) → Fine x → Fine (with_fds fds x)
fine_fds fds None f = tt
fine_fds fds (Some p) f = f

fine_zombie : {S : Type 0} (x : Slot S) → Fine (with_status Zombie x)
fine_zombie None = tt
fine_zombie (Some p) = tt

pub fine_running : {S : Type 0} (h : ℕ) (x : Slot S) → Fine (with_status (Running h) x)
fine_running h None = tt
fine_running h (Some p) = tt

fine_sleep : {S : Type 0} (c : Channel) (put : ℕ) (x : Slot S) → FinePut (Asleep c) put → Fine (put_to_sleep c put x)
fine_sleep c put None f = tt
fine_sleep c put (Some p) f = f

module _ {S : Type 0} where
  pub fine_set : (t : Table S) (i : ℕ) (x : Slot S) → AllFine t → Fine x → AllFine (set t i x)
  fine_set t i x all f q = by (slot_cases t i q x) where
    by : (at (set t i x) q ≡ x) ⊎ (at (set t i x) q ≡ at t q) → Fine (at (set t i x) q)
    by (inl new) = subst (λ (y : Slot S). Fine y) (sym new) f
    by (inr same) = subst (λ (y : Slot S). Fine y) (sym same) (all q)

  fine_all_woken : (c : Channel) (t : Table S) → AllFine t → AllFine (all_woken c t)
  fine_all_woken c t all q = subst (λ (y : Slot S). Fine y) (sym (mapped (woken c) refl t q)) (fine_woken c (at t q) (all q))

  module _ (pid : ℕ) where
    fine_buried : (t : Table S) → AllFine t → AllFine (buried t pid)
    fine_buried t all =
        let given_all : AllFine (map (given pid) t) = λ q. subst (λ (y : Slot S). Fine y) (sym (mapped (given pid) refl t q)) (fine_given pid (at t q) (all q)) in
        fine_set _ pid _ given_all (fine_zombie _)

    fine_exit_by : (b : Bool) (t : Table S) → AllFine t → AllFine (if b then all_woken (Children 0) t else t)
    fine_exit_by true t all = fine_all_woken (Children 0) t all
    fine_exit_by false t all = all

    fine_exited : (t : Table S) → AllFine t → AllFine (exited t pid)
    fine_exited t all = fine_exit_by (is_some (zombie_child t pid)) _ (fine_all_woken (Children (parent_of (at t pid))) (buried t pid) (fine_buried t all))

    fine_reaped : (t : Table S) → AllFine t → AllFine (reaped t pid)
    fine_reaped t all = by (zombie_child t pid) where
      by : (o : Option ℕ) → AllFine (freed t o)
      by None = all
      by (Some child) = fine_set t child None all tt

    fine_own_fds : (t : Table S) (fds : Descriptors) → AllFine t → AllFine (set t pid (with_fds fds (at t pid)))
    fine_own_fds t fds all = fine_set t pid _ all (fine_fds fds (at t pid) (all pid))

    fine_let_go : (k : KernelState S) (object : Object) → AllFine k.table → AllFine (let_go k object).table
    fine_let_go k Input all = all
    fine_let_go k Out all = all
    fine_let_go k Diag all = all
    fine_let_go k (File file mode) all = all
    fine_let_go k (PipeRead id) all = fine_all_woken (PipeRoom id) k.table all
    fine_let_go k (PipeWrite id) all = fine_all_woken (PipeBytes id) k.table all

    fine_let_go_of : (k : KernelState S) (r : Result (Option Object) FdFault) → AllFine k.table → AllFine (let_go_of k r).table
    fine_let_go_of k (Err fault) all = all
    fine_let_go_of k (Ok None) all = all
    fine_let_go_of k (Ok (Some object)) all = fine_let_go k object all

    fine_closed : (k : KernelState S) (fd : ℕ) → AllFine k.table → AllFine (closed k pid fd).table
    fine_closed k fd all = fine_let_go_of (taken_away k pid fd _) (close_answer k.entries _) (fine_own_fds k.table _ all)

    fine_below : (k : KernelState S) (n : ℕ) → AllFine k.table → AllFine (closed_below k pid n).table
    unfolding closed_below
    fine_below k zero all = all
    fine_below k (suc n) all = fine_closed (closed_below k pid n) n (fine_below k n all)

    fine_opened : (k : KernelState S) (object : Object) (o : Option ℕ) → AllFine k.table → AllFine (opened_at k pid object o).table
    fine_opened k object None all = all
    fine_opened k object (Some e) all = fine_own_fds k.table _ all

    fine_open : (k : KernelState S) (object : Object) → AllFine k.table → AllFine (with_open k pid object).table
    fine_open k object all = fine_opened k object (lowest_free_entry k.entries) all

    fine_ends : (k : KernelState S) (id : ℕ) → AllFine k.table → AllFine (with_ends k pid id).table
    fine_ends k id all = fine_open (with_reader k pid id) (PipeWrite id) (fine_open (record k { pipes = _ }) (PipeRead id) all)

    module _ (k : KernelState S) (after : S) (call : Call) (new : KernelState S) (all : AllFine k.table) where
      is : (j : KernelState S) → new ≡ j → AllFine j.table → AllFine new.table
      is j same a = subst (λ (m : KernelState S). AllFine m.table) (sym same) a

      ready : (t : Table S) (r : Reply) → AllFine t → AllFine (set t pid (made_ready after r (at t pid)))
      ready t r a = fine_set t pid _ a (fine_ready after r (at t pid))

      asleep : (c : Channel) (put : ℕ) → FinePut (Asleep c) put → AllFine (set k.table pid (put_to_sleep c put (at k.table pid)))
      asleep c put f = fine_set k.table pid _ all (fine_sleep c put (at k.table pid) f)

      pub outcome_fine : Outcome k pid after call new → AllFine new.table
      outcome_fine (refused e) = is _ e (ready _ _ all)
      outcome_fine (lacks full e) = is _ e (ready _ _ all)
      outcome_fine (forks child c found e) = is _ e (ready _ _ (fine_set k.table child _ all tt))
      outcome_fine (runs c e) = is _ e (ready _ _ all)
      outcome_fine (exits c ne e) = is _ e (fine_exited _ (fine_below k DESCRIPTORS all))
      outcome_fine (reaps child c found e) = is _ e (ready _ _ (fine_reaped k.table all))
      outcome_fine (waits child c none some e) = is _ e (asleep (Children pid) 0 refl)
      outcome_fine (opens name mode fd c e) = is _ e (ready _ _ (fine_open k _ all))
      outcome_fine (opens_empty name mode fd c e) = is _ e (ready _ _ (fine_open _ _ all))
      outcome_fine (closes fd c e) = is _ e (ready _ _ (fine_closed k fd all))
      outcome_fine (dups fd entry place c there free e) = is _ e (ready _ _ (fine_own_fds _ _ all))
      outcome_fine (pipes reader writer c room e) = is _ e (ready _ _ (fine_ends k k.events all))
      outcome_fine (reads_input n r e) = is _ e (ready _ _ all)
      outcome_fine (reads_file name mode entry n got r e) = is _ e (ready _ _ all)
      outcome_fine (takes id n o r there some e) = is _ e (fine_all_woken (PipeRoom id) _ (ready _ _ all))
      outcome_fine (waits_for_bytes id o r there none open_too e) = is _ e (asleep (PipeBytes id) 0 refl)
      outcome_fine (meets_end id o r there none over e) = is _ e (ready _ _ all)
      outcome_fine (tells b w e) = is _ e (ready _ _ all)
      outcome_fine (complains b w e) = is _ e (ready _ _ all)
      outcome_fine (writes_over name mode entry b bytes w e) = is _ e (ready _ _ all)
      outcome_fine (appends name mode entry b bytes w e) = is _ e (ready _ _ all)
      outcome_fine (puts_all id o b w there part e) = is _ e (fine_all_woken (PipeBytes id) _ (ready _ _ all))
      outcome_fine (puts_part id n o b w there reader space some short e) = is _ e (fine_all_woken (PipeBytes id) _ (asleep (PipeRoom id) _ tt))
