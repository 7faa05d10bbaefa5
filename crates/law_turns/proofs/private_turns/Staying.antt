-- Whoever is Runnable stays so, with the same machine, reply and descriptors, whatever call another process makes.
use Rattle.std.proofs.Common.{◌≡◌, ◌≢◌, ℕ, zero, suc, Bool, true, false, Option, Some, None, refl, sym, ap, subst, ◌∙◌}
use Rattle.std.proofs.Math.ListN.{set}
use Rattle.std.proofs.lemmas.Bool.{and_parts}
use Rattle.std.specs.Prelude.{is_some, if◌then◌else◌, Result, Ok, Err}
use Rattle.user_calls.specs.declared.calls.Call.{Call}
use Rattle.fd_table.specs.declared.descriptors.TheConstants.{DESCRIPTORS}
use Rattle.fd_table.specs.declared.faults.FdFault.{FdFault}
use Rattle.fd_table.specs.declared.names.Object.{Object}
use Rattle.fd_table.specs.declared.names.Object.TheVariants.{Input, Out, Diag, File, PipeRead, PipeWrite}
use Rattle.fd_table.specs.Entries.{lowest_free_entry}
use Rattle.fd_table.specs.Descriptors.{close_answer}
use Rattle.fd_table.proofs.Lists.{position_found}
use Rattle.proc_table.specs.declared.states.Channel.{Channel}
use Rattle.proc_table.specs.declared.states.Channel.TheVariants.{PipeBytes, PipeRoom, Children}
use Rattle.proc_table.specs.declared.states.Status.{Status}
use Rattle.proc_table.specs.declared.states.Status.TheVariants.{Runnable}
use Rattle.proc_table.specs.Slots.{Slot, Table, Process, at, is_free, is_zombie, is_child_of, is_zombie_child_of, parent_of}
use Rattle.proc_table.specs.Calls.{woken, woken_status, all_woken, given, buried, exited, freed, reaped, zombie_child, lowest_free}
use Rattle.proc_table.proofs.Changes.{kept, mapped, was_free}
use Rattle.kernel_model.specs.KernelState.{KernelState}
use Rattle.kernel_model.specs.Descriptors.{let_go, let_go_of, taken_away, closed, closed_below, opened_at, with_open, with_reader, with_ends}
use Rattle.law_kernel.specs.Outcome.{Outcome, refused, lacks, forks, runs, exits, reaps, waits, opens, opens_empty, closes, dups, pipes, reads_input, reads_file, takes, waits_for_bytes, meets_end, tells, complains, writes_over, appends, puts_all, puts_part}

-- the slot holds the process q, Runnable; only its parent may be another
pub record Holds {S : Type 0} (q : Process S) (x : Slot S) : Type 0 where
  pub now : Process S
  pub there : x ≡ Some now
  pub ready : now.status ≡ Runnable
  pub machine : now.machine ≡ q.machine
  pub reply : now.reply ≡ q.reply
  pub fds : now.fds ≡ q.fds
  pub put : now.put ≡ q.put

pub holds_itself : {S : Type 0} (q : Process S) (x : Slot S) → x ≡ Some q → q.status ≡ Runnable → Holds q x
holds_itself q x there ready = record { now = q; there = there; ready = ready; machine = refl; reply = refl; fds = refl; put = refl }

holds_woken : {S : Type 0} (q : Process S) (c : Channel) (x : Slot S) → Holds q x → Holds q (woken c x)
holds_woken q c x h =
    record {
      now = record h.now { status = woken_status c h.now.status };
      there = ap (woken c) h.there;
      ready = ap (woken_status c) h.ready;
      machine = h.machine;
      reply = h.reply;
      fds = h.fds;
      put = h.put;
    }

holds_given : {S : Type 0} (q : Process S) (pid : ℕ) (x : Slot S) → Holds q x → Holds q (given pid x)
holds_given q pid x h =
    record {
      now = record h.now { parent = _ };
      there = ap (given pid) h.there;
      ready = h.ready;
      machine = h.machine;
      reply = h.reply;
      fds = h.fds;
      put = h.put;
    }

holds_used : {S : Type 0} (q : Process S) (x : Slot S) → Holds q x → is_free x ≡ false
holds_used q x h = ap is_free h.there

alive_status : {S : Type 0} (p : Process S) → p.status ≡ Runnable → is_zombie (Some p) ≡ false
alive_status p ready = ap (λ (s : Status). is_zombie (Some (record p { status = s }))) ready

pub holds_alive : {S : Type 0} (q : Process S) (x : Slot S) → Holds q x → is_zombie x ≡ false
holds_alive q x h = ap is_zombie h.there ∙ alive_status h.now h.ready

module _ {S : Type 0} (q : Process S) (p pid : ℕ) (other : pid ≢ p) where
  abbrev In : Table S → Type 0
  In t = Holds q (at t p)

  in_set : (t : Table S) (i : ℕ) (x : Slot S) → i ≢ p → In t → In (set t i x)
  in_set t i x ne h = subst (Holds q) (sym (kept t i p x (λ e. ne (sym e)))) h

  pub in_own : (t : Table S) (x : Slot S) → In t → In (set t pid x)
  in_own t x h = in_set t pid x other h

  in_woken : (t : Table S) (c : Channel) → In t → In (all_woken c t)
  in_woken t c h = subst (Holds q) (sym (mapped (woken c) refl t p)) (holds_woken q c (at t p) h)

  in_buried : (t : Table S) → In t → In (buried t pid)
  in_buried t h = in_own _ _ (subst (Holds q) (sym (mapped (given pid) refl t p)) (holds_given q pid (at t p) h))

  in_exit_by : (b : Bool) (t : Table S) → In t → In (if b then all_woken (Children 0) t else t)
  in_exit_by true t h = in_woken t (Children 0) h
  in_exit_by false t h = h

  in_exited : (t : Table S) → In t → In (exited t pid)
  in_exited t h = in_exit_by (is_some (zombie_child t pid)) _ (in_woken (buried t pid) (Children (parent_of (at t pid))) (in_buried t h))

  in_forked : (t : Table S) (child : ℕ) (x : Slot S) → lowest_free t ≡ Some child → In t → In (set t child x)
  in_forked t child x found h = in_set t child x (λ same. absurd (by same)) h where
    by : child ≡ p → ⊥
    by same = let no : true ≡ false = sym (ap is_free (sym (ap (at t) same) ∙ was_free t child found)) ∙ holds_used q (at t p) h in let z : ⊥ = cc in z

  in_reaped : (t : Table S) → In t → In (reaped t pid)
  in_reaped t h = by (zombie_child t pid) refl where
    dead : (child : ℕ) → zombie_child t pid ≡ Some child → child ≡ p → ⊥
    dead child found same =
        let gone : is_zombie (at t child) ≡ true = (and_parts (is_child_of pid (at t child)) (is_zombie (at t child)) (position_found (is_zombie_child_of pid) t None child found).1).1 in
        let no : true ≡ false = sym gone ∙ ap (λ (i : ℕ). is_zombie (at t i)) same ∙ holds_alive q (at t p) h in
        let z : ⊥ = cc in z

    by : (o : Option ℕ) → zombie_child t pid ≡ o → In (freed t o)
    by None found = h
    by (Some child) found = in_set t child None (dead child found) h

  -- ---- kernels

  let_go_keeps : (k : KernelState S) (object : Object) → In k.table → In (let_go k object).table
  let_go_keeps k Input h = h
  let_go_keeps k Out h = h
  let_go_keeps k Diag h = h
  let_go_keeps k (File file mode) h = h
  let_go_keeps k (PipeRead id) h = in_woken k.table (PipeRoom id) h
  let_go_keeps k (PipeWrite id) h = in_woken k.table (PipeBytes id) h

  let_go_of_keeps : (k : KernelState S) (r : Result (Option Object) FdFault) → In k.table → In (let_go_of k r).table
  let_go_of_keeps k (Err fault) h = h
  let_go_of_keeps k (Ok None) h = h
  let_go_of_keeps k (Ok (Some object)) h = let_go_keeps k object h

  closed_keeps : (k : KernelState S) (fd : ℕ) → In k.table → In (closed k pid fd).table
  closed_keeps k fd h = let_go_of_keeps (taken_away k pid fd _) (close_answer k.entries _) (in_own k.table _ h)

  pub below_keeps : (k : KernelState S) (n : ℕ) → In k.table → In (closed_below k pid n).table
  unfolding closed_below
  below_keeps k zero h = h
  below_keeps k (suc n) h = closed_keeps (closed_below k pid n) n (below_keeps k n h)

  opened_keeps : (k : KernelState S) (object : Object) (o : Option ℕ) → In k.table → In (opened_at k pid object o).table
  opened_keeps k object None h = h
  opened_keeps k object (Some e) h = in_own k.table _ h

  open_keeps : (k : KernelState S) (object : Object) → In k.table → In (with_open k pid object).table
  open_keeps k object h = opened_keeps k object (lowest_free_entry k.entries) h

  ends_keeps : (k : KernelState S) (id : ℕ) → In k.table → In (with_ends k pid id).table
  ends_keeps k id h = open_keeps (with_reader k pid id) (PipeWrite id) (open_keeps (record k { pipes = _ }) (PipeRead id) h)

  module _ (k : KernelState S) (after : S) (call : Call) (new : KernelState S) (h : In k.table) where
    is : (j : KernelState S) → new ≡ j → In j.table → In new.table
    is j same i = subst (λ (m : KernelState S). In m.table) (sym same) i

    pub ends_keeping : Outcome k pid after call new → In new.table
    ends_keeping (refused e) = is _ e (in_own _ _ h)
    ends_keeping (lacks full e) = is _ e (in_own _ _ h)
    ends_keeping (forks child c found e) = is _ e (in_own _ _ (in_forked k.table child _ found h))
    ends_keeping (runs c e) = is _ e (in_own _ _ h)
    ends_keeping (exits c ne e) = is _ e (in_exited _ (below_keeps k DESCRIPTORS h))
    ends_keeping (reaps child c found e) = is _ e (in_own _ _ (in_reaped k.table h))
    ends_keeping (waits child c none some e) = is _ e (in_own _ _ h)
    ends_keeping (opens name mode fd c e) = is _ e (in_own _ _ (open_keeps k _ h))
    ends_keeping (opens_empty name mode fd c e) = is _ e (in_own _ _ (open_keeps _ _ h))
    ends_keeping (closes fd c e) = is _ e (in_own _ _ (closed_keeps k fd h))
    ends_keeping (dups fd entry place c there free e) = is _ e (in_own _ _ (in_own _ _ h))
    ends_keeping (pipes reader writer c room e) = is _ e (in_own _ _ (ends_keeps k k.events h))
    ends_keeping (reads_input n r e) = is _ e (in_own _ _ h)
    ends_keeping (reads_file name mode entry n got r e) = is _ e (in_own _ _ h)
    ends_keeping (takes id n o r there some e) = is _ e (in_woken _ (PipeRoom id) (in_own _ _ h))
    ends_keeping (waits_for_bytes id o r there none open_too e) = is _ e (in_own _ _ h)
    ends_keeping (meets_end id o r there none over e) = is _ e (in_own _ _ h)
    ends_keeping (tells b w e) = is _ e (in_own _ _ h)
    ends_keeping (complains b w e) = is _ e (in_own _ _ h)
    ends_keeping (writes_over name mode entry b bytes w e) = is _ e (in_own _ _ h)
    ends_keeping (appends name mode entry b bytes w e) = is _ e (in_own _ _ h)
    ends_keeping (puts_all id o b w there all e) = is _ e (in_woken _ (PipeBytes id) (in_own _ _ h))
    ends_keeping (puts_part id n o b w there reader space some short e) = is _ e (in_woken _ (PipeBytes id) (in_own _ _ h))
