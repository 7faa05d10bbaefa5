-- In every run from the start there are 100 entries: a call writes some, and makes or drops none.
use Rattle.std.proofs.Common.{◌≡◌, ℕ, zero, suc, List, [], ◌∷◌, Bool, true, false, Option, Some, None, length, refl, ap, subst, ◌∙◌}
use Rattle.std.proofs.Math.ListN.{length-set}
use Rattle.std.specs.Prelude.{⊤, if◌then◌else◌, Result, Ok, Err}
use Rattle.user_calls.specs.declared.calls.Call.{Call}
use Rattle.user_calls.specs.declared.calls.Reply.{Reply}
use Rattle.fd_table.specs.declared.descriptors.TheConstants.{DESCRIPTORS}
use Rattle.fd_table.specs.declared.entries.TheConstants.{ENTRIES}
use Rattle.fd_table.specs.declared.faults.FdFault.{FdFault}
use Rattle.fd_table.specs.declared.names.Object.{Object}
use Rattle.fd_table.specs.declared.names.Object.TheVariants.{Input, Out, Diag, File, PipeRead, PipeWrite}
use Rattle.fd_table.specs.Entries.{Entries, lowest_free_entry, added_at}
use Rattle.fd_table.specs.Descriptors.{entry_of, released_by_close, close_answer}
use Rattle.fd_table.proofs.Holding.{length-all_held}
use Rattle.proc_table.specs.Slots.{Slot, at, is_running_on}
use Rattle.proc_table.specs.Calls.{dispatched}
use Rattle.mem_files.specs.Name.{Name, Bytes}
use Rattle.kernel_model.specs.declared.events.Event.{Event}
use Rattle.kernel_model.specs.declared.events.Event.TheVariants.{Dispatch, Trap}
use Rattle.kernel_model.specs.KernelState.{KernelState, fds_at}
use Rattle.kernel_model.specs.Boot.{boot_kernel}
use Rattle.kernel_model.specs.Modes.{entry_mode}
use Rattle.kernel_model.specs.Pipes.{with_new}
use Rattle.kernel_model.specs.Opening.{with_bytes}
use Rattle.kernel_model.specs.Descriptors.{let_go_of, taken_away, closed, closed_below, opened_at, with_open, with_reader}
use Rattle.kernel_model.specs.Events.{counted, trapped, can_dispatch, then_happens, run}
use Rattle.law_kernel.specs.Outcome.{Outcome, refused, lacks, forks, runs, exits, reaps, waits, opens, opens_empty, closes, dups, pipes, reads_input, reads_file, takes, waits_for_bytes, meets_end, tells, complains, writes_over, appends, puts_all, puts_part}
use Rattle.law_kernel.proofs.outcomes.Outcomes.{every_call_ends}

added_long : (E : Entries) (place : Option ℕ) (object : Object) → length (added_at E place object) ≡ length E
added_long E None object = refl
added_long E (Some e) object = length-set E e _

released_long : (E : Entries) (entry : Option ℕ) → length (released_by_close E entry) ≡ length E
released_long E None = refl
released_long E (Some e) = length-set E e _

module _ {S : Type 0} (pid : ℕ) where
  abbrev Long : KernelState S → ℕ → Type 0
  Long k n = length k.entries ≡ n

  opened_long : (k : KernelState S) (object : Object) (place : Option ℕ) → lowest_free_entry k.entries ≡ place → Long (opened_at k pid object place) (length k.entries)
  opened_long k object None found = refl
  opened_long k object (Some e) found = added_long k.entries (lowest_free_entry k.entries) object

  open_long : (k : KernelState S) (object : Object) → Long (with_open k pid object) (length k.entries)
  open_long k object = opened_long k object (lowest_free_entry k.entries) refl

  let_go_long : (k : KernelState S) (r : Result (Option Object) FdFault) → Long (let_go_of k r) (length k.entries)
  let_go_long k (Err fault) = refl
  let_go_long k (Ok None) = refl
  let_go_long k (Ok (Some Input)) = refl
  let_go_long k (Ok (Some Out)) = refl
  let_go_long k (Ok (Some Diag)) = refl
  let_go_long k (Ok (Some (File name mode))) = refl
  let_go_long k (Ok (Some (PipeRead id))) = refl
  let_go_long k (Ok (Some (PipeWrite id))) = refl

  closed_long : (k : KernelState S) (fd : ℕ) → Long (closed k pid fd) (length k.entries)
  closed_long k fd =
      let entry = entry_of (fds_at k pid) fd in
      let_go_long (taken_away k pid fd entry) (close_answer k.entries entry) ∙ released_long k.entries entry

  closed_below_long : (k : KernelState S) (n : ℕ) → Long (closed_below k pid n) (length k.entries)
  unfolding closed_below
  closed_below_long k zero = refl
  closed_below_long k (suc n) = closed_long (closed_below k pid n) n ∙ closed_below_long k n

  pub outcome_long : (k : KernelState S) (after : S) (call : Call) (new : KernelState S) → Outcome k pid after call new → Long new (length k.entries)
  outcome_long k after call new o = by o where
    so : (l : KernelState S) → new ≡ l → Long l (length k.entries) → Long new (length k.entries)
    so l is long = ap (λ (n : KernelState S). length n.entries) is ∙ long

    by : Outcome k pid after call new → Long new (length k.entries)
    by (refused is) = so _ is refl
    by (lacks full is) = so _ is refl
    by (forks child c free is) = so _ is (length-all_held k.entries (fds_at k pid))
    by (runs c is) = so _ is refl
    by (exits c ne is) = so _ is (closed_below_long k DESCRIPTORS)
    by (reaps child c dead is) = so _ is refl
    by (waits child c none some is) = so _ is refl
    by (opens name mode fd c is) = so _ is (open_long k (File name (entry_mode mode)))
    by (opens_empty name mode fd c is) = so _ is (open_long (with_bytes k name []) (File name (entry_mode mode)))
    by (closes fd c is) = so _ is (closed_long k fd)
    by (dups fd entry place c held free is) = so _ is (length-set k.entries entry _)
    by (pipes reader writer c two is) =
        let made : KernelState S = record k { pipes = with_new k.pipes k.events } in
        so _ is (open_long (with_reader k pid k.events) (PipeWrite k.events) ∙ open_long made (PipeRead k.events))
    by (reads_input n r is) = so _ is refl
    by (reads_file name mode entry n got r is) = so _ is (length-set k.entries entry _)
    by (takes id n p r found some is) = so _ is refl
    by (waits_for_bytes id p r found empty unshut is) = so _ is refl
    by (meets_end id p r found empty shut is) = so _ is refl
    by (tells b w is) = so _ is refl
    by (complains b w is) = so _ is refl
    by (writes_over name mode entry b bytes w is) = so _ is (length-set k.entries entry _)
    by (appends name mode entry b bytes w is) = so _ is (length-set k.entries entry _)
    by (puts_all id p b w found all is) = so _ is refl
    by (puts_part id n p b w found reads filled part some is) = so _ is refl

module _ {S : Type 0} (call : S → Reply → Call) (next : S → Reply → S) (n : ℕ) where
  abbrev LongIf : Option (KernelState S) → Type 0
  LongIf None = ⊤
  LongIf (Some k) = length k.entries ≡ n

  long_where : (b : Bool) (o : Option (KernelState S)) → LongIf o → LongIf (if b then o else None)
  long_where true o long = long
  long_where false o long = tt

  trap_long : (k : KernelState S) (pid : ℕ) (x : Slot S) (memory : Bool) → LongIf (Some k) → LongIf (trapped call next k pid x memory)
  trap_long k pid None memory long = tt
  trap_long k pid (Some p) memory long =
      let after : S = next p.machine p.reply in
      outcome_long pid (counted k) after (call p.machine p.reply) _ (every_call_ends (counted k) pid after (call p.machine p.reply) memory) ∙ long

  then_long : (o : Option (KernelState S)) (e : Event) (memory : Bool) → LongIf o → LongIf (then_happens call next o e memory)
  then_long None e memory long = tt
  then_long (Some k) (Dispatch h pid) memory long = long_where (can_dispatch k.table h pid) (Some (record (counted k) { table = dispatched k.table pid h })) long
  then_long (Some k) (Trap h pid) memory long = long_where (is_running_on h (at k.table pid)) (trapped call next k pid (at k.table pid) memory) (trap_long k pid (at k.table pid) memory long)

  pub run_long : (o : Option (KernelState S)) (events : List Event) (notes : List Bool) → LongIf o → LongIf (run call next o events notes)
  run_long o [] [] long = long
  run_long o (e ∷ es) (r ∷ ns) long = run_long (then_happens call next o e r) es ns (then_long o e r long)
  run_long o [] (r ∷ ns) long = tt
  run_long o (e ∷ es) [] long = tt

pub every_run_has_entries : {S : Type 0} (call : S → Reply → Call) (next : S → Reply → S) (init shell : S) (input : Bytes) (list : List (Name × Bytes)) (events : List Event) (notes : List Bool) (m : KernelState S)
    → run call next (Some (boot_kernel init shell input list)) events notes ≡ Some m → length m.entries ≡ ENTRIES
every_run_has_entries call next init shell input list events notes m is =
    subst (LongIf call next ENTRIES) is (run_long call next ENTRIES (Some (boot_kernel init shell input list)) events notes refl)
