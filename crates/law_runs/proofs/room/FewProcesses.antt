-- No run of a script within the bound on processes finds no free slot.
use Rattle.std.proofs.Common.{◌≡◌, ℕ, ◌+◌, ◌<◌, ◌≤◌, List, Bool, true, false, Some, None, refl, sym, ap, ◌∙◌, length, arith}
use Rattle.std.specs.List.{position_or_len}
use Rattle.std.proofs.lemmas.List.Sums.{fails_before_first}
use Rattle.std.proofs.lemmas.Grind.{common_steps}
use Rattle.mem_files.specs.Name.{Name, Bytes}
use Rattle.mem_files.specs.Files.{files}
use Rattle.mem_files.specs.Listing.{AreFiles}
use Rattle.conflict_check.specs.Clear.{has_back}
use Rattle.script_load.specs.Line.{ScriptLine}
use Rattle.script_load.specs.declared.profile.Profile.{Profile}
use Rattle.meaning_model.specs.Meaning.{script_tree}
use Rattle.user_calls.specs.declared.calls.Call.{Call}
use Rattle.user_calls.specs.declared.calls.Call.TheVariants.{Fork, Wait}
use Rattle.proc_table.specs.declared.pid.TheConstants.{PROCS}
use Rattle.proc_table.specs.Slots.{Slot, Process, Table, at, is_free, is_zombie_status}
use Rattle.proc_table.specs.Calls.{lowest_free}
use Rattle.kernel_model.specs.declared.events.Event.{Event}
use Rattle.kernel_model.specs.declared.events.Full.TheVariants.{Procs}
use Rattle.kernel_model.specs.KernelState.{KernelState}
use Rattle.kernel_model.specs.Events.{run}
use Rattle.run_model.specs.ScriptRun.{script_kernel}
use Rattle.sh_machine.specs.State.{User}
use Rattle.sh_machine.specs.Turn.{call_of, next_of}
use Rattle.tree_model.specs.Runs.{Stage, first_stage}
use Rattle.process_model.specs.Seen.{Entry, input as std_input, out, seen_by, seen_slot, view}
use Rattle.process_model.specs.Shape.{occurs, is_used}
use Rattle.law_runs.proofs.views.Tables.{seen_up}
use Rattle.law_runs.proofs.standing.Reaching.{reach}
use Rattle.room_model.specs.Processes.{most_processes, script_processes}
use Rattle.law_runs.proofs.room.Counting.{total_some}
use Rattle.law_runs.proofs.room.Measure.{kept_on}
use Rattle.law_runs.proofs.room.Processes.{is_measure, counted, processes, call_in, fork_fits, met}
use Rattle.law_runs.proofs.room.AtCalls.{Filled, filled, IsNoWait, call, asked, inside}

-- where no slot is free each has a process
taken : (t : Table User) → lowest_free t ≡ None → (q : ℕ) → q < length t → is_free (at t q) ≡ false
taken t none q few =
    let past : length t ≤ position_or_len is_free t = grind (arith, common_steps) in
    fails_before_first is_free t q None (omega arith)

used_by : (name : ℕ → Entry) (b : Bool) (p : Process User) → is_used (seen_by b name p) ≡ 1
used_by name true p = refl
used_by name false p = refl

is_there : (name : ℕ → Entry) (s : Slot User) → is_free s ≡ false → is_used (seen_slot name s) ≡ 1
is_there name None taken = absurd (let z : ⊥ = cc in z)
is_there name (Some p) taken = used_by name (is_zombie_status p.status) p

fork_no_wait : (c : Call) → c ≡ Fork → IsNoWait c
fork_no_wait c is waits = let z : Fork ≡ Wait = sym is ∙ waits in let w : ⊥ = cc in w

module _ (profile : Profile) (lines : List ScriptLine) (input : Bytes) (list : List (Name × Bytes)) (are : AreFiles list) (plain : has_back (script_tree lines) ≡ false) where
  module _ (f : Filled profile lines input list Procs) where
    abbrev first : Stage
    first = first_stage (script_tree lines) input (files list)

    abbrev k : KernelState User
    k = f.kernel

    forks : call profile first k f.way Procs f.asks ≡ Fork
    forks = f.asks.lacks.0

    -- one more finds a slot
    room : processes f.way.tree + 1 ≤ most_processes (script_tree lines)
    room =
        let seen = asked profile first k f.way Procs f.asks (fork_no_wait (call profile first k f.way Procs f.asks) forks) in
        let fits = fork_fits profile (view f.way.names k) f.asks.pid (ap call_in seen ∙ ap (λ c. Some c) forks) std_input out out 0 f.way.tree f.way.shape.has (inside profile first k f.way Procs f.asks (fork_no_wait (call profile first k f.way Procs f.asks) forks)) in
        omega (arith, fits, kept_on counted is_measure profile (reach profile f.way.way))

    -- but each slot but init's has a process of the tree
    each : (q : ℕ) → 1 ≤ q → q < 64 → 1 ≤ occurs q f.way.tree
    each q low high =
        let used : is_used ((view f.way.names k).slots q) ≡ 1 =
        ap is_used (seen_up f.way.names.name k.table q (λ e. omega (arith, e, low))) ∙ is_there f.way.names.name (at k.table q) (taken k.table f.asks.lacks.1 q (omega (arith, high, f.settled.sound.slots))) in
        omega (arith, used, f.way.shape.all q)

    crowded : 63 ≤ processes f.way.tree
    crowded = omega (arith, total_some (λ q. occurs q f.way.tree) 1 63 (λ q low high. each q low (omega (arith, high))), met f.way.tree 1 63)

    too_many : PROCS < script_processes lines
    too_many = omega (arith, room, crowded)

  pub slot_is_free : (es : List Event) (ns : List Bool) (m : KernelState User) → run call_of next_of (Some (script_kernel profile lines input list)) es ns ≡ Some m → script_processes lines ≤ PROCS → m.full ≡ Some Procs → ⊥
  slot_is_free es ns m is few marked = omega (arith, few, too_many (filled profile lines input list are plain es ns m Procs is marked))
