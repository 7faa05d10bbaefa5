-- No run of a script within the bound on open-file entries finds fewer free ones than a call wants.
use Rattle.std.proofs.Common.{◌≡◌, ℕ, zero, suc, ◌<◌, ◌≤◌, List, ◌∷◌, Bool, true, false, Option, Some, None, refl, sym, ap, ◌∙◌, arith}
use Rattle.std.specs.Prelude.{option_map, IsSome}
use Rattle.mem_files.specs.Name.{Name, Bytes}
use Rattle.mem_files.specs.Files.{files}
use Rattle.mem_files.specs.Listing.{AreFiles}
use Rattle.conflict_check.specs.Clear.{has_back}
use Rattle.script_load.specs.Line.{ScriptLine}
use Rattle.script_load.specs.declared.profile.Profile.{Profile}
use Rattle.meaning_model.specs.Meaning.{script_tree}
use Rattle.tree_model.specs.Tame.{Among}
use Rattle.user_calls.specs.declared.calls.Call.{Call}
use Rattle.fd_table.specs.declared.descriptors.TheConstants.{DESCRIPTORS}
use Rattle.fd_table.specs.declared.entries.TheConstants.{ENTRIES}
use Rattle.fd_table.specs.Entries.{OpenFile, entry_at}
use Rattle.fd_table.specs.Descriptors.{Descriptors, entry_of}
use Rattle.proc_table.specs.Slots.{Slot, Process, at, is_zombie, is_zombie_status}
use Rattle.kernel_model.specs.declared.events.Event.{Event}
use Rattle.kernel_model.specs.declared.events.Full.TheVariants.{Open}
use Rattle.kernel_model.specs.KernelState.{KernelState, fds_of, fds_at}
use Rattle.kernel_model.specs.Events.{run}
use Rattle.run_model.specs.ScriptRun.{script_kernel}
use Rattle.sh_machine.specs.State.{User}
use Rattle.sh_machine.specs.Turn.{call_of, next_of}
use Rattle.tree_model.specs.Runs.{Stage, first_stage}
use Rattle.process_model.specs.Seen.{Entry, input as std_input, out, diag, Seen, free, zombie, live, seen_by, seen_slot, view}
use Rattle.process_model.specs.Effect.{Holds}
use Rattle.process_model.specs.Shape.{occurs, is_used}
use Rattle.law_kernel.specs.Held.{HasHolder}
use Rattle.law_kernel.proofs.kernel.Held.{used_while_held, none_open}
use Rattle.law_runs.proofs.views.Fds.{seen_fd}
use Rattle.law_runs.proofs.standing.Reaching.{reach}
use Rattle.room_model.specs.Entries.{script_entries}
use Rattle.law_runs.proofs.room.Measure.{kept_on}
use Rattle.law_runs.proofs.room.Marks.{entries_wanted}
use Rattle.law_runs.proofs.room.Processes.{call_in}
use Rattle.law_runs.proofs.room.Entries.{entered, is_measure, ends, wants_fit}
use Rattle.law_runs.proofs.room.HeldEntries.{held_at, held_in}
use Rattle.law_runs.proofs.room.Injected.{used_few}
use Rattle.law_runs.proofs.room.AtCalls.{Filled, filled, IsNoWait, call, asked, inside}

want_no_wait : (c : Call) (n : ℕ) → n < entries_wanted c → IsNoWait c
want_no_wait c n wants is = omega (arith, wants, ap entries_wanted is)

holder_used : (s : Seen) (e : Entry) → Holds s e → is_used s ≡ 1
holder_used free e h = absurd h
holder_used (zombie q) e h = absurd h
holder_used (live q act put d) e h = refl

some_used : (o : Option OpenFile) (f : OpenFile) → o ≡ Some f → IsSome o
some_used None f is = absurd (let z : ⊥ = cc in z)
some_used (Some g) f is = refl

module _ (profile : Profile) (lines : List ScriptLine) (input : Bytes) (list : List (Name × Bytes)) (are : AreFiles list) (plain : has_back (script_tree lines) ≡ false) where
  module _ (f : Filled profile lines input list Open) where
    abbrev first : Stage
    first = first_stage (script_tree lines) input (files list)

    abbrev k : KernelState User
    k = f.kernel

    abbrev name : ℕ → Entry
    name = f.way.names.name

    -- who holds an entry is seen to hold its name: it is neither init nor a zombie
    init_holds_none : (s : Slot User) → at k.table 0 ≡ s → (fd e : ℕ) → entry_of (fds_of s) fd ≡ Some e → ⊥
    init_holds_none None here fd e holds = none_open DESCRIPTORS fd e holds
    init_holds_none (Some y) here fd e holds = none_open DESCRIPTORS fd e (ap (λ (d : Descriptors). entry_of d fd) (sym (f.way.has_init y here).1) ∙ holds)

    holder_by : (q : ℕ) (y : Process User) → at k.table (suc q) ≡ Some y → (b : Bool) → is_zombie_status y.status ≡ b → (fd e : ℕ) → entry_of y.fds fd ≡ Some e → Holds (seen_by b name y) (name e)
    holder_by q y here true dead fd e holds =
        absurd (none_open DESCRIPTORS fd e (ap (λ (d : Descriptors). entry_of d fd) (sym (f.settled.sound.zombies (suc q) (ap is_zombie here ∙ dead)) ∙ ap fds_of here) ∙ holds))
    holder_by q y here false alive fd e holds = record { fd = fd; is = seen_fd name y.fds fd ∙ ap (option_map name) holds }

    holder_seen : (q fd e : ℕ) → entry_of (fds_at k q) fd ≡ Some e → Holds ((view f.way.names k).slots q) (name e)
    holder_seen zero fd e holds = absurd (init_holds_none (at k.table 0) refl fd e holds)
    holder_seen (suc q) fd e holds = by (at k.table (suc q)) refl holds
      where
        by : (s : Slot User) → at k.table (suc q) ≡ s → entry_of (fds_of s) fd ≡ Some e → Holds (seen_slot name s) (name e)
        by None here it = absurd (none_open DESCRIPTORS fd e it)
        by (Some y) here it = holder_by q y here (is_zombie_status y.status) refl fd e it

    -- so each entry in use is one that the tree names, or one of the three at the start
    named : (e : ℕ) (o : OpenFile) → entry_at k.entries e ≡ Some o → Among (name e) (std_input ∷ out ∷ diag ∷ ends f.way.tree)
    named e o is =
        let h : HasHolder k e = (used_while_held k f.settled.sound e).0 (some_used (entry_at k.entries e) o is) in
        let seen = holder_seen h.pid h.fd e h.holds in
        let some : 1 ≤ occurs h.pid f.way.tree = omega (arith, f.way.shape.all h.pid, holder_used ((view f.way.names k).slots h.pid) (name e) seen) in
        held_in profile (view f.way.names k) h.pid (name e) seen f.way.tree (held_at profile (view f.way.names k) h.pid (name e) seen std_input out out 0 f.way.tree f.way.shape.has some)

    other : IsNoWait (call profile first k f.way Open f.asks)
    other = want_no_wait (call profile first k f.way Open f.asks) _ f.asks.lacks

    too_many : ENTRIES < script_entries lines
    too_many =
        let seen = asked profile first k f.way Open f.asks other in
        let fits = wants_fit profile (view f.way.names k) f.asks.pid (call profile first k f.way Open f.asks) (ap call_in seen) std_input out out 0 f.way.tree f.way.shape.has (inside profile first k f.way Open f.asks other) in
        let used = used_few k.entries name (std_input ∷ out ∷ diag ∷ ends f.way.tree) named f.way.shows.apart in
        omega (arith, fits, used, f.entries, f.asks.lacks, kept_on entered is_measure profile (reach profile f.way.way))

  pub entry_is_free : (es : List Event) (ns : List Bool) (m : KernelState User) → run call_of next_of (Some (script_kernel profile lines input list)) es ns ≡ Some m → script_entries lines ≤ ENTRIES → m.full ≡ Some Open → ⊥
  entry_is_free es ns m is few marked = omega (arith, few, too_many (filled profile lines input list are plain es ns m Open is marked))
