-- No run of a script within the bound on descriptors finds a process without a free one that it wants.
use Rattle.std.proofs.Common.{◌≡◌, ℕ, ◌<◌, ◌≤◌, List, [], ◌∷◌, Bool, false, Option, Some, None, refl, sym, ap, ◌∙◌, subst, length, arith}
use Rattle.std.proofs.lemmas.List.{length-map}
use Rattle.std.proofs.lemmas.List.Sums.{sum_by-cons}
use Rattle.std.specs.Prelude.{cond}
use Rattle.mem_files.specs.Name.{Name, Bytes}
use Rattle.mem_files.specs.Files.{files}
use Rattle.mem_files.specs.Listing.{AreFiles}
use Rattle.conflict_check.specs.Clear.{has_back}
use Rattle.script_load.specs.Line.{ScriptLine}
use Rattle.script_load.specs.declared.profile.Profile.{Profile}
use Rattle.meaning_model.specs.Meaning.{script_tree}
use Rattle.user_calls.specs.declared.calls.Call.{Call}
use Rattle.fd_table.specs.declared.descriptors.TheConstants.{DESCRIPTORS}
use Rattle.fd_table.specs.Entries.{is_free, free_count}
use Rattle.fd_table.specs.Descriptors.{Descriptors}
use Rattle.proc_table.specs.Slots.{at}
use Rattle.kernel_model.specs.declared.events.Event.{Event}
use Rattle.kernel_model.specs.declared.events.Full.TheVariants.{Fds}
use Rattle.kernel_model.specs.KernelState.{KernelState, fds_of}
use Rattle.kernel_model.specs.Events.{run}
use Rattle.run_model.specs.ScriptRun.{script_kernel}
use Rattle.sh_machine.specs.State.{User}
use Rattle.sh_machine.specs.Turn.{call_of, next_of}
use Rattle.tree_model.specs.Runs.{Stage, first_stage}
use Rattle.process_model.specs.Seen.{Entry, input as std_input, out, fds_seen, view}
use Rattle.law_runs.proofs.standing.Reaching.{reach}
use Rattle.room_model.specs.Descriptors.{script_descriptors}
use Rattle.law_runs.proofs.room.Measure.{kept_on}
use Rattle.law_runs.proofs.room.Marks.{descriptors_wanted}
use Rattle.law_runs.proofs.room.Descriptors.{opened, is_measure, FindsRoom, HasPlaces, finds_room}
use Rattle.law_runs.proofs.room.AtCalls.{Filled, filled, IsNoWait, call, asked, inside}

-- as many are free as are seen to be
seen_free : (name : ℕ → Entry) (fds : Descriptors) → free_count (fds_seen name fds) ≡ free_count fds
seen_free name [] = refl
seen_free name (None ∷ fds) = omega (arith, sum_by-cons (λ (y : Option Entry). cond {A = ℕ} (is_free y) 1 0) None (fds_seen name fds), sum_by-cons (λ (y : Option ℕ). cond {A = ℕ} (is_free y) 1 0) None fds, seen_free name fds)
seen_free name (Some e ∷ fds) = omega (arith, sum_by-cons (λ (y : Option Entry). cond {A = ℕ} (is_free y) 1 0) (Some (name e)) (fds_seen name fds), sum_by-cons (λ (y : Option ℕ). cond {A = ℕ} (is_free y) 1 0) (Some e) fds, seen_free name fds)

want_no_wait : (c : Call) (n : ℕ) → n < descriptors_wanted c → IsNoWait c
want_no_wait c n wants is = omega (arith, wants, ap descriptors_wanted is)

module _ (profile : Profile) (lines : List ScriptLine) (input : Bytes) (list : List (Name × Bytes)) (are : AreFiles list) (plain : has_back (script_tree lines) ≡ false) where
  module _ (f : Filled profile lines input list Fds) (few : script_descriptors lines ≤ DESCRIPTORS) where
    abbrev first : Stage
    first = first_stage (script_tree lines) input (files list)

    abbrev k : KernelState User
    k = f.kernel

    abbrev own : Descriptors
    own = f.asks.process.fds

    here : fds_of (at k.table f.asks.pid) ≡ own
    here = ap fds_of f.asks.there

    other : IsNoWait (call profile first k f.way Fds f.asks)
    other = want_no_wait (call profile first k f.way Fds f.asks) _ f.asks.lacks

    long : length (fds_seen f.way.names.name own) ≡ 16
    long = length-map own _ ∙ (sym (ap (length {A = Option ℕ}) here) ∙ f.settled.sound.places f.asks.pid)

    found : ⊥
    found =
        let seen = asked profile first k f.way Fds f.asks other in
        let room = finds_room profile (view f.way.names k) f.asks.pid (subst HasPlaces (sym seen) long) std_input out out 0 f.way.tree f.way.shape.has (inside profile first k f.way Fds f.asks other) (omega (arith, few, kept_on opened is_measure profile (reach profile f.way.way))) in
        let fits = subst FindsRoom seen room in
        omega (arith, fits, seen_free f.way.names.name own, ap (free_count {X = ℕ}) here, f.asks.lacks)

  pub descriptor_is_free : (es : List Event) (ns : List Bool) (m : KernelState User) → run call_of next_of (Some (script_kernel profile lines input list)) es ns ≡ Some m → script_descriptors lines ≤ DESCRIPTORS → m.full ≡ Some Fds → ⊥
  descriptor_is_free es ns m is few marked = found (filled profile lines input list are plain es ns m Fds is marked) few
