-- In every run in which nothing was full, what all processes may still write to a file is within its size, with what it has.
use Rattle.std.proofs.Common.{◌≡◌, ◌≢◌, ◌⊎◌, inl, inr, ℕ, zero, suc, ◌+◌, ◌≤◌, List, [], ◌∷◌, ◌++◌, Bool, Some, None, refl, sym, ap, ◌∙◌, subst, arith}
use Rattle.std.proofs.lemmas.Bool.{cases_eq}
use Rattle.std.specs.Prelude.{length, replicate}
use Rattle.fd_table.specs.declared.names.Object.{Object}
use Rattle.fd_table.specs.declared.names.Object.TheVariants.{Input, Out, Diag, File, PipeRead, PipeWrite}
use Rattle.fd_table.specs.Entries.{opened}
use Rattle.mem_files.specs.Name.{Name, Bytes}
use Rattle.mem_files.specs.Files.{files}
use Rattle.mem_files.specs.Listing.{AreFiles}
use Rattle.script_load.specs.declared.profile.Profile.{Profile}
use Rattle.script_load.specs.Line.{ScriptLine}
use Rattle.meaning_model.specs.Meaning.{script_tree}
use Rattle.tree_model.specs.FilesAhead.{Sizes, sizes}
use Rattle.kernel_model.specs.declared.events.Event.{Event}
use Rattle.kernel_model.specs.declared.events.Event.TheVariants.{Dispatch, Trap}
use Rattle.kernel_model.specs.KernelState.{KernelState}
use Rattle.kernel_model.specs.Events.{happens, run}
use Rattle.kernel_model.proofs.Runs.{run_more}
use Rattle.sh_machine.specs.declared.state.Phase.TheVariants.{Starts}
use Rattle.sh_machine.specs.State.{User, init, shell, top}
use Rattle.sh_machine.specs.Turn.{call_of, next_of}
use Rattle.run_model.specs.ScriptRun.{script_kernel}
use Rattle.process_model.specs.Seen.{Entry, input as std_input, out, live, Names, View, view}
use Rattle.process_model.specs.Shape.{is_used}
use Rattle.process_model.specs.Shows.{IsNamed, ShowsIn}
use Rattle.process_model.specs.Phases.{at_lines, does, plain_fds}
use Rattle.process_model.proofs.Start.{start_stands}
use Rattle.law_runs.specs.Consistent.{IsConsistent}
use Rattle.law_runs.specs.Seen.{IsInit}
use Rattle.law_runs.proofs.views.Events.{trap_seen, dispatch_quiet}
use Rattle.law_runs.proofs.views.InitSeen.{init_seen}
use Rattle.law_runs.proofs.views.Named.{event_keeps_init, start_init}
use Rattle.law_runs.proofs.views.Runs as runs
use Rattle.law_limits.proofs.behind.Sums.{total}
use Rattle.law_limits.proofs.behind.Runs.{in_range, none_seen}
use Rattle.room_model.specs.Sizes.{KeepsWithin}
use Rattle.law_limits.proofs.sizes.More.{none_place}
use Rattle.law_limits.proofs.sizes.Doings.{NoName, NoFile, Goal, a_pipe, a_file, has, Doing, over, in_phase, IsOver, IsFine, may, Is}
use Rattle.law_limits.proofs.sizes.Effects.{cap}
use Rattle.law_limits.proofs.sizes.Keeps.{Inv, call_keeps, quiet_keeps, init_keeps}

-- ---- the start

-- no file has this name, and the script makes none
abbrev pub IsNew : List ScriptLine → List (Name × Bytes) → Name → Type 0
IsNew lines list f = (files list f ≡ None) × NoName f (script_tree lines)

module _ (profile : Profile) (lines : List ScriptLine) (input : Bytes) (list : List (Name × Bytes)) (L : Sizes) (keeps : KeepsWithin lines input (files list) L) where
  abbrev start : KernelState User
  start = script_kernel profile lines input list

  abbrev g : Names
  g = (start_stands profile lines input list).names

  shows : ShowsIn g start
  shows = (start_stands profile lines input list).shows

  -- right names, by which no pipe holds anything
  abbrev first_names : Names
  first_names = record g { pipes = λ i. [] }

  named_still : (x : Entry) (object : Object) (offset : ℕ) → IsNamed g (files list) 1 x object offset → IsNamed first_names (files list) 1 x object offset
  named_still x Input offset is = is
  named_still x Out offset is = is
  named_still x Diag offset is = is
  named_still x (File name mode) offset is = record { id = is.id; is = is.is; old = is.old; named = is.named; moded = is.moded; goes_on = is.goes_on; there = is.there }
  named_still x (PipeRead id) offset is = is
  named_still x (PipeWrite id) offset is = is

  first_shows : ShowsIn first_names start
  first_shows = record {
    named = λ e f is. named_still (g.name e) f.object f.offset (shows.named e f is);
    apart = shows.apart;
    holds = λ id p is. absurd (let z : ⊥ = cc in z);
  }

  abbrev V : View
  V = view first_names start

  -- the top shell has the standard input, the standard output and the diagnostics
  first_slot : V.slots 1 ≡ live 0 (does profile (at_lines lines)) 0 (plain_fds std_input out)
  first_slot =
      ap (λ x. live 0 (does profile (at_lines lines)) 0 (Some x ∷ Some (g.name 1) ∷ Some (g.name 2) ∷ replicate 13 None)) (shows.named 0 (opened Input) refl)
      ∙ (ap (λ x. live 0 (does profile (at_lines lines)) 0 (Some std_input ∷ Some x ∷ Some (g.name 2) ∷ replicate 13 None)) (shows.named 1 (opened Out) refl)
      ∙ ap (λ x. live 0 (does profile (at_lines lines)) 0 (Some std_input ∷ Some out ∷ Some x ∷ replicate 13 None)) (shows.named 2 (opened Diag) refl))

  abbrev first_doing : ℕ → Doing
  first_doing zero = over
  first_doing (suc zero) = in_phase (at_lines lines) std_input out out
  first_doing (suc (suc q)) = over

  rest_zero : (x : Goal) (a n : ℕ) → total (λ q. may L V (λ i. 0) x (first_doing q)) (suc (suc a)) n ≡ 0
  rest_zero x a zero = refl
  rest_zero x a (suc n) = omega (arith, rest_zero x (suc a) n)

  first_fine : IsFine profile V std_input out
  first_fine = record { can_read = tt; can_write = tt; to_read = tt; to_write = tt; old_input = tt; old_output = tt }

  start_inv : Inv profile L (IsNew lines list) V
  start_inv = record { left = λ i. 0; doing = first_doing; is = is; zero = λ i high. refl; within = within; absent = λ f new. new.0; unmade = unmade }
    where
      unmade : (f : Name) → IsNew lines list f → (q : ℕ) → NoFile f (first_doing q)
      unmade f new zero = tt
      unmade f new (suc zero) = new.1
      unmade f new (suc (suc q)) = tt

      is : (q : ℕ) → Is profile V q (first_doing q)
      is zero = tt
      is (suc zero) = (0, first_slot, first_fine, tt)
      is (suc (suc q)) = subst (IsOver profile) (sym (none_seen first_names.name 62 q)) tt

      within : (x : Goal) → has V x + total (λ q. may L V (λ i. 0) x (first_doing q)) 0 64 ≤ cap L (λ i. 0) x
      within (a_pipe i) = omega (arith, rest_zero (a_pipe i) 0 62, none_place (script_tree lines) (length input) L)
      within (a_file f) = omega (arith, rest_zero (a_file f) 0 62, keeps f)

-- ---- along a run

-- under some names it is so
pub record Holds (profile : Profile) (L : Sizes) (New : Name → Type 0) (k : KernelState User) : Type 0 where
  pub names : Names
  pub shows : ShowsIn names k
  pub has_init : IsInit k
  pub inv : Inv profile L New (view names k)

module _ (profile : Profile) (L : Sizes) where
  event_keeps : (New : Name → Type 0) (k l : KernelState User) (e : Event) (n : Bool) → IsConsistent k → IsConsistent l → happens call_of next_of k e n ≡ Some l → l.full ≡ None → Holds profile L New k → Holds profile L New l
  event_keeps New k l (Dispatch h p) n before later happened full i =
      let d = dispatch_quiet i.names k l h p n i.shows happened in
      record {
        names = i.names;
        shows = d.0;
        has_init = event_keeps_init k l (Dispatch h p) n before i.has_init happened;
        inv = quiet_keeps profile L New (view i.names k) (view i.names l) i.inv (omega (arith, d.2)) d.1;
      }
  event_keeps New k l (Trap h p) n before later happened full i = by (cases_eq p 0)
    where
      stays : IsInit l
      stays = event_keeps_init k l (Trap h p) n before i.has_init happened

      by : (p ≡ 0) ⊎ (p ≢ 0) → Holds profile L New l
      by (inr up) =
          let s = trap_seen i.names k l h p n up before i.shows happened full in
          let V = view i.names k in
          let few = (in_range i.names k before p (omega (arith, ap is_used s.call.slot))).1 in
          record { names = s.names; shows = s.shows; has_init = stays; inv = call_keeps profile L New V (view s.names l) i.inv p few s.call (in_range s.names l later) }
      by (inl is) =
          let w = init_seen i.names k before i.shows h l n i.has_init (subst (λ q. happens call_of next_of k (Trap h q) n ≡ Some l) is happened) in
          record { names = i.names; shows = w.0; has_init = stays; inv = init_keeps profile L New (view i.names k) (view i.names l) i.inv (omega (arith, w.2)) w.1 }

  pub every_run_holds : (lines : List ScriptLine) (input : Bytes) (list : List (Name × Bytes)) → AreFiles list → KeepsWithin lines input (files list) L → (events : List Event) (notes : List Bool) (m : KernelState User)
      → run call_of next_of (Some (script_kernel profile lines input list)) events notes ≡ Some m → m.full ≡ None → Holds profile L (IsNew lines list) m
  every_run_holds lines input list are keeps events notes m is full =
      let first = shell profile (top Starts lines) in
      runs.every_run_keeps init first input list (Holds profile L (IsNew lines list))
      (λ k l e n r happened was now holds.
      event_keeps (IsNew lines list) k l e n (runs.settled init first input list are k r)
      (runs.settled init first input list are l (record { events = r.events ++ e ∷ []; notes = r.notes ++ n ∷ []; runs = run_more call_of next_of (Some (script_kernel profile lines input list)) r.events r.notes k l e n r.runs happened }))
      happened now holds)
      (record { names = first_names profile lines input list L keeps; shows = first_shows profile lines input list L keeps; has_init = start_init profile lines input list; inv = start_inv profile lines input list L keeps }) events notes m is full

  pub file_within : (lines : List ScriptLine) (input : Bytes) (list : List (Name × Bytes)) → AreFiles list → KeepsWithin lines input (files list) L → (events : List Event) (notes : List Bool) (m : KernelState User)
      → run call_of next_of (Some (script_kernel profile lines input list)) events notes ≡ Some m → m.full ≡ None → (name : Name) → sizes (files m.files) name ≤ L name
  file_within lines input list are keeps events notes m is full name = let h = every_run_holds lines input list are keeps events notes m is full in omega (arith, h.inv.within (a_file name))
