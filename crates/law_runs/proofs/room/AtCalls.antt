-- What a call for which something is full is in the tree of processes.
use Rattle.std.proofs.Common.{◌≡◌, ◌≢◌, ◌≤◌, List, Bool, true, false, Some, refl, sym, ap, ◌∙◌, arith, length}
use Rattle.mem_files.specs.Name.{Name, Bytes}
use Rattle.mem_files.specs.Files.{files}
use Rattle.mem_files.specs.Listing.{AreFiles}
use Rattle.conflict_check.specs.Clear.{has_back}
use Rattle.script_load.specs.Line.{ScriptLine}
use Rattle.script_load.specs.declared.profile.Profile.{Profile}
use Rattle.meaning_model.specs.Meaning.{script_tree}
use Rattle.user_calls.specs.declared.calls.Call.{Call}
use Rattle.user_calls.specs.declared.calls.Call.TheVariants.{Wait}
use Rattle.fd_table.specs.declared.entries.TheConstants.{ENTRIES}
use Rattle.proc_table.specs.Slots.{at, is_zombie_status, parent_or_init}
use Rattle.kernel_model.specs.declared.events.Event.{Event}
use Rattle.kernel_model.specs.declared.events.Full.{Full}
use Rattle.kernel_model.specs.KernelState.{KernelState}
use Rattle.kernel_model.specs.Events.{run}
use Rattle.run_model.specs.ScriptRun.{script_kernel}
use Rattle.sh_machine.specs.State.{User, init, shell, top}
use Rattle.sh_machine.specs.Turn.{call_of, next_of}
use Rattle.sh_machine.specs.declared.state.Phase.TheVariants.{Starts}
use Rattle.tree_model.specs.Runs.{Stage, first_stage}
use Rattle.process_model.specs.Seen.{live, seen_by, seen_slot, fds_seen, act_of, view}
use Rattle.process_model.specs.Shape.{occurs, is_used}
use Rattle.law_runs.specs.Consistent.{IsConsistent}
use Rattle.law_runs.proofs.views.Runs as runs
use Rattle.law_runs.proofs.views.Tables.{seen_up}
use Rattle.law_kernel.proofs.kernel.EntriesLong.{every_run_has_entries}
use Rattle.law_kernel.proofs.kernel.SoundRuns.{every_run_has_files}
use Rattle.law_kernel.proofs.kernel.Runs.{runs_alive}
use Rattle.law_runs.proofs.standing.RunsStand.{IsOnWay, every_run_stands}
use Rattle.law_runs.proofs.room.FirstFull.{Asks, first_full}

-- a call that init never makes
abbrev pub IsNoWait : Call → Type 0
IsNoWait call = call ≡ Wait → ⊥

-- the kernel before the first call for which this was full: it is on its way, and that call is one of a process of its tree
pub record Filled (profile : Profile) (lines : List ScriptLine) (input : Bytes) (list : List (Name × Bytes)) (full : Full) : Type 0 where
  pub kernel : KernelState User
  pub way : IsOnWay profile (first_stage (script_tree lines) input (files list)) kernel
  pub settled : IsConsistent kernel
  pub entries : length kernel.entries ≡ ENTRIES
  pub kept : AreFiles kernel.files
  pub asks : Asks kernel full

module _ (profile : Profile) (lines : List ScriptLine) (input : Bytes) (list : List (Name × Bytes)) (are : AreFiles list) (plain : has_back (script_tree lines) ≡ false) where
  pub filled : (es : List Event) (ns : List Bool) (m : KernelState User) (full : Full) → run call_of next_of (Some (script_kernel profile lines input list)) es ns ≡ Some m → m.full ≡ Some full → Filled profile lines input list full
  filled es ns m full is marked =
      let f = first_full init (shell profile (top Starts lines)) input list full es ns m is marked in
      record {
        kernel = f.kernel;
        way = every_run_stands profile lines input list f.reached.events f.reached.notes f.kernel are plain f.reached.runs f.clean;
        settled = runs.settled init (shell profile (top Starts lines)) input list are f.kernel f.reached;
        entries = every_run_has_entries call_of next_of init (shell profile (top Starts lines)) input list f.reached.events f.reached.notes f.kernel f.reached.runs;
        kept = every_run_has_files call_of next_of init (shell profile (top Starts lines)) input list f.reached.events f.reached.notes f.kernel are f.reached.runs;
        asks = f.asks;
      }

module _ (profile : Profile) (first : Stage) (k : KernelState User) (s : IsOnWay profile first k) (full : Full) (a : Asks k full) where
  abbrev pub call : Call
  call = call_of a.process.machine a.process.reply

  seen_alive : (b : Bool) → b ≡ false → seen_by b s.names.name a.process ≡ live (parent_or_init a.process.parent) (act_of a.process.machine a.process.reply) a.process.put (fds_seen s.names.name a.process.fds)
  seen_alive true is = absurd (let z : ⊥ = cc in z)
  seen_alive false is = refl

  pub no_init : IsNoWait call → a.pid ≢ 0
  no_init other is = other (ap (λ m. call_of m a.process.reply) (s.has_init a.process (sym (ap (at k.table) is) ∙ a.there)).0)

  -- how it is seen
  pub asked : IsNoWait call → (view s.names k).slots a.pid ≡ live (parent_or_init a.process.parent) (act_of a.process.machine a.process.reply) a.process.put (fds_seen s.names.name a.process.fds)
  asked other =
      seen_up s.names.name k.table a.pid (no_init other) ∙ (ap (seen_slot s.names.name) a.there ∙ seen_alive (is_zombie_status a.process.status) (runs_alive a.hart a.process.status a.running))

  pub inside : IsNoWait call → 1 ≤ occurs a.pid s.tree
  inside other = omega (arith, s.shape.all a.pid, ap is_used (asked other))
