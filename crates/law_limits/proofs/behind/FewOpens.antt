-- No run of a script has more open-file entries in use than the script opens in all, also where commands run behind `&`; so where there
-- are as many, none finds too few free.
use Rattle.std.proofs.Common.{◌≡◌, ℕ, ◌+◌, ◌≤◌, List, [], ◌∷◌, Bool, Option, Some, None, length, refl, arith}
use Rattle.std.specs.Prelude.{count_by, is_some, cond}
use Rattle.std.proofs.lemmas.List.Sums.{sum_by-cons}
use Rattle.mem_files.specs.Name.{Name, Bytes}
use Rattle.script_load.specs.declared.profile.Profile.{Profile}
use Rattle.script_load.specs.Line.{ScriptLine}
use Rattle.user_calls.specs.declared.calls.Call.{Call}
use Rattle.user_calls.specs.declared.calls.Call.TheVariants.{Fork, Exec, Exit, Wait, MakePipe, Read, Write, OpenFile, Close, Dup}
use Rattle.fd_table.specs.declared.entries.TheConstants.{ENTRIES}
use Rattle.fd_table.specs.Entries.{Entries, OpenFile as Entry, is_free, free_count}
use Rattle.kernel_model.specs.declared.events.Event.{Event}
use Rattle.kernel_model.specs.declared.events.Full.TheVariants.{Open}
use Rattle.kernel_model.specs.KernelState.{KernelState}
use Rattle.kernel_model.specs.Events.{run}
use Rattle.law_kernel.proofs.kernel.EntriesLong.{every_run_has_entries}
use Rattle.run_model.specs.ScriptRun.{script_kernel}
use Rattle.sh_machine.specs.declared.state.Phase.TheVariants.{Starts}
use Rattle.sh_machine.specs.State.{User, init, shell, top}
use Rattle.sh_machine.specs.Turn.{call_of, next_of}
use Rattle.room_model.specs.BehindOpens.{opens_in_all}
use Rattle.law_runs.proofs.room.FirstFull.{First, first_full}
use Rattle.law_runs.proofs.room.Marks.{entries_wanted}
use Rattle.law_limits.proofs.opens.Spending.{cost, finds_within}
use Rattle.law_limits.proofs.opens.Shells.{user_ahead, users_spend}
use Rattle.law_limits.proofs.opens.Scripts.{opens_within}

-- an entry is in use or free
one_of_both : (x : Option Entry) → cond {A = ℕ} (is_some x) 1 0 + cond {A = ℕ} (is_free x) 1 0 ≡ 1
one_of_both None = refl
one_of_both (Some f) = refl

used_and_free : (t : Entries) → count_by is_some t + free_count t ≡ length t
used_and_free [] = refl
used_and_free (x ∷ t) =
    omega (arith, sum_by-cons (λ (y : Option Entry). cond {A = ℕ} (is_some y) 1 0) x t, sum_by-cons (λ (y : Option Entry). cond {A = ℕ} (is_free y) 1 0) x t, one_of_both x, used_and_free t)

-- a call wants as many as it opens
wanted : (c : Call) → entries_wanted c ≡ cost c
wanted Fork = refl
wanted (Exec found) = refl
wanted Exit = refl
wanted Wait = refl
wanted MakePipe = refl
wanted (Read fd n) = refl
wanted (Write fd b) = refl
wanted (OpenFile name mode) = refl
wanted (Close fd) = refl
wanted (Dup fd) = refl

module _ (profile : Profile) (lines : List ScriptLine) (input : Bytes) (list : List (Name × Bytes)) where
  abbrev first : User
  first = shell profile (top Starts lines)

  pub few_in_use : (es : List Event) (ns : List Bool) (m : KernelState User) → run call_of next_of (Some (script_kernel profile lines input list)) es ns ≡ Some m → count_by is_some m.entries ≤ opens_in_all lines
  few_in_use es ns m is =
      omega (arith, opens_within profile lines input list es ns m is, used_and_free m.entries, every_run_has_entries call_of next_of init first input list es ns m is)

  -- the first call for which too few entries are free
  enough : (f : First init first input list Open) → opens_in_all lines ≤ ENTRIES → ⊥
  enough f few =
      let q = f.asks.process in
      let within = opens_within profile lines input list f.reached.events f.reached.notes f.kernel f.reached.runs in
      omega (
        arith,
        f.asks.lacks,
        wanted (call_of q.machine q.reply),
        finds_within call_of next_of user_ahead users_spend (opens_in_all lines) f.kernel f.asks.pid q f.asks.there few within,
      )

  pub entry_is_free : (es : List Event) (ns : List Bool) (m : KernelState User) → run call_of next_of (Some (script_kernel profile lines input list)) es ns ≡ Some m → opens_in_all lines ≤ ENTRIES → m.full ≡ Some Open → ⊥
  entry_is_free es ns m is few marked = enough (first_full init first input list Open es ns m is marked) few
