-- A run of a settled script that has room and as many turns as are enough is given up only where memory was refused; and by itself it has
-- as many, where a run may have them.
use Rattle.std.proofs.Common.{◌≡◌, ◌+◌, ◌≤◌, ◌⊎◌, inl, inr, ℕ, false, List, Option, Some, None, sym, subst, arith}
use Rattle.std.specs.Prelude.{max}
use Rattle.std.proofs.Math.Nat.{le-max_left}
use Rattle.mem_files.specs.Name.{Name, Bytes}
use Rattle.mem_files.specs.Files.{files}
use Rattle.mem_files.specs.Listing.{AreFiles}
use Rattle.script_load.specs.Line.{ScriptLine}
use Rattle.script_load.specs.declared.limits.TheConstants.{MAX_TURNS}
use Rattle.script_load.specs.declared.profile.Profile.{Profile}
use Rattle.meaning_model.specs.Meaning.{script_tree}
use Rattle.meaning_model.specs.Settled.{IsSettledScript}
use Rattle.tree_model.specs.Tidy.{HasShortCommands, IsClearScript}
use Rattle.law_trees.proofs.trees.Short.{script_short}
use Rattle.kernel_model.specs.declared.events.Full.TheVariants.{Memory}
use Rattle.run_model.specs.ScriptRun.{IsSpentFrom, script_kernel}
use Rattle.room_model.specs.Roomy.{IsRoomyScript}
use Rattle.step_bounds.specs.Most.{most_events}
use Rattle.law_runs.proofs.bounds.Ending.{few_turns}
use Rattle.law_runs.proofs.room.Roomy.{only_memory}
use Rattle.hart_run.specs.Filled.{IsRefusedFrom}
use Rattle.xvsh_read.specs.Starting.{Starts}
use Rattle.xvsh_runs.specs.declared.fault.ProcessFault.{ProcessFault}
use Rattle.xvsh_runs.specs.declared.fault.ProcessFault.TheVariants.{Spent}
use Rattle.xvsh_runs.specs.Limit.{IsLimit, IsOwnLimit}
use Rattle.xvsh_runs.specs.Orders.{IsOrderFault}
use Rattle.xvsh_runs.specs.declared.limit.TheConstants.{TURNS}
use Rattle.xvsh_runs.specs.Why.{IsHartsFault, no_memory, harts_out_of_range, turns_out_of_range, turns_spent, IsRunFault, bad_order, no_start, no_run}
use Rattle.xvsh_runs.specs.Strict.{IsStrictFault, no_verdict, no_strict_run}
use Rattle.law_answers.specs.Settings.{Setting}
use Rattle.law_answers.specs.Spending.{IsSpentIn, IsGivenUpIn}

refused_where : (profile : Profile) (lines : List ScriptLine) (stdin : Bytes) (given : List (Name × Bytes)) (turns : ℕ) → AreFiles given → HasShortCommands (script_tree lines) → IsSpentFrom (script_kernel profile lines stdin given) turns
    → IsSettledScript profile lines stdin (files given) → IsRoomyScript lines stdin given → most_events lines stdin (files given) + 2 ≤ turns → IsRefusedFrom (script_kernel profile lines stdin given)
refused_where profile lines stdin given turns are short s settled roomy enough =
    by (only_memory profile lines stdin given are roomy s.events s.notes s.last s.runs (record { no_back = settled.0; clear = settled.1; short = short }))
  where
    by : (s.last.full ≡ None) ⊎ (s.last.full ≡ Some Memory) → IsRefusedFrom (script_kernel profile lines stdin given)
    by (inl none) = absurd (omega (arith, enough, few_turns profile lines stdin given are (record { no_back = settled.0; clear = settled.1; short = short }) turns s none))
    by (inr memory) = record { turns = turns; spends = s; refused = memory }

module _ (s : Setting) (harts : ℕ) (turns : Option ℕ) where
  spent_from : (lines : List ScriptLine) (given : List (Name × Bytes)) (stdin : Bytes) (limit : ℕ) (fault : ProcessFault) → Starts s.input s.file false s.script s.paths lines given stdin
      → IsLimit lines stdin (files given) turns limit → IsHartsFault (script_kernel s.profile lines stdin given) harts limit fault → fault ≡ Spent → IsSpentIn s turns
  spent_from lines given stdin limit fault starts limited no_memory is = cc
  spent_from lines given stdin limit fault starts limited (harts_out_of_range bad) is = cc
  spent_from lines given stdin limit fault starts limited (turns_out_of_range bad) is = cc
  spent_from lines given stdin limit fault starts limited (turns_spent spent) is = record {
    lines = lines;
    given = given;
    stdin = stdin;
    starts = starts;
    limit = limit;
    limited = limited;
    spent = spent;
    refused = refused_where s.profile lines stdin given limit starts.are (script_short starts.loaded.bytes lines starts.loaded.cut) spent;
  }

  pub spent_in : (fault : ProcessFault) → IsRunFault s.input s.file s.profile s.script s.paths harts turns fault → fault ≡ Spent → IsSpentIn s turns
  spent_in fault (bad_order bad) is = absurd (subst IsOrderFault is bad)
  spent_in fault (no_start bad) is = cc
  spent_in fault (no_run lines given stdin limit starts limited bad) is = spent_from lines given stdin limit fault starts limited bad is

  pub strictly_spent_in : (fault : ProcessFault) → IsStrictFault s.input s.file s.profile s.script s.paths harts turns fault → fault ≡ Spent → IsSpentIn s turns
  strictly_spent_in fault (no_verdict lines given stdin starts bad) is = cc
  strictly_spent_in fault (no_strict_run bad) is = spent_in fault bad is

-- by itself a run of a clear script has as many turns as are enough, where it may have them
own_enough : (limit most : ℕ) → limit ≡ max (most + 2) TURNS → most + 2 ≤ limit
own_enough limit most is = subst (λ n. most + 2 ≤ n) (sym is) (le-max_left (most + 2) TURNS)

pub given_up_in : (s : Setting) → IsSpentIn s None → IsGivenUpIn s
given_up_in s i = record {
  lines = i.lines;
  given = i.given;
  stdin = i.stdin;
  starts = i.starts;
  refused = λ settled roomy few. i.refused settled roomy (own_enough i.limit (most_events i.lines i.stdin (files i.given)) (i.limited.enough (settled.0, settled.1) few));
}
