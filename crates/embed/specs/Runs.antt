-- What a run of a task by its processes gives, and why it gives nothing.
use Rattle.std.specs.Prelude.{◌≡◌, ◌<◌, ◌⊎◌, ℕ, List, []}
use Rattle.std.specs.Global.{Global}
use Rattle.prog_parts.specs.NameSets.{among}
use Rattle.mem_files.specs.Name.{Name, Bytes}
use Rattle.script_load.specs.declared.limits.TheConstants.{MAX_TURNS}
use Rattle.script_load.specs.Line.{ScriptLine}
use Rattle.kernel_model.specs.declared.events.Event.{Event}
use Rattle.run_model.specs.ScriptRun.{IsSpentFrom, script_kernel}
use Rattle.kernel_events.specs.Reports.{IsRunFrom}
use Rattle.kernel_events.specs.declared.report.Report.{Report}
use Rattle.kernel_runs.specs.Refused.{IsReplayFault}
use Rattle.kernel_runs.specs.declared.replaying.ReplayFault.{ReplayFault}
use Rattle.kernel_runs.specs.declared.replaying.ReplayFault.TheVariants.{NotRunnable as not_runnable, NotRunning as not_running, Unfinished as unfinished, Memory as refused}
use Rattle.hart_run.specs.Answer.{IsAnswerIfSettled}
use Rattle.schedule_lines.specs.EventLines.{AreLinesOf, IsNoEventAt, schedule_text}
use Rattle.embed.specs.declared.task.Task.{Task}
use Rattle.embed.specs.Profiles.{profile_by}
use Rattle.embed.specs.Starting.{Starts, IsStartFault}
use Rattle.embed.specs.Packing.{sizes_of, block_of}
use Rattle.embed.specs.declared.running.RunAnswer.{RunAnswer}
use Rattle.embed.specs.declared.fault.EmbedFault.{EmbedFault}
use Rattle.embed.specs.declared.fault.EmbedFault.TheVariants.{Start, TooLarge, Memory, BadTurns, Spent, NoEvent, NotRunnable, NotRunning, Unfinished, BadOrder, BadStates}

-- the answer has what the report has
pub record IsReportTold (report : Report Global) (answer : RunAnswer) : Type 0 where
  pub prints : answer.out.items ≡ report.out.items
  pub tells : answer.diag.items ≡ report.diag.items
  pub sizes : answer.files.sizes.items ≡ sizes_of (among []) report.files
  pub block : answer.files.block.items ≡ block_of report.files
  pub went : answer.schedule.items ≡ schedule_text report.schedule
  pub full : answer.full ≡ report.full

-- the answer has the report of a finished run of the task's script, which is what the script means where it is settled and
-- nothing was full
pub record IsRunAnswer (task : Task) (answer : RunAnswer) : Type 0 where
  pub lines : List ScriptLine
  pub given : List (Name × Bytes)
  pub starts : Starts task lines given
  pub report : Report Global
  pub ran : IsRunFrom (script_kernel (profile_by task.appends) lines task.stdin.now given) report
  pub means : IsAnswerIfSettled (profile_by task.appends) lines task.stdin.now given report
  pub told : IsReportTold report answer

-- the same of a run by the events of this schedule
pub record IsReplayAnswer (task : Task) (schedule : Bytes) (answer : RunAnswer) : Type 0 where
  pub lines : List ScriptLine
  pub given : List (Name × Bytes)
  pub starts : Starts task lines given
  pub report : Report Global
  pub ran : IsRunFrom (script_kernel (profile_by task.appends) lines task.stdin.now given) report
  pub means : IsAnswerIfSettled (profile_by task.appends) lines task.stdin.now given report
  pub told : IsReportTold report answer
  pub by : AreLinesOf schedule report.schedule

abbrev pub of_replay : ReplayFault → EmbedFault
of_replay (not_runnable number) = NotRunnable number
of_replay (not_running number) = NotRunning number
of_replay unfinished = Unfinished
of_replay refused = Memory

-- why a schedule's lines aren't read: one is no event, or memory was refused
abbrev pub IsLineFault : Bytes → EmbedFault → Type 0
IsLineFault schedule (Start fault) = ⊥
IsLineFault schedule TooLarge = ⊥
IsLineFault schedule Memory = Unit {0}
IsLineFault schedule BadTurns = ⊥
IsLineFault schedule Spent = ⊥
IsLineFault schedule (NoEvent line) = IsNoEventAt schedule line
IsLineFault schedule (NotRunnable event) = ⊥
IsLineFault schedule (NotRunning event) = ⊥
IsLineFault schedule Unfinished = ⊥
IsLineFault schedule BadOrder = ⊥
IsLineFault schedule BadStates = ⊥

-- why there is no answer of a run in so many turns
pub data IsRunFault (task : Task) (turns : ℕ) : EmbedFault → Type 0 where
  no_start : {fault : _} → IsStartFault task fault → IsRunFault task turns (Start fault)
  bad_turns : (turns ≡ 0) ⊎ (MAX_TURNS < turns) → IsRunFault task turns BadTurns
  spent : (lines : List ScriptLine) (given : List (Name × Bytes)) → Starts task lines given → IsSpentFrom (script_kernel (profile_by task.appends) lines task.stdin.now given) turns → IsRunFault task turns Spent
  no_memory : IsRunFault task turns Memory

-- why there is none of a run by this schedule: it can't begin, a line is no event, its events give no report, or there is no memory
pub data IsReplayRefusal (task : Task) (schedule : Bytes) : EmbedFault → Type 0 where
  cannot_start : {fault : _} → IsStartFault task fault → IsReplayRefusal task schedule (Start fault)
  no_schedule : {fault : EmbedFault} → IsLineFault schedule fault → IsReplayRefusal task schedule fault
  no_replay : (fault : ReplayFault) (lines : List ScriptLine) (given : List (Name × Bytes)) (events : List Event) → Starts task lines given → AreLinesOf schedule events
      → IsReplayFault (script_kernel (profile_by task.appends) lines task.stdin.now given) events fault → IsReplayRefusal task schedule (of_replay fault)
  no_room : IsReplayRefusal task schedule Memory
