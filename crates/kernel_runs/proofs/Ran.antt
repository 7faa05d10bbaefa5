-- What the report of a run says of its room.
use Rattle.std.proofs.Common.{◌≡◌, Option, Some, None, Ok, Result, refl, sym, ◌∙◌}
use Rattle.std.specs.Prelude.{IfSome}
use Rattle.sh_machine.specs.State.{User}
use Rattle.kernel_model.specs.declared.events.Full.{Full}
use Rattle.kernel_model.specs.KernelState.{KernelState}
use Rattle.kernel_events.specs.declared.report.Report.{Report}
use Rattle.kernel_events.specs.Reports.{IsRunFrom}
use Rattle.kernel_runs.specs.declared.run.RunOneFault.{RunOneFault}
use Rattle.kernel_runs.specs.Room.{EndsBy, HasRoom, IsFilled}

abbrev IsOkNone : Option Full → Type 0
IsOkNone o = ◌≡◌ {A = Result (Option Full) RunOneFault} (Ok o) (Ok None)

found : (o : Option Full) → IsOkNone o → o ≡ None
found o is = cc

module _ {A : _} (start : KernelState User) (report : Report A) (from : IsRunFrom start report) where
  abbrev ends : EndsBy start report.schedule
  ends = record { notes = from.notes; last = from.last; runs = from.runs; finished = from.finished }

  pub room_of : IsOkNone report.full → HasRoom start
  room_of is = record { schedule = report.schedule; ends = ends; roomy = sym from.tells.full ∙ found report.full is }

  filled : (o : Option Full) → report.full ≡ o → IfSome o (IsFilled start)
  filled None is = tt
  filled (Some full) is = record { schedule = report.schedule; ends = ends; filled = sym from.tells.full ∙ is }

  pub full_of : IfSome report.full (IsFilled start)
  full_of = filled report.full refl
