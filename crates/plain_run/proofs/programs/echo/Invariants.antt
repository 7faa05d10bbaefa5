use Rattle.std.proofs.Common.{◌≡◌, ◌++◌, drop}
use Rattle.meaning_model.specs.Programs.{echo_out}
use Rattle.plain_run.specs.Gives.{Extends}
use Rattle.plain_run.proofs.programs.echo.Given as goal

-- the arguments that are left complete what is written
abbrev pub invariant-loop-i : goal.invariant-loop-i
invariant-loop-i g l =
    (l.out.items ++ echo_out (drop l.i l.arguments) ≡ l.fn.out.items ++ echo_out l.arguments)
    × Extends l.fn.out.items l.out.items
