-- Orders by their numbers.
use Rattle.std.specs.Prelude.{ℕ, Option, None, Some, nat_lt, ◌==◌, if◌then◌else◌}
use Rattle.kernel_runs.specs.declared.ordering.Order.{Order}
use Rattle.kernel_runs.specs.declared.ordering.Order.TheVariants.{Kernel, Drawn, Lowest, Highest, Starving, Eager}

-- the order of this kind, of which some need a number
abbrev pub order_by : ℕ → ℕ → Option Order
order_by kind number =
    if kind == 0 then Some Kernel else
    if kind == 1 then Some (Drawn number) else
    if kind == 2 then Some Lowest else
    if kind == 3 then Some Highest else
    if kind == 4 then (if nat_lt number 64 then Some (Starving number) else None) else
    if kind == 5 then Some Eager else None
