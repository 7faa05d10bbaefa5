-- The note that is kept beside an event: whether memory was refused.
use Rattle.std.specs.Prelude.{Bool, true, false}
use Rattle.kernel_model.specs.declared.events.Memory.{Memory}
use Rattle.kernel_model.specs.declared.events.Memory.TheVariants.{Found, Refused}

abbrev pub is_refused : Memory → Bool
is_refused Found = false
is_refused Refused = true
