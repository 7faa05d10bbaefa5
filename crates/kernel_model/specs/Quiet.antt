-- A schedule with the note that memory was never refused.
use Rattle.std.specs.Prelude.{Bool, false, List, [], ◌∷◌}
use Rattle.kernel_model.specs.declared.events.Event.{Event}

-- a note for each event: nothing was refused
abbrev pub no_refusals : List Event → List Bool
no_refusals [] = []
no_refusals (e ∷ es) = false ∷ no_refusals es
