-- The fault of a word that names no order of turns (own).
use Rattle.xvsh_runs.specs.declared.fault.ProcessFault.{ProcessFault}
use Rattle.xvsh_runs.specs.declared.fault.ProcessFault.TheVariants.{Common, BadHarts, BadTurns, BadOrder, Spent, SharedInput, NoEvent, NotRunnable, NotRunning, Unfinished}

abbrev pub IsOrderFault : ProcessFault → Type 0
IsOrderFault (BadOrder word) = Unit {0}
IsOrderFault (Common fault) = ⊥
IsOrderFault BadHarts = ⊥
IsOrderFault BadTurns = ⊥
IsOrderFault Spent = ⊥
IsOrderFault SharedInput = ⊥
IsOrderFault (NoEvent path line) = ⊥
IsOrderFault (NotRunnable number pid) = ⊥
IsOrderFault (NotRunning number pid hart) = ⊥
IsOrderFault (Unfinished count) = ⊥
