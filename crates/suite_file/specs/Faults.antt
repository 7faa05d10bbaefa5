-- What a fault says.
use Rattle.suite_file.specs.declared.fault.SuiteFault.{SuiteFault}
use Rattle.suite_file.specs.declared.fault.SuiteFault.TheVariants.{At, Memory}

-- the text is wrong
abbrev pub IsAt : SuiteFault → Type 0
IsAt (At line told) = Unit {0}
IsAt Memory = ⊥
