-- Where the files that a program writes go on: within their bytes or at their end, so that no write of it leaves a gap.
use Rattle.std.specs.Prelude.{ℕ, ◌≤◌, List, [], ◌∷◌, length, Option, Some, None}
use Rattle.mem_files.specs.Files.{FileMap, bytes_of}
use Rattle.user_progs.specs.State.{Tee, tee_opens, tee_reads, tee_writes, tee_gives, State, begins, echo_word, echo_space, opens, works, closes, tees, told, ended}
use Rattle.tree_model.specs.Alone.{OwnFile, World, held}

abbrev pub IsWithin : Option OwnFile → FileMap → Type 0
IsWithin None F = ⊥
IsWithin (Some own) F = own.at ≤ length (bytes_of (F own.name))

-- the files that are open at these descriptors
abbrev pub AreWithin : List ℕ → List OwnFile → FileMap → Type 0
AreWithin [] own F = Unit {0}
AreWithin (fd ∷ fds) own F = IsWithin (held own fd) F × AreWithin fds own F

abbrev pub outputs : Tee → List ℕ
outputs (tee_opens fds name later) = fds
outputs (tee_reads fds) = fds
outputs (tee_writes fds bytes) = fds
outputs (tee_gives fds at bytes) = fds

-- of the programs, tee alone writes files
abbrev pub Fits : State → World → Type 0
Fits (begins program arguments) world = Unit {0}
Fits (echo_word later) world = Unit {0}
Fits (echo_space later) world = Unit {0}
Fits (opens filter name later) world = Unit {0}
Fits (works work source) world = Unit {0}
Fits (closes filter later) world = Unit {0}
Fits (tees tee) world = AreWithin (outputs tee) world.own world.files
Fits told world = Unit {0}
Fits ended world = Unit {0}
