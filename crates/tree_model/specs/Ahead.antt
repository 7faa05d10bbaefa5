-- Which names a program may still open or write, and whether it still reads standard input, by its state. A set of names is a test on names.
use Rattle.std.specs.Prelude.{Bool, true, false, ◌||◌, ◌∷◌}
use Rattle.prog_parts.specs.Program.{program_uses_input}
use Rattle.prog_parts.specs.NameSets.{Names, among}
use Rattle.prog_parts.specs.Words.{files_read, files_written}
use Rattle.user_progs.specs.State.{Source, standard, file, Tee, tee_opens, tee_reads, tee_writes, tee_gives, State, begins, echo_word, echo_space, opens, works, closes, tees, told, ended}

abbrev pub source_opens : Source → Names
source_opens standard name = false
source_opens (file fd current later) name = among later name

abbrev pub tee_opens_still : Tee → Names
tee_opens_still (tee_opens fds current later) name = among (current ∷ later) name
tee_opens_still (tee_reads fds) name = false
tee_opens_still (tee_writes fds bytes) name = false
tee_opens_still (tee_gives fds at bytes) name = false

-- the names that it may still open; what it holds open is not among them
abbrev pub still_opens : State → Names
still_opens (begins program arguments) name = among (files_read program arguments) name || among (files_written program arguments) name
still_opens (echo_word later) name = false
still_opens (echo_space later) name = false
still_opens (opens filter current later) name = among (current ∷ later) name
still_opens (works work source) name = source_opens source name
still_opens (closes filter later) name = among later name
still_opens (tees tee) name = tee_opens_still tee name
still_opens told name = false
still_opens ended name = false

-- of these, those that it opens for writing
abbrev pub still_writes : State → Names
still_writes (begins program arguments) name = among (files_written program arguments) name
still_writes (echo_word later) name = false
still_writes (echo_space later) name = false
still_writes (opens filter current later) name = false
still_writes (works work source) name = false
still_writes (closes filter later) name = false
still_writes (tees tee) name = tee_opens_still tee name
still_writes told name = false
still_writes ended name = false

abbrev pub source_uses : Source → Bool
source_uses standard = true
source_uses (file fd name later) = false

-- whether it still reads standard input
abbrev pub still_uses : State → Bool
still_uses (begins program arguments) = program_uses_input program arguments
still_uses (echo_word later) = false
still_uses (echo_space later) = false
still_uses (opens filter name later) = false
still_uses (works work source) = source_uses source
still_uses (closes filter later) = false
still_uses (tees tee) = true
still_uses told = false
still_uses ended = false
