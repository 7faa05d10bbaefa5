-- The files that a program still depends on, when it runs alone.
use Rattle.std.specs.Prelude.{false, ◌||◌, List, ℕ, take, drop, Option, Some, None, if◌then◌else◌}
use Rattle.std.specs.Option.{is_some}
use Rattle.std.specs.Str.{bytes_eq}
use Rattle.mem_files.specs.Files.{FileMap}
use Rattle.prog_parts.specs.NameSets.{Names}
use Rattle.user_progs.specs.State.{Source, standard, file, Tee, tee_opens, tee_reads, tee_writes, tee_gives, State, begins, echo_word, echo_space, opens, works, closes, tees, told, ended}
use Rattle.tree_model.specs.Ahead.{still_opens, still_writes}
use Rattle.tree_model.specs.Alone.{OwnFile, World, held}
use Rattle.tree_model.specs.Given.{place_in}

abbrev pub is_held : Option OwnFile → Names
is_held None name = false
is_held (Some own) name = bytes_eq name own.name

abbrev pub source_holds : Source → World → Names
source_holds standard world name = false
source_holds (file fd current later) world name = is_held (held world.own fd) name

-- at one of these descriptors
abbrev pub is_given : List ℕ → List OwnFile → Names
is_given fds own name = is_some (place_in fds own name)

abbrev pub tee_holds : Tee → World → Names
tee_holds (tee_opens fds current later) world name = is_given fds world.own name
tee_holds (tee_reads fds) world name = is_given fds world.own name
tee_holds (tee_writes fds bytes) world name = is_given fds world.own name
tee_holds (tee_gives fds at bytes) world name = is_given (drop at fds) world.own name || is_given (take at fds) world.own name

abbrev pub holds : State → World → Names
holds (begins program arguments) world name = false
holds (echo_word later) world name = false
holds (echo_space later) world name = false
holds (opens filter current later) world name = false
holds (works work source) world name = source_holds source world name
holds (closes filter later) world name = false
holds (tees tee) world name = tee_holds tee world name
holds told world name = false
holds ended world name = false

-- the names that it may still open, and those that it holds open
abbrev pub depends_on : State → World → Names
depends_on state world name = still_opens state name || holds state world name

-- the names that it holds open for writing
abbrev pub holds_to_write : State → World → Names
holds_to_write (begins program arguments) world name = false
holds_to_write (echo_word later) world name = false
holds_to_write (echo_space later) world name = false
holds_to_write (opens filter current later) world name = false
holds_to_write (works work source) world name = false
holds_to_write (closes filter later) world name = false
holds_to_write (tees tee) world name = tee_holds tee world name
holds_to_write told world name = false
holds_to_write ended world name = false

-- the names that it may still change: those that it may still open for writing, and those that it holds open so
abbrev pub may_change : State → World → Names
may_change state world name = still_writes state name || holds_to_write state world name

-- the files of these names as in the first map, all others as in the second
abbrev pub only_changed : Names → FileMap → FileMap → FileMap
only_changed names F G name = if names name then F name else G name
