-- What is left, whose programs each ask for what is their own.
use Rattle.mem_files.specs.Files.{no_files}
use Rattle.tree_model.specs.Calls.{MayCall}
use Rattle.tree_model.specs.Residual.{alone, Residual, done, todo, running, seq, piped, unopened, from, into}

-- each program that runs waits for a call that its state may make: a file that it opens is one that it names, and one that it
-- reads or writes is one that it has open so
abbrev pub AsksItsOwn : Residual → Type 0
AsksItsOwn done = Unit {0}
AsksItsOwn (todo tree) = Unit {0}
AsksItsOwn (running run) = MayCall run.turn.call run.turn.next (alone run no_files)
AsksItsOwn (seq X later) = AsksItsOwn X
AsksItsOwn (piped lost X bytes Y) = AsksItsOwn X × AsksItsOwn Y
AsksItsOwn (unopened mode file body) = Unit {0}
AsksItsOwn (from file at X) = AsksItsOwn X
AsksItsOwn (into file at X) = AsksItsOwn X
