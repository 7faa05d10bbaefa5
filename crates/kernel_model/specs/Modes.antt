-- How a file is opened, in the words of calls and in those of entries.
use Rattle.std.specs.Prelude.{Bool, true, false}
use Rattle.user_calls.specs.declared.calls.Mode.{Mode}
use Rattle.user_calls.specs.declared.calls.Mode.TheVariants.{Input, Fresh, Over, Append}
use Rattle.fd_table.specs.declared.names.Mode.{Mode as EntryMode}
use Rattle.fd_table.specs.declared.names.Mode.TheVariants.{Input as EntryInput, Fresh as EntryFresh, Over as EntryOver, Append as EntryAppend}

-- the mode of an entry that is opened so
abbrev pub entry_mode : Mode → EntryMode
entry_mode Input = EntryInput
entry_mode Fresh = EntryFresh
entry_mode Over = EntryOver
entry_mode Append = EntryAppend

-- a file is opened so for reading
abbrev pub reads : Mode → Bool
reads Input = true
reads Fresh = false
reads Over = false
reads Append = false

-- a file that is opened so is emptied
abbrev pub empties : Mode → Bool
empties Input = false
empties Fresh = true
empties Over = false
empties Append = false
