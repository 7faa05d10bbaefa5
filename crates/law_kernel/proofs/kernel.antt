pub mod Slots
pub mod OnePipe
pub mod PipeReads
pub mod PipeWrites
pub mod Closes
pub mod Children
pub mod Exits
pub mod Calls
pub mod Runs
pub mod EntryCounts
pub mod PipeNames
pub mod EndsClosed
pub mod EndsOpened
pub mod EndsCalls
pub mod EndsRuns
pub mod FilesKept
pub mod SoundRuns
pub mod Held
mod BytesKept
mod Moves
mod Flowing
pub mod FlowRuns
mod Others
mod Leaves
mod Asking
mod AskCalls
pub mod AskRuns
pub mod EntriesLong
mod ExitCloses
mod Worked
