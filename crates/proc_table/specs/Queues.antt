-- Where a process stands while it waits: in the queue of a hart, or in the list of the channel that it sleeps on.
use Rattle.std.specs.Prelude.{◌≡◌, ℕ, ◌+◌, ◌<◌, ◌==◌, ◌&&◌, Bool, true, false, List, Option, Some, None, length, slice_index}
use Rattle.slot_lists.specs.Links.{has, slots_of}
use Rattle.proc_table.specs.declared.heads.Head.{Head}
use Rattle.proc_table.specs.declared.pid.TheConstants.{PROCS}
use Rattle.proc_table.specs.declared.table.TheConstants.{HARTS}
use Rattle.proc_table.specs.declared.states.Channel.{Channel}
use Rattle.proc_table.specs.Slots.{is_asleep_on_status, is_runnable_status}
use Rattle.proc_table.specs.Heads.{head_at, head_has}
use Rattle.proc_table.specs.Channels.{channel_of}

-- the lists, the channels of those of sleepers, and the hart on which each slot's process ran last
pub record Queues : Type 0 where
  pub lists : List (List ℕ)
  pub channels : List (Option Channel)
  pub last : List ℕ

-- a hart for each slot
abbrev pub AreHarts : List ℕ → Type 0
AreHarts last = (length last ≡ PROCS) × ((slot : ℕ) → slot < PROCS → slice_index last slot < HARTS)

-- the slots in a list of sleepers: the queues of the eight harts come first
abbrev pub sleepers_of : List (List ℕ) → ℕ → List ℕ
sleepers_of lists list = slots_of lists (8 + list)

-- a process sleeps on the channel of a list; on none, if the list is nobody's
abbrev pub sleeps_on : Option Channel → Option Head → Bool
sleeps_on None head = false
sleeps_on (Some channel) head = head_has (is_asleep_on_status channel) head

-- the channel has a list
abbrev pub HasList : List (Option Channel) → Channel → Type 0
HasList channels channel = (list : ℕ) × (channel_of channels list ≡ Some channel)

-- somebody stands in the list
abbrev pub IsUsed : List (List ℕ) → ℕ → Type 0
IsUsed lists list = (slot : ℕ) × (slot < PROCS) × (has (sleepers_of lists list) slot ≡ true)

-- a hart's queue holds the Runnable processes that ran last on it, and nothing else; a list of sleepers holds those that
-- sleep on its channel, and nothing else, so sleepers of one channel alone; no channel has two lists, and that of each
-- sleeper has one
pub record AreStanding (heads : List (Option Head)) (queues : Queues) : Type 0 where
  pub all : length heads ≡ PROCS
  pub all_named : length queues.channels ≡ PROCS
  pub runnable : (hart slot : ℕ) → hart < HARTS → slot < PROCS
      → has (slots_of queues.lists hart) slot ≡ (head_has is_runnable_status (head_at heads slot) && (hart == slice_index queues.last slot))
  pub asleep : (list slot : ℕ) → list < PROCS → slot < PROCS → has (sleepers_of queues.lists list) slot ≡ sleeps_on (channel_of queues.channels list) (head_at heads slot)
  pub once : (list other : ℕ) (channel : Channel) → channel_of queues.channels list ≡ Some channel → channel_of queues.channels other ≡ Some channel → list ≡ other
  pub listed : (slot : ℕ) (channel : Channel) → head_has (is_asleep_on_status channel) (head_at heads slot) ≡ true → HasList queues.channels channel

-- the same, and a channel has a list only while somebody sleeps on it
pub record AreQueued (heads : List (Option Head)) (queues : Queues) : Type 0 where
  pub standing : AreStanding heads queues
  pub used : (list : ℕ) (channel : Channel) → channel_of queues.channels list ≡ Some channel → IsUsed queues.lists list
