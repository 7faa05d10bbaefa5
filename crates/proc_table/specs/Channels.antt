-- Which channel each of the 64 lists of sleepers belongs to.
use Rattle.std.specs.Prelude.{◌≡◌, ◌≢◌, ◌⊎◌, ℕ, ◌+◌, ◌-◌, ◌%◌, ◌<◌, ◌==◌, List, Option, Some, None, length, slice_index_or, slice_set, if◌then◌else◌}
use Rattle.slot_lists.specs.Sets.{AreGrouped}
use Rattle.proc_table.specs.declared.pid.TheConstants.{PROCS}
use Rattle.proc_table.specs.declared.states.Channel.{Channel}
use Rattle.proc_table.specs.declared.states.Channel.TheVariants.{PipeBytes, PipeRoom, Children}

-- the number at which a channel's list is looked for first; several channels have one
abbrev pub bucket_of : Channel → ℕ
bucket_of (PipeBytes pipe) = pipe % 64
bucket_of (PipeRoom pipe) = 63 - pipe % 64
bucket_of (Children pid) = pid

-- the channel of the list of this number
abbrev pub channel_of : List (Option Channel) → ℕ → Option Channel
channel_of channels list = slice_index_or channels list None

-- the groups of lists: 0 of those that are free, and for each bucket those of its channels that stand away from it
abbrev pub entry_key : ℕ → Option Channel → Option ℕ
entry_key list None = Some 0
entry_key list (Some channel) = if bucket_of channel == list then None else Some (1 + bucket_of channel)

-- the lists are grouped so
pub record AreChannels (channels : List (Option Channel)) (groups : List ℕ) : Type 0 where
  pub all : length channels ≡ PROCS
  pub keys : List (Option ℕ)
  pub grouped : AreGrouped 65 keys groups
  pub keyed : (list : ℕ) → list < PROCS → slice_index_or keys list None ≡ entry_key list (channel_of channels list)

-- the channel has this list: it had it before and nothing changed, or had none and got this one, which was free
abbrev pub IsClaimed : Channel → ℕ → List (Option Channel) → List (Option Channel) → Type 0
IsClaimed channel list old new =
    (list < PROCS)
    × (((channel_of old list ≡ Some channel) × (new ≡ old))
    ⊎ ((channel_of old list ≡ None) × ((other : ℕ) → channel_of old other ≢ Some channel) × (new ≡ slice_set old list (Some channel))))
