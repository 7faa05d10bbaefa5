-- By what the heads of a table are searched.
use Rattle.std.specs.Prelude.{ℕ, List, Option, map}
use Rattle.slot_lists.specs.Sets.{AreGrouped}
use Rattle.proc_table.specs.declared.heads.Head.{Head}
use Rattle.proc_table.specs.Heads.{IsOnHart, hart_key, head_at, parent_key, state_key}
use Rattle.proc_table.specs.Queues.{AreQueued, Queues}

-- the slots are grouped by their states, by their harts and by their parents, each that waits stands in its list, and
-- each process that runs does so on one of the eight harts
pub record AreSearched (heads : List (Option Head)) (states harts children : List ℕ) (queues : Queues) : Type 0 where
  pub by_state : AreGrouped 5 (map state_key heads) states
  pub by_hart : AreGrouped 8 (map hart_key heads) harts
  pub by_parent : AreGrouped 64 (map parent_key heads) children
  pub queued : AreQueued heads queues
  pub on_harts : (slot : ℕ) → IsOnHart (head_at heads slot)
