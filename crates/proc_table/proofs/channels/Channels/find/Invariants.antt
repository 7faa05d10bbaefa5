-- The channel's list, if it has one, is still in the set.
use Rattle.std.proofs.Common.{◌≡◌, ◌<◌, ℕ, List, Bool, Some, get_or, false, true}
use Rattle.slot_lists.specs.Sets.{HasFlags}
use Rattle.proc_table.specs.Channels.{channel_of}
use Rattle.proc_table.proofs.channels.Channels.find.Given as goal

abbrev pub invariant-loop-step : goal.invariant-loop-step
invariant-loop-step l =
    record {
      flags : List Bool;
      has : HasFlags l.away flags;
      left : (list : ℕ) → channel_of l.self list ≡ Some l.channel → get_or flags list false ≡ true;
      gone : (k : ℕ) → k < l._step → get_or flags k false ≡ false;
    }
