-- What contracts see of a seat, and how many events turns make.
use Rattle.std.specs.Prelude.{ℕ, zero, suc, List, [], ◌∷◌, ◌++◌, sum_by}
use Rattle.kernel_threads.specs.declared.sharing.Turn.{Turn}
use Rattle.kernel_threads.specs.declared.sharing.Turn.TheVariants.{Finished, Spent, Idle, Stepped, Lost}

-- the hart of a seat, and how many events its turns have made
pub record SeatView : Type 0 where
  pub hart : ℕ
  pub events : ℕ

-- how many events a turn makes: a dispatch and a trap, or the dispatch alone
abbrev pub events_of : Turn → ℕ
events_of Finished = 0
events_of Spent = 0
events_of Idle = 0
events_of Stepped = 2
events_of Lost = 1

-- how many events the turns of all these seats have made
abbrev pub all_events : List SeatView → ℕ
all_events seats = sum_by (λ seat. seat.events) seats

-- the seats of a run at its start: the i-th is that of hart i, and its turns have made no event
abbrev pub first_seats : ℕ → List SeatView
first_seats zero = []
first_seats (suc n) = first_seats n ++ record { hart = n; events = 0 } ∷ []
