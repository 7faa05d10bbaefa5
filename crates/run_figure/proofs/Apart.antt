-- No two lanes are of one process.
use Rattle.std.proofs.Common.{◌≡◌, ◌≢◌, ℕ, ◌<◌, List, [], ◌∷◌, ◌++◌, Option, Some, None, arith, ap}
use Rattle.std.specs.Prelude.{All, option_map}
use Rattle.std.specs.List.{filter_map, cons_option}
use Rattle.std.proofs.lemmas.List.Elements.{All-nil, All-cons, All-weaker}
use Rattle.std.proofs.lemmas.List.Kept.{AllPairs-cons}
use Rattle.trace_read.specs.declared.trace.Event.{Event}
use Rattle.trace_read.specs.declared.trace.Process.{Process}
use Rattle.run_figure.specs.Figure.{lane_of, lane_for, child_of, first_lane, first_lanes, AreApart, Rise}
use Rattle.run_figure.specs.declared.figure.Lane.{Lane}

abbrev Differs : Lane → Lane → Type 0
Differs one later = one.process ≢ later.process

abbrev IsBornAbove : ℕ → Lane → Type 0
IsBornAbove number lane = number < lane.process.born

above_made : (number : ℕ) (event : Event) (made : Option ℕ) (lanes : List Lane) → number < event.number → All (IsBornAbove number) lanes → All (IsBornAbove number) (cons_option (option_map (lane_for event) made) lanes)
above_made number event None lanes lt rest = rest
above_made number event (Some pid) lanes lt rest = All-cons (IsBornAbove number) (lane_for event pid) lanes lt rest

above : (number : ℕ) (events : List Event) → Rise number events → All (IsBornAbove number) (filter_map lane_of events)
unfolding lane_of
above number [] rise = All-nil (IsBornAbove number)
above number (event ∷ events) rise =
    let first : number < event.number = rise.0 in
    above_made number event (child_of event.trap) (filter_map lane_of events) first
    (All-weaker (IsBornAbove event.number) (IsBornAbove number) (λ lane later. omega arith) (filter_map lane_of events) (above event.number events rise.1))

later_differs : (number pid : ℕ) (lane : Lane) → number < lane.process.born → record { pid = pid; born = number } ≢ lane.process
later_differs number pid lane later same =
    let is : number ≡ lane.process.born = ap (λ (p : Process). p.born) same in
    omega arith

apart_made : (event : Event) (made : Option ℕ) (lanes : List Lane) → All (IsBornAbove event.number) lanes → AreApart lanes → AreApart (cons_option (option_map (lane_for event) made) lanes)
apart_made event None lanes later rest = rest
apart_made event (Some pid) lanes later rest =
    AllPairs-cons Differs (lane_for event pid) lanes (All-weaker (IsBornAbove event.number) (Differs (lane_for event pid)) (later_differs event.number pid) lanes later) rest

apart : (number : ℕ) (events : List Event) → Rise number events → AreApart (filter_map lane_of events)
unfolding lane_of
apart number [] rise = λ i j d lt within. absurd (omega arith)
apart number (event ∷ events) rise =
    apart_made event (child_of event.trap) (filter_map lane_of events) (above event.number events rise.1) (apart event.number events rise.1)

below_differs : (m n : ℕ) → m ≡ n → m < n → ⊥
below_differs m n is lt = omega arith

zero_differs : (first_lane 0).process ≢ (first_lane 1).process
zero_differs same = below_differs 0 1 (ap (λ (p : Process). p.pid) same) (omega arith)

pub all_apart : (events : List Event) → Rise 0 events → AreApart (first_lanes ++ filter_map lane_of events)
all_apart events rise =
    let made = filter_map lane_of events in
    let later = above 0 events rise in
    let differs = λ (pid : ℕ). All-weaker (IsBornAbove 0) (Differs (first_lane pid)) (later_differs 0 pid) made later in
    AllPairs-cons Differs (first_lane 0) (first_lane 1 ∷ made) (All-cons (Differs (first_lane 0)) (first_lane 1) made zero_differs (differs 0))
    (AllPairs-cons Differs (first_lane 1) made (differs 1) (apart 0 events rise))
