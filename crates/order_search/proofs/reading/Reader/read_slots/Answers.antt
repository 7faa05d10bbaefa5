use Rattle.std.proofs.Common.{◌≡◌, ℕ, refl, ap, ◌∙◌, map, take, arith}
use Rattle.kernel_model.specs.Idle.{idle_slot}
use Rattle.order_search.specs.Places.{place_among}
use Rattle.order_search.specs.Shown.{filled}
use Rattle.order_search.proofs.Filling.{map_rest}
use Rattle.order_search.proofs.reading.Reader.read_slots.Goals as goal

pub returns : goal.returns
returns g c =
    let f = idle_slot {S = g.row.M-State.Denot} (place_among c.args.names.now) in
    let table = c.args.state.now.table in
    let top = c.slots_in_use-count.result in
    let over : c.loop-number.number ≡ top = omega (arith, c.loop-number-test.false, c.loop-number.auto.number-end) in
    ap (filled 64) c.loop-number.invariant ∙ ap (λ (n : ℕ). filled 64 (map f (take n table))) over ∙ map_rest f refl 64 top table c.requires.sound.slots c.slots_in_use-count.ensures.free
