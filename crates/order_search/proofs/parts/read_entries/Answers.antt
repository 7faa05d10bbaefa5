use Rattle.std.proofs.Common.{◌≡◌, ℕ, ◌<◌, ◌∷◌, [], ◌++◌, None, length, refl, sym, ap, ◌∙◌, map, take, arith, rules}
use Rattle.std.proofs.lemmas.List.{map_more}
use Rattle.fd_table.specs.Entries.{entry_at}
use Rattle.kernel_model.specs.Idle.{renamed_entry}
use Rattle.order_search.specs.Places.{place_among}
use Rattle.order_search.specs.Shown.{filled}
use Rattle.order_search.proofs.Filling.{map_rest}
use Rattle.order_search.proofs.Numbering.{same_at}
use Rattle.order_search.proofs.parts.read_entries.Goals as goal

pub loop-number-preserved : goal.loop-number-preserved
loop-number-preserved c =
    let f = renamed_entry (place_among c.args.names.now) in
    let n : ℕ = c.loop-number.number in
    let below : n < length c.args.numbers.now = search rules in
    let within : n < length c.args.entries.now = omega (arith, c.requires.numbers.within, below) in
    let number : c.index-numbers-number.result ≡ n = c.index-numbers-number.is ∙ same_at c.args.numbers.now n c.index-numbers-number.result 0 below ∙ c.requires.numbers.each n below in
    let pushed : c.push_entry.new.slots.items ≡ c.loop-number.slots.items ++ c.in_ok-entry.entry ∷ [] = search rules in
    let read : c.in_ok-entry.entry ≡ f (entry_at c.args.entries.now c.index-numbers-number.result) = search rules in
    pushed ∙ (λ i. c.loop-number.invariant i ++ (read ∙ ap (λ (e : ℕ). f (entry_at c.args.entries.now e)) number) i ∷ []) ∙ sym (map_more f c.args.entries.now n None within)

pub returns : goal.returns
returns c =
    let f = renamed_entry (place_among c.args.names.now) in
    let top = length c.args.numbers.now in
    let over : c.loop-number.number ≡ top = search rules in
    c.of.ensures ∙ ap (filled 100) c.loop-number.invariant ∙ ap (λ (n : ℕ). filled 100 (map f (take n c.args.entries.now))) over ∙ map_rest f refl 100 top c.args.entries.now c.requires.all c.requires.numbers.free
