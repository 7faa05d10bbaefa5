-- One entry more is the one that was kept.
use Rattle.std.proofs.Common.{◌≡◌, ℕ, ◌<◌, ◌∷◌, [], ◌++◌, Ok, None, true, length, get_or, refl, sym, ap, subst, ◌∙◌, map, take, arith, rules}
use Rattle.std.proofs.lemmas.List.{get_or_default, map_more, take_more}
use Rattle.fd_table.specs.Entries.{Entries, entry_at}
use Rattle.kernel_model.specs.Idle.{renamed_entry}
use Rattle.order_search.specs.Places.{place_among}
use Rattle.order_search.specs.Shown.{filled}
use Rattle.order_search.proofs.Filling.{at_filled, front_filled, length_filled, map_rest}
use Rattle.order_search.proofs.Numbering.{same_at}
use Rattle.order_search.proofs.unchanged.are_entries.Goals as goal

pub loop-number-preserved : goal.loop-number-preserved
loop-number-preserved c =
    let f = renamed_entry (place_among c.args.names.now) in
    let n : ℕ = c.loop-number.number in
    let kept = c.kept.inside.slots.items in
    let below : n < length c.args.numbers.now = search rules in
    let within : n < length c.args.entries.now = omega (arith, c.requires.numbers.within, below) in
    let all : length kept ≡ length c.args.numbers.now = search rules in
    let inside : n < length kept = omega (arith, all, below) in
    let longer = length_filled 100 kept in
    let there : n < length c.args.kept.now = subst (λ (xs : Entries). n < length xs) c.kept.view_is (omega (arith, longer, inside)) in
    let number : c.index-numbers-number.result ≡ n = c.index-numbers-number.is ∙ same_at c.args.numbers.now n c.index-numbers-number.result 0 below ∙ c.requires.numbers.each n below in
    let told : c.is_entry.result ≡ Ok true = search rules in
    let read : c.index.result.now ≡ f (entry_at c.args.entries.now c.index-numbers-number.result) = c.is_entry.ensures told in
    let at : get_or c.args.kept.now n None ≡ f (entry_at c.args.entries.now n) =
    sym (ap (λ (xs : Entries). get_or xs n None) c.kept.view_is) ∙ at_filled 100 kept n ∙ get_or_default kept n None c.index.result.now inside ∙ sym c.index.ensures
    ∙ read ∙ ap (λ (e : ℕ). f (entry_at c.args.entries.now e)) number in
    take_more c.args.kept.now n None there ∙ (λ i. c.loop-number.invariant i ++ at i ∷ []) ∙ sym (map_more f c.args.entries.now n None within)

pub returns : goal.returns
returns c = λ _.
    let f = renamed_entry (place_among c.args.names.now) in
    let kept = c.kept.inside.slots.items in
    let top = length c.args.numbers.now in
    let over : c.loop-number.number ≡ top = search rules in
    let all : length kept ≡ top = search rules in
    let front : take c.loop-number.number c.args.kept.now ≡ kept = ap (λ (xs : Entries). take c.loop-number.number xs) (sym c.kept.view_is) ∙ ap (λ (n : ℕ). take n (filled 100 kept)) (over ∙ sym all) ∙ front_filled 100 kept in
    sym c.kept.view_is ∙ ap (filled 100) (sym front ∙ c.loop-number.invariant ∙ ap (λ (n : ℕ). map f (take n c.args.entries.now)) over) ∙ map_rest f refl 100 top c.args.entries.now c.requires.all c.requires.numbers.free
