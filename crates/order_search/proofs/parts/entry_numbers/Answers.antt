use Rattle.std.proofs.Common.{◌≡◌, ℕ, List, [], None, arith, subst, sym, rules}
use Rattle.std.specs.Prelude.{replicate}
use Rattle.fd_table.specs.Entries.{Entries}
use Rattle.order_search.proofs.Numbering.{Numbering, numbering_first, numbering_next, numbering_last}
use Rattle.order_search.proofs.parts.entry_numbers.Goals as goal

pub loop-number-init : goal.loop-number-init
loop-number-init c =
    let t : c.new-scratch.result ≡ replicate 100 None = search rules in
    let n : c.new-numbers.result.items ≡ [] = search rules in
    subst (λ (xs : List ℕ). Numbering c.new-scratch.result xs 0) (sym n) (subst (λ (e : Entries). Numbering e [] 0) (sym t) numbering_first)

pub loop-number-preserved : goal.loop-number-preserved
loop-number-preserved c = numbering_next c.loop-number.scratch c.open_next.new.entries c.loop-number.numbers.items c.open_next.new.numbers.items c.loop-number._number (omega arith) c.loop-number.invariant c.in_ok-open_next.ensures

pub returns : goal.returns
returns c =
    let over : c.loop-number._number ≡ 100 = omega arith in
    numbering_last c.loop-number.scratch c.loop-number.numbers.items (subst (λ (n : ℕ). Numbering c.loop-number.scratch c.loop-number.numbers.items n) over c.loop-number.invariant)
