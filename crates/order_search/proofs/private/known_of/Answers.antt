use Rattle.std.proofs.Common.{◌≤◌, ℕ, sym, ap, subst, ◌∙◌}
use Rattle.user_calls.specs.declared.slots.CallKind.{CallKind}
use Rattle.user_calls.specs.Slots.{call_by, call_bytes}
use Rattle.fd_table.specs.Descriptors.{holders_in}
use Rattle.kernel_model.specs.Privately.{executes, dups, closes}
use Rattle.order_search.proofs.Looking.{some_value}
use Rattle.order_search.proofs.private.known_of.Goals as goal

pub returns-in-Exec : goal.returns-in-Exec
returns-in-Exec c = executes c.in-Exec.field-0 (c.kind.ensures ∙ ap (λ (k : CallKind). call_by k (call_bytes c.args.call.now)) c.in-Exec.is)

pub returns-then-is_some-2 : goal.returns-then-is_some-2
returns-then-is_some-2 c =
    let entry = some_value c.entry_of.result (sym c.is_some.ensures ∙ c.if-is_some.true) in
    let place = some_value c.lowest_free.result (sym c.is_some-then-is_some.ensures ∙ c.if-is_some-2.true) in
    dups c.in-Dup.fd entry.0 place.0 (c.kind.ensures ∙ ap (λ (k : CallKind). call_by k (call_bytes c.args.call.now)) c.in-Dup.is) (sym c.entry_of.ensures ∙ entry.1) (sym c.lowest_free.ensures ∙ place.1)

pub returns-then-holders_in-ge2 : goal.returns-then-holders_in-ge2
returns-then-holders_in-ge2 c =
    let enough : 2 ≤ holders_in c.args.places.now c.in-Some.entry = subst (λ (n : ℕ). 2 ≤ n) c.holders_in.ensures c.if-holders_in-ge2.true in
    closes c.in-Close.fd c.in-Some.entry (c.kind.ensures ∙ ap (λ (k : CallKind). call_by k (call_bytes c.args.call.now)) c.in-Close.is) (sym c.entry_of-in-Close.ensures ∙ c.in-Some.is) enough
