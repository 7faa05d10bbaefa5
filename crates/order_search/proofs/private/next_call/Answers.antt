use Rattle.std.proofs.Common.{subst}
use Rattle.user_calls.specs.declared.calls.Call.{Call}
use Rattle.order_search.specs.Shown.{IsNextCall}
use Rattle.order_search.proofs.private.next_call.Goals as goal

pub returns : goal.returns
returns g c = subst (λ (d : Call). IsNextCall c.args.places.now d c.known_of.result) c.ask.ensures.call c.known_of.ensures
