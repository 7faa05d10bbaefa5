use Rattle.std.proofs.Common.{List, map, sym, ◌∙◌}
use Rattle.std.proofs.lemmas.List.{length-map}
use Rattle.kernel_model.specs.KernelState.{KernelState}
use Rattle.order_search.specs.Led.{kernel_of}
use Rattle.order_search.proofs.ordering.explore_after.Goals as goal

pub returns-clause-explores : goal.returns-clause-explores
returns-clause-explores g c =
    let seen : List (KernelState g.row.M-State.Denot) = map kernel_of c.in_ok-found.found.nodes.items in
    record {
      start = c.in_ok-start.start.now;
      turns = c.in_ok-start.ensures;
      explores = record {
        seen = seen;
        reached = c.in_ok-found.ensures.reached;
        reduced = λ whole. c.in_ok-found.ensures.whole (sym c.in_ok-told.ensures.whole ∙ whole);
        tells = c.in_ok-told.ensures.tells;
        busy = c.in_ok-told.ensures.busy;
        asleep = c.in_ok-told.ensures.asleep;
        states = c.in_ok-told.ensures.states ∙ sym (length-map c.in_ok-found.found.nodes.items kernel_of);
      };
    }
