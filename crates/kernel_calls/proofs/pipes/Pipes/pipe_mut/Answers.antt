-- Whatever the pipe becomes, it stands at the same place.
use Rattle.std.proofs.Common.{refl, sym}
use Rattle.kernel_calls.proofs.Listing.{within_index}
use Rattle.kernel_calls.proofs.Shown.{shown_at, shown_changed}
use Rattle.kernel_calls.proofs.pipes.Pipes.pipe_mut.Goals as goal

pub returns : goal.returns
returns g c =
    let index = c.self.inside.index.items in
    let live = c.self.inside.live in
    let within = within_index index live c.args.at (rw (← c.self.view_is) at c.requires) in (
      (refl, λ w. rw (← c.self.view_is) (shown_changed index live c.args.at c.index.result.now w c.self.invariant within c.index.ensures)),
      record { lends = tt; value = rw (← c.self.view_is) (sym (shown_at index live c.args.at c.index.result.now c.index_mut.result.now within c.index.ensures c.index_mut.ensures.value)) },
    )
