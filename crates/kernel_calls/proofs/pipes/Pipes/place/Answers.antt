use Rattle.std.proofs.Common.{sym, ap, ◌∙◌}
use Rattle.std.specs.Prelude.{position}
use Rattle.kernel_calls.specs.Indexed.{has_name}
use Rattle.kernel_calls.proofs.Names.{place_named}
use Rattle.kernel_calls.proofs.Places.{not_placed, placed_if}
use Rattle.kernel_calls.proofs.pipes.Pipes.place.Goals as goal

pub returns-clause-missing : goal.returns-clause-missing
returns-clause-missing g c = λ none.
    let at = place_named c.self.inside.index.items c.self.inside.live c.args.name in
    let is = c.place_of.ensures ∙ ap (position (has_name c.args.name)) c.deref.ensures.value in
    rw (← c.self.view_is) (not_placed _ c.args.name (at ∙ sym is ∙ none))

pub returns-clause-found : goal.returns-clause-found
returns-clause-found g c =
    let at = place_named c.self.inside.index.items c.self.inside.live c.args.name in
    let is = c.place_of.ensures ∙ ap (position (has_name c.args.name)) c.deref.ensures.value in
    rw (← c.self.view_is) (placed_if _ c.args.name c.place_of.result (is ∙ sym at))
