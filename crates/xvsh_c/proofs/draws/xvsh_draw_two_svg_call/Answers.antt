use Rattle.std.proofs.Common.{inl}
use Rattle.xvsh_c.proofs.draws.xvsh_draw_two_svg_call.Goals as goal

pub returns-in-Ok : goal.returns-in-Ok
returns-in-Ok c = inl (c.in-Ok.answered, c.in-Ok.ensures.ran, c.in-Ok.ensures.both, c.put_drawn.ensures)
