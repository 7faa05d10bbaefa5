use Rattle.std.proofs.Common.{[], ◌∷◌, ◌++◌, sym, subst}
use Rattle.xvsh_traces.specs.Lined.{IsLined, byte_lined}
use Rattle.xvsh_traces.proofs.diagnostics.add_byte.Goals as goal

pub returns : goal.returns
returns c diag is = subst (IsLined (diag ++ c.args.byte ∷ [])) (sym c.in_ok-push.ensures.items) (byte_lined c.args.byte (c.in_ok-is_marked.ensures diag is))
