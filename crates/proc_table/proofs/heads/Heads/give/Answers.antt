-- It runs where it ran.
use Rattle.std.proofs.Common.{None, subst, ◌∙◌, arith}
use Rattle.std.proofs.lemmas.List.{get_or_default}
use Rattle.proc_table.specs.Heads.{IsOnHart}
use Rattle.proc_table.proofs.heads.Heads.give.Goals as goal

pub put-requires-clause-on_hart : goal.put-requires-clause-on_hart
put-requires-clause-on_hart c =
    let heads = c.self.inside.heads in
    subst IsOnHart (get_or_default heads c.args.index None _ (omega (arith, c.self.invariant.queued.standing.all, c.requires)) ∙ c.in-Some.is) (c.self.invariant.on_harts c.args.index)
