use Rattle.std.proofs.Common.{ap, ◌∙◌, sym}
use Rattle.closed_search.proofs.Growing.{set_unseen}
use Rattle.closed_search.proofs.searching.after_at.Goals as goal

pub returns-clause-same : goal.returns-clause-same
returns-clause-same g c = set_unseen g.T.Node.state c.args.pool.now.nodes.items c.args.place c.after.new.self c.index_mut.result.now c.requires.place (c.after.ensures.same ∙ ap g.T.Node.state c.index_mut.ensures.value)
