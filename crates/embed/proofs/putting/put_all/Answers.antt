use Rattle.std.proofs.Common.{[], sym, subst, arith}
use Rattle.embed.specs.declared.task.Given.{Given}
use Rattle.embed.specs.Starting.{ArePut, none_put}
use Rattle.embed.proofs.FilesPut.{put_more, stopped}
use Rattle.embed.proofs.putting.put_all.Goals as goal

abbrev nothing : Given
nothing = record { name = record { ref_ptr = (0, 0); now = [] }; bytes = record { ref_ptr = (0, 0); now = [] } }

pub loop-i-init : goal.loop-i-init
loop-i-init g c = subst (ArePut []) (sym c.new-store.ensures) none_put

pub returns-in-Err-clause-fault : goal.returns-in-Err-clause-fault
returns-in-Err-clause-fault g c =
    stopped c.args.given.now c.loop-i.i nothing (omega arith) c.loop-i.store c.loop-i.invariant c.in-Err.fault (omega arith) (c.in-Err.ensures.fault)

pub loop-i-preserved : goal.loop-i-preserved
loop-i-preserved g c =
    put_more c.args.given.now c.loop-i.i nothing (omega arith) c.loop-i.store c.loop-i.invariant c.put_file.new.store c.in_default.ensures.new c.in_default.ensures.put
