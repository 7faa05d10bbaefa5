use Rattle.mem_files.specs.Files.{files}
use Rattle.script_mends.specs.Mended.{no_name}
use Rattle.script_mends.proofs.Chains.{mend_by}
use Rattle.script_mends.proofs.Found.{at_none, at_some}
use Rattle.script_mends.proofs.mending.mended_by.Goals as goal

pub returns-in-Some : goal.returns-in-Some
returns-in-Some c =
    let task = c.args.task.now in
    mend_by task.profile task.stdin.now (files task.files.now) c.mended_over.result (λ new. new.items) c.args.bytes.now c.args.reason.now c.in-Some.number c.requires
    (at_some _ _ c.in_ok-free.free _ c.in_ok-free.ensures c.in-Some.is).1 c.mended_over.ensures

pub returns-in-None : goal.returns-in-None
returns-in-None c = no_name c.requires (at_none _ _ c.in_ok-free.free c.in_ok-free.ensures c.in-None.is)
