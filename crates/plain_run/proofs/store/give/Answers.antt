use Rattle.std.proofs.Common.{ap, Err, inl}
use Rattle.plain_run.proofs.Full.{no_room}
use Rattle.plain_run.proofs.store.give.Goals as goal

pub returns-in-Err-FullFiles-clause-large : goal.returns-in-Err-FullFiles-clause-large
returns-in-Err-FullFiles-clause-large g c =
    inl (no_room c.args.store.now c.args.name.now c.are_files.ensures (c.in-Err-FullFiles.ensures.full_files.0 (ap Err c.in-Err-FullFiles.field-0-is)).2)
