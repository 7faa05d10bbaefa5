use Rattle.std.proofs.Common.{ap, Err}
use Rattle.plain_run.proofs.Full.{no_room}
use Rattle.plain_run.proofs.output.open_kept.Goals as goal

pub returns-in-Err-FullFiles-clause-full : goal.returns-in-Err-FullFiles-clause-full
returns-in-Err-FullFiles-clause-full g c =
    no_room c.args.store.now c.args.name.now c.are_files.ensures (c.in-Err-FullFiles.ensures.full_files.0 (ap Err c.in-Err-FullFiles.field-0-is)).1
