use Rattle.script_load.specs.Line.{lines_of}
use Rattle.embed.specs.Tells.{no_start, not_found, no_memory}
use Rattle.embed.proofs.Lines.{findings_of, harmless_of}
use Rattle.embed.proofs.rooms.room_check_of.Goals as goal

pub returns-in-Err-clause-fault : goal.returns-in-Err-clause-fault
returns-in-Err-clause-fault c = no_start c.in-Err.ensures.fault

pub returns-in-Err-find_of-clause-fault : goal.returns-in-Err-find_of-clause-fault
returns-in-Err-find_of-clause-fault c = not_found c.in-Err-find_of.ensures.fault

pub returns-in-Ok-room_result-clause-told : goal.returns-in-Ok-room_result-clause-told
returns-in-Ok-room_result-clause-told c =
    let task = c.args.task.now in
    let begun = c.in-Ok.begun in
    let lines = lines_of begun.script.lines in
    let found = c.in-Ok-find_of.findings in
    let starts = c.in-Ok.ensures.starts in
    record {
      lines = lines;
      given = begun.files;
      starts = starts;
      of_lines = findings_of task c.args.is_strict found lines c.in-Ok-find_of.ensures.found starts.cut;
      room = c.find_room-found.ensures;
      fine = c.is_fine.ensures c.args.is_strict lines task.stdin.now begun.files (harmless_of task c.args.is_strict found lines c.in-Ok-find_of.ensures.found starts.cut) c.find_room-found.ensures;
    }

pub returns-clause-fault : goal.returns-clause-fault
returns-clause-fault c = no_memory
