use Rattle.std.proofs.Common.{subst}
use Rattle.script_load.specs.Line.{lines_of}
use Rattle.xvsh_read.proofs.Faults.{at_fault}
use Rattle.xvsh_checks.specs.Room.{IsRoomFound, no_room_start, room_not_told}
use Rattle.xvsh_checks.proofs.rooms.run_find_room.Goals as goal

pub returns-in_err-start-clause-fault : goal.returns-in_err-start-clause-fault
returns-in_err-start-clause-fault g c =
    at_fault c.from_residual.result _ _ c.from_residual.ensures.1 (no_room_start c.in_err-start.ensures.fault)

pub returns-in_err-findings-clause-fault : goal.returns-in_err-findings-clause-fault
returns-in_err-findings-clause-fault g c =
    at_fault c.from_residual-in_err-findings.result _ _ c.from_residual-in_err-findings.ensures.1 room_not_told

pub returns-clause-ran : goal.returns-clause-ran
returns-clause-ran g c =
    let request = c.args.request.now in
    let start = c.in_ok-start.start in
    let lines = lines_of start.script.lines in
    let room = subst (λ s. IsRoomFound lines s start.files c.find_room-found.result) c.as_slice.ensures.value c.find_room-found.ensures in
    record {
      lines = lines;
      given = start.files;
      stdin = start.stdin.items;
      starts = c.in_ok-start.ensures.start;
      of_lines = c.in_ok-findings.ensures.found;
      room = room;
      fine = c.is_fine.ensures request.is_strict lines start.stdin.items start.files c.in_ok-findings.ensures.harmless room;
    }
