-- The name is compared with that of the file at its place, and with no other.
use Rattle.std.proofs.Common.{arith, []}
use Rattle.mem_files.proofs.Places.{stands, files_missed, alike, unlike}
use Rattle.mem_files.proofs.search.find.Goals as goal
use Rattle.mem_files.proofs.search.find.Goals.{else-at-entries-via-then-at-entries+else-eq, else-at-entries-via-else-at-entries}

pub returns-then-eq-clause-found : goal.returns-then-eq-clause-found
returns-then-eq-clause-found g c =
    let d = c.index-entries-at in
    stands c.args.entries.now c.args.name.now c.place-at.result d.result (omega arith) c.place-at.ensures.place
    (alike c.args.entries.now c.args.name.now c.name.result.now _ d.result c.name.ensures d.is c.eq.result c.if-eq.true c.eq.ensures)

pub returns-else-at-entries-clause-missed : goal.returns-else-at-entries-clause-missed
returns-else-at-entries-clause-missed g c =
    elim c.else-at-entries.branch [
      | else-at-entries-via-then-at-entries+else-eq w ↦ files_missed c.args.entries.now c.args.name.now w.index-entries-at.result c.requires
          (λ _. unlike c.args.entries.now c.args.name.now w.name.result.now _ w.index-entries-at.result w.name.ensures w.index-entries-at.is w.eq.result c.place-at.ensures.place w.if-eq.false w.eq.ensures)
      | else-at-entries-via-else-at-entries w ↦ files_missed c.args.entries.now c.args.name.now ([], []) c.requires (λ h. absurd (omega arith))
    ]
