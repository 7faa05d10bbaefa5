-- A file that is there stays as it is.
use Rattle.std.proofs.Common.{subst, get_or, []}
use Rattle.std.proofs.lemmas.List.{get_or_default}
use Rattle.mem_files.specs.Place.{StandsAt}
use Rattle.mem_files.proofs.Places.{holds_same}
use Rattle.mem_files.proofs.set.Files.create.Goals as goal

pub returns-in-Some-clause-holds : goal.returns-in-Some-clause-holds
returns-in-Some-clause-holds g c =
    let list = c.self.inside.entries.items in
    let stands : StandsAt list c.args.name.now c.in-Some.field-0 = subst (λ l. StandsAt l c.args.name.now c.in-Some.field-0) c.as_slice.ensures.value c.in-Some.ensures.found in
    holds_same list c.args.self.now c.args.name.now c.in-Some.field-0 (get_or list c.in-Some.field-0 ([], []))
    c.self.invariant.ascending c.self.view_is stands (get_or_default list c.in-Some.field-0 ([], []) _ stands.within)
