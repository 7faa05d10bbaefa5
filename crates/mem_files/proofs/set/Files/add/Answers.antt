-- The new file was put in at the place of its name.
use Rattle.std.proofs.Common.{arith, ap, ◌∙◌}
use Rattle.mem_files.specs.Files.{files}
use Rattle.mem_files.specs.Place.{place}
use Rattle.mem_files.proofs.Places.{holds_added}
use Rattle.mem_files.proofs.Kept.{kept_added}
use Rattle.mem_files.proofs.set.Files.add.Goals as goal

pub invariant_of-self-2 : goal.invariant_of-self-2
invariant_of-self-2 g c =
    kept_added c.self.inside.entries.items c.insert.new.self.items c.args.name.now c.args.bytes.now c.place-at.result c.in_ok-entry.entry
    c.self.invariant
    (ap (λ l. files l c.args.name.now) c.self.view_is ∙ c.requires.new)
    (c.place-at.ensures.place ∙ ap (λ l. place l c.args.name.now) c.as_slice.ensures.value)
    c.in_ok-entry.ensures c.in_ok-insert.ensures.items c.requires.good c.requires.small (omega arith)

pub returns-clause-holds : goal.returns-clause-holds
returns-clause-holds g c =
    holds_added c.self.inside.entries.items c.args.self.now c.insert.new.self.items c.args.name.now c.args.bytes.now c.place-at.result c.in_ok-entry.entry
    c.self.invariant.ascending c.self.view_is c.requires.new
    (c.place-at.ensures.place ∙ ap (λ l. place l c.args.name.now) c.as_slice.ensures.value)
    c.in_ok-entry.ensures c.in_ok-insert.ensures.items
