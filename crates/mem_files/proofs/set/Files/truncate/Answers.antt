-- The file that was there was given no bytes.
use Rattle.std.proofs.Common.{arith, subst, ap, ◌∙◌, []}
use Rattle.mem_files.specs.Place.{StandsAt}
use Rattle.mem_files.proofs.Places.{holds_changed}
use Rattle.mem_files.proofs.Kept.{kept_changed}
use Rattle.mem_files.proofs.set.Files.truncate.Goals as goal

pub invariant_of-self : goal.invariant_of-self
invariant_of-self g c =
    kept_changed c.self.inside.entries.items c.args.name.now c.in-Some.at c.index_mut.result.now c.replace.new.self []
    c.self.invariant
    (subst (λ l. StandsAt l c.args.name.now c.in-Some.at) c.as_slice.ensures.value c.in-Some.ensures.found)
    c.index_mut.ensures.value
    (c.replace.ensures ∙ ap (λ b. (c.index_mut.result.now.0, b)) c.new-empty.ensures.items)
    (omega arith)

pub returns-clause-holds : goal.returns-clause-holds
returns-clause-holds g c =
    holds_changed c.self.inside.entries.items c.args.self.now c.args.name.now c.in-Some.at c.index_mut.result.now
    c.self.invariant.ascending c.self.view_is
    (subst (λ l. StandsAt l c.args.name.now c.in-Some.at) c.as_slice.ensures.value c.in-Some.ensures.found)
    c.index_mut.ensures.value c.replace.new.self []
    (c.replace.ensures ∙ ap (λ b. (c.index_mut.result.now.0, b)) c.new-empty.ensures.items)
