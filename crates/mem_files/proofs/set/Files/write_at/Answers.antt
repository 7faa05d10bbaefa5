-- The file that was there was written over.
use borrow.Author.Tests.{tests}
use Rattle.std.proofs.lemmas.Grind.{common_steps}
use Rattle.std.proofs.Common.{rules, arith, ◌≡◌, ◌<◌, ◌≤◌, length, set, Option, IsSomeAnd, Some, subst, ap, sym, ◌∙◌}
use Rattle.mem_files.specs.Name.{Bytes}
use Rattle.mem_files.specs.Files.{files, bytes_of}
use Rattle.mem_files.specs.Overlay.{written}
use Rattle.mem_files.specs.Listing.{Holds, max_size}
use Rattle.mem_files.specs.Place.{StandsAt}
use Rattle.mem_files.proofs.Places.{holds_changed, found_bytes}
use Rattle.mem_files.proofs.Kept.{kept_changed, small_file}
use Rattle.mem_files.proofs.Overlays.{length-written}
use Rattle.mem_files.proofs.set.Files.write_at.Goals as goal

pub invariant_of-self-2 : goal.invariant_of-self-2
invariant_of-self-2 g c =
    let list = c.self.inside.entries.items in
    let stands : StandsAt list c.args.name.now c.in-Some.found = subst (λ l. StandsAt l c.args.name.now c.in-Some.found) c.as_slice.ensures.value c.in-Some.ensures.found in
    let entry = c.index_mut-entry.result.now in
    let small : length entry.1 ≤ max_size = small_file list c.args.name.now entry.1 c.self.invariant (stands.found entry ∙ ap (λ f. Some f.1) (sym c.index_mut-entry.ensures.value)) in
    kept_changed list c.args.name.now c.in-Some.found entry c.write.new.self (written entry.1 c.args.at c.args.bytes.now)
    c.self.invariant stands c.index_mut-entry.ensures.value c.in_ok-write.ensures.ok
    (omega (arith, length-written entry.1 c.args.at c.args.bytes.now (omega (arith, ap length c.bytes.ensures)), ap length c.bytes.ensures))

pub returns-clause-holds : goal.returns-clause-holds
returns-clause-holds g c =
    let list = c.self.inside.entries.items in
    let stands : StandsAt list c.args.name.now c.in-Some.found = subst (λ l. StandsAt l c.args.name.now c.in-Some.found) c.as_slice.ensures.value c.in-Some.ensures.found in
    let entry = c.index_mut-entry.result.now in
    let is : files c.args.self.now c.args.name.now ≡ Some entry.1 = found_bytes list c.args.self.now c.args.name.now c.in-Some.found entry c.self.invariant.ascending c.self.view_is stands c.index_mut-entry.ensures.value in
    subst (λ (o : Option Bytes). Holds c.args.self.now (set list c.in-Some.found c.write.new.self) c.args.name.now (written (bytes_of o) c.args.at c.args.bytes.now)) (sym is)
    (holds_changed list c.args.self.now c.args.name.now c.in-Some.found entry
    c.self.invariant.ascending c.self.view_is stands c.index_mut-entry.ensures.value c.write.new.self (written entry.1 c.args.at c.args.bytes.now)
    c.in_ok-write.ensures.ok)

pub returns-clause-gap : goal.returns-clause-gap
returns-clause-gap g c =
    let list = c.self.inside.entries.items in
    let stands : StandsAt list c.args.name.now c.in-Some.found = subst (λ l. StandsAt l c.args.name.now c.in-Some.found) c.as_slice.ensures.value c.in-Some.ensures.found in
    let entry = c.index_mut-entry.result.now in
    let is : files c.args.self.now c.args.name.now ≡ Some entry.1 = found_bytes list c.args.self.now c.args.name.now c.in-Some.found entry c.self.invariant.ascending c.self.view_is stands c.index_mut-entry.ensures.value in (
      (λ e. absurd (cc)),
      λ h.
          let past : length entry.1 < c.args.at = subst (λ (o : Option Bytes). IsSomeAnd o (λ old. length old < c.args.at)) is h in
          absurd (omega (arith, ap length c.bytes.ensures)),
    )

pub invariant_of-self : goal.invariant_of-self
invariant_of-self g c = search (tests, rules, common_steps)

pub returns-then-at-bytes-clause-same : goal.returns-then-at-bytes-clause-same
returns-then-at-bytes-clause-same g c = search (tests, rules, common_steps)

pub invariant_of-self-then-bytes-at : goal.invariant_of-self-then-bytes-at
invariant_of-self-then-bytes-at g c = search (tests, rules, common_steps)

pub returns-then-bytes-at-clause-same : goal.returns-then-bytes-at-clause-same
returns-then-bytes-at-clause-same g c = search (tests, rules, common_steps)

pub invariant_of-self-in_err-write : goal.invariant_of-self-in_err-write
invariant_of-self-in_err-write g c = search (tests, rules, common_steps)

pub returns-in_err-write-clause-same : goal.returns-in_err-write-clause-same
returns-in_err-write-clause-same g c = search (tests, rules, common_steps)
