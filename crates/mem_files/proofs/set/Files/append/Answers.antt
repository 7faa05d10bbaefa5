-- The file that was there goes on with the bytes.
use borrow.Author.Tests.{tests}
use Rattle.std.proofs.lemmas.Grind.{common_steps}
use Rattle.std.proofs.Common.{rules, arith, ◌≡◌, ◌≤◌, ◌++◌, length, set, Option, Some, subst, ap, sym, ◌∙◌, length-append}
use Rattle.mem_files.specs.Name.{Bytes}
use Rattle.mem_files.specs.Files.{files, bytes_of}
use Rattle.mem_files.specs.Listing.{Holds, max_size}
use Rattle.mem_files.specs.Place.{StandsAt}
use Rattle.mem_files.proofs.Places.{holds_changed, found_bytes}
use Rattle.mem_files.proofs.Kept.{kept_changed, small_file}
use Rattle.mem_files.proofs.set.Files.append.Goals as goal

pub invariant_of-self-2 : goal.invariant_of-self-2
invariant_of-self-2 g c =
    let list = c.self.inside.entries.items in
    let stands : StandsAt list c.args.name.now c.in-Some.found = subst (λ l. StandsAt l c.args.name.now c.in-Some.found) c.as_slice.ensures.value c.in-Some.ensures.found in
    let entry = c.index_mut-entry.result.now in
    let small : length entry.1 ≤ max_size = small_file list c.args.name.now entry.1 c.self.invariant (stands.found entry ∙ ap (λ f. Some f.1) (sym c.index_mut-entry.ensures.value)) in
    kept_changed list c.args.name.now c.in-Some.found entry c.append.new.self (entry.1 ++ c.args.bytes.now)
    c.self.invariant stands c.index_mut-entry.ensures.value c.in_ok-append.ensures.ok
    (omega (arith, length-append entry.1 c.args.bytes.now, ap length c.bytes-size.ensures))

pub returns-clause-holds : goal.returns-clause-holds
returns-clause-holds g c =
    let list = c.self.inside.entries.items in
    let stands : StandsAt list c.args.name.now c.in-Some.found = subst (λ l. StandsAt l c.args.name.now c.in-Some.found) c.as_slice.ensures.value c.in-Some.ensures.found in
    let entry = c.index_mut-entry.result.now in
    let is : files c.args.self.now c.args.name.now ≡ Some entry.1 = found_bytes list c.args.self.now c.args.name.now c.in-Some.found entry c.self.invariant.ascending c.self.view_is stands c.index_mut-entry.ensures.value in
    subst (λ (o : Option Bytes). Holds c.args.self.now (set list c.in-Some.found c.append.new.self) c.args.name.now (bytes_of o ++ c.args.bytes.now)) (sym is)
    (holds_changed list c.args.self.now c.args.name.now c.in-Some.found entry
    c.self.invariant.ascending c.self.view_is stands c.index_mut-entry.ensures.value c.append.new.self (entry.1 ++ c.args.bytes.now)
    c.in_ok-append.ensures.ok)

pub invariant_of-self : goal.invariant_of-self
invariant_of-self g c = search (tests, rules, common_steps)

pub returns-then-bytes-size-clause-full_size : goal.returns-then-bytes-size-clause-full_size
returns-then-bytes-size-clause-full_size g c = search (tests, rules, common_steps)

pub returns-then-bytes-size-clause-same : goal.returns-then-bytes-size-clause-same
returns-then-bytes-size-clause-same g c = search (tests, rules, common_steps)

pub invariant_of-self-in_err-append : goal.invariant_of-self-in_err-append
invariant_of-self-in_err-append g c = search (tests, rules, common_steps)

pub returns-in_err-append-clause-same : goal.returns-in_err-append-clause-same
returns-in_err-append-clause-same g c = search (tests, rules, common_steps)

pub returns-in_err-append-clause-full_size : goal.returns-in_err-append-clause-full_size
returns-in_err-append-clause-full_size g c = grind (arith, common_steps)

pub returns-clause-size : goal.returns-clause-size
returns-clause-size g c = grind (arith, common_steps)

pub returns-clause-full_size : goal.returns-clause-full_size
returns-clause-full_size g c = grind (arith, common_steps)
