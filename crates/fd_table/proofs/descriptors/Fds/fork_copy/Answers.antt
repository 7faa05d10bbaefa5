use Rattle.std.proofs.Common.{◌≡◌, ◌<◌, Some, None, length, get_or, sym, ap, ◌∙◌, subst, arith}
use Rattle.std.proofs.lemmas.List.{get_or_default}
use Rattle.std.specs.Prelude.{All}
use Rattle.fd_table.specs.Entries.{Entries, held}
use Rattle.fd_table.specs.Descriptors.{Descriptors, all_held, HoldsInUse, CountsFit}
use Rattle.fd_table.proofs.Holding.{all_held-none, held_next, in_use_next, fits_next, held_next_none}
use Rattle.fd_table.proofs.descriptors.Fds.fork_copy.Goals as goal
use Rattle.fd_table.proofs.descriptors.Fds.fork_copy.Goals.{in-Some, in_default}

pub loop-place-init : goal.loop-place-init
loop-place-init c = sym (all_held-none c.args.files.now)

pub hold-requires-clause-in_use : goal.hold-requires-clause-in_use
hold-requires-clause-in_use c =
    let fds : Descriptors = c.self.inside.places in
    let i = c.loop-place.place-index in
    let within : i < length fds = omega arith in
    let is : get_or fds i None ≡ Some c.in-Some.entry = get_or_default fds i None c.place-item.result within ∙ c.in-Some.is in
    let P : Descriptors → Type 0 = λ table. All (HoldsInUse c.args.files.now) table in
    let in_use : All (HoldsInUse c.args.files.now) fds = subst P (sym c.self.view_is) c.requires.in_use in
    rw c.loop-place.invariant (in_use_next c.args.files.now fds i c.in-Some.entry within is (in_use i None within))

pub hold-requires-clause-fits : goal.hold-requires-clause-fits
hold-requires-clause-fits c =
    let fds : Descriptors = c.self.inside.places in
    let i = c.loop-place.place-index in
    let within : i < length fds = omega arith in
    let is : get_or fds i None ≡ Some c.in-Some.entry = get_or_default fds i None c.place-item.result within ∙ c.in-Some.is in
    let P : Descriptors → Type 0 = λ table. All (HoldsInUse c.args.files.now) table in
    let Q : Descriptors → Type 0 = λ table. CountsFit (all_held c.args.files.now table) in
    let in_use : All (HoldsInUse c.args.files.now) fds = subst P (sym c.self.view_is) c.requires.in_use in
    let fit : CountsFit (all_held c.args.files.now fds) = subst Q (sym c.self.view_is) c.requires.fits in
    rw c.loop-place.invariant (fits_next c.args.files.now fds i c.in-Some.entry within is (in_use i None within) fit)

pub loop-place-preserved : goal.loop-place-preserved
loop-place-preserved c =
    let fds : Descriptors = c.self.inside.places in
    let i = c.loop-place.place-index in
    let within : i < length fds = omega arith in
    elim c.match-place.branch [
      | in-Some w ↦ w.files-is ∙ w.hold.ensures ∙ ap (λ (t : Entries). held t w.in-Some.entry) c.loop-place.invariant ∙ held_next c.args.files.now fds i w.in-Some.entry within (get_or_default fds i None c.place-item.result within ∙ w.in-Some.is)
      | in_default w ↦ w.files-is ∙ c.loop-place.invariant ∙ held_next_none c.args.files.now fds i within (get_or_default fds i None c.place-item.result within ∙ w.in_default.is)
    ]
