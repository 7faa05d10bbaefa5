use Rattle.std.proofs.Common.{List, ℕ, refl, ap, ◌∙◌, map}
use Rattle.kernel_model.specs.KernelState.{KernelState}
use Rattle.kernel_model.specs.Idle.{renamed_entry}
use Rattle.order_search.specs.Places.{place_among}
use Rattle.order_search.proofs.Leading.{key_by}
use Rattle.order_search.proofs.reading.Reader.read.Goals as goal

pub returns : goal.returns
returns g c =
    let S = g.row.M-State.Denot in
    let k : KernelState S = c.args.state.now in
    let names : List ℕ = c.as_slice-names.result.now in
    let v = c.state.view_is in
    key_by k _ names
    (c.as_slice-names.ensures.value ∙ c.in_ok-kept.ensures)
    c.in_ok-slots.ensures
    (c.in_ok-entries.ensures ∙ ap (λ (j : KernelState S). map (renamed_entry (place_among names)) j.entries) v)
    (c.in_ok-pipes-2.ensures ∙ c.in_ok-pipes.ensures)
    (c.in_ok-files.ensures ∙ ap (λ (j : KernelState S). j.files) v)
    (c.in_ok-input.ensures ∙ ap (λ (j : KernelState S). j.input) v)
    (c.in_ok-out.ensures ∙ c.deref.ensures.value ∙ ap (λ (j : KernelState S). j.out) v)
    (c.in_ok-diag.ensures ∙ c.deref-2.ensures.value ∙ ap (λ (j : KernelState S). j.diag) v)
    refl
    (ap (λ (j : KernelState S). j.full) v)
