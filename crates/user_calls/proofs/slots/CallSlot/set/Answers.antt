-- A block's bytes are all among the first ones.
use Rattle.std.proofs.Common.{◌∙◌, List, ℕ, ap, sym}
use Rattle.std.proofs.lemmas.List.{take_all}
use Rattle.user_calls.specs.declared.calls.Call.TheVariants.{Write, OpenFile}
use Rattle.user_calls.proofs.slots.CallSlot.set.Goals as goal

pub returns-in-Write : goal.returns-in-Write
returns-in-Write c =
    c.write.ensures
    ∙ ap (λ (bytes : List ℕ). Write c.in-Write.fd bytes) (rw c.as_slice.ensures.bytes (take_all 1024 c.in-Write.bytes c.as_slice.ensures.fits))
    ∙ sym c.in-Write.is

pub returns-in-OpenFile : goal.returns-in-OpenFile
returns-in-OpenFile c =
    c.open_file.ensures
    ∙ ap (λ (name : List ℕ). OpenFile name c.in-OpenFile.mode) (rw c.as_slice-in-OpenFile.ensures.bytes (take_all 1024 c.in-OpenFile.name c.as_slice-in-OpenFile.ensures.fits))
    ∙ sym c.in-OpenFile.is
