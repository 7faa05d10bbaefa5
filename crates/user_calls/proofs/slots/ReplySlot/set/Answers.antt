-- A block's bytes are all among the first ones.
use Rattle.std.proofs.Common.{◌∙◌, List, ℕ, ap, sym}
use Rattle.std.proofs.lemmas.List.{take_all}
use Rattle.user_calls.specs.declared.calls.Reply.TheVariants.{Bytes}
use Rattle.user_calls.proofs.slots.ReplySlot.set.Goals as goal

pub returns-in-Bytes : goal.returns-in-Bytes
returns-in-Bytes c =
    c.read.ensures
    ∙ ap (λ (bytes : List ℕ). Bytes bytes) (rw c.as_slice.ensures.bytes (take_all 1024 c.in-Bytes.bytes c.as_slice.ensures.fits))
    ∙ sym c.in-Bytes.is
