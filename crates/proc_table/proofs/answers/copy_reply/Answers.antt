-- A reply has no more bytes than a block.
use Rattle.std.proofs.Common.{List, ℕ, take, sym, ap, ◌∙◌}
use Rattle.std.proofs.lemmas.List.{take_all}
use Rattle.user_calls.specs.Limits.{block_size}
use Rattle.user_calls.specs.declared.calls.Reply.TheVariants.{Bytes}
use Rattle.user_calls.specs.declared.slots.ReplyKind.{ReplyKind}
use Rattle.user_calls.specs.Slots.{reply_by, reply_bytes}
use Rattle.proc_table.proofs.answers.copy_reply.Goals as goal

pub returns-in-Bytes : goal.returns-in-Bytes
returns-in-Bytes c =
    let bytes = reply_bytes c.args.other.now in
    c.read.ensures ∙ ap (λ (bs : List ℕ). Bytes (take block_size bs)) c.bytes.ensures.bytes ∙ ap (λ (bs : List ℕ). Bytes bs) (take_all block_size bytes c.bytes.ensures.fits)
    ∙ sym (c.kind.ensures ∙ ap (λ (k : ReplyKind). reply_by k bytes) c.in-Bytes.is)
