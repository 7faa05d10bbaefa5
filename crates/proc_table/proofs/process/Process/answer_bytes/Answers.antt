-- So few bytes are not cut.
use Rattle.std.proofs.Common.{◌≡◌, ◌∙◌, ap}
use Rattle.std.proofs.lemmas.List.{take_all}
use Rattle.user_calls.specs.Limits.{block_size}
use Rattle.user_calls.specs.declared.calls.Reply.{Reply}
use Rattle.user_calls.specs.declared.calls.Reply.TheVariants.{Bytes}
use Rattle.proc_table.specs.Slots.{Process}
use Rattle.proc_table.specs.Answers.{gone_on}
use Rattle.proc_table.proofs.process.Process.answer_bytes.Goals as goal

pub returns : goal.returns
returns g c =
    let read : c.read.new.self ≡ Bytes c.args.bytes.now = c.read.ensures ∙ ap Bytes (take_all block_size c.args.bytes.now c.requires) in
    ap (λ (p : Process g.row.M-State.Denot). record p { reply = c.read.new.self }) (c.self.view_is ∙ c.go_on.ensures)
    ∙ ap (λ (r : Reply). gone_on g.M.Machine.next_of r c.args.self.now) read
