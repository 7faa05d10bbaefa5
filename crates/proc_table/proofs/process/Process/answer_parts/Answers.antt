-- So few bytes are not cut.
use Rattle.std.proofs.Common.{◌≡◌, ◌∙◌, ◌≤◌, ◌++◌, length, length-append, ap, arith}
use Rattle.std.proofs.lemmas.List.{take_all}
use Rattle.user_calls.specs.Limits.{block_size}
use Rattle.user_calls.specs.Slots.{reply_longer}
use Rattle.user_calls.specs.declared.calls.Reply.{Reply}
use Rattle.user_calls.specs.declared.calls.Reply.TheVariants.{Bytes}
use Rattle.proc_table.specs.Slots.{Process}
use Rattle.proc_table.specs.Answers.{gone_on}
use Rattle.proc_table.proofs.process.Process.answer_parts.Goals as goal

pub returns : goal.returns
returns g c =
    let first = c.args.first.now in
    let second = c.args.second.now in
    let fits : length first ≤ block_size = omega (arith, c.requires) in
    let all : length (first ++ second) ≤ block_size = omega (arith, length-append first second, c.requires) in
    let read : c.read.new.self ≡ Bytes first = c.read.ensures ∙ ap Bytes (take_all block_size first fits) in
    let longer : c.append.new.self ≡ Bytes (first ++ second)
    = c.append.ensures ∙ ap (λ (r : Reply). reply_longer r second) read ∙ ap Bytes (take_all block_size (first ++ second) all) in
    ap (λ (p : Process g.row.M-State.Denot). record p { reply = c.append.new.self }) (c.self.view_is ∙ c.go_on.ensures)
    ∙ ap (λ (r : Reply). gone_on g.M.Machine.next_of r c.args.self.now) longer
