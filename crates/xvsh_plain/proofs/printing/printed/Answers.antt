use Rattle.std.proofs.Common.{◌∙◌, ap}
use Rattle.prog_parts.specs.NameSets.{among}
use Rattle.xvsh_read.specs.Listing.{list_text}
use Rattle.xvsh_plain.proofs.Runs.{soft_list, gives_list, gives_output}
use Rattle.xvsh_plain.proofs.printing.printed.Goals.{then-lists_files+in_ok-list, else-lists_files}
use Rattle.xvsh_plain.proofs.printing.printed.Goals as goal

pub returns-clause-meaning : goal.returns-clause-meaning
returns-clause-meaning c = λ value are out same soft.
    let list = c.args.outcome.files in
    elim c.if-lists_files.branch [
      | then-lists_files+in_ok-list w ↦
          gives_list value c.args.outcome.out _ _ out c.new.ensures.items c.args.lists_files list w.if-lists_files.true are same (ap (λ v. v.items) w.list-is ∙ w.in_ok-list.ensures ∙ ap (λ words. list_text (among words) list) w.as_slice.ensures ∙ soft_list c.args.outcome.soft value.soft list soft)
      | else-lists_files w ↦ gives_output value c.args.outcome.out _ _ out c.new.ensures.items c.args.lists_files w.if-lists_files.false (ap (λ v. v.items) w.list-is ∙ w.new-list.ensures.items)
    ]
