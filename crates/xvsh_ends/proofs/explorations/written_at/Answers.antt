use borrow.Author.Tests.{tests}
use Rattle.std.proofs.lemmas.Grind.{common_steps}
use Rattle.std.proofs.Common.{rules, sym, subst}
use Rattle.std.specs.Prelude.{string_bytes}
use Rattle.xvsh_ends.specs.Ends.{IsOfWitness, asks_witnessed, witnessed, unwitnessed, untraced_told}
use Rattle.xvsh_ends.proofs.Dues.{due_by, due_told, due_memory}
use Rattle.xvsh_ends.proofs.explorations.written_at.Goals as goal

pub returns-in-Ok : goal.returns-in-Ok
returns-in-Ok g c input file what due =
    due_by input file (asks_witnessed what c.args.folder.now) _ _ _ c.prints.result c.prints.ensures.out c.prints.ensures.told c.prints.ensures.status (witnessed (due c.args.printed.text.items c.concluded-conclusion.result c.concluded-conclusion.ensures))

pub returns-in-Err-Unwritten : goal.returns-in-Err-Unwritten
returns-in-Err-Unwritten g c input file what due =
    let of : IsOfWitness c.args.folder.now (string_bytes c.in-Err-Unwritten.place) = search (tests, rules, common_steps) in
    due_told input file (asks_witnessed what c.args.folder.now) (untraced_told c.as_str.result.now) 1 c.report_untraced.result c.report_untraced.ensures (unwitnessed (subst (IsOfWitness c.args.folder.now) (sym c.as_str.ensures.value) of))

pub returns : goal.returns
returns g c input file what due =
    due_memory input file (asks_witnessed what c.args.folder.now) c.report_no_memory.result c.report_no_memory.ensures
