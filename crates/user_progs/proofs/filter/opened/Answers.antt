-- The message begins with the program's name.
use Rattle.std.proofs.Common.{◌∙◌, ◌++◌, List, ℕ, [], ◌∷◌, ap, sym}
use Rattle.std.specs.Prelude.{codes}
use Rattle.user_calls.specs.declared.calls.Reply.{Reply}
use Rattle.user_progs.specs.Turn.{tells, opened_by, fd_in}
use Rattle.user_progs.specs.View.{filter_of_code}
use Rattle.user_progs.proofs.filter.opened.Goals as goal

pub returns-in-Refused : goal.returns-in-Refused
returns-in-Refused g c =
    let name = c.args.name.now in
    c.stays.ensures
    ∙ ap (λ (program : List ℕ). tells (program ++ (codes ": cannot open " ++ (name ++ 10 ∷ [])))) c.program_name.ensures
    ∙ sym (ap (λ (r : Reply). opened_by (filter_of_code c.args.filter) name c.args.later.now (fd_in r)) c.in-Refused.ensures)
