use Rattle.std.proofs.Common.{sym, subst}
use Rattle.xvsh_ends.specs.Ends.{IsDue}
use Rattle.xvsh_ends.specs.Requests.{witnessed_asked}
use Rattle.xvsh_ends.proofs.Dues.{due_by}
use Rattle.xvsh_ends.proofs.explorations.written.Goals as goal

pub returns-in-Some : goal.returns-in-Some
returns-in-Some g c input file what due =
    subst (λ w. IsDue input file (witnessed_asked w what) c.written_at.result) (sym c.in-Some.is) (c.written_at.ensures input file what due)

pub returns-in-None : goal.returns-in-None
returns-in-None g c input file what due =
    subst (λ w. IsDue input file (witnessed_asked w what) c.prints.result) (sym c.in-None.is)
    (due_by input file what _ _ _ c.prints.result c.prints.ensures.out c.prints.ensures.told c.prints.ensures.status (due c.args.printed.text.items c.concluded-conclusion.result c.concluded-conclusion.ensures))
