use Rattle.std.proofs.Common.{inl, inr, refl, sym, subst}
use Rattle.xvsh_explores.specs.Explores.{IsExploringFault}
use Rattle.xvsh_ends.specs.Ends.{IsDue, not_explored}
use Rattle.xvsh_ends.specs.Requests.{explore_alone_asked, explore_plainly_asked, paired_asked}
use Rattle.xvsh_ends.proofs.Dues.{due_paired, due_told}
use Rattle.xvsh_ends.proofs.unpaired.report_exploring.Goals as goal

pub returns-in-Common : goal.returns-in-Common
returns-in-Common c input file why =
    let request = c.args.request.now in
    due_told input file (explore_plainly_asked request) _ _ c.report_fault.result c.report_fault.ensures
    (due_paired input file (explore_alone_asked request) request.pair _ _ _
    (not_explored c.in-Common.common (subst (IsExploringFault input file request.source.script.now request.source.files.now request.pair) c.in-Common.is why)))

pub returns-in-NoPair : goal.returns-in-NoPair
returns-in-NoPair c input file why =
    let request = c.args.request.now in
    let named = subst (IsExploringFault input file request.source.script.now request.source.files.now request.pair) c.in-NoPair.is why in
    subst (λ word. IsDue input file (paired_asked word (explore_alone_asked request)) c.report_unpaired.result) (sym named) (c.report_unpaired.ensures input file (explore_alone_asked request) _ (inl refl))

pub returns-in-NoOutcome : goal.returns-in-NoOutcome
returns-in-NoOutcome c input file why =
    let request = c.args.request.now in
    let named = subst (IsExploringFault input file request.source.script.now request.source.files.now request.pair) c.in-NoOutcome.is why in
    subst (λ word. IsDue input file (paired_asked word (explore_alone_asked request)) c.report_unpaired-in-NoOutcome.result) (sym named) (c.report_unpaired-in-NoOutcome.ensures input file (explore_alone_asked request) _ (inr refl))
