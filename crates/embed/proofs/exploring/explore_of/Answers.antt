use Rattle.std.proofs.Common.{◌≡◌, ◌<◌, inl, inr, sym, subst, arith}
use Rattle.xvsh_explores.specs.declared.request.TheConstants.{MAX_STATES}
use Rattle.embed.specs.Explores.{IsExploreRefusal, bad_states, no_start, no_memory}
use Rattle.embed.proofs.Refused.{refused}
use Rattle.embed.proofs.exploring.explore_of.Goals as goal

pub returns-then-states-eq0-clause-fault : goal.returns-then-states-eq0-clause-fault
returns-then-states-eq0-clause-fault c =
    let none : c.args.states ≡ 0 = omega arith in
    bad_states (inl none)

pub returns-then-states-gt-MAX_STATES-clause-fault : goal.returns-then-states-gt-MAX_STATES-clause-fault
returns-then-states-gt-MAX_STATES-clause-fault c =
    let many : MAX_STATES < c.args.states = omega arith in
    bad_states (inr many)

pub returns-in-Err-clause-fault : goal.returns-in-Err-clause-fault
returns-in-Err-clause-fault c = no_start c.in-Err.ensures.fault

pub returns-in-Err-start_of-clause-fault : goal.returns-in-Err-start_of-clause-fault
returns-in-Err-start_of-clause-fault c =
    subst (IsExploreRefusal c.args.task.now c.args.states) (sym c.in-Err-start_of.ensures.fault) no_memory

pub returns-in-Err-explore_start-clause-fault : goal.returns-in-Err-explore_start-clause-fault
returns-in-Err-explore_start-clause-fault c =
    let task = c.args.task.now in
    subst (IsExploreRefusal task c.args.states) (sym c.of_explored.ensures) (refused task c.args.states c.in-Err-explore_start.fault c.in-Err-explore_start.ensures.fault)

pub returns-clause-fault : goal.returns-clause-fault
returns-clause-fault c = no_memory
