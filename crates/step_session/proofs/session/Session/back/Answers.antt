use Rattle.std.proofs.Common.{◌≡◌, ◌<◌, ◌≤◌, ◌-◌, ◌*◌, length, take, Err, refl, arith, rules}
use Rattle.std.specs.Prelude.{count_by}
use Rattle.proc_table.specs.Slots.{is_running}
use Rattle.kernel_model.proofs.Quiet.{one_run}
use Rattle.step_session.specs.declared.fault.BackFault.TheVariants.{Memory}
use Rattle.step_session.specs.Sessions.{AreTurns}
use Rattle.step_session.proofs.Adding.{fewer, long, nobody}
use Rattle.step_session.proofs.session.Session.back.Goals as goal

pub returns-in_default-clause-too_far : goal.returns-in_default-clause-too_far
returns-in_default-clause-too_far g c =
    let short : length c.args.self.now.schedule < 2 * c.args.turns = search rules in
    let turns : AreTurns c.args.self.now.schedule = search rules in
    (λ is. omega (arith, short, long c.args.self.now.schedule turns), λ few. refl)

pub returns-in_err-kernel-clause-too_far : goal.returns-in_err-kernel-clause-too_far
returns-in_err-kernel-clause-too_far g c =
    let within : 2 * c.args.turns ≤ length c.args.self.now.schedule = search rules in
    let turns : AreTurns c.args.self.now.schedule = search rules in
    let memory : c.from_residual.result ≡ Err Memory = search rules in
    (λ is. absurd (let z : ⊥ = cc in z), λ few. absurd (omega (arith, few, within, long c.args.self.now.schedule turns)))

pub invariant_of-self : goal.invariant_of-self
invariant_of-self g c =
    let new = c.in_ok-kernel.kernel in
    let turns : AreTurns c.args.self.now.schedule = search rules in
    let kept : new.schedule ≡ take (length c.args.self.now.schedule - 2 * c.args.turns) c.args.self.now.schedule = search rules in
    let ours : AreTurns new.schedule = fewer c.args.turns c.args.self.now.schedule new.schedule turns kept in
    record {
      begun = search rules;
      turns = ours;
      idle = nobody new.schedule (count_by is_running new.now.table) ours c.is_paired.ensures;
    }

pub returns-clause-state : goal.returns-clause-state
returns-clause-state g c = λ m notes runs quiet still.
    let new = c.in_ok-kernel.kernel in
    one_run g.M.Machine.call_of g.M.Machine.next_of new.boot new.now m new.schedule new.notes notes c.replays.ensures runs still quiet

pub returns-clause-too_far : goal.returns-clause-too_far
returns-clause-too_far g c =
    let within : 2 * c.args.turns ≤ length c.args.self.now.schedule = search rules in
    let turns : AreTurns c.args.self.now.schedule = search rules in
    (λ is. absurd (let z : ⊥ = cc in z), λ few. absurd (omega (arith, few, within, long c.args.self.now.schedule turns)))
