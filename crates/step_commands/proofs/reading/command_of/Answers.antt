use Rattle.std.proofs.Common.{◌≡◌, ℕ, List, [], sym, subst, arith}
use Rattle.std.proofs.lemmas.Grind.{common_steps}
use Rattle.std.specs.Prelude.{Result, Ok, Err, IfOk}
use Rattle.step_commands.specs.Lines.{IsCut}
use Rattle.step_commands.specs.declared.command.Command.{Command}
use Rattle.step_commands.specs.Commands.{Spells, SpellsOut, spelled}
use Rattle.step_commands.proofs.reading.command_of.Goals as goal

if_ok : {X E : Type 0} (P Q : X → Type 0) (r : Result X E) → ((x : X) → P x → Q x) → IfOk r P → IfOk r Q
if_ok P Q (Ok x) on is = on x is
if_ok P Q (Err e) on is = is

spells : (line a b c r1 r2 r3 left : List ℕ) → IsCut line a r1 → IsCut r1 b r2 → IsCut r2 c r3 → IsCut r3 [] left → (command : Command) → Spells command (a, b, c) → SpellsOut line (spelled command)
spells line a b c r1 r2 r3 left first second third last command is = record {
  word = a;
  stands = is.0;
  after_first = r1;
  after_second = r2;
  after_third = r3;
  left = left;
  first = first;
  second = subst (λ (w : List ℕ). IsCut r1 w r2) (sym is.1) second;
  third = subst (λ (w : List ℕ). IsCut r2 w r3) (sym is.2) third;
  last = last;
}

pub returns-then-is_empty-clause-ok : goal.returns-then-is_empty-clause-ok
returns-then-is_empty-clause-ok c =
    let line = c.args.line.now in
    let a = c.cut.result.0.now in
    let b = c.cut-2.result.0.now in
    let third = c.cut-3.result.0.now in
    let r3 = c.cut-3.result.1.now in
    let left = c.cut-4.result.1.now in
    let none : c.cut-4.result.0.now ≡ [] = grind (arith, common_steps) in
    let last : IsCut r3 [] left = subst (λ (w : List ℕ). IsCut r3 w left) none c.cut-4.ensures in
    if_ok (λ command. Spells command (a, b, third)) (λ command. SpellsOut line (spelled command)) c.read.result (spells line a b third c.cut.result.1.now c.cut-2.result.1.now r3 left c.cut.ensures c.cut-2.ensures c.cut-3.ensures last) c.read.ensures.ok
