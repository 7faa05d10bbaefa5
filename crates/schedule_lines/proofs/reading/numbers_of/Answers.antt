use Rattle.std.proofs.Common.{◌≡◌, ◌<◌, ◌^◌, ◌∷◌, ◌++◌, List, ℕ, arith, sym, ◌∙◌, subst}
use Rattle.std.specs.Fmt.{decimal}
use Rattle.std.proofs.lemmas.Fmt.{decimal_injective}
use Rattle.schedule_lines.specs.EventLines.{HasNoSpace, numbers_text}
use Rattle.schedule_lines.proofs.Numbers.{no_space, one_space, space_inside}
use Rattle.schedule_lines.proofs.reading.numbers_of.Goals as goal

-- what stands before the first space and after it are the two numbers
cut : (text first later : List ℕ) (hart pid : ℕ) → hart < 2 ^ 8 → HasNoSpace first → text ≡ first ++ 32 ∷ later → text ≡ numbers_text hart pid → (first ≡ decimal hart) × (later ≡ decimal pid)
cut text first later hart pid small none here is = one_space first later (decimal hart) (decimal pid) none (no_space hart (omega arith)) (sym here ∙ is)

pub returns-in_err-hart-clause-none : goal.returns-in_err-hart-clause-none
returns-in_err-hart-clause-none c =
    rw c.from_residual.ensures (λ hart pid small few is. space_inside (decimal hart) (decimal pid) (subst HasNoSpace is c.in_err-hart.ensures.none))

pub returns-in_err-hart-2-clause-none : goal.returns-in_err-hart-2-clause-none
returns-in_err-hart-2-clause-none c =
    rw c.from_residual-in_err-hart-2.ensures (λ hart pid small few is. c.in_err-hart-2.ensures.none hart (omega arith) (cut c.args.text.now c.in_ok-hart.hart.now c.in_ok-hart.pid.now hart pid small c.in_ok-hart.ensures.word c.in_ok-hart.ensures.some is).0)

pub returns-in_err-pid-clause-none : goal.returns-in_err-pid-clause-none
returns-in_err-pid-clause-none c =
    rw c.from_residual-in_err-pid.ensures (λ hart pid small few is. c.in_err-pid.ensures.none pid (omega (arith, few)) (cut c.args.text.now c.in_ok-hart.hart.now c.in_ok-hart.pid.now hart pid small c.in_ok-hart.ensures.word c.in_ok-hart.ensures.some is).1)

pub returns-then-hart-gt255-clause-none : goal.returns-then-hart-gt255-clause-none
returns-then-hart-gt255-clause-none c hart pid small few is =
    let first = (cut c.args.text.now c.in_ok-hart.hart.now c.in_ok-hart.pid.now hart pid small c.in_ok-hart.ensures.word c.in_ok-hart.ensures.some is).0 in
    let own : c.in_ok-hart-2.hart ≡ hart = decimal_injective c.in_ok-hart-2.hart hart (omega arith) (omega arith) (sym c.in_ok-hart-2.ensures.some ∙ first) in
    omega (arith, own, small, c.if-hart-gt255.true)

pub returns-then-pid-gt4294967295-clause-none : goal.returns-then-pid-gt4294967295-clause-none
returns-then-pid-gt4294967295-clause-none c hart pid small few is =
    let second = (cut c.args.text.now c.in_ok-hart.hart.now c.in_ok-hart.pid.now hart pid small c.in_ok-hart.ensures.word c.in_ok-hart.ensures.some is).1 in
    let own : c.in_ok-pid.pid ≡ pid = decimal_injective c.in_ok-pid.pid pid (omega arith) (omega (arith, few)) (sym c.in_ok-pid.ensures.some ∙ second) in
    omega (arith, own, few, c.if-pid-gt4294967295.true)
