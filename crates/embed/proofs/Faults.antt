-- What the exit of a `?` returns: the callee's fault.
use Rattle.std.proofs.Common.{◌≡◌, Result, Ok, Err, subst, sym}
use Rattle.std.specs.Prelude.{IfErr, IsErrAnd}

pub at_fault : {T E : Type 0} (result : Result T E) (fault : E) (P : E → Type 0) → IsErrAnd result (λ e. e ≡ fault) → P fault → IfErr result P
at_fault (Ok _) fault P is due = absurd is
at_fault (Err e) fault P is due = subst P (sym is) due
