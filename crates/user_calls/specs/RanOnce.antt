-- What contracts see of a machine that was run once.
use Rattle.user_calls.specs.declared.calls.Reply.{Reply}

-- the state before the run, and the reply; the call and the state after it are functions of these
pub record RanOnce (S : Type 0) : Type 0 where
  pub before : S
  pub reply : Reply
