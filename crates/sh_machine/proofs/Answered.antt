-- What a reply leads to: a property of the turns that it may lead to, `exits` among them, is one of the turn that it does.
use Rattle.std.specs.Prelude.{codes}
use Rattle.user_calls.specs.declared.calls.Reply.{Reply}
use Rattle.user_calls.specs.declared.calls.Reply.TheVariants.{Start, Child, Done, Bytes, Fd, Ends, Refused}
use Rattle.sh_machine.specs.Turn.{Turn, exits, tells, on_done, on_fd, on_fork, on_unknown}

module _ (P : Turn → Type 0) (exit : P exits) where
  pub by_done : (reply : Reply) (then : Turn) → P then → P (on_done reply then)
  by_done Start then p = exit
  by_done Child then p = exit
  by_done Done then p = p
  by_done (Bytes bytes) then p = exit
  by_done (Fd fd) then p = exit
  by_done (Ends reader writer) then p = exit
  by_done Refused then p = exit

  pub by_fd : (reply : Reply) (then refused : Turn) → P then → P refused → P (on_fd reply then refused)
  by_fd Start then refused p q = exit
  by_fd Child then refused p q = exit
  by_fd Done then refused p q = exit
  by_fd (Bytes bytes) then refused p q = exit
  by_fd (Fd fd) then refused p q = p
  by_fd (Ends reader writer) then refused p q = exit
  by_fd Refused then refused p q = q

  pub by_fork : (reply : Reply) (parent child : Turn) → P parent → P child → P (tells (codes "fork\n")) → P (on_fork reply parent child)
  by_fork Start parent child p q told = exit
  by_fork Child parent child p q told = q
  by_fork Done parent child p q told = p
  by_fork (Bytes bytes) parent child p q told = exit
  by_fork (Fd fd) parent child p q told = exit
  by_fork (Ends reader writer) parent child p q told = exit
  by_fork Refused parent child p q told = told

  pub by_unknown : (reply : Reply) (then : Turn) → P then → P (on_unknown reply then)
  by_unknown Start then p = exit
  by_unknown Child then p = exit
  by_unknown Done then p = exit
  by_unknown (Bytes bytes) then p = exit
  by_unknown (Fd fd) then p = exit
  by_unknown (Ends reader writer) then p = exit
  by_unknown Refused then p = p
