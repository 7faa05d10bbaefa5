-- What a process does with the reply to a quiet call: what it had is enough for that, too.
use Rattle.std.proofs.Common.{◌≡◌, ℕ, ◌≤◌, List, [], ◌∷◌, codes, subst, refl, arith}
use Rattle.sh_tree.specs.Tree.{Tree}
use Rattle.script_load.specs.declared.profile.Profile.{Profile}
use Rattle.script_load.specs.Line.{ScriptLine}
use Rattle.user_calls.specs.declared.calls.Call.{Call}
use Rattle.user_calls.specs.declared.calls.Reply.{Reply}
use Rattle.user_calls.specs.declared.calls.Reply.TheVariants.{Start, Child, Done, Bytes as Bytes', Fd, Ends, Refused}
use Rattle.sh_machine.specs.declared.state.Phase.{Phase}
use Rattle.sh_machine.specs.declared.state.Phase.TheVariants.{Starts, Forks, Waits, ToldCd}
use Rattle.sh_machine.specs.declared.state.Side.{Side}
use Rattle.sh_machine.specs.declared.state.Side.TheVariants.{Closes, Dups, ClosesReader, ClosesWriter}
use Rattle.sh_machine.specs.State.{Parent, Shell, top, unknown, closes_old, opens_file, forks_left, waits_left, pipes, side, forks_back, told, ended, User, init, shell, program}
use Rattle.sh_machine.specs.Turn.{Turn, exits, on_done, on_fd, on_unknown, shell_turn, top_turn, side_turn}
use Rattle.process_model.specs.Seen.{Fds, act_of}
use Rattle.law_limits.proofs.behind.Trees.{Enough}
use Rattle.law_limits.proofs.behind.Fits.{IsQuiet, UserFits, ShellFits, TopFits, ActFits, TurnFits, exits_fit, failed_fit, runs_fit, takes_fit}
use Rattle.law_limits.proofs.behind.ProgramCalls.{own_quiet, program_calls}

-- a call that forks, waits, ends the process or makes a pipe isn't quiet
pub loud : (call other : Call) → call ≡ other → IsQuiet call → (IsQuiet other → ⊥) → ⊥
loud call other is quiet none = none (subst IsQuiet is quiet)

module _ (profile : Profile) (w g owed kids : ℕ) (d e : Fds) where
  abbrev Then : Turn → Type 0
  Then turn = TurnFits profile w g owed kids e turn

  done_fit : (reply : Reply) (turn : Turn) → g ≤ w → Then turn → Then (on_done reply turn)
  done_fit Start turn less then = exits_fit profile w g owed kids e less
  done_fit Child turn less then = exits_fit profile w g owed kids e less
  done_fit Done turn less then = then
  done_fit (Bytes' bytes) turn less then = exits_fit profile w g owed kids e less
  done_fit (Fd fd) turn less then = exits_fit profile w g owed kids e less
  done_fit (Ends reader writer) turn less then = exits_fit profile w g owed kids e less
  done_fit Refused turn less then = exits_fit profile w g owed kids e less

  fd_fit : (reply : Reply) (turn other : Turn) → g ≤ w → Then turn → Then other → Then (on_fd reply turn other)
  fd_fit Start turn other less then else = exits_fit profile w g owed kids e less
  fd_fit Child turn other less then else = exits_fit profile w g owed kids e less
  fd_fit Done turn other less then else = exits_fit profile w g owed kids e less
  fd_fit (Bytes' bytes) turn other less then else = exits_fit profile w g owed kids e less
  fd_fit (Fd fd) turn other less then else = then
  fd_fit (Ends reader writer) turn other less then else = exits_fit profile w g owed kids e less
  fd_fit Refused turn other less then else = else

  unknown_fit : (reply : Reply) (turn : Turn) → g ≤ w → Then turn → Then (on_unknown reply turn)
  unknown_fit Start turn less then = exits_fit profile w g owed kids e less
  unknown_fit Child turn less then = exits_fit profile w g owed kids e less
  unknown_fit Done turn less then = exits_fit profile w g owed kids e less
  unknown_fit (Bytes' bytes) turn less then = exits_fit profile w g owed kids e less
  unknown_fit (Fd fd) turn less then = exits_fit profile w g owed kids e less
  unknown_fit (Ends reader writer) turn less then = exits_fit profile w g owed kids e less
  unknown_fit Refused turn less then = then

  enough : (t : Tree) → Enough t w g → g ≤ w
  enough t is = omega (arith, is.gives)

  side_fit : (at : Side) (t : Tree) (reply : Reply) → kids ≡ 0 → Enough t w g → Then (side_turn at t reply)
  side_fit (Closes kept reader writer) t reply none is = done_fit reply _ (enough t is) (tt, (none, is))
  side_fit (Dups reader writer) t reply none is = fd_fit reply _ exits (enough t is) (tt, (none, is)) (exits_fit profile w g owed kids e (enough t is))
  side_fit (ClosesReader writer) t reply none is = done_fit reply _ (enough t is) (tt, (none, is))
  side_fit ClosesWriter t reply none is = done_fit reply _ (enough t is) (runs_fit profile w g owed kids e t none is)

  module _ (call : Call) (quiet : IsQuiet call) where
    top_fit : (phase : Phase) (lines : List ScriptLine) (reply : Reply) → TopFits w g owed kids call d phase lines → Then (top_turn phase lines reply)
    top_fit Starts lines reply fits = absurd fits
    top_fit Forks [] reply fits = absurd fits
    top_fit Forks (line ∷ later) reply fits = absurd (loud call _ fits.0 quiet (λ z. z))
    top_fit Waits [] reply fits = absurd fits
    top_fit Waits (line ∷ later) reply fits = absurd (loud call _ fits.0 quiet (λ z. z))
    top_fit ToldCd [] reply fits = absurd fits
    top_fit ToldCd (line ∷ later) reply fits = takes_fit profile w g owed kids e later fits.1.0 fits.1.1

    shell_fit : (at : Shell) (reply : Reply) → ((parent : Parent) → at ≡ pipes parent → ⊥) → ShellFits w g owed kids call d at → Then (shell_turn profile at reply)
    shell_fit (top phase lines) reply plain fits = top_fit phase lines reply fits
    shell_fit (unknown name) reply plain fits = unknown_fit reply _ fits.1.1 (failed_fit profile w g owed kids e (codes "exec ") name fits.1.0 fits.1.1)
    shell_fit (closes_old mode name body) reply plain fits = done_fit reply _ (enough body fits.1.1) (tt, fits.1)
    shell_fit (opens_file name body) reply plain fits =
        fd_fit reply _ _ (enough body fits.1.1) (runs_fit profile w g owed kids e body fits.1.0 fits.1.1) (failed_fit profile w g owed kids e (codes "open ") name fits.1.0 (enough body fits.1.1))
    shell_fit (forks_left left right) reply plain fits = absurd (loud call _ fits.0 quiet (λ z. z))
    shell_fit (waits_left right) reply plain fits = absurd (loud call _ fits.0 quiet (λ z. z))
    shell_fit (pipes parent) reply plain fits = absurd (plain parent refl)
    shell_fit (side at tree) reply plain fits = side_fit at tree reply fits.1.0 fits.1.1
    shell_fit (forks_back body) reply plain fits = absurd (loud call _ fits.0 quiet (λ z. z))
    shell_fit told reply plain fits = exits_fit profile w g owed kids e fits.1.1
    shell_fit ended reply plain fits = absurd (loud call _ fits.0 quiet (λ z. z))

-- a state but that of a process that makes a pipe
abbrev pub IsNoPipe : User → Type 0
IsNoPipe init = Unit {0}
IsNoPipe (shell profile at) = (parent : Parent) → at ≡ pipes parent → ⊥
IsNoPipe (program state) = Unit {0}

pub reply_fits : (w g owed kids : ℕ) (d e : Fds) (call : Call) (next : User) → IsQuiet call → IsNoPipe next → UserFits w g owed kids call d next → (reply : Reply) → ActFits w g owed kids e (act_of next reply)
reply_fits w g owed kids d e call init quiet plain fits reply = absurd fits
reply_fits w g owed kids d e call (shell profile at) quiet plain fits reply = shell_fit profile w g owed kids d e call quiet at reply plain fits
reply_fits w g owed kids d e call (program state) quiet plain fits reply = (own_quiet _ (program_calls state reply), fits.1)
