-- The states of init, the shell and the programs from one call to the next, as plain data. In each but init's the process waits
-- for the reply to the call that the state names.
use Rattle.std.specs.Prelude.{ℕ, List}
use Rattle.sh_tree.specs.declared.tree.Mode.{Mode}
use Rattle.sh_tree.specs.Tree.{Tree}
use Rattle.mem_files.specs.Name.{Name, Bytes}
use Rattle.script_load.specs.declared.profile.Profile.{Profile}
use Rattle.script_load.specs.Line.{ScriptLine}
use Rattle.user_progs.specs.State.{State}
use Rattle.sh_machine.specs.declared.state.Phase.{Phase}
use Rattle.sh_machine.specs.declared.state.Side.{Side}

-- the process that makes a pipe, at each call of `runcmd`'s case PIPE (user/sh.c), in their order
pub data Parent : Type 0 where
  -- `pipe(p)`; the left side and the right side are still to be run
  makes : Tree → Tree → Parent
  -- the `fork1` of the left side; the read end and the write end of the pipe are at these descriptors
  forks_writer : Tree → Tree → ℕ → ℕ → Parent
  -- the `fork1` of the right side, with the same two descriptors
  forks_reader : Tree → ℕ → ℕ → Parent
  -- `close(p[0])`; the write end is at this descriptor
  closes_reader : ℕ → Parent
  -- `close(p[1])`
  closes_writer : Parent
  -- the first `wait(0)`
  waits_first : Parent
  -- the second
  waits_second : Parent

-- a shell, at each call of `main` or of `runcmd` (user/sh.c)
pub data Shell : Type 0 where
  -- `main`: of these lines the first is being run, or is to be run
  top : Phase → List ScriptLine → Shell
  -- EXEC: `exec` of this name, which no program has
  unknown : Bytes → Shell
  -- REDIR: `close(rcmd->fd)`; the redirection's mode, its file, and the command under it
  closes_old : Mode → Name → Tree → Shell
  -- `open(rcmd->file, rcmd->mode)`
  opens_file : Name → Tree → Shell
  -- LIST: the `fork1` of the left side; the right side comes later
  forks_left : Tree → Tree → Shell
  -- `wait(0)` for it
  waits_left : Tree → Shell
  -- PIPE, in the process that makes the pipe
  pipes : Parent → Shell
  -- and in a child of it, which is to run this side
  side : Side → Tree → Shell
  -- BACK: the `fork1` of the command behind `&`
  forks_back : Tree → Shell
  -- `fprintf` or `panic`: the write of a message to descriptor 2, the last call before `exit`
  told : Shell
  -- `exit`
  ended : Shell

pub data User : Type 0 where
  -- user/init.c, `main`: `wait(0)`, for ever
  init : User
  shell : Profile → Shell → User
  -- a program that a shell's `exec` started
  program : State → User
