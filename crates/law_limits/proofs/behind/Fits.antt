-- Whether what a process has is enough for all that it may still fork, by the call that it makes and its state after that: w is what
-- it has, g what it is to give back to the process that waits for it, `owed` what its children are to give back to it, and `kids`
-- how many it has.
use Rattle.std.proofs.Common.{◌≡◌, ◌≢◌, ◌⊎◌, inl, ℕ, ◌+◌, ◌≤◌, List, [], ◌∷◌, Option, Some, None, refl, arith}
use Rattle.sh_tree.specs.Tree.{Tree, exec, redir, pipe, list, back}
use Rattle.mem_files.specs.Name.{Bytes}
use Rattle.script_load.specs.declared.profile.Profile.{Profile}
use Rattle.script_load.specs.Line.{ScriptLine, command, bad, cd}
use Rattle.meaning_model.specs.Meaning.{line_tree, script_tree}
use Rattle.user_calls.specs.declared.calls.Call.{Call}
use Rattle.user_calls.specs.declared.calls.Call.TheVariants.{Fork, Exec, Exit, Wait, MakePipe, Read, Write, OpenFile, Close, Dup}
use Rattle.user_progs.specs.State.{State}
use Rattle.user_progs.specs.View.{first_state}
use Rattle.sh_machine.specs.declared.state.Phase.{Phase}
use Rattle.sh_machine.specs.declared.state.Phase.TheVariants.{Starts, Forks, Waits, ToldCd}
use Rattle.sh_machine.specs.State.{Parent, makes, forks_writer, forks_reader, closes_reader, closes_writer, waits_first, waits_second, Shell, top, unknown, closes_old, opens_file, forks_left, waits_left, pipes, side, forks_back, told, ended, User, init, shell, program}
use Rattle.sh_machine.specs.Turn.{Turn, user_of_next, exits, tells, runs, runs_line, takes_first, execs_found, fault_text, failed}
use Rattle.process_model.specs.Seen.{Entry, Fds, fd_at, Act}
use Rattle.room_model.specs.BehindProcesses.{at_once, left_behind}
use Rattle.law_limits.proofs.behind.Trees.{Enough, list_enough}

-- ---- calls and descriptors

-- a call that neither forks nor waits, ends the process or makes a pipe
abbrev pub IsQuiet : Call → Type 0
IsQuiet Fork = ⊥
IsQuiet (Exec found) = Unit {0}
IsQuiet Exit = ⊥
IsQuiet Wait = ⊥
IsQuiet MakePipe = ⊥
IsQuiet (Read fd most) = Unit {0}
IsQuiet (Write fd bytes) = Unit {0}
IsQuiet (OpenFile name mode) = Unit {0}
IsQuiet (Close fd) = Unit {0}
IsQuiet (Dup fd) = Unit {0}

abbrev pub IsOpen : Fds → ℕ → Type 0
IsOpen d fd = (x : Entry) × (fd_at d fd ≡ Some x)

-- both ends of a pipe
pub record AreOpen (d : Fds) (reader writer : ℕ) : Type 0 where
  pub apart : reader ≢ writer
  pub reads : IsOpen d reader
  pub writes : IsOpen d writer

-- ---- each state

module _ (w g owed kids : ℕ) (call : Call) (d : Fds) where
  -- it forks no more
  abbrev pub Plain : Type 0
  Plain = (kids ≡ 0) × (g ≤ w)

  abbrev pub Runs : Tree → Type 0
  Runs t = (kids ≡ 0) × Enough t w g

  -- it waits for a child, and then runs this
  abbrev pub RunsThen : Tree → Type 0
  RunsThen t = (kids ≡ 1) × Enough t (w + owed) g

  abbrev pub ParentFits : Parent → Type 0
  ParentFits (makes left right) = (call ≡ MakePipe) × Runs (pipe left right)
  ParentFits (forks_writer left right reader writer) = (call ≡ Fork) × AreOpen d reader writer × Runs (pipe left right)
  ParentFits (forks_reader right reader writer) = (call ≡ Fork) × AreOpen d reader writer × (kids ≡ 1) × (1 + at_once right ≤ w) × (left_behind right + g ≤ w + owed)
  ParentFits (closes_reader writer) = (reader : ℕ) × (call ≡ Close reader) × AreOpen d reader writer × (kids ≡ 2) × (g ≤ w + owed)
  ParentFits closes_writer = (writer : ℕ) × (call ≡ Close writer) × IsOpen d writer × (kids ≡ 2) × (g ≤ w + owed)
  ParentFits waits_first = (call ≡ Wait) × (kids ≡ 2) × (g ≤ w + owed)
  ParentFits waits_second = (call ≡ Wait) × (kids ≡ 1) × (g ≤ w + owed)

  abbrev pub TopFits : Phase → List ScriptLine → Type 0
  TopFits Starts lines = ⊥
  TopFits Forks [] = ⊥
  TopFits Forks (line ∷ later) = (call ≡ Fork) × Runs (script_tree (line ∷ later))
  TopFits Waits [] = ⊥
  TopFits Waits (line ∷ later) = (call ≡ Wait) × RunsThen (script_tree later)
  TopFits ToldCd [] = ⊥
  TopFits ToldCd (line ∷ later) = IsQuiet call × Runs (script_tree later)

  abbrev pub ShellFits : Shell → Type 0
  ShellFits (top phase lines) = TopFits phase lines
  ShellFits (unknown name) = IsQuiet call × Plain
  ShellFits (closes_old mode name body) = IsQuiet call × Runs body
  ShellFits (opens_file name body) = IsQuiet call × Runs body
  ShellFits (forks_left left right) = (call ≡ Fork) × Runs (list left right)
  ShellFits (waits_left right) = (call ≡ Wait) × RunsThen right
  ShellFits (pipes parent) = ParentFits parent
  ShellFits (side at tree) = IsQuiet call × Runs tree
  ShellFits (forks_back body) = (call ≡ Fork) × Runs (back body)
  ShellFits told = IsQuiet call × Plain
  ShellFits ended = (call ≡ Exit) × (g ≤ w)

  abbrev pub UserFits : User → Type 0
  UserFits init = ⊥
  UserFits (shell profile at) = ShellFits at
  UserFits (program state) = (IsQuiet call ⊎ (call ≡ Exit)) × Plain

abbrev pub ActFits : ℕ → ℕ → ℕ → ℕ → Fds → Act → Type 0
ActFits w g owed kids d act = UserFits w g owed kids act.call d act.next

module _ (profile : Profile) (w g owed kids : ℕ) (d : Fds) where
  -- a turn of the shell
  abbrev pub TurnFits : Turn → Type 0
  TurnFits turn = UserFits w g owed kids turn.call d (user_of_next profile turn.next)

  pub exits_fit : g ≤ w → TurnFits exits
  exits_fit less = (refl, less)

  pub tells_fit : (message : Bytes) → kids ≡ 0 → g ≤ w → TurnFits (tells message)
  tells_fit message none less = (tt, (none, less))

  pub failed_fit : (what name : Bytes) → kids ≡ 0 → g ≤ w → TurnFits (failed what name)
  failed_fit what name none less = (tt, (none, less))

  enough_gives : (t : Tree) → Enough t w g → g ≤ w
  enough_gives t e = omega (arith, e.gives)

  pub runs_fit : (t : Tree) → kids ≡ 0 → Enough t w g → TurnFits (runs t)
  runs_fit (exec []) none e = exits_fit (enough_gives (exec []) e)
  runs_fit (exec (name ∷ arguments)) none e = found (first_state (name ∷ arguments))
    where
      found : (o : Option State) → TurnFits (execs_found o name)
      found None = (tt, (none, enough_gives (exec (name ∷ arguments)) e))
      found (Some state) = (inl tt, (none, enough_gives (exec (name ∷ arguments)) e))
  runs_fit (redir mode name body) none e = (tt, (none, record { runs = e.runs; gives = e.gives }))
  runs_fit (pipe left right) none e = (refl, (none, e))
  runs_fit (list left right) none e = (refl, (none, e))
  runs_fit (back body) none e = (refl, (none, e))

  -- the top shell takes the first of these lines
  pub takes_fit : (lines : List ScriptLine) → kids ≡ 0 → Enough (script_tree lines) w g → TurnFits (takes_first lines)
  takes_fit [] none e = exits_fit (enough_gives (exec []) e)
  takes_fit (command tree ∷ later) none e = (refl, (none, e))
  takes_fit (bad fault text ∷ later) none e = (refl, (none, e))
  takes_fit (cd text ∷ later) none e =
      let l = list_enough (exec []) (script_tree later) w g e in
      (tt, (none, record { runs = omega (arith, l.right); gives = omega (arith, l.gives) }))

  -- a child runs a line
  pub line_fit : (line : ScriptLine) → kids ≡ 0 → Enough (line_tree line) w g → TurnFits (runs_line line)
  line_fit (command tree) none e = runs_fit tree none e
  line_fit (bad fault text) none e = tells_fit (fault_text fault text) none (enough_gives (exec []) e)
  line_fit (cd text) none e = exits_fit (enough_gives (exec []) e)
