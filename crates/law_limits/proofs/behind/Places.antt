-- Whether a process finds a descriptor free for all that it opens, by how many it has open, the call that it makes and its state
-- after that: D is the bound of the whole script.
use Rattle.std.proofs.Common.{◌≡◌, ◌⊎◌, inl, inr, ℕ, ◌+◌, ◌≤◌, List, [], ◌∷◌, ◌∙◌, drop, Option, Some, None, refl, sym, subst, arith}
use Rattle.std.specs.Prelude.{max}
use Rattle.std.proofs.Math.Nat.{le-max_left, le-max_right}
use Rattle.sh_tree.specs.Tree.{Tree, exec, redir, pipe, list, back}
use Rattle.mem_files.specs.Name.{Bytes}
use Rattle.prog_parts.specs.declared.program.Program.{Program}
use Rattle.prog_parts.specs.Program.{program_of}
use Rattle.script_load.specs.declared.profile.Profile.{Profile}
use Rattle.script_load.specs.Line.{ScriptLine, command, bad, cd}
use Rattle.meaning_model.specs.Meaning.{line_tree, script_tree}
use Rattle.user_calls.specs.declared.calls.Call.{Call}
use Rattle.user_calls.specs.declared.calls.Call.TheVariants.{Fork, Exec, Exit, Wait, MakePipe, Read, Write, OpenFile, Close, Dup}
use Rattle.user_calls.specs.declared.calls.Reply.{Reply}
use Rattle.user_calls.specs.declared.calls.Reply.TheVariants.{Start, Child, Done, Bytes as Bytes', Fd, Ends, Refused}
use Rattle.user_progs.specs.State.{State}
use Rattle.user_progs.specs.View.{begun}
use Rattle.user_progs.specs.Turn.{turn}
use Rattle.sh_machine.specs.declared.state.Phase.{Phase}
use Rattle.sh_machine.specs.declared.state.Phase.TheVariants.{Starts, Forks, Waits, ToldCd}
use Rattle.sh_machine.specs.declared.state.Side.{Side}
use Rattle.sh_machine.specs.declared.state.Side.TheVariants.{Closes, Dups, ClosesReader, ClosesWriter}
use Rattle.sh_machine.specs.State.{Parent, makes, forks_writer, forks_reader, closes_reader, closes_writer, waits_first, waits_second, Shell, top, unknown, closes_old, opens_file, forks_left, waits_left, pipes, side, forks_back, told, ended, User, init, shell, program}
use Rattle.sh_machine.specs.Turn.{Turn, user_of_next, exits, tells, runs, runs_line, runs_first, takes_first, execs_found, on_done, on_fd, on_fork, on_pipe, on_unknown, fault_text, shell_turn, top_turn, pipe_turn, side_turn}
use Rattle.process_model.specs.Seen.{act_of}
use Rattle.room_model.specs.Descriptors.{files_of_program, most_descriptors}
use Rattle.law_runs.proofs.room.Marks.{descriptors_wanted}
use Rattle.law_runs.proofs.room.FilesHeld.{closing, more_files, of_turn, turn_few}
use Rattle.law_limits.proofs.behind.Used.{After}
use Rattle.law_limits.proofs.behind.ProgramCalls.{IsOwn, program_calls}
use Rattle.law_limits.proofs.behind.ProgramFiles.{closing_few, refused_few}

pub three : (t : Tree) → 3 ≤ most_descriptors t
three (exec words) = omega arith
three (redir mode name body) = three body
three (pipe l r) = omega (arith, le-max_left 5 (max (most_descriptors l) (most_descriptors r)))
three (list l r) = omega (arith, three l, le-max_left (most_descriptors l) (most_descriptors r))
three (back body) = three body

abbrev pub IsClose : Call → Type 0
IsClose call = (fd : ℕ) × (call ≡ Close fd)

-- a call but a pipe and a dup
abbrev pub IsSingle : Call → Type 0
IsSingle Fork = Unit {0}
IsSingle (Exec found) = Unit {0}
IsSingle Exit = Unit {0}
IsSingle Wait = Unit {0}
IsSingle MakePipe = ⊥
IsSingle (Read fd most) = Unit {0}
IsSingle (Write fd bytes) = Unit {0}
IsSingle (OpenFile name mode) = Unit {0}
IsSingle (Close fd) = Unit {0}
IsSingle (Dup fd) = ⊥

module _ (D : ℕ) where
  abbrev pub Fits : Tree → Type 0
  Fits t = most_descriptors t ≤ D

  -- the parts of a pipe, and of a list
  pipe_parts : (l r : Tree) → Fits (pipe l r) → (5 ≤ D) × Fits l × Fits r
  pipe_parts l r few =
      let m = max (most_descriptors l) (most_descriptors r) in (
        omega (arith, few, le-max_left 5 m),
        omega (arith, few, le-max_right 5 m, le-max_left (most_descriptors l) (most_descriptors r)),
        omega (arith, few, le-max_right 5 m, le-max_right (most_descriptors l) (most_descriptors r)),
      )

  list_parts : (l r : Tree) → Fits (list l r) → Fits l × Fits r
  list_parts l r few = (omega (arith, few, le-max_left (most_descriptors l) (most_descriptors r)), omega (arith, few, le-max_right (most_descriptors l) (most_descriptors r)))

  module _ (u : ℕ) (call : Call) where
    -- with what the call opens
    abbrev w : ℕ
    w = u + descriptors_wanted call

    abbrev pub ParentHas : Parent → Type 0
    ParentHas (makes left right) = (w ≤ 5) × Fits (pipe left right)
    ParentHas (forks_writer left right reader writer) = (w ≤ 5) × Fits (pipe left right)
    ParentHas (forks_reader right reader writer) = (w ≤ 5) × (5 ≤ D) × Fits right
    ParentHas (closes_reader writer) = Unit {0}
    ParentHas closes_writer = Unit {0}
    ParentHas waits_first = Unit {0}
    ParentHas waits_second = Unit {0}

    abbrev pub SideHas : Side → Tree → Type 0
    SideHas (Closes kept reader writer) t = IsClose call × (u ≤ 5) × (5 ≤ D) × Fits t
    SideHas (Dups reader writer) t = (w ≤ 5) × (5 ≤ D) × Fits t
    SideHas (ClosesReader writer) t = IsClose call × (u ≤ 5) × (5 ≤ D) × Fits t
    SideHas ClosesWriter t = IsClose call × (u ≤ 4) × (5 ≤ D) × Fits t

    abbrev pub ShellHas : Shell → Type 0
    ShellHas (top phase lines) = (w ≤ 3) × Fits (script_tree lines)
    ShellHas (unknown name) = Unit {0}
    ShellHas (closes_old mode name body) = IsClose call × (u ≤ 3) × Fits body
    ShellHas (opens_file name body) = (w ≤ 3) × Fits body
    ShellHas (forks_left left right) = (w ≤ 3) × Fits (list left right)
    ShellHas (waits_left right) = (w ≤ 3) × Fits right
    ShellHas (pipes at) = ParentHas at
    ShellHas (side at t) = SideHas at t
    ShellHas (forks_back body) = (w ≤ 3) × Fits body
    ShellHas told = Unit {0}
    ShellHas ended = Unit {0}

    abbrev pub UserHas : User → Type 0
    UserHas init = ⊥
    UserHas (shell profile at) = ShellHas at
    UserHas (program state) = IsSingle call × (u + more_files call state ≤ D)

    -- what its call wants is free, and what it opens later
    abbrev pub Has : User → Type 0
    Has next = (w ≤ D) × UserHas next

  module _ (profile : Profile) (u : ℕ) where
    abbrev pub TurnHas : Turn → Type 0
    TurnHas turn = Has u turn.call (user_of_next profile turn.next)

    exits_has : u ≤ D → TurnHas exits
    exits_has few = (omega (arith, few), tt)

    tells_has : (message : Bytes) → u ≤ D → TurnHas (tells message)
    tells_has message few = (omega (arith, few), tt)

    begun_has : (o : Option Program) (name : Bytes) (arguments : List Bytes) → u ≤ D → u + files_of_program o arguments ≤ D → TurnHas (execs_found (begun o arguments) name)
    begun_has None name arguments few files = (omega (arith, few), tt)
    begun_has (Some which) name arguments few files = (omega (arith, few), (tt, omega (arith, files)))

    pub runs_has : (t : Tree) → u ≤ 3 → Fits t → TurnHas (runs t)
    runs_has (exec []) plain few = exits_has (omega (arith, plain, few))
    runs_has (exec (name ∷ arguments)) plain few = begun_has (program_of name) name arguments (omega (arith, plain, few)) (omega (arith, plain, few))
    runs_has (redir mode name body) plain few = (omega (arith, plain, few, three body), ((_, refl), plain, few))
    runs_has (pipe l r) plain few = (omega (arith, plain, (pipe_parts l r few).0), (omega (arith, plain), few))
    runs_has (list l r) plain few = (omega (arith, plain, few, three (list l r)), (omega (arith, plain), few))
    runs_has (back body) plain few = (omega (arith, plain, few, three body), (omega (arith, plain), few))

    pub takes_has : (lines : List ScriptLine) → u ≤ 3 → Fits (script_tree lines) → TurnHas (takes_first lines)
    takes_has [] plain few = exits_has (omega (arith, plain, few, three (script_tree [])))
    takes_has (command tree ∷ later) plain few = (omega (arith, plain, few, three (script_tree (command tree ∷ later))), (omega (arith, plain), few))
    takes_has (bad fault text ∷ later) plain few = (omega (arith, plain, few, three (script_tree (bad fault text ∷ later))), (omega (arith, plain), few))
    takes_has (cd text ∷ later) plain few = (omega (arith, plain, few, three (script_tree (cd text ∷ later))), (omega (arith, plain), few))

    line_has : (line : ScriptLine) → u ≤ 3 → Fits (line_tree line) → TurnHas (runs_line line)
    line_has (command tree) plain few = runs_has tree plain few
    line_has (bad fault text) plain few = tells_has (fault_text fault text) (omega (arith, plain, few))
    line_has (cd text) plain few = exits_has (omega (arith, plain, few))

    first_has : (lines : List ScriptLine) → u ≤ 3 → Fits (script_tree lines) → TurnHas (runs_first lines)
    first_has [] plain few = exits_has (omega (arith, plain, few, three (script_tree [])))
    first_has (line ∷ later) plain few = line_has line plain (list_parts (line_tree line) (script_tree later) few).0

    drop_fits : (lines : List ScriptLine) → Fits (script_tree lines) → Fits (script_tree (drop 1 lines))
    drop_fits [] few = few
    drop_fits (line ∷ later) few = (list_parts (line_tree line) (script_tree later) few).1

    -- ---- by the reply

    module _ (few : u ≤ D) where
      done_has : (reply : Reply) (then : Turn) → (reply ≡ Done → TurnHas then) → TurnHas (on_done reply then)
      done_has Start then has = exits_has few
      done_has Child then has = exits_has few
      done_has Done then has = has refl
      done_has (Bytes' bytes) then has = exits_has few
      done_has (Fd fd) then has = exits_has few
      done_has (Ends reader writer) then has = exits_has few
      done_has Refused then has = exits_has few

      fd_has : (reply : Reply) (then other : Turn) → TurnHas then → TurnHas other → TurnHas (on_fd reply then other)
      fd_has Start then other has refused = exits_has few
      fd_has Child then other has refused = exits_has few
      fd_has Done then other has refused = exits_has few
      fd_has (Bytes' bytes) then other has refused = exits_has few
      fd_has (Fd fd) then other has refused = has
      fd_has (Ends reader writer) then other has refused = exits_has few
      fd_has Refused then other has refused = refused

      fork_has : (reply : Reply) (parent child : Turn) → TurnHas parent → TurnHas child → TurnHas (on_fork reply parent child)
      fork_has Start parent child has other = exits_has few
      fork_has Child parent child has other = other
      fork_has Done parent child has other = has
      fork_has (Bytes' bytes) parent child has other = exits_has few
      fork_has (Fd fd) parent child has other = exits_has few
      fork_has (Ends reader writer) parent child has other = exits_has few
      fork_has Refused parent child has other = (omega (arith, few), tt)

      pipe_has : (reply : Reply) (l r : Tree) → u ≤ 5 → Fits (pipe l r) → TurnHas (on_pipe reply l r)
      pipe_has Start l r five fits = exits_has few
      pipe_has Child l r five fits = exits_has few
      pipe_has Done l r five fits = exits_has few
      pipe_has (Bytes' bytes) l r five fits = exits_has few
      pipe_has (Fd fd) l r five fits = exits_has few
      pipe_has (Ends reader writer) l r five fits = (omega (arith, few), (omega (arith, five), fits))
      pipe_has Refused l r five fits = (omega (arith, few), tt)

      unknown_has : (reply : Reply) (then : Turn) → TurnHas then → TurnHas (on_unknown reply then)
      unknown_has Start then has = exits_has few
      unknown_has Child then has = exits_has few
      unknown_has Done then has = exits_has few
      unknown_has (Bytes' bytes) then has = exits_has few
      unknown_has (Fd fd) then has = exits_has few
      unknown_has (Ends reader writer) then has = exits_has few
      unknown_has Refused then has = has

  -- ---- each state

  -- a close that is granted leaves one less
  granted : (call : Call) (u : ℕ) (reply : Reply) (v : ℕ) → After call u reply v → IsClose call → reply ≡ Done → v + 1 ≤ u
  granted call u reply v after close done = by (after.closed close.0 close.1)
    where
      by : ((reply ≡ Done) × (v + 1 ≤ u)) ⊎ (reply ≡ Refused) → v + 1 ≤ u
      by (inl pair) = pair.1
      by (inr refused) = absurd (let z : Done ≡ Refused = sym done ∙ refused in let x : ⊥ = cc in x)

  module _ (call : Call) (u : ℕ) (reply : Reply) (v : ℕ) (after : After call u reply v) (within : u + descriptors_wanted call ≤ D) where
    few : v ≤ D
    few = omega (arith, after.most, within)

    under : (n : ℕ) → u + descriptors_wanted call ≤ n → v ≤ n
    under n less = omega (arith, after.most, less)

    module _ (profile : Profile) where
      abbrev Now : Turn → Type 0
      Now turn = TurnHas profile v turn

      top_now : (phase : Phase) (lines : List ScriptLine) → (u + descriptors_wanted call ≤ 3) × Fits (script_tree lines) → Now (top_turn phase lines reply)
      top_now Starts lines has = takes_has profile v lines (under 3 has.0) has.1
      top_now Forks lines has = fork_has profile v few reply _ _ (omega (arith, few), (omega (arith, under 3 has.0), has.1)) (first_has profile v lines (under 3 has.0) has.1)
      top_now Waits lines has = done_has profile v few reply _ (λ done. takes_has profile v (drop 1 lines) (under 3 has.0) (drop_fits profile v lines has.1))
      top_now ToldCd lines has = takes_has profile v (drop 1 lines) (under 3 has.0) (drop_fits profile v lines has.1)

      parent_now : (at : Parent) → ParentHas u call at → Now (pipe_turn at reply)
      parent_now (makes l r) has = pipe_has profile v few reply l r (under 5 has.0) has.1
      parent_now (forks_writer l r reader writer) has =
          let parts = pipe_parts l r has.1 in
          fork_has profile v few reply _ _ (omega (arith, few), (omega (arith, under 5 has.0), parts.0, parts.2)) (omega (arith, few), ((_, refl), under 5 has.0, parts.0, parts.1))
      parent_now (forks_reader r reader writer) has = fork_has profile v few reply _ _ (omega (arith, few), tt) (omega (arith, few), ((_, refl), under 5 has.0, has.1, has.2))
      parent_now (closes_reader writer) has = done_has profile v few reply _ (λ done. (omega (arith, few), tt))
      parent_now closes_writer has = done_has profile v few reply _ (λ done. (omega (arith, few), tt))
      parent_now waits_first has = done_has profile v few reply _ (λ done. (omega (arith, few), tt))
      parent_now waits_second has = done_has profile v few reply _ (λ done. exits_has profile v few)

      side_now : (at : Side) (t : Tree) → SideHas u call at t → Now (side_turn at t reply)
      side_now (Closes kept reader writer) t has =
          done_has profile v few reply _ (λ done. let less = granted call u reply v after has.0 done in (omega (arith, less, has.1, has.2), (omega (arith, less, has.1), has.2, has.3)))
      side_now (Dups reader writer) t has = fd_has profile v few reply _ _ (omega (arith, few), ((_, refl), under 5 has.0, has.1, has.2)) (exits_has profile v few)
      side_now (ClosesReader writer) t has =
          done_has profile v few reply _ (λ done. let less = granted call u reply v after has.0 done in (omega (arith, few), ((_, refl), omega (arith, less, has.1), has.2, has.3)))
      side_now ClosesWriter t has = done_has profile v few reply _ (λ done. runs_has profile v t (omega (arith, granted call u reply v after has.0 done, has.1)) has.3)

      shell_now : (at : Shell) → ShellHas u call at → Now (shell_turn profile at reply)
      shell_now (top phase lines) has = top_now phase lines has
      shell_now (unknown name) has = unknown_has profile v few reply _ (omega (arith, few), tt)
      shell_now (closes_old mode name body) has =
          done_has profile v few reply _ (λ done. let less = granted call u reply v after has.0 done in (omega (arith, less, has.1, has.2, three body), (omega (arith, less, has.1), has.2)))
      shell_now (opens_file name body) has = fd_has profile v few reply _ _ (runs_has profile v body (under 3 has.0) has.1) (omega (arith, few), tt)
      shell_now (forks_left l r) has =
          let parts = list_parts l r has.1 in
          fork_has profile v few reply _ _ (omega (arith, few), (omega (arith, under 3 has.0), parts.1)) (runs_has profile v l (under 3 has.0) parts.0)
      shell_now (waits_left r) has = done_has profile v few reply _ (λ done. runs_has profile v r (under 3 has.0) has.1)
      shell_now (pipes at) has = parent_now at has
      shell_now (side at t) has = side_now at t has
      shell_now (forks_back body) has = fork_has profile v few reply _ _ (exits_has profile v few) (runs_has profile v body (under 3 has.0) has.1)
      shell_now told has = exits_has profile v few
      shell_now ended has = exits_has profile v few

  -- ---- programs

  wants_few : (call : Call) (state : State) → IsOwn call → (descriptors_wanted call ≤ more_files call state) × IsSingle call
  wants_few Fork state own = absurd own
  wants_few (Exec found) state own = absurd own
  wants_few Exit state own = (omega arith, tt)
  wants_few Wait state own = absurd own
  wants_few MakePipe state own = absurd own
  wants_few (Read fd most) state own = (omega arith, tt)
  wants_few (Write fd bytes) state own = (omega arith, tt)
  wants_few (OpenFile name mode) state own = (omega arith, tt)
  wants_few (Close fd) state own = (omega arith, tt)
  wants_few (Dup fd) state own = absurd own

  -- the files that it has open and those that it may have more
  files_now : (call : Call) (state : State) (u : ℕ) (reply : Reply) (v : ℕ) → After call u reply v → IsSingle call → u + more_files call state ≤ D → v + of_turn (turn state reply) ≤ D
  files_now Fork state u reply v after single few = omega (arith, after.most, turn_few state reply, few)
  files_now (Exec found) state u reply v after single few = omega (arith, after.most, turn_few state reply, few)
  files_now Exit state u reply v after single few = omega (arith, after.most, turn_few state reply, few)
  files_now Wait state u reply v after single few = omega (arith, after.most, turn_few state reply, few)
  files_now MakePipe state u reply v after single few = absurd single
  files_now (Read fd most) state u reply v after single few = omega (arith, after.most, turn_few state reply, few)
  files_now (Write fd bytes) state u reply v after single few = omega (arith, after.most, turn_few state reply, few)
  files_now (OpenFile name mode) state u reply v after single few = omega (arith, after.most, turn_few state reply, few)
  files_now (Close fd) state u reply v after single few = by (after.closed fd refl)
    where
      by : ((reply ≡ Done) × (v + 1 ≤ u)) ⊎ (reply ≡ Refused) → v + of_turn (turn state reply) ≤ D
      by (inl pair) = omega (arith, pair.1, turn_few state reply, closing_few state, few)
      by (inr refused) = omega (arith, after.most, subst (λ r. of_turn (turn state r) ≤ closing state) (sym refused) (refused_few state), few)
  files_now (Dup fd) state u reply v after single few = absurd single

  pub has_still : (next : User) (call : Call) (u : ℕ) (reply : Reply) (v : ℕ) → After call u reply v → Has u call next → Has v (act_of next reply).call (act_of next reply).next
  has_still init call u reply v after has = absurd has.1
  has_still (shell profile at) call u reply v after has = shell_now call u reply v after has.0 profile at has.1
  has_still (program state) call u reply v after has =
      let own = wants_few (turn state reply).call (turn state reply).next (program_calls state reply) in
      let files = files_now call state u reply v after has.1.0 has.1.1 in
      (omega (arith, own.0, files), (own.1, files))
