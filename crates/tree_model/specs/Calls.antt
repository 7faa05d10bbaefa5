-- Which call a program waits for, by its state and what it has before it.
use Rattle.std.specs.Prelude.{◌≡◌, ℕ, zero, suc, ◌≤◌, Bool, true, false, Some}
use Rattle.std.specs.Option.{is_some}
use Rattle.mem_files.specs.Name.{Name, is_openable}
use Rattle.prog_parts.specs.NameSets.{Names}
use Rattle.user_calls.specs.Limits.{block_size}
use Rattle.user_calls.specs.declared.calls.Mode.{Mode}
use Rattle.user_calls.specs.declared.calls.Mode.TheVariants.{Input, Fresh, Over, Append}
use Rattle.user_calls.specs.declared.calls.Call.{Call}
use Rattle.user_calls.specs.declared.calls.Call.TheVariants.{Fork, Exec, Exit, Wait, MakePipe, Read, Write, OpenFile, Close, Dup}
use Rattle.user_progs.specs.State.{State}
use Rattle.tree_model.specs.Ahead.{still_opens, still_writes, still_uses}
use Rattle.tree_model.specs.Alone.{OwnFile, World, is_to_read, held}
use Rattle.tree_model.specs.Frame.{depends_on, may_change}

-- a file of one of these names is open at this descriptor, to be read or to be written
pub record IsOwn (fd : ℕ) (reads : Bool) (names : Names) (world : World) : Type 0 where
  pub own : OwnFile
  pub held : held world.own fd ≡ Some own
  pub mode : is_to_read own.mode ≡ reads
  pub named : names own.name ≡ true

-- it reads standard input, if it still uses it, or a file of its own
abbrev pub ReadsOpen : ℕ → State → World → Type 0
ReadsOpen zero state world = still_uses state ≡ true
ReadsOpen (suc fd) state world = IsOwn (suc fd) true (depends_on state world) world

-- it writes to descriptor 1, to 2, or to a file of its own that it may change
abbrev pub WritesOpen : ℕ → State → World → Type 0
WritesOpen zero state world = ⊥
WritesOpen (suc zero) state world = Unit {0}
WritesOpen (suc (suc zero)) state world = Unit {0}
WritesOpen (suc (suc (suc fd))) state world = IsOwn (suc (suc (suc fd))) false (may_change state world) world

-- it opens a file that it still opens in this mode; a name that can't be opened may have been cut to a block
abbrev pub OpensAhead : Mode → Name → State → Type 0
OpensAhead Input name state = is_openable name ≡ true → still_opens state name ≡ true
OpensAhead Fresh name state = is_openable name ≡ true → still_writes state name ≡ true
OpensAhead Over name state = ⊥
OpensAhead Append name state = ⊥

abbrev pub MayCall : Call → State → World → Type 0
MayCall Fork state world = ⊥
MayCall (Exec is_known) state world = is_known ≡ true
MayCall Exit state world = Unit {0}
MayCall Wait state world = ⊥
MayCall MakePipe state world = ⊥
MayCall (Read fd most) state world = (1 ≤ most) × (most ≤ block_size) × ReadsOpen fd state world
MayCall (Write fd bytes) state world = WritesOpen fd state world
MayCall (OpenFile name mode) state world = OpensAhead mode name state
MayCall (Close fd) state world = is_some (held world.own fd) ≡ true
MayCall (Dup fd) state world = ⊥
