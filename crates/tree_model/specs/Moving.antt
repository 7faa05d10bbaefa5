-- When what is left can go on, and what keeps it from that: the input or the output around it.
use Rattle.std.specs.Prelude.{◌≡◌, ℕ, ◌≤◌, false, [], ◌∷◌, length}
use Rattle.mem_files.specs.Files.{FileMap}
use Rattle.conflict_check.specs.Clear.{has_back}
use Rattle.script_load.specs.declared.profile.Profile.{Profile}
use Rattle.tree_model.specs.Residual.{Residual, done, todo, running, seq, piped, unopened, from, into}
use Rattle.tree_model.specs.Rules.{Label, silent, takes, meets_end, puts, refused, PIPE_ROOM, Steps}

-- no command is behind &, and no pipe holds more than it has room for
abbrev pub IsPlain : Residual → Type 0
IsPlain done = Unit {0}
IsPlain (todo tree) = has_back tree ≡ false
IsPlain (running run) = Unit {0}
IsPlain (seq first later) = IsPlain first × (has_back later ≡ false)
IsPlain (piped lost left bytes right) = IsPlain left × IsPlain right × (length bytes ≤ PIPE_ROOM)
IsPlain (unopened mode file body) = has_back body ≡ false
IsPlain (from file at body) = IsPlain body
IsPlain (into file at body) = IsPlain body

-- some step has this label
abbrev pub Does : Profile → Residual → FileMap → Label → Type 0
Does profile X F label = (next : Residual) × (G : FileMap) × Steps profile X F label next G

-- what is left goes on, or waits on what is around it
pub data Moves (profile : Profile) (X : Residual) (F : FileMap) : Type 0 where
  is_done : X ≡ done → Moves profile X F
  -- a step that needs neither input nor output
  goes : Does profile X F silent → Moves profile X F
  -- it waits on its input: it takes any byte that comes, or meets the end
  may_read : ((byte : ℕ) → Does profile X F (takes (byte ∷ []))) → Does profile X F meets_end → Moves profile X F
  -- it waits on its output: it puts a byte, or the write is refused
  may_put : (byte : ℕ) → Does profile X F (puts (byte ∷ [])) → Does profile X F refused → Moves profile X F
  -- it ends a write of which nothing is left
  may_end_write : Does profile X F (puts []) → Moves profile X F
