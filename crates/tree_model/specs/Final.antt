-- The final value of what is left to do: what it still gives on an input and files, where in each pipe the left side runs to
-- its end first and hands all its output to the right side, behind what the pipe holds; and the names that it meets so.
use Rattle.std.specs.Prelude.{Bool, true, false, [], ◌++◌, drop}
use Rattle.sh_tree.specs.Tree.{redir}
use Rattle.mem_files.specs.Name.{Name, Bytes}
use Rattle.mem_files.specs.Files.{FileMap, bytes_of}
use Rattle.prog_parts.specs.NameSets.{Names, no_names, both}
use Rattle.conflict_check.specs.Names.{names, uses_input}
use Rattle.script_load.specs.declared.profile.Profile.{Profile}
use Rattle.meaning_model.specs.Value.{Value, nothing, seq_value, pipe_value, from_value}
use Rattle.meaning_model.specs.Meaning.{meaning}
use Rattle.meaning_model.specs.Met.{seq_met, met_names}
use Rattle.tree_model.specs.Still.{left_of}
use Rattle.tree_model.specs.Residual.{Running, world_of, Residual, done, todo, running, seq, piped, unopened, from, into, Position, left_writes, left_uses}
use Rattle.tree_model.specs.Rules.{patched}

-- a pipe, of whose left side a write was refused or not: where one was, nothing says any more what this side would have left
-- unread or written to files
abbrev pub piped_value : Bool → Names → Bool → Value → Value → Value
piped_value false written uses left right = pipe_value written uses left right
piped_value true written uses left right = record right { rest = left.rest; loose = uses; soft = both right.soft written }

-- a command whose output goes to the file of this name, from this position on
abbrev pub patch_value : Name → Position → Value → Value
patch_value file at body = record body { out = []; files = patched body.files file at body.out }

-- all that a program still does, the rest of a write that was put in part among it
abbrev pub run_value : Running → Bytes → FileMap → Value
run_value run input F = left_of run.turn run.put (world_of run input F)

abbrev pub final : Profile → Residual → Bytes → FileMap → Value
final profile done input F = nothing input F
final profile (todo tree) input F = meaning profile tree input F
final profile (running run) input F = run_value run input F
final profile (seq X later) input F =
    seq_value (final profile X input F) (meaning profile later (final profile X input F).rest (final profile X input F).files)
final profile (piped lost X bytes Y) input F =
    piped_value lost (left_writes X) (left_uses X) (final profile X input F) (final profile Y (bytes ++ (final profile X input F).out) (final profile X input F).files)
final profile (unopened mode file body) input F = meaning profile (redir mode file body) input F
final profile (from file at X) input F = from_value input (final profile X (drop at (bytes_of (F file))) F)
final profile (into file at X) input F = patch_value file at (final profile X input F)

-- the names that the sides of a pipe meet; where a write of the left side was refused, no more is asked of this side
abbrev pub pipe_met : Bool → Names → Names → Names
pipe_met false left right = both left right
pipe_met true left right = right

-- the names by which a command of what is left meets a soft file or a loose input
abbrev pub left_met : Profile → Residual → Bytes → FileMap → Names
left_met profile done input F = no_names
left_met profile (todo tree) input F = met_names profile tree input F
left_met profile (running run) input F = no_names
left_met profile (seq X later) input F =
    seq_met (names later) (uses_input later) (final profile X input F) (left_met profile X input F)
    (met_names profile later (final profile X input F).rest (final profile X input F).files)
left_met profile (piped lost X bytes Y) input F =
    pipe_met lost (left_met profile X input F) (left_met profile Y (bytes ++ (final profile X input F).out) (final profile X input F).files)
left_met profile (unopened mode file body) input F = met_names profile (redir mode file body) input F
left_met profile (from file at X) input F = left_met profile X (drop at (bytes_of (F file))) F
left_met profile (into file at X) input F = left_met profile X input F
