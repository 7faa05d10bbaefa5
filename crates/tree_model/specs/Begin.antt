-- How a command is begun: a simple command as its program, a redirection by opening its file.
use Rattle.std.specs.Prelude.{Bool, true, false, List, [], ◌∷◌, Option, Some, None}
use Rattle.sh_tree.specs.declared.tree.Mode.{Mode}
use Rattle.sh_tree.specs.declared.tree.Mode.TheVariants.{Input, Fresh, Over}
use Rattle.sh_tree.specs.Tree.{Tree, exec, redir, pipe, list, back}
use Rattle.mem_files.specs.Name.{Name, Bytes, is_openable}
use Rattle.mem_files.specs.Files.{FileMap}
use Rattle.prog_parts.specs.declared.program.Program.{Program}
use Rattle.prog_parts.specs.Program.{program_of}
use Rattle.user_calls.specs.declared.calls.Call.TheVariants.{Exec}
use Rattle.script_load.specs.declared.profile.Profile.{Profile}
use Rattle.script_load.specs.declared.profile.Profile.TheVariants.{Xv6, Append}
use Rattle.meaning_model.specs.Inputs.{found}
use Rattle.meaning_model.specs.Meaning.{opened}
use Rattle.user_progs.specs.State.{begins}
use Rattle.tree_model.specs.Residual.{Running, Residual, done, todo, running, seq, piped, unopened, from, into, Position, at_byte, at_file_end}

-- a program that was found waits for the reply to the call that found it; without a program, or without words, nothing
-- is left
abbrev pub begun : Option Program → List Bytes → Option Running
begun None arguments = None
begun (Some program) arguments = Some (record { turn = record { call = Exec true; next = begins program arguments }; own = []; put = 0 })

abbrev pub begun_words : List Bytes → Option Running
begun_words [] = None
begun_words (word ∷ arguments) = begun (program_of word) arguments

abbrev pub run_left : Option Running → Residual
run_left None = done
run_left (Some run) = running run

-- a command is begun by its node; a command behind & is never begun, since this machine has no case for it
abbrev pub unfolded : Tree → Residual
unfolded (exec words) = run_left (begun_words words)
unfolded (redir mode file body) = unopened mode file body
unfolded (pipe left right) = piped false (todo left) [] (todo right)
unfolded (list left right) = seq (todo left) right
unfolded (back body) = todo (back body)

-- the position from which a redirection writes its file: >> writes from the file's beginning on in xv6, and each time at its
-- end in the other profile (own)
abbrev pub over_start : Profile → Position
over_start Xv6 = at_byte 0
over_start Append = at_file_end

abbrev pub start_at : Profile → Mode → Position
start_at profile Input = at_byte 0
start_at profile Fresh = at_byte 0
start_at profile Over = over_start profile

-- what is left, and the files, once a redirection opened its file; where it can't, nothing is done
pub record Opened : Type 0 where
  pub next : Residual
  pub files : FileMap

abbrev pub open_from : Option Bytes → Name → Tree → FileMap → Opened
open_from None file body F = record { next = done; files = F }
open_from (Some bytes) file body F = record { next = from file 0 (todo body); files = F }

abbrev pub open_into : Profile → Bool → Mode → Name → Tree → FileMap → Opened
open_into profile false mode file body F = record { next = done; files = F }
open_into profile true mode file body F = record { next = into file (start_at profile mode) (todo body); files = opened mode file F }

abbrev pub opens_file : Profile → Mode → Name → Tree → FileMap → Opened
opens_file profile Input file body F = open_from (found F file) file body F
opens_file profile Fresh file body F = open_into profile (is_openable file) Fresh file body F
opens_file profile Over file body F = open_into profile (is_openable file) Over file body F
