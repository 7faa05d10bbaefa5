-- The value of a command: what it writes, what it leaves unread and what it makes of the files; beside
-- these, what of it may depend on the order in which processes run.
use Rattle.std.specs.Prelude.{Bool, false, not, ◌||◌, ◌&&◌, [], ◌++◌}
use Rattle.mem_files.specs.Name.{Name, Bytes}
use Rattle.mem_files.specs.Files.{FileMap, with_file}
use Rattle.prog_parts.specs.NameSets.{Names, no_names, both}
use Rattle.prog_parts.specs.Program.{is_empty}

pub record Value : Type 0 where
  -- standard output
  pub out : Bytes
  -- what is left unread of standard input
  pub rest : Bytes
  pub files : FileMap
  -- what is left unread may depend on the order
  pub loose : Bool
  -- names of files whose bytes may depend on the order
  pub soft : Names

-- a command that wrote this, left this unread and leaves these files, whatever the order
abbrev pub fixed : Bytes → Bytes → FileMap → Value
fixed out rest F = record { out = out; rest = rest; files = F; loose = false; soft = no_names }

-- nothing is done
abbrev pub nothing : Bytes → FileMap → Value
nothing input F = fixed [] input F

-- one command, and then another
abbrev pub seq_value : Value → Value → Value
seq_value first second = record {
  out = first.out ++ second.out;
  rest = second.rest;
  files = second.files;
  loose = first.loose || second.loose;
  soft = both first.soft second.soft;
}

-- the right side of a pipe leaves some of its input unread, or may
abbrev pub is_cut : Value → Bool
is_cut right = not (is_empty right.rest) || right.loose

-- a pipe, whose left side writes these names and so uses its input
abbrev pub pipe_value : Names → Bool → Value → Value → Value
pipe_value writes uses left right = record {
  out = right.out;
  rest = left.rest;
  files = right.files;
  loose = left.loose || (is_cut right && uses);
  soft = λ name. left.soft name || right.soft name || (is_cut right && writes name);
}

-- a command under <: the input outside is left whole, and nothing of it is loose
abbrev pub from_value : Bytes → Value → Value
from_value input body = record body { rest = input; loose = false }

-- a command under > or >>, at whose end the file of that name has these bytes
abbrev pub into_value : Name → Bytes → Value → Value
into_value name bytes body = record body { out = []; files = with_file body.files name bytes }
