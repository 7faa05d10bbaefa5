-- What is written, and what part of it was.
use Rattle.std.specs.Prelude.{◌≡◌, ◌≢◌, [], ◌++◌, Option}
use Rattle.std.specs.Io.KnownBytes.{Appends}
use Rattle.mem_files.specs.Name.{Bytes}
use Rattle.xvsh_read.specs.declared.writing.Output.{Output}

-- all that goes to standard output
abbrev pub out_text : Output → Bytes
out_text output = output.out ++ (output.files.items ++ output.events.items)

-- a beginning of the text was added to a writer, and some of the text is left
pub record AppendsPart (old new : Option Bytes) (text : Bytes) : Type 0 where
  pub written : Bytes
  pub rest : Bytes
  pub split : text ≡ written ++ rest
  pub unfinished : rest ≢ []
  pub writes : Appends old new written
