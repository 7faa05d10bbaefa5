-- What is known of a console.
use Rattle.std.specs.Prelude.{Option}
use Rattle.mem_files.specs.Name.{Bytes}
use Rattle.xvsh_read.specs.Path.{Path}
use Rattle.xvsh_read.specs.declared.console.Console.{Console}

-- the bytes of standard input, those of the file at a path, and those that standard output and standard error hold, each where
-- it is known
pub record Known : Type 0 where
  pub input : Option Bytes
  pub file : Path → Option Bytes
  pub out : Option Bytes
  pub err : Option Bytes

-- by what its host and its two writers state
abbrev pub known : {H W E : Type 0} → (H → Option Bytes) → (H → Path → Option Bytes) → (W → Option Bytes) → (E → Option Bytes) → Console H W E → Known
known input file written reported console = record {
  input = input console.host;
  file = file console.host;
  out = written console.out;
  err = reported console.err;
}
