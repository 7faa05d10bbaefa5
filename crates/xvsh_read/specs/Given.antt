-- The standard input and the script that the words of a command line give.
use Rattle.std.specs.Prelude.{◌≡◌, ◌≢◌, if◌then◌else◌, [], ◌∷◌, Option, Some, None, codes}
use Rattle.std.specs.Borrow.{Bor}
use Rattle.std.specs.Str.{bytes_eq}
use Rattle.mem_files.specs.Name.{Bytes}
use Rattle.xvsh_read.specs.Path.{Path}
use Rattle.xvsh_read.specs.Reading.{Agree, told_at, max_input, IsReadFault}
use Rattle.xvsh_read.specs.declared.fault.Fault.{Fault}
use Rattle.xvsh_read.specs.declared.given.Inputs.{Inputs}

-- the path of a script that is among the words: `-c` and a zero byte, which no file has
abbrev pub text_path : Path
text_path = codes "-c\0"

-- the standard input, where the words give this one, or none
abbrev pub input_by : Option Bytes → Option Bytes → Option Bytes
input_by None own = own
input_by (Some bytes) own = Some bytes

-- the files at paths, where the words have this script, or none
abbrev pub file_by : Option (Bor Bytes) → (Path → Option Bytes) → Path → Option Bytes
file_by None file path = file path
file_by (Some text) file path = if bytes_eq path text_path then Some text.now else file path

-- what follows is by what the host states of standard input and of the files at paths
module _ (input : Option Bytes) (file : Path → Option Bytes) where
  -- a word gives these bytes as standard input: none where it is `none`, and else those at its path
  pub record IsGivenAt (word : Path) (bytes : Bytes) : Type 0 where
    pub nothing : word ≡ codes "none" → bytes ≡ []
    pub own : word ≢ codes "none" → Agree (told_at input file word) bytes

  -- this is the standard input by a word, if there is one
  abbrev pub IsGiven : Option (Bor Path) → Option Bytes → Type 0
  IsGiven None given = given ≡ None
  IsGiven (Some word) given = (bytes : Bytes) × (given ≡ Some bytes) × IsGivenAt word.now bytes

  -- why there is none
  abbrev pub IsUngiven : Option (Bor Path) → Fault → Type 0
  IsUngiven word fault = (path : Bor Path) × (word ≡ Some path) × IsReadFault max_input (told_at input file path.now) path.now fault

-- what a command sees of standard input and of the files at paths
pub record Sight : Type 0 where
  pub input : Option Bytes
  pub file : Path → Option Bytes

-- it sees what the host states, but for the standard input and the script that the words give
pub record Sees (input : Option Bytes) (file : Path → Option Bytes) (inputs : Inputs) (sight : Sight) : Type 0 where
  pub given : Option Bytes
  pub own : IsGiven input file inputs.input given
  pub by_input : sight.input ≡ input_by given input
  pub by_text : sight.file ≡ file_by inputs.text file
