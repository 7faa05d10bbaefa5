-- What is read at the paths of the command line, by what the host states of them.
use Rattle.std.specs.Prelude.{◌≡◌, ◌≢◌, ℕ, ◌<◌, true, false, List, [], ◌∷◌, ◌++◌, Option, None, IfSome, if◌then◌else◌, length, codes}
use Rattle.std.specs.Borrow.{Bor}
use Rattle.std.specs.Str.{bytes_eq}
use Rattle.mem_files.specs.Name.{Name, Bytes, is_openable}
use Rattle.mem_files.specs.Files.{files}
use Rattle.mem_files.specs.Listing.{max_size, with_entry, IsFullFor}
use Rattle.xvsh_read.specs.declared.fault.Fault.{Fault}
use Rattle.xvsh_read.specs.declared.fault.Fault.TheVariants.{Unreadable, TooLong, LineTooLong, ByteZero, BadName, TakenName, TooManyFiles, TooLarge, Memory}
use Rattle.xvsh_read.specs.Path.{Path, IsNameOf, place_of}

-- the most bytes of a script, and of a standard input
abbrev pub max_input : ℕ
max_input = 1048576

-- these are the bytes, where the host states them
abbrev pub Agree : Option Bytes → Bytes → Type 0
Agree told bytes = IfSome told (λ own. bytes ≡ own)

-- what the host states at a path: of standard input at `-`, and of a file at any other
abbrev pub told_at : Option Bytes → (Path → Option Bytes) → Path → Option Bytes
told_at input file path = if bytes_eq path (codes "-") then input else file path

-- why a path's bytes, of which there may be as many as the limit, can't be read: the host states none,
-- or are too many
abbrev pub IsReadFault : ℕ → Option Bytes → Path → Fault → Type 0
IsReadFault limit told path (Unreadable at) = (at.now ≡ path) × (told ≡ None)
IsReadFault limit told path (TooLong at) = (at.now ≡ path) × IfSome told (λ bytes. limit < length bytes)
IsReadFault limit told path (LineTooLong n) = ⊥
IsReadFault limit told path (ByteZero n) = ⊥
IsReadFault limit told path (BadName at) = ⊥
IsReadFault limit told path (TakenName at) = ⊥
IsReadFault limit told path TooManyFiles = ⊥
IsReadFault limit told path TooLarge = ⊥
IsReadFault limit told path Memory = Unit {0}

-- why the file of a FILE can't be put to these: it can't be read, is too long, its name can't be opened or is that of one of
-- them, or there is no room for it
abbrev pub IsFileFault : (Path → Option Bytes) → List (Name × Bytes) → Path → Fault → Type 0
IsFileFault file given path (Unreadable at) = (at.now ≡ path) × (file (place_of path) ≡ None)
IsFileFault file given path (TooLong at) = (at.now ≡ path) × IfSome (file (place_of path)) (λ bytes. max_size < length bytes)
IsFileFault file given path (LineTooLong n) = ⊥
IsFileFault file given path (ByteZero n) = ⊥
IsFileFault file given path (BadName at) = (at.now ≡ path) × ((name : Name) × IsNameOf path name × (is_openable name ≡ false))
IsFileFault file given path (TakenName at) = (at.now ≡ path) × ((name : Name) × IsNameOf path name × (files given name ≢ None))
IsFileFault file given path TooManyFiles = (name : Name) × IsNameOf path name × (is_openable name ≡ true) × IsFullFor given name
IsFileFault file given path TooLarge = ⊥
IsFileFault file given path Memory = Unit {0}

-- the files once those of the FILEs were put in order, each under its FILE's name, which none before it has
pub data ArePut (file : Path → Option Bytes) : List (Bor Path) → List (Name × Bytes) → Type 0 where
  none_put : ArePut file [] []
  one_put : {paths : List (Bor Path)} {given : List (Name × Bytes)} (path : Bor Path) (name : Name) (bytes : Bytes) → ArePut file paths given → IsNameOf path.now name → files given name ≡ None → Agree (file (place_of path.now)) bytes → ArePut file (paths ++ path ∷ []) (with_entry given name bytes)

-- a path's file can't be put, once those before it were
pub record IsFilesFault (file : Path → Option Bytes) (paths : List (Bor Path)) (fault : Fault) : Type 0 where
  pub before : List (Bor Path)
  pub path : Bor Path
  pub after : List (Bor Path)
  pub given : List (Name × Bytes)
  pub split : paths ≡ before ++ path ∷ after
  pub put : ArePut file before given
  pub reason : IsFileFault file given path.now fault
