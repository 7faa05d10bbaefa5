-- What holds of an entry that is open on a file. No public clause cites this module.
use Rattle.std.specs.Prelude.{ℕ, List, Option, Some, None}
use Rattle.fd_table.specs.declared.names.Object.{Object}
use Rattle.fd_table.specs.declared.names.Object.TheVariants.{Input, Out, Diag, File, PipeRead, PipeWrite}
use Rattle.fd_table.specs.Entries.{OpenFile}

-- it holds of the name and the offset, if the object is a file
abbrev pub IfNamed : Object → ℕ → (List ℕ → ℕ → Type 0) → Type 0
IfNamed Input offset P = Unit {0}
IfNamed Out offset P = Unit {0}
IfNamed Diag offset P = Unit {0}
IfNamed (File name mode) offset P = P name offset
IfNamed (PipeRead id) offset P = Unit {0}
IfNamed (PipeWrite id) offset P = Unit {0}

-- the object is a file
abbrev pub IsNamed : Object → Type 0
IsNamed Input = ⊥
IsNamed Out = ⊥
IsNamed Diag = ⊥
IsNamed (File name mode) = Unit {0}
IsNamed (PipeRead id) = ⊥
IsNamed (PipeWrite id) = ⊥

-- the entry is open on a file
abbrev pub IsFile : Option OpenFile → Type 0
IsFile None = ⊥
IsFile (Some f) = IsNamed f.object

abbrev pub IfFile : Option OpenFile → (List ℕ → ℕ → Type 0) → Type 0
IfFile None P = Unit {0}
IfFile (Some f) P = IfNamed f.object f.offset P
