-- Notes of a command's tokens, each by the tokens before it in its segment. Of several redirections of one command the last in the text is outermost and so comes first, and the next replaces what it opened (`user/sh.c`'s `parseredirs` and `runcmd`).
use Rattle.std.specs.Prelude.{Bool, true, false, not, ◌&&◌, is_none, List, [], ◌∷◌, ◌++◌}
use Rattle.sh_lexer.specs.declared.token.Kind.{Kind}
use Rattle.sh_lexer.specs.declared.token.Kind.TheVariants.{Word, Less, More, MoreMore, Bar, Amp, Semi, LeftParen, RightParen}
use Rattle.sh_lexer.specs.declared.token.Token.{Token}
use Rattle.sh_tree.specs.Tree.{Tree}
use Rattle.mem_files.specs.Name.{Bytes, is_openable}
use Rattle.prog_parts.specs.Program.{program_of}
use Rattle.conflict_check.specs.Names.{names}
use Rattle.script_notes.specs.declared.kind.NoteKind.{NoteKind}
use Rattle.script_notes.specs.declared.kind.NoteKind.TheVariants.{NoFileName, Background, WritesOver, InputUnread, OutputEmptied, OutputUnwritten}
use Rattle.script_notes.specs.declared.commands.Seen.{Seen}
use Rattle.script_notes.specs.Letters.{text_of}
use Rattle.script_notes.specs.Notes.{Note, note_where}
use Rattle.script_notes.specs.Others.{lacking_kind}
use Rattle.script_notes.specs.Segments.{seen_of}

-- the word is a command's name, and no program has it
abbrev pub lacks_program : Seen → Bytes → Bool
lacks_program seen word = not seen.names_file && not seen.has_name && is_none (program_of word)

-- the word is a name of a file by the tree, and no file can have it
abbrev pub lacks_file : Tree → Bytes → Bool
lacks_file tree word = names tree word && not (is_openable word)

-- a `>>` is not written, or it writes over
abbrev pub over_kind : Bool → NoteKind
over_kind true = OutputUnwritten
over_kind false = WritesOver

-- of a token of this kind, with this text
abbrev pub senses_by : Kind → Tree → Seen → Bytes → Token → List Note
senses_by Word tree seen word t =
    note_where (lacks_program seen word) (lacking_kind word) t.first t.past ++ note_where (lacks_file tree word) NoFileName t.first t.past
senses_by Less tree seen word t = note_where seen.has_input InputUnread t.first t.past
senses_by More tree seen word t = note_where seen.has_output OutputEmptied t.first t.past
senses_by MoreMore tree seen word t = note_where true (over_kind seen.has_output) t.first t.past
senses_by Amp tree seen word t = note_where true Background t.first t.past
senses_by Bar tree seen word t = []
senses_by Semi tree seen word t = []
senses_by LeftParen tree seen word t = []
senses_by RightParen tree seen word t = []

abbrev pub senses_of : Bytes → Tree → Seen → Token → List Note
senses_of text tree seen t = senses_by t.kind tree seen (text_of text t) t

-- of tokens behind those of these kinds, the nearest first
abbrev pub command_notes : Bytes → Tree → List Kind → List Token → List Note
command_notes text tree back [] = []
command_notes text tree back (t ∷ ts) = senses_of text tree (seen_of back) t ++ command_notes text tree (t.kind ∷ back) ts
