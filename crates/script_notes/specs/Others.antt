-- Names that other systems give to programs, and what is said of one that no program has here (own).
use Rattle.std.specs.Prelude.{Bool, ◌||◌, if◌then◌else◌, codes}
use Rattle.std.specs.Str.{bytes_eq}
use Rattle.mem_files.specs.Name.{Bytes}
use Rattle.script_notes.specs.declared.kind.NoteKind.{NoteKind}
use Rattle.script_notes.specs.declared.kind.NoteKind.TheVariants.{NoProgram, NoListing, NoCopy, NoRemoval, NoFolder, NoFilter, NoProcess, NoPrinter, NoShellWord, NoFunction, NoCase, NoExport, NoAlias}

abbrev pub is_listing : Bytes → Bool
is_listing word = bytes_eq word (codes "ls") || bytes_eq word (codes "dir") || bytes_eq word (codes "find")

abbrev pub is_copy : Bytes → Bool
is_copy word = bytes_eq word (codes "cp") || bytes_eq word (codes "mv") || bytes_eq word (codes "ln")

abbrev pub is_removal : Bytes → Bool
is_removal word = bytes_eq word (codes "rm") || bytes_eq word (codes "touch")

abbrev pub is_folder : Bytes → Bool
is_folder word = bytes_eq word (codes "mkdir") || bytes_eq word (codes "rmdir") || bytes_eq word (codes "pwd")

abbrev pub is_filter : Bytes → Bool
is_filter word = bytes_eq word (codes "sort") || bytes_eq word (codes "uniq") || bytes_eq word (codes "tail") || bytes_eq word (codes "cut") || bytes_eq word (codes "sed") || bytes_eq word (codes "awk") || bytes_eq word (codes "tr") || bytes_eq word (codes "diff")

abbrev pub is_process : Bytes → Bool
is_process word = bytes_eq word (codes "kill") || bytes_eq word (codes "ps") || bytes_eq word (codes "jobs") || bytes_eq word (codes "sleep") || bytes_eq word (codes "wait") || bytes_eq word (codes "time")

abbrev pub is_printer : Bytes → Bool
is_printer word = bytes_eq word (codes "printf") || bytes_eq word (codes "seq") || bytes_eq word (codes "yes") || bytes_eq word (codes "date")

abbrev pub is_block_word : Bytes → Bool
is_block_word word = bytes_eq word (codes "if") || bytes_eq word (codes "then") || bytes_eq word (codes "else") || bytes_eq word (codes "fi") || bytes_eq word (codes "for") || bytes_eq word (codes "while") || bytes_eq word (codes "do") || bytes_eq word (codes "done")

abbrev pub is_setting_word : Bytes → Bool
is_setting_word word = bytes_eq word (codes "test") || bytes_eq word (codes "exit") || bytes_eq word (codes "set") || bytes_eq word (codes "read") || bytes_eq word (codes "sh") || bytes_eq word (codes "bash")

abbrev pub is_defining_word : Bytes → Bool
is_defining_word word = bytes_eq word (codes "function") || bytes_eq word (codes "case") || bytes_eq word (codes "export") || bytes_eq word (codes "alias")

-- of such a word
abbrev pub defining_kind : Bytes → NoteKind
defining_kind word =
    if bytes_eq word (codes "function") then NoFunction
    else (if bytes_eq word (codes "case") then NoCase
    else (if bytes_eq word (codes "export") then NoExport else NoAlias))

-- the kind of the note of a name that no program has
abbrev pub lacking_kind : Bytes → NoteKind
lacking_kind word =
    if is_listing word then NoListing
    else (if is_copy word then NoCopy
    else (if is_removal word then NoRemoval
    else (if is_folder word then NoFolder
    else (if is_filter word then NoFilter
    else (if is_process word then NoProcess
    else (if is_printer word then NoPrinter
    else (if is_block_word word || is_setting_word word then NoShellWord
    else (if is_defining_word word then defining_kind word
    else NoProgram))))))))
