-- What `explain` prints of what it finds (own).
use Rattle.std.specs.Prelude.{ℕ, [], ◌∷◌, ◌++◌, Option, Some, None, codes, map}
use Rattle.std.specs.Fmt.{decimal}
use Rattle.mem_files.specs.Name.{Bytes}
use Rattle.note_texts.specs.Texts.{written}
use Rattle.missing_names.specs.Texts.{missing_texts, shown}
use Rattle.room_bounds.specs.declared.lack.Lack.{Lack}
use Rattle.reason_sentences.specs.Sentences.{reason_text, why_text}
use Rattle.reason_sentences.specs.Ways.{ways_text}
use Rattle.xvsh_checks.specs.declared.noting.Noted.{Noted}
use Rattle.xvsh_checks.specs.declared.whys.NotedWhys.{NotedWhys}
use Rattle.check_texts.specs.Rooms.{with_need, table_text}

-- which line it is
abbrev pub noted_place : ℕ → Bytes
noted_place line = codes "line " ++ (decimal line ++ codes ": with this line the script may need ")

-- `line N: with this line the script may need M processes at once; xv6 has 64` and LF, and so of the other tables; nothing of none
abbrev pub lack_noted : Option Lack → Bytes
lack_noted None = []
lack_noted (Some lack) = with_need (noted_place lack.line) lack.need (table_text lack.table)

-- of nothing, the text `nothing to tell`
abbrev pub written_of : Bytes → Bytes
written_of [] = codes "nothing to tell\n"
written_of (byte ∷ text) = byte ∷ text

-- the notes, and behind them the line that may not have room
abbrev pub noted_text : Noted → Bytes
noted_text noted = written_of (written noted.notes.items ++ lack_noted noted.lack)

-- the notes, behind them the names that no file has, that line, and then the reasons, or that there is none, and what mends each
abbrev pub whys_text : NotedWhys → Bytes
whys_text noted =
    written noted.notes.items ++ (missing_texts (map shown noted.missing.items) ++ (lack_noted noted.lack ++ (why_text (map reason_text noted.reasons.items) ++ ways_text noted.reasons.items)))
