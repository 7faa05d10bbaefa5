-- What `check --room` prints of the room that a script needs.
use Rattle.std.specs.Prelude.{ℕ, zero, suc, [], ◌++◌, Option, Some, None, codes}
use Rattle.std.specs.Fmt.{decimal}
use Rattle.mem_files.specs.Name.{Bytes}
use Rattle.room_bounds.specs.declared.behind.Behind.{Behind}
use Rattle.room_bounds.specs.declared.room.Room.{Room}
use Rattle.room_bounds.specs.declared.lack.Lack.{Lack}
use Rattle.room_bounds.specs.declared.table.Table.{Table}
use Rattle.room_bounds.specs.declared.table.Table.TheVariants.{Processes, Entries, Descriptors, Files, Size}
use Rattle.xvsh_checks.specs.declared.room_found.Growth.{Growth}
use Rattle.xvsh_checks.specs.declared.room_found.RoomFound.{RoomFound}
use Rattle.xvsh_checks.specs.declared.room_found.RoomFound.TheVariants.{Part, Known}

-- a need, or that it is more than is reported
abbrev pub need_text : Option ℕ → Bytes
need_text None = codes "over 1000000"
need_text (Some n) = decimal n

-- what was found so far, and a need and what follows it
abbrev pub with_need : Bytes → Option ℕ → Bytes → Bytes
with_need before need after = (before ++ need_text need) ++ after

-- `room: P of 64 processes, E of 100 open files, D of 16 descriptors, F of 199 files, S of 274432 bytes a file` and LF
abbrev pub room_text : Room → Bytes
room_text room =
    with_need
    (with_need (with_need (with_need (with_need (codes "room: ") room.processes (codes " of 64 processes, ")) room.entries (codes " of 100 open files, ")) room.descriptors (codes " of 16 descriptors, ")) room.files (codes " of 199 files, "))
    room.size
    (codes " of 274432 bytes a file\n")

-- where it is: a line, or no line where the files that are there are too many already
abbrev pub place_text : ℕ → Bytes
place_text zero = codes "the files that are there need "
place_text (suc n) = codes "line " ++ (decimal (suc n) ++ codes " may need ")

abbrev pub table_text : Table → Bytes
table_text Processes = codes " processes at once; xv6 has 64\n"
table_text Entries = codes " open files at once; xv6 has 100\n"
table_text Descriptors = codes " descriptors of a process at once; xv6 has 16\n"
table_text Files = codes " files; there is room for 199\n"
table_text Size = codes " bytes in a file; a file of xv6 has at most 274432\n"

abbrev pub lack_text : Option Lack → Bytes
lack_text None = []
lack_text (Some lack) = with_need (place_text lack.line) lack.need (table_text lack.table)

-- `room: P of 64 processes, E of 100 open files, D of 16 descriptors`
abbrev pub part_needs : Behind → Bytes
part_needs behind =
    with_need
    (with_need (with_need (codes "room: ") behind.processes (codes " of 64 processes, ")) behind.entries (codes " of 100 open files, "))
    behind.descriptors
    (codes " of 16 descriptors")

-- and `, F of 199 files, and no file grows by more than G bytes` and LF, where that is known
abbrev pub rest_text : Bytes → Option Growth → Bytes
rest_text before None = before ++ codes "; the rest is not known, since a line has a clash or a &\n"
rest_text before (Some growth) =
    with_need (with_need (before ++ codes ", ") growth.files (codes " of 199 files, and no file grows by more than ")) (Some growth.bytes) (codes " bytes\n")

abbrev pub part_text : Behind → Option Growth → Bytes
part_text behind growth = rest_text (part_needs behind) growth

-- the report of a room
abbrev pub room_report : RoomFound → Bytes
room_report (Part behind growth lack) = part_text behind growth ++ lack_text lack
room_report (Known room lack) = room_text room ++ lack_text lack
