-- Faults, their messages, and the statuses with which the program ends.
use Rattle.std.specs.Prelude.{ℕ, Bool, true, false, List, [], ◌∷◌, ◌++◌, codes}
use Rattle.std.specs.Borrow.{Bor}
use Rattle.std.specs.Fmt.{decimal}
use Rattle.mem_files.specs.Name.{Bytes}
use Rattle.mem_files.specs.declared.fault.FilesFault.{FilesFault}
use Rattle.mem_files.specs.declared.fault.FilesFault.TheVariants.{BadName as files_name, Missing as files_missing, FullFiles as files_full, FullSize as files_size, Memory as files_memory, Gap as files_gap}
use Rattle.script_load.specs.declared.fault.LoadFault.{LoadFault}
use Rattle.script_load.specs.declared.fault.LoadFault.TheVariants.{LineTooLong as load_long, ByteZero as load_zero, Memory as load_memory}
use Rattle.xvsh_read.specs.declared.host.HostFault.{HostFault}
use Rattle.xvsh_read.specs.declared.host.HostFault.TheVariants.{Unreadable as host_unreadable, TooLong as host_long, Memory as host_memory}
use Rattle.xvsh_read.specs.declared.status.Status.{Status}
use Rattle.xvsh_read.specs.declared.status.Status.TheVariants.{Done, Failed, Misused, Amiss, NoRoom}
use Rattle.xvsh_read.specs.declared.fault.Fault.{Fault}
use Rattle.xvsh_read.specs.declared.fault.Fault.TheVariants.{Unreadable, TooLong, LineTooLong, ByteZero, BadName, TakenName, TooManyFiles, TooLarge, Memory}

-- its number
abbrev pub status_code : Status → ℕ
status_code Done = 0
status_code Failed = 1
status_code Misused = 2
status_code Amiss = 3
status_code NoRoom = 4

-- of what was found, by whether it is fine
abbrev pub check_status : Bool → ℕ
check_status true = 0
check_status false = 3

-- 1: an input that can't be read or is refused; 4: no room
abbrev pub status_of : Fault → ℕ
status_of (Unreadable path) = 1
status_of (TooLong path) = 1
status_of (LineTooLong n) = 1
status_of (ByteZero n) = 1
status_of (BadName path) = 1
status_of (TakenName path) = 1
status_of TooManyFiles = 1
status_of TooLarge = 4
status_of Memory = 4

-- what a fault is, in words
abbrev pub fault_words : Fault → Bytes
fault_words (Unreadable path) = codes "cannot read " ++ path.now
fault_words (TooLong path) = path.now ++ codes " is too long"
fault_words (LineTooLong n) = codes "line " ++ (decimal n ++ codes " is too long")
fault_words (ByteZero n) = codes "line " ++ (decimal n ++ codes " holds a zero byte")
fault_words (BadName path) = codes "bad file name " ++ path.now
fault_words (TakenName path) = path.now ++ codes " has the name of a file before it"
fault_words TooManyFiles = codes "too many files"
fault_words TooLarge = codes "too large"
fault_words Memory = codes "no memory"

-- its line on standard error
abbrev pub fault_told : Fault → Bytes
fault_told fault = codes "xvsh: " ++ (fault_words fault ++ 10 ∷ [])

abbrev pub of_host : Bor (List ℕ) → HostFault → Fault
of_host path host_unreadable = Unreadable path
of_host path host_long = TooLong path
of_host path host_memory = Memory

-- two that adding a file never has are out of memory here
abbrev pub of_files : Bor (List ℕ) → FilesFault → Fault
of_files path files_name = BadName path
of_files path files_missing = Memory
of_files path files_full = TooManyFiles
of_files path files_size = TooLong path
of_files path files_memory = Memory
of_files path files_gap = Memory

abbrev pub of_load : LoadFault → Fault
of_load (load_long n) = LineTooLong n
of_load (load_zero n) = ByteZero n
of_load load_memory = Memory
