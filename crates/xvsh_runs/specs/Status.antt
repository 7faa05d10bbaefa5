-- Faults of runs by processes, their messages, and the statuses with which the program ends.
use Rattle.std.specs.Prelude.{ℕ, [], ◌∷◌, ◌++◌, codes}
use Rattle.std.specs.Fmt.{decimal}
use Rattle.mem_files.specs.Name.{Bytes}
use Rattle.kernel_model.specs.declared.events.Full.{Full}
use Rattle.kernel_model.specs.declared.events.Full.TheVariants.{Procs, Open, Fds, Files, Size, Memory}
use Rattle.kernel_runs.specs.declared.run.RunOneFault.{RunOneFault}
use Rattle.kernel_runs.specs.declared.run.RunOneFault.TheVariants.{BadTurns as one_turns, Spent as one_spent, Memory as one_memory}
use Rattle.kernel_threads.specs.declared.faults.RunFault.{RunFault as HartsFault}
use Rattle.kernel_threads.specs.declared.faults.RunFault.TheVariants.{BadHarts as bad_harts, BadTurns as bad_turns, Spent as harts_spent, Memory as harts_memory}
use Rattle.xvsh_read.specs.declared.fault.Fault.TheVariants.{Memory as no_memory}
use Rattle.xvsh_read.specs.Status.{status_of, fault_words}
use Rattle.xvsh_runs.specs.declared.fault.ProcessFault.{ProcessFault}
use Rattle.xvsh_runs.specs.declared.fault.ProcessFault.TheVariants.{Common, BadHarts, BadTurns, BadOrder, Spent, SharedInput, NoEvent, NotRunnable, NotRunning, Unfinished}

-- 1: an input that can't be read or is refused; 2: usage; 4: no room
abbrev pub run_status : ProcessFault → ℕ
run_status (Common fault) = status_of fault
run_status BadHarts = 2
run_status BadTurns = 2
run_status (BadOrder word) = 2
run_status Spent = 4
run_status SharedInput = 2
run_status (NoEvent path line) = 1
run_status (NotRunnable number pid) = 1
run_status (NotRunning number pid hart) = 1
run_status (Unfinished count) = 1

-- what a fault is, in words
abbrev pub run_words : ProcessFault → Bytes
run_words (Common fault) = fault_words fault
run_words BadHarts = codes "the harts are 1 to 8"
run_words BadTurns = codes "the turns are 1 to 1000000000"
run_words (BadOrder word) = word.now ++ codes " is no order: there are low, high, eager, and starve:P with P from 0 to 63"
run_words Spent = codes "spent"
run_words SharedInput = codes "the schedule and the script are both standard input"
run_words (NoEvent path line) = path.now ++ (codes " line " ++ (decimal line ++ codes " is no event"))
run_words (NotRunnable number pid) = codes "event " ++ (decimal number ++ (codes ": process " ++ (decimal pid ++ codes " is not runnable")))
run_words (NotRunning number pid hart) =
    codes "event " ++ (decimal number ++ (codes ": process " ++ (decimal pid ++ (codes " is not running on hart " ++ decimal hart))))
run_words (Unfinished count) = codes "unfinished after " ++ (decimal count ++ codes " events")

-- its line on standard error
abbrev pub run_fault_told : ProcessFault → Bytes
run_fault_told fault = codes "xvsh: " ++ (run_words fault ++ 10 ∷ [])

-- what was full
abbrev pub full_word : Full → Bytes
full_word Procs = codes "procs"
full_word Open = codes "open"
full_word Fds = codes "descriptors"
full_word Files = codes "files"
full_word Size = codes "size"
full_word Memory = codes "memory"

abbrev pub full_told : Full → Bytes
full_told full = codes "xvsh: full " ++ (full_word full ++ 10 ∷ [])

abbrev pub of_one : RunOneFault → ProcessFault
of_one one_turns = BadTurns
of_one one_spent = Spent
of_one one_memory = Common no_memory

abbrev pub of_harts : HartsFault → ProcessFault
of_harts bad_harts = BadHarts
of_harts bad_turns = BadTurns
of_harts harts_spent = Spent
of_harts harts_memory = Common no_memory
