-- How many bytes a program still writes at most to descriptor 1 and to files of its own, by its state and the bytes that it
-- still reads: cat, head and grep write no more than they read, wc a line for each input, and tee a copy to each of its files.
use Rattle.std.specs.Prelude.{ℕ, zero, suc, ◌+◌, ◌-◌, ◌*◌, List, length, drop}
use Rattle.mem_files.specs.Name.{Bytes}
use Rattle.prog_parts.specs.declared.program.Program.{Program}
use Rattle.prog_parts.specs.declared.program.Program.TheVariants.{Cat, Echo, Grep, Head, Tee as Tee', Wc}
use Rattle.user_calls.specs.Limits.{block_size}
use Rattle.user_calls.specs.declared.calls.Call.{Call}
use Rattle.user_calls.specs.declared.calls.Call.TheVariants.{Fork, Exec, Exit, Wait, MakePipe, Read, Write, OpenFile, Close, Dup}
use Rattle.meaning_model.specs.Programs.{echo_out}
use Rattle.user_progs.specs.State.{Filter, copying, heading, counting, searching, Source, standard, file, Work, cat_reads, cat_writes, head_reads, head_writes, wc_reads, wc_writes, grep_reads, grep_writes, Tee, tee_opens, tee_reads, tee_writes, tee_gives, State, begins, echo_word, echo_space, opens, works, closes, tees, told, ended}
use Rattle.user_progs.specs.Turn.{filter_of}
use Rattle.tree_model.specs.Still.{echo_rest}

-- what a call writes, of whose bytes so many were put; what goes to descriptor 2 doesn't count
abbrev pub write_bytes : ℕ → Bytes → ℕ → ℕ
write_bytes zero bytes put = 0
write_bytes (suc zero) bytes put = length (drop put bytes)
write_bytes (suc (suc zero)) bytes put = 0
write_bytes (suc (suc (suc fd))) bytes put = length bytes

abbrev pub call_bytes : Call → ℕ → ℕ
call_bytes Fork put = 0
call_bytes (Exec is_known) put = 0
call_bytes Exit put = 0
call_bytes Wait put = 0
call_bytes MakePipe put = 0
call_bytes (Read fd most) put = 0
call_bytes (Write fd bytes) put = write_bytes fd bytes put
call_bytes (OpenFile name mode) put = 0
call_bytes (Close fd) put = 0
call_bytes (Dup fd) put = 0

-- what is written of so many bytes that are read, and for each further input
abbrev pub passes : Filter → ℕ → ℕ
passes copying r = r
passes (heading lines) r = r
passes counting r = 0
passes (searching pattern) r = r

abbrev pub for_each : Filter → ℕ
for_each copying = 0
for_each (heading lines) = 0
for_each counting = block_size
for_each (searching pattern) = 0

abbrev pub inputs_after : Source → ℕ
inputs_after standard = 0
inputs_after (file fd name later) = length later

abbrev pub work_bytes : Work → ℕ → ℕ
work_bytes cat_reads r = r
work_bytes cat_writes r = r
work_bytes (head_reads lines wanted) r = r
work_bytes (head_writes lines wanted) r = r
work_bytes (wc_reads lines words count inside) r = block_size
work_bytes wc_writes r = 0
work_bytes (grep_reads pattern kept) r = length kept + r
work_bytes (grep_writes pattern rest) r = length rest + r

-- a block that tee holds goes to the files that don't have it yet, and each byte that it reads to its output and all files
abbrev pub tee_bytes : Tee → ℕ → ℕ
tee_bytes (tee_opens fds name later) r = r * (length fds + length later + 2)
tee_bytes (tee_reads fds) r = r * (length fds + 1)
tee_bytes (tee_writes fds bytes) r = length bytes * length fds + r * (length fds + 1)
tee_bytes (tee_gives fds at bytes) r = length bytes * (length fds - (at + 1)) + r * (length fds + 1)

abbrev pub begin_bytes : Program → List Bytes → ℕ → ℕ
begin_bytes Cat arguments r = r
begin_bytes Echo arguments r = length (echo_out arguments)
begin_bytes Grep arguments r = r
begin_bytes Head arguments r = r
begin_bytes Tee' arguments r = r * (length arguments + 1)
begin_bytes Wc arguments r = block_size * (length arguments + 1)

-- what is written after the call that is waited for
abbrev pub later_bytes : State → ℕ → ℕ
later_bytes (begins program arguments) r = begin_bytes program arguments r
later_bytes (echo_word later) r = length (echo_rest later)
later_bytes (echo_space later) r = length (echo_out later)
later_bytes (opens filter name later) r = passes filter r + for_each filter * (length later + 1)
later_bytes (works work source) r = work_bytes work r + for_each (filter_of work) * inputs_after source
later_bytes (closes filter later) r = passes filter r + for_each filter * length later
later_bytes (tees tee) r = tee_bytes tee r
later_bytes told r = 0
later_bytes ended r = 0
