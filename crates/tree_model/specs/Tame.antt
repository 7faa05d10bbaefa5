-- Which calls a program makes, whatever it is answered.
use Rattle.std.specs.Prelude.{◌≡◌, ◌⊎◌, ℕ, ◌≤◌, ◌==◌, true, List, [], ◌∷◌, if◌then◌else◌}
use Rattle.mem_files.specs.Name.{Bytes}
use Rattle.prog_parts.specs.declared.program.Program.{Program}
use Rattle.prog_parts.specs.declared.program.Program.TheVariants.{Cat, Echo, Grep, Head, Tee, Wc}
use Rattle.prog_parts.specs.Program.{file_words, program_uses_input}
use Rattle.user_calls.specs.Limits.{block_size}
use Rattle.user_calls.specs.declared.calls.Mode.{Mode}
use Rattle.user_calls.specs.declared.calls.Mode.TheVariants.{Input, Fresh}
use Rattle.user_calls.specs.declared.calls.Call.{Call}
use Rattle.user_calls.specs.declared.calls.Call.TheVariants.{Fork, Exec, Exit, Wait, MakePipe, Read, Write, OpenFile, Close, Dup}
use Rattle.user_calls.specs.declared.calls.Reply.{Reply}
use Rattle.user_progs.specs.State.{State}
use Rattle.user_progs.specs.Turn.{Answer, yields, denies, strays, block, fd_in, done_in, call_of, next_of}

abbrev pub Among : {X : Type 0} → X → List X → Type 0
Among x [] = ⊥
Among x (y ∷ ys) = (x ≡ y) ⊎ Among x ys

-- how a program opens its files
abbrev pub mode_of : Program → Mode
mode_of Cat = Input
mode_of Echo = Input
mode_of Grep = Input
mode_of Head = Input
mode_of Tee = Fresh
mode_of Wc = Input

-- a program with these arguments, that opened these descriptors and did not close them, may make this call: it reads
-- standard input, if it uses it, and what it opened, at least one byte and no more than a call moves; it writes to 1, to
-- 2 and to what it opened; it opens its file words; it closes what it opened; and it exits
abbrev pub IsTame : Program → List Bytes → List ℕ → Call → Type 0
IsTame program arguments opened Fork = ⊥
IsTame program arguments opened (Exec is_known) = ⊥
IsTame program arguments opened Exit = Unit {0}
IsTame program arguments opened Wait = ⊥
IsTame program arguments opened MakePipe = ⊥
IsTame program arguments opened (Read fd most) =
    (1 ≤ most) × (most ≤ block_size) × (((fd ≡ 0) × (program_uses_input program arguments ≡ true)) ⊎ Among fd opened)
IsTame program arguments opened (Write fd bytes) = (fd ≡ 1) ⊎ ((fd ≡ 2) ⊎ Among fd opened)
IsTame program arguments opened (OpenFile name mode) =
    (mode ≡ mode_of program) × ((word : Bytes) × Among word (file_words program arguments) × (name ≡ block word))
IsTame program arguments opened (Close fd) = Among fd opened
IsTame program arguments opened (Dup fd) = ⊥

-- the descriptors that it opened and did not close, after an open, and after a close
abbrev pub and_opened : Answer ℕ → List ℕ → List ℕ
and_opened (yields fd) opened = fd ∷ opened
and_opened denies opened = opened
and_opened strays opened = opened

abbrev pub without : ℕ → List ℕ → List ℕ
without fd [] = []
without fd (other ∷ opened) = if other == fd then opened else other ∷ without fd opened

abbrev pub but_closed : ℕ → Answer (Unit {0}) → List ℕ → List ℕ
but_closed fd (yields done) opened = without fd opened
but_closed fd denies opened = opened
but_closed fd strays opened = opened

-- after any call
abbrev pub opened_after : Call → Reply → List ℕ → List ℕ
opened_after Fork reply opened = opened
opened_after (Exec is_known) reply opened = opened
opened_after Exit reply opened = opened
opened_after Wait reply opened = opened
opened_after MakePipe reply opened = opened
opened_after (Read fd most) reply opened = opened
opened_after (Write fd bytes) reply opened = opened
opened_after (OpenFile name mode) reply opened = and_opened (fd_in reply) opened
opened_after (Close fd) reply opened = but_closed fd (done_in reply) opened
opened_after (Dup fd) reply opened = opened

-- in this state, of this call, each call that it makes on these replies may be made
abbrev pub AreTame : Program → List Bytes → State → Call → List ℕ → List Reply → Type 0
AreTame program arguments state call opened [] = IsTame program arguments opened call
AreTame program arguments state call opened (reply ∷ replies) =
    IsTame program arguments opened call
    × AreTame program arguments (next_of state reply) (call_of state reply) (opened_after call reply opened) replies
