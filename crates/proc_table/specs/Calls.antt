-- What each call on the table of processes does.
use Rattle.std.specs.Prelude.{◌≡◌, ℕ, ◌<◌, Bool, true, false, ◌&&◌, ◌||◌, if◌then◌else◌, ◌∷◌, All, Option, Some, None, map, position, is_some, replicate, slice_set}
use Rattle.user_calls.specs.declared.calls.Reply.{Reply}
use Rattle.user_calls.specs.declared.calls.Reply.TheVariants.{Start, Child}
use Rattle.fd_table.specs.Descriptors.{Descriptors}
use Rattle.fd_table.specs.declared.descriptors.TheConstants.{DESCRIPTORS}
use Rattle.proc_table.specs.declared.states.Channel.{Channel}
use Rattle.proc_table.specs.declared.states.Channel.TheVariants.{Children}
use Rattle.proc_table.specs.declared.states.Status.{Status}
use Rattle.proc_table.specs.declared.states.Status.TheVariants.{Runnable, Running, Asleep, Zombie}
use Rattle.proc_table.specs.declared.table.TheConstants.{HARTS}
use Rattle.proc_table.specs.declared.table.Waited.{Waited}
use Rattle.proc_table.specs.declared.table.Waited.TheVariants.{Reaped, NoChildren, MustSleep}
use Rattle.proc_table.specs.Slots.{Table, Slot, Process, at, is_free, is_number, is_runnable, is_running_on, is_asleep_on_status, is_child_of, is_zombie_child_of, parent_of}

-- a process that has no descriptor open and whose first reply is `Start`
abbrev pub booted : {S : Type 0} → Option ℕ → S → Process S
booted parent machine = record { status = Runnable; parent = parent; machine = machine; reply = Start; fds = replicate DESCRIPTORS None; put = 0 }

-- init, the top shell, which is its child, and 62 free slots
abbrev pub boot_table : {S : Type 0} → S → S → Table S
boot_table init shell = Some (booted None init) ∷ Some (booted (Some 0) shell) ∷ replicate 62 None

-- the lowest free slot
abbrev pub lowest_free : {S : Type 0} → Table S → Option ℕ
lowest_free t = position is_free t

-- a child that was just made
abbrev pub newborn : {S : Type 0} → ℕ → S → Descriptors → Process S
newborn parent machine fds = record { status = Runnable; parent = Some parent; machine = machine; reply = Child; fds = fds; put = 0 }

-- the table after a fork into the slot `child`
abbrev pub forked : {S : Type 0} → Table S → ℕ → ℕ → S → Descriptors → Table S
forked t child parent machine fds = slice_set t child (Some (newborn parent machine fds))

-- the same process with another status
abbrev pub with_status : {S : Type 0} → Status → Slot S → Slot S
with_status s None = None
with_status s (Some p) = Some (record p { status = s })

-- the table after the status of pid is s
abbrev pub status_set : {S : Type 0} → Table S → ℕ → Status → Table S
status_set t pid s = slice_set t pid (with_status s (at t pid))

-- the table after pid was given to hart h
abbrev pub dispatched : {S : Type 0} → Table S → ℕ → ℕ → Table S
dispatched t pid h = status_set t pid (Running h)

-- pid may be given to hart h: there is such a hart, it runs nothing, and pid is the number of a Runnable process's slot
abbrev pub CanDispatch : {S : Type 0} → Table S → ℕ → ℕ → Type 0
CanDispatch t h pid = (h < HARTS) × All (λ slot. is_running_on h slot ≡ false) t × (is_runnable (at t pid) ≡ true)

-- the same process Runnable, with this machine and reply and nothing put
abbrev pub made_ready : {S : Type 0} → S → Reply → Slot S → Slot S
made_ready machine reply None = None
made_ready machine reply (Some p) = Some (record p { status = Runnable; machine = machine; reply = reply; put = 0 })

-- the table after pid was made ready
abbrev pub readied : {S : Type 0} → Table S → ℕ → S → Reply → Table S
readied t pid machine reply = slice_set t pid (made_ready machine reply (at t pid))

-- the same process asleep, with this many bytes put
abbrev pub put_to_sleep : {S : Type 0} → Channel → ℕ → Slot S → Slot S
put_to_sleep channel put None = None
put_to_sleep channel put (Some p) = Some (record p { status = Asleep channel; put = put })

-- the table after pid fell asleep
abbrev pub slept : {S : Type 0} → Table S → ℕ → Channel → ℕ → Table S
slept t pid channel put = slice_set t pid (put_to_sleep channel put (at t pid))

-- the same process with these descriptors
abbrev pub with_fds : {S : Type 0} → Descriptors → Slot S → Slot S
with_fds fds None = None
with_fds fds (Some p) = Some (record p { fds = fds })

-- the table after pid got these descriptors
abbrev pub fds_set : {S : Type 0} → Table S → ℕ → Descriptors → Table S
fds_set t pid fds = slice_set t pid (with_fds fds (at t pid))

-- a status after a wake-up on the channel
abbrev pub woken_status : Channel → Status → Status
woken_status channel s = if is_asleep_on_status channel s then Runnable else s

-- a slot after a wake-up on the channel
abbrev pub woken : {S : Type 0} → Channel → Slot S → Slot S
woken channel None = None
woken channel (Some p) = with_status (woken_status channel p.status) (Some p)

-- the table after a wake-up on the channel
abbrev pub all_woken : {S : Type 0} → Channel → Table S → Table S
all_woken channel t = map (woken channel) t

-- a parent, where a child of pid gets init in place of pid
abbrev pub parent_after : ℕ → Option ℕ → Option ℕ
parent_after pid parent = if is_number pid parent then Some 0 else parent

-- a slot after pid's children were given to init
abbrev pub given : {S : Type 0} → ℕ → Slot S → Slot S
given pid None = None
given pid (Some p) = Some (record p { parent = parent_after pid p.parent })

-- the lowest child of pid that is a zombie
abbrev pub zombie_child : {S : Type 0} → Table S → ℕ → Option ℕ
zombie_child t pid = position (is_zombie_child_of pid) t

-- the lowest child of pid
abbrev pub some_child : {S : Type 0} → Table S → ℕ → Option ℕ
some_child t pid = position (is_child_of pid) t

-- the table after pid's children were given to init and pid became a zombie
abbrev pub buried : {S : Type 0} → Table S → ℕ → Table S
buried t pid = status_set (map (given pid) t) pid Zombie

-- the table after an exit of pid: its parent is woken, and init where it got a zombie
abbrev pub exited : {S : Type 0} → Table S → ℕ → Table S
exited t pid =
    let gone = all_woken (Children (parent_of (at t pid))) (buried t pid) in
    if is_some (zombie_child t pid) then all_woken (Children 0) gone else gone

-- a slot after the wake-ups of an exit of pid
abbrev pub woken_by_exit : {S : Type 0} → Table S → ℕ → Slot S → Slot S
woken_by_exit t pid x =
    let once = woken (Children (parent_of (at t pid))) x in
    if is_some (zombie_child t pid) then woken (Children 0) once else once

-- an exit of pid wakes a process of this status
abbrev pub wakes_at_exit : {S : Type 0} → Table S → ℕ → Status → Bool
wakes_at_exit t pid s = is_asleep_on_status (Children (parent_of (at t pid))) s || (is_some (zombie_child t pid) && is_asleep_on_status (Children 0) s)

-- the result of a wait, by the lowest child that is a zombie and the lowest child
abbrev pub wait_by : Option ℕ → Option ℕ → Waited
wait_by (Some child) any = Reaped child
wait_by None (Some child) = MustSleep
wait_by None None = NoChildren

-- the result of a wait of pid
abbrev pub wait_answer : {S : Type 0} → Table S → ℕ → Waited
wait_answer t pid = wait_by (zombie_child t pid) (some_child t pid)

-- the table after the slot, if there is one, became free
abbrev pub freed : {S : Type 0} → Table S → Option ℕ → Table S
freed t None = t
freed t (Some child) = slice_set t child None

-- the table after a wait of pid
abbrev pub reaped : {S : Type 0} → Table S → ℕ → Table S
reaped t pid = freed t (zombie_child t pid)
