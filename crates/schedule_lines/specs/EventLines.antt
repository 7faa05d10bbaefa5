-- The lines in which a schedule is written.
use Rattle.std.specs.Prelude.{◌≡◌, ◌≢◌, ℕ, ◌+◌, ◌<◌, ◌^◌, ◌==◌, Bool, true, false, if◌then◌else◌, List, [], ◌∷◌, ◌++◌, All, map, length}
use Rattle.std.specs.Fmt.{decimal}
use Rattle.prog_parts.specs.Lines.{AreLines}
use Rattle.kernel_model.specs.declared.events.Event.{Event}
use Rattle.kernel_model.specs.declared.events.Event.TheVariants.{Dispatch, Trap}
use Rattle.schedule_lines.specs.declared.reading.ScheduleFault.{ScheduleFault}
use Rattle.schedule_lines.specs.declared.reading.ScheduleFault.TheVariants.{NoEvent, Memory}

abbrev pub numbers_text : ℕ → ℕ → List ℕ
numbers_text hart pid = decimal hart ++ 32 ∷ decimal pid

-- `D h pid` or `T h pid`
abbrev pub event_text : Event → List ℕ
event_text (Dispatch hart pid) = 68 ∷ 32 ∷ numbers_text hart pid
event_text (Trap hart pid) = 84 ∷ 32 ∷ numbers_text hart pid

-- the events in order, each with an LF behind it
abbrev pub schedule_text : List Event → List ℕ
schedule_text [] = []
schedule_text (event ∷ events) = event_text event ++ 10 ∷ schedule_text events

-- a note, which is no event: an empty line, or one that begins with `#`
abbrev pub is_note : List ℕ → Bool
is_note [] = true
is_note (byte ∷ bytes) = byte == 35

-- the lines that are no notes
abbrev pub without_notes : List (List ℕ) → List (List ℕ)
without_notes [] = []
without_notes (line ∷ lines) = if is_note line then without_notes lines else line ∷ without_notes lines

-- but for notes the lines of these bytes are those of the events
pub record AreLinesOf (bytes : List ℕ) (events : List Event) : Type 0 where
  pub lines : List (List ℕ)
  pub cut : AreLines bytes lines
  pub own : without_notes lines ≡ map event_text events

-- the numbers of an event fit it: a hart's has 8 bits, and a process's 32
abbrev pub IsHeld : Event → Type 0
IsHeld (Dispatch hart pid) = (hart < 2 ^ 8) × (pid < 2 ^ 32)
IsHeld (Trap hart pid) = (hart < 2 ^ 8) × (pid < 2 ^ 32)

-- the line is that of no event
abbrev pub IsNoEvent : List ℕ → Type 0
IsNoEvent line = (event : Event) → IsHeld event → line ≢ event_text event

-- the line of this number, counted from 1, is no note and that of no event, and those before it are notes and those of events
pub record IsNoEventAt (bytes : List ℕ) (number : ℕ) : Type 0 where
  pub before : List (List ℕ)
  pub line : List ℕ
  pub after : List (List ℕ)
  pub lines : AreLines bytes (before ++ line ∷ after)
  pub events : List Event
  pub own : without_notes before ≡ map event_text events
  pub no_note : is_note line ≡ false
  pub none : IsNoEvent line
  pub counted : number ≡ length before + 1

-- a line adds its event to these, or is a note, which adds nothing
pub data AddsLine (line : List ℕ) (before after : List Event) : Type 0 where
  adds_event : (event : Event) → is_note line ≡ false → line ≡ event_text event → IsHeld event → after ≡ before ++ event ∷ [] → AddsLine line before after
  adds_nothing : is_note line ≡ true → after ≡ before → AddsLine line before after

-- why a line of this number adds nothing: it is no note and no event, or memory was refused
abbrev pub IsLineFault : List ℕ → ℕ → ScheduleFault → Type 0
IsLineFault line number (NoEvent at) = (at ≡ number) × (is_note line ≡ false) × IsNoEvent line
IsLineFault line number Memory = Unit {0}

-- why these bytes are no schedule
abbrev pub IsScheduleFault : List ℕ → ScheduleFault → Type 0
IsScheduleFault bytes (NoEvent number) = IsNoEventAt bytes number
IsScheduleFault bytes Memory = Unit {0}

abbrev pub HasNoSpace : List ℕ → Type 0
HasNoSpace text = All (λ byte. byte ≢ 32) text
