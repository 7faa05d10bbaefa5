-- The words of commands.
use Rattle.std.specs.Prelude.{◌≡◌, ◌≢◌, ℕ, ◌<◌, ◌^◌, ◌⊎◌, Bool, IsTrue, List, [], None, Option, Some, codes, false, nat_eq, true}
use Rattle.std.specs.Fmt.{decimal}
use Rattle.std.specs.List.{starts_with}
use Rattle.step_commands.specs.Lines.{IsCut}
use Rattle.step_commands.specs.declared.name.Name.{Name}
use Rattle.step_commands.specs.declared.name.Name.TheVariants as names
use Rattle.step_commands.specs.declared.command.Goal.{Goal}
use Rattle.step_commands.specs.declared.command.Goal.TheVariants as goals
use Rattle.step_commands.specs.declared.command.Command.{Command}
use Rattle.step_commands.specs.declared.command.Command.TheVariants.{Nothing, Turn, Go, Back, Until, Ps, Pipes, Fds, Files, Out, Why, Answers, Watch, Schedule, Save, Help, Quit}
use Rattle.step_commands.specs.declared.command.Mistake.{Mistake}
use Rattle.step_commands.specs.declared.meaning.Meant.{Meant}
use Rattle.step_commands.specs.declared.meaning.Meant.TheVariants as meant
use Rattle.step_commands.specs.declared.command.Mistake.TheVariants.{Unknown, Ambiguous, Misused, MoreThanNumber}

-- the word that names a command
abbrev pub word_of : Name → List ℕ
word_of names.Go = codes "go"
word_of names.Back = codes "back"
word_of names.Until = codes "until"
word_of names.Ps = codes "ps"
word_of names.Pipes = codes "pipes"
word_of names.Fds = codes "fds"
word_of names.Files = codes "files"
word_of names.Out = codes "out"
word_of names.Why = codes "why"
word_of names.Answers = codes "answers"
word_of names.Watch = codes "watch"
word_of names.Schedule = codes "schedule"
word_of names.Save = codes "save"
word_of names.Help = codes "help"
word_of names.Quit = codes "quit"

-- the word is another one for the name
abbrev pub IsAnother : List ℕ → Name → Type 0
IsAnother word name = ((word ≡ codes "undo") × (name ≡ names.Back)) ⊎ (((word ≡ codes "?") × (name ≡ names.Help)) ⊎ ((word ≡ codes "exit") × (name ≡ names.Quit)))

-- the bytes are a beginning of the word, or all of it
abbrev pub IsBeginning : List ℕ → List ℕ → Type 0
IsBeginning bytes word = IsTrue (starts_with nat_eq word bytes)

-- the bytes are a beginning of the name's word, and of no other name's
pub record BeginsOnly (bytes : List ℕ) (name : Name) : Type 0 where
  pub begins : IsBeginning bytes (word_of name)
  pub only : (other : Name) → IsBeginning bytes (word_of other) → other ≡ name

-- the bytes are a beginning of the words of two names
pub record IsAmbiguous (bytes : List ℕ) : Type 0 where
  pub one : Name
  pub other : Name
  pub differ : one ≢ other
  pub begins_one : IsBeginning bytes (word_of one)
  pub begins_other : IsBeginning bytes (word_of other)

-- the bytes are a beginning of no name's word
abbrev pub BeginsNothing : List ℕ → Type 0
BeginsNothing bytes = (name : Name) → IsBeginning bytes (word_of name) → ⊥

-- the word stands for the name
abbrev pub StandsFor : List ℕ → Name → Type 0
StandsFor word name = IsAnother word name ⊎ BeginsOnly word name

-- it stands for no name
abbrev pub StandsForNothing : List ℕ → Type 0
StandsForNothing word = BeginsNothing word × ((name : Name) → IsAnother word name → ⊥)

-- what a word stands for, by its beginning alone, and as a whole
abbrev pub IsBegun : List ℕ → Meant → Type 0
IsBegun word (meant.One name) = BeginsOnly word name
IsBegun word meant.Several = IsAmbiguous word
IsBegun word meant.Nothing = BeginsNothing word

abbrev pub IsMeaning : List ℕ → Meant → Type 0
IsMeaning word (meant.One name) = StandsFor word name
IsMeaning word meant.Several = IsAmbiguous word
IsMeaning word meant.Nothing = StandsForNothing word

-- a number that may be left out
abbrev pub number_word : Option ℕ → List ℕ
number_word None = []
number_word (Some number) = decimal number

-- the second word of `watch`
abbrev pub watch_word : Bool → List ℕ
watch_word true = codes "answers"
watch_word false = codes "off"

-- the words behind `until`; an empty one isn't there
abbrev pub goal_words : Goal → List ℕ × List ℕ
goal_words goals.Out = (codes "out", [])
goal_words (goals.Sleep pid) = (codes "sleep", decimal pid)
goal_words (goals.Exit pid) = (codes "exit", decimal pid)
goal_words goals.End = (codes "end", [])

-- the words of a command, at most three; an empty one isn't there
abbrev pub spelled : Command → List ℕ × List ℕ × List ℕ
spelled Nothing = ([], [], [])
spelled (Turn pid) = (decimal pid, [], [])
spelled (Go pid) = (codes "go", decimal pid, [])
spelled (Back turns) = (codes "back", number_word turns, [])
spelled (Until goal) = (codes "until", (goal_words goal).0, (goal_words goal).1)
spelled Ps = (codes "ps", [], [])
spelled Pipes = (codes "pipes", [], [])
spelled (Fds pid) = (codes "fds", decimal pid, [])
spelled Files = (codes "files", [], [])
spelled Out = (codes "out", [], [])
spelled (Why pid) = (codes "why", decimal pid, [])
spelled (Answers states) = (codes "answers", number_word states, [])
spelled (Watch is_on) = (codes "watch", watch_word is_on, [])
spelled Schedule = (codes "schedule", [], [])
spelled (Save path) = (codes "save", path.now, [])
spelled Help = (codes "help", [], [])
spelled Quit = (codes "quit", [], [])

-- the word is this one, or one that stands for the name whose word this is
abbrev pub MayStandFor : List ℕ → List ℕ → Type 0
MayStandFor word whole = (word ≡ whole) ⊎ ((name : Name) × (whole ≡ word_of name) × StandsFor word name)

-- these are the words of the command, the first as one that stands for it
abbrev pub Spells : Command → List ℕ × List ℕ × List ℕ → Type 0
Spells command words = MayStandFor words.0 (spelled command).0 × ((spelled command).1 ≡ words.1) × ((spelled command).2 ≡ words.2)

-- these are the words of the line, the first as one that stands for it, and there are no more
pub record SpellsOut (line : List ℕ) (words : List ℕ × List ℕ × List ℕ) : Type 0 where
  pub word : List ℕ
  pub stands : MayStandFor word words.0
  pub after_first : List ℕ
  pub after_second : List ℕ
  pub after_third : List ℕ
  pub left : List ℕ
  pub first : IsCut line word after_first
  pub second : IsCut after_first words.1 after_second
  pub third : IsCut after_second words.2 after_third
  pub last : IsCut after_third [] left

-- what is wrong with words of which this is the first: it stands for nothing and is no number, or for one of several names, or for the
-- name, or is a number
abbrev pub IsMistake : List ℕ → Mistake → Type 0
IsMistake first (Unknown word) = (word.now ≡ first) × StandsForNothing first × ((number : ℕ) → number < 2 ^ 64 → first ≢ decimal number)
IsMistake first (Ambiguous word) = (word.now ≡ first) × IsAmbiguous first
IsMistake first (Misused name) = StandsFor first name
IsMistake first MoreThanNumber = (number : ℕ) × (first ≡ decimal number)

-- the same of the first word of a line
pub record IsMistakeIn (line : List ℕ) (mistake : Mistake) : Type 0 where
  pub first : List ℕ
  pub rest : List ℕ
  pub cut : IsCut line first rest
  pub is : IsMistake first mistake
