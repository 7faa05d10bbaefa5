-- What is left in an answer.
use Rattle.std.specs.Prelude.{◌≡◌, ℕ, []}
use Rattle.embed.specs.declared.fault.StartFault.{StartFault}
use Rattle.embed.specs.declared.fault.StartFault.TheVariants.{ScriptTooLong, InputTooLong, LineTooLong, ByteZero, BadName, TakenName, FileTooLong, TooManyFiles, Memory as start_memory}
use Rattle.embed.specs.declared.fault.EmbedFault.{EmbedFault}
use Rattle.embed.specs.declared.fault.EmbedFault.TheVariants.{Start, TooLarge, Memory, BadTurns, Spent, NoEvent, NotRunnable, NotRunning, Unfinished, BadOrder, BadStates}
use Rattle.xvsh_c.specs.declared.answer.Answer.{Answer}

abbrev pub start_number : StartFault → ℕ
start_number (FileTooLong n) = 2
start_number (LineTooLong n) = 3
start_number (ByteZero n) = 4
start_number (BadName n) = 5
start_number (TooManyFiles n) = 6
start_number start_memory = 8
start_number (TakenName n) = 15
start_number ScriptTooLong = 64
start_number InputTooLong = 65

abbrev pub start_place : StartFault → ℕ
start_place (FileTooLong n) = n
start_place (LineTooLong n) = n
start_place (ByteZero n) = n
start_place (BadName n) = n
start_place (TooManyFiles n) = n
start_place start_memory = 0
start_place (TakenName n) = n
start_place ScriptTooLong = 0
start_place InputTooLong = 0

-- the number of a fault: that of `docs/FORMATS.md` where it has one, and from 64 on else
abbrev pub number_of : EmbedFault → ℕ
number_of (Start fault) = start_number fault
number_of TooLarge = 7
number_of Memory = 8
number_of Spent = 9
number_of (NoEvent n) = 10
number_of (NotRunnable n) = 11
number_of (NotRunning n) = 12
number_of Unfinished = 13
number_of BadTurns = 66
number_of BadOrder = 67
number_of BadStates = 68

-- the line, the file or the event that it is about, or 0
abbrev pub place_of : EmbedFault → ℕ
place_of (Start fault) = start_place fault
place_of TooLarge = 0
place_of Memory = 0
place_of Spent = 0
place_of (NoEvent n) = n
place_of (NotRunnable n) = n
place_of (NotRunning n) = n
place_of Unfinished = 0
place_of BadTurns = 0
place_of BadOrder = 0
place_of BadStates = 0

-- the answer has no bytes
pub record HasNoBytes (answer : Answer) : Type 0 where
  pub out : answer.out.now ≡ []
  pub diag : answer.diag.now ≡ []
  pub events : answer.events.now ≡ []
  pub json : answer.json.now ≡ []
  pub block : answer.block.now ≡ []
  pub sizes : answer.sizes.now ≡ []

-- and reports nothing else
pub record IsNothing (answer : Answer) : Type 0 where
  pub bytes : HasNoBytes answer
  pub place : answer.place ≡ 0
  pub status : answer.status ≡ 0
  pub full : answer.full ≡ 0
  pub fine : answer.fine ≡ 0
  pub whole : answer.whole ≡ 0

-- the answer reports a fault, and has no bytes
pub record TellsFault (answer : Answer) (fault : EmbedFault) : Type 0 where
  pub bytes : HasNoBytes answer
  pub status : answer.status ≡ number_of fault
  pub place : answer.place ≡ place_of fault
