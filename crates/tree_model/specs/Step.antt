-- The steps of the machine, as a function of a choice: where a step is made, and of how many bytes.
use Rattle.std.specs.Prelude.{ℕ, zero, suc, ◌+◌, ◌-◌, min, Bool, true, false, not, ◌||◌, [], ◌∷◌, ◌++◌, length, take, drop, Option, Some, None}
use Rattle.sh_tree.specs.Tree.{Tree}
use Rattle.mem_files.specs.Name.{Name, Bytes}
use Rattle.mem_files.specs.Files.{FileMap, bytes_of}
use Rattle.user_calls.specs.declared.calls.Reply.TheVariants.{Done, Bytes as Bytes', Refused}
use Rattle.script_load.specs.declared.profile.Profile.{Profile}
use Rattle.tree_model.specs.Residual.{Running, Residual, done, todo, running, seq, piped, unopened, from, into, Position, moved_on, keeps_0, keeps_1}
use Rattle.tree_model.specs.Answers.{Kind, leaves, reads_input, writes_output, asks, kind_of, resumed, replied, files_after, answer}
use Rattle.tree_model.specs.Begin.{run_left, unfolded, opens_file, Opened}
use Rattle.tree_model.specs.Rules.{patched, is_gap}

-- here, with so many bytes of a read or a write; or inside the left or the right part
pub data Choice : Type 0 where
  here : ℕ → Choice
  on_left : Choice → Choice
  on_right : Choice → Choice

-- what a step did: what it put to descriptor 1, whether a write there was refused, how many bytes of the input it took, what
-- is left to do, and the files
pub record Move (X : Type 0) : Type 0 where
  pub wrote : Bytes
  pub refused : Bool
  pub took : ℕ
  pub next : X
  pub files : FileMap

abbrev pub quiet : {X : Type 0} → X → FileMap → Move X
quiet X F = record { wrote = []; refused = false; took = 0; next = X; files = F }

-- a read of the input: at its end no bytes; else at least one of those that are there, and at most as many as are asked for
abbrev pub read_input : ℕ → Running → ℕ → Bool → Bytes → FileMap → Move (Option Running)
read_input most run count true [] F = quiet (Some (resumed run (Bytes' []))) F
read_input most run count false [] F = quiet (Some run) F
read_input most run count ended (byte ∷ bytes) F =
    record (quiet (Some (resumed run (Bytes' (byte ∷ take (min count (most - 1)) bytes)))) F) { took = suc (length (take (min count (most - 1)) bytes)) }

-- these bytes were put to the output, and those are left of the write
abbrev pub put_some : Running → Bytes → Bytes → FileMap → Move (Option Running)
put_some run now [] F = record (quiet (Some (resumed run Done)) F) { wrote = now }
put_some run now (byte ∷ later) F = record (quiet (Some (record run { put = run.put + length now })) F) { wrote = now }

-- a write to the output, of which these bytes are left: refused only where no process reads it any more
abbrev pub write_output : Running → Bytes → ℕ → Bool → FileMap → Move (Option Running)
write_output run [] count closed F = quiet (Some (resumed run Done)) F
write_output run (byte ∷ left) zero true F = record (quiet (Some (resumed run Refused)) F) { refused = true }
write_output run (byte ∷ left) zero false F = quiet (Some run) F
write_output run (byte ∷ left) (suc count) closed F = put_some run (byte ∷ take count left) (drop count left) F

-- a program makes one call
abbrev pub act : Kind → Running → ℕ → Bool → Bool → Bytes → FileMap → Move (Option Running)
act leaves run count closed ended input F = quiet None F
act (reads_input most) run count closed ended input F = read_input most run count ended input F
act (writes_output bytes) run count closed ended input F = write_output run (drop run.put bytes) count closed F
act asks run count closed ended input F = quiet (Some (replied run (answer run F) F)) (files_after run (answer run F) F)

abbrev pub acts : Running → ℕ → Bool → Bool → Bytes → FileMap → Move (Option Running)
acts run count closed ended input F = act (kind_of run.turn.call) run count closed ended input F

abbrev pub run_move : Move (Option Running) → Move Residual
run_move move = record { wrote = move.wrote; refused = move.refused; took = move.took; next = run_left move.next; files = move.files }

abbrev pub open_move : Opened → Move Residual
open_move opened = quiet opened.next opened.files

-- what ended goes
abbrev pub seq_end : Residual → Tree → Residual
seq_end done later = todo later
seq_end X later = seq X later

abbrev pub piped_end : Bool → Residual → Bytes → Residual → Residual
piped_end lost done bytes done = done
piped_end lost X bytes Y = piped lost X bytes Y

abbrev pub from_end : Name → ℕ → Residual → Residual
from_end file at done = done
from_end file at X = from file at X

abbrev pub into_end : Name → Position → Residual → Residual
into_end file at done = done
into_end file at X = into file at X

-- a step of a part, as a step of the whole
abbrev pub seq_move : Tree → Move Residual → Move Residual
seq_move later move = record move { next = seq move.next later }

abbrev pub left_move : Bool → Bytes → Residual → Move Residual → Move Residual
left_move lost bytes Y move = record {
  wrote = [];
  refused = false;
  took = move.took;
  next = piped (lost || move.refused) move.next (bytes ++ move.wrote) Y;
  files = move.files;
}

abbrev pub right_move : Bool → Residual → Bytes → Move Residual → Move Residual
right_move lost X bytes move = record move { took = 0; next = piped lost X (drop move.took bytes) move.next }

abbrev pub from_move : Name → ℕ → Move Residual → Move Residual
from_move file at move = record move { took = 0; next = from file (at + move.took) move.next }

abbrev pub into_move : Name → Position → Move Residual → Move Residual
into_move file at move = record {
  wrote = [];
  refused = false;
  took = move.took;
  next = into file (moved_on at (length move.wrote)) move.next;
  files = patched move.files file at move.wrote;
}

-- a step; closed: no process reads what is put to descriptor 1 any more; ended: the input gets no more bytes than these. A
-- choice that fits nothing changes nothing. Here a pipe takes any number of bytes: the rules alone limit its room
abbrev pub step : Profile → Residual → Choice → Bool → Bool → Bytes → FileMap → Move Residual
step profile done c closed ended input F = quiet done F
step profile (todo tree) c closed ended input F = quiet (unfolded tree) F
step profile (running run) (here count) closed ended input F = run_move (acts run count closed ended input F)
step profile (running run) (on_left c) closed ended input F = quiet (running run) F
step profile (running run) (on_right c) closed ended input F = quiet (running run) F
step profile (seq X later) (here count) closed ended input F = quiet (seq_end X later) F
step profile (seq X later) (on_left c) closed ended input F = seq_move later (step profile X c closed ended input F)
step profile (seq X later) (on_right c) closed ended input F = quiet (seq X later) F
step profile (piped lost X bytes Y) (here count) closed ended input F = quiet (piped_end lost X bytes Y) F
step profile (piped lost X bytes Y) (on_left c) closed ended input F = left_move lost bytes Y (step profile X c (not (keeps_0 Y)) ended input F)
step profile (piped lost X bytes Y) (on_right c) closed ended input F = right_move lost X bytes (step profile Y c closed (not (keeps_1 X)) bytes F)
step profile (unopened mode file body) c closed ended input F = open_move (opens_file profile mode file body F)
step profile (from file at X) (here count) closed ended input F = quiet (from_end file at X) F
step profile (from file at X) (on_left c) closed ended input F = from_move file at (step profile X c closed true (drop at (bytes_of (F file))) F)
step profile (from file at X) (on_right c) closed ended input F = quiet (from file at X) F
step profile (into file at X) (here count) closed ended input F = quiet (into_end file at X) F
step profile (into file at X) (on_left c) closed ended input F = into_move file at (step profile X c (is_gap (F file) at) ended input F)
step profile (into file at X) (on_right c) closed ended input F = quiet (into file at X) F
