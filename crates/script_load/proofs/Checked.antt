-- The lines that were looked at are the first of the script, and the one after them is the first at fault.
use Rattle.std.proofs.Common.{◌≡◌, ℕ, ◌+◌, ◌≤◌, List, [], ◌∷◌, ◌++◌, length, length-append, sym, subst, arith, append_assoc}
use Rattle.std.specs.Prelude.{All}
use Rattle.std.proofs.lemmas.List.{append-nil}
use Rattle.std.proofs.lemmas.List.Elements.{All-push}
use Rattle.prog_parts.specs.Lines.{IsFirstLine, AreLines}
use Rattle.prog_parts.proofs.Cuts.{first_line_shorter, some_cut}
use Rattle.script_load.specs.Script.{IsFine, AllFine, IsFirstFaulty}

-- the lines up to rest are fine, and there are so many that the next one has this number
pub record IsCheckedTo (bytes rest : List ℕ) (number : ℕ) : Type 0 where
  pub before : List (List ℕ)
  pub completes : (later : List (List ℕ)) → AreLines rest later → AreLines bytes (before ++ later)
  pub fine : All IsFine before
  pub count : number ≡ length before + 1
  pub shorter : number + length rest ≤ length bytes + 1

pub checked_one : (bytes rest line after : List ℕ) (number : ℕ) → IsCheckedTo bytes rest number → IsFirstLine rest line after → IsFine line → IsCheckedTo bytes after (number + 1)
checked_one bytes rest line after number checked first fine =
    let shorter = first_line_shorter rest line after first in
    record {
      before = checked.before ++ line ∷ [];
      completes = λ later cut. subst (AreLines bytes) (sym (append_assoc checked.before (line ∷ []) later)) (checked.completes (line ∷ later) (after, first, cut));
      fine = All-push IsFine checked.before line checked.fine fine;
      count = omega (arith, checked.count, length-append checked.before (line ∷ []));
      shorter = omega (arith, checked.shorter);
    }

pub checked_all : (bytes rest : List ℕ) (number : ℕ) → IsCheckedTo bytes rest number → rest ≡ [] → AllFine bytes
checked_all bytes rest number checked none =
    (checked.before, subst (AreLines bytes) (append-nil checked.before) (checked.completes [] none), checked.fine)

-- every text is cut into lines
cuts_after : (bytes rest line after : List ℕ) (number : ℕ) (Reason : List ℕ → Type 0) → IsCheckedTo bytes rest number → IsFirstLine rest line after → (later : List (List ℕ)) → AreLines after later → Reason line → IsFirstFaulty bytes number Reason
cuts_after bytes rest line after number Reason checked first later cut reason = record {
  before = checked.before;
  line = line;
  after = later;
  cut = checked.completes (line ∷ later) (after, first, cut);
  fine = checked.fine;
  number = checked.count;
  reason = reason;
}

-- the line after rest is at fault
pub faulty : (bytes rest line after : List ℕ) (number : ℕ) (Reason : List ℕ → Type 0) → IsCheckedTo bytes rest number → IsFirstLine rest line after → Reason line → IsFirstFaulty bytes number Reason
faulty bytes rest line after number Reason checked first reason =
    let later = some_cut after in
    cuts_after bytes rest line after number Reason checked first later.0 later.1 reason
