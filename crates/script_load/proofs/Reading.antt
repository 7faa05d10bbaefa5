-- The lines that were read are the first of the script.
use Rattle.std.proofs.Common.{◌≡◌, ℕ, List, [], ◌∷◌, ◌++◌, sym, subst, append_assoc}
use Rattle.std.specs.Prelude.{All}
use Rattle.std.specs.List.{AllZip}
use Rattle.std.proofs.lemmas.List.{append-nil}
use Rattle.script_load.specs.Line.{ScriptLine}
use Rattle.prog_parts.specs.Lines.{IsFirstLine, AreLines}
use Rattle.script_load.specs.Script.{IsFine, AllFine, IsLineOf, IsScript}
use Rattle.prog_parts.proofs.Cuts.{one_cut}

-- the lines up to rest are read
pub record IsReadTo (bytes rest : List ℕ) (lines : List ScriptLine) : Type 0 where
  pub before : List (List ℕ)
  pub completes : (later : List (List ℕ)) → AreLines rest later → AreLines bytes (before ++ later)
  pub each : AllZip IsLineOf before lines

all_zip_push : {X Y : Type 0} (R : X → Y → Type 0) (xs : List X) (ys : List Y) (x : X) (y : Y) → AllZip R xs ys → R x y → AllZip R (xs ++ x ∷ []) (ys ++ y ∷ [])
all_zip_push R [] [] x y all here = (here, tt)
all_zip_push R [] (b ∷ ys) x y all here = absurd all
all_zip_push R (a ∷ xs) [] x y all here = absurd all
all_zip_push R (a ∷ xs) (b ∷ ys) x y all here = (all.0, all_zip_push R xs ys x y all.1 here)

pub read_none : (bytes : List ℕ) → IsReadTo bytes bytes []
read_none bytes = record { before = []; completes = λ later cut. cut; each = tt }

pub read_one : (bytes rest text after : List ℕ) (lines : List ScriptLine) (line : ScriptLine) → IsReadTo bytes rest lines → IsFirstLine rest text after → IsLineOf text line → IsReadTo bytes after (lines ++ line ∷ [])
read_one bytes rest text after lines line read first is = record {
  before = read.before ++ text ∷ [];
  completes = λ later cut. subst (AreLines bytes) (sym (append_assoc read.before (text ∷ []) later)) (read.completes (text ∷ later) (after, first, cut));
  each = all_zip_push IsLineOf read.before lines text line read.each is;
}

pub read_all : (bytes rest : List ℕ) (lines : List ScriptLine) → IsReadTo bytes rest lines → rest ≡ [] → AllFine bytes → IsScript bytes lines
read_all bytes rest lines read none fine =
    let cut = subst (AreLines bytes) (append-nil read.before) (read.completes [] none) in
    record {
      texts = read.before;
      cut = cut;
      fine = subst (All IsFine) (one_cut bytes fine.0 read.before fine.1 cut) fine.2;
      each = read.each;
    }
