-- What mends a line, by a rule (own): the lines that stand in its place. A pipe's two sides run one after the other over a new file, as its
-- meaning has them; and a shell that waits for a command is what `;` is for. In a script's text `&`, `|`, `;` and parentheses are signs wherever they
-- stand (`user/sh.c`'s `gettoken`).
use Rattle.std.specs.Prelude.{ℕ, ◌+◌, ◌-◌, Bool, ◌&&◌, ◌==◌, if◌then◌else◌, [], ◌∷◌, ◌++◌, Option, Some, None, codes, drop, length, map, slice_index, take}
use Rattle.std.specs.List.{list_any}
use Rattle.mem_files.specs.Name.{Name, Bytes}
use Rattle.conflict_check.specs.declared.conflict.ClashKind.{ClashKind}
use Rattle.conflict_check.specs.declared.conflict.ClashKind.TheVariants.{PipeSides, Enclosing}
use Rattle.plain_run.specs.declared.reason.Reason.{Reason}
use Rattle.plain_run.specs.declared.reason.Reason.TheVariants.{Background, Clash, CutPipe, LooseInput}

-- a `;` in the place of `&`
abbrev pub waiting : ℕ → ℕ
waiting byte = if byte == 38 then 59 else byte

-- how many parentheses are open behind a byte
abbrev pub deeper : ℕ → ℕ → ℕ
deeper depth byte = if byte == 40 then depth + 1 else (if byte == 41 then depth - 1 else depth)

abbrev pub is_sign : Bytes → ℕ → Bool
is_sign signs byte = list_any (λ sign. sign == byte) signs

-- the place of the first of these signs outside parentheses, of which so many are open, in what stands behind so many bytes
abbrev pub sign_from : Bytes → ℕ → ℕ → Bytes → Option ℕ
sign_from signs count depth [] = None
sign_from signs count depth (byte ∷ bytes) =
    if depth == 0 && is_sign signs byte then Some count else sign_from signs (count + 1) (deeper depth byte) bytes

abbrev pub sign_place : Bytes → Bytes → Option ℕ
sign_place signs text = sign_from signs 0 0 text

-- without a blank at the beginning, and at the end
abbrev pub cut_begin : Bytes → Bytes
cut_begin [] = []
cut_begin (byte ∷ bytes) = if byte == 32 then bytes else byte ∷ bytes

abbrev pub cut_end : Bytes → Bytes
cut_end text = if slice_index text (length text - 1) == 32 then take (length text - 1) text else text

-- LEFT > NAME
abbrev pub into_file : Name → Bytes → Bytes
into_file name left = cut_end left ++ (codes " > " ++ name)

-- the first command of RIGHT, which ends at this place, < NAME, and what stands behind it
abbrev pub from_file_at : Name → Bytes → Option ℕ → Bytes
from_file_at name right None = cut_end right ++ (codes " < " ++ name)
from_file_at name right (Some at) = cut_end (take at right) ++ (codes " < " ++ (name ++ (codes " " ++ drop at right)))

abbrev pub from_file : Name → Bytes → Bytes
from_file name right = from_file_at name right (sign_place (codes "|;&") right)

-- LEFT | RIGHT as the lines LEFT > NAME and RIGHT < NAME, at this place of the `|`
abbrev pub over_file_at : Name → Bytes → Option ℕ → Option Bytes
over_file_at name text None = None
over_file_at name text (Some at) = Some (into_file name (take at text) ++ (10 ∷ from_file name (cut_begin (drop (at + 1) text))))

abbrev pub over_file : Name → Bytes → Option Bytes
over_file name text = over_file_at name text (sign_place (codes "|") text)

-- what stands in the place of the line of a reason: where a command runs behind `&`, the line with `;` in its place; where the sides of
-- a pipe clash, or its right side may stop early, the two sides over a file of this name, if a `|` stands outside parentheses
abbrev pub clash_mend : Name → ClashKind → Bytes → Option Bytes
clash_mend name PipeSides text = over_file name text
clash_mend name Enclosing text = None

abbrev pub mend_of : {A : _} → Name → Reason A → Bytes → Option Bytes
mend_of name (Background line) text = Some (map waiting text)
mend_of name (Clash line kind file) text = clash_mend name kind text
mend_of name (CutPipe line file again) text = over_file name text
mend_of name (LooseInput line user) text = over_file name text
