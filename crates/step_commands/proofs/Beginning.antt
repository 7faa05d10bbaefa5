-- What the rest of a line begins with.
use Rattle.std.proofs.Common.{◌≡◌, ℕ, ◌<◌, ◌≤◌, List, true, false, length, drop, get_or, sym, subst}
use Rattle.std.proofs.lemmas.List.{drop_all, drop_more}
use Rattle.step_commands.specs.Lines.{BeginsBlank, BeginsSolid, is_blank}

pub solid_at : (line : List ℕ) (count : ℕ) → count < length line → is_blank (get_or line count 0) ≡ false → BeginsSolid (drop count line)
solid_at line count within is = subst BeginsSolid (sym (drop_more line count 0 within)) is

pub blank_at : (line : List ℕ) (count : ℕ) → count < length line → is_blank (get_or line count 0) ≡ true → BeginsBlank (drop count line)
blank_at line count within is = subst BeginsBlank (sym (drop_more line count 0 within)) is

pub solid_end : (line : List ℕ) (count : ℕ) → length line ≤ count → BeginsSolid (drop count line)
solid_end line count within = subst BeginsSolid (sym (drop_all count line within)) tt

pub blank_end : (line : List ℕ) (count : ℕ) → length line ≤ count → BeginsBlank (drop count line)
blank_end line count within = subst BeginsBlank (sym (drop_all count line within)) tt
