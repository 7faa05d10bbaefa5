-- Where strips are on a sheet.
use Rattle.std.specs.Prelude.{ℕ, ◌+◌, ◌-◌, ◌^◌, min}
use Rattle.figure_strips.specs.declared.sheet.Sheet.{Sheet}
use Rattle.figure_strips.specs.declared.sheet.Sheet.TheVariants.{Page, Picture}

-- what is left of a sheet below a strip that is so high, with this gap: a page as it was, of a picture what begins where the strip and the gap
-- end, or with the greatest number where that is more
abbrev pub below : ℕ → Sheet → ℕ → Sheet
below gap Page height = Page
below gap (Picture top) height = Picture (min (top + height + gap) (2 ^ 64 - 1))
