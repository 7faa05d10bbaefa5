-- Which events of a run are drawn.
use Rattle.std.specs.Prelude.{ℕ, ◌<◌, ◌≤◌, ◌+◌, Option, unwrap_or, max}
use Rattle.figure_strips.specs.declared.span.Bounds.{Bounds}
use Rattle.figure_strips.specs.declared.span.Span.{Span}

-- the event with this number is among them
pub record IsIn (span : Span) (number : ℕ) : Type 0 where
  pub begun : span.first ≤ number
  pub not_past : number < span.past

-- the event with this number is one of so many, is within the bounds, and less than so many behind the first of these
pub record IsDrawn (most : ℕ) (bounds : Bounds) (events number : ℕ) : Type 0 where
  pub counted : 1 ≤ number
  pub there : number ≤ events
  pub begun : unwrap_or bounds.from 1 ≤ number
  pub not_past : number ≤ unwrap_or bounds.to number
  pub room : number < max (unwrap_or bounds.from 1) 1 + most
