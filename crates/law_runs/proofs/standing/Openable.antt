-- A name that can be opened is handed over whole.
use Rattle.std.proofs.Common.{◌≡◌, ◌⊎◌, inl, inr, ℕ, ◌<◌, ◌≤◌, true, length, arith, refl, sym, ap, ◌∙◌}
use Rattle.std.proofs.lemmas.Bool.{cases_lt, both_ways}
use Rattle.std.proofs.lemmas.List.{length-take, take_all}
use Rattle.user_calls.specs.Limits.{block_size}
use Rattle.mem_files.specs.Name.{Name, is_openable}
use Rattle.user_progs.specs.Turn.{block}
use Rattle.user_progs.proofs.Blocks.{too_long}

pub same_openable : (name : Name) → is_openable (block name) ≡ is_openable name
same_openable name = by (cases_lt block_size (length name))
  where
    size : block_size ≡ 1024
    size = refl

    by : (block_size < length name) ⊎ (length name ≤ block_size) → is_openable (block name) ≡ is_openable name
    by (inl long) = too_long (block name) (omega (arith, size, long, length-take {A = ℕ} block_size name)) ∙ sym (too_long name (omega (arith, size, long)))
    by (inr short) = ap is_openable (take_all block_size name short)

pub whole : (name : Name) → is_openable name ≡ true → block name ≡ name
whole name good = by (cases_lt block_size (length name))
  where
    size : block_size ≡ 1024
    size = refl

    by : (block_size < length name) ⊎ (length name ≤ block_size) → block name ≡ name
    by (inl long) = absurd (both_ways (is_openable name) (too_long name (omega (arith, size, long))) good)
    by (inr short) = take_all block_size name short
