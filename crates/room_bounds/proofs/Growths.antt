-- What a script's files grow by.
use Rattle.std.proofs.Common.{◌≡◌, inl, inr, ℕ, ◌+◌, ◌<◌, ◌≤◌, Bool, true, false, List, length, refl, ap, arith}
use Rattle.std.specs.Str.{bytes_eq}
use Rattle.mem_files.specs.Name.{Bytes}
use Rattle.mem_files.specs.Files.{FileMap}
use Rattle.script_load.specs.Line.{ScriptLine}
use Rattle.meaning_model.specs.Meaning.{script_tree}
use Rattle.tree_model.specs.FilesAhead.{sizes}
use Rattle.room_model.specs.Place.{counted_if}
use Rattle.room_model.specs.Sizes.{KeepsWithin, to_file}
use Rattle.room_bounds.specs.Growth.{IsGrowth, IsLeastGrowth, every_name, grown_where, is_written, to_files}
use Rattle.room_bounds.proofs.Places.{place_more, unwritten}
use Rattle.room_bounds.proofs.Linear.{Follows, place_follows, sizes_follow}

counted_more : (c : Bool) (m n : ℕ) → m ≤ n → counted_if c m ≤ counted_if c n
counted_more true m n less = less
counted_more false m n less = omega arith

module _ (lines : List ScriptLine) (input : Bytes) (F : FileMap) where
  pub keeps : (more : ℕ) → IsGrowth lines input F more → KeepsWithin lines input F (grown_where lines F more)
  keeps more enough name = by (is_written lines name) refl
    where
      by : (c : Bool) → is_written lines name ≡ c → sizes F name + to_file name lines input (grown_where lines F more) ≤ sizes F name + counted_if c more
      by true is =
          let file = place_more (bytes_eq name) every_name (λ f e. refl) false false (λ e. e) (script_tree lines) (length input) (length input) (grown_where lines F more) (grown_where lines F more) (omega arith) (λ f. omega arith) in
          omega (arith, file, enough)
      by false is = omega (arith, unwritten name (script_tree lines) (length input) (grown_where lines F more) is)

  -- what it writes where its files have grown by so many bytes
  abbrev pub after : ℕ → ℕ
  after more = to_files lines input (grown_where lines F more)

  pub after_more : (m n : ℕ) → m ≤ n → after m ≤ after n
  after_more m n less =
      place_more every_name every_name (λ f e. e) false false (λ e. e) (script_tree lines) (length input) (length input) (grown_where lines F m) (grown_where lines F n) (omega arith)
      (λ f. omega (arith, counted_more (is_written lines f) m n less))

  -- a first number, of files as they are, is no larger than any
  pub first_least : (other : ℕ) → IsGrowth lines input F other → after 0 ≤ other
  first_least other enough = omega (arith, after_more 0 other (omega arith), enough)

  pub least : (first : ℕ) → first ≡ after 0 → after first ≤ first → IsLeastGrowth lines input F first
  least first is enough = record { enough = enough; least = λ other more. omega (arith, is, first_least other more) }

  -- where a first number isn't enough, none is
  pub never : (first : ℕ) → first ≡ after 0 → first < after first → (other : ℕ) → IsGrowth lines input F other → ⊥
  never first is less other enough =
      by (place_follows (grown_where lines F) (sizes_follow lines F) every_name false (script_tree lines) (λ m. length input) (inl (λ m. refl)))
    where
      by : Follows after → ⊥
      by (inl stays) = omega (arith, stays first, is, less)
      by (inr grows) = omega (arith, grows other, enough, is, less, zero_grows)
        where
          zero_grows : first ≡ 0 → after first ≡ after 0
          zero_grows none = ap after none
