-- A file that is written over, as the machine says it.
use Rattle.std.proofs.Common.{◌≡◌, ℕ, ◌+◌, Bool, true, false, [], ◌++◌, length, Some, refl, sym, ap, ◌∙◌}
use Rattle.std.specs.Prelude.{if◌then◌else◌, nat_lt, take, drop}
use mathlib.Core.Path.{fun_ext}
use Rattle.std.specs.Str.{bytes_eq}
use Rattle.std.proofs.lemmas.Bool.{lt-leb, ltb-true}
use Rattle.std.proofs.lemmas.Slice.Eq.{bytes_eq-Decides}
use Rattle.mem_files.specs.Name.{Name, Bytes}
use Rattle.mem_files.specs.Files.{FileMap, with_file}
use Rattle.mem_files.specs.Overlay.{written}
use Rattle.mem_files.proofs.Listed.{its_own}
use Rattle.tree_model.specs.Residual.{Position, at_byte, byte_in}
use Rattle.tree_model.specs.Rules.{patch, patched}

module _ (F : FileMap) (name : Name) (held : Bytes) (there : F name ≡ Some held) (at : Position) (bytes : Bytes) where
  patched_at : (other : Name) → patched F name at bytes other ≡ with_file F name (written held (byte_in at held) bytes) other
  patched_at other = by (bytes_eq other name) refl
    where
      by : (c : Bool) → bytes_eq other name ≡ c → (if c then patch (F other) at bytes else F other) ≡ (if c then Some (written held (byte_in at held) bytes) else F other)
      by true e = ap (λ o. patch o at bytes) (ap F ((bytes_eq-Decides other name).0 e) ∙ there)
      by false e = refl

  pub patched_is : patched F name at bytes ≡ with_file F name (written held (byte_in at held) bytes)
  patched_is = fun_ext patched_at

-- nothing is written behind a gap
pub patched_none : (F : FileMap) (name : Name) (held : Bytes) (at : ℕ) → F name ≡ Some held → nat_lt (length held) at ≡ true → F ≡ patched F name (at_byte at) []
patched_none F name held at there gap =
    fun_ext (λ other. sym (its_own F name other held there))
    ∙ ap (with_file F name) (sym (ap (λ (c : Bool). if c then take at held ++ ([] ++ drop (at + length {A = ℕ} []) held) else held) (lt-leb at (length held) (ltb-true (length held) at gap))))
    ∙ sym (patched_is F name held there (at_byte at) [])
