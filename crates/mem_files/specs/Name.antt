-- Names of files, their bytes, and the names that can be opened.
use Rattle.std.specs.Prelude.{ℕ, Bool, ◌&&◌, not, nat_le, ◌==◌, List, length}
use Rattle.std.specs.declared.cmp.Ordering.{Ordering}
use Rattle.std.specs.List.{list_all}
use Rattle.std.specs.Ordering.{nat_cmp}
use Rattle.std.specs.Cmp.Lexicographic.{slice_cmp}

abbrev pub Name : Type 0
Name = List ℕ

abbrev pub Bytes : Type 0
Bytes = List ℕ

-- byte order: the first byte that differs decides, and a name is below one that goes on from it
abbrev pub name_cmp : Name → Name → Ordering
name_cmp = slice_cmp nat_cmp

-- a byte that a name may have: neither `/` nor 0
abbrev pub is_name_byte : ℕ → Bool
is_name_byte byte = not (byte == 47) && not (byte == 0)

-- a name can be opened if it has 1 to 14 bytes, none of them `/` or 0
abbrev pub is_openable : Name → Bool
is_openable name = nat_le 1 (length name) && nat_le (length name) 14 && list_all is_name_byte name
