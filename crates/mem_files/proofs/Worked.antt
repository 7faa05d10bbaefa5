-- The definitions on small cases, each by computing: names, bytes laid over others, and the list.
use Rattle.std.specs.Prelude.{◌≡◌, ◌*◌, true, false, [], ◌∷◌, Some, None, codes, refl}
use Rattle.mem_files.specs.Name.{is_openable}
use Rattle.mem_files.specs.Files.{files, no_files, with_file}
use Rattle.mem_files.specs.Overlay.{overlay, written}
use Rattle.mem_files.specs.Listing.{with_entry, count_with, max_size}

-- 14 bytes are the most, one the fewest, and `/` and 0 are none of them
longest_name : is_openable (codes "123456789abcde") ≡ true
longest_name = refl

too_long_a_name : is_openable (codes "123456789abcdef") ≡ false
too_long_a_name = refl

shortest_name : is_openable (codes "a") ≡ true
shortest_name = refl

no_name : is_openable [] ≡ false
no_name = refl

name_with_a_slash : is_openable (codes "a/b") ≡ false
name_with_a_slash = refl

name_with_a_zero : is_openable (97 ∷ 0 ∷ []) ≡ false
name_with_a_zero = refl

blocks : max_size ≡ 268 * 1024
blocks = refl

-- the shorter bytes over the longer, and the longer over the shorter
shorter_over : overlay (codes "J.") (codes "hello.") ≡ codes "J.llo."
shorter_over = refl

longer_over : overlay (codes "hello.") (codes "J.") ≡ codes "hello."
longer_over = refl

written_inside : written (codes "abcdef") 2 (codes "XY") ≡ codes "abXYef"
written_inside = refl

written_across : written (codes "abc") 2 (codes "XY") ≡ codes "abXY"
written_across = refl

written_at_end : written (codes "abc") 3 (codes "XY") ≡ codes "abcXY"
written_at_end = refl

written_with_a_gap : written (codes "abc") 4 (codes "XY") ≡ codes "abc"
written_with_a_gap = refl

-- the names come in byte order, in whatever order they were made
in_order : with_entry (with_entry (with_entry [] (codes "b") (codes "1")) (codes "ab") (codes "2")) (codes "aa") (codes "3")
    ≡ (codes "aa", codes "3") ∷ (codes "ab", codes "2") ∷ (codes "b", codes "1") ∷ []
in_order = refl

given_again : with_entry ((codes "a", codes "1") ∷ (codes "b", codes "2") ∷ []) (codes "b") (codes "3") ≡ (codes "a", codes "1") ∷ (codes "b", codes "3") ∷ []
given_again = refl

found : files ((codes "a", codes "1") ∷ (codes "b", codes "2") ∷ []) (codes "b") ≡ Some (codes "2")
found = refl

not_found : files ((codes "a", codes "1") ∷ (codes "b", codes "2") ∷ []) (codes "ab") ≡ None
not_found = refl

counted_new : count_with ((codes "a", codes "1") ∷ []) (codes "b") ≡ 2
counted_new = refl

counted_again : count_with ((codes "a", codes "1") ∷ []) (codes "a") ≡ 1
counted_again = refl

no_file_there : no_files (codes "a") ≡ None
no_file_there = refl

given_to_none : with_file no_files (codes "a") (codes "1") (codes "a") ≡ Some (codes "1")
given_to_none = refl
