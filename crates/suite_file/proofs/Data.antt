-- What an entry is, from what the calls that look at it answer.
use Rattle.std.proofs.Common.{Bor, ◌≡◌, ◌≢◌, ℕ, suc, codes, List, [], ◌∷◌, Option, Some, None, length, refl, sym, ◌∙◌, ap, arith}
use Rattle.std.proofs.lemmas.Option.{same_Some, none-some}
use Rattle.std.specs.Ordering.{match_ordering, nat_cmp, is_eq}
use Rattle.std.specs.declared.cmp.Ordering.{Ordering}
use Rattle.std.specs.declared.cmp.Ordering.TheVariants.{Less, Equal, Greater}
use Rattle.std.specs.Cmp.Lexicographic.{slice_cmp, texts_ties, bytes_decides}
use Rattle.std.specs.Prelude.{IfNone, IfSome, String, string_bytes}
use Rattle.std.specs.declared.alloc.Global.{Global}
use Rattle.std.specs.Option.{option_map}
use Rattle.suite_file.specs.Entries.{IsTextIfThere, AreFilesOf, IsFileSource, IsSource, IsSourceOrEmpty}
use Rattle.suite_file.specs.declared.suite.NamedSource.{NamedSource}
use Rattle.suite_file.specs.declared.suite.Source.{Source}
use Rattle.toml.specs.View.{view, members_view}
use Rattle.toml.specs.declared.value.Value.{Value}
use Rattle.toml.specs.Data.{Data, Members, string, integer, float, boolean, datetime, array, table, member, no_members, as_str, as_table, get_member}

string-from : (entry : Data) (text : List ℕ) → Some text ≡ as_str entry → entry ≡ string text
string-from (string own) text e = ap string (same_Some _ _ (sym e))
string-from (integer _) text e = absurd (none-some _ (sym e))
string-from (float _) text e = absurd (none-some _ (sym e))
string-from (boolean _) text e = absurd (none-some _ (sym e))
string-from (datetime _) text e = absurd (none-some _ (sym e))
string-from (array _) text e = absurd (none-some _ (sym e))
string-from (table _) text e = absurd (none-some _ (sym e))

-- equal by the order of texts
same_key : (key own : List ℕ) → slice_cmp nat_cmp key own ≡ Equal → own ≡ key
same_key key own e = sym ((bytes_decides key own).0 (texts_ties key own ∙ ap is_eq e))

-- a table of one member in which a key is found
pub one_member : (key : List ℕ) (own : List ℕ) (entry found : Data) → Some found ≡ get_member key (member own entry no_members) → member own entry no_members ≡ member key found no_members
one_member key own entry found e = go (slice_cmp nat_cmp key own) refl e where
  go : (order : Ordering) → slice_cmp nat_cmp key own ≡ order → Some found ≡ match_ordering order None (Some entry) None → member own entry no_members ≡ member key found no_members
  go Less o h = absurd (none-some _ (sym h))
  go Equal o h = λ i. member (same_key key own o i) (same_Some _ _ (sym h) i) no_members
  go Greater o h = absurd (none-some _ (sym h))

-- the same of the entries of a map of one, which holds a text there
pub one_entry : (key text : List ℕ) (entries : List (String Global × Value)) (found : Data) → length entries ≡ 1 → Some found ≡ get_member key (members_view entries) → Some text ≡ as_str found → members_view entries ≡ member key (string text) no_members
one_entry key text [] found long at is = absurd (omega (arith, long))
one_entry key text (e ∷ []) found long at is = one_member key (string_bytes e.0) (view e.1) found at ∙ ap (λ d. member key d no_members) (string-from found text is)
one_entry key text (e ∷ f ∷ more) found long at is = absurd (omega (arith, long))

pub table-from : (entry : Data) (inner : Members) → Some inner ≡ as_table entry → entry ≡ table inner
table-from (table own) inner e = ap table (same_Some _ _ (sym e))
table-from (string _) inner e = absurd (none-some _ (sym e))
table-from (integer _) inner e = absurd (none-some _ (sym e))
table-from (float _) inner e = absurd (none-some _ (sym e))
table-from (boolean _) inner e = absurd (none-some _ (sym e))
table-from (datetime _) inner e = absurd (none-some _ (sym e))
table-from (array _) inner e = absurd (none-some _ (sym e))

pub text_there : (entry : Option Data) (text : Option (List ℕ)) → entry ≡ option_map string text → IsTextIfThere entry
text_there entry None e = rw e tt
text_there entry (Some text) e = rw e tt

members_count : Members → ℕ
members_count no_members = 0
members_count (member key entry rest) = suc (members_count rest)

count_of_view : (entries : List (String Global × Value)) → members_count (members_view entries) ≡ length entries
unfolding members_count
count_of_view [] = refl
count_of_view (e ∷ entries) = omega (arith, count_of_view entries)

-- a map that is of the one key `file`
pub file_at : (entries : List (String Global × Value)) (path : List ℕ) → members_view entries ≡ member (codes "file") (string path) no_members → get_member (codes "file") (members_view entries) ≡ Some (string path)
file_at entries path same = ap (get_member (codes "file")) same

pub file_alone : (entries : List (String Global × Value)) (path : List ℕ) → members_view entries ≡ member (codes "file") (string path) no_members → length entries ≡ 1
unfolding members_count
file_alone entries path same = sym (count_of_view entries) ∙ ap members_count same

-- what a map of one entry says that holds something at `file`, where that may be a text
pub file_text : (entries : List (String Global × Value)) (found : Data) (text : Option (Bor (List ℕ))) → length entries ≡ 1 → Some found ≡ get_member (codes "file") (members_view entries) → option_map (λ s. s.now) text ≡ as_str found
    → IfSome text (λ path. members_view entries ≡ member (codes "file") (string path.now) no_members) × IfNone text ((path : List ℕ) → members_view entries ≢ member (codes "file") (string path) no_members)
file_text entries found None long at is = (tt, λ path same. none-some _ (is ∙ ap as_str (same_Some _ _ (at ∙ file_at entries path same))))
file_text entries found (Some path) long at is = (one_entry (codes "file") path.now entries found long at is, tt)

-- the first of the files, and the others
pub first_file : (name : List ℕ) (entry : Data) (rest : Members) (files : List NamedSource) → AreFilesOf (member name entry rest) files → (source : Source) × IsFileSource entry source
first_file name entry rest [] h = absurd h
first_file name entry rest (file ∷ files) h = (file.source, h.1)

pub other_files : (name : List ℕ) (entry : Data) (rest : Members) (files : List NamedSource) → AreFilesOf (member name entry rest) files → (more : List NamedSource) × AreFilesOf rest more
other_files name entry rest [] h = absurd h
other_files name entry rest (file ∷ files) h = (files, h.2)

-- what is neither a text nor a table of the one key `file` gives no file
pub no_file : (entry : Data) → None ≡ as_str entry → ((path : List ℕ) → entry ≢ table (member (codes "file") (string path) no_members)) → (source : Source) → ¬ IsFileSource entry source
no_file (string _) e apart source h = none-some _ e
no_file (integer _) e apart source h = h
no_file (float _) e apart source h = h
no_file (boolean _) e apart source h = h
no_file (datetime _) e apart source h = h
no_file (array _) e apart source h = h
no_file (table no_members) e apart source h = h
no_file (table (member key (string path) no_members)) e apart source h = apart path (λ i. table (member (h.0 i) (string path) no_members))
no_file (table (member key (string path) (member _ _ _))) e apart source h = h
no_file (table (member key (integer _) rest)) e apart source h = h
no_file (table (member key (float _) rest)) e apart source h = h
no_file (table (member key (boolean _) rest)) e apart source h = h
no_file (table (member key (datetime _) rest)) e apart source h = h
no_file (table (member key (array _) rest)) e apart source h = h
no_file (table (member key (table _) rest)) e apart source h = h

-- where no source is there, no bytes are
pub no_source : (text path : Option Data) → IsSource text path None → (source : Source) → ¬ IsSource text path (Some source)
no_source None None h source is = none-some _ (sym is)
no_source None (Some (string _)) h source is = h
no_source None (Some (integer _)) h source is = h
no_source None (Some (float _)) h source is = h
no_source None (Some (boolean _)) h source is = h
no_source None (Some (datetime _)) h source is = h
no_source None (Some (array _)) h source is = h
no_source None (Some (table _)) h source is = h
no_source (Some (string _)) None h source is = h
no_source (Some (string _)) (Some _) h source is = h
no_source (Some (integer _)) path h source is = h
no_source (Some (float _)) path h source is = h
no_source (Some (boolean _)) path h source is = h
no_source (Some (datetime _)) path h source is = h
no_source (Some (array _)) path h source is = h
no_source (Some (table _)) path h source is = h

-- where the two entries are wrong, they give nothing, not even where they may be left out
pub no_input : (text path : Option Data) → ((source : Option Source) → ¬ IsSource text path source) → (source : Source) → ¬ IsSourceOrEmpty text path source
no_input None None wrong source h = wrong None refl
no_input None (Some path) wrong source h = wrong (Some source) h
no_input (Some text) path wrong source h = wrong (Some source) h
