-- Tests of tables, one at a time.
use Rattle.std.proofs.Common.{◌≡◌, ◌≢◌, ℕ, ◌+◌, ◌-◌, ◌<◌, Bool, pos, negsuc, List, [], ◌∷◌, ◌++◌, Option, Some, None, length, drop, get_or, refl, sym, ◌∙◌, ap, arith, map, string_bytes, append_assoc, length-append}
use Rattle.std.specs.Prelude.{All}
use Rattle.std.proofs.lemmas.List.{map-append, get_or-map, get_or_append_left, get_or-append_right, length-map}
use Rattle.std.proofs.lemmas.Option.{same_Some, none-some}
use Rattle.toml.specs.Data.{Data, Items, Members, string, integer, float, boolean, datetime, array, table, no_items, item, as_array, as_str, as_table}
use Rattle.toml.specs.View.{view, items_view}
use Rattle.toml.specs.declared.value.Value.{Value}
use Rattle.toml.proofs.Views.{items_view-drop}
use Rattle.suite_file.specs.Entries.{IsNumber, IsTruth}
use Rattle.suite_file.specs.Suites.{AreLimits, AreTests, HaveOwnNames, IsTest}
use Rattle.suite_file.specs.declared.suite.Limits.{Limits}
use Rattle.suite_file.specs.declared.suite.SuiteTest.{SuiteTest}

abbrev pub name_of : SuiteTest → List ℕ
name_of test = string_bytes test.name

abbrev pub names : List SuiteTest → List (List ℕ)
names tests = map name_of tests

-- one more test before the others
pub tests_step : (suite : Limits) (vs : List Value) (i : ℕ) (v : Value) (said : Members) (test : SuiteTest) (more : List SuiteTest) → i < length vs → v ≡ get_or vs i v → view v ≡ table said
    → IsTest suite said test → AreTests suite (items_view (drop (i + 1) vs)) more → AreTests suite (items_view (drop i vs)) (test ∷ more)
tests_step suite vs i v said test more within at is one left = rw (items_view-drop vs i v within, ← at, is) (one, left)

pub none_of : {A : Type 0} (found : Option A) → ((x : A) → found ≡ Some x → ⊥) → found ≡ None
none_of None h = refl
none_of (Some x) h = absurd (h x refl)

-- two lists of tables that stand at one key
pub same_array : (a b : Items) → Some (array a) ≡ Some (array b) → a ≡ b
same_array a b e = same_Some a b (ap as_array (same_Some (array a) (array b) e))

same_string : (a b : List ℕ) → Some (string a) ≡ Some (string b) → a ≡ b
same_string a b e = same_Some a b (ap as_str (same_Some (string a) (string b) e))

same_name : (suite : Limits) (said : Members) (test other : SuiteTest) → IsTest suite said test → IsTest suite said other → name_of other ≡ name_of test
same_name suite said test other a b = same_string (name_of other) (name_of test) (sym b.name ∙ a.name)

-- what is left, without its first test
pub tests_left : (suite : Limits) (vs : List Value) (i : ℕ) (v : Value) (said : Members) (test : SuiteTest) (tests all more : List SuiteTest) → i < length vs → v ≡ get_or vs i v → view v ≡ table said
    → IsTest suite said test → AreTests suite (items_view (drop i vs)) more → names all ≡ names tests ++ names more
    → (others : List SuiteTest) × AreTests suite (items_view (drop (i + 1) vs)) others × (names all ≡ names (tests ++ test ∷ []) ++ names others)
tests_left suite vs i v said test tests all more within at is one are same = go more (rw (items_view-drop vs i v within, ← at, is) at are) same where
  go : (more : List SuiteTest) → AreTests suite (item (table said) (items_view (drop (i + 1) vs))) more → names all ≡ names tests ++ names more
      → (others : List SuiteTest) × AreTests suite (items_view (drop (i + 1) vs)) others × (names all ≡ names (tests ++ test ∷ []) ++ names others)
  go [] h same = absurd h
  go (other ∷ others) h same = (others, h.1, same ∙ ap (λ n. names tests ++ n ∷ names others) (same_name suite said test other one h.0) ∙ sym (append_assoc (names tests) (name_of test ∷ []) (names others)) ∙ ap (λ l. l ++ names others) (sym (map-append name_of tests (test ∷ []))))

-- the first of what is left is no test
pub no_test : (suite : Limits) (vs : List Value) (i : ℕ) (v : Value) (said : Members) (more : List SuiteTest) → i < length vs → v ≡ get_or vs i v → view v ≡ table said
    → ((test : SuiteTest) → ¬ IsTest suite said test) → ¬ AreTests suite (items_view (drop i vs)) more
no_test suite vs i v said more within at is wrong are = go more (rw (items_view-drop vs i v within, ← at, is) at are) where
  go : (more : List SuiteTest) → ¬ AreTests suite (item (table said) (items_view (drop (i + 1) vs))) more
  go [] h = h
  go (other ∷ others) h = wrong other h.0

no_table_first : (suite : Limits) (entry : Data) (rest : Items) (more : List SuiteTest) → None ≡ as_table entry → ¬ AreTests suite (item entry rest) more
no_table_first suite (table said) rest more e h = none-some _ e
no_table_first suite (string _) rest more e h = h
no_table_first suite (integer _) rest more e h = h
no_table_first suite (float _) rest more e h = h
no_table_first suite (boolean _) rest more e h = h
no_table_first suite (datetime _) rest more e h = h
no_table_first suite (array _) rest more e h = h

-- it isn't even a table
pub no_test_table : (suite : Limits) (vs : List Value) (i : ℕ) (v : Value) (more : List SuiteTest) → i < length vs → v ≡ get_or vs i v → None ≡ as_table (view v) → ¬ AreTests suite (items_view (drop i vs)) more
no_test_table suite vs i v more within at e are = no_table_first suite (view v) (items_view (drop (i + 1) vs)) more e (rw (items_view-drop vs i v within, ← at) at are)

own_before : (all tests : List SuiteTest) (name : List ℕ) (rest : List (List ℕ)) → names all ≡ names tests ++ name ∷ rest → HaveOwnNames all → All (λ other. name_of other ≢ name) tests
own_before all tests name rest same own k d within equal =
    let long : length all ≡ length (names tests ++ name ∷ rest) = sym (length-map all name_of) ∙ ap length same in
    let shorter : length tests < length all = omega (arith, long, length-map tests name_of, length-append (names tests) (name ∷ rest)) in
    let inside : k < length (names tests) = omega (arith, within, length-map tests name_of) in
    let here : name_of (get_or all k d) ≡ name_of (get_or tests k d) =
    sym (get_or-map name_of all k d [] (omega (arith, within, shorter))) ∙ ap (λ l. get_or l k []) same ∙ get_or_append_left (names tests) (name ∷ rest) [] k inside ∙ get_or-map name_of tests k d [] within in
    let zero_more : length tests - length tests ≡ 0 = omega arith in
    let last : name_of (get_or all (length tests) d) ≡ name =
    sym (get_or-map name_of all (length tests) d [] shorter) ∙ ap (λ l. get_or l (length tests) []) same ∙ get_or-append_right (names tests) (name ∷ rest) (length tests) (length tests) [] (length-map tests name_of) (omega arith) ∙ ap (λ n. get_or (name ∷ rest) n []) zero_more in
    own k (length tests) d within shorter (here ∙ equal ∙ sym last)

-- the first of what is left has a name that an earlier one has
pub no_own_name : (suite : Limits) (vs : List Value) (i : ℕ) (v : Value) (said : Members) (test : SuiteTest) (tests all more : List SuiteTest) → i < length vs → v ≡ get_or vs i v → view v ≡ table said
    → IsTest suite said test → AreTests suite (items_view (drop i vs)) more → names all ≡ names tests ++ names more → ¬ All (λ other. name_of other ≢ name_of test) tests → ¬ HaveOwnNames all
no_own_name suite vs i v said test tests all more within at is one are same twice own = go more (rw (items_view-drop vs i v within, ← at, is) at are) same where
  go : (more : List SuiteTest) → AreTests suite (item (table said) (items_view (drop (i + 1) vs))) more → names all ≡ names tests ++ names more → ⊥
  go [] h same = h
  go (other ∷ others) h same = twice (rw (← same_name suite said test other one h.0) (own_before all tests (name_of other) (names others) same own))

-- tables of no tests are none
pub no_tables : (suite : Limits) (items : Items) → AreTests suite items [] → items ≡ no_items
no_tables suite no_items h = refl
no_tables suite (item (table said) rest) h = absurd h
no_tables suite (item (string _) rest) h = absurd h
no_tables suite (item (integer _) rest) h = absurd h
no_tables suite (item (float _) rest) h = absurd h
no_tables suite (item (boolean _) rest) h = absurd h
no_tables suite (item (datetime _) rest) h = absurd h
no_tables suite (item (array _) rest) h = absurd h

same_number : (least most other a b : ℕ) (entry : Option Data) → IsNumber least most entry other a → IsNumber least most entry other b → a ≡ b
same_number least most other a b None h k = h ∙ sym k
same_number least most other a b (Some (integer (pos n))) h k = h.0 ∙ sym k.0
same_number least most other a b (Some (integer (negsuc n))) h k = absurd h
same_number least most other a b (Some (string _)) h k = absurd h
same_number least most other a b (Some (float _)) h k = absurd h
same_number least most other a b (Some (boolean _)) h k = absurd h
same_number least most other a b (Some (datetime _)) h k = absurd h
same_number least most other a b (Some (array _)) h k = absurd h
same_number least most other a b (Some (table _)) h k = absurd h

same_truth : (other a b : Bool) (entry : Option Data) → IsTruth entry other a → IsTruth entry other b → a ≡ b
same_truth other a b None h k = h ∙ sym k
same_truth other a b (Some (boolean c)) h k = h ∙ sym k
same_truth other a b (Some (string _)) h k = absurd h
same_truth other a b (Some (integer _)) h k = absurd h
same_truth other a b (Some (float _)) h k = absurd h
same_truth other a b (Some (datetime _)) h k = absurd h
same_truth other a b (Some (array _)) h k = absurd h
same_truth other a b (Some (table _)) h k = absurd h

-- a table says no two limits
pub same_limits : (said : Members) (others a b : Limits) → AreLimits said others a → AreLimits said others b → a ≡ b
same_limits said others a b h k = λ i. record {
  appends = same_truth _ _ _ _ h.appends k.appends i;
  bytes = same_number _ _ _ _ _ _ h.bytes k.bytes i;
  states = same_number _ _ _ _ _ _ h.states k.states i;
  turns = same_number _ _ _ _ _ _ h.turns k.turns i;
  every_way = same_truth _ _ _ _ h.every_way k.every_way i;
}
