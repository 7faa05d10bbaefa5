-- Each tree is clear or has one first clash, and never both.
use Rattle.std.proofs.Common.{◌≡◌, ℕ, Bool, true, false, cond, List, [], ◌∷◌, ◌++◌, Option, Some, None, All, ◌⊎◌, inl, inr, refl, sym, ap, ◌∙◌}
use Rattle.std.specs.List.{find}
use Rattle.std.proofs.lemmas.List.Elements.{All-head, All-tail}
use Rattle.sh_tree.specs.Tree.{Tree, exec, redir, pipe, list, back}
use Rattle.conflict_check.specs.declared.conflict.ClashKind.{ClashKind}
use Rattle.conflict_check.specs.declared.conflict.ClashKind.TheVariants.{Enclosing, PipeSides}
use Rattle.conflict_check.specs.Clash.{shared, IsFirstShared, IsFirstClash, own_file, in_body, own_sides, left_of_pipe, right_of_pipe, left_of_list, right_of_list, behind}
use Rattle.conflict_check.specs.Clear.{is_touched, AreApart, IsClear}
use Rattle.conflict_check.specs.Occurrences.{occurrences, share_a_name}
use Rattle.conflict_check.proofs.Sharing.{apart_shares_none, first_shared, never, no_pairs, pair_found, same_name}

pub not_clear : {tree : Tree} {kind : ClashKind} {name : List ℕ} → IsFirstClash tree kind name → IsClear tree → ⊥
not_clear (own_file touched) clear = never (sym touched ∙ clear.0)
not_clear (in_body not first) clear = not_clear first clear.1
not_clear (own_sides {left = left} {right = right} {name = name} first) clear = apart_shares_none left right name clear.0 first.clashes
not_clear (left_of_pipe apart first) clear = not_clear first clear.1
not_clear (right_of_pipe apart before first) clear = not_clear first clear.2
not_clear (left_of_list first) clear = not_clear first clear.0
not_clear (right_of_list before first) clear = not_clear first clear.1
not_clear (behind first) clear = not_clear first clear

-- a search finds the first name that passes
find_at : (test : List ℕ → Bool) (before after : List (List ℕ)) (name : List ℕ) → All (λ other. test other ≡ false) before → test name ≡ true → find test (before ++ name ∷ after) ≡ Some name
find_at test [] after name earlier passes = ap (λ b. cond b (Some name) (find test after)) passes
find_at test (word ∷ before) after name earlier passes =
    ap (λ b. cond b (Some word) (find test (before ++ name ∷ after))) (All-head (λ other. test other ≡ false) word before earlier)
    ∙ find_at test before after name (All-tail (λ other. test other ≡ false) word before earlier) passes

is_found : (left right : Tree) (name : List ℕ) → IsFirstShared left right name → find (shared left right) (occurrences left) ≡ Some name
is_found left right name first = ap (find (shared left right)) first.split ∙ find_at (shared left right) first.before first.after name first.earlier first.clashes

one_shared : (left right : Tree) (name other : List ℕ) → IsFirstShared left right name → IsFirstShared left right other → name ≡ other
one_shared left right name other first second = same_name name other (sym (is_found left right name first) ∙ is_found left right other second)

not_apart : {P : Type 0} {left right : Tree} {name : List ℕ} → AreApart left right → IsFirstShared left right name → P
not_apart {left = left} {right = right} {name = name} apart first = absurd (apart_shares_none left right name apart first.clashes)

pub one_first : {tree : Tree} {kind other : ClashKind} {name another : List ℕ} → IsFirstClash tree kind name → IsFirstClash tree other another → (kind ≡ other) × (name ≡ another)
one_first (own_file a) (own_file b) = (refl, refl)
one_first (own_file a) (in_body not g) = absurd (never (sym a ∙ not))
one_first (in_body not f) (own_file b) = absurd (never (sym b ∙ not))
one_first (in_body not f) (in_body also g) = one_first f g
one_first (own_sides {left = left} {right = right} {name = name} f) (own_sides {name = other} g) = (refl, one_shared left right name other f g)
one_first (own_sides f) (left_of_pipe apart g) = not_apart apart f
one_first (own_sides f) (right_of_pipe apart clear g) = not_apart apart f
one_first (left_of_pipe apart f) (own_sides g) = not_apart apart g
one_first (left_of_pipe apart f) (left_of_pipe same g) = one_first f g
one_first (left_of_pipe apart f) (right_of_pipe same clear g) = absurd (not_clear f clear)
one_first (right_of_pipe apart clear f) (own_sides g) = not_apart apart g
one_first (right_of_pipe apart clear f) (left_of_pipe same g) = absurd (not_clear g clear)
one_first (right_of_pipe apart clear f) (right_of_pipe same also g) = one_first f g
one_first (left_of_list f) (left_of_list g) = one_first f g
one_first (left_of_list f) (right_of_list clear g) = absurd (not_clear f clear)
one_first (right_of_list clear f) (left_of_list g) = absurd (not_clear g clear)
one_first (right_of_list clear f) (right_of_list also g) = one_first f g
one_first (behind f) (behind g) = one_first f g

abbrev pub HasClash : Tree → Type 0
HasClash tree = (kind : ClashKind) × (name : List ℕ) × IsFirstClash tree kind name

-- what a node is, by what its parts are
at_redirection : (mode : _) (file : List ℕ) (body : Tree) → IsClear body ⊎ HasClash body → (touched : Bool) → is_touched mode file body ≡ touched → IsClear (redir mode file body) ⊎ HasClash (redir mode file body)
at_redirection mode file body inside true e = inr (Enclosing, file, own_file e)
at_redirection mode file body (inl clear) false e = inl (e, clear)
at_redirection mode file body (inr h) false e = inr (h.0, h.1, in_body e h.2)

at_sides : (left right : Tree) → share_a_name left right ≡ true → (found : Option (List ℕ)) → find (shared left right) (occurrences left) ≡ found → HasClash (pipe left right)
at_sides left right some None e = absurd (pair_found left right some e)
at_sides left right some (Some name) e = (PipeSides, name, own_sides (first_shared left right name e))

at_pipe : (left right : Tree) → IsClear left ⊎ HasClash left → IsClear right ⊎ HasClash right → (some : Bool) → share_a_name left right ≡ some → IsClear (pipe left right) ⊎ HasClash (pipe left right)
at_pipe left right l r true e = inr (at_sides left right e (find (shared left right) (occurrences left)) refl)
at_pipe left right (inr h) r false e = inr (h.0, h.1, left_of_pipe (no_pairs left right e) h.2)
at_pipe left right (inl clear) (inr h) false e = inr (h.0, h.1, right_of_pipe (no_pairs left right e) clear h.2)
at_pipe left right (inl clear) (inl also) false e = inl (no_pairs left right e, clear, also)

at_list : (left right : Tree) → IsClear left ⊎ HasClash left → IsClear right ⊎ HasClash right → IsClear (list left right) ⊎ HasClash (list left right)
at_list left right (inr h) r = inr (h.0, h.1, left_of_list h.2)
at_list left right (inl clear) (inr h) = inr (h.0, h.1, right_of_list clear h.2)
at_list left right (inl clear) (inl also) = inl (clear, also)

at_back : (body : Tree) → IsClear body ⊎ HasClash body → IsClear (back body) ⊎ HasClash (back body)
at_back body (inl clear) = inl clear
at_back body (inr h) = inr (h.0, h.1, behind h.2)

pub clear_or_clash : (tree : Tree) → IsClear tree ⊎ HasClash tree
clear_or_clash (exec words) = inl tt
clear_or_clash (redir mode file body) = at_redirection mode file body (clear_or_clash body) (is_touched mode file body) refl
clear_or_clash (pipe left right) = at_pipe left right (clear_or_clash left) (clear_or_clash right) (share_a_name left right) refl
clear_or_clash (list left right) = at_list left right (clear_or_clash left) (clear_or_clash right)
clear_or_clash (back body) = at_back body (clear_or_clash body)
