-- The words and names of a tree are texts of its line, so they are no longer.
use Rattle.std.proofs.Common.{◌≡◌, ℕ, ◌≤◌, List, [], ◌∷◌, length, length-take, length-drop, slice_range, Bool, true, refl, arith, le-leb}
use Rattle.std.specs.List.{list_all}
use Rattle.std.proofs.lemmas.Bool.{and_from, and_parts}
use Rattle.sh_lexer.specs.declared.token.Kind.{Kind}
use Rattle.sh_lexer.specs.declared.token.Kind.TheVariants.{Word, Less, More, MoreMore, Bar, Amp, Semi, LeftParen, RightParen}
use Rattle.sh_lexer.specs.declared.token.Token.{Token}
use Rattle.sh_tree.specs.declared.tree.Mode.{Mode}
use Rattle.sh_tree.specs.Fault.{HasTree}
use Rattle.sh_tree.specs.Grammar.{reads, writes, writes_over, AreParts, parts_end, parts_word, parts_redir, wrapped, AreBacks, backs_end, backs_more, IsLine, line_last, line_more, IsPipe, pipe_last, pipe_more, IsExec, simple, block}
use Rattle.sh_tree.specs.Lexeme.{Lexeme, word, lexeme_by, lexeme_of, lexemes}
use Rattle.sh_tree.specs.Short.{is_short, is_short_tree}
use Rattle.sh_tree.specs.Tree.{Tree, exec, redir}

abbrev is_short_lexeme : Lexeme → Bool
is_short_lexeme (word text) = is_short text
is_short_lexeme t = true

abbrev all_short : List Lexeme → Bool
all_short ts = list_all is_short_lexeme ts

short_parts : {ts us : List Lexeme} {ws : List (List ℕ)} {rs : List (Mode × List ℕ)} → AreParts ts us ws rs → all_short ts ≡ true → (list_all is_short ws ≡ true) × (list_all (λ r. is_short r.1) rs ≡ true) × (all_short us ≡ true)
short_parts parts_end h = (refl, refl, h)
short_parts (parts_word {ts = ts} {w = w} {ws = ws} parts) h =
    let p = and_parts (is_short w) (all_short ts) h in
    let later = short_parts parts p.1 in
    (and_from (is_short w) (list_all is_short ws) p.0 later.0, later.1, later.2)
short_parts (parts_redir {ts = ts} {n = n} {rs = rs} reads parts) h =
    let p = and_parts (is_short n) (all_short ts) h in
    let later = short_parts parts p.1 in
    (later.0, and_from (is_short n) (list_all (λ r. is_short r.1) rs) p.0 later.1, later.2)
short_parts (parts_redir {ts = ts} {n = n} {rs = rs} writes parts) h =
    let p = and_parts (is_short n) (all_short ts) h in
    let later = short_parts parts p.1 in
    (later.0, and_from (is_short n) (list_all (λ r. is_short r.1) rs) p.0 later.1, later.2)
short_parts (parts_redir {ts = ts} {n = n} {rs = rs} writes_over parts) h =
    let p = and_parts (is_short n) (all_short ts) h in
    let later = short_parts parts p.1 in
    (later.0, and_from (is_short n) (list_all (λ r. is_short r.1) rs) p.0 later.1, later.2)

short_wrapped : (rs : List (Mode × List ℕ)) (t : Tree) → list_all (λ r. is_short r.1) rs ≡ true → is_short_tree t ≡ true → is_short_tree (wrapped rs t) ≡ true
short_wrapped [] t h s = s
short_wrapped (r ∷ rs) t h s =
    let p = and_parts (is_short r.1) (list_all (λ r. is_short r.1) rs) h in
    short_wrapped rs (redir r.0 r.1 t) p.1 (and_from (is_short r.1) (is_short_tree t) p.0 s)

short_backs : {us vs : List Lexeme} {t u : Tree} → AreBacks us vs t u → all_short us ≡ true → is_short_tree t ≡ true → (is_short_tree u ≡ true) × (all_short vs ≡ true)
short_backs backs_end h s = (s, h)
short_backs (backs_more b) h s = short_backs b h s

mutual
  short_line : {ts us : List Lexeme} {t : Tree} → IsLine ts us t → all_short ts ≡ true → (is_short_tree t ≡ true) × (all_short us ≡ true)
  short_line (line_last a b) h = let first = short_pipe a h in short_backs b first.1 first.0
  short_line (line_more {u = u} {r = r} a b e) h =
      let first = short_pipe a h in
      let after = short_backs b first.1 first.0 in
      let later = short_line e after.1 in
      (and_from (is_short_tree u) (is_short_tree r) after.0 later.0, later.1)

  short_pipe : {ts us : List Lexeme} {t : Tree} → IsPipe ts us t → all_short ts ≡ true → (is_short_tree t ≡ true) × (all_short us ≡ true)
  short_pipe (pipe_last a) h = short_exec a h
  short_pipe (pipe_more {t = t} {r = r} a b) h =
      let first = short_exec a h in
      let later = short_pipe b first.1 in
      (and_from (is_short_tree t) (is_short_tree r) first.0 later.0, later.1)

  short_exec : {ts us : List Lexeme} {t : Tree} → IsExec ts us t → all_short ts ≡ true → (is_short_tree t ≡ true) × (all_short us ≡ true)
  short_exec (simple {ws = ws} {rs = rs} a few) h = let p = short_parts a h in (short_wrapped rs (exec ws) p.1 p.0, p.2)
  short_exec (block {t = t} {rs = rs} a b) h =
      let inner = short_line a h in
      let p = short_parts b inner.1 in
      (short_wrapped rs t p.1 inner.0, p.2)

short_range : (line : List ℕ) (first past : ℕ) → length line ≤ 511 → is_short (slice_range line first past) ≡ true
short_range line first past fits = le-leb _ 511 (simp (length-take, length-drop) (omega arith))

short_by : (k : Kind) (text : List ℕ) → is_short text ≡ true → is_short_lexeme (lexeme_by k text) ≡ true
short_by Word text h = h
short_by Less text h = refl
short_by More text h = refl
short_by MoreMore text h = refl
short_by Bar text h = refl
short_by Amp text h = refl
short_by Semi text h = refl
short_by LeftParen text h = refl
short_by RightParen text h = refl

short_lexemes : (line : List ℕ) (ts : List Token) → length line ≤ 511 → all_short (lexemes line ts) ≡ true
short_lexemes line [] fits = refl
short_lexemes line (t ∷ ts) fits =
    and_from (is_short_lexeme (lexeme_of line t)) (all_short (lexemes line ts)) (short_by t.kind _ (short_range line t.first t.past fits)) (short_lexemes line ts fits)

pub short_tree : (line : List ℕ) (t : Tree) → length line ≤ 511 → HasTree line t → is_short_tree t ≡ true
short_tree line t fits has = (short_line has.2 (short_lexemes line has.0 fits)).0
