-- The grammar gives no simple command more than nine words.
use Rattle.std.proofs.Common.{◌≡◌, ℕ, List, [], ◌∷◌, length, true, le-leb}
use Rattle.std.proofs.lemmas.Bool.{and_from}
use Rattle.sh_tree.specs.declared.tree.Mode.{Mode}
use Rattle.sh_tree.specs.Fault.{HasTree}
use Rattle.sh_tree.specs.Grammar.{wrapped, AreBacks, backs_end, backs_more, IsLine, line_last, line_more, IsPipe, pipe_last, pipe_more, IsExec, simple, block}
use Rattle.sh_tree.specs.Lexeme.{Lexeme}
use Rattle.sh_tree.specs.Short.{has_few_words}
use Rattle.sh_tree.specs.Tree.{Tree, exec, redir}

few_wrapped : (rs : List (Mode × List ℕ)) (t : Tree) → has_few_words t ≡ true → has_few_words (wrapped rs t) ≡ true
few_wrapped [] t few = few
few_wrapped (r ∷ rs) t few = few_wrapped rs (redir r.0 r.1 t) few

few_backs : {us vs : List Lexeme} {t u : Tree} → AreBacks us vs t u → has_few_words t ≡ true → has_few_words u ≡ true
few_backs backs_end few = few
few_backs (backs_more b) few = few_backs b few

mutual
  few_line : {ts us : List Lexeme} {t : Tree} → IsLine ts us t → has_few_words t ≡ true
  few_line (line_last a b) = few_backs b (few_pipe a)
  few_line (line_more {u = u} {r = r} a b e) = and_from (has_few_words u) (has_few_words r) (few_backs b (few_pipe a)) (few_line e)

  few_pipe : {ts us : List Lexeme} {t : Tree} → IsPipe ts us t → has_few_words t ≡ true
  few_pipe (pipe_last a) = few_exec a
  few_pipe (pipe_more {t = t} {r = r} a b) = and_from (has_few_words t) (has_few_words r) (few_exec a) (few_pipe b)

  few_exec : {ts us : List Lexeme} {t : Tree} → IsExec ts us t → has_few_words t ≡ true
  few_exec (simple {ws = ws} {rs = rs} a few) = few_wrapped rs (exec ws) (le-leb (length ws) 9 few)
  few_exec (block {t = t} {rs = rs} a b) = few_wrapped rs t (few_line a)

pub few_words : (line : List ℕ) (t : Tree) → HasTree line t → has_few_words t ≡ true
few_words line t has = few_line has.2
