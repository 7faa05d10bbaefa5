-- A list of lexemes has one tree.
use Rattle.std.proofs.Common.{◌≡◌, ℕ, List, [], ◌∷◌, true, false, refl, sym, ◌∙◌, ap, subst}
use Rattle.sh_tree.specs.declared.tree.Mode.{Mode}
use Rattle.sh_tree.specs.Grammar.{IsMode, reads, writes, writes_over, AreParts, parts_end, parts_word, parts_redir, wrapped, AreBacks, backs_end, backs_more, IsLine, line_last, line_more, IsPipe, pipe_last, pipe_more, IsExec, simple, block, Derives}
use Rattle.sh_tree.specs.Lexeme.{Lexeme, word, less, more, more_more, bar, amp, semi, left, right}
use Rattle.sh_tree.specs.Reading.{may_follow_command, may_follow_pipe, may_follow_backs, may_follow_line}
use Rattle.sh_tree.specs.Tree.{Tree, exec, pipe, list}

differ : {P : Type 0} → false ≡ true → P
differ h = cc

no_mode : {k : Lexeme} {m : Mode} (ts : List Lexeme) → IsMode k m → may_follow_command (k ∷ ts) ≡ true → ⊥
no_mode ts reads h = differ h
no_mode ts writes h = differ h
no_mode ts writes_over h = differ h

one_mode : {k : Lexeme} {m n : Mode} → IsMode k m → IsMode k n → m ≡ n
one_mode reads reads = refl
one_mode writes writes = refl
one_mode writes_over writes_over = refl

pub one_parts : {ts us vs : List Lexeme} {ws xs : List (List ℕ)} {rs ss : List (Mode × List ℕ)} → AreParts ts us ws rs → AreParts ts vs xs ss → may_follow_command us ≡ true → may_follow_command vs ≡ true → (us ≡ vs) × (ws ≡ xs) × (rs ≡ ss)
one_parts parts_end parts_end p q = (refl, refl, refl)
one_parts parts_end (parts_word b) p q = differ p
one_parts parts_end (parts_redir m b) p q = absurd (no_mode _ m p)
one_parts (parts_word a) parts_end p q = differ q
one_parts (parts_word {w = w} a) (parts_word b) p q = let r = one_parts a b p q in (r.0, ap (λ ws. w ∷ ws) r.1, r.2)
one_parts (parts_word a) (parts_redir m b) p q = absurd (elim m [ ])
one_parts (parts_redir m a) parts_end p q = absurd (no_mode _ m q)
one_parts (parts_redir m a) (parts_word b) p q = absurd (elim m [ ])
one_parts (parts_redir m a) (parts_redir n b) p q = let r = one_parts a b p q in let modes = one_mode m n in let l = r.2 in (r.0, r.1, cc)

one_backs : {us vs ws : List Lexeme} {t u v : Tree} → AreBacks us vs t u → AreBacks us ws t v → may_follow_backs vs ≡ true → may_follow_backs ws ≡ true → (vs ≡ ws) × (u ≡ v)
one_backs backs_end backs_end p q = (refl, refl)
one_backs backs_end (backs_more b) p q = differ p
one_backs (backs_more a) backs_end p q = differ q
one_backs (backs_more a) (backs_more b) p q = one_backs a b p q

pipe_before_backs : {us vs : List Lexeme} {t u : Tree} → AreBacks us vs t u → may_follow_backs vs ≡ true → may_follow_pipe us ≡ true
pipe_before_backs {us = []} backs_end p = refl
pipe_before_backs {us = semi ∷ us} backs_end p = refl
pipe_before_backs {us = right ∷ us} backs_end p = refl
pipe_before_backs {us = amp ∷ us} backs_end p = refl
pipe_before_backs {us = word w ∷ us} backs_end p = p
pipe_before_backs {us = less ∷ us} backs_end p = p
pipe_before_backs {us = more ∷ us} backs_end p = p
pipe_before_backs {us = more_more ∷ us} backs_end p = p
pipe_before_backs {us = bar ∷ us} backs_end p = p
pipe_before_backs {us = left ∷ us} backs_end p = p
pipe_before_backs (backs_more b) p = refl

exec_before_pipe : (us : List Lexeme) → may_follow_pipe us ≡ true → may_follow_command us ≡ true
exec_before_pipe [] p = refl
exec_before_pipe (amp ∷ us) p = refl
exec_before_pipe (semi ∷ us) p = refl
exec_before_pipe (right ∷ us) p = refl
exec_before_pipe (bar ∷ us) p = refl
exec_before_pipe (word w ∷ us) p = p
exec_before_pipe (less ∷ us) p = p
exec_before_pipe (more ∷ us) p = p
exec_before_pipe (more_more ∷ us) p = p
exec_before_pipe (left ∷ us) p = p

backs_before_line : (us : List Lexeme) → may_follow_line us ≡ true → may_follow_backs us ≡ true
backs_before_line [] p = refl
backs_before_line (right ∷ us) p = refl
backs_before_line (semi ∷ us) p = refl
backs_before_line (amp ∷ us) p = p
backs_before_line (bar ∷ us) p = p
backs_before_line (word w ∷ us) p = p
backs_before_line (less ∷ us) p = p
backs_before_line (more ∷ us) p = p
backs_before_line (more_more ∷ us) p = p
backs_before_line (left ∷ us) p = p

-- no block begins as a simple command does
no_left : {ts us : List Lexeme} {ws : List (List ℕ)} {rs : List (Mode × List ℕ)} → AreParts (left ∷ ts) us ws rs → may_follow_command us ≡ true → ⊥
no_left parts_end p = differ p
no_left (parts_redir m b) p = elim m [ ]

tails : {a b : Lexeme} {us vs : List Lexeme} → a ∷ us ≡ b ∷ vs → us ≡ vs
tails h = cc

no_bar : {us vs : List Lexeme} → us ≡ bar ∷ vs → may_follow_pipe us ≡ true → ⊥
no_bar h p = let q = sym (ap may_follow_pipe h) ∙ p in differ q

no_semi : {us vs : List Lexeme} → us ≡ semi ∷ vs → may_follow_line us ≡ true → ⊥
no_semi h p = let q = sym (ap may_follow_line h) ∙ p in differ q

moved : {us ws vs : List Lexeme} {t u r : Tree} → us ≡ ws → t ≡ u → AreBacks ws vs u r → AreBacks us vs t r
moved {us = us} {ws = ws} {vs = vs} {t = t} {u = u} {r = r} e f b = subst (λ x. AreBacks x vs t r) (sym e) (subst (λ y. AreBacks ws vs y r) (sym f) b)

move_line : {us ws vs : List Lexeme} {t : Tree} → us ≡ ws → IsLine ws vs t → IsLine us vs t
move_line {vs = vs} {t = t} e b = subst (λ x. IsLine x vs t) (sym e) b

move_pipe : {us ws vs : List Lexeme} {t : Tree} → us ≡ ws → IsPipe ws vs t → IsPipe us vs t
move_pipe {vs = vs} {t = t} e b = subst (λ x. IsPipe x vs t) (sym e) b

move_parts : {us ws vs : List Lexeme} {rs : List (Mode × List ℕ)} → us ≡ ws → AreParts ws vs [] rs → AreParts us vs [] rs
move_parts {vs = vs} {rs = rs} e b = subst (λ x. AreParts x vs [] rs) (sym e) b

mutual
  one_line : {ts us vs : List Lexeme} {t u : Tree} → IsLine ts us t → IsLine ts vs u → may_follow_line us ≡ true → may_follow_line vs ≡ true → (us ≡ vs) × (t ≡ u)
  one_line {us = us} {vs = vs} (line_last a b) (line_last c d) p q =
      let pb = backs_before_line us p in
      let qb = backs_before_line vs q in
      let pipes = one_pipe a c (pipe_before_backs b pb) (pipe_before_backs d qb) in
      one_backs b (moved pipes.0 pipes.1 d) pb qb
  one_line {us = us} {vs = vs} (line_last a b) (line_more c d e) p q =
      let pb = backs_before_line us p in
      let pipes = one_pipe a c (pipe_before_backs b pb) (pipe_before_backs d refl) in
      let backs = one_backs b (moved pipes.0 pipes.1 d) pb refl in
      absurd (no_semi backs.0 p)
  one_line {us = us} {vs = vs} (line_more a b e) (line_last c d) p q =
      let qb = backs_before_line vs q in
      let pipes = one_pipe a c (pipe_before_backs b refl) (pipe_before_backs d qb) in
      let backs = one_backs b (moved pipes.0 pipes.1 d) refl qb in
      absurd (no_semi (sym backs.0) q)
  one_line {us = us} {vs = vs} (line_more a b e) (line_more c d f) p q =
      let pipes = one_pipe a c (pipe_before_backs b refl) (pipe_before_backs d refl) in
      let backs = one_backs b (moved pipes.0 pipes.1 d) refl refl in
      let later = one_line e (move_line (tails backs.0) f) p q in
      (later.0, (λ i. list (backs.1 i) (later.1 i)))

  one_pipe : {ts us vs : List Lexeme} {t u : Tree} → IsPipe ts us t → IsPipe ts vs u → may_follow_pipe us ≡ true → may_follow_pipe vs ≡ true → (us ≡ vs) × (t ≡ u)
  one_pipe {us = us} {vs = vs} (pipe_last a) (pipe_last c) p q = one_exec a c (exec_before_pipe us p) (exec_before_pipe vs q)
  one_pipe {us = us} {vs = vs} (pipe_last a) (pipe_more c d) p q =
      let execs = one_exec a c (exec_before_pipe us p) refl in
      absurd (no_bar execs.0 p)
  one_pipe {us = us} {vs = vs} (pipe_more a b) (pipe_last c) p q =
      let execs = one_exec a c refl (exec_before_pipe vs q) in
      absurd (no_bar (sym execs.0) q)
  one_pipe {us = us} {vs = vs} (pipe_more a b) (pipe_more c d) p q =
      let execs = one_exec a c refl refl in
      let later = one_pipe b (move_pipe (tails execs.0) d) p q in
      (later.0, (λ i. pipe (execs.1 i) (later.1 i)))

  one_exec : {ts us vs : List Lexeme} {t u : Tree} → IsExec ts us t → IsExec ts vs u → may_follow_command us ≡ true → may_follow_command vs ≡ true → (us ≡ vs) × (t ≡ u)
  one_exec (simple a few) (simple c less_few) p q =
      let parts = one_parts a c p q in
      (parts.0, (λ i. wrapped (parts.2 i) (exec (parts.1 i))))
  one_exec (simple a few) (block c d) p q = absurd (no_left a p)
  one_exec (block a b) (simple c few) p q = absurd (no_left c q)
  one_exec {us = us} {vs = vs} (block a b) (block c d) p q =
      let lines = one_line a c refl refl in
      let parts = one_parts b (move_parts (tails lines.0) d) p q in
      (parts.0, (λ i. wrapped (parts.2 i) (lines.1 i)))

pub one_tree : (ts : List Lexeme) (t u : Tree) → Derives ts t → Derives ts u → t ≡ u
one_tree ts t u a b = (one_line a b refl refl).1
