-- Steps of the descent: where its functions may be called, and what they have read.
use Rattle.std.proofs.Common.{◌≡◌, ◌≢◌, ℕ, zero, suc, ◌<◌, ◌≤◌, List, [], ◌∷◌, length, true, Some, None, slice_range, refl, sym, ◌∙◌, ap, subst, arith}
use Rattle.std.specs.Prelude.{All}
use Rattle.sh_lexer.specs.Tokens.{IsToken, AreTokensFrom}
use Rattle.sh_lexer.specs.declared.token.Kind.{Kind}
use Rattle.sh_lexer.specs.declared.token.Kind.TheVariants.{Word, Less, More, MoreMore, Bar, Amp, Semi, LeftParen, RightParen}
use Rattle.sh_lexer.specs.declared.token.Token.{Token}
use Rattle.sh_tree.specs.declared.automaton.Place.{Place}
use Rattle.sh_tree.specs.declared.automaton.State.{State}
use Rattle.sh_tree.specs.declared.automaton.State.TheVariants.{Begin, Simple, Target, Closed, ClosedTarget, Backed}
use Rattle.sh_tree.specs.declared.tree.Mode.{Mode}
use Rattle.sh_tree.specs.Automaton.{at_place, run, IsAccepted}
use Rattle.sh_tree.specs.Grammar.{reads, writes, writes_over, AreParts, parts_end, parts_word, parts_redir, wrapped, AreBacks, backs_more, IsLine, line_last, line_more, IsPipe, pipe_last, pipe_more, IsExec, simple, block, Derives}
use Rattle.sh_tree.specs.Lexeme.{Lexeme, word, less, more, more_more, bar, amp, semi, left, right, lexeme_by, lexemes}
use Rattle.sh_tree.specs.Reading.{may_follow_command, may_follow_pipe, may_follow_backs, may_follow_line, FirstIs, FirstIsNot, IsReady, MayBegin, MayBeginInside, MayBeginSimple, IsAfterPipe, Reads, IsInParts, ReadsWords, Wraps, IsBlockRest, Backs}
use Rattle.sh_tree.specs.Tree.{Tree, exec, pipe, list, back}
use Rattle.sh_tree.proofs.EachPart.{other_tokens}
use Rattle.sh_tree.proofs.Sound.{takes_backs, takes_line, takes_pipe, takes_exec, bar_after, amp_after, semi_after, right_after, ends_command-ends_line}
use Rattle.sh_tree.proofs.Unique.{one_parts}

-- the first token's lexeme
first_lexeme : (line : List ℕ) (kind : Kind) (ts rest : List Token) (f : FirstIs kind ts rest) → lexemes line ts ≡ lexeme_by kind (slice_range line f.token.first f.token.past) ∷ lexemes line rest
first_lexeme line kind ts rest f =
    ap (lexemes line) f.split ∙ ap (λ k. lexeme_by k (slice_range line f.token.first f.token.past) ∷ lexemes line rest) f.is_kind

fewer_first : {kind : Kind} (ts rest : List Token) → FirstIs kind ts rest → length ts ≡ suc (length rest)
fewer_first ts rest f = ap length f.split

tokens_first : (line : List ℕ) {kind : Kind} (ts rest : List Token) → FirstIs kind ts rest → All (IsToken line) ts → All (IsToken line) rest
tokens_first line ts rest f all = other_tokens line ts f.token rest f.split all

pipe_kind : (k : Kind) (text : List ℕ) (us : List Lexeme) → k ≢ Bar → may_follow_command (lexeme_by k text ∷ us) ≡ true → may_follow_pipe (lexeme_by k text ∷ us) ≡ true
pipe_kind Word text us other h = h
pipe_kind Less text us other h = h
pipe_kind More text us other h = h
pipe_kind MoreMore text us other h = h
pipe_kind Bar text us other h = absurd (other refl)
pipe_kind Amp text us other h = h
pipe_kind Semi text us other h = h
pipe_kind LeftParen text us other h = h
pipe_kind RightParen text us other h = h

backs_kind : (k : Kind) (text : List ℕ) (us : List Lexeme) → k ≢ Amp → may_follow_pipe (lexeme_by k text ∷ us) ≡ true → may_follow_backs (lexeme_by k text ∷ us) ≡ true
backs_kind Word text us other h = h
backs_kind Less text us other h = h
backs_kind More text us other h = h
backs_kind MoreMore text us other h = h
backs_kind Bar text us other h = h
backs_kind Amp text us other h = absurd (other refl)
backs_kind Semi text us other h = h
backs_kind LeftParen text us other h = h
backs_kind RightParen text us other h = h

line_kind : (k : Kind) (text : List ℕ) (us : List Lexeme) → k ≢ Semi → may_follow_backs (lexeme_by k text ∷ us) ≡ true → may_follow_line (lexeme_by k text ∷ us) ≡ true
line_kind Word text us other h = h
line_kind Less text us other h = h
line_kind More text us other h = h
line_kind MoreMore text us other h = h
line_kind Bar text us other h = h
line_kind Amp text us other h = h
line_kind Semi text us other h = absurd (other refl)
line_kind LeftParen text us other h = h
line_kind RightParen text us other h = h

right_kind : (k : Kind) (text : List ℕ) (us : List Lexeme) → k ≢ RightParen → may_follow_line (lexeme_by k text ∷ us) ≡ true → ⊥
right_kind Word text us other h = cc
right_kind Less text us other h = cc
right_kind More text us other h = cc
right_kind MoreMore text us other h = cc
right_kind Bar text us other h = cc
right_kind Amp text us other h = cc
right_kind Semi text us other h = cc
right_kind LeftParen text us other h = cc
right_kind RightParen text us other h = other refl

no_bar : (line : List ℕ) (ts : List Token) → FirstIsNot Bar ts → may_follow_command (lexemes line ts) ≡ true → may_follow_pipe (lexemes line ts) ≡ true
no_bar line [] other h = refl
no_bar line (t ∷ ts) other h = pipe_kind t.kind _ _ other h

pub no_amp : (line : List ℕ) (ts : List Token) → FirstIsNot Amp ts → may_follow_pipe (lexemes line ts) ≡ true → may_follow_backs (lexemes line ts) ≡ true
no_amp line [] other h = refl
no_amp line (t ∷ ts) other h = backs_kind t.kind _ _ other h

no_semi : (line : List ℕ) (ts : List Token) → FirstIsNot Semi ts → may_follow_backs (lexemes line ts) ≡ true → may_follow_line (lexemes line ts) ≡ true
no_semi line [] other h = refl
no_semi line (t ∷ ts) other h = line_kind t.kind _ _ other h

no_right : (line : List ℕ) (ts : List Token) → FirstIsNot RightParen ts → may_follow_line (lexemes line ts) ≡ true → lexemes line ts ≡ []
no_right line [] other h = refl
no_right line (t ∷ ts) other h = absurd (right_kind t.kind _ _ other h)

same_place : {p q : Place} → Some p ≡ Some q → p ≡ q
same_place h = cc

none_not_some : {p : Place} → None ≡ Some p → ⊥
none_not_some h = cc

-- what is accepted from one place is accepted from the place that the automaton reaches
moves : {d e : ℕ} {s u : State} {ts us : List Lexeme} → run d s ts ≡ run e u us → IsAccepted d s ts → IsAccepted e u us
moves same a = record { last = a.last; taken = sym same ∙ a.taken; ends = a.ends }

-- after a pipe
pub after_pipe : (line : List ℕ) (ts rest : List Token) (t : Tree) → MayBegin line ts → Reads IsPipe may_follow_pipe line ts rest t → IsAfterPipe line rest
after_pipe line ts rest t at r =
    let e = takes_pipe r.derived at.depth in
    record { depth = at.depth; state = e.0; ends = ends_command-ends_line e.0 e.1; ready = record { tokens = r.tokens; accepted = moves e.2 at.ready.accepted }; follows = r.follows }

-- and after one & more
backed_follow : (d : ℕ) (ts : List Lexeme) → IsAccepted d Backed ts → may_follow_pipe ts ≡ true
backed_follow d [] a = refl
backed_follow d (amp ∷ ts) a = refl
backed_follow d (semi ∷ ts) a = refl
backed_follow d (right ∷ ts) a = refl
backed_follow d (bar ∷ ts) a = absurd (none_not_some a.taken)
backed_follow d (word w ∷ ts) a = absurd (none_not_some a.taken)
backed_follow d (less ∷ ts) a = absurd (none_not_some a.taken)
backed_follow d (more ∷ ts) a = absurd (none_not_some a.taken)
backed_follow d (more_more ∷ ts) a = absurd (none_not_some a.taken)
backed_follow d (left ∷ ts) a = absurd (none_not_some a.taken)

pub after_back : (line : List ℕ) (ts rest : List Token) → FirstIs Amp ts rest → IsAfterPipe line ts → IsAfterPipe line rest
after_back line ts rest f at =
    let whole : lexemes line ts ≡ amp ∷ lexemes line rest = first_lexeme line Amp ts rest f in
    let accepted : IsAccepted at.depth Backed (lexemes line rest) = moves (ap (run at.depth at.state) whole ∙ amp_after at.depth at.state (lexemes line rest) at.ends) at.ready.accepted in
    record { depth = at.depth; state = Backed; ends = refl; ready = record { tokens = tokens_first line ts rest f at.ready.tokens; accepted = accepted }; follows = backed_follow at.depth (lexemes line rest) accepted }

pub one_back : (line : List ℕ) (ts rest : List Token) (us : List Lexeme) (t u : Tree) → FirstIs Amp ts rest → AreBacks (lexemes line rest) us (back t) u → AreBacks (lexemes line ts) us t u
one_back line ts rest us t u f backs = subst (λ l. AreBacks l us t u) (sym (first_lexeme line Amp ts rest f)) (backs_more backs)

pub fewer_back : {kind : Kind} (ts rest : List Token) → FirstIs kind ts rest → length rest < length ts
fewer_back ts rest f = omega (arith, fewer_first ts rest f)

-- a line of one pipe
pub line_alone : (line : List ℕ) (ts mid rest : List Token) (t u : Tree) → Reads IsPipe may_follow_pipe line ts mid t → Reads (Backs t) may_follow_backs line mid rest u → FirstIsNot Semi rest → Reads IsLine may_follow_line line ts rest u
line_alone line ts mid rest t u p b other = record {
  derived = line_last p.derived b.derived;
  follows = no_semi line rest other b.follows;
  tokens = b.tokens;
  fewer = omega (arith, p.fewer, b.fewer);
}

-- another line after a ;
pub after_semi : (line : List ℕ) (ts mid rest after : List Token) (t u : Tree) → MayBegin line ts → Reads IsPipe may_follow_pipe line ts mid t → Reads (Backs t) may_follow_backs line mid rest u → FirstIs Semi rest after → MayBegin line after × (length after < length ts)
after_semi line ts mid rest after t u at p b f =
    let here = after_pipe line ts mid t at p in
    let e = takes_backs b.derived here.depth here.state here.ends in
    let whole : lexemes line rest ≡ semi ∷ lexemes line after = first_lexeme line Semi rest after f in
    let over = e.2 ∙ ap (run here.depth e.0) whole ∙ semi_after here.depth e.0 (lexemes line after) e.1 in (
      record { depth = here.depth; ready = record { tokens = tokens_first line rest after f b.tokens; accepted = moves over here.ready.accepted } },
      omega (arith, p.fewer, b.fewer, fewer_first rest after f),
    )

pub line_then : (line : List ℕ) (ts mid rest after past : List Token) (t u v : Tree) → Reads IsPipe may_follow_pipe line ts mid t → Reads (Backs t) may_follow_backs line mid rest u → FirstIs Semi rest after → Reads IsLine may_follow_line line after past v → Reads IsLine may_follow_line line ts past (list u v)
line_then line ts mid rest after past t u v p b f l = record {
  derived = line_more p.derived (subst (λ x. AreBacks (lexemes line mid) x t u) (first_lexeme line Semi rest after f) b.derived) l.derived;
  follows = l.follows;
  tokens = l.tokens;
  fewer = omega (arith, p.fewer, b.fewer, fewer_first rest after f, l.fewer);
}

-- a pipe of one command
pub pipe_alone : (line : List ℕ) (ts rest : List Token) (t : Tree) → Reads IsExec may_follow_command line ts rest t → FirstIsNot Bar rest → Reads IsPipe may_follow_pipe line ts rest t
pipe_alone line ts rest t e other = record {
  derived = pipe_last e.derived;
  follows = no_bar line rest other e.follows;
  tokens = e.tokens;
  fewer = e.fewer;
}

-- another command after a |
pub after_bar : (line : List ℕ) (ts rest after : List Token) (t : Tree) → MayBegin line ts → Reads IsExec may_follow_command line ts rest t → FirstIs Bar rest after → MayBegin line after × (length after < length ts)
after_bar line ts rest after t at r f =
    let e = takes_exec r.derived at.depth in
    let whole : lexemes line rest ≡ bar ∷ lexemes line after = first_lexeme line Bar rest after f in
    let over = e.2 ∙ ap (run at.depth e.0) whole ∙ bar_after at.depth e.0 (lexemes line after) e.1 in (
      record { depth = at.depth; ready = record { tokens = tokens_first line rest after f r.tokens; accepted = moves over at.ready.accepted } },
      omega (arith, r.fewer, fewer_first rest after f),
    )

pub pipe_then : (line : List ℕ) (ts rest after past : List Token) (t u : Tree) → Reads IsExec may_follow_command line ts rest t → FirstIs Bar rest after → Reads IsPipe may_follow_pipe line after past u → Reads IsPipe may_follow_pipe line ts past (pipe t u)
pipe_then line ts rest after past t u e f p = record {
  derived = pipe_more (subst (λ x. IsExec (lexemes line ts) x t) (first_lexeme line Bar rest after f) e.derived) p.derived;
  follows = p.follows;
  tokens = p.tokens;
  fewer = omega (arith, e.fewer, fewer_first rest after f, p.fewer);
}

-- inside a block
pub inside_block : (line : List ℕ) (ts inside : List Token) → MayBegin line ts → FirstIs LeftParen ts inside → MayBeginInside line inside × (length inside < length ts)
inside_block line ts inside at f =
    let whole : lexemes line ts ≡ left ∷ lexemes line inside = first_lexeme line LeftParen ts inside f in (
      record { depth = at.depth; ready = record { tokens = tokens_first line ts inside f at.ready.tokens; accepted = moves (ap (run at.depth Begin) whole) at.ready.accepted } },
      omega (arith, fewer_first ts inside f),
    )

-- its end
pub closes : (line : List ℕ) (inside rest : List Token) (t : Tree) → MayBeginInside line inside → Reads IsLine may_follow_line line inside rest t → FirstIsNot RightParen rest → ⊥
closes line inside rest t at r other =
    let e = takes_line r.derived (suc at.depth) in
    let none = no_right line rest other r.follows in
    let ended = sym (ap (run (suc at.depth) e.0) none) ∙ sym e.2 ∙ at.ready.accepted.taken in
    let depth : suc at.depth ≡ 0 = ap (λ p. p.depth) (same_place ended) in
    absurd (omega (arith, depth))

after_block : (line : List ℕ) (inside rest after : List Token) (t : Tree) (at : MayBeginInside line inside) → Reads IsLine may_follow_line line inside rest t → FirstIs RightParen rest after → IsReady line at.depth Closed after
after_block line inside rest after t at r f =
    let e = takes_line r.derived (suc at.depth) in
    let whole : lexemes line rest ≡ right ∷ lexemes line after = first_lexeme line RightParen rest after f in
    let over = e.2 ∙ ap (run (suc at.depth) e.0) whole ∙ right_after at.depth e.0 (lexemes line after) e.1 in
    record { tokens = tokens_first line rest after f r.tokens; accepted = moves over at.ready.accepted }

pub redirections_after : (line : List ℕ) (inside rest after : List Token) (t : Tree) → MayBeginInside line inside → Reads IsLine may_follow_line line inside rest t → FirstIs RightParen rest after → IsInParts line after
redirections_after line inside rest after t at r f = record { depth = at.depth; state = Closed; inside = refl; ready = after_block line inside rest after t at r f }

-- no word is among the redirections of a block
closed_parts : {ts us : List Lexeme} {ws : List (List ℕ)} {rs : List (Mode × List ℕ)} (d : ℕ) → AreParts ts us ws rs → IsAccepted d Closed ts → ws ≡ []
closed_parts d parts_end a = refl
closed_parts d (parts_word parts) a = absurd (none_not_some a.taken)
closed_parts d (parts_redir reads parts) a = closed_parts d parts (record { last = a.last; taken = a.taken; ends = a.ends })
closed_parts d (parts_redir writes parts) a = closed_parts d parts (record { last = a.last; taken = a.taken; ends = a.ends })
closed_parts d (parts_redir writes_over parts) a = closed_parts d parts (record { last = a.last; taken = a.taken; ends = a.ends })

pub block_read : (line : List ℕ) (inside rest after past : List Token) (t u : Tree) → MayBeginInside line inside → Reads IsLine may_follow_line line inside rest t → FirstIs RightParen rest after → Reads (Wraps t) may_follow_command line after past u → Reads IsBlockRest may_follow_command line inside past u
block_read line inside rest after past t u at r f w =
    let none = closed_parts at.depth w.derived.parts (after_block line inside rest after t at r f).accepted in
    record {
      derived = (
        t,
        lexemes line after,
        w.derived.redirections,
        subst (λ x. IsLine (lexemes line inside) x t) (first_lexeme line RightParen rest after f) r.derived,
        subst (λ ws. AreParts (lexemes line after) (lexemes line past) ws w.derived.redirections) none w.derived.parts,
        w.derived.wraps,
      );
      follows = w.follows;
      tokens = w.tokens;
      fewer = omega (arith, r.fewer, fewer_first rest after f, w.fewer);
    }

pub exec_block : (line : List ℕ) (ts inside rest : List Token) (u : Tree) → FirstIs LeftParen ts inside → Reads IsBlockRest may_follow_command line inside rest u → Reads IsExec may_follow_command line ts rest u
exec_block line ts inside rest u f r =
    let (t, us, rs, body, parts, wraps) = r.derived in
    record {
      derived = subst (λ l. IsExec l (lexemes line rest) u) (sym (first_lexeme line LeftParen ts inside f)) (subst (IsExec (left ∷ lexemes line inside) (lexemes line rest)) (sym wraps) (block body parts));
      follows = r.follows;
      tokens = r.tokens;
      fewer = omega (arith, r.fewer, fewer_first ts inside f);
    }

-- a simple command
begin_simple : (d : ℕ) (ts : List Lexeme) → ((us : List Lexeme) → ts ≡ left ∷ us → ⊥) → IsAccepted d Begin ts → IsAccepted d (Simple 9) ts
begin_simple d [] other a = record { last = Simple 9; taken = ap (λ e. at_place e (Simple 9)) (ap (λ p. p.depth) (same_place a.taken)); ends = refl }
begin_simple d (left ∷ ts) other a = absurd (other ts refl)
begin_simple d (word w ∷ ts) other a = record { last = a.last; taken = a.taken; ends = a.ends }
begin_simple d (less ∷ ts) other a = record { last = a.last; taken = a.taken; ends = a.ends }
begin_simple d (more ∷ ts) other a = record { last = a.last; taken = a.taken; ends = a.ends }
begin_simple d (more_more ∷ ts) other a = record { last = a.last; taken = a.taken; ends = a.ends }
begin_simple d (bar ∷ ts) other a = record { last = a.last; taken = a.taken; ends = a.ends }
begin_simple d (amp ∷ ts) other a = record { last = a.last; taken = a.taken; ends = a.ends }
begin_simple d (semi ∷ ts) other a = record { last = a.last; taken = a.taken; ends = a.ends }
begin_simple d (right ∷ ts) other a = record { last = a.last; taken = a.taken; ends = a.ends }

left_kind : (k : Kind) (text : List ℕ) (us vs : List Lexeme) → k ≢ LeftParen → lexeme_by k text ∷ us ≡ left ∷ vs → ⊥
left_kind Word text us vs other h = cc
left_kind Less text us vs other h = cc
left_kind More text us vs other h = cc
left_kind MoreMore text us vs other h = cc
left_kind Bar text us vs other h = cc
left_kind Amp text us vs other h = cc
left_kind Semi text us vs other h = cc
left_kind LeftParen text us vs other h = other refl
left_kind RightParen text us vs other h = cc

no_left : (line : List ℕ) (ts : List Token) (us : List Lexeme) → FirstIsNot LeftParen ts → lexemes line ts ≡ left ∷ us → ⊥
no_left line [] us other h = cc
no_left line (t ∷ ts) us other h = left_kind t.kind _ _ us other h

pub simple_begins : (line : List ℕ) (ts : List Token) → MayBegin line ts → FirstIsNot LeftParen ts → MayBeginSimple line ts
simple_begins line ts at other = record {
  depth = at.depth;
  ready = record { tokens = at.ready.tokens; accepted = begin_simple at.depth (lexemes line ts) (λ us h. no_left line ts us other h) at.ready.accepted };
}

-- it has no more words than it may have
few_parts : {ts us : List Lexeme} {ws : List (List ℕ)} {rs : List (Mode × List ℕ)} (d n : ℕ) → AreParts ts us ws rs → IsAccepted d (Simple n) ts → length ws ≤ n
few_parts d n parts_end a = omega arith
few_parts d zero (parts_word parts) a = absurd (none_not_some a.taken)
few_parts d (suc n) (parts_word parts) a = let later = few_parts d n parts (record { last = a.last; taken = a.taken; ends = a.ends }) in omega (arith, later)
few_parts d n (parts_redir reads parts) a = few_parts d n parts (record { last = a.last; taken = a.taken; ends = a.ends })
few_parts d n (parts_redir writes parts) a = few_parts d n parts (record { last = a.last; taken = a.taken; ends = a.ends })
few_parts d n (parts_redir writes_over parts) a = few_parts d n parts (record { last = a.last; taken = a.taken; ends = a.ends })

pub simple_read : (line : List ℕ) (ts rest : List Token) (ws : List (List ℕ)) (t : Tree) → MayBeginSimple line ts → ReadsWords line ts ws → Reads (Wraps (exec ws)) may_follow_command line ts rest t → Reads IsExec may_follow_command line ts rest t
simple_read line ts rest ws t at words r =
    let same = one_parts words.parts r.derived.parts words.follows r.follows in
    let derived : IsExec (lexemes line ts) (lexemes line rest) (wrapped r.derived.redirections (exec r.derived.words)) = simple r.derived.parts (few_parts at.depth 9 r.derived.parts at.ready.accepted) in
    let tree : wrapped r.derived.redirections (exec r.derived.words) ≡ t = ap (λ xs. wrapped r.derived.redirections (exec xs)) (sym same.1) ∙ sym r.derived.wraps in
    record {
      derived = subst (IsExec (lexemes line ts) (lexemes line rest)) tree derived;
      follows = r.follows;
      tokens = r.tokens;
      fewer = r.fewer;
    }

-- no right parenthesis is taken where none is open
no_closing : (s : State) (us : List Lexeme) (p : Place) → run 0 s (right ∷ us) ≡ Some p → ⊥
no_closing Begin us p h = none_not_some h
no_closing (Simple n) us p h = none_not_some h
no_closing (Target n) us p h = none_not_some h
no_closing Closed us p h = none_not_some h
no_closing ClosedTarget us p h = none_not_some h
no_closing Backed us p h = none_not_some h

nothing_left : (s : State) (us : List Lexeme) (p : Place) → may_follow_line us ≡ true → run 0 s us ≡ Some p → us ≡ []
nothing_left s [] p follows h = refl
nothing_left s (right ∷ us) p follows h = absurd (no_closing s us p h)
nothing_left s (word w ∷ us) p follows h = cc
nothing_left s (less ∷ us) p follows h = cc
nothing_left s (more ∷ us) p follows h = cc
nothing_left s (more_more ∷ us) p follows h = cc
nothing_left s (bar ∷ us) p follows h = cc
nothing_left s (amp ∷ us) p follows h = cc
nothing_left s (semi ∷ us) p follows h = cc
nothing_left s (left ∷ us) p follows h = cc

-- the whole line
pub whole_line : (line : List ℕ) (ts rest : List Token) (t : Tree) → IsAccepted 0 Begin (lexemes line ts) → Reads IsLine may_follow_line line ts rest t → Derives (lexemes line ts) t
whole_line line ts rest t a r =
    let e = takes_line r.derived 0 in
    let none = nothing_left e.0 (lexemes line rest) _ r.follows (sym e.2 ∙ a.taken) in
    subst (λ us. IsLine (lexemes line ts) us t) none r.derived

-- the tokens of a line are tokens each
pub each_token : (line : List ℕ) (from : ℕ) (ts : List Token) → AreTokensFrom line from ts → All (IsToken line) ts
each_token line from [] cut k d inside = absurd (omega arith)
each_token line from (t ∷ ts) cut zero d inside = cut.2
each_token line from (t ∷ ts) cut (suc k) d inside = each_token line t.past ts cut.3 k d (omega arith)
