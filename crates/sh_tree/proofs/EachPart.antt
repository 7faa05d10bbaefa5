-- The parts of a command, one by one.
use Rattle.std.proofs.Common.{◌≡◌, ℕ, zero, suc, ◌<◌, ◌≤◌, List, [], ◌∷◌, ◌++◌, length, true, false, Some, None, slice_range, refl, sym, ◌∙◌, ap, subst, arith}
use Rattle.std.specs.Prelude.{All}
use Rattle.sh_lexer.specs.Tokens.{IsToken}
use Rattle.sh_lexer.specs.declared.token.Kind.{Kind}
use Rattle.sh_lexer.specs.declared.token.Kind.TheVariants.{Word, Less, More, MoreMore, Bar, Amp, Semi, LeftParen, RightParen}
use Rattle.sh_lexer.specs.declared.token.Token.{Token}
use Rattle.sh_tree.specs.declared.automaton.Place.{Place}
use Rattle.sh_tree.specs.declared.automaton.State.{State}
use Rattle.sh_tree.specs.declared.automaton.State.TheVariants.{Begin, Simple, Target, Closed, ClosedTarget, Backed}
use Rattle.sh_tree.specs.declared.parts.Part.{Part}
use Rattle.sh_tree.specs.declared.parts.Part.TheVariants.{Word as PartWord, Redirection}
use Rattle.sh_tree.specs.declared.tree.Mode.{Mode}
use Rattle.sh_tree.specs.Automaton.{ends_line, IsAccepted}
use Rattle.sh_tree.specs.Grammar.{IsMode, reads, writes, writes_over, AreParts, parts_end, parts_word, parts_redir, wrapped}
use Rattle.sh_tree.specs.Lexeme.{Lexeme, word, less, more, more_more, bar, amp, semi, left, right, lexeme_by, lexeme_of, lexemes}
use Rattle.sh_tree.specs.Reading.{IsInParts, is_in_parts, mode_of, words_of, Wraps}
use Rattle.sh_tree.specs.Tree.{Tree, redir}

-- parts after parts
pub parts-append : {ts us vs : List Lexeme} {ws xs : List (List ℕ)} {rs ss : List (Mode × List ℕ)} → AreParts ts us ws rs → AreParts us vs xs ss → AreParts ts vs (ws ++ xs) (rs ++ ss)
parts-append parts_end later = later
parts-append (parts_word parts) later = parts_word (parts-append parts later)
parts-append (parts_redir mode parts) later = parts_redir mode (parts-append parts later)

pub wrapped-append : (rs ss : List (Mode × List ℕ)) (t : Tree) → wrapped (rs ++ ss) t ≡ wrapped ss (wrapped rs t)
wrapped-append [] ss t = refl
wrapped-append (r ∷ rs) ss t = wrapped-append rs ss (redir r.0 r.1 t)

-- the first token, and the others
pub first_token : (line : List ℕ) (ts : List Token) (t : Token) (after : List Token) → ts ≡ t ∷ after → All (IsToken line) ts → IsToken line t
first_token line ts t after split all =
    let those : All (IsToken line) (t ∷ after) = subst (All (IsToken line)) split all in
    those 0 t (omega arith)

pub other_tokens : (line : List ℕ) (ts : List Token) (t : Token) (after : List Token) → ts ≡ t ∷ after → All (IsToken line) ts → All (IsToken line) after
other_tokens line ts t after split all k d inside =
    let those : All (IsToken line) (t ∷ after) = subst (All (IsToken line)) split all in
    those (suc k) d (omega arith)

pub lexemes-split : (line : List ℕ) (ts : List Token) (t : Token) (after : List Token) → ts ≡ t ∷ after → lexemes line ts ≡ lexeme_of line t ∷ lexemes line after
lexemes-split line ts t after split = ap (lexemes line) split

pub lexeme_word : (line : List ℕ) (t : Token) → t.kind ≡ Word → lexeme_of line t ≡ word (slice_range line t.first t.past)
lexeme_word line t is = ap (λ k. lexeme_by k (slice_range line t.first t.past)) is

none_not_some : {p : Place} → None ≡ Some p → ⊥
none_not_some h = cc

-- a place among the parts from which these lexemes are accepted
abbrev pub GoesOn : ℕ → List Lexeme → Type 0
GoesOn d ts = (e : State) × (is_in_parts e ≡ true) × IsAccepted d e ts

-- after a word
after_word : (d : ℕ) (s : State) (w : List ℕ) (ts : List Lexeme) → is_in_parts s ≡ true → IsAccepted d s (word w ∷ ts) → GoesOn d ts
after_word d (Simple zero) w ts inside a = absurd (none_not_some a.taken)
after_word d (Simple (suc n)) w ts inside a = (Simple n, refl, record { last = a.last; taken = a.taken; ends = a.ends })
after_word d Closed w ts inside a = absurd (none_not_some a.taken)
after_word d Begin w ts inside a = cc
after_word d (Target n) w ts inside a = cc
after_word d ClosedTarget w ts inside a = cc
after_word d Backed w ts inside a = cc

-- the sign of a redirection leads to its target
abbrev Targets : ℕ → List Lexeme → Type 0
Targets d ts = (w : List ℕ) × (us : List Lexeme) × (ts ≡ word w ∷ us) × GoesOn d us

same_place : {p q : Place} → Some p ≡ Some q → p ≡ q
same_place h = cc

-- no line ends before a name
never_ends : (d : ℕ) (s : State) → ends_line s ≡ false → IsAccepted d s [] → ⊥
never_ends d s goes_on a =
    let both : false ≡ true = sym goes_on ∙ ap (λ p. ends_line p.state) (same_place a.taken) ∙ a.ends in
    cc

simple_target : (d n : ℕ) (ts : List Lexeme) → IsAccepted d (Target n) ts → Targets d ts
simple_target d n [] a = absurd (never_ends d (Target n) refl a)
simple_target d n (word w ∷ ts) a = (w, ts, refl, (Simple n, refl, record { last = a.last; taken = a.taken; ends = a.ends }))
simple_target d n (less ∷ ts) a = absurd (none_not_some a.taken)
simple_target d n (more ∷ ts) a = absurd (none_not_some a.taken)
simple_target d n (more_more ∷ ts) a = absurd (none_not_some a.taken)
simple_target d n (bar ∷ ts) a = absurd (none_not_some a.taken)
simple_target d n (amp ∷ ts) a = absurd (none_not_some a.taken)
simple_target d n (semi ∷ ts) a = absurd (none_not_some a.taken)
simple_target d n (left ∷ ts) a = absurd (none_not_some a.taken)
simple_target d n (right ∷ ts) a = absurd (none_not_some a.taken)

closed_target : (d : ℕ) (ts : List Lexeme) → IsAccepted d ClosedTarget ts → Targets d ts
closed_target d [] a = absurd (never_ends d ClosedTarget refl a)
closed_target d (word w ∷ ts) a = (w, ts, refl, (Closed, refl, record { last = a.last; taken = a.taken; ends = a.ends }))
closed_target d (less ∷ ts) a = absurd (none_not_some a.taken)
closed_target d (more ∷ ts) a = absurd (none_not_some a.taken)
closed_target d (more_more ∷ ts) a = absurd (none_not_some a.taken)
closed_target d (bar ∷ ts) a = absurd (none_not_some a.taken)
closed_target d (amp ∷ ts) a = absurd (none_not_some a.taken)
closed_target d (semi ∷ ts) a = absurd (none_not_some a.taken)
closed_target d (left ∷ ts) a = absurd (none_not_some a.taken)
closed_target d (right ∷ ts) a = absurd (none_not_some a.taken)

-- after the sign of a redirection comes its name
after_sign : (d : ℕ) (s : State) {k : Lexeme} {m : Mode} (ts : List Lexeme) → IsMode k m → is_in_parts s ≡ true → IsAccepted d s (k ∷ ts) → Targets d ts
after_sign d (Simple n) ts reads inside a = simple_target d n ts (record { last = a.last; taken = a.taken; ends = a.ends })
after_sign d (Simple n) ts writes inside a = simple_target d n ts (record { last = a.last; taken = a.taken; ends = a.ends })
after_sign d (Simple n) ts writes_over inside a = simple_target d n ts (record { last = a.last; taken = a.taken; ends = a.ends })
after_sign d Closed ts reads inside a = closed_target d ts (record { last = a.last; taken = a.taken; ends = a.ends })
after_sign d Closed ts writes inside a = closed_target d ts (record { last = a.last; taken = a.taken; ends = a.ends })
after_sign d Closed ts writes_over inside a = closed_target d ts (record { last = a.last; taken = a.taken; ends = a.ends })
after_sign d Begin ts mode inside a = cc
after_sign d (Target n) ts mode inside a = cc
after_sign d ClosedTarget ts mode inside a = cc
after_sign d Backed ts mode inside a = cc

same_mode : {m n : Mode} → Some m ≡ Some n → m ≡ n
same_mode h = cc

-- the kinds that are signs of redirections
sign_mode : (k : Kind) (text : List ℕ) (m : Mode) → mode_of k ≡ Some m → IsMode (lexeme_by k text) m
sign_mode Less text m is = subst (IsMode (lexeme_by Less text)) (same_mode is) reads
sign_mode More text m is = subst (IsMode (lexeme_by More text)) (same_mode is) writes
sign_mode MoreMore text m is = subst (IsMode (lexeme_by MoreMore text)) (same_mode is) writes_over
sign_mode Word text m is = cc
sign_mode Bar text m is = cc
sign_mode Amp text m is = cc
sign_mode Semi text m is = cc
sign_mode LeftParen text m is = cc
sign_mode RightParen text m is = cc

pub in_parts : (line : List ℕ) (d : ℕ) (ts : List Token) → All (IsToken line) ts → GoesOn d (lexemes line ts) → IsInParts line ts
in_parts line d ts all on = record { depth = d; state = on.0; inside = on.1; ready = record { tokens = all; accepted = on.2 } }

-- a word was read
pub reads_word : (line : List ℕ) (ts : List Token) (t : Token) (after : List Token) (text : List ℕ) → ts ≡ t ∷ after → t.kind ≡ Word → text ≡ slice_range line t.first t.past → IsInParts line ts → AreParts (lexemes line ts) (lexemes line after) (text ∷ []) [] × IsInParts line after × (length after < length ts)
reads_word line ts t after text split is cut at =
    let read : lexemes line ts ≡ word text ∷ lexemes line after = lexemes-split line ts t after split ∙ ap (λ l. l ∷ lexemes line after) (lexeme_word line t is ∙ ap word (sym cut)) in
    let on = after_word at.depth at.state text (lexemes line after) at.inside (subst (IsAccepted at.depth at.state) read at.ready.accepted) in (
      subst (λ l. AreParts l (lexemes line after) (text ∷ []) []) (sym read) (parts_word parts_end),
      in_parts line at.depth after (other_tokens line ts t after split at.ready.tokens) on,
      omega (arith, ap length split),
    )

-- the name that comes after the sign of a redirection
name_next : (line : List ℕ) (ts : List Token) (t : Token) (after : List Token) (m : Mode) → ts ≡ t ∷ after → mode_of t.kind ≡ Some m → IsInParts line ts → (d : ℕ) × Targets d (lexemes line after)
name_next line ts t after m split is at =
    let read = lexemes-split line ts t after split in
    (at.depth, after_sign at.depth at.state (lexemes line after) (sign_mode t.kind (slice_range line t.first t.past) m is) at.inside (subst (IsAccepted at.depth at.state) read at.ready.accepted))

tails : {a b : Lexeme} {us vs : List Lexeme} → a ∷ us ≡ b ∷ vs → us ≡ vs
tails h = cc

heads : {a b : Lexeme} {us vs : List Lexeme} → a ∷ us ≡ b ∷ vs → a ≡ b
heads h = cc

kind_word : (k : Kind) (text w : List ℕ) → lexeme_by k text ≡ word w → text ≡ w
kind_word Word text w h = cc
kind_word Less text w h = cc
kind_word More text w h = cc
kind_word MoreMore text w h = cc
kind_word Bar text w h = cc
kind_word Amp text w h = cc
kind_word Semi text w h = cc
kind_word LeftParen text w h = cc
kind_word RightParen text w h = cc

-- a redirection was read
pub reads_redirection : (line : List ℕ) (ts : List Token) (t : Token) (after : List Token) (m : Mode) (n : Token) (rest : List Token) (name : List ℕ) → ts ≡ t ∷ after → mode_of t.kind ≡ Some m → after ≡ n ∷ rest → name ≡ slice_range line n.first n.past → IsInParts line ts → AreParts (lexemes line ts) (lexemes line rest) [] ((m, name) ∷ []) × IsInParts line rest × (length rest < length ts)
reads_redirection line ts t after m n rest name split is named cut at =
    let next = name_next line ts t after m split is at in
    let target = next.1 in
    let whole : lexeme_of line n ∷ lexemes line rest ≡ word target.0 ∷ target.1 = sym (lexemes-split line after n rest named) ∙ target.2 in
    let same_name : name ≡ target.0 = cut ∙ kind_word n.kind (slice_range line n.first n.past) target.0 (heads whole) in
    let read : lexemes line ts ≡ lexeme_of line t ∷ word name ∷ lexemes line rest =
    lexemes-split line ts t after split
    ∙ ap (λ l. lexeme_of line t ∷ l) (lexemes-split line after n rest named)
    ∙ ap (λ l. lexeme_of line t ∷ l ∷ lexemes line rest) (heads whole ∙ ap word (sym same_name))
    in (
      subst (λ l. AreParts l (lexemes line rest) [] ((m, name) ∷ [])) (sym read) (parts_redir (sign_mode t.kind (slice_range line t.first t.past) m is) parts_end),
      in_parts line next.0 rest (other_tokens line after n rest named (other_tokens line ts t after split at.ready.tokens)) (subst (GoesOn next.0) (sym (tails whole)) target.3),
      omega (arith, ap length split, ap length named),
    )

-- one part more: its redirection, if it is one, is outermost
pub wraps_more : {from t u : Tree} {ts us vs : List Lexeme} {xs : List (List ℕ)} {ss : List (Mode × List ℕ)} → Wraps from ts us t → AreParts us vs xs ss → u ≡ wrapped ss t → Wraps from ts vs u
wraps_more {from = from} {ss = ss} w parts is = record {
  words = _;
  redirections = w.redirections ++ ss;
  parts = parts-append w.parts parts;
  wraps = is ∙ ap (wrapped ss) w.wraps ∙ sym (wrapped-append w.redirections ss from);
}

-- a part has one word at most
pub few_words : (part : Part) → length (words_of part) ≤ 1
few_words (PartWord text) = omega arith
few_words (Redirection mode name) = omega arith
