-- Why the automaton refuses: the kind that it returns at its place is the first that fits.
use Rattle.std.proofs.Common.{◌≡◌, ◌≢◌, ℕ, zero, suc, ◌+◌, ◌<◌, List, [], ◌∷◌, ◌++◌, length, Bool, true, false, Option, Some, None, option_and_then, ◌⊎◌, inl, inr, ⊎_elim, refl, sym, ◌∙◌, ap, subst, arith, count_by, slice_range, append_assoc, ◌≤◌, get_or, take, drop, drop-cons, take-append-drop}
use Rattle.std.proofs.lemmas.List.{append-nil, take_more, length-map}
use Rattle.std.proofs.lemmas.List.Sums.{count_by-le-length}
use Rattle.sh_lexer.specs.declared.token.Kind.{Kind}
use Rattle.sh_lexer.specs.declared.token.Kind.TheVariants.{Word, Less, More, MoreMore, Bar, Amp, Semi, LeftParen, RightParen}
use Rattle.sh_lexer.specs.declared.token.Token.{Token}
use Rattle.sh_tree.specs.declared.automaton.Place.{Place}
use Rattle.sh_tree.specs.declared.automaton.State.{State}
use Rattle.sh_tree.specs.declared.automaton.State.TheVariants.{Begin, Simple, Target, Closed, ClosedTarget, Backed}
use Rattle.sh_tree.specs.declared.fault.ParseFault.{ParseFault}
use Rattle.sh_tree.specs.declared.fault.ParseFault.TheVariants.{Memory}
use Rattle.sh_tree.specs.Automaton.{at_place, step, run, ends_line, IsAccepted, open_or_left, refusal}
use Rattle.sh_tree.specs.Fault.{is_word, is_left, is_right, EndsInCommand, LacksFile, IsTenthWord, IsLateParen, Fits, place_told, StopsAt}
use Rattle.sh_tree.specs.Grammar.{reads, writes, writes_over, AreParts, parts_end, parts_word, parts_redir}
use Rattle.sh_tree.specs.Lexeme.{Lexeme, word, left, lexeme_by, lexeme_of, lexemes}
use Rattle.sh_tree.proofs.Sound.{run-append, takes_line, refused}
use Rattle.sh_tree.proofs.Standing.{awaits_file, is_begin, stands_at}
use Rattle.sh_tree.proofs.Viable.{viable}

pub lexemes-append : (line : List ℕ) (ts us : List Token) → lexemes line (ts ++ us) ≡ lexemes line ts ++ lexemes line us
lexemes-append line [] us = refl
lexemes-append line (t ∷ ts) us = ap (λ ls. lexeme_of line t ∷ ls) (lexemes-append line ts us)

none_not_some : {p : Place} → None ≡ Some p → ⊥
none_not_some h = cc

-- in a simple command, which has had so many words
abbrev HasRoom : State → ℕ → Type 0
HasRoom s n = (m : ℕ) × (s ≡ Simple m) × (n + m ≡ 9)

parts_run : {ts : List Lexeme} {ws : List (List ℕ)} {rs : _} → AreParts ts [] ws rs → (d n : ℕ) (p : Place) → run d (Simple n) ts ≡ Some p → (m : ℕ) × (p.state ≡ Simple m) × (length ws + m ≡ n)
parts_run parts_end d n p taken = (n, sym (state_of taken), omega arith)
  where
    state_of : {p q : Place} → Some p ≡ Some q → p.state ≡ q.state
    state_of h = cc
parts_run (parts_word parts) d zero p taken = absurd (none_not_some taken)
parts_run (parts_word parts) d (suc n) p taken = let r = parts_run parts d n p taken in (r.0, r.1, omega (arith, r.2))
parts_run (parts_redir reads parts) d n p taken = parts_run parts d n p taken
parts_run (parts_redir writes parts) d n p taken = parts_run parts d n p taken
parts_run (parts_redir writes_over parts) d n p taken = parts_run parts d n p taken

begin_run : {ts : List Lexeme} {ws : List (List ℕ)} {rs : _} → AreParts ts [] ws rs → (d : ℕ) (p : Place) → run d Begin ts ≡ Some p → ((ts ≡ []) × (length ws ≡ 0)) ⊎ HasRoom p.state (length ws)
begin_run parts_end d p taken = inl (refl, refl)
begin_run (parts_word parts) d p taken = let r = parts_run parts d 8 p taken in inr (r.0, r.1, omega (arith, r.2))
begin_run (parts_redir reads parts) d p taken = inr (parts_run parts d 9 p taken)
begin_run (parts_redir writes parts) d p taken = inr (parts_run parts d 9 p taken)
begin_run (parts_redir writes_over parts) d p taken = inr (parts_run parts d 9 p taken)

only_begin : (s : State) → is_begin s ≡ true → s ≡ Begin
only_begin Begin h = refl
only_begin (Simple n) h = cc
only_begin (Target n) h = cc
only_begin Closed h = cc
only_begin ClosedTarget h = cc
only_begin Backed h = cc

-- where the automaton stands after a simple command
in_command : (before : List Lexeme) (p : Place) → run 0 Begin before ≡ Some p → (c : EndsInCommand before) → ((c.command ≡ []) × (length c.words ≡ 0)) ⊎ HasRoom p.state (length c.words)
in_command before p taken c =
    go (run 0 Begin c.front) refl (sym (run-append 0 Begin c.front c.command) ∙ ap (run 0 Begin) (sym c.split) ∙ taken)
  where
    go : (o : Option Place) → run 0 Begin c.front ≡ o → option_and_then (λ q. run q.depth q.state c.command) o ≡ Some p → ((c.command ≡ []) × (length c.words ≡ 0)) ⊎ HasRoom p.state (length c.words)
    go None is rest = absurd (none_not_some rest)
    go (Some q) is rest =
        let begins : q.state ≡ Begin = only_begin q.state (sym (stands_at c.front q is).begins ∙ c.begins) in
        begin_run c.parts q.depth p (subst (λ s. run q.depth s c.command ≡ Some p) begins rest)

not_tenth : (before : List Lexeme) (p : Place) → run 0 Begin before ≡ Some p → (next : Option Lexeme) → (is_word next ≡ true → p.state ≡ Simple 0 → ⊥) → ¬ IsTenthWord before next
not_tenth before p taken next never (c, nine, is) =
    ⊎_elim
    (λ none. absurd (omega (arith, none.1, nine)))
    (λ room. let empty : room.0 ≡ 0 = omega (arith, room.2, nine) in never is (room.1 ∙ ap Simple empty))
    (in_command before p taken c)

not_late : (before : List Lexeme) (p : Place) → run 0 Begin before ≡ Some p → (next : Option Lexeme) → (next ≡ Some left → (m : ℕ) → p.state ≡ Simple m → ⊥) → ¬ IsLateParen before next
not_late before p taken next never (c, some, is) =
    ⊎_elim
    (λ none. some none.0)
    (λ room. never is room.0 room.1)
    (in_command before p taken c)

-- the lexeme of a kind, or None
abbrev lexeme_if : List ℕ → Option Kind → Option Lexeme
lexeme_if text None = None
lexeme_if text (Some k) = Some (lexeme_by k text)

-- where only open parentheses decide
by_depth : (before : List Lexeme) (d : ℕ) (s : State) (next : Option Lexeme) (at : ℕ) → run 0 Begin before ≡ at_place d s → awaits_file s ≡ false → (is_word next ≡ true → s ≡ Simple 0 → ⊥) → (next ≡ Some left → (m : ℕ) → s ≡ Simple m → ⊥) → Fits (open_or_left d at) before next
by_depth before d s next at taken no_sign tenth late =
    go d (stands_at before _ taken).depth
  where
    no_file : ¬ LacksFile before next
    no_file h = let both : true ≡ false = sym h ∙ (stands_at before _ taken).sign ∙ no_sign in cc

    go : (e : ℕ) → count_by is_left before ≡ count_by is_right before + e → Fits (open_or_left e at) before next
    go zero depth = (no_file, not_tenth before _ taken next tenth, not_late before _ taken next late, λ h. absurd (omega arith))
    go (suc e) depth = (no_file, not_tenth before _ taken next tenth, not_late before _ taken next late, omega arith)

no_word : {P : Type 0} → false ≡ true → P
no_word h = cc

in_simple : (before : List Lexeme) (d n : ℕ) (text : List ℕ) (next : Option Kind) (at : ℕ) → run 0 Begin before ≡ at_place d (Simple n) → Fits (refusal d (Simple n) next at) before (lexeme_if text next)
in_simple before d zero text (Some Word) at taken =
    let so = stands_at before _ taken in
    (λ h. no_word (sym so.sign ∙ h), (so.command.0.ends, omega (arith, so.command.0.room), refl))
in_simple before d (suc n) text (Some Word) at taken = by_depth before d (Simple (suc n)) (Some (word text)) at taken refl (λ w h. some_room h) (λ h m e. cc)
  where
    some_room : Simple (suc n) ≡ Simple 0 → ⊥
    some_room h = cc
in_simple before d zero text (Some LeftParen) at taken =
    let so = stands_at before _ taken in
    (λ h. no_word (sym so.sign ∙ h), (λ t. no_word t.2), (so.command.0.ends, so.command.1, refl))
in_simple before d (suc n) text (Some LeftParen) at taken =
    let so = stands_at before _ taken in
    (λ h. no_word (sym so.sign ∙ h), (λ t. no_word t.2), (so.command.0.ends, so.command.1, refl))
in_simple before d zero text None at taken = by_depth before d _ None at taken refl (λ w h. no_word w) (λ h m e. cc)
in_simple before d zero text (Some Less) at taken = by_depth before d _ _ at taken refl (λ w h. no_word w) (λ h m e. cc)
in_simple before d zero text (Some More) at taken = by_depth before d _ _ at taken refl (λ w h. no_word w) (λ h m e. cc)
in_simple before d zero text (Some MoreMore) at taken = by_depth before d _ _ at taken refl (λ w h. no_word w) (λ h m e. cc)
in_simple before d zero text (Some Bar) at taken = by_depth before d _ _ at taken refl (λ w h. no_word w) (λ h m e. cc)
in_simple before d zero text (Some Amp) at taken = by_depth before d _ _ at taken refl (λ w h. no_word w) (λ h m e. cc)
in_simple before d zero text (Some Semi) at taken = by_depth before d _ _ at taken refl (λ w h. no_word w) (λ h m e. cc)
in_simple before d zero text (Some RightParen) at taken = by_depth before d _ _ at taken refl (λ w h. no_word w) (λ h m e. cc)
in_simple before d (suc n) text None at taken = by_depth before d _ None at taken refl (λ w h. no_word w) (λ h m e. cc)
in_simple before d (suc n) text (Some Less) at taken = by_depth before d _ _ at taken refl (λ w h. no_word w) (λ h m e. cc)
in_simple before d (suc n) text (Some More) at taken = by_depth before d _ _ at taken refl (λ w h. no_word w) (λ h m e. cc)
in_simple before d (suc n) text (Some MoreMore) at taken = by_depth before d _ _ at taken refl (λ w h. no_word w) (λ h m e. cc)
in_simple before d (suc n) text (Some Bar) at taken = by_depth before d _ _ at taken refl (λ w h. no_word w) (λ h m e. cc)
in_simple before d (suc n) text (Some Amp) at taken = by_depth before d _ _ at taken refl (λ w h. no_word w) (λ h m e. cc)
in_simple before d (suc n) text (Some Semi) at taken = by_depth before d _ _ at taken refl (λ w h. no_word w) (λ h m e. cc)
in_simple before d (suc n) text (Some RightParen) at taken = by_depth before d _ _ at taken refl (λ w h. no_word w) (λ h m e. cc)

-- the kind that is returned at a place fits
pub fits : (before : List Lexeme) (d : ℕ) (s : State) (text : List ℕ) (next : Option Kind) (at : ℕ) → run 0 Begin before ≡ at_place d s → Fits (refusal d s next at) before (lexeme_if text next)
fits before d Begin text next at taken = by_depth before d Begin (lexeme_if text next) at taken refl (λ w h. cc) (λ w m h. cc)
fits before d (Simple n) text next at taken = in_simple before d n text next at taken
fits before d (Target n) text next at taken = (stands_at before _ taken).sign
fits before d Closed text next at taken = by_depth before d Closed (lexeme_if text next) at taken refl (λ w h. cc) (λ w m h. cc)
fits before d ClosedTarget text next at taken = (stands_at before _ taken).sign
fits before d Backed text next at taken = by_depth before d Backed (lexeme_if text next) at taken refl (λ w h. cc) (λ w m h. cc)

-- the place is returned, and `Memory` is not the kind
abbrev Told : ParseFault → ℕ → Type 0
Told fault at = (place_told fault ≡ at) × (fault ≢ Memory)

told_by_depth : (d at : ℕ) → Told (open_or_left d at) at
told_by_depth zero at = (refl, λ h. cc)
told_by_depth (suc d) at = (refl, λ h. cc)

told_in_simple : (d n : ℕ) (next : Option Kind) (at : ℕ) → Told (refusal d (Simple n) next at) at
told_in_simple d zero None at = told_by_depth d at
told_in_simple d zero (Some Word) at = (refl, λ h. cc)
told_in_simple d zero (Some Less) at = told_by_depth d at
told_in_simple d zero (Some More) at = told_by_depth d at
told_in_simple d zero (Some MoreMore) at = told_by_depth d at
told_in_simple d zero (Some Bar) at = told_by_depth d at
told_in_simple d zero (Some Amp) at = told_by_depth d at
told_in_simple d zero (Some Semi) at = told_by_depth d at
told_in_simple d zero (Some LeftParen) at = (refl, λ h. cc)
told_in_simple d zero (Some RightParen) at = told_by_depth d at
told_in_simple d (suc n) None at = told_by_depth d at
told_in_simple d (suc n) (Some Word) at = told_by_depth d at
told_in_simple d (suc n) (Some Less) at = told_by_depth d at
told_in_simple d (suc n) (Some More) at = told_by_depth d at
told_in_simple d (suc n) (Some MoreMore) at = told_by_depth d at
told_in_simple d (suc n) (Some Bar) at = told_by_depth d at
told_in_simple d (suc n) (Some Amp) at = told_by_depth d at
told_in_simple d (suc n) (Some Semi) at = told_by_depth d at
told_in_simple d (suc n) (Some LeftParen) at = (refl, λ h. cc)
told_in_simple d (suc n) (Some RightParen) at = told_by_depth d at

pub told : (d : ℕ) (s : State) (next : Option Kind) (at : ℕ) → Told (refusal d s next at) at
told d Begin next at = told_by_depth d at
told d (Simple n) next at = told_in_simple d n next at
told d (Target n) next at = (refl, λ h. cc)
told d Closed next at = told_by_depth d at
told d ClosedTarget next at = (refl, λ h. cc)
told d Backed next at = told_by_depth d at

-- one lexeme more
run-snoc : (before : List Lexeme) (d : ℕ) (s : State) (t : Lexeme) → run 0 Begin before ≡ at_place d s → run 0 Begin (before ++ t ∷ []) ≡ step d s t
run-snoc before d s t taken = run-append 0 Begin before (t ∷ []) ∙ ap (option_and_then (λ p. run p.depth p.state (t ∷ []))) taken ∙ whole (step d s t)
  where
    whole : (o : Option Place) → option_and_then (λ p. run p.depth p.state []) o ≡ o
    whole None = refl
    whole (Some p) = refl

-- a token has no place
stops_at_token : (line : List ℕ) (before : List Token) (t : Token) (after : List Token) (d : ℕ) (s : State) → run 0 Begin (lexemes line before) ≡ at_place d s → step d s (lexeme_of line t) ≡ None → StopsAt line (before ++ t ∷ after) (refusal d s (Some t.kind) t.first)
stops_at_token line before t after d s taken none =
    let stuck : run 0 Begin (lexemes line before ++ lexeme_of line t ∷ []) ≡ None = run-snoc (lexemes line before) d s (lexeme_of line t) taken ∙ none in
    record {
      before = before;
      rest = t ∷ after;
      split = refl;
      place = (told d s (Some t.kind) t.first).0;
      viable = viable (lexemes line before) _ taken;
      refused = λ v. refused (lexemes line before ++ lexeme_of line t ∷ []) v.0 v.1 stuck v.2;
      reason = fits (lexemes line before) d s (slice_range line t.first t.past) (Some t.kind) t.first taken;
    }

same_place : {p q : Place} → Some p ≡ Some q → p ≡ q
same_place h = cc

-- the line can't end
pub stops_at_end : (line : List ℕ) (ts : List Token) (d : ℕ) (s : State) → run 0 Begin (lexemes line ts) ≡ at_place d s → (d ≡ 0 → ends_line s ≡ true → ⊥) → StopsAt line ts (refusal d s None (length line))
stops_at_end line ts d s taken goes_on = record {
  before = ts;
  rest = [];
  split = sym (append-nil ts);
  place = (told d s None (length line)).0;
  viable = viable (lexemes line ts) _ taken;
  refused = λ t derived.
      let e = takes_line derived 0 in
      let same : at_place d s ≡ at_place 0 e.0 = sym taken ∙ e.2 in
      let depths : d ≡ 0 = ap (λ p. p.depth) (same_place same) in
      let states : e.0 ≡ s = ap (λ p. p.state) (sym (same_place same)) in
      goes_on depths (sym (ap ends_line states) ∙ e.1);
  reason = fits (lexemes line ts) d s [] None (length line) taken;
}

-- each list of tokens is accepted or stops being a line
abbrev pub Judged : List ℕ → List Token → Type 0
Judged line ts = IsAccepted 0 Begin (lexemes line ts) ⊎ ((f : ParseFault) × (f ≢ Memory) × StopsAt line ts f)

at_end : (line : List ℕ) (ts : List Token) (d : ℕ) (s : State) → run 0 Begin (lexemes line ts) ≡ at_place d s → Judged line ts
at_end line ts zero s taken = go (ends_line s) refl
  where
    go : (b : Bool) → ends_line s ≡ b → Judged line ts
    go true ends = inl (record { last = s; taken = taken; ends = ends })
    go false ends = inr (refusal 0 s None (length line), (told 0 s None (length line)).1, stops_at_end line ts 0 s taken (λ z e. no_word (sym ends ∙ e)))
at_end line ts (suc d) s taken =
    inr (refusal (suc d) s None (length line), (told (suc d) s None (length line)).1, stops_at_end line ts (suc d) s taken (λ z e. absurd (omega arith)))

judged_from : (line : List ℕ) (before rest : List Token) (d : ℕ) (s : State) → run 0 Begin (lexemes line before) ≡ at_place d s → Judged line (before ++ rest)
judged_from line before [] d s taken = subst (Judged line) (sym (append-nil before)) (at_end line before d s taken)
judged_from line before (t ∷ rest) d s taken =
    let whole : (before ++ t ∷ []) ++ rest ≡ before ++ t ∷ rest = append_assoc before (t ∷ []) rest in
    let more : run 0 Begin (lexemes line (before ++ t ∷ [])) ≡ step d s (lexeme_of line t) = ap (run 0 Begin) (lexemes-append line before (t ∷ [])) ∙ run-snoc (lexemes line before) d s (lexeme_of line t) taken in
    elim (step d s (lexeme_of line t)) as (λ o. step d s (lexeme_of line t) ≡ o → Judged line (before ++ t ∷ rest)) [
      | None ↦ λ none. inr (refusal d s (Some t.kind) t.first, (told d s (Some t.kind) t.first).1, stops_at_token line before t rest d s taken none)
      | Some p ↦ λ some. subst (Judged line) whole (judged_from line (before ++ t ∷ []) rest p.depth p.state (more ∙ some))
    ] refl

pub judged : (line : List ℕ) (ts : List Token) → Judged line ts
judged line ts = judged_from line [] ts 0 Begin refl

-- no more parentheses are open than lexemes were taken
pub low : (line : List ℕ) (ts : List Token) (d : ℕ) (s : State) → run 0 Begin (lexemes line ts) ≡ at_place d s → d ≤ length ts
low line ts d s taken =
    omega (arith, (stands_at (lexemes line ts) _ taken).depth, count_by-le-length is_left (lexemes line ts), length-map ts (lexeme_of line))

-- one token more
pub takes_token : (line : List ℕ) (ts : List Token) (i : ℕ) (u : Token) (d : ℕ) (s : State) (p : Place) → i < length ts → run 0 Begin (lexemes line (take i ts)) ≡ at_place d s → step d s (lexeme_of line (get_or ts i u)) ≡ Some p → run 0 Begin (lexemes line (take (i + 1) ts)) ≡ Some p
takes_token line ts i u d s p inside taken next =
    ap (λ l. run 0 Begin (lexemes line l)) (take_more ts i u inside)
    ∙ ap (run 0 Begin) (lexemes-append line (take i ts) (get_or ts i u ∷ []))
    ∙ run-snoc (lexemes line (take i ts)) d s (lexeme_of line (get_or ts i u)) taken
    ∙ next

-- a token that is refused
pub stops_here : (line : List ℕ) (ts : List Token) (i : ℕ) (u : Token) (d : ℕ) (s : State) → i < length ts → run 0 Begin (lexemes line (take i ts)) ≡ at_place d s → step d s (lexeme_of line (get_or ts i u)) ≡ None → StopsAt line ts (refusal d s (Some (get_or ts i u).kind) (get_or ts i u).first)
stops_here line ts i u d s inside taken none =
    let t : Token = get_or ts i u in
    let cut : take i ts ++ t ∷ drop (suc i) ts ≡ ts = ap (λ l. take i ts ++ l) (sym (drop-cons ts i u inside)) ∙ take-append-drop i ts in
    subst (λ l. StopsAt line l (refusal d s (Some t.kind) t.first)) cut (stops_at_token line (take i ts) t (drop (suc i) ts) d s taken none)
