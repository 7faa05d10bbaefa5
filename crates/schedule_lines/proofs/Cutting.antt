-- The lines of a schedule's text are those of its events, and of no others.
use Rattle.std.proofs.Common.{◌≡◌, ℕ, suc, ◌+◌, ◌<◌, ◌≤◌, Bool, true, false, List, [], ◌∷◌, ◌++◌, length, length-append, drop, get_or, refl, sym, ◌∙◌, ap, subst, arith, inl, inr, append_assoc, Result, Ok, Err}
use Rattle.std.specs.Prelude.{All, IfErr, IsErrAnd, if◌then◌else◌, map}
use Rattle.std.proofs.Math.Seq.{drop-cons}
use Rattle.std.proofs.lemmas.List.{append-nil, map-append, nil_from_length}
use Rattle.std.proofs.lemmas.List.Elements.{All-push}
use Rattle.kernel_model.specs.declared.events.Event.{Event}
use Rattle.kernel_model.specs.declared.events.Event.TheVariants.{Dispatch, Trap}
use Rattle.schedule_lines.specs.declared.reading.ScheduleFault.{ScheduleFault}
use Rattle.schedule_lines.specs.declared.reading.ScheduleFault.TheVariants.{NoEvent, Memory}
use Rattle.prog_parts.specs.Lines.{AreLines, IsFirstLine}
use Rattle.prog_parts.proofs.Cuts.{one_cut, some_cut}
use Rattle.schedule_lines.specs.EventLines.{event_text, is_note, schedule_text, without_notes, AddsLine, adds_event, adds_nothing, AreLinesOf, IsHeld, IsLineFault, IsNoEvent, IsNoEventAt, IsScheduleFault}
use Rattle.schedule_lines.proofs.Numbers.{all_rest, one_line, one_event}

-- the lines are those of the events
own_texts : (events : List Event) → All IsHeld events → AreLines (schedule_text events) (map event_text events)
own_texts [] held = refl
own_texts (event ∷ events) held =
    (schedule_text events, (one_line event (held 0 event (omega arith)), inl refl), own_texts events (all_rest IsHeld event events held))

-- none of them is a note
no_notes : (events : List Event) → without_notes (map event_text events) ≡ map event_text events
no_notes [] = refl
no_notes (Dispatch hart pid ∷ events) = ap (λ texts. event_text (Dispatch hart pid) ∷ texts) (no_notes events)
no_notes (Trap hart pid ∷ events) = ap (λ texts. event_text (Trap hart pid) ∷ texts) (no_notes events)

pub own_lines : (events : List Event) → All IsHeld events → AreLinesOf (schedule_text events) events
own_lines events held = record { lines = map event_text events; cut = own_texts events held; own = no_notes events }

same_events : (events others : List Event) → All IsHeld events → All IsHeld others → map event_text events ≡ map event_text others → others ≡ events
same_events [] [] held kept same = refl
same_events [] (f ∷ fs) held kept same = cc
same_events (e ∷ es) [] held kept same = cc
same_events (e ∷ es) (f ∷ fs) held kept same =
    let texts : event_text e ≡ event_text f = cc in
    let later : map event_text es ≡ map event_text fs = cc in
    let first = one_event e f (held 0 e (omega arith)) (kept 0 f (omega arith)) texts in
    let rest = same_events es fs (all_rest IsHeld e es held) (all_rest IsHeld f fs kept) later in
    cc

pub read_back : (events others : List Event) → All IsHeld events → All IsHeld others → AreLinesOf (schedule_text events) others → others ≡ events
read_back events others held kept read =
    same_events events others held kept (sym (no_notes events) ∙ ap without_notes (one_cut (schedule_text events) (map event_text events) read.lines (own_texts events held) read.cut) ∙ read.own)

-- a line among those of events is that of an event
own_line : (events : List Event) (before : List (List ℕ)) (line : List ℕ) (after : List (List ℕ)) → All IsHeld events → map event_text events ≡ before ++ line ∷ after → IsNoEvent line → ⊥
own_line [] [] line after held same none = cc
own_line [] (b ∷ before) line after held same none = cc
own_line (e ∷ es) [] line after held same none = none e (held 0 e (omega arith)) cc
own_line (e ∷ es) (b ∷ before) line after held same none =
    let later : map event_text es ≡ before ++ line ∷ after = cc in
    own_line es before line after (all_rest IsHeld e es held) later none

pub no_fault : (events : List Event) (number : ℕ) → All IsHeld events → IsNoEventAt (schedule_text events) number → ⊥
no_fault events number held at =
    own_line events at.before at.line at.after held (one_cut (schedule_text events) (map event_text events) (at.before ++ at.line ∷ at.after) (own_texts events held) at.lines) at.none

kept_append : (note : Bool) (line : List ℕ) (xs ys : List (List ℕ)) → (if note then xs else line ∷ xs) ++ ys ≡ (if note then xs ++ ys else line ∷ (xs ++ ys))
kept_append true line xs ys = refl
kept_append false line xs ys = refl

without_append : (xs ys : List (List ℕ)) → without_notes (xs ++ ys) ≡ without_notes xs ++ without_notes ys
without_append [] ys = refl
without_append (x ∷ xs) ys =
    ap (λ rest. if is_note x then rest else x ∷ rest) (without_append xs ys) ∙ sym (kept_append (is_note x) x (without_notes xs) (without_notes ys))

-- one line more
kept_more : (before : List (List ℕ)) (line : List ℕ) (note : Bool) → is_note line ≡ note → without_notes (before ++ line ∷ []) ≡ without_notes before ++ (if note then [] else line ∷ [])
kept_more before line note is = without_append before (line ∷ []) ∙ ap (λ b. without_notes before ++ (if b then [] else line ∷ [])) is

pub own_more : (before : List (List ℕ)) (line : List ℕ) (events more : List Event) → AddsLine line events more → without_notes before ≡ map event_text events → without_notes (before ++ line ∷ []) ≡ map event_text more
own_more before line events more (adds_event event other is held added) own =
    kept_more before line false other
    ∙ ap (λ texts. texts ++ line ∷ []) own
    ∙ ap (λ text. map event_text events ++ text ∷ []) is
    ∙ sym (map-append event_text events (event ∷ []))
    ∙ ap (map event_text) (sym added)
own_more before line events more (adds_nothing note same) own =
    kept_more before line true note ∙ append-nil (without_notes before) ∙ own ∙ ap (map event_text) (sym same)

pub held_more : (line : List ℕ) (events more : List Event) → AddsLine line events more → All IsHeld events → All IsHeld more
held_more line events more (adds_event event other is held added) all = subst (All IsHeld) (sym added) (All-push IsHeld events event all held)
held_more line events more (adds_nothing note same) all = subst (All IsHeld) (sym same) all

-- the lines of what is left complete those so far
abbrev pub Completes : List ℕ → List ℕ → List (List ℕ) → Type 0
Completes bytes rest before = (later : List (List ℕ)) → AreLines rest later → AreLines bytes (before ++ later)

-- while lines are read
pub record Reading (bytes rest : List ℕ) (count : ℕ) (events : List Event) : Type 0 where
  pub before : List (List ℕ)
  pub counted : count ≡ length before
  pub completes : Completes bytes rest before
  pub own : without_notes before ≡ map event_text events
  pub held : All IsHeld events
  pub within : count + length rest ≤ length bytes

none_held : (events : List Event) → events ≡ [] → All IsHeld events
none_held events none k d inside = absurd (omega (arith, inside, ap length none))

pub reading_first : (bytes : List ℕ) (events : List Event) → events ≡ [] → Reading bytes bytes 0 events
reading_first bytes events none =
    record { before = []; counted = refl; completes = λ later cut. cut; own = ap (map event_text) (sym none); held = none_held events none; within = omega arith }

shorter : (rest line after : List ℕ) → IsFirstLine rest line after → length after < length rest
shorter rest line after (ends, inl is) = omega (arith, ap length is, length-append line (10 ∷ after))
shorter rest line after (ends, inr (is, some, none)) = omega (arith, ap length is, some, ap length none)

module _ (bytes rest line after : List ℕ) (count : ℕ) (events : List Event) (reading : Reading bytes rest count events) (first : IsFirstLine rest line after) where
  pub reading_next : (more : List Event) → AddsLine line events more → Reading bytes after (count + 1) more
  reading_next more adds =
      let counted = reading.counted in
      let within = reading.within in
      record {
        before = reading.before ++ line ∷ [];
        counted = omega (arith, counted, length-append reading.before (line ∷ []));
        completes = λ later cut. subst (AreLines bytes) (sym (append_assoc reading.before (line ∷ []) later)) (reading.completes (line ∷ later) (after, first, cut));
        own = own_more reading.before line events more adds reading.own;
        held = held_more line events more adds reading.held;
        within = omega (arith, within, shorter rest line after first);
      }

  pub line_fault : (fault : ScheduleFault) → IsLineFault line (count + 1) fault → IsScheduleFault bytes fault
  line_fault (NoEvent at) why =
      let cut = some_cut after in
      let counted = reading.counted in
      let number = why.0 in
      record {
        before = reading.before;
        line = line;
        after = cut.0;
        lines = reading.completes (line ∷ cut.0) (after, first, cut.1);
        events = events;
        own = reading.own;
        no_note = why.1;
        none = why.2;
        counted = omega (arith, counted, number);
      }
  line_fault Memory why = tt

-- what the exit of a `?` returns is the callee's fault
pub at_fault : {T E : Type 0} (result : Result T E) (fault : E) (P : E → Type 0) → IsErrAnd result (λ e. e ≡ fault) → P fault → IfErr result P
at_fault (Ok value) fault P is due = absurd is
at_fault (Err e) fault P is due = subst P (sym is) due

pub all_lines : (bytes rest : List ℕ) (count : ℕ) (events : List Event) → Reading bytes rest count events → length rest ≡ 0 → AreLinesOf bytes events
all_lines bytes rest count events reading none =
    record { lines = reading.before; cut = subst (AreLines bytes) (append-nil reading.before) (reading.completes [] (nil_from_length rest none)); own = reading.own }

pub text_more : (events : List Event) (i : ℕ) (d : Event) (text new whole : List ℕ) → i < length events → new ≡ (text ++ event_text (get_or events i d)) ++ 10 ∷ [] → text ++ schedule_text (drop i events) ≡ whole → new ++ schedule_text (drop (i + 1) events) ≡ whole
text_more events i d text new whole inside added so_far =
    let next : suc i ≡ i + 1 = omega arith in
    let cut : drop i events ≡ get_or events i d ∷ drop (i + 1) events = drop-cons events i d inside ∙ ap (λ k. get_or events i d ∷ drop k events) next in
    let here = event_text (get_or events i d) in
    ap (λ t. t ++ schedule_text (drop (i + 1) events)) added
    ∙ append_assoc (text ++ here) (10 ∷ []) (schedule_text (drop (i + 1) events))
    ∙ append_assoc text here (10 ∷ schedule_text (drop (i + 1) events))
    ∙ ap (λ es. text ++ schedule_text es) (sym cut)
    ∙ so_far
