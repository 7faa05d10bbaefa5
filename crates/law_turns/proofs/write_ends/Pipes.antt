-- One pipe changes or is given up: what is done to any other pipe comes to the same before and after that.
use Rattle.std.proofs.Common.{◌≡◌, ◌≢◌, ℕ, List, [], ◌∷◌, Bool, true, false, Option, Some, None, refl, sym, ap, ◌∙◌}
use Rattle.std.proofs.lemmas.Bool.{eqb-true, ne_eqb}
use Rattle.std.specs.Prelude.{if◌then◌else◌, ◌==◌, ◌||◌}
use Rattle.byte_pipe.specs.PipeState.{PipeState, new_pipe, after_put, after_take, after_close_read, after_close_write}
use Rattle.law_kernel.specs.Ends.{AreApart}
use Rattle.kernel_model.specs.Pipes.{Pipes, pipe_of, with_pipe, without_pipe, with_new, put_into, taken_from, reader_gone, writer_gone}

-- a pipe's place after it became this, or was given up
abbrev pub placed : ℕ → Option PipeState → Pipes → Pipes
placed name None rest = rest
placed name (Some now) rest = (name, now) ∷ rest

-- the pipe of that name, if there is one, becomes what h makes of it
abbrev pub edited : Pipes → ℕ → (PipeState → Option PipeState) → Pipes
edited [] id h = []
edited (p ∷ rest) id h = if id == p.0 then placed p.0 (h p.1) rest else p ∷ edited rest id h

-- the same, where it is known
abbrev done : Pipes → ℕ → Option (Option PipeState) → Pipes
done pipes id None = pipes
done pipes id (Some None) = without_pipe pipes id
done pipes id (Some (Some now)) = with_pipe pipes id now

abbrev made_of : (PipeState → Option PipeState) → Option PipeState → Option (Option PipeState)
made_of h None = None
made_of h (Some p) = Some (h p)

module _ (id : ℕ) (h : PipeState → Option PipeState) where
  done_here : (p : ℕ × PipeState) (rest : Pipes) (now : Option PipeState) → (id == p.0) ≡ true → done (p ∷ rest) id (Some now) ≡ placed p.0 now rest
  done_here p rest None is = ap (λ (b : Bool). if b then rest else p ∷ without_pipe rest id) is
  done_here p rest (Some x) is = ap (λ (b : Bool). if b then (p.0, x) ∷ rest else p ∷ with_pipe rest id x) is

  done_later : (p : ℕ × PipeState) (rest : Pipes) (o : Option (Option PipeState)) → (id == p.0) ≡ false → done (p ∷ rest) id o ≡ p ∷ done rest id o
  done_later p rest None is = refl
  done_later p rest (Some None) is = ap (λ (b : Bool). if b then rest else p ∷ without_pipe rest id) is
  done_later p rest (Some (Some x)) is = ap (λ (b : Bool). if b then (p.0, x) ∷ rest else p ∷ with_pipe rest id x) is

  pub as_edited : (pipes : Pipes) → done pipes id (made_of h (pipe_of pipes id)) ≡ edited pipes id h
  as_edited [] = refl
  as_edited (p ∷ rest) = by (id == p.0) refl (as_edited rest) where
    by : (b : Bool) → (id == p.0) ≡ b → done rest id (made_of h (pipe_of rest id)) ≡ edited rest id h → done (p ∷ rest) id (made_of h (if id == p.0 then Some p.1 else pipe_of rest id)) ≡ (if id == p.0 then placed p.0 (h p.1) rest else p ∷ edited rest id h)
    by true is again =
        ap (λ (b : Bool). done (p ∷ rest) id (made_of h (if b then Some p.1 else pipe_of rest id))) is ∙ done_here p rest (h p.1) is ∙
        sym (ap (λ (b : Bool). if b then placed p.0 (h p.1) rest else p ∷ edited rest id h) is)
    by false is again =
        ap (λ (b : Bool). done (p ∷ rest) id (made_of h (if b then Some p.1 else pipe_of rest id))) is ∙ done_later p rest (made_of h (pipe_of rest id)) is ∙
        ap (λ (l : Pipes). p ∷ l) again ∙ sym (ap (λ (b : Bool). if b then placed p.0 (h p.1) rest else p ∷ edited rest id h) is)

-- ---- what each call does

-- an end is closed: the pipe is kept while the other one is open
abbrev pub kept_open : PipeState → Option PipeState
kept_open p = if p.reader || p.writer then Some p else None

kept_by : (b : Bool) (pipes : Pipes) (id : ℕ) (now : PipeState) → (if b then with_pipe pipes id now else without_pipe pipes id) ≡ done pipes id (Some (if b then Some now else None))
kept_by true pipes id now = refl
kept_by false pipes id now = refl

pub writer_edited : (pipes : Pipes) (id : ℕ) → writer_gone pipes id (pipe_of pipes id) ≡ edited pipes id (λ p. kept_open (after_close_write p))
writer_edited pipes id = by (pipe_of pipes id) ∙ as_edited id (λ p. kept_open (after_close_write p)) pipes where
  by : (o : Option PipeState) → writer_gone pipes id o ≡ done pipes id (made_of (λ p. kept_open (after_close_write p)) o)
  by None = refl
  by (Some p) = kept_by ((after_close_write p).reader || (after_close_write p).writer) pipes id (after_close_write p)

pub reader_edited : (pipes : Pipes) (id : ℕ) → reader_gone pipes id (pipe_of pipes id) ≡ edited pipes id (λ p. kept_open (after_close_read p))
reader_edited pipes id = by (pipe_of pipes id) ∙ as_edited id (λ p. kept_open (after_close_read p)) pipes where
  by : (o : Option PipeState) → reader_gone pipes id o ≡ done pipes id (made_of (λ p. kept_open (after_close_read p)) o)
  by None = refl
  by (Some p) = kept_by ((after_close_read p).reader || (after_close_read p).writer) pipes id (after_close_read p)

pub taken_edited : (pipes : Pipes) (id n : ℕ) → taken_from pipes id n (pipe_of pipes id) ≡ edited pipes id (λ p. Some (after_take p n))
taken_edited pipes id n = by (pipe_of pipes id) ∙ as_edited id (λ p. Some (after_take p n)) pipes where
  by : (o : Option PipeState) → taken_from pipes id n o ≡ done pipes id (made_of (λ p. Some (after_take p n)) o)
  by None = refl
  by (Some p) = refl

pub put_edited : (pipes : Pipes) (id : ℕ) (xs : List ℕ) → put_into pipes id xs (pipe_of pipes id) ≡ edited pipes id (λ p. Some (after_put p xs))
put_edited pipes id xs = by (pipe_of pipes id) ∙ as_edited id (λ p. Some (after_put p xs)) pipes where
  by : (o : Option PipeState) → put_into pipes id xs o ≡ done pipes id (made_of (λ p. Some (after_put p xs)) o)
  by None = refl
  by (Some p) = refl

-- ---- two pipes

module _ (a b : ℕ) (ne : a ≢ b) (f g : PipeState → Option PipeState) where
  later : (name : ℕ) (x : Option PipeState) (rest : Pipes) → (b == name) ≡ false → edited (placed name x rest) b g ≡ placed name x (edited rest b g)
  later name None rest is = refl
  later name (Some x) rest is = ap (λ (c : Bool). if c then placed name (g x) rest else (name, x) ∷ edited rest b g) is

  later_too : (name : ℕ) (x : Option PipeState) (rest : Pipes) → (a == name) ≡ false → edited (placed name x rest) a f ≡ placed name x (edited rest a f)
  later_too name None rest is = refl
  later_too name (Some x) rest is = ap (λ (c : Bool). if c then placed name (f x) rest else (name, x) ∷ edited rest a f) is

  pub edits_commute : (pipes : Pipes) → edited (edited pipes a f) b g ≡ edited (edited pipes b g) a f
  edits_commute [] = refl
  edits_commute (p ∷ rest) = by (a == p.0) (b == p.0) refl refl (edits_commute rest) where
    here_b : (l : Pipes) → (b == p.0) ≡ true → edited (p ∷ l) b g ≡ placed p.0 (g p.1) l
    here_b l is = ap (λ (c : Bool). if c then placed p.0 (g p.1) l else p ∷ edited l b g) is

    past_b : (l : Pipes) → (b == p.0) ≡ false → edited (p ∷ l) b g ≡ p ∷ edited l b g
    past_b l is = ap (λ (c : Bool). if c then placed p.0 (g p.1) l else p ∷ edited l b g) is

    first_a : (l : Pipes) → (a == p.0) ≡ true → edited (p ∷ l) a f ≡ placed p.0 (f p.1) l
    first_a l is = ap (λ (c : Bool). if c then placed p.0 (f p.1) l else p ∷ edited l a f) is

    after_a : (l : Pipes) → (a == p.0) ≡ false → edited (p ∷ l) a f ≡ p ∷ edited l a f
    after_a l is = ap (λ (c : Bool). if c then placed p.0 (f p.1) l else p ∷ edited l a f) is

    by : (x y : Bool) → (a == p.0) ≡ x → (b == p.0) ≡ y → edited (edited rest a f) b g ≡ edited (edited rest b g) a f → edited (edited (p ∷ rest) a f) b g ≡ edited (edited (p ∷ rest) b g) a f
    by true true is_a is_b again = absurd (ne (eqb-true a p.0 is_a ∙ sym (eqb-true b p.0 is_b)))
    by true false is_a is_b again =
        ap (λ (l : Pipes). edited l b g) (first_a rest is_a) ∙ later p.0 (f p.1) rest is_b ∙ sym (ap (λ (l : Pipes). edited l a f) (past_b rest is_b) ∙ first_a (edited rest b g) is_a)
    by false true is_a is_b again =
        ap (λ (l : Pipes). edited l b g) (after_a rest is_a) ∙ here_b (edited rest a f) is_b ∙ sym (ap (λ (l : Pipes). edited l a f) (here_b rest is_b) ∙ later_too p.0 (g p.1) rest is_a)
    by false false is_a is_b again =
        ap (λ (l : Pipes). edited l b g) (after_a rest is_a) ∙ past_b (edited rest a f) is_b ∙ ap (λ (l : Pipes). p ∷ l) again ∙
        sym (ap (λ (l : Pipes). edited l a f) (past_b rest is_b) ∙ after_a (edited rest b g) is_a)

-- another pipe isn't seen to change
module _ (a other : ℕ) (ne : other ≢ a) (f : PipeState → Option PipeState) where
  placed_seen : (name : ℕ) (x : Option PipeState) (rest : Pipes) → (other == name) ≡ false → pipe_of (placed name x rest) other ≡ pipe_of rest other
  placed_seen name None rest is = refl
  placed_seen name (Some x) rest is = ap (λ (c : Bool). if c then Some x else pipe_of rest other) is

  pub other_seen : (pipes : Pipes) → pipe_of (edited pipes a f) other ≡ pipe_of pipes other
  other_seen [] = refl
  other_seen (p ∷ rest) = by (a == p.0) refl (other_seen rest) where
    by : (x : Bool) → (a == p.0) ≡ x → pipe_of (edited rest a f) other ≡ pipe_of rest other → pipe_of (if a == p.0 then placed p.0 (f p.1) rest else p ∷ edited rest a f) other ≡ (if other == p.0 then Some p.1 else pipe_of rest other)
    by true is again =
        let apart : (other == p.0) ≡ false = ne_eqb other p.0 (λ q. ne (q ∙ sym (eqb-true a p.0 is))) in
        ap (λ (c : Bool). pipe_of (if c then placed p.0 (f p.1) rest else p ∷ edited rest a f) other) is ∙ placed_seen p.0 (f p.1) rest apart ∙
        sym (ap (λ (c : Bool). if c then Some p.1 else pipe_of rest other) apart)
    by false is again = ap (λ (c : Bool). pipe_of (if c then placed p.0 (f p.1) rest else p ∷ edited rest a f) other) is ∙ ap (λ (o : Option PipeState). if other == p.0 then Some p.1 else o) again

-- a new pipe has another name
pub new_edited : (a new : ℕ) → a ≢ new → (f : PipeState → Option PipeState) (pipes : Pipes) → with_new (edited pipes a f) new ≡ edited (with_new pipes new) a f
new_edited a new ne f [] = sym (ap (λ (c : Bool). if c then placed new (f new_pipe) [] else (new, new_pipe) ∷ []) (ne_eqb a new ne))
new_edited a new ne f (p ∷ rest) = by (a == p.0) (new_edited a new ne f rest) where
  placed_new : (x : Option PipeState) → with_new (placed p.0 x rest) new ≡ placed p.0 x (with_new rest new)
  placed_new None = refl
  placed_new (Some x) = refl

  by : (c : Bool) → with_new (edited rest a f) new ≡ edited (with_new rest new) a f → with_new (if c then placed p.0 (f p.1) rest else p ∷ edited rest a f) new ≡ (if c then placed p.0 (f p.1) (with_new rest new) else p ∷ edited (with_new rest new) a f)
  by true again = placed_new (f p.1)
  by false again = ap (λ (l : Pipes). p ∷ l) again

-- ---- one pipe twice

module _ (a : ℕ) (f : PipeState → PipeState) (g : PipeState → Option PipeState) where
  pub edited_twice : (pipes : Pipes) → edited (edited pipes a (λ p. Some (f p))) a g ≡ edited pipes a (λ p. g (f p))
  edited_twice [] = refl
  edited_twice (p ∷ rest) = by (a == p.0) refl (edited_twice rest) where
    by : (x : Bool) → (a == p.0) ≡ x → edited (edited rest a (λ q. Some (f q))) a g ≡ edited rest a (λ q. g (f q)) → edited (if a == p.0 then (p.0, f p.1) ∷ rest else p ∷ edited rest a (λ q. Some (f q))) a g ≡ (if a == p.0 then placed p.0 (g (f p.1)) rest else p ∷ edited rest a (λ q. g (f q)))
    by true is again =
        ap (λ (c : Bool). edited (if c then (p.0, f p.1) ∷ rest else p ∷ edited rest a (λ q. Some (f q))) a g) is ∙ ap (λ (c : Bool). if c then placed p.0 (g (f p.1)) rest else (p.0, f p.1) ∷ edited rest a g) is ∙
        sym (ap (λ (c : Bool). if c then placed p.0 (g (f p.1)) rest else p ∷ edited rest a (λ q. g (f q))) is)
    by false is again =
        ap (λ (c : Bool). edited (if c then (p.0, f p.1) ∷ rest else p ∷ edited rest a (λ q. Some (f q))) a g) is ∙ ap (λ (c : Bool). if c then placed p.0 (g p.1) (edited rest a (λ q. Some (f q))) else p ∷ edited (edited rest a (λ q. Some (f q))) a g) is ∙
        ap (λ (l : Pipes). p ∷ l) again ∙ sym (ap (λ (c : Bool). if c then placed p.0 (g (f p.1)) rest else p ∷ edited rest a (λ q. g (f q))) is)

module _ (a : ℕ) where
  -- nothing is changed where there is no such pipe
  pub unedited : (f : PipeState → Option PipeState) (pipes : Pipes) → pipe_of pipes a ≡ None → edited pipes a f ≡ pipes
  unedited f [] none = refl
  unedited f (p ∷ rest) none = by (a == p.0) refl (unedited f rest) none where
    by : (x : Bool) → (a == p.0) ≡ x → (pipe_of rest a ≡ None → edited rest a f ≡ rest) → (if a == p.0 then Some p.1 else pipe_of rest a) ≡ None → (if a == p.0 then placed p.0 (f p.1) rest else p ∷ edited rest a f) ≡ p ∷ rest
    by true is again none = absurd (let no_such : Some p.1 ≡ None = sym (ap (λ (c : Bool). if c then Some p.1 else pipe_of rest a) is) ∙ none in let z : ⊥ = cc in z)
    by false is again none = ap (λ (c : Bool). if c then placed p.0 (f p.1) rest else p ∷ edited rest a f) is ∙ ap (λ (l : Pipes). p ∷ l) (again (sym (ap (λ (c : Bool). if c then Some p.1 else pipe_of rest a) is) ∙ none))

  -- what is there is all that counts
  pub edited_so : (f g : PipeState → Option PipeState) (pipes : Pipes) (p : PipeState) → pipe_of pipes a ≡ Some p → f p ≡ g p → edited pipes a f ≡ edited pipes a g
  edited_so f g pipes p there same = sym (as_edited a f pipes) ∙ ap (λ (o : Option PipeState). done pipes a (made_of f o)) there ∙ ap (λ (x : Option PipeState). done pipes a (Some x)) same ∙ sym (ap (λ (o : Option PipeState). done pipes a (made_of g o)) there) ∙ as_edited a g pipes

  pub seen_now : (f : PipeState → PipeState) (pipes : Pipes) (p : PipeState) → pipe_of pipes a ≡ Some p → pipe_of (edited pipes a (λ x. Some (f x))) a ≡ Some (f p)
  seen_now f [] p there = absurd (let z : ⊥ = cc in z)
  seen_now f (q ∷ rest) p there = by (a == q.0) refl (seen_now f rest p) there where
    by : (x : Bool) → (a == q.0) ≡ x → (pipe_of rest a ≡ Some p → pipe_of (edited rest a (λ x. Some (f x))) a ≡ Some (f p)) → (if a == q.0 then Some q.1 else pipe_of rest a) ≡ Some p
        → pipe_of (if a == q.0 then (q.0, f q.1) ∷ rest else q ∷ edited rest a (λ x. Some (f x))) a ≡ Some (f p)
    by true is again there =
        let here : Some q.1 ≡ Some p = sym (ap (λ (c : Bool). if c then Some q.1 else pipe_of rest a) is) ∙ there in
        let same : q.1 ≡ p = cc in
        ap (λ (c : Bool). pipe_of (if c then (q.0, f q.1) ∷ rest else q ∷ edited rest a (λ x. Some (f x))) a) is ∙ ap (λ (c : Bool). if c then Some (f q.1) else pipe_of rest a) is ∙ (λ i. Some (f (same i)))
    by false is again there =
        ap (λ (c : Bool). pipe_of (if c then (q.0, f q.1) ∷ rest else q ∷ edited rest a (λ x. Some (f x))) a) is ∙ ap (λ (c : Bool). if c then Some q.1 else pipe_of (edited rest a (λ x. Some (f x))) a) is ∙
        again (sym (ap (λ (c : Bool). if c then Some q.1 else pipe_of rest a) is) ∙ there)

  abbrev pub shut_write : PipeState → Option PipeState
  shut_write p = kept_open (after_close_write p)

  abbrev pub shut_read : PipeState → Option PipeState
  shut_read p = kept_open (after_close_read p)

  -- both ends of a pipe are closed
  abbrev state : List ℕ → Bool → Bool → PipeState
  state bytes r w = record { bytes = bytes; reader = r; writer = w }

  last_read : (name : ℕ) (bytes : List ℕ) (r : Bool) (rest : Pipes) → (a == name) ≡ true → edited ((name, state bytes r false) ∷ rest) a shut_read ≡ rest
  last_read name bytes r rest here = ap (λ (c : Bool). if c then rest else (name, state bytes r false) ∷ edited rest a shut_read) here

  last_write : (name : ℕ) (bytes : List ℕ) (w : Bool) (rest : Pipes) → (a == name) ≡ true → edited ((name, state bytes false w) ∷ rest) a shut_write ≡ rest
  last_write name bytes w rest here = ap (λ (c : Bool). if c then rest else (name, state bytes false w) ∷ edited rest a shut_write) here

  both_shut : (name : ℕ) (bytes : List ℕ) (r w : Bool) (rest : Pipes) → (a == name) ≡ true → pipe_of rest a ≡ None → edited (placed name (shut_write (state bytes r w)) rest) a shut_read ≡ edited (placed name (shut_read (state bytes r w)) rest) a shut_write
  both_shut name bytes true true rest here none = last_read name bytes true rest here ∙ sym (last_write name bytes true rest here)
  both_shut name bytes true false rest here none = last_read name bytes true rest here ∙ sym (unedited shut_write rest none)
  both_shut name bytes false true rest here none = unedited shut_read rest none ∙ sym (last_write name bytes true rest here)
  both_shut name bytes false false rest here none = unedited shut_read rest none ∙ sym (unedited shut_write rest none)

  pub ends_commute : (pipes : Pipes) → AreApart pipes → edited (edited pipes a shut_write) a shut_read ≡ edited (edited pipes a shut_read) a shut_write
  ends_commute [] apart = refl
  ends_commute (p ∷ rest) apart = by (a == p.0) refl (ends_commute rest apart.1) where
    by : (x : Bool) → (a == p.0) ≡ x → edited (edited rest a shut_write) a shut_read ≡ edited (edited rest a shut_read) a shut_write
        → edited (if a == p.0 then placed p.0 (shut_write p.1) rest else p ∷ edited rest a shut_write) a shut_read ≡ edited (if a == p.0 then placed p.0 (shut_read p.1) rest else p ∷ edited rest a shut_read) a shut_write
    by true is again =
        ap (λ (c : Bool). edited (if c then placed p.0 (shut_write p.1) rest else p ∷ edited rest a shut_write) a shut_read) is ∙
        both_shut p.0 p.1.bytes p.1.reader p.1.writer rest is (ap (pipe_of rest) (eqb-true a p.0 is) ∙ apart.0) ∙
        sym (ap (λ (c : Bool). edited (if c then placed p.0 (shut_read p.1) rest else p ∷ edited rest a shut_read) a shut_write) is)
    by false is again =
        ap (λ (c : Bool). edited (if c then placed p.0 (shut_write p.1) rest else p ∷ edited rest a shut_write) a shut_read) is ∙ ap (λ (c : Bool). if c then placed p.0 (shut_read p.1) (edited rest a shut_write) else p ∷ edited (edited rest a shut_write) a shut_read) is ∙
        ap (λ (l : Pipes). p ∷ l) again ∙ sym (ap (λ (c : Bool). edited (if c then placed p.0 (shut_read p.1) rest else p ∷ edited rest a shut_read) a shut_write) is ∙ ap (λ (c : Bool). if c then placed p.0 (shut_write p.1) (edited rest a shut_read) else p ∷ edited (edited rest a shut_read) a shut_write) is)
