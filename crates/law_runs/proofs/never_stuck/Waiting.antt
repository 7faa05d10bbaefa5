-- Where all are blocked, a part is over or waits for its own input or output: by induction on the tree.
use Rattle.std.proofs.Common.{◌≡◌, ◌⊎◌, inl, inr, ℕ, ◌+◌, ◌≤◌, [], Some, Bool, length, refl, sym, ap, ◌∙◌, subst, arith}
use Rattle.byte_pipe.specs.Limits.{pipe_size}
use Rattle.mem_files.specs.Name.{Bytes}
use Rattle.prog_parts.specs.declared.program.Program.{Program}
use Rattle.std.specs.Prelude.{List}
use Rattle.script_load.specs.declared.profile.Profile.{Profile}
use Rattle.user_calls.specs.declared.calls.Call.{Call}
use Rattle.user_calls.specs.declared.calls.Call.TheVariants.{Fork, Exec, Exit, Wait, MakePipe, Read, Write, OpenFile, Close, Dup}
use Rattle.user_progs.specs.Turn.{Turn}
use Rattle.tree_model.specs.Tame.{Among, IsTame}
use Rattle.process_model.specs.Seen.{Entry, diag, reader, writer, file, fd_at, Act, zombie, live, View}
use Rattle.process_model.specs.Own.{Owned, own_fds, Works}
use Rattle.process_model.specs.Phases.{Stage, closes_read, closes_write, waits_two, waits_one, leaves_pipe, closes_old, dups_kept, drops_read, drops_write, plain_fds}
use Rattle.process_model.specs.Effect.{Holds}
use Rattle.process_model.specs.Shape.{Node, reaped, gone, starts, works, tells, leaves, reads_lines, in_line, in_list, pipe_made, pipe_half, pipe_both, left_child, right_child, opening, under_input, under_output, Has, same, occurs, names, is_there, is_up, awaited}
use Rattle.process_model.proofs.Counts.{same_self, same_cases, none_or_some}
use Rattle.law_runs.proofs.standing.OwnFiles.{found}
use Rattle.law_runs.proofs.never_stuck.Blocked.{IsHeld, Blocked, AllBlocked, WaitsIn, WaitsOut, Waits, is_over, on_input, on_output, IsEnd, Whole}
use Rattle.law_runs.proofs.never_stuck.Begins.{begins_now, takes_now}
use Rattle.law_runs.proofs.never_stuck.Holders.{end_named, plain_holds, tells_not, At, at_input, at_output, at_inside, held_at}

-- what is over and no zombie was reaped
over_reaped : (profile : Profile) (V : View) (a b old : Entry) (p : ℕ) (x : Node) → Has profile V a b old p x → ((q : ℕ) → V.slots q ≡ zombie p → ⊥) → is_up x ≡ 0 → x ≡ reaped
over_reaped profile V a b old p reaped h living down = refl
over_reaped profile V a b old p (gone q) h living down = absurd (living q h)
over_reaped profile V a b old p _ h living down = absurd (omega (arith, down))

module _ (profile : Profile) (V : View) (all : AllBlocked V) where
  -- a pipe whose process waits
  module _ (a b old : Entry) (parent p i : ℕ) (stage : Stage) (lost : Bool) (x y : Node) (bytes : Bytes) (act : Act) (g : Whole profile V a b old parent (pipe_both p i stage lost x bytes y)) (own : V.slots p ≡ live parent act 0 (plain_fds a b)) where
    not_own : (q k : ℕ) (e : Entry) → IsEnd e k → Holds (V.slots q) e → 1 ≤ same k i + names k x + names k y → same q p ≡ 0
    not_own q k e end h some =
        elim (same_cases q p) [
          | inr ne ↦ ne.1
          | inl is ↦
              absurd (elim (plain_holds (V.slots q) a b e _ k _ _ (ap V.slots is.0 ∙ own) end h) [
                | inl it ↦ let n = end_named e a k end it in omega (arith, n, some, g.apart k)
                | inr it ↦ let n = end_named e b k end it in omega (arith, n, some, g.apart k)
              ])
        ]

    -- an end of a pipe on the left, or this pipe's write end, is held by nobody on the right
    not_right : (q k : ℕ) (e : Entry) → IsEnd e k → Holds (V.slots q) e → (1 ≤ names k x) ⊎ (e ≡ writer i) → occurs q y ≡ 0
    not_right q k e end h which = elim (none_or_some (occurs q y)) [ inl none ↦ none | inr some ↦ absurd (by which (held_at profile V all (reader i) b a p y g.has.4 q k e end some h)) ]
      where
        by : (1 ≤ names k x) ⊎ (e ≡ writer i) → At (reader i) b y e k → ⊥
        by (inl l) (at_input it) = let n = end_named e (reader i) k end it in omega (arith, n, l, g.apart k)
        by (inl l) (at_output it) = let n = end_named e b k end it in omega (arith, n, l, g.apart k)
        by (inl l) (at_inside m) = omega (arith, l, m, g.apart k)
        by (inr is) (at_input it) = let z : reader i ≡ writer i = sym it ∙ is in let w : ⊥ = cc in w
        by (inr is) (at_output it) = let n = end_named e b k end it in let m = end_named e (writer i) k end is in omega (arith, n, m, g.apart k)
        by (inr is) (at_inside l) = let m = end_named e (writer i) k end is in omega (arith, l, m, g.apart k)

    not_left : (q k : ℕ) (e : Entry) → IsEnd e k → Holds (V.slots q) e → (1 ≤ names k y) ⊎ (e ≡ reader i) → occurs q x ≡ 0
    not_left q k e end h which = elim (none_or_some (occurs q x)) [ inl none ↦ none | inr some ↦ absurd (by which (held_at profile V all a (writer i) b p x g.has.3 q k e end some h)) ]
      where
        by : (1 ≤ names k y) ⊎ (e ≡ reader i) → At a (writer i) x e k → ⊥
        by (inl l) (at_input it) = let n = end_named e a k end it in omega (arith, n, l, g.apart k)
        by (inl l) (at_output it) = let n = end_named e (writer i) k end it in omega (arith, n, l, g.apart k)
        by (inl l) (at_inside m) = omega (arith, l, m, g.apart k)
        by (inr is) (at_input it) = let n = end_named e a k end it in let m = end_named e (reader i) k end is in omega (arith, n, m, g.apart k)
        by (inr is) (at_output it) = let z : writer i ≡ reader i = sym it ∙ is in let w : ⊥ = cc in w
        by (inr is) (at_inside l) = let m = end_named e (reader i) k end is in omega (arith, l, m, g.apart k)

    left_whole : Whole profile V a (writer i) b p x
    left_whole = record {
      has = g.has.3;
      apart = λ k. omega (arith, g.apart k);
      inside = λ q k e end h l. omega (arith, not_own q k e end h (omega (arith, l)), not_right q k e end h (inl l), g.inside q k e end h (omega (arith, l)));
    }

    right_whole : Whole profile V (reader i) b a p y
    right_whole = record {
      has = g.has.4;
      apart = λ k. omega (arith, g.apart k);
      inside = λ q k e end h l. omega (arith, not_own q k e end h (omega (arith, l)), not_left q k e end h (inl l), g.inside q k e end h (omega (arith, l)));
    }

    own_pipe : 1 ≤ same i i + names i x + names i y
    own_pipe = omega (arith, same_self i)

    no_writer : x ≡ reaped → IsHeld V (writer i) → ⊥
    no_writer none h =
        let nobody : occurs h.holder x ≡ 0 = ap (occurs h.holder) none in
        omega (arith, nobody, not_own h.holder i (writer i) (inr refl) h.holds own_pipe, not_right h.holder i (writer i) (inr refl) h.holds (inr refl), g.inside h.holder i (writer i) (inr refl) h.holds own_pipe)

    no_reader : y ≡ reaped → IsHeld V (reader i) → ⊥
    no_reader none h =
        let nobody : occurs h.holder y ≡ 0 = ap (occurs h.holder) none in
        omega (arith, nobody, not_own h.holder i (reader i) (inl refl) h.holds own_pipe, not_left h.holder i (reader i) (inl refl) h.holds (inr refl), g.inside h.holder i (reader i) (inl refl) h.holds own_pipe)

    both : ((q : ℕ) → V.slots q ≡ zombie p → ⊥) → 1 ≤ awaited stage → Waits V a (writer i) x → Waits V (reader i) b y → Waits V a b (pipe_both p i stage lost x bytes y)
    both living some (on_input it) right = on_input it
    both living some left (on_output it) = on_output it
    both living some (is_over dx) (is_over dy) =
        let ex = over_reaped profile V a (writer i) b p x g.has.3 living dx in
        let ey = over_reaped profile V (reader i) b a p y g.has.4 living dy in
        absurd (omega (arith, some, g.has.2, ap is_there ex, ap is_there ey))
    both living some (is_over dx) (on_input it) = absurd (no_writer (over_reaped profile V a (writer i) b p x g.has.3 living dx) it.1)
    both living some (on_output it) (is_over dy) = absurd (no_reader (over_reaped profile V (reader i) b a p y g.has.4 living dy) it.1)
    both living some (on_output full) (on_input empty) = absurd (omega (arith, full.0, ap length empty.0))

  -- what runs under a process that waits for it
  module _ (a b old : Entry) (parent p : ℕ) (t x : Node) (act : Act) (own : V.slots p ≡ live parent act 0 (plain_fds a b)) (occurs_is : (q : ℕ) → occurs q t ≡ same q p + occurs q x) (names_are : (k : ℕ) → names k t ≡ names k x) where
    under_whole : Has profile V a b old p x → Whole profile V a b old parent t → Whole profile V a b old p x
    under_whole has g = record { has = has; apart = λ k. omega (arith, g.apart k, names_are k); inside = below }
      where
        below : (q k : ℕ) (e : Entry) → IsEnd e k → Holds (V.slots q) e → 1 ≤ names k x → 1 ≤ occurs q x
        below q k e end h l =
            elim (same_cases q p) [
              | inr ne ↦ omega (arith, ne.1, g.inside q k e end h (omega (arith, l, names_are k)), occurs_is q)
              | inl is ↦
                  absurd (elim (plain_holds (V.slots q) a b e _ k _ _ (ap V.slots is.0 ∙ own) end h) [
                    | inl it ↦ let n = end_named e a k end it in omega (arith, n, l, names_are k, g.apart k)
                    | inr it ↦ let n = end_named e b k end it in omega (arith, n, l, names_are k, g.apart k)
                  ])
            ]

    under_waits : Has profile V a b old p x → is_there x ≡ 1 → ((q : ℕ) → V.slots q ≡ zombie p → ⊥) → Waits V a b x → Waits V a b t
    under_waits has there living (is_over down) = absurd (omega (arith, there, ap is_there (over_reaped profile V a b old p x has living down)))
    under_waits has there living (on_input it) = on_input it
    under_waits has there living (on_output it) = on_output it

  -- a program
  module _ (a b : Entry) (parent p : ℕ) (turn : Turn) (put : ℕ) (owns : List Owned) (h : Works V a b parent p turn put owns) (t : Node) where
    no_end : (fd : ℕ) (e : Entry) (k : ℕ) → IsEnd e k → Among fd (own_fds owns) → fd_at h.fds fd ≡ Some e → ⊥
    no_end fd e k end among is =
        let f = found V owns fd among h.apart h.placed h.plain in
        by end (sym f.at ∙ sym (h.opened.above fd f.above) ∙ is)
      where
        by : IsEnd e k → {n : ℕ} → Some (file n) ≡ Some e → ⊥
        by (inl it) {n} is = let z : Some (file n) ≡ Some (reader k) = is ∙ ap Some it in let w : ⊥ = cc in w
        by (inr it) {n} is = let z : Some (file n) ≡ Some (writer k) = is ∙ ap Some it in let w : ⊥ = cc in w

    reads : (fd : ℕ) → (fd ≡ 0) ⊎ Among fd (own_fds owns) → (i : ℕ) → fd_at h.fds fd ≡ Some (reader i) → V.pipes i ≡ [] → IsHeld V (writer i) → Waits V a b t
    reads fd (inl is) i at_it empty held =
        let y : Some a ≡ Some (reader i) = sym h.opened.input ∙ ap (fd_at h.fds) (sym is) ∙ at_it in
        let z : a ≡ reader i = cc in
        on_input (subst (WaitsIn V) (sym z) (empty, held))
    reads fd (inr among) i at_it empty held = absurd (no_end fd (reader i) i (inl refl) among at_it)

    writes : (fd : ℕ) → (fd ≡ 1) ⊎ ((fd ≡ 2) ⊎ Among fd (own_fds owns)) → (i : ℕ) → fd_at h.fds fd ≡ Some (writer i) → length (V.pipes i) ≡ pipe_size → IsHeld V (reader i) → Waits V a b t
    writes fd (inl is) i at_it full held =
        let y : Some b ≡ Some (writer i) = sym h.opened.output ∙ ap (fd_at h.fds) (sym is) ∙ at_it in
        let z : b ≡ writer i = cc in
        on_output (subst (WaitsOut V) (sym z) (full, held))
    writes fd (inr (inl is)) i at_it full held = absurd (let y : Some diag ≡ Some (writer i) = sym h.opened.messages ∙ ap (fd_at h.fds) (sym is) ∙ at_it in let z : ⊥ = cc in z)
    writes fd (inr (inr among)) i at_it full held = absurd (no_end fd (writer i) i (inr refl) among at_it)

    which_read : (which : Program) (arguments : List Bytes) (fd most : ℕ) → IsTame which arguments (own_fds owns) (Read fd most) → (fd ≡ 0) ⊎ Among fd (own_fds owns)
    which_read which arguments fd most tame = elim tame.2 [ inl it ↦ inl it.0 | inr among ↦ inr among ]

    working : (which : Program) (arguments : List Bytes) (call : Call) → IsTame which arguments (own_fds owns) call → Blocked V p h.fds call → Waits V a b t
    working which arguments Fork tame blocked = absurd blocked
    working which arguments (Exec found) tame blocked = absurd blocked
    working which arguments Exit tame blocked = absurd blocked
    working which arguments Wait tame blocked = absurd tame
    working which arguments MakePipe tame blocked = absurd blocked
    working which arguments (Read fd most) tame blocked = reads fd (which_read which arguments fd most tame) blocked.0 blocked.1 blocked.2 blocked.3
    working which arguments (Write fd bytes) tame blocked = writes fd tame blocked.0 blocked.1 blocked.2 blocked.3
    working which arguments (OpenFile name mode) tame blocked = absurd blocked
    working which arguments (Close fd) tame blocked = absurd blocked
    working which arguments (Dup fd) tame blocked = absurd blocked

  -- under a redirection
  under_input_waits : (n : ℕ) (b : Entry) (a : Entry) (t x : Node) → is_up x ≡ 1 → Waits V (file n) b x → Waits V a b t
  under_input_waits n b a t x up (is_over down) = absurd (omega (arith, up, down))
  under_input_waits n b a t x up (on_input it) = absurd it
  under_input_waits n b a t x up (on_output it) = on_output it

  under_output_waits : (n : ℕ) (b : Entry) (a : Entry) (t x : Node) → is_up x ≡ 1 → Waits V a (file n) x → Waits V a b t
  under_output_waits n b a t x up (is_over down) = absurd (omega (arith, up, down))
  under_output_waits n b a t x up (on_input it) = on_input it
  under_output_waits n b a t x up (on_output it) = absurd it

  pub waits : (a b old : Entry) (parent : ℕ) (t : Node) → Whole profile V a b old parent t → Waits V a b t
  waits a b old parent reaped g = is_over refl
  waits a b old parent (gone p) g = is_over refl
  waits a b old parent (starts p tree) g = absurd (begins_now V p (plain_fds a b) tree (all p _ _ _ _ g.has))
  waits a b old parent (works p turn put owns) g = working a b parent p turn put owns g.has (works p turn put owns) g.has.tame.which g.has.tame.arguments turn.call (g.has.tame.calls []) (all p _ _ _ _ g.has.slot)
  waits a b old parent (tells p message) g = absurd (let it = all p _ _ _ _ g.has.1 in tells_not g.has.0 g.has.2 (it.0, it.1))
  waits a b old parent (leaves p) g = absurd (all p _ _ _ _ g.has.1)
  waits a b old parent (reads_lines p lines) g = absurd (takes_now V p a b lines (all p _ _ _ _ g.has))
  waits a b old parent (in_line p x lines) g =
      under_waits a b old parent p (in_line p x lines) x _ g.has.0 (λ q. refl) (λ k. refl) g.has.2 g.has.1 (all p _ _ _ _ g.has.0)
      (waits a b old p x (under_whole a b old parent p (in_line p x lines) x _ g.has.0 (λ q. refl) (λ k. refl) g.has.2 g))
  waits a b old parent (in_list p x later) g =
      under_waits a b old parent p (in_list p x later) x _ g.has.0 (λ q. refl) (λ k. refl) g.has.2 g.has.1 (all p _ _ _ _ g.has.0)
      (waits a b old p x (under_whole a b old parent p (in_list p x later) x _ g.has.0 (λ q. refl) (λ k. refl) g.has.2 g))
  waits a b old parent (pipe_made p i left right) g = absurd (all p _ _ _ _ g.has.0)
  waits a b old parent (pipe_half p i lost x bytes right) g = absurd (all p _ _ _ _ g.has.0)
  waits a b old parent (pipe_both p i closes_read lost x bytes y) g = absurd (all p _ _ _ _ g.has.0)
  waits a b old parent (pipe_both p i closes_write lost x bytes y) g = absurd (all p _ _ _ _ g.has.0)
  waits a b old parent (pipe_both p i leaves_pipe lost x bytes y) g = absurd (all p _ _ _ _ g.has.0)
  waits a b old parent (pipe_both p i waits_two lost x bytes y) g =
      both a b old parent p i waits_two lost x y bytes _ g g.has.0 (all p _ _ _ _ g.has.0) (omega arith)
      (waits a (writer i) b p x (left_whole a b old parent p i waits_two lost x y bytes _ g g.has.0)) (waits (reader i) b a p y (right_whole a b old parent p i waits_two lost x y bytes _ g g.has.0))
  waits a b old parent (pipe_both p i waits_one lost x bytes y) g =
      both a b old parent p i waits_one lost x y bytes _ g g.has.0 (all p _ _ _ _ g.has.0) (omega arith)
      (waits a (writer i) b p x (left_whole a b old parent p i waits_one lost x y bytes _ g g.has.0)) (waits (reader i) b a p y (right_whole a b old parent p i waits_one lost x y bytes _ g g.has.0))
  waits a b old parent (left_child p closes_old tree) g = absurd (all p _ _ _ _ g.has)
  waits a b old parent (left_child p dups_kept tree) g = absurd (all p _ _ _ _ g.has)
  waits a b old parent (left_child p drops_read tree) g = absurd (all p _ _ _ _ g.has)
  waits a b old parent (left_child p drops_write tree) g = absurd (all p _ _ _ _ g.has)
  waits a b old parent (right_child p closes_old tree) g = absurd (all p _ _ _ _ g.has)
  waits a b old parent (right_child p dups_kept tree) g = absurd (all p _ _ _ _ g.has)
  waits a b old parent (right_child p drops_read tree) g = absurd (all p _ _ _ _ g.has)
  waits a b old parent (right_child p drops_write tree) g = absurd (all p _ _ _ _ g.has)
  waits a b old parent (opening p mode name body) g = absurd (all p _ _ _ _ g.has)
  waits a b old parent (under_input n name at x) g =
      under_input_waits n b a (under_input n name at x) x g.has.1 (waits (file n) b old parent x (record { has = g.has.2; apart = λ k. omega (arith, g.apart k); inside = λ q k e end h l. g.inside q k e end h (omega (arith, l)) }))
  waits a b old parent (under_output n mode name at x) g =
      under_output_waits n b a (under_output n mode name at x) x g.has.1 (waits a (file n) old parent x (record { has = g.has.2; apart = λ k. omega (arith, g.apart k); inside = λ q k e end h l. g.inside q k e end h (omega (arith, l)) }))
