-- What the shell's waits come to, the closes of a pipe's process, and its end.
use Rattle.std.proofs.Common.{◌≡◌, ◌≢◌, ◌⊎◌, inl, inr, ℕ, ◌+◌, ◌≤◌, List, Bool, arith, refl, sym, ap, ◌∙◌, subst}
use Rattle.std.proofs.lemmas.Bool.{cases_eq}
use Rattle.std.specs.Prelude.{drop}
use Rattle.mem_files.specs.Name.{Bytes}
use Rattle.sh_tree.specs.Tree.{Tree}
use Rattle.script_load.specs.Line.{ScriptLine}
use Rattle.script_load.specs.declared.profile.Profile.{Profile}
use Rattle.tree_model.specs.Rules.{seq_ends, pipe_ends}
use Rattle.sh_machine.specs.Turn.{exits}
use Rattle.process_model.specs.Seen.{Entry, reader, writer, Fds, Act, zombie, live, View}
use Rattle.process_model.specs.Phases.{Stage, closes_read, closes_write, waits_two, waits_one, leaves_pipe, waits_line, waits_list, has_forked, shell_act, does, has_open, plain_fds}
use Rattle.process_model.specs.Shape.{Node, reaped, gone, starts, works, tells, leaves, reads_lines, in_line, in_list, pipe_made, pipe_half, pipe_both, left_child, right_child, opening, under_input, under_output, Has, awaited, same, occurs, is_there}
use Rattle.process_model.specs.Effect.{ParentIs, Sets, Rest, Quiet, Reaps, WaitsFor, reaps, has_none, sleeps, IsCall}
use Rattle.process_model.specs.Part.{stays as stay, goes, stage_calls, Part, After}
use Rattle.process_model.proofs.Counts.{same_self, same_yes, same_cases, none_or_some}
use Rattle.law_runs.proofs.standing.Frame.{stays}
use Rattle.law_runs.proofs.standing.WaitsSeen.{zombie_kid, has_kid}
use Rattle.law_runs.proofs.standing.CallKinds as kinds

module _ (profile : Profile) (V W : View) (a b old : Entry) (parent p : ℕ) (ev : IsCall V W p) where
  -- p sleeps, as it did
  still : (act : Act) (d : Fds) → V.slots p ≡ live parent act 0 d → Sets V W p (live parent act 0 d) → Rest V W → Quiet V W
  still act d is slots rest = record { slots = λ q. by q (cases_eq q p); rest = rest }
    where
      by : (q : ℕ) → (q ≡ p) ⊎ (q ≢ p) → W.slots q ≡ V.slots q
      by q (inr ne) = slots.others q ne
      by q (inl same) = ap W.slots same ∙ slots.here ∙ sym is ∙ ap V.slots (sym same)

  not_zombie : (c put : ℕ) (act : Act) (d : Fds) → V.slots p ≡ live parent act put d → V.slots c ≡ zombie p → same c p ≡ 0
  not_zombie c put act d is dead =
      elim (same_cases c p) [
        | inl e ↦ absurd (let z : zombie p ≡ live parent act put d = sym dead ∙ ap V.slots e.0 ∙ is in let w : ⊥ = cc in w)
        | inr e ↦ e.1
      ]

  kid_is : (c : ℕ) → V.slots c ≡ zombie p → ParentIs (V.slots c) p
  kid_is c dead = subst (λ s. ParentIs s p) (sym dead) refl

  -- ---- a list, and a line

  pub list_waits : (x : Node) (later : Tree) → Part profile V a b old parent p (in_list p x later) → After profile V W p a b old parent (in_list p x later)
  list_waits x later g = by (kinds.effect_at V W p parent 0 _ (plain_fds a b) ev g.has.0)
    where
      act : Act
      act = does profile (waits_list later)

      by : WaitsFor V W p parent (does profile (waits_list later)) (plain_fds a b) → After profile V W p a b old parent (in_list p x later)
      by (sleeps child kid none slots rest asleep) = kinds.nothing V W profile a b old parent p asleep (in_list p x later) g.has (still _ _ g.has.0 slots rest)
      by (has_none none f) = let k = has_kid profile V p a b old x g.has.2 g.has.1 in absurd (none k.0 k.1)
      by (reaps r) =
          let nx : occurs p x ≡ 0 = omega (arith, g.once p, same_self p) in
          let here = not_zombie r.child 0 _ _ g.has.0 r.was in
          let is_gone = zombie_kid profile V p a b old x r.child g.has.2 nx r.was (omega (arith, here, g.kids r.child (kid_is r.child r.was))) in
          subst (λ y. After profile V W p a b old parent (in_list p y later)) (sym is_gone)
          (kinds.reaped_one V W profile a b old parent p _ (plain_fds a b) _ (in_list p (gone r.child) later) (starts p later) g.has.0 refl r r.here (goes seq_ends) (λ q. refl) (λ k. omega arith) refl (omega arith))

  pub line_waits : (x : Node) (lines : List ScriptLine) → Part profile V a b old parent p (in_line p x lines) → After profile V W p a b old parent (in_line p x lines)
  line_waits x lines g = by (kinds.effect_at V W p parent 0 _ (plain_fds a b) ev g.has.0)
    where
      by : WaitsFor V W p parent (does profile (waits_line lines)) (plain_fds a b) → After profile V W p a b old parent (in_line p x lines)
      by (sleeps child kid none slots rest asleep) = kinds.nothing V W profile a b old parent p asleep (in_line p x lines) g.has (still _ _ g.has.0 slots rest)
      by (has_none none f) = let k = has_kid profile V p a b old x g.has.2 g.has.1 in absurd (none k.0 k.1)
      by (reaps r) =
          let nx : occurs p x ≡ 0 = omega (arith, g.once p, same_self p) in
          let here = not_zombie r.child 0 _ _ g.has.0 r.was in
          let is_gone = zombie_kid profile V p a b old x r.child g.has.2 nx r.was (omega (arith, here, g.kids r.child (kid_is r.child r.was))) in
          subst (λ y. After profile V W p a b old parent (in_line p y lines)) (sym is_gone)
          (kinds.reaped_one V W profile a b old parent p _ (plain_fds a b) _ (in_line p (gone r.child) lines) (reads_lines p (drop 1 lines)) g.has.0 refl r r.here (goes seq_ends) (λ q. refl) (λ k. omega arith) refl (omega arith))

  -- ---- a pipe

  apart_from : (q : ℕ) (x : Node) → occurs p x ≡ 0 → 1 ≤ occurs q x → q ≢ p
  apart_from q x z l e = absurd (omega (arith, z, l, ap (λ r. occurs r x) e))

  closes_end : (i : ℕ) (stage next : Stage) (lost : Bool) (x y : Node) (u : Bytes) → Sets V W p (live parent (does profile (has_forked next i)) 0 (has_open (has_forked next i) a b old)) → Rest V W → awaited stage ≡ awaited next → stage_calls stage ≡ stage_calls next + 1 → Part profile V a b old parent p (pipe_both p i stage lost x u y) → After profile V W p a b old parent (pipe_both p i stage lost x u y)
  closes_end i stage next lost x y u z r w fewer g =
      let nx : occurs p x ≡ 0 = omega (arith, g.once p, same_self p) in
      let ny : occurs p y ≡ 0 = omega (arith, g.once p, same_self p) in
      let hx = stays profile V W a (writer i) b p x (record { slots = λ q l. z.others q (apart_from q x nx l); pipes = λ k l. r.pipes k; places = λ k l. r.places k }) g.has.3 in
      let hy = stays profile V W (reader i) b a p y (record { slots = λ q l. z.others q (apart_from q y ny l); pipes = λ k l. r.pipes k; places = λ k l. r.places k }) g.has.4 in
      kinds.calm V W profile a b old parent p _ _ (pipe_both p i stage lost x u y) (pipe_both p i next lost x u y) g.has.0 z r refl (z.here, r.pipes i ∙ g.has.1, g.has.2 ∙ w, hx, hy) stay (λ q. refl) (λ k. omega arith) refl (omega (arith, fewer))

  -- a part that was not the child's stays
  beside_reap : (act : Act) (d : Fds) (r : Reaps V W p parent act d) (α β o : Entry) (x : Node) → occurs p x ≡ 0 → occurs r.child x ≡ 0 → Has profile V α β o p x → Has profile W α β o p x
  beside_reap act d r α β o x np nc h =
      stays profile V W α β o p x (record {
        slots = λ q l. r.others q (apart_from q x np l) (λ e. absurd (omega (arith, nc, l, ap (λ n. occurs n x) e)));
        pipes = λ k l. r.rest.pipes k;
        places = λ k l. r.rest.places k;
      }) h

  -- one child more is reaped, and the next stage follows
  pipe_reaps : (i : ℕ) (stage next : Stage) (lost : Bool) (x y : Node) (u : Bytes) (r : Reaps V W p parent (does profile (has_forked stage i)) (plain_fds a b)) → has_open (has_forked stage i) a b old ≡ plain_fds a b → W.slots p ≡ live parent (does profile (has_forked next i)) 0 (has_open (has_forked next i) a b old) → awaited stage ≡ awaited next + 1 → stage_calls stage ≡ stage_calls next + 1 → Part profile V a b old parent p (pipe_both p i stage lost x u y) → After profile V W p a b old parent (pipe_both p i stage lost x u y)
  pipe_reaps i stage next lost x y u r fds here w fewer g =
      elim (none_or_some (occurs r.child x)) [
        | inl none ↦ right_gone none
        | inr some ↦ left_gone some
      ]
    where
      slot : V.slots p ≡ live parent (does profile (has_forked stage i)) 0 (plain_fds a b)
      slot = g.has.0 ∙ ap (λ d. live parent (does profile (has_forked stage i)) 0 d) fds

      nx : occurs p x ≡ 0
      nx = omega (arith, g.once p, same_self p)

      ny : occurs p y ≡ 0
      ny = omega (arith, g.once p, same_self p)

      apart_p : same r.child p ≡ 0
      apart_p = not_zombie r.child 0 _ _ slot r.was

      left_gone : 1 ≤ occurs r.child x → After profile V W p a b old parent (pipe_both p i stage lost x u y)
      left_gone some =
          let is_gone = zombie_kid profile V p a (writer i) b x r.child g.has.3 nx r.was some in
          let not_y : occurs r.child y ≡ 0 = omega (arith, g.once r.child, some) in
          let one : 1 + is_there y ≡ awaited stage = ap (λ z. is_there z + is_there y) (sym is_gone) ∙ g.has.2 in
          subst (λ z. After profile V W p a b old parent (pipe_both p i stage lost z u y)) (sym is_gone)
          (kinds.reaped_one V W profile a b old parent p _ (plain_fds a b) _ (pipe_both p i stage lost (gone r.child) u y) (pipe_both p i next lost reaped u y) slot refl r
          (here, r.rest.pipes i ∙ g.has.1, omega (arith, one, w), tt, beside_reap _ _ r (reader i) b a y ny not_y g.has.4) stay (λ q. omega arith) (λ k. omega arith) refl (omega (arith, fewer)))

      right_gone : occurs r.child x ≡ 0 → After profile V W p a b old parent (pipe_both p i stage lost x u y)
      right_gone none =
          let some : 1 ≤ occurs r.child y = omega (arith, none, apart_p, g.kids r.child (kid_is r.child r.was)) in
          let is_gone = zombie_kid profile V p (reader i) b a y r.child g.has.4 ny r.was some in
          let one : is_there x + 1 ≡ awaited stage = ap (λ z. is_there x + is_there z) (sym is_gone) ∙ g.has.2 in
          subst (λ z. After profile V W p a b old parent (pipe_both p i stage lost x u z)) (sym is_gone)
          (kinds.reaped_one V W profile a b old parent p _ (plain_fds a b) _ (pipe_both p i stage lost x u (gone r.child)) (pipe_both p i next lost x u reaped) slot refl r
          (here, r.rest.pipes i ∙ g.has.1, omega (arith, one, w), beside_reap _ _ r a (writer i) b x nx none g.has.3, tt) stay (λ q. omega arith) (λ k. omega arith) refl (omega (arith, fewer)))

  -- some child is there, as long as one is awaited
  some_kid : (i : ℕ) (stage : Stage) (lost : Bool) (x y : Node) (u : Bytes) → 1 ≤ awaited stage → Part profile V a b old parent p (pipe_both p i stage lost x u y) → ((q : ℕ) → ParentIs (V.slots q) p → ⊥) → ⊥
  some_kid i stage lost x y u some g none =
      elim (none_or_some (is_there x)) [
        | inl z ↦ let k = has_kid profile V p (reader i) b a y g.has.4 (there y (omega (arith, z, g.has.2, some))) in none k.0 k.1
        | inr s ↦ let k = has_kid profile V p a (writer i) b x g.has.3 (there x s) in none k.0 k.1
      ]
    where
      there : (t : Node) → 1 ≤ is_there t → is_there t ≡ 1
      there t s = omega (arith, s, at_most t)
        where
          at_most : (t : Node) → is_there t ≤ 1
          at_most reaped = omega arith
          at_most (gone q) = omega arith
          at_most (starts q tree) = omega arith
          at_most (works q turn put owns) = omega arith
          at_most (tells q message) = omega arith
          at_most (leaves q) = omega arith
          at_most (reads_lines q lines) = omega arith
          at_most (in_line q x lines) = omega arith
          at_most (in_list q x later) = omega arith
          at_most (pipe_made q i left right) = omega arith
          at_most (pipe_half q i lost x bytes right) = omega arith
          at_most (pipe_both q i stage lost x bytes y) = omega arith
          at_most (left_child q step tree) = omega arith
          at_most (right_child q step tree) = omega arith
          at_most (opening q mode name body) = omega arith
          at_most (under_input n name at x) = omega arith
          at_most (under_output n mode name at x) = omega arith

  -- no child is there any more
  none_there : (t : Node) → is_there t ≡ 0 → t ≡ reaped
  none_there reaped e = refl
  none_there (gone q) e = absurd (omega (arith, e))
  none_there (starts q tree) e = absurd (omega (arith, e))
  none_there (works q turn put owns) e = absurd (omega (arith, e))
  none_there (tells q message) e = absurd (omega (arith, e))
  none_there (leaves q) e = absurd (omega (arith, e))
  none_there (reads_lines q lines) e = absurd (omega (arith, e))
  none_there (in_line q x lines) e = absurd (omega (arith, e))
  none_there (in_list q x later) e = absurd (omega (arith, e))
  none_there (pipe_made q i left right) e = absurd (omega (arith, e))
  none_there (pipe_half q i lost x bytes right) e = absurd (omega (arith, e))
  none_there (pipe_both q i stage lost x bytes y) e = absurd (omega (arith, e))
  none_there (left_child q step tree) e = absurd (omega (arith, e))
  none_there (right_child q step tree) e = absurd (omega (arith, e))
  none_there (opening q mode name body) e = absurd (omega (arith, e))
  none_there (under_input n name at x) e = absurd (omega (arith, e))
  none_there (under_output n mode name at x) e = absurd (omega (arith, e))

  pub pipe_goes : (i : ℕ) (stage : Stage) (lost : Bool) (x y : Node) (u : Bytes) → Part profile V a b old parent p (pipe_both p i stage lost x u y) → After profile V W p a b old parent (pipe_both p i stage lost x u y)
  pipe_goes i closes_read lost x y u g = let f = kinds.effect_at V W p parent 0 _ _ ev g.has.0 in closes_end i closes_read closes_write lost x y u f.slots f.rest refl refl g
  pipe_goes i closes_write lost x y u g = let f = kinds.effect_at V W p parent 0 _ _ ev g.has.0 in closes_end i closes_write waits_two lost x y u f.slots f.rest refl refl g
  pipe_goes i waits_two lost x y u g = by (kinds.effect_at V W p parent 0 _ _ ev g.has.0)
    where
      by : WaitsFor V W p parent (does profile (has_forked waits_two i)) (plain_fds a b) → After profile V W p a b old parent (pipe_both p i waits_two lost x u y)
      by (sleeps child kid none slots rest asleep) = kinds.nothing V W profile a b old parent p asleep (pipe_both p i waits_two lost x u y) g.has (still _ _ g.has.0 slots rest)
      by (has_none none f) = absurd (some_kid i waits_two lost x y u (omega arith) g none)
      by (reaps r) = pipe_reaps i waits_two waits_one lost x y u r refl r.here refl refl g
  pipe_goes i waits_one lost x y u g = by (kinds.effect_at V W p parent 0 _ _ ev g.has.0)
    where
      by : WaitsFor V W p parent (does profile (has_forked waits_one i)) (plain_fds a b) → After profile V W p a b old parent (pipe_both p i waits_one lost x u y)
      by (sleeps child kid none slots rest asleep) = kinds.nothing V W profile a b old parent p asleep (pipe_both p i waits_one lost x u y) g.has (still _ _ g.has.0 slots rest)
      by (has_none none f) = absurd (some_kid i waits_one lost x y u (omega arith) g none)
      by (reaps r) = pipe_reaps i waits_one leaves_pipe lost x y u r refl r.here refl refl g
  pipe_goes i leaves_pipe lost x y u g = at_end x y (none_there x (omega (arith, g.has.2))) (none_there y (omega (arith, g.has.2))) g
    where
      at_end : (x y : Node) → x ≡ reaped → y ≡ reaped → Part profile V a b old parent p (pipe_both p i leaves_pipe lost x u y) → After profile V W p a b old parent (pipe_both p i leaves_pipe lost x u y)
      at_end x y ex ey g =
          subst (λ z. After profile V W p a b old parent (pipe_both p i leaves_pipe lost z u y)) (sym ex)
          (subst (λ z. After profile V W p a b old parent (pipe_both p i leaves_pipe lost reaped u z)) (sym ey)
          (last (subst (λ z. Part profile V a b old parent p (pipe_both p i leaves_pipe lost reaped u z)) ey (subst (λ z. Part profile V a b old parent p (pipe_both p i leaves_pipe lost z u y)) ex g))))
        where
          last : Part profile V a b old parent p (pipe_both p i leaves_pipe lost reaped u reaped) → After profile V W p a b old parent (pipe_both p i leaves_pipe lost reaped u reaped)
          last g =
              kinds.ended V W profile a b old parent p (shell_act profile exits) (plain_fds a b) (pipe_both p i leaves_pipe lost reaped u reaped) g.has.0 (kinds.effect_at V W p parent 0 (shell_act profile exits) (plain_fds a b) ev g.has.0)
              (λ q ne kid. ne (same_yes q p (omega (arith, g.kids q kid)))) (goes pipe_ends) (λ q. omega arith) refl (omega arith)
