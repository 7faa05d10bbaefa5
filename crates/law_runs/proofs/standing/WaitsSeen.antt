-- Waits of the shell: a child that is a zombie is the whole of its part, which is over.
use Rattle.std.proofs.Common.{◌≡◌, ◌≢◌, inl, inr, ℕ, ◌+◌, ◌≤◌, arith, refl, sym, ap, ◌∙◌, subst}
use Rattle.script_load.specs.declared.profile.Profile.{Profile}
use Rattle.process_model.specs.Seen.{Entry, reader, writer, file, Fds, Act, zombie, live, View}
use Rattle.process_model.specs.Shape.{Node, reaped, gone, starts, works, tells, leaves, reads_lines, in_line, in_list, pipe_made, pipe_half, pipe_both, left_child, right_child, opening, under_input, under_output, Has, same, occurs, is_there, is_up}
use Rattle.process_model.specs.Effect.{ParentIs}
use Rattle.process_model.proofs.Counts.{same_self, same_yes, none_or_some}
use Rattle.law_runs.proofs.standing.Frame.{up_there}
use Rattle.law_runs.proofs.standing.Kids.{placed}

module _ (profile : Profile) (V : View) (p : ℕ) where
  -- c, a zombie and a child of p, isn't this process, which lives
  not_live : (c q r put : ℕ) (act : Act) (d : Fds) → V.slots c ≡ zombie p → V.slots q ≡ live r act put d → 1 ≤ same c q → ⊥
  not_live c q r put act d dead alive l = let z : zombie p ≡ live r act put d = sym dead ∙ ap V.slots (same_yes c q l) ∙ alive in let w : ⊥ = cc in w

  kid_of : (c : ℕ) → V.slots c ≡ zombie p → ParentIs (V.slots c) p
  kid_of c dead = subst (λ s. ParentIs s p) (sym dead) refl

  -- nor below it
  not_below : (c q r put : ℕ) (act : Act) (d : Fds) (α β o : Entry) (y : Node) → V.slots c ≡ zombie p → V.slots q ≡ live r act put d → Has profile V α β o q y → p ≢ q → occurs p y ≡ 0 → 1 ≤ same c q + occurs c y → ⊥
  not_below c q r put act d α β o y dead alive h ne none l =
      elim (none_or_some (occurs c y)) [
        | inl z ↦ not_live c q r put act d dead alive (omega (arith, l, z))
        | inr s ↦ elim ((placed profile V α β o q y h c s).parent_is p (kid_of c dead)) [ inl e ↦ ne e | inr i ↦ absurd (omega (arith, i, none)) ]
      ]

  apart : (q : ℕ) → same p q ≡ 0 → p ≢ q
  apart q z e = absurd (omega (arith, z, same_self p, ap (λ n. same p n) (sym e)))

  -- a zombie that is a child of p, in a part under p, is all of it
  pub zombie_kid : (α β o : Entry) (x : Node) (c : ℕ) → Has profile V α β o p x → occurs p x ≡ 0 → V.slots c ≡ zombie p → 1 ≤ occurs c x → x ≡ gone c
  zombie_kid α β o reaped c h z dead l = absurd (omega (arith, l))
  zombie_kid α β o (gone q) c h z dead l = ap gone (sym (same_yes c q l))
  zombie_kid α β o (starts q tree) c h z dead l = absurd (not_live c q _ _ _ _ dead h l)
  zombie_kid α β o (works q turn put owns) c h z dead l = absurd (not_live c q _ _ _ _ dead h.slot l)
  zombie_kid α β o (tells q message) c h z dead l = absurd (not_live c q _ _ _ _ dead h.1 l)
  zombie_kid α β o (leaves q) c h z dead l = absurd (not_live c q _ _ _ _ dead h.1 l)
  zombie_kid α β o (reads_lines q lines) c h z dead l = absurd (not_live c q _ _ _ _ dead h l)
  zombie_kid α β o (in_line q x lines) c h z dead l = absurd (not_below c q _ _ _ _ α β o x dead h.0 h.2 (apart q (omega (arith, z))) (omega (arith, z)) l)
  zombie_kid α β o (in_list q x later) c h z dead l = absurd (not_below c q _ _ _ _ α β o x dead h.0 h.2 (apart q (omega (arith, z))) (omega (arith, z)) l)
  zombie_kid α β o (pipe_made q i left right) c h z dead l = absurd (not_live c q _ _ _ _ dead h.0 l)
  zombie_kid α β o (pipe_half q i lost x bytes right) c h z dead l = absurd (not_below c q _ _ _ _ α (writer i) β x dead h.0 h.3 (apart q (omega (arith, z))) (omega (arith, z)) l)
  zombie_kid α β o (pipe_both q i stage lost x bytes y) c h z dead l =
      absurd (elim (none_or_some (occurs c y)) [
        | inl none ↦ not_below c q _ _ _ _ α (writer i) β x dead h.0 h.3 (apart q (omega (arith, z))) (omega (arith, z)) (omega (arith, l, none))
        | inr some ↦ not_below c q _ _ _ _ (reader i) β α y dead h.0 h.4 (apart q (omega (arith, z))) (omega (arith, z)) (omega (arith, some))
      ])
  zombie_kid α β o (left_child q step tree) c h z dead l = absurd (not_live c q _ _ _ _ dead h l)
  zombie_kid α β o (right_child q step tree) c h z dead l = absurd (not_live c q _ _ _ _ dead h l)
  zombie_kid α β o (opening q mode name body) c h z dead l = absurd (not_live c q _ _ _ _ dead h l)
  zombie_kid α β o (under_input e name at x) c h z dead l = absurd (omega (arith, sym (ap is_up (zombie_kid (file e) β o x c h.2 z dead l)) ∙ h.1))
  zombie_kid α β o (under_output e mode name at x) c h z dead l = absurd (omega (arith, sym (ap is_up (zombie_kid α (file e) o x c h.2 z dead l)) ∙ h.1))

  lives_under : (q put : ℕ) (act : Act) (d : Fds) → V.slots q ≡ live p act put d → (c : ℕ) × ParentIs (V.slots c) p
  lives_under q put act d is = (q, subst (λ s. ParentIs s p) (sym is) refl)

  -- a part under p that is there has a child of p
  pub has_kid : (α β o : Entry) (x : Node) → Has profile V α β o p x → is_there x ≡ 1 → (c : ℕ) × ParentIs (V.slots c) p
  has_kid α β o reaped h e = absurd (omega (arith, e))
  has_kid α β o (gone q) h e = (q, kid_of q h)
  has_kid α β o (starts q tree) h e = lives_under q _ _ _ h
  has_kid α β o (works q turn put owns) h e = lives_under q _ _ _ h.slot
  has_kid α β o (tells q message) h e = lives_under q _ _ _ h.1
  has_kid α β o (leaves q) h e = lives_under q _ _ _ h.1
  has_kid α β o (reads_lines q lines) h e = lives_under q _ _ _ h
  has_kid α β o (in_line q x lines) h e = lives_under q _ _ _ h.0
  has_kid α β o (in_list q x later) h e = lives_under q _ _ _ h.0
  has_kid α β o (pipe_made q i left right) h e = lives_under q _ _ _ h.0
  has_kid α β o (pipe_half q i lost x bytes right) h e = lives_under q _ _ _ h.0
  has_kid α β o (pipe_both q i stage lost x bytes y) h e = lives_under q _ _ _ h.0
  has_kid α β o (left_child q step tree) h e = lives_under q _ _ _ h
  has_kid α β o (right_child q step tree) h e = lives_under q _ _ _ h
  has_kid α β o (opening q mode name body) h e = lives_under q _ _ _ h
  has_kid α β o (under_input n name at x) h e = has_kid (file n) β o x h.2 (up_there x h.1)
  has_kid α β o (under_output n mode name at x) h e = has_kid α (file n) o x h.2 (up_there x h.1)
