-- A shape stays where its processes, its pipes and its entries stay.
use Rattle.std.proofs.Common.{◌≡◌, ℕ, ◌≤◌, List, [], ◌∷◌, ◌∙◌, refl, arith}
use Rattle.process_model.specs.Seen.{Entry, reader, writer, file, View}
use Rattle.process_model.specs.Shape.{Node, reaped, gone, starts, works, tells, leaves, reads_lines, in_line, in_list, pipe_made, pipe_half, pipe_both, left_child, right_child, opening, under_input, under_output, Has, occurs, names, owned_names, is_there, is_up}
use Rattle.process_model.specs.Own.{Owned, ArePlaced}
use Rattle.script_load.specs.declared.profile.Profile.{Profile}
use Rattle.process_model.proofs.Counts.{same_self}

-- what stays of a part
pub record Stays (V W : View) (t : Node) : Type 0 where
  pub slots : (q : ℕ) → 1 ≤ occurs q t → W.slots q ≡ V.slots q
  pub pipes : (k : ℕ) → 1 ≤ names k t → W.pipes k ≡ V.pipes k
  pub places : (k : ℕ) → 1 ≤ names k t → W.places k ≡ V.places k

pub held_stay : (V W : View) (owns : List Owned) → ((k : ℕ) → 1 ≤ owned_names k owns → W.places k ≡ V.places k) → ArePlaced V owns → ArePlaced W owns
held_stay V W [] s h = tt
held_stay V W (o ∷ owns) s h =
    (s o.entry (omega (arith, same_self o.entry)) ∙ h.0, held_stay V W owns (λ k e. s k (omega (arith, e))) h.1)

pub stays : (profile : Profile) (V W : View) (a b old : Entry) (parent : ℕ) (t : Node) → Stays V W t → Has profile V a b old parent t → Has profile W a b old parent t
stays profile V W a b old parent reaped s h = tt
stays profile V W a b old parent (gone p) s h = s.slots p (omega (arith, same_self p)) ∙ h
stays profile V W a b old parent (starts p t) s h = s.slots p (omega (arith, same_self p)) ∙ h
stays profile V W a b old parent (works p t put owns) s h = record {
  fds = h.fds;
  slot = s.slots p (omega (arith, same_self p)) ∙ h.slot;
  opened = h.opened;
  apart = h.apart;
  placed = held_stay V W owns (λ k e. s.places k e) h.placed;
  fits = h.fits;
  tame = h.tame;
  plain = h.plain;
  steady = h.steady;
}
stays profile V W a b old parent (tells p m) s (d, is, two, left) = (d, s.slots p (omega (arith, same_self p)) ∙ is, two, left)
stays profile V W a b old parent (leaves p) s (d, is, left) = (d, s.slots p (omega (arith, same_self p)) ∙ is, left)
stays profile V W a b old parent (reads_lines p lines) s h = s.slots p (omega (arith, same_self p)) ∙ h
stays profile V W a b old parent (in_line p x later) s h = (
  s.slots p (omega (arith, same_self p)) ∙ h.0,
  h.1,
  stays profile V W a b old p x (record { slots = λ q e. s.slots q (omega (arith, e)); pipes = s.pipes; places = s.places }) h.2,
)
stays profile V W a b old parent (in_list p x t) s h = (
  s.slots p (omega (arith, same_self p)) ∙ h.0,
  h.1,
  stays profile V W a b old p x (record { slots = λ q e. s.slots q (omega (arith, e)); pipes = s.pipes; places = s.places }) h.2,
)
stays profile V W a b old parent (pipe_made p i l r) s h = (s.slots p (omega (arith, same_self p)) ∙ h.0, s.pipes i (omega (arith, same_self i)) ∙ h.1)
stays profile V W a b old parent (pipe_half p i lost x q r) s h = (
  s.slots p (omega (arith, same_self p)) ∙ h.0,
  s.pipes i (omega (arith, same_self i)) ∙ h.1,
  h.2,
  stays profile V W a (writer i) b p x (record { slots = λ q e. s.slots q (omega (arith, e)); pipes = λ k e. s.pipes k (omega (arith, e)); places = λ k e. s.places k (omega (arith, e)) }) h.3,
)
stays profile V W a b old parent (pipe_both p i ph lost x q y) s h = (
  s.slots p (omega (arith, same_self p)) ∙ h.0,
  s.pipes i (omega (arith, same_self i)) ∙ h.1,
  h.2,
  stays profile V W a (writer i) b p x (record { slots = λ q e. s.slots q (omega (arith, e)); pipes = λ k e. s.pipes k (omega (arith, e)); places = λ k e. s.places k (omega (arith, e)) }) h.3,
  stays profile V W (reader i) b a p y (record { slots = λ q e. s.slots q (omega (arith, e)); pipes = λ k e. s.pipes k (omega (arith, e)); places = λ k e. s.places k (omega (arith, e)) }) h.4,
)
stays profile V W a b old parent (left_child p s' t) s h = s.slots p (omega (arith, same_self p)) ∙ h
stays profile V W a b old parent (right_child p s' t) s h = s.slots p (omega (arith, same_self p)) ∙ h
stays profile V W a b old parent (opening p m f t) s h = s.slots p (omega (arith, same_self p)) ∙ h
stays profile V W a b old parent (under_input e f at x) s h = (
  s.places e (omega (arith, same_self e)) ∙ h.0,
  h.1,
  stays profile V W (file e) b old parent x (record { slots = s.slots; pipes = λ k g. s.pipes k (omega (arith, g)); places = λ k g. s.places k (omega (arith, g)) }) h.2,
)
stays profile V W a b old parent (under_output e mode f at x) s h = (
  s.places e (omega (arith, same_self e)) ∙ h.0,
  h.1,
  stays profile V W a (file e) old parent x (record { slots = s.slots; pipes = λ k g. s.pipes k (omega (arith, g)); places = λ k g. s.places k (omega (arith, g)) }) h.2,
  h.3,
)

-- what isn't over isn't reaped
pub up_there : (x : Node) → is_up x ≡ 1 → is_there x ≡ 1
up_there reaped e = absurd (omega (arith, e))
up_there (gone q) e = refl
up_there (starts q tree) e = refl
up_there (works q turn put owns) e = refl
up_there (tells q message) e = refl
up_there (leaves q) e = refl
up_there (reads_lines q lines) e = refl
up_there (in_line q x lines) e = refl
up_there (in_list q x later) e = refl
up_there (pipe_made q i left right) e = refl
up_there (pipe_half q i lost x bytes right) e = refl
up_there (pipe_both q i stage lost x bytes y) e = refl
up_there (left_child q step tree) e = refl
up_there (right_child q step tree) e = refl
up_there (opening q mode name body) e = refl
up_there (under_input n name at x) e = refl
up_there (under_output n mode name at x) e = refl
