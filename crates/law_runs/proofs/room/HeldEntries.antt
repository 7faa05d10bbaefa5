-- What a process of the tree holds is the input or the output of its command, the diagnostics, or an entry that the tree names.
use Rattle.std.proofs.Common.{◌≡◌, inl, inr, ℕ, zero, suc, ◌+◌, ◌≤◌, ◌==◌, Bool, true, false, List, [], ◌∷◌, ◌++◌, Option, Some, None, refl, sym, ap, ◌∙◌, subst, arith}
use Rattle.std.specs.Prelude.{if◌then◌else◌, replicate}
use Rattle.sh_tree.specs.declared.tree.Mode.{Mode}
use Rattle.sh_tree.specs.declared.tree.Mode.TheVariants.{Input, Fresh, Over}
use Rattle.sh_tree.specs.Tree.{Tree}
use Rattle.mem_files.specs.Name.{Name}
use Rattle.script_load.specs.declared.profile.Profile.{Profile}
use Rattle.tree_model.specs.Tame.{Among}
use Rattle.process_model.specs.Seen.{Entry, input, out, diag, reader, writer, file, Fds, fd_at, Act, live, View}
use Rattle.process_model.specs.Own.{Owned, owned_at, OwnFds}
use Rattle.process_model.specs.Effect.{HasOpen, Holds}
use Rattle.process_model.specs.Phases.{Stage, closes_read, closes_write, waits_two, waits_one, leaves_pipe, Step, closes_old, dups_kept, drops_read, drops_write, has_forked, on_left, on_right, opens, has_open, fds, plain_fds, open_fds, partner}
use Rattle.process_model.specs.Shape.{Node, reaped, gone, starts, works, tells, leaves, reads_lines, in_line, in_list, pipe_made, pipe_half, pipe_both, left_child, right_child, opening, under_input, under_output, HasLeft, Has, same, occurs}
use Rattle.process_model.proofs.Counts.{same_yes, none_or_some}
use Rattle.law_runs.proofs.room.Entries.{owned_ends, ends}

-- what a process with a as its input and b as its output may hold; `old` is what a child of a pipe is to give up
pub data At (a b old : Entry) (named : List Entry) (e : Entry) : Type 0 where
  at_diag : e ≡ diag → At a b old named e
  at_input : e ≡ a → At a b old named e
  at_output : e ≡ b → At a b old named e
  at_old : e ≡ old → At a b old named e
  -- the other end of the same pipe
  at_input_end : e ≡ partner a → At a b old named e
  at_output_end : e ≡ partner b → At a b old named e
  at_named : Among e named → At a b old named e

-- ---- descriptors

abbrev ForSome' : (Entry → Type 0) → Option Entry → Type 0
ForSome' P None = Unit {0}
ForSome' P (Some e) = P e

of_some : (P : Entry → Type 0) (o : Option Entry) (e : Entry) → ForSome' P o → o ≡ Some e → P e
of_some P None e holds is = absurd (let z : ⊥ = cc in z)
of_some P (Some x) e holds is = let z : x ≡ e = cc in subst P z holds

none_held : (n fd : ℕ) (e : Entry) → fd_at (replicate n None) fd ≡ Some e → ⊥
none_held zero fd e is = let z : ⊥ = cc in z
none_held (suc n) zero e is = let z : ⊥ = cc in z
none_held (suc n) (suc fd) e is = none_held n fd e is

module _ (P : Entry → Type 0) (to_diag : P diag) where
  all_of : (o0 o1 o3 o4 : Option Entry) → ForSome' P o0 → ForSome' P o1 → ForSome' P o3 → ForSome' P o4 → (fd : ℕ) (e : Entry) → fd_at (fds o0 o1 o3 o4) fd ≡ Some e → P e
  all_of o0 o1 o3 o4 p0 p1 p3 p4 zero e is = of_some P o0 e p0 is
  all_of o0 o1 o3 o4 p0 p1 p3 p4 (suc zero) e is = of_some P o1 e p1 is
  all_of o0 o1 o3 o4 p0 p1 p3 p4 (suc (suc zero)) e is = of_some P (Some diag) e to_diag is
  all_of o0 o1 o3 o4 p0 p1 p3 p4 (suc (suc (suc zero))) e is = of_some P o3 e p3 is
  all_of o0 o1 o3 o4 p0 p1 p3 p4 (suc (suc (suc (suc zero)))) e is = of_some P o4 e p4 is
  all_of o0 o1 o3 o4 p0 p1 p3 p4 (suc (suc (suc (suc (suc fd))))) e is = absurd (none_held 11 fd e is)

-- each descriptor that is open is open on such an entry
abbrev AllOpen : (Entry → Type 0) → Fds → Type 0
AllOpen P d = (fd : ℕ) (e : Entry) → fd_at d fd ≡ Some e → P e

module _ (a b old : Entry) (named : List Entry) where
  abbrev P : Entry → Type 0
  P = At a b old named

  plain_all : AllOpen P (plain_fds a b)
  plain_all = all_of P (at_diag refl) (Some a) (Some b) None None (at_input refl) (at_output refl) tt tt

  open_all : (mode : Mode) → AllOpen P (open_fds mode a b)
  open_all Input = all_of P (at_diag refl) None (Some b) None None tt (at_output refl) tt tt
  open_all Fresh = all_of P (at_diag refl) (Some a) None None None (at_input refl) tt tt tt
  open_all Over = all_of P (at_diag refl) (Some a) None None None (at_input refl) tt tt tt

  phase_open_all : (mode : Mode) (name : Name) (body : Tree) → AllOpen P (has_open (opens mode name body) a b old)
  phase_open_all Input name body = open_all Input
  phase_open_all Fresh name body = open_all Fresh
  phase_open_all Over name body = open_all Over

  left_all : (d : Fds) → HasLeft a b d → AllOpen P d
  left_all d (inl plain) = subst (AllOpen P) (sym plain) plain_all
  left_all d (inr opened) = subst (AllOpen P) (sym opened.1) (open_all opened.0)

  child_left : (step : Step) (tree : Tree) → AllOpen P (has_open (on_left step tree) a b old)
  child_left closes_old tree = all_of P (at_diag refl) (Some a) (Some old) (Some (partner b)) (Some b) (at_input refl) (at_old refl) (at_output_end refl) (at_output refl)
  child_left dups_kept tree = all_of P (at_diag refl) (Some a) None (Some (partner b)) (Some b) (at_input refl) tt (at_output_end refl) (at_output refl)
  child_left drops_read tree = all_of P (at_diag refl) (Some a) (Some b) (Some (partner b)) (Some b) (at_input refl) (at_output refl) (at_output_end refl) (at_output refl)
  child_left drops_write tree = all_of P (at_diag refl) (Some a) (Some b) None (Some b) (at_input refl) (at_output refl) tt (at_output refl)

  child_right : (step : Step) (tree : Tree) → AllOpen P (has_open (on_right step tree) a b old)
  child_right closes_old tree = all_of P (at_diag refl) (Some old) (Some b) (Some a) (Some (partner a)) (at_old refl) (at_output refl) (at_input refl) (at_input_end refl)
  child_right dups_kept tree = all_of P (at_diag refl) None (Some b) (Some a) (Some (partner a)) tt (at_output refl) (at_input refl) (at_input_end refl)
  child_right drops_read tree = all_of P (at_diag refl) (Some a) (Some b) (Some a) (Some (partner a)) (at_input refl) (at_output refl) (at_input refl) (at_input_end refl)
  child_right drops_write tree = all_of P (at_diag refl) (Some a) (Some b) None (Some (partner a)) (at_input refl) (at_output refl) tt (at_input_end refl)

  -- a pipe's process, whose ends the tree names
  module _ (i : ℕ) (reads : Among (reader i) named) (writes : Among (writer i) named) where
    ends_all : AllOpen P (fds (Some a) (Some b) (Some (reader i)) (Some (writer i)))
    ends_all = all_of P (at_diag refl) (Some a) (Some b) (Some (reader i)) (Some (writer i)) (at_input refl) (at_output refl) (at_named reads) (at_named writes)

    stage_all : (stage : Stage) → AllOpen P (has_open (has_forked stage i) a b old)
    stage_all closes_read = ends_all
    stage_all closes_write = all_of P (at_diag refl) (Some a) (Some b) None (Some (writer i)) (at_input refl) (at_output refl) tt (at_named writes)
    stage_all waits_two = plain_all
    stage_all waits_one = plain_all
    stage_all leaves_pipe = plain_all

owned_among : (owns : List Owned) (fd : ℕ) (e : Entry) → owned_at owns fd ≡ Some e → Among e (owned_ends owns)
owned_among [] fd e is = absurd (let z : ⊥ = cc in z)
owned_among (o ∷ later) fd e is = by (o.own.fd == fd) is (owned_among later fd e)
  where
    by : (b : Bool) → (if b then Some (file o.entry) else owned_at later fd) ≡ Some e → (owned_at later fd ≡ Some e → Among e (owned_ends later)) → Among e (owned_ends (o ∷ later))
    by true it rest = inl (let z : file o.entry ≡ e = cc in sym z)
    by false it rest = inr (rest it)

own_all : (a b old : Entry) (owns : List Owned) (d : Fds) → OwnFds a b owns d → AllOpen (At a b old (owned_ends owns)) d
own_all a b old owns d own zero e is = let y : Some a ≡ Some e = sym own.input ∙ is in let z : a ≡ e = cc in at_input (sym z)
own_all a b old owns d own (suc zero) e is = let y : Some b ≡ Some e = sym own.output ∙ is in let z : b ≡ e = cc in at_output (sym z)
own_all a b old owns d own (suc (suc zero)) e is = let y : Some diag ≡ Some e = sym own.messages ∙ is in let z : diag ≡ e = cc in at_diag (sym z)
own_all a b old owns d own (suc (suc (suc fd))) e is = at_named (owned_among owns (suc (suc (suc fd))) e (sym (own.above (suc (suc (suc fd))) (omega arith)) ∙ is))

-- ---- the tree

among_left : {X : Type 0} (x : X) (xs ys : List X) → Among x xs → Among x (xs ++ ys)
among_left x [] ys here = absurd here
among_left x (y ∷ xs) ys (inl is) = inl is
among_left x (y ∷ xs) ys (inr rest) = inr (among_left x xs ys rest)

among_right : {X : Type 0} (x : X) (xs ys : List X) → Among x ys → Among x (xs ++ ys)
among_right x [] ys here = here
among_right x (y ∷ xs) ys here = inr (among_right x xs ys here)

-- in a part with other entries, which the whole names
wider : (a b old α β o e : Entry) (all named : List Entry) → (e ≡ α → At a b old all e) → (e ≡ β → At a b old all e) → (e ≡ o → At a b old all e) → (e ≡ partner α → At a b old all e) → (e ≡ partner β → At a b old all e) → (Among e named → At a b old all e) → At α β o named e → At a b old all e
wider a b old α β o e all named f0 f1 f2 f3 f4 f5 (at_diag is) = at_diag is
wider a b old α β o e all named f0 f1 f2 f3 f4 f5 (at_input is) = f0 is
wider a b old α β o e all named f0 f1 f2 f3 f4 f5 (at_output is) = f1 is
wider a b old α β o e all named f0 f1 f2 f3 f4 f5 (at_old is) = f2 is
wider a b old α β o e all named f0 f1 f2 f3 f4 f5 (at_input_end is) = f3 is
wider a b old α β o e all named f0 f1 f2 f3 f4 f5 (at_output_end is) = f4 is
wider a b old α β o e all named f0 f1 f2 f3 f4 f5 (at_named is) = f5 is

module _ (profile : Profile) (V : View) (q : ℕ) (e : Entry) (holds : Holds (V.slots q) e) where
  -- it is the process r
  held_here : (P : Entry → Type 0) (r parent put : ℕ) (act : Act) (d : Fds) → V.slots r ≡ live parent act put d → AllOpen P d → 1 ≤ same q r → P e
  held_here P r parent put act d is all some =
      let h : HasOpen d e = subst (λ s. Holds s e) (ap V.slots (same_yes q r some) ∙ is) holds in
      all h.fd e h.is

  -- it, or a process inside what runs under it
  here_or : (P : Entry → Type 0) (r n parent put : ℕ) (act : Act) (d : Fds) → V.slots r ≡ live parent act put d → AllOpen P d → 1 ≤ same q r + n → (1 ≤ n → P e) → P e
  here_or P r n parent put act d is all some rest = elim (none_or_some (same q r)) [ inl none ↦ rest (omega (arith, none, some)) | inr one ↦ held_here P r parent put act d is all one ]

  pub held_at : (a b old : Entry) (parent : ℕ) (t : Node) → Has profile V a b old parent t → 1 ≤ occurs q t → At a b old (ends t) e
  held_at a b old parent reaped h some = absurd (omega (arith, some))
  held_at a b old parent (gone r) h some = absurd (subst (λ s. Holds s e) (ap V.slots (same_yes q r some) ∙ h) holds)
  held_at a b old parent (starts r tree) h some = held_here (At a b old []) r _ _ _ _ h (plain_all a b old []) some
  held_at a b old parent (works r turn put owns) h some = held_here (At a b old (owned_ends owns)) r _ _ _ h.fds h.slot (own_all a b old owns h.fds h.opened) some
  held_at a b old parent (tells r message) h some = held_here (At a b old []) r _ _ _ h.0 h.1 (left_all a b old [] h.0 h.3) some
  held_at a b old parent (leaves r) h some = held_here (At a b old []) r _ _ _ h.0 h.1 (left_all a b old [] h.0 h.2) some
  held_at a b old parent (reads_lines r lines) h some = held_here (At a b old []) r _ _ _ _ h (plain_all a b old []) some
  held_at a b old parent (in_line r x lines) h some = here_or (At a b old (ends x)) r (occurs q x) _ _ _ _ h.0 (plain_all a b old (ends x)) some (λ one. held_at a b old r x h.2 one)
  held_at a b old parent (in_list r x later) h some = here_or (At a b old (ends x)) r (occurs q x) _ _ _ _ h.0 (plain_all a b old (ends x)) some (λ one. held_at a b old r x h.2 one)
  held_at a b old parent (pipe_made r i l c) h some =
      held_here (At a b old (reader i ∷ writer i ∷ [])) r _ _ _ _ h.0 (ends_all a b old (reader i ∷ writer i ∷ []) i (inl refl) (inr (inl refl))) some
  held_at a b old parent (pipe_half r i lost x bytes c) h some =
      let all : List Entry = reader i ∷ writer i ∷ ends x in
      here_or (At a b old all) r (occurs q x) _ _ _ _ h.0 (ends_all a b old all i (inl refl) (inr (inl refl))) some
      (λ one. wider a b old a (writer i) b e all (ends x) at_input (λ is. at_named (inr (inl is))) at_output at_input_end (λ is. at_named (inl is)) (λ is. at_named (inr (inr is))) (held_at a (writer i) b r x h.3 one))
  held_at a b old parent (pipe_both r i stage lost x bytes y) h some =
      let all : List Entry = reader i ∷ writer i ∷ (ends x ++ ends y) in
      here_or (At a b old all) r (occurs q x + occurs q y) _ _ _ _ h.0 (stage_all a b old all i (inl refl) (inr (inl refl)) stage) (omega (arith, some))
      (λ one. elim (none_or_some (occurs q x)) [
        | inl none ↦ wider a b old (reader i) b a e all (ends y) (λ is. at_named (inl is)) at_output at_input (λ is. at_named (inr (inl is))) at_output_end (λ is. at_named (inr (inr (among_right e (ends x) (ends y) is)))) (held_at (reader i) b a r y h.4 (omega (arith, one, none)))
        | inr first ↦ wider a b old a (writer i) b e all (ends x) at_input (λ is. at_named (inr (inl is))) at_output at_input_end (λ is. at_named (inl is)) (λ is. at_named (inr (inr (among_left e (ends x) (ends y) is)))) (held_at a (writer i) b r x h.3 first)
      ])
  held_at a b old parent (left_child r step tree) h some = held_here (At a b old []) r _ _ _ _ h (child_left a b old [] step tree) some
  held_at a b old parent (right_child r step tree) h some = held_here (At a b old []) r _ _ _ _ h (child_right a b old [] step tree) some
  held_at a b old parent (opening r mode name body) h some = held_here (At a b old []) r _ _ _ _ h (phase_open_all a b old [] mode name body) some
  held_at a b old parent (under_input n name at x) h some =
      wider a b old (file n) b old e (file n ∷ ends x) (ends x) (λ is. at_named (inl is)) at_output at_old (λ is. at_named (inl is)) at_output_end (λ is. at_named (inr is)) (held_at (file n) b old parent x h.2 some)
  held_at a b old parent (under_output n mode name at x) h some =
      wider a b old a (file n) old e (file n ∷ ends x) (ends x) at_input (λ is. at_named (inl is)) at_old at_input_end (λ is. at_named (inl is)) (λ is. at_named (inr is)) (held_at a (file n) old parent x h.2 some)

  -- of the whole tree
  pub held_in : (t : Node) → At input out out (ends t) e → Among e (input ∷ out ∷ diag ∷ ends t)
  held_in t (at_diag is) = inr (inr (inl is))
  held_in t (at_input is) = inl is
  held_in t (at_output is) = inr (inl is)
  held_in t (at_old is) = inr (inl is)
  held_in t (at_input_end is) = inl is
  held_in t (at_output_end is) = inr (inl is)
  held_in t (at_named is) = inr (inr (inr is))
