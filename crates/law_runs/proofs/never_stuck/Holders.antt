-- Where all are blocked, who in a part holds an end of a pipe: it is the part's input or output, or the pipe is inside.
use Rattle.std.proofs.Common.{◌≡◌, ◌⊎◌, inl, inr, ℕ, zero, suc, ◌+◌, ◌≤◌, List, [], ◌∷◌, Bool, true, false, ◌==◌, Some, None, sym, ap, ◌∙◌, subst, arith}
use Rattle.std.specs.Prelude.{if◌then◌else◌, replicate}
use Rattle.script_load.specs.declared.profile.Profile.{Profile}
use Rattle.process_model.specs.Seen.{Entry, diag, reader, writer, file, Fds, fd_at, Act, Seen, live, View}
use Rattle.process_model.specs.Own.{Owned, owned_at, OwnFds}
use Rattle.mem_files.specs.Name.{Bytes}
use Rattle.process_model.specs.Phases.{Stage, closes_read, closes_write, waits_two, waits_one, leaves_pipe, closes_old, dups_kept, drops_read, drops_write, plain_fds}
use Rattle.process_model.specs.Effect.{HasOpen, Holds}
use Rattle.process_model.specs.Shape.{Node, reaped, gone, starts, works, tells, leaves, reads_lines, in_line, in_list, pipe_made, pipe_half, pipe_both, left_child, right_child, opening, under_input, under_output, Has, same, occurs, names}
use Rattle.process_model.specs.Part.{name_of}
use Rattle.process_model.proofs.Counts.{same_self, same_cases, same_yes, none_or_some}
use Rattle.law_runs.proofs.never_stuck.Blocked.{AllBlocked, IsEnd}
use Rattle.law_runs.proofs.never_stuck.Begins.{begins_now, takes_now}

none_held : (n fd : ℕ) (e : Entry) → fd_at (replicate n None) fd ≡ Some e → ⊥
none_held zero fd e is = let z : ⊥ = cc in z
none_held (suc n) zero e is = let z : ⊥ = cc in z
none_held (suc n) (suc fd) e is = none_held n fd e is

not_diag : (e : Entry) (k : ℕ) → IsEnd e k → diag ≡ e → ⊥
not_diag e k (inl is) same = let z : diag ≡ reader k = same ∙ is in let w : ⊥ = cc in w
not_diag e k (inr is) same = let z : diag ≡ writer k = same ∙ is in let w : ⊥ = cc in w

not_file : (e : Entry) (k n : ℕ) → IsEnd e k → file n ≡ e → ⊥
not_file e k n (inl is) same = let z : file n ≡ reader k = same ∙ is in let w : ⊥ = cc in w
not_file e k n (inr is) same = let z : file n ≡ writer k = same ∙ is in let w : ⊥ = cc in w

pub end_named : (e a : Entry) (k : ℕ) → IsEnd e k → e ≡ a → name_of k a ≡ 1
end_named e a k (inl is) same = ap (name_of k) (sym same ∙ is) ∙ same_self k
end_named e a k (inr is) same = ap (name_of k) (sym same ∙ is) ∙ same_self k

-- of three descriptors that are open, two
plain_open : (a b e : Entry) (k fd : ℕ) → IsEnd e k → fd_at (plain_fds a b) fd ≡ Some e → (e ≡ a) ⊎ (e ≡ b)
plain_open a b e k zero end is = let z : a ≡ e = cc in inl (sym z)
plain_open a b e k (suc zero) end is = let z : b ≡ e = cc in inr (sym z)
plain_open a b e k (suc (suc zero)) end is = let z : diag ≡ e = cc in absurd (not_diag e k end z)
plain_open a b e k (suc (suc (suc zero))) end is = absurd (let z : ⊥ = cc in z)
plain_open a b e k (suc (suc (suc (suc zero)))) end is = absurd (let z : ⊥ = cc in z)
plain_open a b e k (suc (suc (suc (suc (suc fd))))) end is = absurd (none_held 11 fd e is)

pub plain_holds : (s : Seen) (a b e : Entry) (parent k put : ℕ) (act : Act) → s ≡ live parent act put (plain_fds a b) → IsEnd e k → Holds s e → (e ≡ a) ⊎ (e ≡ b)
plain_holds s a b e parent k put act is end h =
    let w : HasOpen (plain_fds a b) e = subst (λ s. Holds s e) is h in
    plain_open a b e k w.fd end w.is

-- a program's own files are no pipes
owned_open : (owns : List Owned) (e : Entry) (k fd : ℕ) → IsEnd e k → owned_at owns fd ≡ Some e → ⊥
owned_open [] e k fd end is = let z : ⊥ = cc in z
owned_open (o ∷ later) e k fd end is = by (o.own.fd == fd) (owned_open later e k fd end) is
  where
    by : (b : Bool) → (owned_at later fd ≡ Some e → ⊥) → (if b then Some (file o.entry) else owned_at later fd) ≡ Some e → ⊥
    by true ih it = let z : file o.entry ≡ e = cc in not_file e k o.entry end z
    by false ih it = ih it

own_open : (a b e : Entry) (owns : List Owned) (d : Fds) (k fd : ℕ) → OwnFds a b owns d → IsEnd e k → fd_at d fd ≡ Some e → (e ≡ a) ⊎ (e ≡ b)
own_open a b e owns d k zero own end is = let y : Some a ≡ Some e = sym own.input ∙ is in let z : a ≡ e = cc in inl (sym z)
own_open a b e owns d k (suc zero) own end is = let y : Some b ≡ Some e = sym own.output ∙ is in let z : b ≡ e = cc in inr (sym z)
own_open a b e owns d k (suc (suc zero)) own end is = let y : Some diag ≡ Some e = sym own.messages ∙ is in let z : diag ≡ e = cc in absurd (not_diag e k end z)
own_open a b e owns d k (suc (suc (suc fd))) own end is = absurd (owned_open owns e k (suc (suc (suc fd))) end (sym (own.above (suc (suc (suc fd))) (omega arith)) ∙ is))

own_holds : (s : Seen) (a b e : Entry) (owns : List Owned) (d : Fds) (parent k put : ℕ) (act : Act) → s ≡ live parent act put d → OwnFds a b owns d → IsEnd e k → Holds s e → (e ≡ a) ⊎ (e ≡ b)
own_holds s a b e owns d parent k put act is own end h =
    let w : HasOpen d e = subst (λ s. Holds s e) is h in
    own_open a b e owns d k w.fd own end w.is

-- an end that somebody in t holds
pub data At (a b : Entry) (t : Node) (e : Entry) (k : ℕ) : Type 0 where
  at_input : e ≡ a → At a b t e k
  at_output : e ≡ b → At a b t e k
  at_inside : 1 ≤ names k t → At a b t e k

at_either : (a b e : Entry) (t : Node) (k : ℕ) → (e ≡ a) ⊎ (e ≡ b) → At a b t e k
at_either a b e t k (inl is) = at_input is
at_either a b e t k (inr is) = at_output is

-- in a part of t with other entries, which t names
wider : (a b α β e : Entry) (t x : Node) (k : ℕ) → (e ≡ α → At a b t e k) → (e ≡ β → At a b t e k) → (1 ≤ names k x → 1 ≤ names k t) → At α β x e k → At a b t e k
wider a b α β e t x k read write more (at_input is) = read is
wider a b α β e t x k read write more (at_output is) = write is
wider a b α β e t x k read write more (at_inside l) = at_inside (more l)

-- a message goes to descriptor 2, which is no pipe
pub tells_not : (d : Fds) → fd_at d 2 ≡ Some diag → ((i : ℕ) × (fd_at d 2 ≡ Some (writer i))) → ⊥
tells_not d two w = let y : Some diag ≡ Some (writer w.0) = sym two ∙ w.1 in let z : ⊥ = cc in z

module _ (profile : Profile) (V : View) (all : AllBlocked V) where
  -- a pipe whose process waits: it, its left side, or its right side
  pipe_at : (a b : Entry) (parent p i : ℕ) (stage : Stage) (lost : Bool) (x y : Node) (bytes : Bytes) (act : Act) (q k : ℕ) (e : Entry) → V.slots p ≡ live parent act 0 (plain_fds a b) → IsEnd e k → 1 ≤ same q p + occurs q x + occurs q y → Holds (V.slots q) e
      → (1 ≤ occurs q x → At a (writer i) x e k) → (1 ≤ occurs q y → At (reader i) b y e k) → At a b (pipe_both p i stage lost x bytes y) e k
  pipe_at a b parent p i stage lost x y bytes act q k e own end l w left right =
      elim (same_cases q p) [
        | inl is ↦ at_either a b e (pipe_both p i stage lost x bytes y) k (plain_holds (V.slots q) a b e _ k _ _ (ap V.slots is.0 ∙ own) end w)
        | inr ne ↦
            elim (none_or_some (occurs q x)) [
              | inl none ↦ wider a b (reader i) b e (pipe_both p i stage lost x bytes y) y k (λ is. at_inside (let n = end_named e (reader i) k end is in omega (arith, n))) at_output (λ m. omega (arith, m)) (right (omega (arith, l, ne.1, none)))
              | inr some ↦ wider a b a (writer i) e (pipe_both p i stage lost x bytes y) x k at_input (λ is. at_inside (let n = end_named e (writer i) k end is in omega (arith, n))) (λ m. omega (arith, m)) (left some)
            ]
      ]

  pub held_at : (a b old : Entry) (parent : ℕ) (t : Node) → Has profile V a b old parent t → (q k : ℕ) (e : Entry) → IsEnd e k → 1 ≤ occurs q t → Holds (V.slots q) e → At a b t e k
  held_at a b old parent reaped h q k e end l w = absurd (omega (arith, l))
  held_at a b old parent (gone p) h q k e end l w = absurd (subst (λ s. Holds s e) (ap V.slots (same_yes q p l) ∙ h) w)
  held_at a b old parent (starts p tree) h q k e end l w = absurd (begins_now V p (plain_fds a b) tree (all p _ _ _ _ h))
  held_at a b old parent (works p turn put owns) h q k e end l w = at_either a b e (works p turn put owns) k (own_holds (V.slots q) a b e owns h.fds _ k _ _ (ap V.slots (same_yes q p l) ∙ h.slot) h.opened end w)
  held_at a b old parent (tells p message) h q k e end l w = absurd (let it = all p _ _ _ _ h.1 in tells_not h.0 h.2 (it.0, it.1))
  held_at a b old parent (leaves p) h q k e end l w = absurd (all p _ _ _ _ h.1)
  held_at a b old parent (reads_lines p lines) h q k e end l w = absurd (takes_now V p a b lines (all p _ _ _ _ h))
  held_at a b old parent (in_line p x lines) h q k e end l w =
      elim (same_cases q p) [
        | inl is ↦ at_either a b e (in_line p x lines) k (plain_holds (V.slots q) a b e _ k _ _ (ap V.slots is.0 ∙ h.0) end w)
        | inr ne ↦ wider a b a b e (in_line p x lines) x k at_input at_output (λ l. l) (held_at a b old p x h.2 q k e end (omega (arith, l, ne.1)) w)
      ]
  held_at a b old parent (in_list p x later) h q k e end l w =
      elim (same_cases q p) [
        | inl is ↦ at_either a b e (in_list p x later) k (plain_holds (V.slots q) a b e _ k _ _ (ap V.slots is.0 ∙ h.0) end w)
        | inr ne ↦ wider a b a b e (in_list p x later) x k at_input at_output (λ l. l) (held_at a b old p x h.2 q k e end (omega (arith, l, ne.1)) w)
      ]
  held_at a b old parent (pipe_made p i left right) h q k e end l w = absurd (all p _ _ _ _ h.0)
  held_at a b old parent (pipe_half p i lost x bytes right) h q k e end l w = absurd (all p _ _ _ _ h.0)
  held_at a b old parent (pipe_both p i closes_read lost x bytes y) h q k e end l w = absurd (all p _ _ _ _ h.0)
  held_at a b old parent (pipe_both p i closes_write lost x bytes y) h q k e end l w = absurd (all p _ _ _ _ h.0)
  held_at a b old parent (pipe_both p i leaves_pipe lost x bytes y) h q k e end l w = absurd (all p _ _ _ _ h.0)
  held_at a b old parent (pipe_both p i waits_two lost x bytes y) h q k e end l w =
      pipe_at a b parent p i waits_two lost x y bytes _ q k e h.0 end l w (λ some. held_at a (writer i) b p x h.3 q k e end some w) (λ some. held_at (reader i) b a p y h.4 q k e end some w)
  held_at a b old parent (pipe_both p i waits_one lost x bytes y) h q k e end l w =
      pipe_at a b parent p i waits_one lost x y bytes _ q k e h.0 end l w (λ some. held_at a (writer i) b p x h.3 q k e end some w) (λ some. held_at (reader i) b a p y h.4 q k e end some w)
  held_at a b old parent (left_child p closes_old tree) h q k e end l w = absurd (all p _ _ _ _ h)
  held_at a b old parent (left_child p dups_kept tree) h q k e end l w = absurd (all p _ _ _ _ h)
  held_at a b old parent (left_child p drops_read tree) h q k e end l w = absurd (all p _ _ _ _ h)
  held_at a b old parent (left_child p drops_write tree) h q k e end l w = absurd (all p _ _ _ _ h)
  held_at a b old parent (right_child p closes_old tree) h q k e end l w = absurd (all p _ _ _ _ h)
  held_at a b old parent (right_child p dups_kept tree) h q k e end l w = absurd (all p _ _ _ _ h)
  held_at a b old parent (right_child p drops_read tree) h q k e end l w = absurd (all p _ _ _ _ h)
  held_at a b old parent (right_child p drops_write tree) h q k e end l w = absurd (all p _ _ _ _ h)
  held_at a b old parent (opening p mode name body) h q k e end l w = absurd (all p _ _ _ _ h)
  held_at a b old parent (under_input n name at x) h q k e end l w =
      wider a b (file n) b e (under_input n name at x) x k (λ is. absurd (not_file e k n end (sym is))) at_output (λ m. omega (arith, m)) (held_at (file n) b old parent x h.2 q k e end l w)
  held_at a b old parent (under_output n mode name at x) h q k e end l w =
      wider a b a (file n) e (under_output n mode name at x) x k at_input (λ is. absurd (not_file e k n end (sym is))) (λ m. omega (arith, m)) (held_at a (file n) old parent x h.2 q k e end l w)
