-- Children, holders, and what a part of a tree knows from the whole.
use Rattle.std.proofs.Common.{◌≡◌, ◌≢◌, ◌⊎◌, inl, inr, ℕ, ◌+◌, ◌<◌, ◌≤◌, List, Some, Bool, false, arith, refl, sym, ap, ◌∙◌, subst}
use Rattle.mem_files.specs.Name.{Name, Bytes}
use Rattle.sh_tree.specs.Tree.{Tree}
use Rattle.sh_tree.specs.declared.tree.Mode.TheVariants.{Input, Fresh, Over}
use Rattle.script_load.specs.Line.{ScriptLine}
use Rattle.script_load.specs.declared.profile.Profile.{Profile}
use Rattle.user_calls.specs.declared.calls.Mode.{Mode}
use Rattle.tree_model.specs.Residual.{keeps_0, keeps_1}
use Rattle.process_model.specs.Seen.{Entry, reader, writer, file, Fds, fd_at, Act, Seen, zombie, live, Place, View}
use Rattle.process_model.specs.Phases.{Stage, closes_read, closes_write, waits_two, waits_one, leaves_pipe, closes_old, dups_kept, drops_read, drops_write}
use Rattle.process_model.specs.Shape.{Node, reaped, gone, starts, works, tells, leaves, reads_lines, in_line, in_list, pipe_made, pipe_half, pipe_both, left_child, right_child, opening, under_input, under_output, OpensOutput, Has, same, occurs, is_used, stands_for}
use Rattle.process_model.specs.Effect.{ParentIs, Holds, NoHolder}
use Rattle.process_model.specs.Part.{name_of, Part}
use Rattle.process_model.proofs.Counts.{same_self, same_cases, same_yes, none_or_some}

-- a slot that is used, with this parent
pub record Placed (s : Seen) (parent : ℕ) (t : Node) : Type 0 where
  pub used_is : is_used s ≡ 1
  pub parent_is : (r : ℕ) → ParentIs s r → (r ≡ parent) ⊎ (1 ≤ occurs r t)

zombie_placed : (s : Seen) (parent : ℕ) (t : Node) → s ≡ zombie parent → Placed s parent t
zombie_placed s parent t e = subst (λ x. Placed x parent t) (sym e) (record { used_is = refl; parent_is = λ r h. inl (sym h) })

live_placed : (s : Seen) (parent : ℕ) (t : Node) (act : Act) (k : ℕ) (d : Fds) → s ≡ live parent act k d → Placed s parent t
live_placed s parent t turn k d e = subst (λ x. Placed x parent t) (sym e) (record { used_is = refl; parent_is = λ r h. inl (sym h) })

wider : (s : Seen) (p parent : ℕ) (x t : Node) → ((r : ℕ) → occurs r x ≤ occurs r t) → 1 ≤ occurs p t → Placed s p x → Placed s parent t
wider s p parent x t w l h = record { used_is = h.used_is; parent_is = λ r e. elim (h.parent_is r e) [ inl z ↦ inr (subst (λ r. 1 ≤ occurs r t) (sym z) l) | inr z ↦ inr (omega (arith, z, w r)) ] }

-- the place of a process of the shape
pub placed : (profile : Profile) (V : View) (a b old : Entry) (parent : ℕ) (t : Node) → Has profile V a b old parent t → (q : ℕ) → 1 ≤ occurs q t → Placed (V.slots q) parent t
placed profile V a b old parent reaped h q l = absurd (omega (arith, l))
placed profile V a b old parent (gone p) h q l = zombie_placed _ _ _ (ap V.slots (same_yes q p l) ∙ h)
placed profile V a b old parent (starts p t) h q l = live_placed _ _ _ _ _ _ (ap V.slots (same_yes q p l) ∙ h)
placed profile V a b old parent (works p t put owns) h q l = live_placed _ _ _ _ _ _ (ap V.slots (same_yes q p l) ∙ h.slot)
placed profile V a b old parent (tells p m) h q l = live_placed _ _ _ _ _ _ (ap V.slots (same_yes q p l) ∙ h.1)
placed profile V a b old parent (leaves p) h q l = live_placed _ _ _ _ _ _ (ap V.slots (same_yes q p l) ∙ h.1)
placed profile V a b old parent (reads_lines p lines) h q l = live_placed _ _ _ _ _ _ (ap V.slots (same_yes q p l) ∙ h)
placed profile V a b old parent (in_line p x later) h q l =
    elim (same_cases q p) [ inl e ↦ live_placed _ _ _ _ _ _ (ap V.slots e.0 ∙ h.0) | inr e ↦ wider _ p parent x (in_line p x later) (λ r. omega arith) (omega (arith, same_self p)) (placed profile V a b old p x h.2 q (omega (arith, l, e.1))) ]
placed profile V a b old parent (in_list p x t) h q l =
    elim (same_cases q p) [ inl e ↦ live_placed _ _ _ _ _ _ (ap V.slots e.0 ∙ h.0) | inr e ↦ wider _ p parent x (in_list p x t) (λ r. omega arith) (omega (arith, same_self p)) (placed profile V a b old p x h.2 q (omega (arith, l, e.1))) ]
placed profile V a b old parent (pipe_made p i x r) h q l = live_placed _ _ _ _ _ _ (ap V.slots (same_yes q p l) ∙ h.0)
placed profile V a b old parent (pipe_half p i lost x c r) h q l =
    elim (same_cases q p) [ inl e ↦ live_placed _ _ _ _ _ _ (ap V.slots e.0 ∙ h.0) | inr e ↦ wider _ p parent x (pipe_half p i lost x c r) (λ r. omega arith) (omega (arith, same_self p)) (placed profile V a (writer i) b p x h.3 q (omega (arith, l, e.1))) ]
placed profile V a b old parent (pipe_both p i ph lost x c y) h q l =
    elim (same_cases q p) [
      | inl e ↦ live_placed _ _ _ _ _ _ (ap V.slots e.0 ∙ h.0)
      | inr e ↦
          elim (none_or_some (occurs q x)) [
            | inl z ↦ wider _ p parent y (pipe_both p i ph lost x c y) (λ r. omega arith) (omega (arith, same_self p)) (placed profile V (reader i) b a p y h.4 q (omega (arith, l, e.1, z)))
            | inr z ↦ wider _ p parent x (pipe_both p i ph lost x c y) (λ r. omega arith) (omega (arith, same_self p)) (placed profile V a (writer i) b p x h.3 q z)
          ]
    ]
placed profile V a b old parent (left_child p s t) h q l = live_placed _ _ _ _ _ _ (ap V.slots (same_yes q p l) ∙ h)
placed profile V a b old parent (right_child p s t) h q l = live_placed _ _ _ _ _ _ (ap V.slots (same_yes q p l) ∙ h)
placed profile V a b old parent (opening p m f t) h q l = live_placed _ _ _ _ _ _ (ap V.slots (same_yes q p l) ∙ h)
placed profile V a b old parent (under_input e f at x) h q l = let z = placed profile V (file e) b old parent x h.2 q l in record { used_is = z.used_is; parent_is = z.parent_is }
placed profile V a b old parent (under_output e mode f at x) h q l = let z = placed profile V a (file e) old parent x h.2 q l in record { used_is = z.used_is; parent_is = z.parent_is }

module _ (profile : Profile) (V : View) where
  pub held : (x : Entry) (q parent k fd : ℕ) (act : Act) (d : Fds) → V.slots q ≡ live parent act k d → fd_at d fd ≡ Some x → NoHolder V x → ⊥
  held x q parent k fd turn d h n none = none q (subst (λ s. Holds s x) (sym h) (record { fd = fd; is = n }))

  -- what keeps descriptor 0 holds its entry
  pub keeps_read : (a b old : Entry) (parent : ℕ) (x : Node) → Has profile V a b old parent x → NoHolder V a → keeps_0 (stands_for x) ≡ false
  keeps_read a b old parent reaped h n = refl
  keeps_read a b old parent (gone q) h n = refl
  keeps_read a b old parent (tells q t) h n = refl
  keeps_read a b old parent (leaves q) h n = refl
  keeps_read a b old parent (starts q t) h n = absurd (held a q _ _ 0 _ _ h refl n)
  keeps_read a b old parent (works q t put owns) h n = absurd (held a q _ _ 0 _ _ h.slot h.opened.input n)
  keeps_read a b old parent (reads_lines q lines) h n = absurd (held a q _ _ 0 _ _ h refl n)
  keeps_read a b old parent (in_line q x t) h n = absurd (held a q _ _ 0 _ _ h.0 refl n)
  keeps_read a b old parent (in_list q x t) h n = absurd (held a q _ _ 0 _ _ h.0 refl n)
  keeps_read a b old parent (pipe_made q i l r) h n = absurd (held a q _ _ 0 _ _ h.0 refl n)
  keeps_read a b old parent (pipe_half q i lost x u r) h n = absurd (held a q _ _ 0 _ _ h.0 refl n)
  keeps_read a b old parent (pipe_both q i closes_read lost x u y) h n = absurd (held a q _ _ 0 _ _ h.0 refl n)
  keeps_read a b old parent (pipe_both q i closes_write lost x u y) h n = absurd (held a q _ _ 0 _ _ h.0 refl n)
  keeps_read a b old parent (pipe_both q i waits_two lost x u y) h n = absurd (held a q _ _ 0 _ _ h.0 refl n)
  keeps_read a b old parent (pipe_both q i waits_one lost x u y) h n = absurd (held a q _ _ 0 _ _ h.0 refl n)
  keeps_read a b old parent (pipe_both q i leaves_pipe lost x u y) h n = absurd (held a q _ _ 0 _ _ h.0 refl n)
  keeps_read a b old parent (left_child q closes_old t) h n = absurd (held a q _ _ 0 _ _ h refl n)
  keeps_read a b old parent (left_child q dups_kept t) h n = absurd (held a q _ _ 0 _ _ h refl n)
  keeps_read a b old parent (left_child q drops_read t) h n = absurd (held a q _ _ 0 _ _ h refl n)
  keeps_read a b old parent (left_child q drops_write t) h n = absurd (held a q _ _ 0 _ _ h refl n)
  keeps_read a b old parent (right_child q closes_old t) h n = absurd (held a q _ _ 3 _ _ h refl n)
  keeps_read a b old parent (right_child q dups_kept t) h n = absurd (held a q _ _ 3 _ _ h refl n)
  keeps_read a b old parent (right_child q drops_read t) h n = absurd (held a q _ _ 0 _ _ h refl n)
  keeps_read a b old parent (right_child q drops_write t) h n = absurd (held a q _ _ 0 _ _ h refl n)
  keeps_read a b old parent (opening q Input f t) h n = refl
  keeps_read a b old parent (opening q Fresh f t) h n = absurd (held a q _ _ 0 _ _ h refl n)
  keeps_read a b old parent (opening q Over f t) h n = absurd (held a q _ _ 0 _ _ h refl n)
  keeps_read a b old parent (under_input e f at x) h n = refl
  keeps_read a b old parent (under_output e mode f at x) h n = keeps_read a (file e) old parent x h.2 n

  -- and so with descriptor 1
  pub keeps_write : (a b old : Entry) (parent : ℕ) (x : Node) → Has profile V a b old parent x → NoHolder V b → keeps_1 (stands_for x) ≡ false
  keeps_write a b old parent reaped h n = refl
  keeps_write a b old parent (gone q) h n = refl
  keeps_write a b old parent (tells q t) h n = refl
  keeps_write a b old parent (leaves q) h n = refl
  keeps_write a b old parent (starts q t) h n = absurd (held b q _ _ 1 _ _ h refl n)
  keeps_write a b old parent (works q t put owns) h n = absurd (held b q _ _ 1 _ _ h.slot h.opened.output n)
  keeps_write a b old parent (reads_lines q lines) h n = absurd (held b q _ _ 1 _ _ h refl n)
  keeps_write a b old parent (in_line q x t) h n = absurd (held b q _ _ 1 _ _ h.0 refl n)
  keeps_write a b old parent (in_list q x t) h n = absurd (held b q _ _ 1 _ _ h.0 refl n)
  keeps_write a b old parent (pipe_made q i l r) h n = absurd (held b q _ _ 1 _ _ h.0 refl n)
  keeps_write a b old parent (pipe_half q i lost x u r) h n = absurd (held b q _ _ 1 _ _ h.0 refl n)
  keeps_write a b old parent (pipe_both q i closes_read lost x u y) h n = absurd (held b q _ _ 1 _ _ h.0 refl n)
  keeps_write a b old parent (pipe_both q i closes_write lost x u y) h n = absurd (held b q _ _ 1 _ _ h.0 refl n)
  keeps_write a b old parent (pipe_both q i waits_two lost x u y) h n = absurd (held b q _ _ 1 _ _ h.0 refl n)
  keeps_write a b old parent (pipe_both q i waits_one lost x u y) h n = absurd (held b q _ _ 1 _ _ h.0 refl n)
  keeps_write a b old parent (pipe_both q i leaves_pipe lost x u y) h n = absurd (held b q _ _ 1 _ _ h.0 refl n)
  keeps_write a b old parent (left_child q closes_old t) h n = absurd (held b q _ _ 4 _ _ h refl n)
  keeps_write a b old parent (left_child q dups_kept t) h n = absurd (held b q _ _ 4 _ _ h refl n)
  keeps_write a b old parent (left_child q drops_read t) h n = absurd (held b q _ _ 1 _ _ h refl n)
  keeps_write a b old parent (left_child q drops_write t) h n = absurd (held b q _ _ 1 _ _ h refl n)
  keeps_write a b old parent (right_child q closes_old t) h n = absurd (held b q _ _ 1 _ _ h refl n)
  keeps_write a b old parent (right_child q dups_kept t) h n = absurd (held b q _ _ 1 _ _ h refl n)
  keeps_write a b old parent (right_child q drops_read t) h n = absurd (held b q _ _ 1 _ _ h refl n)
  keeps_write a b old parent (right_child q drops_write t) h n = absurd (held b q _ _ 1 _ _ h refl n)
  keeps_write a b old parent (opening q Input f t) h n = absurd (held b q _ _ 1 _ _ h refl n)
  keeps_write a b old parent (opening q Fresh f t) h n = refl
  keeps_write a b old parent (opening q Over f t) h n = refl
  keeps_write a b old parent (under_input e f at x) h n = keeps_write (file e) b old parent x h.2 n
  keeps_write a b old parent (under_output e mode f at x) h n = refl

  -- a child of p that lies beside a part with p is none
  pub beside : (a b old : Entry) (p pp c : ℕ) (y : Node) → Has profile V a b old pp y → p ≢ pp → occurs p y ≡ 0 → ParentIs (V.slots c) p → occurs c y ≡ 0
  beside a b old p pp c y h n m k =
      elim (none_or_some (occurs c y)) [
        | inl z ↦ z
        | inr l ↦ elim ((placed profile V a b old pp y h c l).parent_is p k) [ inl e ↦ absurd (n e) | inr e ↦ absurd (omega (arith, e, m)) ]
      ]

  root_kid : (p pp parent k c : ℕ) (act : Act) (d : Fds) → V.slots pp ≡ live parent act k d → p ≢ parent → ParentIs (V.slots c) p → same c pp ≡ 0
  root_kid p pp parent k c turn d e n z =
      elim (same_cases c pp) [
        | inl h ↦ absurd (n (sym (subst (λ s. ParentIs s p) (ap V.slots h.0 ∙ e) z)))
        | inr h ↦ h.1
      ]

  pub differ : (p q : ℕ) (t : Node) → occurs q t ≡ 0 → 1 ≤ occurs p t → p ≢ q
  differ p q t z l e = absurd (omega (arith, z, l, ap (λ r. occurs r t) e))

  ends_from : (x y : Entry) (k : ℕ) → (1 ≤ name_of k x → k < V.next) → (1 ≤ name_of k y → k < V.next) → 1 ≤ name_of k x + name_of k y → k < V.next
  ends_from x y k h i l = elim (none_or_some (name_of k x)) [ inl z ↦ i (omega (arith, l, z)) | inr z ↦ h z ]

  pub part_under_input : (a b old : Entry) (parent p e : ℕ) (f : Name) (at : ℕ) (x : Node) → Part profile V a b old parent p (under_input e f at x) → Part profile V (file e) b old parent p x
  part_under_input a b old parent p e f at x g = record {
    has = g.has.2;
    inside = g.inside;
    once = g.once;
    above = g.above;
    apart = λ k. omega (arith, g.apart k);
    known = λ k u. g.known k (omega (arith, u));
    ends_known = λ k l. ends_from (file e) b k (λ m. g.known k (omega (arith, m))) (λ m. g.ends_known k (omega (arith, m))) l;
    can_read = tt;
    can_write = g.can_write;
    to_read = ap (λ (place : Place). place.mode) g.has.0;
    to_write = g.to_write;
    plain = g.plain;
    kids = g.kids;
  }

  pub part_under_output : (a b old : Entry) (parent p e : ℕ) (mode : Mode) (f : Name) (at : ℕ) (x : Node) → Part profile V a b old parent p (under_output e mode f at x) → Part profile V a (file e) old parent p x
  part_under_output a b old parent p e mode f at x g = record {
    has = g.has.2;
    inside = g.inside;
    once = g.once;
    above = g.above;
    apart = λ k. omega (arith, g.apart k);
    known = λ k u. g.known k (omega (arith, u));
    ends_known = λ k l. ends_from a (file e) k (λ m. g.ends_known k (omega (arith, m))) (λ m. g.known k (omega (arith, m))) l;
    can_read = g.can_read;
    can_write = tt;
    to_read = g.to_read;
    to_write = subst (OpensOutput profile) (sym (ap (λ (place : Place). place.mode) g.has.0)) g.has.3;
    plain = g.plain;
    kids = g.kids;
  }

  pub part_line : (a b old : Entry) (parent p pp : ℕ) (x : Node) (t : List ScriptLine) → Part profile V a b old parent p (in_line pp x t) → 1 ≤ occurs p x → Part profile V a b old pp p x
  part_line a b old parent p pp x t g l = record {
    has = g.has.2;
    inside = l;
    once = λ q. omega (arith, g.once q);
    above = omega (arith, g.once pp, same_self pp);
    apart = λ k. omega (arith, g.apart k);
    known = λ k u. g.known k u;
    ends_known = λ k l. g.ends_known k l;
    can_read = g.can_read;
    can_write = g.can_write;
    to_read = g.to_read;
    to_write = g.to_write;
    plain = g.plain.0;
    kids = λ c k. let z = root_kid p pp parent _ c _ _ g.has.0 (differ p parent (in_line pp x t) g.above g.inside) k in omega (arith, z, g.kids c k);
  }

  pub part_list : (a b old : Entry) (parent p pp : ℕ) (x : Node) (t : Tree) → Part profile V a b old parent p (in_list pp x t) → 1 ≤ occurs p x → Part profile V a b old pp p x
  part_list a b old parent p pp x t g l = record {
    has = g.has.2;
    inside = l;
    once = λ q. omega (arith, g.once q);
    above = omega (arith, g.once pp, same_self pp);
    apart = λ k. omega (arith, g.apart k);
    known = λ k u. g.known k u;
    ends_known = λ k l. g.ends_known k l;
    can_read = g.can_read;
    can_write = g.can_write;
    to_read = g.to_read;
    to_write = g.to_write;
    plain = g.plain.0;
    kids = λ c k. let z = root_kid p pp parent _ c _ _ g.has.0 (differ p parent (in_list pp x t) g.above g.inside) k in omega (arith, z, g.kids c k);
  }

  pub part_one : (a b old : Entry) (parent p pp i : ℕ) (lost : Bool) (x : Node) (u : Bytes) (r : Tree) → Part profile V a b old parent p (pipe_half pp i lost x u r) → 1 ≤ occurs p x → Part profile V a (writer i) b pp p x
  part_one a b old parent p pp i lost x u r g l = record {
    has = g.has.3;
    inside = l;
    once = λ q. omega (arith, g.once q);
    above = omega (arith, g.once pp, same_self pp);
    apart = λ k. omega (arith, g.apart k);
    known = λ k u. g.known k (omega (arith, u));
    ends_known = λ k l. ends_from a (writer i) k (λ m. g.ends_known k (omega (arith, m))) (λ m. g.known k (omega (arith, m))) l;
    can_read = g.can_read;
    can_write = tt;
    to_read = g.to_read;
    to_write = tt;
    plain = g.plain.0;
    kids = λ c k. let z = root_kid p pp parent _ c _ _ g.has.0 (differ p parent (pipe_half pp i lost x u r) g.above g.inside) k in omega (arith, z, g.kids c k);
  }

  pub part_left : (a b old : Entry) (parent p pp i : ℕ) (ph : Stage) (lost : Bool) (x y : Node) (u : Bytes) → Part profile V a b old parent p (pipe_both pp i ph lost x u y) → 1 ≤ occurs p x → Part profile V a (writer i) b pp p x
  part_left a b old parent p pp i ph lost x y u g l = record {
    has = g.has.3;
    inside = l;
    once = λ q. omega (arith, g.once q);
    above = omega (arith, g.once pp, same_self pp);
    apart = λ k. omega (arith, g.apart k);
    known = λ k u. g.known k (omega (arith, u));
    ends_known = λ k l. ends_from a (writer i) k (λ m. g.ends_known k (omega (arith, m))) (λ m. g.known k (omega (arith, m))) l;
    can_read = g.can_read;
    can_write = tt;
    to_read = g.to_read;
    to_write = tt;
    plain = g.plain.0;
    kids = λ c k.
        let z = root_kid p pp parent _ c _ _ g.has.0 (differ p parent (pipe_both pp i ph lost x u y) g.above g.inside) k in
        let n : occurs pp x ≡ 0 = omega (arith, g.once pp, same_self pp) in
        let w = beside (reader i) b a p pp c y g.has.4 (differ p pp x n l) (omega (arith, l, g.once p)) k in
        omega (arith, z, w, g.kids c k);
  }

  pub part_right : (a b old : Entry) (parent p pp i : ℕ) (ph : Stage) (lost : Bool) (x y : Node) (u : Bytes) → Part profile V a b old parent p (pipe_both pp i ph lost x u y) → 1 ≤ occurs p y → Part profile V (reader i) b a pp p y
  part_right a b old parent p pp i ph lost x y u g l = record {
    has = g.has.4;
    inside = l;
    once = λ q. omega (arith, g.once q);
    above = omega (arith, g.once pp, same_self pp);
    apart = λ k. omega (arith, g.apart k);
    known = λ k u. g.known k (omega (arith, u));
    ends_known = λ k l. ends_from (reader i) b k (λ m. g.known k (omega (arith, m))) (λ m. g.ends_known k (omega (arith, m))) l;
    can_read = tt;
    can_write = g.can_write;
    to_read = tt;
    to_write = g.to_write;
    plain = g.plain.1;
    kids = λ c k.
        let z = root_kid p pp parent _ c _ _ g.has.0 (differ p parent (pipe_both pp i ph lost x u y) g.above g.inside) k in
        let n : occurs pp y ≡ 0 = omega (arith, g.once pp, same_self pp) in
        let w = beside a (writer i) b p pp c x g.has.3 (differ p pp y n l) (omega (arith, l, g.once p)) k in
        omega (arith, z, w, g.kids c k);
  }
