-- A call of init after which it doesn't sleep leaves it alone: it took the last zombie away, or had no child any more.
use Rattle.std.proofs.Common.{◌≡◌, ◌≢◌, ◌⊎◌, inl, inr, ℕ, zero, suc, Bool, true, false, Option, Some, None, refl, sym, ap, ◌∙◌, arith}
use Rattle.std.proofs.lemmas.Bool.{and_parts, both_ways, cases_eq, eq-eqb}
use Rattle.std.specs.Prelude.{is_some}
use Rattle.script_load.specs.declared.profile.Profile.{Profile}
use Rattle.user_calls.specs.declared.calls.Reply.TheVariants.{Done, Refused}
use Rattle.proc_table.specs.declared.states.Channel.TheVariants.{Children}
use Rattle.proc_table.specs.Slots.{IsAlone, Process, Slot, Table, at, is_asleep, is_child_of, is_number, is_zombie, is_zombie_status, parent_or_init}
use Rattle.proc_table.specs.Calls.{made_ready, reaped, some_child, zombie_child, wait_by as wait_by_children}
use Rattle.proc_table.proofs.Changes.{kept, reaped_is_free, reaped_others, was_zombie_child}
use Rattle.kernel_model.specs.KernelState.{KernelState}
use Rattle.kernel_model.specs.Processes.{wait_by}
use Rattle.kernel_model.specs.Events.{counted}
use Rattle.law_kernel.specs.Sleeping.{IsFamily}
use Rattle.law_kernel.proofs.kernel.Children.{none_at}
use Rattle.sh_machine.specs.State.{User, init}
use Rattle.process_model.specs.Seen.{Entry, input, out, zombie, seen_by, seen_slot, Names, view}
use Rattle.process_model.specs.Effect.{ParentIs}
use Rattle.process_model.specs.Shape.{Node, reaped as nobody, gone, IsShape, is_there, is_used, occurs}
use Rattle.process_model.proofs.Counts.{same_other}
use Rattle.law_runs.proofs.views.Tables.{seen_up, slept_sleeps}
use Rattle.law_runs.proofs.standing.WaitsSeen.{has_kid, zombie_kid}
use Rattle.law_runs.proofs.bounds.Parents.{has_parent, HaveParents}
use Rattle.law_runs.proofs.never_stuck.Never.{used_by}
use Rattle.law_runs.proofs.views.InitSeen.{zombie_seen}

-- ---- a slot as it is seen

unused_is_free : (name : ℕ → Entry) (x : Slot User) → is_used (seen_slot name x) ≡ 0 → x ≡ None
unused_is_free name None none = refl
unused_is_free name (Some y) none = absurd (omega (arith, none, used_by name (is_zombie_status y.status) y))

-- a process that is seen as init's child is one, since it has a parent
is_init's : (o : Option ℕ) → is_some o ≡ true → parent_or_init o ≡ 0 → is_number 0 o ≡ true
is_init's None has is = absurd (let z : ⊥ = cc in z)
is_init's (Some n) has is = eq-eqb 0 n (sym is)

parent_by : (name : ℕ → Entry) (b : Bool) (y : Process User) → ParentIs (seen_by b name y) 0 → parent_or_init y.parent ≡ 0
parent_by name true y is = is
parent_by name false y is = is

child_seen : (name : ℕ → Entry) (x : Slot User) → has_parent x ≡ true → ParentIs (seen_slot name x) 0 → is_child_of 0 x ≡ true
child_seen name None has is = absurd is
child_seen name (Some y) has is = is_init's y.parent has (parent_by name (is_zombie_status y.status) y is)

there_or_not : (t : Node) → (t ≡ nobody) ⊎ (is_there t ≡ 1)
there_or_not nobody = inl refl
there_or_not _ = inr refl

module _ (profile : Profile) (g : Names) (k : KernelState User) (t : Node) (shape : IsShape profile (view g k) t) (family : IsFamily k.table) (parents : HaveParents k.table) where
  -- a slot that the tree doesn't have is free
  not_in_tree : (q : ℕ) → q ≢ 0 → occurs q t ≡ 0 → at k.table q ≡ None
  not_in_tree q up none = unused_is_free g.name (at k.table q) (ap is_used (sym (seen_up g.name k.table q up)) ∙ sym (shape.all q) ∙ none)

  init_is_out : occurs 0 t ≡ 0
  init_is_out = shape.all 0

  -- ---- a zombie is taken away

  module _ (child : ℕ) (found : zombie_child k.table 0 ≡ Some child) where
    was : (is_child_of 0 (at k.table child) ≡ true) × (is_zombie (at k.table child) ≡ true)
    was = let w = and_parts (is_child_of 0 (at k.table child)) (is_zombie (at k.table child)) (was_zombie_child k.table 0 child found).1 in (w.0, w.1)

    up : child ≢ 0
    up e = both_ways (is_child_of 0 (at k.table 0)) (family.eldest 0) (ap (λ n. is_child_of 0 (at k.table n)) (sym e) ∙ was.0)

    dead : (view g k).slots child ≡ zombie 0
    dead = seen_up g.name k.table child up ∙ zombie_seen g.name (at k.table child) was.0 was.1

    all_of_it : t ≡ gone child
    all_of_it = zombie_kid profile (view g k) 0 input out out t child shape.has init_is_out dead (omega (arith, shape.all child, ap is_used dead))

    taken_alone : IsAlone (reaped k.table 0)
    taken_alone q ne = by (cases_eq q child) where
      by : (q ≡ child) ⊎ (q ≢ child) → at (reaped k.table 0) q ≡ None
      by (inl is) = ap (at (reaped k.table 0)) is ∙ reaped_is_free k.table 0 child found
      by (inr other) = reaped_others k.table 0 child q found other ∙ not_in_tree q ne (ap (occurs q) all_of_it ∙ same_other q child other)

  -- ---- there is no child

  none_left : some_child k.table 0 ≡ None → IsAlone k.table
  none_left none = by (there_or_not t) where
    by : (t ≡ nobody) ⊎ (is_there t ≡ 1) → IsAlone k.table
    by (inl is) = λ q ne. not_in_tree q ne (ap (occurs q) is)
    by (inr there) =
        let kid = has_kid profile (view g k) 0 input out out t shape.has there in
        absurd (not_kid kid.0 kid.1) where
          not_kid : (c : ℕ) → ParentIs ((view g k).slots c) 0 → ⊥
          not_kid zero is = is
          not_kid (suc c) is = both_ways (is_child_of 0 (at k.table (suc c))) (none_at (is_child_of 0) refl k.table none (suc c)) (child_seen g.name (at k.table (suc c)) (parents (suc c) (λ e. absurd (omega (arith, e)))) is)

  -- ---- init's call

  ready_alone : (u : Table User) (r : Rattle.user_calls.specs.declared.calls.Reply.Reply) → IsAlone u → IsAlone (Rattle.std.proofs.Math.ListN.set u 0 (made_ready init r (at u 0)))
  ready_alone u r alone q up = kept u 0 q (made_ready init r (at u 0)) up ∙ alone q up

  pub alone_after : (p : Process User) → at k.table 0 ≡ Some p → (dead some : Option ℕ) → zombie_child k.table 0 ≡ dead → some_child k.table 0 ≡ some
      → is_asleep (at (wait_by (counted k) 0 init (wait_by_children dead some)).table 0) ≡ false → IsAlone (wait_by (counted k) 0 init (wait_by_children dead some)).table
  alone_after p there (Some child) some found one awake = ready_alone (reaped k.table 0) Done (taken_alone child found)
  alone_after p there None (Some child) found one awake = absurd (both_ways _ awake (slept_sleeps k.table 0 0 p (Children 0) there))
  alone_after p there None None found none awake = ready_alone k.table Refused (none_left none)
