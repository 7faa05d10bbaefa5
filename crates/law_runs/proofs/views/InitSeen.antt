-- init waits for ever: it takes away its children that are zombies.
use Rattle.std.proofs.Common.{◌≡◌, ◌≢◌, ℕ, zero, suc, ◌+◌, Bool, true, false, Option, Some, None, refl, sym, ap, ◌∙◌, subst}
use Rattle.std.specs.Prelude.{if◌then◌else◌}
use Rattle.std.proofs.lemmas.Bool.{both_ways, eqb-true, and_parts}
use Rattle.mem_files.specs.Files.{files}
use Rattle.user_calls.specs.declared.calls.Reply.TheVariants.{Done, Refused}
use Rattle.proc_table.specs.declared.states.Channel.TheVariants.{Children}
use Rattle.proc_table.specs.Slots.{Slot, Table, at, is_number, is_child_of, is_zombie, is_running_on, parent_or_init}
use Rattle.proc_table.specs.Calls.{readied, made_ready, put_to_sleep, reaped, zombie_child, some_child, wait_by as wait_by_children}
use Rattle.proc_table.proofs.Changes.{kept, reaped_is_free, reaped_others, was_zombie_child}
use Rattle.kernel_model.specs.declared.events.Event.TheVariants.{Trap}
use Rattle.kernel_model.specs.KernelState.{KernelState}
use Rattle.kernel_model.specs.Replies.{answered}
use Rattle.kernel_model.specs.Processes.{wait, wait_by}
use Rattle.kernel_model.specs.Events.{counted, trapped, happens}
use Rattle.sh_machine.specs.State.{User, init}
use Rattle.sh_machine.specs.Turn.{call_of, next_of}
use Rattle.process_model.specs.Seen.{Entry, zombie, seen_by, seen_slot, seen, Names, view}
use Rattle.process_model.specs.Shows.{Shows, ShowsIn}
use Rattle.process_model.specs.Effect.{Quiet}
use Rattle.law_runs.specs.Consistent.{IsConsistent}
use Rattle.law_runs.specs.Seen.{IsInit, InitWaits, takes_away, waits_on}
use Rattle.law_runs.proofs.views.Tables.{seen_up}
use Rattle.law_runs.proofs.views.Showing.{shows_later}

pub its_parent : (o : Option ℕ) → is_number 0 o ≡ true → parent_or_init o ≡ 0
its_parent None is = refl
its_parent (Some n) is = sym (eqb-true 0 n is)

pub zombie_seen : (name : ℕ → Entry) (x : Slot User) → is_child_of 0 x ≡ true → is_zombie x ≡ true → seen_slot name x ≡ zombie 0
zombie_seen name None is dead = absurd (let z : ⊥ = cc in z)
zombie_seen name (Some x) is dead = ap (λ b. seen_by b name x) dead ∙ ap zombie (its_parent x.parent is)

module _ (g : Names) (k : KernelState User) (settled : IsConsistent k) (shows : ShowsIn g k) where
  -- of the slots only init's changes
  own_slot : (x : Slot User) (q : ℕ) → seen g.name (Rattle.std.proofs.Math.ListN.set k.table 0 x) q ≡ seen g.name k.table q
  own_slot x zero = refl
  own_slot x (suc q) = ap (seen_slot g.name) (kept k.table 0 (suc q) x (λ e. let z : ⊥ = cc in z))

  unseen : (x : Slot User) → Quiet (view g k) (view g (record (counted k) { table = Rattle.std.proofs.Math.ListN.set k.table 0 x }))
  unseen x = record { slots = own_slot x; rest = record { pipes = λ i. refl; places = λ e. refl; files = refl; input = refl; out = refl } }

  abbrev Waits : KernelState User → Type 0
  Waits l = ShowsIn g l × InitWaits (view g k) (view g l) × (l.events ≡ k.events + 1)

  later : Shows g k.entries k.pipes (files k.files) (k.events + 1 + 1)
  later = shows_later g k.entries k.pipes (files k.files) (k.events + 1) shows

  init_by : (dead some : Option ℕ) → zombie_child k.table 0 ≡ dead → Waits (wait_by (counted k) 0 init (wait_by_children dead some))
  init_by None (Some child) found = (later, waits_on (unseen (put_to_sleep (Children 0) 0 (at k.table 0))), refl)
  init_by None None found = (later, waits_on (unseen (made_ready init Refused (at k.table 0))), refl)
  init_by (Some child) some found =
      let t = reaped k.table 0 in
      let l = answered (record (counted k) { table = t }) 0 init Done in
      let was = and_parts (is_child_of 0 (at k.table child)) (is_zombie (at k.table child)) (was_zombie_child k.table 0 child found).1 in
      let not_init : child ≢ 0 = λ e. both_ways (is_child_of 0 (at k.table 0)) (settled.rests.family.eldest 0) (ap (λ n. is_child_of 0 (at k.table n)) (sym e) ∙ was.0) in (
        later,
        takes_away (record {
          child = child;
          was = seen_up g.name k.table child not_init ∙ zombie_seen g.name (at k.table child) was.0 was.1;
          gone = seen_up g.name l.table child not_init ∙ ap (seen_slot g.name) (kept t 0 child (made_ready init Done (at t 0)) not_init ∙ reaped_is_free k.table 0 child found);
          others = others child found t;
          rest = record { pipes = λ i. refl; places = λ e. refl; files = refl; input = refl; out = refl };
        }),
        refl,
      )
    where
      others : (child : ℕ) → zombie_child k.table 0 ≡ Some child → (t : Table User) → (q : ℕ) → q ≢ child → seen g.name (readied (reaped k.table 0) 0 init Done) q ≡ seen g.name k.table q
      others child found t zero ne = refl
      others child found t (suc q) ne = ap (seen_slot g.name) (kept (reaped k.table 0) 0 (suc q) (made_ready init Done (at (reaped k.table 0) 0)) (λ e. let z : ⊥ = cc in z) ∙ reaped_others k.table 0 child (suc q) found ne)

  pub init_seen : (h : ℕ) (l : KernelState User) (refused : Bool) → IsInit k → happens call_of next_of k (Trap h 0) refused ≡ Some l → Waits l
  init_seen h l refused is_init happened = by (is_running_on h (at k.table 0)) happened
    where
      go : (x : Slot User) → at k.table 0 ≡ x → trapped call_of next_of k 0 x refused ≡ Some l → Waits l
      go None is e = absurd (let z : ⊥ = cc in z)
      go (Some q) is e =
          let machine : q.machine ≡ init = (is_init q is).0 in
          let m = wait (counted k) 0 init in
          let same : Some m ≡ Some l = sym (ap (λ u. Some (Rattle.kernel_model.specs.Events.acted (counted k) 0 (next_of u q.reply) (call_of u q.reply) refused)) machine) ∙ e in
          let is_l : m ≡ l = cc in
          subst Waits is_l (init_by (zombie_child k.table 0) (some_child k.table 0) refl)

      by : (c : Bool) → (if c then trapped call_of next_of k 0 (at k.table 0) refused else None) ≡ Some l → Waits l
      by true e = go (at k.table 0) refl e
      by false e = absurd (let z : ⊥ = cc in z)
