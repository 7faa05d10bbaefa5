-- fork, exec, wait and dup, as they are seen.
use Rattle.std.proofs.Common.{◌≡◌, ◌≢◌, ◌⊎◌, ℕ, zero, suc, ◌+◌, ◌<◌, Bool, true, false, Option, Some, None, length, refl, sym, ap, ◌∙◌, subst, inl, inr, arith, get_or-set_other, get_or-set_same, length-set}
use Rattle.std.specs.Prelude.{◌&&◌, if◌then◌else◌, option_map, slice_set}
use Rattle.std.proofs.lemmas.Bool.{cases_eq, eqb-true, eq-eqb, both_ways, and_parts}
use Rattle.std.proofs.lemmas.List.Quantifiers.{position-Some}
use Rattle.user_calls.specs.declared.calls.Call.{Call}
use Rattle.user_calls.specs.declared.calls.Call.TheVariants.{Fork, Exec, Wait, Dup}
use Rattle.user_calls.specs.declared.calls.Reply.TheVariants.{Child, Done, Fd, Refused}
use Rattle.fd_table.specs.Entries.{Entries, OpenFile, entry_at, more_held, held}
use Rattle.fd_table.specs.Descriptors.{Descriptors, entry_of, lowest_free, dup_answer, holders_in, all_held}
use Rattle.fd_table.proofs.Lists.{within_list}
use Rattle.fd_table.proofs.Holding.{entry_at-all_held}
use Rattle.proc_table.specs.declared.states.Channel.TheVariants.{Children}
use Rattle.proc_table.specs.declared.table.Waited.TheVariants.{Reaped, NoChildren, MustSleep}
use Rattle.proc_table.specs.Slots.{Slot, Process, at, is_free, is_number, is_child_of, is_zombie, is_zombie_child_of, is_zombie_status, parent_or_init}
use Rattle.proc_table.specs.Calls.{fds_set, forked, newborn, reaped, zombie_child, some_child, lowest_free as lowest_free_slot}
use Rattle.proc_table.proofs.Changes.{kept, was_free, child_is, reaped_is_free, reaped_others, was_zombie_child}
use Rattle.mem_files.specs.Files.{files}
use Rattle.kernel_model.specs.declared.events.Full.TheVariants.{Procs, Fds as FullFds'}
use Rattle.kernel_model.specs.KernelState.{KernelState, fds_at}
use Rattle.kernel_model.specs.Replies.{answered, sleeps}
use Rattle.kernel_model.specs.Descriptors.{copied, dup, dup_by}
use Rattle.kernel_model.specs.Processes.{fork_into, exec, wait, wait_by}
use Rattle.kernel_model.specs.Events.{counted}
use Rattle.law_kernel.specs.Sleeping.{IsFamily}
use Rattle.law_kernel.proofs.kernel.Children.{none_at}
use Rattle.sh_machine.specs.State.{User}
use Rattle.process_model.specs.Seen.{Entry, zombie, live, act_of, fds_seen, seen_by, seen_slot, Names, view}
use Rattle.process_model.specs.Shows.{Shows, ShowsIn}
use Rattle.process_model.specs.Effect.{ParentIs, Sets, DupsAt, DupsTo, reaps, has_none, sleeps as sleeps_seen, answered as answered_seen}
use Rattle.law_runs.proofs.views.Tables.{At, at_fds, fds_others, at_ready, ready_others, at_slept, slept_others, seen_at, seen_up, seen_alike, slept_sleeps}
use Rattle.law_runs.proofs.views.Fds.{seen_fd, seen_set, seen_lowest}
use Rattle.law_runs.proofs.views.Showing.{Kept, kept_pipes, shows_on}
use Rattle.law_runs.proofs.views.Mid as during
use Rattle.kernel_model.proofs.Quiet.{is_marked}

-- ---- entries that are held more

more : (n : ℕ) (o : Option OpenFile) (f : OpenFile) → more_held n o ≡ Some f → (h : OpenFile) × (o ≡ Some h) × (f.object ≡ h.object) × (f.offset ≡ h.offset)
more n None f is = absurd (let z : ⊥ = cc in z)
more n (Some h) f is = let same : record { object = h.object; count = h.count + n; offset = h.offset } ≡ f = cc in (h, refl, ap (λ (x : OpenFile). x.object) (sym same), ap (λ (x : OpenFile). x.offset) (sym same))

kept_held : (E : Entries) (e : ℕ) → Kept E (held E e)
kept_held E e = record { was = λ d f is. by d f is (cases_eq d e) }
  where
    by : (d : ℕ) (f : OpenFile) → entry_at (held E e) d ≡ Some f → (d ≡ e) ⊎ (d ≢ e) → (h : OpenFile) × (entry_at E d ≡ Some h) × (f.object ≡ h.object) × (f.offset ≡ h.offset)
    by d f is (inr ne) = (f, sym (get_or-set_other E e d (more_held 1 (entry_at E e)) None ne) ∙ is, refl, refl)
    by d f is (inl eq) =
        let there : entry_at (held E e) e ≡ Some f = ap (entry_at (held E e)) (sym eq) ∙ is in
        let in_it : e < length (held E e) = within_list (held E e) e f there in
        let z = more 1 (entry_at E e) f (sym (get_or-set_same E e (more_held 1 (entry_at E e)) None (omega (arith, in_it, length-set {A = Option OpenFile} E e (more_held 1 (entry_at E e))))) ∙ there) in
        (z.0, ap (entry_at E) eq ∙ z.1, z.2, z.3)

kept_all_held : (E : Entries) (d : Descriptors) → Kept E (all_held E d)
kept_all_held E d = record { was = λ e f is. more (holders_in d e) (entry_at E e) f (sym (entry_at-all_held E d e) ∙ is) }

-- ---- children

child_there : (p : ℕ) (o : Option ℕ) → p ≢ 0 → parent_or_init o ≡ p → is_number p o ≡ true
child_there p None up is = absurd (up (sym is))
child_there p (Some n) up is = eq-eqb p n (sym is)

its_parent : (p : ℕ) (o : Option ℕ) → is_number p o ≡ true → parent_or_init o ≡ p
its_parent p None is = absurd (let z : ⊥ = cc in z)
its_parent p (Some n) is = sym (eqb-true p n is)

module _ (name : ℕ → Entry) (p : ℕ) where
  parent_of_seen : (b : Bool) (x : Process User) (r : ℕ) → ParentIs (seen_by b name x) r → parent_or_init x.parent ≡ r
  parent_of_seen true x r h = h
  parent_of_seen false x r h = h

  seen_parent : (b : Bool) (x : Process User) (r : ℕ) → parent_or_init x.parent ≡ r → ParentIs (seen_by b name x) r
  seen_parent true x r h = h
  seen_parent false x r h = h

  kid_seen : (x : Slot User) → p ≢ 0 → ParentIs (seen_slot name x) p → is_child_of p x ≡ true
  kid_seen None up h = absurd h
  kid_seen (Some x) up h = child_there p x.parent up (parent_of_seen (is_zombie_status x.status) x p h)

  seen_kid : (x : Slot User) → is_child_of p x ≡ true → ParentIs (seen_slot name x) p
  seen_kid None is = absurd (let z : ⊥ = cc in z)
  seen_kid (Some x) is = seen_parent (is_zombie_status x.status) x p (its_parent p x.parent is)

  zombie_seen : (x : Slot User) → is_child_of p x ≡ true → is_zombie x ≡ true → seen_slot name x ≡ zombie p
  zombie_seen None is dead = absurd (let z : ⊥ = cc in z)
  zombie_seen (Some x) is dead = ap (λ b. seen_by b name x) dead ∙ ap zombie (its_parent p x.parent is)

  dead_by : (b : Bool) (x : Process User) → seen_by b name x ≡ zombie p → b ≡ true
  dead_by true x is = refl
  dead_by false x is = absurd (let z : ⊥ = cc in z)

  parent_by : (b : Bool) (x : Process User) → seen_by b name x ≡ zombie p → parent_or_init x.parent ≡ p
  parent_by true x is = let z : parent_or_init x.parent ≡ p = cc in z
  parent_by false x is = absurd (let z : ⊥ = cc in z)

  seen_zombie : (x : Slot User) → p ≢ 0 → seen_slot name x ≡ zombie p → is_zombie_child_of p x ≡ true
  seen_zombie None up is = absurd (let z : ⊥ = cc in z)
  seen_zombie (Some x) up is =
      let child = child_there p x.parent up (parent_by (is_zombie_status x.status) x is) in
      let dead = dead_by (is_zombie_status x.status) x is in
      ap (λ b. b && is_zombie_status x.status) child ∙ dead

module _ (g : Names) (k : KernelState User) (p : ℕ) (q : Process User) (up : p ≢ 0) (is : at k.table p ≡ Some q) (alive : is_zombie_status q.status ≡ false) (shows : ShowsIn g k) where
  abbrev Called : KernelState User → Call → Type 0
  Called l call = during.Called g k p q l call

  abbrev next : User
  next = (during.act g k p q).next

  own : At k.table p q.parent q.machine q.reply q.fds q.put
  own = during.own g k p q up is alive shows

  -- ---- exec

  pub execs : (found : Bool) → Called (exec (counted k) p next found) (Exec found)
  execs found = record {
    names = g;
    shows = during.later_shows g k p q up is alive shows;
    effect = during.only_answers g k p q up is alive shows (if found then Done else Refused);
  }

  -- ---- dup

  dups_by : (entry place : Option ℕ) → lowest_free q.fds ≡ place → (dup_by (copied (counted k) p entry place) p next (dup_answer entry place)).full ≡ None
      → DupsAt (view g k) (view g (dup_by (copied (counted k) p entry place) p next (dup_answer entry place))) p (parent_or_init q.parent) (during.act g k p q) (fds_seen g.name q.fds) (option_map g.name entry)
      × Shows g (dup_by (copied (counted k) p entry place) p next (dup_answer entry place)).entries k.pipes (files k.files) (k.events + 1 + 1)
  dups_by None place low full =
      let m = copied (counted k) p None place in
      let same = during.fds_are g k p q up is alive shows in
      let at_it : At m.table p q.parent q.machine q.reply q.fds q.put = subst (λ x. At (fds_set k.table p x) p q.parent q.machine q.reply q.fds q.put) (sym same) (at_fds k.table p q.parent q.machine q.reply q.fds q.fds q.put own) in
      let others = fds_others g.name k.table p (fds_at k p) in
      (record { slots = during.answer_sets g k p q up is alive shows g m q.fds Refused refl at_it others; rest = during.rest g k p q up is alive shows (answered m p next Refused) refl refl refl }, during.later_shows g k p q up is alive shows)
  dups_by (Some e) None low full = absurd (is_marked k.full FullFds' full)
  dups_by (Some e) (Some place) low full =
      let m = copied (counted k) p (Some e) (Some place) in
      let same = during.fds_are g k p q up is alive shows in
      let d = slice_set q.fds place (Some e) in
      let at_it : At m.table p q.parent q.machine q.reply d q.put = subst (λ x. At (fds_set k.table p (slice_set x place (Some e))) p q.parent q.machine q.reply d q.put) (sym same) (at_fds k.table p q.parent q.machine q.reply q.fds d q.put own) in
      let others = fds_others g.name k.table p (slice_set (fds_at k p) place (Some e)) in
      let l = answered m p next (Fd place) in (
        subst (λ o. DupsTo (view g k) (view g l) p (parent_or_init q.parent) (during.act g k p q) (fds_seen g.name q.fds) (g.name e) o) (sym (seen_lowest g.name q.fds ∙ low))
            (record {
              slots = subst (λ x. Sets (view g k) (view g l) p (answered_seen (parent_or_init q.parent) (during.act g k p q) (Fd place) x)) (seen_set g.name q.fds place (Some e)) (during.answer_sets g k p q up is alive shows g m d (Fd place) refl at_it others);
              rest = during.rest g k p q up is alive shows l refl refl refl;
            }),
        shows_on g k.entries (held k.entries e) k.pipes k.pipes (files k.files) (files k.files) (k.events + 1 + 1) (k.events + 1 + 1) (kept_held k.entries e) (kept_pipes k.pipes) (λ n y. y) (omega arith) (during.later_shows g k p q up is alive shows),
      )

  dup_same : (entry place : Option ℕ) → ((dup_by (copied (counted k) p entry place) p next (dup_answer entry place)).pipes ≡ k.pipes) × ((dup_by (copied (counted k) p entry place) p next (dup_answer entry place)).files ≡ k.files)
  dup_same None place = (refl, refl)
  dup_same (Some e) None = (refl, refl)
  dup_same (Some e) (Some place) = (refl, refl)

  pub dups : (fd : ℕ) → (dup (counted k) p next fd).full ≡ None → Called (dup (counted k) p next fd) (Dup fd)
  dups fd full =
      let same = during.fds_are g k p q up is alive shows in
      let R : Descriptors → KernelState User = λ x. dup_by (copied (counted k) p (entry_of x fd) (lowest_free x)) p next (dup_answer (entry_of x fd) (lowest_free x)) in
      let l = R q.fds in
      let z = dups_by (entry_of q.fds fd) (lowest_free q.fds) refl (ap (λ x. (R x).full) (sym same) ∙ full) in
      let parts = dup_same (entry_of q.fds fd) (lowest_free q.fds) in
      subst (λ x. Called (R x) (Dup fd)) (sym same) (record {
        names = g;
        shows = subst (λ P. Shows g l.entries P (files l.files) (k.events + 1 + 1)) (sym parts.0) (subst (λ F. Shows g l.entries k.pipes (files F) (k.events + 1 + 1)) (sym parts.1) z.1);
        effect = subst (λ y. DupsAt (view g k) (view g l) p (parent_or_init q.parent) (during.act g k p q) (fds_seen g.name q.fds) y) (sym (seen_fd g.name q.fds fd)) z.0;
      })

  -- ---- fork

  module _ (family : IsFamily k.table) where
    fork_by : (child : ℕ) → lowest_free_slot k.table ≡ Some child → Called (fork_into (counted k) p next (Some child)) Fork
    fork_by child low =
        let d = fds_at k p in
        let t = forked k.table child p next d in
        let m = record (counted k) { table = t; entries = all_held k.entries d } in
        let l = answered m p next Done in
        let same = during.fds_are g k p q up is alive shows in
        let empty = was_free k.table child low in
        let not_p : p ≢ child = λ e. let z : None ≡ Some q = sym empty ∙ ap (at k.table) (sym e) ∙ is in let w : ⊥ = cc in w in
        let not_init : child ≢ 0 = λ e. both_ways (is_free (at k.table 0)) family.init.used (ap is_free (ap (at k.table) (sym e) ∙ empty)) in
        let new : at l.table child ≡ Some (newborn p next d) = kept t p child _ (λ e. not_p (sym e)) ∙ child_is k.table child p next d low in
        let at_it : At t p q.parent q.machine q.reply q.fds q.put = record { status = q.status; alive = alive; is = kept k.table child p (Some (newborn p next d)) not_p ∙ is } in
        let others : (r : ℕ) → r ≢ p → r ≢ child → seen_slot g.name (at l.table r) ≡ seen_slot g.name (at k.table r) = λ r ne other. ready_others g.name t p next Done r ne ∙ ap (seen_slot g.name) (kept k.table child r (Some (newborn p next d)) other) in
        record {
          names = g;
          shows = shows_on g k.entries (all_held k.entries d) k.pipes k.pipes (files k.files) (files k.files) (k.events + 1 + 1) (k.events + 1 + 1) (kept_all_held k.entries d) (kept_pipes k.pipes) (λ n y. y) (omega arith) (during.later_shows g k p q up is alive shows);
          effect = record {
            child = child;
            was_free = seen_up g.name k.table child not_init ∙ ap (seen_slot g.name) empty;
            child_is = seen_up g.name l.table child not_init ∙ ap (seen_slot g.name) new ∙ ap (λ x. live p (act_of next Child) 0 (fds_seen g.name x)) same;
            here = seen_up g.name l.table p up ∙ seen_at g.name l.table p q.parent next Done q.fds 0 (at_ready t p q.parent q.machine next q.reply Done q.fds q.put at_it);
            others = λ r ne other. seen_alike g.name g.name k.table l.table r (others r ne other);
            rest = during.rest g k p q up is alive shows l refl refl refl;
          };
        }

    pub forks : (place : Option ℕ) → lowest_free_slot k.table ≡ place → (fork_into (counted k) p next place).full ≡ None → Called (fork_into (counted k) p next place) Fork
    forks None low full = absurd (is_marked k.full Procs full)
    forks (Some child) low full = fork_by child low

    -- ---- wait

    wait_reaps : (child : ℕ) → zombie_child k.table p ≡ Some child → Called (wait_by (counted k) p next (Reaped child)) Wait
    wait_reaps child found =
        let t = reaped k.table p in
        let m = record (counted k) { table = t } in
        let l = answered m p next Done in
        let was = and_parts (is_child_of p (at k.table child)) (is_zombie (at k.table child)) (was_zombie_child k.table p child found).1 in
        let not_p : child ≢ p = λ e. both_ways (is_zombie (at k.table p)) (ap is_zombie is ∙ alive) (ap (λ n. is_zombie (at k.table n)) (sym e) ∙ was.1) in
        let not_init : child ≢ 0 = λ e. both_ways (is_child_of p (at k.table 0)) (family.eldest p) (ap (λ n. is_child_of p (at k.table n)) (sym e) ∙ was.0) in
        let gone : at l.table child ≡ None = kept t p child _ not_p ∙ reaped_is_free k.table p child found in
        let at_it : At t p q.parent q.machine q.reply q.fds q.put = record { status = q.status; alive = alive; is = reaped_others k.table p child p found (λ e. not_p (sym e)) ∙ is } in
        let others : (r : ℕ) → r ≢ p → r ≢ child → seen_slot g.name (at l.table r) ≡ seen_slot g.name (at k.table r) = λ r ne other. ready_others g.name t p next Done r ne ∙ ap (seen_slot g.name) (reaped_others k.table p child r found other) in
        record {
          names = g;
          shows = during.later_shows g k p q up is alive shows;
          effect = reaps (record {
            child = child;
            was = seen_up g.name k.table child not_init ∙ zombie_seen g.name p (at k.table child) was.0 was.1;
            gone = seen_up g.name l.table child not_init ∙ ap (seen_slot g.name) gone;
            here = seen_up g.name l.table p up ∙ seen_at g.name l.table p q.parent next Done q.fds 0 (at_ready t p q.parent q.machine next q.reply Done q.fds q.put at_it);
            others = λ r ne other. seen_alike g.name g.name k.table l.table r (others r ne other);
            rest = during.rest g k p q up is alive shows l refl refl refl;
          });
        }

    wait_refused : some_child k.table p ≡ None → Called (wait_by (counted k) p next NoChildren) Wait
    wait_refused none = record {
      names = g;
      shows = during.later_shows g k p q up is alive shows;
      effect = has_none no_kid (during.only_answers g k p q up is alive shows Refused);
    }
      where
        no_kid : (r : ℕ) → ParentIs ((view g k).slots r) p → ⊥
        no_kid zero h = h
        no_kid (suc r) h = both_ways (is_child_of p (at k.table (suc r))) (none_at (is_child_of p) refl k.table none (suc r)) (kid_seen g.name p (at k.table (suc r)) up h)

    wait_sleeps : (child : ℕ) → zombie_child k.table p ≡ None → some_child k.table p ≡ Some child → Called (wait_by (counted k) p next MustSleep) Wait
    wait_sleeps child none some =
        let l = Rattle.kernel_model.specs.Replies.sleeps (counted k) p (Children p) 0 in
        let kid : is_child_of p (at k.table child) ≡ true = (position-Some (is_child_of p) k.table child None some).1 in
        let not_init : child ≢ 0 = λ e. both_ways (is_child_of p (at k.table 0)) (family.eldest p) (ap (λ n. is_child_of p (at k.table n)) (sym e) ∙ kid) in
        record {
          names = g;
          shows = during.later_shows g k p q up is alive shows;
          effect = sleeps_seen child (subst (λ s. ParentIs s p) (sym (seen_up g.name k.table child not_init)) (seen_kid g.name p (at k.table child) kid)) no_zombie
              (during.sets g k p q up is alive shows g l q.machine q.reply q.fds 0 refl (at_slept k.table p q.parent q.machine q.reply q.fds q.put 0 (Children p) own) (slept_others g.name k.table p 0 (Children p)))
              (during.rest g k p q up is alive shows l refl refl refl) (slept_sleeps k.table p 0 _ (Children p) own.is);
        }
      where
        no_zombie : (r : ℕ) → (view g k).slots r ≡ zombie p → ⊥
        no_zombie zero h = let z : ⊥ = cc in z
        no_zombie (suc r) h = both_ways (is_zombie_child_of p (at k.table (suc r))) (none_at (is_zombie_child_of p) refl k.table none (suc r)) (seen_zombie g.name p (at k.table (suc r)) up h)

    waits_by : (dead some : Option ℕ) → zombie_child k.table p ≡ dead → some_child k.table p ≡ some → Called (wait_by (counted k) p next (Rattle.proc_table.specs.Calls.wait_by dead some)) Wait
    waits_by (Some child) some found kid = wait_reaps child found
    waits_by None (Some child) found kid = wait_sleeps child found kid
    waits_by None None found kid = wait_refused kid

    pub waits : Called (wait (counted k) p next) Wait
    waits = waits_by (zombie_child k.table p) (some_child k.table p) refl refl
