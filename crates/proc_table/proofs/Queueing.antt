-- Each slot stands where its process belongs, whatever process is put there.
use Rattle.std.proofs.Common.{◌≡◌, ◌≢◌, ◌⊎◌, inl, inr, ℕ, zero, suc, ◌+◌, ◌-◌, ◌<◌, ◌≤◌, List, [], ◌∷◌, ◌++◌, Bool, true, false, Option, Some, None, length, get_or, refl, sym, ap, subst, ◌∙◌, arith, get_or-set_other, get_or-set_same}
use Rattle.std.proofs.Math.ListN.{set, length-set}
use Rattle.std.proofs.lemmas.Bool.{and_parts, cases_eq, cases_lt, eq-eqb, ne_eqb, eqb-true}
use Rattle.std.specs.Prelude.{◌==◌, ◌||◌, ◌&&◌, replicate}
use Rattle.slot_lists.specs.Links.{has, slots_of, without}
use Rattle.slot_lists.proofs.Pushed.{has_pushed}
use Rattle.slot_lists.proofs.Removed.{has_not, has_still}
use Rattle.fd_table.proofs.Lists.{within_list}
use Rattle.proc_table.specs.declared.heads.Head.{Head}
use Rattle.proc_table.specs.declared.states.Channel.{Channel}
use Rattle.proc_table.specs.declared.states.Channel.TheVariants.{PipeBytes, PipeRoom, Children}
use Rattle.proc_table.specs.declared.states.Status.{Status}
use Rattle.proc_table.specs.declared.states.Status.TheVariants.{Runnable, Running, Asleep, Zombie}
use Rattle.proc_table.specs.Slots.{is_asleep_on_status, is_runnable_status, same_channel}
use Rattle.proc_table.specs.Heads.{head_at, head_has}
use Rattle.proc_table.specs.Channels.{IsClaimed, channel_of}
use Rattle.proc_table.proofs.Naming.{none_at}
use Rattle.proc_table.specs.Queues.{AreQueued, AreStanding, HasList, IsUsed, Queues, sleepers_of, sleeps_on}

-- no process, and empty lists that are nobody's
pub none_queued : (queues : Queues) → ((list : ℕ) → list < 72 → slots_of queues.lists list ≡ []) → queues.channels ≡ replicate 64 None → AreQueued (replicate 64 None) queues
none_queued queues empty free = record {
  standing = record {
    all = refl;
    all_named = ap length free;
    runnable = λ hart slot lt small.
        ap (λ (xs : List ℕ). has xs slot) (empty hart (omega arith)) ∙ sym (ap (λ (head : Option Head). head_has is_runnable_status head && (hart == get_or queues.last slot 0)) (none_at 64 slot));
    asleep = λ list slot lt small.
        ap (λ (xs : List ℕ). has xs slot) (empty (8 + list) (omega arith)) ∙ sym (ap (λ (channel : Option Channel). sleeps_on channel (head_at (replicate 64 None) slot)) (nobody list));
    once = λ list other channel is same. absurd (let no : None ≡ Some channel = sym (nobody list) ∙ is in let not : ⊥ = cc in not);
    listed = λ slot channel is. absurd (let no : false ≡ true = sym (ap (head_has (is_asleep_on_status channel)) (none_at 64 slot)) ∙ is in let not : ⊥ = cc in not);
  };
  used = λ list channel is. absurd (let no : None ≡ Some channel = sym (nobody list) ∙ is in let not : ⊥ = cc in not);
} where
  nobody : (list : ℕ) → channel_of queues.channels list ≡ None
  nobody list = ap (λ (channels : List (Option Channel)). channel_of channels list) free ∙ none_at 64 list

pub past : (heads : List (Option Head)) (slot : ℕ) (test : Status → Bool) → length heads < suc slot → head_has test (head_at heads slot) ≡ false
past [] slot test far = refl
past (x ∷ heads) zero test far = absurd (omega arith)
past (x ∷ heads) (suc slot) test far = past heads slot test (omega arith)

-- ---- channels

same_is : (channel other : Channel) → same_channel channel other ≡ true → channel ≡ other
same_is (PipeBytes p) (PipeBytes q) same = ap (λ (n : ℕ). PipeBytes n) (eqb-true p q same)
same_is (PipeRoom p) (PipeRoom q) same = ap (λ (n : ℕ). PipeRoom n) (eqb-true p q same)
same_is (Children p) (Children q) same = ap (λ (n : ℕ). Children n) (eqb-true p q same)
same_is (PipeBytes p) (PipeRoom q) same = absurd (let no : ⊥ = cc in no)
same_is (PipeBytes p) (Children q) same = absurd (let no : ⊥ = cc in no)
same_is (PipeRoom p) (PipeBytes q) same = absurd (let no : ⊥ = cc in no)
same_is (PipeRoom p) (Children q) same = absurd (let no : ⊥ = cc in no)
same_is (Children p) (PipeBytes q) same = absurd (let no : ⊥ = cc in no)
same_is (Children p) (PipeRoom q) same = absurd (let no : ⊥ = cc in no)

itself : (channel : Channel) → same_channel channel channel ≡ true
itself (PipeBytes p) = eq-eqb p p refl
itself (PipeRoom p) = eq-eqb p p refl
itself (Children p) = eq-eqb p p refl

-- a process sleeps on one channel
pub one_channel : (x y : Option Channel) (head : Option Head) → sleeps_on x head ≡ true → sleeps_on y head ≡ true → (channel : Channel) × (x ≡ Some channel) × (y ≡ Some channel)
one_channel None y head p q = absurd (let no : ⊥ = cc in no)
one_channel (Some c) None head p q = absurd (let no : ⊥ = cc in no)
one_channel (Some c) (Some e) None p q = absurd (let no : ⊥ = cc in no)
one_channel (Some c) (Some e) (Some head) p q = by head.status p q where
  by : (status : Status) → is_asleep_on_status c status ≡ true → is_asleep_on_status e status ≡ true → (channel : Channel) × (Some c ≡ Some channel) × (Some e ≡ Some channel)
  by Runnable p q = absurd (let no : ⊥ = cc in no)
  by (Running h) p q = absurd (let no : ⊥ = cc in no)
  by (Asleep d) p q = (d, ap (λ (f : Channel). Some f) (same_is c d p), ap (λ (f : Channel). Some f) (same_is e d q))
  by Zombie p q = absurd (let no : ⊥ = cc in no)

-- and doesn't wait for a hart
sleeps_or_waits : (x : Option Channel) (head : Option Head) → sleeps_on x head ≡ true → head_has is_runnable_status head ≡ true → ⊥
sleeps_or_waits None head p q = let no : ⊥ = cc in no
sleeps_or_waits (Some c) None p q = let no : ⊥ = cc in no
sleeps_or_waits (Some c) (Some head) p q = by head.status p q where
  by : (status : Status) → is_asleep_on_status c status ≡ true → is_runnable_status status ≡ true → ⊥
  by Runnable p q = let no : ⊥ = cc in no
  by (Running h) p q = let no : ⊥ = cc in no
  by (Asleep d) p q = let no : ⊥ = cc in no
  by Zombie p q = let no : ⊥ = cc in no

pub nobody_sleeps : (x : Option Channel) → sleeps_on x None ≡ false
nobody_sleeps None = refl
nobody_sleeps (Some c) = refl

-- ---- a slot gets another head

module _ (heads : List (Option Head)) (old : Queues) (stand : AreStanding heads old) (slot : ℕ) (small : slot < 64) (head : Option Head) where
  at_slot : head_at (set heads slot head) slot ≡ head
  at_slot = get_or-set_same heads slot head None (omega (arith, stand.all))

  at_other : (other : ℕ) → other ≢ slot → head_at (set heads slot head) other ≡ head_at heads other
  at_other other ne = get_or-set_other heads slot other head None ne

  -- it stands where it shall, and the others where they did
  moved : (lists : List (List ℕ)) (last : List ℕ) → ((other : ℕ) → other ≢ slot → get_or last other 0 ≡ get_or old.last other 0)
      → ((hart : ℕ) → hart < 8 → has (slots_of lists hart) slot ≡ (head_has is_runnable_status head && (hart == get_or last slot 0)))
      → ((list : ℕ) → list < 64 → has (sleepers_of lists list) slot ≡ sleeps_on (channel_of old.channels list) head)
      → ((list other : ℕ) → list < 72 → other ≢ slot → has (slots_of lists list) other ≡ has (slots_of old.lists list) other)
      → ((channel : Channel) → head_has (is_asleep_on_status channel) head ≡ true → HasList old.channels channel)
      → AreStanding (set heads slot head) (record { lists = lists; channels = old.channels; last = last })
  moved lists last kept runs sleeps there listed = record {
    all = length-set heads slot head ∙ stand.all;
    all_named = stand.all_named;
    runnable = λ hart other lt less. runnable hart other lt less (cases_eq other slot);
    asleep = λ list other lt less. asleep list other lt less (cases_eq other slot);
    once = stand.once;
    listed = λ other channel is. found other channel is (cases_eq other slot);
  } where
    runnable : (hart other : ℕ) → hart < 8 → other < 64 → (other ≡ slot) ⊎ (other ≡ slot → ⊥) → has (slots_of lists hart) other ≡ (head_has is_runnable_status (head_at (set heads slot head) other) && (hart == get_or last other 0))
    runnable hart other lt less (inl same) =
        subst (λ (s : ℕ). has (slots_of lists hart) s ≡ (head_has is_runnable_status (head_at (set heads slot head) s) && (hart == get_or last s 0))) (sym same)
        (runs hart lt ∙ ap (λ (h : Option Head). head_has is_runnable_status h && (hart == get_or last slot 0)) (sym at_slot))
    runnable hart other lt less (inr ne) =
        there hart other (omega arith) ne ∙ stand.runnable hart other lt less
        ∙ ap (λ (h : Option Head). head_has is_runnable_status h && (hart == get_or old.last other 0)) (sym (at_other other ne))
        ∙ ap (λ (l : ℕ). head_has is_runnable_status (head_at (set heads slot head) other) && (hart == l)) (sym (kept other ne))

    asleep : (list other : ℕ) → list < 64 → other < 64 → (other ≡ slot) ⊎ (other ≡ slot → ⊥) → has (sleepers_of lists list) other ≡ sleeps_on (channel_of old.channels list) (head_at (set heads slot head) other)
    asleep list other lt less (inl same) =
        subst (λ (s : ℕ). has (sleepers_of lists list) s ≡ sleeps_on (channel_of old.channels list) (head_at (set heads slot head) s)) (sym same)
        (sleeps list lt ∙ ap (sleeps_on (channel_of old.channels list)) (sym at_slot))
    asleep list other lt less (inr ne) =
        there (8 + list) other (omega arith) ne ∙ stand.asleep list other lt less ∙ ap (sleeps_on (channel_of old.channels list)) (sym (at_other other ne))

    found : (other : ℕ) (channel : Channel) → head_has (is_asleep_on_status channel) (head_at (set heads slot head) other) ≡ true → (other ≡ slot) ⊎ (other ≡ slot → ⊥) → HasList old.channels channel
    found other channel is (inl same) =
        listed channel (ap (head_has (is_asleep_on_status channel)) (sym (ap (head_at (set heads slot head)) same ∙ at_slot)) ∙ is)
    found other channel is (inr ne) = stand.listed other channel (ap (head_has (is_asleep_on_status channel)) (sym (at_other other ne)) ∙ is)

-- it waits for what it waited for
pub stays : (heads : List (Option Head)) (old : Queues) → AreQueued heads old → (slot : ℕ) → slot < 64 → (was head : Option Head) → head_at heads slot ≡ was
    → ((test : Status → Bool) → head_has test was ≡ head_has test head) → AreQueued (set heads slot head) old
stays heads old queued slot small was head was_is alike =
    let stand = queued.standing in
    record {
      standing = moved heads old stand slot small head old.lists old.last (λ other ne. refl)
          (λ hart lt. stand.runnable hart slot (omega arith) small ∙ ap (λ (b : Bool). b && (hart == get_or old.last slot 0)) (ap (head_has is_runnable_status) was_is ∙ alike is_runnable_status))
          (λ list lt. stand.asleep list slot lt small ∙ ap (sleeps_on (channel_of old.channels list)) was_is ∙ sleeps (channel_of old.channels list))
          (λ list other lt ne. refl)
          (λ channel is. stand.listed slot channel (ap (head_has (is_asleep_on_status channel)) was_is ∙ alike (is_asleep_on_status channel) ∙ is));
      used = queued.used;
    }
  where
    sleeps : (x : Option Channel) → sleeps_on x was ≡ sleeps_on x head
    sleeps None = refl
    sleeps (Some channel) = alike (is_asleep_on_status channel)

-- another hart is remembered of a free slot
pub remembered : (heads : List (Option Head)) (old new : Queues) → AreQueued heads old → (slot : ℕ) → head_at heads slot ≡ None → new.lists ≡ old.lists → new.channels ≡ old.channels
    → ((other : ℕ) → other ≢ slot → get_or new.last other 0 ≡ get_or old.last other 0) → AreQueued heads new
remembered heads old new queued slot none lists channels kept =
    subst (λ (ls : List (List ℕ)). AreQueued heads (record { lists = ls; channels = new.channels; last = new.last })) (sym lists)
    (subst (λ (cs : List (Option Channel)). AreQueued heads (record { lists = old.lists; channels = cs; last = new.last })) (sym channels)
    (let stand = queued.standing in
    record {
      standing = record {
        all = stand.all;
        all_named = stand.all_named;
        runnable = λ hart other lt less. stand.runnable hart other lt less ∙ by hart other (cases_eq other slot);
        asleep = stand.asleep;
        once = stand.once;
        listed = stand.listed;
      };
      used = queued.used;
    }))
  where
    by : (hart other : ℕ) → (other ≡ slot) ⊎ (other ≡ slot → ⊥) → (head_has is_runnable_status (head_at heads other) && (hart == get_or old.last other 0)) ≡ (head_has is_runnable_status (head_at heads other) && (hart == get_or new.last other 0))
    by hart other (inl same) =
        let idle : head_has is_runnable_status (head_at heads other) ≡ false = ap (head_has is_runnable_status) (ap (head_at heads) same ∙ none) in
        ap (λ (b : Bool). b && (hart == get_or old.last other 0)) idle ∙ sym (ap (λ (b : Bool). b && (hart == get_or new.last other 0)) idle)
    by hart other (inr ne) = ap (λ (l : ℕ). head_has is_runnable_status (head_at heads other) && (hart == l)) (sym (kept other ne))

-- ---- it is taken out of its list

module _ (heads : List (Option Head)) (old : Queues) (queued : AreQueued heads old) (slot : ℕ) (small : slot < 64) where
  stand : AreStanding heads old
  stand = queued.standing

  -- it stands in one list alone
  alone : (at list : ℕ) → at < 72 → list < 64 → has (slots_of old.lists at) slot ≡ true → has (sleepers_of old.lists list) slot ≡ true → at ≡ 8 + list
  alone at list lt less here too = by (cases_lt at 8) where
    sleeps : sleeps_on (channel_of old.channels list) (head_at heads slot) ≡ true
    sleeps = sym (stand.asleep list slot less small) ∙ too

    by : (at < 8) ⊎ (8 ≤ at) → at ≡ 8 + list
    by (inl low) =
        absurd (sleeps_or_waits (channel_of old.channels list) (head_at heads slot) sleeps
        (and_parts (head_has is_runnable_status (head_at heads slot)) (at == get_or old.last slot 0) (sym (stand.runnable at slot low small) ∙ here)).0)
    by (inr high) =
        let is : at ≡ 8 + (at - 8) = omega arith in
        let both = one_channel (channel_of old.channels (at - 8)) (channel_of old.channels list) (head_at heads slot)
        (sym (stand.asleep (at - 8) slot (omega arith) small) ∙ ap (λ (n : ℕ). has (slots_of old.lists n) slot) (sym is) ∙ here) sleeps in
        let one : at - 8 ≡ list = stand.once (at - 8) list both.0 both.1 both.2 in
        omega (arith, is, one)

  module _ (lists : List (List ℕ)) (out : (list : ℕ) → list < 72 → slots_of lists list ≡ without slot (slots_of old.lists list)) where
    still : (list other : ℕ) → list < 72 → other ≢ slot → has (slots_of lists list) other ≡ has (slots_of old.lists list) other
    still list other lt ne = ap (λ (xs : List ℕ). has xs other) (out list lt) ∙ has_still (slots_of old.lists list) slot other ne

    gone : (list : ℕ) → list < 72 → has (slots_of lists list) slot ≡ false
    gone list lt = ap (λ (xs : List ℕ). has xs slot) (out list lt) ∙ has_not (slots_of old.lists list) slot

    without_it : AreStanding (set heads slot None) (record { lists = lists; channels = old.channels; last = old.last })
    without_it = moved heads old stand slot small None lists old.last (λ other ne. refl)
        (λ hart lt. gone hart (omega arith))
        (λ list lt. gone (8 + list) (omega arith) ∙ sym (nobody_sleeps (channel_of old.channels list)))
        still (λ channel is. absurd (let no : ⊥ = cc in no))

    within_64 : (list : ℕ) (channel : Channel) → channel_of old.channels list ≡ Some channel → list < 64
    within_64 list channel is = omega (arith, within_list old.channels list channel is, stand.all_named)

    module _ (at : ℕ) (at_lt : at < 72) (stood : has (slots_of old.lists at) slot ≡ true) where
      -- the other lists are used as before
      left : (list : ℕ) (channel : Channel) → channel_of old.channels list ≡ Some channel → at ≢ 8 + list → IsUsed lists list
      left list channel is ne =
          let lt : list < 64 = within_64 list channel is in
          let u = queued.used list channel is in
          (u.0, u.1, still (8 + list) u.0 (omega arith) (λ same. ne (alone at list at_lt lt stood (ap (has (sleepers_of old.lists list)) (sym same) ∙ u.2))) ∙ u.2)

      -- its list is that of a hart, or others stand in it
      pub taken : (8 ≤ at → (s : ℕ) × (s < 64) × (has (slots_of lists at) s ≡ true)) → AreQueued (set heads slot None) (record { lists = lists; channels = old.channels; last = old.last })
      taken more = record {
        standing = without_it;
        used = λ list channel is. by list channel is (cases_eq at (8 + list));
      } where
        by : (list : ℕ) (channel : Channel) → channel_of old.channels list ≡ Some channel → (at ≡ 8 + list) ⊎ (at ≡ 8 + list → ⊥) → IsUsed lists list
        by list channel is (inl same) =
            let u = more (omega arith) in
            (u.0, u.1, ap (λ (n : ℕ). has (slots_of lists n) u.0) (sym same) ∙ u.2)
        by list channel is (inr ne) = left list channel is ne

      -- it was the last one on its channel
      pub emptied : 8 ≤ at → ((s : ℕ) → has (slots_of lists at) s ≡ false) → AreQueued (set heads slot None) (record { lists = lists; channels = set old.channels (at - 8) None; last = old.last })
      emptied high empty = record {
        standing = record {
          all = without_it.all;
          all_named = length-set old.channels (at - 8) None ∙ stand.all_named;
          runnable = without_it.runnable;
          asleep = λ k other lt less. without_it.asleep k other lt less ∙ asleep k other lt less (cases_eq k (at - 8));
          once = λ k other channel is too. stand.once k other channel (had k channel is).0 (had other channel too).0;
          listed = λ other channel is. kept other channel is (cases_lt other 64);
        };
        used = λ k channel is. left k channel (had k channel is).0 (λ same. (had k channel is).1 (omega arith));
      } where
        lt64 : at - 8 < 64
        lt64 = omega arith

        freed : channel_of (set old.channels (at - 8) None) (at - 8) ≡ None
        freed = get_or-set_same old.channels (at - 8) None None (omega (arith, stand.all_named, lt64))

        other_kept : (k : ℕ) → k ≢ at - 8 → channel_of (set old.channels (at - 8) None) k ≡ channel_of old.channels k
        other_kept k ne = get_or-set_other old.channels (at - 8) k None None ne

        asleep : (k other : ℕ) → k < 64 → other < 64 → (k ≡ at - 8) ⊎ (k ≡ at - 8 → ⊥) → sleeps_on (channel_of old.channels k) (head_at (set heads slot None) other) ≡ sleeps_on (channel_of (set old.channels (at - 8) None) k) (head_at (set heads slot None) other)
        asleep k other lt less (inl same) =
            sym (without_it.asleep k other lt less) ∙ ap (λ (n : ℕ). has (slots_of lists n) other) (let is : 8 + k ≡ at = omega (arith, same, high) in is) ∙ empty other
            ∙ sym (ap (λ (x : Option Channel). sleeps_on x (head_at (set heads slot None) other)) (ap (channel_of (set old.channels (at - 8) None)) same ∙ freed))
        asleep k other lt less (inr ne) = ap (λ (x : Option Channel). sleeps_on x (head_at (set heads slot None) other)) (sym (other_kept k ne))

        had : (k : ℕ) (channel : Channel) → channel_of (set old.channels (at - 8) None) k ≡ Some channel → (channel_of old.channels k ≡ Some channel) × (k ≢ at - 8)
        had k channel is = by (cases_eq k (at - 8)) where
          by : (k ≡ at - 8) ⊎ (k ≡ at - 8 → ⊥) → (channel_of old.channels k ≡ Some channel) × (k ≢ at - 8)
          by (inl same) = absurd (let no : None ≡ Some channel = sym (ap (channel_of (set old.channels (at - 8) None)) same ∙ freed) ∙ is in let not : ⊥ = cc in not)
          by (inr ne) = (sym (other_kept k ne) ∙ is, ne)

        kept : (other : ℕ) (channel : Channel) → head_has (is_asleep_on_status channel) (head_at (set heads slot None) other) ≡ true → (other < 64) ⊎ (64 ≤ other) → HasList (set old.channels (at - 8) None) channel
        kept other channel is (inr far) = absurd (let no : false ≡ true = sym (past (set heads slot None) other (is_asleep_on_status channel) (omega (arith, without_it.all))) ∙ is in let not : ⊥ = cc in not)
        kept other channel is (inl less) =
            let old_list = without_it.listed other channel is in
            by old_list.0 old_list.1 (cases_eq old_list.0 (at - 8)) where
              by : (k : ℕ) → channel_of old.channels k ≡ Some channel → (k ≡ at - 8) ⊎ (k ≡ at - 8 → ⊥) → HasList (set old.channels (at - 8) None) channel
              by k named (inl same) =
                  absurd (let no : false ≡ true = sym (empty other) ∙ ap (λ (n : ℕ). has (slots_of lists n) other) (let is : at ≡ 8 + k = omega (arith, same, high) in is)
                  ∙ without_it.asleep k other (within_64 k channel named) less ∙ ap (λ (x : Option Channel). sleeps_on x (head_at (set heads slot None) other)) named ∙ is in let not : ⊥ = cc in not)
              by k named (inr ne) = (k, other_kept k ne ∙ named)

-- ---- it is put into a list

-- the list has the slot now as well, and the others have whom they had
module _ (between lists : List (List ℕ)) (to slot : ℕ) (gone : (list : ℕ) → list < 72 → has (slots_of between list) slot ≡ false) (end : slots_of lists to ≡ slots_of between to ++ slot ∷ [])
    (others : (list : ℕ) → list ≢ to → list < 72 → slots_of lists list ≡ slots_of between list) where
  here : (list : ℕ) → list < 72 → has (slots_of lists list) slot ≡ (list == to)
  here list lt = by (cases_eq list to) where
    or_true : (b : Bool) → (b || true) ≡ true
    or_true true = refl
    or_true false = refl

    by : (list ≡ to) ⊎ (list ≡ to → ⊥) → has (slots_of lists list) slot ≡ (list == to)
    by (inl same) =
        ap (λ (l : ℕ). has (slots_of lists l) slot) same ∙ ap (λ (xs : List ℕ). has xs slot) end ∙ has_pushed (slots_of between to) slot slot
        ∙ ap (λ (b : Bool). has (slots_of between to) slot || b) (eq-eqb slot slot refl) ∙ or_true (has (slots_of between to) slot) ∙ sym (eq-eqb list to same)
    by (inr apart) = ap (λ (xs : List ℕ). has xs slot) (others list apart lt) ∙ gone list lt ∙ sym (ne_eqb list to apart)

  there : (list other : ℕ) → list < 72 → other ≢ slot → has (slots_of lists list) other ≡ has (slots_of between list) other
  there list other lt ne = by (cases_eq list to) where
    or_false : (b : Bool) → (b || false) ≡ b
    or_false true = refl
    or_false false = refl

    by : (list ≡ to) ⊎ (list ≡ to → ⊥) → has (slots_of lists list) other ≡ has (slots_of between list) other
    by (inl same) =
        ap (λ (l : ℕ). has (slots_of lists l) other) same ∙ ap (λ (xs : List ℕ). has xs other) end ∙ has_pushed (slots_of between to) slot other
        ∙ ap (λ (b : Bool). has (slots_of between to) other || b) (ne_eqb other slot ne) ∙ or_false (has (slots_of between to) other)
        ∙ ap (λ (l : ℕ). has (slots_of between l) other) (sym same)
    by (inr apart) = ap (λ (xs : List ℕ). has xs other) (others list apart lt)

  still_used : (list : ℕ) → list < 64 → IsUsed between list → IsUsed lists list
  still_used list lt u = (u.0, u.1, there (8 + list) u.0 (omega arith) (λ same. apart (sym (ap (has (sleepers_of between list)) same) ∙ u.2)) ∙ u.2) where
    apart : has (sleepers_of between list) slot ≡ true → ⊥
    apart is = let no : false ≡ true = sym (gone (8 + list) (omega arith)) ∙ is in let not : ⊥ = cc in not

-- the end of a queue
pub queued_up : (heads : List (Option Head)) (old : Queues) → AreQueued heads old → (slot : ℕ) → slot < 64 → (head : Head) → head.status ≡ Runnable → (lists : List (List ℕ)) → get_or old.last slot 0 < 8
    → ((list : ℕ) → list < 72 → has (slots_of old.lists list) slot ≡ false)
    → slots_of lists (get_or old.last slot 0) ≡ slots_of old.lists (get_or old.last slot 0) ++ slot ∷ [] → ((list : ℕ) → list ≢ get_or old.last slot 0 → list < 72 → slots_of lists list ≡ slots_of old.lists list)
    → AreQueued (set heads slot (Some head)) (record { lists = lists; channels = old.channels; last = old.last })
queued_up heads old queued slot small head waits lists on_hart gone end others =
    let stand = queued.standing in
    let to : ℕ = get_or old.last slot 0 in
    record {
      standing = moved heads old stand slot small (Some head) lists old.last (λ other ne. refl)
          (λ hart lt. here old.lists lists (get_or old.last slot 0) slot gone end others hart (omega arith) ∙ sym (ap (λ (status : Status). is_runnable_status status && (hart == get_or old.last slot 0)) waits))
          (λ list lt. here old.lists lists (get_or old.last slot 0) slot gone end others (8 + list) (omega arith) ∙ ne_eqb (8 + list) (get_or old.last slot 0) (λ same. omega (arith, same, on_hart)) ∙ sym (awake (channel_of old.channels list)))
          (there old.lists lists (get_or old.last slot 0) slot gone end others)
          (λ channel is. absurd (let no : false ≡ true = sym (ap (is_asleep_on_status channel) waits) ∙ is in let not : ⊥ = cc in not));
      used = λ list channel is. still_used old.lists lists (get_or old.last slot 0) slot gone end others list (omega (arith, within_list old.channels list channel is, stand.all_named)) (queued.used list channel is);
    }
  where
    awake : (x : Option Channel) → sleeps_on x (Some head) ≡ false
    awake None = refl
    awake (Some channel) = ap (is_asleep_on_status channel) waits

-- nothing is put anywhere
pub stays_out : (heads : List (Option Head)) (old : Queues) → AreQueued heads old → (slot : ℕ) → slot < 64 → (head : Option Head) → ((list : ℕ) → list < 72 → has (slots_of old.lists list) slot ≡ false)
    → head_has is_runnable_status head ≡ false → ((channel : Channel) → head_has (is_asleep_on_status channel) head ≡ false) → AreQueued (set heads slot head) old
stays_out heads old queued slot small head gone idle awake = record {
  standing = moved heads old queued.standing slot small head old.lists old.last (λ other ne. refl)
      (λ hart lt. gone hart (omega arith) ∙ sym (ap (λ (b : Bool). b && (hart == get_or old.last slot 0)) idle))
      (λ list lt. gone (8 + list) (omega arith) ∙ sym (no_channel (channel_of old.channels list)))
      (λ list other lt ne. refl)
      (λ channel is. absurd (let no : false ≡ true = sym (awake channel) ∙ is in let not : ⊥ = cc in not));
  used = queued.used;
} where
  no_channel : (x : Option Channel) → sleeps_on x head ≡ false
  no_channel None = refl
  no_channel (Some channel) = awake channel

-- ---- a channel gets a list

module _ (heads : List (Option Head)) (old : Queues) (queued : AreQueued heads old) (channel : Channel) (list : ℕ) (channels : List (Option Channel)) (claimed : IsClaimed channel list old.channels channels) where
  named : channel_of channels list ≡ Some channel
  named = by claimed.1 where
    by : ((channel_of old.channels list ≡ Some channel) × (channels ≡ old.channels)) ⊎ ((channel_of old.channels list ≡ None) × ((other : ℕ) → channel_of old.channels other ≢ Some channel) × (channels ≡ set old.channels list (Some channel))) → channel_of channels list ≡ Some channel
    by (inl had) = ap (λ (cs : List (Option Channel)). channel_of cs list) had.1 ∙ had.0
    by (inr got) = ap (λ (cs : List (Option Channel)). channel_of cs list) got.2 ∙ get_or-set_same old.channels list (Some channel) None (omega (arith, claimed.0, queued.standing.all_named))

  still_stands : AreStanding heads (record { lists = old.lists; channels = channels; last = old.last }) × ((other : ℕ) (c : Channel) → channel_of channels other ≡ Some c → other ≢ list → channel_of old.channels other ≡ Some c)
  still_stands = by claimed.1 where
    by : ((channel_of old.channels list ≡ Some channel) × (channels ≡ old.channels)) ⊎ ((channel_of old.channels list ≡ None) × ((other : ℕ) → channel_of old.channels other ≢ Some channel) × (channels ≡ set old.channels list (Some channel)))
        → AreStanding heads (record { lists = old.lists; channels = channels; last = old.last }) × ((other : ℕ) (c : Channel) → channel_of channels other ≡ Some c → other ≢ list → channel_of old.channels other ≡ Some c)
    by (inl had) = (
      subst (λ (cs : List (Option Channel)). AreStanding heads (record { lists = old.lists; channels = cs; last = old.last })) (sym had.1) queued.standing,
      λ other c is ne. ap (λ (cs : List (Option Channel)). channel_of cs other) (sym had.1) ∙ is,
    )
    by (inr got) = (
      record {
        all = queued.standing.all;
        all_named = ap length got.2 ∙ length-set old.channels list (Some channel) ∙ queued.standing.all_named;
        runnable = queued.standing.runnable;
        asleep = λ k slot lt small. queued.standing.asleep k slot lt small ∙ recast k slot lt small (cases_eq k list);
        once = λ k other c is too. once k other c is too (cases_eq k list) (cases_eq other list);
        listed = λ slot c is. let h = queued.standing.listed slot c is in (h.0, kept h.0 (λ same. mine h.0 c h.1 same) ∙ h.1);
      },
      λ other c is ne. sym (kept other ne) ∙ is,
    ) where
      kept : (k : ℕ) → k ≢ list → channel_of channels k ≡ channel_of old.channels k
      kept k ne = ap (λ (cs : List (Option Channel)). channel_of cs k) got.2 ∙ get_or-set_other old.channels list k (Some channel) None ne

      mine : (k : ℕ) (c : Channel) → channel_of old.channels k ≡ Some c → k ≡ list → ⊥
      mine k c is same = let no : None ≡ Some c = sym (ap (channel_of old.channels) same ∙ got.0) ∙ is in let not : ⊥ = cc in not

      nobody : (slot : ℕ) → head_has (is_asleep_on_status channel) (head_at heads slot) ≡ false
      nobody slot = off (head_has (is_asleep_on_status channel) (head_at heads slot)) refl where
        off : (b : Bool) → head_has (is_asleep_on_status channel) (head_at heads slot) ≡ b → head_has (is_asleep_on_status channel) (head_at heads slot) ≡ false
        off true is = let h = queued.standing.listed slot channel is in absurd (got.1 h.0 h.1)
        off false is = is

      recast : (k slot : ℕ) → k < 64 → slot < 64 → (k ≡ list) ⊎ (k ≡ list → ⊥) → sleeps_on (channel_of old.channels k) (head_at heads slot) ≡ sleeps_on (channel_of channels k) (head_at heads slot)
      recast k slot lt small (inl same) =
          ap (λ (x : Option Channel). sleeps_on x (head_at heads slot)) (ap (channel_of old.channels) same ∙ got.0) ∙ sym (nobody slot)
          ∙ ap (λ (x : Option Channel). sleeps_on x (head_at heads slot)) (sym (ap (channel_of channels) same ∙ named))
      recast k slot lt small (inr ne) = ap (λ (x : Option Channel). sleeps_on x (head_at heads slot)) (sym (kept k ne))

      is_new : (k : ℕ) (c : Channel) → channel_of channels k ≡ Some c → k ≡ list → (other : ℕ) → channel_of old.channels other ≡ Some c → ⊥
      is_new k c is same other too =
          let it : Some channel ≡ Some c = sym named ∙ sym (ap (channel_of channels) same) ∙ is in
          got.1 other (too ∙ sym it)

      once : (k other : ℕ) (c : Channel) → channel_of channels k ≡ Some c → channel_of channels other ≡ Some c → (k ≡ list) ⊎ (k ≡ list → ⊥) → (other ≡ list) ⊎ (other ≡ list → ⊥) → k ≡ other
      once k other c is too (inl a) (inl b) = a ∙ sym b
      once k other c is too (inl a) (inr b) = absurd (is_new k c is a other (sym (kept other b) ∙ too))
      once k other c is too (inr a) (inl b) = absurd (is_new other c too b k (sym (kept k a) ∙ is))
      once k other c is too (inr a) (inr b) = queued.standing.once k other c (sym (kept k a) ∙ is) (sym (kept other b) ∙ too)

  -- and a sleeper in it
  pub lies_down : (slot : ℕ) → slot < 64 → (head : Head) → head.status ≡ Asleep channel → (lists : List (List ℕ))
      → ((list : ℕ) → list < 72 → has (slots_of old.lists list) slot ≡ false)
      → slots_of lists (8 + list) ≡ slots_of old.lists (8 + list) ++ slot ∷ [] → ((other : ℕ) → other ≢ 8 + list → other < 72 → slots_of lists other ≡ slots_of old.lists other)
      → AreQueued (set heads slot (Some head)) (record { lists = lists; channels = channels; last = old.last })
  lies_down slot small head sleeps lists gone end others = record {
    standing = moved heads (record { lists = old.lists; channels = channels; last = old.last }) now slot small (Some head) lists old.last (λ other ne. refl)
        (λ hart lt. here old.lists lists (8 + list) slot gone end others hart (omega arith) ∙ ne_eqb hart (8 + list) (λ same. omega (arith, same, lt)) ∙ sym (ap (λ (status : Status). is_runnable_status status && (hart == get_or old.last slot 0)) sleeps))
        (λ k lt. here old.lists lists (8 + list) slot gone end others (8 + k) (omega arith) ∙ in_it k (cases_eq k list))
        (there old.lists lists (8 + list) slot gone end others)
        (λ c is. (list, named ∙ ap (λ (d : Channel). Some d) (sym (same_is c channel (ap (is_asleep_on_status c) (sym sleeps) ∙ is)))));
    used = λ k c is. used k c is (cases_eq k list);
  } where
    now : AreStanding heads (record { lists = old.lists; channels = channels; last = old.last })
    now = still_stands.0

    on : (x : Option Channel) → sleeps_on x (Some head) ≡ true → x ≡ Some channel
    on None is = absurd (let no : ⊥ = cc in no)
    on (Some c) is = ap (λ (d : Channel). Some d) (same_is c channel (ap (is_asleep_on_status c) (sym sleeps) ∙ is))

    in_it : (k : ℕ) → (k ≡ list) ⊎ (k ≡ list → ⊥) → (8 + k == 8 + list) ≡ sleeps_on (channel_of channels k) (Some head)
    in_it k (inl same) =
        eq-eqb (8 + k) (8 + list) (ap (λ (n : ℕ). 8 + n) same) ∙ sym (itself channel) ∙ ap (is_asleep_on_status channel) (sym sleeps)
        ∙ ap (λ (x : Option Channel). sleeps_on x (Some head)) (sym (ap (channel_of channels) same ∙ named))
    in_it k (inr ne) = ne_eqb (8 + k) (8 + list) (λ same. ne (omega (arith, same))) ∙ sym (off (sleeps_on (channel_of channels k) (Some head)) refl) where
      off : (b : Bool) → sleeps_on (channel_of channels k) (Some head) ≡ b → sleeps_on (channel_of channels k) (Some head) ≡ false
      off true is = absurd (ne (now.once k list channel (on (channel_of channels k) is) named))
      off false is = is

    used : (k : ℕ) (c : Channel) → channel_of channels k ≡ Some c → (k ≡ list) ⊎ (k ≡ list → ⊥) → IsUsed lists k
    used k c is (inl same) = (slot, small, here old.lists lists (8 + list) slot gone end others (8 + k) (omega (arith, same, claimed.0)) ∙ eq-eqb (8 + k) (8 + list) (ap (λ (n : ℕ). 8 + n) same))
    used k c is (inr ne) =
        still_used old.lists lists (8 + list) slot gone end others k (omega (arith, within_list channels k c is, now.all_named)) (queued.used k c (still_stands.1 k c is ne))
