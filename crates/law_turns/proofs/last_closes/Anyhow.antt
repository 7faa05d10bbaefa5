-- A kernel does what one does that it is alike to but for who sleeps and for numbers of entries.
use Rattle.std.proofs.Common.{◌≡◌, ◌⊎◌, ℕ, zero, suc, ◌+◌, ◌≤◌, [], ◌∷◌, false, Option, Some, None, inl, inr, length, refl, sym, ap, subst, ◌∙◌, arith}
use Rattle.std.proofs.lemmas.List.{length-map}
use Rattle.std.proofs.lemmas.List.Sums.{sum_by-cons}
use Rattle.std.specs.Prelude.{map, cond}
use Rattle.user_calls.specs.declared.calls.Call.{Call}
use Rattle.user_calls.specs.declared.calls.Reply.{Reply}
use Rattle.fd_table.specs.Entries.{OpenFile, Entries, entry_at, is_free, free_count}
use Rattle.fd_table.proofs.Lists.{same_items}
use Rattle.proc_table.specs.declared.states.Status.{Status}
use Rattle.proc_table.specs.declared.states.Status.TheVariants.{Runnable, Running, Asleep, Zombie}
use Rattle.proc_table.specs.Slots.{Slot, Table}
use Rattle.kernel_model.specs.KernelState.{KernelState}
use Rattle.kernel_model.specs.Idle.{idle_slot, idle_status, idle_kernel, renamed_entry}
use Rattle.kernel_model.specs.Alike.{Alike, IsStill}
use Rattle.kernel_model.specs.Woke.{woke, woke_status, woke_slot, woke_table, AlikeAwake}
use Rattle.kernel_model.specs.Numbers.{Numbering, SameButNumbers, renumbered, renumbered_slot, renumbered_table}
use Rattle.kernel_model.specs.Outcome.{SameOutcome}
use Rattle.kernel_model.specs.Turns.{Turn, after_turn}
use Rattle.kernel_model.specs.Reduced.{IsFollowing, ComesTo}
use Rattle.kernel_model.specs.Anyhow.{AlikeAnyhow, SameKeyAnyhow, DoesAnyhow, itself, likened, bare_status, bare_slot, bare_table}
use Rattle.law_turns.proofs.orders.Entries.{entry_renamed}
use Rattle.law_turns.proofs.orders.Keys.{one_place}
use Rattle.law_turns.proofs.orders.Tables.{map_swap, count_map}
use Rattle.law_turns.proofs.private_turns.Awake.{alike_awake, one_step, outcome_awake}
use Rattle.law_turns.proofs.private_turns.Begun.{IsSettled, begun_on, begun_still, begun_settled}
use Rattle.law_turns.proofs.entry_numbers.Numberings.{same_itself, same_back, table_twice, table_none}
use Rattle.law_turns.proofs.entry_numbers.Still.{idle_so, outcome_so, still_so}
use Rattle.law_turns.proofs.entry_numbers.Turns.{one_taken}

-- ---- numbers, and who sleeps, who runs, and names of pipes

woke_so : {S : Type 0} (to : ℕ → ℕ) (x : Slot S) → woke_slot (renumbered_slot to x) ≡ renumbered_slot to (woke_slot x)
woke_so to None = refl
woke_so to (Some p) = refl

shown_so : {S : Type 0} (to name : ℕ → ℕ) (t : Table S) → renumbered_table to (map (idle_slot name) (woke_table t)) ≡ map (idle_slot name) (woke_table (renumbered_table to t))
shown_so to name t =
    sym (map_swap (idle_slot name) (renumbered_slot to) (idle_slot name) (renumbered_slot to) (idle_so to name) (woke_table t)) ∙
    ap (map (idle_slot name)) (sym (map_swap woke_slot (renumbered_slot to) woke_slot (renumbered_slot to) (woke_so to) t))

free_renamed : (name : ℕ → ℕ) (x : Option OpenFile) → is_free (renamed_entry name x) ≡ is_free x
free_renamed name None = refl
free_renamed name (Some f) = refl

free_names : (name : ℕ → ℕ) (E : Entries) → free_count (map (renamed_entry name) E) ≡ free_count E
free_names name E = count_map is_free is_free (renamed_entry name) (free_renamed name) E

-- kernels that are the same but for numbers are so as if nobody slept or ran, and under other names
shown_same : {S : Type 0} (name : ℕ → ℕ) (k l : KernelState S) → SameButNumbers k l → SameButNumbers (idle_kernel name 0 (woke k)) (idle_kernel name 0 (woke l))
shown_same name k l a =
    let n = a.numbering in
    record {
      numbering = n;
      is = record {
        entries = record {
          same = λ e. entry_renamed name l.entries (n.to e) ∙ ap (renamed_entry name) (a.is.entries.same e) ∙ sym (entry_renamed name k.entries e);
          free = free_names name l.entries ∙ a.is.entries.free ∙ sym (free_names name k.entries);
        };
        rest =
            (λ i. record (idle_kernel name 0 (woke k)) { table = shown_so n.to name k.table i; entries = map (renamed_entry name) l.entries }) ∙
            ap (λ (j : KernelState _). idle_kernel name 0 (woke j)) a.is.rest;
      };
    }

-- alike but for who sleeps, and then the same but for numbers
pub joined : {S : Type 0} (k b l : KernelState S) → AlikeAwake k b → SameButNumbers b l → AlikeAnyhow k l
joined k b l a s =
    record {
      first = a.first;
      second = a.second;
      first_one_to_one = a.first_one_to_one;
      second_one_to_one = a.second_one_to_one;
      same = subst (λ (j : KernelState _). SameButNumbers j (idle_kernel a.second 0 (woke l))) (sym a.same) (shown_same a.second b l s);
    }

pub awake_anyhow : {S : Type 0} (k l : KernelState S) → AlikeAwake k l → AlikeAnyhow k l
awake_anyhow k l a = joined k l l a (same_itself l)

pub numbers_anyhow : {S : Type 0} (k b l : KernelState S) → Alike k b → SameButNumbers b l → AlikeAnyhow k l
numbers_anyhow k b l a s = joined k b l (alike_awake k b a) s

pub anyhow_back : {S : Type 0} (k l : KernelState S) → AlikeAnyhow k l → AlikeAnyhow l k
anyhow_back k l a =
    record {
      first = a.second;
      second = a.first;
      first_one_to_one = a.second_one_to_one;
      second_one_to_one = a.first_one_to_one;
      same = same_back (idle_kernel a.first 0 (woke k)) (idle_kernel a.second 0 (woke l)) a.same;
    }

pub key_anyhow : {S : Type 0} (k l : KernelState S) → SameKeyAnyhow k l → AlikeAnyhow k l
key_anyhow k l same = record { first = _; second = _; first_one_to_one = one_place k.pipes; second_one_to_one = one_place l.pipes; same = same }

-- ---- a kernel between two that are alike so

-- as many entries as t has, what h says of each
picked : (ℕ → Option OpenFile) → Entries → Entries
picked h [] = []
picked h (x ∷ t) = h zero ∷ picked (λ i. h (suc i)) t

module _ where
  length_picked : (h : ℕ → Option OpenFile) (t : Entries) → length (picked h t) ≡ length t
  unfolding picked
  length_picked h [] = refl
  length_picked h (x ∷ t) = ap suc (length_picked (λ i. h (suc i)) t)

  picked_at : (h : ℕ → Option OpenFile) (t : Entries) → ((e : ℕ) → length t ≤ e → h e ≡ None) → (e : ℕ) → entry_at (picked h t) e ≡ h e
  unfolding picked
  picked_at h [] past e = sym (past e (omega arith))
  picked_at h (x ∷ t) past zero = refl
  picked_at h (x ∷ t) past (suc e) = picked_at (λ i. h (suc i)) t (λ i less. past (suc i) (omega (arith, less))) e

  picked_free : (h : ℕ → Option OpenFile) (t : Entries) → ((e : ℕ) → is_free (h e) ≡ is_free (entry_at t e)) → free_count (picked h t) ≡ free_count t
  unfolding picked
  picked_free h [] each = refl
  picked_free h (x ∷ t) each =
      sum_by-cons (λ (y : Option OpenFile). cond {A = ℕ} (is_free y) 1 0) (h zero) (picked (λ i. h (suc i)) t) ∙
      (λ i. cond {A = ℕ} (each zero i) 1 0 + picked_free (λ i. h (suc i)) t (λ e. each (suc e)) i) ∙ sym (sum_by-cons (λ (y : Option OpenFile). cond {A = ℕ} (is_free y) 1 0) x t)

none_named : (name : ℕ → ℕ) (x : Option OpenFile) → renamed_entry name x ≡ None → x ≡ None
none_named name None is = refl
none_named name (Some f) is = absurd (let z : ⊥ = cc in z)

past_list : (t : Entries) (e : ℕ) → length t ≤ e → entry_at t e ≡ None
past_list [] e past = refl
past_list (x ∷ t) zero past = absurd (omega (arith, past))
past_list (x ∷ t) (suc e) past = past_list t e (omega (arith, past))

pub record Between {S : Type 0} (k l : KernelState S) : Type 0 where
  pub kernel : KernelState S
  pub awake : AlikeAwake k kernel
  pub same : SameButNumbers kernel l

module _ {S : Type 0} (k l : KernelState S) (a : AlikeAnyhow k l) where
  abbrev n : Numbering
  n = a.same.numbering

  -- what l has for the entry of this number of k
  abbrev its : ℕ → Option OpenFile
  its e = entry_at l.entries (n.to e)

  abbrev E : Entries
  E = picked its k.entries

  pub named_so : (e : ℕ) → renamed_entry a.second (its e) ≡ renamed_entry a.first (entry_at k.entries e)
  named_so e = sym (entry_renamed a.second l.entries (n.to e)) ∙ a.same.is.entries.same e ∙ entry_renamed a.first k.entries e

  its_past : (e : ℕ) → length k.entries ≤ e → its e ≡ None
  its_past e past = none_named a.second (its e) (named_so e ∙ ap (renamed_entry a.first) (past_list k.entries e past))

  its_free : (e : ℕ) → is_free (its e) ≡ is_free (entry_at k.entries e)
  its_free e = sym (free_renamed a.second (its e)) ∙ ap is_free (named_so e) ∙ free_renamed a.first (entry_at k.entries e)

  at_e : (e : ℕ) → entry_at E e ≡ its e
  at_e e = picked_at its k.entries its_past e

  abbrev b : KernelState S
  b = record l { table = renumbered_table n.back l.table; entries = E }

  entries_named : map (renamed_entry a.first) k.entries ≡ map (renamed_entry a.second) E
  entries_named =
      same_items (map (renamed_entry a.first) k.entries) (map (renamed_entry a.second) E) None
      (length-map k.entries (renamed_entry a.first) ∙ sym (length_picked its k.entries) ∙ sym (length-map E (renamed_entry a.second)))
      (λ e. entry_renamed a.first k.entries e ∙ sym (named_so e) ∙ ap (renamed_entry a.second) (sym (at_e e)) ∙ sym (entry_renamed a.second E e))

  pub between : Between k l
  between =
      record {
        kernel = b;
        awake = record {
          first = a.first;
          second = a.second;
          first_one_to_one = a.first_one_to_one;
          second_one_to_one = a.second_one_to_one;
          same =
              sym
              (ap (renumbered n.back (map (renamed_entry a.first) k.entries)) (sym a.same.is.rest) ∙
              (λ i. record (idle_kernel a.first 0 (woke k)) {
                table = (table_twice n.to n.back (λ e. e) n.there (map (idle_slot a.first) (woke_table k.table)) ∙ table_none (λ e. e) (λ e. refl) (map (idle_slot a.first) (woke_table k.table))) i;
              })) ∙
              (λ i. record (idle_kernel a.second 0 (woke l)) { table = shown_so n.back a.second l.table i; entries = entries_named i });
        };
        same = record {
          numbering = n;
          is = record {
            entries = record {
              same = λ e. sym (at_e e);
              free =
                  sym (free_names a.second l.entries) ∙ a.same.is.entries.free ∙ free_names a.first k.entries ∙ sym (picked_free its k.entries its_free);
            };
            rest = λ i. record l { table = (table_twice n.back n.to (λ e. e) n.here l.table ∙ table_none (λ e. e) (λ e. refl) l.table) i };
          };
        };
      }

-- ---- what such kernels have in common

pub outcome_on : {S : Type 0} (k l m : KernelState S) → SameOutcome k l → SameOutcome l m → SameOutcome k m
outcome_on k l m a b =
    record {
      outcome = a.outcome ∙ b.outcome;
      input = a.input ∙ b.input;
      finished = (λ is. b.finished.0 (a.finished.0 is), λ is. a.finished.1 (b.finished.1 is));
    }

pub outcome_anyhow : {S : Type 0} (k l : KernelState S) → AlikeAnyhow k l → SameOutcome k l
outcome_anyhow k l a = let w = between k l a in outcome_on k w.kernel l (outcome_awake k w.kernel w.awake) (outcome_so w.kernel l w.same)

bare_status_idle : (name : ℕ → ℕ) (s : Status) → bare_status (idle_status name (woke_status s)) ≡ bare_status s
bare_status_idle name Runnable = refl
bare_status_idle name (Running h) = refl
bare_status_idle name (Asleep c) = refl
bare_status_idle name Zombie = refl

bare_idle : {S : Type 0} (name : ℕ → ℕ) (x : Slot S) → bare_slot (idle_slot name (woke_slot x)) ≡ bare_slot x
bare_idle name None = refl
bare_idle name (Some p) = λ i. Some (record p { status = bare_status_idle name p.status i; fds = [] })

bare_so : {S : Type 0} (to : ℕ → ℕ) (x : Slot S) → bare_slot (renumbered_slot to x) ≡ bare_slot x
bare_so to None = refl
bare_so to (Some p) = refl

bare_shown : {S : Type 0} (name : ℕ → ℕ) (t : Table S) → bare_table (map (idle_slot name) (woke_table t)) ≡ bare_table t
bare_shown name [] = refl
bare_shown name (x ∷ t) = λ i. bare_idle name x i ∷ bare_shown name t i

bare_numbers : {S : Type 0} (to : ℕ → ℕ) (t : Table S) → bare_table (renumbered_table to t) ≡ bare_table t
bare_numbers to [] = refl
bare_numbers to (x ∷ t) = λ i. bare_so to x i ∷ bare_numbers to t i

pub bare_anyhow : {S : Type 0} (k l : KernelState S) → AlikeAnyhow k l → bare_table k.table ≡ bare_table l.table
bare_anyhow k l a =
    sym (bare_shown a.first k.table) ∙ sym (bare_numbers a.same.numbering.to (map (idle_slot a.first) (woke_table k.table))) ∙ ap (λ (j : KernelState _). bare_table j.table) a.same.is.rest ∙ bare_shown a.second l.table

-- ---- chains

module _ {S : Type 0} (call : S → Reply → Call) (next : S → Reply → S) where
  abbrev quiet : ℕ → Turn
  quiet p = record { pid = p; refused = false }

  pub anyhow_on : (k l m : KernelState S) → DoesAnyhow call next k l → DoesAnyhow call next l m → DoesAnyhow call next k m
  anyhow_on k l m (itself j) more = more
  anyhow_on k l m (likened i j n b d alike rest) more = likened i j m b d alike (anyhow_on j n m rest more)

  -- k can take the turn of p too, to what is alike to `now`, or it is so already
  abbrev pub OneStepAnyhow : KernelState S → KernelState S → ℕ → Type 0
  OneStepAnyhow k now p = AlikeAnyhow k now ⊎ ((after : KernelState S) × (after_turn call next k p ≡ Some after) × AlikeAnyhow after now)

  pub one_step_anyhow : (k l now : KernelState S) (p : ℕ) → IsSettled call k → IsStill l → AlikeAnyhow k l → after_turn call next l p ≡ Some now → OneStepAnyhow k now p
  one_step_anyhow k l now p b still a is =
      let w = between k l a in
      let back = same_back w.kernel l w.same in
      let t = one_taken call next l w.kernel now (quiet p) still back is in
      by t.last t.same (one_step call next k w.kernel t.last p b (still_so l w.kernel back still) w.awake t.turns) where
        by : (last : KernelState S) → SameButNumbers now last → AlikeAwake k last ⊎ ((after : KernelState S) × (after_turn call next k p ≡ Some after) × AlikeAwake after last) → OneStepAnyhow k now p
        by last same (inl like) = inl (joined k last now like (same_back now last same))
        by last same (inr s) = inr (s.0, s.1, joined s.0 last now s.2 (same_back now last same))

  abbrev Steps : KernelState S → KernelState S → Type 0
  Steps k now = ComesTo (after_turn call next) (DoesAnyhow call next) k now

  pub follows_anyhow : (k l now : KernelState S) (p : ℕ) → DoesAnyhow call next k l → after_turn call next l p ≡ Some now → Steps k now
  follows_anyhow k l now p (itself j) is = inr (p, now, is, itself now)
  follows_anyhow k l now p (likened i j n b d alike rest) is = by (follows_anyhow j n now p rest is) where
    then : (q : ℕ) (mid : KernelState S) → after_turn call next j q ≡ Some mid → DoesAnyhow call next mid now → OneStepAnyhow i mid q → Steps i now
    then q mid first more (inl same) = inl (likened i mid now b (begun_on call next j mid (q ∷ []) d first) same more)
    then q mid first more (inr s) = inr (q, s.0, s.1, likened s.0 mid now (begun_on call next i s.0 (q ∷ []) b s.1) (begun_on call next j mid (q ∷ []) d first) s.2 more)

    by : Steps j now → Steps i now
    by (inl more) = inl (likened i j now b d alike more)
    by (inr s) = then s.0 s.1 s.2 s.3 (one_step_anyhow i j s.1 s.0 (begun_settled call next i b) (begun_still call next j d) alike s.2)

  pub following_anyhow : IsFollowing (after_turn call next) (DoesAnyhow call next)
  following_anyhow = record { itself = itself; on = anyhow_on; follows = follows_anyhow }
