-- An entry that is opened gets a new name, which no other process sees; an entry goes on elsewhere.
use Rattle.std.proofs.Common.{◌≡◌, ◌≢◌, ◌⊎◌, ℕ, zero, suc, ◌+◌, ◌<◌, ◌≤◌, Bool, true, false, [], ◌∷◌, Some, None, length, refl, sym, ap, ◌∙◌, subst, inl, inr, arith, get_or-set_other, get_or-set_same}
use Rattle.std.specs.Prelude.{◌==◌, if◌then◌else◌, slice_set}
use Rattle.std.specs.Option.{is_some}
use Rattle.std.proofs.lemmas.Bool.{cases_eq, ne_eqb, eq-eqb}
use Rattle.mem_files.specs.Name.{Name}
use Rattle.mem_files.specs.Files.{FileMap}
use Rattle.fd_table.specs.declared.names.Object.{Object}
use Rattle.fd_table.specs.declared.names.Object.TheVariants.{Input, Out, Diag, File, PipeRead, PipeWrite}
use Rattle.fd_table.specs.declared.names.Mode.{Mode as EntryMode}
use Rattle.fd_table.specs.Entries.{Entries, OpenFile, entry_at, opened}
use Rattle.fd_table.specs.Descriptors.{Descriptors, entry_of}
use Rattle.fd_table.proofs.Lists.{within_list}
use Rattle.proc_table.specs.Slots.{Slot, at, is_zombie_status, parent_or_init}
use Rattle.kernel_model.specs.KernelState.{fds_of}
use Rattle.kernel_model.specs.Pipes.{Pipes}
use Rattle.kernel_model.specs.Modes.{entry_mode}
use Rattle.sh_machine.specs.State.{User}
use Rattle.process_model.specs.Seen.{Entry, file, Place, Names, act_of, fds_seen, live, seen_by, seen_slot}
use Rattle.process_model.specs.Shows.{IsNamed, GoesOnAt, Shows}
use Rattle.law_runs.proofs.views.Showing.{named_on, Stay}

-- ---- a new name

abbrev pub renamed : (ℕ → Entry) → ℕ → Entry → ℕ → Entry
renamed name e x d = if d == e then x else name d

abbrev pub with_name : Names → ℕ → Entry → Names
with_name g e x = record { name = renamed g.name e x; pipes = g.pipes; places = g.places }

pub renamed_other : (name : ℕ → Entry) (e d : ℕ) (x : Entry) → d ≢ e → renamed name e x d ≡ name d
renamed_other name e d x ne = ap (λ (b : Bool). if b then x else name d) (ne_eqb d e ne)

pub renamed_self : (name : ℕ → Entry) (e : ℕ) (x : Entry) → renamed name e x e ≡ x
renamed_self name e x = ap (λ (b : Bool). if b then x else name e) (eq-eqb e e refl)

pub fds_renamed : (name : ℕ → Entry) (e : ℕ) (x : Entry) (d : Descriptors) → ((fd n : ℕ) → entry_of d fd ≡ Some n → n ≢ e) → fds_seen (renamed name e x) d ≡ fds_seen name d
fds_renamed name e x [] h = refl
fds_renamed name e x (None ∷ d) h = ap (λ l. None ∷ l) (fds_renamed name e x d (λ fd. h (suc fd)))
fds_renamed name e x (Some n ∷ d) h = ap (λ y. Some y ∷ fds_seen (renamed name e x) d) (renamed_other name e n x (h zero n refl)) ∙ ap (λ l. Some (name n) ∷ l) (fds_renamed name e x d (λ fd. h (suc fd)))

-- a slot none of whose descriptors holds the entry doesn't see its new name
pub slot_renamed : (name : ℕ → Entry) (e : ℕ) (x : Entry) (s : Slot User) → ((fd n : ℕ) → entry_of (fds_of s) fd ≡ Some n → n ≢ e) → seen_slot (renamed name e x) s ≡ seen_slot name s
slot_renamed name e x None h = refl
slot_renamed name e x (Some p) h = by (is_zombie_status p.status) (fds_renamed name e x p.fds h)
  where
    by : (b : Bool) → fds_seen (renamed name e x) p.fds ≡ fds_seen name p.fds → seen_by b (renamed name e x) p ≡ seen_by b name p
    by true same = refl
    by false same = ap (λ d. live (parent_or_init p.parent) (act_of p.machine p.reply) p.put d) same

-- the object was opened at a free entry, which gets a name that no entry has
pub shows_opened : (g : Names) (E : Entries) (P : Pipes) (F : FileMap) (n e : ℕ) (o : Object) (x : Entry) → entry_at E e ≡ None → e < length E → IsNamed g F n x o 0 → ((d : ℕ) (f : OpenFile) → entry_at E d ≡ Some f → g.name d ≢ x) → Shows g E P F n → Shows (with_name g e x) (slice_set E e (Some (opened o))) P F n
shows_opened g E P F n e o x free within named new s = record {
  named = λ d f is. name_at d f is (cases_eq d e);
  apart = λ d c f h is it same. apart_at d c f h is it same (cases_eq d e) (cases_eq c e);
  holds = s.holds;
}
  where
    other : (d : ℕ) (f : OpenFile) → d ≢ e → entry_at (slice_set E e (Some (opened o))) d ≡ Some f → entry_at E d ≡ Some f
    other d f ne is = sym (get_or-set_other E e d (Some (opened o)) None ne) ∙ is

    on : (y : Entry) (p : Object) (at : ℕ) → IsNamed g F n y p at → IsNamed (with_name g e x) F n y p at
    on y p at i = named_on g (with_name g e x) F F n n y p at (λ k z. refl) (λ name z. z) (omega arith) i

    name_at : (d : ℕ) (f : OpenFile) → entry_at (slice_set E e (Some (opened o))) d ≡ Some f → (d ≡ e) ⊎ (d ≢ e) → IsNamed (with_name g e x) F n (renamed g.name e x d) f.object f.offset
    name_at d f is (inr ne) = subst (λ y. IsNamed (with_name g e x) F n y f.object f.offset) (sym (renamed_other g.name e d x ne)) (on (g.name d) f.object f.offset (s.named d f (other d f ne is)))
    name_at d f is (inl eq) =
        let there : Some (opened o) ≡ Some f = sym (get_or-set_same E e (Some (opened o)) None within) ∙ ap (entry_at (slice_set E e (Some (opened o)))) (sym eq) ∙ is in
        let it : opened o ≡ f = cc in
        subst (λ (f : OpenFile). IsNamed (with_name g e x) F n (renamed g.name e x d) f.object f.offset) it (subst (λ y. IsNamed (with_name g e x) F n y o 0) (sym (ap (renamed g.name e x) eq ∙ renamed_self g.name e x)) (on x o 0 named))

    apart_at : (d c : ℕ) (f h : OpenFile) → entry_at (slice_set E e (Some (opened o))) d ≡ Some f → entry_at (slice_set E e (Some (opened o))) c ≡ Some h → renamed g.name e x d ≡ renamed g.name e x c → (d ≡ e) ⊎ (d ≢ e) → (c ≡ e) ⊎ (c ≢ e) → d ≡ c
    apart_at d c f h is it same (inl a) (inl b) = a ∙ sym b
    apart_at d c f h is it same (inl a) (inr b) = absurd (new c h (other c h b it) (sym (renamed_other g.name e c x b) ∙ sym same ∙ ap (renamed g.name e x) a ∙ renamed_self g.name e x))
    apart_at d c f h is it same (inr a) (inl b) = absurd (new d f (other d f a is) (sym (renamed_other g.name e d x a) ∙ same ∙ ap (renamed g.name e x) b ∙ renamed_self g.name e x))
    apart_at d c f h is it same (inr a) (inr b) = s.apart d c f h (other d f a is) (other c h b it) (sym (renamed_other g.name e d x a) ∙ same ∙ renamed_other g.name e c x b)

-- ---- another place

abbrev pub with_place : Names → ℕ → Place → Names
with_place g id place = record { name = g.name; pipes = g.pipes; places = λ k. if k == id then place else g.places k }

pub place_here : (g : Names) (id : ℕ) (place : Place) → (with_place g id place).places id ≡ place
place_here g id place = ap (λ (b : Bool). if b then place else g.places id) (eq-eqb id id refl)

pub place_elsewhere : (g : Names) (id k : ℕ) (place : Place) → k ≢ id → (with_place g id place).places k ≡ g.places k
place_elsewhere g id k place ne = ap (λ (b : Bool). if b then place else g.places k) (ne_eqb k id ne)

-- a place that no entry in use has yet
pub shows_new_place : (g : Names) (E : Entries) (P : Pipes) (F : FileMap) (n id : ℕ) (place : Place) → n ≤ id → Shows g E P F n → Shows (with_place g id place) E P F (n + 1)
shows_new_place g E P F n id place new s = record {
  named = λ e f is. on (g.name e) f.object f.offset (s.named e f is);
  apart = s.apart;
  holds = s.holds;
}
  where
    on : (x : Entry) (o : Object) (at : ℕ) → IsNamed g F n x o at → IsNamed (with_place g id place) F (n + 1) x o at
    on x Input at is = is
    on x Out at is = is
    on x Diag at is = is
    on x (PipeRead i) at is = (is.0, omega (arith, is.1))
    on x (PipeWrite i) at is = (is.0, omega (arith, is.1))
    on x (File name mode) at is =
        let same = place_elsewhere g id is.id place (λ e. absurd (omega (arith, e, is.old, new))) in
        record {
          id = is.id;
          is = is.is;
          old = omega (arith, is.old);
          named = ap (λ (p : Place). p.name) same ∙ is.named;
          moded = ap (λ (p : Place). entry_mode p.mode) same ∙ is.moded;
          goes_on = subst (λ (p : Place). GoesOnAt p.mode p.at at) (sym same) is.goes_on;
          there = is.there;
        }

-- the entry e, which has this file open, goes on at another offset
pub shows_moved : (g : Names) (E : Entries) (P : Pipes) (F H : FileMap) (n e id : ℕ) (f now : OpenFile) (name : Name) (mode : EntryMode) (place : Place) → entry_at E e ≡ Some f → now.object ≡ File name mode → g.name e ≡ file id → id < n → place.name ≡ name → entry_mode place.mode ≡ mode → GoesOnAt place.mode place.at now.offset → is_some (H name) ≡ true → Stay F H → Shows g E P F n → Shows (with_place g id place) (slice_set E e (Some now)) P H n
shows_moved g E P F H n e id f now name mode place is file_is named old of_name of_mode goes there stay s = record {
  named = λ d x it. name_at d x it (cases_eq d e);
  apart = λ d c x y it this same. let a = was d x it (cases_eq d e) in let b = was c y this (cases_eq c e) in s.apart d c a.0 b.0 a.1 b.1 same;
  holds = s.holds;
}
  where
    within : e < length E
    within = within_list E e f is

    other : (d : ℕ) (x : OpenFile) → d ≢ e → entry_at (slice_set E e (Some now)) d ≡ Some x → entry_at E d ≡ Some x
    other d x ne it = sym (get_or-set_other E e d (Some now) None ne) ∙ it

    was : (d : ℕ) (x : OpenFile) → entry_at (slice_set E e (Some now)) d ≡ Some x → (d ≡ e) ⊎ (d ≢ e) → (y : OpenFile) × (entry_at E d ≡ Some y)
    was d x it (inl same) = (f, ap (entry_at E) same ∙ is)
    was d x it (inr ne) = (x, other d x ne it)

    name_at : (d : ℕ) (x : OpenFile) → entry_at (slice_set E e (Some now)) d ≡ Some x → (d ≡ e) ⊎ (d ≢ e) → IsNamed (with_place g id place) H n (g.name d) x.object x.offset
    name_at d x it (inr ne) =
        named_on g (with_place g id place) F H n n (g.name d) x.object x.offset
        (λ k y. place_elsewhere g id k place (λ z. ne (s.apart d e x f (other d x ne it) is (y ∙ ap file z ∙ sym named)))) stay (omega arith) (s.named d x (other d x ne it))
    name_at d x it (inl same) =
        let there_it : Some now ≡ Some x = sym (get_or-set_same E e (Some now) None within) ∙ ap (entry_at (slice_set E e (Some now))) (sym same) ∙ it in
        let z : now ≡ x = cc in
        let here = place_here g id place in
        let own : IsNamed (with_place g id place) H n (g.name d) (File name mode) now.offset = record {
          id = id;
          is = ap g.name same ∙ named;
          old = old;
          named = ap (λ (p : Place). p.name) here ∙ of_name;
          moded = ap (λ (p : Place). entry_mode p.mode) here ∙ of_mode;
          goes_on = subst (λ (p : Place). GoesOnAt p.mode p.at now.offset) (sym here) goes;
          there = there;
        } in
        subst (λ (y : OpenFile). IsNamed (with_place g id place) H n (g.name d) y.object y.offset) z (subst (λ o. IsNamed (with_place g id place) H n (g.name d) o now.offset) (sym file_is) own)
