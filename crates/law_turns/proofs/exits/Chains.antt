-- To be alike but for who sleeps and for numbers goes on, if the kernel between two others names only pipes of its past events.
use Rattle.std.proofs.Common.{◌≡◌, ℕ, zero, suc, ◌+◌, ◌<◌, ◌≤◌, [], ◌∷◌, Bool, true, false, Option, Some, None, refl, sym, ap, subst, ◌∙◌, arith}
use Rattle.std.proofs.lemmas.Bool.{eq-eqb, eqb-true, ne_eqb, ltb-true, ltb-false}
use Rattle.std.specs.Prelude.{map, nat_lt, ◌==◌, if◌then◌else◌}
use Rattle.fd_table.specs.declared.names.Object.{Object}
use Rattle.fd_table.specs.declared.names.Object.TheVariants.{Input, Out, Diag, File, PipeRead, PipeWrite}
use Rattle.fd_table.specs.Entries.{Entries, OpenFile}
use Rattle.proc_table.specs.declared.states.Channel.{Channel}
use Rattle.proc_table.specs.declared.states.Channel.TheVariants.{PipeBytes, PipeRoom, Children}
use Rattle.proc_table.specs.declared.states.Status.{Status}
use Rattle.proc_table.specs.declared.states.Status.TheVariants.{Runnable, Running, Asleep, Zombie}
use Rattle.proc_table.specs.Slots.{Slot, Table}
use Rattle.kernel_model.specs.Pipes.{Pipes}
use Rattle.kernel_model.specs.KernelState.{KernelState}
use Rattle.kernel_model.specs.Idle.{renamed_channel, renamed_object, renamed_entry, renamed_pipe, idle_status, idle_slot, idle_kernel}
use Rattle.kernel_model.specs.Alike.{IsOneToOne, HasNamesUpTo}
use Rattle.kernel_model.specs.Woke.{woke_status, woke_slot, woke}
use Rattle.kernel_model.specs.Numbers.{SameButNumbers, renumbered_slot}
use Rattle.kernel_model.specs.Anyhow.{AlikeAnyhow}
use Rattle.law_turns.proofs.orders.Entries.{entry_renamed, free_renamed}
use Rattle.law_turns.proofs.orders.Tables.{map_swap}
use Rattle.law_turns.proofs.entry_numbers.Numberings.{same_on}
use Rattle.law_turns.proofs.entry_numbers.Still.{idle_so}

-- ---- a name that two others have in common

-- the place of x among the first names that g gives, if it is one
abbrev find : (ℕ → ℕ) → ℕ → ℕ → Option ℕ
find g zero x = None
find g (suc b) x = if◌then◌else◌ {A = Option ℕ} (g b == x) (Some b) (find g b x)

found : (g : ℕ → ℕ) → IsOneToOne g → (b i : ℕ) → i < b → find g b (g i) ≡ Some i
found g one zero i less = absurd (omega (arith, less))
found g one (suc b) i less = by (nat_lt i b) refl (found g one b i) where
  by : (c : Bool) → nat_lt i b ≡ c → (i < b → find g b (g i) ≡ Some i) → find g (suc b) (g i) ≡ Some i
  by true is rec =
      let lt = ltb-true i b is in
      ap (λ (c : Bool). if◌then◌else◌ {A = Option ℕ} c (Some b) (find g b (g i))) (ne_eqb (g b) (g i) (λ same. (let e = one b i same in omega (arith, lt, e)))) ∙ rec lt
  by false is rec =
      let same : b ≡ i = omega (arith, ltb-false i b is, less) in
      ap (λ (c : Bool). if◌then◌else◌ {A = Option ℕ} c (Some b) (find g b (g i))) (eq-eqb (g b) (g i) (ap g same)) ∙ ap (λ (j : ℕ). Some j) same

is_there : (g : ℕ → ℕ) (b x i : ℕ) → find g b x ≡ Some i → g i ≡ x
is_there g zero x i is = absurd (let z : ⊥ = cc in z)
is_there g (suc b) x i is = by (g b == x) refl (is_there g b x i) is where
  by : (c : Bool) → (g b == x) ≡ c → (find g b x ≡ Some i → g i ≡ x) → if◌then◌else◌ {A = Option ℕ} c (Some b) (find g b x) ≡ Some i → g i ≡ x
  by true here rec it = let same : b ≡ i = cc in ap g (sym same) ∙ eqb-true (g b) x here
  by false here rec it = rec it

abbrev doubled : ℕ → ℕ
doubled x = x + x

abbrev over : (ℕ → ℕ) → ℕ → Option ℕ → ℕ
over f x None = x + x + 1
over f x (Some i) = f i + f i

doubled_one : IsOneToOne doubled
doubled_one a b is = omega (arith, is)

-- ---- names twice

module _ (f g : ℕ → ℕ) where
  abbrev both : ℕ → ℕ
  both x = g (f x)

  channel_twice : (c : Channel) → renamed_channel g (renamed_channel f c) ≡ renamed_channel both c
  channel_twice (PipeBytes id) = refl
  channel_twice (PipeRoom id) = refl
  channel_twice (Children pid) = refl

  status_twice : (s : Status) → idle_status g (idle_status f s) ≡ idle_status both s
  status_twice Runnable = refl
  status_twice (Running h) = refl
  status_twice (Asleep c) = ap (λ (d : Channel). Asleep d) (channel_twice c)
  status_twice Zombie = refl

  slot_twice : {S : Type 0} (x : Slot S) → idle_slot g (idle_slot f x) ≡ idle_slot both x
  slot_twice None = refl
  slot_twice (Some y) = λ i. Some (record y { status = status_twice y.status i })

  object_twice : (o : Object) → renamed_object g (renamed_object f o) ≡ renamed_object both o
  object_twice Input = refl
  object_twice Out = refl
  object_twice Diag = refl
  object_twice (File name mode) = refl
  object_twice (PipeRead id) = refl
  object_twice (PipeWrite id) = refl

  entry_twice : (x : Option OpenFile) → renamed_entry g (renamed_entry f x) ≡ renamed_entry both x
  entry_twice None = refl
  entry_twice (Some y) = λ i. Some (record y { object = object_twice y.object i })

  table_twice : {S : Type 0} (t : Table S) → map (idle_slot g) (map (idle_slot f) t) ≡ map (idle_slot both) t
  table_twice [] = refl
  table_twice (x ∷ t) = λ i. slot_twice x i ∷ table_twice t i

  entries_twice : (E : Entries) → map (renamed_entry g) (map (renamed_entry f) E) ≡ map (renamed_entry both) E
  entries_twice [] = refl
  entries_twice (x ∷ E) = λ i. entry_twice x i ∷ entries_twice E i

  pipes_twice : (ps : Pipes) → map (renamed_pipe g) (map (renamed_pipe f) ps) ≡ map (renamed_pipe both) ps
  pipes_twice [] = refl
  pipes_twice (x ∷ ps) = ap (λ (l : Pipes). (g (f x.0), x.1) ∷ l) (pipes_twice ps)

  idle_twice : {S : Type 0} (k : KernelState S) → idle_kernel g 0 (idle_kernel f 0 k) ≡ idle_kernel both 0 k
  idle_twice k = λ i. record (idle_kernel both 0 k) { table = table_twice k.table i; entries = entries_twice k.entries i; pipes = pipes_twice k.pipes i }

-- kernels that are the same but for numbers are so under other names
renamed_same : {S : Type 0} (name : ℕ → ℕ) (k l : KernelState S) → SameButNumbers k l → SameButNumbers (idle_kernel name 0 k) (idle_kernel name 0 l)
renamed_same name k l a =
    let n = a.numbering in
    record {
      numbering = n;
      is = record {
        entries = record {
          same = λ e. entry_renamed name l.entries (n.to e) ∙ ap (renamed_entry name) (a.is.entries.same e) ∙ sym (entry_renamed name k.entries e);
          free = free_renamed name l.entries ∙ a.is.entries.free ∙ sym (free_renamed name k.entries);
        };
        rest =
            (λ i. record (idle_kernel name 0 k) { table = sym (map_swap (idle_slot name) (renumbered_slot n.to) (idle_slot name) (renumbered_slot n.to) (idle_so n.to name) k.table) i; entries = map (renamed_entry name) l.entries }) ∙
            ap (λ (j : KernelState _). idle_kernel name 0 j) a.is.rest;
      };
    }

-- ---- to wake, and names

woke_idle_status : (name : ℕ → ℕ) (s : Status) → idle_status name (woke_status s) ≡ woke_status (idle_status name s)
woke_idle_status name Runnable = refl
woke_idle_status name (Running h) = refl
woke_idle_status name (Asleep c) = refl
woke_idle_status name Zombie = refl

woke_idle_slot : {S : Type 0} (name : ℕ → ℕ) (x : Slot S) → idle_slot name (woke_slot x) ≡ woke_slot (idle_slot name x)
woke_idle_slot name None = refl
woke_idle_slot name (Some p) = λ i. Some (record p { status = woke_idle_status name p.status i })

woke_idle : {S : Type 0} (name : ℕ → ℕ) (k : KernelState S) → idle_kernel name 0 (woke k) ≡ woke (idle_kernel name 0 k)
woke_idle name k = λ i. record (idle_kernel name 0 k) { table = map_swap (idle_slot name) woke_slot (idle_slot name) woke_slot (woke_idle_slot name) k.table i }

pub woke_names : {S : Type 0} (n : ℕ) (k : KernelState S) → HasNamesUpTo n k → HasNamesUpTo n (woke k)
woke_names n k names f g one two agree = woke_idle f k ∙ ap woke (names f g one two agree) ∙ sym (woke_idle g k)

-- ---- the chain

module _ {S : Type 0} (k l m : KernelState S) (n : ℕ) (names : HasNamesUpTo n l) (a : AlikeAnyhow k l) (b : AlikeAnyhow l m) where
  abbrev g : ℕ → ℕ
  g = a.second

  abbrev f : ℕ → ℕ
  f = b.first

  abbrev between : ℕ → ℕ
  between x = over f x (find g (n + 1) x)

  between_by : (x y : ℕ) (o c : Option ℕ) → find g (n + 1) x ≡ o → find g (n + 1) y ≡ c → over f x o ≡ over f y c → x ≡ y
  between_by x y None None is is_y same = omega (arith, same)
  between_by x y None (Some j) is is_y same = absurd (omega (arith, same))
  between_by x y (Some i) None is is_y same = absurd (omega (arith, same))
  between_by x y (Some i) (Some j) is is_y same =
      let one : i ≡ j = b.first_one_to_one i j (omega (arith, same)) in sym (is_there g (n + 1) x i is) ∙ ap g one ∙ is_there g (n + 1) y j is_y

  between_one : IsOneToOne between
  between_one x y same = between_by x y (find g (n + 1) x) (find g (n + 1) y) refl refl same

  agree : (id : ℕ) → id ≤ n → between (g id) ≡ doubled (f id)
  agree id le = ap (over f (g id)) (found g a.second_one_to_one (n + 1) id (omega (arith, le)))

  on_one : (p q : ℕ → ℕ) → IsOneToOne p → IsOneToOne q → IsOneToOne (λ x. q (p x))
  on_one p q one two x y same = one x y (two (p x) (p y) same)

  pub alike_on : AlikeAnyhow k m
  alike_on =
      let first : SameButNumbers (idle_kernel (λ x. between (a.first x)) 0 (woke k)) (idle_kernel (λ x. between (g x)) 0 (woke l)) =
      subst (λ (j : KernelState S). SameButNumbers j (idle_kernel (λ x. between (g x)) 0 (woke l))) (idle_twice a.first between (woke k))
      (subst (λ (j : KernelState S). SameButNumbers (idle_kernel between 0 (idle_kernel a.first 0 (woke k))) j) (idle_twice g between (woke l)) (renamed_same between _ _ a.same)) in
      let second : SameButNumbers (idle_kernel (λ x. doubled (f x)) 0 (woke l)) (idle_kernel (λ x. doubled (b.second x)) 0 (woke m)) =
      subst (λ (j : KernelState S). SameButNumbers j (idle_kernel (λ x. doubled (b.second x)) 0 (woke m))) (idle_twice f doubled (woke l))
      (subst (λ (j : KernelState S). SameButNumbers (idle_kernel doubled 0 (idle_kernel f 0 (woke l))) j) (idle_twice b.second doubled (woke m)) (renamed_same doubled _ _ b.same)) in
      let mid : idle_kernel (λ x. between (g x)) 0 (woke l) ≡ idle_kernel (λ x. doubled (f x)) 0 (woke l) =
      woke_names n l names (λ x. between (g x)) (λ x. doubled (f x)) (on_one g between a.second_one_to_one between_one) (on_one f doubled b.first_one_to_one doubled_one) agree in
      record {
        first = λ x. between (a.first x);
        second = λ x. doubled (b.second x);
        first_one_to_one = on_one a.first between a.first_one_to_one between_one;
        second_one_to_one = on_one b.second doubled b.second_one_to_one doubled_one;
        same = same_on _ _ _ (subst (λ (j : KernelState S). SameButNumbers (idle_kernel (λ x. between (a.first x)) 0 (woke k)) j) mid first) second;
      }
