-- One pipe changes, is made or is given up: who waits for another one goes on to do so.
use Rattle.std.proofs.Common.{◌≡◌, ◌≢◌, ◌⊎◌, ℕ, ◌≤◌, [], ◌∷◌, Bool, true, false, Option, Some, length, refl, sym, ap, subst, ◌∙◌, inl, inr, arith}
use Rattle.std.proofs.lemmas.Bool.{cases_eq, eqb-true}
use Rattle.std.specs.Prelude.{◌==◌, if◌then◌else◌}
use Rattle.byte_pipe.specs.Limits.{pipe_size}
use Rattle.byte_pipe.specs.PipeState.{PipeState}
use Rattle.proc_table.specs.declared.states.Channel.{Channel}
use Rattle.proc_table.specs.declared.states.Channel.TheVariants.{PipeBytes, PipeRoom, Children}
use Rattle.proc_table.specs.Slots.{Table, same_channel}
use Rattle.kernel_model.specs.Pipes.{Pipes, pipe_of, with_pipe, without_pipe, with_new}
use Rattle.law_kernel.specs.Sleeping.{Waits, WaitsForBytes, WaitsForRoom, IsThere, AreSmall}
use Rattle.law_kernel.specs.Busy.{IsFair}

-- ---- which pipe has a name

pub found_now : (pipes : Pipes) (id : ℕ) (p now : PipeState) → pipe_of pipes id ≡ Some p → pipe_of (with_pipe pipes id now) id ≡ Some now
found_now [] id p now is = absurd (let z : ⊥ = cc in z)
found_now (x ∷ rest) id p now is = by (id == x.0) refl (found_now rest id p now) is where
  by : (b : Bool) → (id == x.0) ≡ b → (pipe_of rest id ≡ Some p → pipe_of (with_pipe rest id now) id ≡ Some now) → (if b then Some x.1 else pipe_of rest id) ≡ Some p → pipe_of (if b then (x.0, now) ∷ rest else x ∷ with_pipe rest id now) id ≡ Some now
  by true test later found = ap (λ (b : Bool). if b then Some now else pipe_of rest id) test
  by false test later found = ap (λ (b : Bool). if b then Some x.1 else pipe_of (with_pipe rest id now) id) test ∙ later found

pub others_found : (pipes : Pipes) (id other : ℕ) (now : PipeState) → other ≢ id → pipe_of (with_pipe pipes id now) other ≡ pipe_of pipes other
others_found [] id other now ne = refl
others_found (x ∷ rest) id other now ne = by (id == x.0) refl (others_found rest id other now ne) where
  by : (b : Bool) → (id == x.0) ≡ b → pipe_of (with_pipe rest id now) other ≡ pipe_of rest other → pipe_of (if b then (x.0, now) ∷ rest else x ∷ with_pipe rest id now) other ≡ (if other == x.0 then Some x.1 else pipe_of rest other)
  by true test later = not_it (other == x.0) refl where
    not_it : (b : Bool) → (other == x.0) ≡ b → (if b then Some now else pipe_of rest other) ≡ (if b then Some x.1 else pipe_of rest other)
    not_it true same = absurd (ne (eqb-true other x.0 same ∙ sym (eqb-true id x.0 test)))
    not_it false same = refl
  by false test later = ap (λ (o : Option PipeState). if other == x.0 then Some x.1 else o) later

pub others_stay : (pipes : Pipes) (id other : ℕ) → other ≢ id → pipe_of (without_pipe pipes id) other ≡ pipe_of pipes other
others_stay [] id other ne = refl
others_stay (x ∷ rest) id other ne = by (id == x.0) refl (others_stay rest id other ne) where
  by : (b : Bool) → (id == x.0) ≡ b → pipe_of (without_pipe rest id) other ≡ pipe_of rest other → pipe_of (if b then rest else x ∷ without_pipe rest id) other ≡ (if other == x.0 then Some x.1 else pipe_of rest other)
  by true test later = not_it (other == x.0) refl where
    not_it : (b : Bool) → (other == x.0) ≡ b → pipe_of rest other ≡ (if b then Some x.1 else pipe_of rest other)
    not_it true same = absurd (ne (eqb-true other x.0 same ∙ sym (eqb-true id x.0 test)))
    not_it false same = refl
  by false test later = ap (λ (o : Option PipeState). if other == x.0 then Some x.1 else o) later

-- a new pipe hides none
new_hides_none : (pipes : Pipes) (new id : ℕ) (p : PipeState) → pipe_of pipes id ≡ Some p → pipe_of (with_new pipes new) id ≡ Some p
new_hides_none [] new id p is = absurd (let z : ⊥ = cc in z)
new_hides_none (x ∷ rest) new id p is = by (id == x.0) (new_hides_none rest new id p) is where
  by : (b : Bool) → (pipe_of rest id ≡ Some p → pipe_of (with_new rest new) id ≡ Some p) → (if b then Some x.1 else pipe_of rest id) ≡ Some p → (if b then Some x.1 else pipe_of (with_new rest new) id) ≡ Some p
  by true later found = found
  by false later found = later found

-- ---- no pipe holds too much

pub small_found : (pipes : Pipes) (id : ℕ) (p : PipeState) → AreSmall pipes → pipe_of pipes id ≡ Some p → length p.bytes ≤ pipe_size
small_found [] id p small is = absurd (let z : ⊥ = cc in z)
small_found (x ∷ rest) id p small is = by (id == x.0) (small_found rest id p small.1) is where
  by : (b : Bool) → (pipe_of rest id ≡ Some p → length p.bytes ≤ pipe_size) → (if b then Some x.1 else pipe_of rest id) ≡ Some p → length p.bytes ≤ pipe_size
  by true later found = let it : x.1 ≡ p = cc in subst (λ (y : PipeState). length y.bytes ≤ pipe_size) it small.0
  by false later found = later found

pub small_with : (pipes : Pipes) (id : ℕ) (now : PipeState) → AreSmall pipes → length now.bytes ≤ pipe_size → AreSmall (with_pipe pipes id now)
small_with [] id now small fits = tt
small_with (x ∷ rest) id now small fits = by (id == x.0) (small_with rest id now small.1 fits) where
  by : (b : Bool) → AreSmall (with_pipe rest id now) → AreSmall (if b then (x.0, now) ∷ rest else x ∷ with_pipe rest id now)
  by true later = (fits, small.1)
  by false later = (small.0, later)

pub small_without : (pipes : Pipes) (id : ℕ) → AreSmall pipes → AreSmall (without_pipe pipes id)
small_without [] id small = tt
small_without (x ∷ rest) id small = by (id == x.0) (small_without rest id small.1) where
  by : (b : Bool) → AreSmall (without_pipe rest id) → AreSmall (if b then rest else x ∷ without_pipe rest id)
  by true later = small.1
  by false later = (small.0, later)

pub small_new : (pipes : Pipes) (id : ℕ) → AreSmall pipes → AreSmall (with_new pipes id)
small_new [] id small = (let few : length {A = ℕ} [] ≤ pipe_size = omega arith in few, tt)
small_new (x ∷ rest) id small = (small.0, small_new rest id small.1)

-- ---- who waits for a pipe

-- what holds of the pipe that is there under a name
pub it_holds : (P : PipeState → Type 0) (pipes : Pipes) (id : ℕ) (p : PipeState) → pipe_of pipes id ≡ Some p → IsThere P pipes id → P p
it_holds P pipes id p found w =
    let both : Some w.pipe ≡ Some p = sym w.found ∙ found in
    let it : w.pipe ≡ p = cc in
    subst P it w.holds

-- what one waits for of a pipe that may have changed
changed : (P : PipeState → Type 0) (pipes : Pipes) (id other : ℕ) (p now : PipeState) → pipe_of pipes id ≡ Some p → (other ≡ id → P p → P now) → (other ≡ id) ⊎ (other ≢ id) → IsThere P pipes other → IsThere P (with_pipe pipes id now) other
changed P pipes id other p now is holds (inl same) w =
    record {
      pipe = now;
      found = ap (pipe_of (with_pipe pipes id now)) same ∙ found_now pipes id p now is;
      holds = holds same (it_holds P pipes id p is (subst (λ (i : ℕ). IsThere P pipes i) same w));
    }
changed P pipes id other p now is holds (inr ne) w = record { pipe = w.pipe; found = others_found pipes id other now ne ∙ w.found; holds = w.holds }

-- the pipe of that name changes fairly
pub pipe_still : {S : Type 0} (t : Table S) (pipes : Pipes) (id : ℕ) (c : Channel) (p now : PipeState) → pipe_of pipes id ≡ Some p → IsFair id c p now → (q : ℕ) (d : Channel) → same_channel c d ≡ false → Waits t pipes q d → Waits t (with_pipe pipes id now) q d
pipe_still t pipes id c p now is fair q (Children r) unlike w = w
pipe_still t pipes id c p now is fair q (PipeBytes other) unlike w =
    changed WaitsForBytes pipes id other p now is (λ same. fair.bytes (ap (λ (k : ℕ). same_channel c (PipeBytes k)) (sym same) ∙ unlike)) (cases_eq other id) w
pipe_still t pipes id c p now is fair q (PipeRoom other) unlike w =
    changed WaitsForRoom pipes id other p now is (λ same. fair.room (ap (λ (k : ℕ). same_channel c (PipeRoom k)) (sym same) ∙ unlike)) (cases_eq other id) w

-- the pipe of that name is given up, and nobody waits for it but those of a channel that is woken
kept_apart : (P : PipeState → Type 0) (pipes : Pipes) (id other : ℕ) → (other ≡ id → IsThere P pipes id → ⊥) → (other ≡ id) ⊎ (other ≢ id) → IsThere P pipes other → IsThere P (without_pipe pipes id) other
kept_apart P pipes id other nobody (inl same) w = absurd (nobody same (subst (λ (i : ℕ). IsThere P pipes i) same w))
kept_apart P pipes id other nobody (inr ne) w = record { pipe = w.pipe; found = others_stay pipes id other ne ∙ w.found; holds = w.holds }

pub given_up : {S : Type 0} (t : Table S) (pipes : Pipes) (id : ℕ) (c : Channel) → (same_channel c (PipeBytes id) ≡ false → IsThere WaitsForBytes pipes id → ⊥) → (same_channel c (PipeRoom id) ≡ false → IsThere WaitsForRoom pipes id → ⊥) → (q : ℕ) (d : Channel) → same_channel c d ≡ false → Waits t pipes q d → Waits t (without_pipe pipes id) q d
given_up t pipes id c no_reader no_writer q (Children r) unlike w = w
given_up t pipes id c no_reader no_writer q (PipeBytes other) unlike w =
    kept_apart WaitsForBytes pipes id other (λ same. no_reader (ap (λ (k : ℕ). same_channel c (PipeBytes k)) (sym same) ∙ unlike)) (cases_eq other id) w
given_up t pipes id c no_reader no_writer q (PipeRoom other) unlike w =
    kept_apart WaitsForRoom pipes id other (λ same. no_writer (ap (λ (k : ℕ). same_channel c (PipeRoom k)) (sym same) ∙ unlike)) (cases_eq other id) w

-- a pipe is made
pub new_still : {S : Type 0} (t : Table S) (pipes : Pipes) (new q : ℕ) (d : Channel) → Waits t pipes q d → Waits t (with_new pipes new) q d
new_still t pipes new q (PipeBytes id) w = record { pipe = w.pipe; found = new_hides_none pipes new id w.pipe w.found; holds = w.holds }
new_still t pipes new q (PipeRoom id) w = record { pipe = w.pipe; found = new_hides_none pipes new id w.pipe w.found; holds = w.holds }
new_still t pipes new q (Children r) w = w
