-- A program that runs alone writes each of its files within its bytes or at their end: so no write of it is refused for a gap.
use Rattle.std.proofs.Common.{◌≡◌, ◌∙◌, ◌≢◌, ℕ, zero, suc, ◌+◌, ◌<◌, ◌≤◌, Bool, true, false, List, [], ◌∷◌, ◌++◌, length, drop, Option, Some, None, max, refl, sym, ap, subst, arith}
use Rattle.std.specs.Prelude.{◌==◌, ◌&&◌, not, nat_lt, nat_le, if◌then◌else◌, slice_index_or}
use Rattle.std.specs.Str.{bytes_eq}
use Rattle.std.proofs.lemmas.Bool.{eqb-true, eq-eqb}
use Rattle.std.proofs.lemmas.Bool.Decides.{nat_tests}
use Rattle.std.proofs.lemmas.Slice.Eq.{bytes_eq-Decides}
use Rattle.std.proofs.Math.Seq.{drop-cons}
use Rattle.mem_files.specs.Name.{Name, Bytes}
use Rattle.mem_files.specs.Files.{FileMap, with_file, bytes_of}
use Rattle.mem_files.specs.Overlay.{written}
use Rattle.mem_files.proofs.Overlays.{length-written}
use Rattle.user_calls.specs.declared.calls.Call.{Call}
use Rattle.user_calls.specs.declared.calls.Call.TheVariants.{Write}
use Rattle.user_calls.specs.declared.calls.Reply.{Reply}
use Rattle.user_calls.specs.declared.calls.Mode.TheVariants.{Fresh}
use Rattle.user_progs.specs.State.{Tee, tee_opens, tee_reads, tee_writes, tee_gives, State, tees}
use Rattle.user_progs.specs.Turn.{Answer, yields, denies, strays, bytes_in, done_in, turn, tee_waits, tee_opens_next, tee_got, tee_wrote, tee_turn}
use Rattle.tree_model.specs.Alone.{OwnFile, World, held, moved_on, is_writable, may_write, May, after_read, after_file_write, after_done_write, after_write, after_call}
use Rattle.tree_model.specs.Given.{IsAt, AreAt}
use Rattle.tree_model.specs.Waits.{TeeWaits, Waits}
use Rattle.tree_model.specs.Fits.{IsWithin, AreWithin, outputs, Fits}
use Rattle.law_trees.proofs.programs.Giving.{held_fd, held_moved, held_other}
use Rattle.law_trees.proofs.programs.Teeing.{new_file, with_new, by_open}
use Rattle.law_trees.proofs.programs.Next.{turn_next}

-- a write of it is done

writable : (place : ℕ) (h : Option OwnFile) (F : FileMap) → IsAt place h F → IsWithin h F → is_writable h F ≡ true
writable place None F at within = absurd at
writable place (Some f) F at within =
    let few : nat_le f.at (length (bytes_of (F f.name))) ≡ true = grind (arith, nat_tests) in
    λ i. not (at.2 i) && few i

pub to_own : (fd : ℕ) (world : World) → 2 < fd → may_write fd world ≡ is_writable (held world.own fd) world.files
to_own zero world high = absurd (omega (arith, high))
to_own (suc zero) world high = absurd (omega (arith, high))
to_own (suc (suc zero)) world high = absurd (omega (arith, high))
to_own (suc (suc (suc fd))) world high = refl

pub within_at : (fds : List ℕ) (at : ℕ) (own : List OwnFile) (F : FileMap) → at < length fds → AreWithin fds own F → IsWithin (held own (slice_index_or fds at 0)) F
within_at [] at own F few within = absurd (omega (arith, few))
within_at (fd ∷ fds) zero own F few within = within.0
within_at (fd ∷ fds) (suc at) own F few within = within_at fds at own F (omega (arith, few)) within.1

pub gives_done : (fds : List ℕ) (at place : ℕ) (world : World) → at < length fds → AreAt place (drop at fds) world.own world.files → AreWithin fds world.own world.files →
    may_write (slice_index_or fds at 0) world ≡ true
gives_done fds at place world inside stands within =
    let fd = slice_index_or fds at 0 in
    let here = subst (λ (ds : List ℕ). AreAt place ds world.own world.files) (drop-cons fds at 0 inside) stands in
    to_own fd world here.0 ∙ writable place (held world.own fd) world.files here.1 (within_at fds at world.own world.files inside within)

-- and it leaves each file within its bytes

module _ (own : List OwnFile) (fd : ℕ) (f : OwnFile) (bytes : Bytes) (F : FileMap) (is : held own fd ≡ Some f) (low : f.at ≤ length (bytes_of (F f.name))) where
  abbrev new : Bytes
  new = written (bytes_of (F f.name)) f.at bytes

  abbrev G : FileMap
  G = with_file F f.name new

  size : length new ≡ max (length (bytes_of (F f.name))) (f.at + length bytes)
  size = length-written (bytes_of (F f.name)) f.at bytes low

  other_within : (h : Option OwnFile) → IsWithin h F → IsWithin h G
  other_within None h = absurd h
  other_within (Some o) h = go (bytes_eq o.name f.name) refl
    where
      go : (t : Bool) → bytes_eq o.name f.name ≡ t → o.at ≤ length (bytes_of (if t then Some new else F o.name))
      go false e = h
      go true e =
          let same : o.name ≡ f.name = (bytes_eq-Decides o.name f.name).0 e in
          let small : o.at ≤ length (bytes_of (F f.name)) = subst (λ (n : Name). o.at ≤ length (bytes_of (F n))) same h in
          omega (arith, small, size)

  each_within : (d : ℕ) → IsWithin (held own d) F → IsWithin (held (moved_on own fd (length bytes)) d) G
  each_within d h = go (d == fd) refl
    where
      here : f.at + length bytes ≤ length (bytes_of (G f.name))
      here = subst (λ (t : Bool). f.at + length bytes ≤ length (bytes_of (if t then Some new else F f.name))) (sym ((bytes_eq-Decides f.name f.name).1 refl)) (omega (arith, size))

      go : (t : Bool) → (d == fd) ≡ t → IsWithin (held (moved_on own fd (length bytes)) d) G
      go true e =
          let same : fd ≡ d = sym (eqb-true d fd e) in
          subst (λ (k : ℕ). IsWithin (held (moved_on own fd (length bytes)) k) G) same
          (subst (λ (o : Option OwnFile). IsWithin o G) (sym (held_moved own fd (length bytes) f is)) here)
      go false e =
          let apart : d ≢ fd = λ same. let never : true ≡ false = sym (eq-eqb d fd same) ∙ e in cc in
          subst (λ (o : Option OwnFile). IsWithin o G) (sym (held_other own fd d (length bytes) apart)) (other_within (held own d) h)

  all_within : (fds : List ℕ) → AreWithin fds own F → AreWithin fds (moved_on own fd (length bytes)) G
  all_within [] h = tt
  all_within (d ∷ fds) h = (each_within d h.0, all_within fds h.1)

write_within : (fds : List ℕ) (fd : ℕ) (bytes : Bytes) (world : World) → AreWithin fds world.own world.files → IsWithin (held world.own fd) world.files →
    AreWithin fds (after_done_write fd bytes world).own (after_done_write fd bytes world).files
write_within fds zero bytes world all here = all
write_within fds (suc zero) bytes world all here = all
write_within fds (suc (suc zero)) bytes world all here = all
write_within fds (suc (suc (suc fd))) bytes world all here = go (held world.own (suc (suc (suc fd)))) refl here
  where
    go : (h : Option OwnFile) → held world.own (suc (suc (suc fd))) ≡ h → IsWithin h world.files → AreWithin fds (after_file_write h bytes world).own (after_file_write h bytes world).files
    go None is here = all
    go (Some f) is here =
        subst (λ (d : ℕ). AreWithin fds (moved_on world.own d (length bytes)) (with_file world.files f.name (written (bytes_of (world.files f.name)) f.at bytes))) (sym (held_fd world.own (suc (suc (suc fd))) f is))
        (all_within world.own (suc (suc (suc fd))) f bytes world.files is here fds all)

answered_within : (fds : List ℕ) (fd : ℕ) (bytes : Bytes) (said : Answer (Unit {0})) (world : World) → AreWithin fds world.own world.files → IsWithin (held world.own fd) world.files →
    AreWithin fds (after_write fd bytes said world).own (after_write fd bytes said world).files
answered_within fds fd bytes (yields done) world all here = write_within fds fd bytes world all here
answered_within fds fd bytes denies world all here = all
answered_within fds fd bytes strays world all here = all

-- a file that tee opens is empty, and so at its begin

opened_at : (h : Option OwnFile) (F : FileMap) (name : Name) → IsAt 0 h F → IsWithin h (with_file F name [])
opened_at None F name at = absurd at
opened_at (Some o) F name at = omega (arith, at.0)

opened_within : (fds : List ℕ) (fd : ℕ) (name : Name) (world : World) → AreAt 0 fds world.own world.files → AreWithin (fds ++ fd ∷ []) (with_new fd name world).own (with_new fd name world).files
opened_within [] fd name world at =
    (subst (λ (h : Option OwnFile). IsWithin h (with_new fd name world).files) (sym (ap (λ (t : Bool). if t then Some (new_file fd name Fresh) else held world.own fd) (eq-eqb fd fd refl))) (omega arith), tt)
opened_within (other ∷ fds) fd name world at = (go (fd == other), opened_within fds fd name world at.2)
  where
    go : (t : Bool) → IsWithin (if t then Some (new_file fd name Fresh) else held world.own other) (with_new fd name world).files
    go true = omega arith
    go false = opened_at (held world.own other) world.files name at.1

-- tee

next_fits : (fds : List ℕ) (names : List Name) (world : World) → AreWithin fds world.own world.files → Fits (tee_opens_next fds names).next world
next_fits fds [] world within = within
next_fits fds (name ∷ later) world within = within

got_fits : (fds : List ℕ) (got : Answer Bytes) (world : World) → AreWithin fds world.own world.files → Fits (tee_got fds got).next (after_read 0 got world)
got_fits fds (yields []) world within = tt
got_fits fds (yields (byte ∷ bytes)) world within = within
got_fits fds denies world within = tt
got_fits fds strays world within = tt

wrote_fits : (fds : List ℕ) (at : ℕ) (bytes : Bytes) (said : Answer (Unit {0})) (world : World) → AreWithin fds world.own world.files → Fits (tee_wrote fds at bytes said).next world
wrote_fits fds at bytes denies world within = tt
wrote_fits fds at bytes strays world within = tt
wrote_fits fds at bytes (yields done) world within = go (nat_lt at (length fds))
  where
    go : (more : Bool) → Fits (if more then record { call = Write (slice_index_or fds at 0) bytes; next = tees (tee_gives fds at bytes) } else tee_waits fds).next world
    go true = within
    go false = within

tee_fits : (tee : Tee) (call : Call) (reply : Reply) (world : World) → TeeWaits tee call world → AreWithin (outputs tee) world.own world.files → May call reply world →
    Fits (tee_turn tee reply).next (after_call call reply world)
tee_fits (tee_opens fds name later) call reply world (is, few, distinct, at) within may =
    subst (λ (c : Call). Fits (tee_turn (tee_opens fds name later) reply).next (after_call c reply world)) (sym is)
    (by_open (λ t w. Fits t.next w) fds name later world reply few (λ e. tt)
    (λ fd e high new. next_fits (fds ++ fd ∷ []) later (with_new fd name world) (opened_within fds fd name world at))
    (subst (λ (c : Call). May c reply world) is may))
tee_fits (tee_reads fds) call reply world waits within may =
    subst (λ (c : Call). Fits (tee_got fds (bytes_in reply)).next (after_call c reply world)) (sym waits.0) (got_fits fds (bytes_in reply) world within)
tee_fits (tee_writes fds bytes) call reply world waits within may =
    subst (λ (c : Call). Fits (tee_wrote fds 0 bytes (done_in reply)).next (after_call c reply world)) (sym waits.0)
    (wrote_fits fds 0 bytes (done_in reply) (after_write 1 bytes (done_in reply) world) (low (done_in reply)))
  where
    low : (said : Answer (Unit {0})) → AreWithin fds (after_write 1 bytes said world).own (after_write 1 bytes said world).files
    low (yields done) = within
    low denies = within
    low strays = within
tee_fits (tee_gives fds at bytes) call reply world waits within may =
    let fd = slice_index_or fds at 0 in
    subst (λ (c : Call). Fits (tee_wrote fds (at + 1) bytes (done_in reply)).next (after_call c reply world)) (sym waits.0)
    (wrote_fits fds (at + 1) bytes (done_in reply) (after_write fd bytes (done_in reply) world)
    (answered_within fds fd bytes (done_in reply) world within (within_at fds at world.own world.files waits.1 within)))

pub fits_on : (state : State) (call : Call) (reply : Reply) (world : World) → Waits state call world → Fits state world → May call reply world →
    Fits (turn state reply).next (after_call call reply world)
fits_on state call reply world waits fits may =
    turn_next (λ (s : State). Fits s (after_call call reply world))
    (record { ends = tt; tells = tt; word = λ later. tt; space = λ later. tt; ready = λ f n l. tt; work = λ w s. tt; close = λ f l. tt })
    (λ names. next_fits [] names (after_call call reply world) tt)
    state reply
    (λ tee e. tee_fits tee call reply world (subst (λ (s : State). Waits s call world) e waits) (subst (λ (s : State). Fits s world) e fits) may)
