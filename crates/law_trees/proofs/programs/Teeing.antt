-- Each call of tee keeps what it still does, and leaves its files open as it waits for them.
use Rattle.std.proofs.Common.{◌≡◌, ◌∙◌, ◌⊎◌, inl, inr, ℕ, suc, ◌+◌, ◌<◌, ◌≤◌, nat_lt, nat_le, Bool, true, false, List, [], ◌∷◌, ◌++◌, length, get_or, take, drop, Option, Some, None, refl, sym, ap, subst, arith}
use Rattle.std.specs.Prelude.{◌&&◌, if◌then◌else◌, slice_index_or}
use Rattle.std.proofs.lemmas.Bool.{ne_eqb}
use Rattle.std.proofs.lemmas.Bool.Decides.{nat_tests}
use Rattle.std.proofs.lemmas.List.{take_all, drop_all, take-append-drop, length-append, length-take}
use Rattle.std.proofs.Math.Seq.{drop-cons, take-suc}
use Rattle.mem_files.specs.Name.{Name, Bytes, is_openable}
use Rattle.mem_files.specs.Files.{FileMap, with_file, bytes_of}
use Rattle.mem_files.specs.Overlay.{written}
use Rattle.user_calls.specs.Limits.{block_size}
use Rattle.user_calls.specs.declared.calls.Mode.{Mode}
use Rattle.user_calls.specs.declared.calls.Mode.TheVariants.{Fresh}
use Rattle.user_calls.specs.declared.calls.Call.TheVariants.{Write, OpenFile}
use Rattle.user_calls.specs.declared.calls.Reply.{Reply}
use Rattle.user_calls.specs.declared.calls.Reply.TheVariants.{Fd, Refused}
use Rattle.meaning_model.specs.Value.{Value, fixed, nothing}
use Rattle.meaning_model.specs.Tee.{filled, are_openable, tee_bytes, tee_value}
use Rattle.user_progs.specs.State.{tee_gives, tees}
use Rattle.user_progs.specs.Turn.{Turn, yields, fd_in, block, tee_waits, tee_opens_next, tee_cannot_open, tee_opened, tee_got, tee_gives_next}
use Rattle.tree_model.specs.Alone.{OwnFile, World, held, moved_on, Takes, MayOpen, May, opened_files, after_read, after_done_write, after_call}
use Rattle.tree_model.specs.Given.{given, given_block, left_open, IsAt, AreAt, AreDistinct}
use Rattle.tree_model.specs.Still.{tee_still, after_bytes, left_of}
use Rattle.tree_model.specs.Waits.{Waits}
use Rattle.user_progs.proofs.Blocks.{too_long}
use Rattle.law_trees.proofs.programs.Giving.{block_given, none_given, opened_given, at_others, at_append, at_moved, new_other, at_opened, at_new, others_apart, distinct_more, own_write}
use Rattle.law_trees.proofs.programs.Work.{left_over}

-- tee's function, by whether its first file can be opened

abbrev value_by : Bool → Name → List Name → Bytes → FileMap → Value
value_by can name later input F =
    if can && are_openable later then fixed input [] (if can then filled later input (with_file F name input) else F)
    else fixed [] input (if can then filled later [] (with_file F name []) else F)

first_opened : (name : Name) (later : List Name) (input : Bytes) (F : FileMap) → is_openable name ≡ true → tee_value (name ∷ later) input F ≡ tee_value later input (with_file F name (tee_bytes later input))
first_opened name later input F e = ap (λ (t : Bool). value_by t name later input F) e ∙ go (are_openable later)
  where
    go : (all : Bool) →
        (if all then fixed input [] (filled later input (with_file F name input)) else fixed [] input (filled later [] (with_file F name [])))
        ≡ (if all then fixed input [] (filled later input (with_file F name (if all then input else []))) else fixed [] input (filled later [] (with_file F name (if all then input else []))))
    go true = refl
    go false = refl

first_refused : (name : Name) (later : List Name) (input : Bytes) (F : FileMap) → is_openable name ≡ false → tee_value (name ∷ later) input F ≡ nothing input F
first_refused name later input F e = ap (λ (t : Bool). value_by t name later input F) e

bytes_opened : (name : Name) (later : List Name) (input : Bytes) → is_openable name ≡ true → tee_bytes (name ∷ later) input ≡ tee_bytes later input
bytes_opened name later input e = ap (λ (t : Bool). if t && are_openable later then input else []) e

bytes_refused : (name : Name) (later : List Name) (input : Bytes) → is_openable name ≡ false → tee_bytes (name ∷ later) input ≡ []
bytes_refused name later input e = ap (λ (t : Bool). if t && are_openable later then input else []) e

-- opens

pub tee_next_kept : (fds : List ℕ) (names : List Name) (world : World) → left_open fds names world ≡ left_of (tee_opens_next fds names) 0 world
tee_next_kept fds [] world = refl
tee_next_kept fds (name ∷ later) world = refl

pub tee_next_waits : (fds : List ℕ) (names : List Name) (world : World) → length fds + length names ≤ 16 → AreDistinct fds → AreAt 0 fds world.own world.files →
    Waits (tee_opens_next fds names).next (tee_opens_next fds names).call world
tee_next_waits fds [] world few distinct at = (refl, distinct, (0, at))
tee_next_waits fds (name ∷ later) world few distinct at = (refl, omega (arith, few), distinct, at)

abbrev pub new_file : ℕ → Name → Mode → OwnFile
new_file fd name mode = record { fd = fd; name = name; mode = mode; at = 0 }

abbrev pub with_new : ℕ → Name → World → World
with_new fd name world = record world { own = new_file fd name Fresh ∷ world.own; files = with_file world.files name [] }

after_open_is : (fd : ℕ) (name : Name) (world : World) → is_openable name ≡ true → after_call (OpenFile name Fresh) (Fd fd) world ≡ with_new fd name world
after_open_is fd name world e = ap (λ (t : Bool). record world { own = new_file fd name Fresh ∷ world.own; files = opened_files (if t then Some [] else None) name Fresh world.files }) e

granted : (fds : List ℕ) (name : Name) (later : List Name) (world : World) (fd : ℕ) → is_openable name ≡ true → AreAt 0 fds world.own world.files → held world.own fd ≡ None →
    left_open fds (name ∷ later) world ≡ left_of (tee_opens_next (fds ++ fd ∷ []) later) 0 (with_new fd name world)
granted fds name later world fd e at new =
    let F = world.files in
    let bytes = tee_bytes later world.input in
    first_opened name later world.input (given fds world.own (tee_bytes (name ∷ later) world.input) F) e
    ∙ (λ i. tee_value later world.input (with_file (given fds world.own (bytes_opened name later world.input e i) F) name bytes))
    ∙ ap (λ (G : FileMap). tee_value later world.input G) (opened_given fds world.own (new_file fd name Fresh) F bytes (new_other 0 fds world.own F fd new at) refl at)
    ∙ tee_next_kept (fds ++ fd ∷ []) later (with_new fd name world)

granted_waits : (fds : List ℕ) (name : Name) (later : List Name) (world : World) (fd : ℕ) → length fds + length later < 16 → AreDistinct fds → AreAt 0 fds world.own world.files → 2 < fd → held world.own fd ≡ None →
    Waits (tee_opens_next (fds ++ fd ∷ []) later).next (tee_opens_next (fds ++ fd ∷ []) later).call (with_new fd name world)
granted_waits fds name later world fd few distinct at high new =
    let F = world.files in
    let others = new_other 0 fds world.own F fd new at in
    tee_next_waits (fds ++ fd ∷ []) later (with_new fd name world) (omega (arith, few, length-append fds (fd ∷ []))) (distinct_more fds fd distinct others)
    (at_append 0 fds (fd ∷ []) (new_file fd name Fresh ∷ world.own) (with_file F name []) (at_opened fds world.own (new_file fd name Fresh) F others at) (at_new world.own (new_file fd name Fresh) F high refl refl))

refused : (fds : List ℕ) (name : Name) (later : List Name) (world : World) → is_openable name ≡ false → AreAt 0 fds world.own world.files → left_open fds (name ∷ later) world ≡ nothing world.input world.files
refused fds name later world e at =
    first_refused name later world.input (given fds world.own (tee_bytes (name ∷ later) world.input) world.files) e
    ∙ (λ i. nothing world.input (given fds world.own (bytes_refused name later world.input e i) world.files))
    ∙ ap (λ (G : FileMap). nothing world.input G) (none_given 0 fds world.own world.files at)

-- a name that is cut by a block can't be opened, in part or whole
block_name : (name : Name) → (block name ≡ name) ⊎ ((is_openable (block name) ≡ false) × (is_openable name ≡ false))
block_name name = go (nat_le (length name) block_size) refl
  where
    go : (fits : Bool) → nat_le (length name) block_size ≡ fits → (block name ≡ name) ⊎ ((is_openable (block name) ≡ false) × (is_openable name ≡ false))
    go true e = let few : length name ≤ block_size = grind (arith, nat_tests) in inl (take_all block_size name few)
    go false e =
        let many : block_size < length name = grind (arith, nat_tests) in
        inr (too_long (block name) (omega (arith, length-take block_size name)), too_long name (omega (arith, many)))

-- what holds of a turn and the world after each reply to an open holds after this one
pub by_open : (Q : Turn → World → Type 0) (fds : List ℕ) (name : Name) (later : List Name) (world : World) (reply : Reply) → length fds + length later < 16 →
    (is_openable name ≡ false → Q (tee_cannot_open name) world) →
    ((fd : ℕ) → is_openable name ≡ true → 2 < fd → held world.own fd ≡ None → Q (tee_opens_next (fds ++ fd ∷ []) later) (with_new fd name world)) →
    May (OpenFile (block name) Fresh) reply world → Q (tee_opened fds name later (fd_in reply)) (after_call (OpenFile (block name) Fresh) reply world)
by_open Q fds name later world reply few closed open_now may = go (block_name name)
  where
    denied : (shown : Name) → is_openable name ≡ false → reply ≡ Refused → Q (tee_opened fds name later (fd_in reply)) (after_call (OpenFile shown Fresh) reply world)
    denied shown e is = subst (λ (r : Reply). Q (tee_opened fds name later (fd_in r)) (after_call (OpenFile shown Fresh) r world)) (sym is) (closed e)

    by_name : (can : Bool) → is_openable name ≡ can → MayOpen (if can then Some [] else None) reply world → Q (tee_opened fds name later (fd_in reply)) (after_call (OpenFile name Fresh) reply world)
    by_name false e is = denied name e is
    by_name true e (fd, is, new) =
        let room : nat_lt (length fds) 16 ≡ true = grind (arith, nat_tests) in
        subst (λ (r : Reply). Q (tee_opened fds name later (fd_in r)) (after_call (OpenFile name Fresh) r world)) (sym is)
        (subst (λ (t : Bool). Q (if t then tee_opens_next (fds ++ fd ∷ []) later else tee_cannot_open name) (after_call (OpenFile name Fresh) (Fd fd) world)) (sym room)
        (subst (λ (w : World). Q (tee_opens_next (fds ++ fd ∷ []) later) w) (sym (after_open_is fd name world e)) (open_now fd e new.0 new.1)))

    go : (block name ≡ name) ⊎ ((is_openable (block name) ≡ false) × (is_openable name ≡ false)) → Q (tee_opened fds name later (fd_in reply)) (after_call (OpenFile (block name) Fresh) reply world)
    go (inl e) =
        subst (λ (shown : Name). MayOpen (if is_openable shown then Some [] else None) reply world → Q (tee_opened fds name later (fd_in reply)) (after_call (OpenFile shown Fresh) reply world)) (sym e)
        (by_name (is_openable name) refl) may
    go (inr (no_block, no_name)) = denied (block name) no_name (subst (λ (t : Bool). MayOpen (if t then Some [] else None) reply world) no_block may)

pub tee_open_kept : (fds : List ℕ) (name : Name) (later : List Name) (world : World) (reply : Reply) → length fds + length later < 16 → AreAt 0 fds world.own world.files → May (OpenFile (block name) Fresh) reply world →
    left_open fds (name ∷ later) world ≡ left_of (tee_opened fds name later (fd_in reply)) 0 (after_call (OpenFile (block name) Fresh) reply world)
tee_open_kept fds name later world reply few at may =
    by_open (λ (t : Turn) (w : World). left_open fds (name ∷ later) world ≡ left_of t 0 w) fds name later world reply few
    (λ e. refused fds name later world e at)
    (λ fd e high new. granted fds name later world fd e at new)
    may

pub tee_open_waits : (fds : List ℕ) (name : Name) (later : List Name) (world : World) (reply : Reply) → length fds + length later < 16 → AreDistinct fds → AreAt 0 fds world.own world.files → May (OpenFile (block name) Fresh) reply world →
    Waits (tee_opened fds name later (fd_in reply)).next (tee_opened fds name later (fd_in reply)).call (after_call (OpenFile (block name) Fresh) reply world)
tee_open_waits fds name later world reply few distinct at may =
    by_open (λ (t : Turn) (w : World). Waits t.next t.call w) fds name later world reply few
    (λ e. (2, omega arith, omega arith, (_, refl)))
    (λ fd e high new. granted_waits fds name later world fd few distinct at high new)
    may

-- reads

pub tee_read_kept : (fds : List ℕ) (place : ℕ) (world : World) (bytes : Bytes) → AreAt place fds world.own world.files → Takes 512 world.input bytes →
    left_open fds [] world ≡ left_of (tee_got fds (yields bytes)) 0 (after_read 0 (yields bytes) world)
tee_read_kept fds place world [] at is =
    let none : world.input ≡ [] = is.some refl in
    (λ i. fixed (none i) [] (given fds world.own (none i) world.files))
    ∙ ap (λ (G : FileMap). fixed [] [] G) (none_given place fds world.own world.files at)
    ∙ ap (λ (z : Bytes). fixed [] z world.files) (sym none)
tee_read_kept fds place world (byte ∷ bytes) at is =
    ap (λ (z : Bytes). fixed z [] (given fds world.own z world.files)) (left_over 512 world.input (byte ∷ bytes) is)

pub tee_read_waits : (fds : List ℕ) (place : ℕ) (world : World) (bytes : Bytes) → AreDistinct fds → AreAt place fds world.own world.files →
    Waits (tee_got fds (yields bytes)).next (tee_got fds (yields bytes)).call (after_read 0 (yields bytes) world)
tee_read_waits fds place world [] distinct at = refl
tee_read_waits fds place world (byte ∷ bytes) distinct at = (refl, distinct, (place, at))

-- writes: a block goes to each file in turn

pub gives_next_kept : (fds : List ℕ) (at place : ℕ) (bytes : Bytes) (world : World) → AreAt place (drop at fds) world.own world.files →
    fixed world.input [] (given_block (drop at fds) (take at fds) world.own bytes world.input world.files) ≡ left_of (tee_gives_next fds at bytes) 0 world
gives_next_kept fds at place bytes world stands = go (nat_lt at (length fds)) refl
  where
    go : (more : Bool) → nat_lt at (length fds) ≡ more →
        fixed world.input [] (given_block (drop at fds) (take at fds) world.own bytes world.input world.files)
        ≡ left_of (if more then record { call = Write (slice_index_or fds at 0) bytes; next = tees (tee_gives fds at bytes) } else tee_waits fds) 0 world
    go true e =
        let inside : at < length fds = grind (arith, nat_tests) in
        let high = (subst (λ (ds : List ℕ). AreAt place ds world.own world.files) (drop-cons fds at 0 inside) stands).0 in
        ap (λ (t : Bool). after_bytes (if t then bytes else []) (tee_still (tee_gives fds at bytes) world)) (sym (ne_eqb (get_or fds at 0) 1 (λ same. absurd (omega (arith, high, same)))))
    go false e =
        let past : length fds ≤ at = grind (arith, nat_tests) in
        λ i. fixed world.input [] (given_block (drop_all at fds past i) (take_all at fds past i) world.own bytes world.input world.files)

pub gives_next_waits : (fds : List ℕ) (at place : ℕ) (bytes : Bytes) (world : World) → AreDistinct fds → AreAt (place + length bytes) (take at fds) world.own world.files → AreAt place (drop at fds) world.own world.files →
    Waits (tee_gives_next fds at bytes).next (tee_gives_next fds at bytes).call world
gives_next_waits fds at place bytes world distinct had stands = go (nat_lt at (length fds)) refl
  where
    go : (more : Bool) → nat_lt at (length fds) ≡ more →
        Waits (if more then record { call = Write (slice_index_or fds at 0) bytes; next = tees (tee_gives fds at bytes) } else tee_waits fds).next
        (if more then record { call = Write (slice_index_or fds at 0) bytes; next = tees (tee_gives fds at bytes) } else tee_waits fds).call world
    go true e = (refl, grind (arith, nat_tests), distinct, (place, had, stands))
    go false e =
        let past : length fds ≤ at = grind (arith, nat_tests) in
        (refl, distinct, (place + length bytes, subst (λ (ds : List ℕ). AreAt (place + length bytes) ds world.own world.files) (take_all at fds past) had))

-- a block was written to the first of the descriptors that wait for it
pub record Gave (waiting done next_waiting next_done : List ℕ) (bytes : Bytes) (place : ℕ) (world after : World) : Type 0 where
  pub value : fixed world.input [] (given_block waiting done world.own bytes world.input world.files) ≡ fixed after.input [] (given_block next_waiting next_done after.own bytes after.input after.files)
  pub had : AreAt (place + length bytes) next_done after.own after.files
  pub stands : AreAt place next_waiting after.own after.files

gave_first : (done : List ℕ) (fd : ℕ) (waiting : List ℕ) (bytes : Bytes) (place : ℕ) (world : World) → AreDistinct (done ++ fd ∷ waiting) →
    AreAt (place + length bytes) done world.own world.files → AreAt place (fd ∷ waiting) world.own world.files →
    Gave (fd ∷ waiting) done waiting (done ++ fd ∷ []) bytes place world (after_done_write fd bytes world)
gave_first done fd waiting bytes place world distinct had stands = go (held world.own fd) refl stands.1
  where
    F : FileMap
    F = world.files

    go : (h : Option OwnFile) → held world.own fd ≡ h → IsAt place h F → Gave (fd ∷ waiting) done waiting (done ++ fd ∷ []) bytes place world (after_done_write fd bytes world)
    go None is at = absurd at
    go (Some f) is at =
        let apart = others_apart done fd waiting distinct in
        let moved = moved_on world.own fd (length bytes) in
        let new = written (bytes_of (world.files f.name)) f.at bytes in
        let G = with_file world.files f.name new in
        subst (λ (w : World). Gave (fd ∷ waiting) done waiting (done ++ fd ∷ []) bytes place world w) (sym (own_write fd bytes world f stands.0 is))
        (record {
          value = ap (λ (H : FileMap). fixed world.input [] H) (block_given done waiting fd world.own f world.files place bytes world.input is at.0 stands.2 had apart.1 apart.0);
          had =
              at_append (place + length bytes) done (fd ∷ []) moved G (at_others (place + length bytes) done world.own world.files fd (length bytes) f.name new apart.0 had)
              (at_moved place world.own fd (length bytes) f world.files new is at.0 at.2 stands.0);
          stands = at_others place waiting world.own world.files fd (length bytes) f.name new apart.1 stands.2;
        })

pub gave : (fds : List ℕ) (at : ℕ) (bytes : Bytes) (place : ℕ) (world : World) → at < length fds → AreDistinct fds →
    AreAt (place + length bytes) (take at fds) world.own world.files → AreAt place (drop at fds) world.own world.files →
    Gave (drop at fds) (take at fds) (drop (at + 1) fds) (take (at + 1) fds) bytes place world (after_done_write (slice_index_or fds at 0) bytes world)
gave fds at bytes place world inside distinct had stands =
    let fd = get_or fds at 0 in
    let next : suc at ≡ at + 1 = omega arith in
    let cut : drop at fds ≡ fd ∷ drop (at + 1) fds = drop-cons fds at 0 inside ∙ ap (λ (n : ℕ). fd ∷ drop n fds) next in
    let more : take at fds ++ fd ∷ [] ≡ take (at + 1) fds = sym (take-suc fds at 0 inside) ∙ ap (λ (n : ℕ). take n fds) next in
    let whole : fds ≡ take at fds ++ fd ∷ drop (at + 1) fds = sym (take-append-drop at fds) ∙ ap (λ (ds : List ℕ). take at fds ++ ds) cut in
    subst (λ (ds : List ℕ). Gave ds (take at fds) (drop (at + 1) fds) (take (at + 1) fds) bytes place world (after_done_write fd bytes world)) (sym cut)
    (subst (λ (ds : List ℕ). Gave (fd ∷ drop (at + 1) fds) (take at fds) (drop (at + 1) fds) ds bytes place world (after_done_write fd bytes world)) more
    (gave_first (take at fds) fd (drop (at + 1) fds) bytes place world (subst AreDistinct whole distinct) had (subst (λ (ds : List ℕ). AreAt place ds world.own world.files) cut stands)))
