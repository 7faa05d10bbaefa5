-- A program that waits for the reply to a call waits for it too over another input and among other files, as long as the files
-- that it holds open to write are there.
use Rattle.std.proofs.Common.{◌≡◌, ◌∙◌, ℕ, ◌+◌, ◌≤◌, Bool, true, false, List, [], ◌∷◌, length, take, drop, Option, Some, None, refl, sym, ap, subst}
use Rattle.std.specs.Prelude.{◌||◌, if◌then◌else◌}
use Rattle.std.specs.Str.{bytes_eq}
use Rattle.std.specs.Option.{is_some}
use Rattle.std.proofs.lemmas.Slice.Eq.{bytes_eq-Decides}
use Rattle.std.proofs.lemmas.Bool.{or_left, or_right, or_from}
use Rattle.mem_files.specs.Name.{Name, Bytes}
use Rattle.mem_files.specs.Files.{FileMap, bytes_of}
use Rattle.user_calls.specs.declared.calls.Call.{Call}
use Rattle.user_progs.specs.State.{Source, standard, file, Tee, tee_opens, tee_reads, tee_writes, tee_gives, State, begins, echo_word, echo_space, opens, works, closes, tees, told, ended}
use Rattle.tree_model.specs.Ahead.{still_opens, still_writes}
use Rattle.tree_model.specs.Alone.{OwnFile, World, held}
use Rattle.tree_model.specs.Given.{place_or, place_in, IsAt, AreAt}
use Rattle.tree_model.specs.Waits.{IsOpen, TeeWaits, Waits}
use Rattle.tree_model.specs.Frame.{is_given, tee_holds, holds, holds_to_write, depends_on, may_change}
use Rattle.tree_model.specs.Fits.{IsWithin, AreWithin, outputs, Fits}
use Rattle.law_trees.proofs.programs.Framing.{itself}
use Rattle.law_trees.proofs.programs.Holding.{cut_given, written_held}
use Rattle.meaning_model.proofs.Bools.{not_left, not_right}

abbrev pub elsewhere : World → Bytes → FileMap → World
elsewhere world input G = record world { input = input; files = G }

-- which files it depends on, and which it may change, follows from its open files alone
holds_alike : (state : State) (world : World) (i : Bytes) (G : FileMap) (n : Name) → holds state (elsewhere world i G) n ≡ holds state world n
holds_alike (begins program arguments) world i G n = refl
holds_alike (echo_word later) world i G n = refl
holds_alike (echo_space later) world i G n = refl
holds_alike (opens filter current later) world i G n = refl
holds_alike (works work standard) world i G n = refl
holds_alike (works work (file fd name later)) world i G n = refl
holds_alike (closes filter later) world i G n = refl
holds_alike (tees (tee_opens fds name later)) world i G n = refl
holds_alike (tees (tee_reads fds)) world i G n = refl
holds_alike (tees (tee_writes fds bytes)) world i G n = refl
holds_alike (tees (tee_gives fds at bytes)) world i G n = refl
holds_alike told world i G n = refl
holds_alike ended world i G n = refl

writes_alike : (state : State) (world : World) (i : Bytes) (G : FileMap) (n : Name) → holds_to_write state (elsewhere world i G) n ≡ holds_to_write state world n
writes_alike (begins program arguments) world i G n = refl
writes_alike (echo_word later) world i G n = refl
writes_alike (echo_space later) world i G n = refl
writes_alike (opens filter current later) world i G n = refl
writes_alike (works work source) world i G n = refl
writes_alike (closes filter later) world i G n = refl
writes_alike (tees (tee_opens fds name later)) world i G n = refl
writes_alike (tees (tee_reads fds)) world i G n = refl
writes_alike (tees (tee_writes fds bytes)) world i G n = refl
writes_alike (tees (tee_gives fds at bytes)) world i G n = refl
writes_alike told world i G n = refl
writes_alike ended world i G n = refl

pub depends_alike : (state : State) (world : World) (i : Bytes) (G : FileMap) (n : Name) → depends_on state (elsewhere world i G) n ≡ depends_on state world n
depends_alike state world i G n = ap (λ (b : Bool). still_opens state n || b) (holds_alike state world i G n)

pub changes_alike : (state : State) (world : World) (i : Bytes) (G : FileMap) (n : Name) → may_change state (elsewhere world i G) n ≡ may_change state world n
changes_alike state world i G n = ap (λ (b : Bool). still_writes state n || b) (writes_alike state world i G n)

-- what it may change it depends on
opens_first : (state : State) (n : Name) → still_opens state n ≡ false → still_writes state n ≡ false
opens_first (begins program arguments) n e = not_right _ (still_writes (begins program arguments) n) e
opens_first (echo_word later) n e = refl
opens_first (echo_space later) n e = refl
opens_first (opens filter current later) n e = refl
opens_first (works work source) n e = refl
opens_first (closes filter later) n e = refl
opens_first (tees tee) n e = e
opens_first told n e = refl
opens_first ended n e = refl

pub depends_first : (state : State) (world : World) (n : Name) → depends_on state world n ≡ false → may_change state world n ≡ false
depends_first state world n e =
    or_from (still_writes state n) (holds_to_write state world n) (opens_first state n (not_left (still_opens state n) (holds state world n) e)) (written_held state world n (not_right (still_opens state n) (holds state world n) e))

-- names at descriptors
pub given_here : (own : OwnFile) (other : Option ℕ) → is_some (place_or (Some own) own.name other) ≡ true
given_here own other = ap (λ (b : Bool). is_some (if b then Some own.at else other)) (itself own.name)

pub given_later : (h : Option OwnFile) (n : Name) (other : Option ℕ) → is_some other ≡ true → is_some (place_or h n other) ≡ true
given_later None n other e = e
given_later (Some own) n other e = go (bytes_eq n own.name)
  where
    go : (b : Bool) → is_some (if b then Some own.at else other) ≡ true
    go true = refl
    go false = e

-- the files that are held open to write stay there
abbrev pub Stays : (Name → Bool) → FileMap → Type 0
Stays names G = (n : Name) → names n ≡ true → is_some (G n) ≡ true

some_bytes : (o : Option Bytes) → is_some o ≡ true → (bytes : Bytes) × (o ≡ Some bytes)
some_bytes None e = cc
some_bytes (Some bytes) e = (bytes, refl)

at_elsewhere : (place : ℕ) (fds : List ℕ) (own : List OwnFile) (F G : FileMap) → Stays (is_given fds own) G → AreAt place fds own F → AreAt place fds own G
at_elsewhere place [] own F G stays at = tt
at_elsewhere place (fd ∷ fds) own F G stays at =
    (at.0, here (held own fd) at.1 (λ n e. stays n e), at_elsewhere place fds own F G (λ n e. stays n (given_later (held own fd) n (place_in fds own n) e)) at.2)
  where
    here : (h : Option OwnFile) → IsAt place h F → ((n : Name) → is_some (place_or h n (place_in fds own n)) ≡ true → is_some (G n) ≡ true) → IsAt place h G
    here None at stays = absurd at
    here (Some o) at stays = (at.0, some_bytes (G o.name) (stays o.name (given_here o (place_in fds own o.name))), at.2)

tee_elsewhere : (tee : Tee) (call : Call) (world : World) (i : Bytes) (G : FileMap) → TeeWaits tee call world → Stays (tee_holds tee world) G → TeeWaits tee call (elsewhere world i G)
tee_elsewhere (tee_opens fds name later) call world i G (is, few, distinct, at) stays = (is, few, distinct, at_elsewhere 0 fds world.own world.files G stays at)
tee_elsewhere (tee_reads fds) call world i G (is, distinct, (place, at)) stays = (is, distinct, (place, at_elsewhere place fds world.own world.files G stays at))
tee_elsewhere (tee_writes fds bytes) call world i G (is, distinct, (place, at)) stays = (is, distinct, (place, at_elsewhere place fds world.own world.files G stays at))
tee_elsewhere (tee_gives fds k bytes) call world i G (is, inside, distinct, (place, had, stands)) stays =
    let own = world.own in
    let waiting = drop k fds in
    let done = take k fds in (
      is,
      inside,
      distinct,
      (
        place,
        at_elsewhere (place + length bytes) done own world.files G (λ n e. stays n (or_right (is_given waiting own n) (is_given done own n) e)) had,
        at_elsewhere place waiting own world.files G (λ n e. stays n (or_left (is_given waiting own n) (is_given done own n) e)) stands,
      ),
    )

open_elsewhere : (source : Source) (world : World) (i : Bytes) (G : FileMap) → IsOpen source world → IsOpen source (elsewhere world i G)
open_elsewhere standard world i G is = tt
open_elsewhere (file fd name later) world i G is = is

pub waits_elsewhere : (state : State) (call : Call) (world : World) (i : Bytes) (G : FileMap) → Waits state call world → Stays (holds_to_write state world) G → Waits state call (elsewhere world i G)
waits_elsewhere (begins program arguments) call world i G waits stays = waits
waits_elsewhere (echo_word later) call world i G waits stays = waits
waits_elsewhere (echo_space later) call world i G waits stays = waits
waits_elsewhere (opens filter current later) call world i G waits stays = waits
waits_elsewhere (works work source) call world i G waits stays = (waits.0, open_elsewhere source world i G waits.1)
waits_elsewhere (closes filter later) call world i G waits stays = waits
waits_elsewhere (tees tee) call world i G waits stays = tee_elsewhere tee call world i G waits stays
waits_elsewhere told call world i G waits stays = waits
waits_elsewhere ended call world i G waits stays = waits

-- where it waits, they are there
at_there : (place : ℕ) (fds : List ℕ) (own : List OwnFile) (F : FileMap) → AreAt place fds own F → Stays (is_given fds own) F
at_there place [] own F at n e = cc
at_there place (fd ∷ fds) own F at n e = here (held own fd) at.1 e (at_there place fds own F at.2 n)
  where
    here : (h : Option OwnFile) → IsAt place h F → is_some (place_or h n (place_in fds own n)) ≡ true → (is_given fds own n ≡ true → is_some (F n) ≡ true) → is_some (F n) ≡ true
    here None at e later = absurd at
    here (Some o) at e later = by_name (bytes_eq n o.name) refl e
      where
        by_name : (t : Bool) → bytes_eq n o.name ≡ t → is_some (if t then Some o.at else place_in fds own n) ≡ true → is_some (F n) ≡ true
        by_name true same e = ap (λ (m : Name). is_some (F m)) ((bytes_eq-Decides n o.name).0 same) ∙ ap is_some at.1.1
        by_name false same e = later e

either : (a b : Bool) (c : Bool) → (a || b) ≡ true → (a ≡ true → c ≡ true) → (b ≡ true → c ≡ true) → c ≡ true
either true b c e left right = left refl
either false b c e left right = right e

tee_there : (tee : Tee) (call : Call) (world : World) → TeeWaits tee call world → Stays (tee_holds tee world) world.files
tee_there (tee_opens fds name later) call world waits = at_there 0 fds world.own world.files waits.3
tee_there (tee_reads fds) call world (is, distinct, (place, at)) = at_there place fds world.own world.files at
tee_there (tee_writes fds bytes) call world (is, distinct, (place, at)) = at_there place fds world.own world.files at
tee_there (tee_gives fds k bytes) call world (is, inside, distinct, (place, had, stands)) = λ n e.
    either (is_given (drop k fds) world.own n) (is_given (take k fds) world.own n) (is_some (world.files n)) e
    (at_there place (drop k fds) world.own world.files stands n) (at_there (place + length bytes) (take k fds) world.own world.files had n)

pub is_there : (state : State) (call : Call) (world : World) → Waits state call world → Stays (holds_to_write state world) world.files
is_there (begins program arguments) call world waits n e = cc
is_there (echo_word later) call world waits n e = cc
is_there (echo_space later) call world waits n e = cc
is_there (opens filter current later) call world waits n e = cc
is_there (works work source) call world waits n e = cc
is_there (closes filter later) call world waits n e = cc
is_there (tees tee) call world waits n e = tee_there tee call world waits n e
is_there told call world waits n e = cc
is_there ended call world waits n e = cc

-- so it does among files that agree on what it depends on
held_depends : (state : State) (world : World) (n : Name) → holds_to_write state world n ≡ true → depends_on state world n ≡ true
held_depends state world n e = or_right (still_opens state n) (holds state world n) (go (holds state world n) refl)
  where
    go : (is : Bool) → holds state world n ≡ is → is ≡ true
    go true none = refl
    go false none = let never : true ≡ false = sym e ∙ written_held state world n none in cc

pub waits_agree : (state : State) (call : Call) (world : World) (i : Bytes) (G : FileMap) → Waits state call world → ((n : Name) → depends_on state world n ≡ true → world.files n ≡ G n) → Waits state call (elsewhere world i G)
waits_agree state call world i G waits agree =
    waits_elsewhere state call world i G waits (λ n e. ap is_some (sym (agree n (held_depends state world n e))) ∙ is_there state call world waits n e)

-- what goes on within its files does so among files that agree on them
abbrev Agrees : (Name → Bool) → FileMap → FileMap → Type 0
Agrees names F G = (n : Name) → names n ≡ true → F n ≡ G n

within_elsewhere : (fds : List ℕ) (own : List OwnFile) (F G : FileMap) → Agrees (is_given fds own) F G → AreWithin fds own F → AreWithin fds own G
within_elsewhere [] own F G same within = tt
within_elsewhere (fd ∷ fds) own F G same within =
    (here (held own fd) within.0 (λ n e. same n e), within_elsewhere fds own F G (λ n e. same n (given_later (held own fd) n (place_in fds own n) e)) within.1)
  where
    here : (h : Option OwnFile) → IsWithin h F → ((n : Name) → is_some (place_or h n (place_in fds own n)) ≡ true → F n ≡ G n) → IsWithin h G
    here None within same = absurd within
    here (Some o) within same = subst (λ (b : Option Bytes). o.at ≤ length (bytes_of b)) (same o.name (given_here o (place_in fds own o.name))) within

cut_holds : (k : ℕ) (fds : List ℕ) (own : List OwnFile) (n : Name) → is_given fds own n ≡ true → (is_given (drop k fds) own n || is_given (take k fds) own n) ≡ true
cut_holds k fds own n e =
    let done = is_given (take k fds) own n in
    let waiting = is_given (drop k fds) own n in
    either done waiting (waiting || done) (sym (cut_given k fds own n) ∙ e) (or_right waiting done) (or_left waiting done)

fits_tee : (tee : Tee) (world : World) (i : Bytes) (G : FileMap) → AreWithin (outputs tee) world.own world.files → Agrees (tee_holds tee world) world.files G → AreWithin (outputs tee) world.own G
fits_tee (tee_opens fds name later) world i G within same = within_elsewhere fds world.own world.files G same within
fits_tee (tee_reads fds) world i G within same = within_elsewhere fds world.own world.files G same within
fits_tee (tee_writes fds bytes) world i G within same = within_elsewhere fds world.own world.files G same within
fits_tee (tee_gives fds k bytes) world i G within same = within_elsewhere fds world.own world.files G (λ n e. same n (cut_holds k fds world.own n e)) within

pub fits_elsewhere : (state : State) (world : World) (i : Bytes) (G : FileMap) → Fits state world → Agrees (holds_to_write state world) world.files G → Fits state (elsewhere world i G)
fits_elsewhere (begins program arguments) world i G fits same = tt
fits_elsewhere (echo_word later) world i G fits same = tt
fits_elsewhere (echo_space later) world i G fits same = tt
fits_elsewhere (opens filter current later) world i G fits same = tt
fits_elsewhere (works work source) world i G fits same = tt
fits_elsewhere (closes filter later) world i G fits same = tt
fits_elsewhere (tees tee) world i G fits same = fits_tee tee world i G fits same
fits_elsewhere told world i G fits same = tt
fits_elsewhere ended world i G fits same = tt
