-- tee's files: where they are open, and what a block that goes to one of them leaves for the others.
use Rattle.std.proofs.Common.{◌≡◌, ◌≢◌, ◌∙◌, ℕ, ◌+◌, ◌<◌, ◌==◌, Bool, true, false, List, [], ◌∷◌, ◌++◌, length, Option, Some, None, refl, sym, ap, subst, arith, append-nil, zero, suc}
use Rattle.std.specs.Prelude.{if◌then◌else◌}
use Rattle.std.specs.Str.{bytes_eq}
use Rattle.std.proofs.lemmas.Bool.{ne_eqb, eqb-true, eq-eqb}
use Rattle.std.proofs.lemmas.Slice.Eq.{bytes_eq-Decides}
use Rattle.std.proofs.Math.Seq.{drop-nil}
use Rattle.mem_files.specs.Name.{Name, Bytes}
use Rattle.mem_files.specs.Files.{FileMap, with_file, bytes_of}
use Rattle.mem_files.specs.Overlay.{written}
use Rattle.mem_files.proofs.Overlays.{written_start, written_none, written_twice, written_again}
use Rattle.tree_model.specs.Alone.{OwnFile, World, is_to_read, held, moved_on, after_file_write, after_done_write}
use Rattle.tree_model.specs.Given.{place_or, place_in, written_from, given, given_block, IsAt, AreAt, AreOthers, AreDistinct}

-- what is open at a descriptor, after one of them went on

pub held_fd : (own : List OwnFile) (fd : ℕ) (f : OwnFile) → held own fd ≡ Some f → f.fd ≡ fd
held_fd [] fd f e = cc
held_fd (g ∷ later) fd f e = go (g.fd == fd) refl (held_fd later fd f) e
  where
    go : (is : Bool) → (g.fd == fd) ≡ is → (held later fd ≡ Some f → f.fd ≡ fd) → (if is then Some g else held later fd) ≡ Some f → f.fd ≡ fd
    go true is ih e = let same : g ≡ f = cc in sym (ap (λ (o : OwnFile). o.fd) same) ∙ eqb-true g.fd fd is
    go false is ih e = ih e

pub held_moved : (own : List OwnFile) (fd count : ℕ) (f : OwnFile) → held own fd ≡ Some f → held (moved_on own fd count) fd ≡ Some (record f { at = f.at + count })
held_moved [] fd count f e = cc
held_moved (g ∷ later) fd count f e = go (g.fd == fd) refl (held_moved later fd count f) e
  where
    go : (is : Bool) → (g.fd == fd) ≡ is → (held later fd ≡ Some f → held (moved_on later fd count) fd ≡ Some (record f { at = f.at + count })) →
        (if is then Some g else held later fd) ≡ Some f → held (if is then record g { at = g.at + count } ∷ later else g ∷ moved_on later fd count) fd ≡ Some (record f { at = f.at + count })
    go true is ih e =
        let same : g ≡ f = cc in
        ap (λ (t : Bool). if t then Some (record g { at = g.at + count }) else held later fd) is
        ∙ ap (λ (h : OwnFile). Some (record h { at = h.at + count })) same
    go false is ih e = ap (λ (t : Bool). if t then Some g else held (moved_on later fd count) fd) is ∙ ih e

pub held_other : (own : List OwnFile) (fd other count : ℕ) → other ≢ fd → held (moved_on own fd count) other ≡ held own other
held_other [] fd other count apart = refl
held_other (g ∷ later) fd other count apart = go (g.fd == fd) refl (held_other later fd other count apart)
  where
    go : (is : Bool) → (g.fd == fd) ≡ is → held (moved_on later fd count) other ≡ held later other →
        held (if is then record g { at = g.at + count } ∷ later else g ∷ moved_on later fd count) other ≡ (if g.fd == other then Some g else held later other)
    go true is ih =
        let not_it : (g.fd == other) ≡ false = ne_eqb g.fd other (λ e. apart (sym e ∙ eqb-true g.fd fd is)) in
        ap (λ (t : Bool). if t then Some (record g { at = g.at + count }) else held later other) not_it ∙ sym (ap (λ (t : Bool). if t then Some g else held later other) not_it)
    go false is ih = ap (λ (h : Option OwnFile). if g.fd == other then Some g else h) ih

-- the place of a name, which all descriptors share

abbrev pub place_if : Bool → ℕ → Option ℕ
place_if is place = if is then Some place else None

abbrev pub IsPlace : ℕ → Option ℕ → Type 0
IsPlace place found = (is : Bool) × (found ≡ place_if is place)

pub placed : (place : ℕ) (fds : List ℕ) (own : List OwnFile) (F : FileMap) (name : Name) → AreAt place fds own F → IsPlace place (place_in fds own name)
placed place [] own F name at = (false, refl)
placed place (fd ∷ fds) own F name at = go (held own fd) at.1 (placed place fds own F name at.2)
  where
    go : (h : Option OwnFile) → IsAt place h F → IsPlace place (place_in fds own name) → IsPlace place (place_or h name (place_in fds own name))
    go None is later = absurd is
    go (Some f) is later = by_name (bytes_eq name f.name)
      where
        by_name : (t : Bool) → IsPlace place (if t then Some f.at else place_in fds own name)
        by_name true = (true, ap Some is.0)
        by_name false = later

place_other : (fds : List ℕ) (own : List OwnFile) (fd count : ℕ) (name : Name) → AreOthers fd fds → place_in fds (moved_on own fd count) name ≡ place_in fds own name
place_other [] own fd count name others = refl
place_other (other ∷ fds) own fd count name others =
    let here = held_other own fd other count others.0 in
    let later = place_other fds own fd count name others.1 in
    λ i. place_or (here i) name (later i)

abbrev first_place : Option ℕ → Option ℕ → Option ℕ
first_place None other = other
first_place (Some place) other = Some place

place_append : (fds more : List ℕ) (own : List OwnFile) (name : Name) → place_in (fds ++ more) own name ≡ first_place (place_in fds own name) (place_in more own name)
place_append [] more own name = refl
place_append (fd ∷ fds) more own name = go (held own fd) (place_append fds more own name)
  where
    go : (h : Option OwnFile) → place_in (fds ++ more) own name ≡ first_place (place_in fds own name) (place_in more own name) →
        place_or h name (place_in (fds ++ more) own name) ≡ first_place (place_or h name (place_in fds own name)) (place_in more own name)
    go None ih = ih
    go (Some f) ih = by_name (bytes_eq name f.name)
      where
        by_name : (t : Bool) → (if t then Some f.at else place_in (fds ++ more) own name) ≡ first_place (if t then Some f.at else place_in fds own name) (place_in more own name)
        by_name true = refl
        by_name false = ih

pub same_name : (name other : Name) → bytes_eq name other ≡ true → name ≡ other
same_name name other is = (bytes_eq-Decides name other).0 is

-- a block is written to the file of one descriptor; by name, it may be the file of this name, or that of a descriptor
-- that still waits for the block, or of one that has it
one_file : (here waits done : Bool) (before : Option Bytes) (place : ℕ) (block later : Bytes) →
    written_from (if here then Some place else place_if waits place) (block ++ later) before (written_from (place_if done (place + length block)) later before before)
    ≡ written_from (place_if waits place) (block ++ later) (if here then Some (written (bytes_of before) place block) else before)
    (written_from (first_place (place_if done (place + length block)) (place_if here (place + length block))) later (if here then Some (written (bytes_of before) place block) else before) (if here then Some (written (bytes_of before) place block) else before))
one_file true true done before place block later = ap Some (sym (written_again (bytes_of before) place block later))
one_file true false true before place block later = ap Some (sym (written_twice (bytes_of before) place block later))
one_file true false false before place block later = ap Some (sym (written_twice (bytes_of before) place block later))
one_file false waits true before place block later = refl
one_file false waits false before place block later = refl

pub block_given : (done waiting : List ℕ) (fd : ℕ) (own : List OwnFile) (f : OwnFile) (F : FileMap) (place : ℕ) (block later : Bytes) →
    held own fd ≡ Some f → f.at ≡ place → AreAt place waiting own F → AreAt (place + length block) done own F → AreOthers fd waiting → AreOthers fd done →
    given_block (fd ∷ waiting) done own block later F
    ≡ given_block waiting (done ++ fd ∷ []) (moved_on own fd (length block)) block later (with_file F f.name (written (bytes_of (F f.name)) f.at block))
block_given done waiting fd own f F place block later is at wait had apart_wait apart_had = λ i name. by_name name i
  where
    moved : List OwnFile
    moved = moved_on own fd (length block)

    by_name : (name : Name) → given_block (fd ∷ waiting) done own block later F name ≡ given_block waiting (done ++ fd ∷ []) moved block later (with_file F f.name (written (bytes_of (F f.name)) f.at block)) name
    by_name name = before ∙ one_file here w.0 d.0 (F name) place block later ∙ sym after
      where
        here : Bool
        here = bytes_eq name f.name

        w : IsPlace place (place_in waiting own name)
        w = placed place waiting own F name wait

        d : IsPlace (place + length block) (place_in done own name)
        d = placed (place + length block) done own F name had

        first : place_in (fd ∷ waiting) own name ≡ (if here then Some place else place_if w.0 place)
        first = ap (λ (h : Option OwnFile). place_or h name (place_in waiting own name)) is ∙ (λ i. if here then Some (at i) else w.1 i)

        before : given_block (fd ∷ waiting) done own block later F name
            ≡ written_from (if here then Some place else place_if w.0 place) (block ++ later) (F name) (written_from (place_if d.0 (place + length block)) later (F name) (F name))
        before = λ i. written_from (first i) (block ++ later) (F name) (written_from (d.1 i) later (F name) (F name))

        still : place_in waiting moved name ≡ place_if w.0 place
        still = place_other waiting own fd (length block) name apart_wait ∙ w.1

        last : place_in (fd ∷ []) moved name ≡ place_if here (place + length block)
        last = ap (λ (h : Option OwnFile). place_or h name None) (held_moved own fd (length block) f is) ∙ (λ i. if here then Some (at i + length block) else None)

        has : place_in (done ++ fd ∷ []) moved name ≡ first_place (place_if d.0 (place + length block)) (place_if here (place + length block))
        has =
            let ahead = place_other done own fd (length block) name apart_had ∙ d.1 in
            place_append done (fd ∷ []) moved name ∙ (λ i. first_place (ahead i) (last i))

        file : with_file F f.name (written (bytes_of (F f.name)) f.at block) name ≡ (if here then Some (written (bytes_of (F name)) place block) else F name)
        file = go here refl
          where
            go : (t : Bool) → bytes_eq name f.name ≡ t → (if t then Some (written (bytes_of (F f.name)) f.at block) else F name) ≡ (if t then Some (written (bytes_of (F name)) place block) else F name)
            go true e = let same = sym (same_name name f.name e) in λ i. Some (written (bytes_of (F (same i))) (at i) block)
            go false e = refl

        after : given_block waiting (done ++ fd ∷ []) moved block later (with_file F f.name (written (bytes_of (F f.name)) f.at block)) name
            ≡ written_from (place_if w.0 place) (block ++ later) (if here then Some (written (bytes_of (F name)) place block) else F name)
            (written_from (first_place (place_if d.0 (place + length block)) (place_if here (place + length block))) later (if here then Some (written (bytes_of (F name)) place block) else F name) (if here then Some (written (bytes_of (F name)) place block) else F name))
        after = λ i. written_from (still i) (block ++ later) (file i) (written_from (has i) later (file i) (file i))

-- at the end of the input no file changes any more
pub none_given : (place : ℕ) (fds : List ℕ) (own : List OwnFile) (F : FileMap) → AreAt place fds own F → given fds own [] F ≡ F
none_given place fds own F at = λ i name. by_name fds at name i
  where
    by_name : (fds : List ℕ) → AreAt place fds own F → (name : Name) → written_from (place_in fds own name) [] (F name) (F name) ≡ F name
    by_name [] at name = refl
    by_name (fd ∷ fds) at name = go (held own fd) at.1 (by_name fds at.2 name)
      where
        go : (h : Option OwnFile) → IsAt place h F → written_from (place_in fds own name) [] (F name) (F name) ≡ F name → written_from (place_or h name (place_in fds own name)) [] (F name) (F name) ≡ F name
        go None is ih = absurd is
        go (Some f) is ih = here (bytes_eq name f.name) refl
          where
            here : (t : Bool) → bytes_eq name f.name ≡ t → written_from (if t then Some f.at else place_in fds own name) [] (F name) (F name) ≡ F name
            here true e =
                let there : F name ≡ Some is.1.0 = ap F (same_name name f.name e) ∙ is.1.1 in
                ap Some (written_none (bytes_of (F name)) f.at) ∙ ap (λ (o : Option Bytes). Some (bytes_of o)) there ∙ sym there
            here false e = ih

-- a file that was just opened is given all
whole_file : (bytes : Bytes) → Some (written [] 0 bytes) ≡ Some bytes
whole_file bytes = ap Some (written_start [] bytes ∙ ap (λ (z : Bytes). bytes ++ z) (drop-nil (length bytes)) ∙ append-nil bytes)

pub opened_place : (fds : List ℕ) (own : List OwnFile) (new : OwnFile) (name : Name) → AreOthers new.fd fds → place_in fds (new ∷ own) name ≡ place_in fds own name
opened_place [] own new name others = refl
opened_place (fd ∷ fds) own new name others =
    let here = ap (λ (t : Bool). if t then Some new else held own fd) (ne_eqb new.fd fd (λ e. others.0 (sym e))) in
    let later = opened_place fds own new name others.1 in
    λ i. place_or (here i) name (later i)

pub opened_given : (fds : List ℕ) (own : List OwnFile) (new : OwnFile) (F : FileMap) (bytes : Bytes) → AreOthers new.fd fds → new.at ≡ 0 → AreAt 0 fds own F →
    with_file (given fds own bytes F) new.name bytes ≡ given (fds ++ new.fd ∷ []) (new ∷ own) bytes (with_file F new.name [])
opened_given fds own new F bytes others start at = λ i name. by_name name i
  where
    by_name : (name : Name) → with_file (given fds own bytes F) new.name bytes name ≡ given (fds ++ new.fd ∷ []) (new ∷ own) bytes (with_file F new.name []) name
    by_name name = ap (λ (o : Option ℕ). if here then Some bytes else written_from o bytes (F name) (F name)) w.1 ∙ cases here w.0 ∙ sym after
      where
        here : Bool
        here = bytes_eq name new.name

        w : IsPlace 0 (place_in fds own name)
        w = placed 0 fds own F name at

        itself : held (new ∷ own) new.fd ≡ Some new
        itself = ap (λ (t : Bool). if t then Some new else held own new.fd) (eq-eqb new.fd new.fd refl)

        last : place_in (new.fd ∷ []) (new ∷ own) name ≡ place_if here 0
        last = ap (λ (h : Option OwnFile). place_or h name None) itself ∙ (λ i. if here then Some (start i) else None)

        has : place_in (fds ++ new.fd ∷ []) (new ∷ own) name ≡ first_place (place_if w.0 0) (place_if here 0)
        has =
            let ahead = opened_place fds own new name others ∙ w.1 in
            place_append fds (new.fd ∷ []) (new ∷ own) name ∙ (λ i. first_place (ahead i) (last i))

        after : given (fds ++ new.fd ∷ []) (new ∷ own) bytes (with_file F new.name []) name
            ≡ written_from (first_place (place_if w.0 0) (place_if here 0)) bytes (if here then Some [] else F name) (if here then Some [] else F name)
        after = λ i. written_from (has i) bytes (if here then Some [] else F name) (if here then Some [] else F name)

        cases : (t was : Bool) → (if t then Some bytes else written_from (place_if was 0) bytes (F name) (F name))
            ≡ written_from (first_place (place_if was 0) (place_if t 0)) bytes (if t then Some [] else F name) (if t then Some [] else F name)
        cases true true = sym (whole_file bytes)
        cases true false = sym (whole_file bytes)
        cases false true = refl
        cases false false = refl

-- the descriptors stay where they are, or go on

still_there : (F : FileMap) (name other : Name) (bytes : Bytes) → ((had : Bytes) × (F name ≡ Some had)) → (has : Bytes) × (with_file F other bytes name ≡ Some has)
still_there F name other bytes (had, is) = go (bytes_eq name other)
  where
    go : (t : Bool) → (has : Bytes) × ((if t then Some bytes else F name) ≡ Some has)
    go true = (bytes, refl)
    go false = (had, is)

at_with : (place : ℕ) (h : Option OwnFile) (F : FileMap) (other : Name) (bytes : Bytes) → IsAt place h F → IsAt place h (with_file F other bytes)
at_with place None F other bytes is = absurd is
at_with place (Some f) F other bytes is = (is.0, still_there F f.name other bytes is.1, is.2)

pub at_others : (place : ℕ) (fds : List ℕ) (own : List OwnFile) (F : FileMap) (fd count : ℕ) (other : Name) (bytes : Bytes) → AreOthers fd fds → AreAt place fds own F →
    AreAt place fds (moved_on own fd count) (with_file F other bytes)
at_others place [] own F fd count other bytes others at = tt
at_others place (next ∷ fds) own F fd count other bytes others at =
    (at.0, subst (λ (h : Option OwnFile). IsAt place h (with_file F other bytes)) (sym (held_other own fd next count others.0)) (at_with place (held own next) F other bytes at.1), at_others place fds own F fd count other bytes others.1 at.2)

pub at_append : (place : ℕ) (fds more : List ℕ) (own : List OwnFile) (F : FileMap) → AreAt place fds own F → AreAt place more own F → AreAt place (fds ++ more) own F
at_append place [] more own F at behind = behind
at_append place (fd ∷ fds) more own F at behind = (at.0, at.1, at_append place fds more own F at.2 behind)

pub at_moved : (place : ℕ) (own : List OwnFile) (fd count : ℕ) (f : OwnFile) (F : FileMap) (bytes : Bytes) → held own fd ≡ Some f → f.at ≡ place → is_to_read f.mode ≡ false → 2 < fd →
    AreAt (place + count) (fd ∷ []) (moved_on own fd count) (with_file F f.name bytes)
at_moved place own fd count f F bytes is at mode high =
    (high, subst (λ (h : Option OwnFile). IsAt (place + count) h (with_file F f.name bytes)) (sym (held_moved own fd count f is)) (ap (λ (p : ℕ). p + count) at, there, mode), tt)
  where
    there : (has : Bytes) × (with_file F f.name bytes f.name ≡ Some has)
    there = (bytes, ap (λ (t : Bool). if t then Some bytes else F f.name) ((bytes_eq-Decides f.name f.name).1 refl))

-- a descriptor at which nothing is open is none of them
pub new_other : (place : ℕ) (fds : List ℕ) (own : List OwnFile) (F : FileMap) (fd : ℕ) → held own fd ≡ None → AreAt place fds own F → AreOthers fd fds
new_other place [] own F fd new at = tt
new_other place (other ∷ fds) own F fd new at =
    ((λ e. subst (λ (h : Option OwnFile). IsAt place h F) (ap (held own) e ∙ new) at.1), new_other place fds own F fd new at.2)

pub at_opened : (fds : List ℕ) (own : List OwnFile) (new : OwnFile) (F : FileMap) → AreOthers new.fd fds → AreAt 0 fds own F → AreAt 0 fds (new ∷ own) (with_file F new.name [])
at_opened [] own new F others at = tt
at_opened (fd ∷ fds) own new F others at =
    let here = ap (λ (t : Bool). if t then Some new else held own fd) (ne_eqb new.fd fd (λ e. others.0 (sym e))) in
    (at.0, subst (λ (h : Option OwnFile). IsAt 0 h (with_file F new.name [])) (sym here) (at_with 0 (held own fd) F new.name [] at.1), at_opened fds own new F others.1 at.2)

pub at_new : (own : List OwnFile) (new : OwnFile) (F : FileMap) → 2 < new.fd → new.at ≡ 0 → is_to_read new.mode ≡ false → AreAt 0 (new.fd ∷ []) (new ∷ own) (with_file F new.name [])
at_new own new F high start mode =
    let itself = ap (λ (t : Bool). if t then Some new else held own new.fd) (eq-eqb new.fd new.fd refl) in
    let there : with_file F new.name [] new.name ≡ Some [] = ap (λ (t : Bool). if t then Some [] else F new.name) ((bytes_eq-Decides new.name new.name).1 refl) in
    (high, subst (λ (h : Option OwnFile). IsAt 0 h (with_file F new.name [])) (sym itself) (start, ([], there), mode), tt)

-- none comes twice

pub others_apart : (done : List ℕ) (fd : ℕ) (waiting : List ℕ) → AreDistinct (done ++ fd ∷ waiting) → AreOthers fd done × AreOthers fd waiting
others_apart [] fd waiting distinct = (tt, distinct.0)
others_apart (first ∷ done) fd waiting distinct =
    let later = others_apart done fd waiting distinct.1 in
    (((λ e. behind done distinct.0 (sym e)), later.0), later.1)
  where
    behind : (done : List ℕ) → AreOthers first (done ++ fd ∷ waiting) → fd ≢ first
    behind [] others = others.0
    behind (next ∷ done) others = behind done others.1

pub distinct_more : (fds : List ℕ) (fd : ℕ) → AreDistinct fds → AreOthers fd fds → AreDistinct (fds ++ fd ∷ [])
distinct_more [] fd distinct others = (tt, tt)
distinct_more (first ∷ fds) fd distinct others = (others_more fds distinct.0, distinct_more fds fd distinct.1 others.1)
  where
    others_more : (fds : List ℕ) → AreOthers first fds → AreOthers first (fds ++ fd ∷ [])
    others_more [] apart = ((λ e. others.0 (sym e)), tt)
    others_more (next ∷ fds) apart = (apart.0, others_more fds apart.1)

-- a write to a file of its own
pub own_write : (fd : ℕ) (bytes : Bytes) (world : World) (f : OwnFile) → 2 < fd → held world.own fd ≡ Some f →
    after_done_write fd bytes world ≡ record world { own = moved_on world.own fd (length bytes); files = with_file world.files f.name (written (bytes_of (world.files f.name)) f.at bytes) }
own_write fd bytes world f high is =
    to_file fd high
    ∙ ap (λ (h : Option OwnFile). after_file_write h bytes world) is
    ∙ ap (λ (d : ℕ). record world { own = moved_on world.own d (length bytes); files = with_file world.files f.name (written (bytes_of (world.files f.name)) f.at bytes) }) (held_fd world.own fd f is)
  where
    to_file : (fd : ℕ) → 2 < fd → after_done_write fd bytes world ≡ after_file_write (held world.own fd) bytes world
    to_file zero high = absurd (omega (arith, high))
    to_file (suc zero) high = absurd (omega (arith, high))
    to_file (suc (suc zero)) high = absurd (omega (arith, high))
    to_file (suc (suc (suc fd))) high = refl
