-- What the call may be for whose reply a state waits.
use Rattle.std.proofs.Common.{◌≡◌, ◌∙◌, ℕ, zero, suc, ◌+◌, ◌-◌, ◌<◌, ◌≤◌, Bool, true, false, List, [], ◌∷◌, length, take, drop, Option, Some, None, refl, sym, ap, subst, arith}
use Rattle.std.specs.Prelude.{if◌then◌else◌, slice_index_or}
use Rattle.std.specs.Str.{bytes_eq}
use Rattle.std.specs.Option.{is_some}
use Rattle.std.proofs.lemmas.List.{take_all, drop_more}
use Rattle.std.proofs.lemmas.Bool.{or_left, or_right}
use Rattle.mem_files.specs.Name.{Name, Bytes, is_openable}
use Rattle.mem_files.specs.Files.{FileMap}
use Rattle.prog_parts.specs.NameSets.{among}
use Rattle.user_calls.specs.Limits.{block_size}
use Rattle.user_calls.specs.declared.calls.Call.{Call}
use Rattle.user_calls.specs.declared.calls.Call.TheVariants.{Read}
use Rattle.meaning_model.specs.Inputs.{found}
use Rattle.user_progs.specs.State.{Source, standard, file, Work, cat_reads, cat_writes, head_reads, head_writes, wc_reads, wc_writes, grep_reads, grep_writes, Tee, tee_opens, tee_reads, tee_writes, tee_gives, State, begins, echo_word, echo_space, opens, works, closes, tees, told, ended}
use Rattle.user_progs.specs.Turn.{block, fd_of}
use Rattle.tree_model.specs.Alone.{OwnFile, World, held}
use Rattle.tree_model.specs.Given.{place_or, place_in, IsAt, AreAt}
use Rattle.tree_model.specs.Waits.{IsWrite, IsOpenToRead, IsOpen, WorkWaits, TeeWaits, Waits}
use Rattle.tree_model.specs.Frame.{is_held, is_given, depends_on, may_change}
use Rattle.tree_model.specs.Calls.{IsOwn, ReadsOpen, WritesOpen, MayCall}
use Rattle.law_trees.proofs.programs.Keeps.{found_short}
use Rattle.law_trees.proofs.programs.Framing.{itself}
use Rattle.law_trees.proofs.programs.Elsewhere.{given_here}

-- a name that can be opened is no longer than a block
short_block : (name : Name) → is_openable (block name) ≡ true → block name ≡ name
short_block name e =
    let F : FileMap = λ n. Some [] in
    let has : found F (block name) ≡ Some [] = ap (λ (b : Bool). if b then Some [] else None) e in
    take_all block_size name (omega (arith, found_short F name [] has))

opens_first : (name : Name) (later : List Name) → is_openable (block name) ≡ true → among (name ∷ later) (block name) ≡ true
opens_first name later e = ap (λ (n : Name). among (name ∷ later) n) (short_block name e) ∙ or_left (bytes_eq name name) (among later name) (itself name)

-- a read of an input
reads_source : (work : Work) (source : Source) (world : World) → IsOpen source world → ReadsOpen (fd_of source) (works work source) world
reads_source work standard world is = refl
reads_source work (file zero name later) world is = absurd (omega (arith, is.0))
reads_source work (file (suc fd) name later) world is = go (held world.own (suc fd)) refl is.2
  where
    go : (h : Option OwnFile) → held world.own (suc fd) ≡ h → IsOpenToRead name h → IsOwn (suc fd) true (depends_on (works work (file (suc fd) name later)) world) world
    go None e held_so = absurd held_so
    go (Some own) e held_so =
        record {
          own = own;
          held = e;
          mode = held_so.1;
          named = or_right (among later own.name) _ (ap (λ (h : Option OwnFile). is_held h own.name) e ∙ itself own.name);
        }

reads_call : (work : Work) (source : Source) (most : ℕ) (call : Call) (world : World) → IsOpen source world → 1 ≤ most → most ≤ block_size → call ≡ Read (fd_of source) most → MayCall call (works work source) world
reads_call work source most call world ready some few is = subst (λ (c : Call). MayCall c (works work source) world) (sym is) (some, few, reads_source work source world ready)

writes_call : (state : State) (call : Call) (world : World) → IsWrite 1 call → MayCall call state world
writes_call state call world (bytes, is) = subst (λ (c : Call). MayCall c state world) (sym is) tt

work_calls : (work : Work) (source : Source) (call : Call) (world : World) → WorkWaits work (fd_of source) call → IsOpen source world → MayCall call (works work source) world
work_calls cat_reads source call world waits ready = reads_call cat_reads source 512 call world ready (omega arith) (omega arith) waits
work_calls cat_writes source call world waits ready = writes_call _ call world waits
work_calls (head_reads lines wanted) source call world waits ready = reads_call (head_reads lines wanted) source 1 call world ready (omega arith) (omega arith) waits.1
work_calls (head_writes lines wanted) source call world waits ready = writes_call _ call world waits
work_calls (wc_reads lines words count inside) source call world (a, b, c, is) ready = reads_call (wc_reads lines words count inside) source 512 call world ready (omega arith) (omega arith) is
work_calls wc_writes source call world waits ready = writes_call _ call world waits
work_calls (grep_reads pattern kept) source call world (none, few, is) ready = reads_call (grep_reads pattern kept) source (1023 - length kept) call world ready (omega (arith, few)) (omega arith) is
work_calls (grep_writes pattern rest) source call world waits ready = writes_call _ call world waits.1

-- a write to a file of its own
writes_own : (fd : ℕ) (state : State) (world : World) → 2 < fd → IsOwn fd false (may_change state world) world → WritesOpen fd state world
writes_own zero state world high own = absurd (omega (arith, high))
writes_own (suc zero) state world high own = tt
writes_own (suc (suc zero)) state world high own = tt
writes_own (suc (suc (suc fd))) state world high own = own

given_to : (fds : List ℕ) (k place : ℕ) (bytes : Bytes) (world : World) → k < length fds → AreAt place (drop k fds) world.own world.files →
    WritesOpen (slice_index_or fds k 0) (tees (tee_gives fds k bytes)) world
given_to fds k place bytes world inside stands = go (held world.own fd) refl at.1
  where
    fd : ℕ
    fd = slice_index_or fds k 0

    cut : drop k fds ≡ fd ∷ drop (k + 1) fds
    cut = drop_more fds k 0 inside

    at : AreAt place (fd ∷ drop (k + 1) fds) world.own world.files
    at = subst (λ (ds : List ℕ). AreAt place ds world.own world.files) cut stands

    go : (h : Option OwnFile) → held world.own fd ≡ h → IsAt place h world.files → WritesOpen fd (tees (tee_gives fds k bytes)) world
    go None e is = absurd is
    go (Some own) e is =
        writes_own fd (tees (tee_gives fds k bytes)) world at.0
        (record {
          own = own;
          held = e;
          mode = is.2;
          named =
              or_left (is_given (drop k fds) world.own own.name) (is_given (take k fds) world.own own.name)
              (ap (λ (ds : List ℕ). is_given ds world.own own.name) cut
              ∙ ap (λ (h : Option OwnFile). is_some (place_or h own.name (place_in (drop (k + 1) fds) world.own own.name))) e
              ∙ given_here own (place_in (drop (k + 1) fds) world.own own.name));
        })

tee_calls : (tee : Tee) (call : Call) (world : World) → TeeWaits tee call world → MayCall call (tees tee) world
tee_calls (tee_opens fds name later) call world (is, few, distinct, at) = subst (λ (c : Call). MayCall c (tees (tee_opens fds name later)) world) (sym is) (opens_first name later)
tee_calls (tee_reads fds) call world (is, distinct, at) = subst (λ (c : Call). MayCall c (tees (tee_reads fds)) world) (sym is) (omega arith, omega arith, refl)
tee_calls (tee_writes fds bytes) call world (is, distinct, at) = subst (λ (c : Call). MayCall c (tees (tee_writes fds bytes)) world) (sym is) tt
tee_calls (tee_gives fds k bytes) call world (is, inside, distinct, (place, had, stands)) =
    subst (λ (c : Call). MayCall c (tees (tee_gives fds k bytes)) world) (sym is) (given_to fds k place bytes world inside stands)

told_writes : (fd : ℕ) (world : World) → 0 < fd → fd < 3 → WritesOpen fd told world
told_writes zero world some low = absurd (omega (arith, some))
told_writes (suc zero) world some low = tt
told_writes (suc (suc zero)) world some low = tt
told_writes (suc (suc (suc fd))) world some low = absurd (omega (arith, low))

pub calls : (state : State) (call : Call) (world : World) → Waits state call world → MayCall call state world
calls (begins program arguments) call world waits = subst (λ (c : Call). MayCall c (begins program arguments) world) (sym waits.0) refl
calls (echo_word later) call world waits = writes_call _ call world waits.0
calls (echo_space later) call world waits = writes_call _ call world waits.0
calls (opens filter name later) call world waits = subst (λ (c : Call). MayCall c (opens filter name later) world) (sym waits) (opens_first name later)
calls (works work source) call world waits = work_calls work source call world waits.0 waits.1
calls (closes filter later) call world (fd, is, held_so) = subst (λ (c : Call). MayCall c (closes filter later) world) (sym is) held_so
calls (tees tee) call world waits = tee_calls tee call world waits
calls told call world (fd, some, low, (bytes, is)) = subst (λ (c : Call). MayCall c told world) (sym is) (told_writes fd world some low)
calls ended call world waits = subst (λ (c : Call). MayCall c ended world) (sym waits) tt
