-- A program that is answered goes on, and what it may still write to each place is less by what it wrote.
use Rattle.std.proofs.Common.{◌≡◌, ◌≢◌, ◌⊎◌, inl, ℕ, ◌+◌, ◌<◌, ◌≤◌, Bool, true, false, List, ◌∷◌, Some, None, refl, ap, ◌∙◌, arith}
use Rattle.std.specs.Prelude.{◌||◌}
use Rattle.std.specs.List.{list_any}
use Rattle.mem_files.specs.Name.{Name, Bytes}
use Rattle.prog_parts.specs.declared.program.Program.{Program}
use Rattle.prog_parts.specs.Words.{files_written}
use Rattle.script_load.specs.declared.profile.Profile.{Profile}
use Rattle.user_calls.specs.declared.calls.Call.{Call}
use Rattle.user_calls.specs.declared.calls.Call.TheVariants.{Write}
use Rattle.user_calls.specs.declared.calls.Reply.{Reply}
use Rattle.user_progs.specs.State.{State}
use Rattle.user_progs.specs.Turn.{turn}
use Rattle.tree_model.specs.FilesAhead.{Sizes}
use Rattle.tree_model.specs.Tame.{Among, opened_after}
use Rattle.tree_model.specs.ProgramBytes.{call_bytes, later_bytes}
use Rattle.sh_machine.specs.State.{program}
use Rattle.process_model.specs.Seen.{Entry, Fds, fd_at, Act, free, zombie, live, View}
use Rattle.process_model.specs.Own.{IsWriter}
use Rattle.process_model.specs.Effect.{given, answered}
use Rattle.law_trees.proofs.tree_ends.TurnBytes.{turn_pays}
use Rattle.room_model.specs.Place.{counted_if}
use Rattle.law_limits.proofs.sizes.More.{counted_more}
use Rattle.law_limits.proofs.sizes.Doings.{NoFile, Goal, goes_by, has, names_of, written_by, Doing, runs, IsOwnFile, reads_left, writes_left, writes_to, may, IsRun, Is}
use Rattle.law_limits.proofs.sizes.Later.{Later, AllOld, run_old, fine_still, own_still, writes_less, to_same, by_same}
use Rattle.law_limits.proofs.sizes.Giving.{Answers, turn_reads, turn_asked}
use Rattle.law_limits.proofs.sizes.Effects.{cap}

-- another slot has what it had, but that it may have another parent, or that a zombie is gone
abbrev pub Kept : View → View → ℕ → ℕ → Type 0
Kept V W p q = (W.slots q ≡ V.slots q) ⊎ ((W.slots q ≡ given p (V.slots q)) ⊎ ((parent : ℕ) × (V.slots q ≡ zombie parent) × (W.slots q ≡ free)))

-- a pipe that isn't made gives nothing
abbrev pub GivesNone : ℕ → (ℕ → ℕ) → Type 0
GivesNone next N = (i : ℕ) → next ≤ i → N i ≡ 0

-- a process is at something else
pub record Goes (profile : Profile) (L : Sizes) (V W : View) (N : ℕ → ℕ) (p : ℕ) (doing : Doing) : Type 0 where
  pub to : Doing
  pub is : Is profile W p to
  pub left : ℕ → ℕ
  pub later : Later V W N left
  pub others : (q : ℕ) → q ≢ p → Kept V W p q
  pub zero : GivesNone V.next N → GivesNone W.next left
  pub names : (f : Name) → NoFile f doing → NoFile f to
  pub files : (f : Name) → NoFile f doing → V.files f ≡ None → W.files f ≡ None
  pub rate : (x : Goal) → has W x + may L W left x to + cap L N x ≤ has V x + may L V N x doing + cap L left x

counted_plus : (c : Bool) (m n : ℕ) → counted_if c (m + n) ≡ counted_if c m + counted_if c n
counted_plus true m n = refl
counted_plus false m n = refl

some_same : (x y : Entry) → Some x ≡ Some y → x ≡ y
some_same x y same = cc

module _ (profile : Profile) (L : Sizes) (V W : View) (N M : ℕ → ℕ) (p : ℕ) (which : Program) (arguments : List Bytes) (call : Call) (state : State) (put : ℕ) (d : Fds) where
  abbrev doing : Doing
  doing = runs which arguments call state put d

  abbrev counts : Goal → Bool
  counts x = writes_to L V N x which arguments d

  abbrev act : Act
  act = record { call = call; next = program state }

  module _ (r : IsRun profile V p which arguments call state put d) (later : Later V W N M) (others : (q : ℕ) → q ≢ p → Kept V W p q) (zero : GivesNone V.next N → GivesNone W.next M) (files : (f : Name) → written_by which arguments f ≡ false → V.files f ≡ None → W.files f ≡ None) where
    -- with the same input, output and messages
    module _ (e : Fds) (zeroth : fd_at e 0 ≡ fd_at d 0) (first : fd_at e 1 ≡ fd_at d 1) (second : fd_at e 2 ≡ fd_at d 2) where
      to_now : (x : Goal) → writes_to L W M x which arguments e ≡ counts x
      to_now x =
          ap (λ c. c || list_any (names_of x) (files_written which arguments))
          (ap (goes_by W x) first ∙ by_same L V W N M later x (fd_at d 1) (λ y is. run_old L V W N M later profile p which arguments call state put d r 1 y is))

      -- it is given this reply
      pub goes_on : (reply : Reply) → W.slots p ≡ answered r.parent act reply e → ((fd : ℕ) (x : Entry) → 2 < fd → fd_at e fd ≡ Some x → IsOwnFile W (written_by which arguments) x)
          → ((fd : ℕ) → Among fd (opened_after call reply r.opened) → 2 < fd) → Answers L V W N M d e state reply
          → ((x : Goal) → has W x + cap L N x ≤ has V x + cap L M x + counted_if (counts x) (call_bytes call put)) → Goes profile L V W N p doing
      goes_on reply slot above high answers gain = record {
        to = runs which arguments (turn state reply).call (turn state reply).next 0 e;
        is = record {
          parent = r.parent;
          slot = slot;
          a = r.a;
          b = r.b;
          input = zeroth ∙ r.input;
          output = first ∙ r.output;
          messages = second ∙ r.messages;
          fine = fine_still profile V W N M later r.a r.b r.fine;
          above = above;
          opened = opened_after call reply r.opened;
          tame = λ replies. (r.tame (reply ∷ replies)).1;
          asked = turn_asked state reply;
          high = high;
          part = inl refl;
        };
        left = M;
        later = later;
        others = others;
        zero = zero;
        names = λ f absent. absent;
        files = files;
        rate = rate;
      }
        where
          now : ℕ
          now = writes_left L W M (turn state reply).call (turn state reply).next 0 e

          was : ℕ
          was = later_bytes state (reads_left L V N d state)

          pays : now ≤ was
          pays = turn_pays state reply (reads_left L V N d state) (reads_left L W M e (turn state reply).next) (turn_reads L V W N M d e state reply answers)

          rate : (x : Goal) → has W x + counted_if (writes_to L W M x which arguments e) now + cap L N x ≤ has V x + may L V N x doing + cap L M x
          rate x =
              omega (
                arith,
                gain x,
                ap (λ c. counted_if c now) (to_now x),
                counted_more (counts x) now was pays,
                counted_plus (counts x) (call_bytes call put) was,
              )

    -- it makes the same call still, of which so many bytes are put now
    pub holds_on : (m : ℕ) → W.slots p ≡ live r.parent act m d → ((m ≡ 0) ⊎ (IsWriter r.b × ((bytes : Bytes) × (call ≡ Write 1 bytes))))
        → ((x : Goal) → has W x + cap L N x + counted_if (counts x) (call_bytes call m) ≤ has V x + cap L M x + counted_if (counts x) (call_bytes call put)) → Goes profile L V W N p doing
    holds_on m slot part gain = record {
      to = runs which arguments call state m d;
      is = record {
        parent = r.parent;
        slot = slot;
        a = r.a;
        b = r.b;
        input = r.input;
        output = r.output;
        messages = r.messages;
        fine = fine_still profile V W N M later r.a r.b r.fine;
        above = λ fd x up is. own_still profile V W N M later (written_by which arguments) x (r.above fd x up is);
        opened = r.opened;
        tame = r.tame;
        asked = r.asked;
        high = r.high;
        part = part;
      };
      left = M;
      later = later;
      others = others;
      zero = zero;
      names = λ f absent. absent;
      files = files;
      rate = rate;
    }
      where
        old_fds : AllOld L V W N M later d
        old_fds = run_old L V W N M later profile p which arguments call state put d r

        rate : (x : Goal) → has W x + counted_if (writes_to L W M x which arguments d) (writes_left L W M call state m d) + cap L N x ≤ has V x + may L V N x doing + cap L M x
        rate x =
            omega (
              arith,
              gain x,
              ap (λ c. counted_if c (writes_left L W M call state m d)) (to_same L V W N M later x which arguments d old_fds),
              counted_more (counts x) _ _ (writes_less L V W N M later call state m d old_fds),
              counted_plus (counts x) (call_bytes call put) (later_bytes state (reads_left L V N d state)),
              counted_plus (counts x) (call_bytes call m) (later_bytes state (reads_left L V N d state)),
            )
