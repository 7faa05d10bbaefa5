-- What all processes may still write to a place is, with what the place has, within what it may come to have: each call keeps it so.
use Rattle.std.proofs.Common.{◌≡◌, ◌≢◌, ◌⊎◌, inl, inr, ℕ, zero, suc, ◌+◌, ◌<◌, ◌≤◌, ◌==◌, Bool, None, refl, sym, ap, ◌∙◌, subst, arith}
use Rattle.std.specs.Prelude.{if◌then◌else◌}
use Rattle.std.proofs.lemmas.Bool.{cases_eq, eq-eqb, ne_eqb}
use Rattle.script_load.specs.declared.profile.Profile.{Profile}
use Rattle.mem_files.specs.Name.{Name}
use Rattle.mem_files.specs.Files.{FileMap}
use Rattle.tree_model.specs.FilesAhead.{Sizes}
use Rattle.user_calls.specs.declared.calls.Call.TheVariants.{Write}
use Rattle.user_calls.specs.declared.calls.Reply.TheVariants.{Done}
use Rattle.sh_machine.specs.State.{told as shell_told}
use Rattle.sh_machine.specs.Turn.{calls}
use Rattle.process_model.specs.Seen.{Fds, fd_at, Act, Seen, free, zombie, live, View}
use Rattle.process_model.specs.Phases.{shell_act, does, has_open}
use Rattle.process_model.specs.Effect.{Quiet, Rest, Answers as Answered, WritesAt, EffectBy, IsCall, given}
use Rattle.law_runs.specs.Seen.{InitWaits, takes_away, waits_on}
use Rattle.law_limits.proofs.behind.Sums.{total, total_one}
use Rattle.law_limits.proofs.behind.Budget.{InRange}
use Rattle.law_limits.proofs.sizes.Doings.{NoFile, Goal, has, Doing, over, in_phase, runs, IsEnding, IsOver, may, Is}
use Rattle.law_limits.proofs.sizes.Later.{Later, may_less, fine_still, phase_still, own_still}
use Rattle.law_limits.proofs.sizes.Effects.{cap, rest_later, has_same}
use Rattle.law_limits.proofs.sizes.Running.{Kept, GivesNone, Goes}
use Rattle.law_limits.proofs.sizes.Programs.{program_goes}
use Rattle.law_limits.proofs.sizes.Shells.{Splits, After, goes, splits, ends, exited, shell_goes}

-- ---- sums

pub total_less : (f h : ℕ → ℕ) (a n : ℕ) → ((q : ℕ) → h q ≤ f q) → total h a n ≤ total f a n
total_less f h a zero less = omega arith
total_less f h a (suc n) less = omega (arith, less a, total_less f h (suc a) n less)

unfoldable pub set_at : {X : Type 0} → (ℕ → X) → ℕ → X → ℕ → X
set_at f i value q = if q == i then value else f q

pub set_here : {X : Type 0} (f : ℕ → X) (i : ℕ) (value : X) → set_at f i value i ≡ value
unfolding set_at
set_here f i value = ap (λ (b : Bool). if b then value else f i) (eq-eqb i i refl)

pub set_there : {X : Type 0} (f : ℕ → X) (i : ℕ) (value : X) (q : ℕ) → q ≢ i → set_at f i value q ≡ f q
unfolding set_at
set_there f i value q ne = ap (λ (b : Bool). if b then value else f q) (ne_eqb q i ne)

-- where all but one are no more
pub total_moves : (f h : ℕ → ℕ) (p : ℕ) → p < 64 → ((q : ℕ) → q ≢ p → h q ≤ f q) → total h 0 64 + f p ≤ total f 0 64 + h p
total_moves f h p few less =
    omega (
      arith,
      total_one (set_at h p (f p)) h p 0 64 (λ q ne. sym (set_there h p (f p) q ne)) (omega arith) (omega (arith, few)),
      set_here h p (f p),
      total_less f (set_at h p (f p)) 0 64 (λ q. by q (cases_eq q p)),
    )
  where
    by : (q : ℕ) → (q ≡ p) ⊎ (q ≢ p) → set_at h p (f p) q ≤ f q
    by q (inl same) = omega (arith, ap (set_at h p (f p)) same, set_here h p (f p), ap f same)
    by q (inr ne) = omega (arith, set_there h p (f p) q ne, less q ne)

-- or all but two
pub total_splits : (f h : ℕ → ℕ) (p c : ℕ) → p < 64 → c < 64 → p ≢ c → ((q : ℕ) → q ≢ p → q ≢ c → h q ≤ f q) → total h 0 64 + f p + f c ≤ total f 0 64 + h p + h c
total_splits f h p c few many apart less =
    omega (
      arith,
      total_one (set_at h c (f c)) h c 0 64 (λ q ne. sym (set_there h c (f c) q ne)) (omega arith) (omega (arith, many)),
      set_here h c (f c),
      set_there h c (f c) p apart,
      total_moves f (set_at h c (f c)) p few (λ q ne. by q ne (cases_eq q c)),
    )
  where
    by : (q : ℕ) → q ≢ p → (q ≡ c) ⊎ (q ≢ c) → set_at h c (f c) q ≤ f q
    by q ne (inl same) = omega (arith, ap (set_at h c (f c)) same, set_here h c (f c), ap f same)
    by q ne (inr other) = omega (arith, set_there h c (f c) q other, less q ne other)

-- ---- the invariant

-- a file of no such name is there, and nobody makes one
pub record Inv (profile : Profile) (L : Sizes) (IsNew : Name → Type 0) (V : View) : Type 0 where
  pub left : ℕ → ℕ
  pub doing : ℕ → Doing
  pub is : (q : ℕ) → Is profile V q (doing q)
  pub zero : GivesNone V.next left
  pub within : (x : Goal) → has V x + total (λ q. may L V left x (doing q)) 0 64 ≤ cap L left x
  pub absent : (f : Name) → IsNew f → V.files f ≡ None
  pub unmade : (f : Name) → IsNew f → (q : ℕ) → NoFile f (doing q)

module _ (profile : Profile) (L : Sizes) (V W : View) (N M : ℕ → ℕ) (later : Later V W N M) where
  -- ---- other slots

  over_given : (p : ℕ) (s : Seen) → IsOver profile s → IsOver profile (given p s)
  over_given p free is = tt
  over_given p (zombie q) is = tt
  over_given p (live q act put d) is = is

  -- a slot that has what it had, but for the parent
  abbrev SameBut : Seen → Seen → Type 0
  SameBut s t = (IsOver profile s → IsOver profile t) × ((parent put : ℕ) (act : Act) (d : Fds) → s ≡ live parent act put d → (other : ℕ) × (t ≡ live other act put d))

  still_by : (q : ℕ) (doing : Doing) → SameBut (V.slots q) (W.slots q) → Is profile V q doing → Is profile W q doing
  still_by q over same is = same.0 is
  still_by q (in_phase phase a b old) same (parent, slot, fine, known) =
      let now = same.1 parent 0 (does profile phase) (has_open phase a b old) slot in
      (now.0, now.1, fine_still profile V W N M later a b fine, phase_still profile V W N M later phase known)
  still_by q (runs which arguments call state put d) same r =
      let now = same.1 r.parent put _ d r.slot in
      record {
        parent = now.0;
        slot = now.1;
        a = r.a;
        b = r.b;
        input = r.input;
        output = r.output;
        messages = r.messages;
        fine = fine_still profile V W N M later r.a r.b r.fine;
        above = λ fd x up at. own_still profile V W N M later _ x (r.above fd x up at);
        opened = r.opened;
        tame = r.tame;
        asked = r.asked;
        high = r.high;
        part = r.part;
      }

  same_but : (p q : ℕ) → Kept V W p q → SameBut (V.slots q) (W.slots q)
  same_but p q (inl same) = (subst (IsOver profile) (sym same), λ parent put act d slot. (parent, same ∙ slot))
  same_but p q (inr (inl moved)) = (λ is. subst (IsOver profile) (sym moved) (over_given p (V.slots q) is), λ parent put act d slot. (_, moved ∙ ap (given p) slot))
  same_but p q (inr (inr (parent, dead, gone))) =
      (λ is. subst (IsOver profile) (sym gone) tt, λ parent put act d slot. absurd (let z : zombie _ ≡ live parent act put d = sym dead ∙ slot in let w : ⊥ = cc in w))

  pub still : (p q : ℕ) (doing : Doing) → Kept V W p q → Is profile V q doing → Is profile W q doing
  still p q doing kept is = still_by q doing (same_but p q kept) is

-- ---- a call

module _ (profile : Profile) (L : Sizes) (IsNew : Name → Type 0) (V W : View) (I : Inv profile L IsNew V) where
  abbrev N : ℕ → ℕ
  N = I.left

  -- ---- one process goes on

  module _ (p : ℕ) (few : p < 64) (g : Goes profile L V W N p (I.doing p)) where
    one_now : ℕ → Doing
    one_now = set_at I.doing p g.to

    one_is : (q : ℕ) → Is profile W q (one_now q)
    unfolding one_now
    one_is q = by (cases_eq q p)
      where
        by : (q ≡ p) ⊎ (q ≢ p) → Is profile W q (set_at I.doing p g.to q)
        by (inl same) = subst (λ q. Is profile W q (set_at I.doing p g.to q)) (sym same) (subst (Is profile W p) (sym (set_here I.doing p g.to)) g.is)
        by (inr ne) = subst (Is profile W q) (sym (set_there I.doing p g.to q ne)) (still profile L V W N g.left g.later p q (I.doing q) (g.others q ne) (I.is q))

    one_within : (x : Goal) → has W x + total (λ q. may L W g.left x (one_now q)) 0 64 ≤ cap L g.left x
    unfolding one_now
    one_within x =
        omega (
          arith,
          I.within x,
          g.rate x,
          total_moves (λ q. may L V N x (I.doing q)) (λ q. may L W g.left x (set_at I.doing p g.to q)) p few
              (λ q ne. omega (arith, ap (may L W g.left x) (set_there I.doing p g.to q ne), may_less L V W N g.left g.later profile x q (I.doing q) (I.is q))),
          ap (may L W g.left x) (set_here I.doing p g.to),
        )

    one_unmade : (f : Name) → IsNew f → (q : ℕ) → NoFile f (one_now q)
    unfolding one_now
    one_unmade f new q = by (cases_eq q p)
      where
        by : (q ≡ p) ⊎ (q ≢ p) → NoFile f (set_at I.doing p g.to q)
        by (inl same) = subst (NoFile f) (sym (ap (set_at I.doing p g.to) same ∙ set_here I.doing p g.to)) (g.names f (I.unmade f new p))
        by (inr ne) = subst (NoFile f) (sym (set_there I.doing p g.to q ne)) (I.unmade f new q)

    pub one_keeps : Inv profile L IsNew W
    one_keeps = record { left = g.left; doing = one_now; is = one_is; zero = g.zero I.zero; within = one_within; absent = λ f new. g.files f (I.unmade f new p) (I.absent f new); unmade = one_unmade }

  -- ---- it forks

  module _ (p : ℕ) (few : p < 64) (g : Splits profile L V W N p (I.doing p)) (many : g.child < 64) (apart : p ≢ g.child) where
    two_now : ℕ → Doing
    two_now = set_at (set_at I.doing g.child g.born) p g.to

    two_here : two_now p ≡ g.to
    unfolding two_now
    two_here = set_here (set_at I.doing g.child g.born) p g.to

    two_born : two_now g.child ≡ g.born
    unfolding two_now
    two_born = set_there (set_at I.doing g.child g.born) p g.to g.child (λ e. apart (sym e)) ∙ set_here I.doing g.child g.born

    two_there : (q : ℕ) → q ≢ p → q ≢ g.child → two_now q ≡ I.doing q
    unfolding two_now
    two_there q ne other = set_there (set_at I.doing g.child g.born) p g.to q ne ∙ set_there I.doing g.child g.born q other

    two_is : (q : ℕ) → Is profile W q (two_now q)
    two_is q = by (cases_eq q p) (cases_eq q g.child)
      where
        by : (q ≡ p) ⊎ (q ≢ p) → (q ≡ g.child) ⊎ (q ≢ g.child) → Is profile W q (two_now q)
        by (inl same) other = subst (λ q. Is profile W q (two_now q)) (sym same) (subst (Is profile W p) (sym two_here) g.is)
        by (inr ne) (inl same) = subst (λ q. Is profile W q (two_now q)) (sym same) (subst (Is profile W g.child) (sym two_born) g.born_is)
        by (inr ne) (inr other) = subst (Is profile W q) (sym (two_there q ne other)) (still profile L V W N N g.later p q (I.doing q) (inl (g.others q ne other)) (I.is q))

    two_within : (x : Goal) → has W x + total (λ q. may L W N x (two_now q)) 0 64 ≤ cap L N x
    two_within x =
        omega (
          arith,
          I.within x,
          g.rate x,
          total_splits (λ q. may L V N x (I.doing q)) (λ q. may L W N x (two_now q)) p g.child few many apart
              (λ q ne other. omega (arith, ap (may L W N x) (two_there q ne other), may_less L V W N N g.later profile x q (I.doing q) (I.is q))),
          ap (may L W N x) two_here,
          ap (may L W N x) two_born,
        )

    two_unmade : (f : Name) → IsNew f → (q : ℕ) → NoFile f (two_now q)
    two_unmade f new q = by (cases_eq q p) (cases_eq q g.child)
      where
        both : NoFile f g.to × NoFile f g.born
        both = g.names f (I.unmade f new p)

        by : (q ≡ p) ⊎ (q ≢ p) → (q ≡ g.child) ⊎ (q ≢ g.child) → NoFile f (two_now q)
        by (inl same) other = subst (NoFile f) (sym (ap two_now same ∙ two_here)) both.0
        by (inr ne) (inl same) = subst (NoFile f) (sym (ap two_now same ∙ two_born)) both.1
        by (inr ne) (inr other) = subst (NoFile f) (sym (two_there q ne other)) (I.unmade f new q)

    pub two_keeps : (GivesNone V.next N → GivesNone W.next N) → Inv profile L IsNew W
    two_keeps still = record { left = N; doing = two_now; is = two_is; zero = still I.zero; within = two_within; absent = λ f new. ap (λ (F : FileMap). F f) g.files ∙ I.absent f new; unmade = two_unmade }

  -- ---- any call

  module _ (p : ℕ) (few : p < 64) (ev : IsCall V W p) (after : InRange W) where
    after_keeps : After profile L V W N p (I.doing p) → Inv profile L IsNew W
    after_keeps (goes g) = one_keeps p few g
    after_keeps (splits g) = two_keeps p few g (after g.child (omega (arith, g.used))).1 apart (λ none i high. none i (omega (arith, high, ev.next)))
      where
        apart : p ≢ g.child
        apart same = let z : live ev.parent ev.act ev.put ev.fds ≡ free = sym ev.slot ∙ (ap V.slots same ∙ g.was_free) in let w : ⊥ = cc in w

    -- one that only prints a message, or exits
    ending : IsEnding profile ev.act ev.fds → After profile L V W N p over
    ending (inl is) = exited profile L V W N p ev.next over ev.parent (subst (λ act. EffectBy V W p ev.parent ev.put act ev.fds act.call) is ev.effect)
    ending (inr (message, is, two)) =
        let f : WritesAt V W p ev.parent ev.put (shell_act profile (calls (Write 2 message) shell_told)) ev.fds message (fd_at ev.fds 2) = subst (λ act. EffectBy V W p ev.parent ev.put act ev.fds act.call) is ev.effect in
        let a : Answered V W p ev.parent (shell_act profile (calls (Write 2 message) shell_told)) Done ev.fds = subst (WritesAt V W p ev.parent ev.put (shell_act profile (calls (Write 2 message) shell_told)) ev.fds message) two f in
        ends profile L V W N p ev.next over ev.parent _ ev.fds a.slots a.rest (inl refl)

    by_doing : (doing : Doing) → Is profile V p doing → After profile L V W N p doing
    by_doing over is = ending (subst (IsOver profile) ev.slot is)
    by_doing (in_phase phase a b old) (parent, slot, fine, known) = shell_goes L V W N p ev.next ev a b old parent I.zero profile fine phase known slot
    by_doing (runs which arguments call state put d) r = goes (program_goes profile L V W N p which arguments call state put d r ev.next room ev)
      where
        room : (x : Goal) → has V x ≤ cap L N x
        room x = omega (arith, I.within x)

    pub call_keeps : Inv profile L IsNew W
    call_keeps = after_keeps (by_doing (I.doing p) (I.is p))

  -- ---- no call is seen, or one of init's

  module _ (next : W.next ≡ V.next + 1) where
    rest_keeps : Rest V W → (p : ℕ) → ((q : ℕ) → Kept V W p q) → Inv profile L IsNew W
    rest_keeps rest p kept =
        let later = rest_later V W N next rest in
        record {
          left = N;
          doing = I.doing;
          is = λ q. still profile L V W N N later p q (I.doing q) (kept q) (I.is q);
          zero = λ i high. I.zero i (omega (arith, high, next));
          absent = λ f new. ap (λ (F : FileMap). F f) rest.files ∙ I.absent f new;
          unmade = I.unmade;
          within = λ x.
              omega (
                arith,
                I.within x,
                has_same V W rest.pipes rest.files x,
                total_less (λ q. may L V N x (I.doing q)) (λ q. may L W N x (I.doing q)) 0 64 (λ q. may_less L V W N N later profile x q (I.doing q) (I.is q)),
              );
        }

    pub quiet_keeps : Quiet V W → Inv profile L IsNew W
    quiet_keeps quiet = rest_keeps quiet.rest 0 (λ q. inl (quiet.slots q))

    pub init_keeps : InitWaits V W → Inv profile L IsNew W
    init_keeps (waits_on quiet) = quiet_keeps quiet
    init_keeps (takes_away t) = rest_keeps t.rest 0 (λ q. by q (cases_eq q t.child))
      where
        by : (q : ℕ) → (q ≡ t.child) ⊎ (q ≢ t.child) → Kept V W 0 q
        by q (inl is) = inr (inr (0, ap V.slots is ∙ t.was, ap W.slots is ∙ t.gone))
        by q (inr ne) = inl (t.others q ne)
