-- What an entry in use has open stays so over any call of another process, as long as it is in use.
use Rattle.std.proofs.Common.{◌≡◌, ◌≢◌, ◌⊎◌, ℕ, zero, suc, Bool, true, false, Option, Some, None, inl, inr, refl, sym, ap, subst, ◌∙◌, get_or-set_other}
use Rattle.std.proofs.Math.ListN.{set}
use Rattle.std.proofs.lemmas.Bool.{cases_eq}
use Rattle.std.specs.Prelude.{nat_le, if◌then◌else◌}
use Rattle.user_calls.specs.declared.calls.Call.{Call}
use Rattle.fd_table.specs.declared.descriptors.TheConstants.{DESCRIPTORS}
use Rattle.fd_table.specs.declared.names.Object.{Object}
use Rattle.fd_table.specs.declared.names.Object.TheVariants.{File, PipeRead, PipeWrite}
use Rattle.fd_table.specs.Entries.{OpenFile as Opened, Entries, entry_at, lowest_free_entry, added_at, more_held, less_held, moved_on, going_on_at}
use Rattle.fd_table.specs.Descriptors.{entry_of, holders_in, close_answer, released_by_close}
use Rattle.fd_table.proofs.Holding.{entry_at-all_held}
use Rattle.kernel_model.specs.KernelState.{KernelState, fds_at}
use Rattle.kernel_model.specs.Pipes.{with_new}
use Rattle.kernel_model.specs.Modes.{entry_mode}
use Rattle.kernel_model.specs.Opening.{with_bytes}
use Rattle.kernel_model.specs.Descriptors.{taken_away, closed, closed_below, opened_at, with_open, with_reader}
use Rattle.law_kernel.specs.Outcome.{Outcome, refused, lacks, forks, runs, exits, reaps, waits, opens, opens_empty, closes, dups, pipes, reads_input, reads_file, takes, waits_for_bytes, meets_end, tells, complains, writes_over, appends, puts_all, puts_part}
use Rattle.law_turns.proofs.entry_numbers.Entries.{changed_entry}
use Rattle.law_turns.proofs.entry_numbers.Opening.{lowest_is_free}
use Rattle.law_turns.proofs.last_closes.Closing.{let_go_entries}

-- if the entry is open, it is open on this object
abbrev pub IsOpenOn : Object → Option Opened → Type 0
IsOpenOn object None = Unit {0}
IsOpenOn object (Some f) = f.object ≡ object

module _ (object : Object) where
  on_less_by : (b : Bool) (f : Opened) → f.object ≡ object → IsOpenOn object (if b then None else Some f)
  on_less_by true f is = tt
  on_less_by false f is = is

  on_less : (x : Option Opened) → IsOpenOn object x → IsOpenOn object (less_held x)
  on_less None is = tt
  on_less (Some f) is = on_less_by (nat_le f.count 1) _ is

  on_more : (n : ℕ) (x : Option Opened) → IsOpenOn object x → IsOpenOn object (more_held n x)
  on_more n None is = tt
  on_more n (Some f) is = is

  on_moved : (n : ℕ) (x : Option Opened) → IsOpenOn object x → IsOpenOn object (moved_on n x)
  on_moved n None is = tt
  on_moved n (Some f) is = is

  on_going : (n : ℕ) (x : Option Opened) → IsOpenOn object x → IsOpenOn object (going_on_at n x)
  on_going n None is = tt
  on_going n (Some f) is = is

  module _ (e : ℕ) where
    -- an entry was written by what it held
    on_changed : (g : Option Opened → Option Opened) → g None ≡ None → ((x : Option Opened) → IsOpenOn object x → IsOpenOn object (g x)) → (t : Entries) (d : ℕ) → IsOpenOn object (entry_at t e) → IsOpenOn object (entry_at (set t d (g (entry_at t d))) e)
    on_changed g free each t d is = by (cases_eq e d) where
      by : (e ≡ d) ⊎ (e ≢ d) → IsOpenOn object (entry_at (set t d (g (entry_at t d))) e)
      by (inl same) = let P : ℕ → Type 0 = λ i. IsOpenOn object (entry_at (set t i (g (entry_at t i))) e) in subst P same (subst (IsOpenOn object) (sym (changed_entry g free t e)) (each (entry_at t e) is))
      by (inr ne) = subst (IsOpenOn object) (sym (get_or-set_other t d e (g (entry_at t d)) None ne)) is

    on_released : (t : Entries) (o : Option ℕ) → IsOpenOn object (entry_at t e) → IsOpenOn object (entry_at (released_by_close t o) e)
    on_released t None is = is
    on_released t (Some d) is = on_changed less_held refl on_less t d is

module _ {S : Type 0} (object : Object) (e q : ℕ) where
  -- the entry is in use, and open on the object
  pub record Uses (k : KernelState S) : Type 0 where
    pub file : Opened
    pub used : entry_at k.entries e ≡ Some file
    pub on : file.object ≡ object

  abbrev On : KernelState S → Type 0
  On k = IsOpenOn object (entry_at k.entries e)

  pub closed_on : (k : KernelState S) (gd : ℕ) → On k → On (closed k q gd)
  closed_on k gd is =
      let o = entry_of (fds_at k q) gd in
      subst (λ (t : Entries). IsOpenOn object (entry_at t e)) (sym (let_go_entries e q (taken_away k q gd o) (close_answer k.entries o))) (on_released object e k.entries o is)

  below_on : (k : KernelState S) (m : ℕ) → On k → On (closed_below k q m)
  unfolding closed_below
  below_on k zero is = is
  below_on k (suc i) is = closed_on (closed_below k q i) i (below_on k i is)

  opened_uses : (k : KernelState S) (new : Object) (o : Option ℕ) → lowest_free_entry k.entries ≡ o → Uses k → Uses (opened_at k q new o)
  opened_uses k new None found u = u
  opened_uses k new (Some a) found u =
      let apart : e ≢ a = λ is. (let no : None ≡ Some u.file = sym (lowest_is_free k.entries a found).free ∙ ap (entry_at k.entries) (sym is) ∙ u.used in let z : ⊥ = cc in z) in
      record { file = u.file; used = (λ i. entry_at (added_at k.entries (found i) new) e) ∙ get_or-set_other k.entries a e _ None apart ∙ u.used; on = u.on }

  open_uses : (k : KernelState S) (new : Object) → Uses k → Uses (with_open k q new)
  open_uses k new u = opened_uses k new (lowest_free_entry k.entries) refl u

  module _ (k : KernelState S) (after : S) (call : Call) (new : KernelState S) (u : Uses k) where
    so : (j : KernelState S) → new ≡ j → On j → On new
    so j same is = subst (λ (l : KernelState S). On l) (sym same) is

    now : On k
    now = subst (IsOpenOn object) (sym u.used) u.on

    on_uses : (j : KernelState S) → Uses j → On j
    on_uses j v = subst (IsOpenOn object) (sym v.used) v.on

    pub outcome_on : Outcome k q after call new → On new
    outcome_on (refused is) = so _ is now
    outcome_on (lacks full is) = so _ is now
    outcome_on (forks child c found is) = so _ is (subst (IsOpenOn object) (sym (entry_at-all_held k.entries (fds_at k q) e)) (on_more object (holders_in (fds_at k q) e) (entry_at k.entries e) now))
    outcome_on (runs c is) = so _ is now
    outcome_on (exits c ne is) = so _ is (below_on k DESCRIPTORS now)
    outcome_on (reaps child c found is) = so _ is now
    outcome_on (waits child c none some is) = so _ is now
    outcome_on (opens name mode place c is) = so _ is (on_uses _ (open_uses k (File name (entry_mode mode)) u))
    outcome_on (opens_empty name mode place c is) = so _ is (on_uses _ (open_uses (with_bytes k name _) (File name (entry_mode mode)) (record { file = u.file; used = u.used; on = u.on })))
    outcome_on (closes gd c is) = so _ is (closed_on k gd now)
    outcome_on (dups gd entry place c there free is) = so _ is (on_changed object e (more_held 1) refl (on_more object 1) k.entries entry now)
    outcome_on (pipes reader writer c room is) =
        so _ is (on_uses _ (open_uses (with_reader k q k.events) (PipeWrite k.events) (open_uses (record k { pipes = with_new k.pipes k.events }) (PipeRead k.events) (record { file = u.file; used = u.used; on = u.on }))))
    outcome_on (reads_input n r is) = so _ is now
    outcome_on (reads_file name mode entry n got r is) = so _ is (on_changed object e (moved_on n) refl (on_moved object n) k.entries entry now)
    outcome_on (takes id n o r there some is) = so _ is now
    outcome_on (waits_for_bytes id o r there none open_too is) = so _ is now
    outcome_on (meets_end id o r there none over is) = so _ is now
    outcome_on (tells b w is) = so _ is now
    outcome_on (complains b w is) = so _ is now
    outcome_on (writes_over name mode entry b bytes w is) = so _ is (on_changed object e (moved_on _) refl (on_moved object _) k.entries entry now)
    outcome_on (appends name mode entry b bytes w is) = so _ is (on_changed object e (going_on_at _) refl (on_going object _) k.entries entry now)
    outcome_on (puts_all id o b w there all is) = so _ is now
    outcome_on (puts_part id n o b w there reader space some short is) = so _ is now
