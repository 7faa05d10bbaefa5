-- Whoever is the last holder of an entry stays so over any call of another process.
use Rattle.std.proofs.Common.{◌≡◌, ◌≢◌, ◌⊎◌, ℕ, zero, suc, ◌<◌, Option, Some, None, inl, inr, refl, sym, ap, subst, ◌∙◌, get_or-set_other}
use Rattle.std.proofs.Math.ListN.{set}
use Rattle.std.proofs.lemmas.Bool.{cases_eq}
use Rattle.user_calls.specs.declared.calls.Call.{Call}
use Rattle.fd_table.specs.declared.descriptors.TheConstants.{DESCRIPTORS}
use Rattle.fd_table.specs.declared.names.Object.{Object}
use Rattle.fd_table.specs.declared.names.Object.TheVariants.{File, PipeRead, PipeWrite}
use Rattle.fd_table.specs.Entries.{OpenFile as Opened, Entries, entry_at, last_object, lowest_free_entry, added_at, moved_on, going_on_at}
use Rattle.fd_table.specs.Descriptors.{entry_of, holders_in, close_answer, released_by_close}
use Rattle.fd_table.proofs.Holding.{entry_at-all_held}
use Rattle.kernel_model.specs.KernelState.{KernelState, fds_at}
use Rattle.kernel_model.specs.Pipes.{with_new}
use Rattle.kernel_model.specs.Modes.{entry_mode}
use Rattle.kernel_model.specs.Opening.{with_bytes}
use Rattle.kernel_model.specs.Descriptors.{taken_away, closed, closed_below, opened_at, with_open, with_reader}
use Rattle.law_kernel.specs.Outcome.{Outcome, refused, lacks, forks, runs, exits, reaps, waits, opens, opens_empty, closes, dups, pipes, reads_input, reads_file, takes, waits_for_bytes, meets_end, tells, complains, writes_over, appends, puts_all, puts_part}
use Rattle.law_turns.proofs.entry_numbers.Entries.{changed_entry}
use Rattle.law_turns.proofs.entry_numbers.Opening.{lowest_is_free}
use Rattle.law_turns.proofs.last_closes.Closing.{let_go_entries, held_before}
use Rattle.law_turns.proofs.last_closes.Released.{last_more, last_moved, last_going}

module _ (object : Object) (e : ℕ) where
  -- the next close of the entry lets this object go
  abbrev pub IsLast : Option Opened → Type 0
  IsLast x = last_object x ≡ Some object

  last_changed : (g : Option Opened → Option Opened) → g None ≡ None → ((x : Option Opened) → IsLast x → IsLast (g x)) → (t : Entries) (d : ℕ) → IsLast (entry_at t e) → IsLast (entry_at (set t d (g (entry_at t d))) e)
  last_changed g free each t d is = by (cases_eq e d) where
    by : (e ≡ d) ⊎ (e ≢ d) → IsLast (entry_at (set t d (g (entry_at t d))) e)
    by (inl same) = let P : ℕ → Type 0 = λ i. IsLast (entry_at (set t i (g (entry_at t i))) e) in subst P same (subst IsLast (sym (changed_entry g free t e)) (each (entry_at t e) is))
    by (inr ne) = subst IsLast (sym (get_or-set_other t d e (g (entry_at t d)) None ne)) is

  last_elsewhere : (t : Entries) (d : ℕ) (x : Option Opened) → e ≢ d → IsLast (entry_at t e) → IsLast (entry_at (set t d x) e)
  last_elsewhere t d x ne is = subst IsLast (sym (get_or-set_other t d e x None ne)) is

  last_released : (t : Entries) (o : Option ℕ) → (o ≡ Some e → ⊥) → IsLast (entry_at t e) → IsLast (entry_at (released_by_close t o) e)
  last_released t None held is = is
  last_released t (Some d) held is = last_elsewhere t d _ (λ same. held (ap Some (sym same))) is

  used_last : (x : Option Opened) → IsLast x → x ≡ None → ⊥
  used_last None is none = let z : ⊥ = cc in z
  used_last (Some f) is none = let z : ⊥ = cc in z

module _ {S : Type 0} (object : Object) (e q : ℕ) where
  abbrev Last : KernelState S → Type 0
  Last k = IsLast object e (entry_at k.entries e)

  -- q doesn't hold the entry
  abbrev pub HoldsNot : KernelState S → Type 0
  HoldsNot k = (fd : ℕ) → entry_of (fds_at k q) fd ≡ Some e → ⊥

  closed_last : (k : KernelState S) (gd : ℕ) → HoldsNot k → Last k → Last (closed k q gd)
  closed_last k gd held is =
      let o = entry_of (fds_at k q) gd in
      subst (λ (t : Entries). IsLast object e (entry_at t e)) (sym (let_go_entries e q (taken_away k q gd o) (close_answer k.entries o))) (last_released object e k.entries o (held gd) is)

  below_not : (k : KernelState S) (m : ℕ) → HoldsNot k → HoldsNot (closed_below k q m)
  unfolding closed_below
  below_not k zero held = held
  below_not k (suc i) held = λ fd is. below_not k i held fd (held_before e q (closed_below k q i) i fd is)

  below_last : (k : KernelState S) (m : ℕ) → HoldsNot k → Last k → Last (closed_below k q m)
  unfolding closed_below
  below_last k zero held is = is
  below_last k (suc i) held is = closed_last (closed_below k q i) i (below_not k i held) (below_last k i held is)

  opened_last : (k : KernelState S) (new : Object) (o : Option ℕ) → lowest_free_entry k.entries ≡ o → Last k → Last (opened_at k q new o)
  opened_last k new None found is = is
  opened_last k new (Some a) found is =
      subst (λ (t : Entries). IsLast object e (entry_at t e)) (λ i. added_at k.entries (sym found i) new)
      (last_elsewhere object e k.entries a _ (λ same. used_last object e (entry_at k.entries e) is (ap (entry_at k.entries) same ∙ (lowest_is_free k.entries a found).free)) is)

  open_last : (k : KernelState S) (new : Object) → Last k → Last (with_open k q new)
  open_last k new is = opened_last k new (lowest_free_entry k.entries) refl is

  module _ (k : KernelState S) (after : S) (call : Call) (new : KernelState S) (held : HoldsNot k) (none : (0 < holders_in (fds_at k q) e) → ⊥) (now : Last k) where
    so : (j : KernelState S) → new ≡ j → Last j → Last new
    so j same is = subst (λ (l : KernelState S). Last l) (sym same) is

    pub outcome_last : Outcome k q after call new → Last new
    outcome_last (refused is) = so _ is now
    outcome_last (lacks full is) = so _ is now
    outcome_last (forks child c found is) =
        so _ is (subst (IsLast object e) (sym (entry_at-all_held k.entries (fds_at k q) e)) (last_more (holders_in (fds_at k q) e) (entry_at k.entries e) (λ some. absurd (none some)) ∙ now))
    outcome_last (runs c is) = so _ is now
    outcome_last (exits c ne is) = so _ is (below_last k DESCRIPTORS held now)
    outcome_last (reaps child c found is) = so _ is now
    outcome_last (waits child c no_one some is) = so _ is now
    outcome_last (opens name mode place c is) = so _ is (open_last k (File name (entry_mode mode)) now)
    outcome_last (opens_empty name mode place c is) = so _ is (open_last (with_bytes k name _) (File name (entry_mode mode)) now)
    outcome_last (closes gd c is) = so _ is (closed_last k gd held now)
    outcome_last (dups gd entry place c there free is) = so _ is (last_elsewhere object e k.entries entry _ (λ same. held gd (there ∙ ap Some (sym same))) now)
    outcome_last (pipes reader writer c room is) = so _ is (open_last (with_reader k q k.events) (PipeWrite k.events) (open_last (record k { pipes = with_new k.pipes k.events }) (PipeRead k.events) now))
    outcome_last (reads_input n r is) = so _ is now
    outcome_last (reads_file name mode entry n got r is) = so _ is (last_changed object e (moved_on n) refl (λ x last. last_moved n x ∙ last) k.entries entry now)
    outcome_last (takes id n o r there some is) = so _ is now
    outcome_last (waits_for_bytes id o r there no_bytes open_too is) = so _ is now
    outcome_last (meets_end id o r there no_bytes over is) = so _ is now
    outcome_last (tells b w is) = so _ is now
    outcome_last (complains b w is) = so _ is now
    outcome_last (writes_over name mode entry b bytes w is) = so _ is (last_changed object e (moved_on _) refl (λ x last. last_moved _ x ∙ last) k.entries entry now)
    outcome_last (appends name mode entry b bytes w is) = so _ is (last_changed object e (going_on_at _) refl (λ x last. last_going _ x ∙ last) k.entries entry now)
    outcome_last (puts_all id o b w there all is) = so _ is now
    outcome_last (puts_part id n o b w there reader space some short is) = so _ is now
