-- Where more than one descriptor holds an entry, that is so after any call that closes nothing.
use Rattle.std.proofs.Common.{◌≡◌, ◌≢◌, ◌⊎◌, ℕ, ◌<◌, Option, Some, None, inl, inr, refl, sym, ap, subst, ◌∙◌, arith, get_or-set_other}
use Rattle.std.proofs.Math.ListN.{set}
use Rattle.std.proofs.lemmas.Bool.{cases_eq}
use Rattle.user_calls.specs.declared.calls.Call.{Call}
use Rattle.user_calls.specs.declared.calls.Call.TheVariants.{Fork, Exec, Exit, Wait, MakePipe, Read, Write, OpenFile, Close, Dup}
use Rattle.fd_table.specs.declared.names.Object.{Object}
use Rattle.fd_table.specs.declared.names.Object.TheVariants.{File, PipeRead, PipeWrite}
use Rattle.fd_table.specs.Entries.{OpenFile as Opened, Entries, entry_at, count_of, lowest_free_entry, added_at, more_held, moved_on, going_on_at}
use Rattle.fd_table.specs.Descriptors.{holders_in}
use Rattle.fd_table.proofs.Holding.{entry_at-all_held}
use Rattle.kernel_model.specs.KernelState.{KernelState, fds_at}
use Rattle.kernel_model.specs.Pipes.{with_new}
use Rattle.kernel_model.specs.Modes.{entry_mode}
use Rattle.kernel_model.specs.Opening.{with_bytes}
use Rattle.kernel_model.specs.Descriptors.{opened_at, with_open, with_reader}
use Rattle.law_kernel.specs.Outcome.{Outcome, refused, lacks, forks, runs, exits, reaps, waits, opens, opens_empty, closes, dups, pipes, reads_input, reads_file, takes, waits_for_bytes, meets_end, tells, complains, writes_over, appends, puts_all, puts_part}
use Rattle.law_turns.proofs.entry_numbers.Entries.{changed_entry}
use Rattle.law_turns.proofs.entry_numbers.Opening.{lowest_is_free}

-- the call closes nothing
abbrev pub ClosesNothing : Call → Type 0
ClosesNothing Fork = Unit {0}
ClosesNothing (Exec found) = Unit {0}
ClosesNothing Exit = ⊥
ClosesNothing Wait = Unit {0}
ClosesNothing MakePipe = Unit {0}
ClosesNothing (Read fd n) = Unit {0}
ClosesNothing (Write fd b) = Unit {0}
ClosesNothing (OpenFile name mode) = Unit {0}
ClosesNothing (Close fd) = ⊥
ClosesNothing (Dup fd) = Unit {0}

-- more than one descriptor holds the entry
abbrev pub IsMany : Option Opened → Type 0
IsMany x = 1 < count_of x

more_many : (n : ℕ) (x : Option Opened) → IsMany x → IsMany (more_held n x)
more_many n None many = many
more_many n (Some f) many = omega (arith, many)

moved_many : (n : ℕ) (x : Option Opened) → IsMany x → IsMany (moved_on n x)
moved_many n None many = many
moved_many n (Some f) many = many

going_many : (n : ℕ) (x : Option Opened) → IsMany x → IsMany (going_on_at n x)
going_many n None many = many
going_many n (Some f) many = many

module _ (e : ℕ) where
  many_changed : (g : Option Opened → Option Opened) → g None ≡ None → ((x : Option Opened) → IsMany x → IsMany (g x)) → (t : Entries) (d : ℕ) → IsMany (entry_at t e) → IsMany (entry_at (set t d (g (entry_at t d))) e)
  many_changed g free each t d is = by (cases_eq e d) where
    by : (e ≡ d) ⊎ (e ≢ d) → IsMany (entry_at (set t d (g (entry_at t d))) e)
    by (inl same) = let P : ℕ → Type 0 = λ i. IsMany (entry_at (set t i (g (entry_at t i))) e) in subst P same (subst IsMany (sym (changed_entry g free t e)) (each (entry_at t e) is))
    by (inr ne) = subst IsMany (sym (get_or-set_other t d e (g (entry_at t d)) None ne)) is

module _ {S : Type 0} (e q : ℕ) where
  abbrev Many : KernelState S → Type 0
  Many k = IsMany (entry_at k.entries e)

  opened_many : (k : KernelState S) (new : Object) (o : Option ℕ) → lowest_free_entry k.entries ≡ o → Many k → Many (opened_at k q new o)
  opened_many k new None found is = is
  opened_many k new (Some a) found is =
      let apart : e ≢ a = λ same. omega (arith, is, ap count_of (ap (entry_at k.entries) same ∙ (lowest_is_free k.entries a found).free)) in
      subst (λ (t : Entries). IsMany (entry_at t e)) (λ i. added_at k.entries (sym found i) new) (subst IsMany (sym (get_or-set_other k.entries a e _ None apart)) is)

  open_many : (k : KernelState S) (new : Object) → Many k → Many (with_open k q new)
  open_many k new is = opened_many k new (lowest_free_entry k.entries) refl is

  module _ (k : KernelState S) (after : S) (call : Call) (new : KernelState S) (keeps : ClosesNothing call) (now : Many k) where
    so : (j : KernelState S) → new ≡ j → Many j → Many new
    so j same is = subst (λ (l : KernelState S). Many l) (sym same) is

    pub outcome_many : Outcome k q after call new → Many new
    outcome_many (refused is) = so _ is now
    outcome_many (lacks full is) = so _ is now
    outcome_many (forks child c found is) = so _ is (subst IsMany (sym (entry_at-all_held k.entries (fds_at k q) e)) (more_many (holders_in (fds_at k q) e) (entry_at k.entries e) now))
    outcome_many (runs c is) = so _ is now
    outcome_many (exits c ne is) = absurd (subst ClosesNothing c keeps)
    outcome_many (reaps child c found is) = so _ is now
    outcome_many (waits child c none some is) = so _ is now
    outcome_many (opens name mode place c is) = so _ is (open_many k (File name (entry_mode mode)) now)
    outcome_many (opens_empty name mode place c is) = so _ is (open_many (with_bytes k name _) (File name (entry_mode mode)) now)
    outcome_many (closes gd c is) = absurd (subst ClosesNothing c keeps)
    outcome_many (dups gd entry place c there free is) = so _ is (many_changed e (more_held 1) refl (more_many 1) k.entries entry now)
    outcome_many (pipes reader writer c room is) = so _ is (open_many (with_reader k q k.events) (PipeWrite k.events) (open_many (record k { pipes = with_new k.pipes k.events }) (PipeRead k.events) now))
    outcome_many (reads_input n r is) = so _ is now
    outcome_many (reads_file name mode entry n got r is) = so _ is (many_changed e (moved_on n) refl (moved_many n) k.entries entry now)
    outcome_many (takes id n o r there some is) = so _ is now
    outcome_many (waits_for_bytes id o r there none open_too is) = so _ is now
    outcome_many (meets_end id o r there none over is) = so _ is now
    outcome_many (tells b w is) = so _ is now
    outcome_many (complains b w is) = so _ is now
    outcome_many (writes_over name mode entry b bytes w is) = so _ is (many_changed e (moved_on _) refl (moved_many _) k.entries entry now)
    outcome_many (appends name mode entry b bytes w is) = so _ is (many_changed e (going_on_at _) refl (going_many _) k.entries entry now)
    outcome_many (puts_all id o b w there all is) = so _ is now
    outcome_many (puts_part id n o b w there reader space some short is) = so _ is now
