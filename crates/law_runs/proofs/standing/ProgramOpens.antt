-- A program opens a file.
use Rattle.std.proofs.Common.{◌≡◌, ◌≢◌, ◌⊎◌, inl, inr, ℕ, ◌<◌, ◌==◌, Bool, true, false, List, [], ◌∷◌, Option, Some, None, refl, sym, ap, ◌∙◌, arith}
use Rattle.std.specs.Prelude.{slice_set, if◌then◌else◌}
use Rattle.std.proofs.lemmas.Bool.{cases_eq, eq-eqb, ne_eqb}
use Rattle.std.proofs.lemmas.List.{get_or-set_same, get_or-set_other}
use Rattle.mem_files.specs.Name.{Name, Bytes, is_openable}
use Rattle.mem_files.specs.Files.{FileMap, with_file}
use Rattle.script_load.specs.declared.profile.Profile.{Profile}
use Rattle.user_calls.specs.declared.calls.Call.TheVariants.{OpenFile}
use Rattle.user_calls.specs.declared.calls.Mode.{Mode}
use Rattle.user_calls.specs.declared.calls.Mode.TheVariants.{Input as ToRead, Fresh}
use Rattle.user_calls.specs.declared.calls.Reply.TheVariants.{Fd, Refused}
use Rattle.user_progs.specs.State.{State}
use Rattle.tree_model.specs.Alone.{opened_files, can_open}
use Rattle.tree_model.specs.Residual.{alone}
use Rattle.tree_model.specs.Rules.{silent}
use Rattle.tree_model.specs.Answers.{open_reply}
use Rattle.process_model.specs.Seen.{Entry, file, fd_at, View}
use Rattle.process_model.specs.Own.{Owned, own_files, owned_at, Appends, program_act}
use Rattle.process_model.specs.Effect.{Answers, Opens, OpensBy, OpensNamed, files_read, first_byte, IsCall}
use Rattle.law_runs.proofs.standing.Frame.{held_stay}
use Rattle.law_runs.proofs.standing.LowestFree.{IsLowest, is_lowest, above_two, is_the_new}
use Rattle.law_runs.proofs.standing.ProgramAsks.{Before, Afterwards, run, asked, answers}
use Rattle.law_runs.proofs.standing.CallKinds as kinds
use Rattle.law_runs.proofs.standing.ProgramGoes as goes_on

module _ (profile : Profile) (V W : View) (a b old : Entry) (parent p : ℕ) (ev : IsCall V W p) (next : State) (put : ℕ) (owns : List Owned) (name : Name) where
  abbrev act : Mode → Rattle.process_model.specs.Seen.Act
  act mode = program_act (goes_on.waiting (OpenFile name mode) next)

  abbrev new_one : Mode → ℕ → Owned
  new_one mode fd = record { entry = V.next; own = record { fd = fd; name = name; mode = mode; at = 0 } }

  -- it has one more file
  opened : (mode : Mode) (F : FileMap) (bytes : Bytes) (g : Before profile V W a b old parent p ev next put owns (OpenFile name mode)) → Opens V W p parent (act mode) g.has.fds name mode F → (Appends mode → ⊥) → first_byte mode (V.files name) ≡ 0 → can_open name mode V.files ≡ Some bytes → F ≡ opened_files (Some bytes) name mode V.files → Afterwards profile V W a b old parent p ev next put owns (OpenFile name mode)
  opened mode F bytes g f plain first granted fs =
      goes_on.goes_on profile V W a b old parent p (OpenFile name mode) next put owns (Fd f.fd) (new_one mode f.fd ∷ owns) silent F (slice_set g.has.fds f.fd (Some (file V.next))) g f.slots
      (record {
        input = get_or-set_other g.has.fds f.fd 0 (Some (file V.next)) None (λ is. absurd (omega (arith, is, up))) ∙ g.has.opened.input;
        output = get_or-set_other g.has.fds f.fd 1 (Some (file V.next)) None (λ is. absurd (omega (arith, is, up))) ∙ g.has.opened.output;
        messages = get_or-set_other g.has.fds f.fd 2 (Some (file V.next)) None (λ is. absurd (omega (arith, is, up))) ∙ g.has.opened.messages;
        above = λ other over. above other over (cases_eq other f.fd);
      })
      (up, sym (g.has.opened.above f.fd up) ∙ low.free, g.has.apart)
      (f.entry.place ∙ ap (λ n. record { name = name; mode = mode; at = n }) first, held_stay V W owns (λ k l. f.entry.places k (fresh k (g.known k l))) g.has.placed)
      (plain, g.has.plain) refl
      (asked profile V W a b old parent p ev next put owns (OpenFile name mode) (Fd f.fd) (new_one mode f.fd ∷ owns) F refl
      (ap (λ o. open_reply o (own_files owns)) granted ∙ ap Fd (sym (is_the_new a b owns g.has.fds g.has.opened f.fd low (alone (run profile V W a b old parent p ev next put owns (OpenFile name mode)) V.files) refl)))
      refl (fs ∙ sym (ap (λ o. opened_files o name mode V.files) granted))) (
        kinds.in_beside V W a g.can_read f.entry.input (λ k l. (f.entry.pipes k, f.entry.places k (fresh k (g.ends_known k (omega (arith, l)))))),
        kinds.out_beside V W b g.can_write f.entry.out (λ k l. (f.entry.pipes k, f.entry.places k (fresh k (g.ends_known k (omega (arith, l)))))),
        f.entry.files,
      )
      (λ k. omega arith)
      (record { others = λ k na nb lt none. (f.entry.pipes k, f.entry.places k (fresh k lt)); input_stays = λ n. f.entry.input; out_stays = λ n. f.entry.out })
    where
      low : IsLowest g.has.fds f.fd
      low = is_lowest g.has.fds f.fd f.place

      up : 2 < f.fd
      up = above_two a b owns g.has.fds g.has.opened f.fd low

      fresh : (k : ℕ) → k < V.next → k ≢ V.next
      fresh k lt e = absurd (omega (arith, lt, e))

      above : (other : ℕ) → 2 < other → (other ≡ f.fd) ⊎ (other ≢ f.fd) → fd_at (slice_set g.has.fds f.fd (Some (file V.next))) other ≡ (if f.fd == other then Some (file V.next) else owned_at owns other)
      above other over (inl is) =
          ap (fd_at (slice_set g.has.fds f.fd (Some (file V.next)))) is ∙ get_or-set_same g.has.fds f.fd (Some (file V.next)) None low.within
          ∙ sym (ap (λ (c : Bool). if c then Some (file V.next) else owned_at owns other) (eq-eqb f.fd other (sym is)))
      above other over (inr ne) =
          get_or-set_other g.has.fds f.fd other (Some (file V.next)) None ne ∙ g.has.opened.above other over
          ∙ sym (ap (λ (c : Bool). if c then Some (file V.next) else owned_at owns other) (ne_eqb f.fd other (λ e. ne (sym e))))

  denied : (mode : Mode) (g : Before profile V W a b old parent p ev next put owns (OpenFile name mode)) → Answers V W p parent (act mode) Refused g.has.fds → can_open name mode V.files ≡ None → Afterwards profile V W a b old parent p ev next put owns (OpenFile name mode)
  denied mode g f none = answers profile V W a b old parent p ev next put owns (OpenFile name mode) Refused g f refl (ap (λ o. open_reply o (own_files owns)) none) refl refl

  pub opens_to_read : (g : Before profile V W a b old parent p ev next put owns (OpenFile name ToRead)) → Afterwards profile V W a b old parent p ev next put owns (OpenFile name ToRead)
  opens_to_read g = by (is_openable name) refl (kinds.effect_at V W p parent put (act ToRead) g.has.fds ev g.has.slot)
    where
      there : (o : Option Bytes) → V.files name ≡ o → is_openable name ≡ true → OpensBy V W p parent (act ToRead) g.has.fds name ToRead (files_read V.files o) → Afterwards profile V W a b old parent p ev next put owns (OpenFile name ToRead)
      there None is good f = denied ToRead g f (ap (λ (c : Bool). if c then V.files name else None) good ∙ is)
      there (Some bytes) is good f = opened ToRead V.files bytes g f (λ z. z) refl (ap (λ (c : Bool). if c then V.files name else None) good ∙ is) refl

      by : (good : Bool) → is_openable name ≡ good → OpensNamed V W p parent (act ToRead) g.has.fds name ToRead good → Afterwards profile V W a b old parent p ev next put owns (OpenFile name ToRead)
      by true good f = there (V.files name) refl good f
      by false bad f = denied ToRead g f (ap (λ (c : Bool). if c then V.files name else None) bad)

  pub opens_fresh : (g : Before profile V W a b old parent p ev next put owns (OpenFile name Fresh)) → Afterwards profile V W a b old parent p ev next put owns (OpenFile name Fresh)
  opens_fresh g = by (is_openable name) refl (kinds.effect_at V W p parent put (act Fresh) g.has.fds ev g.has.slot)
    where
      by : (good : Bool) → is_openable name ≡ good → OpensNamed V W p parent (act Fresh) g.has.fds name Fresh good → Afterwards profile V W a b old parent p ev next put owns (OpenFile name Fresh)
      by true good f = opened Fresh (with_file V.files name []) [] g f (λ z. z) refl (ap (λ (c : Bool). if c then Some [] else None) good) refl
      by false bad f = denied Fresh g f (ap (λ (c : Bool). if c then Some [] else None) bad)
