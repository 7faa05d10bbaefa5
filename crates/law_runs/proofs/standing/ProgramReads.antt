-- A program reads its input.
use Rattle.std.proofs.Common.{◌≡◌, ◌≢◌, ◌⊎◌, inl, inr, ℕ, zero, suc, ◌+◌, ◌≤◌, List, [], ◌∷◌, ◌++◌, length, take, drop, Option, Some, None, refl, sym, ap, ◌∙◌, subst, arith}
use Rattle.std.specs.Prelude.{min}
use Rattle.std.proofs.lemmas.Bool.{cases_eq}
use Rattle.std.proofs.Math.Seq.{drop-nil}
use Rattle.std.proofs.lemmas.List.{take-append-drop, length-take}
use Rattle.mem_files.specs.Name.{Bytes}
use Rattle.mem_files.specs.Files.{bytes_of}
use Rattle.script_load.specs.declared.profile.Profile.{Profile}
use Rattle.user_calls.specs.Limits.{block_size}
use Rattle.user_calls.specs.declared.calls.Call.TheVariants.{Read, Write}
use Rattle.user_calls.specs.declared.calls.Reply.TheVariants.{Bytes as Bytes'}
use Rattle.user_progs.specs.State.{State}
use Rattle.tree_model.specs.Rules.{takes, meets_end, reads, reads_end}
use Rattle.process_model.specs.Seen.{Entry, input, out, diag, reader, writer, file, Fds, fd_at, live, View}
use Rattle.process_model.specs.Own.{Owned, PutFits, program_act}
use Rattle.process_model.specs.Shape.{works, same, owned_names}
use Rattle.process_model.specs.Effect.{Sets, further, answered, IsCall, ReadsPipe, gets, meets_end as at_its_end, finds_none, ReadsBytes, ReadsFile, ReadsAt}
use Rattle.process_model.specs.Part.{Same, Takes, MeetsEnd}
use Rattle.process_model.proofs.Counts.{same_self}
use Rattle.law_runs.proofs.standing.CallKinds as kinds
use Rattle.law_runs.proofs.standing.ProgramGoes as goes_on

-- nothing is taken only of nothing
pub none_left : (most : ℕ) (left : Bytes) → 1 ≤ most → take most left ≡ [] → left ≡ []
none_left zero left some e = absurd (omega (arith, some))
none_left (suc most) [] some e = refl
none_left (suc most) (byte ∷ left) some e = absurd (let z : ⊥ = cc in z)

pub at_most : (most : ℕ) → most ≤ block_size → min most block_size ≡ most
at_most most le = omega (arith, le)

-- only a write is put in part
pub nothing_put : (b : Entry) (fd most : ℕ) (next : State) (put : ℕ) → PutFits b (goes_on.waiting (Read fd most) next) put → put ≡ 0
nothing_put b fd most next put (inl none) = none
nothing_put b fd most next put (inr some) = absurd (let e : Read fd most ≡ Write 1 some.1.0 = some.1.1 in let z : ⊥ = cc in z)

module _ (profile : Profile) (V W : View) (a b old : Entry) (parent p : ℕ) (ev : IsCall V W p) (next : State) (put : ℕ) (owns : List Owned) (most : ℕ) (some : 1 ≤ most) where
  abbrev pub Before : Type 0
  Before = goes_on.Before profile V W a b old parent p (Read 0 most) next put owns

  abbrev pub Afterwards : Type 0
  Afterwards = goes_on.Afterwards profile V W a b old parent p (Read 0 most) next put owns

  abbrev Answered : Bytes → Fds → Type 0
  Answered bytes d = Sets V W p (answered parent (program_act (goes_on.waiting (Read 0 most) next)) (Bytes' bytes) d)

  -- it meets the end
  ends : (g : Before) → Answered [] g.has.fds → MeetsEnd V a → Same V W a → Same V W b → W.files ≡ V.files → ((k : ℕ) → 1 ≤ owned_names k owns → W.places k ≡ V.places k) → goes_on.Leaves V W a b owns → Afterwards
  ends g slots at_end sa sb files places leaves =
      goes_on.goes_alike profile V W a b old parent p (Read 0 most) next put owns (Bytes' []) meets_end V.files g slots places refl (reads_end most refl refl) (at_end, sa, sb, files) leaves

  -- it takes what is there, up to as much as it asks for
  takes_some : (left : Bytes) → (g : Before) → Answered (take most left) g.has.fds → (take most left ≡ [] → MeetsEnd V a × Same V W a) → Takes V W a (take most left) → Same V W b → W.files ≡ V.files → ((k : ℕ) → 1 ≤ owned_names k owns → W.places k ≡ V.places k) → goes_on.Leaves V W a b owns → Afterwards
  takes_some left g slots at_end taken sb files places leaves = by (take most left) refl slots
    where
      by : (c : Bytes) → take most left ≡ c → Answered c g.has.fds → Afterwards
      by [] is slots = let e = at_end is in ends g slots e.0 e.1 sb files places leaves
      by (byte ∷ c) is slots =
          goes_on.goes_alike profile V W a b old parent p (Read 0 most) next put owns (Bytes' (byte ∷ c)) (takes (byte ∷ c)) V.files g slots places refl
          (reads most refl (omega arith) (omega (arith, length-take {A = ℕ} most left, ap (length {A = ℕ}) is)) refl) (subst (Takes V W a) is taken, sb, files) leaves

-- ---- by what its input is

module _ (profile : Profile) (V W : View) (b old : Entry) (parent p : ℕ) (ev : IsCall V W p) (next : State) (put : ℕ) (owns : List Owned) (most : ℕ) (some : 1 ≤ most) where
  reads_input : (g : Before profile V W input b old parent p ev next put owns most some) → ReadsAt V W p parent (program_act (goes_on.waiting (Read 0 most) next)) g.has.fds most (Some input) → Afterwards profile V W input b old parent p ev next put owns most some
  reads_input g (slots, left, rest) =
      takes_some profile V W input b old parent p ev next put owns most some V.input g slots
      (λ none. let e = none_left most V.input some none in (e, left ∙ ap (drop most) e ∙ drop-nil most ∙ sym e))
      (sym (take-append-drop most V.input) ∙ ap (λ l. take most V.input ++ l) (sym left))
      (kinds.out_beside V W b g.can_write rest.out (λ k l. (rest.pipes k, rest.places k))) rest.files (λ k l. rest.places k)
      (record { others = λ k na nb lt none. (rest.pipes k, rest.places k); input_stays = λ n. absurd n; out_stays = λ n. rest.out })

  reads_pipe : (i : ℕ) (g : Before profile V W (reader i) b old parent p ev next put owns most some) → ReadsPipe V W p parent (program_act (goes_on.waiting (Read 0 most) next)) g.has.fds most i → Afterwards profile V W (reader i) b old parent p ev next put owns most some
  reads_pipe i g (gets there now rest slots) =
      takes_some profile V W (reader i) b old parent p ev next put owns most some (V.pipes i) g slots
      (λ none. absurd (omega (arith, there, ap (length {A = ℕ}) (none_left most (V.pipes i) some none))))
      (sym (take-append-drop most (V.pipes i)) ∙ ap (λ l. take most (V.pipes i) ++ l) (sym now))
      (kinds.out_beside V W b g.can_write rest.out (λ k l. (rest.pipes k (λ is. absurd (omega (arith, l, g.apart k, same_self k, ap (λ n. same k n) is))), rest.places k))) rest.files (λ k l. rest.places k)
      (record { others = λ k na nb lt none. (rest.pipes k (λ is. absurd (omega (arith, na, same_self k, ap (λ n. same k n) is))), rest.places k); input_stays = λ n. rest.input; out_stays = λ n. rest.out })
  reads_pipe i g (at_its_end none nobody f) =
      ends profile V W (reader i) b old parent p ev next put owns most some g f.slots (none, nobody) (f.rest.pipes i) (kinds.same_of V W f.rest b) f.rest.files (λ k l. f.rest.places k)
      (goes_on.all_leave profile V W (reader i) b old parent p (Read 0 most) next put owns f.rest)
  reads_pipe i g (finds_none none slots rest asleep) =
      kinds.nothing V W profile (reader i) b old parent p asleep (works p (goes_on.waiting (Read 0 most) next) put owns) g.has (record { slots = λ q. by q (cases_eq q p); rest = rest })
    where
      by : (q : ℕ) → (q ≡ p) ⊎ (q ≢ p) → W.slots q ≡ V.slots q
      by q (inr ne) = slots.others q ne
      by q (inl same) = ap W.slots same ∙ slots.here ∙ ap (λ n. live parent (program_act (goes_on.waiting (Read 0 most) next)) n g.has.fds) (sym (nothing_put b 0 most next put g.has.fits)) ∙ sym g.has.slot ∙ ap V.slots (sym same)

  reads_bytes : (e : ℕ) (held : Option Bytes) → V.files (V.places e).name ≡ held → (g : Before profile V W (file e) b old parent p ev next put owns most some) → ReadsBytes V W p parent (program_act (goes_on.waiting (Read 0 most) next)) g.has.fds most e held → Afterwards profile V W (file e) b old parent p ev next put owns most some
  reads_bytes e None there g f = absurd f
  reads_bytes e (Some held) there g (slots, change) =
      takes_some profile V W (file e) b old parent p ev next put owns most some (drop (V.places e).at held) g slots
      (λ none. (
        ap (λ o. drop (V.places e).at (bytes_of o)) there ∙ none_left most (drop (V.places e).at held) some none,
        change.place ∙ ap (λ n. further (V.places e) n) (ap (length {A = ℕ}) none) ∙ ap (λ n. record (V.places e) { at = n }) (let z : (V.places e).at + 0 ≡ (V.places e).at = omega arith in z),
      ))
      (change.place, (drop most (drop (V.places e).at held), ap (λ o. drop (V.places e).at (bytes_of o)) there ∙ sym (take-append-drop most (drop (V.places e).at held))))
      (kinds.out_beside V W b g.can_write change.out (λ k l. (change.pipes k, change.places k (λ is. absurd (omega (arith, l, g.apart k, same_self k, ap (λ n. same k n) is)))))) change.files
      (λ k l. change.places k (λ is. absurd (omega (arith, l, g.apart k, same_self k, ap (λ n. same k n) is))))
      (record { others = λ k na nb lt none. (change.pipes k, change.places k (λ is. absurd (omega (arith, na, same_self k, ap (λ n. same k n) is)))); input_stays = λ n. change.input; out_stays = λ n. change.out })

pub reads_standard : (profile : Profile) (V W : View) (a b old : Entry) (parent p : ℕ) (ev : IsCall V W p) (next : State) (put : ℕ) (owns : List Owned) (most : ℕ) (some : 1 ≤ most) → most ≤ block_size → (g : Before profile V W a b old parent p ev next put owns most some) → Afterwards profile V W a b old parent p ev next put owns most some
reads_standard profile V W a b old parent p ev next put owns most some few g = by a g (effect g)
  where
    effect : (g : Before profile V W a b old parent p ev next put owns most some) → ReadsAt V W p parent (program_act (goes_on.waiting (Read 0 most) next)) g.has.fds most (Some a)
    effect g =
        subst (ReadsAt V W p parent (program_act (goes_on.waiting (Read 0 most) next)) g.has.fds most) g.has.opened.input
        (subst (λ n. ReadsAt V W p parent (program_act (goes_on.waiting (Read 0 most) next)) g.has.fds n (fd_at g.has.fds 0)) (at_most most few)
        (kinds.effect_at V W p parent put (program_act (goes_on.waiting (Read 0 most) next)) g.has.fds ev g.has.slot))

    by : (a : Entry) (g : Before profile V W a b old parent p ev next put owns most some) → ReadsAt V W p parent (program_act (goes_on.waiting (Read 0 most) next)) g.has.fds most (Some a) → Afterwards profile V W a b old parent p ev next put owns most some
    by input g f = reads_input profile V W b old parent p ev next put owns most some g f
    by out g f = absurd g.can_read
    by diag g f = absurd g.can_read
    by (reader i) g f = reads_pipe profile V W b old parent p ev next put owns most some i g f
    by (writer i) g f = absurd g.can_read
    by (file e) g f =
        reads_bytes profile V W b old parent p ev next put owns most some e (V.files (V.places e).name) refl g
        (subst (λ m. ReadsFile V W p parent (program_act (goes_on.waiting (Read 0 most) next)) g.has.fds most e m) g.to_read f)
