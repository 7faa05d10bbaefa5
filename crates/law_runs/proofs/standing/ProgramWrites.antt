-- A program writes to its output.
use Rattle.std.proofs.Common.{◌≡◌, inl, inr, ℕ, ◌+◌, ◌≤◌, Bool, true, false, List, [], ◌∷◌, length, drop, Option, Some, None, refl, sym, ap, ◌∙◌, subst, arith}
use Rattle.std.specs.Prelude.{nat_lt}
use Rattle.std.proofs.lemmas.Bool.{both_ways}
use Rattle.mem_files.specs.Name.{Bytes}
use Rattle.mem_files.specs.Files.{with_file}
use Rattle.mem_files.specs.Overlay.{written}
use Rattle.mem_files.proofs.Overlays.{written_end}
use Rattle.script_load.specs.declared.profile.Profile.{Profile}
use Rattle.user_calls.specs.declared.calls.Call.TheVariants.{Write}
use Rattle.user_calls.specs.declared.calls.Mode.{Mode}
use Rattle.user_calls.specs.declared.calls.Mode.TheVariants.{Input as ToRead, Fresh, Over, Append}
use Rattle.user_calls.specs.declared.calls.Reply.TheVariants.{Done, Refused}
use Rattle.user_progs.specs.State.{State}
use Rattle.tree_model.specs.Residual.{running, Position, at_byte, at_file_end, byte_in}
use Rattle.tree_model.specs.Rules.{puts, refused, is_gap, patched, writes_all, writes_some, write_refused}
use Rattle.process_model.specs.Seen.{Entry, input, out, diag, reader, writer, file, View}
use Rattle.process_model.specs.Own.{Owned, own_files, PutFits, program_act}
use Rattle.process_model.specs.Shape.{works, same, OpensOutput, position, position_of}
use Rattle.process_model.specs.Effect.{Sets, Answers, IsCall, PlaceChanges, further, answered, WritesPipe, puts_all, puts_some, has_no_reader, finds_it_full, WritesHere, WritesOver, WritesBehind, WritesFile, WritesAt}
use Rattle.process_model.specs.Part.{goes}
use Rattle.process_model.proofs.Counts.{same_self, called_once}
use Rattle.law_runs.proofs.standing.Frame.{held_stay}
use Rattle.law_runs.proofs.standing.Patched.{patched_is, patched_none}
use Rattle.law_runs.proofs.standing.CallKinds as kinds
use Rattle.law_runs.proofs.standing.ProgramGoes as goes_on

module _ (profile : Profile) (V W : View) (a old : Entry) (parent p : ℕ) (next : State) (put : ℕ) (owns : List Owned) (bytes : Bytes) where
  abbrev pub Before : Entry → Type 0
  Before b = goes_on.Before profile V W a b old parent p (Write 1 bytes) next put owns

  abbrev pub Afterwards : Entry → Type 0
  Afterwards b = goes_on.Afterwards profile V W a b old parent p (Write 1 bytes) next put owns

  abbrev act : Rattle.process_model.specs.Seen.Act
  act = program_act (goes_on.waiting (Write 1 bytes) next)

  to_out : (g : Before out) → WritesAt V W p parent put act g.has.fds bytes (Some out) → Afterwards out
  to_out g (slots, written, rest) = by g.has.fits
    where
      by : PutFits out (goes_on.waiting (Write 1 bytes) next) put → Afterwards out
      by (inr some) = absurd some.0
      by (inl none) =
          goes_on.goes_alike profile V W a out old parent p (Write 1 bytes) next put owns Done (puts bytes) V.files g slots (λ k l. rest.places k) refl
          (writes_all bytes refl (ap (λ n. drop n bytes) (sym none)) refl)
          ((written, rest.files), kinds.in_beside V W a g.can_read rest.input (λ k l. (rest.pipes k, rest.places k)))
          (record { others = λ k na nb lt none. (rest.pipes k, rest.places k); input_stays = λ n. rest.input; out_stays = λ n. absurd n })

  to_pipe : (i : ℕ) (g : Before (writer i)) → WritesPipe V W p parent put act g.has.fds bytes i → Afterwards (writer i)
  to_pipe i g (puts_all now fits rest slots) =
      goes_on.goes_alike profile V W a (writer i) old parent p (Write 1 bytes) next put owns Done (puts (drop put bytes)) V.files g slots (λ k l. rest.places k) refl
      (writes_all bytes refl refl refl) ((now, fits, rest.files), kinds.in_beside V W a g.can_read rest.input (λ k l. (rest.pipes k (λ is. absurd (omega (arith, l, g.apart k, same_self k, ap (λ n. same k n) is))), rest.places k)))
      (record { others = λ k na nb lt none. (rest.pipes k (λ is. absurd (omega (arith, nb, same_self k, ap (λ n. same k n) is))), rest.places k); input_stays = λ n. rest.input; out_stays = λ n. rest.out })
  to_pipe i g (puts_some now later parts some more is fits rest slots) = record {
    to = works p (goes_on.waiting (Write 1 bytes) next) (put + length now) owns;
    label = puts now;
    files = V.files;
    has = record {
      fds = g.has.fds;
      slot = slots.here;
      opened = g.has.opened;
      apart = g.has.apart;
      placed = held_stay V W owns (λ k l. rest.places k) g.has.placed;
      fits = inr (tt, (bytes, refl));
      tame = g.has.tame;
      plain = g.has.plain;
      steady = g.has.steady;
    };
    steps = 1;
    moves = goes (writes_some bytes later refl parts some more refl);
    tells = ((is, fits, rest.files), kinds.in_beside V W a g.can_read rest.input (λ k l. (rest.pipes k (λ is. absurd (omega (arith, l, g.apart k, same_self k, ap (λ n. same k n) is))), rest.places k)));
    pids = λ q. omega (arith, kinds.sets_used V W p _ _ g.has.slot slots refl q);
    ids = λ k. omega arith;
    others = λ k na nb lt none. (rest.pipes k (λ is. absurd (omega (arith, nb, same_self k, ap (λ n. same k n) is))), rest.places k);
    input_stays = λ n. rest.input;
    out_stays = λ n. rest.out;
    there = refl;
    over = λ z. absurd (omega (arith, z));
    pays = omega (arith, called_once W p);
  }
  to_pipe i g (has_no_reader some nobody f) =
      goes_on.goes_alike profile V W a (writer i) old parent p (Write 1 bytes) next put owns Refused refused V.files g f.slots (λ k l. f.rest.places k) refl
      (write_refused bytes refl some refl) (nobody, kinds.same_of V W f.rest a, f.rest.pipes i, f.rest.files)
      (goes_on.all_leave profile V W a (writer i) old parent p (Write 1 bytes) next put owns f.rest)
  to_pipe i g (finds_it_full some quiet asleep) = kinds.nothing V W profile a (writer i) old parent p asleep (works p (goes_on.waiting (Write 1 bytes) next) put owns) g.has quiet

  nothing_put : (e : ℕ) → PutFits (file e) (goes_on.waiting (Write 1 bytes) next) put → put ≡ 0
  nothing_put e (inl none) = none
  nothing_put e (inr some) = absurd some.0

-- to its file, which holds this
module _ (profile : Profile) (V W : View) (a old : Entry) (parent p : ℕ) (next : State) (put : ℕ) (owns : List Owned) (e : ℕ) (held : Bytes) (there : V.files (V.places e).name ≡ Some held) where
  -- a write of bytes behind a gap is refused, and one of none passes
  behind_gap : position_of (V.places e) ≡ at_byte (V.places e).at → (bytes : Bytes) (g : Before profile V W a old parent p next put owns bytes (file e)) → nat_lt (length held) (V.places e).at ≡ true → Answers V W p parent (act profile V W a old parent p next put owns bytes) Refused g.has.fds → Afterwards profile V W a old parent p next put owns bytes (file e)
  behind_gap sits [] g gap f =
      goes_on.goes_alike profile V W a (file e) old parent p (Write 1 []) next put owns Refused (puts []) V.files g f.slots (λ k l. f.rest.places k) refl
      (writes_all [] refl (ap (λ n. drop {A = ℕ} n []) (sym (nothing_put profile V W a old parent p next put owns [] e g.has.fits))) (ap (λ t. running (record { turn = t; own = own_files owns; put = 0 })) (g.has.steady.passes refl))) (
        (
          f.rest.places e ∙ ap (λ n. record (V.places e) { at = n }) (let z : (V.places e).at ≡ (V.places e).at + 0 = omega arith in z),
          (λ is. refl),
          f.rest.files ∙ patched_none V.files (V.places e).name held (V.places e).at there gap ∙ ap (λ at. patched V.files (V.places e).name at []) (sym sits),
        ),
        kinds.same_of V W f.rest a,
      )
      (goes_on.all_leave profile V W a (file e) old parent p (Write 1 []) next put owns f.rest)
  behind_gap sits (byte ∷ bytes) g gap f =
      goes_on.goes_alike profile V W a (file e) old parent p (Write 1 (byte ∷ bytes)) next put owns Refused refused V.files g f.slots (λ k l. f.rest.places k) refl
      (write_refused (byte ∷ bytes) refl (subst (λ n. 1 ≤ length (drop n (byte ∷ bytes))) (sym (nothing_put profile V W a old parent p next put owns (byte ∷ bytes) e g.has.fits)) (omega arith)) refl)
      ((λ t. is_gap (there t) (sits t)) ∙ gap, kinds.same_of V W f.rest a, f.rest.places e, f.rest.files)
      (goes_on.all_leave profile V W a (file e) old parent p (Write 1 (byte ∷ bytes)) next put owns f.rest)

  -- one from this position on, which leaves no gap
  written_from : (at : Position) → position_of (V.places e) ≡ at → is_gap (Some held) at ≡ false → (bytes : Bytes) (g : Before profile V W a old parent p next put owns bytes (file e))
      → Sets V W p (answered parent (act profile V W a old parent p next put owns bytes) Done g.has.fds) → PlaceChanges V W e (further (V.places e) (length bytes)) (with_file V.files (V.places e).name (written held (byte_in at held) bytes)) → Afterwards profile V W a old parent p next put owns bytes (file e)
  written_from at sits fits bytes g slots change =
      goes_on.goes_alike profile V W a (file e) old parent p (Write 1 bytes) next put owns Done (puts bytes) V.files g slots
      (λ k l. change.places k (λ is. absurd (omega (arith, l, g.apart k, same_self k, ap (λ n. same k n) is)))) refl
      (writes_all bytes refl (ap (λ n. drop n bytes) (sym (nothing_put profile V W a old parent p next put owns bytes e g.has.fits))) refl) (
        (
          change.place,
          (λ gap. absurd (both_ways (is_gap (Some held) at) fits ((λ t. is_gap (sym there t) (sym sits t)) ∙ gap))),
          change.files ∙ sym (patched_is V.files (V.places e).name held there at bytes) ∙ ap (λ q. patched V.files (V.places e).name q bytes) (sym sits),
        ),
        kinds.in_beside V W a g.can_read change.input (λ k l. (change.pipes k, change.places k (λ is. absurd (omega (arith, l, g.apart k, same_self k, ap (λ n. same k n) is))))),
      )
      (record { others = λ k na nb lt none. (change.pipes k, change.places k (λ is. absurd (omega (arith, nb, same_self k, ap (λ n. same k n) is)))); input_stays = λ n. change.input; out_stays = λ n. change.out })

  -- from its offset on
  to_held : position_of (V.places e) ≡ at_byte (V.places e).at → (bytes : Bytes) (g : Before profile V W a old parent p next put owns bytes (file e)) → WritesHere V W p parent (act profile V W a old parent p next put owns bytes) g.has.fds bytes e held (nat_lt (length held) (V.places e).at) → Afterwards profile V W a old parent p next put owns bytes (file e)
  to_held sits bytes g f = by (nat_lt (length held) (V.places e).at) refl f
    where
      by : (gap : Bool) → nat_lt (length held) (V.places e).at ≡ gap → WritesHere V W p parent (act profile V W a old parent p next put owns bytes) g.has.fds bytes e held gap → Afterwards profile V W a old parent p next put owns bytes (file e)
      by true is f = behind_gap sits bytes g is f
      by false is f = written_from (at_byte (V.places e).at) sits is bytes g f.0 f.1

  -- behind its end
  to_end : position_of (V.places e) ≡ at_file_end → (bytes : Bytes) (g : Before profile V W a old parent p next put owns bytes (file e)) → WritesBehind V W p parent (act profile V W a old parent p next put owns bytes) g.has.fds bytes e (Some held) → Afterwards profile V W a old parent p next put owns bytes (file e)
  to_end sits bytes g f = written_from at_file_end sits refl bytes g f.0 (subst (λ now. PlaceChanges V W e (further (V.places e) (length bytes)) (with_file V.files (V.places e).name now)) (sym (written_end held bytes)) f.1)

-- ---- by what its output is

module _ (profile : Profile) (V W : View) (a old : Entry) (parent p : ℕ) (next : State) (put : ℕ) (owns : List Owned) (bytes : Bytes) where
  to_file : (e : ℕ) (g : Before profile V W a old parent p next put owns bytes (file e)) → WritesFile V W p parent (act profile V W a old parent p next put owns bytes) g.has.fds bytes e (V.places e).mode → Afterwards profile V W a old parent p next put owns bytes (file e)
  to_file e g f = by (V.places e).mode refl g.to_write f
    where
      sits_so : (mode : Mode) → (V.places e).mode ≡ mode → position_of (V.places e) ≡ position mode (V.places e).at
      sits_so mode is = ap (λ m. position m (V.places e).at) is

      over : position_of (V.places e) ≡ at_byte (V.places e).at → (o : Option Bytes) → V.files (V.places e).name ≡ o → WritesOver V W p parent (act profile V W a old parent p next put owns bytes) g.has.fds bytes e o → Afterwards profile V W a old parent p next put owns bytes (file e)
      over sits None there f = absurd f
      over sits (Some held) there f = to_held profile V W a old parent p next put owns e held there sits bytes g f

      behind : position_of (V.places e) ≡ at_file_end → (o : Option Bytes) → V.files (V.places e).name ≡ o → WritesBehind V W p parent (act profile V W a old parent p next put owns bytes) g.has.fds bytes e o → Afterwards profile V W a old parent p next put owns bytes (file e)
      behind sits None there f = absurd f
      behind sits (Some held) there f = to_end profile V W a old parent p next put owns e held there sits bytes g f

      by : (mode : Mode) → (V.places e).mode ≡ mode → OpensOutput profile mode → WritesFile V W p parent (act profile V W a old parent p next put owns bytes) g.has.fds bytes e mode → Afterwards profile V W a old parent p next put owns bytes (file e)
      by ToRead is ok f = absurd ok
      by Fresh is ok f = over (sits_so Fresh is) (V.files (V.places e).name) refl f
      by Over is ok f = over (sits_so Over is) (V.files (V.places e).name) refl f
      by Append is ok f = behind (sits_so Append is) (V.files (V.places e).name) refl f

  pub writes_output : (b : Entry) → IsCall V W p → Before profile V W a old parent p next put owns bytes b → Afterwards profile V W a old parent p next put owns bytes b
  writes_output b ev g = by b g (subst (WritesAt V W p parent put (act profile V W a old parent p next put owns bytes) g.has.fds bytes) g.has.opened.output (kinds.effect_at V W p parent put (act profile V W a old parent p next put owns bytes) g.has.fds ev g.has.slot))
    where
      by : (b : Entry) (g : Before profile V W a old parent p next put owns bytes b) → WritesAt V W p parent put (act profile V W a old parent p next put owns bytes) g.has.fds bytes (Some b) → Afterwards profile V W a old parent p next put owns bytes b
      by input g f = absurd g.can_write
      by out g f = to_out profile V W a old parent p next put owns bytes g f
      by diag g f = absurd g.can_write
      by (reader i) g f = absurd g.can_write
      by (writer i) g f = to_pipe profile V W a old parent p next put owns bytes i g f
      by (file e) g f = to_file e g f
