-- Any call of a program.
use Rattle.std.proofs.Common.{◌≡◌, ◌⊎◌, inl, inr, ℕ, zero, suc, List, [], refl, sym, ap, ◌∙◌, subst, arith}
use Rattle.mem_files.specs.Name.{Name, Bytes}
use Rattle.prog_parts.specs.declared.program.Program.{Program}
use Rattle.prog_parts.specs.declared.program.Program.TheVariants.{Cat, Echo, Grep, Head, Tee, Wc}
use Rattle.script_load.specs.declared.profile.Profile.{Profile}
use Rattle.user_calls.specs.declared.calls.Call.{Call}
use Rattle.user_calls.specs.declared.calls.Call.TheVariants.{Fork, Exec, Exit, Wait, MakePipe, Read, Write, OpenFile, Close, Dup}
use Rattle.user_calls.specs.declared.calls.Mode.{Mode}
use Rattle.user_calls.specs.declared.calls.Mode.TheVariants.{Input as ToRead, Fresh}
use Rattle.user_progs.specs.State.{State}
use Rattle.user_progs.specs.Turn.{Turn}
use Rattle.tree_model.specs.Tame.{Among, mode_of, IsTame}
use Rattle.tree_model.specs.Rules.{exits}
use Rattle.process_model.specs.Seen.{Entry, live, View}
use Rattle.process_model.specs.Own.{Owned, own_fds, PutFits, program_act}
use Rattle.process_model.specs.Shape.{works}
use Rattle.process_model.specs.Effect.{IsCall}
use Rattle.process_model.specs.Part.{goes, Part, After}
use Rattle.process_model.proofs.Counts.{same_yes}
use Rattle.law_runs.proofs.standing.OwnFiles.{Found, found}
use Rattle.law_runs.proofs.standing.ProgramReads.{reads_standard}
use Rattle.law_runs.proofs.standing.ProgramWrites.{writes_output}
use Rattle.law_runs.proofs.standing.ProgramAsks.{says, reads_own, writes_own, closes_own}
use Rattle.law_runs.proofs.standing.ProgramOpens.{opens_to_read, opens_fresh}
use Rattle.law_runs.proofs.standing.CallKinds as kinds
use Rattle.law_runs.proofs.standing.ProgramGoes as goes_on

its_mode : (which : Program) → (mode_of which ≡ ToRead) ⊎ (mode_of which ≡ Fresh)
its_mode Cat = inl refl
its_mode Echo = inl refl
its_mode Grep = inl refl
its_mode Head = inl refl
its_mode Tee = inr refl
its_mode Wc = inl refl

module _ (profile : Profile) (V W : View) (a b old : Entry) (parent p : ℕ) (ev : IsCall V W p) (next : State) (put : ℕ) (owns : List Owned) where
  abbrev Before : Call → Type 0
  Before call = goes_on.Before profile V W a b old parent p call next put owns

  abbrev Afterwards : Call → Type 0
  Afterwards call = goes_on.Afterwards profile V W a b old parent p call next put owns

  abbrev Tame : Call → Type 0
  Tame call = (which : Program) × ((arguments : List Bytes) × IsTame which arguments (own_fds owns) call)

  -- a file of its own
  own : (call : Call) (fd : ℕ) → Before call → Among fd (own_fds owns) → Found V owns fd
  own call fd g among = found V owns fd among g.has.apart g.has.placed g.has.plain

  leaves : Before Exit → Afterwards Exit
  leaves g =
      kinds.ended V W profile a b old parent p (program_act (goes_on.waiting Exit next)) g.has.fds (works p (goes_on.waiting Exit next) put owns) slot
      (kinds.effect_at V W p parent put (program_act (goes_on.waiting Exit next)) g.has.fds ev g.has.slot) (λ q ne kid. ne (same_yes q p (g.kids q kid))) (goes (exits refl)) (λ q. refl) refl (omega arith)
    where
      none : PutFits b (goes_on.waiting Exit next) put → put ≡ 0
      none (inl z) = z
      none (inr some) = absurd (let e : Exit ≡ Write 1 some.1.0 = some.1.1 in let z : ⊥ = cc in z)

      slot : V.slots p ≡ live parent (program_act (goes_on.waiting Exit next)) 0 g.has.fds
      slot = g.has.slot ∙ ap (λ n. live parent (program_act (goes_on.waiting Exit next)) n g.has.fds) (none g.has.fits)

  reads_at : (fd most : ℕ) → Before (Read (suc fd) most) → Tame (Read (suc fd) most) → Afterwards (Read (suc fd) most)
  reads_at fd most g (which, (arguments, (some, few, inl standard))) = absurd (omega (arith, standard.0))
  reads_at fd most g (which, (arguments, (some, few, inr among))) = reads_own profile V W a b old parent p ev next put owns fd most (own (Read (suc fd) most) (suc fd) g among) few g

  writes_low : (bytes : Bytes) → Before (Write 0 bytes) → Tame (Write 0 bytes) → Afterwards (Write 0 bytes)
  writes_low bytes g (which, (arguments, inl e)) = absurd (omega (arith, e))
  writes_low bytes g (which, (arguments, inr (inl e))) = absurd (omega (arith, e))
  writes_low bytes g (which, (arguments, inr (inr among))) = absurd (omega (arith, (own (Write 0 bytes) 0 g among).above))

  writes_at : (fd : ℕ) (bytes : Bytes) → Before (Write (suc (suc (suc fd))) bytes) → Tame (Write (suc (suc (suc fd))) bytes) → Afterwards (Write (suc (suc (suc fd))) bytes)
  writes_at fd bytes g (which, (arguments, inl e)) = absurd (omega (arith, e))
  writes_at fd bytes g (which, (arguments, inr (inl e))) = absurd (omega (arith, e))
  writes_at fd bytes g (which, (arguments, inr (inr among))) = writes_own profile V W a b old parent p ev next put owns fd bytes (own (Write (suc (suc (suc fd))) bytes) (suc (suc (suc fd))) g among) g

  opens : (name : Name) (mode : Mode) → Before (OpenFile name mode) → Tame (OpenFile name mode) → Afterwards (OpenFile name mode)
  opens name mode g (which, (arguments, (is, word))) = by (its_mode which)
    where
      by : (mode_of which ≡ ToRead) ⊎ (mode_of which ≡ Fresh) → Afterwards (OpenFile name mode)
      by (inl read) = subst (λ m. Before (OpenFile name m) → Afterwards (OpenFile name m)) (sym (is ∙ read)) (opens_to_read profile V W a b old parent p ev next put owns name) g
      by (inr fresh) = subst (λ m. Before (OpenFile name m) → Afterwards (OpenFile name m)) (sym (is ∙ fresh)) (opens_fresh profile V W a b old parent p ev next put owns name) g

  by_call : (call : Call) → Before call → Tame call → Afterwards call
  by_call Fork g tame = absurd tame.1.1
  by_call (Exec found) g tame = absurd tame.1.1
  by_call Exit g tame = leaves g
  by_call Wait g tame = absurd tame.1.1
  by_call MakePipe g tame = absurd tame.1.1
  by_call (Read zero most) g tame = reads_standard profile V W a b old parent p ev next put owns most tame.1.1.0 tame.1.1.1 g
  by_call (Read (suc fd) most) g tame = reads_at fd most g tame
  by_call (Write zero bytes) g tame = writes_low bytes g tame
  by_call (Write (suc zero) bytes) g tame = writes_output profile V W a old parent p next put owns bytes b ev g
  by_call (Write (suc (suc zero)) bytes) g tame = says profile V W a b old parent p ev next put owns bytes g
  by_call (Write (suc (suc (suc fd))) bytes) g tame = writes_at fd bytes g tame
  by_call (OpenFile name mode) g tame = opens name mode g tame
  by_call (Close fd) g tame = closes_own profile V W a b old parent p ev next put owns fd (own (Close fd) fd g tame.1.1) g
  by_call (Dup fd) g tame = absurd tame.1.1

pub program_goes : (profile : Profile) (V W : View) (a b old : Entry) (parent p : ℕ) (ev : IsCall V W p) (turn : Turn) (put : ℕ) (owns : List Owned) → Part profile V a b old parent p (works p turn put owns) → After profile V W p a b old parent (works p turn put owns)
program_goes profile V W a b old parent p ev turn put owns g = by_call profile V W a b old parent p ev turn.next put owns turn.call g (g.has.tame.which, (g.has.tame.arguments, g.has.tame.calls []))
