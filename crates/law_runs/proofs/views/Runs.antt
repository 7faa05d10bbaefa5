-- Along a run of a kernel from its start: what holds at the start and is kept by each event of a settled kernel, holds of
-- each kernel of a run in which nothing was full.
use Rattle.std.proofs.Common.{◌≡◌, List, [], ◌∷◌, ◌++◌, Bool, Option, Some, None, refl, sym, ◌∙◌, subst}
use Rattle.mem_files.specs.Name.{Name, Bytes}
use Rattle.mem_files.specs.Listing.{AreFiles}
use Rattle.kernel_model.specs.declared.events.Event.{Event}
use Rattle.kernel_model.specs.declared.events.Full.{Full}
use Rattle.kernel_model.specs.KernelState.{KernelState}
use Rattle.kernel_model.specs.Boot.{boot_kernel}
use Rattle.kernel_model.specs.Events.{happens, run}
use Rattle.kernel_model.proofs.Runs.{run_more}
use Rattle.kernel_model.proofs.Lasting.{run_later, no_run as none_runs}
use Rattle.law_kernel.proofs.kernel.Runs.{every_run_rests}
use Rattle.law_kernel.proofs.kernel.EndsRuns.{every_run_in_step}
use Rattle.law_kernel.proofs.kernel.SoundRuns.{every_run_is_sound}
use Rattle.sh_machine.specs.State.{User}
use Rattle.sh_machine.specs.Turn.{call_of, next_of}
use Rattle.law_runs.specs.Consistent.{IsConsistent}

pub no_run : (es : List Event) (ns : List Bool) (m : KernelState User) → run call_of next_of None es ns ≡ Some m → ⊥
no_run = none_runs call_of next_of

pub unmarked : (o : Option Full) → ((full : Full) → o ≡ Some full → ⊥) → o ≡ None
unmarked None h = refl
unmarked (Some full) h = absurd (h full refl)

module _ (first shell : User) (input : Bytes) (list : List (Name × Bytes)) where
  abbrev start : KernelState User
  start = boot_kernel first shell input list

  -- a kernel that a run from the start leads to
  pub record IsReached (k : KernelState User) : Type 0 where
    pub events : List Event
    pub notes : List Bool
    pub runs : run call_of next_of (Some start) events notes ≡ Some k

  pub settled : AreFiles list → (k : KernelState User) → IsReached k → IsConsistent k
  settled are k r = record {
    sound = every_run_is_sound call_of next_of first shell input list r.events r.notes k are r.runs;
    rests = every_run_rests call_of next_of first shell input list r.events r.notes k r.runs;
    ends = every_run_in_step call_of next_of first shell input list r.events r.notes k r.runs;
    names = λ id past. (run_later call_of next_of start k r.events r.notes r.runs).names id past refl;
  }

  module _ (P : KernelState User → Type 0) (keeps : (k l : KernelState User) (e : Event) (n : Bool) → IsReached k → happens call_of next_of k e n ≡ Some l → k.full ≡ None → l.full ≡ None → P k → P l) where
    -- from a kernel that was reached on
    go_on : (es : List Event) (ns : List Bool) (k m : KernelState User) → IsReached k → run call_of next_of (Some k) es ns ≡ Some m → m.full ≡ None → P k → P m
    go_on [] [] k m r is full holds = let same : k ≡ m = cc in subst P same holds
    go_on [] (n ∷ ns) k m r is full holds = absurd (let z : ⊥ = cc in z)
    go_on (e ∷ es) [] k m r is full holds = absurd (let z : ⊥ = cc in z)
    go_on (e ∷ es) (n ∷ ns) k m r is full holds = by (happens call_of next_of k e n) refl (λ l. go_on es ns l m) is
      where
        by : (o : Option (KernelState User)) → happens call_of next_of k e n ≡ o → ((l : KernelState User) → IsReached l → run call_of next_of (Some l) es ns ≡ Some m → m.full ≡ None → P l → P m) → run call_of next_of o es ns ≡ Some m → P m
        by None first on rest = absurd (no_run es ns m rest)
        by (Some l) first on rest =
            let was : k.full ≡ None = unmarked k.full (λ f marked. let z : Some f ≡ None = sym ((run_later call_of next_of k m (e ∷ es) (n ∷ ns) is).mark f marked) ∙ full in let w : ⊥ = cc in w) in
            let now : l.full ≡ None = unmarked l.full (λ f marked. let z : Some f ≡ None = sym ((run_later call_of next_of l m es ns rest).mark f marked) ∙ full in let w : ⊥ = cc in w) in
            on l (record { events = r.events ++ e ∷ []; notes = r.notes ++ n ∷ []; runs = run_more call_of next_of (Some start) r.events r.notes k l e n r.runs first }) rest full (keeps k l e n r first was now holds)

    pub every_run_keeps : P start → (es : List Event) (ns : List Bool) (m : KernelState User) → run call_of next_of (Some start) es ns ≡ Some m → m.full ≡ None → P m
    every_run_keeps holds es ns m is full = go_on es ns start m (record { events = []; notes = []; runs = refl }) is full holds
