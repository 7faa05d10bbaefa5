-- What is due of a test is due of the same test, and by a verdict that says the same.
use Rattle.std.proofs.Common.{◌≡◌, ℕ, ◌<◌, ◌≤◌, List, Bool, false, Some, All, length, map, inl, inr, refl, sym, subst, ◌∙◌}
use Rattle.std.specs.Prelude.{◌⊎◌, None}
use Rattle.std.proofs.lemmas.List.{get_or-map, length-map}
use Rattle.std.proofs.lemmas.List.Elements.{All-map}
use Rattle.mem_files.specs.Name.{Name, Bytes}
use Rattle.mem_files.specs.Files.{FileMap, files}
use Rattle.script_load.specs.Line.{ScriptLine}
use Rattle.script_load.specs.declared.limits.TheConstants.{MAX_TURNS}
use Rattle.script_load.specs.declared.profile.Profile.{Profile}
use Rattle.meaning_model.specs.Limits.{Outgrows}
use Rattle.meaning_model.specs.Meaning.{script_meaning, script_tree}
use Rattle.meaning_model.specs.Settled.{IsSettledScript}
use Rattle.sh_machine.specs.State.{User}
use Rattle.sh_machine.specs.Turn.{call_of, next_of}
use Rattle.kernel_model.specs.declared.events.Event.{Event}
use Rattle.kernel_model.specs.declared.events.Full.{Full}
use Rattle.kernel_model.specs.KernelState.{KernelState}
use Rattle.kernel_model.specs.Events.{run, IsFinished}
use Rattle.run_model.specs.ScriptRun.{script_kernel, IsSpentFrom}
use Rattle.kernel_runs.specs.Room.{EndsBy, HasRoom, IsFilled}
use Rattle.kernel_model.specs.Outcome.{RunOutcome, outcome_of}
use Rattle.kernel_model.specs.Explored.{AreAllOutcomes, IsNeverStuck}
use Rattle.order_search.specs.Told.{IsReplayed, LeadsToSleep}
use Rattle.order_search.specs.declared.outcomes.Outcome.{Outcome}
use Rattle.grade_verdicts.specs.Agrees.{Agrees, AgreesIn}
use Rattle.grade_verdicts.specs.Judged.{AreMost, limited, unlimited, EndsInTime, without_limit, ended, HasNoRoom, HasWrongRun, InEveryRun, IsInTime, IsJudged, judged, no_script, too_long, IsKnown, IsMeant, IsNotRight, IsPass, IsPassed, IsPassedInEveryOrder, IsRace, IsSpent, asleep, by_turns, IsUnlimited, IsUnsure, IsVerdict, IsWrong, by_meaning, in_every_order, IsWrongSoFar, start_of}
use Rattle.grade_verdicts.specs.Same.{IsCopyOf, IsSameExpected, IsSameTask, named}
use Rattle.grade_verdicts.specs.declared.expected.Expected.{Expected}
use Rattle.grade_verdicts.specs.declared.expected.Task.{Task}
use Rattle.grade_verdicts.specs.declared.verdict.Race.{Race}
use Rattle.grade_verdicts.specs.declared.verdict.Refusal.TheVariants.{Script, Line}
use Rattle.grade_verdicts.specs.declared.verdict.Verdict.{Verdict}
use Rattle.grade_verdicts.specs.declared.verdict.Verdict.TheVariants.{Pass, PassEveryOrder, Wrong, WrongSoFar, Race as IsRacing, Unsure, Refused, TooLarge, NoRoom, Spent}

-- what holds of each image holds at each item
unmapped : {X Y : Type 0} (P : Y → Type 0) (f : X → Y) (xs : List X) → All P (map f xs) → All (λ x. P (f x)) xs
unmapped P f xs h = λ k d less. subst P (get_or-map f xs k d (f d) less) (h k (f d) (subst (λ n. k < n) (sym (length-map xs f)) less))

turned : (one other : Expected) → IsSameExpected one other → IsSameExpected other one
turned one other same = record { out = sym same.out; files = sym same.files }

-- what holds of each name with its bytes
listed : (one other : Expected) → IsSameExpected one other → (P : Name × Bytes → Type 0) → All (λ file. P (named file)) one.files.items → All (λ file. P (named file)) other.files.items
listed one other same P h = unmapped P named other.files.items (subst (All P) same.files (All-map P named one.files.items h))

agreed : (one other : Expected) → IsSameExpected one other → (printed : Bytes) (F : FileMap) → Agrees one printed F → Agrees other printed F
agreed one other same printed F a = record {
  out = a.out ∙ same.out;
  files = listed one other same (λ pair. F pair.0 ≡ Some pair.1) a.files;
}

-- the same test has the same start, meaning and ends
module _ (t u : Task) (same : IsSameTask t u) where
  pub over : (P : Profile → Bytes → List (Name × Bytes) → Type 0) → P t.profile t.stdin.now t.files.now → P u.profile u.stdin.now u.files.now
  over P h =
      subst (λ F. P u.profile u.stdin.now F) same.files (subst (λ s. P u.profile s t.files.now) same.stdin (subst (λ p. P p t.stdin.now t.files.now) same.profile h))

  pub at_start : (lines : List ScriptLine) (P : KernelState User → Type 0) → P (start_of t lines) → P (start_of u lines)
  at_start lines P = over (λ p s F. P (script_kernel p lines s F))

  pub agrees : (printed : Bytes) (F : FileMap) → Agrees t.expected.now printed F → Agrees u.expected.now printed F
  agrees = agreed t.expected.now u.expected.now same.expected

  differs : (printed : Bytes) (F : FileMap) → (Agrees t.expected.now printed F → ⊥) → Agrees u.expected.now printed F → ⊥
  differs printed F not a = not (agreed u.expected.now t.expected.now (turned t.expected.now u.expected.now same.expected) printed F a)

  in_runs : (lines : List ScriptLine) (Leaves Stays : RunOutcome → Type 0) → ((o : RunOutcome) → Leaves o → Stays o) → InEveryRun t lines Leaves → InEveryRun u lines Stays
  in_runs lines Leaves Stays f h =
      at_start lines (λ k. (schedule : List Event) (notes : List Bool) (last : KernelState User) → run call_of next_of (Some k) schedule notes ≡ Some last → last.full ≡ None → IsFinished last → Stays (outcome_of last))
      (λ schedule notes last ran quiet finished. f (outcome_of last) (h schedule notes last ran quiet finished))

  pub known : (lines : List ScriptLine) → IsKnown t lines → IsKnown u lines
  known lines k = record {
    settled = over (λ p s F. IsSettledScript p lines s (files F)) k.settled;
    firm = listed t.expected.now u.expected.now same.expected (λ pair. (script_meaning u.profile lines u.stdin.now (files u.files.now)).soft pair.0 ≡ false)
        (over (λ p s F. All (λ file. (script_meaning p lines s (files F)).soft file.name.items ≡ false) t.expected.now.files.items) k.firm);
  }

  meant : (lines : List ScriptLine) → IsMeant t lines → IsMeant u lines
  meant lines m = record {
    settled = over (λ p s F. IsSettledScript p lines s (files F)) m.settled;
    meant = over (λ p s F. Agrees u.expected.now (script_meaning p lines s (files F)).out (script_meaning p lines s (files F)).files) (agrees _ _ m.meant);
    runs = in_runs lines (AgreesIn t.expected.now) (AgreesIn u.expected.now) (λ o a. agrees o.out (files o.files) a) m.runs;
  }

  passed : (lines : List ScriptLine) → IsPassed t lines → IsPassed u lines
  passed lines p = record { meant = meant lines p.meant; room = at_start lines HasRoom p.room }

  passed_in_every_order : (lines : List ScriptLine) → IsPassedInEveryOrder t lines → IsPassedInEveryOrder u lines
  passed_in_every_order lines p = record {
    outcomes = p.outcomes;
    all = at_start lines (λ k. AreAllOutcomes call_of next_of k p.outcomes) p.all;
    some = p.some;
    agree = λ k d less. agrees _ _ (p.agree k d less);
    runs = in_runs lines (AgreesIn t.expected.now) (AgreesIn u.expected.now) (λ o a. agrees o.out (files o.files) a) p.runs;
    room = at_start lines HasRoom p.room;
    awake = at_start lines (IsNeverStuck call_of next_of) p.awake;
  }

  replayed : (lines : List ScriptLine) (o : Outcome) → IsReplayed call_of next_of (start_of t lines) o → IsReplayed call_of next_of (start_of u lines) o
  replayed lines o = at_start lines (λ k. IsReplayed call_of next_of k o)

  wrong_run : (lines : List ScriptLine) (o : Outcome) → HasWrongRun t lines o → HasWrongRun u lines o
  wrong_run lines o w = record { replayed = replayed lines o w.replayed; differs = differs _ _ w.differs }

  wrong : (lines : List ScriptLine) → IsWrong t lines → IsWrong u lines
  wrong lines (by_meaning settled not runs) =
      by_meaning (over (λ p s F. IsSettledScript p lines s (files F)) settled)
      (over (λ p s F. Agrees u.expected.now (script_meaning p lines s (files F)).out (script_meaning p lines s (files F)).files → ⊥) (differs _ _ not))
      (in_runs lines (λ o. AgreesIn t.expected.now o → ⊥) (λ o. AgreesIn u.expected.now o → ⊥) (λ o d. differs o.out (files o.files) d) runs)
  wrong lines (in_every_order outcomes all some none) =
      in_every_order outcomes (at_start lines (λ k. AreAllOutcomes call_of next_of k outcomes) all) some (λ k d less. differs _ _ (none k d less))

  wrong_so_far : (lines : List ScriptLine) → IsWrongSoFar t lines → IsWrongSoFar u lines
  wrong_so_far lines w = record { outcomes = w.outcomes; some = w.some; each = λ k d less. wrong_run lines _ (w.each k d less) }

  not_right : (lines : List ScriptLine) → IsNotRight t lines → IsNotRight u lines
  not_right lines (inl w) = inl (wrong lines w)
  not_right lines (inr w) = inr (wrong_so_far lines w)

  unsure : (lines : List ScriptLine) (found : ℕ) → (IsKnown u lines → IsKnown t lines) → IsUnsure t lines found → IsUnsure u lines found
  unsure lines found back w = record {
    unknown = λ k. w.unknown (back k);
    outcomes = w.outcomes;
    count = w.count;
    replayed = λ k d less. replayed lines _ (w.replayed k d less);
    agree = λ k d less. agrees _ _ (w.agree k d less);
  }

  race : (lines : List ScriptLine) (one other : Race) → other.right.items ≡ one.right.items → other.wrong.items ≡ one.wrong.items → IsRace t lines one → IsRace u lines other
  race lines one other right wrong r = record {
    right = r.right;
    wrong = r.wrong;
    to_right = right ∙ r.to_right;
    to_wrong = wrong ∙ r.to_wrong;
    replayed = replayed lines r.right r.replayed;
    agrees = agrees _ _ r.agrees;
    other = wrong_run lines r.wrong r.other;
  }

  no_room : (lines : List ScriptLine) (full : Full) → HasNoRoom t lines full → HasNoRoom u lines full
  no_room lines full h = record { filled = at_start lines (λ k. IsFilled k full) h.filled; space = h.space }

  without : IsUnlimited t → IsUnlimited u
  without = subst (λ n. (n ≡ 0) ⊎ (MAX_TURNS < n)) same.turns

  pub most : (turns : ℕ) → AreMost t turns → AreMost u turns
  most turns (limited is) = limited (is ∙ same.turns)
  most turns (unlimited none is) = unlimited (without none) is

  spent : (lines : List ScriptLine) → IsSpent t lines → IsSpent u lines
  spent lines (by_turns turns are spends) = by_turns turns (most turns are) (at_start lines (λ k. IsSpentFrom k turns) spends)
  spent lines (asleep pids leads) = asleep pids (at_start lines (λ k. LeadsToSleep call_of next_of k pids) leads)

  ends_in_time : (lines : List ScriptLine) → EndsInTime t lines → EndsInTime u lines
  ends_in_time lines (without_limit none) = without_limit (without none)
  ends_in_time lines (ended schedule ends few) = ended schedule (at_start lines (λ k. EndsBy k schedule) ends) (subst (λ n. length schedule ≤ n) same.turns few)

  -- what the verdict says of it
  due : (lines : List ScriptLine) (verdict copy : Verdict) → (IsKnown u lines → IsKnown t lines) → IsCopyOf verdict copy → IsVerdict t lines verdict → IsVerdict u lines copy
  due lines Pass copy back is h = subst (IsVerdict u lines) (sym is) (passed lines h)
  due lines PassEveryOrder copy back is h = subst (IsVerdict u lines) (sym is) (passed_in_every_order lines h)
  due lines (Wrong difference) copy back is h = subst (IsVerdict u lines) (sym is.1) (wrong lines h)
  due lines (WrongSoFar difference) copy back is h = subst (IsVerdict u lines) (sym is.1) (wrong_so_far lines h)
  due lines (IsRacing one) copy back is h = subst (IsVerdict u lines) (sym is.1) (race lines one is.0 is.2.right is.2.wrong h)
  due lines (Unsure found) copy back is h = subst (IsVerdict u lines) (sym is) (unsure lines found back h)
  due lines (Refused (Script fault)) copy back is h = absurd h
  due lines (Refused (Line number kind)) copy back is h = subst (IsVerdict u lines) (sym is) (not_right lines h)
  due lines (NoRoom full) copy back is h = subst (IsVerdict u lines) (sym is) (no_room lines full h)
  due lines TooLarge copy back is h = subst (IsVerdict u lines) (sym is) (over (λ p s F. Outgrows p (script_tree lines) s (files F)) h)
  due lines Spent copy back is h = subst (IsVerdict u lines) (sym is) (spent lines h)

  in_time : (lines : List ScriptLine) (verdict copy : Verdict) → IsCopyOf verdict copy → IsInTime t lines verdict → IsInTime u lines copy
  in_time lines verdict copy is (inl spends) = inl (subst (λ v. IsCopyOf v copy) spends is)
  in_time lines verdict copy is (inr ends) = inr (ends_in_time lines ends)

-- seen from the other one
other_way : (t u : Task) → IsSameTask t u → IsSameTask u t
other_way t u same = record {
  profile = sym same.profile;
  stdin = sym same.stdin;
  files = sym same.files;
  expected = turned t.expected.now u.expected.now same.expected;
  bytes = sym same.bytes;
  states = sym same.states;
  turns = sym same.turns;
}

-- a verdict that is due of a test is due of the same test, if it says the same
pub shared : (t u : Task) (bytes : Bytes) (verdict copy : Verdict) → IsSameTask t u → IsCopyOf verdict copy → IsJudged t bytes verdict → IsJudged u bytes copy
shared t u bytes verdict copy same is (no_script fault) = subst (IsJudged u bytes) (sym is) (no_script fault)
shared t u bytes verdict copy same is (too_long more) = subst (IsJudged u bytes) (sym is) (too_long (subst (λ n. n < length bytes) same.bytes more))
shared t u bytes verdict copy same is (judged lines script time says) =
    judged lines script (in_time t u same lines verdict copy is time) (due t u same lines verdict copy (known u t (other_way t u same) lines) is says)

-- and one that says the same is a pass only where that is one
pub passes_too : (verdict copy : Verdict) → IsCopyOf verdict copy → IsPass copy → IsPass verdict
passes_too Pass copy is pass = inl refl
passes_too PassEveryOrder copy is pass = inr refl
passes_too (Wrong difference) copy is (inl pass) = let z : ⊥ = let e = is.1 in cc in absurd z
passes_too (Wrong difference) copy is (inr pass) = let z : ⊥ = let e = is.1 in cc in absurd z
passes_too (WrongSoFar difference) copy is (inl pass) = let z : ⊥ = let e = is.1 in cc in absurd z
passes_too (WrongSoFar difference) copy is (inr pass) = let z : ⊥ = let e = is.1 in cc in absurd z
passes_too (IsRacing race) copy is (inl pass) = let z : ⊥ = let e = is.1 in cc in absurd z
passes_too (IsRacing race) copy is (inr pass) = let z : ⊥ = let e = is.1 in cc in absurd z
passes_too (Unsure found) copy is (inl pass) = let z : ⊥ = cc in absurd z
passes_too (Unsure found) copy is (inr pass) = let z : ⊥ = cc in absurd z
passes_too (Refused refusal) copy is (inl pass) = let z : ⊥ = cc in absurd z
passes_too (Refused refusal) copy is (inr pass) = let z : ⊥ = cc in absurd z
passes_too (NoRoom full) copy is (inl pass) = let z : ⊥ = cc in absurd z
passes_too (NoRoom full) copy is (inr pass) = let z : ⊥ = cc in absurd z
passes_too TooLarge copy is (inl pass) = let z : ⊥ = cc in absurd z
passes_too TooLarge copy is (inr pass) = let z : ⊥ = cc in absurd z
passes_too Spent copy is (inl pass) = let z : ⊥ = cc in absurd z
passes_too Spent copy is (inr pass) = let z : ⊥ = cc in absurd z
