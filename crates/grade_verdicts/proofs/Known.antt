-- What verdicts follow from what the meaning and an exploration say.
use Rattle.std.proofs.Common.{◌≡◌, ℕ, Bool, true, false, List, [], length, map, Option, Some, None, Result, Ok, Err, All, inl, inr, refl, sym, ap, subst, ◌∙◌, arith}
use Rattle.std.specs.Prelude.{◌↔◌, ◌≢◌, Any, Contains, IfOk, IfSome, slice_index_or}
use Rattle.std.proofs.lemmas.Bool.{false≢true}
use Rattle.std.proofs.lemmas.List.{length-map}
use Rattle.std.proofs.lemmas.List.Elements.{All-contains, All-map}
use Rattle.mem_files.specs.Name.{Name, Bytes}
use Rattle.mem_files.specs.Files.{FileMap, files}
use Rattle.mem_files.specs.Listing.{AreFiles}
use Rattle.prog_parts.specs.NameSets.{Names, among}
use Rattle.script_load.specs.Limits.{are_small}
use Rattle.script_load.specs.Script.{IsScript}
use Rattle.script_load.specs.Line.{ScriptLine}
use Rattle.script_load.specs.declared.profile.Profile.{Profile}
use Rattle.meaning_model.specs.Meaning.{script_meaning}
use Rattle.meaning_model.specs.Settled.{IsSettledScript}
use Rattle.plain_run.proofs.NameSets.{contained, contains}
use Rattle.sh_machine.specs.Turn.{call_of, next_of}
use Rattle.kernel_model.specs.declared.events.Full.{Full}
use Rattle.kernel_model.specs.declared.events.Full.TheVariants.{Memory}
use Rattle.kernel_model.specs.Turns.{quiet_turns, turn_events, turn_notes}
use Rattle.kernel_model.specs.Outcome.{outcome_of}
use Rattle.kernel_model.specs.Explored.{AreAllOutcomes, IsNeverStuck}
use Rattle.order_search.specs.Told.{outcome_by, IsReplayed, LeadsToSleep}
use Rattle.order_search.specs.declared.outcomes.Outcome.{Outcome}
use Rattle.order_search.proofs.Telling.{some_of}
use Rattle.kernel_runs.specs.Room.{HasRoom}
use Rattle.law_runs.proofs.standing.RunsEnd.{finished_means}
use Rattle.law_trees.proofs.trees.Short.{small_short}
use Rattle.grade_verdicts.specs.Agrees.{Agrees, AgreesIn, AgreesWith, HasFile}
use Rattle.grade_verdicts.specs.Judged.{Ends, HasNoRoom, InEveryRun, IsKnown, IsMeant, IsPassedInEveryOrder, IsSettledOn, IsInTime, IsJudged, IsNotRight, IsPass, IsSpent, IsVerdict, IsWrong, IsWrongSoFar, asleep, by_meaning, in_every_order, judged, meaning_of, start_of}
use Rattle.grade_verdicts.specs.declared.expected.Expected.{Expected}
use Rattle.grade_verdicts.specs.declared.expected.ExpectedFile.{ExpectedFile}
use Rattle.grade_verdicts.specs.declared.expected.Task.{Task}
use Rattle.grade_verdicts.specs.declared.verdict.Refusal.{Refusal}
use Rattle.grade_verdicts.specs.declared.verdict.Verdict.{Verdict}
use Rattle.grade_verdicts.specs.declared.verdict.Verdict.TheVariants.{Refused}

moved : (F G : FileMap) (file : ExpectedFile) → F file.name.items ≡ G file.name.items → HasFile F file → HasFile G file
moved F G file same is = sym same ∙ is

-- what agrees in one output and one map agrees in equal ones
carried : (e : Expected) (out printed : Bytes) (F G : FileMap) → out ≡ printed → All (λ file. F file.name.items ≡ G file.name.items) e.files.items → Agrees e out F → Agrees e printed G
carried e out printed F G one same a =
    record {
      out = sym one ∙ a.out;
      files = λ k d less. moved F G (slice_index_or e.files.items k d) (same k d less) (a.files k d less);
    }

not_true : (b : Bool) → (b ≡ true → ⊥) → b ≡ false
not_true true not = absurd (not refl)
not_true false not = refl

is_firm : (soft : List Name) (is_soft : Names) (name : Name) → (Contains soft name ↔ (is_soft name ≡ true)) → among soft name ≡ false → is_soft name ≡ false
is_firm soft is_soft name each not = not_true (is_soft name) (λ is. false≢true (sym not ∙ contained soft name (each.1 is)))

not_false : (soft : List Name) (is_soft : Names) (name : Name) → (Contains soft name ↔ (is_soft name ≡ true)) → is_soft name ≡ false → among soft name ≡ false
not_false soft is_soft name each not = not_true (among soft name) (λ is. false≢true (sym not ∙ each.0 (contains soft name is)))

-- where the meaning says what every run leaves, no file that is expected is among the soft ones
pub firm_of : (t : Task) (lines : List ScriptLine) (p : Profile) (soft : List Name) → p ≡ t.profile
    → ((name : Name) → Contains soft name ↔ ((script_meaning p lines t.stdin.now (files t.files.now)).soft name ≡ true))
    → IsKnown t lines → All (λ file. among soft file.name.items ≡ false) t.expected.now.files.items
firm_of t lines p soft same each known = λ k d less.
    let name = (slice_index_or t.expected.now.files.items k d).name.items in
    not_false soft (meaning_of t lines).soft name (subst (λ q. Contains soft name ↔ ((script_meaning q lines t.stdin.now (files t.files.now)).soft name ≡ true)) same (each name)) (known.firm k d less)

-- turns that lead to where all sleep
pub spent_asleep : {X : Type 0} (t : Task) (lines : List ScriptLine) (items : X → List ℕ) (stuck : Option X) → (stuck ≡ None → ⊥) → IfSome stuck (λ pids. LeadsToSleep call_of next_of (start_of t lines) (items pids)) → IsSpent t lines
spent_asleep t lines items stuck some leads =
    let there = some_of (λ pids. LeadsToSleep call_of next_of (start_of t lines) (items pids)) stuck some leads in
    asleep (items there.0) there.1

-- what was found by the meaning: of a settled script, no expected file of which is soft
pub record Found (t : Task) (lines : List ScriptLine) (soft : List Name) (printed : Bytes) (F : FileMap) : Type 0 where
  pub small : are_small lines ≡ true
  pub are : AreFiles t.files.now
  pub settled : IsSettledOn t lines
  pub out : printed ≡ (meaning_of t lines).out
  pub files : (name : Name) → F name ≡ (meaning_of t lines).files name
  pub each : (name : Name) → Contains soft name ↔ ((meaning_of t lines).soft name ≡ true)
  pub firm : All (λ file. among soft file.name.items ≡ false) t.expected.now.files.items

-- the same by what is known under a profile that is the test's
pub found : (t : Task) (lines : List ScriptLine) (p : Profile) (soft : List Name) (printed out : Bytes) (F : FileMap) → p ≡ t.profile → are_small lines ≡ true → AreFiles t.files.now
    → IsSettledScript p lines t.stdin.now (files t.files.now) → printed ≡ out → out ≡ (script_meaning p lines t.stdin.now (files t.files.now)).out
    → ((name : Name) → F name ≡ (script_meaning p lines t.stdin.now (files t.files.now)).files name)
    → ((name : Name) → Contains soft name ↔ ((script_meaning p lines t.stdin.now (files t.files.now)).soft name ≡ true))
    → All (λ file. among soft file.name.items ≡ false) t.expected.now.files.items → Found t lines soft printed F
found t lines p soft printed out F same small are settled one is each_file each firm =
    record {
      small = small;
      are = are;
      settled = subst (λ q. IsSettledScript q lines t.stdin.now (files t.files.now)) same settled;
      out = subst (λ q. printed ≡ (script_meaning q lines t.stdin.now (files t.files.now)).out) same (one ∙ is);
      files = λ name. subst (λ q. F name ≡ (script_meaning q lines t.stdin.now (files t.files.now)).files name) same (each_file name);
      each = λ name. subst (λ q. Contains soft name ↔ ((script_meaning q lines t.stdin.now (files t.files.now)).soft name ≡ true)) same (each name);
      firm = firm;
    }

-- a value isn't both there and missing
abbrev Missing : {X : Type 0} → Option X → Type 0
Missing None = Unit {0}
Missing (Some x) = ⊥

pub not_both : {X : Type 0} (o : Option X) (x : X) → o ≡ Some x → o ≡ None → ⊥
not_both o x some none = subst Missing some (subst Missing (sym none) tt)

-- every finished run in which nothing was full has the output and the expected files that were found
same_in_runs : (t : Task) (lines : List ScriptLine) (soft : List Name) (out : Bytes) (F : FileMap) → Found t lines soft out F
    → InEveryRun t lines (λ o. (out ≡ o.out) × All (λ file. F file.name.items ≡ files o.files file.name.items) t.expected.now.files.items)
same_in_runs t lines soft out F f schedule notes last ran quiet finished =
    let m = finished_means t.profile lines t.stdin.now t.files.now schedule notes last f.are f.settled (small_short lines f.small) ran quiet finished in
    let value = meaning_of t lines in (
      f.out ∙ sym m.out,
      λ k d less.
          let name = (slice_index_or t.expected.now.files.items k d).name.items in
          f.files name ∙ sym (m.files name (is_firm soft value.soft name (f.each name) (f.firm k d less))),
    )

pub meant : (t : Task) (lines : List ScriptLine) (soft : List Name) (out : Bytes) (F : FileMap) → Found t lines soft out F → Agrees t.expected.now out F → IsMeant t lines
meant t lines soft out F f a =
    let e = t.expected.now in
    let value = meaning_of t lines in
    record {
      settled = f.settled;
      meant = carried e out value.out F value.files f.out (λ k d less. f.files (slice_index_or e.files.items k d).name.items) a;
      runs = λ schedule notes last ran quiet finished.
          let same = same_in_runs t lines soft out F f schedule notes last ran quiet finished in
          carried e out last.out F (files last.files) same.0 same.1 a;
    }

pub wrong : (t : Task) (lines : List ScriptLine) (soft : List Name) (out : Bytes) (F : FileMap) → Found t lines soft out F → (Agrees t.expected.now out F → ⊥) → IsWrong t lines
wrong t lines soft out F f not =
    let e = t.expected.now in
    let value = meaning_of t lines in
    by_meaning f.settled
    (λ a. not (carried e value.out out value.files F (sym f.out) (λ k d less. sym (f.files (slice_index_or e.files.items k d).name.items)) a))
    (λ schedule notes last ran quiet finished a.
    let same = same_in_runs t lines soft out F f schedule notes last ran quiet finished in
    not (carried e last.out out (files last.files) F (sym same.0) (λ k d less. sym (same.1 k d less)) a))

-- the run of an outcome's own schedule
abbrev ends_of : (t : Task) (lines : List ScriptLine) (o : Outcome) → IsReplayed call_of next_of (start_of t lines) o → Ends t lines (turn_events (quiet_turns o.pids.items))
ends_of t lines o r = record { notes = turn_notes (quiet_turns o.pids.items); last = r.last; runs = r.turns; finished = r.finishes.0 }

full_of : (t : Task) (lines : List ScriptLine) (o : Outcome) (r : IsReplayed call_of next_of (start_of t lines) o) → r.last.full ≡ o.full
full_of t lines o r = ap (λ outcome. outcome.full) r.finishes.1

pub roomy_of : (t : Task) (lines : List ScriptLine) (o : Outcome) → IsReplayed call_of next_of (start_of t lines) o → o.full ≡ None → HasRoom (start_of t lines)
roomy_of t lines o r none = record { schedule = turn_events (quiet_turns o.pids.items); ends = ends_of t lines o r; roomy = full_of t lines o r ∙ none }

filled_by : (t : Task) (lines : List ScriptLine) (full : Full) (o : Outcome) → IsReplayed call_of next_of (start_of t lines) o → o.full ≡ Some full → full ≢ Memory → HasNoRoom t lines full
filled_by t lines full o r is space = record { filled = record { schedule = turn_events (quiet_turns o.pids.items); ends = ends_of t lines o r; filled = full_of t lines o r ∙ is }; space = space }

pub filled_of : (t : Task) (lines : List ScriptLine) (full : Full) (outcomes : List Outcome) (o : Outcome) → All (IsReplayed call_of next_of (start_of t lines)) outcomes → Contains outcomes o → o.full ≡ Some full
    → full ≢ Memory → HasNoRoom t lines full
filled_of t lines full outcomes o each has is space = filled_by t lines full o (All-contains (IsReplayed call_of next_of (start_of t lines)) outcomes o each has) is space

none_in : (outcomes : List Outcome) (one : Outcome) → Contains outcomes one → outcomes ≡ [] → ⊥
none_in outcomes one has none = let z : ⊥ = omega (arith, has.1, ap length none) in z

some_in : (outcomes : List Outcome) (one : Outcome) → Contains outcomes one → map outcome_by outcomes ≡ [] → ⊥
some_in outcomes one has none = let z : ⊥ = omega (arith, has.1, length-map outcomes outcome_by, ap length none) in z

pub passed_in_every_order : (t : Task) (lines : List ScriptLine) (outcomes : List Outcome) (roomy : Outcome) → AreAllOutcomes call_of next_of (start_of t lines) (map outcome_by outcomes) → All (AgreesWith t.expected.now) outcomes
    → IsNeverStuck call_of next_of (start_of t lines) → All (IsReplayed call_of next_of (start_of t lines)) outcomes → Contains outcomes roomy → roomy.full ≡ None → IsPassedInEveryOrder t lines
passed_in_every_order t lines outcomes roomy all are awake each has none =
    let e = t.expected.now in
    let agree : All (AgreesIn e) (map outcome_by outcomes) = All-map (AgreesIn e) outcome_by outcomes are in
    record {
      outcomes = map outcome_by outcomes;
      all = all;
      some = some_in outcomes roomy has;
      agree = agree;
      runs = λ schedule notes last ran quiet finished. All-contains (AgreesIn e) (map outcome_by outcomes) (outcome_of last) agree (all.roomy schedule notes last ran quiet finished);
      room = roomy_of t lines roomy (All-contains (IsReplayed call_of next_of (start_of t lines)) outcomes roomy each has) none;
      awake = awake;
    }

-- of all outcomes, of which this is one, none agrees
pub wrong_in_every_order : (t : Task) (lines : List ScriptLine) (outcomes : List Outcome) (other : Outcome) → AreAllOutcomes call_of next_of (start_of t lines) (map outcome_by outcomes) → Contains outcomes other
    → All (λ outcome. AgreesWith t.expected.now outcome → ⊥) outcomes → IsWrong t lines
wrong_in_every_order t lines outcomes other all has none =
    in_every_order (map outcome_by outcomes) all (some_in outcomes other has) (All-map (λ outcome. AgreesIn t.expected.now outcome → ⊥) outcome_by outcomes none)

-- the same of those that were found
pub wrong_so_far : (t : Task) (lines : List ScriptLine) (outcomes : List Outcome) (other : Outcome) → All (IsReplayed call_of next_of (start_of t lines)) outcomes → Contains outcomes other
    → All (λ outcome. AgreesWith t.expected.now outcome → ⊥) outcomes → IsWrongSoFar t lines
wrong_so_far t lines outcomes other each has none =
    record {
      outcomes = outcomes;
      some = none_in outcomes other has;
      each = λ k d less. record { replayed = each k d less; differs = none k d less };
    }

-- one that is among them and has P
pub any_of : {X : Type 0} (P : X → Type 0) (xs : List X) (x : X) → Contains xs x → P x → Any P xs
any_of P xs x has holds = (has.0, x, has.1, has.2, holds)

-- one of both ways of being wrong
pub not_right : (t : Task) (lines : List ScriptLine) (whole : Bool) → (whole ≡ true → IsWrong t lines) → (whole ≡ false → IsWrongSoFar t lines) → IsNotRight t lines
not_right t lines true wrong part = inl (wrong refl)
not_right t lines false wrong part = inr (part refl)

pub refused_fails : (refusal : Refusal) → IsPass (Refused refusal) → ⊥
refused_fails refusal (inl is) = let z : ⊥ = cc in z
refused_fails refusal (inr is) = let z : ⊥ = cc in z

-- what is due of a script's lines is of its bytes
pub judged_lines : {E : Type 0} (t : Task) (bytes : Bytes) (lines : List ScriptLine) (result : Result Verdict E) → IsScript bytes lines → IfOk result (IsInTime t lines) → IfOk result (IsVerdict t lines) → IfOk result (IsJudged t bytes)
judged_lines t bytes lines (Ok verdict) script time due = judged lines script time due
judged_lines t bytes lines (Err fault) script time due = tt
