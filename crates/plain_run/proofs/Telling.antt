-- The reasons of the lines so far are reasons of the script, and there is none just where all of them are settled.
use Rattle.std.proofs.Common.{◌≡◌, ◌↔◌, IsTrue, ℕ, ◌+◌, ◌<◌, Bool, true, false, not, ◌||◌, ◌&&◌, List, [], ◌∷◌, ◌++◌, length, take, get_or, Option, Some, None, refl, sym, ap, ap₂, subst, ◌∙◌, arith}
use Rattle.std.specs.Prelude.{All, IfSome, IsNone, map}
use Rattle.std.specs.Str.{bytes_eq}
use Rattle.std.proofs.lemmas.Bool.{false≢true, or_from, or_left, or_parts, or_right, and_from, and_parts}
use Rattle.std.proofs.lemmas.List.{length-map, take_more}
use Rattle.std.proofs.lemmas.List.Elements.{All-append, All-cons, All-map, All-nil, All-weaker}
use Rattle.std.proofs.lemmas.Slice.Eq.{bytes_eq-Decides}
use Rattle.mem_files.specs.Name.{Name, Bytes}
use Rattle.mem_files.specs.Files.{FileMap}
use Rattle.prog_parts.specs.NameSets.{no_names, among}
use Rattle.prog_parts.specs.Program.{is_empty}
use Rattle.conflict_check.specs.declared.conflict.Clash.{Clash as FoundClash}
use Rattle.conflict_check.specs.Clash.{IsFirstClash}
use Rattle.conflict_check.specs.Clear.{has_back, IsClear}
use Rattle.conflict_check.specs.Names.{uses_input}
use Rattle.script_load.specs.declared.line.Line.{Line}
use Rattle.script_load.specs.declared.profile.Profile.{Profile}
use Rattle.script_load.specs.Line.{ScriptLine, line_of}
use Rattle.meaning_model.specs.Meaning.{meaning, line_tree, script_tree, script_meaning}
use Rattle.meaning_model.specs.Settled.{IsSettled}
use Rattle.plain_run.specs.Gives.{Gives}
use Rattle.plain_run.specs.Again.{TellsAgain}
use Rattle.plain_run.specs.Reasons.{IsReason, named_within, named_beside, used_within, used_later, runs_behind, clashes, tree_at, value_before, value_at}
use Rattle.plain_run.specs.Tells.{Tells}
use Rattle.plain_run.specs.Told.{IsBeside, is_beside, background, clash_reason, line_reasons, within, reused, used, first_loose, is_some}
use Rattle.plain_run.specs.declared.reason.Reason.{Reason}
use Rattle.plain_run.specs.declared.reason.Reason.TheVariants.{Background, Clash, CutPipe, LooseInput}
use Rattle.plain_run.proofs.Again.{quiet_settled, settled_named, settled_reused}
use Rattle.plain_run.proofs.Beside.{empty_append}
use Rattle.plain_run.proofs.SettledLines.{AreClearLines}

-- what is so of each of the names is so of all
pub of_among : (P : Name → Type 0) (words : List Name) → ((name : Name) → among words name ≡ true → P name) → All P words
of_among P [] each = All-nil P
of_among P (w ∷ ws) each =
    All-cons P w ws (each w (or_left (bytes_eq w w) (among ws w) ((bytes_eq-Decides w w).1 refl)))
    (of_among P ws (λ name is. each name (or_right (bytes_eq name w) (among ws name) is)))

-- a line more: what it leaves of the input and the files
after_one : (profile : Profile) (lines : List ScriptLine) (line : ScriptLine) (input : Bytes) (F : FileMap) → (let B = script_meaning profile lines input F in let V = meaning profile (line_tree line) B.rest B.files in ((script_meaning profile (lines ++ line ∷ []) input F).rest ≡ V.rest) × ((script_meaning profile (lines ++ line ∷ []) input F).files ≡ V.files))
after_one profile [] line input F = (refl, refl)
after_one profile (first ∷ lines) line input F =
    let V = meaning profile (line_tree first) input F in
    after_one profile lines line V.rest V.files

-- the lines before a place leave this
pub record IsBefore (profile : Profile) (lines : List ScriptLine) (input : Bytes) (F : FileMap) (i : ℕ) (rest : Bytes) (G : FileMap) : Type 0 where
  pub rest_is : rest ≡ (value_before profile lines input F i).rest
  pub files_is : G ≡ (value_before profile lines input F i).files

pub before_none : (profile : Profile) (lines : List ScriptLine) (input : Bytes) (F : FileMap) → IsBefore profile lines input F 0 input F
before_none profile lines input F = record { rest_is = none lines; files_is = none' lines } where
  none : (ls : List ScriptLine) → input ≡ (value_before profile ls input F 0).rest
  none [] = refl
  none (l ∷ ls) = refl

  none' : (ls : List ScriptLine) → F ≡ (value_before profile ls input F 0).files
  none' [] = refl
  none' (l ∷ ls) = refl

pub before_more : (profile : Profile) (lines : List ScriptLine) (input : Bytes) (F : FileMap) (i : ℕ) (d : ScriptLine) (rest now new left : Bytes) (G H : FileMap) → i < length lines → IsBefore profile lines input F i rest G → Gives (meaning profile (line_tree (get_or lines i d)) rest G) now new left H → IsBefore profile lines input F (i + 1) left H
before_more profile lines input F i d rest now new left G H inside before gives =
    let B = value_before profile lines input F i in
    let line = get_or lines i d in
    let p = after_one profile (take i lines) line input F in
    let same : meaning profile (line_tree line) rest G ≡ meaning profile (line_tree line) B.rest B.files = ap₂ (λ r f. meaning profile (line_tree line) r f) before.rest_is before.files_is in
    let all = ap (λ ls. script_meaning profile ls input F) (take_more lines i d inside) in
    record {
      rest_is = gives.rest ∙ ap (λ v. v.rest) same ∙ sym p.0 ∙ ap (λ v. v.rest) (sym all);
      files_is = gives.files ∙ ap (λ v. v.files) same ∙ sym p.1 ∙ ap (λ v. v.files) (sym all);
    }

-- the first loose line is one
pub record IsLoose (profile : Profile) (lines : List ScriptLine) (input : Bytes) (F : FileMap) (i number : ℕ) : Type 0 where
  pub place : ℕ
  pub number_is : number ≡ place + 1
  pub before : place < i
  pub loose : (value_at profile lines input F place).loose ≡ true

abbrev pub AreLoose : Profile → List ScriptLine → Bytes → FileMap → ℕ → Option ℕ → Type 0
AreLoose profile lines input F i None = Unit {0}
AreLoose profile lines input F i (Some number) = IsLoose profile lines input F i number

pub loose_more : (profile : Profile) (lines : List ScriptLine) (input : Bytes) (F : FileMap) (i : ℕ) (loose new : Option ℕ) (b : Bool) → new ≡ first_loose loose b (i + 1) → (b ≡ true → (value_at profile lines input F i).loose ≡ true) → AreLoose profile lines input F i loose → AreLoose profile lines input F (i + 1) new
loose_more profile lines input F i loose new b is own so_far = subst (AreLoose profile lines input F (i + 1)) (sym is) (step loose b own so_far) where
  step : (o : Option ℕ) (t : Bool) → (t ≡ true → (value_at profile lines input F i).loose ≡ true) → AreLoose profile lines input F i o → AreLoose profile lines input F (i + 1) (first_loose o t (i + 1))
  step None true its none = record { place = i; number_is = refl; before = omega arith; loose = its refl }
  step None false its none = tt
  step (Some number) t its held = record { place = held.place; number_is = held.number_is; before = omega (arith, held.before); loose = held.loose }

pub value_told : (profile : Profile) (lines : List ScriptLine) (input : Bytes) (F : FileMap) (i : ℕ) (rest : Bytes) (G : FileMap) (is_loose : Bool) (soft : List Name) → IsBefore profile lines input F i rest G → Tells (meaning profile (tree_at lines i) rest G) is_loose soft → is_loose ≡ true → (value_at profile lines input F i).loose ≡ true
value_told profile lines input F i rest G is_loose soft before told is =
    ap₂ (λ r f. (meaning profile (tree_at lines i) r f).loose) (sym before.rest_is) (sym before.files_is) ∙ sym told.loose ∙ is

pub loose_told : (loose : Option ℕ) (b : Bool) (line : ℕ) (new : Option ℕ) → new ≡ first_loose loose b line → is_some new ≡ (is_some loose || b)
loose_told (Some first) b line new is = ap is_some is
loose_told None true line new is = ap is_some is
loose_told None false line new is = ap is_some is

used_each : {A : _} (profile : Profile) (lines : List ScriptLine) (input : Bytes) (F : FileMap) (i : ℕ) (loose : Option ℕ) (uses : Bool) → i < length lines → AreLoose profile lines input F i loose → (uses ≡ true → uses_input (tree_at lines i) ≡ true) → All (IsReason {A = A} profile lines input F) (used loose uses (i + 1))
used_each {A} profile lines input F i None uses inside held own = All-nil (IsReason {A = A} profile lines input F)
used_each {A} profile lines input F i (Some number) false inside held own = All-nil (IsReason {A = A} profile lines input F)
used_each {A} profile lines input F i (Some number) true inside held own =
    All-cons (IsReason {A = A} profile lines input F) (LooseInput number (i + 1)) []
    (subst (λ n. IsReason {A = A} profile lines input F (LooseInput n (i + 1))) (sym held.number_is) (used_later held.before inside held.loose (own refl)))
    (All-nil (IsReason {A = A} profile lines input F))

reused_each : {A : _} (profile : Profile) (lines : List ScriptLine) (input : Bytes) (F : FileMap) (i : ℕ) (reuses : Bool) → (reuses ≡ true → IsReason {A = A} profile lines input F (LooseInput (i + 1) (i + 1))) → All (IsReason {A = A} profile lines input F) (reused (i + 1) reuses)
reused_each {A} profile lines input F i true own = All-cons (IsReason {A = A} profile lines input F) (LooseInput (i + 1) (i + 1)) [] (own refl) (All-nil (IsReason {A = A} profile lines input F))
reused_each {A} profile lines input F i false own = All-nil (IsReason {A = A} profile lines input F)

beside_one : {A B : _} (profile : Profile) (lines : List (Line B)) (input : Bytes) (F : FileMap) (i : ℕ) (soft : List Name) (reason : Reason A) → i < length (map line_of lines) → ((name : Name) → among soft name ≡ true → (value_at profile (map line_of lines) input F i).soft name ≡ true) → IsBeside lines i soft reason → IsReason profile (map line_of lines) input F reason
beside_one profile lines input F i soft reason inside own (is_beside {other} {name} low apart one names) =
    named_beside inside (subst (λ n. other < n) (sym (length-map lines line_of)) low) apart (own name one) names

-- the reasons of a line are reasons
pub line_each : {A B : _} (profile : Profile) (lines : List (Line B)) (input : Bytes) (F : FileMap) (i : ℕ) (rest : Bytes) (G : FileMap) (again soft : List Name) (beside : List (Reason A)) (reuses is_loose uses : Bool) (loose : Option ℕ)
    → i < length lines → IsBefore profile (map line_of lines) input F i rest G
    → TellsAgain profile (tree_at (map line_of lines) i) rest G again reuses → Tells (meaning profile (tree_at (map line_of lines) i) rest G) is_loose soft
    → All (IsBeside lines i soft) beside → AreLoose profile (map line_of lines) input F i loose → uses ≡ uses_input (tree_at (map line_of lines) i)
    → All (IsReason profile (map line_of lines) input F) (line_reasons (i + 1) again beside reuses loose uses)
line_each {A} {B} profile lines input F i rest G again soft beside reuses is_loose uses loose inside before told tells each held own =
    let all = map line_of lines in
    let P = IsReason {A = A} profile all input F in
    let V = value_before profile all input F i in
    let in' : i < length all = subst (λ n. i < n) (sym (length-map lines line_of)) inside in
    let told' = subst (λ K. TellsAgain profile (tree_at all i) V.rest K again reuses) before.files_is (subst (λ r. TellsAgain profile (tree_at all i) r G again reuses) before.rest_is told) in
    let tells' = subst (λ K. Tells (meaning profile (tree_at all i) V.rest K) is_loose soft) before.files_is (subst (λ r. Tells (meaning profile (tree_at all i) r G) is_loose soft) before.rest_is tells) in
    All-append P ((within (i + 1) again ++ beside) ++ reused (i + 1) reuses) (used loose uses (i + 1))
    (All-append P (within (i + 1) again ++ beside) (reused (i + 1) reuses)
    (All-append P (within (i + 1) again) beside
    (All-map P (λ name. CutPipe (i + 1) name (i + 1)) again (of_among (λ name. P (CutPipe (i + 1) name (i + 1))) again (λ name is. named_within in' (sym (told'.named name) ∙ is))))
    (All-weaker (IsBeside {A = A} lines i soft) P (λ reason one. beside_one {A = A} {B = B} profile lines input F i soft reason in' (λ name is. sym (tells'.soft name) ∙ is) one) beside each))
    (reused_each profile all input F i reuses (λ is. used_within in' (sym told'.reused ∙ is))))
    (used_each profile all input F i loose uses in' held (λ is. sym own ∙ is))

four : (s a m r l : Bool) → (s && (((a && m) && r) && l)) ≡ (((s && (a && r)) && m) && l)
four true true true r l = both' r l where
  both' : (r l : Bool) → (r && l) ≡ ((r && true) && l)
  both' true l = refl
  both' false l = refl
four true true false true l = refl
four true true false false l = refl
four true false m r l = refl
four false a m r l = refl

empty_within : (A : _) (line : ℕ) (again : List Name) → is_empty (within {A = A} line again) ≡ is_empty again
empty_within A line [] = refl
empty_within A line (name ∷ again) = refl

empty_reused : (A : _) (line : ℕ) (reuses : Bool) → is_empty (reused {A = A} line reuses) ≡ not reuses
empty_reused A line true = refl
empty_reused A line false = refl

empty_used : (A : _) (loose : Option ℕ) (uses : Bool) (line : ℕ) → is_empty (used {A = A} loose uses line) ≡ not (is_some loose && uses)
empty_used A None uses line = refl
empty_used A (Some first) true line = refl
empty_used A (Some first) false line = refl

-- there is none just where there was none and the line has none
pub line_empty : {A : _} (old new : List (Reason A)) (line : ℕ) (again : List Name) (beside : List (Reason A)) (reuses : Bool) (loose : Option ℕ) (uses meets : Bool) → new ≡ old ++ line_reasons line again beside reuses loose uses → is_empty beside ≡ not meets → is_empty new ≡ (((is_empty old && (is_empty again && not reuses)) && not meets) && not (is_some loose && uses))
line_empty {A} old new line again beside reuses loose uses meets e m =
    ap is_empty e
    ∙ empty_append old (line_reasons line again beside reuses loose uses)
    ∙ ap (λ b. is_empty old && b) (
    empty_append ((within line again ++ beside) ++ reused line reuses) (used loose uses line)
    ∙ ap₂ ◌&&◌ (empty_append (within line again ++ beside) (reused line reuses) ∙ ap₂ ◌&&◌ (empty_append (within line again) beside ∙ ap₂ ◌&&◌ (empty_within A line again) m) (empty_reused A line reuses)) (empty_used A loose uses line))
    ∙ four (is_empty old) (is_empty again) (not meets) (not reuses) (not (is_some loose && uses))

empty_none : (words : List Name) → is_empty words ≡ true → (name : Name) → among words name ≡ false
empty_none [] is name = refl
empty_none (w ∷ ws) is name = absurd (false≢true is)

none_empty : (words : List Name) → ((name : Name) → among words name ≡ false) → is_empty words ≡ true
none_empty [] none = refl
none_empty (w ∷ ws) none = sym (none w) ∙ or_left (bytes_eq w w) (among ws w) ((bytes_eq-Decides w w).1 refl)

not_true : (b : Bool) → not b ≡ true → b ≡ false
not_true true e = sym e
not_true false e = refl

not_false : (b : Bool) → b ≡ false → not b ≡ true
not_false true e = sym e
not_false false e = refl

-- a command alone is settled just where nothing of it is named or used again
pub settled_by : (profile : Profile) (T : _) (input : Bytes) (F : FileMap) (again : List Name) (reuses : Bool) → TellsAgain profile T input F again reuses → IsTrue (is_empty again && not reuses) ↔ IsSettled profile T no_names input F
settled_by profile T input F again reuses told = (
  λ is. let p = and_parts (is_empty again) (not reuses) is in
      quiet_settled profile T no_names input F (λ name. sym (told.named name) ∙ empty_none again p.0 name) (sym told.reused ∙ not_true reuses p.1),
  λ settled. and_from (is_empty again) (not reuses) (none_empty again (λ name. told.named name ∙ settled_named profile T no_names input F settled name)) (not_false reuses (told.reused ∙ settled_reused profile T no_names input F settled)),
)

background_each : {A : _} (profile : Profile) (all : List ScriptLine) (input : Bytes) (F : FileMap) (i : ℕ) (b : Bool) → i < length all → (b ≡ true → has_back (tree_at all i) ≡ true) → All (IsReason {A = A} profile all input F) (background (i + 1) b)
background_each {A} profile all input F i true inside own = All-cons (IsReason {A = A} profile all input F) (Background (i + 1)) [] (runs_behind inside (own refl)) (All-nil (IsReason {A = A} profile all input F))
background_each {A} profile all input F i false inside own = All-nil (IsReason {A = A} profile all input F)

clash_each : {A : _} (profile : Profile) (all : List ScriptLine) (input : Bytes) (F : FileMap) (i : ℕ) (found : Option FoundClash) → i < length all → IfSome found (λ one. IsFirstClash (tree_at all i) one.kind one.name.now) → All (IsReason {A = A} profile all input F) (clash_reason (i + 1) found)
clash_each {A} profile all input F i None inside first = All-nil (IsReason {A = A} profile all input F)
clash_each {A} profile all input F i (Some found) inside first = All-cons (IsReason {A = A} profile all input F) (Clash (i + 1) found.kind found.name.now) [] (clashes inside first) (All-nil (IsReason {A = A} profile all input F))

-- what a line adds are reasons
pub clear_each : {A : _} (profile : Profile) (all : List ScriptLine) (input : Bytes) (F : FileMap) (i : ℕ) (b : Bool) (found : Option FoundClash) (old mid new : List (Reason A)) → i < length all → b ≡ has_back (tree_at all i) → IfSome found (λ one. IsFirstClash (tree_at all i) one.kind one.name.now) → mid ≡ old ++ background (i + 1) b → new ≡ mid ++ clash_reason (i + 1) found → All (IsReason profile all input F) old → All (IsReason profile all input F) new
clear_each {A} profile all input F i b found old mid new inside back' first m n so_far =
    let P = IsReason {A = A} profile all input F in
    subst (All P) (sym n)
    (All-append P mid (clash_reason (i + 1) found)
    (subst (All P) (sym m) (All-append P old (background (i + 1) b) so_far (background_each profile all input F i b inside (λ is. sym back' ∙ is))))
    (clash_each profile all input F i found inside first))

-- the whole is clear just where there is no reason so far and the lines that are left are clear
abbrev pub ClearTo : List ScriptLine → Bool → List ScriptLine → Type 0
ClearTo whole none lines = AreClearLines whole ↔ (IsTrue none × AreClearLines lines)

empty_back : (A : _) (line : ℕ) (b : Bool) → is_empty (background {A = A} line b) ≡ not b
empty_back A line true = refl
empty_back A line false = refl

empty_clash : (A : _) (line : ℕ) (found : Option FoundClash) → IsTrue (is_empty (clash_reason {A = A} line found)) ↔ IsNone found
empty_clash A line None = (λ _. refl, λ _. refl)
empty_clash A line (Some found) = (λ is. absurd (false≢true is), λ none. absurd (false≢true (sym none)))

pub clear_one : {A : _} (whole : List ScriptLine) (line : ScriptLine) (lines : List ScriptLine) (number : ℕ) (b : Bool) (found : Option FoundClash) (old mid new : List (Reason A)) → b ≡ has_back (line_tree line) → IsNone found ↔ IsClear (line_tree line) → mid ≡ old ++ background number b → new ≡ mid ++ clash_reason number found → ClearTo whole (is_empty old) (line ∷ lines) → ClearTo whole (is_empty new) lines
clear_one {A} whole line lines number b found old mid new back' clear m n so_far =
    let e : is_empty new ≡ ((is_empty old && not b) && is_empty (clash_reason {A = A} number found)) =
    ap is_empty n ∙ empty_append mid (clash_reason number found) ∙ ap (λ x. x && is_empty (clash_reason {A = A} number found)) (ap is_empty m ∙ empty_append old (background number b) ∙ ap (λ x. is_empty old && x) (empty_back A number b)) in
    let last = empty_clash A number found in (
      λ w.
          let p = so_far.0 w in
          let q = or_parts (has_back (line_tree line)) (has_back (script_tree lines)) p.1.0 in (
            e ∙ and_from (is_empty old && not b) (is_empty (clash_reason {A = A} number found)) (and_from (is_empty old) (not b) p.0 (not_false b (back' ∙ q.0))) (last.1 (clear.1 p.1.1.0)),
            (q.1, p.1.1.1),
          ),
      λ held.
          let p = and_parts (is_empty old && not b) (is_empty (clash_reason {A = A} number found)) (sym e ∙ held.0) in
          let q = and_parts (is_empty old) (not b) p.0 in
          so_far.1 (q.0, (or_from (has_back (line_tree line)) (has_back (script_tree lines)) (sym back' ∙ not_true b q.1) held.1.0, (clear.0 (last.0 p.1), held.1.1))),
    )

pub clear_none : {A : _} (whole : List ScriptLine) (old : List (Reason A)) → old ≡ [] → ClearTo whole (is_empty old) whole
clear_none whole old is = (λ w. (ap is_empty is, w), λ held. held.1)

pub clear_all : (whole lines : List ScriptLine) (none : Bool) → lines ≡ [] → ClearTo whole none lines → IsTrue none ↔ AreClearLines whole
clear_all whole lines none is so_far =
    let end = subst (ClearTo whole none) is so_far in
    (λ is'. end.1 (is', (refl, tt)), λ w. (end.0 w).0)

-- a script is settled just where it is clear and its tree is settled
pub clear_then : (B C S : Type 0) (settled clear inner : Bool) → inner ≡ true → settled ≡ clear → IsTrue clear ↔ (B × C) → IsTrue inner ↔ S → IsTrue settled ↔ (B × C × S)
clear_then B C S settled clear inner is e first second =
    (λ holds. let p = first.0 (sym e ∙ holds) in (p.0, p.1, second.0 is), λ all. e ∙ first.1 (all.0, all.1))

pub unsettled : (B C S : Type 0) (settled inner : Bool) → inner ≡ false → settled ≡ false → IsTrue inner ↔ S → IsTrue settled ↔ (B × C × S)
unsettled B C S settled inner is e second =
    (λ holds. absurd (false≢true (sym e ∙ holds)), λ all. absurd (false≢true (sym is ∙ second.1 all.2)))

-- no reason of either kind
pub none_of_both : (B C S : Type 0) {A : _} (first then all : List (Reason A)) → all ≡ first ++ then → IsTrue (is_empty first) ↔ (B × C) → IsTrue (is_empty then) ↔ S → IsTrue (is_empty all) ↔ (B × C × S)
none_of_both B C S first then all is clear settled =
    let e = ap is_empty is ∙ empty_append first then in (
      λ holds. let p = and_parts (is_empty first) (is_empty then) (sym e ∙ holds) in let q = clear.0 p.0 in (q.0, q.1, settled.0 p.1),
      λ held. e ∙ and_from (is_empty first) (is_empty then) (clear.1 (held.0, held.1)) (settled.1 held.2),
    )

nothing_is : {A : _} (list : List (Reason A)) → IsTrue (is_empty list) ↔ (list ≡ [])
nothing_is [] = (λ _. refl, λ _. refl)
nothing_is (reason ∷ list) = (λ is. absurd (false≢true is), λ is. ap is_empty is)

pub none_is : {A : _} (S : Type 0) (list : List (Reason A)) → IsTrue (is_empty list) ↔ S → (list ≡ []) ↔ S
none_is S list same = let n = nothing_is list in (λ is. same.0 (n.1 is), λ s. n.0 (same.1 s))
