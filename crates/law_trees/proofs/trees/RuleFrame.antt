-- A step by the rules can be made among other files, as long as these agree on the names of what is left.
use Rattle.std.proofs.Common.{◌≡◌, ◌∙◌, Bool, true, false, [], drop, refl, sym, ap, subst}
use Rattle.std.specs.Prelude.{if◌then◌else◌}
use Rattle.std.specs.Str.{bytes_eq}
use Rattle.std.proofs.lemmas.Bool.{or_left, or_right}
use Rattle.mem_files.specs.Name.{Name, Bytes}
use Rattle.mem_files.specs.Files.{FileMap, bytes_of, no_files}
use Rattle.conflict_check.specs.Names.{names}
use Rattle.script_load.specs.declared.profile.Profile.{Profile}
use Rattle.law_trees.proofs.programs.Elsewhere.{depends_alike}
use Rattle.tree_model.specs.Residual.{alone, Residual, Position, left_names}
use Rattle.tree_model.specs.Answers.{files_after, answer}
use Rattle.tree_model.specs.Begin.{run_left, opens_file}
use Rattle.tree_model.specs.Rules.{Label, patch, patched, is_gap, Steps}
use Rattle.tree_model.specs.Rules.Steps.{begins, opens, exits, calls, reads, reads_end, writes_all, writes_some, write_refused, seq_ends, pipe_ends, from_ends, into_ends, seq_steps, left_silent, left_takes, left_meets_end, left_puts, left_refused, right_silent, right_takes, right_meets_end, right_puts, right_refused, from_silent, from_takes, from_meets_end, from_puts, from_refused, into_silent, into_takes, into_meets_end, into_puts, into_refused}
use Rattle.tree_model.specs.AsksItsOwn.{AsksItsOwn}
use Rattle.law_trees.proofs.trees.CallFrame.{asks_frame}
use Rattle.law_trees.proofs.trees.Parts.{named_self}
use Rattle.law_trees.proofs.trees.Progress.{rule_only}
use Rattle.law_trees.proofs.trees.StepFrame.{named, may_elsewhere, alike_opens}
use Rattle.law_trees.proofs.trees.Values.{Agree}

-- the step among the other files, and what it makes of them
pub record Elsewhere (profile : Profile) (N : Name → Type 0) (X : Residual) (F : FileMap) (l : Label) (X' : Residual) (G : FileMap) : Type 0 where
  pub files : FileMap
  pub steps : Steps profile X F l X' files
  pub alike : Agree N G files

module _ (profile : Profile) where
  -- where a part agrees on its own names, it does on all names on which the files agreed before
  wider : (N : Name → Type 0) (X X' : Residual) (l : Label) (F K G H : FileMap) → Steps profile X F l X' G → Steps profile X K l X' H → AsksItsOwn X → Agree N F K → Agree (λ n. left_names X n ≡ true) G H → Agree N G H
  wider N X X' l F K G H s t d h a = record { at = λ n m. go n m (left_names X n) refl }
    where
      go : (n : Name) → N n → (b : Bool) → left_names X n ≡ b → G n ≡ H n
      go n m true is = a.at n is
      go n m false is = rule_only profile l s d n (named X n is) ∙ h.at n m ∙ sym (rule_only profile l t d n (named X n is))

  -- a part steps among the other files where it does so alone
  part : {X X' : Residual} {F G : FileMap} {l : Label} (N : Name → Type 0) (K : FileMap) → Steps profile X F l X' G → AsksItsOwn X → ((n : Name) → left_names X n ≡ true → N n) → Agree N F K
      → (((n : Name) → left_names X n ≡ true → left_names X n ≡ true) → Agree (λ n. left_names X n ≡ true) F K → Elsewhere profile (λ n. left_names X n ≡ true) X K l X' G) → Elsewhere profile N X K l X' G
  part {X} {X'} {F} {G} {l} N K s d sub h alone =
      let m = alone (λ n e. e) (record { at = λ n e. h.at n (sub n e) }) in
      record { files = m.files; steps = m.steps; alike = wider N X X' l F K G m.files s m.steps d h m.alike }

  patch_alike : (N : Name → Type 0) (G H : FileMap) (f : Name) (at : Position) (b : Bytes) → Agree N G H → Agree N (patched G f at b) (patched H f at b)
  patch_alike N G H f at b h = record { at = λ n e t. if bytes_eq n f then patch (h.at n e t) at b else h.at n e t }

  pub elsewhere : {X X' : Residual} {F G : FileMap} {l : Label} (N : Name → Type 0) (K : FileMap) → Steps profile X F l X' G → AsksItsOwn X → ((n : Name) → left_names X n ≡ true → N n) → Agree N F K → Elsewhere profile N X K l X' G
  elsewhere N K (begins e) d sub h = record { files = K; steps = begins e; alike = h }
  elsewhere N K (opens {F = F} {mode = m} {file = f} {body = T} e g) d sub h =
      let a = alike_opens profile N m f T F K (sub f (named_self f (names T f))) h in
      record { files = (opens_file profile m f T K).files; steps = opens (e ∙ a.next) refl; alike = subst (λ z. Agree N z (opens_file profile m f T K).files) (sym g) a.files }
  elsewhere N K (exits is) d sub h = record { files = K; steps = exits is; alike = h }
  elsewhere N K (calls {F = F} {run = run} is e g) d sub h =
      let a = asks_frame N run [] F K (may_elsewhere run.turn.call run.turn.next (alone run no_files) [] F d) (λ n m. sub n (depends_alike run.turn.next (alone run F) [] no_files n ∙ m)) h 0 false false in
      record { files = files_after run (answer run K) K; steps = calls is (e ∙ ap run_left a.next) refl; alike = subst (λ z. Agree N z (files_after run (answer run K) K)) (sym g) a.files }
  elsewhere N K (reads most is some few e) d sub h = record { files = K; steps = reads most is some few e; alike = h }
  elsewhere N K (reads_end most is e) d sub h = record { files = K; steps = reads_end most is e; alike = h }
  elsewhere N K (writes_all bytes is all e) d sub h = record { files = K; steps = writes_all bytes is all e; alike = h }
  elsewhere N K (writes_some bytes later is cut some rest e) d sub h = record { files = K; steps = writes_some bytes later is cut some rest e; alike = h }
  elsewhere N K (write_refused bytes is some e) d sub h = record { files = K; steps = write_refused bytes is some e; alike = h }
  elsewhere N K seq_ends d sub h = record { files = K; steps = seq_ends; alike = h }
  elsewhere N K pipe_ends d sub h = record { files = K; steps = pipe_ends; alike = h }
  elsewhere N K from_ends d sub h = record { files = K; steps = from_ends; alike = h }
  elsewhere N K into_ends d sub h = record { files = K; steps = into_ends; alike = h }
  elsewhere N K (seq_steps {X = X} {X' = X'} {later = T} {label = l} s) d sub h =
      let m = part N K s d (λ n e. sub n (or_left (left_names X n) (names T n) e)) h (elsewhere (λ n. left_names X n ≡ true) K s d) in record { files = m.files; steps = seq_steps m.steps; alike = m.alike }
  elsewhere N K (left_silent {X = X} {Y = Y} s) d sub h =
      let m = part N K s d.0 (λ n e. sub n (or_left (left_names X n) (left_names Y n) e)) h (elsewhere (λ n. left_names X n ≡ true) K s d.0) in record { files = m.files; steps = left_silent m.steps; alike = m.alike }
  elsewhere N K (left_takes {X = X} {Y = Y} s) d sub h =
      let m = part N K s d.0 (λ n e. sub n (or_left (left_names X n) (left_names Y n) e)) h (elsewhere (λ n. left_names X n ≡ true) K s d.0) in record { files = m.files; steps = left_takes m.steps; alike = m.alike }
  elsewhere N K (left_meets_end {X = X} {Y = Y} s) d sub h =
      let m = part N K s d.0 (λ n e. sub n (or_left (left_names X n) (left_names Y n) e)) h (elsewhere (λ n. left_names X n ≡ true) K s d.0) in record { files = m.files; steps = left_meets_end m.steps; alike = m.alike }
  elsewhere N K (left_puts {X = X} {Y = Y} s e room) d sub h =
      let m = part N K s d.0 (λ n e. sub n (or_left (left_names X n) (left_names Y n) e)) h (elsewhere (λ n. left_names X n ≡ true) K s d.0) in record { files = m.files; steps = left_puts m.steps e room; alike = m.alike }
  elsewhere N K (left_refused {X = X} {Y = Y} s closed) d sub h =
      let m = part N K s d.0 (λ n e. sub n (or_left (left_names X n) (left_names Y n) e)) h (elsewhere (λ n. left_names X n ≡ true) K s d.0) in record { files = m.files; steps = left_refused m.steps closed; alike = m.alike }
  elsewhere N K (right_silent {X = X} {Y = Y} s) d sub h =
      let m = part N K s d.1 (λ n e. sub n (or_right (left_names X n) (left_names Y n) e)) h (elsewhere (λ n. left_names Y n ≡ true) K s d.1) in record { files = m.files; steps = right_silent m.steps; alike = m.alike }
  elsewhere N K (right_takes {X = X} {Y = Y} s e) d sub h =
      let m = part N K s d.1 (λ n e. sub n (or_right (left_names X n) (left_names Y n) e)) h (elsewhere (λ n. left_names Y n ≡ true) K s d.1) in record { files = m.files; steps = right_takes m.steps e; alike = m.alike }
  elsewhere N K (right_meets_end {X = X} {Y = Y} s none closed) d sub h =
      let m = part N K s d.1 (λ n e. sub n (or_right (left_names X n) (left_names Y n) e)) h (elsewhere (λ n. left_names Y n ≡ true) K s d.1) in record { files = m.files; steps = right_meets_end m.steps none closed; alike = m.alike }
  elsewhere N K (right_puts {X = X} {Y = Y} s) d sub h =
      let m = part N K s d.1 (λ n e. sub n (or_right (left_names X n) (left_names Y n) e)) h (elsewhere (λ n. left_names Y n ≡ true) K s d.1) in record { files = m.files; steps = right_puts m.steps; alike = m.alike }
  elsewhere N K (right_refused {X = X} {Y = Y} s) d sub h =
      let m = part N K s d.1 (λ n e. sub n (or_right (left_names X n) (left_names Y n) e)) h (elsewhere (λ n. left_names Y n ≡ true) K s d.1) in record { files = m.files; steps = right_refused m.steps; alike = m.alike }
  elsewhere N K (from_silent {X = X} {file = f} s) d sub h =
      let m = part N K s d (λ n e. sub n (or_right (bytes_eq n f) (left_names X n) e)) h (elsewhere (λ n. left_names X n ≡ true) K s d) in record { files = m.files; steps = from_silent m.steps; alike = m.alike }
  elsewhere N K (from_takes {X = X} {file = f} {at = at} more s cut e) d sub h =
      let m = part N K s d (λ n e. sub n (or_right (bytes_eq n f) (left_names X n) e)) h (elsewhere (λ n. left_names X n ≡ true) K s d) in
      let same = h.at f (sub f (named_self f (left_names X f))) in
      record { files = m.files; steps = from_takes more m.steps (sym (ap (λ o. drop at (bytes_of o)) same) ∙ cut) e; alike = m.alike }
  elsewhere N K (from_meets_end {X = X} {file = f} {at = at} s none) d sub h =
      let m = part N K s d (λ n e. sub n (or_right (bytes_eq n f) (left_names X n) e)) h (elsewhere (λ n. left_names X n ≡ true) K s d) in
      let same = h.at f (sub f (named_self f (left_names X f))) in
      record { files = m.files; steps = from_meets_end m.steps (sym (ap (λ o. drop at (bytes_of o)) same) ∙ none); alike = m.alike }
  elsewhere N K (from_puts {X = X} {file = f} s) d sub h =
      let m = part N K s d (λ n e. sub n (or_right (bytes_eq n f) (left_names X n) e)) h (elsewhere (λ n. left_names X n ≡ true) K s d) in record { files = m.files; steps = from_puts m.steps; alike = m.alike }
  elsewhere N K (from_refused {X = X} {file = f} s) d sub h =
      let m = part N K s d (λ n e. sub n (or_right (bytes_eq n f) (left_names X n) e)) h (elsewhere (λ n. left_names X n ≡ true) K s d) in record { files = m.files; steps = from_refused m.steps; alike = m.alike }
  elsewhere N K (into_silent {X = X} {file = f} s) d sub h =
      let m = part N K s d (λ n e. sub n (or_right (bytes_eq n f) (left_names X n) e)) h (elsewhere (λ n. left_names X n ≡ true) K s d) in record { files = m.files; steps = into_silent m.steps; alike = m.alike }
  elsewhere N K (into_takes {X = X} {file = f} s) d sub h =
      let m = part N K s d (λ n e. sub n (or_right (bytes_eq n f) (left_names X n) e)) h (elsewhere (λ n. left_names X n ≡ true) K s d) in record { files = m.files; steps = into_takes m.steps; alike = m.alike }
  elsewhere N K (into_meets_end {X = X} {file = f} s) d sub h =
      let m = part N K s d (λ n e. sub n (or_right (bytes_eq n f) (left_names X n) e)) h (elsewhere (λ n. left_names X n ≡ true) K s d) in record { files = m.files; steps = into_meets_end m.steps; alike = m.alike }
  elsewhere N K (into_puts {G = G} {X = X} {file = f} {at = at} {bytes = b} s within e made) d sub h =
      let m = part N K s d (λ n e. sub n (or_right (bytes_eq n f) (left_names X n) e)) h (elsewhere (λ n. left_names X n ≡ true) K s d) in
      let same = h.at f (sub f (named_self f (left_names X f))) in
      record {
        files = patched m.files f at b;
        steps = into_puts m.steps (λ gap. within (ap (λ o. is_gap o at) same ∙ gap)) e refl;
        alike = subst (λ z. Agree N z (patched m.files f at b)) (sym made) (patch_alike N G m.files f at b m.alike);
      }
  elsewhere N K (into_refused {X = X} {file = f} {at = at} s gap) d sub h =
      let m = part N K s d (λ n e. sub n (or_right (bytes_eq n f) (left_names X n) e)) h (elsewhere (λ n. left_names X n ≡ true) K s d) in
      let same = h.at f (sub f (named_self f (left_names X f))) in
      record { files = m.files; steps = into_refused m.steps (sym (ap (λ o. is_gap o at) same) ∙ gap); alike = m.alike }
