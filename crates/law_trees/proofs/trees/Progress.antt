-- A run of a clear script without & stays tidy and within its pipes, so as long as something is left a step can be made.
use Rattle.std.proofs.Common.{◌≡◌, ◌⊎◌, inl, inr, ℕ, Bool, true, false, [], ◌∷◌, ◌++◌, length, drop, Option, Some, None, refl, sym, ap, subst, arith, append-nil}
use Rattle.std.proofs.lemmas.List.{length-append}
use Rattle.sh_tree.specs.declared.tree.Mode.{Mode}
use Rattle.sh_tree.specs.declared.tree.Mode.TheVariants.{Input, Fresh, Over}
use Rattle.sh_tree.specs.Tree.{Tree, exec, redir, pipe, list, back}
use Rattle.mem_files.specs.Name.{Name, Bytes, is_openable}
use Rattle.mem_files.specs.Files.{FileMap}
use Rattle.conflict_check.specs.Clear.{has_back}
use Rattle.script_load.specs.declared.profile.Profile.{Profile}
use Rattle.meaning_model.specs.Inputs.{found}
use Rattle.tree_model.specs.Residual.{Running, Residual, done, left_names, left_writes}
use Rattle.tree_model.specs.Begin.{run_left, begun_words, unfolded, open_from, open_into, opens_file}
use Rattle.tree_model.specs.Rules.{Label, silent, takes, meets_end, puts, refused, Steps, IsMet, taken, put_out}
use Rattle.tree_model.specs.Rules.Steps.{begins, opens, exits, calls, reads, reads_end, writes_all, writes_some, write_refused, seq_ends, pipe_ends, from_ends, into_ends, seq_steps, left_silent, left_takes, left_meets_end, left_puts, left_refused, right_silent, right_takes, right_meets_end, right_puts, right_refused, from_silent, from_takes, from_meets_end, from_puts, from_refused, into_silent, into_takes, into_meets_end, into_puts, into_refused}
use Rattle.tree_model.specs.Step.{Move}
use Rattle.tree_model.specs.Moving.{IsPlain, Does, Moves, is_done, goes, may_read, may_put, may_end_write}
use Rattle.tree_model.specs.Runs.{Stage, Goes, Reaches, reached, goes_on}
use Rattle.tree_model.specs.Tidy.{IsTidy}
use Rattle.tree_model.specs.AsksItsOwn.{AsksItsOwn}
use Rattle.law_trees.proofs.trees.Chosen.{chosen}
use Rattle.law_trees.proofs.trees.Moving.{moves}
use Rattle.law_trees.proofs.trees.Smaller.{smaller}
use Rattle.law_trees.proofs.trees.StepFrame.{own_only, step_only}
use Rattle.law_trees.proofs.trees.StepTidy.{step_tidy}
use Rattle.meaning_model.proofs.Bools.{not_left, not_right}

begun_plain : (o : Option Running) → IsPlain (run_left o)
begun_plain None = tt
begun_plain (Some run) = tt

unfolded_plain : (T : Tree) → has_back T ≡ false → IsPlain (unfolded T)
unfolded_plain (exec words) plain = begun_plain (begun_words words)
unfolded_plain (redir m f T) plain = plain
unfolded_plain (pipe A B) plain = (not_left (has_back A) (has_back B) plain, not_right (has_back A) (has_back B) plain, omega arith)
unfolded_plain (list A B) plain = (not_left (has_back A) (has_back B) plain, not_right (has_back A) (has_back B) plain)
unfolded_plain (back T) plain = cc

-- a step by the rules leaves what is tidy, names no more, and changes only what may be written
pub record After (X : Residual) (F : FileMap) (X' : Residual) (G : FileMap) : Type 0 where
  pub tidy : IsTidy X' G
  pub names : (n : Name) → left_names X n ≡ false → left_names X' n ≡ false
  pub only : (n : Name) → left_writes X n ≡ false → G n ≡ F n

module _ (profile : Profile) where
  opens_plain : (m : Mode) (f : Name) (T : Tree) (F : FileMap) → has_back T ≡ false → IsPlain (opens_file profile m f T F).next
  opens_plain Input f T F plain = go (found F f)
    where
      go : (o : Option Bytes) → IsPlain (open_from o f T F).next
      go None = tt
      go (Some b) = plain
  opens_plain Fresh f T F plain = go (is_openable f)
    where
      go : (b : Bool) → IsPlain (open_into profile b Fresh f T F).next
      go false = tt
      go true = plain
  opens_plain Over f T F plain = go (is_openable f)
    where
      go : (b : Bool) → IsPlain (open_into profile b Over f T F).next
      go false = tt
      go true = plain

  -- a step leaves each pipe within its room
  pub plain_kept : {X X' : Residual} {F G : FileMap} {l : Label} → Steps profile X F l X' G → IsPlain X → IsPlain X'
  plain_kept (begins {tree = T} e) plain = subst IsPlain (sym e) (unfolded_plain T plain)
  plain_kept (opens {F = F} {mode = m} {file = f} {body = T} e g) plain = subst IsPlain (sym e) (opens_plain m f T F plain)
  plain_kept (exits is) plain = tt
  plain_kept (calls is e g) plain = subst IsPlain (sym e) tt
  plain_kept (reads most is some few e) plain = subst IsPlain (sym e) tt
  plain_kept (reads_end most is e) plain = subst IsPlain (sym e) tt
  plain_kept (writes_all bytes is all e) plain = subst IsPlain (sym e) tt
  plain_kept (writes_some bytes later is cut some rest e) plain = subst IsPlain (sym e) tt
  plain_kept (write_refused bytes is some e) plain = subst IsPlain (sym e) tt
  plain_kept seq_ends plain = plain.1
  plain_kept pipe_ends plain = tt
  plain_kept from_ends plain = tt
  plain_kept into_ends plain = tt
  plain_kept (seq_steps s) plain = (plain_kept s plain.0, plain.1)
  plain_kept (left_silent s) plain = (plain_kept s plain.0, plain.1, plain.2)
  plain_kept (left_takes s) plain = (plain_kept s plain.0, plain.1, plain.2)
  plain_kept (left_meets_end s) plain = (plain_kept s plain.0, plain.1, plain.2)
  plain_kept (left_puts s e room) plain = (plain_kept s plain.0, plain.1, room)
  plain_kept (left_refused s closed) plain = (plain_kept s plain.0, plain.1, plain.2)
  plain_kept (right_silent s) plain = (plain.0, plain_kept s plain.1, plain.2)
  plain_kept (right_takes {q' = q'} {bytes = b} s e) plain = (plain.0, plain_kept s plain.1, omega (arith, plain.2, ap length e, length-append b q'))
  plain_kept (right_meets_end s none closed) plain = (plain.0, plain_kept s plain.1, plain.2)
  plain_kept (right_puts s) plain = (plain.0, plain_kept s plain.1, plain.2)
  plain_kept (right_refused s) plain = (plain.0, plain_kept s plain.1, plain.2)
  plain_kept (from_silent s) plain = plain_kept s plain
  plain_kept (from_takes more s cut e) plain = plain_kept s plain
  plain_kept (from_meets_end s none) plain = plain_kept s plain
  plain_kept (from_puts s) plain = plain_kept s plain
  plain_kept (from_refused s) plain = plain_kept s plain
  plain_kept (into_silent s) plain = plain_kept s plain
  plain_kept (into_takes s) plain = plain_kept s plain
  plain_kept (into_meets_end s) plain = plain_kept s plain
  plain_kept (into_puts s within e h) plain = plain_kept s plain
  plain_kept (into_refused s gap) plain = plain_kept s plain

  after_with : {X X' : Residual} {F G : FileMap} {l : Label} (i : Bytes) → Steps profile X F l X' G → IsMet l true true i → IsTidy X F → After X F X' G
  after_with {X} {X'} {F} {G} {l} i s met tidy =
      let a = chosen profile true true i s met in
      record {
        tidy = subst (λ (m : Move Residual). IsTidy m.next m.files) a.1 (step_tidy profile X a.0 true true i F tidy);
        names = λ n e. subst (λ (m : Move Residual). left_names m.next n ≡ false) a.1 ((smaller profile X a.0 true true i F tidy).names n e);
        only = λ n e. subst (λ (m : Move Residual). m.files n ≡ F n) a.1 (step_only profile X a.0 true true i F n tidy e);
      }

  pub after : {X X' : Residual} {F G : FileMap} (l : Label) → Steps profile X F l X' G → IsTidy X F → After X F X' G
  after silent s tidy = after_with [] s tt tidy
  after (takes bytes) s tidy = after_with bytes s ([], sym (append-nil bytes)) tidy
  after meets_end s tidy = after_with [] s (refl, refl) tidy
  after (puts bytes) s tidy = after_with [] s tt tidy
  after refused s tidy = after_with [] s refl tidy

  only_with : {X X' : Residual} {F G : FileMap} {l : Label} (i : Bytes) → Steps profile X F l X' G → IsMet l true true i → AsksItsOwn X → (n : Name) → left_writes X n ≡ false → G n ≡ F n
  only_with {X} {X'} {F} {G} {l} i s met own n e =
      let a = chosen profile true true i s met in
      subst (λ (m : Move Residual). m.files n ≡ F n) a.1 (own_only profile X a.0 true true i F n own e)

  -- a step by the rules of what asks its own changes only what may be written
  pub rule_only : {X X' : Residual} {F G : FileMap} (l : Label) → Steps profile X F l X' G → AsksItsOwn X → (n : Name) → left_writes X n ≡ false → G n ≡ F n
  rule_only silent s own = only_with [] s tt own
  rule_only (takes bytes) s own = only_with bytes s ([], sym (append-nil bytes)) own
  rule_only meets_end s own = only_with [] s (refl, refl) own
  rule_only (puts bytes) s own = only_with [] s tt own
  rule_only refused s own = only_with [] s refl own

  -- along a run
  abbrev pub IsSound : Stage → Type 0
  IsSound x = IsTidy x.left x.files × IsPlain x.left

  pub sound_next : (x y : Stage) → Goes profile x y → IsSound x → IsSound y
  sound_next x y g h = ((after g.label g.steps h.0).tidy, plain_kept g.steps h.1)

  pub sound : {x z : Stage} → Reaches profile x z → IsSound x → IsSound z
  sound reached h = h
  sound (goes_on {stage = x} {next = y} g r) h = sound r (sound_next x y g h)

  -- the outermost waits on nothing: its input has come, and its output can always be written
  abbrev pub Next : Stage → Type 0
  Next x = (x.left ≡ done) ⊎ ((y : Stage) × Goes profile x y)

  next_by : (x : Stage) (l : Label) → Does profile x.left x.files l → IsMet l false true x.input → Next x
  next_by x l s met =
      inr (record { left = s.0; input = drop (taken l) x.input; out = x.out ++ put_out l; files = s.1 }, record { label = l; steps = s.2; met = met; input = refl; out = refl })

  next_reads : (x : Stage) (i : Bytes) → x.input ≡ i → ((byte : ℕ) → Does profile x.left x.files (takes (byte ∷ []))) → Does profile x.left x.files meets_end → Next x
  next_reads x [] is r e = next_by x meets_end e (refl, is)
  next_reads x (byte ∷ more) is r e = next_by x (takes (byte ∷ [])) (r byte) (more, is)

  next_one : (x : Stage) → Moves profile x.left x.files → Next x
  next_one x (is_done e) = inl e
  next_one x (goes s) = next_by x silent s tt
  next_one x (may_read r e) = next_reads x x.input refl r e
  next_one x (may_put byte p d) = next_by x (puts (byte ∷ [])) p tt
  next_one x (may_end_write p) = next_by x (puts []) p tt

  pub next : (x : Stage) → IsSound x → Next x
  next x h = next_one x (moves profile x.left x.files h.0 h.1)
