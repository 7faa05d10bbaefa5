-- Where what is left is not done it can go on, unless it waits on the input or the output around it.
use Rattle.std.proofs.Common.{◌≡◌, ℕ, ◌≤◌, Bool, [], ◌∷◌, ◌++◌, length, drop, refl, sym, ap, subst, arith}
use Rattle.std.proofs.lemmas.List.{length-append}
use Rattle.sh_tree.specs.Tree.{Tree}
use Rattle.mem_files.specs.Name.{Name, Bytes}
use Rattle.mem_files.specs.Files.{FileMap, bytes_of}
use Rattle.script_load.specs.declared.profile.Profile.{Profile}
use Rattle.user_calls.specs.declared.calls.Call.TheVariants.{Read}
use Rattle.tree_model.specs.Calls.{MayCall}
use Rattle.tree_model.specs.Residual.{Running, alone, Residual, done, todo, running, seq, piped, unopened, from, into, Position, keeps_0}
use Rattle.tree_model.specs.Answers.{Kind, leaves, reads_input, writes_output, asks, kind_of}
use Rattle.tree_model.specs.Rules.{puts, refused, PIPE_ROOM, is_gap}
use Rattle.tree_model.specs.Rules.Steps.{begins, opens, exits, calls, reads, reads_end, writes_all, writes_some, write_refused, seq_ends, pipe_ends, from_ends, into_ends, seq_steps, left_silent, left_takes, left_meets_end, left_puts, left_refused, right_silent, right_takes, right_meets_end, right_puts, right_refused, from_silent, from_takes, from_meets_end, from_puts, from_refused, into_silent, into_takes, into_meets_end, into_puts}
use Rattle.tree_model.specs.Moving.{IsPlain, Does, Moves, is_done, goes, may_read, may_put, may_end_write}
use Rattle.tree_model.specs.Tidy.{IsThere, IsTidy}
use Rattle.law_trees.proofs.trees.Acting.{run_calls}
use Rattle.law_trees.proofs.trees.Bools.{not_both}
use Rattle.law_trees.proofs.trees.Calls.{is_read}
use Rattle.law_trees.proofs.trees.Keep.{no_gap_there}

module _ (profile : Profile) where
  -- a program
  run_writes : (run : Running) (F : FileMap) (bytes left : Bytes) → kind_of run.turn.call ≡ writes_output bytes → drop run.put bytes ≡ left → Moves profile (running run) F
  run_writes run F bytes [] is e = may_end_write (_, F, writes_all bytes is (sym e) refl)
  run_writes run F bytes (byte ∷ []) is e =
      may_put byte (_, F, writes_all bytes is (sym e) refl) (_, F, write_refused bytes is (omega (arith, ap length e)) refl)
  run_writes run F bytes (byte ∷ next ∷ more) is e =
      may_put byte (_, F, writes_some bytes (next ∷ more) is e (omega arith) (omega arith) refl) (_, F, write_refused bytes is (omega (arith, ap length e)) refl)

  some_asked : (run : Running) (F : FileMap) (most : ℕ) → IsTidy (running run) F → kind_of run.turn.call ≡ reads_input most → 1 ≤ most
  some_asked run F most tidy is =
      let may : MayCall (Read 0 most) run.turn.next (alone run F) = subst (λ c. MayCall c run.turn.next (alone run F)) (is_read run.turn.call most is) (run_calls run [] F tidy) in may.0

  run_moves : (run : Running) (F : FileMap) → IsTidy (running run) F → Moves profile (running run) F
  run_moves run F tidy = go (kind_of run.turn.call) refl
    where
      go : (kind : Kind) → kind_of run.turn.call ≡ kind → Moves profile (running run) F
      go leaves is = goes (done, F, exits is)
      go (reads_input most) is = may_read (λ byte. (_, F, reads most is (omega arith) (some_asked run F most tidy is) refl)) (_, F, reads_end most is refl)
      go (writes_output bytes) is = run_writes run F bytes (drop run.put bytes) is refl
      go asks is = goes (_, _, calls is refl refl)

  -- parts
  seq_moves : (X : Residual) (T : Tree) (F : FileMap) → Moves profile X F → Moves profile (seq X T) F
  seq_moves X T F (is_done e) = subst (λ Z. Moves profile (seq Z T) F) (sym e) (goes (todo T, F, seq_ends))
  seq_moves X T F (goes s) = goes (_, s.1, seq_steps s.2)
  seq_moves X T F (may_read r e) = may_read (λ byte. (_, (r byte).1, seq_steps (r byte).2)) (_, e.1, seq_steps e.2)
  seq_moves X T F (may_end_write p) = may_end_write (_, p.1, seq_steps p.2)
  seq_moves X T F (may_put byte p d) = may_put byte (_, p.1, seq_steps p.2) (_, d.1, seq_steps d.2)

  from_moves : (f : Name) (at : ℕ) (X : Residual) (F : FileMap) (left : Bytes) → drop at (bytes_of (F f)) ≡ left → Moves profile X F → Moves profile (from f at X) F
  from_moves f at X F left cut (is_done e) = subst (λ Z. Moves profile (from f at Z) F) (sym e) (goes (done, F, from_ends))
  from_moves f at X F left cut (goes s) = goes (_, s.1, from_silent s.2)
  from_moves f at X F [] cut (may_read r e) = goes (_, e.1, from_meets_end e.2 cut)
  from_moves f at X F (byte ∷ more) cut (may_read r e) = goes (_, (r byte).1, from_takes more (r byte).2 cut refl)
  from_moves f at X F left cut (may_end_write p) = may_end_write (_, p.1, from_puts p.2)
  from_moves f at X F left cut (may_put byte p d) = may_put byte (_, p.1, from_puts p.2) (_, d.1, from_refused d.2)

  into_moves : (f : Name) (at : Position) (X : Residual) (F : FileMap) → IsThere (F f) at → Moves profile X F → Moves profile (into f at X) F
  into_moves f at X F there (is_done e) = subst (λ Z. Moves profile (into f at Z) F) (sym e) (goes (done, F, into_ends))
  into_moves f at X F there (goes s) = goes (_, s.1, into_silent s.2)
  into_moves f at X F there (may_read r e) = may_read (λ byte. (_, (r byte).1, into_takes (r byte).2)) (_, e.1, into_meets_end e.2)
  into_moves f at X F there (may_end_write p) = goes (_, _, into_puts p.2 (λ gap. refl) refl refl)
  into_moves f at X F there (may_put byte p d) = goes (_, _, into_puts p.2 (λ gap. not_both (is_gap (F f) at) gap (no_gap_there (F f) at there)) refl refl)

  -- a pipe whose left side is done goes on with the right side
  done_moves : (lost : Bool) (Y : Residual) (q : Bytes) (F : FileMap) → Moves profile Y F → Moves profile (piped lost done q Y) F
  done_moves lost Y q F (is_done e) = subst (λ Z. Moves profile (piped lost done q Z) F) (sym e) (goes (done, F, pipe_ends))
  done_moves lost Y q F (goes s) = goes (_, s.1, right_silent s.2)
  done_moves lost Y [] F (may_read r e) = goes (_, e.1, right_meets_end e.2 refl refl)
  done_moves lost Y (byte ∷ q) F (may_read r e) = goes (_, (r byte).1, right_takes {q' = q} (r byte).2 refl)
  done_moves lost Y q F (may_end_write p) = may_end_write (_, p.1, right_puts p.2)
  done_moves lost Y q F (may_put byte p d) = may_put byte (_, p.1, right_puts p.2) (_, d.1, right_refused d.2)

  -- and one whose left side waits to write: the right side reads, or waits on the output, or no longer reads
  write_moves : (lost : Bool) (X Y : Residual) (q : Bytes) (F : FileMap) (byte : ℕ) → Does profile X F (puts (byte ∷ [])) → Does profile X F refused → Moves profile Y F → Moves profile (piped lost X q Y) F
  write_moves lost X Y q F byte p d (is_done e) = goes (_, d.1, left_refused d.2 (ap keeps_0 e))
  write_moves lost X Y q F byte p d (goes s) = goes (_, s.1, right_silent s.2)
  write_moves lost X Y [] F byte p d (may_read r e) = goes (_, p.1, left_puts {q' = byte ∷ []} p.2 refl (omega arith))
  write_moves lost X Y (first ∷ q) F byte p d (may_read r e) = goes (_, (r first).1, right_takes {q' = q} (r first).2 refl)
  write_moves lost X Y q F byte p d (may_end_write o) = may_end_write (_, o.1, right_puts o.2)
  write_moves lost X Y q F byte p d (may_put other o r) = may_put other (_, o.1, right_puts o.2) (_, r.1, right_refused r.2)

  pipe_moves : (lost : Bool) (X Y : Residual) (q : Bytes) (F : FileMap) → length q ≤ PIPE_ROOM → Moves profile X F → Moves profile Y F → Moves profile (piped lost X q Y) F
  pipe_moves lost X Y q F room (is_done e) y = subst (λ Z. Moves profile (piped lost Z q Y) F) (sym e) (done_moves lost Y q F y)
  pipe_moves lost X Y q F room (goes s) y = goes (_, s.1, left_silent s.2)
  pipe_moves lost X Y q F room (may_read r e) y = may_read (λ byte. (_, (r byte).1, left_takes (r byte).2)) (_, e.1, left_meets_end e.2)
  pipe_moves lost X Y q F room (may_end_write p) y = goes (_, p.1, left_puts {q' = q ++ []} p.2 refl (omega (arith, room, length-append q [])))
  pipe_moves lost X Y q F room (may_put byte p d) y = write_moves lost X Y q F byte p d y

  pub moves : (X : Residual) (F : FileMap) → IsTidy X F → IsPlain X → Moves profile X F
  moves done F tidy plain = is_done refl
  moves (todo T) F tidy plain = goes (_, F, begins refl)
  moves (running run) F tidy plain = run_moves run F tidy
  moves (seq X T) F tidy plain = seq_moves X T F (moves X F tidy.0 plain.0)
  moves (piped lost X q Y) F tidy plain = pipe_moves lost X Y q F plain.2 (moves X F tidy.0 plain.0) (moves Y F tidy.1 plain.1)
  moves (unopened m f T) F tidy plain = goes (_, _, opens refl refl)
  moves (from f at X) F tidy plain = from_moves f at X F (drop at (bytes_of (F f))) refl (moves X F tidy.0 plain)
  moves (into f at X) F tidy plain = into_moves f at X F tidy.2 (moves X F tidy.0 plain)
