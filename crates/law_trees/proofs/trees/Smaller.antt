-- What is left after a step names, writes and uses no more than before, and holds descriptor 0 no longer where it didn't. A
-- write is refused only where no process reads.
use Rattle.std.proofs.Common.{◌≡◌, ℕ, Bool, true, false, Option, Some, None, drop, refl}
use Rattle.std.specs.Prelude.{not}
use Rattle.std.specs.Str.{bytes_eq}
use Rattle.std.proofs.lemmas.Bool.{or_from}
use Rattle.sh_tree.specs.declared.tree.Mode.{Mode}
use Rattle.sh_tree.specs.declared.tree.Mode.TheVariants.{Input, Fresh, Over}
use Rattle.sh_tree.specs.Tree.{Tree, exec, redir, pipe, list, back}
use Rattle.mem_files.specs.Name.{Name, Bytes, is_openable}
use Rattle.mem_files.specs.Files.{FileMap, bytes_of}
use Rattle.conflict_check.specs.Names.{names, writes, uses_input}
use Rattle.script_load.specs.declared.profile.Profile.{Profile}
use Rattle.meaning_model.specs.Inputs.{found}
use Rattle.tree_model.specs.Residual.{Running, Residual, done, todo, running, seq, piped, unopened, from, into, Position, left_names, left_writes, left_uses, keeps_0, keeps_1}
use Rattle.tree_model.specs.Begin.{run_left, unfolded, open_from, open_into, opens_file}
use Rattle.tree_model.specs.Rules.{is_gap}
use Rattle.tree_model.specs.Step.{Choice, here, on_left, on_right, acts, seq_end, piped_end, from_end, into_end, step}
use Rattle.tree_model.specs.Tidy.{IsTidy}
use Rattle.law_trees.proofs.trees.Acting.{act_depends, act_changes, act_uses}
use Rattle.law_trees.proofs.trees.Effects.{act_lost}
use Rattle.law_trees.proofs.trees.Running.{begin_names, begin_writes, begin_uses}
use Rattle.meaning_model.proofs.Bools.{not_left, not_right}

pub record Smaller (Y X : Residual) : Type 0 where
  pub names : (n : Name) → left_names X n ≡ false → left_names Y n ≡ false
  pub writes : (n : Name) → left_writes X n ≡ false → left_writes Y n ≡ false
  pub uses : left_uses X ≡ false → left_uses Y ≡ false
  pub keeps_0 : keeps_0 X ≡ false → keeps_0 Y ≡ false

smaller_refl : (X : Residual) → Smaller X X
smaller_refl X = record { names = λ n e. e; writes = λ n e. e; uses = λ e. e; keeps_0 = λ e. e }

smaller_done : (X : Residual) → Smaller done X
smaller_done X = record { names = λ n e. refl; writes = λ n e. refl; uses = λ e. refl; keeps_0 = λ e. refl }

smaller_tree : (T : Tree) → Smaller (unfolded T) (todo T)
smaller_tree (exec words) = record { names = λ n e. begin_names words n e; writes = λ n e. begin_writes words n e; uses = λ e. begin_uses words e; keeps_0 = λ e. cc }
smaller_tree (back T) = smaller_refl (todo (back T))
smaller_tree (redir m f T) = record { names = λ n e. e; writes = λ n e. e; uses = λ e. e; keeps_0 = λ e. cc }
smaller_tree (list A B) = record { names = λ n e. e; writes = λ n e. e; uses = λ e. e; keeps_0 = λ e. cc }
smaller_tree (pipe A B) = record { names = λ n e. e; writes = λ n e. e; uses = λ e. e; keeps_0 = λ e. cc }

smaller_run : (run : Running) (k : ℕ) (cl en : Bool) (i : Bytes) (F : FileMap) → IsTidy (running run) F → Smaller (run_left (acts run k cl en i F).next) (running run)
smaller_run run k cl en i F d = record { names = act_depends run k cl en i F d; writes = act_changes run k cl en i F d; uses = act_uses run k cl en i F d; keeps_0 = λ e. cc }

smaller_seq_end : (X : Residual) (T : Tree) → Smaller (seq_end X T) (seq X T)
smaller_seq_end done T = record { names = λ n e. e; writes = λ n e. e; uses = λ e. e; keeps_0 = λ e. cc }
smaller_seq_end X T = smaller_refl (seq X T)

smaller_piped_end : (b : Bool) (X : Residual) (q : Bytes) (Y : Residual) → Smaller (piped_end b X q Y) (piped b X q Y)
smaller_piped_end b done q done = smaller_done (piped b done q done)
smaller_piped_end b X q Y = smaller_refl (piped b X q Y)

smaller_from_end : (f : Name) (at : ℕ) (X : Residual) → Smaller (from_end f at X) (from f at X)
smaller_from_end f at done = smaller_done (from f at done)
smaller_from_end f at X = smaller_refl (from f at X)

smaller_into_end : (f : Name) (at : Position) (X : Residual) → Smaller (into_end f at X) (into f at X)
smaller_into_end f at done = smaller_done (into f at done)
smaller_into_end f at X = smaller_refl (into f at X)

smaller_seq : (X Y : Residual) (T : Tree) → Smaller Y X → Smaller (seq Y T) (seq X T)
smaller_seq X Y T a = record {
  names = λ n e. or_from (left_names Y n) (names T n) (a.names n (not_left (left_names X n) (names T n) e)) (not_right (left_names X n) (names T n) e);
  writes = λ n e. or_from (left_writes Y n) (writes T n) (a.writes n (not_left (left_writes X n) (writes T n) e)) (not_right (left_writes X n) (writes T n) e);
  uses = λ e. or_from (left_uses Y) (uses_input T) (a.uses (not_left (left_uses X) (uses_input T) e)) (not_right (left_uses X) (uses_input T) e);
  keeps_0 = λ e. cc;
}

smaller_pipe : (b c : Bool) (X X' : Residual) (q q' : Bytes) (Y Y' : Residual) → Smaller X' X → Smaller Y' Y → Smaller (piped c X' q' Y') (piped b X q Y)
smaller_pipe b c X X' q q' Y Y' x y = record {
  names = λ n e. or_from (left_names X' n) (left_names Y' n) (x.names n (not_left (left_names X n) (left_names Y n) e)) (y.names n (not_right (left_names X n) (left_names Y n) e));
  writes = λ n e. or_from (left_writes X' n) (left_writes Y' n) (x.writes n (not_left (left_writes X n) (left_writes Y n) e)) (y.writes n (not_right (left_writes X n) (left_writes Y n) e));
  uses = λ e. x.uses e;
  keeps_0 = λ e. cc;
}

smaller_from : (f : Name) (at to : ℕ) (X Y : Residual) → Smaller Y X → Smaller (from f to Y) (from f at X)
smaller_from f at to X Y a = record {
  names = λ n e. or_from (bytes_eq n f) (left_names Y n) (not_left (bytes_eq n f) (left_names X n) e) (a.names n (not_right (bytes_eq n f) (left_names X n) e));
  writes = a.writes;
  uses = λ e. refl;
  keeps_0 = λ e. refl;
}

smaller_into : (f : Name) (at to : Position) (X Y : Residual) → Smaller Y X → Smaller (into f to Y) (into f at X)
smaller_into f at to X Y a = record {
  names = λ n e. or_from (bytes_eq n f) (left_names Y n) (not_left (bytes_eq n f) (left_names X n) e) (a.names n (not_right (bytes_eq n f) (left_names X n) e));
  writes = λ n e. or_from (bytes_eq n f) (left_writes Y n) (not_left (bytes_eq n f) (left_writes X n) e) (a.writes n (not_right (bytes_eq n f) (left_writes X n) e));
  uses = a.uses;
  keeps_0 = a.keeps_0;
}

smaller_open_from : (o : Option Bytes) (f : Name) (T : Tree) (F : FileMap) → Smaller (open_from o f T F).next (unopened Input f T)
smaller_open_from None f T F = smaller_done (unopened Input f T)
smaller_open_from (Some b) f T F = record { names = λ n e. e; writes = λ n e. e; uses = λ e. e; keeps_0 = λ e. refl }

module _ (profile : Profile) where
  smaller_open_fresh : (t : Bool) (f : Name) (T : Tree) (F : FileMap) → Smaller (open_into profile t Fresh f T F).next (unopened Fresh f T)
  smaller_open_fresh false f T F = smaller_done (unopened Fresh f T)
  smaller_open_fresh true f T F = record { names = λ n e. e; writes = λ n e. e; uses = λ e. e; keeps_0 = λ e. cc }

  smaller_open_over : (t : Bool) (f : Name) (T : Tree) (F : FileMap) → Smaller (open_into profile t Over f T F).next (unopened Over f T)
  smaller_open_over false f T F = smaller_done (unopened Over f T)
  smaller_open_over true f T F = record { names = λ n e. e; writes = λ n e. e; uses = λ e. e; keeps_0 = λ e. cc }

  smaller_opens : (m : Mode) (f : Name) (T : Tree) (F : FileMap) → Smaller (opens_file profile m f T F).next (unopened m f T)
  smaller_opens Input f T F = smaller_open_from (found F f) f T F
  smaller_opens Fresh f T F = smaller_open_fresh (is_openable f) f T F
  smaller_opens Over f T F = smaller_open_over (is_openable f) f T F

  pub smaller : (X : Residual) (c : Choice) (cl en : Bool) (i : Bytes) (F : FileMap) → IsTidy X F → Smaller (step profile X c cl en i F).next X
  smaller (todo T) c cl en i F d = smaller_tree T
  smaller (running run) (here k) cl en i F d = smaller_run run k cl en i F d
  smaller (seq X T) (here k) cl en i F d = smaller_seq_end X T
  smaller (seq X T) (on_left c) cl en i F d = smaller_seq X _ T (smaller X c cl en i F d.0)
  smaller (piped b X q Y) (here k) cl en i F d = smaller_piped_end b X q Y
  smaller (piped b X q Y) (on_left c) cl en i F d = smaller_pipe b _ X _ q _ Y Y (smaller X c (not (keeps_0 Y)) en i F d.0) (smaller_refl Y)
  smaller (piped b X q Y) (on_right c) cl en i F d = smaller_pipe b b X X q _ Y _ (smaller_refl X) (smaller Y c cl (not (keeps_1 X)) q F d.1)
  smaller (unopened m f T) c cl en i F d = smaller_opens m f T F
  smaller (from f at X) (here k) cl en i F d = smaller_from_end f at X
  smaller (from f at X) (on_left c) cl en i F d = smaller_from f at _ X _ (smaller X c cl true (drop at (bytes_of (F f))) F d.0)
  smaller (into f at X) (here k) cl en i F d = smaller_into_end f at X
  smaller (into f at X) (on_left c) cl en i F d = smaller_into f at _ X _ (smaller X c (is_gap (F f) at) en i F d.0)
  smaller X c cl en i F d = smaller_refl X

  -- a write is refused only where no process reads it
  pub refused_closed : (X : Residual) (c : Choice) (cl en : Bool) (i : Bytes) (F : FileMap) → (step profile X c cl en i F).refused ≡ true → cl ≡ true
  refused_closed (running run) (here k) cl en i F e = (act_lost run k cl en i F e).closed
  refused_closed (seq X T) (on_left c) cl en i F e = refused_closed X c cl en i F e
  refused_closed (piped b X q Y) (on_right c) cl en i F e = refused_closed Y c cl (not (keeps_1 X)) q F e
  refused_closed (from f at X) (on_left c) cl en i F e = refused_closed X c cl true (drop at (bytes_of (F f))) F e
  refused_closed X (here k) cl en i F e = cc
  refused_closed X (on_left c) cl en i F e = cc
  refused_closed X (on_right c) cl en i F e = cc
