-- What comes of a program's call: it is answered as a program alone may be answered, waits on, is refused or exits. So the
-- program names, writes and uses no more than before, and waits again.
use Rattle.std.proofs.Common.{◌≡◌, ◌∙◌, ℕ, zero, suc, ◌+◌, ◌≤◌, Bool, true, false, List, [], ◌∷◌, length, take, drop, Option, Some, None, refl, sym, ap, subst, append-nil}
use Rattle.std.specs.Prelude.{◌-◌, min}
use mathlib.Core.Path.{transport}
use Rattle.mem_files.specs.Name.{Name, Bytes}
use Rattle.mem_files.specs.Files.{FileMap, no_files}
use Rattle.user_calls.specs.declared.calls.Call.TheVariants.{Read, Write}
use Rattle.user_calls.specs.declared.calls.Reply.{Reply}
use Rattle.user_calls.specs.declared.calls.Reply.TheVariants.{Done, Bytes as Bytes', Refused}
use Rattle.user_progs.specs.Turn.{turn}
use Rattle.tree_model.specs.Ahead.{still_uses}
use Rattle.tree_model.specs.Alone.{OwnFile, Takes, May, after_call}
use Rattle.tree_model.specs.Calls.{MayCall}
use Rattle.tree_model.specs.Fits.{Fits}
use Rattle.tree_model.specs.Frame.{depends_on, may_change}
use Rattle.tree_model.specs.Waits.{Waits}
use Rattle.law_trees.proofs.programs.Calling.{calls}
use Rattle.law_trees.proofs.programs.Elsewhere.{depends_alike, changes_alike, waits_agree, fits_elsewhere}
use Rattle.law_trees.proofs.programs.Fitting.{fits_on}
use Rattle.law_trees.proofs.programs.Holding.{depends_shrink, changes_shrink}
use Rattle.law_trees.proofs.programs.Refusing.{waits_refused, fits_refused, depends_refused, changes_refused}
use Rattle.law_trees.proofs.programs.Shrinking.{uses_shrink}
use Rattle.law_trees.proofs.programs.Waiting.{waits_on}
use Rattle.tree_model.specs.Residual.{Running, world_of, alone, running, left_names, left_writes, left_uses}
use Rattle.tree_model.specs.Answers.{Kind, leaves, reads_input, writes_output, asks, kind_of, resumed, replied, files_after, answer}
use Rattle.tree_model.specs.Begin.{run_left}
use Rattle.tree_model.specs.Step.{Move, read_input, put_some, write_output, act, acts}
use Rattle.tree_model.specs.Tidy.{IsTidy}
use Rattle.law_trees.proofs.trees.Calls.{over, is_read, is_write, takes_some, takes_end, may_reply, reply_over, Same, same_after, read_leaves, write_leaves}

-- what a property of what is left must hold of, to hold after any call
pub record Comes (Q : Option Running → FileMap → Type 0) (run : Running) (i : Bytes) (F : FileMap) : Type 0 where
  pub leaves : Q None F
  pub waits : (put : ℕ) → Q (Some (record run { put = put })) F
  pub goes : (reply : Reply) → May run.turn.call reply (world_of run i F) → Q (Some (replied run reply F)) (files_after run reply F)
  pub refused : (bytes : Bytes) → run.turn.call ≡ Write 1 bytes → Q (Some (resumed run Refused)) F

module _ (Q : Option Running → FileMap → Type 0) (run : Running) (i : Bytes) (F : FileMap) (come : Comes Q run i F) where
  abbrev Is : Move (Option Running) → Type 0
  Is m = Q m.next m.files

  by_bytes : (most : ℕ) (bytes : Bytes) → run.turn.call ≡ Read 0 most → Takes most i bytes → Q (Some (resumed run (Bytes' bytes))) F
  by_bytes most bytes is takes =
      transport (λ z. Q (Some (read_leaves run most bytes F is z)) (same z))
      (come.goes (Bytes' bytes) (subst (λ c. May c (Bytes' bytes) (world_of run i F)) (sym is) (bytes, refl, takes)))
    where
      same : files_after run (Bytes' bytes) F ≡ F
      same = ap (λ c. (after_call c (Bytes' bytes) (alone run F)).files) is

  by_done : (bytes : Bytes) → run.turn.call ≡ Write 1 bytes → Q (Some (resumed run Done)) F
  by_done bytes is =
      transport (λ z. Q (Some (write_leaves run bytes F is z)) (same z)) (come.goes Done (subst (λ c. May c Done (world_of run i F)) (sym is) refl))
    where
      same : files_after run Done F ≡ F
      same = ap (λ c. (after_call c Done (alone run F)).files) is

  by_put : (bytes now later : Bytes) → run.turn.call ≡ Write 1 bytes → Is (put_some run now later F)
  by_put bytes now [] is = by_done bytes is
  by_put bytes now (byte ∷ later) is = come.waits (run.put + length now)

  by_write : (bytes left : Bytes) (count : ℕ) (cl : Bool) → run.turn.call ≡ Write 1 bytes → Is (write_output run left count cl F)
  by_write bytes [] count cl is = by_done bytes is
  by_write bytes (byte ∷ left) zero true is = come.refused bytes is
  by_write bytes (byte ∷ left) zero false is = come.waits run.put
  by_write bytes (byte ∷ left) (suc count) cl is = by_put bytes (byte ∷ take count left) (drop count left) is

  by_asking : MayCall run.turn.call run.turn.next (world_of run i F) → kind_of run.turn.call ≡ asks → Is (act asks run 0 false false i F)
  by_asking may kind =
      come.goes (answer run F)
      (subst (λ r. May run.turn.call r (world_of run i F)) (reply_over run.turn.call run.own i [] F kind) (may_reply run.turn.call run.turn.next (world_of run i F) may kind))

by_read : (Q : Option Running → FileMap → Type 0) (run : Running) (i : Bytes) (F : FileMap) → Comes Q run i F → (most count : ℕ) (en : Bool) → run.turn.call ≡ Read 0 most → 1 ≤ most → Q (read_input most run count en i F).next (read_input most run count en i F).files
by_read Q run [] F come most count true is some = by_bytes Q run [] F come most [] is (takes_end most [] refl)
by_read Q run [] F come most count false is some = come.waits run.put
by_read Q run (byte ∷ i) F come most count en is some =
    by_bytes Q run (byte ∷ i) F come most (byte ∷ take (min count (most - 1)) i) is
    (subst (λ z. Takes most z (byte ∷ take (min count (most - 1)) i)) (append-nil (byte ∷ i)) (takes_some most count byte i [] some))

some_asked : (run : Running) (i : Bytes) (F : FileMap) (most : ℕ) → MayCall run.turn.call run.turn.next (world_of run i F) → run.turn.call ≡ Read 0 most → 1 ≤ most
some_asked run i F most may is = let m : MayCall (Read 0 most) run.turn.next (world_of run i F) = subst (λ c. MayCall c run.turn.next (world_of run i F)) is may in m.0

pub by_act : (Q : Option Running → FileMap → Type 0) (run : Running) (count : ℕ) (cl en : Bool) (i : Bytes) (F : FileMap) → MayCall run.turn.call run.turn.next (world_of run i F) → Comes Q run i F → Q (acts run count cl en i F).next (acts run count cl en i F).files
by_act Q run count cl en i F may come = go (kind_of run.turn.call) refl
  where
    go : (kind : Kind) → kind_of run.turn.call ≡ kind → Q (act kind run count cl en i F).next (act kind run count cl en i F).files
    go leaves e = come.leaves
    go (reads_input most) e = let is = is_read run.turn.call most e in by_read Q run i F come most count en is (some_asked run i F most may is)
    go (writes_output bytes) e = by_write Q run i F come bytes (drop run.put bytes) count cl (is_write run.turn.call bytes e)
    go asks e = by_asking Q run i F come may e

-- a program that waits over no input waits over any
pub waits_over : (run : Running) (i : Bytes) (F : FileMap) → IsTidy (running run) F → Waits run.turn.next run.turn.call (world_of run i F)
waits_over run i F tidy = waits_agree run.turn.next run.turn.call (alone run F) i F tidy.0 (λ n e. refl)

pub fits_over : (run : Running) (i : Bytes) (F : FileMap) → IsTidy (running run) F → Fits run.turn.next (world_of run i F)
fits_over run i F tidy = fits_elsewhere run.turn.next (alone run F) i F tidy.1 (λ n e. refl)

pub run_calls : (run : Running) (i : Bytes) (F : FileMap) → IsTidy (running run) F → MayCall run.turn.call run.turn.next (world_of run i F)
run_calls run i F tidy = calls run.turn.next run.turn.call (world_of run i F) (waits_over run i F tidy)

abbrev Depends : Name → Option Running → FileMap → Type 0
Depends n o F = left_names (run_left o) n ≡ false

abbrev Changes : Name → Option Running → FileMap → Type 0
Changes n o F = left_writes (run_left o) n ≡ false

abbrev Uses : Option Running → FileMap → Type 0
Uses o F = left_uses (run_left o) ≡ false

abbrev TidyAgain : Option Running → FileMap → Type 0
TidyAgain o F = IsTidy (run_left o) F

module _ (run : Running) (count : ℕ) (cl en : Bool) (i : Bytes) (F : FileMap) (tidy : IsTidy (running run) F) where
  same : (reply : Reply) → Same i run.turn.call (after_call run.turn.call reply (alone run F)) (after_call run.turn.call reply (world_of run i F))
  same reply = same_after run.own [] i F run.turn.call reply

  pub act_depends : (n : Name) → left_names (running run) n ≡ false → left_names (run_left (acts run count cl en i F).next) n ≡ false
  act_depends n none =
      by_act (Depends n) run count cl en i F (run_calls run i F tidy)
      (record {
        leaves = refl;
        waits = λ put. none;
        goes = λ reply may.
            let after = after_call run.turn.call reply (world_of run i F) in
            let s = (turn run.turn.next reply).next in
            ap (λ (own : List OwnFile). depends_on s (over own [] no_files) n) (same reply).own
            ∙ depends_alike s after [] no_files n
            ∙ depends_shrink run.turn.next run.turn.call reply (world_of run i F) n (waits_over run i F tidy) may (sym (depends_alike run.turn.next (world_of run i F) [] no_files n) ∙ none);
        refused = λ bytes is. depends_refused run.turn.next (alone run no_files) n none;
      })

  pub act_changes : (n : Name) → left_writes (running run) n ≡ false → left_writes (run_left (acts run count cl en i F).next) n ≡ false
  act_changes n none =
      by_act (Changes n) run count cl en i F (run_calls run i F tidy)
      (record {
        leaves = refl;
        waits = λ put. none;
        goes = λ reply may.
            let after = after_call run.turn.call reply (world_of run i F) in
            let s = (turn run.turn.next reply).next in
            ap (λ (own : List OwnFile). may_change s (over own [] no_files) n) (same reply).own
            ∙ changes_alike s after [] no_files n
            ∙ changes_shrink run.turn.next run.turn.call reply (world_of run i F) n (waits_over run i F tidy) may (sym (changes_alike run.turn.next (world_of run i F) [] no_files n) ∙ none);
        refused = λ bytes is. changes_refused run.turn.next (alone run no_files) n none;
      })

  pub act_uses : still_uses run.turn.next ≡ false → left_uses (run_left (acts run count cl en i F).next) ≡ false
  act_uses none =
      by_act Uses run count cl en i F (run_calls run i F tidy)
      (record {
        leaves = refl;
        waits = λ put. none;
        goes = λ reply may. uses_shrink run.turn.next reply none;
        refused = λ bytes is. uses_shrink run.turn.next Refused none;
      })

  pub act_tidy : IsTidy (run_left (acts run count cl en i F).next) (acts run count cl en i F).files
  act_tidy =
      by_act TidyAgain run count cl en i F (run_calls run i F tidy)
      (record {
        leaves = tt;
        waits = λ put. tidy;
        goes = λ reply may.
            let world = world_of run i F in
            let after = after_call run.turn.call reply world in
            let next = turn run.turn.next reply in
            let w = waits_on run.turn.next run.turn.call reply world (waits_over run i F tidy) may in
            let f = fits_on run.turn.next run.turn.call reply world (waits_over run i F tidy) (fits_over run i F tidy) may in (
              transport (λ z. Waits next.next next.call (over (sym (same reply).own z) [] (sym (same reply).files z))) (waits_agree next.next next.call after [] after.files w (λ n e. refl)),
              transport (λ z. Fits next.next (over (sym (same reply).own z) [] (sym (same reply).files z))) (fits_elsewhere next.next after [] after.files f (λ n e. refl)),
            );
        refused = λ bytes is. (waits_refused run.turn.next run.turn.call (alone run F) tidy.0, fits_refused run.turn.next (alone run F));
      })
