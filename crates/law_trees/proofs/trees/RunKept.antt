-- A program's call keeps its final value, unless the call is a write that is refused.
use Rattle.std.proofs.Common.{◌≡◌, ◌∙◌, ℕ, zero, suc, ◌+◌, ◌≤◌, Bool, true, false, List, [], ◌∷◌, ◌++◌, length, take, drop, Option, Some, None, refl, sym, ap, subst, arith, take-append-drop, append_assoc, append-nil, drop-drop}
use Rattle.std.specs.Prelude.{◌-◌, min, if◌then◌else◌}
use Rattle.std.proofs.Math.Seq.{drop-nil, drop-append_seam}
use Rattle.std.proofs.lemmas.Bool.{ne_eqb}
use Rattle.std.proofs.lemmas.List.{length-take}
use Rattle.mem_files.specs.Name.{Bytes}
use Rattle.mem_files.specs.Files.{FileMap}
use Rattle.prog_parts.specs.NameSets.{no_names}
use Rattle.script_load.specs.declared.profile.Profile.{Profile}
use Rattle.user_calls.specs.declared.calls.Call.{Call}
use Rattle.user_calls.specs.declared.calls.Call.TheVariants.{Fork, Exec, Exit, Wait, MakePipe, Read, Write, OpenFile, Close, Dup}
use Rattle.user_calls.specs.declared.calls.Reply.{Reply}
use Rattle.user_calls.specs.declared.calls.Reply.TheVariants.{Done, Bytes as Bytes'}
use Rattle.user_progs.specs.State.{ended}
use Rattle.user_progs.specs.Turn.{turn}
use Rattle.tree_model.specs.Alone.{OwnFile, Takes, May, after_call, to_out}
use Rattle.tree_model.specs.Calls.{MayCall}
use Rattle.tree_model.specs.Still.{still, left_of}
use Rattle.tree_model.specs.Waits.{Waits}
use Rattle.law_trees.proofs.programs.Chunks.{has_ended}
use Rattle.law_trees.proofs.programs.Keeps.{call_kept}
use Rattle.tree_model.specs.Residual.{Running, world_of, alone, running}
use Rattle.tree_model.specs.Answers.{Kind, leaves, reads_input, writes_output, asks, kind_of, resumed, replied, files_after, answer}
use Rattle.tree_model.specs.Begin.{run_left}
use Rattle.tree_model.specs.Step.{Move, read_input, put_some, write_output, act, acts}
use Rattle.tree_model.specs.Final.{run_value, final}
use Rattle.tree_model.specs.Tidy.{IsTidy}
use Rattle.law_trees.proofs.trees.Acting.{waits_over, fits_over, run_calls}
use Rattle.law_trees.proofs.trees.Calls.{over, is_exit, is_read, is_write, takes_some, takes_end, may_reply, reply_over, same_after}
use Rattle.law_trees.proofs.trees.Running.{run_firm}
use Rattle.law_trees.proofs.trees.Values.{Keeps, KeepsLeft}

module _ (profile : Profile) (run : Running) (F : FileMap) (tidy : IsTidy (running run) F) where
  -- its move over the first bytes of an input that has more
  abbrev Kept : Bytes → Bytes → Move (Option Running) → Type 0
  Kept i more m = KeepsLeft profile m.wrote (running run) (i ++ more) F (run_left m.next) (drop m.took i ++ more) m.files

  -- the call is answered
  answered : (reply : Reply) (own : List OwnFile) (j k : Bytes) (G : FileMap) → May run.turn.call reply (world_of run j F) → after_call run.turn.call reply (world_of run j F) ≡ over own k G →
      Keeps (drop run.put (to_out run.turn.call)) (run_value run j F) (run_value (record { turn = turn run.turn.next reply; own = own; put = 0 }) k G) no_names
  answered reply own j k G may is =
      let kept : still run.turn.next (world_of run j F) ≡ left_of (turn run.turn.next reply) 0 (over own k G) =
      call_kept run.turn.next run.turn.call reply (world_of run j F) (waits_over run j F tidy) (fits_over run j F tidy) may ∙ ap (λ x. left_of (turn run.turn.next reply) 0 x) is in
      let firm = run_firm (record { turn = turn run.turn.next reply; own = own; put = 0 }) k G in
      record {
        out = ap (λ v. drop run.put (to_out run.turn.call) ++ v.out) kept;
        files = record { at = λ n e. ap (λ v. v.files n) kept };
        rest = λ e. ap (λ v. v.rest) kept;
        loose = λ e. firm.loose;
        soft = λ n e. firm.soft n;
        met = λ n. refl;
      }

  -- it waits on
  waits_on : (i more : Bytes) → Kept i more (record { wrote = []; refused = false; took = 0; next = Some run; files = F })
  waits_on i more =
      record { out = refl; files = record { at = λ n e. refl }; rest = λ e. refl; loose = λ e. e; soft = λ n e. e; met = λ n. refl }

  no_bytes : (most : ℕ) → run.turn.call ≡ Read 0 most → drop run.put (to_out run.turn.call) ≡ []
  no_bytes most is = ap (λ c. drop run.put (to_out c)) is ∙ drop-nil run.put

  read_bytes : (most : ℕ) (bytes j k : Bytes) → run.turn.call ≡ Read 0 most → Takes most j bytes → drop (length bytes) j ≡ k → Keeps [] (run_value run j F) (run_value (resumed run (Bytes' bytes)) k F) no_names
  read_bytes most bytes j k is takes cut =
      subst (λ z. Keeps z (run_value run j F) (run_value (resumed run (Bytes' bytes)) k F) no_names) (no_bytes most is)
      (answered (Bytes' bytes) run.own j k F (subst (λ c. May c (Bytes' bytes) (world_of run j F)) (sym is) (bytes, refl, takes))
      (ap (λ c. after_call c (Bytes' bytes) (world_of run j F)) is ∙ ap (λ z. over run.own z F) cut))

  drop_front : (k : ℕ) (i more : Bytes) → k ≤ length i → drop k (i ++ more) ≡ drop k i ++ more
  drop_front zero i more e = refl
  drop_front (suc k) [] more e = absurd (omega (arith, e))
  drop_front (suc k) (b ∷ i) more e = drop_front k i more (omega (arith, e))

  kept_read : (most count : ℕ) (en : Bool) (i more : Bytes) → run.turn.call ≡ Read 0 most → 1 ≤ most → (en ≡ true → more ≡ []) → Kept i more (read_input most run count en i F)
  kept_read most count true [] more is some ends = read_bytes most [] more more is (takes_end most more (ends refl)) refl
  kept_read most count false [] more is some ends = waits_on [] more
  kept_read most count en (byte ∷ i) more is some ends =
      let b = byte ∷ take (min count (most - 1)) i in
      read_bytes most b ((byte ∷ i) ++ more) (drop (length b) (byte ∷ i) ++ more) is (takes_some most count byte i more some)
      (drop_front (length (take (min count (most - 1)) i)) i more (omega (arith, length-take (min count (most - 1)) i)))

  out_of : (bytes : Bytes) → run.turn.call ≡ Write 1 bytes → drop run.put (to_out run.turn.call) ≡ drop run.put bytes
  out_of bytes is = ap (λ c. drop run.put (to_out c)) is

  write_done : (bytes j : Bytes) → run.turn.call ≡ Write 1 bytes → Keeps (drop run.put bytes) (run_value run j F) (run_value (resumed run Done) j F) no_names
  write_done bytes j is =
      subst (λ z. Keeps z (run_value run j F) (run_value (resumed run Done) j F) no_names) (out_of bytes is)
      (answered Done run.own j j F (subst (λ c. May c Done (world_of run j F)) (sym is) refl) (ap (λ c. after_call c Done (world_of run j F)) is))

  kept_put : (bytes now later i more : Bytes) → run.turn.call ≡ Write 1 bytes → drop run.put bytes ≡ now ++ later → Kept i more (put_some run now later F)
  kept_put bytes now [] i more is parts =
      subst (λ z. Keeps z (run_value run (i ++ more) F) (run_value (resumed run Done) (i ++ more) F) no_names) (parts ∙ append-nil now) (write_done bytes (i ++ more) is)
  kept_put bytes now (b ∷ later) i more is parts =
      let on : Running = record run { put = run.put + length now } in
      let after : drop (run.put + length now) bytes ≡ b ∷ later = sym (drop-drop (length now) run.put bytes) ∙ ap (drop (length now)) parts ∙ drop-append_seam now (b ∷ later) in
      let rest = (still run.turn.next (world_of run (i ++ more) F)).out in
      let split : drop run.put (to_out run.turn.call) ≡ now ++ drop (run.put + length now) (to_out run.turn.call) =
      out_of bytes is ∙ parts ∙ ap (λ z. now ++ z) (sym (ap (λ c. drop (run.put + length now) (to_out c)) is ∙ after)) in
      record {
        out = ap (λ z. z ++ rest) split ∙ append_assoc now (drop (run.put + length now) (to_out run.turn.call)) rest;
        files = record { at = λ n e. refl };
        rest = λ e. refl;
        loose = λ e. e;
        soft = λ n e. e;
        met = λ n. refl;
      }

  kept_write : (bytes left : Bytes) (count : ℕ) (cl : Bool) (i more : Bytes) → run.turn.call ≡ Write 1 bytes → drop run.put bytes ≡ left → (write_output run left count cl F).refused ≡ false → Kept i more (write_output run left count cl F)
  kept_write bytes [] count cl i more is left r =
      subst (λ z. Keeps z (run_value run (i ++ more) F) (run_value (resumed run Done) (i ++ more) F) no_names) left (write_done bytes (i ++ more) is)
  kept_write bytes (byte ∷ rest) zero true i more is left r = cc
  kept_write bytes (byte ∷ rest) zero false i more is left r = waits_on i more
  kept_write bytes (byte ∷ rest) (suc count) cl i more is left r =
      kept_put bytes (byte ∷ take count rest) (drop count rest) i more is (left ∙ ap (λ z. byte ∷ z) (sym (take-append-drop count rest)))

  -- a call that the files answer puts nothing to the output
  asks_no_out : (call : Call) → kind_of call ≡ asks → to_out call ≡ []
  asks_no_out Fork e = refl
  asks_no_out (Exec is_known) e = refl
  asks_no_out Exit e = refl
  asks_no_out Wait e = refl
  asks_no_out MakePipe e = refl
  asks_no_out (Read fd most) e = refl
  asks_no_out (Write zero bytes) e = refl
  asks_no_out (Write (suc zero) bytes) e = cc
  asks_no_out (Write (suc (suc fd)) bytes) e = ap (λ (b : Bool). if b then bytes else []) (ne_eqb (suc (suc fd)) 1 (λ h. omega (arith, h)))
  asks_no_out (OpenFile name mode) e = refl
  asks_no_out (Close fd) e = refl
  asks_no_out (Dup fd) e = refl

  kept_asks : (i more : Bytes) → kind_of run.turn.call ≡ asks → Kept i more (act asks run 0 false false i F)
  kept_asks i more kind =
      let j = i ++ more in
      let call = run.turn.call in
      let reply = answer run F in
      let may = subst (λ r. May call r (world_of run j F)) (reply_over call run.own j [] F kind) (may_reply call run.turn.next (world_of run j F) (run_calls run j F tidy) kind) in
      let same = same_after run.own [] j F call reply in
      subst (λ z. Keeps z (run_value run j F) (run_value (replied run reply F) j (files_after run reply F)) no_names) (ap (drop run.put) (asks_no_out call kind) ∙ drop-nil run.put)
      (answered reply (replied run reply F).own j j (files_after run reply F) may (λ t. over (sym same.own t) (same.input kind t) (sym same.files t)))

  kept_exit : (i more : Bytes) → run.turn.call ≡ Exit → Kept i more (record { wrote = []; refused = false; took = 0; next = None; files = F })
  kept_exit i more is =
      let w : Waits run.turn.next Exit (world_of run (i ++ more) F) = subst (λ c. Waits run.turn.next c (world_of run (i ++ more) F)) is (waits_over run (i ++ more) F tidy) in
      let over_now = has_ended run.turn.next (world_of run (i ++ more) F) w in
      let whole : run_value run (i ++ more) F ≡ left_of (record { call = Exit; next = ended }) run.put (world_of run (i ++ more) F) =
      (λ t. left_of (record { call = is t; next = over_now t }) run.put (world_of run (i ++ more) F)) in
      subst (λ v. Keeps [] v (final profile (run_left None) (i ++ more) F) no_names) (sym whole)
      (record { out = ap (λ z. z ++ []) (drop-nil run.put); files = record { at = λ n e. refl }; rest = λ e. refl; loose = λ e. refl; soft = λ n e. refl; met = λ n. refl })

  pub act_kept : (count : ℕ) (cl en : Bool) (i more : Bytes) → (en ≡ true → more ≡ []) → (acts run count cl en i F).refused ≡ false → Kept i more (acts run count cl en i F)
  act_kept count cl en i more ends r = go (kind_of run.turn.call) refl r
    where
      some : (most : ℕ) → run.turn.call ≡ Read 0 most → 1 ≤ most
      some most is = let m : MayCall (Read 0 most) run.turn.next (alone run F) = subst (λ c. MayCall c run.turn.next (alone run F)) is (run_calls run [] F tidy) in m.0

      go : (kind : Kind) → kind_of run.turn.call ≡ kind → (act kind run count cl en i F).refused ≡ false → Kept i more (act kind run count cl en i F)
      go leaves e r = kept_exit i more (is_exit run.turn.call e)
      go (reads_input most) e r = let is = is_read run.turn.call most e in kept_read most count en i more is (some most is) ends
      go (writes_output bytes) e r = kept_write bytes (drop run.put bytes) count cl i more (is_write run.turn.call bytes e) refl r
      go asks e r = kept_asks i more e
