-- A program's call makes less of what it still writes and of its steps, and its files grow by no more than it writes to them.
use Rattle.std.proofs.Common.{◌≡◌, ◌∙◌, inl, inr, ℕ, zero, suc, ◌+◌, ◌-◌, ◌*◌, ◌≤◌, Bool, true, false, List, [], ◌++◌, length, drop, Option, Some, None, refl, sym, ap, subst, arith, append-nil}
use Rattle.std.specs.Option.{is_some}
use Rattle.std.proofs.Math.Nat.{add-mul, mul-le-mul_left, mul-le-mul_right}
use Rattle.std.proofs.lemmas.List.{length-drop, length-append}
use Rattle.mem_files.specs.Name.{Name, Bytes}
use Rattle.mem_files.specs.Files.{FileMap}
use Rattle.user_calls.specs.declared.calls.Call.{Call}
use Rattle.user_calls.specs.declared.calls.Call.TheVariants.{Fork, Exec, Exit, Wait, MakePipe, Read, Write, OpenFile, Close, Dup}
use Rattle.user_calls.specs.declared.calls.Reply.{Reply}
use Rattle.user_calls.specs.declared.calls.Reply.TheVariants.{Done, Bytes as Bytes', Refused}
use Rattle.user_progs.specs.State.{State}
use Rattle.user_progs.specs.Turn.{Turn, turn, bytes_in}
use Rattle.tree_model.specs.Ahead.{still_uses}
use Rattle.tree_model.specs.Alone.{OwnFile, World, held, can_open, may_write, done_if, Takes, May, after_call}
use Rattle.tree_model.specs.Calls.{MayCall}
use Rattle.tree_model.specs.Exits.{bytes_told, calls_left, width}
use Rattle.tree_model.specs.FilesAhead.{sizes, files_ahead, from_files}
use Rattle.law_trees.proofs.programs.Exiting.{Goes, some_left, turn_goes}
use Rattle.law_trees.proofs.programs.FileReading.{refused_ahead, call_ahead}
use Rattle.law_trees.proofs.programs.Shrinking.{uses_shrink}
use Rattle.tree_model.specs.Residual.{Running, world_of, alone, Residual, running}
use Rattle.tree_model.specs.Answers.{Kind, leaves, reads_input, writes_output, asks, kind_of, open_reply, reply_of, resumed, replied, files_after, answer}
use Rattle.tree_model.specs.Tidy.{IsTidy}
use Rattle.law_trees.proofs.trees.Acting.{waits_over, run_calls}
use Rattle.law_trees.proofs.trees.Calls.{is_read, is_write, may_reply}
use Rattle.tree_model.specs.ProgramBytes.{call_bytes, later_bytes}
use Rattle.tree_model.specs.Bound.{input_ahead, reads_ahead, calls_after, calls_ahead, run_steps, bytes_left, steps_left}
use Rattle.law_trees.proofs.tree_ends.Growing.{call_grows}
use Rattle.law_trees.proofs.tree_ends.TurnBytes.{turn_pays}

-- what a step makes of the numbers, over n bytes of input: where it took so many of these, and put so many to the output
pub record Falls (X : Residual) (F : FileMap) (n took wrote : ℕ) (X' : Residual) (G : FileMap) : Type 0 where
  pub bytes : bytes_left X' (n - took) (sizes G) + wrote ≤ bytes_left X n (sizes F)
  pub grow : (f : Name) → sizes G f + bytes_left X' (n - took) (sizes G) ≤ sizes F f + bytes_left X n (sizes F)
  pub steps : suc (steps_left X' (n - took) (sizes G)) ≤ steps_left X n (sizes F)

after_few : (kind : Kind) (c : ℕ) → calls_after kind c ≤ c
after_few leaves c = omega arith
after_few (reads_input most) c = omega arith
after_few (writes_output bytes) c = omega arith
after_few asks c = omega arith

after_all : (kind : Kind) (c : ℕ) → (kind ≡ leaves → ⊥) → calls_after kind c ≡ c
after_all leaves c stays = absurd (stays refl)
after_all (reads_input most) c stays = refl
after_all (writes_output bytes) c stays = refl
after_all asks c stays = refl

-- the call is answered, and the program makes its next call
pub turn_falls : (run : Running) (F G : FileMap) (n took wrote : ℕ) (reply : Reply) (after : List OwnFile) → (kind_of run.turn.call ≡ leaves → ⊥) →
    reads_ahead (turn run.turn.next reply).next after (n - took) (sizes G) + bytes_told (bytes_in reply) ≤ reads_ahead run.turn.next run.own n (sizes F) →
    wrote ≤ call_bytes run.turn.call run.put →
    ((f : Name) → sizes G f ≤ sizes F f + call_bytes run.turn.call run.put) →
    Falls (running run) F n took wrote (running (record { turn = turn run.turn.next reply; own = after; put = 0 })) G
turn_falls run F G n took wrote reply after stays less put grow =
    record { bytes = omega (arith, pays, put); grow = λ f. let g = grow f in omega (arith, pays, g); steps = go (turn_goes (width s) s reply (omega arith)) }
  where
    s : State
    s = run.turn.next

    t : Turn
    t = turn s reply

    k : ℕ
    k = bytes_told (bytes_in reply)

    r : ℕ
    r = reads_ahead s run.own n (sizes F)

    r' : ℕ
    r' = reads_ahead t.next after (n - took) (sizes G)

    pays : call_bytes t.call 0 + later_bytes t.next r' ≤ later_bytes s r
    pays = turn_pays s reply r r' less

    all : calls_after (kind_of run.turn.call) (calls_ahead s r) ≡ calls_ahead s r
    all = after_all (kind_of run.turn.call) (calls_ahead s r) stays

    go : Goes (width s) (calls_left s + k * width s) t → suc (run_steps (record { turn = t; own = after; put = 0 }) (n - took) (sizes G)) ≤ run_steps run n (sizes F)
    go (inl exits) =
        let none : calls_after (kind_of t.call) (calls_ahead t.next r') ≡ 0 = ap (λ c. calls_after (kind_of c) (calls_ahead t.next r')) exits in
        omega (arith, none, all, pays, some_left s)
    go (inr (fewer, narrow)) =
        let narrower : r' * width t.next ≤ r' * width s = mul-le-mul_left r' narrow in
        let paid : (r' + k) * width s ≤ r * width s = mul-le-mul_right (width s) less in
        omega (arith, fewer, narrower, paid, add-mul r' k (width s), all, pays, after_few (kind_of t.call) (calls_ahead t.next r'))

-- what is still read of the input
input_kept : (state : State) (reply : Reply) (n : ℕ) → input_ahead (still_uses (turn state reply).next) n ≤ input_ahead (still_uses state) n
input_kept state reply n = go (still_uses state) (still_uses (turn state reply).next) (λ e. uses_shrink state reply e)
  where
    go : (a b : Bool) → (a ≡ false → b ≡ false) → input_ahead b n ≤ input_ahead a n
    go true true h = omega arith
    go true false h = omega arith
    go false true h = let never : true ≡ false = h refl in cc
    go false false h = omega arith

-- a call that the files answer reads no bytes but those of a file
told_of_files : (call : Call) (world : World) → kind_of call ≡ asks → bytes_told (bytes_in (reply_of call world)) ≡ from_files call (reply_of call world)
told_of_files Fork world e = refl
told_of_files (Exec is_known) world e = refl
told_of_files Exit world e = refl
told_of_files Wait world e = refl
told_of_files MakePipe world e = refl
told_of_files (Read zero most) world e = cc
told_of_files (Read (suc fd) most) world e = refl
told_of_files (Write fd bytes) world e = go (may_write fd world)
  where
    go : (b : Bool) → bytes_told (bytes_in (done_if b)) ≡ 0
    go true = refl
    go false = refl
told_of_files (OpenFile name mode) world e = go (can_open name mode world.files)
  where
    go : (o : Option Bytes) → bytes_told (bytes_in (open_reply o world.own)) ≡ 0
    go None = refl
    go (Some bytes) = refl
told_of_files (Close fd) world e = go (is_some (held world.own fd))
  where
    go : (b : Bool) → bytes_told (bytes_in (done_if b)) ≡ 0
    go true = refl
    go false = refl
told_of_files (Dup fd) world e = refl

module _ (run : Running) (F : FileMap) (n : ℕ) (tidy : IsTidy (running run) F) where
  not_leaves : {kind : Kind} → kind_of run.turn.call ≡ kind → (kind ≡ leaves → ⊥) → kind_of run.turn.call ≡ leaves → ⊥
  not_leaves is other e = other (sym is ∙ e)

  -- the files answer
  pub asks_falls : kind_of run.turn.call ≡ asks → Falls (running run) F n 0 0 (running (replied run (answer run F) F)) (files_after run (answer run F) F)
  asks_falls is =
      let reply = answer run F in
      let world = alone run F in
      let may = may_reply run.turn.call run.turn.next world (run_calls run [] F tidy) is in
      let a = call_ahead run.turn.next run.turn.call reply world tidy.0 may in
      let i = input_kept run.turn.next reply n in
      let whole : n - 0 ≡ n = omega arith in
      turn_falls run F (files_after run reply F) n 0 0 reply (replied run reply F).own (not_leaves is (λ e. cc))
      (omega (arith, a, i, told_of_files run.turn.call world is, ap (λ m. input_ahead (still_uses (turn run.turn.next reply).next) m) whole)) (omega arith) (λ f. call_grows run.turn.call run.put reply world f)

  -- a read of the input
  pub read_falls : (most : ℕ) (bytes : Bytes) → kind_of run.turn.call ≡ reads_input most → length bytes ≤ most → length bytes ≤ n → Falls (running run) F n (length bytes) 0 (running (resumed run (Bytes' bytes))) F
  read_falls most bytes is few room =
      let call = is_read run.turn.call most is in
      let world = world_of run bytes F in
      let takes : Takes most bytes bytes = record { more = []; prefix = sym (append-nil bytes); few = few; some = λ e. e } in
      let may = subst (λ c. May c (Bytes' bytes) world) (sym call) (bytes, refl, takes) in
      let a = call_ahead run.turn.next run.turn.call (Bytes' bytes) world (waits_over run bytes F tidy) may in
      let c : from_files run.turn.call (Bytes' bytes) + files_ahead (turn run.turn.next (Bytes' bytes)).next (after_call run.turn.call (Bytes' bytes) world).own (sizes (after_call run.turn.call (Bytes' bytes) world).files) ≡ 0 + files_ahead (turn run.turn.next (Bytes' bytes)).next run.own (sizes F) =
      (λ t. from_files (call t) (Bytes' bytes) + files_ahead (turn run.turn.next (Bytes' bytes)).next (after_call (call t) (Bytes' bytes) world).own (sizes (after_call (call t) (Bytes' bytes) world).files)) in
      let may_call : MayCall (Read 0 most) run.turn.next (alone run F) = subst (λ c. MayCall c run.turn.next (alone run F)) call (run_calls run [] F tidy) in
      let u = ap (λ x. input_ahead x n) may_call.2 in
      let i = input_less (still_uses (turn run.turn.next (Bytes' bytes)).next) (n - length bytes) in
      turn_falls run F F n (length bytes) 0 (Bytes' bytes) run.own (not_leaves is (λ e. cc)) (omega (arith, a, c, u, i, room)) (omega arith) (λ f. omega arith)
    where
      input_less : (uses : Bool) (m : ℕ) → input_ahead uses m ≤ m
      input_less true m = omega arith
      input_less false m = omega arith

  -- a write that is done, or refused
  pub write_falls : (bytes : Bytes) → kind_of run.turn.call ≡ writes_output bytes → Falls (running run) F n 0 (length (drop run.put bytes)) (running (resumed run Done)) F
  write_falls bytes is =
      let call = is_write run.turn.call bytes is in
      let world = alone run F in
      let may = subst (λ c. May c Done world) (sym call) refl in
      let a = call_ahead run.turn.next run.turn.call Done world tidy.0 may in
      let c : from_files run.turn.call Done + files_ahead (turn run.turn.next Done).next (after_call run.turn.call Done world).own (sizes (after_call run.turn.call Done world).files) ≡ 0 + files_ahead (turn run.turn.next Done).next run.own (sizes F) =
      (λ t. from_files (call t) Done + files_ahead (turn run.turn.next Done).next (after_call (call t) Done world).own (sizes (after_call (call t) Done world).files)) in
      let i = input_kept run.turn.next Done n in
      let whole : n - 0 ≡ n = omega arith in
      turn_falls run F F n 0 (length (drop run.put bytes)) Done run.own (not_leaves is (λ e. cc))
      (omega (arith, a, c, i, ap (λ m. input_ahead (still_uses (turn run.turn.next Done).next) m) whole)) (omega (arith, ap (λ c. call_bytes c run.put) call)) (λ f. omega arith)

  pub refused_falls : (bytes : Bytes) → kind_of run.turn.call ≡ writes_output bytes → Falls (running run) F n 0 0 (running (resumed run Refused)) F
  refused_falls bytes is =
      let a = refused_ahead run.turn.next run.own (sizes F) in
      let i = input_kept run.turn.next Refused n in
      let whole : n - 0 ≡ n = omega arith in
      turn_falls run F F n 0 0 Refused run.own (not_leaves is (λ e. cc)) (omega (arith, a, i, ap (λ m. input_ahead (still_uses (turn run.turn.next Refused).next) m) whole)) (omega arith) (λ f. omega arith)

  -- a write that is put in part
  pub part_falls : (bytes now later : Bytes) → kind_of run.turn.call ≡ writes_output bytes → drop run.put bytes ≡ now ++ later → 1 ≤ length now → Falls (running run) F n 0 (length now) (running (record run { put = run.put + length now })) F
  part_falls bytes now later is cut some =
      let call = is_write run.turn.call bytes is in
      let before = ap (λ c. call_bytes c run.put) call in
      let on = ap (λ c. call_bytes c (run.put + length now)) call in
      let size = ap length cut in
      let whole : n - 0 ≡ n = omega arith in
      let same = ap (λ m. reads_ahead run.turn.next run.own m (sizes F)) whole in
      let later_same = ap (λ r. later_bytes run.turn.next r) same in
      let calls_same = ap (λ r. calls_after (kind_of run.turn.call) (calls_ahead run.turn.next r)) same in
      let less : call_bytes run.turn.call (run.put + length now) + length now ≤ call_bytes run.turn.call run.put =
      omega (arith, before, on, size, length-append now later, length-drop run.put bytes, length-drop (run.put + length now) bytes) in
      record { bytes = omega (arith, less, later_same); grow = λ f. omega (arith, less, later_same); steps = omega (arith, less, later_same, calls_same, some) }
