-- A program's call depends on no other files than those that the program depends on.
use Rattle.std.proofs.Common.{◌≡◌, ◌∙◌, ℕ, zero, suc, Bool, true, false, List, [], ◌∷◌, take, drop, Option, Some, None, refl, sym, ap, subst, ◌&&◌, length}
use Rattle.std.specs.Prelude.{not, nat_le, if◌then◌else◌}
use Rattle.std.specs.Str.{bytes_eq}
use Rattle.std.proofs.lemmas.Bool.{or_left}
use Rattle.mem_files.specs.Name.{Name, Bytes, is_openable}
use Rattle.mem_files.specs.Files.{FileMap, bytes_of}
use Rattle.mem_files.specs.Overlay.{written}
use Rattle.user_calls.specs.declared.calls.Mode.{Mode}
use Rattle.user_calls.specs.declared.calls.Mode.TheVariants.{Input, Fresh, Over, Append}
use Rattle.user_calls.specs.declared.calls.Call.{Call}
use Rattle.user_calls.specs.declared.calls.Call.TheVariants.{Fork, Exec, Exit, Wait, MakePipe, Read, Write, OpenFile, Close, Dup}
use Rattle.user_calls.specs.declared.calls.Reply.{Reply}
use Rattle.meaning_model.specs.Inputs.{found}
use Rattle.user_progs.specs.State.{State}
use Rattle.user_progs.specs.Turn.{Answer, yields, denies, strays, bytes_in, fd_in, done_in, turn}
use Rattle.tree_model.specs.Ahead.{still_opens}
use Rattle.tree_model.specs.Alone.{OwnFile, World, is_to_read, held, left_of_file, is_writable, can_open, after_call, after_read, after_write, after_file_write, after_open, after_close, opened_files, done_if}
use Rattle.tree_model.specs.Calls.{IsOwn, MayCall}
use Rattle.tree_model.specs.Frame.{holds, depends_on, may_change}
use Rattle.law_trees.proofs.programs.Elsewhere.{depends_first}
use Rattle.law_trees.proofs.programs.Keeps.{open_changes_nothing}
use Rattle.tree_model.specs.Residual.{Running, alone}
use Rattle.tree_model.specs.Answers.{Kind, leaves, reads_input, writes_output, asks, kind_of, read_reply, open_reply, reply_of, replied, files_after, answer}
use Rattle.tree_model.specs.Step.{read_input, put_some, write_output, act, acts}
use Rattle.law_trees.proofs.trees.Bools.{back}
use Rattle.law_trees.proofs.trees.Calls.{over}
use Rattle.law_trees.proofs.trees.Effects.{own_named}
use Rattle.law_trees.proofs.trees.Values.{Agree, AlikeMove}

-- what a call makes of own files and of files, where these agree on some names
pub record AfterSame (N : Name → Type 0) (a b : World) : Type 0 where
  pub own : a.own ≡ b.own
  pub files : Agree N a.files b.files

-- files that agree on names among which are those that the program depends on
module _ (N : Name → Type 0) (state : State) (own : List OwnFile) (F G : FileMap) (sub : (n : Name) → depends_on state (over own [] F) n ≡ true → N n) (h : Agree N F G) where
  read_named : (fd : ℕ) → IsOwn fd true (depends_on state (over own [] F)) (over own [] F) → (o : OwnFile) → held own fd ≡ Some o → F o.name ≡ G o.name
  read_named fd is o e = h.at o.name (sub o.name (own_named fd true (depends_on state (over own [] F)) (over own [] F) is o e))

  write_named : (fd : ℕ) → IsOwn fd false (may_change state (over own [] F)) (over own [] F) → (o : OwnFile) → held own fd ≡ Some o → F o.name ≡ G o.name
  write_named fd is o e =
      h.at o.name
      (sub o.name (back (may_change state (over own [] F) o.name) (depends_on state (over own [] F) o.name) (depends_first state (over own [] F) o.name) (own_named fd false (may_change state (over own [] F)) (over own [] F) is o e)))

  left_same : (o : Option OwnFile) → ((f : OwnFile) → o ≡ Some f → F f.name ≡ G f.name) → left_of_file o F ≡ left_of_file o G
  left_same None same = refl
  left_same (Some f) same = λ t. if is_to_read f.mode then Some (drop f.at (bytes_of (same f refl t))) else None

  writable_same : (o : Option OwnFile) → ((f : OwnFile) → o ≡ Some f → F f.name ≡ G f.name) → is_writable o F ≡ is_writable o G
  writable_same None same = refl
  writable_same (Some f) same = λ t. not (is_to_read f.mode) && nat_le f.at (length (bytes_of (same f refl t)))

  found_same : (name : Name) → (is_openable name ≡ true → still_opens state name ≡ true) → found F name ≡ found G name
  found_same name opens = go (is_openable name) (λ e. h.at name (sub name (or_left (still_opens state name) (holds state (over own [] F) name) (opens e))))
    where
      go : (b : Bool) → (b ≡ true → F name ≡ G name) → (if b then F name else None) ≡ (if b then G name else None)
      go true e = e refl
      go false e = refl

  reply_same : (call : Call) → MayCall call state (over own [] F) → reply_of call (over own [] F) ≡ reply_of call (over own [] G)
  reply_same Fork may = refl
  reply_same (Exec is_known) may = refl
  reply_same Exit may = refl
  reply_same Wait may = refl
  reply_same MakePipe may = refl
  reply_same (Read zero most) may = refl
  reply_same (Read (suc fd) most) may = ap (read_reply most) (left_same (held own (suc fd)) (read_named (suc fd) may.2))
  reply_same (Write zero bytes) may = refl
  reply_same (Write (suc zero) bytes) may = refl
  reply_same (Write (suc (suc zero)) bytes) may = refl
  reply_same (Write (suc (suc (suc fd))) bytes) may = ap done_if (writable_same (held own (suc (suc (suc fd)))) (write_named (suc (suc (suc fd))) may))
  reply_same (OpenFile name Input) may = ap (λ o. open_reply o own) (found_same name may)
  reply_same (OpenFile name Fresh) may = refl
  reply_same (OpenFile name Over) may = absurd may
  reply_same (OpenFile name Append) may = refl
  reply_same (Close fd) may = refl
  reply_same (Dup fd) may = refl

  file_same : (o : Option OwnFile) (bytes : Bytes) → ((f : OwnFile) → o ≡ Some f → F f.name ≡ G f.name) → AfterSame N (after_file_write o bytes (over own [] F)) (after_file_write o bytes (over own [] G))
  file_same None bytes same = record { own = refl; files = h }
  file_same (Some f) bytes same = record { own = refl; files = record { at = λ n e t. if bytes_eq n f.name then Some (written (bytes_of (same f refl t)) f.at bytes) else h.at n e t } }

  write_same : (fd : ℕ) (bytes : Bytes) (answer : Answer (Unit {0})) → MayCall (Write fd bytes) state (over own [] F) → AfterSame N (after_write fd bytes answer (over own [] F)) (after_write fd bytes answer (over own [] G))
  write_same zero bytes (yields done) may = record { own = refl; files = h }
  write_same (suc zero) bytes (yields done) may = record { own = refl; files = h }
  write_same (suc (suc zero)) bytes (yields done) may = record { own = refl; files = h }
  write_same (suc (suc (suc fd))) bytes (yields done) may = file_same (held own (suc (suc (suc fd)))) bytes (write_named (suc (suc (suc fd))) may)
  write_same fd bytes denies may = record { own = refl; files = h }
  write_same fd bytes strays may = record { own = refl; files = h }

  open_same : (name : Name) (mode : Mode) (answer : Answer ℕ) → Agree N (opened_files (can_open name mode F) name mode F) (opened_files (can_open name mode G) name mode G) → AfterSame N (after_open name mode answer (over own [] F)) (after_open name mode answer (over own [] G))
  open_same name mode (yields fd) made = record { own = refl; files = made }
  open_same name mode denies made = record { own = refl; files = h }
  open_same name mode strays made = record { own = refl; files = h }

  fresh_same : (name : Name) (b : Bool) → Agree N (opened_files (if b then Some [] else None) name Fresh F) (opened_files (if b then Some [] else None) name Fresh G)
  fresh_same name false = h
  fresh_same name true = record { at = λ n e t. if bytes_eq n name then Some [] else h.at n e t }

  after_same : (call : Call) (reply : Reply) → MayCall call state (over own [] F) → AfterSame N (after_call call reply (over own [] F)) (after_call call reply (over own [] G))
  after_same Fork reply may = record { own = refl; files = h }
  after_same (Exec is_known) reply may = record { own = refl; files = h }
  after_same Exit reply may = record { own = refl; files = h }
  after_same Wait reply may = record { own = refl; files = h }
  after_same MakePipe reply may = record { own = refl; files = h }
  after_same (Read fd most) reply may = go fd (bytes_in reply)
    where
      go : (fd : ℕ) (answer : Answer Bytes) → AfterSame N (after_read fd answer (over own [] F)) (after_read fd answer (over own [] G))
      go zero (yields bytes) = record { own = refl; files = h }
      go (suc fd) (yields bytes) = record { own = refl; files = h }
      go fd denies = record { own = refl; files = h }
      go fd strays = record { own = refl; files = h }
  after_same (Write fd bytes) reply may = write_same fd bytes (done_in reply) may
  after_same (OpenFile name Input) reply may =
      open_same name Input (fd_in reply)
      (record { at = λ n e. ap (λ H. H n) (open_changes_nothing (can_open name Input F) name F) ∙ h.at n e ∙ sym (ap (λ H. H n) (open_changes_nothing (can_open name Input G) name G)) })
  after_same (OpenFile name Fresh) reply may = open_same name Fresh (fd_in reply) (fresh_same name (is_openable name))
  after_same (OpenFile name Over) reply may = absurd may
  after_same (OpenFile name Append) reply may = absurd may
  after_same (Close fd) reply may = go (done_in reply)
    where
      go : (answer : Answer (Unit {0})) → AfterSame N (after_close fd answer (over own [] F)) (after_close fd answer (over own [] G))
      go (yields done) = record { own = refl; files = h }
      go denies = record { own = refl; files = h }
      go strays = record { own = refl; files = h }
  after_same (Dup fd) reply may = record { own = refl; files = h }

pub asks_frame : (N : Name → Type 0) (run : Running) (i : Bytes) (F G : FileMap) → MayCall run.turn.call run.turn.next (alone run F) → ((n : Name) → depends_on run.turn.next (alone run F) n ≡ true → N n) → Agree N F G → (count : ℕ) (cl en : Bool) →
    AlikeMove N (act asks run count cl en i F) (act asks run count cl en i G)
asks_frame N run i F G may sub h count cl en =
    let e : answer run F ≡ answer run G = reply_same N run.turn.next run.own F G sub h run.turn.call may in
    let a = after_same N run.turn.next run.own F G sub h run.turn.call (answer run F) may in
    subst (λ r. AlikeMove N (act asks run count cl en i F) (record { wrote = []; refused = false; took = 0; next = Some (replied run r G); files = files_after run r G })) e
    (record { wrote = refl; refused = refl; took = refl; next = λ t. Some (record { turn = turn run.turn.next (answer run F); own = a.own t; put = 0 }); files = a.files })

pub act_frame : (N : Name → Type 0) (run : Running) (count : ℕ) (cl en : Bool) (i : Bytes) (F G : FileMap) → MayCall run.turn.call run.turn.next (alone run F) → ((n : Name) → depends_on run.turn.next (alone run F) n ≡ true → N n) → Agree N F G →
    AlikeMove N (acts run count cl en i F) (acts run count cl en i G)
act_frame N run count cl en i F G may sub h = go (kind_of run.turn.call)
  where
    at_read : (most : ℕ) (input : Bytes) (en : Bool) → AlikeMove N (read_input most run count en input F) (read_input most run count en input G)
    at_read most [] true = record { wrote = refl; refused = refl; took = refl; next = refl; files = h }
    at_read most [] false = record { wrote = refl; refused = refl; took = refl; next = refl; files = h }
    at_read most (byte ∷ input) en = record { wrote = refl; refused = refl; took = refl; next = refl; files = h }

    at_put : (now later : Bytes) → AlikeMove N (put_some run now later F) (put_some run now later G)
    at_put now [] = record { wrote = refl; refused = refl; took = refl; next = refl; files = h }
    at_put now (byte ∷ later) = record { wrote = refl; refused = refl; took = refl; next = refl; files = h }

    at_write : (left : Bytes) (count : ℕ) (cl : Bool) → AlikeMove N (write_output run left count cl F) (write_output run left count cl G)
    at_write [] count cl = record { wrote = refl; refused = refl; took = refl; next = refl; files = h }
    at_write (byte ∷ left) zero true = record { wrote = refl; refused = refl; took = refl; next = refl; files = h }
    at_write (byte ∷ left) zero false = record { wrote = refl; refused = refl; took = refl; next = refl; files = h }
    at_write (byte ∷ left) (suc count) cl = at_put (byte ∷ take count left) (drop count left)

    go : (kind : Kind) → AlikeMove N (act kind run count cl en i F) (act kind run count cl en i G)
    go leaves = record { wrote = refl; refused = refl; took = refl; next = refl; files = h }
    go (reads_input most) = at_read most i en
    go (writes_output bytes) = at_write (drop run.put bytes) count cl
    go asks = asks_frame N run i F G may sub h count cl en
