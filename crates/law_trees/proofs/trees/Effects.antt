-- A program's call depends on the files that it depends on, changes those that it may change, and reads no input that it
-- doesn't use.
use Rattle.std.proofs.Common.{◌≡◌, ◌∙◌, ℕ, zero, suc, Bool, true, false, [], ◌∷◌, take, drop, Option, Some, None, refl, sym, ap, subst}
use Rattle.std.specs.Prelude.{if◌then◌else◌}
use Rattle.std.specs.Str.{bytes_eq}
use Rattle.std.proofs.lemmas.Slice.Eq.{bytes_eq-Decides}
use Rattle.std.proofs.lemmas.Bool.{false_from_ne_true, cond-false}
use Rattle.mem_files.specs.Name.{Name, Bytes, is_openable}
use Rattle.mem_files.specs.Files.{FileMap, bytes_of}
use Rattle.mem_files.specs.Overlay.{written}
use Rattle.prog_parts.specs.NameSets.{Names}
use Rattle.prog_parts.specs.Program.{is_empty}
use Rattle.user_calls.specs.declared.calls.Mode.{Mode}
use Rattle.user_calls.specs.declared.calls.Mode.TheVariants.{Input, Fresh, Over, Append}
use Rattle.user_calls.specs.declared.calls.Call.{Call}
use Rattle.user_calls.specs.declared.calls.Call.TheVariants.{Fork, Exec, Exit, Wait, MakePipe, Read, Write, OpenFile, Close, Dup}
use Rattle.user_calls.specs.declared.calls.Reply.{Reply}
use Rattle.user_progs.specs.State.{State}
use Rattle.user_progs.specs.Turn.{Answer, yields, denies, strays, bytes_in, fd_in, done_in}
use Rattle.tree_model.specs.Ahead.{still_writes, still_uses}
use Rattle.tree_model.specs.Alone.{OwnFile, World, held, can_open, after_call, after_read, after_write, after_file_write, after_open, after_close, opened_files}
use Rattle.tree_model.specs.Calls.{IsOwn, MayCall}
use Rattle.tree_model.specs.Frame.{holds_to_write, may_change}
use Rattle.law_trees.proofs.programs.Keeps.{open_changes_nothing}
use Rattle.tree_model.specs.Residual.{Running, alone}
use Rattle.tree_model.specs.Answers.{Kind, leaves, reads_input, writes_output, asks, kind_of, answer}
use Rattle.tree_model.specs.Step.{read_input, put_some, write_output, act, acts}
use Rattle.law_trees.proofs.trees.Bools.{not_both}
use Rattle.law_trees.proofs.trees.Calls.{is_read, is_write}
use Rattle.meaning_model.proofs.Bools.{not_left}

other_name : (n name : Name) (P : Names) → P name ≡ true → P n ≡ false → bytes_eq n name ≡ false
other_name n name P e none = false_from_ne_true (bytes_eq n name) (λ g. not_both (P name) e (subst (λ x. P x ≡ false) ((bytes_eq-Decides n name).0 g) none))

-- the names of the file that is open at a descriptor
abbrev pub IsNamed : Option OwnFile → Names → Type 0
IsNamed h names = (o : OwnFile) → h ≡ Some o → names o.name ≡ true

pub own_named : (fd : ℕ) (reads : Bool) (names : Names) (world : World) → IsOwn fd reads names world → IsNamed (held world.own fd) names
own_named fd reads names world own o is = let same : own.own ≡ o = inj (sym own.held ∙ is) in subst (λ (x : OwnFile). names x.name ≡ true) same own.named
  where
    inj : {x y : OwnFile} → Some x ≡ Some y → x ≡ y
    inj e = cc

-- only what may be changed is
only_file : (h : Option OwnFile) (bytes : Bytes) (world : World) (names : Names) (n : Name) → IsNamed h names → names n ≡ false → (after_file_write h bytes world).files n ≡ world.files n
only_file None bytes world names n named none = refl
only_file (Some o) bytes world names n named none = cond-false (bytes_eq n o.name) (Some (written (bytes_of (world.files o.name)) o.at bytes)) (world.files n) (other_name n o.name names (named o refl) none)

only_own : (fd : ℕ) (bytes : Bytes) (answer : Answer (Unit {0})) (state : State) (world : World) (n : Name) → MayCall (Write fd bytes) state world → may_change state world n ≡ false → (after_write fd bytes answer world).files n ≡ world.files n
only_own zero bytes answer state world n may none = absurd may
only_own (suc zero) bytes (yields done) state world n may none = refl
only_own (suc (suc zero)) bytes (yields done) state world n may none = refl
only_own (suc (suc (suc fd))) bytes (yields done) state world n may none =
    only_file (held world.own (suc (suc (suc fd)))) bytes world (may_change state world) n (own_named (suc (suc (suc fd))) false (may_change state world) world may) none
only_own fd bytes denies state world n may none = refl
only_own fd bytes strays state world n may none = refl

open_fresh : (b : Bool) (name n : Name) (F : FileMap) → (b ≡ true → bytes_eq n name ≡ false) → opened_files (if b then Some [] else None) name Fresh F n ≡ F n
open_fresh false name n F h = refl
open_fresh true name n F h = cond-false (bytes_eq n name) (Some []) (F n) (h refl)

only_open : (name : Name) (mode : Mode) (answer : Answer ℕ) (world : World) (n : Name) → opened_files (can_open name mode world.files) name mode world.files n ≡ world.files n → (after_open name mode answer world).files n ≡ world.files n
only_open name mode (yields fd) world n e = e
only_open name mode denies world n e = refl
only_open name mode strays world n e = refl

pub call_only : (call : Call) (reply : Reply) (state : State) (world : World) (n : Name) → MayCall call state world → may_change state world n ≡ false → (after_call call reply world).files n ≡ world.files n
call_only Fork reply state world n may none = refl
call_only (Exec is_known) reply state world n may none = refl
call_only Exit reply state world n may none = refl
call_only Wait reply state world n may none = refl
call_only MakePipe reply state world n may none = refl
call_only (Read fd most) reply state world n may none = go fd (bytes_in reply)
  where
    go : (fd : ℕ) (answer : Answer Bytes) → (after_read fd answer world).files n ≡ world.files n
    go zero (yields bytes) = refl
    go (suc fd) (yields bytes) = refl
    go fd denies = refl
    go fd strays = refl
call_only (Write fd bytes) reply state world n may none = only_own fd bytes (done_in reply) state world n may none
call_only (OpenFile name Input) reply state world n may none = only_open name Input (fd_in reply) world n (ap (λ G. G n) (open_changes_nothing (can_open name Input world.files) name world.files))
call_only (OpenFile name Fresh) reply state world n may none =
    only_open name Fresh (fd_in reply) world n
    (open_fresh (is_openable name) name n world.files (λ e. other_name n name (still_writes state) (may e) (not_left (still_writes state n) (holds_to_write state world n) none)))
call_only (OpenFile name Over) reply state world n may none = absurd may
call_only (OpenFile name Append) reply state world n may none = absurd may
call_only (Close fd) reply state world n may none = go (done_in reply)
  where
    go : (answer : Answer (Unit {0})) → (after_close fd answer world).files n ≡ world.files n
    go (yields done) = refl
    go denies = refl
    go strays = refl
call_only (Dup fd) reply state world n may none = refl

pub act_only : (run : Running) (count : ℕ) (cl en : Bool) (i : Bytes) (F : FileMap) (n : Name) → MayCall run.turn.call run.turn.next (alone run F) → may_change run.turn.next (alone run F) n ≡ false → (acts run count cl en i F).files n ≡ F n
act_only run count cl en i F n may none = go (kind_of run.turn.call)
  where
    at_read : (most : ℕ) (input : Bytes) (en : Bool) → (read_input most run count en input F).files n ≡ F n
    at_read most [] true = refl
    at_read most [] false = refl
    at_read most (byte ∷ input) en = refl

    at_put : (now later : Bytes) → (put_some run now later F).files n ≡ F n
    at_put now [] = refl
    at_put now (byte ∷ later) = refl

    at_write : (left : Bytes) (count : ℕ) (cl : Bool) → (write_output run left count cl F).files n ≡ F n
    at_write [] count cl = refl
    at_write (byte ∷ left) zero true = refl
    at_write (byte ∷ left) zero false = refl
    at_write (byte ∷ left) (suc count) cl = at_put (byte ∷ take count left) (drop count left)

    go : (kind : Kind) → (act kind run count cl en i F).files n ≡ F n
    go leaves = refl
    go (reads_input most) = at_read most i en
    go (writes_output bytes) = at_write (drop run.put bytes) count cl
    go asks = call_only run.turn.call (answer run F) run.turn.next (alone run F) n may none

-- it takes none of an input that it doesn't use
pub act_unused : (run : Running) (count : ℕ) (cl en : Bool) (i : Bytes) (F : FileMap) → MayCall run.turn.call run.turn.next (alone run F) → still_uses run.turn.next ≡ false → (acts run count cl en i F).took ≡ 0
act_unused run count cl en i F may none = go (kind_of run.turn.call) refl
  where
    at_put : (now later : Bytes) → (put_some run now later F).took ≡ 0
    at_put now [] = refl
    at_put now (byte ∷ later) = refl

    at_write : (left : Bytes) (count : ℕ) (cl : Bool) → (write_output run left count cl F).took ≡ 0
    at_write [] count cl = refl
    at_write (byte ∷ left) zero true = refl
    at_write (byte ∷ left) zero false = refl
    at_write (byte ∷ left) (suc count) cl = at_put (byte ∷ take count left) (drop count left)

    go : (kind : Kind) → kind_of run.turn.call ≡ kind → (act kind run count cl en i F).took ≡ 0
    go leaves e = refl
    go (reads_input most) e =
        let m : MayCall (Read 0 most) run.turn.next (alone run F) = subst (λ c. MayCall c run.turn.next (alone run F)) (is_read run.turn.call most e) may in
        not_both (still_uses run.turn.next) m.2 none
    go (writes_output bytes) e = at_write (drop run.put bytes) count cl
    go asks e = refl

-- a write is refused only where no process reads it, and where bytes of it are left
pub record Lost (run : Running) (cl : Bool) : Type 0 where
  pub closed : cl ≡ true
  pub bytes : Bytes
  pub is : run.turn.call ≡ Write 1 bytes
  pub some : is_empty (drop run.put bytes) ≡ false

pub act_lost : (run : Running) (count : ℕ) (cl en : Bool) (i : Bytes) (F : FileMap) → (acts run count cl en i F).refused ≡ true → Lost run cl
act_lost run count cl en i F e = go (kind_of run.turn.call) refl e
  where
    at_read : {A : Type 0} (most : ℕ) (input : Bytes) (en : Bool) → (read_input most run count en input F).refused ≡ true → A
    at_read most [] true e = cc
    at_read most [] false e = cc
    at_read most (byte ∷ input) en e = cc

    at_put : {A : Type 0} (now later : Bytes) → (put_some run now later F).refused ≡ true → A
    at_put now [] e = cc
    at_put now (byte ∷ later) e = cc

    at_write : (left : Bytes) (count : ℕ) (cl : Bool) → (write_output run left count cl F).refused ≡ true → (cl ≡ true) × (is_empty left ≡ false)
    at_write [] count cl e = cc
    at_write (byte ∷ left) zero true e = (refl, refl)
    at_write (byte ∷ left) zero false e = cc
    at_write (byte ∷ left) (suc count) cl e = at_put (byte ∷ take count left) (drop count left) e

    go : (kind : Kind) → kind_of run.turn.call ≡ kind → (act kind run count cl en i F).refused ≡ true → Lost run cl
    go leaves is e = cc
    go (reads_input most) is e = at_read most i en e
    go (writes_output bytes) is e =
        let h = at_write (drop run.put bytes) count cl e in
        record { closed = h.0; bytes = bytes; is = is_write run.turn.call bytes is; some = h.1 }
    go asks is e = cc
