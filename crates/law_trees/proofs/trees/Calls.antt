-- What the files answer to a call is what a program alone may be answered; it doesn't depend on the input, and leaves it.
use Rattle.std.proofs.Common.{◌≡◌, ◌∙◌, ℕ, zero, suc, ◌+◌, ◌≤◌, Bool, true, false, List, [], ◌∷◌, ◌++◌, take, drop, Option, Some, None, refl, sym, ap, subst, arith, take-append-drop, append_assoc}
use Rattle.std.specs.Prelude.{◌-◌, ◌==◌, min, if◌then◌else◌}
use Rattle.std.specs.Option.{is_some}
use Rattle.std.proofs.lemmas.Bool.{eqb-true}
use Rattle.std.proofs.lemmas.List.{length-take}
use Rattle.mem_files.specs.Name.{Bytes}
use Rattle.mem_files.specs.Files.{FileMap}
use Rattle.user_calls.specs.declared.calls.Call.{Call}
use Rattle.user_calls.specs.declared.calls.Call.TheVariants.{Fork, Exec, Exit, Wait, MakePipe, Read, Write, OpenFile, Close, Dup}
use Rattle.user_calls.specs.declared.calls.Reply.{Reply}
use Rattle.user_calls.specs.declared.calls.Reply.TheVariants.{Done, Bytes as Bytes'}
use Rattle.user_progs.specs.State.{State}
use Rattle.user_progs.specs.Turn.{Answer, yields, denies, strays, bytes_in, fd_in, done_in, turn}
use Rattle.tree_model.specs.Alone.{OwnFile, World, held, readable, Takes, IsNew, can_open, MayOpen, MayRead, May, after_call, after_read, after_write, after_file_write, after_open, after_close}
use Rattle.tree_model.specs.Calls.{MayCall}
use Rattle.tree_model.specs.Residual.{Running, alone}
use Rattle.tree_model.specs.Answers.{Kind, leaves, reads_input, writes_output, asks, kind_of, all_fds, lowest, new_fd, read_reply, open_reply, reply_of, resumed, replied}

abbrev pub over : List OwnFile → Bytes → FileMap → World
over own input F = record { own = own; input = input; files = F }

-- which call is of which kind
abbrev IsOfKind : Call → Kind → Type 0
IsOfKind call leaves = call ≡ Exit
IsOfKind call (reads_input most) = call ≡ Read 0 most
IsOfKind call (writes_output bytes) = call ≡ Write 1 bytes
IsOfKind call asks = Unit {0}

is_of_kind : (call : Call) → IsOfKind call (kind_of call)
is_of_kind Fork = tt
is_of_kind (Exec is_known) = tt
is_of_kind Exit = refl
is_of_kind Wait = tt
is_of_kind MakePipe = tt
is_of_kind (Read zero most) = refl
is_of_kind (Read (suc fd) most) = tt
is_of_kind (Write zero bytes) = tt
is_of_kind (Write (suc zero) bytes) = refl
is_of_kind (Write (suc (suc fd)) bytes) = tt
is_of_kind (OpenFile name mode) = tt
is_of_kind (Close fd) = tt
is_of_kind (Dup fd) = tt

pub is_exit : (call : Call) → kind_of call ≡ leaves → call ≡ Exit
is_exit call e = subst (IsOfKind call) e (is_of_kind call)

pub is_read : (call : Call) (most : ℕ) → kind_of call ≡ reads_input most → call ≡ Read 0 most
is_read call most e = subst (IsOfKind call) e (is_of_kind call)

pub is_write : (call : Call) (bytes : Bytes) → kind_of call ≡ writes_output bytes → call ≡ Write 1 bytes
is_write call bytes e = subst (IsOfKind call) e (is_of_kind call)

-- the new descriptor of an open is above 2, and free
held_none : (h : Option OwnFile) → is_some h ≡ false → h ≡ None
held_none None e = refl
held_none (Some o) e = cc

above : (own : List OwnFile) (fd : ℕ) → 3 + all_fds own ≤ fd → held own fd ≡ None
above [] fd h = refl
above (f ∷ own) fd h = go (f.fd == fd) refl (above own fd (omega (arith, h)))
  where
    go : (b : Bool) → (f.fd == fd) ≡ b → held own fd ≡ None → (if b then Some f else held own fd) ≡ None
    go true e ih = absurd (omega (arith, h, eqb-true f.fd fd e))
    go false e ih = ih

lowest_high : (own : List OwnFile) (more fd : ℕ) → fd ≤ lowest own more fd
lowest_high own zero fd = omega arith
lowest_high own (suc more) fd = go (is_some (held own fd)) (lowest_high own more (suc fd))
  where
    go : (b : Bool) → suc fd ≤ lowest own more (suc fd) → fd ≤ (if b then lowest own more (suc fd) else fd)
    go true ih = omega (arith, ih)
    go false ih = omega arith

lowest_free : (own : List OwnFile) (more fd : ℕ) → ((d : ℕ) → fd + more ≤ d → held own d ≡ None) → held own (lowest own more fd) ≡ None
lowest_free own zero fd h = h fd (omega arith)
lowest_free own (suc more) fd h = go (is_some (held own fd)) refl (lowest_free own more (suc fd) (λ d e. h d (omega (arith, e))))
  where
    go : (b : Bool) → is_some (held own fd) ≡ b → held own (lowest own more (suc fd)) ≡ None → held own (if b then lowest own more (suc fd) else fd) ≡ None
    go true e ih = ih
    go false e ih = held_none (held own fd) e

pub is_new : (world : World) → IsNew (new_fd world.own) world
is_new world = (omega (arith, lowest_high world.own (all_fds world.own) 3), lowest_free world.own (all_fds world.own) 3 (λ d e. above world.own d e))

-- a read takes a prefix, and some byte where there is one
pub takes_some : (most count : ℕ) (byte : ℕ) (i t : Bytes) → 1 ≤ most → Takes most ((byte ∷ i) ++ t) (byte ∷ take (min count (most - 1)) i)
takes_some most count byte i t h = record {
  more = drop (min count (most - 1)) i ++ t;
  prefix = ap (λ z. byte ∷ z) (ap (λ z. z ++ t) (sym (take-append-drop (min count (most - 1)) i)) ∙ append_assoc (take (min count (most - 1)) i) (drop (min count (most - 1)) i) t);
  few = omega (arith, h, length-take (min count (most - 1)) i);
  some = λ e. cc;
}

takes_front : (most : ℕ) (left : Bytes) → 1 ≤ most → Takes most left (take most left)
takes_front most left h = record { more = drop most left; prefix = sym (take-append-drop most left); few = omega (arith, length-take most left); some = go most left h }
  where
    go : (most : ℕ) (left : Bytes) → 1 ≤ most → take most left ≡ [] → left ≡ []
    go zero left h e = absurd (omega (arith, h))
    go (suc most) [] h e = refl
    go (suc most) (byte ∷ left) h e = cc

pub takes_end : (most : ℕ) (t : Bytes) → t ≡ [] → Takes most t []
takes_end most t e = record { more = []; prefix = e; few = omega arith; some = λ h. e }

-- what the files answer may be answered
may_read : (most : ℕ) (left : Option Bytes) → 1 ≤ most → MayRead most left (read_reply most left)
may_read most None h = refl
may_read most (Some left) h = (take most left, refl, takes_front most left h)

may_open : (granted : Option Bytes) (world : World) → MayOpen granted (open_reply granted world.own) world
may_open None world = refl
may_open (Some bytes) world = (new_fd world.own, refl, is_new world)

pub may_reply : (call : Call) (state : State) (world : World) → MayCall call state world → kind_of call ≡ asks → May call (reply_of call world) world
may_reply Fork state world may e = absurd may
may_reply (Exec is_known) state world may e = refl
may_reply Exit state world may e = cc
may_reply Wait state world may e = absurd may
may_reply MakePipe state world may e = absurd may
may_reply (Read zero most) state world may e = cc
may_reply (Read (suc fd) most) state world may e = may_read most (readable (suc fd) world) may.0
may_reply (Write zero bytes) state world may e = absurd may
may_reply (Write (suc zero) bytes) state world may e = cc
may_reply (Write (suc (suc fd)) bytes) state world may e = refl
may_reply (OpenFile name mode) state world may e = may_open (can_open name mode world.files) world
may_reply (Close fd) state world may e = refl
may_reply (Dup fd) state world may e = absurd may

-- whatever the input holds
pub reply_over : (call : Call) (own : List OwnFile) (i j : Bytes) (F : FileMap) → kind_of call ≡ asks → reply_of call (over own i F) ≡ reply_of call (over own j F)
reply_over Fork own i j F e = refl
reply_over (Exec is_known) own i j F e = refl
reply_over Exit own i j F e = refl
reply_over Wait own i j F e = refl
reply_over MakePipe own i j F e = refl
reply_over (Read zero most) own i j F e = cc
reply_over (Read (suc fd) most) own i j F e = refl
reply_over (Write zero bytes) own i j F e = refl
reply_over (Write (suc zero) bytes) own i j F e = refl
reply_over (Write (suc (suc zero)) bytes) own i j F e = refl
reply_over (Write (suc (suc (suc fd))) bytes) own i j F e = refl
reply_over (OpenFile name mode) own i j F e = refl
reply_over (Close fd) own i j F e = refl
reply_over (Dup fd) own i j F e = refl

-- the worlds after a call over two inputs, of which this is the second: own files and files are the same, and a call that the
-- files answer leaves the input
pub record Same (j : Bytes) (call : Call) (a b : World) : Type 0 where
  pub own : a.own ≡ b.own
  pub files : a.files ≡ b.files
  pub input : kind_of call ≡ asks → b.input ≡ j

module _ (own : List OwnFile) (i j : Bytes) (F : FileMap) where
  same_read : (fd most : ℕ) (answer : Answer Bytes) → Same j (Read fd most) (after_read fd answer (over own i F)) (after_read fd answer (over own j F))
  same_read zero most (yields bytes) = record { own = refl; files = refl; input = λ e. cc }
  same_read (suc fd) most (yields bytes) = record { own = refl; files = refl; input = λ e. refl }
  same_read zero most denies = record { own = refl; files = refl; input = λ e. refl }
  same_read (suc fd) most denies = record { own = refl; files = refl; input = λ e. refl }
  same_read zero most strays = record { own = refl; files = refl; input = λ e. refl }
  same_read (suc fd) most strays = record { own = refl; files = refl; input = λ e. refl }

  same_file : (call : Call) (h : Option OwnFile) (bytes : Bytes) → Same j call (after_file_write h bytes (over own i F)) (after_file_write h bytes (over own j F))
  same_file call None bytes = record { own = refl; files = refl; input = λ e. refl }
  same_file call (Some o) bytes = record { own = refl; files = refl; input = λ e. refl }

  same_write : (fd : ℕ) (bytes : Bytes) (answer : Answer (Unit {0})) → Same j (Write fd bytes) (after_write fd bytes answer (over own i F)) (after_write fd bytes answer (over own j F))
  same_write zero bytes (yields done) = record { own = refl; files = refl; input = λ e. refl }
  same_write (suc zero) bytes (yields done) = record { own = refl; files = refl; input = λ e. refl }
  same_write (suc (suc zero)) bytes (yields done) = record { own = refl; files = refl; input = λ e. refl }
  same_write (suc (suc (suc fd))) bytes (yields done) = same_file (Write (suc (suc (suc fd))) bytes) (held own (suc (suc (suc fd)))) bytes
  same_write fd bytes denies = record { own = refl; files = refl; input = λ e. refl }
  same_write fd bytes strays = record { own = refl; files = refl; input = λ e. refl }

  pub same_after : (call : Call) (reply : Reply) → Same j call (after_call call reply (over own i F)) (after_call call reply (over own j F))
  same_after Fork reply = record { own = refl; files = refl; input = λ e. refl }
  same_after (Exec is_known) reply = record { own = refl; files = refl; input = λ e. refl }
  same_after Exit reply = record { own = refl; files = refl; input = λ e. refl }
  same_after Wait reply = record { own = refl; files = refl; input = λ e. refl }
  same_after MakePipe reply = record { own = refl; files = refl; input = λ e. refl }
  same_after (Read fd most) reply = same_read fd most (bytes_in reply)
  same_after (Write fd bytes) reply = same_write fd bytes (done_in reply)
  same_after (OpenFile name mode) reply = go (fd_in reply)
    where
      go : (answer : Answer ℕ) → Same j (OpenFile name mode) (after_open name mode answer (over own i F)) (after_open name mode answer (over own j F))
      go (yields fd) = record { own = refl; files = refl; input = λ e. refl }
      go denies = record { own = refl; files = refl; input = λ e. refl }
      go strays = record { own = refl; files = refl; input = λ e. refl }
  same_after (Close fd) reply = go (done_in reply)
    where
      go : (answer : Answer (Unit {0})) → Same j (Close fd) (after_close fd answer (over own i F)) (after_close fd answer (over own j F))
      go (yields done) = record { own = refl; files = refl; input = λ e. refl }
      go denies = record { own = refl; files = refl; input = λ e. refl }
      go strays = record { own = refl; files = refl; input = λ e. refl }
  same_after (Dup fd) reply = record { own = refl; files = refl; input = λ e. refl }

-- a call on descriptors 0 and 1 leaves the program's own files
pub read_leaves : (run : Running) (most : ℕ) (bytes : Bytes) (F : FileMap) → run.turn.call ≡ Read 0 most → replied run (Bytes' bytes) F ≡ resumed run (Bytes' bytes)
read_leaves run most bytes F is = ap (λ c. record { turn = turn run.turn.next (Bytes' bytes); own = (after_call c (Bytes' bytes) (alone run F)).own; put = 0 }) is

pub write_leaves : (run : Running) (bytes : Bytes) (F : FileMap) → run.turn.call ≡ Write 1 bytes → replied run Done F ≡ resumed run Done
write_leaves run bytes F is = ap (λ c. record { turn = turn run.turn.next Done; own = (after_call c Done (alone run F)).own; put = 0 }) is
