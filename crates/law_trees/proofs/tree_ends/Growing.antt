-- Files grow by no more than a program's call writes to them.
use Rattle.std.proofs.Common.{◌≡◌, ℕ, zero, suc, ◌+◌, ◌≤◌, Bool, true, false, [], ◌++◌, length, take, drop, Option, Some, None, refl, ap, arith}
use Rattle.std.specs.Prelude.{nat_le, if◌then◌else◌}
use Rattle.std.specs.Str.{bytes_eq}
use Rattle.std.proofs.lemmas.List.{length-take, length-drop, length-append}
use Rattle.std.proofs.lemmas.Slice.Eq.{bytes_eq-Decides}
use Rattle.mem_files.specs.Name.{Name, Bytes, is_openable}
use Rattle.mem_files.specs.Files.{FileMap, with_file, bytes_of}
use Rattle.mem_files.specs.Overlay.{written}
use Rattle.user_calls.specs.declared.calls.Mode.{Mode}
use Rattle.user_calls.specs.declared.calls.Mode.TheVariants.{Input, Fresh, Over, Append}
use Rattle.user_calls.specs.declared.calls.Call.{Call}
use Rattle.user_calls.specs.declared.calls.Call.TheVariants.{Fork, Exec, Exit, Wait, MakePipe, Read, Write, OpenFile, Close, Dup}
use Rattle.user_calls.specs.declared.calls.Reply.{Reply}
use Rattle.user_progs.specs.Turn.{Answer, yields, denies, strays, bytes_in, fd_in, done_in}
use Rattle.tree_model.specs.Alone.{OwnFile, World, held, can_open, after_call, after_read, after_write, after_file_write, after_open, after_close, opened_files}
use Rattle.tree_model.specs.FilesAhead.{sizes}
use Rattle.tree_model.specs.ProgramBytes.{write_bytes, call_bytes}

-- a file grows by no more than is written to it
pub written_size : (b : Bytes) (at : ℕ) (o : Bytes) → length (written b at o) ≤ length b + length o
written_size b at o = go (nat_le at (length b))
  where
    go : (t : Bool) → length (if t then take at b ++ (o ++ drop (at + length o) b) else b) ≤ length b + length o
    go true = omega (arith, length-append (take at b) (o ++ drop (at + length o) b), length-append o (drop (at + length o) b), length-take at b, length-drop (at + length o) b)
    go false = omega arith

pub with_size : (F : FileMap) (name f : Name) (b : Bytes) (k : ℕ) → length b ≤ sizes F name + k → sizes (with_file F name b) f ≤ sizes F f + k
with_size F name f b k h = go (bytes_eq f name) (λ e. (bytes_eq-Decides f name).0 e)
  where
    go : (t : Bool) → (t ≡ true → f ≡ name) → length (bytes_of (if t then Some b else F f)) ≤ sizes F f + k
    go true e = omega (arith, h, ap (sizes F) (e refl))
    go false e = omega arith

write_grows : (fd : ℕ) (bytes : Bytes) (put : ℕ) (answer : Answer (Unit {0})) (world : World) (f : Name) → sizes (after_write fd bytes answer world).files f ≤ sizes world.files f + write_bytes fd bytes put
write_grows zero bytes put (yields done) world f = omega arith
write_grows (suc zero) bytes put (yields done) world f = omega arith
write_grows (suc (suc zero)) bytes put (yields done) world f = omega arith
write_grows (suc (suc (suc fd))) bytes put (yields done) world f = go (held world.own (suc (suc (suc fd))))
  where
    go : (o : Option OwnFile) → sizes (after_file_write o bytes world).files f ≤ sizes world.files f + length bytes
    go None = omega arith
    go (Some h) = with_size world.files h.name f (written (bytes_of (world.files h.name)) h.at bytes) (length bytes) (written_size (bytes_of (world.files h.name)) h.at bytes)
write_grows fd bytes put denies world f = omega arith
write_grows fd bytes put strays world f = omega arith

open_grows : (name : Name) (mode : Mode) (answer : Answer ℕ) (world : World) (f : Name) → sizes (after_open name mode answer world).files f ≤ sizes world.files f
open_grows name mode denies world f = omega arith
open_grows name mode strays world f = omega arith
open_grows name Input (yields fd) world f = go (can_open name Input world.files)
  where
    go : (o : Option Bytes) → sizes (opened_files o name Input world.files) f ≤ sizes world.files f
    go None = omega arith
    go (Some bytes) = omega arith
open_grows name Fresh (yields fd) world f = go (is_openable name)
  where
    go : (b : Bool) → sizes (opened_files (if b then Some [] else None) name Fresh world.files) f ≤ sizes world.files f
    go true = omega (arith, with_size world.files name f [] 0 (omega arith))
    go false = omega arith
open_grows name Over (yields fd) world f = go (is_openable name)
  where
    go : (b : Bool) → sizes (opened_files (if b then Some (bytes_of (world.files name)) else None) name Over world.files) f ≤ sizes world.files f
    go true = omega (arith, with_size world.files name f (bytes_of (world.files name)) 0 (omega arith))
    go false = omega arith
open_grows name Append (yields fd) world f = omega arith

pub call_grows : (call : Call) (put : ℕ) (reply : Reply) (world : World) (f : Name) → sizes (after_call call reply world).files f ≤ sizes world.files f + call_bytes call put
call_grows Fork put reply world f = omega arith
call_grows (Exec is_known) put reply world f = omega arith
call_grows Exit put reply world f = omega arith
call_grows Wait put reply world f = omega arith
call_grows MakePipe put reply world f = omega arith
call_grows (Read fd most) put reply world f = go fd (bytes_in reply)
  where
    go : (fd : ℕ) (a : Answer Bytes) → sizes (after_read fd a world).files f ≤ sizes world.files f + 0
    go zero (yields bytes) = omega arith
    go (suc fd) (yields bytes) = omega arith
    go fd denies = omega arith
    go fd strays = omega arith
call_grows (Write fd bytes) put reply world f = write_grows fd bytes put (done_in reply) world f
call_grows (OpenFile name mode) put reply world f = omega (arith, open_grows name mode (fd_in reply) world f)
call_grows (Close fd) put reply world f = go (done_in reply)
  where
    go : (a : Answer (Unit {0})) → sizes (after_close fd a world).files f ≤ sizes world.files f + 0
    go (yields done) = omega arith
    go denies = omega arith
    go strays = omega arith
call_grows (Dup fd) put reply world f = omega arith
