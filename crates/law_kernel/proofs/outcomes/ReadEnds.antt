-- How a read can end.
use Rattle.std.proofs.Common.{◌≡◌, ℕ, List, [], ◌∷◌, Bool, true, false, Option, Some, None, length, drop, take, refl, sym, ap, ◌∙◌, arith}
use Rattle.std.proofs.lemmas.Bool.{eqb-true, eqb-false}
use Rattle.std.specs.Prelude.{◌==◌, min, if◌then◌else◌}
use Rattle.std.proofs.lemmas.List.{nil_from_length, drop_all}
use Rattle.user_calls.specs.Limits.{block_size}
use Rattle.user_calls.specs.declared.calls.Call.{Call}
use Rattle.user_calls.specs.declared.calls.Call.TheVariants.{Read}
use Rattle.user_calls.specs.declared.calls.Reply.TheVariants.{Bytes as Given}
use Rattle.fd_table.specs.declared.names.Mode.{Mode}
use Rattle.fd_table.specs.declared.names.Mode.TheVariants.{Input as ForReading, Fresh, Over, Append}
use Rattle.fd_table.specs.declared.names.Object.{Object}
use Rattle.fd_table.specs.declared.names.Object.TheVariants.{Input, Out, Diag, File, PipeRead, PipeWrite}
use Rattle.fd_table.specs.Entries.{OpenFile as Entry}
use Rattle.fd_table.specs.Descriptors.{entry_of}
use Rattle.byte_pipe.specs.declared.Take.TheVariants.{Got, Empty, End}
use Rattle.byte_pipe.specs.PipeState.{PipeState, after_take}
use Rattle.mem_files.specs.Files.{files}
use Rattle.proc_table.specs.declared.states.Channel.TheVariants.{PipeBytes}
use Rattle.kernel_model.specs.KernelState.{KernelState, fds_at, file_at}
use Rattle.kernel_model.specs.Pipes.{Pipes, pipe_of, with_pipe}
use Rattle.kernel_model.specs.Replies.{answered, sleeps}
use Rattle.kernel_model.specs.Reading.{read_file, read_mode, read_by, read_pipe, read_object, read_entry, read_held, read}
use Rattle.law_kernel.specs.Outcome.{Outcome, IsRead, object_of, reads_input, reads_file, takes, waits_for_bytes, meets_end}
use Rattle.law_kernel.proofs.outcomes.Ways.{denied}

-- ---- a pipe that a call leaves as it was

pub with_pipe_back : (pipes : Pipes) (id : ℕ) (p : PipeState) → pipe_of pipes id ≡ Some p → with_pipe pipes id p ≡ pipes
with_pipe_back [] id p found = refl
with_pipe_back (x ∷ rest) id p found = by (id == x.0) (with_pipe_back rest id p) found where
  by : (b : Bool) → (pipe_of rest id ≡ Some p → with_pipe rest id p ≡ rest) → (if b then Some x.1 else pipe_of rest id) ≡ Some p → (if b then (x.0, p) ∷ rest else x ∷ with_pipe rest id p) ≡ x ∷ rest
  by true later is = let it : p ≡ x.1 = cc in ap (λ (q : PipeState). (x.0, q) ∷ rest) it
  by false later is = ap (λ (l : Pipes). x ∷ l) (later is)

take_of_empty : (p : PipeState) (n : ℕ) → p.bytes ≡ [] → after_take p n ≡ p
take_of_empty p n is = ap (λ (b : List ℕ). record { bytes = b; reader = p.reader; writer = p.writer }) (ap (drop n) is ∙ drop_all {X = ℕ} n [] (omega arith) ∙ sym is)

-- a take from an empty pipe leaves the pipes as they were
pub nothing_taken : (pipes : Pipes) (id n : ℕ) (p : PipeState) → pipe_of pipes id ≡ Some p → p.bytes ≡ [] → with_pipe pipes id (after_take p n) ≡ pipes
nothing_taken pipes id n p found is = ap (with_pipe pipes id) (take_of_empty p n is) ∙ with_pipe_back pipes id p found

-- ---- the read

module _ {S : Type 0} (k : KernelState S) (pid : ℕ) (after : S) (call : Call) where
  abbrev Ends : KernelState S → Type 0
  Ends new = Outcome k pid after call new

  read_file_ends : (e offset n : ℕ) (name : List ℕ) (mode : Mode) (o : Option (List ℕ)) → IsRead k pid call (File name mode) → Ends (read_file k pid after e offset n o)
  read_file_ends e offset n name mode None is = denied
  read_file_ends e offset n name mode (Some bytes) is = reads_file name mode e (length (take n (drop offset bytes))) (take n (drop offset bytes)) is refl

  read_mode_ends : (e offset n : ℕ) (name : List ℕ) (o : Option (List ℕ)) (mode : Mode) → IsRead k pid call (File name mode) → Ends (read_mode k pid after e offset n o mode)
  read_mode_ends e offset n name o ForReading is = read_file_ends e offset n name ForReading o is
  read_mode_ends e offset n name o Fresh is = denied
  read_mode_ends e offset n name o Over is = denied
  read_mode_ends e offset n name o Append is = denied

  read_pipe_ends : (id n : ℕ) (o : Option PipeState) → pipe_of k.pipes id ≡ o → IsRead k pid call (PipeRead id) → Ends (read_pipe k pid after id n o)
  read_pipe_ends id n None found is = denied
  read_pipe_ends id n (Some p) found is = by (length p.bytes == 0) p.writer refl refl where
    now : KernelState S
    now = record k { pipes = with_pipe k.pipes id (after_take p n) }

    by : (empty writer : Bool) → (length p.bytes == 0) ≡ empty → p.writer ≡ writer → Ends (read_by now pid after id (take n p.bytes) (if empty then (if writer then Empty else End) else Got (min (length p.bytes) n)))
    by false writer test w = takes id n p is found (λ none. let long : length p.bytes ≡ 0 = ap length none in eqb-false (length p.bytes) 0 test long) refl
    by true true test w =
        let none : p.bytes ≡ [] = nil_from_length p.bytes (eqb-true (length p.bytes) 0 test) in
        waits_for_bytes id p is found none w (ap (λ (l : Pipes). sleeps (record k { pipes = l }) pid (PipeBytes id) 0) (nothing_taken k.pipes id n p found none))
    by true false test w =
        let none : p.bytes ≡ [] = nil_from_length p.bytes (eqb-true (length p.bytes) 0 test) in
        meets_end id p is found none w (ap (λ (l : Pipes). answered (record k { pipes = l }) pid after (Given [])) (nothing_taken k.pipes id n p found none))

  read_object_ends : (e offset n : ℕ) (object : Object) → IsRead k pid call object → Ends (read_object k pid after e offset n object)
  read_object_ends e offset n Input is = reads_input n is refl
  read_object_ends e offset n Out is = denied
  read_object_ends e offset n Diag is = denied
  read_object_ends e offset n (File name mode) is = read_mode_ends e offset n name (files k.files name) mode is
  read_object_ends e offset n (PipeRead id) is = read_pipe_ends id n (pipe_of k.pipes id) refl is
  read_object_ends e offset n (PipeWrite id) is = denied

  read_entry_ends : (e n : ℕ) (o : Option Entry) → ((object : Object) → object_of o ≡ Some object → IsRead k pid call object) → Ends (read_entry k pid after e n o)
  read_entry_ends e n None is = denied
  read_entry_ends e n (Some f) is = read_object_ends e f.offset n f.object (is f.object refl)

  read_held_ends : (n : ℕ) (o : Option ℕ) → ((object : Object) → object_of (file_at k.entries o) ≡ Some object → IsRead k pid call object) → Ends (read_held k pid after n o)
  read_held_ends n None is = denied
  read_held_ends n (Some e) is = read_entry_ends e n (file_at k.entries (Some e)) is

  pub read_ends : (fd n : ℕ) → call ≡ Read fd n → Ends (read k pid after fd n)
  read_ends fd n is = read_held_ends (min n block_size) (entry_of (fds_at k pid) fd) (λ object held. (fd, n, is, held))
