-- A write keeps a kernel sound.
use Rattle.std.proofs.Common.{◌≡◌, ℕ, ◌+◌, List, ◌++◌, Bool, true, false, Option, Some, None, length, drop, refl, sym, arith}
use Rattle.std.proofs.lemmas.Bool.{ltb-false}
use Rattle.std.specs.Prelude.{nat_lt, ◌==◌, if◌then◌else◌}
use Rattle.user_calls.specs.declared.calls.Reply.TheVariants.{Done, Refused}
use Rattle.fd_table.specs.declared.names.Object.{Object}
use Rattle.fd_table.specs.declared.names.Object.TheVariants.{Input, Out, Diag, File, PipeRead, PipeWrite}
use Rattle.fd_table.specs.Entries.{OpenFile as Opened, advanced, moved_to, entry_at, offset_of}
use Rattle.proc_table.specs.declared.states.Channel.TheVariants.{PipeBytes, PipeRoom}
use Rattle.proc_table.specs.Slots.{at}
use Rattle.kernel_model.specs.KernelState.{KernelState, file_at}
use Rattle.kernel_model.specs.Sound.{IsMid, Keeps}
use Rattle.kernel_model.specs.Replies.{answered, refused_for, sleeps, wakes}
use Rattle.kernel_model.specs.declared.events.Full.TheVariants.{Memory, Size}
use Rattle.mem_files.specs.Files.{files}
use Rattle.mem_files.specs.Listing.{max_size, with_entry}
use Rattle.mem_files.specs.Overlay.{written as file_written}
use Rattle.byte_pipe.specs.declared.Put.{Put}
use Rattle.byte_pipe.specs.declared.Put.TheVariants.{Took, Full, Closed}
use Rattle.byte_pipe.specs.PipeState.{PipeState, put_answer}
use Rattle.kernel_model.specs.Pipes.{pipe_of, put_into}
use Rattle.fd_table.specs.declared.names.Mode.{Mode as EntryMode}
use Rattle.fd_table.specs.declared.names.Mode.TheVariants.{Input as ForReading, Fresh, Over, Append}
use Rattle.kernel_model.specs.Writing.{lacks_memory, write_mode, append_file, write_file, write_by, write_pipe, write_object, write_entry, write_held}
use Rattle.proc_table.specs.Slots.{put_of}
use Rattle.kernel_model.proofs.Keeps.{ready_keeps, sleep_keeps, wake_keeps}
use Rattle.kernel_model.proofs.Offsets.{advanced_sound, moved_sound}
use Rattle.kernel_model.proofs.Reading.{file_offset}

module _ {S : Type 0} (n pid : ℕ) where
  -- the kernel in the middle of a call of pid, and after it
  abbrev Mid : KernelState S → Type 0
  Mid k = IsMid n k.table k.entries pid

  abbrev After : KernelState S → Type 0
  After k = Keeps n k.table k.entries

  write_file_by : (k : KernelState S) (after : S) (e offset : ℕ) (name b bytes : List ℕ) (x y z : Bool) → offset ≡ offset_of (entry_at k.entries e) → nat_lt max_size (offset + length b) ≡ y → Mid k → After (if x then answered k pid after Refused else (if y then refused_for k pid after Size else (if z then refused_for k pid after Memory else answered (record k { files = with_entry k.files name (file_written bytes offset b); entries = advanced k.entries e (length b) }) pid after Done)))
  write_file_by k after e offset name b bytes true y z is fits m = ready_keeps n k.table k.entries pid after Refused m
  write_file_by k after e offset name b bytes false true z is fits m = ready_keeps n k.table k.entries pid after Refused m
  write_file_by k after e offset name b bytes false false true is fits m = ready_keeps n k.table k.entries pid after Refused m
  write_file_by k after e offset name b bytes false false false is fits m =
      ready_keeps n k.table (advanced k.entries e (length b)) pid after Done (
      record {
        sound = advanced_sound k.table k.entries e (length b) (omega (arith, is, ltb-false max_size (offset + length b) fits)) m.sound;
        runs = m.runs;
        count = m.count;
      })

  write_file_after : (k : KernelState S) (after : S) (e offset : ℕ) (name b : List ℕ) (refused : Bool) (o : Option (List ℕ)) → offset ≡ offset_of (entry_at k.entries e) → Mid k → After (write_file k pid after e name offset b refused o)
  write_file_after k after e offset name b refused None is m = ready_keeps n k.table k.entries pid after Refused m
  write_file_after k after e offset name b refused (Some bytes) is m = write_file_by k after e offset name b bytes (nat_lt (length bytes) offset) (nat_lt max_size (offset + length b)) (lacks_memory refused (length bytes) (offset + length b)) is refl m

  append_by : (k : KernelState S) (after : S) (e : ℕ) (name b bytes : List ℕ) (y z : Bool) → nat_lt max_size (length bytes + length b) ≡ y → Mid k → After (if y then refused_for k pid after Size else (if z then refused_for k pid after Memory else answered (record k { files = with_entry k.files name (bytes ++ b); entries = moved_to k.entries e (length bytes + length b) }) pid after Done))
  append_by k after e name b bytes true z fits m = ready_keeps n k.table k.entries pid after Refused m
  append_by k after e name b bytes false true fits m = ready_keeps n k.table k.entries pid after Refused m
  append_by k after e name b bytes false false fits m =
      ready_keeps n k.table (moved_to k.entries e (length bytes + length b)) pid after Done (
      record {
        sound = moved_sound k.table k.entries e (length bytes + length b) (ltb-false max_size (length bytes + length b) fits) m.sound;
        runs = m.runs;
        count = m.count;
      })

  append_file_after : (k : KernelState S) (after : S) (e : ℕ) (name b : List ℕ) (refused : Bool) (o : Option (List ℕ)) → Mid k → After (append_file k pid after e name b refused o)
  append_file_after k after e name b refused None m = ready_keeps n k.table k.entries pid after Refused m
  append_file_after k after e name b refused (Some bytes) m = append_by k after e name b bytes (nat_lt max_size (length bytes + length b)) (lacks_memory refused (length bytes) (length bytes + length b)) refl m

  write_took : (k : KernelState S) (after : S) (id put l : ℕ) (b : Bool) → Mid k → After (if b then wakes (PipeBytes id) (answered k pid after Done) else wakes (PipeBytes id) (sleeps k pid (PipeRoom id) (put + l)))
  write_took k after id put l true m = wake_keeps n _ k.entries (PipeBytes id) (ready_keeps n k.table k.entries pid after Done m)
  write_took k after id put l false m = wake_keeps n _ k.entries (PipeBytes id) (sleep_keeps n k.table k.entries pid (PipeRoom id) (put + l) m)

  write_by_after : (k : KernelState S) (after : S) (id put left : ℕ) (r : Put) → Mid k → After (write_by k pid after id put left r)
  write_by_after k after id put left (Took l) m = write_took k after id put l (l == left) m
  write_by_after k after id put left Full m = wake_keeps n _ k.entries (PipeBytes id) (sleep_keeps n k.table k.entries pid (PipeRoom id) put m)
  write_by_after k after id put left Closed m = ready_keeps n k.table k.entries pid after Refused m

  write_pipe_after : (k : KernelState S) (after : S) (id put : ℕ) (xs : List ℕ) (o : Option PipeState) → Mid k → After (write_pipe k pid after id put xs o)
  write_pipe_after k after id put xs None m = ready_keeps n k.table k.entries pid after Refused m
  write_pipe_after k after id put xs (Some p) m = write_by_after (record k { pipes = put_into k.pipes id xs (Some p) }) after id put (length xs) (put_answer p xs) m

  write_sink : (k j : KernelState S) (after : S) (b : Bool) → Mid k → Mid j → After (if b then refused_for k pid after Memory else answered j pid after Done)
  write_sink k j after true m h = ready_keeps n k.table k.entries pid after Refused m
  write_sink k j after false m h = ready_keeps n j.table j.entries pid after Done h

  write_mode_after : (k : KernelState S) (after : S) (e offset : ℕ) (name b : List ℕ) (refused : Bool) (mode : EntryMode) → offset ≡ offset_of (entry_at k.entries e) → Mid k → After (write_mode k pid after e name offset b refused mode)
  write_mode_after k after e offset name b refused ForReading is m = ready_keeps n k.table k.entries pid after Refused m
  write_mode_after k after e offset name b refused Fresh is m = write_file_after k after e offset name b refused (files k.files name) is m
  write_mode_after k after e offset name b refused Over is m = write_file_after k after e offset name b refused (files k.files name) is m
  write_mode_after k after e offset name b refused Append is m = append_file_after k after e name b refused (files k.files name) m

  write_object_after : (k : KernelState S) (after : S) (e offset : ℕ) (b : List ℕ) (refused : Bool) (object : Object) → offset ≡ offset_of (entry_at k.entries e) → Mid k → After (write_object k pid after e offset b refused object)
  write_object_after k after e offset b refused Input is m = ready_keeps n k.table k.entries pid after Refused m
  write_object_after k after e offset b refused Out is m = write_sink k (record k { out = k.out ++ b }) after (lacks_memory refused (length k.out) (length k.out + length b)) m m
  write_object_after k after e offset b refused Diag is m = write_sink k (record k { diag = k.diag ++ b }) after (lacks_memory refused (length k.diag) (length k.diag + length b)) m m
  write_object_after k after e offset b refused (File name mode) is m = write_mode_after k after e offset name b refused mode is m
  write_object_after k after e offset b refused (PipeRead id) is m = ready_keeps n k.table k.entries pid after Refused m
  write_object_after k after e offset b refused (PipeWrite id) is m =
      write_pipe_after k after id (put_of (at k.table pid)) (drop (put_of (at k.table pid)) b) (pipe_of k.pipes id) m

  write_entry_after : (k : KernelState S) (after : S) (e : ℕ) (b : List ℕ) (refused : Bool) (o : Option Opened) → file_at k.entries (Some e) ≡ o → Mid k → After (write_entry k pid after e b refused o)
  write_entry_after k after e b refused None is m = ready_keeps n k.table k.entries pid after Refused m
  write_entry_after k after e b refused (Some f) is m = write_object_after k after e f.offset b refused f.object (sym (file_offset k.entries e f is)) m

  pub write_held_after : (k : KernelState S) (after : S) (b : List ℕ) (refused : Bool) (o : Option ℕ) → Mid k → After (write_held k pid after b refused o)
  write_held_after k after b refused None m = ready_keeps n k.table k.entries pid after Refused m
  write_held_after k after b refused (Some e) m = write_entry_after k after e b refused (file_at k.entries (Some e)) refl m
