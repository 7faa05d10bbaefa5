-- A read keeps a kernel sound.
use Rattle.std.proofs.Common.{◌≡◌, ℕ, ◌≤◌, List, Option, Some, None, length, take, drop, refl, sym, ap, subst, arith}
use Rattle.std.proofs.lemmas.List.{length-take, length-drop}
use Rattle.std.specs.Prelude.{IfSome}
use Rattle.user_calls.specs.declared.calls.Reply.TheVariants.{Refused}
use Rattle.fd_table.specs.declared.names.Object.{Object}
use Rattle.fd_table.specs.declared.names.Object.TheVariants.{Input, Out, Diag, File, PipeRead, PipeWrite}
use Rattle.fd_table.specs.Entries.{Entries, OpenFile as Opened, advanced, entry_at, offset_of}
use Rattle.proc_table.specs.declared.states.Channel.TheVariants.{PipeBytes, PipeRoom}
use Rattle.kernel_model.specs.KernelState.{KernelState, file_at}
use Rattle.kernel_model.specs.Sound.{IsMid, Keeps}
use Rattle.mem_files.specs.Files.{files}
use Rattle.mem_files.specs.Listing.{max_size, AreFiles}
use Rattle.byte_pipe.specs.declared.Take.{Take}
use Rattle.byte_pipe.specs.declared.Take.TheVariants.{Got, Empty, End}
use Rattle.byte_pipe.specs.PipeState.{PipeState, take_answer}
use Rattle.kernel_model.specs.Pipes.{pipe_of, taken_from}
use Rattle.fd_table.specs.declared.names.Mode.{Mode as EntryMode}
use Rattle.fd_table.specs.declared.names.Mode.TheVariants.{Input as ForReading, Fresh, Over, Append}
use Rattle.kernel_model.specs.Reading.{read_mode, read_file, read_by, read_pipe, read_object, read_entry, read_held}
use Rattle.kernel_model.proofs.Keeps.{ready_keeps, sleep_keeps, wake_keeps}
use Rattle.kernel_model.proofs.Offsets.{advanced_sound}

small_file : (list : List (List ℕ × List ℕ)) (name : List ℕ) (o : Option (List ℕ)) → AreFiles list → files list name ≡ o → IfSome o (λ bytes. length bytes ≤ max_size)
small_file list name o are is = subst (λ (x : Option (List ℕ)). IfSome x (λ bytes. length bytes ≤ max_size)) is (are.small name)

pub file_offset : (E : Entries) (e : ℕ) (f : Opened) → file_at E (Some e) ≡ Some f → offset_of (entry_at E e) ≡ f.offset
file_offset E e f is = ap offset_of is

module _ {S : Type 0} (n pid : ℕ) where
  -- the kernel in the middle of a call of pid, and after it
  abbrev Mid : KernelState S → Type 0
  Mid k = IsMid n k.table k.entries pid

  abbrev After : KernelState S → Type 0
  After k = Keeps n k.table k.entries

  module _ (k : KernelState S) (after : S) (e : ℕ) (m : Mid k) where
    read_file_after : (offset want : ℕ) (o : Option (List ℕ)) → offset ≡ offset_of (entry_at k.entries e) → IfSome o (λ bytes. length bytes ≤ max_size) → After (read_file k pid after e offset want o)
    read_file_after offset want None is small = ready_keeps n k.table k.entries pid after Refused m
    read_file_after offset want (Some bytes) is small =
        let got = length (take want (drop offset bytes)) in
        ready_keeps n k.table (advanced k.entries e got) pid after _ (
        record {
          sound = advanced_sound k.table k.entries e got (omega (arith, is, small, m.sound.offsets e, length-take want (drop offset bytes), length-drop offset bytes)) m.sound;
          runs = m.runs;
          count = m.count;
        })

    read_by_after : (id : ℕ) (got : List ℕ) (r : Take) → After (read_by k pid after id got r)
    read_by_after id got (Got l) = wake_keeps n _ k.entries (PipeRoom id) (ready_keeps n k.table k.entries pid after _ m)
    read_by_after id got Empty = sleep_keeps n k.table k.entries pid (PipeBytes id) 0 m
    read_by_after id got End = ready_keeps n k.table k.entries pid after _ m

  read_pipe_after : (k : KernelState S) (after : S) (id want : ℕ) (o : Option PipeState) → Mid k → After (read_pipe k pid after id want o)
  read_pipe_after k after id want None m = ready_keeps n k.table k.entries pid after Refused m
  read_pipe_after k after id want (Some p) m = read_by_after (record k { pipes = taken_from k.pipes id want (Some p) }) after 0 m id (take want p.bytes) (take_answer p want)

  read_mode_after : (k : KernelState S) (after : S) (e offset want : ℕ) (name : List ℕ) (mode : EntryMode) → offset ≡ offset_of (entry_at k.entries e) → AreFiles k.files → Mid k → After (read_mode k pid after e offset want (files k.files name) mode)
  read_mode_after k after e offset want name ForReading is are m = read_file_after k after e m offset want (files k.files name) is (small_file k.files name (files k.files name) are refl)
  read_mode_after k after e offset want name Fresh is are m = ready_keeps n k.table k.entries pid after Refused m
  read_mode_after k after e offset want name Over is are m = ready_keeps n k.table k.entries pid after Refused m
  read_mode_after k after e offset want name Append is are m = ready_keeps n k.table k.entries pid after Refused m

  read_object_after : (k : KernelState S) (after : S) (e offset want : ℕ) (object : Object) → offset ≡ offset_of (entry_at k.entries e) → AreFiles k.files → Mid k → After (read_object k pid after e offset want object)
  read_object_after k after e offset want Input is are m = ready_keeps n k.table k.entries pid after _ m
  read_object_after k after e offset want Out is are m = ready_keeps n k.table k.entries pid after Refused m
  read_object_after k after e offset want Diag is are m = ready_keeps n k.table k.entries pid after Refused m
  read_object_after k after e offset want (File name mode) is are m = read_mode_after k after e offset want name mode is are m
  read_object_after k after e offset want (PipeRead id) is are m = read_pipe_after k after id want (pipe_of k.pipes id) m
  read_object_after k after e offset want (PipeWrite id) is are m = ready_keeps n k.table k.entries pid after Refused m

  read_entry_after : (k : KernelState S) (after : S) (e want : ℕ) (o : Option Opened) → file_at k.entries (Some e) ≡ o → AreFiles k.files → Mid k → After (read_entry k pid after e want o)
  read_entry_after k after e want None is are m = ready_keeps n k.table k.entries pid after Refused m
  read_entry_after k after e want (Some f) is are m = read_object_after k after e f.offset want f.object (sym (file_offset k.entries e f is)) are m

  pub read_held_after : (k : KernelState S) (after : S) (want : ℕ) (o : Option ℕ) → AreFiles k.files → Mid k → After (read_held k pid after want o)
  read_held_after k after want None are m = ready_keeps n k.table k.entries pid after Refused m
  read_held_after k after want (Some e) are m = read_entry_after k after e want (file_at k.entries (Some e)) refl are m
