-- An open keeps a kernel sound.
use Rattle.std.proofs.Common.{◌≡◌, ℕ, List, [], Bool, true, false, Option, Some, None, length, refl, ◌∙◌}
use Rattle.std.specs.Prelude.{IsSome, is_none, nat_le, ◌==◌, if◌then◌else◌}
use Rattle.user_calls.specs.declared.calls.Reply.TheVariants.{Refused}
use Rattle.fd_table.specs.declared.names.Object.{Object}
use Rattle.fd_table.specs.declared.names.Object.TheVariants.{File}
use Rattle.fd_table.specs.Entries.{added, lowest_free_entry, free_count}
use Rattle.fd_table.specs.Descriptors.{lowest_free, installed}
use Rattle.fd_table.proofs.Counting.{add_kept, length-installed_at}
use Rattle.kernel_model.specs.KernelState.{KernelState, fds_at}
use Rattle.kernel_model.specs.Sound.{IsMid, Keeps}
use Rattle.kernel_model.specs.Replies.{answered, refused_for}
use Rattle.kernel_model.specs.Descriptors.{with_open, opened_at}
use Rattle.kernel_model.specs.Opening.{open_file, open_named, open_for_reading, open_for_writing, open_here, open_reply, with_bytes, emptied_if}
use Rattle.kernel_model.specs.Modes.{entry_mode, reads, empties}
use Rattle.kernel_model.specs.declared.events.Full.TheVariants.{Open, Fds, Files, Memory}
use Rattle.user_calls.specs.declared.calls.Mode.{Mode}
use Rattle.mem_files.specs.Name.{is_openable}
use Rattle.mem_files.specs.Files.{files}
use Rattle.mem_files.specs.Listing.{max_files}
use Rattle.kernel_model.proofs.Keeps.{ready_keeps, fds_mid}
use Rattle.kernel_model.proofs.Offsets.{added_small}

pub some_by : {X : Type 0} (o : Option X) → is_none o ≡ false → IsSome o
some_by None is = absurd (let z : ⊥ = cc in z)
some_by (Some x) is = refl

module _ {S : Type 0} (n pid : ℕ) where
  -- the kernel in the middle of a call of pid, and after it
  abbrev Mid : KernelState S → Type 0
  Mid k = IsMid n k.table k.entries pid

  abbrev After : KernelState S → Type 0
  After k = Keeps n k.table k.entries

  pub opened_mid : (k : KernelState S) (object : Object) (place : Option ℕ) → lowest_free_entry k.entries ≡ place → IsSome (lowest_free (fds_at k pid)) → Mid k → Mid (opened_at k pid object place)
  opened_mid k object None found some m = m
  opened_mid k object (Some e) found some m =
      fds_mid n k.table k.entries (added k.entries object) pid (installed (fds_at k pid) e) (λ before after. add_kept k.entries before after (fds_at k pid) e object found some)
      (length-installed_at (fds_at k pid) (lowest_free (fds_at k pid)) e ∙ m.sound.places pid) (added_small k.entries (lowest_free_entry k.entries) object m.sound.offsets) m

  pub open_mid : (k : KernelState S) (object : Object) → IsSome (lowest_free (fds_at k pid)) → Mid k → Mid (with_open k pid object)
  open_mid k object some m = opened_mid k object (lowest_free_entry k.entries) refl some m

  module _ (k : KernelState S) (after : S) (name : List ℕ) (mode : Mode) (refused : Bool) (m : Mid k) where
    here : (j : KernelState S) → Mid j → IsSome (lowest_free (fds_at j pid)) → After (open_here j pid after name mode)
    here j h some = ready_keeps n (with_open j pid (File name (entry_mode mode))).table (with_open j pid (File name (entry_mode mode))).entries pid after (open_reply (lowest_free (fds_at j pid))) (open_mid j (File name (entry_mode mode)) some h)

    for_reading : (o : Option (List ℕ)) → IsSome (lowest_free (fds_at k pid)) → After (open_for_reading k pid after name mode o)
    for_reading None some = ready_keeps n k.table k.entries pid after Refused m
    for_reading (Some bytes) some = here k m some

    emptied : (b : Bool) → IsSome (lowest_free (fds_at k pid)) → After (open_here (emptied_if b k name) pid after name mode)
    emptied true some = here (with_bytes k name []) m some
    emptied false some = here k m some

    for_writing_new : (b c : Bool) → IsSome (lowest_free (fds_at k pid)) → After (if b then refused_for k pid after Files else (if c then refused_for k pid after Memory else open_here (with_bytes k name []) pid after name mode))
    for_writing_new true c some = ready_keeps n k.table k.entries pid after Refused m
    for_writing_new false true some = ready_keeps n k.table k.entries pid after Refused m
    for_writing_new false false some = here (with_bytes k name []) m some

    for_writing : (o : Option (List ℕ)) → IsSome (lowest_free (fds_at k pid)) → After (open_for_writing k pid after name mode refused o)
    for_writing None some = for_writing_new (nat_le max_files (length k.files)) refused some
    for_writing (Some bytes) some = emptied (empties mode) some

    named : (b : Bool) → IsSome (lowest_free (fds_at k pid)) → After (if b then open_for_reading k pid after name mode (files k.files name) else open_for_writing k pid after name mode refused (files k.files name))
    named true some = for_reading (files k.files name) some
    named false some = for_writing (files k.files name) some

    good : (b : Bool) → IsSome (lowest_free (fds_at k pid)) → After (if b then open_named k pid after name mode refused else answered k pid after Refused)
    good true some = named (reads mode) some
    good false some = ready_keeps n k.table k.entries pid after Refused m

    roomy : (a b : Bool) → is_none (lowest_free (fds_at k pid)) ≡ b → After (if a then refused_for k pid after Open else (if b then refused_for k pid after Fds else (if is_openable name then open_named k pid after name mode refused else answered k pid after Refused)))
    roomy true b is = ready_keeps n k.table k.entries pid after Refused m
    roomy false true is = ready_keeps n k.table k.entries pid after Refused m
    roomy false false is = good (is_openable name) (some_by (lowest_free (fds_at k pid)) is)

    pub open_after : After (open_file k pid after name mode refused)
    open_after = roomy (free_count k.entries == 0) (is_none (lowest_free (fds_at k pid))) refl
