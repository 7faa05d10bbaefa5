-- An entry lost one holder: an open and a pipe of another process that find free entries without it come to the same but for numbers.
use Rattle.std.proofs.Common.{◌≡◌, ◌≢◌, ℕ, ◌+◌, ◌<◌, ◌≤◌, List, [], Bool, true, false, Option, Some, None, length, refl, sym, ap, subst, ◌∙◌, arith, get_or-set_other}
use Rattle.std.proofs.Math.ListN.{set, length-set}
use Rattle.std.proofs.lemmas.Bool.{ltb-false, le-ltb, ne_eqb}
use Rattle.std.proofs.lemmas.List.{set_comm}
use Rattle.std.proofs.lemmas.List.Sums.{sum_by-set}
use Rattle.std.specs.Prelude.{IsSome, cond, if◌then◌else◌, nat_lt, nat_le, ◌==◌, is_none}
use Rattle.user_calls.specs.declared.calls.Mode.{Mode}
use Rattle.user_calls.specs.declared.calls.Reply.TheVariants.{Refused}
use Rattle.fd_table.specs.declared.names.Object.{Object}
use Rattle.fd_table.specs.declared.names.Object.TheVariants.{File, PipeRead, PipeWrite}
use Rattle.fd_table.specs.Entries.{OpenFile as Opened, Entries, entry_at, is_free, free_count, lowest_free_entry, opened, less_held, released}
use Rattle.fd_table.specs.Descriptors.{lowest_free}
use Rattle.fd_table.specs.Holders.{CountHolders}
use Rattle.fd_table.proofs.Free.{found}
use Rattle.fd_table.proofs.Lists.{within_list, some_is}
use Rattle.mem_files.specs.Name.{is_openable}
use Rattle.mem_files.specs.Files.{files}
use Rattle.mem_files.specs.Listing.{max_files}
use Rattle.kernel_model.specs.declared.events.Full.TheVariants.{Open, Fds, Files, Memory}
use Rattle.kernel_model.specs.KernelState.{KernelState, fds_at}
use Rattle.kernel_model.specs.Pipes.{with_new}
use Rattle.kernel_model.specs.Modes.{empties, entry_mode, reads}
use Rattle.kernel_model.specs.Replies.{answered, refused_for}
use Rattle.kernel_model.specs.Sound.{IsMid, tables}
use Rattle.kernel_model.specs.Descriptors.{with_open, with_reader, with_ends, ends_reply, make_pipe}
use Rattle.kernel_model.specs.Opening.{emptied_if, with_bytes, open_here, open_reply, open_for_reading, open_for_writing, open_file}
use Rattle.kernel_model.proofs.Opening.{open_mid}
use Rattle.kernel_model.specs.Numbers.{SameButNumbers}
use Rattle.law_turns.proofs.entry_numbers.Numberings.{same_itself, same_on}
use Rattle.law_turns.proofs.entry_numbers.Opening.{IsFreeAt, lowest_is_free, taken, opened_there, opens_there, opened_so, open_same}
use Rattle.law_turns.proofs.entry_numbers.Still.{sound_same}
use Rattle.law_turns.proofs.entry_numbers.Acted.{answered_same, place_same}
use Rattle.law_turns.proofs.last_closes.Losing.{lost}

-- where an entry is free
first_free : (t : Entries) → 0 < free_count t → (a : ℕ) × (lowest_free_entry t ≡ Some a)
first_free t some = some_is (lowest_free_entry t) ((found is_free t).1 some)

module _ (t : Entries) (e : ℕ) (f : Opened) (used : entry_at t e ≡ Some f) where
  -- no less is free
  free_less : free_count t ≤ free_count (released t e)
  free_less =
      let now = less_held (entry_at t e) in
      omega (arith, sum_by-set (λ (x : Option Opened). cond {A = ℕ} (is_free x) 1 0) t e now None (within_list t e f used), ap (λ (x : Option Opened). cond {A = ℕ} (is_free x) 1 0) used)

  another : (a : ℕ) → entry_at t a ≡ None → a ≢ e
  another a free is = let no : None ≡ Some f = sym free ∙ ap (entry_at t) is ∙ used in let z : ⊥ = cc in z

  -- what is opened where an entry was free is opened there too
  still_free : (a : ℕ) → IsFreeAt t a → IsFreeAt (released t e) a
  still_free a at_a =
      record {
        within = omega (arith, at_a.within, length-set t e (less_held (entry_at t e)));
        free = get_or-set_other t e a (less_held (entry_at t e)) None (another a at_a.free) ∙ at_a.free;
      }

  opened_less : (a : ℕ) (g : Opened) → IsFreeAt t a → released (set t a (Some g)) e ≡ set (released t e) a (Some g)
  opened_less a g at_a =
      ap (λ (x : Option Opened). set (set t a (Some g)) e (less_held x)) (get_or-set_other t a e (Some g) None (λ q. another a at_a.free (sym q))) ∙
      set_comm t a e (Some g) (less_held (entry_at t e)) (another a at_a.free)

module _ {S : Type 0} (e pid : ℕ) (f : Opened) where
  abbrev L : KernelState S → KernelState S
  L k = lost e pid k

  pub open_lost : (k : KernelState S) (object : Object) → entry_at k.entries e ≡ Some f → 0 < free_count k.entries → CountHolders (L k).entries (tables k.table) → SameButNumbers (with_open (L k) pid object) (L (with_open k pid object))
  open_lost k object used some counts =
      let a = first_free k.entries some in
      let b = first_free (L k).entries (omega (arith, some, free_less k.entries e f used)) in
      let free_a = lowest_is_free k.entries a.0 a.1 in
      let itself = same_itself (L k) in
      let there : L (with_open k pid object) ≡ opened_there (L k) pid object a.0 =
      ap L (opens_there k pid object a.0 a.1) ∙ (λ i. record (opened_there (L k) pid object a.0) { entries = opened_less k.entries e f used a.0 (opened object) free_a i }) in
      subst (λ (j : KernelState S). SameButNumbers (with_open (L k) pid object) j) (sym there)
      (subst (λ (j : KernelState S). SameButNumbers j (opened_there (L k) pid object a.0)) (sym (opens_there (L k) pid object b.0 b.1))
      (subst (λ (j : KernelState S). SameButNumbers (opened_there (L k) pid object b.0) (opened_there j pid object a.0)) itself.is.rest
      (opened_so itself.numbering (L k) (L k).entries itself.is.entries counts pid object b.0 a.0 (lowest_is_free (L k).entries b.0 b.1) (still_free k.entries e f used a.0 free_a))))

  -- one less is free, and the entry is still in use
  after_open : (k : KernelState S) (object : Object) (a : ℕ) → lowest_free_entry k.entries ≡ Some a → entry_at k.entries e ≡ Some f
      → (free_count (with_open k pid object).entries + 1 ≡ free_count k.entries) × (entry_at (with_open k pid object).entries e ≡ Some f)
  after_open k object a is used =
      let at_a = lowest_is_free k.entries a is in
      let now : (with_open k pid object).entries ≡ set k.entries a (Some (opened object)) = ap (λ (j : KernelState S). j.entries) (opens_there k pid object a is) in (
        ap (λ (t : Entries). free_count t + 1) now ∙ taken k.entries a (opened object) at_a,
        ap (λ (t : Entries). entry_at t e) now ∙ get_or-set_other k.entries a e (Some (opened object)) None (λ q. another k.entries e f used a at_a.free (sym q)) ∙ used,
      )

  -- ---- open

  module _ (after : S) (file : List ℕ) (mode : Mode) (refused : Bool) where
    here_lost : (k : KernelState S) → entry_at k.entries e ≡ Some f → 0 < free_count k.entries → CountHolders (L k).entries (tables k.table) → SameButNumbers (open_here (L k) pid after file mode) (L (open_here k pid after file mode))
    here_lost k used some counts =
        let object = File file (entry_mode mode) in
        answered_same (with_open (L k) pid object) (L (with_open k pid object)) (open_lost k object used some counts) pid after (open_reply (lowest_free (fds_at k pid)))

    module _ (k : KernelState S) (used : entry_at k.entries e ≡ Some f) (some : 0 < free_count k.entries) (counts : CountHolders (L k).entries (tables k.table)) where
      emptied_lost : (b : Bool) → SameButNumbers (open_here (emptied_if b (L k) file) pid after file mode) (L (open_here (emptied_if b k file) pid after file mode))
      emptied_lost true = here_lost (with_bytes k file []) used some counts
      emptied_lost false = here_lost k used some counts

      reading_lost : (o : Option (List ℕ)) → SameButNumbers (open_for_reading (L k) pid after file mode o) (L (open_for_reading k pid after file mode o))
      reading_lost None = same_itself (answered (L k) pid after Refused)
      reading_lost (Some bytes) = here_lost k used some counts

      new_lost : (full : Bool) (lacks : Bool) → SameButNumbers (if full then refused_for (L k) pid after Files else (if lacks then refused_for (L k) pid after Memory else open_here (with_bytes (L k) file []) pid after file mode))
          (L (if full then refused_for k pid after Files else (if lacks then refused_for k pid after Memory else open_here (with_bytes k file []) pid after file mode)))
      new_lost true lacks = same_itself (refused_for (L k) pid after Files)
      new_lost false true = same_itself (refused_for (L k) pid after Memory)
      new_lost false false = here_lost (with_bytes k file []) used some counts

      writing_lost : (o : Option (List ℕ)) → SameButNumbers (open_for_writing (L k) pid after file mode refused o) (L (open_for_writing k pid after file mode refused o))
      writing_lost None = new_lost (nat_le max_files (length k.files)) refused
      writing_lost (Some bytes) = emptied_lost (empties mode)

      named_lost : (openable : Bool) (reading : Bool) → SameButNumbers
          (if openable then (if reading then open_for_reading (L k) pid after file mode (files k.files file) else open_for_writing (L k) pid after file mode refused (files k.files file)) else answered (L k) pid after Refused)
          (L (if openable then (if reading then open_for_reading k pid after file mode (files k.files file) else open_for_writing k pid after file mode refused (files k.files file)) else answered k pid after Refused))
      named_lost true true = reading_lost (files k.files file)
      named_lost true false = writing_lost (files k.files file)
      named_lost false reading = same_itself (answered (L k) pid after Refused)

      placed_lost : (b : Bool) → SameButNumbers
          (if b then refused_for (L k) pid after Fds else (if is_openable file then (if reads mode then open_for_reading (L k) pid after file mode (files k.files file) else open_for_writing (L k) pid after file mode refused (files k.files file)) else answered (L k) pid after Refused))
          (L (if b then refused_for k pid after Fds else (if is_openable file then (if reads mode then open_for_reading k pid after file mode (files k.files file) else open_for_writing k pid after file mode refused (files k.files file)) else answered k pid after Refused)))
      placed_lost true = same_itself (refused_for (L k) pid after Fds)
      placed_lost false = named_lost (is_openable file) (reads mode)

      -- an open where an entry is free
      pub open_file_lost : SameButNumbers (open_file (L k) pid after file mode refused) (L (open_file k pid after file mode refused))
      open_file_lost =
          let roomy : (free_count k.entries == 0) ≡ false = ne_eqb (free_count k.entries) 0 (λ q. omega (arith, some, q)) in
          let roomy_too : (free_count (L k).entries == 0) ≡ false = ne_eqb (free_count (L k).entries) 0 (λ q. omega (arith, some, q, free_less k.entries e f used)) in
          subst (λ (b : Bool). SameButNumbers (if b then refused_for (L k) pid after Open else rest (L k)) (L (open_file k pid after file mode refused))) (sym roomy_too)
          (subst (λ (b : Bool). SameButNumbers (rest (L k)) (L (if b then refused_for k pid after Open else rest k))) (sym roomy) (placed_lost (is_none (lowest_free (fds_at k pid))))) where
            rest : KernelState S → KernelState S
            rest j = if is_none (lowest_free (fds_at j pid)) then refused_for j pid after Fds
                else (if is_openable file then (if reads mode then open_for_reading j pid after file mode (files j.files file) else open_for_writing j pid after file mode refused (files j.files file)) else answered j pid after Refused)

  module _ (k : KernelState S) (used : entry_at k.entries e ≡ Some f) (running : ℕ) (mid : IsMid running k.table (L k).entries pid) (after : S) where
    -- ---- pipe

    module _ (id : ℕ) (two : 2 ≤ free_count k.entries) (places : 2 ≤ free_count (fds_at k pid)) where
      abbrev new : KernelState S
      new = record k { pipes = with_new k.pipes id }

      reader_lost : SameButNumbers (with_reader (L k) pid id) (L (with_reader k pid id))
      reader_lost = open_lost new (PipeRead id) used (omega (arith, two)) mid.sound.counts

      reader_mid : IsMid running (with_reader (L k) pid id).table (with_reader (L k) pid id).entries pid
      reader_mid =
          let some : IsSome (lowest_free (fds_at k pid)) = (found is_free (fds_at k pid)).1 (omega (arith, places)) in
          open_mid running pid (L new) (PipeRead id) some mid

      ends_lost : SameButNumbers (with_ends (L k) pid id) (L (with_ends k pid id))
      ends_lost =
          let a = first_free k.entries (omega (arith, two)) in
          let later = after_open new (PipeRead id) a.0 a.1 used in
          let r = with_reader k pid id in
          same_on (with_ends (L k) pid id) (with_open (L r) pid (PipeWrite id)) (L (with_ends k pid id))
          (open_same (with_reader (L k) pid id) (L r) pid (PipeWrite id) reader_mid.sound.counts reader_lost)
          (open_lost r (PipeWrite id) later.1 (omega (arith, two, later.0)) (sound_same (with_reader (L k) pid id) (L r) reader_lost reader_mid.sound).counts)

      made_lost : SameButNumbers (answered (with_ends (L k) pid id) pid after (ends_reply (lowest_free (fds_at (L k) pid)) (lowest_free (fds_at (with_reader (L k) pid id) pid))))
          (L (answered (with_ends k pid id) pid after (ends_reply (lowest_free (fds_at k pid)) (lowest_free (fds_at (with_reader k pid id) pid)))))
      made_lost =
          let first = lowest_free (fds_at k pid) in
          subst (λ (o : Option ℕ). SameButNumbers (answered (with_ends (L k) pid id) pid after (ends_reply first o)) (L (answered (with_ends k pid id) pid after (ends_reply first (lowest_free (fds_at (with_reader k pid id) pid))))))
          (place_same (with_reader (L k) pid id) (L (with_reader k pid id)) reader_lost pid)
          (answered_same (with_ends (L k) pid id) (L (with_ends k pid id)) ends_lost pid after (ends_reply first (lowest_free (fds_at (with_reader k pid id) pid))))

    -- a pipe where two entries are free
    pub make_pipe_lost : 2 ≤ free_count k.entries → (refused : Bool) → SameButNumbers (make_pipe (L k) pid after refused) (L (make_pipe k pid after refused))
    make_pipe_lost two refused =
        let roomy : nat_lt (free_count k.entries) 2 ≡ false = le-ltb (free_count k.entries) 2 two in
        let roomy_too : nat_lt (free_count (L k).entries) 2 ≡ false = le-ltb (free_count (L k).entries) 2 (omega (arith, two, free_less k.entries e f used)) in
        subst (λ (b : Bool). SameButNumbers (if b then refused_for (L k) pid after Open else rest (L k)) (L (make_pipe k pid after refused))) (sym roomy_too)
        (subst (λ (b : Bool). SameButNumbers (rest (L k)) (L (if b then refused_for k pid after Open else rest k))) (sym roomy) (by (nat_lt (free_count (fds_at k pid)) 2) refused refl)) where
          made : KernelState S → KernelState S
          made j = answered (with_ends j pid k.events) pid after (ends_reply (lowest_free (fds_at j pid)) (lowest_free (fds_at (with_reader j pid k.events) pid)))

          rest : KernelState S → KernelState S
          rest j = if nat_lt (free_count (fds_at j pid)) 2 then refused_for j pid after Fds else (if refused then refused_for j pid after Memory else made j)

          by : (b lacks : Bool) → nat_lt (free_count (fds_at k pid)) 2 ≡ b → SameButNumbers (if b then refused_for (L k) pid after Fds else (if lacks then refused_for (L k) pid after Memory else made (L k)))
              (L (if b then refused_for k pid after Fds else (if lacks then refused_for k pid after Memory else made k)))
          by true lacks is = same_itself (refused_for (L k) pid after Fds)
          by false true is = same_itself (refused_for (L k) pid after Memory)
          by false false is = made_lost k.events two (ltb-false (free_count (fds_at k pid)) 2 is)
