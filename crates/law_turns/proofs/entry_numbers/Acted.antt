-- Each of the ten calls, made in two kernels that are the same but for the numbers of their entries: they are so again.
use Rattle.std.proofs.Common.{◌≡◌, ℕ, ◌≤◌, List, [], Bool, true, false, Option, Some, None, length, refl, sym, ap, subst, ◌∙◌, arith}
use Rattle.std.proofs.lemmas.Bool.{ltb-false}
use Rattle.std.specs.Prelude.{IsSome, if◌then◌else◌, nat_lt, nat_le, ◌==◌, is_none, Result}
use Rattle.user_calls.specs.declared.calls.Call.{Call}
use Rattle.user_calls.specs.declared.calls.Call.TheVariants.{Fork, Exec, Exit, Wait, MakePipe, Read, Write, OpenFile, Close, Dup}
use Rattle.user_calls.specs.declared.calls.Mode.{Mode}
use Rattle.user_calls.specs.declared.calls.Reply.{Reply}
use Rattle.user_calls.specs.declared.calls.Reply.TheVariants.{Refused}
use Rattle.fd_table.specs.declared.faults.FdFault.{FdFault}
use Rattle.fd_table.specs.declared.names.Object.{Object}
use Rattle.fd_table.specs.declared.names.Object.TheVariants.{File, PipeRead, PipeWrite}
use Rattle.fd_table.specs.Entries.{Entries, is_free, free_count}
use Rattle.fd_table.specs.Descriptors.{lowest_free}
use Rattle.fd_table.specs.Holders.{CountHolders}
use Rattle.fd_table.proofs.Free.{found}
use Rattle.mem_files.specs.Name.{is_openable}
use Rattle.mem_files.specs.Files.{files}
use Rattle.mem_files.specs.Listing.{max_files}
use Rattle.kernel_model.specs.declared.events.Full.TheVariants.{Open, Fds, Files, Memory}
use Rattle.kernel_model.specs.KernelState.{KernelState, fds_at}
use Rattle.kernel_model.specs.Pipes.{with_new}
use Rattle.kernel_model.specs.Modes.{empties, entry_mode, reads}
use Rattle.kernel_model.specs.Replies.{answered, refused_for}
use Rattle.kernel_model.specs.Sound.{IsMid, tables}
use Rattle.kernel_model.specs.Descriptors.{let_go_of, with_open, with_reader, with_ends, ends_reply, make_pipe}
use Rattle.kernel_model.specs.Opening.{emptied_if, with_bytes, open_here, open_reply, open_for_reading, open_for_writing, open_file}
use Rattle.kernel_model.specs.Events.{acted}
use Rattle.kernel_model.proofs.Opening.{open_mid}
use Rattle.kernel_model.specs.Numbers.{Numbering, AreRenumbered, IsRenumbered, SameButNumbers, renumbered}
use Rattle.law_turns.proofs.entry_numbers.Opening.{with_open_so}
use Rattle.law_turns.proofs.entry_numbers.Tables.{free_places}
use Rattle.law_turns.proofs.entry_numbers.Calls.{let_go_of_so, here, place, fds, answering, refusing, refuses, close_so, fork_so, exit_so, wait_so, dup_call_so, read_so, write_so}

-- an open and a pipe may take other numbers in each of the kernels, so that the numbering changes
module _ {S : Type 0} (n : Numbering) (pid : ℕ) (after : S) where
  abbrev under : Entries → KernelState S → KernelState S
  under E k = renumbered n.to E k

  so : (k l : KernelState S) → IsRenumbered n k l → SameButNumbers k l
  so k l r = record { numbering = n; is = r }

  refused_so : (k : KernelState S) (E : Entries) → AreRenumbered n k.entries E → SameButNumbers (answered k pid after Refused) (answered (under E k) pid after Refused)
  refused_so k E are = so (answered k pid after Refused) (answered (under E k) pid after Refused) (refuses n pid after k E are)

  full_so : (k : KernelState S) (E : Entries) (full : _) → AreRenumbered n k.entries E → SameButNumbers (refused_for k pid after full) (refused_for (under E k) pid after full)
  full_so k E full are = so (refused_for k pid after full) (refused_for (under E k) pid after full) (refusing n pid after k (under E k) full (here n pid k E are))

  pick : (c : Bool) (x y u v : KernelState S) → SameButNumbers x u → SameButNumbers y v → SameButNumbers (if c then x else y) (if c then u else v)
  pick true x y u v is or = is
  pick false x y u v is or = or

  branch : (b c : Bool) (x y u v : KernelState S) → c ≡ b → SameButNumbers x u → (b ≡ false → SameButNumbers y v) → SameButNumbers (if b then x else y) (if c then u else v)
  branch b c x y u v same is or = subst (λ (r : Bool). SameButNumbers (if b then x else y) (if r then u else v)) (sym same) (by b or) where
    by : (r : Bool) → (r ≡ false → SameButNumbers y v) → SameButNumbers (if r then x else y) (if r then u else v)
    by true or = is
    by false or = or refl

  -- ---- open

  open_here_so : (k : KernelState S) (E : Entries) → AreRenumbered n k.entries E → CountHolders k.entries (tables k.table) → (file : List ℕ) (mode : Mode) → SameButNumbers (open_here k pid after file mode) (open_here (under E k) pid after file mode)
  open_here_so k E are counts file mode =
      let object = File file (entry_mode mode) in
      let s = with_open_so n k E are counts pid object in
      let reply = open_reply (lowest_free (fds_at k pid)) in
      subst (λ (p : Option ℕ). SameButNumbers (open_here k pid after file mode) (answered (with_open (under E k) pid object) pid after (open_reply p))) (sym (place n pid k E))
      (record { numbering = s.numbering; is = answering s.numbering pid after (with_open k pid object) (with_open (under E k) pid object) reply s.is })

  module _ (k : KernelState S) (E : Entries) (are : AreRenumbered n k.entries E) (counts : CountHolders k.entries (tables k.table)) (file : List ℕ) (mode : Mode) (refused : Bool) where
    emptied_so : (b : Bool) → SameButNumbers (open_here (emptied_if b k file) pid after file mode) (open_here (emptied_if b (under E k) file) pid after file mode)
    emptied_so true = open_here_so (with_bytes k file []) E are counts file mode
    emptied_so false = open_here_so k E are counts file mode

    for_reading_so : (o : Option (List ℕ)) → SameButNumbers (open_for_reading k pid after file mode o) (open_for_reading (under E k) pid after file mode o)
    for_reading_so None = refused_so k E are
    for_reading_so (Some bytes) = open_here_so k E are counts file mode

    for_writing_so : (o : Option (List ℕ)) → SameButNumbers (open_for_writing k pid after file mode refused o) (open_for_writing (under E k) pid after file mode refused o)
    for_writing_so None =
        pick (nat_le max_files (length k.files)) _ _ _ _ (full_so k E Files are) (pick refused _ _ _ _ (full_so k E Memory are) (open_here_so (with_bytes k file []) E are counts file mode))
    for_writing_so (Some bytes) = emptied_so (empties mode)

    open_so : SameButNumbers (open_file k pid after file mode refused) (open_file (under E k) pid after file mode refused)
    open_so =
        branch (free_count k.entries == 0) (free_count E == 0) _ _ _ _ (ap (λ (m : ℕ). m == 0) are.free) (full_so k E Open are) (λ _.
        branch (is_none (lowest_free (fds_at k pid))) (is_none (lowest_free (fds_at (under E k) pid))) _ _ _ _ (ap is_none (place n pid k E)) (full_so k E Fds are) (λ _.
        pick (is_openable file) _ _ _ _ (pick (reads mode) _ _ _ _ (for_reading_so (files k.files file)) (for_writing_so (files k.files file))) (refused_so k E are)))

  -- ---- pipe

  module _ (k : KernelState S) (E : Entries) (are : AreRenumbered n k.entries E) (running : ℕ) (mid : IsMid running k.table k.entries pid) (id : ℕ) where
    reader_so : SameButNumbers (with_reader k pid id) (with_reader (under E k) pid id)
    reader_so = with_open_so n (record k { pipes = with_new k.pipes id }) E are mid.sound.counts pid (PipeRead id)

    reader_counts : 2 ≤ free_count (fds_at k pid) → CountHolders (with_reader k pid id).entries (tables (with_reader k pid id).table)
    reader_counts two =
        let some : IsSome (lowest_free (fds_at k pid)) = (found is_free (fds_at k pid)).1 (omega (arith, two)) in
        (open_mid running pid (record k { pipes = with_new k.pipes id }) (PipeRead id) some mid).sound.counts

    ends_so : 2 ≤ free_count (fds_at k pid) → SameButNumbers (with_ends k pid id) (with_ends (under E k) pid id)
    ends_so two =
        let s = reader_so in
        subst (λ (j : KernelState S). SameButNumbers (with_ends k pid id) (with_open j pid (PipeWrite id))) s.is.rest
        (with_open_so s.numbering (with_reader k pid id) (with_reader (under E k) pid id).entries s.is.entries (reader_counts two) pid (PipeWrite id))

    second_place : lowest_free (fds_at (with_reader (under E k) pid id) pid) ≡ lowest_free (fds_at (with_reader k pid id) pid)
    second_place =
        let s = reader_so in
        sym (ap (λ (j : KernelState S). lowest_free (fds_at j pid)) s.is.rest) ∙ place s.numbering pid (with_reader k pid id) (with_reader (under E k) pid id).entries

    made_so : 2 ≤ free_count (fds_at k pid) → SameButNumbers (answered (with_ends k pid id) pid after (ends_reply (lowest_free (fds_at k pid)) (lowest_free (fds_at (with_reader k pid id) pid))))
        (answered (with_ends (under E k) pid id) pid after (ends_reply (lowest_free (fds_at (under E k) pid)) (lowest_free (fds_at (with_reader (under E k) pid id) pid))))
    made_so two =
        let s = ends_so two in
        let now : Reply → KernelState S = λ r. answered (with_ends (under E k) pid id) pid after r in
        let reply = ends_reply (lowest_free (fds_at k pid)) (lowest_free (fds_at (with_reader k pid id) pid)) in
        subst (λ (r : Reply). SameButNumbers (answered (with_ends k pid id) pid after reply) (now r)) (sym (λ i. ends_reply (place n pid k E i) (second_place i)))
        (record { numbering = s.numbering; is = answering s.numbering pid after (with_ends k pid id) (with_ends (under E k) pid id) reply s.is })

  pipe_so : (k : KernelState S) (E : Entries) → AreRenumbered n k.entries E → (running : ℕ) → IsMid running k.table k.entries pid → (refused : Bool) → SameButNumbers (make_pipe k pid after refused) (make_pipe (under E k) pid after refused)
  pipe_so k E are running mid refused =
      let free = λ (j : KernelState S). nat_lt (free_count (fds_at j pid)) 2 in
      branch (nat_lt (free_count k.entries) 2) (nat_lt (free_count E) 2) _ _ _ _ (ap (λ (m : ℕ). nat_lt m 2) are.free) (full_so k E Open are) (λ _.
      branch (free k) (free (under E k)) _ _ _ _ (ap (λ (m : ℕ). nat_lt m 2) (ap free_count (fds n pid k E) ∙ free_places n.to (fds_at k pid))) (full_so k E Fds are) (λ roomy.
      pick refused _ _ _ _ (full_so k E Memory are) (made_so k E are running mid k.events (ltb-false (free_count (fds_at k pid)) 2 roomy))))

  pub acted_under : (k : KernelState S) (E : Entries) → AreRenumbered n k.entries E → (running : ℕ) → IsMid running k.table k.entries pid → (call : Call) (refused : Bool) → SameButNumbers (acted k pid after call refused) (acted (under E k) pid after call refused)
  acted_under k E are running mid Fork refused = so _ _ (fork_so n pid after k E are)
  acted_under k E are running mid (Exec found) refused = so _ _ (answering n pid after k (under E k) _ (here n pid k E are))
  acted_under k E are running mid Exit refused = so _ _ (exit_so n pid after k (under E k) (here n pid k E are))
  acted_under k E are running mid Wait refused = so _ _ (wait_so n pid after k E are)
  acted_under k E are running mid MakePipe refused = pipe_so k E are running mid refused
  acted_under k E are running mid (Read fd m) refused = so _ _ (read_so n pid after k fd m E are)
  acted_under k E are running mid (Write fd b) refused = so _ _ (write_so n pid after k fd b refused E are)
  acted_under k E are running mid (OpenFile file mode) refused = open_so k E are mid.sound.counts file mode refused
  acted_under k E are running mid (Close fd) refused = so _ _ (close_so n pid after k (under E k) fd (here n pid k E are))
  acted_under k E are running mid (Dup fd) refused = so _ _ (dup_call_so n pid after k fd E are)

-- any call of a process that runs
pub acted_same : {S : Type 0} (k l : KernelState S) (running pid : ℕ) (after : S) (call : Call) (refused : Bool) → IsMid running k.table k.entries pid → SameButNumbers k l → SameButNumbers (acted k pid after call refused) (acted l pid after call refused)
acted_same k l running pid after call refused mid a =
    subst (λ (j : KernelState _). SameButNumbers (acted k pid after call refused) (acted j pid after call refused)) a.is.rest (acted_under a.numbering pid after k l.entries a.is.entries running mid call refused)

-- ---- parts of calls

module _ {S : Type 0} (k l : KernelState S) (a : SameButNumbers k l) where
  pub answered_same : (pid : ℕ) (after : S) (reply : Reply) → SameButNumbers (answered k pid after reply) (answered l pid after reply)
  answered_same pid after reply = record { numbering = a.numbering; is = answering a.numbering pid after k l reply a.is }

  pub let_go_same : (r : Result (Option Object) FdFault) → SameButNumbers (let_go_of k r) (let_go_of l r)
  let_go_same r = record { numbering = a.numbering; is = let_go_of_so a.numbering 0 k l r a.is }

  pub place_same : (pid : ℕ) → lowest_free (fds_at l pid) ≡ lowest_free (fds_at k pid)
  place_same pid = sym (ap (λ (j : KernelState S). lowest_free (fds_at j pid)) a.is.rest) ∙ place a.numbering pid k l.entries
