-- pipe, as it is seen.
use Rattle.std.proofs.Common.{◌≡◌, ◌≢◌, ◌⊎◌, ℕ, ◌+◌, ◌-◌, ◌<◌, ◌≤◌, Bool, true, false, [], Some, None, length, refl, sym, ap, ◌∙◌, subst, inl, inr, arith, get_or-set_other, get_or-set_same}
use Rattle.std.specs.Prelude.{nat_lt, if◌then◌else◌, slice_set}
use Rattle.std.proofs.lemmas.Bool.{cases_eq, ltb-false}
use Rattle.mem_files.specs.Files.{FileMap, files}
use Rattle.user_calls.specs.declared.calls.Call.{Call}
use Rattle.user_calls.specs.declared.calls.Call.TheVariants.{MakePipe}
use Rattle.user_calls.specs.declared.calls.Reply.TheVariants.{Ends}
use Rattle.fd_table.specs.declared.names.Object.TheVariants.{PipeRead, PipeWrite}
use Rattle.fd_table.specs.Entries.{OpenFile, entry_at, is_free, opened, added, added_at, lowest_free_entry, free_count}
use Rattle.fd_table.specs.Descriptors.{entry_of, lowest_free, installed, installed_at}
use Rattle.fd_table.proofs.Free.{found as free_found, install_taken, add_taken}
use Rattle.proc_table.specs.Slots.{Process, at, is_zombie_status}
use Rattle.proc_table.specs.Calls.{with_fds}
use Rattle.proc_table.proofs.Changes.{kept}
use Rattle.kernel_model.specs.declared.events.Full.TheVariants.{Open, Fds as NoFds, Memory}
use Rattle.kernel_model.specs.KernelState.{KernelState, fds_of, fds_at}
use Rattle.kernel_model.specs.Pipes.{pipe_of, with_new}
use Rattle.kernel_model.specs.Replies.{answered, refused_for}
use Rattle.kernel_model.specs.Descriptors.{opened_at, with_open, with_reader, with_ends, ends_reply, make_pipe}
use Rattle.kernel_model.specs.Events.{counted}
use Rattle.sh_machine.specs.State.{User}
use Rattle.process_model.specs.Seen.{reader, writer, fds_seen, seen_slot, Names}
use Rattle.process_model.specs.Shows.{Shows, ShowsIn}
use Rattle.process_model.specs.Effect.{lowest}
use Rattle.law_runs.proofs.views.Tables.{At}
use Rattle.law_runs.proofs.views.Fds.{seen_lowest}
use Rattle.law_runs.proofs.views.Showing.{shows_later, with_bytes, bytes_here, bytes_elsewhere, shows_new_pipe}
use Rattle.law_runs.proofs.views.Opened.{with_name, shows_opened}
use Rattle.law_runs.proofs.views.Mid as during
use Rattle.law_runs.proofs.views.Installs.{entry_free, NotIn, more_held, opened_own, opened_others, opened_fds, no_reader, no_writer}
use Rattle.law_runs.proofs.views.Installs as installs
use Rattle.kernel_model.proofs.Quiet.{is_marked}
use Rattle.fd_table.proofs.Lists.{some_is}

module _ (g : Names) (k : KernelState User) (p : ℕ) (q : Process User) (up : p ≢ 0) (is : at k.table p ≡ Some q) (alive : is_zombie_status q.status ≡ false) (shows : ShowsIn g k) (used : (r fd e : ℕ) → entry_of (fds_at k r) fd ≡ Some e → (f : OpenFile) × (entry_at k.entries e ≡ Some f)) where
  abbrev Called : KernelState User → Call → Type 0
  Called l call = during.Called g k p q l call

  abbrev next : User
  next = (during.act g k p q).next

  own : At k.table p q.parent q.machine q.reply q.fds q.put
  own = during.own g k p q up is alive shows

  nobody : (e : ℕ) → entry_at k.entries e ≡ None → (r : ℕ) → NotIn (fds_at k r) e
  nobody = installs.nobody g k p q up is alive shows used

  mine : (e : ℕ) → entry_at k.entries e ≡ None → NotIn q.fds e
  mine = installs.mine g k p q up is alive shows used

  module _ (none : pipe_of k.pipes (k.events + 1) ≡ None) where
    abbrev id : ℕ
    id = k.events + 1

    module _ (e1 e2 fd1 fd2 : ℕ) (low_e1 : lowest_free_entry k.entries ≡ Some e1) (low_e2 : lowest_free_entry (added k.entries (PipeRead id)) ≡ Some e2) (low1 : lowest_free q.fds ≡ Some fd1) (low2 : lowest_free (slice_set q.fds fd1 (Some e1)) ≡ Some fd2) where
      abbrev g1 : Names
      g1 = with_name (with_bytes g id []) e1 (reader id)

      abbrev g2 : Names
      g2 = with_name g1 e2 (writer id)

      abbrev m0 : KernelState User
      m0 = record (counted k) { pipes = with_new k.pipes id }

      abbrev m1 : KernelState User
      m1 = opened_at m0 p (PipeRead id) (Some e1)

      abbrev m2 : KernelState User
      m2 = opened_at m1 p (PipeWrite id) (Some e2)

      entries1 : added k.entries (PipeRead id) ≡ slice_set k.entries e1 (Some (opened (PipeRead id)))
      entries1 = ap (λ o. added_at k.entries o (PipeRead id)) low_e1

      entries2 : m2.entries ≡ slice_set (added k.entries (PipeRead id)) e2 (Some (opened (PipeWrite id)))
      entries2 = ap (λ o. added_at (added k.entries (PipeRead id)) o (PipeWrite id)) low_e2

      free1 : (e1 < length k.entries) × (entry_at k.entries e1 ≡ None)
      free1 = entry_free k.entries e1 low_e1

      free2 : (e2 < length (added k.entries (PipeRead id))) × (entry_at (added k.entries (PipeRead id)) e2 ≡ None)
      free2 = entry_free (added k.entries (PipeRead id)) e2 low_e2

      apart : e1 ≢ e2
      apart same =
          let there : entry_at (added k.entries (PipeRead id)) e1 ≡ Some (opened (PipeRead id)) = ap (λ E. entry_at E e1) entries1 ∙ get_or-set_same k.entries e1 (Some (opened (PipeRead id))) None free1.0 in
          let z : None ≡ Some (opened (PipeRead id)) = sym free2.1 ∙ ap (entry_at (added k.entries (PipeRead id))) (sym same) ∙ there in
          let w : ⊥ = cc in w

      was_free2 : entry_at k.entries e2 ≡ None
      was_free2 = sym (get_or-set_other k.entries e1 e2 (Some (opened (PipeRead id))) None (λ same. apart (sym same))) ∙ sym (ap (λ E. entry_at E e2) entries1) ∙ free2.1

      own1 : At m1.table p q.parent q.machine q.reply (slice_set q.fds fd1 (Some e1)) q.put
      own1 = opened_own g.name k.table p q.parent q.machine q.reply q.fds q.put own e1 fd1 (reader id) low1

      own2 : At m2.table p q.parent q.machine q.reply (slice_set (slice_set q.fds fd1 (Some e1)) fd2 (Some e2)) q.put
      own2 = opened_own g1.name m1.table p q.parent q.machine q.reply (slice_set q.fds fd1 (Some e1)) q.put own1 e2 fd2 (writer id) low2

      none2 : NotIn (slice_set q.fds fd1 (Some e1)) e2
      none2 = more_held q.fds fd1 e1 e2 (mine e2 was_free2) apart

      nobody2 : (r : ℕ) → NotIn (fds_of (at m1.table r)) e2
      nobody2 r = by (cases_eq r p)
        where
          by : (r ≡ p) ⊎ (r ≢ p) → NotIn (fds_of (at m1.table r)) e2
          by (inl same) = subst (λ d. NotIn d e2) (sym (ap (λ n. fds_of (at m1.table n)) same ∙ ap fds_of own1.is)) none2
          by (inr ne) = subst (λ s. NotIn (fds_of s) e2) (sym (kept k.table p r (with_fds (installed (fds_of (at k.table p)) e1) (at k.table p)) ne)) (nobody e2 was_free2 r)

      others2 : (r : ℕ) → r ≢ p → seen_slot g2.name (at m2.table r) ≡ seen_slot g.name (at k.table r)
      others2 r ne =
          opened_others g1.name m1.table p q.parent q.machine q.reply (slice_set q.fds fd1 (Some e1)) q.put own1 e2 fd2 (writer id) low2 nobody2 r ne
          ∙ opened_others g.name k.table p q.parent q.machine q.reply q.fds q.put own e1 fd1 (reader id) low1 (nobody e1 free1.1) r ne

      seen1 : fds_seen g1.name (slice_set q.fds fd1 (Some e1)) ≡ slice_set (fds_seen g.name q.fds) fd1 (Some (reader id))
      seen1 = opened_fds g.name k.table p q.parent q.machine q.reply q.fds q.put own e1 fd1 (reader id) low1 (mine e1 free1.1)

      seen2 : fds_seen g2.name (slice_set (slice_set q.fds fd1 (Some e1)) fd2 (Some e2)) ≡ slice_set (slice_set (fds_seen g.name q.fds) fd1 (Some (reader id))) fd2 (Some (writer id))
      seen2 = opened_fds g1.name m1.table p q.parent q.machine q.reply (slice_set q.fds fd1 (Some e1)) q.put own1 e2 fd2 (writer id) low2 none2 ∙ ap (λ l. slice_set l fd2 (Some (writer id))) seen1

      abbrev F : FileMap
      F = files k.files

      shows0 : Shows (with_bytes g id []) k.entries (with_new k.pipes id) F (id + 1)
      shows0 = shows_later (with_bytes g id []) k.entries (with_new k.pipes id) F id (shows_new_pipe g k.entries k.pipes F id id none shows)

      shows1 : Shows g1 (added k.entries (PipeRead id)) (with_new k.pipes id) F (id + 1)
      shows1 = subst (λ E. Shows g1 E (with_new k.pipes id) F (id + 1)) (sym entries1)
          (shows_opened (with_bytes g id []) k.entries (with_new k.pipes id) F (id + 1) e1 (PipeRead id) (reader id) free1.1 free1.0 (refl, omega arith) (λ d f it. no_reader g F id (g.name d) f.object f.offset (shows.named d f it)) shows0)

      new2 : (d : ℕ) (f : OpenFile) → entry_at (added k.entries (PipeRead id)) d ≡ Some f → g1.name d ≢ writer id
      new2 d f it = by (cases_eq d e1)
        where
          by : (d ≡ e1) ⊎ (d ≢ e1) → g1.name d ≢ writer id
          by (inl same) it = let z : reader id ≡ writer id = sym (ap g1.name same ∙ Rattle.law_runs.proofs.views.Opened.renamed_self g.name e1 (reader id)) ∙ it in let w : ⊥ = cc in w
          by (inr ne) same =
              let was : entry_at k.entries d ≡ Some f = sym (get_or-set_other k.entries e1 d (Some (opened (PipeRead id))) None ne) ∙ sym (ap (λ E. entry_at E d) entries1) ∙ it in
              no_writer g F id (g.name d) f.object f.offset (shows.named d f was) (sym (Rattle.law_runs.proofs.views.Opened.renamed_other g.name e1 d (reader id) ne) ∙ same)

      shows2 : Shows g2 m2.entries (with_new k.pipes id) F (id + 1)
      shows2 = subst (λ E. Shows g2 E (with_new k.pipes id) F (id + 1)) (sym entries2)
          (shows_opened g1 (added k.entries (PipeRead id)) (with_new k.pipes id) F (id + 1) e2 (PipeWrite id) (writer id) free2.1 free2.0 (refl, omega arith) new2 shows1)

      pub pipe_made : Called (answered m2 p next (Ends fd1 fd2)) MakePipe
      pipe_made = record {
        names = g2;
        shows = shows2;
        effect = record {
          read_fd = fd1;
          write_fd = fd2;
          read_end = seen_lowest g.name q.fds ∙ low1;
          write_end = ap lowest (sym seen1) ∙ seen_lowest g1.name (slice_set q.fds fd1 (Some e1)) ∙ low2;
          empty = bytes_here g id [];
          others = record { pipes = λ j ne. bytes_elsewhere g id j [] ne; places = λ e. refl; files = refl; input = refl; out = refl };
          slots = installs.open_sets g k p q up is alive shows used g2 m2 (slice_set (slice_set q.fds fd1 (Some e1)) fd2 (Some e2)) _ (Ends fd1 fd2) own2 others2 seen2;
        };
      }

    -- two entries and two descriptors are free, so that both ends are opened
    both_opened : 2 ≤ free_count k.entries → 2 ≤ free_count q.fds → Called (answered (with_ends (counted k) p id) p next (ends_reply (lowest_free (fds_at k p)) (lowest_free (fds_at (with_reader (counted k) p id) p)))) MakePipe
    both_opened entries places =
        let e1 = some_is (lowest_free_entry k.entries) ((free_found is_free k.entries).1 (omega (arith, entries))) in
        let e2 = some_is (lowest_free_entry (added k.entries (PipeRead id))) ((free_found is_free (added k.entries (PipeRead id))).1 (omega (arith, entries, add_taken k.entries (PipeRead id)))) in
        let fd1 = some_is (lowest_free q.fds) ((free_found is_free q.fds).1 (omega (arith, places))) in
        let taken : free_count (slice_set q.fds fd1.0 (Some e1.0)) ≡ free_count q.fds - 1 = ap (λ o. free_count (installed_at q.fds o e1.0)) (sym fd1.1) ∙ install_taken q.fds e1.0 in
        let fd2 = some_is (lowest_free (slice_set q.fds fd1.0 (Some e1.0))) ((free_found is_free (slice_set q.fds fd1.0 (Some e1.0))).1 (omega (arith, places, taken))) in
        let m0 : KernelState User = record (counted k) { pipes = with_new k.pipes id } in
        let m1 : KernelState User = opened_at m0 p (PipeRead id) (Some e1.0) in
        let first : with_reader (counted k) p id ≡ m1 = ap (opened_at m0 p (PipeRead id)) e1.1 in
        let same = during.fds_are g k p q up is alive shows in
        let at1 = (opened_own g.name k.table p q.parent q.machine q.reply q.fds q.put own e1.0 fd1.0 (reader id) fd1.1).is in
        let second : with_ends (counted k) p id ≡ opened_at m1 p (PipeWrite id) (Some e2.0) = ap (λ m. with_open m p (PipeWrite id)) first ∙ ap (opened_at m1 p (PipeWrite id)) e2.1 in
        let reply : ends_reply (lowest_free (fds_at k p)) (lowest_free (fds_at (with_reader (counted k) p id) p)) ≡ Ends fd1.0 fd2.0 =
        ap (λ d. ends_reply (lowest_free d) (lowest_free (fds_at (with_reader (counted k) p id) p))) same
        ∙ ap (λ m. ends_reply (lowest_free q.fds) (lowest_free (fds_at m p))) first
        ∙ ap (λ s. ends_reply (lowest_free q.fds) (lowest_free (fds_of s))) at1
        ∙ ap (λ o. ends_reply o (lowest_free (slice_set q.fds fd1.0 (Some e1.0)))) fd1.1
        ∙ ap (λ o. ends_reply (Some fd1.0) o) fd2.1 in
        subst (λ l. Called l MakePipe) (sym (ap (λ m. answered m p next (ends_reply (lowest_free (fds_at k p)) (lowest_free (fds_at (with_reader (counted k) p id) p)))) second ∙ ap (answered (opened_at m1 p (PipeWrite id) (Some e2.0)) p next) reply))
        (pipe_made e1.0 e2.0 fd1.0 fd2.0 e1.1 e2.1 fd1.1 fd2.1)

    pub pipes : (refused : Bool) → (make_pipe (counted k) p next refused).full ≡ None → Called (make_pipe (counted k) p next refused) MakePipe
    pipes refused full = no_entries (nat_lt (free_count k.entries) 2) refl full
      where
        made : KernelState User
        made = answered (with_ends (counted k) p id) p next (ends_reply (lowest_free (fds_at k p)) (lowest_free (fds_at (with_reader (counted k) p id) p)))

        no_memory : 2 ≤ free_count k.entries → 2 ≤ free_count q.fds → (b : Bool) → (if b then refused_for (counted k) p next Memory else made).full ≡ None → Called (if b then refused_for (counted k) p next Memory else made) MakePipe
        no_memory e f true full = absurd (is_marked k.full Memory full)
        no_memory e f false full = both_opened e f

        no_fds : 2 ≤ free_count k.entries → (b : Bool) → nat_lt (free_count (fds_at k p)) 2 ≡ b → (if b then refused_for (counted k) p next NoFds else (if refused then refused_for (counted k) p next Memory else made)).full ≡ None
            → Called (if b then refused_for (counted k) p next NoFds else (if refused then refused_for (counted k) p next Memory else made)) MakePipe
        no_fds e true test full = absurd (is_marked k.full NoFds full)
        no_fds e false test full = no_memory e (subst (λ d. 2 ≤ free_count d) (during.fds_are g k p q up is alive shows) (ltb-false (free_count (fds_at k p)) 2 test)) refused full

        no_entries : (b : Bool) → nat_lt (free_count k.entries) 2 ≡ b
            → (if b then refused_for (counted k) p next Open else (if nat_lt (free_count (fds_at k p)) 2 then refused_for (counted k) p next NoFds else (if refused then refused_for (counted k) p next Memory else made))).full ≡ None
            → Called (if b then refused_for (counted k) p next Open else (if nat_lt (free_count (fds_at k p)) 2 then refused_for (counted k) p next NoFds else (if refused then refused_for (counted k) p next Memory else made))) MakePipe
        no_entries true test full = absurd (is_marked k.full Open full)
        no_entries false test full = no_fds (ltb-false (free_count k.entries) 2 test) (nat_lt (free_count (fds_at k p)) 2) refl full
