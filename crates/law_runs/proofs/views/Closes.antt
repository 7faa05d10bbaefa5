-- close and exit, as they are seen: an end of a pipe that is let go wakes sleepers, which isn't seen.
use Rattle.std.proofs.Common.{◌≡◌, ◌≢◌, ◌⊎◌, ℕ, zero, suc, ◌+◌, ◌-◌, ◌<◌, Bool, true, false, Option, Some, None, length, refl, sym, ap, ◌∙◌, subst, inl, inr, arith, get_or-set_other, get_or-set_same, length-set}
use Rattle.std.specs.Prelude.{◌==◌, nat_le, if◌then◌else◌, option_map, Ok, is_some}
use Rattle.std.proofs.lemmas.Bool.{cases_eq, ne_eqb}
use Rattle.byte_pipe.specs.PipeState.{PipeState, after_close_read, after_close_write}
use Rattle.user_calls.specs.declared.calls.Call.{Call}
use Rattle.user_calls.specs.declared.calls.Call.TheVariants.{Exit, Close}
use Rattle.user_calls.specs.declared.calls.Reply.TheVariants.{Done, Refused}
use Rattle.fd_table.specs.declared.names.Object.{Object}
use Rattle.fd_table.specs.declared.names.Object.TheVariants.{Input, Out, Diag, File, PipeRead, PipeWrite}
use Rattle.fd_table.specs.declared.descriptors.TheConstants.{DESCRIPTORS}
use Rattle.fd_table.specs.Entries.{Entries, OpenFile, entry_at, released, less_held, last_object}
use Rattle.fd_table.specs.Descriptors.{Descriptors, entry_of, without, after_close, close_answer}
use Rattle.fd_table.proofs.Lists.{within_list}
use Rattle.proc_table.specs.declared.states.Channel.{Channel}
use Rattle.proc_table.specs.declared.states.Channel.TheVariants.{PipeBytes, PipeRoom, Children}
use Rattle.proc_table.specs.declared.states.Status.TheVariants.{Zombie}
use Rattle.proc_table.specs.Slots.{Table, Slot, Process, at, is_number, is_child_of, is_zombie_status, parent_or_init, parent_of}
use Rattle.proc_table.specs.Calls.{fds_set, all_woken, exited, given, with_status, woken, woken_by_exit, parent_after, zombie_child}
use Rattle.proc_table.proofs.Changes.{exit_self, exit_other}
use Rattle.mem_files.specs.Files.{files}
use Rattle.kernel_model.specs.KernelState.{KernelState, fds_of, fds_at}
use Rattle.kernel_model.specs.Pipes.{Pipes, pipe_of, reader_gone, writer_gone}
use Rattle.kernel_model.specs.Replies.{answered, wakes}
use Rattle.kernel_model.specs.Descriptors.{let_go, let_go_of, taken_away, closed_by, closed_below, close, close_reply}
use Rattle.kernel_model.specs.Processes.{ended, exit}
use Rattle.kernel_model.specs.Events.{counted}
use Rattle.law_kernel.specs.Ends.{AreApart}
use Rattle.law_kernel.proofs.kernel.PipeNames.{apart_closed}
use Rattle.sh_machine.specs.State.{User}
use Rattle.process_model.specs.Seen.{Entry, zombie, live, act_of, fds_seen, seen_by, seen_slot, seen, Names, view}
use Rattle.process_model.specs.Shows.{ShowsIn}
use Rattle.process_model.specs.Effect.{Answers, ClosesAt, given as given_seen}
use Rattle.law_runs.proofs.views.Tables.{At, Others, others_then, at_fds, fds_others, at_woken, woken_others, woken_seen, seen_up}
use Rattle.law_runs.proofs.views.Fds.{seen_fd, seen_set}
use Rattle.law_runs.proofs.views.Showing.{Kept, KeptPipes, kept_all, kept_pipes, kept_reader_gone, kept_writer_gone, shows_on}
use Rattle.law_runs.proofs.views.Mid as during

-- ---- entries and pipes

less : (o : Option OpenFile) (f : OpenFile) → less_held o ≡ Some f → (h : OpenFile) × (o ≡ Some h) × (f.object ≡ h.object) × (f.offset ≡ h.offset)
less None f is = absurd (let z : ⊥ = cc in z)
less (Some h) f is = go (nat_le h.count 1) is
  where
    go : (b : Bool) → (if b then None else Some (record { object = h.object; count = h.count - 1; offset = h.offset })) ≡ Some f → (x : OpenFile) × (Some h ≡ Some x) × (f.object ≡ x.object) × (f.offset ≡ x.offset)
    go true is = absurd (let z : ⊥ = cc in z)
    go false is = let same : record { object = h.object; count = h.count - 1; offset = h.offset } ≡ f = cc in (h, refl, ap (λ (x : OpenFile). x.object) (sym same), ap (λ (x : OpenFile). x.offset) (sym same))

pub kept_released : (E : Entries) (e : ℕ) → Kept E (released E e)
kept_released E e = record { was = λ d f is. by d f is (cases_eq d e) }
  where
    by : (d : ℕ) (f : OpenFile) → entry_at (released E e) d ≡ Some f → (d ≡ e) ⊎ (d ≢ e) → (h : OpenFile) × (entry_at E d ≡ Some h) × (f.object ≡ h.object) × (f.offset ≡ h.offset)
    by d f is (inr ne) = (f, sym (get_or-set_other E e d (less_held (entry_at E e)) None ne) ∙ is, refl, refl)
    by d f is (inl eq) =
        let there : entry_at (released E e) e ≡ Some f = ap (entry_at (released E e)) (sym eq) ∙ is in
        let in_it : e < length (released E e) = within_list (released E e) e f there in
        let z = less (entry_at E e) f (sym (get_or-set_same E e (less_held (entry_at E e)) None (omega (arith, in_it, length-set {A = Option OpenFile} E e (less_held (entry_at E e))))) ∙ there) in
        (z.0, ap (entry_at E) eq ∙ z.1, z.2, z.3)

apart_reader : (P : Pipes) (id : ℕ) (o : Option PipeState) → AreApart P → AreApart (reader_gone P id o)
apart_reader P id None apart = apart
apart_reader P id (Some p) apart = apart_closed P id (after_close_read p) apart

apart_writer : (P : Pipes) (id : ℕ) (o : Option PipeState) → AreApart P → AreApart (writer_gone P id o)
apart_writer P id None apart = apart
apart_writer P id (Some p) apart = apart_closed P id (after_close_write p) apart

module _ (g : Names) (k : KernelState User) (p : ℕ) (q : Process User) where
  abbrev Mid : KernelState User → Descriptors → Type 0
  Mid m d = during.Mid g k p q m d

  -- ---- a close

  woken_mid : (m : KernelState User) (P : Pipes) (c : Channel) (d : Descriptors) → KeptPipes m.pipes P → AreApart P → Mid m d → Mid (wakes c (record m { pipes = P })) d
  woken_mid m P c d kept apart mid = record {
    own = at_woken m.table p q.parent q.machine q.reply d q.put c mid.own;
    others = others_then g.name k.table m.table (all_woken c m.table) p mid.others (woken_others g.name m.table p c);
    shows = shows_on g m.entries m.entries m.pipes P (files k.files) (files k.files) (k.events + 1 + 1) (k.events + 1 + 1) (kept_all m.entries) kept (λ name is. is) (omega arith) mid.shows;
    apart = apart;
    files = mid.files;
    input = mid.input;
    out = mid.out;
  }

  let_go_mid : (m : KernelState User) (o : Object) (d : Descriptors) → Mid m d → Mid (let_go m o) d
  let_go_mid m Input d mid = mid
  let_go_mid m Out d mid = mid
  let_go_mid m Diag d mid = mid
  let_go_mid m (File name mode) d mid = mid
  let_go_mid m (PipeRead id) d mid =
      woken_mid m (reader_gone m.pipes id (pipe_of m.pipes id)) (PipeRoom id) d (kept_reader_gone m.pipes id mid.apart) (apart_reader m.pipes id (pipe_of m.pipes id) mid.apart) mid
  let_go_mid m (PipeWrite id) d mid =
      woken_mid m (writer_gone m.pipes id (pipe_of m.pipes id)) (PipeBytes id) d (kept_writer_gone m.pipes id mid.apart) (apart_writer m.pipes id (pipe_of m.pipes id) mid.apart) mid

  fds_is : (m : KernelState User) (d : Descriptors) → Mid m d → fds_at m p ≡ d
  fds_is m d mid = ap fds_of mid.own.is

  closed_mid : (m : KernelState User) (d : Descriptors) (fd : ℕ) (entry : Option ℕ) → Mid m d → Mid (closed_by m p fd entry) (after_close d fd entry)
  closed_mid m d fd None mid = record {
    own = subst (λ x. At (fds_set m.table p x) p q.parent q.machine q.reply d q.put) (sym (fds_is m d mid)) (at_fds m.table p q.parent q.machine q.reply d d q.put mid.own);
    others = others_then g.name k.table m.table (fds_set m.table p (fds_at m p)) p mid.others (fds_others g.name m.table p (fds_at m p));
    shows = mid.shows;
    apart = mid.apart;
    files = mid.files;
    input = mid.input;
    out = mid.out;
  }
  closed_mid m d fd (Some e) mid = by (last_object (entry_at m.entries e))
    where
      taken : Mid (taken_away m p fd (Some e)) (without d fd)
      taken = record {
        own = subst (λ x. At (fds_set m.table p (without x fd)) p q.parent q.machine q.reply (without d fd) q.put) (sym (fds_is m d mid)) (at_fds m.table p q.parent q.machine q.reply d (without d fd) q.put mid.own);
        others = others_then g.name k.table m.table (fds_set m.table p (without (fds_at m p) fd)) p mid.others (fds_others g.name m.table p (without (fds_at m p) fd));
        shows = shows_on g m.entries (released m.entries e) m.pipes m.pipes (files k.files) (files k.files) (k.events + 1 + 1) (k.events + 1 + 1) (kept_released m.entries e) (kept_pipes m.pipes) (λ name is. is) (omega arith) mid.shows;
        apart = mid.apart;
        files = mid.files;
        input = mid.input;
        out = mid.out;
      }

      by : (o : Option Object) → Mid (let_go_of (taken_away m p fd (Some e)) (Ok o)) (without d fd)
      by None = taken
      by (Some o) = let_go_mid (taken_away m p fd (Some e)) o (without d fd) taken

  -- the descriptors below n are closed
  closed_all : (m : KernelState User) (d : Descriptors) (n : ℕ) → Mid m d → (e : Descriptors) × Mid (closed_below m p n) e
  unfolding closed_below
  closed_all m d zero mid = (d, mid)
  closed_all m d (suc n) mid =
      let z = closed_all m d n mid in
      let c = closed_below m p n in
      (after_close z.0 n (entry_of z.0 n), subst (λ (x : Descriptors). Mid (closed_by c p n (entry_of x n)) (after_close z.0 n (entry_of z.0 n))) (sym (fds_is c z.0 z.1)) (closed_mid c z.0 n (entry_of z.0 n) z.1))

  -- ---- an exit: children become init's

  given_same : (name : ℕ → Entry) (x : Slot User) → p ≢ 0 → seen_slot name (given p x) ≡ given_seen p (seen_slot name x)
  given_same name None up = refl
  given_same name (Some r) up = by (is_zombie_status r.status) r.parent
    where
      none : (b : Bool) → ◌≡◌ {A = ℕ} (if b then 0 else 0) 0
      none true = refl
      none false = refl

      one : (b : Bool) (n : ℕ) → parent_or_init (if b then Some 0 else Some n) ≡ (if b then 0 else n)
      one true n = refl
      one false n = refl

      by : (b : Bool) (parent : Option ℕ) → seen_by b name (record r { parent = parent_after p parent }) ≡ given_seen p (seen_by b name (record r { parent = parent }))
      by true None = ap zombie (sym (none (p == 0)))
      by false None = ap (λ n. live n (act_of r.machine r.reply) r.put (fds_seen name r.fds)) (sym (none (p == 0)))
      by true (Some n) = ap zombie (one (p == n) n)
      by false (Some n) = ap (λ m. live m (act_of r.machine r.reply) r.put (fds_seen name r.fds)) (one (p == n) n)

  woken_if : (name : ℕ → Entry) (b : Bool) (x y z : Slot User) → seen_slot name x ≡ seen_slot name z → seen_slot name y ≡ seen_slot name z → seen_slot name (if b then x else y) ≡ seen_slot name z
  woken_if name true x y z e f = e
  woken_if name false x y z e f = f

  exit_woken : (name : ℕ → Entry) (t : Table User) (x : Slot User) → seen_slot name (woken_by_exit t p x) ≡ seen_slot name x
  exit_woken name t x =
      let c = Children (parent_of (at t p)) in
      let once : seen_slot name (woken c x) ≡ seen_slot name x = woken_seen name c x in
      woken_if name (is_some (zombie_child t p)) (woken (Children 0) (woken c x)) (woken c x) x (woken_seen name (Children 0) (woken c x) ∙ once) once

  own_parent : (o : Option ℕ) → is_number p o ≡ false → parent_after p o ≡ o
  own_parent o other = ap (λ (b : Bool). if b then Some 0 else o) other

  others_exit : (m : KernelState User) → p ≢ 0 → Others g.name k.table m.table p → (r : ℕ) → r ≢ p → seen g.name (exited m.table p) r ≡ given_seen p (seen g.name k.table r)
  others_exit m up others zero ne = refl
  others_exit m up others (suc r) ne =
      ap (seen_slot g.name) (exit_other m.table p (suc r) ne) ∙ exit_woken g.name m.table (given p (at m.table (suc r)))
      ∙ given_same g.name (at m.table (suc r)) up ∙ ap (given_seen p) (others (suc r) ne)

  module _ (up : p ≢ 0) (is : at k.table p ≡ Some q) (alive : is_zombie_status q.status ≡ false) (shows : ShowsIn g k) (apart : AreApart k.pipes) where
    abbrev Called : KernelState User → Call → Type 0
    Called l call = during.Called g k p q l call

    abbrev next : User
    next = (during.act g k p q).next

    begun : Mid (counted k) q.fds
    begun = during.mid g k p q up is alive shows apart

    close_by : (fd : ℕ) (entry : Option ℕ) → ClosesAt (view g k) (view g (answered (closed_by (counted k) p fd entry) p next (close_reply (close_answer k.entries entry)))) p (parent_or_init q.parent) (during.act g k p q) (fds_seen g.name q.fds) fd (option_map g.name entry)
    close_by fd None = during.mid_answers g k p q up is alive shows (closed_by (counted k) p fd None) q.fds Refused (closed_mid (counted k) q.fds fd None begun)
    close_by fd (Some e) =
        let l = answered (closed_by (counted k) p fd (Some e)) p next Done in
        subst (λ d. Answers (view g k) (view g l) p (parent_or_init q.parent) (during.act g k p q) Done d) (seen_set g.name q.fds fd None)
        (during.mid_answers g k p q up is alive shows (closed_by (counted k) p fd (Some e)) (without q.fds fd) Done (closed_mid (counted k) q.fds fd (Some e) begun))

    after_files : (fd : ℕ) (entry : Option ℕ) → (closed_by (counted k) p fd entry).files ≡ k.files
    after_files fd entry = (closed_mid (counted k) q.fds fd entry begun).files

    pub closes : (fd : ℕ) → Called (close (counted k) p next fd) (Close fd)
    closes fd =
        let same = during.fds_are g k p q up is alive shows in
        let R : Option ℕ → KernelState User = λ entry. answered (closed_by (counted k) p fd entry) p next (close_reply (close_answer k.entries entry)) in
        let entry = entry_of q.fds fd in
        let mid = closed_mid (counted k) q.fds fd entry begun in
        subst (λ x. Called (R x) (Close fd)) (sym (ap (λ d. entry_of d fd) same)) (record {
          names = g;
          shows = subst (λ F. Rattle.process_model.specs.Shows.Shows g (R entry).entries (R entry).pipes (files F) (k.events + 1 + 1)) (sym (after_files fd entry)) mid.shows;
          effect = subst (λ y. ClosesAt (view g k) (view g (R entry)) p (parent_or_init q.parent) (during.act g k p q) (fds_seen g.name q.fds) fd y) (sym (seen_fd g.name q.fds fd)) (close_by fd entry);
        })

    pub exits : is_child_of p (at k.table p) ≡ false → Called (exit (counted k) p next) Exit
    exits no_child =
        let c = closed_all (counted k) q.fds DESCRIPTORS begun in
        let m = closed_below (counted k) p DESCRIPTORS in
        let other : is_number p q.parent ≡ false = sym (ap (is_child_of p) is) ∙ no_child in
        subst (λ l. Called l Exit) (sym (ap (λ (b : Bool). if b then answered (counted k) p next Refused else ended p m) (ne_eqb p 0 up))) (record {
          names = g;
          shows = subst (λ F. Rattle.process_model.specs.Shows.Shows g m.entries m.pipes (files F) (k.events + 1 + 1)) (sym c.1.files) c.1.shows;
          effect = record {
            here = seen_up g.name (exited m.table p) p up ∙ ap (seen_slot g.name) (exit_self m.table p ∙ ap (λ x. with_status Zombie (given p x)) c.1.own.is) ∙ ap (λ o. zombie (parent_or_init o)) (own_parent q.parent other);
            others = λ r ne. others_exit m up c.1.others r ne;
            rest = during.rest g k p q up is alive shows (ended p m) c.1.files c.1.input c.1.out;
          };
        })
