-- What is opened gets a free entry and a free descriptor, and a name that is not in use yet.
use Rattle.std.proofs.Common.{◌≡◌, ◌≢◌, ◌⊎◌, ℕ, ◌-◌, ◌<◌, false, Option, Some, None, length, sym, ap, ◌∙◌, subst, inl, inr, arith, get_or-set_other, get_or-set_same}
use Rattle.std.specs.Prelude.{slice_set}
use Rattle.std.proofs.lemmas.Bool.{cases_eq}
use Rattle.mem_files.specs.Files.{FileMap}
use Rattle.user_calls.specs.declared.calls.Call.{Call}
use Rattle.user_calls.specs.declared.calls.Reply.{Reply}
use Rattle.fd_table.specs.declared.names.Object.{Object}
use Rattle.fd_table.specs.declared.names.Object.TheVariants.{Input, Out, Diag, File, PipeRead, PipeWrite}
use Rattle.fd_table.specs.Entries.{Entries, OpenFile, entry_at, is_free, lowest_free_entry}
use Rattle.fd_table.specs.Descriptors.{Descriptors, entry_of, lowest_free, installed, installed_at}
use Rattle.fd_table.proofs.Lists.{position_found, within_list}
use Rattle.proc_table.specs.Slots.{Table, Process, at, is_zombie_status, parent_or_init}
use Rattle.proc_table.specs.Calls.{readied, fds_set, with_fds}
use Rattle.proc_table.proofs.Changes.{kept}
use Rattle.kernel_model.specs.KernelState.{KernelState, fds_of, fds_at}
use Rattle.kernel_model.specs.Replies.{answered}
use Rattle.sh_machine.specs.State.{User}
use Rattle.process_model.specs.Seen.{Entry, input, out, diag, reader, writer, file, Fds, act_of, fds_seen, live, seen_slot, Names, view}
use Rattle.process_model.specs.Shows.{IsNamed, ShowsIn}
use Rattle.process_model.specs.Effect.{Sets, answered as answered_seen}
use Rattle.law_runs.proofs.views.Tables.{At, at_fds, at_ready, ready_others, seen_at, seen_up, seen_alike}
use Rattle.law_runs.proofs.views.Fds.{seen_set}
use Rattle.law_runs.proofs.views.Opened.{renamed, fds_renamed, slot_renamed}
use Rattle.law_runs.proofs.views.Mid as during
use Rattle.fd_table.proofs.Counting.{free_is_none}

-- the lowest free entry is free
pub entry_free : (E : Entries) (e : ℕ) → lowest_free_entry E ≡ Some e → (e < length E) × (entry_at E e ≡ None)
entry_free E e low = let z = position_found is_free E None e low in (z.0, free_is_none (entry_at E e) z.1)

-- no descriptor of the table holds the entry
abbrev pub NotIn : Descriptors → ℕ → Type 0
NotIn d e = (fd n : ℕ) → entry_of d fd ≡ Some n → n ≢ e

-- a descriptor more, which holds another entry
pub more_held : (d : Descriptors) (place i e : ℕ) → NotIn d e → i ≢ e → NotIn (slice_set d place (Some i)) e
more_held d place i e none ne fd n is = by (cases_eq fd place)
  where
    by : (fd ≡ place) ⊎ (fd ≢ place) → n ≢ e
    by (inr other) = none fd n (sym (get_or-set_other d place fd (Some i) None other) ∙ is)
    by (inl same) =
        let within = within_list (slice_set d place (Some i)) fd n is in
        let here = get_or-set_same d place (Some i) None (omega (arith, within, same, Rattle.std.proofs.Common.length-set {A = Option ℕ} d place (Some i))) in
        let z : Some i ≡ Some n = sym here ∙ ap (entry_of (slice_set d place (Some i))) (sym same) ∙ is in
        let w : i ≡ n = cc in
        λ it. ne (w ∙ it)

-- ---- an open, in a table of processes

module _ (name : ℕ → Entry) (t : Table User) (p : ℕ) (parent : Option ℕ) (m : User) (r : Reply) (d : Descriptors) (put : ℕ) (own : At t p parent m r d put) (e place : ℕ) (x : Entry) (low : lowest_free d ≡ Some place) where
  abbrev pub now : Descriptors
  now = slice_set d place (Some e)

  pub install_is : installed (fds_of (at t p)) e ≡ now
  install_is = ap (λ z. installed (fds_of z) e) own.is ∙ ap (λ o. installed_at d o e) low

  pub opened_own : At (fds_set t p (installed (fds_of (at t p)) e)) p parent m r now put
  opened_own = subst (λ z. At (fds_set t p z) p parent m r now put) (sym install_is) (at_fds t p parent m r d now put own)

  pub opened_others : ((q : ℕ) → NotIn (fds_of (at t q)) e) → (q : ℕ) → q ≢ p → seen_slot (renamed name e x) (at (fds_set t p (installed (fds_of (at t p)) e)) q) ≡ seen_slot name (at t q)
  opened_others none q ne = ap (seen_slot (renamed name e x)) (kept t p q (with_fds (installed (fds_of (at t p)) e) (at t p)) ne) ∙ slot_renamed name e x (at t q) (none q)

  pub opened_fds : NotIn d e → fds_seen (renamed name e x) now ≡ slice_set (fds_seen name d) place (Some x)
  opened_fds none =
      seen_set (renamed name e x) d place (Some e)
      ∙ ap (λ l. slice_set l place (Some (renamed name e x e))) (fds_renamed name e x d none)
      ∙ ap (λ y. slice_set (fds_seen name d) place (Some y)) (Rattle.law_runs.proofs.views.Opened.renamed_self name e x)

-- a name that is used is that of an old event
module _ (g : Names) (F : FileMap) (n : ℕ) where
  pub no_reader : (x : Entry) (o : Object) (at : ℕ) → IsNamed g F n x o at → x ≢ reader n
  no_reader x Input at is same = let z : input ≡ reader n = sym is ∙ same in let w : ⊥ = cc in w
  no_reader x Out at is same = let z : out ≡ reader n = sym is ∙ same in let w : ⊥ = cc in w
  no_reader x Diag at is same = let z : diag ≡ reader n = sym is ∙ same in let w : ⊥ = cc in w
  no_reader x (File name mode) at is same = let z : file is.id ≡ reader n = sym is.is ∙ same in let w : ⊥ = cc in w
  no_reader x (PipeRead id) at is same = let z : reader id ≡ reader n = sym is.0 ∙ same in let w : id ≡ n = cc in absurd (omega (arith, w, is.1))
  no_reader x (PipeWrite id) at is same = let z : writer id ≡ reader n = sym is.0 ∙ same in let w : ⊥ = cc in w

  pub no_writer : (x : Entry) (o : Object) (at : ℕ) → IsNamed g F n x o at → x ≢ writer n
  no_writer x Input at is same = let z : input ≡ writer n = sym is ∙ same in let w : ⊥ = cc in w
  no_writer x Out at is same = let z : out ≡ writer n = sym is ∙ same in let w : ⊥ = cc in w
  no_writer x Diag at is same = let z : diag ≡ writer n = sym is ∙ same in let w : ⊥ = cc in w
  no_writer x (File name mode) at is same = let z : file is.id ≡ writer n = sym is.is ∙ same in let w : ⊥ = cc in w
  no_writer x (PipeRead id) at is same = let z : reader id ≡ writer n = sym is.0 ∙ same in let w : ⊥ = cc in w
  no_writer x (PipeWrite id) at is same = let z : writer id ≡ writer n = sym is.0 ∙ same in let w : id ≡ n = cc in absurd (omega (arith, w, is.1))

  pub no_file : (x : Entry) (o : Object) (at : ℕ) → IsNamed g F n x o at → x ≢ file n
  no_file x Input at is same = let z : input ≡ file n = sym is ∙ same in let w : ⊥ = cc in w
  no_file x Out at is same = let z : out ≡ file n = sym is ∙ same in let w : ⊥ = cc in w
  no_file x Diag at is same = let z : diag ≡ file n = sym is ∙ same in let w : ⊥ = cc in w
  no_file x (File name mode) at is same = let z : file is.id ≡ file n = sym is.is ∙ same in let w : is.id ≡ n = cc in absurd (omega (arith, w, is.old))
  no_file x (PipeRead id) at is same = let z : reader id ≡ file n = sym is.0 ∙ same in let w : ⊥ = cc in w
  no_file x (PipeWrite id) at is same = let z : writer id ≡ file n = sym is.0 ∙ same in let w : ⊥ = cc in w

module _ (g : Names) (k : KernelState User) (p : ℕ) (q : Process User) (up : p ≢ 0) (is : at k.table p ≡ Some q) (alive : is_zombie_status q.status ≡ false) (shows : ShowsIn g k) (used : (r fd e : ℕ) → entry_of (fds_at k r) fd ≡ Some e → (f : OpenFile) × (entry_at k.entries e ≡ Some f)) where
  abbrev pub Called : KernelState User → Call → Type 0
  Called l call = during.Called g k p q l call

  abbrev pub next : User
  next = (during.act g k p q).next

  pub own : At k.table p q.parent q.machine q.reply q.fds q.put
  own = during.own g k p q up is alive shows

  -- no process holds a free entry
  pub nobody : (e : ℕ) → entry_at k.entries e ≡ None → (r : ℕ) → NotIn (fds_at k r) e
  nobody e free r fd n it same = let f = used r fd n it in let z : None ≡ Some f.0 = sym free ∙ ap (entry_at k.entries) (sym same) ∙ f.1 in let w : ⊥ = cc in w

  pub mine : (e : ℕ) → entry_at k.entries e ≡ None → NotIn q.fds e
  mine e free = subst (λ d. NotIn d e) (during.fds_are g k p q up is alive shows) (nobody e free p)

  -- the slots, once p, with these descriptors, is answered under these names
  pub open_sets : (h : Names) (m : KernelState User) (d : Descriptors) (seen_as : Fds) (reply : Reply) → At m.table p q.parent q.machine q.reply d q.put → ((r : ℕ) → r ≢ p → seen_slot h.name (at m.table r) ≡ seen_slot g.name (at k.table r)) → fds_seen h.name d ≡ seen_as → Sets (view g k) (view h (answered m p next reply)) p (answered_seen (parent_or_init q.parent) (during.act g k p q) reply seen_as)
  open_sets h m d seen_as reply at_it others same = record {
    here = seen_up h.name (readied m.table p next reply) p up ∙ seen_at h.name (readied m.table p next reply) p q.parent next reply d 0 (at_ready m.table p q.parent q.machine next q.reply reply d q.put at_it) ∙ ap (λ x. live (parent_or_init q.parent) (act_of next reply) 0 x) same;
    others = λ r ne. seen_alike g.name h.name k.table (readied m.table p next reply) r (ready_others h.name m.table p next reply r ne ∙ others r ne);
  }
