-- An exit closes every descriptor of its process, and leaves the others theirs: so an entry is in use after it exactly while another process holds it.
use Rattle.std.proofs.Common.{◌≡◌, ◌≢◌, ◌⊎◌, ℕ, zero, suc, Bool, true, false, Option, Some, None, refl, sym, ap, subst, ◌∙◌, inl, inr, get_or-set_other}
use Rattle.std.proofs.lemmas.Bool.{cases_eq, ne_eqb}
use Rattle.std.specs.Prelude.{◌↔◌, if◌then◌else◌, is_some, IfSome, IsSome, Result, Ok, Err, replicate, count_by}
use Rattle.user_calls.specs.declared.calls.Call.{Call}
use Rattle.user_calls.specs.declared.calls.Call.TheVariants.{Exit}
use Rattle.user_calls.specs.declared.calls.Reply.{Reply}
use Rattle.user_calls.specs.declared.calls.Reply.TheVariants.{Refused}
use Rattle.fd_table.specs.declared.faults.FdFault.{FdFault}
use Rattle.fd_table.specs.declared.descriptors.TheConstants.{DESCRIPTORS}
use Rattle.fd_table.specs.declared.names.Object.{Object}
use Rattle.fd_table.specs.declared.names.Object.TheVariants.{Input, Out, Diag, File, PipeRead, PipeWrite}
use Rattle.fd_table.specs.Entries.{Entries, OpenFile, IsInUse, entry_at}
use Rattle.fd_table.specs.Descriptors.{Descriptors, entry_of, close_answer}
use Rattle.proc_table.specs.declared.states.Channel.{Channel}
use Rattle.proc_table.specs.declared.states.Channel.TheVariants.{PipeBytes, PipeRoom, Children}
use Rattle.proc_table.specs.declared.states.Status.TheVariants.{Zombie}
use Rattle.proc_table.specs.Slots.{Slot, at, is_running, is_running_on, is_zombie, parent_of}
use Rattle.proc_table.specs.Calls.{woken, given, with_status, zombie_child}
use Rattle.proc_table.proofs.Changes.{mapped, exit_self, exit_other}
use Rattle.proc_table.proofs.Counts.{used_within}
use Rattle.kernel_model.specs.KernelState.{KernelState, fds_of, fds_at}
use Rattle.kernel_model.specs.Sound.{IsSound, IsMid}
use Rattle.kernel_model.specs.Replies.{answered}
use Rattle.kernel_model.specs.Descriptors.{let_go_of, taken_away, closed, closed_below}
use Rattle.kernel_model.specs.Processes.{ended}
use Rattle.kernel_model.specs.Events.{acted, counted, trapped}
use Rattle.kernel_model.proofs.Closing.{closed_below_mid}
use Rattle.kernel_model.proofs.Held.{runs_within}
use Rattle.kernel_model.proofs.Keeps.{mid}
use Rattle.law_kernel.specs.Outcome.{object_of}
use Rattle.law_kernel.specs.Ends.{has_object}
use Rattle.law_kernel.specs.Held.{IsHeld}
use Rattle.law_kernel.specs.Exiting.{IsExit, HasOtherHolder, IsHeldByOther}
use Rattle.law_kernel.proofs.kernel.Held.{none_open, used_while_held}
use Rattle.law_kernel.proofs.kernel.Others.{Stay, close_stays}
use Rattle.law_kernel.proofs.kernel.SoundRuns.{hart_runs}

-- ---- the descriptors of another process

woken_fds : {S : Type 0} (c : Channel) (x : Slot S) → fds_of (woken c x) ≡ fds_of x
woken_fds c None = refl
woken_fds c (Some p) = refl

given_fds : {S : Type 0} (pid : ℕ) (x : Slot S) → fds_of (given pid x) ≡ fds_of x
given_fds pid None = refl
given_fds pid (Some p) = refl

fds_if : {S : Type 0} (b : Bool) (x y : Slot S) (fds : Descriptors) → fds_of x ≡ fds → fds_of y ≡ fds → fds_of (if b then x else y) ≡ fds
fds_if true x y fds ex ey = ex
fds_if false x y fds ex ey = ey

dead : {S : Type 0} (pid : ℕ) (x : Slot S) → is_running x ≡ true → is_zombie (with_status Zombie (given pid x)) ≡ true
dead pid None runs = absurd (let z : ⊥ = cc in z)
dead pid (Some p) runs = refl

stay_then : (E F G : Entries) (fds : Descriptors) → Stay E fds F → Stay F fds G → Stay E fds G
stay_then E F G fds a b fd e object held has = b fd e object held (a fd e object held has)

module _ {S : Type 0} (pid q : ℕ) (ne : q ≢ pid) where
  let_go_fds : (k : KernelState S) (r : Result (Option Object) FdFault) → fds_at (let_go_of k r) q ≡ fds_at k q
  let_go_fds k (Err fault) = refl
  let_go_fds k (Ok None) = refl
  let_go_fds k (Ok (Some Input)) = refl
  let_go_fds k (Ok (Some Out)) = refl
  let_go_fds k (Ok (Some Diag)) = refl
  let_go_fds k (Ok (Some (File name mode))) = refl
  let_go_fds k (Ok (Some (PipeRead id))) = ap fds_of (mapped (woken (PipeRoom id)) refl k.table q) ∙ woken_fds (PipeRoom id) (at k.table q)
  let_go_fds k (Ok (Some (PipeWrite id))) = ap fds_of (mapped (woken (PipeBytes id)) refl k.table q) ∙ woken_fds (PipeBytes id) (at k.table q)

  let_go_entries : (k : KernelState S) (r : Result (Option Object) FdFault) → (let_go_of k r).entries ≡ k.entries
  let_go_entries k (Err fault) = refl
  let_go_entries k (Ok None) = refl
  let_go_entries k (Ok (Some Input)) = refl
  let_go_entries k (Ok (Some Out)) = refl
  let_go_entries k (Ok (Some Diag)) = refl
  let_go_entries k (Ok (Some (File name mode))) = refl
  let_go_entries k (Ok (Some (PipeRead id))) = refl
  let_go_entries k (Ok (Some (PipeWrite id))) = refl

  closed_fds : (k : KernelState S) (fd : ℕ) → fds_at (closed k pid fd) q ≡ fds_at k q
  closed_fds k fd =
      let entry = entry_of (fds_at k pid) fd in
      let_go_fds (taken_away k pid fd entry) (close_answer k.entries entry) ∙ ap fds_of (get_or-set_other k.table pid q _ None ne)

  closed_stay : (k : KernelState S) (fd n : ℕ) → IsMid n k.table k.entries pid → Stay k.entries (fds_at k q) (closed k pid fd).entries
  closed_stay k fd n m = by (at k.table q) refl where
    by : (x : Slot S) → at k.table q ≡ x → Stay k.entries (fds_at k q) (closed k pid fd).entries
    by None is = λ other e object held has. absurd (none_open DESCRIPTORS other e (ap (λ (y : Slot S). entry_of (fds_of y) other) (sym is) ∙ held))
    by (Some p) is =
        let entry = entry_of (fds_at k pid) fd in
        subst (Stay k.entries (fds_at k q)) (sym (let_go_entries (taken_away k pid fd entry) (close_answer k.entries entry)))
        (close_stays k.table k.entries m.sound pid q ne (runs_within k.table pid m.runs) (used_within k.table q p is) fd entry refl)

  below_fds : (k : KernelState S) (m : ℕ) → fds_at (closed_below k pid m) q ≡ fds_at k q
  unfolding closed_below
  below_fds k zero = refl
  below_fds k (suc m) = closed_fds (closed_below k pid m) m ∙ below_fds k m

  below_stay : (k : KernelState S) (m n : ℕ) → IsMid n k.table k.entries pid → Stay k.entries (fds_at k q) (closed_below k pid m).entries
  unfolding closed_below
  below_stay k zero n h = λ fd e object held has. has
  below_stay k (suc m) n h =
      let below : KernelState S = closed_below k pid m in
      stay_then k.entries below.entries (closed below pid m).entries (fds_at k q) (below_stay k m n h)
      (subst (λ (fds : Descriptors). Stay below.entries fds (closed below pid m).entries) (below_fds k m) (closed_stay below m n (closed_below_mid n pid k m h)))

  ended_fds : (k : KernelState S) → fds_at (ended pid k) q ≡ fds_at k q
  ended_fds k =
      let once : Slot S = woken (Children (parent_of (at k.table pid))) (given pid (at k.table q)) in
      let first : fds_of once ≡ fds_at k q = woken_fds (Children (parent_of (at k.table pid))) (given pid (at k.table q)) ∙ given_fds pid (at k.table q) in
      ap fds_of (exit_other k.table pid q ne) ∙ fds_if (is_some (zombie_child k.table pid)) (woken (Children 0) once) once (fds_at k q) (woken_fds (Children 0) once ∙ first) first

-- ---- the exit

module _ {S : Type 0} (call : S → Reply → Call) (next : S → Reply → S) (k : KernelState S) (pid : ℕ) (now : KernelState S) (gone : IsExit call next k pid now) where
  abbrev bare : KernelState S
  bare = closed_below (counted k) pid DESCRIPTORS

  record Exited : Type 0 where
    pub runs : is_running (at k.table pid) ≡ true
    pub after : now ≡ ended pid bare

  exits_by : (b : Bool) (x : Slot S) → at k.table pid ≡ x → is_running_on gone.hart x ≡ b → IfSome x (λ p. call p.machine p.reply ≡ Exit) → (if b then trapped call next k pid x gone.refused else None) ≡ Some now → Exited
  exits_by false x there runs asked is = absurd (let z : ⊥ = cc in z)
  exits_by true None there runs asked is = absurd (let z : ⊥ = cc in z)
  exits_by true (Some p) there runs asked is =
      let after : S = next p.machine p.reply in
      let one : acted (counted k) pid after (call p.machine p.reply) gone.refused ≡ now = let same : Some (acted (counted k) pid after (call p.machine p.reply) gone.refused) ≡ Some now = is in cc in
      let two : acted (counted k) pid after (call p.machine p.reply) gone.refused ≡ acted (counted k) pid after Exit gone.refused = ap (λ (c : Call). acted (counted k) pid after c gone.refused) asked in
      let three : acted (counted k) pid after Exit gone.refused ≡ ended pid bare = ap (λ (b : Bool). if b then answered (counted k) pid after Refused else ended pid bare) (ne_eqb pid 0 gone.child) in
      record { runs = ap is_running there ∙ hart_runs gone.hart p.status runs; after = sym one ∙ two ∙ three }

  exits : Exited
  exits = exits_by (is_running_on gone.hart (at k.table pid)) (at k.table pid) refl refl gone.asked gone.happened

  module _ (sound : IsSound k.table k.entries) where
    middle : IsMid (count_by is_running k.table) k.table k.entries pid
    middle = mid k.table k.entries pid sound exits.runs

    pub kept : (q : ℕ) → q ≢ pid → fds_at now q ≡ fds_at k q
    kept q ne = ap (λ (l : KernelState S). fds_at l q) exits.after ∙ ended_fds pid q ne bare ∙ below_fds pid q ne (counted k) DESCRIPTORS

    stay : (q : ℕ) → q ≢ pid → Stay k.entries (fds_at k q) now.entries
    stay q ne = subst (λ (l : KernelState S). Stay k.entries (fds_at k q) l.entries) (sym exits.after) (below_stay pid q ne (counted k) DESCRIPTORS (count_by is_running k.table) middle)

    module _ (sound_now : IsSound now.table now.entries) where
      pub none : fds_at now pid ≡ replicate DESCRIPTORS None
      none =
          let runs : is_running (at bare.table pid) ≡ true = (closed_below_mid (count_by is_running k.table) pid (counted k) DESCRIPTORS middle).runs in
          sound_now.zombies pid (ap (λ (l : KernelState S). is_zombie (at l.table pid)) exits.after ∙ ap is_zombie (exit_self bare.table pid) ∙ dead pid (at bare.table pid) runs)

      -- who holds an entry after the exit held it before, and isn't pid
      besides : (q fd e : ℕ) → entry_of (fds_at now q) fd ≡ Some e → HasOtherHolder k pid e
      besides q fd e held = by (cases_eq q pid) where
        by : (q ≡ pid) ⊎ (q ≢ pid) → HasOtherHolder k pid e
        by (inl is) = absurd (none_open DESCRIPTORS fd e (ap (λ (fds : Descriptors). entry_of fds fd) (sym (ap (fds_at now) is ∙ none)) ∙ held))
        by (inr ne) = record { other = q; fd = fd; apart = ne; holds = ap (λ (fds : Descriptors). entry_of fds fd) (sym (kept q ne)) ∙ held }

      still : (e : ℕ) (h : HasOtherHolder k pid e) → entry_of (fds_at now h.other) h.fd ≡ Some e
      still e h = ap (λ (fds : Descriptors). entry_of fds h.fd) (kept h.other h.apart) ∙ h.holds

      pub entries : (e : ℕ) → IsInUse now.entries e ↔ HasOtherHolder k pid e
      entries e =
          let used = used_while_held now sound_now e in
          (λ u. let h = used.0 u in besides h.pid h.fd e h.holds, λ h. used.1 (record { pid = h.other; fd = h.fd; holds = still e h }))

      -- an entry that is held has the same object after the exit
      has_still : (test : Object → Bool) (e : ℕ) (h : HasOtherHolder k pid e) (x y : Option OpenFile) → ((object : Object) → object_of x ≡ Some object → object_of y ≡ Some object) → IsSome x → has_object test y ≡ has_object test x
      has_still test e h None y same some = absurd (let z : ⊥ = cc in z)
      has_still test e h (Some f) None same some = absurd (let no : None ≡ Some f.object = same f.object refl in let z : ⊥ = cc in z)
      has_still test e h (Some f) (Some g) same some = let is : g.object ≡ f.object = let both : Some g.object ≡ Some f.object = same f.object refl in cc in ap test is

      has_same : (test : Object → Bool) (e : ℕ) (h : HasOtherHolder k pid e) → has_object test (entry_at now.entries e) ≡ has_object test (entry_at k.entries e)
      has_same test e h =
          has_still test e h (entry_at k.entries e) (entry_at now.entries e) (λ object has. stay h.other h.apart h.fd e object h.holds has)
          ((used_while_held k sound e).1 (record { pid = h.other; fd = h.fd; holds = h.holds }))

      pub ends : (test : Object → Bool) → IsHeld now test ↔ IsHeldByOther k pid test
      ends test = (
        λ h. let b = besides h.pid h.fd h.entry h.holds in record { entry = h.entry; holder = b; has = sym (has_same test h.entry b) ∙ h.has },
        λ h. record { pid = h.holder.other; fd = h.holder.fd; entry = h.entry; holds = still h.entry h.holder; has = has_same test h.entry h.holder ∙ h.has },
      )
