-- An entry lost one holder, and isn't a pipe's end: closes and an exit of another process come to the same before and after that.
use Rattle.std.proofs.Common.{◌≡◌, ◌≢◌, ◌⊎◌, ℕ, zero, suc, Bool, true, false, Option, Some, None, inl, inr, refl, sym, ap, subst, ◌∙◌, get_or-set_other}
use Rattle.std.proofs.lemmas.Bool.{cases_eq}
use Rattle.std.specs.Prelude.{if◌then◌else◌, nat_le, ◌==◌, Result, Ok, Err}
use Rattle.user_calls.specs.declared.calls.Reply.TheVariants.{Refused}
use Rattle.fd_table.specs.declared.names.Object.{Object}
use Rattle.fd_table.specs.declared.names.Object.TheVariants.{Input, Out, Diag, File, PipeRead, PipeWrite}
use Rattle.fd_table.specs.declared.faults.FdFault.{FdFault}
use Rattle.fd_table.specs.declared.descriptors.TheConstants.{DESCRIPTORS}
use Rattle.fd_table.specs.Entries.{OpenFile as Opened, Entries, entry_at, less_held, last_object, released}
use Rattle.fd_table.specs.Descriptors.{entry_of, close_answer, released_by_close, Descriptors, after_close}
use Rattle.kernel_model.specs.KernelState.{KernelState, fds_at, fds_of}
use Rattle.kernel_model.specs.Replies.{answered}
use Rattle.kernel_model.specs.Descriptors.{let_go, let_go_of, taken_away, closed_by, closed, closed_below, close, close_reply}
use Rattle.kernel_model.specs.Processes.{ended, exit}
use Rattle.std.proofs.Math.ListN.{set}
use Rattle.proc_table.specs.declared.states.Channel.TheVariants.{PipeBytes, PipeRoom}
use Rattle.proc_table.specs.Slots.{Slot, at}
use Rattle.proc_table.specs.Calls.{with_fds, woken}
use Rattle.proc_table.proofs.Changes.{written, mapped}
use Rattle.kernel_model.proofs.Offsets.{item_cases}
use Rattle.kernel_model.proofs.Sound.{woken_near}
use Rattle.law_turns.proofs.entry_numbers.Entries.{changed_entry}
use Rattle.kernel_model.specs.Closes.{IsPlain}
use Rattle.law_turns.proofs.last_closes.Released.{change_both}
use Rattle.law_turns.proofs.last_closes.Losing.{lost}

-- what an entry has open, if anything, is no end of a pipe
abbrev pub HasPlain : Option Opened → Type 0
HasPlain None = Unit {0}
HasPlain (Some f) = IsPlain f.object

plain_if : (b : Bool) (f : Opened) → IsPlain f.object → HasPlain (if b then None else Some f)
plain_if true f plain = tt
plain_if false f plain = plain

plain_less : (x : Option Opened) → HasPlain x → HasPlain (less_held x)
plain_less None plain = tt
plain_less (Some f) plain = plain_if (nat_le f.count 1) _ plain

plain_released : (e : ℕ) (t : Entries) (o : Option ℕ) → HasPlain (entry_at t e) → HasPlain (entry_at (released_by_close t o) e)
plain_released e t None plain = plain
plain_released e t (Some d) plain = by (cases_eq e d) where
  by : (e ≡ d) ⊎ (e ≢ d) → HasPlain (entry_at (released t d) e)
  by (inl is) = let P : ℕ → Type 0 = λ i. HasPlain (entry_at (released t i) e) in subst P is (subst HasPlain (sym (changed_entry less_held refl t e)) (plain_less (entry_at t e) plain))
  by (inr ne) = subst HasPlain (sym (get_or-set_other t d e (less_held (entry_at t d)) None ne)) plain

fds_before : (fds : Descriptors) (gd fd : ℕ) (o : Option ℕ) (e : ℕ) → entry_of (after_close fds gd o) fd ≡ Some e → entry_of fds fd ≡ Some e
fds_before fds gd fd None e is = is
fds_before fds gd fd (Some d) e is = by (item_cases fds gd fd None) where
  by : (entry_of (set fds gd None) fd ≡ None) ⊎ (entry_of (set fds gd None) fd ≡ entry_of fds fd) → entry_of fds fd ≡ Some e
  by (inl none) = absurd (let no_such : None ≡ Some e = sym none ∙ is in let z : ⊥ = cc in z)
  by (inr same) = sym same ∙ is

slot_before : {S : Type 0} (x : Slot S) (gd fd : ℕ) (o : Option ℕ) (e : ℕ) → entry_of (fds_of (with_fds (after_close (fds_of x) gd o) x)) fd ≡ Some e → entry_of (fds_of x) fd ≡ Some e
slot_before None gd fd o e is = is
slot_before (Some p) gd fd o e is = fds_before p.fds gd fd o e is

module _ {S : Type 0} (e pid : ℕ) where
  abbrev L : KernelState S → KernelState S
  L k = lost e pid k

  let_go_lost : (k : KernelState S) (object : Object) → let_go (L k) object ≡ L (let_go k object)
  let_go_lost k Input = refl
  let_go_lost k Out = refl
  let_go_lost k Diag = refl
  let_go_lost k (File name mode) = refl
  let_go_lost k (PipeRead id) = refl
  let_go_lost k (PipeWrite id) = refl

  let_go_of_lost : (k : KernelState S) (r : Result (Option Object) FdFault) → let_go_of (L k) r ≡ L (let_go_of k r)
  let_go_of_lost k (Err fault) = refl
  let_go_of_lost k (Ok None) = refl
  let_go_of_lost k (Ok (Some object)) = let_go_lost k object

  -- what is no pipe's end is let go without a trace
  no_trace : (k : KernelState S) (object : Object) → IsPlain object → let_go k object ≡ k
  no_trace k Input plain = refl
  no_trace k Out plain = refl
  no_trace k Diag plain = refl
  no_trace k (File name mode) plain = refl
  no_trace k (PipeRead id) plain = absurd plain
  no_trace k (PipeWrite id) plain = absurd plain

  no_trace_if : (k : KernelState S) (b : Bool) (object : Object) → IsPlain object → let_go_of k (Ok (if b then Some object else None)) ≡ k
  no_trace_if k true object plain = no_trace k object plain
  no_trace_if k false object plain = refl

  pub no_trace_of : (k : KernelState S) (x : Option Opened) → HasPlain x → let_go_of k (Ok (last_object x)) ≡ k
  no_trace_of k None plain = refl
  no_trace_of k (Some f) plain = no_trace_if k (nat_le f.count 1) f.object plain

  pub away_lost : (k : KernelState S) (fd : ℕ) (o : Option ℕ) → taken_away (L k) pid fd o ≡ L (taken_away k pid fd o)
  away_lost k fd None = refl
  away_lost k fd (Some d) = λ i. record (taken_away k pid fd (Some d)) { entries = change_both less_held less_held refl refl k.entries e d (λ _. refl) i }

  -- if pid holds the entry too, it is no pipe's end
  abbrev pub CanGo : KernelState S → Type 0
  CanGo k = (fd : ℕ) → entry_of (fds_at k pid) fd ≡ Some e → HasPlain (entry_at k.entries e)

  -- another entry is closed
  pub closed_other_lost : (k : KernelState S) (fd d : ℕ) → d ≢ e → closed_by (L k) pid fd (Some d) ≡ L (closed_by k pid fd (Some d))
  closed_other_lost k fd d ne =
      ap (λ (x : Option Opened). let_go_of (taken_away (L k) pid fd (Some d)) (Ok (last_object x))) (get_or-set_other k.entries e d (less_held (entry_at k.entries e)) None ne) ∙
      ap (λ (j : KernelState S). let_go_of j (close_answer k.entries (Some d))) (away_lost k fd (Some d)) ∙ let_go_of_lost (taken_away k pid fd (Some d)) (close_answer k.entries (Some d))

  closed_by_lost : (k : KernelState S) (fd : ℕ) (o : Option ℕ) → entry_of (fds_at k pid) fd ≡ o → CanGo k → closed_by (L k) pid fd o ≡ L (closed_by k pid fd o)
  closed_by_lost k fd None held go = refl
  closed_by_lost k fd (Some d) held go = by (cases_eq d e) where
    by : (d ≡ e) ⊎ (d ≢ e) → closed_by (L k) pid fd (Some d) ≡ L (closed_by k pid fd (Some d))
    by (inl is) =
        let P : ℕ → Type 0 = λ i. closed_by (L k) pid fd (Some i) ≡ L (closed_by k pid fd (Some i)) in
        let plain = go fd (held ∙ ap Some is) in
        subst P (sym is)
        (ap (λ (x : Option Opened). let_go_of (taken_away (L k) pid fd (Some e)) (Ok (last_object x))) (changed_entry less_held refl k.entries e) ∙
        no_trace_of (taken_away (L k) pid fd (Some e)) (less_held (entry_at k.entries e)) (plain_less (entry_at k.entries e) plain) ∙ away_lost k fd (Some e) ∙
        sym (ap L (no_trace_of (taken_away k pid fd (Some e)) (entry_at k.entries e) plain)))
    by (inr ne) = closed_other_lost k fd d ne

  pub let_go_entries : (k : KernelState S) (r : Result (Option Object) FdFault) → (let_go_of k r).entries ≡ k.entries
  let_go_entries k (Err fault) = refl
  let_go_entries k (Ok None) = refl
  let_go_entries k (Ok (Some Input)) = refl
  let_go_entries k (Ok (Some Out)) = refl
  let_go_entries k (Ok (Some Diag)) = refl
  let_go_entries k (Ok (Some (File name mode))) = refl
  let_go_entries k (Ok (Some (PipeRead id))) = refl
  let_go_entries k (Ok (Some (PipeWrite id))) = refl

  pub let_go_fds : (k : KernelState S) (r : Result (Option Object) FdFault) → fds_at (let_go_of k r) pid ≡ fds_at k pid
  let_go_fds k (Err fault) = refl
  let_go_fds k (Ok None) = refl
  let_go_fds k (Ok (Some Input)) = refl
  let_go_fds k (Ok (Some Out)) = refl
  let_go_fds k (Ok (Some Diag)) = refl
  let_go_fds k (Ok (Some (File name mode))) = refl
  let_go_fds k (Ok (Some (PipeRead id))) = ap fds_of (mapped (woken (PipeRoom id)) refl k.table pid) ∙ (woken_near (PipeRoom id) (at k.table pid)).fds
  let_go_fds k (Ok (Some (PipeWrite id))) = ap fds_of (mapped (woken (PipeBytes id)) refl k.table pid) ∙ (woken_near (PipeBytes id) (at k.table pid)).fds

  -- what is open after a close was open before it
  pub held_before : (k : KernelState S) (gd fd : ℕ) → entry_of (fds_at (closed k pid gd) pid) fd ≡ Some e → entry_of (fds_at k pid) fd ≡ Some e
  held_before k gd fd is =
      let o = entry_of (fds_at k pid) gd in
      slot_before (at k.table pid) gd fd o e (ap (λ (f : Descriptors). entry_of f fd) (sym (let_go_fds (taken_away k pid gd o) (close_answer k.entries o) ∙ ap fds_of (written (with_fds (after_close (fds_at k pid) gd o)) refl k.table pid))) ∙ is)

  closed_go : (k : KernelState S) (gd : ℕ) → CanGo k → CanGo (closed k pid gd)
  closed_go k gd go fd held =
      let o = entry_of (fds_at k pid) gd in
      subst (λ (t : Entries). HasPlain (entry_at t e)) (sym (let_go_entries (taken_away k pid gd o) (close_answer k.entries o))) (plain_released e k.entries o (go fd (held_before k gd fd held)))

  below_go : (k : KernelState S) (n : ℕ) → CanGo k → CanGo (closed_below k pid n)
  unfolding closed_below
  below_go k zero go = go
  below_go k (suc n) go = closed_go (closed_below k pid n) n (below_go k n go)

  below_lost : (k : KernelState S) (n : ℕ) → CanGo k → closed_below (L k) pid n ≡ L (closed_below k pid n)
  unfolding closed_below
  below_lost k zero go = refl
  below_lost k (suc n) go =
      ap (λ (j : KernelState S). closed j pid n) (below_lost k n go) ∙ closed_by_lost (closed_below k pid n) n (entry_of (fds_at (closed_below k pid n) pid) n) refl (below_go k n go)

  -- the reply to a close says only whether the descriptor was open
  pub reply_lost : (k : KernelState S) (o : Option ℕ) → close_reply (close_answer (L k).entries o) ≡ close_reply (close_answer k.entries o)
  reply_lost k None = refl
  reply_lost k (Some d) = refl

  module _ (after : S) (k : KernelState S) (go : CanGo k) where
    pub close_lost : (fd : ℕ) → close (L k) pid after fd ≡ L (close k pid after fd)
    close_lost fd =
        let o = entry_of (fds_at k pid) fd in
        λ i. answered (closed_by_lost k fd o refl go i) pid after (reply_lost k o i)

    exit_by : (b : Bool) → (if b then answered (L k) pid after Refused else ended pid (closed_below (L k) pid DESCRIPTORS)) ≡ L (if b then answered k pid after Refused else ended pid (closed_below k pid DESCRIPTORS))
    exit_by true = refl
    exit_by false = ap (ended pid) (below_lost k DESCRIPTORS go)

    pub exit_lost : exit (L k) pid after ≡ L (exit k pid after)
    exit_lost = exit_by (pid == 0)
