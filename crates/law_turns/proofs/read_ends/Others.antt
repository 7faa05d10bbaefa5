-- Where no process but one has a descriptor of a pipe's write end, that is so after any call of another process.
use Rattle.std.proofs.Common.{◌≡◌, ◌≢◌, ◌⊎◌, ℕ, zero, suc, Bool, true, false, Option, Some, None, inl, inr, refl, sym, ap, subst, ◌∙◌, arith, get_or-set_other}
use Rattle.std.proofs.Math.ListN.{set}
use Rattle.std.proofs.lemmas.Bool.{cases_eq}
use Rattle.std.specs.Prelude.{nat_le, if◌then◌else◌, is_some, map, replicate, Result, Ok, Err}
use Rattle.user_calls.specs.declared.calls.Call.{Call}
use Rattle.user_calls.specs.declared.calls.Reply.{Reply}
use Rattle.fd_table.specs.declared.descriptors.TheConstants.{DESCRIPTORS}
use Rattle.fd_table.specs.declared.faults.FdFault.{FdFault}
use Rattle.fd_table.specs.declared.names.Object.{Object}
use Rattle.fd_table.specs.declared.names.Object.TheVariants.{Input, Out, Diag, File, PipeRead, PipeWrite}
use Rattle.fd_table.specs.Entries.{OpenFile as Opened, Entries, entry_at, less_held, more_held, moved_on, going_on_at, lowest_free_entry, added_at}
use Rattle.fd_table.specs.Descriptors.{Descriptors, all_held, entry_of, holders_in, after_close, close_answer, released_by_close, installed, installed_at, lowest_free}
use Rattle.fd_table.proofs.Holding.{entry_at-all_held}
use Rattle.proc_table.specs.declared.states.Channel.{Channel}
use Rattle.proc_table.specs.declared.states.Channel.TheVariants.{PipeBytes, PipeRoom, Children}
use Rattle.proc_table.specs.declared.states.Status.{Status}
use Rattle.proc_table.specs.declared.states.Status.TheVariants.{Zombie}
use Rattle.proc_table.specs.Slots.{Slot, Table, at, parent_of}
use Rattle.proc_table.specs.Calls.{made_ready, put_to_sleep, with_fds, with_status, woken, all_woken, given, buried, exited, freed, reaped, zombie_child}
use Rattle.proc_table.proofs.Changes.{mapped}
use Rattle.kernel_model.specs.KernelState.{KernelState, fds_of, fds_at}
use Rattle.kernel_model.specs.Pipes.{with_new}
use Rattle.kernel_model.specs.Modes.{entry_mode}
use Rattle.kernel_model.specs.Opening.{with_bytes}
use Rattle.kernel_model.specs.Descriptors.{let_go, let_go_of, taken_away, closed, closed_below, opened_at, with_open, with_reader, with_ends}
use Rattle.kernel_model.proofs.Offsets.{item_cases, slot_cases}
use Rattle.law_kernel.specs.Outcome.{Outcome, refused, lacks, forks, runs, exits, reaps, waits, opens, opens_empty, closes, dups, pipes, reads_input, reads_file, takes, waits_for_bytes, meets_end, tells, complains, writes_over, appends, puts_all, puts_part}
use Rattle.law_turns.proofs.private_turns.Holders.{holds_one, free_holds_none}
use Rattle.law_turns.proofs.entry_numbers.Opening.{lowest_is_free}
use Rattle.law_turns.proofs.write_ends.Ends.{WriteEnd, IsNotEnd}

-- ---- a process's descriptors are the same

fds_ready : {S : Type 0} (m : S) (r : Reply) (x : Slot S) → fds_of (made_ready m r x) ≡ fds_of x
fds_ready m r None = refl
fds_ready m r (Some y) = refl

fds_sleep : {S : Type 0} (c : Channel) (put : ℕ) (x : Slot S) → fds_of (put_to_sleep c put x) ≡ fds_of x
fds_sleep c put None = refl
fds_sleep c put (Some y) = refl

pub fds_status : {S : Type 0} (s : Status) (x : Slot S) → fds_of (with_status s x) ≡ fds_of x
fds_status s None = refl
fds_status s (Some y) = refl

fds_woken : {S : Type 0} (c : Channel) (x : Slot S) → fds_of (woken c x) ≡ fds_of x
fds_woken c None = refl
fds_woken c (Some y) = refl

fds_given : {S : Type 0} (pid : ℕ) (x : Slot S) → fds_of (given pid x) ≡ fds_of x
fds_given pid None = refl
fds_given pid (Some y) = refl

module _ (id : ℕ) where
  -- what an entry has open, if anything, isn't the write end
  abbrev Clear : Option Opened → Type 0
  Clear x = IsNotEnd WriteEnd id x

  less_if : (b : Bool) (f : Opened) → f.object ≢ PipeWrite id → Clear (if b then None else Some f)
  less_if true f ne = tt
  less_if false f ne = ne

  less : (x : Option Opened) → Clear x → Clear (less_held x)
  less None clear = tt
  less (Some f) ne = less_if (nat_le f.count 1) _ ne

  more : (n : ℕ) (x : Option Opened) → Clear x → Clear (more_held n x)
  more n None clear = tt
  more n (Some f) ne = ne

  moved : (n : ℕ) (x : Option Opened) → Clear x → Clear (moved_on n x)
  moved n None clear = tt
  moved n (Some f) ne = ne

  going : (n : ℕ) (x : Option Opened) → Clear x → Clear (going_on_at n x)
  going n None clear = tt
  going n (Some f) ne = ne

  -- no entry becomes the write end
  abbrev AllStay : Entries → Entries → Type 0
  AllStay E F = (d : ℕ) → Clear (entry_at E d) → Clear (entry_at F d)

  set_stays : (E : Entries) (i : ℕ) (x : Option Opened) → (Clear (entry_at E i) → Clear x) → AllStay E (set E i x)
  set_stays E i x step d clear = by (cases_eq d i) where
    here : d ≡ i → (entry_at (set E i x) d ≡ x) ⊎ (entry_at (set E i x) d ≡ entry_at E d) → Clear (entry_at (set E i x) d)
    here same (inl new) = subst Clear (sym new) (step (subst (λ (j : ℕ). Clear (entry_at E j)) same clear))
    here same (inr old) = subst Clear (sym old) clear

    by : (d ≡ i) ⊎ (d ≢ i) → Clear (entry_at (set E i x) d)
    by (inl same) = here same (item_cases E i d x)
    by (inr ne) = subst Clear (sym (get_or-set_other E i d x None ne)) clear

  held_stays : (E : Entries) (fds : Descriptors) → AllStay E (all_held E fds)
  held_stays E fds d clear = subst Clear (sym (entry_at-all_held E fds d)) (more (holders_in fds d) (entry_at E d) clear)

  released_stays : (E : Entries) (o : Option ℕ) → AllStay E (released_by_close E o)
  released_stays E None d clear = clear
  released_stays E (Some e) d clear = set_stays E e (less_held (entry_at E e)) (less (entry_at E e)) d clear

  -- ---- a process's descriptors: none holds the write end

  abbrev pub HasNone : Entries → Descriptors → Type 0
  HasNone E fds = (fd d : ℕ) → entry_of fds fd ≡ Some d → Clear (entry_at E d)

  none_on : (E F : Entries) (fds : Descriptors) → AllStay E F → HasNone E fds → HasNone F fds
  none_on E F fds stay none fd d held = stay d (none fd d held)

  none_free : (E : Entries) → HasNone E (replicate DESCRIPTORS None)
  none_free E fd d held = absurd (omega (arith, holds_one (replicate DESCRIPTORS None) fd d held, free_holds_none d))

  none_put : (E : Entries) (fds : Descriptors) (place e : ℕ) → Clear (entry_at E e) → HasNone E fds → HasNone E (set fds place (Some e))
  none_put E fds place e clear none fd d held = by (item_cases fds place fd (Some e)) where
    by : (entry_of (set fds place (Some e)) fd ≡ Some e) ⊎ (entry_of (set fds place (Some e)) fd ≡ entry_of fds fd) → Clear (entry_at E d)
    by (inl new) =
        let both : Some e ≡ Some d = sym new ∙ held in
        let same : e ≡ d = cc in
        subst (λ (i : ℕ). Clear (entry_at E i)) same clear
    by (inr old) = none fd d (sym old ∙ held)

  none_installed : (E : Entries) (fds : Descriptors) (o : Option ℕ) (e : ℕ) → Clear (entry_at E e) → HasNone E fds → HasNone E (installed_at fds o e)
  none_installed E fds None e clear none = none
  none_installed E fds (Some place) e clear none = none_put E fds place e clear none

  none_closed : (E : Entries) (fds : Descriptors) (gd : ℕ) (o : Option ℕ) → HasNone E fds → HasNone E (after_close fds gd o)
  none_closed E fds gd None none = none
  none_closed E fds gd (Some e) none = λ fd d held. by fd d held (item_cases fds gd fd None) where
    by : (fd d : ℕ) → entry_of (set fds gd None) fd ≡ Some d → (entry_of (set fds gd None) fd ≡ None) ⊎ (entry_of (set fds gd None) fd ≡ entry_of fds fd) → Clear (entry_at E d)
    by fd d held (inl gone) = let clash : None ≡ Some d = sym gone ∙ held in absurd (let z : ⊥ = cc in z)
    by fd d held (inr old) = none fd d (sym old ∙ held)

  none_with : {S : Type 0} (E : Entries) (fds : Descriptors) (x : Slot S) → HasNone E fds → HasNone E (fds_of (with_fds fds x))
  none_with E fds None none = none_free E
  none_with E fds (Some y) none = none

  -- ---- all processes but p

  module _ {S : Type 0} (p : ℕ) where
    abbrev pub OthersHaveNone : Entries → Table S → Type 0
    OthersHaveNone E t = (r : ℕ) → r ≢ p → HasNone E (fds_of (at t r))

    others_on : (E F : Entries) (t : Table S) → AllStay E F → OthersHaveNone E t → OthersHaveNone F t
    others_on E F t stay all r ne = none_on E F (fds_of (at t r)) stay (all r ne)

    others_map : (E : Entries) (t : Table S) (f : Slot S → Slot S) → f None ≡ None → ((x : Slot S) → fds_of (f x) ≡ fds_of x) → OthersHaveNone E t → OthersHaveNone E (map f t)
    others_map E t f free same all r ne = subst (HasNone E) (sym (ap fds_of (mapped f free t r) ∙ same (at t r))) (all r ne)

    pub others_set : (E : Entries) (t : Table S) (i : ℕ) (x : Slot S) → HasNone E (fds_of x) → OthersHaveNone E t → OthersHaveNone E (set t i x)
    others_set E t i x none all r ne = by (slot_cases t i r x) where
      by : (at (set t i x) r ≡ x) ⊎ (at (set t i x) r ≡ at t r) → HasNone E (fds_of (at (set t i x) r))
      by (inl new) = subst (λ (y : Slot S). HasNone E (fds_of y)) (sym new) none
      by (inr old) = subst (λ (y : Slot S). HasNone E (fds_of y)) (sym old) (all r ne)

    others_woken : (E : Entries) (t : Table S) (c : Channel) → OthersHaveNone E t → OthersHaveNone E (all_woken c t)
    others_woken E t c all = others_map E t (woken c) refl (fds_woken c) all

    -- ---- calls of another process

    module _ (q : ℕ) (other : q ≢ p) where
      pub others_own : (E : Entries) (t : Table S) (f : Slot S → Slot S) → ((x : Slot S) → fds_of (f x) ≡ fds_of x) → OthersHaveNone E t → OthersHaveNone E (set t q (f (at t q)))
      others_own E t f same all = others_set E t q (f (at t q)) (subst (HasNone E) (sym (same (at t q))) (all q other)) all

      others_fds : (E : Entries) (t : Table S) (fds : Descriptors) → HasNone E fds → OthersHaveNone E t → OthersHaveNone E (set t q (with_fds fds (at t q)))
      others_fds E t fds none all = others_set E t q (with_fds fds (at t q)) (none_with E fds (at t q) none) all

      others_exit_by : (E : Entries) (b : Bool) (t : Table S) → OthersHaveNone E t → OthersHaveNone E (if b then all_woken (Children 0) t else t)
      others_exit_by E true t all = others_woken E t (Children 0) all
      others_exit_by E false t all = all

      others_exited : (E : Entries) (t : Table S) → OthersHaveNone E t → OthersHaveNone E (exited t q)
      others_exited E t all =
          others_exit_by E (is_some (zombie_child t q)) _
          (others_woken E (buried t q) (Children (parent_of (at t q))) (others_own E (map (given q) t) (with_status Zombie) (fds_status Zombie) (others_map E t (given q) refl (fds_given q) all)))

      others_reaped : (E : Entries) (t : Table S) → OthersHaveNone E t → OthersHaveNone E (reaped t q)
      others_reaped E t all = by (zombie_child t q) where
        by : (o : Option ℕ) → OthersHaveNone E (freed t o)
        by None = all
        by (Some child) = others_set E t child None (none_free E) all

      abbrev pub OnlyP : KernelState S → Type 0
      OnlyP k = OthersHaveNone k.entries k.table

      let_go_only : (k : KernelState S) (object : Object) → OnlyP k → OnlyP (let_go k object)
      let_go_only k Input all = all
      let_go_only k Out all = all
      let_go_only k Diag all = all
      let_go_only k (File file mode) all = all
      let_go_only k (PipeRead other_id) all = others_woken k.entries k.table (PipeRoom other_id) all
      let_go_only k (PipeWrite other_id) all = others_woken k.entries k.table (PipeBytes other_id) all

      let_go_of_only : (k : KernelState S) (r : Result (Option Object) FdFault) → OnlyP k → OnlyP (let_go_of k r)
      let_go_of_only k (Err fault) all = all
      let_go_of_only k (Ok None) all = all
      let_go_of_only k (Ok (Some object)) all = let_go_only k object all

      closed_only : (k : KernelState S) (fd : ℕ) → OnlyP k → OnlyP (closed k q fd)
      closed_only k fd all =
          let o = entry_of (fds_at k q) fd in
          let F : Entries = released_by_close k.entries o in
          let on : OthersHaveNone F k.table = others_on k.entries F k.table (released_stays k.entries o) all in
          let_go_of_only (taken_away k q fd o) (close_answer k.entries o) (others_fds F k.table (after_close (fds_at k q) fd o) (none_closed F (fds_at k q) fd o (on q other)) on)

      below_only : (k : KernelState S) (n : ℕ) → OnlyP k → OnlyP (closed_below k q n)
      unfolding closed_below
      below_only k zero all = all
      below_only k (suc n) all = closed_only (closed_below k q n) n (below_only k n all)

      opened_only : (k : KernelState S) (new : Object) → new ≢ PipeWrite id → (o : Option ℕ) → lowest_free_entry k.entries ≡ o → OnlyP k → OnlyP (opened_at k q new o)
      opened_only k new ne None found all = all
      opened_only k new ne (Some e) found all =
          let F : Entries = set k.entries e (Some (record { object = new; count = 1; offset = 0 })) in
          let stay : AllStay k.entries F = set_stays k.entries e (Some (record { object = new; count = 1; offset = 0 })) (λ _. ne) in
          let on : OthersHaveNone F k.table = others_on k.entries F k.table stay all in
          let clear : Clear (entry_at F e) = stay e (subst Clear (sym (lowest_is_free k.entries e found).free) tt) in
          subst (λ (t : Entries). OthersHaveNone t (set k.table q (with_fds (installed (fds_at k q) e) (at k.table q)))) (λ i. added_at k.entries (sym found i) new)
          (others_fds F k.table (installed (fds_at k q) e) (none_installed F (fds_at k q) (lowest_free (fds_at k q)) e clear (on q other)) on)

      open_only : (k : KernelState S) (new : Object) → new ≢ PipeWrite id → OnlyP k → OnlyP (with_open k q new)
      open_only k new ne all = opened_only k new ne (lowest_free_entry k.entries) refl all

      ends_only : (k : KernelState S) (new : ℕ) → id ≢ new → OnlyP k → OnlyP (with_ends k q new)
      ends_only k new ne all =
          open_only (with_reader k q new) (PipeWrite new) (λ is. (let both : PipeWrite new ≡ PipeWrite id = is in let same : id ≡ new = cc in ne same))
          (open_only (record k { pipes = with_new k.pipes new }) (PipeRead new) (λ is. let z : ⊥ = cc in z) all)

      module _ (k : KernelState S) (after : S) (call : Call) (new : KernelState S) (all : OnlyP k) (ne : id ≢ k.events) where
        so : (j : KernelState S) → new ≡ j → OnlyP j → OnlyP new
        so j same is = subst OnlyP (sym same) is

        ready : (E : Entries) (t : Table S) (r : Reply) → OthersHaveNone E t → OthersHaveNone E (set t q (made_ready after r (at t q)))
        ready E t r is = others_own E t (made_ready after r) (fds_ready after r) is

        asleep : (c : Channel) (put : ℕ) → OthersHaveNone k.entries (set k.table q (put_to_sleep c put (at k.table q)))
        asleep c put = others_own k.entries k.table (put_to_sleep c put) (fds_sleep c put) all

        changed : (F : Entries) (r : Reply) → AllStay k.entries F → OthersHaveNone F (set k.table q (made_ready after r (at k.table q)))
        changed F r stay = ready F k.table r (others_on k.entries F k.table stay all)

        no_file : (name : _) (mode : _) → File name mode ≢ PipeWrite id
        no_file name mode is = let z : ⊥ = cc in z

        pub outcome_only : Outcome k q after call new → OnlyP new
        outcome_only (refused is) = so _ is (ready _ _ _ all)
        outcome_only (lacks full is) = so _ is (ready _ _ _ all)
        outcome_only (forks child c found is) =
            let F : Entries = all_held k.entries (fds_at k q) in
            let on : OthersHaveNone F k.table = others_on k.entries F k.table (held_stays k.entries (fds_at k q)) all in
            so _ is (ready F _ _ (others_set F k.table child _ (on q other) on))
        outcome_only (runs c is) = so _ is (ready _ _ _ all)
        outcome_only (exits c first is) = so _ is (others_exited _ _ (below_only k DESCRIPTORS all))
        outcome_only (reaps child c found is) = so _ is (ready _ _ _ (others_reaped _ k.table all))
        outcome_only (waits child c none some is) = so _ is (asleep _ _)
        outcome_only (opens name mode place c is) = so _ is (ready _ _ _ (open_only k (File name (entry_mode mode)) (no_file _ _) all))
        outcome_only (opens_empty name mode place c is) = so _ is (ready _ _ _ (open_only (with_bytes k name _) (File name (entry_mode mode)) (no_file _ _) all))
        outcome_only (closes gd c is) = so _ is (ready _ _ _ (closed_only k gd all))
        outcome_only (dups gd entry place c there free is) =
            let F : Entries = set k.entries entry (more_held 1 (entry_at k.entries entry)) in
            let on : OthersHaveNone F k.table = others_on k.entries F k.table (set_stays k.entries entry (more_held 1 (entry_at k.entries entry)) (more 1 (entry_at k.entries entry))) all in
            so _ is (ready F _ _ (others_fds F k.table (set (fds_at k q) place (Some entry)) (none_put F (fds_at k q) place entry (on q other gd entry there) (on q other)) on))
        outcome_only (pipes reader writer c room is) = so _ is (ready _ _ _ (ends_only k k.events ne all))
        outcome_only (reads_input n r is) = so _ is (ready _ _ _ all)
        outcome_only (reads_file name mode entry n got r is) = so _ is (changed _ _ (set_stays k.entries entry _ (moved n (entry_at k.entries entry))))
        outcome_only (takes name n o r there some is) = so _ is (others_woken _ _ (PipeRoom name) (ready _ _ _ all))
        outcome_only (waits_for_bytes name o r there none open_too is) = so _ is (asleep _ _)
        outcome_only (meets_end name o r there none over is) = so _ is (ready _ _ _ all)
        outcome_only (tells b w is) = so _ is (ready _ _ _ all)
        outcome_only (complains b w is) = so _ is (ready _ _ _ all)
        outcome_only (writes_over name mode entry b bytes w is) = so _ is (changed _ _ (set_stays k.entries entry _ (moved _ (entry_at k.entries entry))))
        outcome_only (appends name mode entry b bytes w is) = so _ is (changed _ _ (set_stays k.entries entry _ (going _ (entry_at k.entries entry))))
        outcome_only (puts_all name o b w there part is) = so _ is (others_woken _ _ (PipeBytes name) (ready _ _ _ all))
        outcome_only (puts_part name n o b w there reader space some short is) = so _ is (others_woken _ _ (PipeBytes name) (asleep _ _))
