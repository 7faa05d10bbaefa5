-- In every run pipes stand in the order of their names, and init alone has no parent.
use Rattle.std.proofs.Common.{◌≡◌, ◌⊎◌, ℕ, zero, suc, ◌+◌, ◌<◌, ◌≤◌, List, [], ◌∷◌, ◌++◌, Bool, true, false, Option, Some, None, inl, inr, refl, sym, ap, subst, ◌∙◌, arith}
use Rattle.std.specs.Prelude.{⊤, if◌then◌else◌, ◌==◌, ◌||◌, ◌&&◌, IsSome, map, replicate, slice_set, position, is_some, Result, Ok, Err}
use Rattle.std.proofs.lemmas.List.Quantifiers.{position-Some}
use Rattle.user_calls.specs.declared.calls.Call.{Call}
use Rattle.user_calls.specs.declared.calls.Reply.{Reply}
use Rattle.byte_pipe.specs.PipeState.{PipeState, new_pipe, after_close_read, after_close_write}
use Rattle.fd_table.specs.declared.descriptors.TheConstants.{DESCRIPTORS}
use Rattle.fd_table.specs.declared.faults.FdFault.{FdFault}
use Rattle.fd_table.specs.declared.names.Object.{Object}
use Rattle.fd_table.specs.declared.names.Object.TheVariants.{Input, Out, Diag, File, PipeRead, PipeWrite}
use Rattle.fd_table.specs.Descriptors.{Descriptors, entry_of, close_answer}
use Rattle.fd_table.specs.Entries.{lowest_free_entry}
use Rattle.mem_files.specs.Name.{Name, Bytes}
use Rattle.proc_table.specs.declared.states.Channel.{Channel}
use Rattle.proc_table.specs.declared.states.Channel.TheVariants.{PipeBytes, PipeRoom, Children}
use Rattle.proc_table.specs.declared.states.Status.{Status}
use Rattle.proc_table.specs.declared.states.Status.TheVariants.{Running, Zombie}
use Rattle.proc_table.specs.Slots.{Slot, Table, at, is_free, is_number, is_zombie, is_zombie_child_of, is_running_on, parent_of}
use Rattle.proc_table.specs.Calls.{boot_table, newborn, forked, with_status, status_set, dispatched, made_ready, readied, put_to_sleep, slept, with_fds, fds_set, woken, all_woken, parent_after, given, zombie_child, exited, freed, lowest_free}
use Rattle.kernel_model.specs.declared.events.Event.{Event}
use Rattle.kernel_model.specs.declared.events.Event.TheVariants.{Dispatch, Trap}
use Rattle.kernel_model.specs.KernelState.{KernelState, fds_at}
use Rattle.kernel_model.specs.Pipes.{Pipes, pipe_of, with_pipe, without_pipe, with_new, kept_while_open, reader_gone, writer_gone}
use Rattle.kernel_model.specs.Replies.{answered, sleeps, wakes}
use Rattle.kernel_model.specs.Descriptors.{let_go, let_go_of, taken_away, closed, closed_below, opened_at, with_open, with_reader}
use Rattle.kernel_model.specs.Opening.{with_bytes}
use Rattle.kernel_model.specs.Boot.{boot_kernel, closed_kernel}
use Rattle.kernel_model.specs.Events.{acted, counted, trapped, can_dispatch, happens, then_happens, run}
use Rattle.kernel_model.proofs.Along.{acted_along}
use Rattle.law_kernel.specs.Outcome.{Outcome, refused, lacks, forks, runs, exits, reaps, waits, opens, opens_empty, closes, dups, pipes, reads_input, reads_file, takes, waits_for_bytes, meets_end, tells, complains, writes_over, appends, puts_all, puts_part}
use Rattle.law_kernel.proofs.outcomes.Outcomes.{every_call_ends}
use Rattle.order_search.specs.Places.{AscendWithin, IsBorn, AreBorn, IsOrderly}

-- ---- pipes

lower : (a b high : ℕ) (ps : Pipes) → a ≤ b → AscendWithin b high ps → AscendWithin a high ps
lower a b high [] le up = omega (arith, le, up)
lower a b high (p ∷ rest) le up = (omega (arith, le, up.0), up.1)

higher : (low h g : ℕ) (ps : Pipes) → h ≤ g → AscendWithin low h ps → AscendWithin low g ps
higher low h g [] le up = omega (arith, le, up)
higher low h g (p ∷ rest) le up = (up.0, higher p.0 h g rest le up.1)

new_up : (low h id : ℕ) (ps : Pipes) → h < id → AscendWithin low h ps → AscendWithin low id (ps ++ (id, new_pipe) ∷ [])
new_up low h id [] later up = (omega (arith, later, up), omega arith)
new_up low h id (p ∷ rest) later up = (up.0, new_up p.0 h id rest later up.1)

either : {X : Type 0} (b : Bool) (P : X → Type 0) (x y : X) → P x → P y → P (if b then x else y)
either true P x y a c = a
either false P x y a c = c

changed_up : (low h id : ℕ) (now : PipeState) (ps : Pipes) → AscendWithin low h ps → AscendWithin low h (with_pipe ps id now)
changed_up low h id now [] up = up
changed_up low h id now (p ∷ rest) up = either (id == p.0) (AscendWithin low h) ((p.0, now) ∷ rest) (p ∷ with_pipe rest id now) up (up.0, changed_up p.0 h id now rest up.1)

gone_up : (low h id : ℕ) (ps : Pipes) → AscendWithin low h ps → AscendWithin low h (without_pipe ps id)
gone_up low h id [] up = up
gone_up low h id (p ∷ rest) up = either (id == p.0) (AscendWithin low h) rest (p ∷ without_pipe rest id) (lower low p.0 h rest (omega (arith, up.0)) up.1) (up.0, gone_up p.0 h id rest up.1)

closed_up : (h id : ℕ) (now : PipeState) (ps : Pipes) → AscendWithin 0 h ps → AscendWithin 0 h (kept_while_open ps id now)
closed_up h id now ps up = by (now.reader || now.writer) where
  by : (b : Bool) → AscendWithin 0 h (if b then with_pipe ps id now else without_pipe ps id)
  by true = changed_up 0 h id now ps up
  by false = gone_up 0 h id ps up

-- ---- tables

at_set : {S : Type 0} (t : Table S) (pid i : ℕ) (v : Slot S) → ((at (slice_set t pid v) i ≡ v) × (i ≡ pid)) ⊎ (at (slice_set t pid v) i ≡ at t i)
at_set [] pid i v = inr refl
at_set (x ∷ t) zero zero v = inl (refl, refl)
at_set (x ∷ t) zero (suc i) v = inr refl
at_set (x ∷ t) (suc pid) zero v = inr refl
at_set (x ∷ t) (suc pid) (suc i) v = by (at_set t pid i v) where
  by : ((at (slice_set t pid v) i ≡ v) × (i ≡ pid)) ⊎ (at (slice_set t pid v) i ≡ at t i) → ((at (slice_set t pid v) i ≡ v) × (suc i ≡ suc pid)) ⊎ (at (slice_set t pid v) i ≡ at t i)
  by (inl same) = inl (same.0, ap suc same.1)
  by (inr other) = inr other

set_born : {S : Type 0} (t : Table S) (pid : ℕ) (v : Slot S) → IsBorn pid v → AreBorn t → AreBorn (slice_set t pid v)
set_born t pid v new all i = by (at_set t pid i v) where
  by : ((at (slice_set t pid v) i ≡ v) × (i ≡ pid)) ⊎ (at (slice_set t pid v) i ≡ at t i) → IsBorn i (at (slice_set t pid v) i)
  by (inl same) = subst (λ (x : Slot _). IsBorn i x) (sym same.0) (subst (λ (j : ℕ). IsBorn j v) (sym same.1) new)
  by (inr other) = subst (λ (x : Slot _). IsBorn i x) (sym other) (all i)

at_map : {S : Type 0} (f : Slot S → Slot S) (none : f None ≡ None) (t : Table S) (i : ℕ) → at (map f t) i ≡ f (at t i)
at_map f none [] i = sym none
at_map f none (x ∷ t) zero = refl
at_map f none (x ∷ t) (suc i) = at_map f none t i

map_born : {S : Type 0} (f : Slot S → Slot S) (none : f None ≡ None) → ((i : ℕ) (x : Slot S) → IsBorn i x → IsBorn i (f x)) → (t : Table S) → AreBorn t → AreBorn (map f t)
map_born f none keeps t all i = subst (λ (x : Slot _). IsBorn i x) (sym (at_map f none t i)) (keeps i (at t i) (all i))

none_stays : (pid : ℕ) (o : Option ℕ) → o ≡ None → parent_after pid o ≡ None
none_stays pid None is = refl
none_stays pid (Some q) is = absurd (let z : ⊥ = cc in z)

some_stays : (b : Bool) (o : Option ℕ) → IsSome o → IsSome (if b then Some 0 else o)
some_stays true o is = refl
some_stays false o is = is

no_number : (pid : ℕ) (o : Option ℕ) → o ≡ None → is_number pid o ≡ false
no_number pid o is = ap (is_number pid) is

not_and : (a b : Bool) → a ≡ false → (a && b) ≡ true → ⊥
not_and true b off both = let z : ⊥ = cc in z
not_and false b off both = let z : ⊥ = cc in z

module _ {S : Type 0} where
  ready_slot : (i : ℕ) (m : S) (r : Reply) (x : Slot S) → IsBorn i x → IsBorn i (made_ready m r x)
  ready_slot i m r None b = b
  ready_slot i m r (Some p) b = b

  ready_born : (t : Table S) (pid : ℕ) (m : S) (r : Reply) → AreBorn t → AreBorn (readied t pid m r)
  ready_born t pid m r all = set_born t pid (made_ready m r (at t pid)) (ready_slot pid m r (at t pid) (all pid)) all

  sleep_slot : (i : ℕ) (c : Channel) (n : ℕ) (x : Slot S) → IsBorn i x → IsBorn i (put_to_sleep c n x)
  sleep_slot i c n None b = b
  sleep_slot i c n (Some p) b = b

  sleep_born : (t : Table S) (pid : ℕ) (c : Channel) (n : ℕ) → AreBorn t → AreBorn (slept t pid c n)
  sleep_born t pid c n all = set_born t pid (put_to_sleep c n (at t pid)) (sleep_slot pid c n (at t pid) (all pid)) all

  fds_slot : (i : ℕ) (fds : Descriptors) (x : Slot S) → IsBorn i x → IsBorn i (with_fds fds x)
  fds_slot i fds None b = b
  fds_slot i fds (Some p) b = b

  fds_born : (t : Table S) (pid : ℕ) (fds : Descriptors) → AreBorn t → AreBorn (fds_set t pid fds)
  fds_born t pid fds all = set_born t pid (with_fds fds (at t pid)) (fds_slot pid fds (at t pid) (all pid)) all

  status_slot : (i : ℕ) (s : Status) (x : Slot S) → IsBorn i x → IsBorn i (with_status s x)
  status_slot i s None b = b
  status_slot i s (Some p) b = b

  status_born : (t : Table S) (pid : ℕ) (s : Status) → AreBorn t → AreBorn (status_set t pid s)
  status_born t pid s all = set_born t pid (with_status s (at t pid)) (status_slot pid s (at t pid) (all pid)) all

  woken_slot : (c : Channel) (i : ℕ) (x : Slot S) → IsBorn i x → IsBorn i (woken c x)
  woken_slot c i None b = b
  woken_slot c i (Some p) b = b

  woken_born : (t : Table S) (c : Channel) → AreBorn t → AreBorn (all_woken c t)
  woken_born t c all = map_born (woken c) refl (woken_slot c) t all

  given_slot : (pid i : ℕ) (x : Slot S) → IsBorn i x → IsBorn i (given pid x)
  given_slot pid i None b = b
  given_slot pid i (Some p) b = (λ zero. none_stays pid p.parent (b.0 zero), λ other. some_stays (is_number pid p.parent) p.parent (b.1 other))

  abbrev Gone : Table S → ℕ → Table S
  Gone t pid = all_woken (Children (parent_of (at t pid))) (status_set (map (given pid) t) pid Zombie)

  gone_born : (t : Table S) (pid : ℕ) → AreBorn t → AreBorn (Gone t pid)
  gone_born t pid all = woken_born (status_set (map (given pid) t) pid Zombie) (Children (parent_of (at t pid))) (status_born (map (given pid) t) pid Zombie (map_born (given pid) refl (given_slot pid) t all))

  exit_by : (t : Table S) (pid : ℕ) (b : Bool) → AreBorn t → AreBorn (if b then all_woken (Children 0) (Gone t pid) else Gone t pid)
  exit_by t pid true all = woken_born (Gone t pid) (Children 0) (gone_born t pid all)
  exit_by t pid false all = gone_born t pid all

  exit_born : (t : Table S) (pid : ℕ) → AreBorn t → AreBorn (exited t pid)
  exit_born t pid all = exit_by t pid (is_some (zombie_child t pid)) all

  -- slot 0 is used, and nobody's child
  not_free : (x : Slot S) → IsBorn 0 x → is_free x ≡ true → ⊥
  not_free None b is = b refl
  not_free (Some p) b is = let z : ⊥ = cc in z

  no_child : (pid : ℕ) (x : Slot S) → IsBorn 0 x → is_zombie_child_of pid x ≡ true → ⊥
  no_child pid None b is = let z : ⊥ = cc in z
  no_child pid (Some p) b is = not_and (is_number pid p.parent) (is_zombie (Some p)) (no_number pid p.parent (b.0 refl)) is

  found_at : (p : Slot S → Bool) (t : Table S) (i : ℕ) → position p t ≡ Some i → p (at t i) ≡ true
  found_at p t i is = (position-Some p t i None is).1

  child_born : (t : Table S) (child pid : ℕ) (m : S) (fds : Descriptors) → lowest_free t ≡ Some child → AreBorn t → IsBorn child (Some (newborn pid m fds))
  child_born t child pid m fds found all = (λ is. absurd (not_free (at t 0) (all 0) (ap (λ (i : ℕ). is_free (at t i)) (sym is) ∙ found_at is_free t child found)), λ other. refl)

  fork_born : (t : Table S) (child pid : ℕ) (m : S) (fds : Descriptors) → lowest_free t ≡ Some child → AreBorn t → AreBorn (forked t child pid m fds)
  fork_born t child pid m fds found all = set_born t child (Some (newborn pid m fds)) (child_born t child pid m fds found all) all

  reap_born : (t : Table S) (pid : ℕ) (o : Option ℕ) → zombie_child t pid ≡ o → AreBorn t → AreBorn (freed t o)
  reap_born t pid None found all = all
  reap_born t pid (Some child) found all = set_born t child None (λ is. no_child pid (at t 0) (all 0) (ap (λ (i : ℕ). is_zombie_child_of pid (at t i)) (sym is) ∙ found_at (is_zombie_child_of pid) t child found)) all

-- ---- kernels

-- the names are those of events up to h
pub record Ordered {S : Type 0} (h : ℕ) (k : KernelState S) : Type 0 where
  pub pipes : AscendWithin 0 h k.pipes
  pub born : AreBorn k.table

module _ {S : Type 0} (h : ℕ) (pid : ℕ) where
  open_ordered : (k : KernelState S) (object : Object) → Ordered h k → Ordered h (with_open k pid object)
  open_ordered k object o = by (lowest_free_entry k.entries) where
    by : (place : Option ℕ) → Ordered h (opened_at k pid object place)
    by None = o
    by (Some e) = record { pipes = o.pipes; born = fds_born k.table pid _ o.born }

  let_go_ordered : (k : KernelState S) (object : Object) → Ordered h k → Ordered h (let_go k object)
  let_go_ordered k Input o = o
  let_go_ordered k Out o = o
  let_go_ordered k Diag o = o
  let_go_ordered k (File name mode) o = o
  let_go_ordered k (PipeRead id) o = by (pipe_of k.pipes id) where
    by : (p : Option PipeState) → Ordered h (wakes (PipeRoom id) (record k { pipes = reader_gone k.pipes id p }))
    by None = record { pipes = o.pipes; born = woken_born k.table (PipeRoom id) o.born }
    by (Some p) = record { pipes = closed_up h id (after_close_read p) k.pipes o.pipes; born = woken_born k.table (PipeRoom id) o.born }
  let_go_ordered k (PipeWrite id) o = by (pipe_of k.pipes id) where
    by : (p : Option PipeState) → Ordered h (wakes (PipeBytes id) (record k { pipes = writer_gone k.pipes id p }))
    by None = record { pipes = o.pipes; born = woken_born k.table (PipeBytes id) o.born }
    by (Some p) = record { pipes = closed_up h id (after_close_write p) k.pipes o.pipes; born = woken_born k.table (PipeBytes id) o.born }

  let_go_of_ordered : (k : KernelState S) (r : Result (Option Object) FdFault) → Ordered h k → Ordered h (let_go_of k r)
  let_go_of_ordered k (Err fault) o = o
  let_go_of_ordered k (Ok None) o = o
  let_go_of_ordered k (Ok (Some object)) o = let_go_ordered k object o

  closed_ordered : (k : KernelState S) (fd : ℕ) → Ordered h k → Ordered h (closed k pid fd)
  closed_ordered k fd o =
      let_go_of_ordered (taken_away k pid fd (entry_of (fds_at k pid) fd)) (close_answer k.entries (entry_of (fds_at k pid) fd)) (record { pipes = o.pipes; born = fds_born k.table pid _ o.born })

  closed_below_ordered : (k : KernelState S) (m : ℕ) → Ordered h k → Ordered h (closed_below k pid m)
  unfolding closed_below
  closed_below_ordered k zero o = o
  closed_below_ordered k (suc m) o = closed_ordered (closed_below k pid m) m (closed_below_ordered k m o)

  answer_ordered : (k : KernelState S) (after : S) (reply : Reply) → Ordered h k → Ordered h (answered k pid after reply)
  answer_ordered k after reply o = record { pipes = o.pipes; born = ready_born k.table pid after reply o.born }

  sleeps_ordered : (k : KernelState S) (c : Channel) (n : ℕ) → Ordered h k → Ordered h (sleeps k pid c n)
  sleeps_ordered k c n o = record { pipes = o.pipes; born = sleep_born k.table pid c n o.born }

  wakes_ordered : (k : KernelState S) (c : Channel) → Ordered h k → Ordered h (wakes c k)
  wakes_ordered k c o = record { pipes = o.pipes; born = woken_born k.table c o.born }

module _ {S : Type 0} (k : KernelState S) (pid : ℕ) (after : S) (call : Call) (before : ℕ) (later : before < k.events) (was : Ordered before k) where
  abbrev Now : KernelState S → Type 0
  Now = Ordered k.events

  now : Now k
  now = record { pipes = higher 0 before k.events k.pipes (omega (arith, later)) was.pipes; born = was.born }

  with_now : (m : KernelState S) → m.table ≡ k.table → m.pipes ≡ k.pipes → Now m
  with_now m same_table same_pipes = record { pipes = subst (AscendWithin 0 k.events) (sym same_pipes) now.pipes; born = subst AreBorn (sym same_table) was.born }

  call_ordered : (new : KernelState S) → Outcome k pid after call new → Now new
  call_ordered new (refused is) = subst Now (sym is) (answer_ordered k.events pid k after _ now)
  call_ordered new (lacks full is) = subst Now (sym is) (record { pipes = now.pipes; born = ready_born k.table pid after _ was.born })
  call_ordered new (forks child c free is) = subst Now (sym is) (record { pipes = now.pipes; born = ready_born _ pid after _ (fork_born k.table child pid after (fds_at k pid) free was.born) })
  call_ordered new (runs c is) = subst Now (sym is) (answer_ordered k.events pid k after _ now)
  call_ordered new (exits c other is) =
      let o = closed_below_ordered k.events pid k DESCRIPTORS now in
      subst Now (sym is) (record { pipes = o.pipes; born = exit_born (closed_below k pid DESCRIPTORS).table pid o.born })
  call_ordered new (reaps child c found is) = subst Now (sym is) (record { pipes = now.pipes; born = ready_born _ pid after _ (reap_born k.table pid (zombie_child k.table pid) refl was.born) })
  call_ordered new (waits child c none some is) = subst Now (sym is) (sleeps_ordered k.events pid k _ 0 now)
  call_ordered new (opens name mode fd c is) = subst Now (sym is) (answer_ordered k.events pid _ after _ (open_ordered k.events pid k _ now))
  call_ordered new (opens_empty name mode fd c is) = subst Now (sym is) (answer_ordered k.events pid _ after _ (open_ordered k.events pid (with_bytes k name []) _ (with_now (with_bytes k name []) refl refl)))
  call_ordered new (closes fd c is) = subst Now (sym is) (answer_ordered k.events pid _ after _ (closed_ordered k.events pid k fd now))
  call_ordered new (dups fd entry place c e p is) = subst Now (sym is) (record { pipes = now.pipes; born = ready_born _ pid after _ (fds_born k.table pid _ was.born) })
  call_ordered new (pipes reader writer c room is) =
      let made : KernelState S = record k { pipes = with_new k.pipes k.events } in
      let o : Now made = record { pipes = new_up 0 before k.events k.pipes later was.pipes; born = was.born } in
      subst Now (sym is) (answer_ordered k.events pid _ after _ (open_ordered k.events pid (with_reader k pid k.events) _ (open_ordered k.events pid made _ o)))
  call_ordered new (reads_input n r is) = subst Now (sym is) (record { pipes = now.pipes; born = ready_born k.table pid after _ was.born })
  call_ordered new (reads_file name mode entry n got r is) = subst Now (sym is) (record { pipes = now.pipes; born = ready_born k.table pid after _ was.born })
  call_ordered new (takes id n p r found some is) = subst Now (sym is) (record { pipes = changed_up 0 k.events id _ k.pipes now.pipes; born = woken_born _ (PipeRoom id) (ready_born k.table pid after _ was.born) })
  call_ordered new (waits_for_bytes id p r found none opened is) = subst Now (sym is) (sleeps_ordered k.events pid k _ 0 now)
  call_ordered new (meets_end id p r found none shut is) = subst Now (sym is) (answer_ordered k.events pid k after _ now)
  call_ordered new (tells b w is) = subst Now (sym is) (record { pipes = now.pipes; born = ready_born k.table pid after _ was.born })
  call_ordered new (complains b w is) = subst Now (sym is) (record { pipes = now.pipes; born = ready_born k.table pid after _ was.born })
  call_ordered new (writes_over name mode entry b bytes w is) = subst Now (sym is) (record { pipes = now.pipes; born = ready_born k.table pid after _ was.born })
  call_ordered new (appends name mode entry b bytes w is) = subst Now (sym is) (record { pipes = now.pipes; born = ready_born k.table pid after _ was.born })
  call_ordered new (puts_all id p b w found all is) = subst Now (sym is) (record { pipes = changed_up 0 k.events id _ k.pipes now.pipes; born = woken_born _ (PipeBytes id) (ready_born k.table pid after _ was.born) })
  call_ordered new (puts_part id n p b w found opened room part less is) = subst Now (sym is) (record { pipes = changed_up 0 k.events id _ k.pipes now.pipes; born = woken_born _ (PipeBytes id) (sleep_born k.table pid _ _ was.born) })

-- ---- runs

abbrev pub OrderlyIf : {S : Type 0} → Option (KernelState S) → Type 0
OrderlyIf None = ⊤
OrderlyIf (Some k) = IsOrderly k

orderly_where : {S : Type 0} (b : Bool) (o : Option (KernelState S)) → OrderlyIf o → OrderlyIf (if b then o else None)
orderly_where true o s = s
orderly_where false o s = tt

module _ {S : Type 0} (call : S → Reply → Call) (next : S → Reply → S) where
  trap_orderly : (k : KernelState S) (pid : ℕ) (x : Slot S) (noted : Bool) → IsOrderly k → OrderlyIf (trapped call next k pid x noted)
  trap_orderly k pid None noted s = tt
  trap_orderly k pid (Some p) noted s =
      let after = next p.machine p.reply in
      let made = call p.machine p.reply in
      let o = call_ordered (counted k) pid after made k.events (omega arith) (record { pipes = s.pipes; born = s.born }) (acted (counted k) pid after made noted) (every_call_ends (counted k) pid after made noted) in
      let same : (acted (counted k) pid after made noted).events ≡ k.events + 1 = (acted_along pid after (counted k) made noted).events in
      record { pipes = subst (λ (h : ℕ). AscendWithin 0 h (acted (counted k) pid after made noted).pipes) (sym same) o.pipes; born = o.born }

  happens_orderly : (k : KernelState S) (e : Event) (noted : Bool) → IsOrderly k → OrderlyIf (happens call next k e noted)
  happens_orderly k (Dispatch h pid) noted s =
      orderly_where (can_dispatch k.table h pid) (Some (record (counted k) { table = dispatched k.table pid h })) (record { pipes = higher 0 k.events (k.events + 1) k.pipes (omega arith) s.pipes; born = status_born k.table pid (Running h) s.born })
  happens_orderly k (Trap h pid) noted s = orderly_where (is_running_on h (at k.table pid)) (trapped call next k pid (at k.table pid) noted) (trap_orderly k pid (at k.table pid) noted s)

  then_orderly : (o : Option (KernelState S)) (e : Event) (noted : Bool) → OrderlyIf o → OrderlyIf (then_happens call next o e noted)
  then_orderly None e noted s = tt
  then_orderly (Some k) e noted s = happens_orderly k e noted s

  pub run_orderly : (o : Option (KernelState S)) (events : List Event) (notes : List Bool) → OrderlyIf o → OrderlyIf (run call next o events notes)
  run_orderly o [] [] s = s
  run_orderly o (e ∷ es) (n ∷ ns) s = run_orderly (then_happens call next o e n) es ns (then_orderly o e n s)
  run_orderly o [] (n ∷ ns) s = tt
  run_orderly o (e ∷ es) [] s = tt

-- ---- the start

none_at : {S : Type 0} (n i : ℕ) → at {S = S} (replicate n None) i ≡ None
none_at zero i = refl
none_at (suc n) zero = refl
none_at (suc n) (suc i) = none_at n i

boot_born : {S : Type 0} (init shell : S) → AreBorn (boot_table init shell)
boot_born init shell zero = (λ is. refl, λ other. absurd (other refl))
boot_born init shell (suc zero) = (λ is. absurd (let z : ⊥ = omega (arith, is) in z), λ other. refl)
boot_born init shell (suc (suc i)) = subst (λ (x : Slot _). IsBorn (suc (suc i)) x) (sym (none_at 62 i)) (λ is. omega (arith, is))

pub boot_orderly : {S : Type 0} (init shell : S) (input : Bytes) (list : List (Name × Bytes)) → IsOrderly (boot_kernel init shell input list)
boot_orderly init shell input list =
    let k0 = closed_kernel init shell input list in
    let k1 = with_open k0 1 Input in
    let k2 = with_open k1 1 Out in
    let o0 : Ordered 0 k0 = record { pipes = omega arith; born = boot_born init shell } in
    let o = open_ordered 0 1 k2 Diag (open_ordered 0 1 k1 Out (open_ordered 0 1 k0 Input o0)) in
    record { pipes = o.pipes; born = o.born }
