-- In every run from the start each entry counts its holders, a zombie holds nothing, and the files are as they have to be.
use Rattle.std.proofs.Common.{◌≡◌, ℕ, List, [], ◌∷◌, Bool, true, false, Option, Some, None, refl, ap, subst, ◌∙◌}
use Rattle.std.specs.Prelude.{⊤, if◌then◌else◌, count_by}
use Rattle.user_calls.specs.declared.calls.Call.{Call}
use Rattle.user_calls.specs.declared.calls.Reply.{Reply}
use Rattle.proc_table.specs.declared.states.Status.{Status}
use Rattle.proc_table.specs.declared.states.Status.TheVariants.{Runnable, Running, Asleep, Zombie}
use Rattle.proc_table.specs.Slots.{Slot, at, is_running, is_running_status, is_running_on, is_running_on_status}
use Rattle.proc_table.specs.Calls.{dispatched}
use Rattle.mem_files.specs.Name.{Name, Bytes}
use Rattle.mem_files.specs.Listing.{AreFiles}
use Rattle.kernel_model.specs.declared.events.Event.{Event}
use Rattle.kernel_model.specs.declared.events.Event.TheVariants.{Dispatch, Trap}
use Rattle.kernel_model.specs.KernelState.{KernelState}
use Rattle.kernel_model.specs.Sound.{IsSound}
use Rattle.kernel_model.specs.Boot.{boot_kernel}
use Rattle.kernel_model.specs.Events.{counted, trapped, can_dispatch, happens, then_happens, run}
use Rattle.kernel_model.proofs.Acts.{acted_after}
use Rattle.kernel_model.proofs.Booting.{boot_sound}
use Rattle.kernel_model.proofs.Keeps.{mid}
use Rattle.kernel_model.proofs.Sound.{dispatch_sound}
use Rattle.law_kernel.proofs.kernel.FilesKept.{acted_files}

-- counts and files are right
pub record InOrder {S : Type 0} (k : KernelState S) : Type 0 where
  pub sound : IsSound k.table k.entries
  pub files : AreFiles k.files

abbrev pub InOrderIf : {S : Type 0} → Option (KernelState S) → Type 0
InOrderIf None = ⊤
InOrderIf (Some k) = InOrder k

in_order_where : {S : Type 0} (b : Bool) (o : Option (KernelState S)) → (b ≡ true → InOrderIf o) → InOrderIf (if b then o else None)
in_order_where true o s = s refl
in_order_where false o s = tt

pub hart_runs : (h : ℕ) (s : Status) → is_running_on_status h s ≡ true → is_running_status s ≡ true
hart_runs h Runnable e = e
hart_runs h (Running other) e = refl
hart_runs h (Asleep c) e = e
hart_runs h Zombie e = e

pub boot_in_order : {S : Type 0} (init shell : S) (input : Bytes) (list : List (Name × Bytes)) → AreFiles list → InOrder (boot_kernel init shell input list)
boot_in_order init shell input list are = record { sound = boot_sound init shell input list; files = are }

module _ {S : Type 0} (call : S → Reply → Call) (next : S → Reply → S) where
  trap_in_order : (k : KernelState S) (pid h : ℕ) (x : Slot S) (refused : Bool) → at k.table pid ≡ x → is_running_on h x ≡ true → InOrder k → InOrderIf (trapped call next k pid x refused)
  trap_in_order k pid h None refused is runs s = tt
  trap_in_order k pid h (Some p) refused is runs s =
      let after = next p.machine p.reply in
      record {
        sound = (acted_after (count_by is_running k.table) pid (counted k) after (call p.machine p.reply) refused s.files (mid k.table k.entries pid s.sound (ap is_running is ∙ hart_runs h p.status runs))).sound;
        files = acted_files pid after (counted k) (call p.machine p.reply) refused s.files;
      }

  happens_in_order : (k : KernelState S) (e : Event) (refused : Bool) → InOrder k → InOrderIf (happens call next k e refused)
  happens_in_order k (Dispatch h pid) refused s =
      in_order_where (can_dispatch k.table h pid) (Some (record (counted k) { table = dispatched k.table pid h })) (λ _. record { sound = dispatch_sound k.table pid h k.entries s.sound; files = s.files })
  happens_in_order k (Trap h pid) refused s =
      in_order_where (is_running_on h (at k.table pid)) (trapped call next k pid (at k.table pid) refused) (λ runs. trap_in_order k pid h (at k.table pid) refused refl runs s)

  pub then_in_order : (o : Option (KernelState S)) (e : Event) (refused : Bool) → InOrderIf o → InOrderIf (then_happens call next o e refused)
  then_in_order None e refused s = tt
  then_in_order (Some k) e refused s = happens_in_order k e refused s

  run_in_order : (o : Option (KernelState S)) (events : List Event) (notes : List Bool) → InOrderIf o → InOrderIf (run call next o events notes)
  run_in_order o [] [] s = s
  run_in_order o (e ∷ es) (n ∷ ns) s = run_in_order (then_happens call next o e n) es ns (then_in_order o e n s)
  run_in_order o [] (n ∷ ns) s = tt
  run_in_order o (e ∷ es) [] s = tt

  every_run_in_order : (init shell : S) (input : Bytes) (list : List (Name × Bytes)) (events : List Event) (notes : List Bool) (m : KernelState S)
      → AreFiles list → run call next (Some (boot_kernel init shell input list)) events notes ≡ Some m → InOrder m
  every_run_in_order init shell input list events notes m are is =
      subst InOrderIf is (run_in_order (Some (boot_kernel init shell input list)) events notes (boot_in_order init shell input list are))

  pub every_run_is_sound : (init shell : S) (input : Bytes) (list : List (Name × Bytes)) (events : List Event) (notes : List Bool) (m : KernelState S)
      → AreFiles list → run call next (Some (boot_kernel init shell input list)) events notes ≡ Some m → IsSound m.table m.entries
  every_run_is_sound init shell input list events notes m are is = (every_run_in_order init shell input list events notes m are is).sound

  pub every_run_has_files : (init shell : S) (input : Bytes) (list : List (Name × Bytes)) (events : List Event) (notes : List Bool) (m : KernelState S)
      → AreFiles list → run call next (Some (boot_kernel init shell input list)) events notes ≡ Some m → AreFiles m.files
  every_run_has_files init shell input list events notes m are is = (every_run_in_order init shell input list events notes m are is).files

  -- and after one event more
  pub next_is_sound : (init shell : S) (input : Bytes) (list : List (Name × Bytes)) (events : List Event) (notes : List Bool) (k : KernelState S) (e : Event) (refused : Bool) (m : KernelState S)
      → AreFiles list → run call next (Some (boot_kernel init shell input list)) events notes ≡ Some k → happens call next k e refused ≡ Some m → IsSound m.table m.entries
  next_is_sound init shell input list events notes k e refused m are ran is =
      (subst InOrderIf is (happens_in_order k e refused (every_run_in_order init shell input list events notes k are ran))).sound
