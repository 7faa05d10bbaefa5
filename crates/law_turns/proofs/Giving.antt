-- Whose turn gives way to nobody's: it is there and Runnable, its call never puts it to sleep or finds a zombie, and somebody but init is
-- there.
use Rattle.std.proofs.Common.{◌≡◌, ◌≢◌, ◌⊎◌, ℕ, true, Some, inl, inr, sym, subst, ◌∙◌}
use Rattle.std.proofs.lemmas.Bool.{cases_eq}
use Rattle.user_calls.specs.declared.calls.Call.{Call}
use Rattle.user_calls.specs.declared.calls.Call.TheVariants.{Fork, Exec, Exit, Wait, MakePipe, Read, Write, OpenFile, Close, Dup}
use Rattle.user_calls.specs.declared.calls.Reply.{Reply}
use Rattle.fd_table.specs.Descriptors.{Descriptors}
use Rattle.proc_table.specs.declared.states.Status.TheVariants.{Runnable}
use Rattle.proc_table.specs.Slots.{Process, at, is_zombie_child_of}
use Rattle.kernel_model.specs.KernelState.{KernelState}
use Rattle.kernel_model.specs.Privately.{IsPrivateCall, executes, dups, closes}
use Rattle.kernel_model.specs.Giving.{GivesWay, privately, closes as closes_in_room, forks, reaps, exits}
use Rattle.law_turns.proofs.slot_numbers.Slots.{zombie_is}
use Rattle.law_turns.proofs.waits.Turned.{other_slot}

-- the call never puts its process to sleep
abbrev pub Sleepless : Call → Type 0
Sleepless Fork = Unit {0}
Sleepless (Exec found) = Unit {0}
Sleepless Exit = Unit {0}
Sleepless Wait = ⊥
Sleepless MakePipe = Unit {0}
Sleepless (Read fd n) = ⊥
Sleepless (Write fd b) = ⊥
Sleepless (OpenFile file mode) = Unit {0}
Sleepless (Close fd) = Unit {0}
Sleepless (Dup fd) = Unit {0}

private_sleepless : (fds : Descriptors) (c : Call) → IsPrivateCall fds c → Sleepless c
private_sleepless fds c (executes found is) = subst Sleepless (sym is) tt
private_sleepless fds c (dups fd entry place is held free) = subst Sleepless (sym is) tt
private_sleepless fds c (closes fd entry is held enough) = subst Sleepless (sym is) tt

-- some child of p is a zombie
abbrev pub HasZombie : {S : Type 0} → KernelState S → ℕ → Type 0
HasZombie k p = (zombie : ℕ) × (is_zombie_child_of p (at k.table zombie) ≡ true)

-- the call is a wait of a process p that finds a zombie
abbrev pub FindsZombie : {S : Type 0} → KernelState S → ℕ → Call → Type 0
FindsZombie k p c = (c ≡ Wait) × HasZombie k p

-- some process but init is there
pub record SomebodyElse {S : Type 0} (k : KernelState S) : Type 0 where
  pub pid : ℕ
  pub child : pid ≢ 0
  pub process : Process S
  pub there : at k.table pid ≡ Some process

module _ {S : Type 0} (call : S → Reply → Call) (next : S → Reply → S) where
  pub record Giver (k : KernelState S) (p : ℕ) : Type 0 where
    pub process : Process S
    pub there : at k.table p ≡ Some process
    pub ready : process.status ≡ Runnable
    pub calls : Sleepless (call process.machine process.reply) ⊎ FindsZombie k p (call process.machine process.reply)
    pub some : SomebodyElse k

  -- the process that waits is another one than the zombie, so one of the two isn't init
  waiting_else : (k : KernelState S) (p z : ℕ) (x : Process S) → at k.table p ≡ Some x → x.status ≡ Runnable → is_zombie_child_of p (at k.table z) ≡ true → SomebodyElse k
  waiting_else k p z x there ready is = by (cases_eq p 0) where
    by : (p ≡ 0) ⊎ (p ≢ 0) → SomebodyElse k
    by (inr child) = record { pid = p; child = child; process = x; there = there }
    by (inl init) =
        let it = zombie_is p (at k.table z) is in
        record { pid = z; child = λ zero. other_slot k.table p z (Some p) x it there ready (init ∙ sym zero); process = it.process; there = it.there }

  pub giver : (k : KernelState S) (p : ℕ) → GivesWay call next k p → Giver k p
  giver k p (privately e) =
      record {
        process = e.process;
        there = e.there;
        ready = e.ready;
        calls = inl (private_sleepless e.process.fds (call e.process.machine e.process.reply) e.calls);
        some = record { pid = p; child = e.child; process = e.process; there = e.there };
      }
  giver k p (closes_in_room e) =
      let c = e.closes in
      record { process = c.process; there = c.there; ready = c.ready; calls = inl (subst Sleepless (sym c.calls) tt); some = record { pid = p; child = e.child; process = c.process; there = c.there } }
  giver k p (forks child e slots) =
      record { process = e.process; there = e.there; ready = e.ready; calls = inl (subst Sleepless (sym e.calls) tt); some = record { pid = p; child = child; process = e.process; there = e.there } }
  giver k p (reaps e slots) =
      record { process = e.process; there = e.there; ready = e.ready; calls = inr (e.calls, (e.zombie, e.dead)); some = waiting_else k p e.zombie e.process e.there e.ready e.dead }
  giver k p (exits child e room) =
      record { process = e.process; there = e.there; ready = e.ready; calls = inl (subst Sleepless (sym e.calls) tt); some = record { pid = p; child = child; process = e.process; there = e.there } }
