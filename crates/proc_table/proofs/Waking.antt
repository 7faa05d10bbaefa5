-- What is first in a queue is Runnable, and what is first in a channel's list sleeps on it; where there is none, nobody is or does.
use Rattle.std.proofs.Common.{◌≡◌, ◌≢◌, ◌⊎◌, inl, inr, ℕ, ◌<◌, ◌≤◌, List, [], ◌∷◌, Bool, true, false, Option, Some, None, get_or, refl, sym, ap, ◌∙◌, arith}
use Rattle.std.proofs.lemmas.Bool.{and_parts, cases_lt, eq-eqb}
use Rattle.std.specs.Prelude.{◌==◌, ◌||◌, ◌&&◌, slice_get}
use Rattle.slot_lists.specs.Links.{has, slots_of}
use Rattle.proc_table.specs.declared.heads.Head.{Head}
use Rattle.proc_table.specs.declared.states.Channel.{Channel}
use Rattle.proc_table.specs.Slots.{is_asleep_on_status, is_runnable_status}
use Rattle.proc_table.specs.Heads.{head_at, head_has}
use Rattle.proc_table.specs.Channels.{channel_of}
use Rattle.proc_table.specs.Queues.{AreQueued, Queues, sleepers_of, sleeps_on}
use Rattle.proc_table.proofs.Queueing.{past}

pub first_has : (xs : List ℕ) (x : ℕ) → slice_get xs 0 ≡ Some x → has xs x ≡ true
first_has [] x is = absurd (let no : ⊥ = cc in no)
first_has (y ∷ xs) x is = ap (λ (b : Bool). b || has xs x) (eq-eqb x y (let same : y ≡ x = cc in sym same))

pub none_has : (xs : List ℕ) (x : ℕ) → slice_get xs 0 ≡ None → has xs x ≡ false
none_has [] x is = refl
none_has (y ∷ xs) x is = absurd (let no : ⊥ = cc in no)

-- the first in a hart's queue is Runnable
pub first_runs : (heads : List (Option Head)) (queues : Queues) → AreQueued heads queues → (hart slot : ℕ) → hart < 8 → slot < 64
    → slice_get (slots_of queues.lists hart) 0 ≡ Some slot → head_has is_runnable_status (head_at heads slot) ≡ true
first_runs heads queues queued hart slot lt small first =
    (and_parts (head_has is_runnable_status (head_at heads slot)) (hart == get_or queues.last slot 0) (sym (queued.standing.runnable hart slot lt small) ∙ first_has (slots_of queues.lists hart) slot first)).0

-- where all queues are empty, nothing is Runnable
pub none_runs : (heads : List (Option Head)) (queues : Queues) → AreQueued heads queues → ((slot : ℕ) → slot < 64 → get_or queues.last slot 0 < 8)
    → ((hart : ℕ) → hart < 8 → slice_get (slots_of queues.lists hart) 0 ≡ None) → (slot : ℕ) → head_has is_runnable_status (head_at heads slot) ≡ false
none_runs heads queues queued harts empty slot = by (cases_lt slot 64) where
  off : (b : Bool) (hart : ℕ) → (b && (hart == hart)) ≡ false → b ≡ false
  off true hart is = absurd (let on : true ≡ false = sym (eq-eqb hart hart refl) ∙ is in let no : ⊥ = cc in no)
  off false hart is = refl

  by : (slot < 64) ⊎ (64 ≤ slot) → head_has is_runnable_status (head_at heads slot) ≡ false
  by (inl small) =
      off (head_has is_runnable_status (head_at heads slot)) (get_or queues.last slot 0)
      (sym (queued.standing.runnable (get_or queues.last slot 0) slot (harts slot small) small) ∙ none_has (slots_of queues.lists (get_or queues.last slot 0)) slot (empty (get_or queues.last slot 0) (harts slot small)))
  by (inr far) = past heads slot is_runnable_status (omega (arith, queued.standing.all))

-- the first in a channel's list sleeps on it
pub first_sleeps : (heads : List (Option Head)) (queues : Queues) → AreQueued heads queues → (channel : Channel) (list slot : ℕ) → channel_of queues.channels list ≡ Some channel → list < 64 → slot < 64
    → slice_get (sleepers_of queues.lists list) 0 ≡ Some slot → head_has (is_asleep_on_status channel) (head_at heads slot) ≡ true
first_sleeps heads queues queued channel list slot named lt small first =
    ap (λ (x : Option Channel). sleeps_on x (head_at heads slot)) (sym named) ∙ sym (queued.standing.asleep list slot lt small) ∙ first_has (sleepers_of queues.lists list) slot first

-- a channel with a list has a sleeper, so its list isn't empty
pub not_empty : (heads : List (Option Head)) (queues : Queues) → AreQueued heads queues → (channel : Channel) (list : ℕ) → channel_of queues.channels list ≡ Some channel → slice_get (sleepers_of queues.lists list) 0 ≡ None → ⊥
not_empty heads queues queued channel list named none =
    let u = queued.used list channel named in
    let no : false ≡ true = sym (none_has (sleepers_of queues.lists list) u.0 none) ∙ u.2 in
    let not : ⊥ = cc in not

-- on a channel without a list nobody sleeps
pub none_sleeps : (heads : List (Option Head)) (queues : Queues) → AreQueued heads queues → (channel : Channel) → ((list : ℕ) → channel_of queues.channels list ≢ Some channel)
    → (slot : ℕ) → head_has (is_asleep_on_status channel) (head_at heads slot) ≡ false
none_sleeps heads queues queued channel none slot = by (head_has (is_asleep_on_status channel) (head_at heads slot)) refl where
  by : (b : Bool) → head_has (is_asleep_on_status channel) (head_at heads slot) ≡ b → head_has (is_asleep_on_status channel) (head_at heads slot) ≡ false
  by false is = is
  by true is = let h = queued.standing.listed slot channel is in absurd (none h.0 h.1)
