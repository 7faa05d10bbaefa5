-- A program that is answered, and goes on with the files that it has then.
use Rattle.std.proofs.Common.{◌≡◌, inl, ℕ, ◌+◌, ◌<◌, ◌≤◌, List, ◌∷◌, refl, sym, subst, arith}
use Rattle.mem_files.specs.Files.{FileMap}
use Rattle.script_load.specs.declared.profile.Profile.{Profile}
use Rattle.user_calls.specs.declared.calls.Call.{Call}
use Rattle.user_calls.specs.declared.calls.Reply.{Reply}
use Rattle.user_progs.specs.State.{State}
use Rattle.user_progs.specs.Turn.{Turn, turn}
use Rattle.tree_model.specs.Tame.{AreTame, opened_after}
use Rattle.tree_model.specs.Residual.{running}
use Rattle.tree_model.specs.Rules.{Label, Steps}
use Rattle.process_model.specs.Seen.{Entry, Fds, View}
use Rattle.process_model.specs.Own.{Owned, own_files, own_fds, AreApart, ArePlaced, NoneAppends, OwnFds, IsTame, program_act}
use Rattle.process_model.specs.Shape.{works, same, owned_names}
use Rattle.process_model.specs.Effect.{Sets, Rest, answered}
use Rattle.process_model.specs.Part.{name_of, Tells, IsNotInput, IsNotOut, goes, Part, After}
use Rattle.process_model.proofs.Counts.{called_once}
use Rattle.law_runs.proofs.standing.Frame.{held_stay}
use Rattle.law_runs.proofs.standing.Steady.{steady_next}
use Rattle.law_runs.proofs.standing.CallKinds as kinds

-- a call that a program waits for, and the state in which it does
abbrev pub waiting : Call → State → Turn
waiting call next = record { call = call; next = next }

-- it makes only calls that a program makes, after any reply
pub tame_next : (call : Call) (next : State) (reply : Reply) (owns owns' : List Owned) → own_fds owns' ≡ opened_after call reply (own_fds owns) → IsTame (waiting call next) owns → IsTame (turn next reply) owns'
tame_next call next reply owns owns' fds tame = record {
  which = tame.which;
  arguments = tame.arguments;
  calls = λ replies. subst (λ l. AreTame tame.which tame.arguments (turn next reply).next (turn next reply).call l replies) (sym fds) (tame.calls (reply ∷ replies)).1;
}

-- what a call leaves of input and output, and of names that the part doesn't have
pub record Leaves (V W : View) (a b : Entry) (owns : List Owned) : Type 0 where
  pub others : (k : ℕ) → name_of k a ≡ 0 → name_of k b ≡ 0 → k < V.next → owned_names k owns ≡ 0 → (W.pipes k ≡ V.pipes k) × (W.places k ≡ V.places k)
  pub input_stays : IsNotInput a → W.input ≡ V.input
  pub out_stays : IsNotOut b → W.out ≡ V.out

module _ (profile : Profile) (V W : View) (a b old : Entry) (parent p : ℕ) (call : Call) (next : State) (put : ℕ) (owns : List Owned) where
  abbrev pub Before : Type 0
  Before = Part profile V a b old parent p (works p (waiting call next) put owns)

  abbrev pub Afterwards : Type 0
  Afterwards = After profile V W p a b old parent (works p (waiting call next) put owns)

  pub all_leave : Rest V W → Leaves V W a b owns
  all_leave r = record { others = λ k na nb lt none. (r.pipes k, r.places k); input_stays = λ n. r.input; out_stays = λ n. r.out }

  -- it goes on with this reply
  pub goes_on : (reply : Reply) (owns' : List Owned) (label : Label) (F : FileMap) (d' : Fds) → Before → Sets V W p (answered parent (program_act (waiting call next)) reply d') → OwnFds a b owns' d' → AreApart owns' → ArePlaced W owns' → NoneAppends owns' → own_fds owns' ≡ opened_after call reply (own_fds owns)
      → Steps profile (running (record { turn = waiting call next; own = own_files owns; put = put })) V.files label (running (record { turn = turn next reply; own = own_files owns'; put = 0 })) F
      → Tells V W F a b label → ((k : ℕ) → owned_names k owns' ≤ owned_names k owns + same k V.next) → Leaves V W a b owns → Afterwards
  goes_on reply owns' label F d' g slots opened apart placed plain fds step tells ids leaves = record {
    to = works p (turn next reply) 0 owns';
    label = label;
    files = F;
    has = record {
      fds = d';
      slot = slots.here;
      opened = opened;
      apart = apart;
      placed = placed;
      fits = inl refl;
      tame = tame_next call next reply owns owns' fds g.has.tame;
      plain = plain;
      steady = steady_next next reply g.has.steady.holds;
    };
    steps = 1;
    moves = goes step;
    tells = tells;
    pids = λ q. omega (arith, kinds.sets_used V W p _ _ g.has.slot slots refl q);
    ids = ids;
    others = leaves.others;
    input_stays = leaves.input_stays;
    out_stays = leaves.out_stays;
    there = refl;
    over = λ z. absurd (omega (arith, z));
    pays = omega (arith, called_once W p);
  }

  -- with the files that it has, of which no entry changes
  pub goes_alike : (reply : Reply) (label : Label) (F : FileMap) → (g : Before) → Sets V W p (answered parent (program_act (waiting call next)) reply g.has.fds) → ((k : ℕ) → 1 ≤ owned_names k owns → W.places k ≡ V.places k) → opened_after call reply (own_fds owns) ≡ own_fds owns
      → Steps profile (running (record { turn = waiting call next; own = own_files owns; put = put })) V.files label (running (record { turn = turn next reply; own = own_files owns; put = 0 })) F
      → Tells V W F a b label → Leaves V W a b owns → Afterwards
  goes_alike reply label F g slots places fds step tells leaves =
      goes_on reply owns label F g.has.fds g slots g.has.opened g.has.apart (held_stay V W owns places g.has.placed) g.has.plain (sym fds) step tells (λ k. omega arith) leaves
