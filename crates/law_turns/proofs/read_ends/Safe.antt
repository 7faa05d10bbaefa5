-- Private turns and closes give way to nobody's turn, but for the close of the read end of a pipe to which somebody else can write, where
-- whatever is opened later finds free entries.
use Rattle.std.proofs.Common.{◌≡◌, ◌≢◌, ◌⊎◌, ℕ, [], ◌∷◌, Option, Some, inl, inr, refl, sym, ap, subst, ◌∙◌}
use Rattle.user_calls.specs.declared.calls.Call.{Call}
use Rattle.user_calls.specs.declared.calls.Reply.{Reply}
use Rattle.fd_table.specs.declared.names.Object.{Object}
use Rattle.fd_table.specs.declared.names.Object.TheVariants.{Input, Out, Diag, File, PipeRead, PipeWrite}
use Rattle.kernel_model.specs.KernelState.{KernelState}
use Rattle.kernel_model.specs.Alike.{IsStill}
use Rattle.kernel_model.specs.Turns.{by_turns, after_turn, quiet_turns}
use Rattle.kernel_model.specs.Reduced.{IsSafe, Joins}
use Rattle.kernel_model.specs.Begun.{IsBegun}
use Rattle.kernel_model.specs.Anyhow.{AlikeAnyhow, DoesAnyhow, itself, likened}
use Rattle.kernel_model.specs.Closes.{HasRoomAhead, IsPlain, IsClosedAtOnce, NobodyElseWrites, ClosesNext, ClosesOrPrivate, ClosesOrPrivateBegun}
use Rattle.law_turns.proofs.private_turns.Begun.{begun_on, begun_still}
use Rattle.law_turns.proofs.last_closes.Anyhow.{awake_anyhow, joined, numbers_anyhow}
use Rattle.law_turns.proofs.last_closes.Safe.{privates_safe_anyhow}
use Rattle.law_turns.proofs.last_closes.Turned.{plain_either, close_stays}
use Rattle.law_turns.specs.Writers.{FindsBytesNext, ReadsEmptyNext}
use Rattle.law_turns.proofs.write_ends.Finding.{finds_or_put_nothing}
use Rattle.law_turns.proofs.write_ends.Runs.{ends, fresh}
use Rattle.law_turns.proofs.write_ends.Writing.{empty_read, writer_either}
use Rattle.law_turns.proofs.read_ends.Turned.{nobody_stays, reader_either}

module _ {S : Type 0} (call : S → Reply → Call) (next : S → Reply → S) where
  pub room_on : (k l : KernelState S) (q : ℕ) → HasRoomAhead call next k → after_turn call next k q ≡ Some l → HasRoomAhead call next l
  room_on k l q room is pids m r later = room (q ∷ pids) m r (ap (λ (o : Option (KernelState S)). by_turns call next o (quiet_turns pids)) is ∙ later)

  module _ (k a l : KernelState S) (p q : ℕ) (begun : IsBegun call next k) (ne : q ≢ p) (child : p ≢ 0) (room : HasRoomAhead call next k) (first : after_turn call next k p ≡ Some a) (second : after_turn call next k q ≡ Some l) where
    abbrev JoinsHere : Type 0
    JoinsHere = Joins (after_turn call next) (DoesAnyhow call next) (ClosesOrPrivateBegun call next) a l p

    still : IsStill k
    still = begun_still call next k begun

    begun_a : IsBegun call next a
    begun_a = begun_on call next k a (p ∷ []) begun first

    begun_l : IsBegun call next l
    begun_l = begun_on call next k l (q ∷ []) begun second

    on_l : ClosesNext call next (IsClosedAtOnce l p) l p → ClosesOrPrivateBegun call next l p
    on_l closes = record { gives = inr (record { child = child; closes = closes; room = room_on k l q room second }); begun = begun_l }

    -- both orders come to kernels that are alike
    in_order : (after both : KernelState S) → after_turn call next a q ≡ Some after → after_turn call next l p ≡ Some both → AlikeAnyhow after both → DoesAnyhow call next after both
    in_order after both here there alike = likened after both both (begun_on call next a after (q ∷ []) begun_a here) (begun_on call next l both (p ∷ []) begun_l there) alike (itself both)

    module _ (e : ClosesNext call next (IsClosedAtOnce k p) k p) where
      -- the same close, of an object of which something else is known
      of_kind : (kind : Object → Type 0) → kind e.file.object → ClosesNext call next kind k p
      of_kind kind of = record { process = e.process; there = e.there; ready = e.ready; fd = e.fd; calls = e.calls; entry = e.entry; holds = e.holds; file = e.file; used = e.used; of = of }

      -- it can still be made at once after q's turn
      at_once : (object : Object) → e.file.object ≡ object → IsClosedAtOnce k p object → IsClosedAtOnce l p object
      at_once Input is none = tt
      at_once Out is none = tt
      at_once Diag is none = tt
      at_once (File name mode) is none = tt
      at_once (PipeRead pipe) is nobody = nobody_stays call next k p q pipe still (ends call next k begun) (fresh call next k begun) (of_kind (λ o. o ≡ PipeRead pipe) is) nobody ne l second
      at_once (PipeWrite pipe) is none = tt

      stays : ClosesOrPrivateBegun call next l p
      stays =
          let kept = close_stays call next (λ o. o ≡ e.file.object) k l p q still (of_kind (λ o. o ≡ e.file.object) refl) ne second in
          on_l (record {
            process = kept.process;
            there = kept.there;
            ready = kept.ready;
            fd = kept.fd;
            calls = kept.calls;
            entry = kept.entry;
            holds = kept.holds;
            file = kept.file;
            used = kept.used;
            of = subst (IsClosedAtOnce l p) (sym kept.of) (at_once e.file.object refl e.of);
          })

      plain_joins : IsPlain e.file.object → JoinsHere
      plain_joins plain =
          let b = plain_either call next k a l p q still (of_kind IsPlain plain) ne (room [] k q refl) first second in
          record {
            both = b.both;
            taken = b.taken;
            still = stays;
            joins = inr (q, b.after, b.second, in_order b.after b.both b.second b.taken (numbers_anyhow b.after b.between b.both b.alike b.same));
          }

      writer_joins : (pipe : ℕ) → e.file.object ≡ PipeWrite pipe → JoinsHere
      writer_joins pipe writes = by (finds_or_put_nothing call next k begun pipe q) where
        it : ClosesNext call next (λ o. o ≡ PipeWrite pipe) k p
        it = of_kind (λ o. o ≡ PipeWrite pipe) writes

        by : FindsBytesNext call next k pipe q ⊎ ReadsEmptyNext call next k pipe q → JoinsHere
        by (inl finds) =
            let b = writer_either call next k a l p q pipe still (ends call next k begun) (fresh call next k begun) it ne first second (room [] k q refl) (λ one. finds) in
            record {
              both = b.both;
              taken = b.taken;
              still = stays;
              joins = inr (q, b.after, b.second, in_order b.after b.both b.second b.taken (joined b.after b.between b.both b.alike b.same));
            }
        by (inr reads) =
            let b = empty_read call next k a l p q pipe still (ends call next k begun) (fresh call next k begun) it ne first second reads in
            record {
              both = b.both;
              taken = b.taken;
              still = stays;
              joins = inl (likened a b.both b.both begun_a (begun_on call next l b.both (p ∷ []) begun_l b.taken) (awake_anyhow a b.both b.alike) (itself b.both));
            }

      reader_joins : (pipe : ℕ) → e.file.object ≡ PipeRead pipe → NobodyElseWrites k pipe p → JoinsHere
      reader_joins pipe reads nobody =
          let b = reader_either call next k p q pipe still (ends call next k begun) (fresh call next k begun) (of_kind (λ o. o ≡ PipeRead pipe) reads) nobody ne l second a first (room [] k q refl) in
          record {
            both = b.both;
            taken = b.taken;
            still = stays;
            joins = inr (q, b.after, b.second, in_order b.after b.both b.second b.taken (joined b.after b.between b.both b.alike b.same));
          }

      closes_join : (object : Object) → e.file.object ≡ object → IsClosedAtOnce k p object → JoinsHere
      closes_join Input is none = plain_joins (subst IsPlain (sym is) tt)
      closes_join Out is none = plain_joins (subst IsPlain (sym is) tt)
      closes_join Diag is none = plain_joins (subst IsPlain (sym is) tt)
      closes_join (File name mode) is none = plain_joins (subst IsPlain (sym is) tt)
      closes_join (PipeRead pipe) is nobody = reader_joins pipe is nobody
      closes_join (PipeWrite pipe) is none = writer_joins pipe is

  pub gives_way_safe : IsSafe (after_turn call next) (DoesAnyhow call next) (ClosesOrPrivateBegun call next)
  gives_way_safe k a l p q e ne first second = by e.gives where
    by : ClosesOrPrivate call next k p → Joins (after_turn call next) (DoesAnyhow call next) (ClosesOrPrivateBegun call next) a l p
    by (inl private) =
        let b = privates_safe_anyhow call next k a l p q (record { private = private; begun = e.begun }) ne first second in
        record { both = b.both; taken = b.taken; still = record { gives = inl b.still.private; begun = b.still.begun }; joins = b.joins }
    by (inr c) = closes_join k a l p q e.begun (λ is. ne (sym is)) c.child c.room first second c.closes c.closes.file.object refl c.closes.of
