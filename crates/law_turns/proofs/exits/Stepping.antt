-- One close of a process, made between two turns, and another process's turn: by the laws of the turns of a machine that makes this close.
use Rattle.std.proofs.Common.{◌≡◌, ◌≢◌, ◌⊎◌, ℕ, ◌+◌, ◌<◌, List, [], ◌∷◌, Bool, true, false, Option, Some, None, inl, inr, refl, sym, ap, subst, ◌∙◌, arith}
use Rattle.std.proofs.lemmas.Bool.{eq-eqb, eqb-true}
use Rattle.std.specs.Prelude.{if◌then◌else◌}
use Rattle.user_calls.specs.declared.calls.Call.{Call}
use Rattle.user_calls.specs.declared.calls.Call.TheVariants.{Fork, Exec, Exit, Wait, MakePipe, Read, Write, OpenFile, Close, Dup}
use Rattle.user_calls.specs.declared.calls.Reply.{Reply}
use Rattle.byte_pipe.specs.PipeState.{PipeState}
use Rattle.fd_table.specs.declared.names.Object.{Object}
use Rattle.fd_table.specs.declared.names.Object.TheVariants.{Input, Out, Diag, File, PipeRead, PipeWrite}
use Rattle.fd_table.specs.Entries.{OpenFile as Opened, entry_at}
use Rattle.fd_table.specs.Descriptors.{entry_of, close_answer}
use Rattle.proc_table.specs.declared.states.Status.TheVariants.{Runnable, Running}
use Rattle.proc_table.specs.Slots.{Slot, Table, Process, at, is_runnable, is_runnable_status}
use Rattle.proc_table.specs.Calls.{with_status, made_ready}
use Rattle.proc_table.proofs.Changes.{written}
use Rattle.kernel_model.specs.KernelState.{KernelState, fds_of, fds_at, file_at}
use Rattle.kernel_model.specs.Pipes.{pipe_of}
use Rattle.kernel_model.specs.Descriptors.{closed, close, close_reply}
use Rattle.kernel_model.specs.Events.{acted, counted}
use Rattle.kernel_model.proofs.Along.{acted_along}
use Rattle.law_kernel.specs.Ends.{EndsAgree, reads_pipe, has_object}
use Rattle.law_kernel.proofs.kernel.EndsClosed.{closed_agrees}
use Rattle.kernel_model.specs.Alike.{IsStill, HasNamesUpTo}
use Rattle.kernel_model.specs.Anyhow.{AlikeAnyhow}
use Rattle.kernel_model.specs.Closes.{FindsFree, FindsFreeNext, IsPlain, IsClosedAtOnce, NobodyElseWrites, ClosesNext}
use Rattle.kernel_model.specs.Turns.{after_turn}
use Rattle.law_turns.proofs.orders.Back.{can_turn}
use Rattle.law_turns.proofs.orders.Follow.{after_turn as turned, given_0}
use Rattle.law_turns.proofs.private_turns.Begun.{after_still}
use Rattle.law_turns.proofs.private_turns.Holders.{holds_one, is_open}
use Rattle.law_turns.proofs.private_turns.Staying.{Holds, holds_itself}
use Rattle.law_turns.proofs.private_turns.Turned.{turn_is, turn_keeps}
use Rattle.law_turns.proofs.last_closes.Anyhow.{awake_anyhow, joined, numbers_anyhow}
use Rattle.law_turns.proofs.last_closes.Turned.{plain_either}
use Rattle.law_turns.specs.Writers.{FindsBytesNext, ReadsEmptyNext}
use Rattle.law_turns.proofs.write_ends.Writing.{empty_read, writer_either}
use Rattle.law_turns.proofs.read_ends.Turned.{reader_either}
use Rattle.law_turns.proofs.exits.Touched.{touch, touches, turn_touched, closed_touched, turned_touched, alike_touched}
use Rattle.law_turns.proofs.exits.Fitting.{holds_closed, own_closed, free_closed, at_once_closed, names_touched, still_touched}

-- ---- a read that comes next finds bytes, or the pipe is empty

abbrev read_of : Call → Option (ℕ × ℕ)
read_of Fork = None
read_of (Exec is_found) = None
read_of Exit = None
read_of Wait = None
read_of MakePipe = None
read_of (Read fd n) = Some (fd, n)
read_of (Write fd b) = None
read_of (OpenFile name mode) = None
read_of (Close fd) = None
read_of (Dup fd) = None

reads_as : (c : Call) (x : ℕ × ℕ) → read_of c ≡ Some x → c ≡ Read x.0 x.1
reads_as Fork x is = absurd (let z : ⊥ = cc in z)
reads_as (Exec is_found) x is = absurd (let z : ⊥ = cc in z)
reads_as Exit x is = absurd (let z : ⊥ = cc in z)
reads_as Wait x is = absurd (let z : ⊥ = cc in z)
reads_as MakePipe x is = absurd (let z : ⊥ = cc in z)
reads_as (Read fd n) x is = let same : (fd, n) ≡ x = cc in λ i. Read (same i).0 (same i).1
reads_as (Write fd b) x is = absurd (let z : ⊥ = cc in z)
reads_as (OpenFile name mode) x is = absurd (let z : ⊥ = cc in z)
reads_as (Close fd) x is = absurd (let z : ⊥ = cc in z)
reads_as (Dup fd) x is = absurd (let z : ⊥ = cc in z)

reads_object : (id : ℕ) (o : Object) → reads_pipe id o ≡ true → o ≡ PipeRead id
reads_object id Input is = absurd (let z : ⊥ = cc in z)
reads_object id Out is = absurd (let z : ⊥ = cc in z)
reads_object id Diag is = absurd (let z : ⊥ = cc in z)
reads_object id (File name mode) is = absurd (let z : ⊥ = cc in z)
reads_object id (PipeRead other) is = ap PipeRead (sym (eqb-true id other is))
reads_object id (PipeWrite other) is = absurd (let z : ⊥ = cc in z)

module _ {S : Type 0} (call : S → Reply → Call) (next : S → Reply → S) (k : KernelState S) (id q : ℕ) (y : Process S) (there : at k.table q ≡ Some y) (puts : (rd n : ℕ) → call y.machine y.reply ≡ Read rd n → y.put ≡ 0) where
  abbrev Either : Type 0
  Either = FindsBytesNext call next k id q ⊎ ReadsEmptyNext call next k id q

  it : (z : Process S) → at k.table q ≡ Some z → y ≡ z
  it z is = let both : Some y ≡ Some z = sym there ∙ is in let same : y ≡ z = cc in same

  by_file : (pipe : PipeState) → pipe_of k.pipes id ≡ Some pipe → pipe.bytes ≡ [] → (x : ℕ × ℕ) → call y.machine y.reply ≡ Read x.0 x.1 → (o : Option Opened) → file_at k.entries (entry_of y.fds x.0) ≡ o → (b : Bool) → has_object (reads_pipe id) o ≡ b → Either
  by_file pipe named empty x calls (Some f) held true reads =
      inr (record {
        process = y;
        there = there;
        put = puts x.0 x.1 calls;
        fd = x.0;
        most = x.1;
        calls = calls;
        file = f;
        holds = held;
        reads = reads_object id f.object reads;
        pipe = pipe;
        named = named;
        empty = empty;
      })
  by_file pipe named empty x calls None held true reads = absurd (let z : ⊥ = cc in z)
  by_file pipe named empty x calls o held false none =
      inl (λ z fd n f other is asks has object known void.
      let both : Read x.0 x.1 ≡ Read fd n = sym calls ∙ ap (λ (w : Process S). call w.machine w.reply) (it z is) ∙ asks in
      let same : x.0 ≡ fd = cc in
      let file : o ≡ Some f = sym held ∙ (λ i. file_at k.entries (entry_of (it z is i).fds (same i))) ∙ has in
      let clash : false ≡ true = sym none ∙ ap (has_object (reads_pipe id)) file ∙ ap (reads_pipe id) object ∙ eq-eqb id id refl in
      let no_way : ⊥ = cc in
      no_way)

  by_call : (pipe : PipeState) → pipe_of k.pipes id ≡ Some pipe → pipe.bytes ≡ [] → (o : Option (ℕ × ℕ)) → read_of (call y.machine y.reply) ≡ o → Either
  by_call pipe named empty (Some x) is = by_file pipe named empty x (reads_as (call y.machine y.reply) x is) (file_at k.entries (entry_of y.fds x.0)) refl (has_object (reads_pipe id) (file_at k.entries (entry_of y.fds x.0))) refl
  by_call pipe named empty None is =
      inl (λ z fd n f other there_too asks has object known void.
      let clash : ◌≡◌ {A = Option (ℕ × ℕ)} None (Some (fd, n)) = sym is ∙ ap (λ (w : Process S). read_of (call w.machine w.reply)) (it z there_too) ∙ ap read_of asks in
      let no_way : ⊥ = cc in
      no_way)

  by_bytes : (pipe : PipeState) → pipe_of k.pipes id ≡ Some pipe → (bytes : List ℕ) → pipe.bytes ≡ bytes → Either
  by_bytes pipe named [] empty = by_call pipe named empty (read_of (call y.machine y.reply)) refl
  by_bytes pipe named (x ∷ xs) some =
      inl (λ z fd n f other is asks has object known void.
      let both : Some pipe ≡ Some other = sym named ∙ known in
      let same : pipe ≡ other = cc in
      let clash : x ∷ xs ≡ [] = sym some ∙ ap (λ (w : PipeState). w.bytes) same ∙ void in
      let no_way : ⊥ = cc in
      no_way)

  finds : Either
  finds = by_pipe (pipe_of k.pipes id) refl where
    by_pipe : (o : Option PipeState) → pipe_of k.pipes id ≡ o → Either
    by_pipe None gone = inl (λ z fd n f other is asks has object known void. let clash : None ≡ Some other = sym gone ∙ known in let no_way : ⊥ = cc in no_way)
    by_pipe (Some pipe) named = by_bytes pipe named pipe.bytes refl

-- ---- kernels in which p closes its descriptors

module _ {S : Type 0} (call : S → Reply → Call) (next : S → Reply → S) (p q : ℕ) (y : Process S) (other : q ≢ p) (mark : Reply) where
  -- p's slot, with a reply that q hasn't
  abbrev pub marks : KernelState S → KernelState S
  marks k = touches y.machine mark 0 p k

  -- q's turn
  abbrev pub acts : KernelState S → KernelState S
  acts k = turned call next k q y false

  pub record Fit (k : KernelState S) : Type 0 where
    pub still : IsStill k
    pub agree : EndsAgree k.entries k.pipes
    pub fresh : (n : ℕ) → k.events < n → pipe_of k.pipes n ≡ None
    pub holds : Holds y (at k.table q)
    pub own : Process S
    pub there : at k.table p ≡ Some own
    pub normal : marks k ≡ k
    pub once : (fd : ℕ) (file : Opened) → file_at k.entries (entry_of (fds_at k p) fd) ≡ Some file → IsClosedAtOnce k p file.object
    pub free : FindsFree k (call y.machine y.reply)

  far : p ≢ q
  far is = other (sym is)

  module _ (test : Reply → Bool) (yes : test mark ≡ true) (no : test y.reply ≡ false) (puts : (rd n : ℕ) → call y.machine y.reply ≡ Read rd n → y.put ≡ 0) (k : KernelState S) (fit : Fit k) (fd e : ℕ) (held : entry_of (fds_at k p) fd ≡ Some e) where
    -- a machine that makes this close, and else goes on as before
    abbrev closing : S → Reply → Call
    closing n r = if◌then◌else◌ {A = Call} (test r) (Close fd) (call n r)

    abbrev going : S → Reply → S
    going n r = if◌then◌else◌ {A = S} (test r) n (next n r)

    abbrev own : Process S
    own = fit.own

    marked_own : record own { status = Runnable; machine = y.machine; reply = mark; put = 0 } ≡ own
    marked_own =
        let both : Some (record own { status = Runnable; machine = y.machine; reply = mark; put = 0 }) ≡ Some own =
        sym (ap (touch y.machine mark 0) fit.there) ∙ sym (written (touch y.machine mark 0) refl k.table p) ∙ ap (λ (j : KernelState S). at j.table p) fit.normal ∙ fit.there in
        cc

    own_ready : own.status ≡ Runnable
    own_ready = sym (ap (λ (x : Process S). x.status) marked_own)

    own_mark : own.reply ≡ mark
    own_mark = sym (ap (λ (x : Process S). x.reply) marked_own)

    own_holds : Holds own (at k.table p)
    own_holds = holds_itself own (at k.table p) fit.there own_ready

    own_held : entry_of own.fds fd ≡ Some e
    own_held = ap (λ (x : Slot S). entry_of (fds_of x) fd) (sym fit.there) ∙ held

    closes_as : (n : S) (r : Reply) → r ≡ mark → closing n r ≡ Close fd
    closes_as n r is = ap (λ (b : Bool). if◌then◌else◌ {A = Call} b (Close fd) (call n r)) (ap test is ∙ yes)

    q_calls : closing y.machine y.reply ≡ call y.machine y.reply
    q_calls = ap (λ (b : Bool). if◌then◌else◌ {A = Call} b (Close fd) (call y.machine y.reply)) no

    q_goes : going y.machine y.reply ≡ next y.machine y.reply
    q_goes = ap (λ (b : Bool). if◌then◌else◌ {A = S} b y.machine (next y.machine y.reply)) no

    -- a turn of q, and one of p
    as_act : (j i : KernelState S) → Holds y (at j.table q) → IsStill j → after_turn closing going j q ≡ Some i → i ≡ acts j
    as_act j i h still is =
        let one : Some (turned closing going j q h.now false) ≡ Some i = sym (turn_is closing going j q h.now still h.there (ap is_runnable_status h.ready)) ∙ is in
        let same : turned closing going j q h.now false ≡ i = cc in
        let d : KernelState S = counted (given_0 j q) in
        sym same ∙ (λ n. acted d q (going (h.machine n) (h.reply n)) (closing (h.machine n) (h.reply n)) false) ∙ (λ n. acted d q (q_goes n) (q_calls n) false)

    as_close : (j i : KernelState S) (h : Holds own (at j.table p)) → IsStill j → after_turn closing going j p ≡ Some i → i ≡ close (counted (given_0 j p)) p (going h.now.machine h.now.reply) fd
    as_close j i h still is =
        let one : Some (turned closing going j p h.now false) ≡ Some i = sym (turn_is closing going j p h.now still h.there (ap is_runnable_status h.ready)) ∙ is in
        let same : turned closing going j p h.now false ≡ i = cc in
        sym same ∙ ap (λ (c : Call). acted (counted (given_0 j p)) p (going h.now.machine h.now.reply) c false) (closes_as h.now.machine h.now.reply (h.reply ∙ own_mark))

    close_marked : (j i : KernelState S) → Holds own (at j.table p) → IsStill j → after_turn closing going j p ≡ Some i → marks i ≡ record (closed (marks j) p fd) { events = j.events + 1 + 1 }
    close_marked j i h still is = ap marks (as_close j i h still is) ∙ turn_touched y.machine mark 0 p j (going h.now.machine h.now.reply) fd

    -- ---- both turns

    first : (a : KernelState S) × (after_turn closing going k p ≡ Some a)
    first = can_turn closing going k (record { pid = p; refused = false }) fit.still (ap is_runnable fit.there ∙ ap is_runnable_status own_ready)

    second : (l : KernelState S) × (after_turn closing going k q ≡ Some l)
    second = can_turn closing going k (record { pid = q; refused = false }) fit.still (ap is_runnable fit.holds.there ∙ ap is_runnable_status fit.holds.ready)

    abbrev pub then_closed : KernelState S
    then_closed = record (closed k p fd) { events = k.events + 1 + 1 }

    a_still : IsStill first.0
    a_still = after_still closing going k first.0 p fit.still first.1

    l_still : IsStill second.0
    l_still = after_still closing going k second.0 q fit.still second.1

    a_marked : marks first.0 ≡ then_closed
    a_marked = close_marked k first.0 own_holds fit.still first.1 ∙ (λ i. record (closed (fit.normal i) p fd) { events = k.events + 1 + 1 })

    l_is : second.0 ≡ acts k
    l_is = as_act k second.0 fit.holds fit.still second.1

    -- p's slot after its turn, and q's
    a_own : (z : Process S) × (at (first.0).table p ≡ Some z) × (z.status ≡ Runnable)
    a_own =
        let d : KernelState S = counted (given_0 k p) in
        let n : S = going own_holds.now.machine own_holds.now.reply in
        let reply : Reply = close_reply (close_answer d.entries (entry_of (fds_at d p) fd)) in
        let z = own_closed d p fd (record own { status = Running 0 }) (written (with_status (Running 0)) refl k.table p ∙ ap (with_status (Running 0)) fit.there) in
        let t : Table S = (closed d p fd).table in (
          record z.process { status = Runnable; machine = n; reply = reply; put = 0 },
          ap (λ (j : KernelState S). at j.table p) (as_close k first.0 own_holds fit.still first.1) ∙ written (made_ready n reply) refl t p ∙ ap (made_ready n reply) z.there,
          refl,
        )

    a_holds : Holds y (at (first.0).table q)
    a_holds =
        let one : Some (turned closing going k p own false) ≡ Some first.0 = sym (turn_is closing going k p own fit.still fit.there (ap is_runnable_status own_ready)) ∙ first.1 in
        let same : turned closing going k p own false ≡ first.0 = cc in
        subst (λ (j : KernelState S). Holds y (at j.table q)) same (turn_keeps closing going k q p y own far fit.holds)

    l_holds : Holds own (at (second.0).table p)
    l_holds = subst (λ (j : KernelState S). Holds own (at j.table p)) (sym l_is) (turn_keeps call next k p q own y other own_holds)

    acts_marked : (j : KernelState S) (x : Process S) → Holds x (at j.table p) → acts (marks j) ≡ marks (acts j)
    acts_marked j x h = turned_touched y.machine mark 0 p call next x j q y other h

    l_normal : marks second.0 ≡ acts k
    l_normal = ap marks l_is ∙ sym (acts_marked k own own_holds) ∙ ap acts fit.normal

    -- ---- what both come to

    abbrev pub both_closed : KernelState S
    both_closed = closed (acts k) p fd

    both_marked : (both : KernelState S) → after_turn closing going second.0 p ≡ Some both → marks both ≡ record both_closed { events = second.0.events + 1 + 1 }
    both_marked both taken = close_marked second.0 both l_holds l_still taken ∙ (λ i. record (closed (l_normal i) p fd) { events = second.0.events + 1 + 1 })

    pub record Stepped : Type 0 where
      pub joins : AlikeAnyhow (acts then_closed) both_closed ⊎ AlikeAnyhow then_closed both_closed
      pub upto : ℕ
      pub names : HasNamesUpTo upto both_closed

    names_both : (both : KernelState S) → after_turn closing going second.0 p ≡ Some both → HasNamesUpTo both.events both_closed
    names_both both taken =
        let both_still : IsStill both = after_still closing going second.0 both p l_still taken in
        let it : HasNamesUpTo both.events (record both_closed { events = second.0.events + 1 + 1 }) = subst (HasNamesUpTo both.events) (both_marked both taken) (names_touched y.machine mark 0 p both.events both both_still.names) in
        λ f g one two agree. it f g one two agree

    timed : (j : KernelState S) (n : ℕ) → AlikeAnyhow j (record both_closed { events = n }) → AlikeAnyhow j both_closed
    timed j n a = record { first = a.first; second = a.second; first_one_to_one = a.first_one_to_one; second_one_to_one = a.second_one_to_one; same = a.same }

    in_order : (after both : KernelState S) → after_turn closing going first.0 q ≡ Some after → after_turn closing going second.0 p ≡ Some both → AlikeAnyhow after both → Stepped
    in_order after both here taken alike =
        let own_a = a_own in
        let after_is : marks after ≡ acts then_closed =
        ap marks (as_act first.0 after a_holds a_still here) ∙ sym (acts_marked first.0 own_a.0 (holds_itself own_a.0 (at (first.0).table p) own_a.1 own_a.2)) ∙ ap acts a_marked in
        record {
          joins = inl (timed (acts then_closed) (second.0.events + 1 + 1) (subst (λ (j : KernelState S). AlikeAnyhow j (record both_closed { events = second.0.events + 1 + 1 })) after_is (subst (λ (j : KernelState S). AlikeAnyhow (marks after) j) (both_marked both taken) (alike_touched y.machine mark 0 p after both alike))));
          upto = both.events;
          names = names_both both taken;
        }

    done : (both : KernelState S) → after_turn closing going second.0 p ≡ Some both → AlikeAnyhow first.0 both → Stepped
    done both taken alike =
        record {
          joins = inr (timed then_closed (second.0.events + 1 + 1) (subst (λ (j : KernelState S). AlikeAnyhow j (record both_closed { events = second.0.events + 1 + 1 })) a_marked (subst (λ (j : KernelState S). AlikeAnyhow (marks first.0) j) (both_marked both taken) (alike_touched y.machine mark 0 p first.0 both alike))));
          upto = both.events;
          names = names_both both taken;
        }

    -- ---- by the object that is closed

    file : (f : Opened) × (entry_at k.entries e ≡ Some f)
    file = let o = is_open e k.table k.entries fit.still.sound p 1 own own_holds (omega arith) (holds_one own.fds fd e own_held) in (o.0, o.1)

    of_kind : (kind : Object → Type 0) → kind file.0.object → ClosesNext closing going kind k p
    of_kind kind of =
        record { process = own; there = fit.there; ready = own_ready; fd = fd; calls = closes_as own.machine own.reply own_mark; entry = e; holds = own_held; file = file.0; used = file.1; of = of }

    free_next : FindsFreeNext closing going k q
    free_next z is =
        let h = fit.holds in
        let both : Some h.now ≡ Some z = sym h.there ∙ is in
        let same : h.now ≡ z = cc in
        subst (FindsFree k) (sym q_calls ∙ (λ i. closing (sym h.machine i) (sym h.reply i)) ∙ ap (λ (w : Process S). closing w.machine w.reply) same) fit.free

    reads_next : (id : ℕ) → FindsBytesNext closing going k id q ⊎ ReadsEmptyNext closing going k id q
    reads_next id =
        let h = fit.holds in
        finds closing going k id q h.now h.there (λ rd n reads. h.put ∙ puts rd n (sym q_calls ∙ (λ i. closing (sym h.machine i) (sym h.reply i)) ∙ reads))

    plain_step : IsPlain file.0.object → Stepped
    plain_step plain =
        let b = plain_either closing going k first.0 second.0 p q fit.still (of_kind IsPlain plain) other free_next first.1 second.1 in
        in_order b.after b.both b.second b.taken (numbers_anyhow b.after b.between b.both b.alike b.same)

    writer_step : (pipe : ℕ) → file.0.object ≡ PipeWrite pipe → Stepped
    writer_step pipe writes = by (reads_next pipe) where
      closes_it : ClosesNext closing going (λ o. o ≡ PipeWrite pipe) k p
      closes_it = of_kind (λ o. o ≡ PipeWrite pipe) writes

      by : FindsBytesNext closing going k pipe q ⊎ ReadsEmptyNext closing going k pipe q → Stepped
      by (inl finds_bytes) =
          let b = writer_either closing going k first.0 second.0 p q pipe fit.still fit.agree fit.fresh closes_it other first.1 second.1 free_next (λ one. finds_bytes) in
          in_order b.after b.both b.second b.taken (joined b.after b.between b.both b.alike b.same)
      by (inr reads) =
          let b = empty_read closing going k first.0 second.0 p q pipe fit.still fit.agree fit.fresh closes_it other first.1 second.1 reads in
          done b.both b.taken (awake_anyhow first.0 b.both b.alike)

    reader_step : (pipe : ℕ) → file.0.object ≡ PipeRead pipe → NobodyElseWrites k pipe p → Stepped
    reader_step pipe reads nobody =
        let b = reader_either closing going k p q pipe fit.still fit.agree fit.fresh (of_kind (λ o. o ≡ PipeRead pipe) reads) nobody other second.0 second.1 first.0 first.1 free_next in
        in_order b.after b.both b.second b.taken (joined b.after b.between b.both b.alike b.same)

    step_by : (object : Object) → file.0.object ≡ object → IsClosedAtOnce k p object → Stepped
    step_by Input is none = plain_step (subst IsPlain (sym is) tt)
    step_by Out is none = plain_step (subst IsPlain (sym is) tt)
    step_by Diag is none = plain_step (subst IsPlain (sym is) tt)
    step_by (File name mode) is none = plain_step (subst IsPlain (sym is) tt)
    step_by (PipeRead pipe) is nobody = reader_step pipe is nobody
    step_by (PipeWrite pipe) is none = writer_step pipe is

    pub stepped : Stepped
    stepped = step_by file.0.object refl (fit.once fd file.0 (ap (file_at k.entries) held ∙ file.1))

    -- what the laws ask for holds after the close too
    pub fits : Fit then_closed
    fits =
        let along = acted_along p y.machine k (Close fd) false in
        let z = own_closed k p fd own fit.there in
        let a = a_own in
        record {
          still = subst IsStill a_marked (still_touched y.machine mark 0 p first.0 a.0 a.1 a_still);
          agree = closed_agrees p k fd fit.agree;
          fresh = λ n later. along.names n (omega (arith, later)) (fit.fresh n (omega (arith, later)));
          holds = holds_closed k p q fd y far fit.holds;
          own = z.process;
          there = z.there;
          normal = ap (λ (j : KernelState S). record j { events = k.events + 1 + 1 }) (sym (closed_touched y.machine mark 0 p k fd) ∙ ap (λ (j : KernelState S). closed j p fd) fit.normal);
          once = λ gd f is. at_once_closed k p fd own fit.there fit.once gd f is;
          free = free_closed k p fd (call y.machine y.reply) fit.free;
        }
