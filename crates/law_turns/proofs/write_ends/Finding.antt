-- Whoever reads next from a pipe finds bytes in it, or it is empty and the reader has put nothing.
use Rattle.std.proofs.Common.{◌≡◌, ◌⊎◌, ℕ, List, [], ◌∷◌, Bool, true, false, Option, Some, None, inl, inr, refl, sym, ap, ◌∙◌}
use Rattle.std.proofs.lemmas.Bool.{eq-eqb, eqb-true}
use Rattle.user_calls.specs.declared.calls.Call.{Call}
use Rattle.user_calls.specs.declared.calls.Call.TheVariants.{Fork, Exec, Exit, Wait, MakePipe, Read, Write, OpenFile, Close, Dup}
use Rattle.user_calls.specs.declared.calls.Reply.{Reply}
use Rattle.byte_pipe.specs.PipeState.{PipeState}
use Rattle.fd_table.specs.declared.names.Object.{Object}
use Rattle.fd_table.specs.declared.names.Object.TheVariants.{Input, Out, Diag, File, PipeRead, PipeWrite}
use Rattle.fd_table.specs.Entries.{OpenFile as Opened}
use Rattle.fd_table.specs.Descriptors.{entry_of}
use Rattle.proc_table.specs.Slots.{Slot, Process, at}
use Rattle.kernel_model.specs.KernelState.{KernelState, file_at}
use Rattle.kernel_model.specs.Pipes.{pipe_of}
use Rattle.kernel_model.specs.Begun.{IsBegun}
use Rattle.law_kernel.specs.Ends.{reads_pipe}
use Rattle.law_turns.specs.Writers.{FindsBytesNext, ReadsEmptyNext}
use Rattle.law_turns.proofs.write_ends.NextCalls.{readers_put_nothing}

reads_is : (id : ℕ) (object : Object) → reads_pipe id object ≡ true → object ≡ PipeRead id
reads_is id Input is = absurd (let z : ⊥ = cc in z)
reads_is id Out is = absurd (let z : ⊥ = cc in z)
reads_is id Diag is = absurd (let z : ⊥ = cc in z)
reads_is id (File name mode) is = absurd (let z : ⊥ = cc in z)
reads_is id (PipeRead other) is = ap PipeRead (sym (eqb-true id other is))
reads_is id (PipeWrite other) is = absurd (let z : ⊥ = cc in z)

module _ {S : Type 0} (call : S → Reply → Call) (next : S → Reply → S) (k : KernelState S) (b : IsBegun call next k) (id q : ℕ) where
  abbrev Either : Type 0
  Either = FindsBytesNext call next k id q ⊎ ReadsEmptyNext call next k id q

  module _ (y : Process S) (there : at k.table q ≡ Some y) where
    it : (z : Process S) → at k.table q ≡ Some z → y ≡ z
    it z is = let both : Some y ≡ Some z = sym there ∙ is in let same : y ≡ z = cc in same

    its_call : (z : Process S) → at k.table q ≡ Some z → call y.machine y.reply ≡ call z.machine z.reply
    its_call z is = ap (λ (w : Process S). call w.machine w.reply) (it z is)

    other_call : (c : Call) → call y.machine y.reply ≡ c → ((fd n : ℕ) → c ≡ Read fd n → ⊥) → Either
    other_call c calls unread = inl (λ z fd n f pipe is reads held object named empty. unread fd n (sym calls ∙ (its_call z is ∙ reads)))

    module _ (fd most : ℕ) (calls : call y.machine y.reply ≡ Read fd most) where
      -- what it reads
      its_file : (z : Process S) (d n : ℕ) (o : Option Opened) → at k.table q ≡ Some z → call z.machine z.reply ≡ Read d n → file_at k.entries (entry_of z.fds d) ≡ o → file_at k.entries (entry_of y.fds fd) ≡ o
      its_file z d n o is reads held =
          let both : Read fd most ≡ Read d n = sym calls ∙ (its_call z is ∙ reads) in
          let same : fd ≡ d = cc in
          (λ i. file_at k.entries (entry_of (it z is i).fds (same i))) ∙ held

      by_bytes : (f : Opened) → file_at k.entries (entry_of y.fds fd) ≡ Some f → f.object ≡ PipeRead id → (pipe : PipeState) → pipe_of k.pipes id ≡ Some pipe → (bytes : List ℕ) → pipe.bytes ≡ bytes → Either
      by_bytes f held reads pipe named [] empty = inr (record {
        process = y;
        there = there;
        put = readers_put_nothing call next k b q y there fd most calls;
        fd = fd;
        most = most;
        calls = calls;
        file = f;
        holds = held;
        reads = reads;
        pipe = pipe;
        named = named;
        empty = empty;
      })
      by_bytes f held reads pipe named (x ∷ xs) some = inl (λ z d n g other is asks has object known empty.
          let both : Some pipe ≡ Some other = sym named ∙ known in
          let same : pipe ≡ other = cc in
          let clash : x ∷ xs ≡ [] = sym some ∙ (ap (λ (p : PipeState). p.bytes) same ∙ empty) in
          let no_way : ⊥ = cc in no_way)

      by_pipe : (f : Opened) → file_at k.entries (entry_of y.fds fd) ≡ Some f → f.object ≡ PipeRead id → (o : Option PipeState) → pipe_of k.pipes id ≡ o → Either
      by_pipe f held reads None gone = inl (λ z d n g other is asks has object known empty. let clash : None ≡ Some other = sym gone ∙ known in let no_way : ⊥ = cc in no_way)
      by_pipe f held reads (Some pipe) named = by_bytes f held reads pipe named pipe.bytes refl

      by_object : (f : Opened) → file_at k.entries (entry_of y.fds fd) ≡ Some f → (r : Bool) → reads_pipe id f.object ≡ r → Either
      by_object f held true is = by_pipe f held (reads_is id f.object is) (pipe_of k.pipes id) refl
      by_object f held false not = inl (λ z d n g other is asks has object known empty.
          let both : Some f ≡ Some g = sym held ∙ its_file z d n (Some g) is asks has in
          let same : f ≡ g = cc in
          let clash : false ≡ true = sym not ∙ (ap (λ (e : Opened). reads_pipe id e.object) same ∙ (ap (reads_pipe id) object ∙ eq-eqb id id refl)) in
          let no_way : ⊥ = cc in no_way)

      by_file : (o : Option Opened) → file_at k.entries (entry_of y.fds fd) ≡ o → Either
      by_file None none = inl (λ z d n g other is asks has object known empty. let clash : None ≡ Some g = sym none ∙ its_file z d n (Some g) is asks has in let no_way : ⊥ = cc in no_way)
      by_file (Some f) held = by_object f held (reads_pipe id f.object) refl

    by_call : (c : Call) → call y.machine y.reply ≡ c → Either
    by_call Fork calls = other_call Fork calls (λ fd n is. let z : ⊥ = cc in z)
    by_call (Exec found) calls = other_call (Exec found) calls (λ fd n is. let z : ⊥ = cc in z)
    by_call Exit calls = other_call Exit calls (λ fd n is. let z : ⊥ = cc in z)
    by_call Wait calls = other_call Wait calls (λ fd n is. let z : ⊥ = cc in z)
    by_call MakePipe calls = other_call MakePipe calls (λ fd n is. let z : ⊥ = cc in z)
    by_call (Read fd most) calls = by_file fd most calls (file_at k.entries (entry_of y.fds fd)) refl
    by_call (Write fd bytes) calls = other_call (Write fd bytes) calls (λ d n is. let z : ⊥ = cc in z)
    by_call (OpenFile name mode) calls = other_call (OpenFile name mode) calls (λ fd n is. let z : ⊥ = cc in z)
    by_call (Close fd) calls = other_call (Close fd) calls (λ d n is. let z : ⊥ = cc in z)
    by_call (Dup fd) calls = other_call (Dup fd) calls (λ d n is. let z : ⊥ = cc in z)

  by_slot : (x : Slot S) → at k.table q ≡ x → Either
  by_slot None free = inl (λ z d n g other is asks has object known empty. let clash : None ≡ Some z = sym free ∙ is in let no_way : ⊥ = cc in no_way)
  by_slot (Some y) there = by_call y there (call y.machine y.reply) refl

  pub finds_or_put_nothing : FindsBytesNext call next k id q ⊎ ReadsEmptyNext call next k id q
  finds_or_put_nothing = by_slot (at k.table q) refl
