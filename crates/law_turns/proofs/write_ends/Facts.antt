-- What right ends of pipes say of an entry that is one.
use Rattle.std.proofs.Common.{◌≡◌, ◌≢◌, ℕ, ◌≤◌, Bool, true, false, Option, Some, None, refl, ap, ◌∙◌, arith, get_or-set_other}
use Rattle.std.proofs.Math.ListN.{set}
use Rattle.std.proofs.lemmas.Bool.{eq-eqb}
use Rattle.std.proofs.lemmas.List.Sums.{sum_by-set}
use Rattle.std.specs.Prelude.{cond, count_by}
use Rattle.byte_pipe.specs.PipeState.{PipeState}
use Rattle.fd_table.specs.declared.names.Object.{Object}
use Rattle.fd_table.specs.declared.names.Object.TheVariants.{PipeRead, PipeWrite}
use Rattle.fd_table.specs.Entries.{OpenFile as Opened, Entries, entry_at}
use Rattle.fd_table.proofs.Lists.{within_list}
use Rattle.proc_table.specs.Slots.{tally}
use Rattle.kernel_model.specs.Pipes.{Pipes, pipe_of}
use Rattle.law_kernel.specs.Ends.{EndsAgree, has_object, reads_pipe, writes_pipe, read_end_open, write_end_open}
use Rattle.law_kernel.proofs.kernel.Held.{there_is_counted}
use Rattle.law_turns.proofs.write_ends.Ends.{PipeEnd, ReadEnd, WriteEnd, object_of, IsNotEnd}

module _ (id : ℕ) (E : Entries) (pipes : Pipes) (agree : EndsAgree E pipes) where
  tally_few : (b : Bool) → tally b ≤ 1
  tally_few true = omega arith
  tally_few false = omega arith

  -- a pipe whose read end is open
  reader_by : (o : Option PipeState) → 1 ≤ tally (read_end_open o) → (p : PipeState) × (o ≡ Some p) × (p.reader ≡ true)
  reader_by None some = absurd (omega (arith, some))
  reader_by (Some p) some = (p, refl, by p.reader some) where
    by : (b : Bool) → 1 ≤ tally b → b ≡ true
    by true some = refl
    by false some = absurd (omega (arith, some))

  pub reader_there : (d : ℕ) (f : Opened) → entry_at E d ≡ Some f → f.object ≡ PipeRead id → (p : PipeState) × (pipe_of pipes id ≡ Some p) × (p.reader ≡ true)
  reader_there d f is reads =
      let passes : has_object (reads_pipe id) (entry_at E d) ≡ true = ap (has_object (reads_pipe id)) is ∙ ap (reads_pipe id) reads ∙ eq-eqb id id refl in
      let some = there_is_counted (has_object (reads_pipe id)) E d None (within_list E d f is) passes in
      reader_by (pipe_of pipes id) (omega (arith, some, agree.readers id))

  -- the write end of a pipe that an entry has open is open
  writer_by : (o : Option PipeState) → 1 ≤ tally (write_end_open o) → (p : PipeState) × (o ≡ Some p) × (p.writer ≡ true)
  writer_by None some = absurd (omega (arith, some))
  writer_by (Some p) some = (p, refl, by p.writer some) where
    by : (b : Bool) → 1 ≤ tally b → b ≡ true
    by true some = refl
    by false some = absurd (omega (arith, some))

  pub writer_there : (d : ℕ) (f : Opened) → entry_at E d ≡ Some f → f.object ≡ PipeWrite id → (p : PipeState) × (pipe_of pipes id ≡ Some p) × (p.writer ≡ true)
  writer_there d f is writes =
      let passes : has_object (writes_pipe id) (entry_at E d) ≡ true = ap (has_object (writes_pipe id)) is ∙ ap (writes_pipe id) writes ∙ eq-eqb id id refl in
      let some = there_is_counted (has_object (writes_pipe id)) E d None (within_list E d f is) passes in
      writer_by (pipe_of pipes id) (omega (arith, some, agree.writers id))

  -- ---- either end

  abbrev test_of : PipeEnd → Object → Bool
  test_of ReadEnd = reads_pipe id
  test_of WriteEnd = writes_pipe id

  abbrev open_of : PipeEnd → Option PipeState → Bool
  open_of ReadEnd = read_end_open
  open_of WriteEnd = write_end_open

  counted : (end : PipeEnd) → count_by (has_object (test_of end)) E ≡ tally (open_of end (pipe_of pipes id))
  counted ReadEnd = agree.readers id
  counted WriteEnd = agree.writers id

  its_own : (end : PipeEnd) → test_of end (object_of end id) ≡ true
  its_own ReadEnd = eq-eqb id id refl
  its_own WriteEnd = eq-eqb id id refl

  none_open : (end : PipeEnd) → open_of end None ≡ false
  none_open ReadEnd = refl
  none_open WriteEnd = refl

  module _ (end : PipeEnd) (e : ℕ) (f : Opened) (is : entry_at E e ≡ Some f) (on : f.object ≡ object_of end id) where
    passes : has_object (test_of end) (entry_at E e) ≡ true
    passes = ap (has_object (test_of end)) is ∙ ap (test_of end) on ∙ its_own end

    -- so there is such a pipe
    pub named : pipe_of pipes id ≢ None
    named none =
        let some = there_is_counted (has_object (test_of end)) E e None (within_list E e f is) passes in
        omega (arith, some, counted end, ap (λ (o : Option PipeState). tally (open_of end o)) none ∙ ap tally (none_open end))

    -- no other entry is this end
    none_left : count_by (has_object (test_of end)) (set E e None) ≡ 0
    none_left =
        let one = sum_by-set (λ (x : Option Opened). cond {A = ℕ} (has_object (test_of end) x) 1 0) E e None None (within_list E e f is) in
        let was : cond {A = ℕ} (has_object (test_of end) (entry_at E e)) 1 0 ≡ 1 = ap (λ (b : Bool). cond {A = ℕ} b 1 0) passes in
        omega (arith, one, was, counted end, tally_few (open_of end (pipe_of pipes id)))

    pub only_end : (d : ℕ) → d ≢ e → IsNotEnd end id (entry_at E d)
    only_end d ne = by (entry_at E d) refl where
      by : (o : Option Opened) → entry_at E d ≡ o → IsNotEnd end id o
      by None at_d = tt
      by (Some g) at_d = λ same.
          let there : entry_at (set E e None) d ≡ Some g = get_or-set_other E e d None None ne ∙ at_d in
          let some = there_is_counted (has_object (test_of end)) (set E e None) d None (within_list (set E e None) d g there) (ap (has_object (test_of end)) there ∙ ap (test_of end) same ∙ its_own end) in
          omega (arith, some, none_left)
