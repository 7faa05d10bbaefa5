-- An open of anything but a pipe leaves the ends of pipes alone; a new pipe has both of its ends open, and an entry for each.
use Rattle.std.proofs.Common.{◌≡◌, ◌≢◌, ◌⊎◌, ℕ, ◌+◌, ◌≤◌, Bool, false, Option, Some, None, refl, ap, ◌∙◌, arith, inl, inr}
use Rattle.std.proofs.lemmas.Bool.{cases_eq, eq-eqb, ne_eqb}
use Rattle.std.specs.Prelude.{◌==◌, count_by, IsSome}
use Rattle.fd_table.specs.declared.names.Object.{Object}
use Rattle.fd_table.specs.declared.names.Object.TheVariants.{PipeRead, PipeWrite}
use Rattle.fd_table.specs.Entries.{Entries, is_free, added, added_at, lowest_free_entry, free_count}
use Rattle.fd_table.proofs.Free.{found as found_free, add_taken}
use Rattle.byte_pipe.specs.PipeState.{PipeState}
use Rattle.proc_table.specs.Slots.{tally}
use Rattle.kernel_model.specs.KernelState.{KernelState}
use Rattle.kernel_model.specs.Pipes.{Pipes, pipe_of, with_new}
use Rattle.kernel_model.specs.Descriptors.{opened_at, with_open, with_ends}
use Rattle.law_kernel.specs.Ends.{reads_pipe, writes_pipe, has_object, read_end_open, write_end_open, EndsAgree}
use Rattle.law_kernel.proofs.kernel.PipeNames.{new_other, new_self, apart_new}
use Rattle.law_kernel.proofs.kernel.EntryCounts.{opened_count}

-- an entry more has the object open
added_count : (test : Object → Bool) (E : Entries) (e : ℕ) (object : Object) → lowest_free_entry E ≡ Some e → count_by (has_object test) (added E object) ≡ count_by (has_object test) E + tally (test object)
added_count test E e object found = ap (λ (o : Option ℕ). count_by (has_object test) (added_at E o object)) found ∙ opened_count test E e object found

-- the ends of a new pipe, and of the others
read_end_new : (pipes : Pipes) (id i : ℕ) → pipe_of pipes id ≡ None → (i ≡ id) ⊎ (i ≢ id) → tally (read_end_open (pipe_of (with_new pipes id) i)) ≡ tally (read_end_open (pipe_of pipes i)) + tally (i == id)
read_end_new pipes id i none (inl at) =
    omega (arith, ap (λ (k : ℕ). tally (read_end_open (pipe_of (with_new pipes id) k))) at, ap (λ (o : Option PipeState). tally (read_end_open o)) (new_self pipes id none), ap (λ (k : ℕ). tally (read_end_open (pipe_of pipes k))) at, ap (λ (o : Option PipeState). tally (read_end_open o)) none, ap tally (eq-eqb i id at))
read_end_new pipes id i none (inr ne) =
    omega (arith, ap (λ (o : Option PipeState). tally (read_end_open o)) (new_other pipes id i ne), ap tally (ne_eqb i id ne))

write_end_new : (pipes : Pipes) (id i : ℕ) → pipe_of pipes id ≡ None → (i ≡ id) ⊎ (i ≢ id) → tally (write_end_open (pipe_of (with_new pipes id) i)) ≡ tally (write_end_open (pipe_of pipes i)) + tally (i == id)
write_end_new pipes id i none (inl at) =
    omega (arith, ap (λ (k : ℕ). tally (write_end_open (pipe_of (with_new pipes id) k))) at, ap (λ (o : Option PipeState). tally (write_end_open o)) (new_self pipes id none), ap (λ (k : ℕ). tally (write_end_open (pipe_of pipes k))) at, ap (λ (o : Option PipeState). tally (write_end_open o)) none, ap tally (eq-eqb i id at))
write_end_new pipes id i none (inr ne) =
    omega (arith, ap (λ (o : Option PipeState). tally (write_end_open o)) (new_other pipes id i ne), ap tally (ne_eqb i id ne))

module _ {S : Type 0} (pid : ℕ) where
  -- the ends of the kernel's pipes and its entries are in step
  abbrev Agrees : KernelState S → Type 0
  Agrees k = EndsAgree k.entries k.pipes

  opened_agrees : (k : KernelState S) (object : Object) (o : Option ℕ) → lowest_free_entry k.entries ≡ o → ((id : ℕ) → reads_pipe id object ≡ false) → ((id : ℕ) → writes_pipe id object ≡ false) → Agrees k → Agrees (opened_at k pid object o)
  opened_agrees k object None found no_reader no_writer a = a
  opened_agrees k object (Some e) found no_reader no_writer a =
      record {
        readers = λ id. omega (arith, added_count (reads_pipe id) k.entries e object found, ap tally (no_reader id), a.readers id);
        writers = λ id. omega (arith, added_count (writes_pipe id) k.entries e object found, ap tally (no_writer id), a.writers id);
        apart = a.apart;
      }

  pub other_agrees : (k : KernelState S) (object : Object) → ((id : ℕ) → reads_pipe id object ≡ false) → ((id : ℕ) → writes_pipe id object ≡ false) → Agrees k → Agrees (with_open k pid object)
  other_agrees k object no_reader no_writer a = opened_agrees k object (lowest_free_entry k.entries) refl no_reader no_writer a

  module _ (k : KernelState S) (id : ℕ) (none : pipe_of k.pipes id ≡ None) (a : Agrees k) where
    -- the pipe is made, and nobody holds it yet
    abbrev made : KernelState S
    made = record k { pipes = with_new k.pipes id }

    both_agree : (e d : ℕ) → lowest_free_entry k.entries ≡ Some e → lowest_free_entry (added k.entries (PipeRead id)) ≡ Some d → EndsAgree (added (added k.entries (PipeRead id)) (PipeWrite id)) (with_new k.pipes id)
    both_agree e d first second =
        let E1 : Entries = added k.entries (PipeRead id) in
        record {
          readers = λ i. omega (arith, added_count (reads_pipe i) E1 d (PipeWrite id) second, added_count (reads_pipe i) k.entries e (PipeRead id) first, a.readers i, read_end_new k.pipes id i none (cases_eq i id));
          writers = λ i. omega (arith, added_count (writes_pipe i) E1 d (PipeWrite id) second, added_count (writes_pipe i) k.entries e (PipeRead id) first, a.writers i, write_end_new k.pipes id i none (cases_eq i id));
          apart = apart_new k.pipes id none a.apart;
        }

    second_agrees : (e : ℕ) (o : Option ℕ) → lowest_free_entry k.entries ≡ Some e → lowest_free_entry (added k.entries (PipeRead id)) ≡ o → IsSome o → Agrees (opened_at (opened_at made pid (PipeRead id) (Some e)) pid (PipeWrite id) o)
    second_agrees e None first second some = absurd (let z : ⊥ = cc in z)
    second_agrees e (Some d) first second some = both_agree e d first second

    first_agrees : (o : Option ℕ) → lowest_free_entry k.entries ≡ o → IsSome o → IsSome (lowest_free_entry (added k.entries (PipeRead id))) → Agrees (with_open (opened_at made pid (PipeRead id) o) pid (PipeWrite id))
    first_agrees None first one two = absurd (let z : ⊥ = cc in z)
    first_agrees (Some e) first one two = second_agrees e (lowest_free_entry (added k.entries (PipeRead id))) first refl two

    pub ends_agree : 2 ≤ free_count k.entries → Agrees (with_ends k pid id)
    ends_agree two =
        first_agrees (lowest_free_entry k.entries) refl ((found_free is_free k.entries).1 (omega (arith, two)))
        ((found_free is_free (added k.entries (PipeRead id))).1 (omega (arith, two, add_taken k.entries (PipeRead id))))
