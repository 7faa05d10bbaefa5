-- An open, a close and a new pipe move no bytes: what a pipe holds after them, the pipe of that name held before.
use Rattle.std.proofs.Common.{◌≡◌, ◌≢◌, ◌⊎◌, ℕ, zero, suc, Bool, true, false, Option, Some, None, refl, sym, ap, subst, ◌∙◌, inl, inr}
use Rattle.std.proofs.lemmas.Bool.{cases_eq}
use Rattle.std.specs.Prelude.{◌||◌, if◌then◌else◌, Result, Ok, Err}
use Rattle.fd_table.specs.declared.faults.FdFault.{FdFault}
use Rattle.fd_table.specs.declared.names.Object.{Object}
use Rattle.fd_table.specs.declared.names.Object.TheVariants.{Input, Out, Diag, File, PipeRead, PipeWrite}
use Rattle.fd_table.specs.Entries.{lowest_free_entry}
use Rattle.fd_table.specs.Descriptors.{entry_of, close_answer}
use Rattle.byte_pipe.specs.PipeState.{PipeState, after_close_read, after_close_write}
use Rattle.kernel_model.specs.KernelState.{KernelState, fds_at}
use Rattle.kernel_model.specs.Pipes.{Pipes, pipe_of, with_pipe, without_pipe, kept_while_open, reader_gone, writer_gone}
use Rattle.kernel_model.specs.Descriptors.{let_go, let_go_of, taken_away, closed, closed_below, opened_at, with_open}
use Rattle.law_kernel.specs.Ends.{AreApart}
use Rattle.law_kernel.proofs.kernel.OnePipe.{found_now, others_found, others_stay}
use Rattle.law_kernel.proofs.kernel.PipeNames.{apart_closed, given_up_is_gone}

-- the pipe of that name holds what it held, if it is there still; no two pipes have one name
pub record Keeps (id : ℕ) (before now : Pipes) : Type 0 where
  pub bytes : (q : PipeState) → pipe_of now id ≡ Some q → (p : PipeState) × (pipe_of before id ≡ Some p) × (q.bytes ≡ p.bytes)
  pub apart : AreApart now

pub all_kept : (id : ℕ) (pipes : Pipes) → AreApart pipes → Keeps id pipes pipes
all_kept id pipes apart = record { bytes = λ q found. (q, found, refl); apart = apart }

then_kept : (id : ℕ) (x y z : Pipes) → Keeps id x y → Keeps id y z → Keeps id x z
then_kept id x y z a b =
    record {
      bytes = λ q found. let mid = b.bytes q found in let old = a.bytes mid.0 mid.1 in (old.0, old.1, mid.2 ∙ old.2);
      apart = b.apart;
    }

module _ (id : ℕ) (pipes : Pipes) (other : ℕ) (p now : PipeState) (apart : AreApart pipes) (found : pipe_of pipes other ≡ Some p) (same : now.bytes ≡ p.bytes) where
  one_now : (q : PipeState) → pipe_of (with_pipe pipes other now) other ≡ Some q → (r : PipeState) × (pipe_of pipes other ≡ Some r) × (q.bytes ≡ r.bytes)
  one_now q is =
      let both : Some now ≡ Some q = sym (found_now pipes other p now found) ∙ is in
      let it : now ≡ q = cc in
      (p, found, ap (λ (x : PipeState). x.bytes) (sym it) ∙ same)

  one_gone : (q : PipeState) → pipe_of (without_pipe pipes other) other ≡ Some q → ⊥
  one_gone q is = let no : None ≡ Some q = sym (given_up_is_gone pipes other apart) ∙ is in let z : ⊥ = cc in z

  kept_by : (b : Bool) → (id ≡ other) ⊎ (id ≢ other) → (q : PipeState) → pipe_of (if b then with_pipe pipes other now else without_pipe pipes other) id ≡ Some q → (r : PipeState) × (pipe_of pipes id ≡ Some r) × (q.bytes ≡ r.bytes)
  kept_by true (inl at) q is =
      let P : ℕ → Type 0 = λ i. pipe_of (with_pipe pipes other now) i ≡ Some q → (r : PipeState) × (pipe_of pipes i ≡ Some r) × (q.bytes ≡ r.bytes) in
      subst P (sym at) (one_now q) is
  kept_by false (inl at) q is = absurd (one_gone q (ap (pipe_of (without_pipe pipes other)) (sym at) ∙ is))
  kept_by true (inr ne) q is = (q, sym (others_found pipes other id now ne) ∙ is, refl)
  kept_by false (inr ne) q is = (q, sym (others_stay pipes other id ne) ∙ is, refl)

  end_kept : Keeps id pipes (kept_while_open pipes other now)
  end_kept = record { bytes = kept_by (now.reader || now.writer) (cases_eq id other); apart = apart_closed pipes other now apart }

module _ (id : ℕ) where
  reader_kept : (pipes : Pipes) (other : ℕ) (o : Option PipeState) → pipe_of pipes other ≡ o → AreApart pipes → Keeps id pipes (reader_gone pipes other o)
  reader_kept pipes other None found apart = all_kept id pipes apart
  reader_kept pipes other (Some p) found apart = end_kept id pipes other p (after_close_read p) apart found refl

  writer_kept : (pipes : Pipes) (other : ℕ) (o : Option PipeState) → pipe_of pipes other ≡ o → AreApart pipes → Keeps id pipes (writer_gone pipes other o)
  writer_kept pipes other None found apart = all_kept id pipes apart
  writer_kept pipes other (Some p) found apart = end_kept id pipes other p (after_close_write p) apart found refl

  module _ {S : Type 0} (pid : ℕ) where
    let_go_kept : (k : KernelState S) (object : Object) → AreApart k.pipes → Keeps id k.pipes (let_go k object).pipes
    let_go_kept k Input apart = all_kept id k.pipes apart
    let_go_kept k Out apart = all_kept id k.pipes apart
    let_go_kept k Diag apart = all_kept id k.pipes apart
    let_go_kept k (File name mode) apart = all_kept id k.pipes apart
    let_go_kept k (PipeRead other) apart = reader_kept k.pipes other (pipe_of k.pipes other) refl apart
    let_go_kept k (PipeWrite other) apart = writer_kept k.pipes other (pipe_of k.pipes other) refl apart

    let_go_of_kept : (k : KernelState S) (r : Result (Option Object) FdFault) → AreApart k.pipes → Keeps id k.pipes (let_go_of k r).pipes
    let_go_of_kept k (Err fault) apart = all_kept id k.pipes apart
    let_go_of_kept k (Ok None) apart = all_kept id k.pipes apart
    let_go_of_kept k (Ok (Some object)) apart = let_go_kept k object apart

    pub closed_kept : (k : KernelState S) (fd : ℕ) → AreApart k.pipes → Keeps id k.pipes (closed k pid fd).pipes
    closed_kept k fd apart = let_go_of_kept (taken_away k pid fd (entry_of (fds_at k pid) fd)) (close_answer k.entries (entry_of (fds_at k pid) fd)) apart

    pub closed_below_kept : (k : KernelState S) (n : ℕ) → AreApart k.pipes → Keeps id k.pipes (closed_below k pid n).pipes
    unfolding closed_below
    closed_below_kept k zero apart = all_kept id k.pipes apart
    closed_below_kept k (suc n) apart =
        let first = closed_below_kept k n apart in
        then_kept id k.pipes (closed_below k pid n).pipes (closed (closed_below k pid n) pid n).pipes first (closed_kept (closed_below k pid n) n first.apart)

    opened_pipes : (k : KernelState S) (object : Object) (place : Option ℕ) → (opened_at k pid object place).pipes ≡ k.pipes
    opened_pipes k object None = refl
    opened_pipes k object (Some e) = refl

    -- what is opened leaves the pipes as they were
    pub open_pipes : (k : KernelState S) (object : Object) → (with_open k pid object).pipes ≡ k.pipes
    open_pipes k object = opened_pipes k object (lowest_free_entry k.entries)
