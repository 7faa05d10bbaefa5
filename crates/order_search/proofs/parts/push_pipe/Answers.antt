use Rattle.std.proofs.Common.{◌≡◌, [], ◌∷◌, ◌++◌, Some, take, ap, ◌∙◌, rules}
use Rattle.std.specs.Prelude.{option_map}
use Rattle.std.proofs.Math.Seq.{take-length}
use Rattle.kernel_model.specs.KernelState.{KernelState}
use Rattle.kernel_model.specs.Pipes.{pipe_of}
use Rattle.kernel_calls.specs.Status.{status_of}
use Rattle.kernel_calls.specs.declared.status.PipeStatus.{PipeStatus}
use Rattle.order_search.proofs.parts.push_pipe.Goals as goal

pub returns : goal.returns
returns g c = λ p is.
    let both : Some c.in-Some.status ≡ Some (status_of p) = c.in-Some.ensures ∙ ap (λ (k : KernelState g.row.M-State.Denot). option_map status_of (pipe_of k.pipes c.args.name)) c.state.view_is ∙ ap (option_map status_of) is in
    let status : c.in-Some.status ≡ status_of p = cc in
    let read : c.in_ok-bytes.bytes.items ≡ take c.in-Some.status.held p.bytes = c.in_ok-bytes.ensures p is in
    let bytes : c.in_ok-bytes.bytes.items ≡ p.bytes = read ∙ ap (λ (s : PipeStatus). take s.held p.bytes) status ∙ take-length p.bytes in
    let pushed : c.push.new.self.items ≡ c.args.pipes.now.items ++ (c.args.place, record { bytes = c.in_ok-bytes.bytes.items; reader = c.in-Some.status.reader_open; writer = c.in-Some.status.writer_open }) ∷ [] = search rules in
    pushed ∙ (λ i. c.args.pipes.now.items ++ (c.args.place, record { bytes = bytes i; reader = (status i).reader_open; writer = (status i).writer_open }) ∷ [])
