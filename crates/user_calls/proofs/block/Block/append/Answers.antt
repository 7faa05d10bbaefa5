-- What was appended is as much as there was room for.
use Rattle.std.proofs.Common.{◌∙◌, ◌≡◌, ◌++◌, ◌-◌, ◌+◌, take, length, ap, arith, List, ℕ}
use Rattle.std.proofs.lemmas.List.{length-take}
use Rattle.std.proofs.lemmas.Slice.{take-put_mid}
use Rattle.user_calls.specs.Limits.{block_size}
use Rattle.user_calls.proofs.Fitting.{fitting}
use Rattle.user_calls.proofs.block.Block.append.Goals as goal

pub returns : goal.returns
returns c =
    let inside = c.self.inside in
    let bytes = c.args.bytes.now in
    let written = c.copy_from_slice.new.self in
    let room = 1024 - inside.used in
    let count = c.min-fitting.result in
    let held : length (take inside.used inside.bytes) ≡ inside.used = omega (arith, length-take inside.used inside.bytes, c.self.told, c.self.invariant) in
    let long : inside.used + count ≡ inside.used + length written = omega (arith, c.copy_from_slice.ensures.len, c.min-fitting.ensures, length-take count bytes) in
    take-put_mid inside.used (inside.used + count - inside.used) inside.bytes written (inside.used + count) long (omega (arith, c.self.told, c.self.invariant))
    ∙ ap (λ (tail : List ℕ). take inside.used inside.bytes ++ tail) (c.copy_from_slice.ensures.after ∙ ap (λ (n : ℕ). take n bytes) c.min-fitting.ensures)
    ∙ fitting (take inside.used inside.bytes) bytes room block_size (omega (arith, held, c.self.invariant))
    ∙ ap (λ (now : List ℕ). take block_size (now ++ bytes)) c.self.view_is
