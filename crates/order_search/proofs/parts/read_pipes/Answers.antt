use Rattle.std.proofs.Common.{◌≡◌, ℕ, ◌<◌, List, ◌∷◌, [], ◌++◌, Some, length, get_or, sym, ap, ◌∙◌, arith}
use Rattle.std.proofs.lemmas.List.{map_more, length-map}
use Rattle.byte_pipe.specs.PipeState.{PipeState, new_pipe}
use Rattle.kernel_model.specs.Pipes.{pipe_of}
use Rattle.kernel_model.specs.Idle.{renamed_pipe}
use Rattle.order_search.specs.Places.{place_among, name_of}
use Rattle.order_search.proofs.Placing.{found, name_at}
use Rattle.order_search.proofs.parts.read_pipes.Goals as goal

pub loop-name-preserved : goal.loop-name-preserved
loop-name-preserved g c =
    let ps = c.args.state.now.pipes in
    let f = renamed_pipe (place_among c.args.names.now) in
    let n : ℕ = c.loop-name.name-index in
    let d : ℕ × PipeState = (0, new_pipe) in
    let many : length c.args.names.now ≡ length ps = ap length c.requires.names ∙ length-map ps name_of in
    let within : n < length ps = omega (arith, many) in
    let name : get_or c.args.names.now n 0 ≡ (get_or ps n d).0 = ap (λ (l : List ℕ). get_or l n 0) c.requires.names ∙ name_at ps n d within in
    let there : pipe_of ps (get_or c.args.names.now n 0) ≡ Some (get_or ps n d).1 = ap (λ (id : ℕ). pipe_of ps id) name ∙ (found 0 c.args.state.now.events ps n d c.requires.orderly.pipes within).1 in
    let pushed : c.push_pipe.new.pipes.items ≡ c.loop-name.pipes.items ++ (c.in_ok-place.place, (get_or ps n d).1) ∷ [] = c.in_ok-push_pipe.ensures (get_or ps n d).1 there in
    let placed : c.in_ok-place.place ≡ place_among c.args.names.now (get_or ps n d).0 = c.in_ok-place.ensures ∙ ap (place_among c.args.names.now) name in
    pushed ∙ (λ i. c.loop-name.invariant i ++ (placed i, (get_or ps n d).1) ∷ []) ∙ sym (map_more f ps n d within)
