-- One word more is the same.
use Rattle.std.proofs.Common.{◌≡◌, List, ℕ, arith, rules}
use Rattle.std.proofs.lemmas.List.{take_more}
use Rattle.user_progs.proofs.state.are_same.Goals as goal

pub loop-i-preserved : goal.loop-i-preserved
loop-i-preserved g c =
    let one : List ℕ = c.index-words-i.result in
    let other : List ℕ = c.index-others-i.result in
    let same_word : one ≡ other = search rules in
    let left = take_more {X = List ℕ} c.args.words.now c.loop-i.i one (omega arith) in
    let right = take_more {X = List ℕ} c.args.others.now c.loop-i.i other (omega arith) in
    cc
