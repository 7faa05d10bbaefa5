-- Where nothing runs behind `&` nothing is left behind, and the bound is the one of `room_model`.
use Rattle.std.proofs.Common.{◌≡◌, ◌∙◌, ◌+◌, List, false, refl, ap, arith}
use Rattle.std.specs.Prelude.{max}
use Rattle.std.proofs.lemmas.Bool.{or_parts}
use Rattle.sh_tree.specs.Tree.{Tree, exec, redir, pipe, list, back}
use Rattle.script_load.specs.Line.{ScriptLine}
use Rattle.meaning_model.specs.Meaning.{script_tree}
use Rattle.conflict_check.specs.Clear.{has_back}
use Rattle.room_model.specs.Processes.{most_processes, script_processes}
use Rattle.room_model.specs.BehindProcesses.{at_once, left_behind, processes_at_once}

none_left : (t : Tree) → has_back t ≡ false → left_behind t ≡ 0
none_left (exec words) plain = refl
none_left (redir mode name body) plain = none_left body plain
none_left (pipe l r) plain = let both = or_parts (has_back l) (has_back r) plain in omega (arith, none_left l both.0, none_left r both.1)
none_left (list l r) plain = let both = or_parts (has_back l) (has_back r) plain in omega (arith, none_left l both.0, none_left r both.1)
none_left (back body) plain = absurd (let z : ⊥ = cc in z)

as_before : (t : Tree) → has_back t ≡ false → at_once t ≡ most_processes t
as_before (exec words) plain = refl
as_before (redir mode name body) plain = as_before body plain
as_before (pipe l r) plain = let both = or_parts (has_back l) (has_back r) plain in omega (arith, as_before l both.0, as_before r both.1)
as_before (list l r) plain =
    let both = or_parts (has_back l) (has_back r) plain in
    let second : left_behind l + at_once r ≡ most_processes r = omega (arith, none_left l both.0, as_before r both.1) in
    ap (λ n. max (1 + n) (left_behind l + at_once r)) (as_before l both.0) ∙ ap (max (1 + most_processes l)) second
as_before (back body) plain = absurd (let z : ⊥ = cc in z)

pub same_bound : (lines : List ScriptLine) → has_back (script_tree lines) ≡ false → processes_at_once lines ≡ script_processes lines
same_bound lines plain = ap (λ n. 1 + n) (as_before (script_tree lines) plain)
