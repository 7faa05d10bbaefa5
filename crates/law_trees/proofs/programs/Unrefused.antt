-- No write of a program that runs alone is refused.
use Rattle.std.proofs.Common.{◌≡◌, ◌∙◌, ℕ, true, ap}
use Rattle.std.specs.Prelude.{slice_index_or}
use Rattle.mem_files.specs.Name.{Bytes}
use Rattle.user_calls.specs.declared.calls.Call.TheVariants.{Write}
use Rattle.user_progs.specs.State.{Tee, tee_opens, tee_reads, tee_writes, tee_gives, State, begins, echo_word, echo_space, opens, works, closes, tees, told, ended}
use Rattle.user_progs.specs.Turn.{fd_of}
use Rattle.tree_model.specs.Alone.{World, may_write}
use Rattle.tree_model.specs.Waits.{TeeWaits, Waits}
use Rattle.tree_model.specs.Fits.{AreWithin, outputs, Fits}
use Rattle.law_trees.proofs.programs.Fitting.{gives_done}
use Rattle.law_trees.proofs.programs.Keeps.{low_done}
use Rattle.law_trees.proofs.programs.Refusing.{to_one, work_to_one}

to_out : (fd : ℕ) (world : World) → fd ≡ 1 → may_write fd world ≡ true
to_out fd world one = ap (λ (d : ℕ). may_write d world) one

tee_unrefused : (tee : Tee) (fd : ℕ) (bytes : Bytes) (world : World) → TeeWaits tee (Write fd bytes) world → AreWithin (outputs tee) world.own world.files → may_write fd world ≡ true
tee_unrefused (tee_opens fds name later) fd bytes world waits within = let is = waits.0 in cc
tee_unrefused (tee_reads fds) fd bytes world waits within = let is = waits.0 in cc
tee_unrefused (tee_writes fds more) fd bytes world waits within = to_out fd world (to_one fd bytes more waits.0)
tee_unrefused (tee_gives fds at more) fd bytes world (is, inside, distinct, (place, had, stands)) within =
    let same : fd ≡ slice_index_or fds at 0 = cc in
    ap (λ (d : ℕ). may_write d world) same ∙ gives_done fds at place world inside stands within

pub unrefused : (state : State) (fd : ℕ) (bytes : Bytes) (world : World) → Waits state (Write fd bytes) world → Fits state world → may_write fd world ≡ true
unrefused (begins program arguments) fd bytes world waits fits = let is = waits.0 in cc
unrefused (echo_word later) fd bytes world ((more, is), short) fits = to_out fd world (to_one fd bytes more is)
unrefused (echo_space later) fd bytes world ((more, is), short) fits = to_out fd world (to_one fd bytes more is)
unrefused (opens filter name later) fd bytes world waits fits = cc
unrefused (works work source) fd bytes world waits fits = to_out fd world (work_to_one work (fd_of source) fd bytes waits.0)
unrefused (closes filter later) fd bytes world (closing, is, held_so) fits = cc
unrefused (tees tee) fd bytes world waits fits = tee_unrefused tee fd bytes world waits fits
unrefused told fd bytes world (at, some, low, (more, is)) fits =
    let same : fd ≡ at = cc in
    ap (λ (d : ℕ). may_write d world) same ∙ low_done at world some low
unrefused ended fd bytes world waits fits = cc
