use Rattle.std.proofs.Common.{◌≡◌, ◌+◌, subst, arith}
use Rattle.std.specs.Prelude.{true, false}
use Rattle.prog_parts.specs.NameSets.{no_names}
use Rattle.room_model.specs.Place.{to_place}
use Rattle.room_bounds.specs.CappedGrowth.{IsCapped}
use Rattle.room_bounds.proofs.Places.{none_place}
use Rattle.room_bounds.proofs.written.of_pipe.Goals as goal

pub returns : goal.returns
returns c l r n L left right =
    let through = to_place no_names true r (to_place no_names true l n L) L in
    let same : through ≡ to_place no_names false l n L + through = omega (arith, none_place l n L) in
    record {
      to_files = c.sum.ensures _ _ left.to_files right.to_files;
      to_output = subst (λ k. IsCapped k c.args.right.to_output) same right.to_output;
      to_both = c.sum-2.ensures _ _ left.to_files right.to_both;
    }
