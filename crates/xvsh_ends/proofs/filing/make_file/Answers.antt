use Rattle.std.proofs.Common.{sym, subst}
use Rattle.xvsh_ends.specs.Ends.{IsInFolder, inside}
use Rattle.xvsh_ends.proofs.filing.make_file.Goals as goal

pub returns-in-Err : goal.returns-in-Err
returns-in-Err g c = subst (IsInFolder c.args.folder.now) (sym c.in_ok-path.ensures) (inside _)
