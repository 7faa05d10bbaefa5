use Rattle.std.proofs.Common.{◌≡◌, sym, subst, rules}
use Rattle.std.specs.Prelude.{string_bytes}
use Rattle.xvsh_ends.specs.Ends.{IsInFolder, folder}
use Rattle.xvsh_ends.proofs.filing.unwritten_folder.Goals as goal

pub returns-in-Ok : goal.returns-in-Ok
returns-in-Ok c =
    let same : string_bytes c.in-Ok.path ≡ c.args.folder.now = search rules in
    subst (IsInFolder c.args.folder.now) (sym same) folder
