use Rattle.std.proofs.Common.{◌≡◌, sym, subst, rules}
use Rattle.std.specs.Prelude.{string_bytes}
use Rattle.xvsh_ends.specs.Ends.{IsOfWitness, IsInFolder, itself, folder}
use Rattle.xvsh_ends.proofs.witnesses.make_folder.Goals as goal

pub returns-in_ok-from_str-in-Err-clause-witness : goal.returns-in_ok-from_str-in-Err-clause-witness
returns-in_ok-from_str-in-Err-clause-witness g c =
    let same : string_bytes c.in_ok-from_str-in-Err.field-0 ≡ c.args.folder.now = search rules in
    subst (IsOfWitness c.args.folder.now) (sym same) itself

pub returns-in_ok-from_str-in-Err-clause-filing : goal.returns-in_ok-from_str-in-Err-clause-filing
returns-in_ok-from_str-in-Err-clause-filing g c =
    let same : string_bytes c.in_ok-from_str-in-Err.field-0 ≡ c.args.folder.now = search rules in
    subst (IsInFolder c.args.folder.now) (sym same) folder
