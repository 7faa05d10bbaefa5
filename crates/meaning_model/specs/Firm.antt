-- A value of which nothing depends on the order in which processes run.
use Rattle.std.specs.Prelude.{◌≡◌, false}
use Rattle.mem_files.specs.Name.{Name}
use Rattle.meaning_model.specs.Value.{Value}

pub record IsFirm (value : Value) : Type 0 where
  pub loose : value.loose ≡ false
  pub soft : (name : Name) → value.soft name ≡ false
