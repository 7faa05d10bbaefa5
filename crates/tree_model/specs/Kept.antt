-- What a step keeps of a value.
use Rattle.std.specs.Prelude.{◌≡◌, false, ◌++◌}
use Rattle.mem_files.specs.Name.{Name, Bytes}
use Rattle.mem_files.specs.Files.{FileMap}
use Rattle.prog_parts.specs.NameSets.{Names}
use Rattle.meaning_model.specs.Value.{Value}

-- the two maps are the same at these names
pub record Agree (N : Name → Type 0) (F G : FileMap) : Type 0 where
  pub at : (n : Name) → N n → F n ≡ G n

-- this was written, v was to come before it and v' comes after: the files that were not soft, and the rest that was not
-- loose, are the same; nothing becomes soft or loose, and none of these names is met
pub record Keeps (written : Bytes) (v v' : Value) (names : Names) : Type 0 where
  pub out : v.out ≡ written ++ v'.out
  pub files : Agree (λ n. v.soft n ≡ false) v.files v'.files
  pub rest : v.loose ≡ false → v.rest ≡ v'.rest
  pub loose : v.loose ≡ false → v'.loose ≡ false
  pub soft : (n : Name) → v.soft n ≡ false → v'.soft n ≡ false
  pub met : (n : Name) → names n ≡ false
