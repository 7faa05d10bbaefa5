use Rattle.std.proofs.Common.{◌≡◌, ℕ, ◌+◌, ◌∷◌, List, Option, length, sym, subst, arith}
use Rattle.mem_files.specs.Name.{Name}
use Rattle.room_model.specs.Files.{and_written}
use Rattle.room_bounds.specs.Capped.{IsCapped}
use Rattle.room_bounds.proofs.needs.names_under.Goals as goal

one_name : (name : Name) (names : List Name) (o : Option ℕ) → IsCapped (1 + length names) o → IsCapped (length (name ∷ names)) o
one_name name names o is = let e : 1 + length names ≡ length (name ∷ names) = omega arith in subst (λ k. IsCapped k o) e is

pub returns-in-Fresh : goal.returns-in-Fresh
returns-in-Fresh c name list is =
    subst (λ m. IsCapped (length (and_written m name list)) c.one_more.result) (sym c.in-Fresh.is) (one_name name list c.one_more.result (c.one_more.ensures _ is))

pub returns-in-Over : goal.returns-in-Over
returns-in-Over c name list is =
    subst (λ m. IsCapped (length (and_written m name list)) c.one_more-in-Over.result) (sym c.in-Over.is) (one_name name list c.one_more-in-Over.result (c.one_more-in-Over.ensures _ is))
