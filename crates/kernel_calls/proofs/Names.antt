-- A name stands in the index where it stands in what contracts see.
use Rattle.std.proofs.Common.{◌≡◌, ℕ, ◌+◌, List, [], ◌∷◌, Some, None, cond, length, refl, ap, ◌∙◌}
use Rattle.std.proofs.lemmas.List.{length-map}
use Rattle.std.specs.Prelude.{◌==◌, nat_lt, not, position}
use Rattle.std.specs.List.{position_or_len}
use Rattle.slab.specs.Slab.{Slab}
use Rattle.byte_pipe.specs.PipeState.{PipeState}
use Rattle.kernel_calls.specs.declared.named.Named.{Named}
use Rattle.kernel_calls.specs.Indexed.{has_name, listed, shown}
use Rattle.kernel_calls.specs.Placed.{is_named}

first_named : (index : List Named) (live : Slab PipeState) (id : ℕ) → position_or_len (is_named id) (listed index live) ≡ position_or_len (has_name id) index
first_named [] live id = refl
first_named (e ∷ rest) live id = ap (λ (n : ℕ). cond (not (id == e.name)) (1 + n) 0) (first_named rest live id)

pub place_named : (index : List Named) (live : Slab PipeState) (id : ℕ) → position (is_named id) (listed index live) ≡ position (has_name id) index
place_named index live id =
    let first = position_or_len (has_name id) index in
    ap (λ (n : ℕ). cond (nat_lt n (length (listed index live))) (Some n) None) (first_named index live id)
    ∙ ap (λ (all : ℕ). cond (nat_lt first all) (Some first) None) (length-map index (shown live))
