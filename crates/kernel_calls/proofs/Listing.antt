-- What contracts see of the index and the slab, where one value of the slab is another, or an entry of the index goes or comes.
use Rattle.std.proofs.Common.{◌≡◌, ◌≢◌, ℕ, zero, suc, ◌<◌, List, [], ◌∷◌, ◌++◌, length, get_or, refl, ap, ◌∙◌, arith}
use Rattle.std.proofs.Math.ListN.{set}
use Rattle.std.proofs.lemmas.List.{length-map, get_or-map, map-append}
use Rattle.std.specs.Prelude.{remove}
use Rattle.slab.specs.Slab.{Slab}
use Rattle.byte_pipe.specs.PipeState.{PipeState, new_pipe}
use Rattle.kernel_calls.specs.declared.named.Named.{Named}
use Rattle.kernel_calls.specs.Indexed.{pipe_under, shown, listed}
use Rattle.kernel_calls.specs.Placed.{placed}

-- no more stands there than in the index
pub within_index : (index : List Named) (live : Slab PipeState) (i : ℕ) → i < length (listed index live) → i < length index
within_index index live i within = omega (arith, within, length-map index (shown live))

-- what stands at a place
pub listed_at : (index : List Named) (live : Slab PipeState) (i : ℕ) (d : Named) → i < length index → placed (listed index live) i ≡ shown live (get_or index i d)
listed_at index live i d within = get_or-map (shown live) index i d (0, new_pipe) within

-- the entries' pipes are the same in both
abbrev pub SameUnder : List Named → Slab PipeState → Slab PipeState → Named → Type 0
SameUnder index old new d = (i : ℕ) → i < length index → pipe_under new (get_or index i d).key ≡ pipe_under old (get_or index i d).key

pub listed_same : (index : List Named) (old new : Slab PipeState) (d : Named) → SameUnder index old new d → listed index new ≡ listed index old
listed_same [] old new d same = refl
listed_same (e ∷ rest) old new d same =
    ap (λ (p : PipeState). (e.name, p) ∷ listed rest new) (same 0 (omega arith)) ∙ ap (λ (l : List (ℕ × PipeState)). shown old e ∷ l) (listed_same rest old new d (λ i lt. same (suc i) (omega arith)))

-- all but the one at a place are
abbrev pub SameBut : List Named → Slab PipeState → Slab PipeState → ℕ → Named → Type 0
SameBut index old new i d = (j : ℕ) → j < length index → j ≢ i → pipe_under new (get_or index j d).key ≡ pipe_under old (get_or index j d).key

pub listed_set : (index : List Named) (old new : Slab PipeState) (i : ℕ) (d : Named) → i < length index → SameBut index old new i d → listed index new ≡ set (listed index old) i (shown new (get_or index i d))
listed_set [] old new i d within same = absurd (omega arith)
listed_set (e ∷ rest) old new zero d within same =
    ap (λ (l : List (ℕ × PipeState)). shown new e ∷ l) (listed_same rest old new d (λ j lt. same (suc j) (omega arith) (λ is. omega (arith, is))))
listed_set (e ∷ rest) old new (suc i) d within same =
    ap (λ (p : PipeState). (e.name, p) ∷ listed rest new) (same 0 (omega arith) (λ is. omega (arith, is)))
    ∙ ap (λ (l : List (ℕ × PipeState)). shown old e ∷ l) (listed_set rest old new i d (omega arith) (λ j lt ne. same (suc j) (omega arith) (λ is. ne (omega (arith, is)))))

pub listed_remove : (index : List Named) (old new : Slab PipeState) (i : ℕ) (d : Named) → i < length index → SameBut index old new i d → listed (remove index i) new ≡ remove (listed index old) i
listed_remove [] old new i d within same = absurd (omega arith)
listed_remove (e ∷ rest) old new zero d within same = listed_same rest old new d (λ j lt. same (suc j) (omega arith) (λ is. omega (arith, is)))
listed_remove (e ∷ rest) old new (suc i) d within same =
    ap (λ (p : PipeState). (e.name, p) ∷ listed (remove rest i) new) (same 0 (omega arith) (λ is. omega (arith, is)))
    ∙ ap (λ (l : List (ℕ × PipeState)). shown old e ∷ l) (listed_remove rest old new i d (omega arith) (λ j lt ne. same (suc j) (omega arith) (λ is. ne (omega (arith, is)))))

pub listed_push : (index : List Named) (old new : Slab PipeState) (e d : Named) → SameUnder index old new d → listed (index ++ e ∷ []) new ≡ listed index old ++ shown new e ∷ []
listed_push index old new e d same = map-append (shown new) index (e ∷ []) ∙ ap (λ (l : List (ℕ × PipeState)). l ++ shown new e ∷ []) (listed_same index old new d same)
