-- Bytes that are put behind those of a call, piece by piece.
use Rattle.std.proofs.Common.{◌≡◌, ◌∙◌, ℕ, List, [], ◌∷◌, ◌++◌, take, refl, ap, append_assoc}
use Rattle.user_calls.specs.Limits.{block_size}
use Rattle.user_calls.specs.Slots.{call_longer}
use Rattle.user_calls.specs.declared.calls.Call.{Call}
use Rattle.user_calls.specs.declared.calls.Call.TheVariants.{Fork, Exec, Exit, Wait, MakePipe, Read, Write, OpenFile, Close, Dup}
use Rattle.user_progs.proofs.Blocks.{more_put}

-- two pieces are one
pub longer_twice : (call : Call) (a b : List ℕ) → call_longer (call_longer call a) b ≡ call_longer call (a ++ b)
longer_twice Fork a b = refl
longer_twice (Exec found) a b = refl
longer_twice Exit a b = refl
longer_twice Wait a b = refl
longer_twice MakePipe a b = refl
longer_twice (Read fd most) a b = refl
longer_twice (Write fd bytes) a b = ap (λ (z : List ℕ). Write fd z) (more_put block_size bytes a b (take block_size (bytes ++ a)) refl)
longer_twice (OpenFile name mode) a b = ap (λ (z : List ℕ). OpenFile z mode) (more_put block_size name a b (take block_size (name ++ a)) refl)
longer_twice (Close fd) a b = refl
longer_twice (Dup fd) a b = refl

-- a piece that ends in a space, and what follows it
spaced : (call : Call) (ds rest : List ℕ) → call_longer (call_longer call (ds ++ 32 ∷ [])) rest ≡ call_longer call (ds ++ 32 ∷ rest)
spaced call ds rest = longer_twice call (ds ++ 32 ∷ []) rest ∙ ap (λ (z : List ℕ). call_longer call z) (append_assoc ds (32 ∷ []) rest)

-- three counts, each with a space, a name and LF
pub counts_said : (call : Call) (l w b name : List ℕ) →
    call_longer (call_longer (call_longer (call_longer (call_longer call (l ++ 32 ∷ [])) (w ++ 32 ∷ [])) (b ++ 32 ∷ [])) name) (10 ∷ [])
    ≡ call_longer call (l ++ 32 ∷ (w ++ 32 ∷ (b ++ 32 ∷ (name ++ 10 ∷ []))))
counts_said call l w b name =
    let end = name ++ 10 ∷ [] in
    let one = call_longer call (l ++ 32 ∷ []) in
    let two = call_longer one (w ++ 32 ∷ []) in
    longer_twice (call_longer two (b ++ 32 ∷ [])) name (10 ∷ [])
    ∙ spaced two b end
    ∙ spaced one w (b ++ 32 ∷ end)
    ∙ spaced call l (w ++ 32 ∷ (b ++ 32 ∷ end))
