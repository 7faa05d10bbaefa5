-- What contracts see where a pipe is changed, given up or made.
use Rattle.std.proofs.Common.{◌≡◌, ℕ, ◌<◌, List, [], ◌∷◌, ◌++◌, length, get_or, Option, Some, None, sym, subst, ap, ◌∙◌}
use Rattle.std.proofs.Math.ListN.{set}
use Rattle.std.specs.Prelude.{remove, unwrap_or}
use Rattle.slab.specs.Slab.{Slab, Updates, get, with_value}
use Rattle.slab.proofs.SlabLemmas.{Updates-with_value}
use Rattle.byte_pipe.specs.PipeState.{PipeState, new_pipe}
use Rattle.kernel_model.specs.Pipes.{Pipes, with_new}
use Rattle.kernel_calls.specs.declared.named.Named.{Named}
use Rattle.kernel_calls.specs.Indexed.{AreIndexed, listed, pipe_under, shown}
use Rattle.kernel_calls.specs.Placed.{placed, with_placed}
use Rattle.kernel_calls.proofs.Indexing.{held_at, indexed_roomy, same_but, same_under}
use Rattle.kernel_calls.proofs.Listing.{listed_at, listed_push, listed_remove, listed_set}

abbrev under : Option PipeState → PipeState
under slot = unwrap_or slot new_pipe

-- the pipe at a place is the one under the entry's key
pub shown_at : (index : List Named) (live : Slab PipeState) (i : ℕ) (e : Named) (pipe : PipeState) → i < length index → e ≡ get_or index i e → get live e.key ≡ Some pipe → (placed (listed index live) i).1 ≡ pipe
shown_at index live i e pipe within is found =
    ap (λ (p : ℕ × PipeState). p.1) (listed_at index live i e within) ∙ sym (ap (λ (x : Named). pipe_under live x.key) is) ∙ ap under found

changed_at : (index : List Named) (live : Slab PipeState) (i : ℕ) (d : Named) (now : PipeState) → AreIndexed index live → i < length index → listed index (with_value live (get_or index i d).key now) ≡ with_placed (listed index live) i now
changed_at index live i d now are within =
    let e = get_or index i d in
    let updates = Updates-with_value live e.key now (held_at index live i d are within) in
    listed_set index live (with_value live e.key now) i d within (same_but index live (with_value live e.key now) i d (Some now) are within updates)
    ∙ ap (λ (p : PipeState). set (listed index live) i (e.name, p)) (ap under updates.changed)
    ∙ ap (λ (name : ℕ). set (listed index live) i (name, now)) (sym (ap (λ (p : ℕ × PipeState). p.0) (listed_at index live i d within)))

pub shown_changed : (index : List Named) (live : Slab PipeState) (i : ℕ) (e : Named) (now : PipeState) → AreIndexed index live → i < length index → e ≡ get_or index i e → listed index (with_value live e.key now) ≡ with_placed (listed index live) i now
shown_changed index live i e now are within is =
    ap (λ (x : Named). listed index (with_value live x.key now)) is ∙ changed_at index live i e now are within

pub shown_given_up : (index : List Named) (old new : Slab PipeState) (i : ℕ) (e : Named) → AreIndexed index old → i < length index → e ≡ get_or index i e → Updates old new e.key None → listed (remove index i) new ≡ remove (listed index old) i
shown_given_up index old new i e are within is updates =
    listed_remove index old new i e within (same_but index old new i e None are within (subst (λ (x : Named). Updates old new x.key None) is updates))

pub shown_made : (index kept made : List Named) (live roomy new : Slab PipeState) (e : Named) (pipe : PipeState) → AreIndexed index live → kept ≡ index → made ≡ kept ++ e ∷ [] → roomy ≡ record live { capacity = roomy.capacity } → get roomy e.key ≡ None → Updates roomy new e.key (Some pipe) → pipe ≡ new_pipe → listed made new ≡ with_new (listed index live) e.name
shown_made index kept made live roomy new e pipe are same pushed room vacant updates empty =
    ap (λ (entries : List Named). listed entries new) (pushed ∙ ap (λ (entries : List Named). entries ++ e ∷ []) same)
    ∙ listed_push index roomy new e e (same_under index roomy new e.key e (Some pipe) (indexed_roomy index live roomy are room) vacant updates)
    ∙ ap (λ (l : Pipes). l ++ shown new e ∷ []) (ap (listed index) room)
    ∙ ap (λ (p : PipeState). listed index live ++ (e.name, p) ∷ []) (ap under updates.changed ∙ empty)
