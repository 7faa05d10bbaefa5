-- Reads one after the other consume what they read, in a row.
use Rattle.std.proofs.Common.{List, ℕ, ◌++◌, Option, Some, None, ◌∙◌, ap, sym}
use Rattle.std.specs.Io.KnownBytes.{Consumes}
use Rattle.std.proofs.lemmas.List.{append_assoc}

pub consumes_both : (all old new : Option (List ℕ)) (read got : List ℕ) → Consumes all old read → Consumes old new got → Consumes all new (read ++ got)
consumes_both None old new read got first next = tt
consumes_both (Some xs) None new read got first next = absurd first
consumes_both (Some xs) (Some ys) None read got first next = absurd next
consumes_both (Some xs) (Some ys) (Some zs) read got first next = first ∙ ap (λ t. read ++ t) next ∙ sym (append_assoc read got zs)
