-- Bytes that are added at the end leave what was there.
use Rattle.std.proofs.Common.{◌≡◌, ◌++◌, ◌∙◌, ap, append_assoc}
use Rattle.mem_files.specs.Name.{Bytes}
use Rattle.plain_run.specs.Gives.{Extends}

pub extends_more : (old mid new added : Bytes) → Extends old mid → new ≡ mid ++ added → Extends old new
extends_more old mid new added before is =
    record { added = before.added ++ added; is = is ∙ ap (λ m. m ++ added) before.is ∙ append_assoc old before.added added }
