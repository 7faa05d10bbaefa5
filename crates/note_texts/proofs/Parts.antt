-- Parts of a text, one after the other.
use Rattle.std.proofs.Common.{◌≡◌, ◌++◌, ◌∙◌, ap, append_assoc}
use Rattle.mem_files.specs.Name.{Bytes}

pub added_six : (old one two three four five new a b d e f g : Bytes) → one ≡ old ++ a → two ≡ one ++ b → three ≡ two ++ d → four ≡ three ++ e → five ≡ four ++ f → new ≡ five ++ g → new ≡ old ++ (a ++ (b ++ (d ++ (e ++ (f ++ g)))))
added_six old one two three four five new a b d e f g p q r s t u =
    u ∙ ap (λ x. x ++ g) (t ∙ ap (λ x. x ++ f) (s ∙ ap (λ x. x ++ e) (r ∙ ap (λ x. x ++ d) (q ∙ ap (λ x. x ++ b) p)))) ∙ simp append_assoc
