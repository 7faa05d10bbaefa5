-- Parts that were added one after the other.
use Rattle.std.proofs.Common.{◌≡◌, ◌++◌, ◌∙◌, ap, append_assoc}
use Rattle.mem_files.specs.Name.{Bytes}

pub joined_four : (old one two three new a b d e : Bytes) → one ≡ old ++ a → two ≡ one ++ b → three ≡ two ++ d → new ≡ three ++ e → new ≡ old ++ (a ++ (b ++ (d ++ e)))
joined_four old one two three new a b d e p q r s =
    s ∙ ap (λ x. x ++ e) (r ∙ ap (λ x. x ++ d) (q ∙ ap (λ x. x ++ b) p)) ∙ simp append_assoc

pub joined_six : (old one two three four five new a b d e f g : Bytes) → one ≡ old ++ a → two ≡ one ++ b → three ≡ two ++ d → four ≡ three ++ e → five ≡ four ++ f → new ≡ five ++ g → new ≡ old ++ (a ++ (b ++ (d ++ (e ++ (f ++ g)))))
joined_six old one two three four five new a b d e f g p q r s t u =
    u ∙ ap (λ x. x ++ g) (t ∙ ap (λ x. x ++ f) (s ∙ ap (λ x. x ++ e) (r ∙ ap (λ x. x ++ d) (q ∙ ap (λ x. x ++ b) p)))) ∙ simp append_assoc
