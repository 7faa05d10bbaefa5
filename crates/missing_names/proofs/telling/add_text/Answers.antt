use Rattle.std.proofs.Common.{◌≡◌, ◌++◌, ◌∙◌, ap, append_assoc}
use Rattle.std.specs.Prelude.{codes}
use Rattle.mem_files.specs.Name.{Bytes}
use Rattle.missing_names.specs.Texts.{head_text}
use Rattle.missing_names.proofs.telling.add_text.Goals as goal

joined_three : (old one two new a b d : Bytes) → one ≡ old ++ a → two ≡ one ++ b → new ≡ two ++ d → new ≡ old ++ (a ++ (b ++ d))
joined_three old one two new a b d p q r = r ∙ ap (λ x. x ++ d) (q ∙ ap (λ x. x ++ b) p) ∙ simp append_assoc

pub returns : goal.returns
returns c =
    joined_three c.args.text.now.items c.add_head.new.text.items c.extend_from_slice.new.self.items c.extend_from_slice-2.new.self.items
    (head_text c.args.missing.now.line) c.args.missing.now.name.items (codes ": no FILE gives it, and no line writes it, so it can't be opened\n")
    c.in_ok-add_head.ensures (c.in_ok-extend_from_slice.ensures.items ∙ ap (λ t. c.add_head.new.text.items ++ t) c.as_slice.ensures.value)
    (c.in_ok-extend_from_slice-2.ensures.items ∙ ap (λ t. c.extend_from_slice.new.self.items ++ t) c.as_slice-2.ensures)
