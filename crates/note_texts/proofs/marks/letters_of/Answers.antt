use Rattle.std.proofs.Common.{◌≡◌, ◌++◌, IfOk, subst, ap, ◌∙◌, chars}
use Rattle.std.specs.Str.Lossy.{utf8_lossy}
use Rattle.std.proofs.lemmas.Iterator.{items_from_collect, YieldsList-from_chars}
use Rattle.note_texts.specs.Marks.{letters, shown}
use Rattle.note_texts.proofs.marks.letters_of.Goals as goal

pub returns : goal.returns
returns c =
    let shown_line : c.add_shown.new.text.items ≡ shown c.args.bytes.now = c.in_ok-add_shown.ensures ∙ ap (λ t. t ++ shown c.args.bytes.now) c.new-line.ensures.items in
    let e : chars c.deref.result.now ≡ letters c.args.bytes.now = ap chars (c.deref.ensures ∙ c.in_ok-text.ensures.lossy ∙ ap utf8_lossy (c.as_slice.ensures.value ∙ shown_line)) in
    subst (λ xs. IfOk c.collect.result (λ found. found.items ≡ xs)) e (items_from_collect _ c.collect.ensures.ran (YieldsList-from_chars c.deref.result.now c.deref.utf8 c.chars.ensures.rest))
