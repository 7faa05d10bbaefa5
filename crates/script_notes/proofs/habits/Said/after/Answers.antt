use Rattle.std.proofs.Common.{◌∙◌, sym, ap}
use Rattle.script_notes.specs.Habits.{after_word}
use Rattle.script_notes.specs.Letters.{text_of}
use Rattle.script_notes.proofs.Saying.{word_said}
use Rattle.script_notes.proofs.habits.Said.after.Goals as goal

pub returns-in-Word : goal.returns-in-Word
returns-in-Word c = λ back is.
    c.after_word.ensures
    ∙ ap (λ word. after_word c.args.self word c.args.token.now.past) c.text_of.ensures
    ∙ ap (λ said. after_word said (text_of c.args.text.now c.args.token.now) c.args.token.now.past) is
    ∙ sym (word_said c.args.text.now c.args.token.now back c.in-Word.is)
