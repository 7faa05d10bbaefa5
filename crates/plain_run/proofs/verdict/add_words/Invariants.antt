use Rattle.std.proofs.Common.{◌≡◌, ◌++◌, take}
use Rattle.plain_run.proofs.verdict.add_words.Given as goal

-- the words so far were added
abbrev pub invariant-loop-word : goal.invariant-loop-word
invariant-loop-word g l = l.names.items ≡ l.fn.names.items ++ take l.word-index l.words
