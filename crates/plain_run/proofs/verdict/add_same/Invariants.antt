use Rattle.std.proofs.Common.{◌≡◌, ◌++◌, take}
use Rattle.std.specs.List.{filter}
use Rattle.std.specs.Str.{bytes_eq}
use Rattle.plain_run.proofs.verdict.add_same.Given as goal

-- those of the words so far were added
abbrev pub invariant-loop-word : goal.invariant-loop-word
invariant-loop-word g l = l.list.items ≡ l.fn.list.items ++ filter (λ word. bytes_eq word l.name) (take l.word-index l.words)
