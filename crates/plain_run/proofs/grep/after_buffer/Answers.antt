use Rattle.std.proofs.Common.{sym, arith, drop}
use Rattle.std.proofs.lemmas.List.{drop_all, take_all, length-drop}
use Rattle.plain_run.proofs.grep.after_buffer.Goals as goal

pub returns-then-bytes-le-BUFFER : goal.returns-then-bytes-le-BUFFER
returns-then-bytes-le-BUFFER c = sym (drop_all 1023 c.args.bytes.now (omega arith))

pub returns : goal.returns
returns c = take_all _ (drop 1023 c.args.bytes.now) (omega (arith, length-drop 1023 c.args.bytes.now))
