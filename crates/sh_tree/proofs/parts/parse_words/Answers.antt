use Rattle.std.proofs.Common.{[], ◌++◌}
use Rattle.sh_tree.specs.Grammar.{parts_end}
use Rattle.sh_tree.specs.Reading.{redirections_of}
use Rattle.sh_tree.proofs.EachPart.{parts-append}
use Rattle.sh_tree.proofs.parts.parse_words.Goals as goal

pub loop-part-init : goal.loop-part-init
loop-part-init g c = record { here = c.requires; read = ([], rw c.in_ok-words.ensures.items parts_end) }

pub loop-part-preserved : goal.loop-part-preserved
loop-part-preserved g c =
    let part = c.in-Some.part in
    let read = c.loop-part.invariant.read in
    record {
      here = c.in-Some.ensures.goes_on;
      read = (read.0 ++ redirections_of part, rw c.in_ok-push_word.ensures (parts-append read.1 c.in-Some.ensures.part_read));
    }
