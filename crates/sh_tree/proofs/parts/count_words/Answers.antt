use Rattle.std.proofs.Common.{[], ◌++◌, refl, arith, length-append}
use Rattle.sh_tree.specs.Grammar.{parts_end}
use Rattle.sh_tree.specs.Reading.{words_of, redirections_of}
use Rattle.sh_tree.proofs.EachPart.{parts-append, few_words}
use Rattle.sh_tree.proofs.parts.count_words.Goals as goal

pub loop-part-init : goal.loop-part-init
loop-part-init c = record { here = c.requires; read = ([], [], parts_end, refl); room = omega arith }

pub loop-part-preserved : goal.loop-part-preserved
loop-part-preserved c =
    let part = c.in-Some.part in
    let read = c.loop-part.invariant.read in
    record {
      here = c.in-Some.ensures.goes_on;
      read = (read.0 ++ words_of part, read.1 ++ redirections_of part, parts-append read.2 c.in-Some.ensures.part_read, simp length-append (omega (arith, read.3, c.words_in-count.ensures)));
      room = omega (arith, c.loop-part.invariant.room, c.in-Some.ensures.fewer, few_words part, c.words_in-count.ensures);
    }

pub returns : goal.returns
returns c =
    let read = c.loop-part.invariant.read in
    record {
      words = read.0;
      read = record { rest = _; redirections = read.1; parts = read.2; follows = c.in_default.ensures };
      counted = read.3;
    }
