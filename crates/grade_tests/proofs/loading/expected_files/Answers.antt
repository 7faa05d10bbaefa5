use Rattle.std.proofs.Common.{◌∙◌, subst, arith}
use Rattle.grade_tests.specs.Loads.{IsExpectedFrom}
use Rattle.grade_tests.proofs.Putting.{one_more}
use Rattle.grade_tests.proofs.loading.expected_files.Goals as goal

pub loop-source-preserved : goal.loop-source-preserved
loop-source-preserved g c =
    let states = c.loop-source.invariant in
    record {
      each = one_more (IsExpectedFrom (g.H.Host.file c.args.host.now) c.args.spot.now.suite.now) c.args.sources.now c.loop-source.files.items c.push.new.self.items c.loop-source.source-index c.source-item.result c.in_ok-file.file
          (omega arith) c.source-item.is states.each (subst (λ file. IsExpectedFrom file c.args.spot.now.suite.now c.source-item.result c.in_ok-file.file) states.files_stay c.in_ok-file.ensures.expected) c.in_ok-push.ensures.items;
      input_stays = c.expected_file.ensures.stays.0 ∙ states.input_stays;
      files_stay = c.expected_file.ensures.stays.1 ∙ states.files_stay;
    }
