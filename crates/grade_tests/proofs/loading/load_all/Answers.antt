use Rattle.std.proofs.Common.{◌∙◌, subst, arith}
use Rattle.grade_tests.specs.Loads.{IsLoaded}
use Rattle.grade_tests.proofs.Putting.{one_more}
use Rattle.grade_tests.proofs.loading.load_all.Goals as goal

pub loop-test-preserved : goal.loop-test-preserved
loop-test-preserved g c =
    let states = c.loop-test.invariant in
    record {
      each = one_more (IsLoaded (g.H.Host.file c.args.host.now) c.args.spot.now.suite.now c.args.most) c.args.tests.now c.loop-test.loaded.items c.push.new.self.items c.loop-test.test-index c.test-item.result c.in_ok-one.one
          (omega arith) c.test-item.is states.each (subst (λ file. IsLoaded file c.args.spot.now.suite.now c.args.most c.test-item.result c.in_ok-one.one) states.files_stay c.in_ok-one.ensures.loaded) c.in_ok-push.ensures.items;
      input_stays = c.load.ensures.stays.0 ∙ states.input_stays;
      files_stay = c.load.ensures.stays.1 ∙ states.files_stay;
    }
