use Rattle.std.proofs.Common.{[], refl, sym, ◌∙◌, subst, arith}
use Rattle.grade_tests.specs.Loads.{AreBytesOf, ArePutFrom, none_put}
use Rattle.grade_tests.proofs.Putting.{put_more}
use Rattle.grade_tests.proofs.loading.files_of.Goals as goal

pub loop-source-init : goal.loop-source-init
loop-source-init g c = record {
  put = subst (ArePutFrom (g.H.Host.file c.args.host.now) c.args.spot.now.suite.now []) (sym c.new-files.ensures) none_put;
  input_stays = refl;
  files_stay = refl;
}

pub loop-source-preserved : goal.loop-source-preserved
loop-source-preserved g c =
    let states = c.loop-source.invariant in
    let put = c.in_ok-put_file.ensures.put in
    record {
      put = put_more (g.H.Host.file c.args.host.now) c.args.spot.now.suite.now c.args.sources.now c.loop-source.source-index c.source-item.result (omega arith) c.source-item.is c.loop-source.files c.put_file.new.files put.0 states.put
          (subst (λ file. AreBytesOf file c.args.spot.now.suite.now c.source-item.result.source put.0) states.files_stay put.1) put.2;
      input_stays = c.put_file.ensures.stays.0 ∙ states.input_stays;
      files_stay = c.put_file.ensures.stays.1 ∙ states.files_stay;
    }
