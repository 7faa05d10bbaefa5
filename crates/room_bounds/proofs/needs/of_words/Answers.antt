use Rattle.std.proofs.Common.{◌≡◌, ◌+◌, length, refl, ap, subst, arith}
use Rattle.room_model.specs.Descriptors.{files_of_words}
use Rattle.room_bounds.specs.Capped.{IsCapped}
use Rattle.room_bounds.proofs.needs.of_words.Goals as goal

pub returns : goal.returns
returns g c =
    let files = subst (λ n. IsCapped n c.capped-files.result) c.files_at_once.ensures c.capped-files.ensures in
    let three : 3 + 0 + files_of_words c.args.words.now ≡ 3 + files_of_words c.args.words.now = omega arith in
    record {
      processes = (refl, omega arith);
      entries = files;
      descriptors = subst (λ n. IsCapped n c.sum_with.result) three (c.sum_with.ensures 0 _ (refl, omega arith) files);
      names = subst (λ n. IsCapped n c.capped.result) (ap (length {A = _}) c.words_written.ensures) c.capped.ensures;
    }
