-- Two reports that have what a script means agree.
use Rattle.std.proofs.Common.{◌∙◌, sym}
use Rattle.meaning_model.specs.Value.{Value}
use Rattle.hart_run.specs.Answer.{IsAnswer}
use Rattle.kernel_events.specs.declared.report.Report.{Report}
use Rattle.hart_run.specs.Alike.{AreAlike}

pub alike : {A B : _} (value : Value) (first : Report A) (second : Report B) → IsAnswer value first → IsAnswer value second → AreAlike value.soft first second
alike value first second left right =
    record {
      out = left.out ∙ sym right.out;
      files = λ name hard. left.files name hard ∙ sym (right.files name hard);
    }
