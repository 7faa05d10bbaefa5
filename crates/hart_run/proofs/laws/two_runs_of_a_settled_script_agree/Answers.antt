use Rattle.mem_files.specs.Files.{files}
use Rattle.script_load.specs.Line.{lines_of}
use Rattle.meaning_model.specs.Meaning.{script_meaning}
use Rattle.hart_run.proofs.Answers.{answer}
use Rattle.hart_run.proofs.Alike.{alike}
use Rattle.hart_run.proofs.laws.two_runs_of_a_settled_script_agree.Goals as goal

pub returns : goal.returns
returns g c = λ profile input list are settled ran quiet again loud.
    let lines = lines_of c.args._script.now.lines in
    let small = c.args._script.now.small in
    alike (script_meaning profile lines input (files list)) c.args._first.now c.args._second.now (answer profile lines input list c.args._first.now small are ran settled quiet) (answer profile lines input list c.args._second.now small are again settled loud)
