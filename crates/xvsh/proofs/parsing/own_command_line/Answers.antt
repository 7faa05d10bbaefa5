use Rattle.std.proofs.Common.{◌≡◌, ℕ, Result, Ok, Err, ◌∙◌, ap}
use Rattle.std.specs.Prelude.{IfOk}
use Rattle.clap.specs.Simple.{app_of}
use Rattle.clap.specs.declared.builder.command.Command.{Command}
use Rattle.xvsh_words.specs.Program.{program}
use Rattle.xvsh.specs.Parsing.{own_program}
use Rattle.xvsh.proofs.parsing.own_command_line.Goals as goal

with_harts : {X : Type 0} (harts : ℕ) (result : Result Command X) → harts ≡ 8 → IfOk result (λ command. app_of command ≡ program harts 1000000000 10000000 256) → IfOk result (λ command. app_of command ≡ own_program)
with_harts harts (Err error) eight is = tt
with_harts harts (Ok command) eight is = is ∙ ap (λ n. program n 1000000000 10000000 256) eight

pub returns : goal.returns
returns c = λ free. with_harts c.from.result c.command_line.result c.from.ensures (c.command_line.ensures free)
