use Rattle.std.proofs.Common.{◌≡◌, subst}
use Rattle.std.specs.Prelude.{IfOk}
use Rattle.clap.specs.Simple.{app_of}
use Rattle.xvsh_words.specs.Program.{IsCommand}
use Rattle.xvsh_words.proofs.Adds.{added_last}
use Rattle.xvsh_words.proofs.words.with_command.Goals as goal

pub returns : goal.returns
returns c = λ app shape known is.
    let old = subst (λ r. IfOk r (λ command. app_of command ≡ app)) c.in_ok-program.was known in
    let sub = subst (λ r. IfOk r (IsCommand shape)) c.in_ok-command.was is in
    added_last shape app c.in_ok-program.program c.in_ok-command.command c.subcommand.result c.subcommand.ensures sub old
