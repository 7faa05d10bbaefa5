use Rattle.clap.specs.Simple.{App, with_subcommand}
use Rattle.xvsh_words.specs.Program.{bare_program, check_shape, draw_shape, explain_shape, explore_shape, grade_shape, plain_shape, replay_shape, run_shape, step_shape}
use Rattle.xvsh_words.proofs.words.command_line.Goals as goal

pub returns : goal.returns
returns c free =
    let run = run_shape c.args.most.harts c.args.most.turns in
    let explore = explore_shape c.args.most.states in
    let draw = draw_shape c.args.most.turns in
    let grade = grade_shape c.args.most.jobs c.args.most.states in
    let one : App = with_subcommand bare_program run in
    let two : App = with_subcommand one replay_shape in
    let three : App = with_subcommand two plain_shape in
    let four : App = with_subcommand three check_shape in
    let five : App = with_subcommand four explain_shape in
    let six : App = with_subcommand five explore in
    let seven : App = with_subcommand six draw in
    let eight : App = with_subcommand seven step_shape in
    let has_one = c.with_command-one.ensures bare_program run c.bare_command-bare.ensures (c.run_command-run.ensures free) in
    let has_two = c.with_command-two.ensures one replay_shape has_one (c.replay_command.ensures free) in
    let has_three = c.with_command-three.ensures two plain_shape has_two (c.plain_command.ensures free) in
    let has_four = c.with_command-four.ensures three check_shape has_three (c.check_command.ensures free) in
    let has_five = c.with_command-five.ensures four explain_shape has_four (c.explain_command.ensures free) in
    let has_six = c.with_command-six.ensures five explore has_five c.explore_command.ensures in
    let has_seven = c.with_command-seven.ensures six draw has_six c.draw_command.ensures in
    let has_eight = c.with_command-eight.ensures seven step_shape has_seven c.step_command.ensures in
    c.with_command.ensures eight grade has_eight (c.grade_command-grade.ensures free)
