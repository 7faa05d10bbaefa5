use Rattle.std.proofs.Common.{refl}
use Rattle.clap.specs.Matches.{found_of}
use Rattle.xvsh.proofs.request.request_of.Goals as goal

pub returns-in-Some-clause-request : goal.returns-in-Some-clause-request
returns-in-Some-clause-request c =
    (found_of c.in-Some.words.now, record { named = c.in-Some.ensures.found.0 refl; rows = c.in-Some.ensures.rows }, c.run_of.ensures)

pub returns-in-Some-subcommand_matches-clause-request : goal.returns-in-Some-subcommand_matches-clause-request
returns-in-Some-subcommand_matches-clause-request c =
    (found_of c.in-Some-subcommand_matches.words.now, record { named = c.in-Some-subcommand_matches.ensures.found.0 refl; rows = c.in-Some-subcommand_matches.ensures.rows }, c.replay_of.ensures)

pub returns-in-Some-subcommand_matches-2-clause-request : goal.returns-in-Some-subcommand_matches-2-clause-request
returns-in-Some-subcommand_matches-2-clause-request c =
    (found_of c.in-Some-subcommand_matches-2.words.now, record { named = c.in-Some-subcommand_matches-2.ensures.found.0 refl; rows = c.in-Some-subcommand_matches-2.ensures.rows }, c.plain_of.ensures)

pub returns-in-Some-subcommand_matches-3-clause-request : goal.returns-in-Some-subcommand_matches-3-clause-request
returns-in-Some-subcommand_matches-3-clause-request c =
    (found_of c.in-Some-subcommand_matches-3.words.now, record { named = c.in-Some-subcommand_matches-3.ensures.found.0 refl; rows = c.in-Some-subcommand_matches-3.ensures.rows }, c.check_of.ensures)

pub returns-in-Some-subcommand_matches-4-clause-request : goal.returns-in-Some-subcommand_matches-4-clause-request
returns-in-Some-subcommand_matches-4-clause-request c =
    (found_of c.in-Some-subcommand_matches-4.words.now, record { named = c.in-Some-subcommand_matches-4.ensures.found.0 refl; rows = c.in-Some-subcommand_matches-4.ensures.rows }, c.explain_of.ensures)

pub returns-in-Some-subcommand_matches-5-clause-request : goal.returns-in-Some-subcommand_matches-5-clause-request
returns-in-Some-subcommand_matches-5-clause-request c =
    (found_of c.in-Some-subcommand_matches-5.words.now, record { named = c.in-Some-subcommand_matches-5.ensures.found.0 refl; rows = c.in-Some-subcommand_matches-5.ensures.rows }, c.explore_of.ensures)

pub returns-in-Some-subcommand_matches-6-clause-request : goal.returns-in-Some-subcommand_matches-6-clause-request
returns-in-Some-subcommand_matches-6-clause-request c =
    (found_of c.in-Some-subcommand_matches-6.words.now, record { named = c.in-Some-subcommand_matches-6.ensures.found.0 refl; rows = c.in-Some-subcommand_matches-6.ensures.rows }, c.draw_of.ensures)
