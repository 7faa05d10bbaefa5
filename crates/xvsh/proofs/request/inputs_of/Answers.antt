use Rattle.std.proofs.Common.{inl, sym}
use Rattle.clap.specs.Matches.{found_of}
use Rattle.xvsh.proofs.request.inputs_of.Goals as goal

pub returns-in-Some : goal.returns-in-Some
returns-in-Some c =
    inl (c.in-Some.field-0-0.now, found_of c.in-Some.words.now, record { named = sym c.in-Some.ensures.name; rows = sym c.in-Some.ensures.rows }, record { input = c.input_of.ensures; text = c.text_of.ensures })
