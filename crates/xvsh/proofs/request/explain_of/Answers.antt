use Rattle.xvsh.proofs.request.explain_of.Goals as goal

pub returns : goal.returns
returns c =
    record {
      source = c.source_of-source.ensures;
      asked = c.flag_of.result;
      why = c.flag_of.ensures;
      input = c.input_of.result;
      given = c.input_of.ensures;
      tells = c.tells_why.ensures;
      fixes = c.flag_of-2.ensures;
      json = c.flag_of-3.ensures;
    }
