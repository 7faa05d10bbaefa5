use Rattle.suite_file.proofs.test_tables.test_of.Goals as goal

pub returns : goal.returns
returns c = record {
  ok = record {
    keys = rw (← c.of_test.ensures) c.in_ok-check_keys.ensures.keys;
    metadata = c.in_ok-check_keys.ensures.metadata;
    name = rw c.in_ok-name.ensures.ok c.in_ok-text.ensures.name;
    named = rw c.in_ok-name.ensures.ok c.in_ok-text.ensures.named;
    points = c.in_ok-points.ensures.ok;
    limits = c.in_ok-limits.ensures.ok;
    given = c.in_ok-given.ensures.ok;
    wanted = c.in_ok-wanted.ensures.ok;
  };
  refused = tt;
}
