use Rattle.std.proofs.Common.{[], ◌∷◌, ◌∙◌, append-nil, append_assoc, refl}
use Rattle.std.proofs.lemmas.Result.{err_from_is_err_and}
use Rattle.toml.specs.View.{view}
use Rattle.suite_file.specs.Entries.{IsFileSource}
use Rattle.suite_file.proofs.Data.{first_file, other_files}
use Rattle.suite_file.proofs.part.Part.files_of.Goals as goal

pub returns : goal.returns
returns c = record {
  ok = rw (append-nil c.loop-name.files.items) at (c.loop-name.invariant.completes [] (rw c.in-None.ensures.steps.0 refl));
  refused = tt;
}

pub returns-in_err-source-clause-refused : goal.returns-in_err-source-clause-refused
returns-in_err-source-clause-refused c =
    let p = err_from_is_err_and c.from_residual.result c.from_residual.ensures.1 in
    rw (p.1, p.2) (λ at all are.
    let more = c.loop-name.invariant.left all are in
    let first = first_file _ _ _ more.0 (rw c.in-Some.ensures.steps at more.1) in
    c.in_err-source.ensures.refused at first.0 first.1)

pub loop-name-preserved : goal.loop-name-preserved
loop-name-preserved c = record {
  completes = λ more left.
      let name = c.in_ok-named.ensures.0 ∙ c.as_str-in-loop-name.ensures.value in
      let source : IsFileSource (view c.in-Some.value.now) c.in_ok-named.field-0.source = rw c.in_ok-named.ensures.1 c.in_ok-source.ensures.ok in
      let longer = c.loop-name.invariant.completes (c.in_ok-named.field-0 ∷ more) (rw c.in-Some.ensures.steps (name, source, left)) in
      rw (c.in_ok-push.ensures.items, append_assoc c.loop-name.files.items (c.in_ok-named.field-0 ∷ []) more) longer;
  left = λ all are.
      let more = c.loop-name.invariant.left all are in
      other_files _ _ _ more.0 (rw c.in-Some.ensures.steps at more.1);
}
