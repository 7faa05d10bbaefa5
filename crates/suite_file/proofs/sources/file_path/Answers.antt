use Rattle.std.proofs.Common.{rules, ◌≡◌, ◌∙◌, Some, None, codes}
use Rattle.std.proofs.lemmas.Option.{none-some}
use Rattle.toml.specs.Data.{get_member}
use Rattle.toml.specs.View.{members_view, view}
use Rattle.toml.proofs.Views.{table_get}
use Rattle.suite_file.proofs.Data.{file_alone, file_at, file_text}
use Rattle.suite_file.proofs.sources.file_path.Goals as goal

pub returns-then-len-ne1-clause-none : goal.returns-then-len-ne1-clause-none
returns-then-len-ne1-clause-none c path same = c.if-len-ne1.true (c.len.ensures.len ∙ file_alone c.args.inner.now.entries path same)

pub returns-in-Some : goal.returns-in-Some
returns-in-Some c =
    let at : Some (view c.in-Some.found.now) ≡ get_member (codes "file") (members_view c.args.inner.now.entries) = rw c.in-Some.is at (table_get c.get.result (codes "file") c.args.inner.now.entries c.get.ensures.value) in
    let told = file_text c.args.inner.now.entries (view c.in-Some.found.now) c.as_str.result (rw (← c.len.ensures.len) (search rules)) at c.as_str.ensures in
    record { some = told.0; none = told.1 }

pub returns-in-None-clause-none : goal.returns-in-None-clause-none
returns-in-None-clause-none c path same =
    let at : None ≡ get_member (codes "file") (members_view c.args.inner.now.entries) = rw c.in-None.is at (table_get c.get.result (codes "file") c.args.inner.now.entries c.get.ensures.value) in
    none-some _ (at ∙ file_at c.args.inner.now.entries path same)
