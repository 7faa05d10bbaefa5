use Rattle.std.proofs.Common.{List, ◌++◌}
use Rattle.toml.specs.View.{members_view}
use Rattle.suite_file.specs.Entries.{AreFilesOf}
use Rattle.suite_file.specs.declared.suite.NamedSource.{NamedSource}
use Rattle.suite_file.proofs.part.Part.files_of.Given as goal

-- the files of what is left complete those of the table, and where the table has files, what is left has
abbrev pub invariant-loop-name : goal.invariant-loop-name
invariant-loop-name l = record {
  completes : (more : List NamedSource) → AreFilesOf (members_view l.name-iterator) more → AreFilesOf (members_view l.inner.entries) (l.files.items ++ more);
  left : (all : List NamedSource) → AreFilesOf (members_view l.inner.entries) all → (more : List NamedSource) × AreFilesOf (members_view l.name-iterator) more;
}
