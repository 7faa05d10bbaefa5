use Rattle.std.proofs.Common.{◌↔◌, map}
use Rattle.toml.specs.View.{members_view}
use Rattle.suite_file.specs.Entries.{HasOnlyKeys}
use Rattle.suite_file.proofs.keys.unknown.Given as goal

-- what is left has only known keys exactly where all has
abbrev pub invariant-loop-key : goal.invariant-loop-key
invariant-loop-key l = HasOnlyKeys (map (λ one. one.now) l.known) (members_view l.key-iterator) ↔ HasOnlyKeys (map (λ one. one.now) l.known) (members_view l.table.entries)
