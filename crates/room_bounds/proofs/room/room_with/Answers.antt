use Rattle.std.proofs.Common.{◌≡◌, ◌+◌, length, refl, subst, arith}
use Rattle.mem_files.specs.Files.{files as map_of}
use Rattle.meaning_model.specs.Meaning.{script_tree}
use Rattle.room_model.specs.Entries.{most_entries}
use Rattle.room_model.specs.Files.{names_written}
use Rattle.tree_model.specs.Bound.{most_bytes}
use Rattle.room_bounds.specs.Capped.{IsCapped}
use Rattle.room_bounds.proofs.Rooms.{largest_with}
use Rattle.room_bounds.proofs.room.room_with.Goals as goal

pub returns : goal.returns
returns c script input files lines given =
    let needs = lines.needs in
    let three : 3 + 0 + most_entries (script_tree script) ≡ 3 + most_entries (script_tree script) = omega arith in
    let count = subst (λ n. IsCapped n c.capped.result) given.count c.capped.ensures in
    let all : 0 + length files + length (names_written (script_tree script)) ≡ length files + length (names_written (script_tree script)) = omega arith in
    record {
      processes = c.one_more.ensures _ needs.processes;
      entries = subst (λ n. IsCapped n c.sum_with.result) three (c.sum_with.ensures 0 _ (refl, omega arith) needs.entries);
      descriptors = needs.descriptors;
      files = subst (λ n. IsCapped n c.sum_with-2.result) all (c.sum_with-2.ensures _ _ count needs.names);
      size = (c.args.given.largest + most_bytes script input (map_of files), largest_with script input files c.args.given.largest given.largest, c.size_with.ensures _ lines.written);
    }
