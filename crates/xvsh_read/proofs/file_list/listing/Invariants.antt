use Rattle.std.proofs.Common.{◌≡◌, ◌++◌, drop}
use Rattle.prog_parts.specs.NameSets.{among}
use Rattle.xvsh_read.specs.Listing.{list_text}
use Rattle.xvsh_read.proofs.file_list.listing.Given as goal

-- the files that are left complete the text
abbrev pub invariant-loop-i : goal.invariant-loop-i
invariant-loop-i l = l.text.items ++ list_text (among l.soft) (drop l.i l.files) ≡ list_text (among l.soft) l.files
