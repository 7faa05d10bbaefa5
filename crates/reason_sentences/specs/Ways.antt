-- What mends each reason why a script isn't settled, in a sentence (own).
use Rattle.std.specs.Prelude.{ℕ, List, ◌++◌, flat_map, codes}
use Rattle.std.specs.Fmt.{decimal}
use Rattle.mem_files.specs.Name.{Bytes}
use Rattle.conflict_check.specs.declared.conflict.ClashKind.{ClashKind}
use Rattle.conflict_check.specs.declared.conflict.ClashKind.TheVariants.{PipeSides, Enclosing}
use Rattle.plain_run.specs.declared.reason.Reason.{Reason}
use Rattle.plain_run.specs.Reasons.{line_at}
use Rattle.plain_run.specs.declared.reason.Reason.TheVariants.{Background, Clash, CutPipe, LooseInput}

abbrev pub clash_way : ClashKind → Bytes
clash_way PipeSides = codes "put the two sides of the pipe on two lines, with another file between them: LEFT > OTHER, and then RIGHT < OTHER\n"
clash_way Enclosing = codes "write to another file, then cat it on the next line: COMMAND > OTHER, and then cat OTHER > FILE\n"

abbrev pub cut_way : Bytes
cut_way = codes "put the two sides of the pipe on two lines, with a file between them, so that the left side runs to its end: LEFT > OTHER, and then RIGHT < OTHER\n"

abbrev pub way_of : {A : _} → Reason A → Bytes
way_of (Background line) = codes "put ; in the place of &, or leave & out and put what comes next on a line of its own\n"
way_of (Clash line kind name) = clash_way kind
way_of (CutPipe line name again) = cut_way
way_of (LooseInput line user) = cut_way

-- `line N: to settle it: SENTENCE` and LF
abbrev pub way_text : {A : _} → Reason A → Bytes
way_text reason = (codes "line " ++ (decimal (line_at reason) ++ codes ": to settle it: ")) ++ way_of reason

-- of all reasons, one after the other
abbrev pub ways_text : {A : _} → List (Reason A) → Bytes
ways_text reasons = flat_map way_text reasons
