-- What `explain` finds with files: there is nothing just where there is no note, no missing name, no lack and no reason.
use Rattle.std.proofs.Common.{◌≡◌, List, [], None, sym, ◌∙◌}
use Rattle.std.specs.Prelude.{◌↔◌, All, IsTrue, map}
use Rattle.mem_files.specs.Name.{Name, Bytes}
use Rattle.mem_files.specs.Files.{files}
use Rattle.script_load.specs.declared.profile.Profile.{Profile}
use Rattle.script_load.specs.Line.{ScriptLine}
use Rattle.script_notes.specs.Noted.{IsNoted}
use Rattle.script_notes.specs.Values.{values_of}
use Rattle.script_notes.proofs.Found.{none_found}
use Rattle.missing_names.specs.Missing.{missing_names}
use Rattle.missing_names.specs.Texts.{shown}
use Rattle.meaning_model.specs.Settled.{IsSettledScript}
use Rattle.plain_run.specs.Reasons.{IsReason}
use Rattle.xvsh_checks.specs.declared.whys.NotedWhys.{NotedWhys}
use Rattle.xvsh_checks.specs.Lacks.{IsLackNoted}
use Rattle.xvsh_checks.specs.Whys.{AreWhysOf}
use Rattle.xvsh_checks.proofs.Nothing.{nothing_left, none_mapped}

pub are_whys : (bytes : Bytes) (profile : Profile) (lines : List ScriptLine) (stdin : Bytes) (given : List (Name × Bytes)) (noted : NotedWhys) →
    IsNoted bytes (values_of noted.notes.items) → map shown noted.missing.items ≡ missing_names lines given → IsLackNoted lines noted.lack →
    All (IsReason profile lines stdin (files given)) noted.reasons.items → (noted.reasons.items ≡ []) ↔ IsSettledScript profile lines stdin (files given) →
    (IsTrue noted.is_fine ↔ ((noted.notes.items ≡ []) × (noted.missing.items ≡ []) × (noted.lack ≡ None) × (noted.reasons.items ≡ []))) →
    AreWhysOf bytes profile lines stdin given noted
are_whys bytes profile lines stdin given noted found names room each none fine =
    let notes = none_found bytes noted.notes.items found in
    record {
      notes = found;
      missing = names;
      room = room;
      reasons = each;
      fine = (
        λ is. (notes.0 (fine.0 is).0, sym names ∙ none_mapped shown noted.missing.items (fine.0 is).1, (fine.0 is).2, none.0 (fine.0 is).3),
        λ all. fine.1 (notes.1 all.0, nothing_left shown noted.missing.items (names ∙ all.1), all.2, none.1 all.3),
      );
    }
