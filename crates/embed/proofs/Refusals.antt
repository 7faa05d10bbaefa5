-- Why nothing is reported of what a run of a task begins with, as of the task.
use Rattle.std.proofs.Common.{◌≡◌, List, inl, inr, subst}
use Rattle.std.specs.Prelude.{◌⊎◌}
use Rattle.mem_files.specs.Name.{Name, Bytes}
use Rattle.script_load.specs.declared.profile.Profile.{Profile}
use Rattle.script_load.specs.Line.{ScriptLine}
use Rattle.embed.specs.declared.task.Task.{Task}
use Rattle.embed.specs.declared.fault.EmbedFault.{EmbedFault}
use Rattle.embed.specs.Profiles.{profile_by}
use Rattle.embed.specs.Starting.{Starts, bad_script}
use Rattle.embed.specs.Tells.{IsNotesFault, IsReasonsFault, IsWhysFault, no_notes, no_start, not_told, no_reasons}

unnoted : (task : Task) (lines : List ScriptLine) (given : List (Name × Bytes)) (fault : EmbedFault) → Starts task lines given → IsNotesFault task.script.now fault → IsWhysFault task fault
unnoted task lines given _ starts (no_notes fault is) = not_told (no_start (bad_script fault starts.short starts.short_input is))

pub refused : (task : Task) (lines : List ScriptLine) (given : List (Name × Bytes)) (profile : Profile) (fault : EmbedFault) → Starts task lines given → profile ≡ profile_by task.appends →
    IsNotesFault task.script.now fault ⊎ IsReasonsFault profile lines task.stdin.now given fault → IsWhysFault task fault
refused task lines given profile fault starts same (inl is) = unnoted task lines given fault starts is
refused task lines given profile fault starts same (inr is) = no_reasons lines given starts (subst (λ p. IsReasonsFault p lines task.stdin.now given fault) same is)
