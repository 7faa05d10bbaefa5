-- Equal reports.
use Rattle.std.specs.Prelude.{◌≡◌}
use Rattle.kernel_events.specs.declared.report.Report.{Report}

-- the same was written, and the same files are left
abbrev pub LeftTheSame : {A B : _} → Report A → Report B → Type 0
LeftTheSame left right = (left.out.items ≡ right.out.items) × (left.diag.items ≡ right.diag.items) × (left.files ≡ right.files)

-- the run came as far, and the same was full
abbrev pub EndedTheSame : {A B : _} → Report A → Report B → Type 0
EndedTheSame left right = (left.full ≡ right.full) × (left.finished ≡ right.finished)

-- the same events happened
abbrev pub WentTheSame : {A B : _} → Report A → Report B → Type 0
WentTheSame left right = (left.schedule ≡ right.schedule) × (left.by_hart ≡ right.by_hart)

-- the two reports are equal
abbrev pub AreSame : {A B : _} → Report A → Report B → Type 0
AreSame left right = LeftTheSame left right × EndedTheSame left right × WentTheSame left right
