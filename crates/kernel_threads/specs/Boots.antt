-- The start of a kernel as a tree of numbers, by which a type can name it.
use Rattle.std.specs.Prelude.{ℕ, List, Option, refl}
use Rattle.std.specs.Coded.{Coded, code_by, coded×, coded_list, coded_option, coded_ℕ}
use base.Stored.{Gv}
use Rattle.fd_table.specs.Entries.{Entries}
use Rattle.mem_files.specs.Name.{Name, Bytes}
use Rattle.proc_table.specs.Slots.{Table}
use Rattle.kernel_model.specs.declared.events.Full.{Full}
use Rattle.kernel_model.specs.KernelState.{KernelState}
use Rattle.kernel_model.specs.Pipes.{Pipes}
use Rattle.kernel_threads.specs.Codes.{bytes_code, entry_code, pipe_code, process_code, full_code}

-- by a code of the machines' states
pub kernel_code : {S : Type 0} → Coded S → Coded (KernelState S)
kernel_code {S} code =
    code_by (Table S × (Entries × (Pipes × (List (Name × Bytes) × (Bytes × (Bytes × (Bytes × (ℕ × Option Full))))))))
    (coded× (coded_list (coded_option (process_code code))) (coded× (coded_list (coded_option entry_code)) (coded× (coded_list (coded× coded_ℕ pipe_code)) (coded× (coded_list (coded× bytes_code bytes_code)) (coded× bytes_code (coded× bytes_code (coded× bytes_code (coded× coded_ℕ (coded_option full_code)))))))))
    (λ k. (k.table, (k.entries, (k.pipes, (k.files, (k.input, (k.out, (k.diag, (k.events, k.full)))))))))
    (λ p. record { table = p.0; entries = p.1.0; pipes = p.1.1.0; files = p.1.1.1.0; input = p.1.1.1.1.0; out = p.1.1.1.1.1.0; diag = p.1.1.1.1.1.1.0; events = p.1.1.1.1.1.1.1.0; full = p.1.1.1.1.1.1.1.1 }) (λ _. refl)

-- different starts have different numbers
abbrev pub number_of : {S : Type 0} → Coded S → KernelState S → Gv
number_of code k = (kernel_code code).code k
