-- The kernel at its start (`userinit` of `kernel/proc.c`; that there are a shell and its three descriptors is own).
use Rattle.std.specs.Prelude.{List, [], None, replicate}
use Rattle.fd_table.specs.declared.entries.TheConstants.{ENTRIES}
use Rattle.fd_table.specs.declared.names.Object.TheVariants.{Input, Out, Diag}
use Rattle.proc_table.specs.Calls.{boot_table}
use Rattle.mem_files.specs.Name.{Name, Bytes}
use Rattle.kernel_model.specs.KernelState.{KernelState}
use Rattle.kernel_model.specs.Descriptors.{with_open}

-- init and the top shell on this input and these files, with no descriptor open
abbrev pub closed_kernel : {S : Type 0} → S → S → Bytes → List (Name × Bytes) → KernelState S
closed_kernel init shell input files =
    record {
      table = boot_table init shell;
      entries = replicate ENTRIES None;
      pipes = [];
      files = files;
      input = input;
      out = [];
      diag = [];
      events = 0;
      full = None;
    }

-- the top shell has the standard input, the standard output and the diagnostics as its descriptors 0, 1 and 2
abbrev pub boot_kernel : {S : Type 0} → S → S → Bytes → List (Name × Bytes) → KernelState S
boot_kernel init shell input files = with_open (with_open (with_open (closed_kernel init shell input files) 1 Input) 1 Out) 1 Diag
