-- Which descriptors hold the ends of pipes.
use Rattle.std.specs.Prelude.{ℕ, Option, Some, None, option_map}
use Rattle.fd_table.specs.declared.names.Object.{Object}
use Rattle.fd_table.specs.declared.names.Object.TheVariants.{Input, Out, Diag, File, PipeRead, PipeWrite}
use Rattle.fd_table.specs.Descriptors.{entry_of}
use Rattle.kernel_model.specs.KernelState.{KernelState, fds_at, file_at}
use Rattle.run_trace.specs.declared.holders.End.{End}
use Rattle.run_trace.specs.declared.holders.End.TheVariants.{Read, Write}

-- what a descriptor of the process has open, if it is open
abbrev pub object_at : {S : Type 0} → KernelState S → ℕ → ℕ → Option Object
object_at k pid fd = option_map (λ file. file.object) (file_at k.entries (entry_of (fds_at k pid) fd))

-- the pipe of which an object is an end, and which end, if it is one
abbrev pub end_by : Object → Option (ℕ × End)
end_by Input = None
end_by Out = None
end_by Diag = None
end_by (File name mode) = None
end_by (PipeRead pipe) = Some (pipe, Read)
end_by (PipeWrite pipe) = Some (pipe, Write)
