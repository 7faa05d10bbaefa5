use Rattle.std.proofs.Common.{◌∙◌, false, codes, refl, subst}
use Rattle.script_load.specs.Line.{lines_of}
use Rattle.xvsh_read.specs.Reading.{ArePut, IsFilesFault, IsReadFault, max_input}
use Rattle.xvsh_read.specs.Starting.{bad_script, no_script, no_file, no_input}
use Rattle.xvsh_read.proofs.Faults.{at_fault}
use Rattle.xvsh_read.proofs.Begins.{input_kept, load_fault}
use Rattle.xvsh_read.proofs.prepared.prepare_read.Goals as goal

pub returns-in_err-loaded-clause-fault : goal.returns-in_err-loaded-clause-fault
returns-in_err-loaded-clause-fault g c =
    at_fault c.from_residual.result _ _ c.from_residual.ensures.1 (λ input file same stays own. no_script (bad_script c.args.bytes.now own (load_fault c.args.bytes.now c.in_err-loaded.field-0.0 c.in_err-loaded.ensures.fault)))

pub returns-in_err-files-clause-fault : goal.returns-in_err-files-clause-fault
returns-in_err-files-clause-fault g c =
    at_fault c.from_residual-in_err-files.result _ _ c.from_residual-in_err-files.ensures.1 (λ input file same stays own. no_file (lines_of c.in_ok-loaded.loaded.lines) (record { bytes = c.args.bytes.now; own = own; cut = c.in_ok-loaded.ensures.script }) (subst (λ file. IsFilesFault file c.args.source.now.files.now c.in_err-files.field-0.0) same c.in_err-files.ensures.fault))

pub returns-in_err-stdin-clause-fault : goal.returns-in_err-stdin-clause-fault
returns-in_err-stdin-clause-fault g c =
    let free = c.in_err-stdin.ensures.free in
    at_fault c.from_residual-in_err-stdin.result _ _ c.from_residual-in_err-stdin.ensures.1 (λ input file same stays own. no_input (lines_of c.in_ok-loaded.loaded.lines) c.in_ok-files.files (record { bytes = c.args.bytes.now; own = own; cut = c.in_ok-loaded.ensures.script }) (subst (λ file. ArePut file c.args.source.now.files.now c.in_ok-files.files) same c.in_ok-files.ensures.put) free.0 free.1 (subst (λ told. IsReadFault max_input told (codes "-") c.in_err-stdin.field-0.0) (c.read_files.ensures.stays.0 ∙ stays free.1) c.in_err-stdin.ensures.fault))

pub returns-clause-prepared : goal.returns-clause-prepared
returns-clause-prepared g c = λ input file same stays own. (
  record {
    loaded = record { bytes = c.args.bytes.now; own = own; cut = c.in_ok-loaded.ensures.script };
    put = subst (λ file. ArePut file c.args.source.now.files.now c.in_ok-files.files) same c.in_ok-files.ensures.put;
    are = c.are_files.ensures;
    own = input_kept input (g.H.Host.input c.read_files.new.host) file (g.H.Host.file c.read_files.new.host) c.args.source.now.script.now false c.in_ok-stdin.stdin.items (λ other. c.read_files.ensures.stays.0 ∙ stays other) c.in_ok-stdin.ensures.own;
  },
  refl,
)
