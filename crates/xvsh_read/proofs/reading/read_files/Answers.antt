use Rattle.std.proofs.Common.{[], refl, sym, ◌∙◌, subst, arith, get_or}
use Rattle.std.specs.Borrow.{Bor}
use Rattle.xvsh_read.specs.Path.{Path, place_of}
use Rattle.xvsh_read.specs.Reading.{Agree, ArePut, none_put, IsFileFault}
use Rattle.xvsh_read.proofs.Faults.{at_fault}
use Rattle.xvsh_read.proofs.Putting.{put_more, stopped}
use Rattle.xvsh_read.proofs.reading.read_files.Goals as goal

pub loop-path-init : goal.loop-path-init
loop-path-init g c = record {
  put = subst (ArePut (g.H.Host.file c.args.host.now) []) (sym c.new-given.ensures) none_put;
  input_stays = refl;
  files_stay = refl;
}

pub returns-in_err-add_file-clause-fault : goal.returns-in_err-add_file-clause-fault
returns-in_err-add_file-clause-fault g c =
    let i = c.loop-path.path-index in
    let d : Bor Path = record { ref_ptr = (0, 0); now = [] } in
    let fault = c.in_err-add_file.field-0.0 in
    at_fault c.from_residual.result _ _ c.from_residual.ensures.1 (stopped (g.H.Host.file c.args.host.now) c.args.paths.now i d (omega arith) c.loop-path.given c.loop-path.invariant.put fault
    (subst (λ file. IsFileFault file c.loop-path.given (get_or c.args.paths.now i d).now fault) c.loop-path.invariant.files_stay c.in_err-add_file.ensures.fault))

pub loop-path-preserved : goal.loop-path-preserved
loop-path-preserved g c =
    let put = c.in_ok-add_file.ensures.put in
    let i = c.loop-path.path-index in
    let d : Bor Path = record { ref_ptr = (0, 0); now = [] } in
    record {
      put = put_more (g.H.Host.file c.args.host.now) c.args.paths.now i d (omega arith) c.loop-path.given c.loop-path.invariant.put c.add_file.new.given put.0 put.1 put.2 put.3 (subst (λ file. Agree (file (place_of (get_or c.args.paths.now i d).now)) put.1) c.loop-path.invariant.files_stay put.4) put.5;
      input_stays = c.add_file.ensures.stays.0 ∙ c.loop-path.invariant.input_stays;
      files_stay = c.add_file.ensures.stays.1 ∙ c.loop-path.invariant.files_stay;
    }
