use Rattle.std.proofs.Common.{◌≡◌, take}
use Rattle.xvsh_read.specs.Reading.{ArePut}
use Rattle.xvsh_read.proofs.reading.read_files.Given as goal

-- the files of the paths so far were put, and what the host states stayed
abbrev pub invariant-loop-path : goal.invariant-loop-path
invariant-loop-path g l = record {
  put : ArePut (g.H.Host.file l.fn.host) (take l.path-index l.paths) l.given;
  input_stays : g.H.Host.input l.host ≡ g.H.Host.input l.fn.host;
  files_stay : g.H.Host.file l.host ≡ g.H.Host.file l.fn.host;
}
