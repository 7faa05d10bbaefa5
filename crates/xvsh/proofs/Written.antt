-- With which statuses nothing is printed.
use Rattle.std.proofs.Common.{◌≡◌, ◌≢◌, ℕ, Option, refl}
use Rattle.mem_files.specs.Name.{Bytes}
use Rattle.xvsh_ends.specs.Ends.{Asked, Writes, whole, out_stopped, err_stopped}
use Rattle.xvsh_ends.specs.Requests.{UnlessPrinted}

-- a status but 1 is the one that is due
pub status_due : (text told : Bytes) (status : ℕ) (out out' err err' : Option Bytes) (result : ℕ) → Writes text told status out out' err err' result → result ≢ 1 → result ≡ status
status_due text told status out out' err err' result (whole printed reported) other = refl
status_due text told status out out' err err' result (out_stopped part kept) other = absurd (other refl)
status_due text told status out out' err err' result (err_stopped printed part) other = absurd (other refl)
