-- After the schedule was read a script begins as before it: standard input is as it was, or neither the script's nor the
-- script.
use Rattle.std.proofs.Common.{◌≡◌, ◌≢◌, Bool, true, false, List, Option, codes, if◌then◌else◌, refl, sym, ◌∙◌, ap, subst}
use Rattle.std.specs.Prelude.{◌&&◌}
use Rattle.std.specs.Borrow.{Bor}
use Rattle.std.specs.Str.{bytes_eq}
use Rattle.std.proofs.lemmas.Bool.{false≢true}
use Rattle.std.proofs.lemmas.Slice.Eq.{bytes_eq-Decides}
use Rattle.mem_files.specs.Name.{Name, Bytes}
use Rattle.script_load.specs.Line.{ScriptLine}
use Rattle.xvsh_read.specs.declared.fault.Fault.{Fault}
use Rattle.xvsh_read.specs.Path.{Path}
use Rattle.xvsh_read.specs.Reading.{max_input, Agree, told_at, IsReadFault}
use Rattle.xvsh_read.specs.Starting.{AreLinesAt, IsScriptAtFault, unread_script, bad_script, IsInputOf, Starts, IsStartFault, no_script, no_file, no_input}

module _ (input later : Option Bytes) (file : Path → Option Bytes) (script : Path) (is_taken : Bool) (stays : is_taken ≡ false → later ≡ input) (apart : is_taken ≡ true → bytes_eq script (codes "-") ≡ false) where
  chosen : (taken is_input : Bool) → (taken ≡ false → later ≡ input) → (taken ≡ true → is_input ≡ false) → (if is_input then later else file script) ≡ (if is_input then input else file script)
  chosen false is_input same other = ap (λ told. if is_input then told else file script) (same (λ _. false))
  chosen true false same other = refl
  chosen true true same other = absurd (false≢true (sym (other (λ _. true))))

  same_told : told_at later file script ≡ told_at input file script
  same_told = chosen is_taken (bytes_eq script (codes "-")) stays apart

  lines_moved : (lines : List ScriptLine) → AreLinesAt later file script lines → AreLinesAt input file script lines
  lines_moved lines at = record { bytes = at.bytes; own = subst (λ told. Agree told at.bytes) same_told at.own; cut = at.cut }

  input_moved : (taken : Bool) → (taken ≡ false → later ≡ input) → (stdin : Bytes) → IsInputOf later file taken script stdin → IsInputOf input file taken script stdin
  input_moved true same stdin own = own
  input_moved false same stdin own = (own.0, λ other. subst (λ told. Agree told stdin) (same (λ _. false)) (own.1 other))

  pub starts_moved : (paths : List (Bor Path)) (lines : List ScriptLine) (given : List (Name × Bytes)) (stdin : Bytes) → Starts later file is_taken script paths lines given stdin → Starts input file is_taken script paths lines given stdin
  starts_moved paths lines given stdin starts = record {
    loaded = lines_moved lines starts.loaded;
    put = starts.put;
    are = starts.are;
    own = input_moved is_taken stays stdin starts.own;
  }

  script_fault_moved : (fault : Fault) → IsScriptAtFault later file script fault → IsScriptAtFault input file script fault
  script_fault_moved fault (unread_script why) = unread_script (subst (λ told. IsReadFault max_input told script fault) same_told why)
  script_fault_moved fault (bad_script bytes own why) = bad_script bytes (subst (λ told. Agree told bytes) same_told own) why

  pub fault_moved : (paths : List (Bor Path)) (fault : Fault) → IsStartFault later file is_taken script paths fault → IsStartFault input file is_taken script paths fault
  fault_moved paths fault (no_script why) = no_script (script_fault_moved fault why)
  fault_moved paths fault (no_file lines at why) = no_file lines (lines_moved lines at) why
  fault_moved paths fault (no_input lines given at put free other why) = no_input lines given (lines_moved lines at) put free other (subst (λ told. IsReadFault max_input told (codes "-") fault) (stays free) why)

pub both : (a b : Bool) → (a && b) ≡ true → (a ≡ true) × (b ≡ true)
both true b is = (λ _. true, is)
both false b is = absurd (false≢true is)

only_one : (a b : Bool) → (a && b) ≡ false → a ≡ true → b ≡ false
only_one true b is first = is
only_one false b is first = absurd (false≢true first)

module _ (input later : Option Bytes) (file file' : Path → Option Bytes) (schedule script : Path) (taken : Bool) (tests : taken ≡ bytes_eq schedule (codes "-")) (same : file' ≡ file) (stays : schedule ≢ codes "-" → later ≡ input) (one : (bytes_eq schedule (codes "-") && bytes_eq script (codes "-")) ≡ false) where
  kept : bytes_eq schedule (codes "-") ≡ false → later ≡ input
  kept other = stays (λ is. false≢true (sym other ∙ (bytes_eq-Decides schedule (codes "-")).1 is))

  pub begins : (paths : List (Bor Path)) (lines : List ScriptLine) (given : List (Name × Bytes)) (stdin : Bytes) → Starts later file' taken script paths lines given stdin → Starts input file (bytes_eq schedule (codes "-")) script paths lines given stdin
  begins paths lines given stdin starts =
      starts_moved input later file script (bytes_eq schedule (codes "-")) kept (only_one (bytes_eq schedule (codes "-")) (bytes_eq script (codes "-")) one) paths lines given stdin
      (subst (λ t. Starts later file t script paths lines given stdin) tests (subst (λ f. Starts later f taken script paths lines given stdin) same starts))

  pub begin_fault : (paths : List (Bor Path)) (fault : Fault) → IsStartFault later file' taken script paths fault → IsStartFault input file (bytes_eq schedule (codes "-")) script paths fault
  begin_fault paths fault why =
      fault_moved input later file script (bytes_eq schedule (codes "-")) kept (only_one (bytes_eq schedule (codes "-")) (bytes_eq script (codes "-")) one) paths fault
      (subst (λ t. IsStartFault later file t script paths fault) tests (subst (λ f. IsStartFault later f taken script paths fault) same why))
