-- Where the host states all that is read, two runs begin with the same.
use Rattle.std.proofs.Common.{◌≡◌, ◌≢◌, Bool, true, false, List, codes, Option, refl, sym, ◌∙◌, subst}
use Rattle.std.specs.Borrow.{Bor}
use Rattle.std.specs.Str.{bytes_eq}
use Rattle.std.proofs.lemmas.Bool.{false≢true}
use Rattle.std.proofs.lemmas.Slice.Eq.{bytes_eq-Decides}
use Rattle.mem_files.specs.Name.{Name, Bytes}
use Rattle.script_load.specs.Line.{ScriptLine}
use Rattle.script_load.specs.Script.{IsScript}
use Rattle.script_load.proofs.OneScript.{one_script}
use Rattle.xvsh_read.specs.Path.{Path}
use Rattle.xvsh_read.specs.Reading.{told_at}
use Rattle.xvsh_read.specs.Starting.{AreLinesAt, IsInputOf, Starts}
use Rattle.law_answers.specs.Told.{IsTold}
use Rattle.law_answers.proofs.Puts.{one_told, put_alike}

-- a path that isn't standard input's isn't taken for it
pub no_input : (path : Path) → path ≢ codes "-" → bytes_eq path (codes "-") ≡ false
no_input path other = by (bytes_eq path (codes "-")) refl
  where
    by : (b : Bool) → bytes_eq path (codes "-") ≡ b → b ≡ false
    by true is = absurd (other ((bytes_eq-Decides path (codes "-")).0 is))
    by false is = refl

module _ (input : Option Bytes) (file : Path → Option Bytes) (script : Path) (paths : List (Bor Path)) (told : IsTold input file script paths) where
  same_lines : (lines others : List ScriptLine) → AreLinesAt input file script lines → AreLinesAt input file script others → lines ≡ others
  same_lines lines others first second =
      let bytes : first.bytes ≡ second.bytes = one_told (told_at input file script) first.bytes second.bytes told.of_script first.own second.own in
      one_script second.bytes lines others (subst (λ b. IsScript b lines) bytes first.cut) second.cut

  same_input : (stdin other : Bytes) → IsInputOf input file false script stdin → IsInputOf input file false script other → stdin ≡ other
  same_input stdin other first second = by (bytes_eq script (codes "-")) refl
    where
      by : (b : Bool) → bytes_eq script (codes "-") ≡ b → stdin ≡ other
      by true is =
          let itself = (bytes_eq-Decides script (codes "-")).0 is in
          first.0 itself ∙ sym (second.0 itself)
      by false is =
          let apart : script ≢ codes "-" = λ same. false≢true (sym is ∙ (bytes_eq-Decides script (codes "-")).1 same) in
          one_told input stdin other told.of_input (first.1 apart) (second.1 apart)

  -- what holds of what one run begins with holds of what another does
  pub as_begun : (P : List ScriptLine → List (Name × Bytes) → Bytes → Type 0) (lines others : List ScriptLine) (given held : List (Name × Bytes)) (stdin read : Bytes) → Starts input file false script paths lines given stdin → Starts input file false script paths others held read → P lines given stdin → P others held read
  as_begun P lines others given held stdin read first second holds =
      subst (P others held) (same_input stdin read first.own second.own)
      (subst (λ g. P others g stdin) (put_alike file paths paths given held refl told.of_paths first.put second.put)
      (subst (λ l. P l given stdin) (same_lines lines others first.loaded second.loaded) holds))
