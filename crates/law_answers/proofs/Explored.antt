-- What an exploration knows of a settled script that has room is what each run of it prints, unless memory was refused.
use Rattle.std.proofs.Common.{◌≡◌, ◌≢◌, ◌⊎◌, inl, inr, ℕ, Bool, false, List, codes, Option, Some, None, refl, sym, ◌∙◌, ap, subst}
use Rattle.std.specs.Borrow.{Bor}
use Rattle.std.specs.Global.{Global}
use Rattle.mem_files.specs.Name.{Name, Bytes}
use Rattle.mem_files.specs.Files.{files}
use Rattle.script_load.specs.declared.profile.Profile.{Profile}
use Rattle.script_load.specs.Line.{ScriptLine}
use Rattle.meaning_model.specs.Meaning.{script_meaning}
use Rattle.meaning_model.specs.Settled.{IsSettledScript}
use Rattle.plain_run.specs.declared.outcome.Plain.{Plain}
use Rattle.kernel_model.specs.declared.events.Event.{Event}
use Rattle.kernel_model.specs.declared.events.Full.{Full}
use Rattle.kernel_model.specs.declared.events.Full.TheVariants.{Memory}
use Rattle.run_model.specs.ScriptRun.{script_kernel}
use Rattle.room_model.specs.Roomy.{IsRoomyScript}
use Rattle.script_outcomes.specs.declared.finding.Found.TheVariants.{Settled}
use Rattle.xvsh_read.specs.Path.{Path}
use Rattle.xvsh_read.specs.Starting.{Starts}
use Rattle.xvsh_runs.specs.Lists.{Prints}
use Rattle.xvsh_explores.specs.Explores.{RanExplore}
use Rattle.xvsh_ends.specs.Ends.{How, on_harts, by_schedule, RanBy}
use Rattle.law_answers.specs.Told.{IsTold}
use Rattle.law_answers.specs.Unless.{PrintsUnlessRefused}
use Rattle.law_answers.specs.Written.{no_lists}
use Rattle.law_answers.proofs.Meant.{means, only_memory_was_full}
use Rattle.law_answers.proofs.Readings.{as_begun, no_input}

module _ (input : Option Bytes) (file : Path → Option Bytes) (profile : Profile) (script : Path) (paths : List (Bor Path)) (out : Bytes) where
  -- the script is settled, has room and means this output
  abbrev Means : List ScriptLine → List (Name × Bytes) → Bytes → Type 0
  Means lines given stdin = IsSettledScript profile lines stdin (files given) × IsRoomyScript lines stdin given × (out ≡ (script_meaning profile lines stdin (files given)).out)

  prints : (lines : List ScriptLine) (given : List (Name × Bytes)) (stdin : Bytes) (events : List Event) (full : Option Full) (text diag : Bytes) → Starts input file false script paths lines given stdin → Means lines given stdin
      → Prints (script_kernel profile lines stdin given) events no_lists full text diag → PrintsUnlessRefused out full text
  prints lines given stdin events full text diag starts known gave =
      by (only_memory_was_full profile lines stdin given known.0 known.1 events no_lists full text diag gave input file false script paths starts)
    where
      by : (full ≡ None) ⊎ (full ≡ Some Memory) → PrintsUnlessRefused out full text
      by (inl none) =
          let roomy = subst (λ f. Prints (script_kernel profile lines stdin given) events no_lists f text diag) none gave in
          inl (none, (means profile lines stdin given known.0 events no_lists text diag roomy input file false script paths starts).alone refl ∙ sym known.2)
      by (inr memory) = inr memory

  module _ (told : IsTold input file script paths) (lines : List ScriptLine) (given : List (Name × Bytes)) (stdin : Bytes) (starts : Starts input file false script paths lines given stdin) (known : Means lines given stdin) where
    begun : (others : List ScriptLine) (held : List (Name × Bytes)) (read : Bytes) (events : List Event) (full : Option Full) (text diag : Bytes) → Starts input file false script paths others held read
        → Prints (script_kernel profile others read held) events no_lists full text diag → PrintsUnlessRefused out full text
    begun others held read events full text diag again gave =
        prints others held read events full text diag again (as_begun input file script paths told Means lines others given held stdin read starts again known) gave

    pub each : (how : How) (full : Option Full) (text diag : Bytes) → how ≢ by_schedule (codes "-") → RanBy input file how profile script paths no_lists full text diag → PrintsUnlessRefused out full text
    each (on_harts harts turns) full text diag apart gave = begun gave.lines gave.given gave.stdin gave.on.events full text diag gave.starts gave.on.prints
    each (by_schedule schedule) full text diag apart gave =
        let own = no_input schedule (λ same. apart (ap by_schedule same)) in
        begun gave.lines gave.given gave.stdin gave.events full text diag (subst (λ taken. Starts input file taken script paths gave.lines gave.given gave.stdin) own gave.starts) gave.prints

pub known_prints : (input : Option Bytes) (file : Path → Option Bytes) (profile : Profile) (script : Path) (paths : List (Bor Path)) (states : ℕ) (all : Bool) (value : Plain Global) → IsTold input file script paths
    → (e : RanExplore input file profile script paths states all (Settled value)) → IsRoomyScript e.lines e.stdin e.given
    → (how : How) (full : Option Full) (text diag : Bytes) → how ≢ by_schedule (codes "-") → RanBy input file how profile script paths no_lists full text diag → PrintsUnlessRefused value.out full text
known_prints input file profile script paths states all value told e roomy how full text diag apart gave =
    each input file profile script paths value.out told e.lines e.given e.stdin e.starts (e.is.1.settled, roomy, e.is.1.out) how full text diag apart gave
