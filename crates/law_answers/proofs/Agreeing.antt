-- Runs of one settled script on what one host states, by processes or by meaning, print the same.
use Rattle.std.proofs.Common.{◌≡◌, ◌≢◌, true, false, List, codes, Option, None, refl, sym, ◌∙◌, ap, subst}
use Rattle.std.specs.Borrow.{Bor}
use Rattle.mem_files.specs.Name.{Name, Bytes}
use Rattle.mem_files.specs.Files.{files}
use Rattle.script_load.specs.declared.profile.Profile.{Profile}
use Rattle.script_load.specs.Line.{ScriptLine}
use Rattle.meaning_model.specs.Meaning.{script_meaning}
use Rattle.meaning_model.specs.Settled.{IsSettledScript}
use Rattle.kernel_model.specs.declared.events.Event.{Event}
use Rattle.run_model.specs.ScriptRun.{script_kernel}
use Rattle.xvsh_read.specs.Path.{Path}
use Rattle.xvsh_read.specs.Starting.{Starts}
use Rattle.xvsh_runs.specs.Lists.{Prints}
use Rattle.xvsh_ends.specs.Ends.{How, on_harts, by_schedule, RanBy}
use Rattle.xvsh_plain.specs.Running.{RanPlain}
use Rattle.law_answers.specs.Told.{IsTold, IsSettledAt}
use Rattle.law_answers.specs.Written.{no_lists}
use Rattle.law_answers.proofs.Meant.{means}
use Rattle.law_answers.proofs.Readings.{as_begun, no_input}

module _ (input : Option Bytes) (file : Path → Option Bytes) (profile : Profile) (script : Path) (paths : List (Bor Path)) where
  -- the text is the meaning's output, of what was read
  record IsMeant (text : Bytes) : Type 0 where
    pub lines : List ScriptLine
    pub given : List (Name × Bytes)
    pub stdin : Bytes
    pub starts : Starts input file false script paths lines given stdin
    pub is : text ≡ (script_meaning profile lines stdin (files given)).out

  prints_meant : IsSettledAt input file profile script paths → (lines : List ScriptLine) (given : List (Name × Bytes)) (stdin : Bytes) (events : List Event) (text diag : Bytes) → Starts input file false script paths lines given stdin → Prints (script_kernel profile lines stdin given) events no_lists None text diag → IsMeant text
  prints_meant settled lines given stdin events text diag starts gave = record {
    lines = lines;
    given = given;
    stdin = stdin;
    starts = starts;
    is = (means profile lines stdin given (settled lines given stdin starts) events no_lists text diag gave input file false script paths starts).alone refl;
  }

  run_meant : IsSettledAt input file profile script paths → (how : How) (text diag : Bytes) → how ≢ by_schedule (codes "-") → RanBy input file how profile script paths no_lists None text diag → IsMeant text
  run_meant settled (on_harts harts turns) text diag apart gave = prints_meant settled gave.lines gave.given gave.stdin gave.on.events text diag gave.starts gave.on.prints
  run_meant settled (by_schedule schedule) text diag apart gave =
      let own = no_input schedule (λ same. apart (ap by_schedule same)) in
      prints_meant settled gave.lines gave.given gave.stdin gave.events text diag (subst (λ taken. Starts input file taken script paths gave.lines gave.given gave.stdin) own gave.starts) gave.prints

  module _ (told : IsTold input file script paths) where
    same_meant : (one two : Bytes) → IsMeant one → IsMeant two → one ≡ two
    same_meant one two first second =
        first.is ∙ sym (as_begun input file script paths told (λ l g s. two ≡ (script_meaning profile l s (files g)).out) second.lines first.lines second.given first.given second.stdin first.stdin second.starts first.starts second.is)

    -- two runs by processes
    pub runs_agree : IsSettledAt input file profile script paths → (how other : How) (one two diag report : Bytes) → how ≢ by_schedule (codes "-") → other ≢ by_schedule (codes "-") → RanBy input file how profile script paths no_lists None one diag → RanBy input file other profile script paths no_lists None two report → one ≡ two
    runs_agree settled how other one two diag report apart aside gave again =
        same_meant one two (run_meant settled how one diag apart gave) (run_meant settled other two report aside again)

    -- one by processes, and one by meaning that finds the script settled
    pub agrees : (how : How) (one two diag : Bytes) → how ≢ by_schedule (codes "-") → RanBy input file how profile script paths no_lists None one diag → RanPlain input file profile script paths false true two → one ≡ two
    agrees how one two diag apart gave plain =
        let settled : IsSettledAt input file profile script paths = λ lines given stdin starts. as_begun input file script paths told (λ l g s. IsSettledScript profile l s (files g)) plain.lines lines plain.given given plain.stdin stdin plain.starts starts (plain.settled.0 refl) in
        let meant : IsMeant two = record { lines = plain.lines; given = plain.given; stdin = plain.stdin; starts = plain.starts; is = plain.gives } in
        same_meant one two (run_meant settled how one diag apart gave) meant
