-- A strict run that ends with status 0 wrote the meaning of a settled script, and two of them wrote the same.
use Rattle.std.proofs.Common.{◌≡◌, ℕ, true, false, List, Option, None, refl, sym, ◌∙◌, subst}
use Rattle.std.specs.Borrow.{Bor}
use Rattle.std.specs.Io.KnownBytes.{Appends}
use Rattle.mem_files.specs.Name.{Bytes}
use Rattle.mem_files.specs.Files.{files}
use Rattle.script_load.specs.declared.profile.Profile.{Profile}
use Rattle.meaning_model.specs.Meaning.{script_meaning}
use Rattle.meaning_model.specs.Settled.{IsSettledScript}
use Rattle.xvsh_read.specs.Path.{Path}
use Rattle.xvsh_runs.specs.declared.report.Lists.{Lists}
use Rattle.xvsh_ends.specs.Ends.{Ends, asks_strict}
use Rattle.xvsh_ends.specs.Strictly.{RanStrictly}
use Rattle.law_answers.specs.Told.{IsTold}
use Rattle.law_answers.specs.Written.{AddsTheSame, IsMeaningAt, no_lists}
use Rattle.law_answers.proofs.Meant.{means}
use Rattle.law_answers.proofs.Readings.{as_begun}
use Rattle.law_answers.proofs.Statuses.{ended_well}

module _ (input : Option Bytes) (file : Path → Option Bytes) (profile : Profile) (script : Path) (paths : List (Bor Path)) where
  run_means : (harts : ℕ) (turns : Option ℕ) (lists : Lists) (why text diag : Bytes) → RanStrictly input file profile script paths harts turns lists None true why text diag → IsMeaningAt input file profile script paths lists text
  run_means harts turns lists why text diag gave =
      let run = gave.ran in
      let settled : IsSettledScript profile run.lines run.stdin (files run.given) = gave.settled.0 refl in
      record {
        lines = run.lines;
        given = run.given;
        stdin = run.stdin;
        starts = run.starts;
        settled = settled;
        events = run.on.events;
        prints = means profile run.lines run.stdin run.given settled run.on.events lists text diag run.on.prints input file false script paths run.starts;
      }

  -- the meaning was added to standard output
  abbrev pub WritesMeaning : Lists → Option Bytes → Option Bytes → Type 0
  WritesMeaning lists out out' = (text : Bytes) × IsMeaningAt input file profile script paths lists text × Appends out out' text

  pub strict_means : (harts : ℕ) (turns : Option ℕ) (lists : Lists) (out out' err err' : Option Bytes) → Ends input file out out' err err' (asks_strict profile script paths harts turns lists) 0 → WritesMeaning lists out out'
  strict_means harts turns lists out out' err err' ends =
      let well = ended_well input file out out' err err' (asks_strict profile script paths harts turns lists) ends in
      (well.text, run_means harts turns lists well.did.0 well.text well.did.1 well.did.2, well.printed)

  -- where the host states all that is read, both read the same
  pub meant_alike : IsTold input file script paths → (out out' old new : Option Bytes) → WritesMeaning no_lists out out' → WritesMeaning no_lists old new → AddsTheSame out out' old new
  meant_alike told out out' old new (one, first, printed) (two, second, again) =
      let same = first.prints.alone refl ∙ sym (as_begun input file script paths told (λ l g s. two ≡ (script_meaning profile l s (files g)).out) second.lines first.lines second.given first.given second.stdin first.stdin second.starts first.starts (second.prints.alone refl)) in
      (two, subst (Appends out out') same printed, again)
