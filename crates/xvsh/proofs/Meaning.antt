-- What a run of standard input alone writes.
use Rattle.std.proofs.Common.{◌≡◌, ◌≢◌, ℕ, Bool, false, List, [], ◌∷◌, ◌++◌, codes, Option, Some, None, refl, subst}
use Rattle.std.specs.Borrow.{Bor}
use Rattle.std.specs.Io.KnownBytes.{Appends}
use Rattle.mem_files.specs.Name.{Name, Bytes}
use Rattle.mem_files.specs.Files.{files}
use Rattle.script_load.specs.declared.profile.Profile.TheVariants.{Xv6}
use Rattle.meaning_model.specs.Meaning.{script_meaning}
use Rattle.script_load.specs.Script.{IsScript}
use Rattle.xvsh_read.specs.Path.{Path}
use Rattle.xvsh_read.specs.Reading.{ArePut, none_put, one_put}
use Rattle.xvsh_plain.specs.Running.{RanPlain}
use Rattle.xvsh_ends.specs.Ends.{Asked, asks_plain, Due, plain_ran, no_plain, diagnosed, not_diagnosed, ran, no_run, ran_strict, no_strict, checked, no_check, counted, not_counted, room_told, no_room_told, explained, not_explained, whys_told, no_whys_told, fixed, unfixed, no_fix, explored, not_explored, traced, untraced, played, unplayed, witnessed, unwitnessed, paired, unpaired, filed, unfiled, lined, valued, unvalued, drawn, undrawn, unread, helped, misused, no_memory, Writes, whole, out_stopped, err_stopped, Ends}
use Rattle.xvsh_ends.proofs.Dues.{some_status}
use Rattle.xvsh.specs.Drive.{WritesMeaning}

cons_at_end≢nil : (before : List (Bor Path)) (path : Bor Path) → before ++ path ∷ [] ≢ []
cons_at_end≢nil [] path is = cc
cons_at_end≢nil (first ∷ before) path is = cc

-- where no path is given, no file is
no_file_given : (file : Path → Option Bytes) (paths : List (Bor Path)) (given : List (Name × Bytes)) → paths ≡ [] → ArePut file paths given → given ≡ []
no_file_given file paths given none none_put = refl
no_file_given file paths given none (one_put {paths = before} path name bytes put is fresh own) = absurd (cons_at_end≢nil before path none)

-- a run of the script of standard input on no files prints the meaning of what the host states of it
pub writes_meaning : (input : Option Bytes) (file : Path → Option Bytes) (is_settled : Bool) (text : Bytes) (old new : Option (List ℕ)) → RanPlain input file Xv6 (codes "-") [] false is_settled text → Appends old new text → WritesMeaning input old new
writes_meaning None file is_settled text old new run wrote = tt
writes_meaning (Some told) file is_settled text old new run wrote =
    let stdin : run.stdin ≡ [] = run.starts.own.0 refl in
    let none : run.given ≡ [] = no_file_given file [] run.given refl run.starts.put in (
      run.lines,
      subst (λ b. IsScript b run.lines) run.starts.loaded.own run.starts.loaded.cut,
      subst (λ given. Appends old new (script_meaning Xv6 run.lines [] (files given)).out) none (subst (λ s. Appends old new (script_meaning Xv6 run.lines s (files run.given)).out) stdin (subst (Appends old new) run.gives wrote)),
    )

module _ (input : Option Bytes) (file : Path → Option Bytes) where
  -- what is due without words with status 0 is a run's
  ran_of : (request : Asked) (text told : Bytes) (status : ℕ) → Due input file request text told status → request ≡ asks_plain Xv6 (codes "-") [] false false → status ≡ 0 → (is_settled : Bool) × RanPlain input file Xv6 (codes "-") [] false is_settled text
  ran_of request text told status (plain_ran {profile = profile} {script = script} {paths = paths} {lists = lists} is_settled why gave told_why) is zero =
      let xv6 : profile ≡ Xv6 = cc in
      let own : script ≡ codes "-" = cc in
      let none : paths ≡ [] = cc in
      let unlisted : lists ≡ false = cc in (
        is_settled,
        subst (λ l. RanPlain input file Xv6 (codes "-") [] l is_settled text) unlisted (subst (λ ps. RanPlain input file Xv6 (codes "-") ps lists is_settled text) none (subst (λ s. RanPlain input file Xv6 s paths lists is_settled text) own (subst (λ p. RanPlain input file p script paths lists is_settled text) xv6 gave))),
      )
  ran_of request text told status (no_plain fault why) is zero = absurd (some_status fault zero)
  ran_of request text told status (diagnosed is_settled why known gave told_why is_known) is zero = cc
  ran_of request text told status (not_diagnosed fault why) is zero = cc
  ran_of request text told status (ran diag full gave) is zero = cc
  ran_of request text told status (no_run fault why) is zero = cc
  ran_of request text told status (ran_strict diag why is_settled full gave) is zero = cc
  ran_of request text told status (no_strict fault why) is zero = cc
  ran_of request text told status (checked is_harmless gave) is zero = cc
  ran_of request text told status (no_check fault why) is zero = cc
  ran_of request text told status (counted is_harmless gave) is zero = cc
  ran_of request text told status (not_counted fault why) is zero = cc
  ran_of request text told status (room_told is_fine gave) is zero = cc
  ran_of request text told status (no_room_told fault why) is zero = cc
  ran_of request text told status (explained noted gave) is zero = cc
  ran_of request text told status (not_explained fault why) is zero = cc
  ran_of request text told status (whys_told noted gave) is zero = cc
  ran_of request text told status (no_whys_told fault why) is zero = cc
  ran_of request text told status (fixed gave) is zero = cc
  ran_of request text told status (unfixed gave) is zero = cc
  ran_of request text told status (no_fix fault why) is zero = cc
  ran_of request text told status (explored found conclusion gave concludes) is zero = cc
  ran_of request text told status (not_explored fault why) is zero = cc
  ran_of request text told status (traced due) is zero = cc
  ran_of request text told status untraced is zero = cc
  ran_of request text told status (played due) is zero = cc
  ran_of request text told status (unplayed report) is zero = cc
  ran_of request text told status (witnessed due) is zero = cc
  ran_of request text told status (unwitnessed of) is zero = cc
  ran_of request text told status (paired due) is zero = cc
  ran_of request text told status (unpaired report number end) is zero = cc
  ran_of request text told status (filed due) is zero = cc
  ran_of request text told status (lined marks due) is zero = cc
  ran_of request text told status (unfiled of) is zero = cc
  ran_of request text told status (valued object with due) is zero = cc
  ran_of request text told status (unvalued with due) is zero = cc
  ran_of request text told status (drawn page) is zero = cc
  ran_of request text told status (undrawn report number) is zero = cc
  ran_of request text told status (unread fault why) is zero = cc
  ran_of request text told status (helped shown) is zero = cc
  ran_of request text told status (misused shown) is zero = cc
  ran_of request text told status no_memory is zero = cc

  module _ (out out' err err' : Option Bytes) where
    wrote : (text told : Bytes) (status result : ℕ) → Due input file (asks_plain Xv6 (codes "-") [] false false) text told status → Writes text told status out out' err err' result → result ≡ 0 → WritesMeaning input out out'
    wrote text told status result due (whole printed reported) zero =
        let gave = ran_of (asks_plain Xv6 (codes "-") [] false false) text told status due refl zero in
        writes_meaning input file gave.0 text out out' gave.1 printed
    wrote text told status result due (out_stopped part kept) zero = cc
    wrote text told status result due (err_stopped printed part) zero = cc

    pub run_writes_meaning : (status : ℕ) → Ends input file out out' err err' (asks_plain Xv6 (codes "-") [] false false) status → status ≡ 0 → WritesMeaning input out out'
    run_writes_meaning status ends zero = wrote ends.text ends.told ends.status status ends.due ends.writes zero
