-- What words of `run --strict` ask for, and that with status 0 it was done.
use Rattle.std.proofs.Common.{◌≡◌, ℕ, Bool, true, false, List, [], ◌∷◌, length, Option, Some, None, inl, inr, refl, sym, ◌∙◌, ap, subst, arith}
use Rattle.std.specs.Prelude.{Box, codes, option_map, unwrap_or}
use Rattle.std.specs.Borrow.{Bor}
use Rattle.mem_files.specs.Name.{Bytes}
use Rattle.clap.specs.Kinds.{IsAmong}
use Rattle.clap.specs.Matches.{first_value, one_text, subcommand_name_of}
use Rattle.clap.specs.Simple.{subcommand_of, subcommand_rows, subcommand_rows_of}
use Rattle.clap.specs.Walk.{Row, first_of, one_of, rows_of}
use Rattle.clap.specs.declared.parser.matches.ArgMatches.{ArgMatches}
use Rattle.clap.specs.declared.parser.matches.ArgMatches.TheViews.{out-ArgMatches, out-SubCommand}
use Rattle.clap.specs.declared.parser.matches.Found.{Found}
use Rattle.clap.specs.declared.parser.matches.SubCommand.{SubCommand}
use Rattle.std.specs.Box.{box_value}
use Rattle.clap.proofs.WalkLemmas.{first_value-rows, one_text-rows}
use Rattle.xvsh_read.specs.Path.{Path}
use Rattle.xvsh_read.specs.Console.{Known}
use Rattle.xvsh_read.specs.Status.{fault_told}
use Rattle.xvsh_read.specs.declared.fault.Fault.TheVariants.{Memory}
use Rattle.xvsh_runs.specs.declared.request.RunRequest.{RunRequest}
use Rattle.xvsh_ends.specs.Ends.{Asked, Ends, Writes, asks_input, asks_strict}
use Rattle.xvsh_ends.specs.Requests.{asked, filed_asked, json_asked, lined_asked, run_asked, traced_asked, unread_asked}
use Rattle.xvsh_ends.specs.declared.request.Request.{Request}
use Rattle.xvsh_ends.specs.declared.request.Request.TheVariants.{Run, Replay, Plain, Check, Explain, Explore, Draw}
use Rattle.xvsh_read.specs.Given.{Sees, Sight}
use Rattle.xvsh_read.specs.declared.given.Inputs.{Inputs}
use Rattle.xvsh.specs.Drive.{EndsOn, IsAskedBy, asks, asks_nothing, asks_unread, of_command, of_help, of_misuse, of_no_memory}
use Rattle.xvsh.specs.Parsing.{IsParse, are_apart, own_program}
use Rattle.xvsh.specs.Words.{AreInputsIn, AreInputsOf, IsFlag, IsPath, IsRequestOf, IsRunOf, IsTextOf, IsWord, Names}
use Rattle.law_answers.specs.Words.{AreOfStrictRun, HasFlag, LacksFlag, LacksOption, WroteMeaningOf}
use Rattle.law_answers.proofs.Statuses.{ended_well, written_well}
use Rattle.law_answers.proofs.Strictly.{strict_means}

-- a flag is as the rows say, and an option that they lack isn't there
has_flag : (found : Found) (rows : List Row) (name : List ℕ) (is : Bool) → rows_of found ≡ rows → HasFlag rows name → IsFlag found name is → is ≡ true
has_flag found rows name is own has flag = flag.1 (one_text-rows found name ∙ ap (one_of name) own ∙ has)

lacks_flag : (found : Found) (rows : List Row) (name : List ℕ) (is : Bool) → rows_of found ≡ rows → LacksFlag rows name → IsFlag found name is → is ≡ false
lacks_flag found rows name is own lacks flag = flag.2 (one_text-rows found name ∙ ap (one_of name) own ∙ lacks)

none_mapped : {A B : Type 0} (f : A → B) (o : Option A) → option_map f o ≡ None → o ≡ None
none_mapped f None is = refl
none_mapped f (Some a) is = cc

lacks_option : (found : Found) (rows : List Row) (name : List ℕ) (word : Option (Bor Path)) → rows_of found ≡ rows → LacksOption rows name → IsWord found name word → word ≡ None
lacks_option found rows name word own lacks is = none_mapped (λ text. text.now) word (is ∙ first_value-rows found name ∙ ap (first_of name) own ∙ lacks)

-- the name and the rows of the command, apart
name_of_rows : (matches : ArgMatches) (name : List ℕ) (rows : List Row) → subcommand_rows_of matches ≡ Some (name, rows) → subcommand_name_of matches ≡ Some name
name_of_rows matches name rows is = go (out-ArgMatches matches).subcommand is
  where
    go : {Z : Type 0} (met : Option (Box SubCommand Z)) → subcommand_rows met ≡ Some (name, rows) → option_map (λ b. (out-SubCommand (box_value b)).name.now) met ≡ Some name
    go None e = ap (option_map (λ p. p.0)) e
    go (Some b) e = ap (option_map (λ p. p.0)) e

-- another command has a name of another length
run_has_three : (matches : ArgMatches) (name : List ℕ) → subcommand_name_of matches ≡ Some (codes "run") → subcommand_name_of matches ≡ Some name → length name ≡ 3
run_has_three matches name is other =
    let same : name ≡ codes "run" = cc in
    ap length same

-- what is found by the same rows is the same
module _ (found other : Found) (same : rows_of found ≡ rows_of other) where
  one_alike : (id : List ℕ) → one_text found id ≡ one_text other id
  one_alike id = one_text-rows found id ∙ ap (one_of id) same ∙ sym (one_text-rows other id)

  first_alike : (id : List ℕ) → first_value found id ≡ first_value other id
  first_alike id = first_value-rows found id ∙ ap (first_of id) same ∙ sym (first_value-rows other id)

  flag_alike : (id : List ℕ) (is : Bool) → IsFlag found id is → IsFlag other id is
  flag_alike id is flag = (λ e. flag.0 (one_alike id ∙ e), λ e. flag.1 (one_alike id ∙ e), λ e. flag.2 (one_alike id ∙ e))

  path_alike : (id path : List ℕ) → IsPath found id path → IsPath other id path
  path_alike id path is = is ∙ ap (λ v. unwrap_or v (codes "-")) (first_alike id)

  text_alike : (text : Option (Bor Path)) → IsTextOf found text → IsTextOf other text
  text_alike text is = record {
    is_text = is.is_text;
    flag = flag_alike (codes "text") is.is_text is.flag;
    own = λ e. let own = is.own e in (own.0, own.1, path_alike (codes "script") own.0.now own.2);
    none = is.none;
  }

  inputs_alike : (inputs : Inputs) → AreInputsIn found inputs → AreInputsIn other inputs
  inputs_alike inputs are = record { input = are.input ∙ first_alike (codes "input"); text = text_alike inputs.text are.text }

module _ (old new : Known) (words : List (List ℕ)) (rows : List Row) (of : AreOfStrictRun words rows) (matches : ArgMatches) (parse : IsParse words matches) where
  named_run : subcommand_rows_of matches ≡ Some (codes "run", rows)
  named_run = parse.rows ∙ of.command

  called_run : subcommand_name_of matches ≡ Some (codes "run")
  called_run = name_of_rows matches (codes "run") rows named_run

  own_rows : (name : List ℕ) (found : Found) → Names matches name found → rows_of found ≡ rows
  own_rows name found names =
      let e : option_map (λ p. p.1) (subcommand_rows_of matches) ≡ Some rows = ap (option_map (λ p. p.1)) named_run in
      let f : option_map (λ p. p.1) (subcommand_rows_of matches) ≡ Some (rows_of found) = names.rows in
      cc

  given_in : (found : Found) (inputs : Inputs) → rows_of found ≡ rows → AreInputsOf matches inputs → AreInputsIn found inputs
  given_in found inputs own (inl (name, other, names, are)) = inputs_alike other found (own_rows name other names ∙ sym own) inputs are
  given_in found inputs own (inr (none, are)) = let run = called_run in cc

  no_other : {X : Type 0} (name : List ℕ) (found : Found) → Names matches name found → (length name ≡ 3 → ⊥) → X
  no_other name found names apart = absurd (apart (run_has_three matches name called_run names.named))

  -- what a run with these words asks for
  asked_strictly : (found : Found) (request : RunRequest) → rows_of found ≡ rows → IsRunOf found request → asked (Run request) ≡ asks_strict request.source.profile request.source.script.now request.source.files.now request.harts request.turns request.lists
  asked_strictly found request own made =
      let strict = has_flag found rows (codes "strict") request.is_strict own of.strict made.strict in
      let json = lacks_flag found rows (codes "json") request.is_json own of.no_json made.json in
      let lined = lacks_flag found rows (codes "lines") request.is_lined own of.no_lines made.lines in
      let schedule = lacks_option found rows (codes "schedule-to") request.schedule_to own of.no_schedule_to made.schedule_to in
      let filed = lacks_option found rows (codes "files-to") request.files_to own of.no_files_to made.files_to in
      let traced = lacks_option found rows (codes "trace") request.trace own of.no_trace made.trace in
      ap (λ t. traced_asked t (traced_asked request.schedule_to (filed_asked request.files_to (lined_asked request.is_lined (json_asked request.is_json (run_asked request.is_strict request)))))) traced
      ∙ ap (λ t. traced_asked t (filed_asked request.files_to (lined_asked request.is_lined (json_asked request.is_json (run_asked request.is_strict request))))) schedule
      ∙ ap (λ t. filed_asked t (lined_asked request.is_lined (json_asked request.is_json (run_asked request.is_strict request)))) filed
      ∙ ap (λ t. lined_asked t (json_asked request.is_json (run_asked request.is_strict request))) lined
      ∙ ap (λ t. json_asked t (run_asked request.is_strict request)) json
      ∙ ap (λ t. run_asked t request) strict

  requested : (request : Request) (inputs : Inputs) (sight : Sight) → IsRequestOf matches request → AreInputsOf matches inputs → Sees old.input old.file inputs sight → Ends sight.input sight.file old.out new.out old.err new.err (asked request) 0 → WroteMeaningOf old new rows
  requested (Run request) inputs sight (found, names, made) are sees ends =
      let own = own_rows (codes "run") found names in
      let strictly = subst (λ what. Ends sight.input sight.file old.out new.out old.err new.err what 0) (asked_strictly found request own made) ends in
      record {
        found = found;
        own = own;
        request = request;
        made = made;
        inputs = inputs;
        given = given_in found inputs own are;
        sight = sight;
        sees = sees;
        wrote = strict_means sight.input sight.file request.source.profile request.source.script.now request.source.files.now request.harts request.turns request.lists old.out new.out old.err new.err strictly;
      }
  requested (Replay request) inputs sight (found, names, made) are sees ends = no_other (codes "replay") found names (λ e. omega (arith, e))
  requested (Plain request) inputs sight (found, names, made) are sees ends = no_other (codes "plain") found names (λ e. omega (arith, e))
  requested (Check request) inputs sight (found, names, made) are sees ends = no_other (codes "check") found names (λ e. omega (arith, e))
  requested (Explain request) inputs sight (found, names, made) are sees ends = no_other (codes "explain") found names (λ e. omega (arith, e))
  requested (Explore request) inputs sight (found, names, made) are sees ends = no_other (codes "explore") found names (λ e. omega (arith, e))
  requested (Draw request) inputs sight (found, names, made) are sees ends = no_other (codes "draw") found names (λ e. omega (arith, e))

  -- a standard input that can't be read has no status 0
  unrequested : (request : Request) (path : Path) → IsRequestOf matches request → Ends old.input old.file old.out new.out old.err new.err (unread_asked request path) 0 → WroteMeaningOf old new rows
  unrequested (Run request) path (found, names, made) ends =
      let json = lacks_flag found rows (codes "json") request.is_json (own_rows (codes "run") found names) of.no_json made.json in
      let plainly = subst (λ is. Ends old.input old.file old.out new.out old.err new.err (json_asked is (asks_input path)) 0) json ends in
      absurd (ended_well old.input old.file old.out new.out old.err new.err (asks_input path) plainly).did
  unrequested (Replay request) path (found, names, made) ends = no_other (codes "replay") found names (λ e. omega (arith, e))
  unrequested (Plain request) path (found, names, made) ends = no_other (codes "plain") found names (λ e. omega (arith, e))
  unrequested (Check request) path (found, names, made) ends = no_other (codes "check") found names (λ e. omega (arith, e))
  unrequested (Explain request) path (found, names, made) ends = no_other (codes "explain") found names (λ e. omega (arith, e))
  unrequested (Explore request) path (found, names, made) ends = no_other (codes "explore") found names (λ e. omega (arith, e))
  unrequested (Draw request) path (found, names, made) ends = no_other (codes "draw") found names (λ e. omega (arith, e))

  parsed : (sight : Sight) (what : Asked) → IsAskedBy old.input old.file matches sight what → Ends sight.input sight.file old.out new.out old.err new.err what 0 → WroteMeaningOf old new rows
  parsed sight what (asks request inputs made are sees) ends = requested request inputs sight made are sees ends
  parsed sight what (asks_unread {path = path} request inputs made are some) ends = unrequested request path.now made ends
  parsed sight what (asks_nothing unnamed) ends = absurd (unnamed (inl called_run))

pub wrote_meaning : (old new : Known) (words : List (List ℕ)) (rows : List Row) → AreOfStrictRun words rows → EndsOn old new words 0 → WroteMeaningOf old new rows
wrote_meaning old new words rows of (of_command matches sight what parse asked ends) = parsed old new words rows of matches parse sight what asked ends
wrote_meaning old new words rows of (of_help (kind, among, shown) ends) = absurd (subst (IsAmong kind) of.parsed.taken among)
wrote_meaning old new words rows of (of_misuse (inl (kind, among, shown)) ends) = absurd (subst (IsAmong kind) of.parsed.taken among)
wrote_meaning old new words rows of (of_misuse (inr apart) ends) = let together = of.parsed.together in cc
wrote_meaning old new words rows of (of_no_memory writes) = let zero = (written_well [] (fault_told Memory) 4 old.out new.out old.err new.err 0 writes refl).0 in cc
