-- What a program that runs still gives: it depends on the files that the program depends on, changes those that it may
-- change, and leaves an input that it doesn't use. So does what a simple command gives, which is its program's as it begins.
use Rattle.std.proofs.Common.{◌≡◌, ◌∙◌, Bool, true, false, List, [], ◌∷◌, ◌++◌, drop, Option, Some, None, refl, sym, ap}
use Rattle.std.specs.Prelude.{◌||◌, if◌then◌else◌}
use Rattle.std.proofs.lemmas.Bool.{or_from}
use Rattle.mem_files.specs.Name.{Name, Bytes}
use Rattle.mem_files.specs.Files.{FileMap, no_files}
use Rattle.prog_parts.specs.declared.program.Program.{Program}
use Rattle.prog_parts.specs.NameSets.{Names, no_names, among}
use Rattle.prog_parts.specs.Program.{program_of, program_uses_input}
use Rattle.prog_parts.specs.Words.{by_program, files_read, files_written, words_use_input}
use Rattle.conflict_check.specs.Names.{words_read, words_write}
use Rattle.user_calls.specs.declared.calls.Call.TheVariants.{Exec}
use Rattle.meaning_model.specs.Firm.{IsFirm}
use Rattle.meaning_model.specs.Programs.{words_value, program_value}
use Rattle.meaning_model.specs.Value.{Value}
use Rattle.user_progs.specs.State.{begins}
use Rattle.tree_model.specs.Ahead.{still_opens, still_writes}
use Rattle.tree_model.specs.Alone.{to_out}
use Rattle.tree_model.specs.Frame.{depends_on, may_change, only_changed}
use Rattle.tree_model.specs.Still.{still, after_bytes}
use Rattle.law_trees.proofs.programs.Elsewhere.{depends_alike, changes_alike, depends_first}
use Rattle.law_trees.proofs.programs.Firm.{still_firm}
use Rattle.law_trees.proofs.programs.Framing.{frame}
use Rattle.law_trees.proofs.programs.Unused.{unused}
use Rattle.script_load.specs.declared.profile.Profile.{Profile}
use Rattle.tree_model.specs.Residual.{Running, world_of, alone, running, left_names, left_writes, left_uses}
use Rattle.tree_model.specs.Begin.{run_left, begun, begun_words}
use Rattle.tree_model.specs.Final.{run_value, final, left_met}
use Rattle.tree_model.specs.Tidy.{IsShortCommand, IsTidy}
use Rattle.law_trees.proofs.trees.Acting.{waits_over}
use Rattle.law_trees.proofs.trees.Values.{Agree, Alike, alike_nothing}

pub run_firm : (run : Running) (i : Bytes) (F : FileMap) → IsFirm (run_value run i F)
run_firm run i F = let h = still_firm run.turn.next (world_of run i F) in record { loose = h.loose; soft = h.soft }

-- which files a program depends on follows from its own files, whatever the input and the files hold
depends_bare : (run : Running) (i : Bytes) (F : FileMap) (n : Name) → depends_on run.turn.next (world_of run i F) n ≡ left_names (running run) n
depends_bare run i F n = sym (depends_alike run.turn.next (world_of run i F) [] no_files n)

changes_bare : (run : Running) (i : Bytes) (F : FileMap) (n : Name) → may_change run.turn.next (world_of run i F) n ≡ left_writes (running run) n
changes_bare run i F n = sym (changes_alike run.turn.next (world_of run i F) [] no_files n)

still_at : (run : Running) (i : Bytes) (F G : FileMap) → IsTidy (running run) F → ((n : Name) → left_names (running run) n ≡ true → F n ≡ G n) →
    still run.turn.next (world_of run i G)
    ≡ record (still run.turn.next (world_of run i F)) { files = only_changed (may_change run.turn.next (world_of run i F)) (still run.turn.next (world_of run i F)).files G }
still_at run i F G tidy agree = frame run.turn.next run.turn.call (world_of run i F) G (waits_over run i F tidy) (λ n e. agree n (sym (depends_bare run i F n) ∙ e))

pub run_only : (run : Running) (i : Bytes) (F : FileMap) (n : Name) → IsTidy (running run) F → left_writes (running run) n ≡ false → (run_value run i F).files n ≡ F n
run_only run i F n tidy none =
    ap (λ v. v.files n) (still_at run i F F tidy (λ n e. refl))
    ∙ ap (λ (b : Bool). if b then (still run.turn.next (world_of run i F)).files n else F n) (changes_bare run i F n ∙ none)

pub run_frame : (N : Name → Type 0) (run : Running) (i : Bytes) (F G : FileMap) → IsTidy (running run) F → ((n : Name) → left_names (running run) n ≡ true → N n) → Agree N F G → Alike N (run_value run i F) (run_value run i G) no_names no_names
run_frame N run i F G tidy sub h =
    let same = still_at run i F G tidy (λ n e. h.at n (sub n e)) in
    let first = drop run.put (to_out run.turn.call) in
    record {
      out = sym (ap (λ v. first ++ v.out) same);
      rest = sym (ap (λ v. v.rest) same);
      files = record { at = λ n e. only n (may_change run.turn.next (world_of run i F) n) refl e ∙ sym (ap (λ v. v.files n) same) };
      loose = sym (ap (λ v. v.loose) same);
      soft = sym (ap (λ v. v.soft) same);
      met = refl;
    }
  where
    only : (n : Name) (b : Bool) → may_change run.turn.next (world_of run i F) n ≡ b → N n →
        (still run.turn.next (world_of run i F)).files n ≡ (if b then (still run.turn.next (world_of run i F)).files n else G n)
    only n true e named = refl
    only n false e named = run_only run i F n tidy (sym (changes_bare run i F n) ∙ e) ∙ h.at n named

pub run_unused : (run : Running) (i j : Bytes) (F : FileMap) → IsTidy (running run) F → left_uses (running run) ≡ false → run_value run i F ≡ record (run_value run j F) { rest = i }
run_unused run i j F tidy none =
    ap (λ v. after_bytes (drop run.put (to_out run.turn.call)) v) (unused run.turn.next run.turn.call (world_of run j F) i (waits_over run j F tidy) none)

pub run_named : (run : Running) (n : Name) → left_names (running run) n ≡ false → left_writes (running run) n ≡ false
run_named run n e = depends_first run.turn.next (alone run no_files) n e

-- a simple command as its program begins
pub begin_left : (profile : Profile) (words : List Bytes) (i : Bytes) (F : FileMap) (P : Value → Names → Type 0) → P (words_value words i F) no_names → P (final profile (run_left (begun_words words)) i F) (left_met profile (run_left (begun_words words)) i F)
begin_left profile [] i F P h = h
begin_left profile (word ∷ arguments) i F P h = go (program_of word) h
  where
    go : (found : Option Program) → P (program_value found arguments i F) no_names → P (final profile (run_left (begun found arguments)) i F) (left_met profile (run_left (begun found arguments)) i F)
    go None h = h
    go (Some program) h = h

pub begin_tidy : (words : List Bytes) (F : FileMap) → IsShortCommand words → IsTidy (run_left (begun_words words)) F
begin_tidy [] F short = tt
begin_tidy (word ∷ arguments) F short = go (program_of word)
  where
    go : (found : Option Program) → IsTidy (run_left (begun found arguments)) F
    go None = tt
    go (Some program) = ((refl, short program), tt)

pub begin_names : (words : List Bytes) (n : Name) → (words_read words n || words_write words n) ≡ false → left_names (run_left (begun_words words)) n ≡ false
begin_names [] n e = refl
begin_names (word ∷ arguments) n e = go (program_of word) e
  where
    go : (found : Option Program) → (among (by_program files_read [] found arguments) n || among (by_program files_written [] found arguments) n) ≡ false → left_names (run_left (begun found arguments)) n ≡ false
    go None e = refl
    go (Some program) e = or_from (still_opens (begins program arguments) n) false e refl

pub begin_writes : (words : List Bytes) (n : Name) → words_write words n ≡ false → left_writes (run_left (begun_words words)) n ≡ false
begin_writes [] n e = refl
begin_writes (word ∷ arguments) n e = go (program_of word) e
  where
    go : (found : Option Program) → among (by_program files_written [] found arguments) n ≡ false → left_writes (run_left (begun found arguments)) n ≡ false
    go None e = refl
    go (Some program) e = or_from (still_writes (begins program arguments) n) false e refl

pub begin_uses : (words : List Bytes) → words_use_input words ≡ false → left_uses (run_left (begun_words words)) ≡ false
begin_uses [] e = refl
begin_uses (word ∷ arguments) e = go (program_of word) e
  where
    go : (found : Option Program) → by_program program_uses_input false found arguments ≡ false → left_uses (run_left (begun found arguments)) ≡ false
    go None e = refl
    go (Some program) e = e

-- what it gives, by what its program gives
or_end : (b : Bool) → (b || false) ≡ true → b ≡ true
or_end true e = refl
or_end false e = e

pub words_frame : (N : Name → Type 0) (words : List Bytes) (i : Bytes) (F G : FileMap) → IsShortCommand words → ((n : Name) → (words_read words n || words_write words n) ≡ true → N n) → Agree N F G → Alike N (words_value words i F) (words_value words i G) no_names no_names
words_frame N [] i F G short sub agree = alike_nothing N i F G agree
words_frame N (word ∷ arguments) i F G short sub agree = go (program_of word) sub
  where
    go : (found : Option Program) → ((n : Name) → (among (by_program files_read [] found arguments) n || among (by_program files_written [] found arguments) n) ≡ true → N n) → Alike N (program_value found arguments i F) (program_value found arguments i G) no_names no_names
    go None sub = alike_nothing N i F G agree
    go (Some program) sub =
        run_frame N (record { turn = record { call = Exec true; next = begins program arguments }; own = []; put = 0 }) i F G ((refl, short program), tt) (λ n e. sub n (or_end (still_opens (begins program arguments) n) e)) agree

pub words_only : (words : List Bytes) (i : Bytes) (F : FileMap) (n : Name) → IsShortCommand words → words_write words n ≡ false → (words_value words i F).files n ≡ F n
words_only [] i F n short e = refl
words_only (word ∷ arguments) i F n short e = go (program_of word) e
  where
    go : (found : Option Program) → among (by_program files_written [] found arguments) n ≡ false → (program_value found arguments i F).files n ≡ F n
    go None e = refl
    go (Some program) e =
        run_only (record { turn = record { call = Exec true; next = begins program arguments }; own = []; put = 0 }) i F n ((refl, short program), tt) (or_from (still_writes (begins program arguments) n) false e refl)

pub words_unused : (words : List Bytes) (i j : Bytes) (F : FileMap) → IsShortCommand words → words_use_input words ≡ false → words_value words i F ≡ record (words_value words j F) { rest = i }
words_unused [] i j F short e = refl
words_unused (word ∷ arguments) i j F short e = go (program_of word) e
  where
    go : (found : Option Program) → by_program program_uses_input false found arguments ≡ false → program_value found arguments i F ≡ record (program_value found arguments j F) { rest = i }
    go None e = refl
    go (Some program) e = run_unused (record { turn = record { call = Exec true; next = begins program arguments }; own = []; put = 0 }) i j F ((refl, short program), tt) e
