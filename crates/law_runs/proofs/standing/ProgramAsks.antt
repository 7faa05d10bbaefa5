-- A program makes a call that the files answer: to a file of its own, or a message.
use Rattle.std.proofs.Common.{◌≡◌, ◌≢◌, ◌⊎◌, inl, inr, ℕ, zero, suc, ◌<◌, ◌≤◌, nat_le, nat_lt, Bool, true, false, List, [], ◌∷◌, length, take, drop, Option, Some, None, refl, sym, ap, ◌∙◌, subst, arith}
use Rattle.std.specs.Prelude.{not, ◌&&◌, slice_set, if◌then◌else◌}
use Rattle.std.specs.Option.{is_some}
use Rattle.std.proofs.lemmas.Bool.{le-leb, lt-leb, ltb-true, ltb-false}
use Rattle.std.proofs.lemmas.List.{get_or-set_other}
use Rattle.mem_files.specs.Name.{Bytes}
use Rattle.mem_files.specs.Files.{FileMap, with_file, bytes_of}
use Rattle.mem_files.specs.Overlay.{written}
use Rattle.script_load.specs.declared.profile.Profile.{Profile}
use Rattle.user_calls.specs.Limits.{block_size}
use Rattle.user_calls.specs.declared.calls.Call.{Call}
use Rattle.user_calls.specs.declared.calls.Call.TheVariants.{Read, Write, Close}
use Rattle.user_calls.specs.declared.calls.Mode.{Mode}
use Rattle.user_calls.specs.declared.calls.Mode.TheVariants.{Input as ToRead, Fresh, Over, Append}
use Rattle.user_calls.specs.declared.calls.Reply.{Reply}
use Rattle.user_calls.specs.declared.calls.Reply.TheVariants.{Done, Bytes as Bytes', Refused}
use Rattle.user_progs.specs.State.{State}
use Rattle.user_progs.specs.Turn.{turn}
use Rattle.tree_model.specs.Alone.{held, is_to_read, left_of_file, is_writable, done_if, after_file_write, after_call}
use Rattle.tree_model.specs.Tame.{opened_after}
use Rattle.tree_model.specs.Residual.{Running, running, alone}
use Rattle.tree_model.specs.Answers.{asks, kind_of, read_reply, replied, files_after, answer}
use Rattle.tree_model.specs.Rules.{silent, Steps, calls}
use Rattle.process_model.specs.Seen.{Entry, Fds, fd_at, Place, View}
use Rattle.process_model.specs.Own.{Owned, own_files, own_fds, owned_at, Appends, place_of, program_act}
use Rattle.process_model.specs.Shape.{same, owned_names}
use Rattle.process_model.specs.Effect.{Sets, Answers, PlaceChanges, further, answered, IsCall, ReadsBytes, ReadsFile, ReadsAt, WritesHere, WritesOver, WritesFile, WritesAt, ClosesAt}
use Rattle.law_runs.proofs.standing.Frame.{held_stay}
use Rattle.law_runs.proofs.standing.OwnFiles.{Found, moved, moved_files, moved_fds, moved_at, moved_apart, moved_plain, moved_names, moved_placed, shut, shut_files, shut_fds, shut_here, shut_others, shut_apart, shut_plain, shut_names, shut_placed}
use Rattle.law_runs.proofs.standing.ProgramReads.{at_most}
use Rattle.law_runs.proofs.standing.CallKinds as kinds
use Rattle.law_runs.proofs.standing.ProgramGoes as goes_on

module _ (profile : Profile) (V W : View) (a b old : Entry) (parent p : ℕ) (ev : IsCall V W p) (next : State) (put : ℕ) (owns : List Owned) where
  abbrev pub Before : Call → Type 0
  Before call = goes_on.Before profile V W a b old parent p call next put owns

  abbrev pub Afterwards : Call → Type 0
  Afterwards call = goes_on.Afterwards profile V W a b old parent p call next put owns

  abbrev pub run : Call → Running
  run call = record { turn = goes_on.waiting call next; own = own_files owns; put = put }

  -- the machine's step, with this answer
  pub asked : (call : Call) (reply : Reply) (owns' : List Owned) (F : FileMap) → kind_of call ≡ asks → answer (run call) V.files ≡ reply → (after_call call reply (alone (run call) V.files)).own ≡ own_files owns' → F ≡ (after_call call reply (alone (run call) V.files)).files
      → Steps profile (running (run call)) V.files silent (running (record { turn = turn next reply; own = own_files owns'; put = 0 })) F
  asked call reply owns' F kind is own fs =
      calls kind
      (sym (ap (λ r. running (replied (run call) r V.files)) is ∙ ap (λ l. running (record { turn = turn next reply; own = l; put = 0 })) own))
      (fs ∙ sym (ap (λ r. files_after (run call) r V.files) is))

  -- it is answered, and nothing else happens
  pub answers : (call : Call) (reply : Reply) (g : Before call) → Answers V W p parent (program_act (goes_on.waiting call next)) reply g.has.fds → kind_of call ≡ asks → answer (run call) V.files ≡ reply → after_call call reply (alone (run call) V.files) ≡ alone (run call) V.files → opened_after call reply (own_fds owns) ≡ own_fds owns → Afterwards call
  answers call reply g f kind is same fds =
      goes_on.goes_alike profile V W a b old parent p call next put owns reply silent V.files g f.slots (λ k l. f.rest.places k) fds
      (asked call reply owns V.files kind is (ap (λ (w : Rattle.tree_model.specs.Alone.World). w.own) same) (sym (ap (λ (w : Rattle.tree_model.specs.Alone.World). w.files) same)))
      (kinds.same_of V W f.rest a, kinds.same_of V W f.rest b, f.rest.files) (goes_on.all_leave profile V W a b old parent p call next put owns f.rest)

  -- the entry of a file of its own goes on
  pub goes_further : (call : Call) (reply : Reply) (g : Before call) (fd count : ℕ) (o : Found V owns fd) (F : FileMap) → Sets V W p (answered parent (program_act (goes_on.waiting call next)) reply g.has.fds) → PlaceChanges V W o.owned.entry (further (V.places o.owned.entry) count) F → kind_of call ≡ asks → answer (run call) V.files ≡ reply
      → (after_call call reply (alone (run call) V.files)).own ≡ own_files (moved owns fd count) → F ≡ (after_call call reply (alone (run call) V.files)).files → opened_after call reply (own_fds owns) ≡ own_fds owns → Afterwards call
  goes_further call reply g fd count o F slots change kind is own fs fds =
      let e = o.owned.entry in
      let once : owned_names e owns ≤ 1 = omega (arith, g.apart e) in
      goes_on.goes_on profile V W a b old parent p call next put owns reply (moved owns fd count) silent F g.has.fds g slots
      (record { input = g.has.opened.input; output = g.has.opened.output; messages = g.has.opened.messages; above = λ other up. g.has.opened.above other up ∙ sym (moved_at fd count owns other) })
      (moved_apart fd count owns g.has.apart) (moved_placed fd count V W e change.place change.places owns o.at once g.has.placed) (moved_plain fd count owns g.has.plain)
      (moved_fds fd count owns ∙ sym fds)
      (asked call reply (moved owns fd count) F kind is own fs) (
        kinds.in_beside V W a g.can_read change.input (λ k l. (change.pipes k, change.places k (λ same_k. absurd (omega (arith, l, o.named, g.apart k, ap (λ n. owned_names n owns) same_k))))),
        kinds.out_beside V W b g.can_write change.out (λ k l. (change.pipes k, change.places k (λ same_k. absurd (omega (arith, l, o.named, g.apart k, ap (λ n. owned_names n owns) same_k))))),
        change.files,
      )
      (λ k. omega (arith, moved_names fd count k owns))
      (record { others = λ k na nb lt none. (change.pipes k, change.places k (λ same_k. absurd (omega (arith, none, o.named, ap (λ n. owned_names n owns) same_k)))); input_stays = λ n. change.input; out_stays = λ n. change.out })

  -- ---- reads

  module _ (fd most : ℕ) (o : Found V owns (suc fd)) where
    abbrev its_bytes : Option Bytes
    its_bytes = left_of_file (held (own_files owns) (suc fd)) V.files

    reads_refused : (g : Before (Read (suc fd) most)) → is_to_read o.owned.own.mode ≡ false → Answers V W p parent (program_act (goes_on.waiting (Read (suc fd) most) next)) Refused g.has.fds → Afterwards (Read (suc fd) most)
    reads_refused g not_read f =
        answers (Read (suc fd) most) Refused g f refl
        (ap (λ h. read_reply most (left_of_file h V.files)) o.held_is ∙ ap (λ (c : Bool). read_reply most (if c then Some (drop o.owned.own.at (bytes_of (V.files o.owned.own.name))) else None)) not_read) refl refl

    reads_bytes : (g : Before (Read (suc fd) most)) → o.owned.own.mode ≡ ToRead → (h : Option Bytes) → V.files (V.places o.owned.entry).name ≡ h → ReadsBytes V W p parent (program_act (goes_on.waiting (Read (suc fd) most) next)) g.has.fds most o.owned.entry h → Afterwards (Read (suc fd) most)
    reads_bytes g mode None there f = absurd f
    reads_bytes g mode (Some h) there (slots, change) =
        let e = o.owned.entry in
        let c = take most (drop (V.places e).at h) in
        let place : V.places e ≡ place_of o.owned.own = o.placed in
        let bytes : drop o.owned.own.at (bytes_of (V.files o.owned.own.name)) ≡ drop (V.places e).at h = sym (ap (λ (x : Place). drop x.at (bytes_of (V.files x.name))) place) ∙ ap (λ o. drop (V.places e).at (bytes_of o)) there in
        goes_further (Read (suc fd) most) (Bytes' c) g (suc fd) (length c) o V.files slots change refl
        (ap (λ h. read_reply most (left_of_file h V.files)) o.held_is ∙ ap (λ m. read_reply most (if is_to_read m then Some (drop o.owned.own.at (bytes_of (V.files o.owned.own.name))) else None)) mode ∙ ap (λ l. Bytes' (take most l)) bytes)
        (moved_files (suc fd) (length c) owns) refl refl

    pub reads_own : most ≤ block_size → (g : Before (Read (suc fd) most)) → Afterwards (Read (suc fd) most)
    reads_own few g = by o.owned.own.mode refl effect
      where
        e : ℕ
        e = o.owned.entry

        effect : ReadsFile V W p parent (program_act (goes_on.waiting (Read (suc fd) most) next)) g.has.fds most o.owned.entry o.owned.own.mode
        effect =
            subst (ReadsFile V W p parent (program_act (goes_on.waiting (Read (suc fd) most) next)) g.has.fds most o.owned.entry) (ap (λ (x : Place). x.mode) o.placed)
            (subst (ReadsAt V W p parent (program_act (goes_on.waiting (Read (suc fd) most) next)) g.has.fds most) (g.has.opened.above (suc fd) o.above ∙ o.at)
            (subst (λ n. ReadsAt V W p parent (program_act (goes_on.waiting (Read (suc fd) most) next)) g.has.fds n (fd_at g.has.fds (suc fd))) (at_most most few)
            (kinds.effect_at V W p parent put (program_act (goes_on.waiting (Read (suc fd) most) next)) g.has.fds ev g.has.slot)))

        by : (mode : Mode) → o.owned.own.mode ≡ mode → ReadsFile V W p parent (program_act (goes_on.waiting (Read (suc fd) most) next)) g.has.fds most o.owned.entry mode → Afterwards (Read (suc fd) most)
        by ToRead is f = reads_bytes g is (V.files (V.places o.owned.entry).name) refl f
        by Fresh is f = reads_refused g (ap is_to_read is) f
        by Over is f = reads_refused g (ap is_to_read is) f
        by Append is f = reads_refused g (ap is_to_read is) f

  -- ---- writes

  pub says : (bytes : Bytes) (g : Before (Write 2 bytes)) → Afterwards (Write 2 bytes)
  says bytes g =
      answers (Write 2 bytes) Done g (subst (WritesAt V W p parent put (program_act (goes_on.waiting (Write 2 bytes) next)) g.has.fds bytes) g.has.opened.messages (kinds.effect_at V W p parent put (program_act (goes_on.waiting (Write 2 bytes) next)) g.has.fds ev g.has.slot)) refl refl refl refl

  module _ (fd : ℕ) (bytes : Bytes) (o : Found V owns (suc (suc (suc fd)))) where
    abbrev at_fd : Call
    at_fd = Write (suc (suc (suc fd))) bytes

    -- whether the machine grants it
    granted : (c : Bool) → (not (is_to_read o.owned.own.mode) && nat_le o.owned.own.at (length (bytes_of (V.files o.owned.own.name)))) ≡ c → answer (run at_fd) V.files ≡ done_if c
    granted c is = ap (λ h. done_if (is_writable h V.files)) o.held_is ∙ ap done_if is

    writes_refused : (g : Before at_fd) → (not (is_to_read o.owned.own.mode) && nat_le o.owned.own.at (length (bytes_of (V.files o.owned.own.name)))) ≡ false → Answers V W p parent (program_act (goes_on.waiting at_fd next)) Refused g.has.fds → Afterwards at_fd
    writes_refused g is f = answers at_fd Refused g f refl (granted false is) refl refl

    no_and : (c : Bool) → (c && false) ≡ false
    no_and true = refl
    no_and false = refl

    writes_held : (g : Before at_fd) → is_to_read o.owned.own.mode ≡ false → (h : Bytes) → V.files (V.places o.owned.entry).name ≡ Some h → (gap : Bool) → nat_lt (length h) (V.places o.owned.entry).at ≡ gap → WritesHere V W p parent (program_act (goes_on.waiting at_fd next)) g.has.fds bytes o.owned.entry h gap → Afterwards at_fd
    writes_held g mode h there true gap f =
        let e = o.owned.entry in
        let is : bytes_of (V.files o.owned.own.name) ≡ h = sym (ap (λ (x : Place). bytes_of (V.files x.name)) o.placed) ∙ ap bytes_of there in
        let at : (V.places e).at ≡ o.owned.own.at = ap (λ (x : Place). x.at) o.placed in
        let behind : nat_le o.owned.own.at (length (bytes_of (V.files o.owned.own.name))) ≡ false = lt-leb o.owned.own.at (length (bytes_of (V.files o.owned.own.name))) (omega (arith, ltb-true (length h) (V.places e).at gap, at, ap (length {A = ℕ}) is)) in
        writes_refused g (ap (λ (c : Bool). not (is_to_read o.owned.own.mode) && c) behind ∙ no_and (not (is_to_read o.owned.own.mode))) f
    writes_held g mode h there false gap (slots, change) =
        let e = o.owned.entry in
        let own = o.owned.own in
        let is : bytes_of (V.files own.name) ≡ h = sym (ap (λ (x : Place). bytes_of (V.files x.name)) o.placed) ∙ ap bytes_of there in
        let at : (V.places e).at ≡ own.at = ap (λ (x : Place). x.at) o.placed in
        let within : nat_le own.at (length (bytes_of (V.files own.name))) ≡ true = le-leb own.at (length (bytes_of (V.files own.name))) (omega (arith, ltb-false (length h) (V.places e).at gap, at, ap (length {A = ℕ}) is)) in
        let name : (V.places e).name ≡ own.name = ap (λ (x : Place). x.name) o.placed in
        let F = with_file V.files (V.places e).name (written h (V.places e).at bytes) in
        goes_further at_fd Done g (suc (suc (suc fd))) (length bytes) o F slots change refl
        (granted true (ap (λ (c : Bool). not c && nat_le own.at (length (bytes_of (V.files own.name)))) mode ∙ within))
        (ap (λ h. (after_file_write h bytes (alone (run at_fd) V.files)).own) o.held_is ∙ ap (λ n. Rattle.tree_model.specs.Alone.moved_on (own_files owns) n (length bytes)) o.fd_is ∙ moved_files (suc (suc (suc fd))) (length bytes) owns)
        (ap (λ (x : Place). with_file V.files x.name (written h x.at bytes)) o.placed ∙ ap (λ l. with_file V.files own.name (written l own.at bytes)) (sym is) ∙ sym (ap (λ h. (after_file_write h bytes (alone (run at_fd) V.files)).files) o.held_is))
        refl

    pub writes_own : (g : Before at_fd) → Afterwards at_fd
    writes_own g = by o.owned.own.mode refl effect
      where
        effect : WritesFile V W p parent (program_act (goes_on.waiting at_fd next)) g.has.fds bytes o.owned.entry o.owned.own.mode
        effect =
            subst (WritesFile V W p parent (program_act (goes_on.waiting at_fd next)) g.has.fds bytes o.owned.entry) (ap (λ (x : Place). x.mode) o.placed)
            (subst (WritesAt V W p parent put (program_act (goes_on.waiting at_fd next)) g.has.fds bytes) (g.has.opened.above (suc (suc (suc fd))) o.above ∙ o.at)
            (kinds.effect_at V W p parent put (program_act (goes_on.waiting at_fd next)) g.has.fds ev g.has.slot))

        over : is_to_read o.owned.own.mode ≡ false → (h : Option Bytes) → V.files (V.places o.owned.entry).name ≡ h → WritesOver V W p parent (program_act (goes_on.waiting at_fd next)) g.has.fds bytes o.owned.entry h → Afterwards at_fd
        over mode None there f = absurd f
        over mode (Some h) there f = writes_held g mode h there (nat_lt (length h) (V.places o.owned.entry).at) refl f

        by : (mode : Mode) → o.owned.own.mode ≡ mode → WritesFile V W p parent (program_act (goes_on.waiting at_fd next)) g.has.fds bytes o.owned.entry mode → Afterwards at_fd
        by ToRead is f = writes_refused g (ap (λ m. not (is_to_read m) && nat_le o.owned.own.at (length (bytes_of (V.files o.owned.own.name)))) is) f
        by Fresh is f = over (ap is_to_read is) (V.files (V.places o.owned.entry).name) refl f
        by Over is f = over (ap is_to_read is) (V.files (V.places o.owned.entry).name) refl f
        by Append is f = absurd (o.plain (subst Appends (sym is) tt))

  -- ---- closes

  module _ (fd : ℕ) (o : Found V owns fd) where
    pub closes_own : (g : Before (Close fd)) → Afterwards (Close fd)
    closes_own g =
        let f = effect in
        goes_on.goes_on profile V W a b old parent p (Close fd) next put owns Done (shut owns fd) silent V.files (slice_set g.has.fds fd None) g f.slots
        (record {
          input = get_or-set_other g.has.fds fd 0 None None (λ is. absurd (omega (arith, is, o.above))) ∙ g.has.opened.input;
          output = get_or-set_other g.has.fds fd 1 None None (λ is. absurd (omega (arith, is, o.above))) ∙ g.has.opened.output;
          messages = get_or-set_other g.has.fds fd 2 None None (λ is. absurd (omega (arith, is, o.above))) ∙ g.has.opened.messages;
          above = λ other up. above other up (Rattle.std.proofs.lemmas.Bool.cases_eq other fd);
        })
        (shut_apart fd owns g.has.apart) (shut_placed fd W owns (held_stay V W owns (λ k l. f.rest.places k) g.has.placed)) (shut_plain fd owns g.has.plain) (shut_fds fd owns)
        (asked (Close fd) Done (shut owns fd) V.files refl (ap (λ h. done_if (is_some h)) o.held_is) (shut_files fd owns) refl)
        (kinds.same_of V W f.rest a, kinds.same_of V W f.rest b, f.rest.files) (λ k. omega (arith, shut_names fd k owns)) (goes_on.all_leave profile V W a b old parent p (Close fd) next put owns f.rest)
      where
        effect : Answers V W p parent (program_act (goes_on.waiting (Close fd) next)) Done (slice_set g.has.fds fd None)
        effect =
            subst (ClosesAt V W p parent (program_act (goes_on.waiting (Close fd) next)) g.has.fds fd) (g.has.opened.above fd o.above ∙ o.at)
            (kinds.effect_at V W p parent put (program_act (goes_on.waiting (Close fd) next)) g.has.fds ev g.has.slot)

        -- a descriptor that is none stays none
        cleared : (d : Fds) (n : ℕ) → fd_at (slice_set d n None) n ≡ None
        cleared [] n = refl
        cleared (x ∷ d) zero = refl
        cleared (x ∷ d) (suc n) = cleared d n

        above : (other : ℕ) → 2 < other → (other ≡ fd) ⊎ (other ≢ fd) → fd_at (slice_set g.has.fds fd None) other ≡ owned_at (shut owns fd) other
        above other up (inl is) = ap (fd_at (slice_set g.has.fds fd None)) is ∙ cleared g.has.fds fd ∙ sym (shut_here fd owns g.has.apart) ∙ ap (owned_at (shut owns fd)) (sym is)
        above other up (inr ne) = get_or-set_other g.has.fds fd other None None ne ∙ g.has.opened.above other up ∙ sym (shut_others fd owns other ne)
