-- read, as it is seen.
use Rattle.std.proofs.Common.{◌≡◌, ◌≢◌, ◌⊎◌, ℕ, zero, suc, ◌+◌, ◌<◌, ◌≤◌, Bool, true, false, List, [], Option, Some, None, length, take, drop, refl, sym, ap, ◌∙◌, subst, inl, inr, arith}
use Rattle.std.specs.Prelude.{◌==◌, min, if◌then◌else◌, option_map, slice_set}
use Rattle.std.specs.Option.{is_some}
use Rattle.std.proofs.lemmas.Bool.{cases_eq, eqb-true, eqb-false}
use Rattle.std.proofs.lemmas.List.{nil_from_length}
use Rattle.mem_files.specs.Name.{Name, Bytes}
use Rattle.mem_files.specs.Files.{files}
use Rattle.byte_pipe.specs.declared.Take.{Take}
use Rattle.byte_pipe.specs.declared.Take.TheVariants.{Got, Empty, End}
use Rattle.byte_pipe.specs.PipeState.{PipeState, take_answer, after_take}
use Rattle.user_calls.specs.Limits.{block_size}
use Rattle.user_calls.specs.declared.calls.Call.{Call}
use Rattle.user_calls.specs.declared.calls.Call.TheVariants.{Read}
use Rattle.user_calls.specs.declared.calls.Mode.{Mode}
use Rattle.user_calls.specs.declared.calls.Mode.TheVariants.{Input as ToRead, Fresh, Over, Append}
use Rattle.user_calls.specs.declared.calls.Reply.TheVariants.{Bytes as Bytes', Refused}
use Rattle.fd_table.specs.declared.names.Mode.{Mode as EntryMode}
use Rattle.fd_table.specs.declared.names.Object.{Object}
use Rattle.fd_table.specs.declared.names.Object.TheVariants.{Input, Out, Diag, File, PipeRead, PipeWrite}
use Rattle.fd_table.specs.Entries.{OpenFile, entry_at, advanced, moved_on}
use Rattle.fd_table.specs.Descriptors.{Descriptors, entry_of}
use Rattle.proc_table.specs.declared.states.Channel.TheVariants.{PipeBytes, PipeRoom}
use Rattle.proc_table.specs.Slots.{Process, at, is_zombie_status, parent_or_init}
use Rattle.proc_table.specs.Calls.{readied}
use Rattle.kernel_model.specs.KernelState.{KernelState, fds_at}
use Rattle.kernel_model.specs.Pipes.{pipe_of, with_pipe}
use Rattle.kernel_model.specs.Modes.{entry_mode}
use Rattle.kernel_model.specs.Replies.{answered, sleeps, wakes}
use Rattle.kernel_model.specs.Reading.{read_file, read_mode, read_by, read_pipe, read_object, read_entry, read_held, read}
use Rattle.kernel_model.specs.Events.{counted}
use Rattle.sh_machine.specs.State.{User}
use Rattle.process_model.specs.Seen.{Entry, out, diag, reader, writer, file, fds_seen, Names, view}
use Rattle.process_model.specs.Shows.{IsFile, IsNamed, GoesOnAt, Shows, ShowsIn}
use Rattle.process_model.specs.Effect.{NoHolder, Sets, Rest, Answers, PlaceChanges, ReadsPipe, gets, meets_end, finds_none, ReadsBytes, ReadsFile, ReadsAt, further, answered as answered_seen}
use Rattle.law_runs.proofs.views.Tables.{At, others_then, at_ready, ready_others, at_slept, slept_others, at_woken, woken_others, others_refl, slept_sleeps}
use Rattle.law_runs.proofs.views.Fds.{seen_fd}
use Rattle.law_runs.proofs.views.Showing.{with_bytes, bytes_here, bytes_elsewhere, shows_bytes}
use Rattle.law_runs.proofs.views.Opened.{with_place, place_here, place_elsewhere, shows_moved}
use Rattle.law_runs.proofs.views.Mid as during

drop_none : (n : ℕ) (xs : List ℕ) → xs ≡ [] → drop n xs ≡ xs
drop_none n xs none = ap (drop n) none ∙ by n ∙ sym none
  where
    by : (n : ℕ) → drop {A = ℕ} n [] ≡ []
    by zero = refl
    by (suc n) = refl

module _ (g : Names) (k : KernelState User) (p : ℕ) (q : Process User) (up : p ≢ 0) (is : at k.table p ≡ Some q) (alive : is_zombie_status q.status ≡ false) (shows : ShowsIn g k) where
  abbrev Called : KernelState User → Call → Type 0
  Called l call = during.Called g k p q l call

  abbrev next : User
  next = (during.act g k p q).next

  abbrev parent : ℕ
  parent = parent_or_init q.parent

  own : At k.table p q.parent q.machine q.reply q.fds q.put
  own = during.own g k p q up is alive shows

  refusal : Answers (view g k) (view g (answered (counted k) p next Refused)) p parent (during.act g k p q) Refused (fds_seen g.name q.fds)
  refusal = during.only_answers g k p q up is alive shows Refused

  -- a read that is seen so
  record Reads' (l : KernelState User) (most : ℕ) (x : Option Entry) : Type 0 where
    names : Names
    shown : Shows names l.entries l.pipes (files l.files) (k.events + 1 + 1)
    effect : Rattle.process_model.specs.Effect.ReadsAt (view g k) (view names l) p parent (during.act g k p q) (fds_seen g.name q.fds) most x

  denied : (most : ℕ) (x : Option Entry) → (Answers (view g k) (view g (answered (counted k) p next Refused)) p parent (during.act g k p q) Refused (fds_seen g.name q.fds) → Rattle.process_model.specs.Effect.ReadsAt (view g k) (view g (answered (counted k) p next Refused)) p parent (during.act g k p q) (fds_seen g.name q.fds) most x) → Reads' (answered (counted k) p next Refused) most x
  denied most x into = record { names = g; shown = during.later_shows g k p q up is alive shows; effect = into refusal }

  -- ---- of a pipe

  module _ (most id : ℕ) (pp : PipeState) (found : pipe_of k.pipes id ≡ Some pp) (nobody : pp.writer ≡ false → NoHolder (view g k) (writer id)) where
    abbrev h : Names
    h = with_bytes g id (after_take pp most).bytes

    abbrev m : KernelState User
    m = record (counted k) { pipes = with_pipe k.pipes id (after_take pp most) }

    holds : g.pipes id ≡ pp.bytes
    holds = shows.holds id pp found

    now_shows : Shows h k.entries (with_pipe k.pipes id (after_take pp most)) (files k.files) (k.events + 1 + 1)
    now_shows = shows_bytes g k.entries k.pipes (files k.files) (k.events + 1 + 1) id pp (after_take pp most) found (during.later_shows g k p q up is alive shows)

    -- what the pipe holds, where nothing was taken
    same_rest : (l : KernelState User) → pp.bytes ≡ [] → l.files ≡ k.files → l.input ≡ k.input → l.out ≡ k.out → Rest (view g k) (view h l)
    same_rest l none f i o = record {
      pipes = λ j. by j (cases_eq j id);
      places = λ e. refl;
      files = ap files f;
      input = i;
      out = o;
    }
      where
        by : (j : ℕ) → (j ≡ id) ⊎ (j ≢ id) → h.pipes j ≡ g.pipes j
        by j (inl same) = ap h.pipes same ∙ bytes_here g id (after_take pp most).bytes ∙ drop_none most pp.bytes none ∙ sym holds ∙ ap g.pipes (sym same)
        by j (inr ne) = bytes_elsewhere g id j (after_take pp most).bytes ne

    abbrev Read' : Take → Type 0
    Read' o = ReadsPipe (view g k) (view h (read_by m p next id (take most pp.bytes) o)) p parent (during.act g k p q) (fds_seen g.name q.fds) most id

    got : (n : ℕ) → 1 ≤ length pp.bytes → Read' (Got n)
    got n some =
        let l = wakes (PipeRoom id) (answered m p next (Bytes' (take most pp.bytes))) in
        let at_it = at_woken (readied k.table p next (Bytes' (take most pp.bytes))) p q.parent next (Bytes' (take most pp.bytes)) q.fds 0 (PipeRoom id) (at_ready k.table p q.parent q.machine next q.reply (Bytes' (take most pp.bytes)) q.fds q.put own) in
        let others = others_then g.name k.table (readied k.table p next (Bytes' (take most pp.bytes))) l.table p (ready_others g.name k.table p next (Bytes' (take most pp.bytes))) (woken_others g.name (readied k.table p next (Bytes' (take most pp.bytes))) p (PipeRoom id)) in
        gets (subst (λ (b : Bytes). 1 ≤ length b) (sym holds) some) (bytes_here g id (after_take pp most).bytes ∙ ap (drop most) (sym holds))
        (record { pipes = λ j ne. bytes_elsewhere g id j (after_take pp most).bytes ne; places = λ e. refl; files = refl; input = refl; out = refl })
        (subst (λ b. Sets (view g k) (view h l) p (answered_seen parent (during.act g k p q) (Bytes' (take most b)) (fds_seen g.name q.fds))) (sym holds) (during.sets g k p q up is alive shows h l next (Bytes' (take most pp.bytes)) q.fds 0 refl at_it others))

    none_yet : pp.bytes ≡ [] → Read' Empty
    none_yet none =
        let l = sleeps m p (PipeBytes id) 0 in
        finds_none (holds ∙ none) (during.sets g k p q up is alive shows h l q.machine q.reply q.fds 0 refl (at_slept k.table p q.parent q.machine q.reply q.fds q.put 0 (PipeBytes id) own) (slept_others g.name k.table p 0 (PipeBytes id))) (same_rest l none refl refl refl) (slept_sleeps k.table p 0 _ (PipeBytes id) own.is)

    ended : pp.bytes ≡ [] → pp.writer ≡ false → Read' End
    ended none off =
        let l = answered m p next (Bytes' []) in
        meets_end (holds ∙ none) (nobody off) (record { slots = during.answer_sets g k p q up is alive shows h m q.fds (Bytes' []) refl own (others_refl g.name k.table p); rest = same_rest l none refl refl refl })

    reads_pipe : Read' (take_answer pp most)
    reads_pipe = by (length pp.bytes == 0) refl
      where
        by_writer : (b : Bool) → pp.writer ≡ b → pp.bytes ≡ [] → Read' (if b then Empty else End)
        by_writer true on none = none_yet none
        by_writer false off none = ended none off

        by : (b : Bool) → (length pp.bytes == 0) ≡ b → Read' (if b then (if pp.writer then Empty else End) else Got (min (length pp.bytes) most))
        by true test = by_writer pp.writer refl (nil_from_length pp.bytes (eqb-true (length pp.bytes) 0 test))
        by false test = got (min (length pp.bytes) most) (omega (arith, eqb-false (length pp.bytes) 0 test))

    read_shows : (o : Take) → Shows h (read_by m p next id (take most pp.bytes) o).entries (read_by m p next id (take most pp.bytes) o).pipes (files (read_by m p next id (take most pp.bytes) o).files) (k.events + 1 + 1)
    read_shows (Got n) = now_shows
    read_shows Empty = now_shows
    read_shows End = now_shows

    from_pipe : Reads' (read_pipe (counted k) p next id most (Some pp)) most (Some (reader id))
    from_pipe = record { names = h; shown = read_shows (take_answer pp most); effect = reads_pipe }

  -- ---- of a file

  module _ (most e id : ℕ) (f : OpenFile) (entry : entry_at k.entries e ≡ Some f) (name : Name) (named : g.name e ≡ file id) (old : id < k.events + 1) (file_is : f.object ≡ File name (entry_mode ToRead)) (place_name : (g.places id).name ≡ name) (place_mode : (g.places id).mode ≡ ToRead) (goes : (g.places id).at ≡ f.offset) (there : is_some (files k.files name) ≡ true) where
    read_bytes : (bytes : Bytes) → files k.files name ≡ Some bytes → Reads' (read_file (counted k) p next e f.offset most (Some bytes)) most (Some (file id))
    read_bytes bytes held =
        let count = length (take most (drop f.offset bytes)) in
        let place = further (g.places id) count in
        let h = with_place g id place in
        let m = record (counted k) { entries = advanced k.entries e count } in
        let l = answered m p next (Bytes' (take most (drop f.offset bytes))) in
        let moved : advanced k.entries e count ≡ slice_set k.entries e (Some (record { object = f.object; count = f.count; offset = f.offset + count })) = ap (λ o. slice_set k.entries e (moved_on count o)) entry in
        let V = view g k in
        let W = view h l in
        let effect : ReadsBytes V W p parent (during.act g k p q) (fds_seen g.name q.fds) most id (Some bytes) =
        subst (λ (n : ℕ). Sets V W p (answered_seen parent (during.act g k p q) (Bytes' (take most (drop n bytes))) (fds_seen g.name q.fds)) × PlaceChanges V W id (further (g.places id) (length (take most (drop n bytes)))) V.files) (sym goes) (
          during.answer_sets g k p q up is alive shows h m q.fds (Bytes' (take most (drop f.offset bytes))) refl own (others_refl g.name k.table p),
          record { place = place_here g id place; files = refl; pipes = λ i. refl; places = λ i ne. place_elsewhere g id i place ne; input = refl; out = refl },
        ) in
        record {
          names = h;
          shown = subst (λ E. Shows h E k.pipes (files k.files) (k.events + 1 + 1)) (sym moved)
              (shows_moved g k.entries k.pipes (files k.files) (files k.files) (k.events + 1 + 1) e id f (record { object = f.object; count = f.count; offset = f.offset + count }) name (entry_mode ToRead) place entry file_is named (omega (arith, old)) place_name (ap entry_mode place_mode) (subst (λ mode. GoesOnAt mode ((g.places id).at + count) (f.offset + count)) (sym place_mode) (ap (λ n. n + count) goes)) there (λ n y. y) (during.later_shows g k p q up is alive shows));
          effect =
              subst (λ mode. ReadsFile V W p parent (during.act g k p q) (fds_seen g.name q.fds) most id mode) (sym place_mode)
              (subst (λ n. ReadsBytes V W p parent (during.act g k p q) (fds_seen g.name q.fds) most id (files k.files n)) (sym place_name)
              (subst (ReadsBytes V W p parent (during.act g k p q) (fds_seen g.name q.fds) most id) (sym held) effect));
        }

    from_file : Reads' (read_file (counted k) p next e f.offset most (files k.files name)) most (Some (file id))
    from_file = by (files k.files name) refl there
      where
        by : (o : Option Bytes) → files k.files name ≡ o → is_some o ≡ true → Reads' (read_file (counted k) p next e f.offset most o) most (Some (file id))
        by None held some = absurd (let z : ⊥ = cc in z)
        by (Some bytes) held some = read_bytes bytes held

  -- ---- of any object

  module _ (ends : (id : ℕ) (pp : PipeState) → pipe_of k.pipes id ≡ Some pp → pp.writer ≡ false → NoHolder (view g k) (writer id)) (there_is : (e id : ℕ) (f : OpenFile) → entry_at k.entries e ≡ Some f → f.object ≡ PipeRead id → (pp : PipeState) × (pipe_of k.pipes id ≡ Some pp)) where
    file_by : (most e : ℕ) (f : OpenFile) (name : Name) (mode : EntryMode) → entry_at k.entries e ≡ Some f → f.object ≡ File name mode → (z : IsFile g (files k.files) (k.events + 1) (g.name e) name mode f.offset) → (way : Mode) → (g.places z.id).mode ≡ way → Reads' (read_mode (counted k) p next e f.offset most (files k.files name) mode) most (Some (file z.id))
    file_by most e f name mode entry ob z ToRead way =
        let mode_is : entry_mode ToRead ≡ mode = ap entry_mode (sym way) ∙ z.moded in
        let goes : (g.places z.id).at ≡ f.offset = subst (λ w. GoesOnAt w (g.places z.id).at f.offset) way z.goes_on in
        subst (λ w. Reads' (read_mode (counted k) p next e f.offset most (files k.files name) w) most (Some (file z.id))) mode_is
        (from_file most e z.id f entry name z.is z.old (ob ∙ ap (File name) (sym mode_is)) z.named way goes z.there)
    file_by most e f name mode entry ob z Fresh way =
        subst (λ w. Reads' (read_mode (counted k) p next e f.offset most (files k.files name) w) most (Some (file z.id))) (ap entry_mode (sym way) ∙ z.moded)
        (denied most (Some (file z.id)) (λ r. subst (λ w. ReadsFile (view g k) (view g (answered (counted k) p next Refused)) p parent (during.act g k p q) (fds_seen g.name q.fds) most z.id w) (sym way) r))
    file_by most e f name mode entry ob z Over way =
        subst (λ w. Reads' (read_mode (counted k) p next e f.offset most (files k.files name) w) most (Some (file z.id))) (ap entry_mode (sym way) ∙ z.moded)
        (denied most (Some (file z.id)) (λ r. subst (λ w. ReadsFile (view g k) (view g (answered (counted k) p next Refused)) p parent (during.act g k p q) (fds_seen g.name q.fds) most z.id w) (sym way) r))
    file_by most e f name mode entry ob z Append way =
        subst (λ w. Reads' (read_mode (counted k) p next e f.offset most (files k.files name) w) most (Some (file z.id))) (ap entry_mode (sym way) ∙ z.moded)
        (denied most (Some (file z.id)) (λ r. subst (λ w. ReadsFile (view g k) (view g (answered (counted k) p next Refused)) p parent (during.act g k p q) (fds_seen g.name q.fds) most z.id w) (sym way) r))

    by_object : (most e : ℕ) (f : OpenFile) (o : Object) → entry_at k.entries e ≡ Some f → f.object ≡ o → IsNamed g (files k.files) (k.events + 1) (g.name e) o f.offset → Reads' (read_object (counted k) p next e f.offset most o) most (Some (g.name e))
    by_object most e f Input entry ob n =
        let m = record (counted k) { input = drop most k.input } in
        subst (λ x. Reads' (read_object (counted k) p next e f.offset most Input) most (Some x)) (sym n) (record {
          names = g;
          shown = during.later_shows g k p q up is alive shows;
          effect = (during.answer_sets g k p q up is alive shows g m q.fds (Bytes' (take most k.input)) refl own (others_refl g.name k.table p), refl, record { pipes = λ i. refl; places = λ i. refl; files = refl; out = refl });
        })
    by_object most e f Out entry ob n = subst (λ x. Reads' (answered (counted k) p next Refused) most (Some x)) (sym n) (denied most (Some out) (λ r. r))
    by_object most e f Diag entry ob n = subst (λ x. Reads' (answered (counted k) p next Refused) most (Some x)) (sym n) (denied most (Some diag) (λ r. r))
    by_object most e f (PipeWrite id) entry ob n = subst (λ x. Reads' (answered (counted k) p next Refused) most (Some x)) (sym n.0) (denied most (Some (writer id)) (λ r. r))
    by_object most e f (PipeRead id) entry ob n =
        let t = there_is e id f entry ob in
        subst (λ x. Reads' (read_object (counted k) p next e f.offset most (PipeRead id)) most (Some x)) (sym n.0)
        (subst (λ o. Reads' (read_pipe (counted k) p next id most o) most (Some (reader id))) (sym t.1) (from_pipe most id t.0 t.1 (ends id t.0 t.1)))
    by_object most e f (File name mode) entry ob n =
        subst (λ x. Reads' (read_object (counted k) p next e f.offset most (File name mode)) most (Some x)) (sym n.is)
        (file_by most e f name mode entry ob n (g.places n.id).mode refl)

    module _ (used : (r fd e : ℕ) → entry_of (fds_at k r) fd ≡ Some e → (f : OpenFile) × (entry_at k.entries e ≡ Some f)) where
      by_entry : (most fd : ℕ) (o : Option ℕ) → entry_of q.fds fd ≡ o → Reads' (read_held (counted k) p next most o) most (option_map g.name o)
      by_entry most fd None held = denied most None (λ r. r)
      by_entry most fd (Some e) held =
          let f = used p fd e (ap (λ d. entry_of d fd) (during.fds_are g k p q up is alive shows) ∙ held) in
          subst (λ o. Reads' (read_entry (counted k) p next e most o) most (Some (g.name e))) (sym f.1)
          (by_object most e f.0 f.0.object f.1 refl (shows.named e f.0 f.1))

      pub reads_call : (fd most : ℕ) → Called (read (counted k) p next fd most) (Read fd most)
      reads_call fd most =
          let same = during.fds_are g k p q up is alive shows in
          let z = by_entry (min most block_size) fd (entry_of q.fds fd) refl in
          let R : Descriptors → KernelState User = λ d. read_held (counted k) p next (min most block_size) (entry_of d fd) in
          subst (λ d. Called (R d) (Read fd most)) (sym same) (record {
            names = z.names;
            shows = z.shown;
            effect = subst (λ x. Rattle.process_model.specs.Effect.ReadsAt (view g k) (view z.names (R q.fds)) p parent (during.act g k p q) (fds_seen g.name q.fds) (min most block_size) x) (sym (seen_fd g.name q.fds fd)) z.effect;
          })
