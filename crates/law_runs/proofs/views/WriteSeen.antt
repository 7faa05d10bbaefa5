-- write, as it is seen.
use Rattle.std.proofs.Common.{◌≡◌, ◌≢◌, ◌⊎◌, ℕ, ◌+◌, ◌-◌, ◌<◌, ◌≤◌, Bool, true, false, List, [], ◌++◌, Option, Some, None, length, take, drop, refl, sym, ap, ◌∙◌, subst, inl, inr, arith}
use Rattle.std.specs.Prelude.{◌==◌, min, not, nat_le, nat_lt, if◌then◌else◌, option_map, slice_set}
use Rattle.std.specs.Option.{is_some}
use Rattle.std.proofs.lemmas.Bool.{cases_eq, eqb-true, eqb-false, ne_eqb, eq-eqb, leb-true, leb-false}
use Rattle.std.proofs.lemmas.List.{length-take, length-drop, length-append, nil_from_length, take_all, length-take-le, append-nil, take-append-drop}
use mathlib.Core.Path.{fun_ext}
use Rattle.mem_files.specs.Name.{Name, Bytes}
use Rattle.mem_files.specs.Files.{files, with_file}
use Rattle.mem_files.specs.Overlay.{written}
use Rattle.mem_files.specs.Listing.{with_entry, max_size}
use Rattle.mem_files.proofs.Places.{files-with_entry}
use Rattle.mem_files.proofs.Kept.{at_name}
use Rattle.std.specs.Str.{bytes_eq}
use Rattle.byte_pipe.specs.Limits.{pipe_size}
use Rattle.byte_pipe.specs.declared.Put.{Put}
use Rattle.byte_pipe.specs.declared.Put.TheVariants.{Took, Full as NoRoom, Closed}
use Rattle.byte_pipe.specs.PipeState.{PipeState, room, put_answer, appended, after_put}
use Rattle.user_calls.specs.declared.calls.Call.{Call}
use Rattle.user_calls.specs.declared.calls.Call.TheVariants.{Write}
use Rattle.user_calls.specs.declared.calls.Mode.{Mode}
use Rattle.user_calls.specs.declared.calls.Mode.TheVariants.{Input as ToRead, Fresh, Over, Append}
use Rattle.user_calls.specs.declared.calls.Reply.TheVariants.{Done, Refused}
use Rattle.fd_table.specs.declared.names.Mode.{Mode as EntryMode}
use Rattle.fd_table.specs.declared.names.Object.{Object}
use Rattle.fd_table.specs.declared.names.Object.TheVariants.{Input, Out, Diag, File, PipeRead, PipeWrite}
use Rattle.fd_table.specs.Entries.{OpenFile, entry_at, advanced, moved_on, moved_to, going_on_at}
use Rattle.fd_table.specs.Descriptors.{Descriptors, entry_of}
use Rattle.proc_table.specs.declared.states.Channel.TheVariants.{PipeBytes, PipeRoom}
use Rattle.proc_table.specs.Slots.{Process, at, is_zombie_status, parent_or_init, put_of}
use Rattle.proc_table.specs.Calls.{readied, slept, all_woken}
use Rattle.kernel_model.specs.declared.events.Full.TheVariants.{Size, Memory}
use Rattle.kernel_model.specs.KernelState.{KernelState, fds_at}
use Rattle.kernel_model.specs.Pipes.{pipe_of, with_pipe}
use Rattle.kernel_model.specs.Modes.{entry_mode}
use Rattle.kernel_model.specs.Replies.{answered, refused_for, sleeps, wakes}
use Rattle.kernel_model.specs.Writing.{lacks_memory, write_file, append_file, write_mode, write_by, write_pipe, write_object, write_entry, write_held, write}
use Rattle.kernel_model.specs.Events.{counted}
use Rattle.sh_machine.specs.State.{User}
use Rattle.process_model.specs.Seen.{Entry, input, out, diag, reader, file, Place, Seen, fds_seen, live, Names, view}
use Rattle.process_model.specs.Shows.{IsFile, IsNamed, GoesOnAt, Shows, ShowsIn}
use Rattle.process_model.specs.Effect.{NoHolder, Sets, Rest, Answers, PipeChanges, PlaceChanges, WritesPipe, puts_all, puts_some, has_no_reader, finds_it_full, WritesHere, WritesOver, WritesBehind, WritesFile, WritesAt, further, answered as answered_seen}
use Rattle.law_runs.proofs.views.Tables.{At, others_then, at_ready, ready_others, at_slept, slept_others, at_woken, woken_others, others_refl, sleeps_for_room}
use Rattle.law_runs.proofs.views.Fds.{seen_fd}
use Rattle.law_runs.proofs.views.Showing.{Stay, with_bytes, bytes_here, bytes_elsewhere, shows_bytes}
use Rattle.law_runs.proofs.views.Opened.{with_place, place_here, place_elsewhere, shows_moved}
use Rattle.law_runs.proofs.views.Mid as during
use Rattle.kernel_model.proofs.Quiet.{is_marked}

module _ (g : Names) (k : KernelState User) (p : ℕ) (q : Process User) (up : p ≢ 0) (is : at k.table p ≡ Some q) (alive : is_zombie_status q.status ≡ false) (shows : ShowsIn g k) where
  abbrev Called : KernelState User → Call → Type 0
  Called l call = during.Called g k p q l call

  abbrev next : User
  next = (during.act g k p q).next

  abbrev parent : ℕ
  parent = parent_or_init q.parent

  own : At k.table p q.parent q.machine q.reply q.fds q.put
  own = during.own g k p q up is alive shows

  refusal : Answers (view g k) (view g (answered (counted k) p next Refused)) p parent (during.act g k p q) Refused (fds_seen g.name q.fds)
  refusal = during.only_answers g k p q up is alive shows Refused

  -- ---- to a pipe

  module _ (b : Bytes) (id : ℕ) (pp : PipeState) (found : pipe_of k.pipes id ≡ Some pp) (few : length pp.bytes ≤ pipe_size) (nobody : pp.reader ≡ false → NoHolder (view g k) (reader id)) where
    abbrev left : Bytes
    left = drop q.put b

    abbrev now : PipeState
    now = after_put pp left

    abbrev h : Names
    h = with_bytes g id now.bytes

    abbrev m : KernelState User
    m = record (counted k) { pipes = with_pipe k.pipes id now }

    holds : g.pipes id ≡ pp.bytes
    holds = shows.holds id pp found

    now_shows : Shows h k.entries (with_pipe k.pipes id now) (files k.files) (k.events + 1 + 1)
    now_shows = shows_bytes g k.entries k.pipes (files k.files) (k.events + 1 + 1) id pp now found (during.later_shows g k p q up is alive shows)

    fits_by : (c : Bool) → length (pp.bytes ++ (if c then take (room pp) left else [])) ≤ pipe_size
    fits_by true =
        let size : pipe_size ≡ 512 = refl in
        omega (arith, size, few, length-append {A = ℕ} pp.bytes (take (512 - length pp.bytes) left), length-take {A = ℕ} (512 - length pp.bytes) left)
    fits_by false = omega (arith, few, length-append {A = ℕ} pp.bytes [])

    fits : length (h.pipes id) ≤ pipe_size
    fits = subst (λ (l : List ℕ). length l ≤ pipe_size) (sym (bytes_here g id now.bytes)) (fits_by pp.reader)

    gives : (c : List ℕ) → appended pp left ≡ c → h.pipes id ≡ g.pipes id ++ c
    gives c e = bytes_here g id now.bytes ∙ ap (λ l. pp.bytes ++ l) e ∙ ap (λ l. l ++ c) (sym holds)

    same_rest : (l : KernelState User) → appended pp left ≡ [] → l.files ≡ k.files → l.input ≡ k.input → l.out ≡ k.out → Rest (view g k) (view h l)
    same_rest l none f i o = record { pipes = λ j. by j (cases_eq j id); places = λ e. refl; files = ap files f; input = i; out = o }
      where
        by : (j : ℕ) → (j ≡ id) ⊎ (j ≢ id) → h.pipes j ≡ g.pipes j
        by j (inl same) = ap h.pipes same ∙ gives [] none ∙ append-nil (g.pipes id) ∙ ap g.pipes (sym same)
        by j (inr ne) = bytes_elsewhere g id j now.bytes ne

    changes : (l : KernelState User) → l.files ≡ k.files → l.input ≡ k.input → l.out ≡ k.out → PipeChanges (view g k) (view h l) id
    changes l f i o = record { pipes = λ j ne. bytes_elsewhere g id j now.bytes ne; places = λ e. refl; files = ap files f; input = i; out = o }

    -- answered, or asleep, and the readers woken
    done_sets : Sets (view g k) (view h (wakes (PipeBytes id) (answered m p next Done))) p (answered_seen parent (during.act g k p q) Done (fds_seen g.name q.fds))
    done_sets =
        let t = readied k.table p next Done in
        during.sets g k p q up is alive shows h (wakes (PipeBytes id) (answered m p next Done)) next Done q.fds 0 refl
        (at_woken t p q.parent next Done q.fds 0 (PipeBytes id) (at_ready k.table p q.parent q.machine next q.reply Done q.fds q.put own))
        (others_then g.name k.table t (all_woken (PipeBytes id) t) p (ready_others g.name k.table p next Done) (woken_others g.name t p (PipeBytes id)))

    asleep_sets : (put : ℕ) → Sets (view g k) (view h (wakes (PipeBytes id) (sleeps m p (PipeRoom id) put))) p (live parent (during.act g k p q) put (fds_seen g.name q.fds))
    asleep_sets put =
        let t = slept k.table p (PipeRoom id) put in
        during.sets g k p q up is alive shows h (wakes (PipeBytes id) (sleeps m p (PipeRoom id) put)) q.machine q.reply q.fds put refl
        (at_woken t p q.parent q.machine q.reply q.fds put (PipeBytes id) (at_slept k.table p q.parent q.machine q.reply q.fds q.put put (PipeRoom id) own))
        (others_then g.name k.table t (all_woken (PipeBytes id) t) p (slept_others g.name k.table p put (PipeRoom id)) (woken_others g.name t p (PipeBytes id)))

    abbrev Put' : Put → Type 0
    Put' o = WritesPipe (view g k) (view h (write_by m p next id q.put (length left) o)) p parent q.put (during.act g k p q) (fds_seen g.name q.fds) b id

    abbrev Took' : ℕ → Bool → Type 0
    Took' n c = WritesPipe (view g k) (view h (if c then wakes (PipeBytes id) (answered m p next Done) else wakes (PipeBytes id) (sleeps m p (PipeRoom id) (q.put + n)))) p parent q.put (during.act g k p q) (fds_seen g.name q.fds) b id

    whole : (n : ℕ) → appended pp left ≡ left → (c : Bool) → c ≡ true → Took' n c
    whole n all true t = puts_all (gives left all) fits (changes (wakes (PipeBytes id) (answered m p next Done)) refl refl refl) done_sets
    whole n all false t = absurd (let z : ⊥ = cc in z)

    in_part : (n : ℕ) → 1 ≤ n → n < length left → appended pp left ≡ take n left → (c : Bool) → c ≡ false → Took' n c
    in_part n low high part true t = absurd (let z : ⊥ = cc in z)
    in_part n low high part false t =
        let l = wakes (PipeBytes id) (sleeps m p (PipeRoom id) (q.put + n)) in
        let count = length-take-le n left (omega (arith, high)) in
        puts_some (take n left) (drop n left) (sym (take-append-drop {A = ℕ} n left)) (omega (arith, count, low)) (omega (arith, length-drop {A = ℕ} n left, high)) (gives (take n left) part) fits (changes l refl refl refl)
        (subst (λ put. Sets (view g k) (view h l) p (live parent (during.act g k p q) (q.put + put) (fds_seen g.name q.fds))) (sym count) (asleep_sets (q.put + n)))

    asleep : 1 ≤ length left → appended pp left ≡ [] → Put' NoRoom
    asleep some none =
        let l = wakes (PipeBytes id) (sleeps m p (PipeRoom id) q.put) in
        let s = asleep_sets q.put in
        finds_it_full some (record { slots = λ r. by r (cases_eq r p); rest = same_rest l none refl refl refl }) (sleeps_for_room k.table p q.put id _ own.is)
      where
        by : (r : ℕ) → (r ≡ p) ⊎ (r ≢ p) → (view h (wakes (PipeBytes id) (sleeps m p (PipeRoom id) q.put))).slots r ≡ (view g k).slots r
        by r (inr ne) = (asleep_sets q.put).others r ne
        by r (inl same) = ap (view h (wakes (PipeBytes id) (sleeps m p (PipeRoom id) q.put))).slots same ∙ (asleep_sets q.put).here ∙ sym (during.slot g k p q up is alive shows) ∙ ap (view g k).slots (sym same)

    refused_by : 1 ≤ length left → pp.reader ≡ false → Put' Closed
    refused_by some off =
        let none : appended pp left ≡ [] = ap (λ (c : Bool). if c then take (room pp) left else []) off in
        let l = answered m p next Refused in
        has_no_reader some (nobody off) (record { slots = during.answer_sets g k p q up is alive shows h m q.fds Refused refl own (others_refl g.name k.table p); rest = same_rest l none refl refl refl })

    open_part : pp.reader ≡ true → (n : ℕ) → room pp ≡ n → appended pp left ≡ take n left
    open_part on n e = ap (λ (c : Bool). if c then take (room pp) left else []) on ∙ ap (λ m. take m left) e

    into_room : 1 ≤ length left → pp.reader ≡ true → (n : ℕ) → room pp ≡ n → (c : Bool) → (n == 0) ≡ c → Put' (if c then NoRoom else Took (min n (length left)))
    into_room some on n e true test = asleep some (open_part on n e ∙ ap (λ m. take m left) (eqb-true n 0 test))
    into_room some on n e false test = by (nat_le (length left) n) refl
      where
        low : 1 ≤ n
        low = omega (arith, eqb-false n 0 test)

        by : (c : Bool) → nat_le (length left) n ≡ c → Put' (Took (min n (length left)))
        by true le =
            let l : length left ≤ n = leb-true (length left) n le in
            let same : min n (length left) ≡ length left = omega (arith, l) in
            whole (min n (length left)) (open_part on n e ∙ take_all n left l) (min n (length left) == length left) (eq-eqb (min n (length left)) (length left) same)
        by false le =
            let l : n < length left = leb-false (length left) n le in
            let same : min n (length left) ≡ n = omega (arith, l) in
            in_part (min n (length left)) (omega (arith, same, low)) (omega (arith, same, l)) (open_part on n e ∙ ap (λ m. take m left) (sym same)) (min n (length left) == length left) (ne_eqb (min n (length left)) (length left) (λ z. absurd (omega (arith, z, same, l))))

    while_read : 1 ≤ length left → (c : Bool) → pp.reader ≡ c → Put' (if not c then Closed else (if room pp == 0 then NoRoom else Took (min (room pp) (length left))))
    while_read some true on = into_room some on (room pp) refl (room pp == 0) refl
    while_read some false off = refused_by some off

    nothing_left : left ≡ [] → (c : Bool) → (if c then take (room pp) left else []) ≡ left
    nothing_left none true = ap (take (room pp)) none ∙ take_all {A = ℕ} (room pp) [] (omega arith) ∙ sym none
    nothing_left none false = sym none

    writes_pipe : Put' (put_answer pp left)
    writes_pipe = by (length left == 0) refl
      where
        by : (c : Bool) → (length left == 0) ≡ c → Put' (if c then Took 0 else (if not pp.reader then Closed else (if room pp == 0 then NoRoom else Took (min (room pp) (length left)))))
        by true test =
            let none = eqb-true (length left) 0 test in
            whole 0 (nothing_left (nil_from_length left none) pp.reader) (0 == length left) (eq-eqb 0 (length left) (sym none))
        by false test = while_read (omega (arith, eqb-false (length left) 0 test)) pp.reader refl

    put_shows : (o : Put) → Shows h (write_by m p next id q.put (length left) o).entries (write_by m p next id q.put (length left) o).pipes (files (write_by m p next id q.put (length left) o).files) (k.events + 1 + 1)
    put_shows (Took n) = by (n == length left)
      where
        by : (c : Bool) → Shows h (if c then wakes (PipeBytes id) (answered m p next Done) else wakes (PipeBytes id) (sleeps m p (PipeRoom id) (q.put + n))).entries (if c then wakes (PipeBytes id) (answered m p next Done) else wakes (PipeBytes id) (sleeps m p (PipeRoom id) (q.put + n))).pipes (files (if c then wakes (PipeBytes id) (answered m p next Done) else wakes (PipeBytes id) (sleeps m p (PipeRoom id) (q.put + n))).files) (k.events + 1 + 1)
        by true = now_shows
        by false = now_shows
    put_shows NoRoom = now_shows
    put_shows Closed = now_shows

  -- a write that is seen so
  record Writes' (l : KernelState User) (b : Bytes) (x : Option Entry) : Type 0 where
    names : Names
    shown : Shows names l.entries l.pipes (files l.files) (k.events + 1 + 1)
    effect : WritesAt (view g k) (view names l) p parent q.put (during.act g k p q) (fds_seen g.name q.fds) b x

  denied : (b : Bytes) (x : Option Entry) → (Answers (view g k) (view g (answered (counted k) p next Refused)) p parent (during.act g k p q) Refused (fds_seen g.name q.fds) → WritesAt (view g k) (view g (answered (counted k) p next Refused)) p parent q.put (during.act g k p q) (fds_seen g.name q.fds) b x) → Writes' (answered (counted k) p next Refused) b x
  denied b x into = record { names = g; shown = during.later_shows g k p q up is alive shows; effect = into refusal }

  -- ---- to a file

  module _ (b : Bytes) (e id : ℕ) (f : OpenFile) (entry : entry_at k.entries e ≡ Some f) (name : Name) (named : g.name e ≡ file id) (old : id < k.events + 1) (place_name : (g.places id).name ≡ name) where
    stays_with : (bytes : Bytes) → Stay (files k.files) (files (with_entry k.files name bytes))
    stays_with bytes other was = ap is_some (files-with_entry k.files name bytes other) ∙ by (bytes_eq other name)
      where
        by : (c : Bool) → is_some (if c then Some bytes else files k.files other) ≡ true
        by true = refl
        by false = was

    abbrev place : Place
    place = further (g.places id) (length b)

    abbrev h' : Names
    h' = with_place g id place

    -- the file holds these bytes then, and the entry goes on at this offset
    module _ (bytes : Bytes) (offset : ℕ) (goes : GoesOnAt (g.places id).mode place.at offset) (ob : f.object ≡ File name (entry_mode (g.places id).mode)) where
      abbrev moved : OpenFile
      moved = record { object = f.object; count = f.count; offset = offset }

      abbrev m' : KernelState User
      m' = record (counted k) { files = with_entry k.files name bytes; entries = slice_set k.entries e (Some moved) }

      files_are : files (with_entry k.files name bytes) ≡ with_file (files k.files) name bytes
      files_are = fun_ext (λ other. files-with_entry k.files name bytes other)

      file_shows : Shows h' (slice_set k.entries e (Some moved)) k.pipes (files (with_entry k.files name bytes)) (k.events + 1 + 1)
      file_shows =
          shows_moved g k.entries k.pipes (files k.files) (files (with_entry k.files name bytes)) (k.events + 1 + 1) e id f moved name (entry_mode (g.places id).mode) place entry ob named (omega (arith, old)) place_name refl goes
          (ap is_some (files-with_entry k.files name bytes name ∙ at_name (files k.files) name bytes)) (stays_with bytes) (during.later_shows g k p q up is alive shows)

      file_changes : Sets (view g k) (view h' (answered m' p next Done)) p (answered_seen parent (during.act g k p q) Done (fds_seen g.name q.fds)) × PlaceChanges (view g k) (view h' (answered m' p next Done)) id place (with_file (files k.files) (g.places id).name bytes)
      file_changes = (
        during.answer_sets g k p q up is alive shows h' m' q.fds Done refl own (others_refl g.name k.table p),
        record { place = place_here g id place; files = files_are ∙ ap (λ n. with_file (files k.files) n bytes) (sym place_name); pipes = λ i. refl; places = λ i ne. place_elsewhere g id i place ne; input = refl; out = refl },
      )

    -- over its bytes: the entry goes on at its offset
    module _ (mode : Mode) (way : (g.places id).mode ≡ mode) (plain : (at offset : ℕ) → at ≡ offset → GoesOnAt mode at offset) (ob : f.object ≡ File name (entry_mode mode)) (goes : (g.places id).at ≡ f.offset) (held : Bytes) where
      abbrev Over' : KernelState User → Type 0
      Over' l = (z : Names) × Shows z l.entries l.pipes (files l.files) (k.events + 1 + 1) × WritesHere (view g k) (view z l) p parent (during.act g k p q) (fds_seen g.name q.fds) b id held (nat_lt (length held) (g.places id).at)

      written_over : nat_lt (length held) f.offset ≡ false → Over' (answered (record (counted k) { files = with_entry k.files name (written held f.offset b); entries = advanced k.entries e (length b) }) p next Done)
      written_over inside =
          let bytes = written held f.offset b in
          let offset = f.offset + length b in
          let on : GoesOnAt (g.places id).mode ((g.places id).at + length b) offset = subst (λ w. GoesOnAt w ((g.places id).at + length b) offset) (sym way) (plain ((g.places id).at + length b) offset (ap (λ n. n + length b) goes)) in
          let ob' : f.object ≡ File name (entry_mode (g.places id).mode) = ob ∙ ap (λ w. File name (entry_mode w)) (sym way) in
          let at_entry : advanced k.entries e (length b) ≡ slice_set k.entries e (Some (moved bytes offset on ob')) = ap (λ o. slice_set k.entries e (moved_on (length b) o)) entry in
          let c = file_changes bytes offset on ob' in
          subst (λ E. Over' (answered (record (counted k) { files = with_entry k.files name bytes; entries = E }) p next Done)) (sym at_entry) (
            h',
            file_shows bytes offset on ob',
            subst (WritesHere (view g k) (view h' (answered (m' bytes offset on ob') p next Done)) p parent (during.act g k p q) (fds_seen g.name q.fds) b id held) (sym (ap (nat_lt (length held)) goes ∙ inside))
                (c.0, subst (λ n. PlaceChanges (view g k) (view h' (answered (m' bytes offset on ob') p next Done)) id place (with_file (files k.files) (g.places id).name (written held n b))) (sym goes) c.1),
          )

      leaves_gap : nat_lt (length held) f.offset ≡ true → Over' (answered (counted k) p next Refused)
      leaves_gap gap = (
        g,
        during.later_shows g k p q up is alive shows,
        subst (WritesHere (view g k) (view g (answered (counted k) p next Refused)) p parent (during.act g k p q) (fds_seen g.name q.fds) b id held) (sym (ap (nat_lt (length held)) goes ∙ gap)) refusal,
      )

      over_by : (refused : Bool) → (write_file (counted k) p next e name f.offset b refused (Some held)).full ≡ None → Over' (write_file (counted k) p next e name f.offset b refused (Some held))
      over_by refused full = by_gap (nat_lt (length held) f.offset) refl full
        where
          by_memory : nat_lt (length held) f.offset ≡ false → (c : Bool)
              → (if c then refused_for (counted k) p next Memory else answered (record (counted k) { files = with_entry k.files name (written held f.offset b); entries = advanced k.entries e (length b) }) p next Done).full ≡ None
              → Over' (if c then refused_for (counted k) p next Memory else answered (record (counted k) { files = with_entry k.files name (written held f.offset b); entries = advanced k.entries e (length b) }) p next Done)
          by_memory inside true full = absurd (is_marked k.full Memory full)
          by_memory inside false full = written_over inside

          by_size : nat_lt (length held) f.offset ≡ false → (c : Bool)
              → (if c then refused_for (counted k) p next Size else (if lacks_memory refused (length held) (f.offset + length b) then refused_for (counted k) p next Memory else answered (record (counted k) { files = with_entry k.files name (written held f.offset b); entries = advanced k.entries e (length b) }) p next Done)).full ≡ None
              → Over' (if c then refused_for (counted k) p next Size else (if lacks_memory refused (length held) (f.offset + length b) then refused_for (counted k) p next Memory else answered (record (counted k) { files = with_entry k.files name (written held f.offset b); entries = advanced k.entries e (length b) }) p next Done))
          by_size inside true full = absurd (is_marked k.full Size full)
          by_size inside false full = by_memory inside (lacks_memory refused (length held) (f.offset + length b)) full

          by_gap : (c : Bool) → nat_lt (length held) f.offset ≡ c
              → (if c then answered (counted k) p next Refused else (if nat_lt max_size (f.offset + length b) then refused_for (counted k) p next Size else (if lacks_memory refused (length held) (f.offset + length b) then refused_for (counted k) p next Memory else answered (record (counted k) { files = with_entry k.files name (written held f.offset b); entries = advanced k.entries e (length b) }) p next Done))).full ≡ None
              → Over' (if c then answered (counted k) p next Refused else (if nat_lt max_size (f.offset + length b) then refused_for (counted k) p next Size else (if lacks_memory refused (length held) (f.offset + length b) then refused_for (counted k) p next Memory else answered (record (counted k) { files = with_entry k.files name (written held f.offset b); entries = advanced k.entries e (length b) }) p next Done)))
          by_gap true gap full = leaves_gap gap
          by_gap false inside full = by_size inside (nat_lt max_size (f.offset + length b)) full

    -- behind its bytes
    module _ (way : (g.places id).mode ≡ Append) (ob : f.object ≡ File name (entry_mode Append)) (held : Bytes) where
      abbrev Behind' : KernelState User → Type 0
      Behind' l = (z : Names) × Shows z l.entries l.pipes (files l.files) (k.events + 1 + 1) × WritesBehind (view g k) (view z l) p parent (during.act g k p q) (fds_seen g.name q.fds) b id (Some held)

      written_behind : Behind' (answered (record (counted k) { files = with_entry k.files name (held ++ b); entries = moved_to k.entries e (length held + length b) }) p next Done)
      written_behind =
          let offset = length held + length b in
          let on : GoesOnAt (g.places id).mode ((g.places id).at + length b) offset = subst (λ w. GoesOnAt w ((g.places id).at + length b) offset) (sym way) tt in
          let ob' : f.object ≡ File name (entry_mode (g.places id).mode) = ob ∙ ap (λ w. File name (entry_mode w)) (sym way) in
          let at_entry : moved_to k.entries e offset ≡ slice_set k.entries e (Some (moved (held ++ b) offset on ob')) = ap (λ o. slice_set k.entries e (going_on_at offset o)) entry in
          subst (λ E. Behind' (answered (record (counted k) { files = with_entry k.files name (held ++ b); entries = E }) p next Done)) (sym at_entry)
          (h', file_shows (held ++ b) offset on ob', file_changes (held ++ b) offset on ob')

      behind_by : (refused : Bool) → (append_file (counted k) p next e name b refused (Some held)).full ≡ None → Behind' (append_file (counted k) p next e name b refused (Some held))
      behind_by refused full = by_size (nat_lt max_size (length held + length b)) full
        where
          by_memory : (c : Bool) → (if c then refused_for (counted k) p next Memory else answered (record (counted k) { files = with_entry k.files name (held ++ b); entries = moved_to k.entries e (length held + length b) }) p next Done).full ≡ None
              → Behind' (if c then refused_for (counted k) p next Memory else answered (record (counted k) { files = with_entry k.files name (held ++ b); entries = moved_to k.entries e (length held + length b) }) p next Done)
          by_memory true full = absurd (is_marked k.full Memory full)
          by_memory false full = written_behind

          by_size : (c : Bool) → (if c then refused_for (counted k) p next Size else (if lacks_memory refused (length held) (length held + length b) then refused_for (counted k) p next Memory else answered (record (counted k) { files = with_entry k.files name (held ++ b); entries = moved_to k.entries e (length held + length b) }) p next Done)).full ≡ None
              → Behind' (if c then refused_for (counted k) p next Size else (if lacks_memory refused (length held) (length held + length b) then refused_for (counted k) p next Memory else answered (record (counted k) { files = with_entry k.files name (held ++ b); entries = moved_to k.entries e (length held + length b) }) p next Done))
          by_size true full = absurd (is_marked k.full Size full)
          by_size false full = by_memory (lacks_memory refused (length held) (length held + length b)) full

    -- the file is there
    module _ (there : is_some (files k.files name) ≡ true) (refused : Bool) where
      file_seen : (l : KernelState User) (mode : Mode) → (g.places id).mode ≡ mode → (z : Names) → Shows z l.entries l.pipes (files l.files) (k.events + 1 + 1) → WritesFile (view g k) (view z l) p parent (during.act g k p q) (fds_seen g.name q.fds) b id mode → Writes' l b (Some (file id))
      file_seen l mode way z shown effect = record { names = z; shown = shown; effect = subst (WritesFile (view g k) (view z l) p parent (during.act g k p q) (fds_seen g.name q.fds) b id) (sym way) effect }

      over : (mode : Mode) (way : (g.places id).mode ≡ mode) → ((at offset : ℕ) → at ≡ offset → GoesOnAt mode at offset) → f.object ≡ File name (entry_mode mode) → (g.places id).at ≡ f.offset
          → ((W : Rattle.process_model.specs.Seen.View) → WritesFile (view g k) W p parent (during.act g k p q) (fds_seen g.name q.fds) b id mode ≡ WritesOver (view g k) W p parent (during.act g k p q) (fds_seen g.name q.fds) b id (files k.files (g.places id).name))
          → (write_file (counted k) p next e name f.offset b refused (files k.files name)).full ≡ None → Writes' (write_file (counted k) p next e name f.offset b refused (files k.files name)) b (Some (file id))
      over mode way plain ob goes is_over full = by (files k.files name) refl there full
        where
          by : (o : Option Bytes) → files k.files name ≡ o → is_some o ≡ true → (write_file (counted k) p next e name f.offset b refused o).full ≡ None → Writes' (write_file (counted k) p next e name f.offset b refused o) b (Some (file id))
          by None held some full = absurd (let z : ⊥ = cc in z)
          by (Some bytes) held some full =
              let l = write_file (counted k) p next e name f.offset b refused (Some bytes) in
              let z = over_by mode way plain ob goes bytes refused full in
              file_seen l mode way z.0 z.1 (subst (λ T. T) (sym (is_over (view z.0 l))) (subst (WritesOver (view g k) (view z.0 l) p parent (during.act g k p q) (fds_seen g.name q.fds) b id) (sym (ap (files k.files) place_name ∙ held)) z.2))

      behind : (way : (g.places id).mode ≡ Append) → f.object ≡ File name (entry_mode Append) → (append_file (counted k) p next e name b refused (files k.files name)).full ≡ None → Writes' (append_file (counted k) p next e name b refused (files k.files name)) b (Some (file id))
      behind way ob full = by (files k.files name) refl there full
        where
          by : (o : Option Bytes) → files k.files name ≡ o → is_some o ≡ true → (append_file (counted k) p next e name b refused o).full ≡ None → Writes' (append_file (counted k) p next e name b refused o) b (Some (file id))
          by None held some full = absurd (let z : ⊥ = cc in z)
          by (Some bytes) held some full =
              let l = append_file (counted k) p next e name b refused (Some bytes) in
              let z = behind_by way ob bytes refused full in
              file_seen l Append way z.0 z.1 (subst (WritesBehind (view g k) (view z.0 l) p parent (during.act g k p q) (fds_seen g.name q.fds) b id) (sym (ap (files k.files) place_name ∙ held)) z.2)

  -- ---- to any object

  module _ (small : (id : ℕ) (pp : PipeState) → pipe_of k.pipes id ≡ Some pp → length pp.bytes ≤ pipe_size) (ends : (id : ℕ) (pp : PipeState) → pipe_of k.pipes id ≡ Some pp → pp.reader ≡ false → NoHolder (view g k) (reader id)) (there_is : (e id : ℕ) (f : OpenFile) → entry_at k.entries e ≡ Some f → f.object ≡ PipeWrite id → (pp : PipeState) × (pipe_of k.pipes id ≡ Some pp)) (refused : Bool) where
    file_by : (b : Bytes) (e : ℕ) (f : OpenFile) (name : Name) (mode : EntryMode) → entry_at k.entries e ≡ Some f → f.object ≡ File name mode → (z : IsFile g (files k.files) (k.events + 1) (g.name e) name mode f.offset) → (way : Mode) → (g.places z.id).mode ≡ way → (write_mode (counted k) p next e name f.offset b refused mode).full ≡ None → Writes' (write_mode (counted k) p next e name f.offset b refused mode) b (Some (file z.id))
    file_by b e f name mode entry ob z ToRead way full =
        subst (λ w. Writes' (write_mode (counted k) p next e name f.offset b refused w) b (Some (file z.id))) (ap entry_mode (sym way) ∙ z.moded)
        (denied b (Some (file z.id)) (λ r. subst (WritesFile (view g k) (view g (answered (counted k) p next Refused)) p parent (during.act g k p q) (fds_seen g.name q.fds) b z.id) (sym way) r))
    file_by b e f name mode entry ob z Fresh way full =
        let mode_is : entry_mode Fresh ≡ mode = ap entry_mode (sym way) ∙ z.moded in
        subst (λ w. Writes' (write_mode (counted k) p next e name f.offset b refused w) b (Some (file z.id))) mode_is
        (over b e z.id f entry name z.is z.old z.named z.there refused Fresh way (λ at offset same. same) (ob ∙ ap (File name) (sym mode_is)) (subst (λ w. GoesOnAt w (g.places z.id).at f.offset) way z.goes_on) (λ W. refl) (ap (λ w. (write_mode (counted k) p next e name f.offset b refused w).full) mode_is ∙ full))
    file_by b e f name mode entry ob z Over way full =
        let mode_is : entry_mode Over ≡ mode = ap entry_mode (sym way) ∙ z.moded in
        subst (λ w. Writes' (write_mode (counted k) p next e name f.offset b refused w) b (Some (file z.id))) mode_is
        (over b e z.id f entry name z.is z.old z.named z.there refused Over way (λ at offset same. same) (ob ∙ ap (File name) (sym mode_is)) (subst (λ w. GoesOnAt w (g.places z.id).at f.offset) way z.goes_on) (λ W. refl) (ap (λ w. (write_mode (counted k) p next e name f.offset b refused w).full) mode_is ∙ full))
    file_by b e f name mode entry ob z Append way full =
        let mode_is : entry_mode Append ≡ mode = ap entry_mode (sym way) ∙ z.moded in
        subst (λ w. Writes' (write_mode (counted k) p next e name f.offset b refused w) b (Some (file z.id))) mode_is
        (behind b e z.id f entry name z.is z.old z.named z.there refused way (ob ∙ ap (File name) (sym mode_is)) (ap (λ w. (write_mode (counted k) p next e name f.offset b refused w).full) mode_is ∙ full))

    by_object : (b : Bytes) (e : ℕ) (f : OpenFile) (o : Object) → entry_at k.entries e ≡ Some f → f.object ≡ o → IsNamed g (files k.files) (k.events + 1) (g.name e) o f.offset → (write_object (counted k) p next e f.offset b refused o).full ≡ None → Writes' (write_object (counted k) p next e f.offset b refused o) b (Some (g.name e))
    by_object b e f Input entry ob n full = subst (λ x. Writes' (answered (counted k) p next Refused) b (Some x)) (sym n) (denied b (Some input) (λ r. r))
    by_object b e f (PipeRead id) entry ob n full = subst (λ x. Writes' (answered (counted k) p next Refused) b (Some x)) (sym n.0) (denied b (Some (reader id)) (λ r. r))
    by_object b e f Out entry ob n full = subst (λ x. Writes' (write_object (counted k) p next e f.offset b refused Out) b (Some x)) (sym n) (by (lacks_memory refused (length k.out) (length k.out + length b)) full)
      where
        by : (c : Bool) → (if c then refused_for (counted k) p next Memory else answered (record (counted k) { out = k.out ++ b }) p next Done).full ≡ None → Writes' (if c then refused_for (counted k) p next Memory else answered (record (counted k) { out = k.out ++ b }) p next Done) b (Some out)
        by true full = absurd (is_marked k.full Memory full)
        by false full = record {
          names = g;
          shown = during.later_shows g k p q up is alive shows;
          effect = (during.answer_sets g k p q up is alive shows g (record (counted k) { out = k.out ++ b }) q.fds Done refl own (others_refl g.name k.table p), refl, record { pipes = λ i. refl; places = λ i. refl; files = refl; input = refl });
        }
    by_object b e f Diag entry ob n full = subst (λ x. Writes' (write_object (counted k) p next e f.offset b refused Diag) b (Some x)) (sym n) (by (lacks_memory refused (length k.diag) (length k.diag + length b)) full)
      where
        by : (c : Bool) → (if c then refused_for (counted k) p next Memory else answered (record (counted k) { diag = k.diag ++ b }) p next Done).full ≡ None → Writes' (if c then refused_for (counted k) p next Memory else answered (record (counted k) { diag = k.diag ++ b }) p next Done) b (Some diag)
        by true full = absurd (is_marked k.full Memory full)
        by false full = record {
          names = g;
          shown = during.later_shows g k p q up is alive shows;
          effect = record { slots = during.answer_sets g k p q up is alive shows g (record (counted k) { diag = k.diag ++ b }) q.fds Done refl own (others_refl g.name k.table p); rest = during.rest g k p q up is alive shows (answered (record (counted k) { diag = k.diag ++ b }) p next Done) refl refl refl };
        }
    by_object b e f (PipeWrite id) entry ob n full =
        let t = there_is e id f entry ob in
        let put_is : put_of (at k.table p) ≡ q.put = ap put_of is in
        let l = write_pipe (counted k) p next id q.put (drop q.put b) (Some t.0) in
        let all : write_object (counted k) p next e f.offset b refused (PipeWrite id) ≡ l = ap (λ m. write_pipe (counted k) p next id m (drop m b) (pipe_of k.pipes id)) put_is ∙ ap (write_pipe (counted k) p next id q.put (drop q.put b)) t.1 in
        subst (λ l. Writes' l b (Some (g.name e))) (sym all)
        (subst (λ x. Writes' l b (Some x)) (sym n.0)
        (record {
          names = h b id t.0 t.1 (small id t.0 t.1) (ends id t.0 t.1);
          shown = put_shows b id t.0 t.1 (small id t.0 t.1) (ends id t.0 t.1) (put_answer t.0 (drop q.put b));
          effect = writes_pipe b id t.0 t.1 (small id t.0 t.1) (ends id t.0 t.1);
        }))
    by_object b e f (File name mode) entry ob n full =
        subst (λ x. Writes' (write_object (counted k) p next e f.offset b refused (File name mode)) b (Some x)) (sym n.is)
        (file_by b e f name mode entry ob n (g.places n.id).mode refl full)

    module _ (used : (r fd e : ℕ) → entry_of (fds_at k r) fd ≡ Some e → (f : OpenFile) × (entry_at k.entries e ≡ Some f)) where
      by_entry : (b : Bytes) (fd : ℕ) (o : Option ℕ) → entry_of q.fds fd ≡ o → (write_held (counted k) p next b refused o).full ≡ None → Writes' (write_held (counted k) p next b refused o) b (option_map g.name o)
      by_entry b fd None held full = denied b None (λ r. r)
      by_entry b fd (Some e) held full =
          let f = used p fd e (ap (λ d. entry_of d fd) (during.fds_are g k p q up is alive shows) ∙ held) in
          subst (λ o. Writes' (write_entry (counted k) p next e b refused o) b (Some (g.name e))) (sym f.1)
          (by_object b e f.0 f.0.object f.1 refl (shows.named e f.0 f.1) (ap (λ o. (write_entry (counted k) p next e b refused o).full) (sym f.1) ∙ full))

      pub writes_call : (fd : ℕ) (b : Bytes) → (write (counted k) p next fd b refused).full ≡ None → Called (write (counted k) p next fd b refused) (Write fd b)
      writes_call fd b full =
          let same = during.fds_are g k p q up is alive shows in
          let R : Descriptors → KernelState User = λ d. write_held (counted k) p next b refused (entry_of d fd) in
          let z = by_entry b fd (entry_of q.fds fd) refl (ap (λ d. (R d).full) (sym same) ∙ full) in
          subst (λ d. Called (R d) (Write fd b)) (sym same) (record {
            names = z.names;
            shows = z.shown;
            effect = subst (WritesAt (view g k) (view z.names (R q.fds)) p parent q.put (during.act g k p q) (fds_seen g.name q.fds) b) (sym (seen_fd g.name q.fds fd)) z.effect;
          })
