-- Each call of a program, by what it does.
use Rattle.std.proofs.Common.{◌≡◌, ◌≢◌, ◌⊎◌, inl, inr, ℕ, zero, suc, ◌+◌, ◌-◌, ◌<◌, ◌≤◌, ◌==◌, nat_lt, Bool, true, false, List, [], ◌∷◌, ◌++◌, length, drop, take, Option, Some, None, refl, sym, ap, ◌∙◌, subst, arith}
use Rattle.std.specs.Prelude.{◌||◌, if◌then◌else◌, min, slice_set}
use Rattle.std.specs.List.{list_any}
use Rattle.std.specs.Str.{bytes_eq}
use Rattle.std.proofs.lemmas.Bool.{cases_eq, or_right, eq-eqb}
use Rattle.std.proofs.lemmas.List.{get_or-set_same, get_or-set_other, length-take, length-drop, length-append}
use Rattle.std.proofs.lemmas.Slice.Eq.{bytes_eq-Decides}
use Rattle.mem_files.specs.Name.{Name, Bytes, is_openable}
use Rattle.mem_files.specs.Files.{FileMap, with_file, bytes_of}
use Rattle.mem_files.specs.Overlay.{written}
use Rattle.prog_parts.specs.declared.program.Program.{Program}
use Rattle.prog_parts.specs.declared.program.Program.TheVariants.{Cat, Echo, Grep, Head, Tee, Wc}
use Rattle.prog_parts.specs.Program.{file_words}
use Rattle.prog_parts.specs.Words.{files_written}
use Rattle.script_load.specs.declared.profile.Profile.{Profile}
use Rattle.user_calls.specs.Limits.{block_size}
use Rattle.user_calls.specs.declared.calls.Call.{Call}
use Rattle.user_calls.specs.declared.calls.Call.TheVariants.{Fork, Exec, Exit, Wait, MakePipe, Read, Write, OpenFile, Close, Dup}
use Rattle.user_calls.specs.declared.calls.Mode.{Mode}
use Rattle.user_calls.specs.declared.calls.Mode.TheVariants.{Input as ToRead, Fresh, Over, Append}
use Rattle.user_calls.specs.declared.calls.Reply.{Reply}
use Rattle.user_calls.specs.declared.calls.Reply.TheVariants.{Done, Bytes as Bytes', Fd, Refused}
use Rattle.user_progs.specs.State.{State, begins, echo_word, echo_space, opens, works, closes, tees, told, ended}
use Rattle.user_progs.specs.Turn.{yields, bytes_in, fd_in, block}
use Rattle.tree_model.specs.Exits.{bytes_told}
use Rattle.tree_model.specs.FilesAhead.{Sizes, sizes}
use Rattle.tree_model.specs.Tame.{Among, mode_of, IsTame, opened_after, without}
use Rattle.tree_model.specs.ProgramBytes.{call_bytes}
use Rattle.sh_machine.specs.State.{program}
use Rattle.process_model.specs.Seen.{Entry, input, out, diag, reader, writer, file, Fds, fd_at, Act, Seen, Place, View}
use Rattle.process_model.specs.Own.{IsWriter}
use Rattle.process_model.specs.Effect.{Sets, Answers as Answered, InputChanges, PipeChanges, PlaceChanges, Exits, further, answered, given, Opens, OpensBy, OpensNamed, files_read, files_opened, ReadsPipe, gets, meets_end, finds_none, ReadsBytes, ReadsFile, ReadsAt, WritesPipe, puts_all, puts_some, has_no_reader, finds_it_full, WritesHere, WritesOver, WritesBehind, WritesFile, WritesAt, ClosesAt, EffectBy, IsCall}
use Rattle.law_runs.proofs.standing.CallKinds.{effect_at}
use Rattle.law_runs.proofs.standing.LowestFree.{IsLowest, is_lowest}
use Rattle.law_runs.proofs.standing.Openable.{whole}
use Rattle.law_trees.proofs.tree_ends.Growing.{written_size}
use Rattle.law_limits.proofs.behind.Sums.{put_here, put_there}
use Rattle.room_model.specs.Place.{counted_if}
use Rattle.law_limits.proofs.sizes.Doings.{Goal, a_pipe, a_file, goes_by, goes_to, has, names_of, written_by, Doing, over, runs, IsFine, IsOwnFile, IsAsked, OpensIts, fd_source, name_opened, ahead, ahead_by, writes_to, IsRun, Is}
use Rattle.law_limits.proofs.sizes.Later.{Later, run_old, own_still, by_less}
use Rattle.law_limits.proofs.sizes.Giving.{Answers}
use Rattle.law_limits.proofs.sizes.Effects.{cap, less_by, rest_later, input_later, out_later, pipe_later, less_later, further_later, new_later, has_same}
use Rattle.law_limits.proofs.sizes.Running.{Kept, GivesNone, Goes, goes_on, holds_on}

some_is : (x y : ℕ) → Some x ≡ Some y → x ≡ y
some_is x y same = cc

shut_none : (d : Fds) (fd : ℕ) → fd_at (slice_set d fd None) fd ≡ None
shut_none [] fd = refl
shut_none (x ∷ d) zero = refl
shut_none (x ∷ d) (suc fd) = shut_none d fd

among_still : (fd other : ℕ) (opened : List ℕ) → Among fd (without other opened) → Among fd opened
among_still fd other [] among = among
among_still fd other (n ∷ later) among = by (n == other) among (among_still fd other later)
  where
    by : (b : Bool) → Among fd (if b then later else n ∷ without other later) → (Among fd (without other later) → Among fd later) → Among fd (n ∷ later)
    by true among rest = inr among
    by false (inl same) rest = inl same
    by false (inr among) rest = inr (rest among)

counted_yes : (c : Bool) (n : ℕ) → c ≡ true → counted_if c n ≡ n
counted_yes c n is = ap (λ b. counted_if b n) is

among_any : (word : Name) (words : List Name) → Among word words → list_any (bytes_eq word) words ≡ true
among_any word [] among = absurd among
among_any word (first ∷ later) (inl same) = ap (λ b. b || list_any (bytes_eq word) later) ((bytes_eq-Decides word first).1 same)
among_any word (first ∷ later) (inr among) = or_right (bytes_eq word first) (list_any (bytes_eq word) later) (among_any word later among)

module _ (profile : Profile) (L : Sizes) (V W : View) (N : ℕ → ℕ) (p : ℕ) (which : Program) (arguments : List Bytes) (call : Call) (state : State) (put : ℕ) (d : Fds) where
  abbrev Now : Type 0
  Now = Goes profile L V W N p (runs which arguments call state put d)

  abbrev act : Act
  act = record { call = call; next = program state }

  abbrev counts : Goal → Bool
  counts x = writes_to L V N x which arguments d

  -- a place has room for what it has
  abbrev pub Within : Type 0
  Within = (x : Goal) → has V x ≤ cap L N x

  module _ (r : IsRun profile V p which arguments call state put d) (next : W.next ≡ V.next + 1) (within : Within) where
    -- the files are the same
    same_files : W.files ≡ V.files → (f : Name) → written_by which arguments f ≡ false → V.files f ≡ None → W.files f ≡ None
    same_files same f absent none = ap (λ (F : FileMap). F f) same ∙ none

    abbrev others_stay : {s : Seen} → Sets V W p s → (q : ℕ) → q ≢ p → Kept V W p q
    others_stay sets q ne = inl (sets.others q ne)

    none_still : GivesNone V.next N → GivesNone W.next N
    none_still none i high = none i (omega (arith, high, next))

    old : (fd : ℕ) (x : Entry) → fd_at d fd ≡ Some x → Rattle.law_limits.proofs.sizes.Doings.IsOld V.next x
    old = run_old L V V N N (record { pipes = λ i o. omega arith; input = omega arith; name = λ e o. refl; mode = λ e o. refl; at = λ e o. omega arith; next = omega arith }) profile p which arguments call state put d r

    -- a reply without bytes, and no new file
    plain : (M : ℕ → ℕ) → Later V W N M → (reply : Reply) → bytes_told (bytes_in reply) ≡ 0 → ((fd : ℕ) → fd_in reply ≡ yields fd → ⊥) → Answers L V W N M d d state reply
    plain M later reply none shut = record {
      zeroth = by_less L V W N M later (fd_at d 0) (old 0);
      nothing = λ is. none;
      source = λ fd is. omega (arith, by_less L V W N M later (fd_at d fd) (old fd), none);
      opens = λ name fd is it. absurd (shut fd it);
    }

    above_still : (M : ℕ → ℕ) → Later V W N M → (fd : ℕ) (x : Entry) → 2 < fd → fd_at d fd ≡ Some x → IsOwnFile W (written_by which arguments) x
    above_still M later fd x up is = own_still profile V W N M later (written_by which arguments) x (r.above fd x up is)

    -- nothing changes but that it is answered
    quiet : (reply : Reply) → bytes_told (bytes_in reply) ≡ 0 → ((fd : ℕ) → fd_in reply ≡ yields fd → ⊥) → opened_after call reply r.opened ≡ r.opened → Answered V W p r.parent act reply d → Now
    quiet reply none shut same a =
        let later = rest_later V W N next a.rest in
        goes_on profile L V W N N p which arguments call state put d r later (others_stay a.slots) none_still (same_files a.rest.files) d refl refl refl reply a.slots.here (above_still N later)
        (λ fd among. r.high fd (subst (Among fd) same among)) (plain N later reply none shut) (λ x. omega (arith, has_same V W a.rest.pipes a.rest.files x))

    refused : opened_after call Refused r.opened ≡ r.opened → Answered V W p r.parent act Refused d → Now
    refused same a = quiet Refused refl (λ fd is. let z : ⊥ = cc in z) same a

    done : opened_after call Done r.opened ≡ r.opened → Answered V W p r.parent act Done d → Now
    done same a = quiet Done refl (λ fd is. let z : ⊥ = cc in z) same a

    -- ---- reads

    -- so many bytes were read through the descriptor
    read_answers : (M : ℕ → ℕ) → Later V W N M → (fd : ℕ) (c : Bytes) → fd_source state ≡ Some fd → ahead_by L W M (fd_at d fd) + length c ≤ ahead_by L V N (fd_at d fd) → Answers L V W N M d d state (Bytes' c)
    read_answers M later fd c its less = record {
      zeroth = by_less L V W N M later (fd_at d 0) (old 0);
      nothing = λ is. let z : ⊥ = cc in absurd z;
      source = λ other is. let same : fd ≡ other = some_is fd other (sym its ∙ is) in subst (λ n. ahead_by L W M (fd_at d n) + length c ≤ ahead_by L V N (fd_at d n)) same less;
      opens = λ name fd is it. let z : ⊥ = cc in absurd z;
    }

    module _ (fd most : ℕ) (is_read : call ≡ Read fd most) where
      its : fd_source state ≡ Some fd
      its = subst (λ c. IsAsked c state) is_read r.asked

      opens_none : (reply : Reply) → opened_after call reply r.opened ≡ r.opened
      opens_none reply = ap (λ c. opened_after c reply r.opened) is_read

      read_gives : (M : ℕ → ℕ) → Later V W N M → (GivesNone V.next N → GivesNone W.next M) → (W.files ≡ V.files) → (c : Bytes) → Sets V W p (answered r.parent act (Bytes' c) d) → ahead_by L W M (fd_at d fd) + length c ≤ ahead_by L V N (fd_at d fd)
          → ((x : Goal) → has W x + cap L N x ≤ has V x + cap L M x) → Now
      read_gives M later nothing same c sets less gain =
          goes_on profile L V W N M p which arguments call state put d r later (others_stay sets) nothing (same_files same) d refl refl refl (Bytes' c) sets.here (above_still M later)
          (λ n among. r.high n (subst (Among n) (opens_none (Bytes' c)) among)) (read_answers M later fd c its less) (λ x. omega (arith, gain x))

      module _ (m : ℕ) where
        reads_input : fd_at d fd ≡ Some input → Sets V W p (answered r.parent act (Bytes' (take m V.input)) d) → W.input ≡ drop m V.input → InputChanges V W → Now
        reads_input at sets left rest =
            let later = input_later V W N next m left rest in
            read_gives N later none_still rest.files (take m V.input) sets
            (omega (arith, ap (ahead_by L W N) at, ap (ahead_by L V N) at, ap (length {A = ℕ}) left, length-drop {A = ℕ} m V.input, length-take {A = ℕ} m V.input))
            (λ x. omega (arith, has_same V W rest.pipes rest.files x))

        reads_pipe : (i : ℕ) → fd_at d fd ≡ Some (reader i) → ReadsPipe V W p r.parent act d m i → Now
        reads_pipe i at (gets there now rest sets) =
            let later = less_later V W N next i k rest in
            read_gives (less_by N i k) later zero rest.files c sets
            (omega (arith, ap (ahead_by L W (less_by N i k)) at, ap (ahead_by L V N) at, put_here N i (N i - k), room))
            gain
          where
            c : Bytes
            c = take m (V.pipes i)

            k : ℕ
            k = length c

            cut : length (W.pipes i) + k ≡ length (V.pipes i)
            cut = omega (arith, ap (length {A = ℕ}) now, length-drop {A = ℕ} m (V.pipes i), length-take {A = ℕ} m (V.pipes i))

            room : k ≤ N i
            room = omega (arith, cut, within (a_pipe i))

            zero : GivesNone V.next N → GivesNone W.next (less_by N i k)
            zero none j high = omega (arith, put_there N i (N i - k) j (λ same. absurd (omega (arith, same, high, next, old fd (reader i) at))), none_still none j high)

            gain : (x : Goal) → has W x + cap L N x ≤ has V x + cap L (less_by N i k) x
            gain (a_file f) = omega (arith, ap (λ (F : FileMap). sizes F f) rest.files)
            gain (a_pipe j) = by (cases_eq j i)
              where
                by : (j ≡ i) ⊎ (j ≢ i) → length (W.pipes j) + N j ≤ length (V.pipes j) + less_by N i k j
                by (inl same) = subst (λ j. length (W.pipes j) + N j ≤ length (V.pipes j) + less_by N i k j) (sym same) (omega (arith, put_here N i (N i - k), cut, room))
                by (inr ne) = omega (arith, put_there N i (N i - k) j ne, ap (length {A = ℕ}) (rest.pipes j ne))
        reads_pipe i at (meets_end none nobody a) = quiet (Bytes' []) refl (λ fd is. let z : ⊥ = cc in z) (opens_none (Bytes' [])) a
        reads_pipe i at (finds_none none sets rest asleep) =
            holds_on profile L V W N N p which arguments call state put d r (rest_later V W N next rest) (others_stay sets) none_still (same_files rest.files) 0 sets.here (inl refl)
            (λ x. omega (arith, has_same V W rest.pipes rest.files x, ap (λ c. counted_if (counts x) (call_bytes c 0)) is_read, ap (λ c. counted_if (counts x) (call_bytes c put)) is_read))

        reads_bytes : (e : ℕ) (held : Option Bytes) → V.files (V.places e).name ≡ held → fd_at d fd ≡ Some (file e) → ReadsBytes V W p r.parent act d m e held → Now
        reads_bytes e None there at f = absurd f
        reads_bytes e (Some bytes) there at (sets, change) =
            let c = take m (drop (V.places e).at bytes) in
            read_gives N (further_later V W N next e (length c) V.files change) none_still change.files c sets
            (omega (
              arith,
              ap (ahead_by L W N) at,
              ap (ahead_by L V N) at,
              ap (λ (x : Place). L x.name) change.place,
              ap (λ (x : Place). x.at) change.place,
              length-take {A = ℕ} m (drop (V.places e).at bytes),
              length-drop {A = ℕ} (V.places e).at bytes,
              within (a_file (V.places e).name),
              ap (λ o. length (bytes_of o)) there,
            ))
            (λ x. omega (arith, has_same V W change.pipes change.files x))

        reads_file : (e : ℕ) (mode : Mode) → fd_at d fd ≡ Some (file e) → ReadsFile V W p r.parent act d m e mode → Now
        reads_file e ToRead at f = reads_bytes e (V.files (V.places e).name) refl at f
        reads_file e Fresh at f = refused (opens_none Refused) f
        reads_file e Over at f = refused (opens_none Refused) f
        reads_file e Append at f = refused (opens_none Refused) f

        reads_at : (o : Option Entry) → fd_at d fd ≡ o → ReadsAt V W p r.parent act d m o → Now
        reads_at None at f = refused (opens_none Refused) f
        reads_at (Some input) at (sets, left, rest) = reads_input at sets left rest
        reads_at (Some out) at f = refused (opens_none Refused) f
        reads_at (Some diag) at f = refused (opens_none Refused) f
        reads_at (Some (reader i)) at f = reads_pipe i at f
        reads_at (Some (writer i)) at f = refused (opens_none Refused) f
        reads_at (Some (file e)) at f = reads_file e (V.places e).mode at f

    -- ---- writes

    -- a file is given these bytes, through an entry of it
    file_given : (e : ℕ) (bytes now held : Bytes) → V.files (V.places e).name ≡ Some held → opened_after call Done r.opened ≡ r.opened → length now ≤ sizes V.files (V.places e).name + length bytes → length bytes ≤ call_bytes call put
        → ((f : Name) → bytes_eq f (V.places e).name ≡ true → counts (a_file f) ≡ true)
        → Sets V W p (answered r.parent act Done d) → PlaceChanges V W e (further (V.places e) (length bytes)) (with_file V.files (V.places e).name now) → Now
    file_given e bytes now held there same size amount counted sets change =
        let later = further_later V W N next e (length bytes) (with_file V.files (V.places e).name now) change in
        goes_on profile L V W N N p which arguments call state put d r later (others_stay sets) none_still kept d refl refl refl Done sets.here (above_still N later)
        (λ fd among. r.high fd (subst (Among fd) same among)) (plain N later Done refl (λ fd is. let z : ⊥ = cc in z)) gain
      where
        kept : (f : Name) → written_by which arguments f ≡ false → V.files f ≡ None → W.files f ≡ None
        kept f absent none = ap (λ (F : FileMap). F f) change.files ∙ by (bytes_eq f (V.places e).name) refl
          where
            by : (b : Bool) → bytes_eq f (V.places e).name ≡ b → (if b then Some now else V.files f) ≡ None
            by true here = absurd (let z : None ≡ Some held = sym none ∙ (ap V.files ((bytes_eq-Decides f (V.places e).name).0 here) ∙ there) in let w : ⊥ = cc in w)
            by false other = none

        gain : (x : Goal) → has W x + cap L N x ≤ has V x + cap L N x + counted_if (counts x) (call_bytes call put)
        gain (a_pipe i) = omega (arith, ap (length {A = ℕ}) (change.pipes i))
        gain (a_file f) = by (bytes_eq f (V.places e).name) refl
          where
            by : (b : Bool) → bytes_eq f (V.places e).name ≡ b → sizes W.files f + L f ≤ sizes V.files f + L f + counted_if (counts (a_file f)) (call_bytes call put)
            by true here =
                omega (
                  arith,
                  ap (λ (F : FileMap). sizes F f) change.files,
                  ap (λ c. length (bytes_of (if c then Some now else V.files f))) here,
                  ap (sizes V.files) ((bytes_eq-Decides f (V.places e).name).0 here),
                  size,
                  amount,
                  counted_yes (counts (a_file f)) (call_bytes call put) (counted f here),
                )
            by false other = omega (arith, ap (λ (F : FileMap). sizes F f) change.files, ap (λ c. length (bytes_of (if c then Some now else V.files f))) other)

    module _ (e : ℕ) (bytes : Bytes) (done_same : opened_after call Done r.opened ≡ r.opened) (refused_same : opened_after call Refused r.opened ≡ r.opened) (amount : length bytes ≤ call_bytes call put) (counted : (f : Name) → bytes_eq f (V.places e).name ≡ true → counts (a_file f) ≡ true) where
      writes_here : (held : Bytes) (gap : Bool) → V.files (V.places e).name ≡ Some held → WritesHere V W p r.parent act d bytes e held gap → Now
      writes_here held true there f = refused refused_same f
      writes_here held false there (sets, change) =
          file_given e bytes (written held (V.places e).at bytes) held there done_same (omega (arith, written_size held (V.places e).at bytes, ap (λ o. length (bytes_of o)) there)) amount counted sets change

      writes_over : (o : Option Bytes) → V.files (V.places e).name ≡ o → WritesOver V W p r.parent act d bytes e o → Now
      writes_over None there f = absurd f
      writes_over (Some held) there f = writes_here held (nat_lt (length held) (V.places e).at) there f

      writes_behind : (o : Option Bytes) → V.files (V.places e).name ≡ o → WritesBehind V W p r.parent act d bytes e o → Now
      writes_behind None there f = absurd f
      writes_behind (Some held) there (sets, change) =
          file_given e bytes (held ++ bytes) held there done_same (omega (arith, length-append held bytes, ap (λ o. length (bytes_of o)) there)) amount counted sets change

      writes_file : (mode : Mode) → WritesFile V W p r.parent act d bytes e mode → Now
      writes_file ToRead f = refused refused_same f
      writes_file Fresh f = writes_over (V.files (V.places e).name) refl f
      writes_file Over f = writes_over (V.files (V.places e).name) refl f
      writes_file Append f = writes_behind (V.files (V.places e).name) refl f

    module _ (bytes : Bytes) (is_write : call ≡ Write 1 bytes) where
      write_same : (reply : Reply) → opened_after call reply r.opened ≡ r.opened
      write_same reply = ap (λ c. opened_after c reply r.opened) is_write

      written_now : (m : ℕ) → call_bytes call m ≡ length (drop m bytes)
      written_now m = ap (λ c. call_bytes c m) is_write

      -- more bytes are in the pipe
      pipe_gain : (i n : ℕ) → fd_at d 1 ≡ Some (writer i) → length (W.pipes i) ≡ length (V.pipes i) + n → PipeChanges V W i → (left : ℕ) → left + n ≤ call_bytes call put
          → (x : Goal) → has W x + cap L N x + counted_if (counts x) left ≤ has V x + cap L N x + counted_if (counts x) (call_bytes call put)
      pipe_gain i n at more rest left less (a_file f) = by (counts (a_file f))
        where
          by : (c : Bool) → sizes W.files f + L f + counted_if c left ≤ sizes V.files f + L f + counted_if c (call_bytes call put)
          by true = omega (arith, ap (λ (F : FileMap). sizes F f) rest.files, less)
          by false = omega (arith, ap (λ (F : FileMap). sizes F f) rest.files)
      pipe_gain i n at more rest left less (a_pipe j) = by (cases_eq j i)
        where
          other : (c : Bool) → length (W.pipes j) ≡ length (V.pipes j) → length (W.pipes j) + N j + counted_if c left ≤ length (V.pipes j) + N j + counted_if c (call_bytes call put)
          other true same = omega (arith, same, less)
          other false same = omega (arith, same)

          by : (j ≡ i) ⊎ (j ≢ i) → length (W.pipes j) + N j + counted_if (counts (a_pipe j)) left ≤ length (V.pipes j) + N j + counted_if (counts (a_pipe j)) (call_bytes call put)
          by (inr ne) = other (counts (a_pipe j)) (ap (length {A = ℕ}) (rest.pipes j ne))
          by (inl same) =
              let yes : counts (a_pipe j) ≡ true = ap (λ o. goes_by V (a_pipe j) o || list_any (names_of (a_pipe j)) (files_written which arguments)) at ∙ ap (λ b. b || list_any (names_of (a_pipe j)) (files_written which arguments)) (eq-eqb j i same) in
              omega (arith, ap (λ n. length (W.pipes n)) same, ap (λ n. length (V.pipes n)) same, more, counted_yes (counts (a_pipe j)) left yes, counted_yes (counts (a_pipe j)) (call_bytes call put) yes, less)

      writes_pipe : (i : ℕ) → fd_at d 1 ≡ Some (writer i) → IsWriter r.b → WritesPipe V W p r.parent put act d bytes i → Now
      writes_pipe i at pipe (puts_all now fits rest sets) =
          let later = pipe_later V W N next i rest in
          let gain = pipe_gain i (length (drop put bytes)) at (ap (length {A = ℕ}) now ∙ length-append (V.pipes i) (drop put bytes)) rest 0 (omega (arith, written_now put)) in
          goes_on profile L V W N N p which arguments call state put d r later (others_stay sets) none_still (same_files rest.files) d refl refl refl Done sets.here (above_still N later)
          (λ fd among. r.high fd (subst (Among fd) (write_same Done) among)) (plain N later Done refl (λ fd is. let z : ⊥ = cc in z)) (λ x. omega (arith, gain x))
      writes_pipe i at pipe (puts_some now rest_of cut some more put_in fits rest sets) =
          holds_on profile L V W N N p which arguments call state put d r (pipe_later V W N next i rest) (others_stay sets) none_still (same_files rest.files) (put + length now) sets.here (inr (pipe, (bytes, is_write)))
          (pipe_gain i (length now) at (ap (length {A = ℕ}) put_in ∙ length-append (V.pipes i) now) rest (call_bytes call (put + length now))
          (omega (arith, written_now put, written_now (put + length now), ap (length {A = ℕ}) cut, length-append now rest_of, length-drop {A = ℕ} put bytes, length-drop {A = ℕ} (put + length now) bytes)))
      writes_pipe i at pipe (has_no_reader some nobody a) = refused (write_same Refused) a
      writes_pipe i at pipe (finds_it_full some same asleep) =
          holds_on profile L V W N N p which arguments call state put d r (rest_later V W N next same.rest) (λ q ne. inl (same.slots q)) none_still (same_files same.rest.files) put (same.slots p ∙ r.slot) r.part
          (λ x. omega (arith, has_same V W same.rest.pipes same.rest.files x))

      whole_write : (e : ℕ) → r.b ≡ file e → length bytes ≤ call_bytes call put
      whole_write e is = by r.part
        where
          by : (put ≡ 0) ⊎ (IsWriter r.b × ((b : Bytes) × (call ≡ Write 1 b))) → length bytes ≤ call_bytes call put
          by (inl none) = omega (arith, written_now put, ap (λ n. length (drop n bytes)) none)
          by (inr some) = absurd (subst IsWriter is some.0)

      writes_output : (b : Entry) → r.b ≡ b → WritesAt V W p r.parent put act d bytes (Some b) → Now
      writes_output input is f = absurd (subst Rattle.process_model.specs.Part.CanBeOutput is r.fine.can_write)
      writes_output out is (sets, added, rest) =
          let later = out_later V W N next rest in
          goes_on profile L V W N N p which arguments call state put d r later (others_stay sets) none_still (same_files rest.files) d refl refl refl Done sets.here (above_still N later)
          (λ fd among. r.high fd (subst (Among fd) (write_same Done) among)) (plain N later Done refl (λ fd is. let z : ⊥ = cc in z)) (λ x. omega (arith, has_same V W rest.pipes rest.files x))
      writes_output diag is f = absurd (subst Rattle.process_model.specs.Part.CanBeOutput is r.fine.can_write)
      writes_output (reader i) is f = absurd (subst Rattle.process_model.specs.Part.CanBeOutput is r.fine.can_write)
      writes_output (writer i) is f = writes_pipe i (r.output ∙ ap (λ x. Some x) is) (subst IsWriter (sym is) tt) f
      writes_output (file e) is f =
          writes_file e bytes (write_same Done) (write_same Refused) (whole_write e is)
          (λ f same. ap (λ o. goes_by V (a_file f) o || list_any (bytes_eq f) (files_written which arguments)) (r.output ∙ ap (λ x. Some x) is) ∙ ap (λ b. b || list_any (bytes_eq f) (files_written which arguments)) same)
          (V.places e).mode f

    -- to the input nothing is written
    writes_input : (bytes : Bytes) → opened_after call Refused r.opened ≡ r.opened → (a : Entry) → r.a ≡ a → WritesAt V W p r.parent put act d bytes (Some a) → Now
    writes_input bytes same input is f = refused same f
    writes_input bytes same out is f = absurd (subst Rattle.process_model.specs.Part.CanBeInput is r.fine.can_read)
    writes_input bytes same diag is f = absurd (subst Rattle.process_model.specs.Part.CanBeInput is r.fine.can_read)
    writes_input bytes same (reader i) is f = refused same f
    writes_input bytes same (writer i) is f = absurd (subst Rattle.process_model.specs.Part.CanBeInput is r.fine.can_read)
    writes_input bytes same (file e) is f = refused same (subst (WritesFile V W p r.parent act d bytes e) (subst (Rattle.process_model.specs.Part.OpenedToRead V) is r.fine.to_read) f)

    module _ (fd : ℕ) (bytes : Bytes) (is_write : call ≡ Write (suc (suc (suc fd))) bytes) where
      own_same : (reply : Reply) → opened_after call reply r.opened ≡ r.opened
      own_same reply = ap (λ c. opened_after c reply r.opened) is_write

      writes_own : (o : Option Entry) → fd_at d (suc (suc (suc fd))) ≡ o → WritesAt V W p r.parent put act d bytes o → Now
      writes_own None at f = refused (own_same Refused) f
      writes_own (Some x) at f = by (r.above (suc (suc (suc fd))) x (omega arith) at)
        where
          by : IsOwnFile V (written_by which arguments) x → Now
          by own = by_mode own.named (subst (λ y. WritesAt V W p r.parent put act d bytes (Some y)) own.is f)
            where
              e : ℕ
              e = own.entry

              by_mode : ((V.places e).mode ≡ ToRead) ⊎ (written_by which arguments (V.places e).name ≡ true) → WritesAt V W p r.parent put act d bytes (Some (file e)) → Now
              by_mode (inl read) f = refused (own_same Refused) (subst (WritesFile V W p r.parent act d bytes e) read f)
              by_mode (inr named) f =
                  writes_file e bytes (own_same Done) (own_same Refused) (omega (arith, ap (λ c. call_bytes c put) is_write))
                  (λ f same. or_right (goes_by V (a_file f) (fd_at d 1)) (written_by which arguments f) (ap (written_by which arguments) ((bytes_eq-Decides f (V.places e).name).0 same) ∙ named))
                  (V.places e).mode f

    writes_at : (fd : ℕ) (bytes : Bytes) → call ≡ Write fd bytes → WritesAt V W p r.parent put act d bytes (fd_at d fd) → Now
    writes_at zero bytes is f = writes_input bytes (ap (λ c. opened_after c Refused r.opened) is) r.a refl (subst (WritesAt V W p r.parent put act d bytes) r.input f)
    writes_at (suc zero) bytes is f = writes_output bytes is r.b refl (subst (WritesAt V W p r.parent put act d bytes) r.output f)
    writes_at (suc (suc zero)) bytes is f = done (ap (λ c. opened_after c Done r.opened) is) (subst (WritesAt V W p r.parent put act d bytes) r.messages f)
    writes_at (suc (suc (suc fd))) bytes is f = writes_own fd bytes is (fd_at d (suc (suc (suc fd)))) refl f

    -- ---- opens

    module _ (name : Name) (mode : Mode) (is_open : call ≡ OpenFile name mode) where
      open_same : opened_after call Refused r.opened ≡ r.opened
      open_same = ap (λ c. opened_after c Refused r.opened) is_open

      its_name : OpensIts name state
      its_name = subst (λ c. IsAsked c state) is_open r.asked

      opens_file : (F : FileMap) → is_openable name ≡ true → ((f : Name) → sizes F f ≤ sizes V.files f) → ((f : Name) → written_by which arguments f ≡ false → V.files f ≡ None → F f ≡ None) → (mode ≡ ToRead) ⊎ (written_by which arguments name ≡ true) → Opens V W p r.parent act d name mode F → Now
      opens_file F good smaller absent named o =
          goes_on profile L V W N N p which arguments call state put d r later (others_stay o.slots) none_still (λ f gone none. ap (λ (G : FileMap). G f) o.entry.files ∙ absent f gone none) e (kept 0 (omega arith)) (kept 1 (omega arith)) (kept 2 (omega arith)) (Fd o.fd) o.slots.here above high answers gain
        where
          e : Fds
          e = slice_set d o.fd (Some (file V.next))

          low : IsLowest d o.fd
          low = is_lowest d o.fd o.place

          later : Later V W N N
          later = new_later V W N next _ F o.entry

          up : 2 < o.fd
          up = by o.fd low.free
            where
              by : (n : ℕ) → fd_at d n ≡ None → 2 < n
              by zero free = absurd (let z : Some r.a ≡ None = sym r.input ∙ free in let w : ⊥ = cc in w)
              by (suc zero) free = absurd (let z : Some r.b ≡ None = sym r.output ∙ free in let w : ⊥ = cc in w)
              by (suc (suc zero)) free = absurd (let z : Some diag ≡ None = sym r.messages ∙ free in let w : ⊥ = cc in w)
              by (suc (suc (suc n))) free = omega arith

          kept : (fd : ℕ) → fd < 3 → fd_at e fd ≡ fd_at d fd
          kept fd less = get_or-set_other d o.fd fd (Some (file V.next)) None (λ same. absurd (omega (arith, same, less, up)))

          new : fd_at e o.fd ≡ Some (file V.next)
          new = get_or-set_same d o.fd (Some (file V.next)) None low.within

          own_new : IsOwnFile W (written_by which arguments) (file V.next)
          own_new = record { entry = V.next; is = refl; old = omega (arith, next); named = by named }
            where
              by : (mode ≡ ToRead) ⊎ (written_by which arguments name ≡ true) → ((W.places V.next).mode ≡ ToRead) ⊎ (written_by which arguments (W.places V.next).name ≡ true)
              by (inl read) = inl (ap (λ (x : Place). x.mode) o.entry.place ∙ read)
              by (inr write) = inr (ap (λ (x : Place). written_by which arguments x.name) o.entry.place ∙ write)

          above : (fd : ℕ) (x : Entry) → 2 < fd → fd_at e fd ≡ Some x → IsOwnFile W (written_by which arguments) x
          above fd x high at = by (cases_eq fd o.fd)
            where
              by : (fd ≡ o.fd) ⊎ (fd ≢ o.fd) → IsOwnFile W (written_by which arguments) x
              by (inl same) = subst (IsOwnFile W (written_by which arguments)) (let z : Some (file V.next) ≡ Some x = sym new ∙ (ap (fd_at e) (sym same) ∙ at) in cc) own_new
              by (inr ne) = above_still N later fd x high (sym (get_or-set_other d o.fd fd (Some (file V.next)) None ne) ∙ at)

          high : (fd : ℕ) → Among fd (opened_after call (Fd o.fd) r.opened) → 2 < fd
          high fd among = by (subst (λ c. Among fd (opened_after c (Fd o.fd) r.opened)) is_open among)
            where
              by : (fd ≡ o.fd) ⊎ Among fd r.opened → 2 < fd
              by (inl same) = omega (arith, same, up)
              by (inr old) = r.high fd old

          zeroth : ahead_by L W N (fd_at e 0) ≤ ahead_by L V N (fd_at d 0)
          zeroth = omega (arith, ap (ahead_by L W N) (kept 0 (omega arith)), by_less L V W N N later (fd_at d 0) (old 0))

          answers : Answers L V W N N d e state (Fd o.fd)
          answers = record {
            zeroth = zeroth;
            nothing = λ is. refl;
            source = λ fd is. source state its_name fd is;
            opens = λ n fd is given. opens state its_name n fd is given;
          }
            where
              source : (s : State) → OpensIts name s → (fd : ℕ) → fd_source s ≡ Some fd → ahead_by L W N (fd_at e fd) + 0 ≤ ahead_by L V N (fd_at d fd)
              source (begins which arguments) asks fd is = absurd asks
              source (echo_word later) asks fd is = absurd asks
              source (echo_space later) asks fd is = absurd asks
              source (opens filter name later) asks fd is = let z : ⊥ = cc in absurd z
              source (works work from) asks fd is = absurd asks
              source (closes filter later) asks fd is = absurd asks
              source (tees tee) asks fd is = let z : 0 ≡ fd = some_is 0 fd is in subst (λ n. ahead_by L W N (fd_at e n) + 0 ≤ ahead_by L V N (fd_at d n)) z (omega (arith, zeroth))
              source told asks fd is = absurd asks
              source ended asks fd is = absurd asks

              size : ahead_by L W N (fd_at e o.fd) ≤ L name
              size = omega (arith, ap (ahead_by L W N) new, ap (λ (x : Place). L x.name) o.entry.place)

              opens : (s : State) → OpensIts name s → (n : Name) (fd : ℕ) → name_opened s ≡ Some n → fd_in (Fd o.fd) ≡ yields fd → ahead_by L W N (fd_at e fd) ≤ L n
              opens (begins which arguments) asks n fd is given = absurd asks
              opens (echo_word later) asks n fd is given = absurd asks
              opens (echo_space later) asks n fd is given = absurd asks
              opens (Rattle.user_progs.specs.State.opens filter its later) asks n fd is given =
                  let same : o.fd ≡ fd = cc in
                  let named : its ≡ n = cc in
                  let full : name ≡ its = asks ∙ whole its (shorter its (sym (ap is_openable asks) ∙ good)) in
                  omega (arith, ap (λ m. ahead_by L W N (fd_at e m)) same, size, ap L (full ∙ named))
                where
                  shorter : (its : Name) → is_openable (block its) ≡ true → is_openable its ≡ true
                  shorter its ok = sym (Rattle.law_runs.proofs.standing.Openable.same_openable its) ∙ ok
              opens (works work from) asks n fd is given = absurd asks
              opens (closes filter later) asks n fd is given = absurd asks
              opens (tees tee) asks n fd is given = let z : ⊥ = cc in absurd z
              opens told asks n fd is given = absurd asks
              opens ended asks n fd is given = absurd asks

          gain : (x : Goal) → has W x + cap L N x ≤ has V x + cap L N x + counted_if (counts x) (call_bytes call put)
          gain (a_pipe i) = omega (arith, ap (length {A = ℕ}) (o.entry.pipes i))
          gain (a_file f) = omega (arith, ap (λ (F : FileMap). sizes F f) o.entry.files, smaller f)

      emptied : (F : FileMap) (f : Name) → sizes (with_file F name []) f ≤ sizes F f
      emptied F f = by (bytes_eq f name)
        where
          by : (b : Bool) → length (bytes_of (if b then Some [] else F f)) ≤ sizes F f
          by true = omega arith
          by false = omega arith

      tame : IsTame which arguments r.opened (OpenFile name mode)
      tame = subst (IsTame which arguments r.opened) is_open (r.tame [])

      opens_named : (good : Bool) → is_openable name ≡ good → OpensNamed V W p r.parent act d name mode good → Now
      opens_named false is f = refused open_same f
      opens_named true good f = by which refl (subst (λ m. OpensBy V W p r.parent act d name m (files_opened V.files name m)) tame.0 f)
        where
          reads : (w : Program) → mode_of w ≡ ToRead → which ≡ w → OpensBy V W p r.parent act d name (mode_of which) (files_opened V.files name (mode_of which)) → Now
          reads w to_read is f = at (V.files name) refl (subst (λ m. OpensBy V W p r.parent act d name m (files_opened V.files name m)) mode_is f)
            where
              mode_is : mode_of which ≡ ToRead
              mode_is = ap mode_of is ∙ to_read

              mode_read : mode ≡ ToRead
              mode_read = tame.0 ∙ mode_is

              at : (o : Option Bytes) → V.files name ≡ o → OpensBy V W p r.parent act d name ToRead (files_read V.files o) → Now
              at None there f = refused open_same f
              at (Some bytes) there f = opens_file V.files good (λ f. omega arith) (λ f gone none. none) (inl mode_read) (subst (λ m. Opens V W p r.parent act d name m V.files) (sym mode_read) f)

          by : (w : Program) → which ≡ w → OpensBy V W p r.parent act d name (mode_of which) (files_opened V.files name (mode_of which)) → Now
          by Cat is f = reads Cat refl is f
          by Echo is f = reads Echo refl is f
          by Grep is f = reads Grep refl is f
          by Head is f = reads Head refl is f
          by Wc is f = reads Wc refl is f
          by Tee is f =
              let fresh : mode_of which ≡ Fresh = ap mode_of is in
              let mode_is : mode ≡ Fresh = tame.0 ∙ fresh in
              opens_file (with_file V.files name []) good (emptied V.files) absent (inr named) (subst (λ m. Opens V W p r.parent act d name m (with_file V.files name [])) (sym mode_is) (subst (λ m. OpensBy V W p r.parent act d name m (files_opened V.files name m)) fresh f))
            where
              word : Bytes
              word = tame.1.0

              word_is : name ≡ word
              word_is = tame.1.2 ∙ whole word (sym (Rattle.law_runs.proofs.standing.Openable.same_openable word) ∙ (sym (ap is_openable tame.1.2) ∙ good))

              named : written_by which arguments name ≡ true
              named =
                  ap (written_by which arguments) word_is
                  ∙ (ap (λ w. list_any (bytes_eq word) (files_written w arguments)) is ∙ among_any word arguments (subst (λ w. Among word (file_words w arguments)) is tame.1.1))

              absent : (f : Name) → written_by which arguments f ≡ false → V.files f ≡ None → with_file V.files name [] f ≡ None
              absent f gone none = at (bytes_eq f name) refl
                where
                  at : (b : Bool) → bytes_eq f name ≡ b → (if b then Some [] else V.files f) ≡ None
                  at true here = absurd (let z : false ≡ true = sym gone ∙ (ap (written_by which arguments) ((bytes_eq-Decides f name).0 here) ∙ named) in let w : ⊥ = cc in w)
                  at false other = none

    -- ---- closes, and the rest

    module _ (fd : ℕ) (is_close : call ≡ Close fd) where
      shuts : (o : Option Entry) → fd_at d fd ≡ o → ClosesAt V W p r.parent act d fd o → Now
      shuts None at f = refused (ap (λ c. opened_after c Refused r.opened) is_close) f
      shuts (Some x) at f =
          goes_on profile L V W N N p which arguments call state put d r later (others_stay f.slots) none_still (same_files f.rest.files) e (kept 0 (omega arith)) (kept 1 (omega arith)) (kept 2 (omega arith)) Done f.slots.here above high answers
          (λ y. omega (arith, has_same V W f.rest.pipes f.rest.files y))
        where
          e : Fds
          e = slice_set d fd None

          later : Later V W N N
          later = rest_later V W N next f.rest

          up : 2 < fd
          up = r.high fd (subst (IsTame which arguments r.opened) is_close (r.tame []))

          kept : (n : ℕ) → n < 3 → fd_at e n ≡ fd_at d n
          kept n less = get_or-set_other d fd n None None (λ same. absurd (omega (arith, same, less, up)))

          above : (n : ℕ) (y : Entry) → 2 < n → fd_at e n ≡ Some y → IsOwnFile W (written_by which arguments) y
          above n y high at = by (cases_eq n fd)
            where
              by : (n ≡ fd) ⊎ (n ≢ fd) → IsOwnFile W (written_by which arguments) y
              by (inl same) = absurd (let z : None ≡ Some y = sym (shut_none d fd) ∙ (ap (fd_at e) (sym same) ∙ at) in let w : ⊥ = cc in w)
              by (inr ne) = above_still N later n y high (sym (get_or-set_other d fd n None None ne) ∙ at)

          high : (n : ℕ) → Among n (opened_after call Done r.opened) → 2 < n
          high n among = r.high n (among_still n fd r.opened (subst (λ c. Among n (opened_after c Done r.opened)) is_close among))

          less : (n : ℕ) → ahead_by L W N (fd_at e n) ≤ ahead_by L V N (fd_at d n)
          less n = by (cases_eq n fd)
            where
              by : (n ≡ fd) ⊎ (n ≢ fd) → ahead_by L W N (fd_at e n) ≤ ahead_by L V N (fd_at d n)
              by (inl same) = omega (arith, ap (λ m. ahead_by L W N (fd_at e m)) same, ap (ahead_by L W N) (shut_none d fd))
              by (inr ne) = omega (arith, ap (ahead_by L W N) (get_or-set_other d fd n None None ne), by_less L V W N N later (fd_at d n) (old n))

          answers : Answers L V W N N d e state Done
          answers = record {
            zeroth = less 0;
            nothing = λ is. refl;
            source = λ n is. omega (arith, less n);
            opens = λ name n is it. let z : ⊥ = cc in absurd z;
          }

    exits : Exits V W p r.parent → Now
    exits ends = record {
      to = over;
      is = subst (Rattle.law_limits.proofs.sizes.Doings.IsOver profile) (sym ends.here) tt;
      left = N;
      later = rest_later V W N next ends.rest;
      others = λ q ne. inr (inl (ends.others q ne));
      zero = none_still;
      names = λ f absent. tt;
      files = λ f absent none. ap (λ (F : FileMap). F f) ends.rest.files ∙ none;
      rate = λ x. omega (arith, has_same V W ends.rest.pipes ends.rest.files x);
    }

    never : (other : Call) → call ≡ other → (IsTame which arguments r.opened other → ⊥) → ⊥
    never other is none = none (subst (IsTame which arguments r.opened) is (r.tame []))

    by_call : (other : Call) → call ≡ other → EffectBy V W p r.parent put act d other → Now
    by_call Fork is f = absurd (never Fork is (λ t. t))
    by_call (Exec found) is f = absurd (never (Exec found) is (λ t. t))
    by_call Exit is f = exits f
    by_call Wait is f = absurd (never Wait is (λ t. t))
    by_call MakePipe is f = absurd (never MakePipe is (λ t. t))
    by_call (Read fd most) is f = reads_at fd most is (min most block_size) (fd_at d fd) refl f
    by_call (Write fd bytes) is f = writes_at fd bytes is f
    by_call (OpenFile name mode) is f = opens_named name mode is (is_openable name) refl f
    by_call (Close fd) is f = shuts fd is (fd_at d fd) refl f
    by_call (Dup fd) is f = absurd (never (Dup fd) is (λ t. t))

    pub program_goes : IsCall V W p → Now
    program_goes ev = by_call call refl (effect_at V W p r.parent put act d ev r.slot)
