-- open, as it is seen.
use Rattle.std.proofs.Common.{◌≡◌, ◌≢◌, ℕ, zero, suc, ◌+◌, ◌<◌, ◌≤◌, Bool, true, false, [], Option, Some, None, length, refl, sym, ap, ◌∙◌, subst, arith}
use Rattle.std.specs.Prelude.{◌==◌, nat_le, if◌then◌else◌, slice_set, is_none, IsSome}
use Rattle.std.specs.Option.{is_some}
use Rattle.std.specs.Str.{bytes_eq}
use Rattle.std.proofs.lemmas.Bool.{eqb-false}
use mathlib.Core.Path.{fun_ext}
use Rattle.mem_files.specs.Name.{Name, Bytes, is_openable}
use Rattle.mem_files.specs.Files.{FileMap, files, with_file}
use Rattle.mem_files.specs.Listing.{with_entry, max_files}
use Rattle.mem_files.proofs.Places.{files-with_entry}
use Rattle.mem_files.proofs.Kept.{at_name}
use Rattle.user_calls.specs.declared.calls.Call.{Call}
use Rattle.user_calls.specs.declared.calls.Call.TheVariants.{OpenFile as OpenCall}
use Rattle.user_calls.specs.declared.calls.Mode.{Mode}
use Rattle.user_calls.specs.declared.calls.Mode.TheVariants.{Input as ToRead, Fresh, Over, Append}
use Rattle.user_calls.specs.declared.calls.Reply.TheVariants.{Fd, Refused}
use Rattle.fd_table.specs.declared.names.Object.TheVariants.{File}
use Rattle.fd_table.specs.Entries.{OpenFile, entry_at, is_free, opened, added, added_at, lowest_free_entry, free_count}
use Rattle.fd_table.specs.Descriptors.{entry_of, lowest_free, installed}
use Rattle.fd_table.proofs.Free.{found as free_found}
use Rattle.proc_table.specs.Slots.{Process, at, is_zombie_status, parent_or_init}
use Rattle.proc_table.specs.Calls.{fds_set}
use Rattle.kernel_model.specs.declared.events.Full.TheVariants.{Open, Fds as NoFds, Files, Memory}
use Rattle.kernel_model.specs.KernelState.{KernelState, fds_of, fds_at}
use Rattle.kernel_model.specs.Modes.{entry_mode}
use Rattle.kernel_model.specs.Replies.{answered, refused_for}
use Rattle.kernel_model.specs.Descriptors.{opened_at, with_open}
use Rattle.kernel_model.specs.Opening.{open_reply, open_here, with_bytes as with_file_bytes, open_for_reading, open_for_writing, open_named, open_file}
use Rattle.kernel_model.specs.Events.{counted}
use Rattle.sh_machine.specs.State.{User}
use Rattle.process_model.specs.Seen.{file, Place, fds_seen, seen_slot, Names, view}
use Rattle.process_model.specs.Shows.{IsNamed, GoesOnAt, Shows, ShowsIn}
use Rattle.process_model.specs.Effect.{OpensNamed, OpensBy, Opens, files_read, files_kept, files_opened, first_byte}
use Rattle.law_runs.proofs.views.Tables.{At}
use Rattle.law_runs.proofs.views.Fds.{seen_lowest}
use Rattle.law_runs.proofs.views.Showing.{Stay, kept_all, kept_pipes, shows_on}
use Rattle.law_runs.proofs.views.Opened.{with_name, shows_opened, with_place, place_here, place_elsewhere, shows_new_place}
use Rattle.law_runs.proofs.views.Mid as during
use Rattle.law_runs.proofs.views.Installs.{entry_free, NotIn, opened_own, opened_others, opened_fds, no_file}
use Rattle.law_runs.proofs.views.Installs as installs
use Rattle.kernel_model.proofs.Quiet.{is_marked}
use Rattle.fd_table.proofs.Lists.{some_is}

module _ (g : Names) (k : KernelState User) (p : ℕ) (q : Process User) (up : p ≢ 0) (is : at k.table p ≡ Some q) (alive : is_zombie_status q.status ≡ false) (shows : ShowsIn g k) (used : (r fd e : ℕ) → entry_of (fds_at k r) fd ≡ Some e → (f : OpenFile) × (entry_at k.entries e ≡ Some f)) where
  abbrev Called : KernelState User → Call → Type 0
  Called l call = during.Called g k p q l call

  abbrev next : User
  next = (during.act g k p q).next

  own : At k.table p q.parent q.machine q.reply q.fds q.put
  own = during.own g k p q up is alive shows

  nobody : (e : ℕ) → entry_at k.entries e ≡ None → (r : ℕ) → NotIn (fds_at k r) e
  nobody = installs.nobody g k p q up is alive shows used

  mine : (e : ℕ) → entry_at k.entries e ≡ None → NotIn q.fds e
  mine = installs.mine g k p q up is alive shows used

  abbrev n : ℕ
  n = k.events + 1

  abbrev F : FileMap
  F = files k.files

  abbrev parent : ℕ
  parent = parent_or_init q.parent

  goes_on : (mode : Mode) (held : Option Bytes) → GoesOnAt mode (first_byte mode held) 0
  goes_on ToRead held = refl
  goes_on Fresh held = refl
  goes_on Over held = refl
  goes_on Append held = tt

  -- the file, whose files are now these, is opened
  module _ (name : Name) (mode : Mode) (m : KernelState User) (entries : m.entries ≡ k.entries) (table : m.table ≡ k.table) (pipes : m.pipes ≡ k.pipes) (input : m.input ≡ k.input) (out : m.out ≡ k.out) (stay : Stay F (files m.files)) (there : is_some (files m.files name) ≡ true) where
    module _ (e fd : ℕ) (low_e : lowest_free_entry k.entries ≡ Some e) (low : lowest_free q.fds ≡ Some fd) where
      abbrev place : Place
      place = record { name = name; mode = mode; at = first_byte mode (F name) }

      abbrev h : Names
      h = with_name (with_place g n place) e (file n)

      abbrev l : KernelState User
      l = answered (opened_at m p (File name (entry_mode mode)) (Some e)) p next (Fd fd)

      free : (e < length k.entries) × (entry_at k.entries e ≡ None)
      free = entry_free k.entries e low_e

      entries_are : added m.entries (File name (entry_mode mode)) ≡ slice_set k.entries e (Some (opened (File name (entry_mode mode))))
      entries_are = ap (λ E. added E (File name (entry_mode mode))) entries ∙ ap (λ o. added_at k.entries o (File name (entry_mode mode))) low_e

      shown : Shows (with_place g n place) k.entries k.pipes (files m.files) (n + 1)
      shown = shows_on (with_place g n place) k.entries k.entries k.pipes k.pipes F (files m.files) (n + 1) (n + 1) (kept_all k.entries) (kept_pipes k.pipes) stay (omega arith) (shows_new_place g k.entries k.pipes F n n place (omega arith) shows)

      named : IsNamed (with_place g n place) (files m.files) (n + 1) (file n) (File name (entry_mode mode)) 0
      named =
          let here = place_here g n place in
          record {
            id = n;
            is = refl;
            old = omega arith;
            named = ap (λ (p : Place). p.name) here;
            moded = ap (λ (p : Place). entry_mode p.mode) here;
            goes_on = subst (λ (p : Place). GoesOnAt p.mode p.at 0) (sym here) (goes_on mode (F name));
            there = there;
          }

      file_shows : Shows h l.entries l.pipes (files l.files) (n + 1)
      file_shows =
          subst (λ P. Shows h (added m.entries (File name (entry_mode mode))) P (files m.files) (n + 1)) (sym pipes)
          (subst (λ E. Shows h E k.pipes (files m.files) (n + 1)) (sym entries_are)
          (shows_opened (with_place g n place) k.entries k.pipes (files m.files) (n + 1) e (File name (entry_mode mode)) (file n) free.1 free.0 named (λ d f it. no_file g F n (g.name d) f.object f.offset (shows.named d f it)) shown))

      abbrev m' : KernelState User
      m' = opened_at m p (File name (entry_mode mode)) (Some e)

      own' : At m'.table p q.parent q.machine q.reply (slice_set q.fds fd (Some e)) q.put
      own' = subst (λ t. At (fds_set t p (installed (fds_of (at t p)) e)) p q.parent q.machine q.reply (slice_set q.fds fd (Some e)) q.put) (sym table) (opened_own g.name k.table p q.parent q.machine q.reply q.fds q.put own e fd (file n) low)

      others' : (r : ℕ) → r ≢ p → seen_slot h.name (at m'.table r) ≡ seen_slot g.name (at k.table r)
      others' r ne = subst (λ t. seen_slot h.name (at (fds_set t p (installed (fds_of (at t p)) e)) r) ≡ seen_slot g.name (at k.table r)) (sym table) (opened_others g.name k.table p q.parent q.machine q.reply q.fds q.put own e fd (file n) low (nobody e free.1) r ne)

      opens : (G : FileMap) → files m.files ≡ G → Opens (view g k) (view h l) p parent (during.act g k p q) (fds_seen g.name q.fds) name mode G
      opens G are = record {
        fd = fd;
        place = seen_lowest g.name q.fds ∙ low;
        entry = record { place = place_here g n place; files = are; pipes = λ i. refl; places = λ i ne. place_elsewhere g n i place ne; input = input; out = out };
        slots = installs.open_sets g k p q up is alive shows used h m' (slice_set q.fds fd (Some e)) _ (Fd fd) own' others' (opened_fds g.name k.table p q.parent q.machine q.reply q.fds q.put own e fd (file n) low (mine e free.1));
      }

    -- an entry and a descriptor are free
    pub opened_here : 1 ≤ free_count k.entries → 1 ≤ free_count q.fds → (G : FileMap) → files m.files ≡ G → is_openable name ≡ true → files_opened F name mode ≡ Some G → Called (open_here m p next name mode) (OpenCall name mode)
    opened_here some_entry some_place G are good found =
        let e = some_is (lowest_free_entry k.entries) ((free_found is_free k.entries).1 (omega (arith, some_entry))) in
        let fd = some_is (lowest_free q.fds) ((free_found is_free q.fds).1 (omega (arith, some_place))) in
        let same = during.fds_are g k p q up is alive shows in
        let reply : open_reply (lowest_free (fds_at m p)) ≡ Fd fd.0 = ap (λ t. open_reply (lowest_free (fds_of (at t p)))) table ∙ ap (λ d. open_reply (lowest_free d)) same ∙ ap open_reply fd.1 in
        let opened_is : with_open m p (File name (entry_mode mode)) ≡ opened_at m p (File name (entry_mode mode)) (Some e.0) = ap (opened_at m p (File name (entry_mode mode))) (ap lowest_free_entry entries ∙ e.1) in
        let V = view g k in
        let W = view (h e.0 fd.0 e.1 fd.1) (l e.0 fd.0 e.1 fd.1) in
        subst (λ l. Called l (OpenCall name mode)) (sym (ap (λ z. answered z p next (open_reply (lowest_free (fds_at m p)))) opened_is ∙ ap (answered (opened_at m p (File name (entry_mode mode)) (Some e.0)) p next) reply))
        (record {
          names = h e.0 fd.0 e.1 fd.1;
          shows = file_shows e.0 fd.0 e.1 fd.1;
          effect =
              subst (OpensNamed V W p parent (during.act g k p q) (fds_seen g.name q.fds) name mode) (sym good)
              (subst (OpensBy V W p parent (during.act g k p q) (fds_seen g.name q.fds) name mode) (sym found) (opens e.0 fd.0 e.1 fd.1 G are));
        })

  -- ---- by the mode, and whether the file is there

  stays_with : (name : Name) (bytes : Bytes) → Stay F (files (with_entry k.files name bytes))
  stays_with name bytes other was = ap is_some (files-with_entry k.files name bytes other) ∙ by (bytes_eq other name)
    where
      by : (b : Bool) → is_some (if b then Some bytes else F other) ≡ true
      by true = refl
      by false = was

  module _ (name : Name) (refused : Bool) (some_entry : 1 ≤ free_count k.entries) (some_place : 1 ≤ free_count q.fds) (good : is_openable name ≡ true) where
    -- refused
    not_there : (mode : Mode) → files_opened F name mode ≡ None → Called (answered (counted k) p next Refused) (OpenCall name mode)
    not_there mode none = record {
      names = g;
      shows = during.later_shows g k p q up is alive shows;
      effect =
          subst (OpensNamed (view g k) (view g (answered (counted k) p next Refused)) p parent (during.act g k p q) (fds_seen g.name q.fds) name mode) (sym good)
          (subst (OpensBy (view g k) (view g (answered (counted k) p next Refused)) p parent (during.act g k p q) (fds_seen g.name q.fds) name mode) (sym none) (during.only_answers g k p q up is alive shows Refused));
    }

    -- as it is
    kept_opened : (mode : Mode) (bytes : Bytes) → F name ≡ Some bytes → files_opened F name mode ≡ Some F → Called (open_here (counted k) p next name mode) (OpenCall name mode)
    kept_opened mode bytes held found = opened_here name mode (counted k) refl refl refl refl refl (λ other was. was) (ap is_some held) some_entry some_place F refl good found

    -- empty
    empty_opened : (mode : Mode) → files_opened F name mode ≡ Some (with_file F name []) → Called (open_here (with_file_bytes (counted k) name []) p next name mode) (OpenCall name mode)
    empty_opened mode found =
        let are : files (with_entry k.files name []) ≡ with_file F name [] = fun_ext (λ other. files-with_entry k.files name [] other) in
        opened_here name mode (with_file_bytes (counted k) name []) refl refl refl refl refl (stays_with name []) (ap is_some (files-with_entry k.files name [] name ∙ at_name F name [])) some_entry some_place (with_file F name []) are good found

    reading : (o : Option Bytes) → F name ≡ o → Called (open_for_reading (counted k) p next name ToRead o) (OpenCall name ToRead)
    reading None held = not_there ToRead (ap (files_read F) held)
    reading (Some bytes) held = kept_opened ToRead bytes held (ap (files_read F) held)

    -- a file is made
    made : (mode : Mode) → files_opened F name mode ≡ Some (with_file F name []) → (open_for_writing (counted k) p next name mode refused None).full ≡ None → Called (open_for_writing (counted k) p next name mode refused None) (OpenCall name mode)
    made mode found full = by_files (nat_le max_files (length k.files)) full
      where
        by_memory : (b : Bool) → (if b then refused_for (counted k) p next Memory else open_here (with_file_bytes (counted k) name []) p next name mode).full ≡ None → Called (if b then refused_for (counted k) p next Memory else open_here (with_file_bytes (counted k) name []) p next name mode) (OpenCall name mode)
        by_memory true full = absurd (is_marked k.full Memory full)
        by_memory false full = empty_opened mode found

        by_files : (b : Bool) → (if b then refused_for (counted k) p next Files else (if refused then refused_for (counted k) p next Memory else open_here (with_file_bytes (counted k) name []) p next name mode)).full ≡ None → Called (if b then refused_for (counted k) p next Files else (if refused then refused_for (counted k) p next Memory else open_here (with_file_bytes (counted k) name []) p next name mode)) (OpenCall name mode)
        by_files true full = absurd (is_marked k.full Files full)
        by_files false full = by_memory refused full

    opens_by_mode : (mode : Mode) → (open_named (counted k) p next name mode refused).full ≡ None → Called (open_named (counted k) p next name mode refused) (OpenCall name mode)
    opens_by_mode ToRead full = reading (F name) refl
    opens_by_mode Fresh full = by (F name) refl full
      where
        by : (o : Option Bytes) → F name ≡ o → (open_for_writing (counted k) p next name Fresh refused o).full ≡ None → Called (open_for_writing (counted k) p next name Fresh refused o) (OpenCall name Fresh)
        by None held full = made Fresh refl full
        by (Some bytes) held full = empty_opened Fresh refl
    opens_by_mode Over full = by (F name) refl full
      where
        by : (o : Option Bytes) → F name ≡ o → (open_for_writing (counted k) p next name Over refused o).full ≡ None → Called (open_for_writing (counted k) p next name Over refused o) (OpenCall name Over)
        by None held full = made Over (ap (λ o. Some (files_kept F name o)) held) full
        by (Some bytes) held full = kept_opened Over bytes held (ap (λ o. Some (files_kept F name o)) held)
    opens_by_mode Append full = by (F name) refl full
      where
        by : (o : Option Bytes) → F name ≡ o → (open_for_writing (counted k) p next name Append refused o).full ≡ None → Called (open_for_writing (counted k) p next name Append refused o) (OpenCall name Append)
        by None held full = made Append (ap (λ o. Some (files_kept F name o)) held) full
        by (Some bytes) held full = kept_opened Append bytes held (ap (λ o. Some (files_kept F name o)) held)

  pub opens_call : (name : Name) (mode : Mode) (refused : Bool) → (open_file (counted k) p next name mode refused).full ≡ None → Called (open_file (counted k) p next name mode refused) (OpenCall name mode)
  opens_call name mode refused full = by_entries (free_count k.entries == 0) refl full
    where
      bad_name : is_openable name ≡ false → Called (answered (counted k) p next Refused) (OpenCall name mode)
      bad_name bad = record {
        names = g;
        shows = during.later_shows g k p q up is alive shows;
        effect = subst (OpensNamed (view g k) (view g (answered (counted k) p next Refused)) p parent (during.act g k p q) (fds_seen g.name q.fds) name mode) (sym bad) (during.only_answers g k p q up is alive shows Refused);
      }

      by_name : 1 ≤ free_count k.entries → 1 ≤ free_count q.fds → (b : Bool) → is_openable name ≡ b → (if b then open_named (counted k) p next name mode refused else answered (counted k) p next Refused).full ≡ None → Called (if b then open_named (counted k) p next name mode refused else answered (counted k) p next Refused) (OpenCall name mode)
      by_name e f true good full = opens_by_mode name refused e f good mode full
      by_name e f false bad full = bad_name bad

      a_place : (o : Option ℕ) → lowest_free (fds_at k p) ≡ o → is_none o ≡ false → 1 ≤ free_count q.fds
      a_place None low some = absurd (let z : ⊥ = cc in z)
      a_place (Some fd) low some = subst (λ d. 1 ≤ free_count d) (during.fds_are g k p q up is alive shows) (omega (arith, (free_found is_free (fds_at k p)).0 (subst IsSome (sym low) refl)))

      by_places : 1 ≤ free_count k.entries → (b : Bool) → is_none (lowest_free (fds_at k p)) ≡ b
          → (if b then refused_for (counted k) p next NoFds else (if is_openable name then open_named (counted k) p next name mode refused else answered (counted k) p next Refused)).full ≡ None
          → Called (if b then refused_for (counted k) p next NoFds else (if is_openable name then open_named (counted k) p next name mode refused else answered (counted k) p next Refused)) (OpenCall name mode)
      by_places e true test full = absurd (is_marked k.full NoFds full)
      by_places e false test full = by_name e (a_place (lowest_free (fds_at k p)) refl test) (is_openable name) refl full

      some : (n : ℕ) → n ≢ 0 → 1 ≤ n
      some zero ne = absurd (ne refl)
      some (suc n) ne = omega arith

      by_entries : (b : Bool) → (free_count k.entries == 0) ≡ b
          → (if b then refused_for (counted k) p next Open else (if is_none (lowest_free (fds_at k p)) then refused_for (counted k) p next NoFds else (if is_openable name then open_named (counted k) p next name mode refused else answered (counted k) p next Refused))).full ≡ None
          → Called (if b then refused_for (counted k) p next Open else (if is_none (lowest_free (fds_at k p)) then refused_for (counted k) p next NoFds else (if is_openable name then open_named (counted k) p next name mode refused else answered (counted k) p next Refused))) (OpenCall name mode)
      by_entries true test full = absurd (is_marked k.full Open full)
      by_entries false test full = by_places (some (free_count k.entries) (eqb-false (free_count k.entries) 0 test)) (is_none (lowest_free (fds_at k p))) refl full
