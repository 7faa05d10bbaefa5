-- No run of a clear script within the bound on sizes finds a file too large for what is written to it.
use Rattle.std.proofs.Common.{◌≡◌, ℕ, zero, suc, ◌+◌, ◌<◌, ◌≤◌, List, [], ◌∷◌, Bool, Option, Some, None, refl, sym, ap, ◌∙◌, subst, length, arith}
use Rattle.std.specs.Prelude.{option_map}
use Rattle.mem_files.specs.Name.{Name, Bytes}
use Rattle.mem_files.specs.Files.{files}
use Rattle.mem_files.specs.Listing.{AreFiles, max_size}
use Rattle.script_load.specs.Line.{ScriptLine}
use Rattle.script_load.specs.declared.profile.Profile.{Profile}
use Rattle.meaning_model.specs.Meaning.{script_tree}
use Rattle.tree_model.specs.FilesAhead.{sizes}
use Rattle.user_calls.specs.declared.calls.Call.{Call}
use Rattle.user_calls.specs.declared.calls.Call.TheVariants.{Wait, Write}
use Rattle.fd_table.specs.declared.names.Object.{Object}
use Rattle.fd_table.specs.Descriptors.{Descriptors, entry_of}
use Rattle.kernel_model.specs.declared.events.Event.{Event}
use Rattle.kernel_model.specs.declared.events.Full.TheVariants.{Size}
use Rattle.kernel_model.specs.KernelState.{KernelState, fds_of, file_at}
use Rattle.kernel_model.specs.Events.{run, counted}
use Rattle.run_model.specs.ScriptRun.{script_kernel}
use Rattle.sh_machine.specs.State.{User}
use Rattle.sh_machine.specs.Turn.{call_of, next_of}
use Rattle.tree_model.specs.Tidy.{IsClearScript}
use Rattle.tree_model.specs.Runs.{Stage, first_stage}
use Rattle.tree_model.specs.Bound.{bytes_left, most_bytes}
use Rattle.process_model.specs.Seen.{Entry, input as std_input, out, file, fd_at, fds_seen, view}
use Rattle.process_model.specs.Shows.{IsNamed}
use Rattle.process_model.specs.Shape.{stands_for}
use Rattle.law_trees.proofs.tree_ends.Ending.{bounded}
use Rattle.law_runs.proofs.standing.Reaching.{reach}
use Rattle.room_model.specs.Bytes.{FilesStaySmall}
use Rattle.law_runs.proofs.room.Marks.{WritesTooMuch}
use Rattle.law_runs.proofs.room.FileWrites.{WritesFile, ahead}
use Rattle.law_runs.proofs.room.AtCalls.{Filled, filled, IsNoWait, call, asked, inside}

-- a descriptor is seen to hold what its entry is named
seen_at : (name : ℕ → Entry) (fds : Descriptors) (fd : ℕ) → fd_at (fds_seen name fds) fd ≡ option_map name (entry_of fds fd)
seen_at name [] fd = refl
seen_at name (x ∷ fds) zero = refl
seen_at name (x ∷ fds) (suc fd) = seen_at name fds fd

write_no_wait : (c : Call) (fd : ℕ) (bytes : Bytes) → c ≡ Write fd bytes → IsNoWait c
write_no_wait c fd bytes is waits = let z : Write fd bytes ≡ Wait = sym is ∙ waits in let w : ⊥ = cc in w

module _ (profile : Profile) (lines : List ScriptLine) (input : Bytes) (list : List (Name × Bytes)) (are : AreFiles list) (clear : IsClearScript lines) where
  module _ (f : Filled profile lines input list Size) where
    abbrev first : Stage
    first = first_stage (script_tree lines) input (files list)

    abbrev k : KernelState User
    k = f.kernel

    abbrev own : Descriptors
    own = f.asks.process.fds

    abbrev w : WritesTooMuch (counted k) f.asks.pid (call profile first k f.way Size f.asks)
    w = f.asks.lacks

    other : IsNoWait (call profile first k f.way Size f.asks)
    other = write_no_wait (call profile first k f.way Size f.asks) w.fd w.bytes w.asks

    -- the entry that is written through is that of a file
    held : (o : Option ℕ) → entry_of own w.fd ≡ o → file_at k.entries o ≡ Some w.entry → (id : ℕ) × (fd_at (fds_seen f.way.names.name own) w.fd ≡ Some (file id))
    held None is opened = absurd (let z : ⊥ = cc in z)
    held (Some e) is opened =
        let named = f.way.shows.named e w.entry opened in
        let it = subst (λ (o : Object). IsNamed f.way.names (files k.files) (k.events + 1) (f.way.names.name e) o w.entry.offset) w.object named in
        (it.id, seen_at f.way.names.name own w.fd ∙ (ap (option_map f.way.names.name) is ∙ ap (λ x. Some x) it.is))

    to_file : (id : ℕ) × (fd_at (fds_seen f.way.names.name own) w.fd ≡ Some (file id))
    to_file = held (entry_of own w.fd) refl (ap (λ fds. file_at k.entries (entry_of fds w.fd)) (sym (ap fds_of f.asks.there)) ∙ w.opened)

    few : length w.bytes ≤ bytes_left (stands_for f.way.tree) (length k.input) (sizes (files k.files))
    few =
        let seen = asked profile first k f.way Size f.asks other in
        ahead profile (view f.way.names k) f.asks.pid w.fd to_file.0 w.bytes (subst (WritesFile w.fd w.bytes to_file.0) (sym seen) (w.asks, to_file.1)) std_input out out 0 f.way.tree f.way.shape.has
        (inside profile first k f.way Size f.asks other) (length k.input) (sizes (files k.files))

    too_large : max_size < sizes (files list) w.name + most_bytes lines input (files list)
    too_large =
        let b = bounded profile (reach profile f.way.way) ((clear.clear, clear.short), clear.no_back) in
        omega (arith, few, b.grow w.name, w.much)

  pub file_stays_small : (es : List Event) (ns : List Bool) (m : KernelState User) → run call_of next_of (Some (script_kernel profile lines input list)) es ns ≡ Some m → FilesStaySmall lines input list → m.full ≡ Some Size → ⊥
  file_stays_small es ns m is small marked =
      let f = filled profile lines input list are clear.no_back es ns m Size is marked in
      omega (arith, too_large f, small (w f).name)
