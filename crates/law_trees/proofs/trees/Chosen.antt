-- Each step by the rules is the step of a choice.
use Rattle.std.proofs.Common.{◌≡◌, ◌∙◌, ℕ, suc, ◌≤◌, Bool, true, false, [], ◌∷◌, ◌++◌, length, take, drop, Option, Some, None, refl, sym, ap, arith, append-nil, add-zero}
use Rattle.std.specs.Prelude.{◌-◌, min, not, if◌then◌else◌}
use Rattle.std.specs.Str.{bytes_eq}
use Rattle.std.proofs.Math.Seq.{drop-append_seam, take-append_seam}
use mathlib.Core.Path.{fun_ext}
use Rattle.std.proofs.lemmas.Bool.{or_right}
use Rattle.mem_files.specs.Name.{Name, Bytes}
use Rattle.mem_files.specs.Files.{FileMap, bytes_of}
use Rattle.mem_files.proofs.Overlays.{written_none}
use Rattle.script_load.specs.declared.profile.Profile.{Profile}
use Rattle.user_calls.specs.declared.calls.Reply.TheVariants.{Bytes as Bytes'}
use Rattle.tree_model.specs.Residual.{Running, Residual, running, piped, from, into, Position, at_byte, at_file_end, byte_in, moved_on, keeps_0, keeps_1}
use Rattle.tree_model.specs.Answers.{Kind, leaves, reads_input, writes_output, asks, kind_of, resumed}
use Rattle.tree_model.specs.Rules.{Label, silent, takes, meets_end, puts, refused, patch, patched, is_gap, Steps, IsMet, taken, put_out, is_refused}
use Rattle.tree_model.specs.Rules.Steps.{begins, opens, exits, calls, reads, reads_end, writes_all, writes_some, write_refused, seq_ends, pipe_ends, from_ends, into_ends, seq_steps, left_silent, left_takes, left_meets_end, left_puts, left_refused, right_silent, right_takes, right_meets_end, right_puts, right_refused, from_silent, from_takes, from_meets_end, from_puts, from_refused, into_silent, into_takes, into_meets_end, into_puts, into_refused}
use Rattle.tree_model.specs.Step.{Move, Choice, here, on_left, on_right, quiet, read_input, put_some, write_output, act, run_move, seq_move, left_move, right_move, from_move, into_move, step}
use mathlib.Core.Bool.{or-false}

abbrev pub move_by : Label → Residual → FileMap → Move Residual
move_by label X F = record { wrote = put_out label; refused = is_refused label; took = taken label; next = X; files = F }

-- a choice makes this step
abbrev pub Chosen : Profile → Residual → FileMap → Label → Residual → FileMap → Bool → Bool → Bytes → Type 0
Chosen profile X F label X' G closed ended i = (c : Choice) × (step profile X c closed ended i F ≡ move_by label X' G)

some_bytes : (bytes : Bytes) → 1 ≤ length bytes → (byte : ℕ) × (more : Bytes) × (bytes ≡ byte ∷ more)
some_bytes [] h = absurd (omega (arith, h))
some_bytes (byte ∷ more) h = (byte, more, refl)

-- reads and writes of so many bytes
by_read : (run : Running) (most : ℕ) (en : Bool) (byte : ℕ) (bytes more : Bytes) (F : FileMap) → suc (length bytes) ≤ most →
    read_input most run (length bytes) en ((byte ∷ bytes) ++ more) F ≡ record (quiet (Some (resumed run (Bytes' (byte ∷ bytes)))) F) { took = suc (length bytes) }
by_read run most en byte bytes more F few =
    let least : min (length bytes) (most - 1) ≡ length bytes = omega (arith, few) in
    let same : take (min (length bytes) (most - 1)) (bytes ++ more) ≡ bytes = ap (λ n. take n (bytes ++ more)) least ∙ take-append_seam bytes more in
    ap (λ z. record (quiet (Some (resumed run (Bytes' (byte ∷ z)))) F) { took = suc (length z) }) same

by_put : (run : Running) (left now later : Bytes) (cl : Bool) (F : FileMap) (byte : ℕ) (more : Bytes) → now ≡ byte ∷ more → left ≡ now ++ later →
    write_output run left (length now) cl F ≡ put_some run now later F
by_put run left now later cl F byte more is cut =
    let first : left ≡ byte ∷ (more ++ later) = cut ∙ ap (λ z. z ++ later) is in
    let size : length now ≡ suc (length more) = ap length is in
    (λ t. write_output run (first t) (size t) cl F)
    ∙ (λ t. put_some run (byte ∷ take-append_seam more later t) (drop-append_seam more later t) F)
    ∙ ap (λ z. put_some run z later F) (sym is)

moved_none : (at : Position) → moved_on at 0 ≡ at
moved_none (at_byte n) = ap at_byte (add-zero n)
moved_none at_file_end = refl

patched_none : (F : FileMap) (f : Name) (at : Position) → patched F f at [] ≡ F
patched_none F f at = fun_ext (λ n. go (bytes_eq n f) (F n))
  where
    same : (o : Option Bytes) → patch o at [] ≡ o
    same None = refl
    same (Some b) = ap Some (written_none b (byte_in at b))

    go : (b : Bool) (o : Option Bytes) → (if b then patch o at [] else o) ≡ o
    go true o = same o
    go false o = refl

module _ (profile : Profile) where
  -- a call of a known kind
  by_kind : (run : Running) (kind : Kind) (k : ℕ) (cl en : Bool) (i : Bytes) (F : FileMap) → kind_of run.turn.call ≡ kind → step profile (running run) (here k) cl en i F ≡ run_move (act kind run k cl en i F)
  by_kind run kind k cl en i F is = ap (λ z. run_move (act z run k cl en i F)) is

  pub chosen : {X X' : Residual} {F G : FileMap} {l : Label} (closed ended : Bool) (i : Bytes) → Steps profile X F l X' G → IsMet l closed ended i → Chosen profile X F l X' G closed ended i
  chosen cl en i (begins {F = F} e) met = (here 0, ap (λ x. move_by silent x F) (sym e))
  chosen cl en i (opens e g) met = (here 0, (λ t. move_by silent (sym e t) (sym g t)))
  chosen cl en i (exits {F = F} {run = run} is) met = (here 0, by_kind run leaves 0 cl en i F is)
  chosen cl en i (calls {F = F} {run = run} is e g) met = (here 0, by_kind run asks 0 cl en i F is ∙ (λ t. move_by silent (sym e t) (sym g t)))
  chosen cl en i (reads {F = F} {run = run} {bytes = bytes} most is some few e) (more, cut) =
      let s = some_bytes bytes some in
      let size : suc (length s.1) ≤ most = omega (arith, few, ap length s.2) in (
        here (length s.1),
        by_kind run (reads_input most) (length s.1) cl en i F is
            ∙ ap (λ z. run_move (read_input most run (length s.1) en z F)) (cut ∙ ap (λ z. z ++ more) s.2)
            ∙ ap run_move (by_read run most en s.0 s.1 more F size)
            ∙ ap (λ z. move_by (takes z) (running (resumed run (Bytes' z))) F) (sym s.2)
            ∙ ap (λ z. move_by (takes bytes) z F) (sym e),
      )
  chosen cl en i (reads_end {F = F} {run = run} most is e) (ended, none) = (
    here 0,
    by_kind run (reads_input most) 0 cl en i F is ∙ (λ t. run_move (read_input most run 0 (ended t) (none t) F)) ∙ ap (λ z. move_by meets_end z F) (sym e),
  )
  chosen cl en i (writes_all {F = F} {run = run} {now = now} {X = X'} bytes is all e) met = go now all
    where
      go : (now : Bytes) → now ≡ drop run.put bytes → Chosen profile (running run) F (puts now) X' F cl en i
      go [] all = (here 0, by_kind run (writes_output bytes) 0 cl en i F is ∙ ap (λ z. run_move (write_output run z 0 cl F)) (sym all) ∙ ap (λ z. move_by (puts []) z F) (sym e))
      go (byte ∷ more) all = (
        here (length (byte ∷ more)),
        by_kind run (writes_output bytes) (length (byte ∷ more)) cl en i F is
            ∙ ap run_move (by_put run (drop run.put bytes) (byte ∷ more) [] cl F byte more refl (sym all ∙ sym (append-nil (byte ∷ more))))
            ∙ ap (λ z. move_by (puts (byte ∷ more)) z F) (sym e),
      )
  chosen cl en i (writes_some {F = F} {run = run} {now = now} bytes later is cut some rest e) met =
      let s = some_bytes now some in
      let r = some_bytes later rest in (
        here (length now),
        by_kind run (writes_output bytes) (length now) cl en i F is
            ∙ ap run_move (by_put run (drop run.put bytes) now later cl F s.0 s.1 s.2 cut ∙ ap (λ z. put_some run now z F) r.2)
            ∙ ap (λ z. move_by (puts now) z F) (sym e),
      )
  chosen cl en i (write_refused {F = F} {run = run} bytes is some e) met =
      let s = some_bytes (drop run.put bytes) some in (
        here 0,
        by_kind run (writes_output bytes) 0 cl en i F is ∙ (λ t. run_move (write_output run (s.2 t) 0 (met t) F)) ∙ ap (λ z. move_by refused z F) (sym e),
      )
  chosen cl en i seq_ends met = (here 0, refl)
  chosen cl en i pipe_ends met = (here 0, refl)
  chosen cl en i from_ends met = (here 0, refl)
  chosen cl en i into_ends met = (here 0, refl)
  chosen cl en i (seq_steps {later = T} s) met = let a = chosen cl en i s met in (on_left a.0, ap (seq_move T) a.1)
  chosen cl en i (left_silent {G = G} {X' = X'} {Y = Y} {lost = lost} {q = q} s) met =
      let a = chosen (not (keeps_0 Y)) en i s tt in
      (on_left a.0, ap (left_move lost q Y) a.1 ∙ (λ t. move_by silent (piped (or-false lost t) X' (append-nil q t) Y) G))
  chosen cl en i (left_takes {G = G} {X' = X'} {Y = Y} {lost = lost} {q = q} {bytes = b} s) met =
      let a = chosen (not (keeps_0 Y)) en i s met in
      (on_left a.0, ap (left_move lost q Y) a.1 ∙ (λ t. move_by (takes b) (piped (or-false lost t) X' (append-nil q t) Y) G))
  chosen cl en i (left_meets_end {G = G} {X' = X'} {Y = Y} {lost = lost} {q = q} s) met =
      let a = chosen (not (keeps_0 Y)) en i s met in
      (on_left a.0, ap (left_move lost q Y) a.1 ∙ (λ t. move_by meets_end (piped (or-false lost t) X' (append-nil q t) Y) G))
  chosen cl en i (left_puts {G = G} {X' = X'} {Y = Y} {lost = lost} {q = q} s e room) met =
      let a = chosen (not (keeps_0 Y)) en i s tt in
      (on_left a.0, ap (left_move lost q Y) a.1 ∙ (λ t. move_by silent (piped (or-false lost t) X' (sym e t) Y) G))
  chosen cl en i (left_refused {G = G} {X' = X'} {Y = Y} {lost = lost} {q = q} s closed) met =
      let a = chosen (not (keeps_0 Y)) en i s (ap not closed) in
      (on_left a.0, ap (left_move lost q Y) a.1 ∙ (λ t. move_by silent (piped (or_right lost true refl t) X' (append-nil q t) Y) G))
  chosen cl en i (right_silent {X = X} {lost = lost} {q = q} s) met =
      let a = chosen cl (not (keeps_1 X)) q s tt in
      (on_right a.0, ap (right_move lost X q) a.1)
  chosen cl en i (right_takes {G = G} {X = X} {Y' = Y'} {lost = lost} {q = q} {q' = q'} {bytes = b} s e) met =
      let a = chosen cl (not (keeps_1 X)) q s (q', e) in
      (on_right a.0, ap (right_move lost X q) a.1 ∙ ap (λ z. move_by silent (piped lost X z Y') G) (ap (drop (length b)) e ∙ drop-append_seam b q'))
  chosen cl en i (right_meets_end {X = X} {lost = lost} {q = q} s none closed) met =
      let a = chosen cl (not (keeps_1 X)) q s (ap not closed, none) in
      (on_right a.0, ap (right_move lost X q) a.1)
  chosen cl en i (right_puts {X = X} {lost = lost} {q = q} s) met =
      let a = chosen cl (not (keeps_1 X)) q s tt in
      (on_right a.0, ap (right_move lost X q) a.1)
  chosen cl en i (right_refused {X = X} {lost = lost} {q = q} s) met =
      let a = chosen cl (not (keeps_1 X)) q s met in
      (on_right a.0, ap (right_move lost X q) a.1)
  chosen cl en i (from_silent {F = F} {G = G} {X' = X'} {file = f} {at = at} s) met =
      let a = chosen cl true (drop at (bytes_of (F f))) s tt in
      (on_left a.0, ap (from_move f at) a.1 ∙ ap (λ n. move_by silent (from f n X') G) (add-zero at))
  chosen cl en i (from_takes {F = F} {G = G} {X' = X'} {file = f} {at = at} more s cut e) met =
      let a = chosen cl true (drop at (bytes_of (F f))) s (more, cut) in
      (on_left a.0, ap (from_move f at) a.1 ∙ ap (λ n. move_by silent (from f n X') G) (sym e))
  chosen cl en i (from_meets_end {F = F} {G = G} {X' = X'} {file = f} {at = at} s none) met =
      let a = chosen cl true (drop at (bytes_of (F f))) s (refl, none) in
      (on_left a.0, ap (from_move f at) a.1 ∙ ap (λ n. move_by silent (from f n X') G) (add-zero at))
  chosen cl en i (from_puts {F = F} {G = G} {X' = X'} {file = f} {at = at} {bytes = b} s) met =
      let a = chosen cl true (drop at (bytes_of (F f))) s tt in
      (on_left a.0, ap (from_move f at) a.1 ∙ ap (λ n. move_by (puts b) (from f n X') G) (add-zero at))
  chosen cl en i (from_refused {F = F} {G = G} {X' = X'} {file = f} {at = at} s) met =
      let a = chosen cl true (drop at (bytes_of (F f))) s met in
      (on_left a.0, ap (from_move f at) a.1 ∙ ap (λ n. move_by refused (from f n X') G) (add-zero at))
  chosen cl en i (into_silent {F = F} {G = G} {X' = X'} {file = f} {at = at} s) met =
      let a = chosen (is_gap (F f) at) en i s tt in
      (on_left a.0, ap (into_move f at) a.1 ∙ (λ t. move_by silent (into f (moved_none at t) X') (patched_none G f at t)))
  chosen cl en i (into_takes {F = F} {G = G} {X' = X'} {file = f} {at = at} {bytes = b} s) met =
      let a = chosen (is_gap (F f) at) en i s met in
      (on_left a.0, ap (into_move f at) a.1 ∙ (λ t. move_by (takes b) (into f (moved_none at t) X') (patched_none G f at t)))
  chosen cl en i (into_meets_end {F = F} {G = G} {X' = X'} {file = f} {at = at} s) met =
      let a = chosen (is_gap (F f) at) en i s met in
      (on_left a.0, ap (into_move f at) a.1 ∙ (λ t. move_by meets_end (into f (moved_none at t) X') (patched_none G f at t)))
  chosen cl en i (into_puts {F = F} {G = G} {X' = X'} {file = f} {at = at} s within e h) met =
      let a = chosen (is_gap (F f) at) en i s tt in
      (on_left a.0, ap (into_move f at) a.1 ∙ (λ t. move_by silent (into f (sym e t) X') (sym h t)))
  chosen cl en i (into_refused {F = F} {G = G} {X' = X'} {file = f} {at = at} s gap) met =
      let a = chosen (is_gap (F f) at) en i s gap in
      (on_left a.0, ap (into_move f at) a.1 ∙ (λ t. move_by silent (into f (moved_none at t) X') (patched_none G f at t)))
