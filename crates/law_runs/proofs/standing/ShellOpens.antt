-- A redirection opens its file, or reports that it can't.
use Rattle.std.proofs.Common.{◌≡◌, ◌≢◌, inr, ℕ, ◌+◌, ◌<◌, ◌≤◌, [], ◌++◌, Option, Some, None, Bool, true, false, length, arith, refl, sym, ap, ◌∙◌, subst}
use Rattle.std.specs.Prelude.{slice_set, codes}
use mathlib.Core.Path.{fun_ext}
use Rattle.mem_files.specs.Name.{Name, Bytes, is_openable}
use Rattle.mem_files.specs.Files.{FileMap, with_file, bytes_of}
use Rattle.mem_files.proofs.Listed.{its_own}
use Rattle.sh_tree.specs.declared.tree.Mode.{Mode}
use Rattle.sh_tree.specs.declared.tree.Mode.TheVariants.{Input, Fresh, Over}
use Rattle.sh_tree.specs.Tree.{Tree}
use Rattle.script_load.specs.declared.profile.Profile.{Profile}
use Rattle.script_load.specs.declared.profile.Profile.TheVariants.{Xv6, Append}
use Rattle.user_calls.specs.declared.calls.Mode.{Mode as CallMode}
use Rattle.user_calls.specs.declared.calls.Mode.TheVariants.{Input as ToRead, Fresh as ToFresh, Over as ToOver, Append as ToAppend}
use Rattle.user_calls.specs.declared.calls.Reply.TheVariants.{Fd, Refused}
use Rattle.user_progs.specs.Turn.{block}
use Rattle.tree_model.specs.Residual.{done, todo, unopened, into}
use Rattle.tree_model.specs.Rules.{silent, Steps, opens as opens_it}
use Rattle.tree_model.specs.Begin.{opens_file, open_from, open_into}
use Rattle.process_model.specs.Seen.{Entry, file, Fds, fd_at, Act, Seen, live, Place, View}
use Rattle.process_model.specs.Phases.{does, has_open, opens, plain_fds}
use Rattle.process_model.specs.Shape.{Node, starts, tells, opening, under_input, under_output, Has, same, occurs, names, is_there, position, stands_for}
use Rattle.process_model.specs.Effect.{Sets, Answers, PlaceChanges, Opens, OpensBy, OpensNamed, files_opened, files_read, files_kept, first_byte, lowest, answered, IsCall}
use Rattle.process_model.specs.Part.{goes, Part, After, calls_left}
use Rattle.process_model.proofs.Counts.{called_once}
use Rattle.law_runs.proofs.standing.Openable.{same_openable, whole}
use Rattle.law_runs.proofs.standing.CallKinds as kinds

module _ (profile : Profile) (V W : View) (a b old : Entry) (parent p : ℕ) (ev : IsCall V W p) where
  -- what runs under the redirection now, whose entry has the name of this event
  opened_kind : (t to : Node) (act : Act) (d d' : Fds) (fd : ℕ) (now : Place) (F : FileMap) → V.slots p ≡ live parent act 0 d → Sets V W p (answered parent act (Fd fd) d') → PlaceChanges V W V.next now F → Has profile W a b old parent to → Steps profile (stands_for t) V.files silent (stands_for to) F → ((q : ℕ) → occurs q to ≡ occurs q t) → ((k : ℕ) → names k to ≤ names k t + same k V.next) → is_there to ≡ is_there t → calls_left to ≡ 0 → Part profile V a b old parent p t → After profile V W p a b old parent t
  opened_kind t to act d d' fd now F slot slots entry has step oc nm there calm g = record {
    to = to;
    label = silent;
    files = F;
    has = has;
    steps = 1;
    moves = goes step;
    tells = (
      kinds.same_but V W entry.input entry.out a (λ k l. (entry.pipes k, entry.places k (fresh k (g.ends_known k (omega (arith, l)))))),
      kinds.same_but V W entry.input entry.out b (λ k l. (entry.pipes k, entry.places k (fresh k (g.ends_known k (omega (arith, l)))))),
      entry.files,
    );
    pids = λ q. omega (arith, oc q, kinds.sets_used V W p _ _ slot slots refl q);
    ids = nm;
    others = λ k na nb lt none. (entry.pipes k, entry.places k (fresh k lt));
    input_stays = λ n. entry.input;
    out_stays = λ n. entry.out;
    there = there;
    over = λ z. refl;
    pays = omega (arith, calm, called_once W p);
  }
    where
      fresh : (k : ℕ) → k < V.next → k ≢ V.next
      fresh k lt e = absurd (omega (arith, lt, e))

  -- it reports that it can't
  cant : (mode : Mode) (name : Name) (body : Tree) → Answers V W p parent (does profile (opens mode name body)) Refused (has_open (opens mode name body) a b old) → done ≡ (opens_file profile mode name body V.files).next → V.files ≡ (opens_file profile mode name body V.files).files → (fd_at (has_open (opens mode name body) a b old) 2 ≡ Some Rattle.process_model.specs.Seen.diag) → Part profile V a b old parent p (opening p mode name body) → After profile V W p a b old parent (opening p mode name body)
  cant mode name body f left same two g =
      kinds.calm V W profile a b old parent p _ _ (opening p mode name body) (tells p (block (codes "open " ++ (name ++ codes " failed\n")))) g.has f.slots f.rest refl (has_open (opens mode name body) a b old, f.slots.here, two, inr (mode, refl)) (goes (opens_it left same)) (λ q. refl) (λ k. omega arith) refl (omega arith)

  -- ---- for reading

  read_opens : (name : Name) (body : Tree) → is_openable name ≡ true → (o : Option Bytes) → V.files name ≡ o → OpensBy V W p parent (does profile (opens Input name body)) (has_open (opens Input name body) a b old) name ToRead (files_read V.files o) → Part profile V a b old parent p (opening p Input name body) → After profile V W p a b old parent (opening p Input name body)
  read_opens name body good None held f g = cant Input name body f (sym (ap (λ o. (open_from o name body V.files).next) found)) (sym (ap (λ o. (open_from o name body V.files).files) found)) refl g
    where
      found : (Rattle.std.specs.Prelude.if◌then◌else◌ (is_openable name) (V.files name) None) ≡ None
      found = ap (λ (c : Bool). Rattle.std.specs.Prelude.if◌then◌else◌ c (V.files name) None) good ∙ held
  read_opens name body good (Some bytes) held f g = by f.fd f.place f.slots
    where
      found : (Rattle.std.specs.Prelude.if◌then◌else◌ (is_openable name) (V.files name) None) ≡ Some bytes
      found = ap (λ (c : Bool). Rattle.std.specs.Prelude.if◌then◌else◌ c (V.files name) None) good ∙ held

      by : (fd : ℕ) → lowest (has_open (opens Input name body) a b old) ≡ Some fd → Sets V W p (answered parent (does profile (opens Input name body)) (Fd fd) (slice_set (has_open (opens Input name body) a b old) fd (Some (file V.next)))) → After profile V W p a b old parent (opening p Input name body)
      by fd low slots =
          let here : 0 ≡ fd = let z : Some 0 ≡ Some fd = low in cc in
          let now = subst (λ n. Sets V W p (answered parent (does profile (opens Input name body)) (Fd n) (slice_set (has_open (opens Input name body) a b old) n (Some (file V.next))))) (sym here) slots in
          opened_kind (opening p Input name body) (under_input V.next name 0 (starts p body)) _ _ _ 0 _ V.files g.has now f.entry (f.entry.place, refl, now.here)
          (opens_it (sym (ap (λ o. (open_from o name body V.files).next) found)) (sym (ap (λ o. (open_from o name body V.files).files) found))) (λ q. refl) (λ k. omega arith) refl refl g

  -- ---- for writing

  -- the file is opened, and its entry goes on at this byte
  write_opens : (mode : Mode) (way : CallMode) (name : Name) (body : Tree) (at : ℕ) (F : FileMap) → has_open (opens mode name body) a b old ≡ Rattle.process_model.specs.Phases.fds (Some a) None None None → Rattle.process_model.specs.Shape.OpensOutput profile way → at ≡ first_byte way (V.files name)
      → Rattle.process_model.specs.Seen.act_of (does profile (opens mode name body)).next (Fd 1) ≡ does profile (Rattle.process_model.specs.Phases.begins body)
      → Opens V W p parent (does profile (opens mode name body)) (has_open (opens mode name body) a b old) name way F → Steps profile (unopened mode name body) V.files silent (into name (position way at) (todo body)) F → Part profile V a b old parent p (opening p mode name body) → After profile V W p a b old parent (opening p mode name body)
  write_opens mode way name body at F fds ok byte runs_body f step g = by f.fd (ap lowest (sym fds) ∙ f.place) (subst (λ d. Sets V W p (answered parent (does profile (opens mode name body)) (Fd f.fd) (slice_set d f.fd (Some (file V.next))))) fds f.slots)
    where
      by : (fd : ℕ) → lowest (Rattle.process_model.specs.Phases.fds (Some a) None None None) ≡ Some fd → Sets V W p (answered parent (does profile (opens mode name body)) (Fd fd) (slice_set (Rattle.process_model.specs.Phases.fds (Some a) None None None) fd (Some (file V.next)))) → After profile V W p a b old parent (opening p mode name body)
      by fd low slots =
          let here : 1 ≡ fd = let z : Some 1 ≡ Some fd = low in cc in
          let now = subst (λ n. Sets V W p (answered parent (does profile (opens mode name body)) (Fd n) (slice_set (Rattle.process_model.specs.Phases.fds (Some a) None None None) n (Some (file V.next))))) (sym here) slots in
          opened_kind (opening p mode name body) (under_output V.next way name at (starts p body)) _ _ _ 1 _ F g.has now f.entry
          (f.entry.place ∙ ap (λ n. record { name = name; mode = way; at = n }) (sym byte), refl, now.here ∙ ap (λ act. live parent act 0 (plain_fds a (file V.next))) runs_body, ok)
          step (λ q. refl) (λ k. omega arith) refl refl g

-- the files once >> opened its file: as the machine says
kept_same : (F : FileMap) (name : Name) (o : Option Bytes) → F name ≡ o → files_kept F name o ≡ with_file F name (bytes_of o)
kept_same F name None held = refl
kept_same F name (Some bytes) held = fun_ext (λ other. sym (its_own F name other bytes held))

over_files : (F : FileMap) (name : Name) → files_kept F name (F name) ≡ with_file F name (bytes_of (F name))
over_files F name = kept_same F name (F name) refl

end_of : (o : Option Bytes) → length (bytes_of o) ≡ first_byte ToAppend o
end_of None = refl
end_of (Some bytes) = refl

module _ (V W : View) (a b old : Entry) (parent p : ℕ) (ev : IsCall V W p) where
  -- a redirection opens its file
  module _ (profile : Profile) (name : Name) (body : Tree) where
    -- the effect of the open, for a name that can be opened
    good_effect : (mode : Mode) (way : CallMode) → is_openable name ≡ true → OpensNamed V W p parent (does profile (opens mode name body)) (has_open (opens mode name body) a b old) (block name) way (is_openable (block name)) → OpensBy V W p parent (does profile (opens mode name body)) (has_open (opens mode name body) a b old) name way (files_opened V.files name way)
    good_effect mode way good f =
        subst (λ n. OpensBy V W p parent (does profile (opens mode name body)) (has_open (opens mode name body) a b old) n way (files_opened V.files n way)) (whole name good)
        (subst (OpensNamed V W p parent (does profile (opens mode name body)) (has_open (opens mode name body) a b old) (block name) way) (same_openable name ∙ good) f)

    bad_effect : (mode : Mode) (way : CallMode) → is_openable name ≡ false → OpensNamed V W p parent (does profile (opens mode name body)) (has_open (opens mode name body) a b old) (block name) way (is_openable (block name)) → Answers V W p parent (does profile (opens mode name body)) Refused (has_open (opens mode name body) a b old)
    bad_effect mode way bad f = subst (OpensNamed V W p parent (does profile (opens mode name body)) (has_open (opens mode name body) a b old) (block name) way) (same_openable name ∙ bad) f

  opens_input : (profile : Profile) (name : Name) (body : Tree) → Part profile V a b old parent p (opening p Input name body) → After profile V W p a b old parent (opening p Input name body)
  opens_input profile name body g = by (is_openable name) refl
    where
      e : OpensNamed V W p parent (does profile (opens Input name body)) (has_open (opens Input name body) a b old) (block name) ToRead (is_openable (block name))
      e = kinds.effect_at V W p parent 0 _ _ ev g.has

      by : (c : Bool) → is_openable name ≡ c → After profile V W p a b old parent (opening p Input name body)
      by true good = read_opens profile V W a b old parent p ev name body good (V.files name) refl (good_effect profile name body Input ToRead good e) g
      by false bad =
          let none : (Rattle.std.specs.Prelude.if◌then◌else◌ (is_openable name) (V.files name) None) ≡ None = ap (λ (c : Bool). Rattle.std.specs.Prelude.if◌then◌else◌ c (V.files name) None) bad in
          cant profile V W a b old parent p ev Input name body (bad_effect profile name body Input ToRead bad e) (sym (ap (λ o. (open_from o name body V.files).next) none)) (sym (ap (λ o. (open_from o name body V.files).files) none)) refl g

  opens_fresh : (profile : Profile) (name : Name) (body : Tree) → Part profile V a b old parent p (opening p Fresh name body) → After profile V W p a b old parent (opening p Fresh name body)
  opens_fresh profile name body g = by (is_openable name) refl
    where
      e : OpensNamed V W p parent (does profile (opens Fresh name body)) (has_open (opens Fresh name body) a b old) (block name) ToFresh (is_openable (block name))
      e = kinds.effect_at V W p parent 0 _ _ ev g.has

      by : (c : Bool) → is_openable name ≡ c → After profile V W p a b old parent (opening p Fresh name body)
      by true good =
          write_opens profile V W a b old parent p ev Fresh ToFresh name body 0 (with_file V.files name []) refl tt refl refl (good_effect profile name body Fresh ToFresh good e)
          (opens_it (sym (ap (λ c. (open_into profile c Fresh name body V.files).next) good)) (sym (ap (λ c. (open_into profile c Fresh name body V.files).files) good))) g
      by false bad =
          cant profile V W a b old parent p ev Fresh name body (bad_effect profile name body Fresh ToFresh bad e) (sym (ap (λ c. (open_into profile c Fresh name body V.files).next) bad)) (sym (ap (λ c. (open_into profile c Fresh name body V.files).files) bad)) refl g

  opens_over : (profile : Profile) (name : Name) (body : Tree) → Part profile V a b old parent p (opening p Over name body) → After profile V W p a b old parent (opening p Over name body)
  opens_over Xv6 name body g = by (is_openable name) refl
    where
      e : OpensNamed V W p parent (does Xv6 (opens Over name body)) (has_open (opens Over name body) a b old) (block name) ToOver (is_openable (block name))
      e = kinds.effect_at V W p parent 0 _ _ ev g.has

      by : (c : Bool) → is_openable name ≡ c → After Xv6 V W p a b old parent (opening p Over name body)
      by true good =
          write_opens Xv6 V W a b old parent p ev Over ToOver name body 0 (files_kept V.files name (V.files name)) refl tt refl refl (good_effect Xv6 name body Over ToOver good e)
          (opens_it (sym (ap (λ c. (open_into Xv6 c Over name body V.files).next) good)) (over_files V.files name ∙ sym (ap (λ c. (open_into Xv6 c Over name body V.files).files) good))) g
      by false bad =
          cant Xv6 V W a b old parent p ev Over name body (bad_effect Xv6 name body Over ToOver bad e) (sym (ap (λ c. (open_into Xv6 c Over name body V.files).next) bad)) (sym (ap (λ c. (open_into Xv6 c Over name body V.files).files) bad)) refl g
  opens_over Append name body g = by (is_openable name) refl
    where
      e : OpensNamed V W p parent (does Append (opens Over name body)) (has_open (opens Over name body) a b old) (block name) ToAppend (is_openable (block name))
      e = kinds.effect_at V W p parent 0 _ _ ev g.has

      by : (c : Bool) → is_openable name ≡ c → After Append V W p a b old parent (opening p Over name body)
      by true good =
          write_opens Append V W a b old parent p ev Over ToAppend name body (length (bytes_of (V.files name))) (files_kept V.files name (V.files name)) refl tt (end_of (V.files name)) refl (good_effect Append name body Over ToAppend good e)
          (opens_it (sym (ap (λ c. (open_into Append c Over name body V.files).next) good)) (over_files V.files name ∙ sym (ap (λ c. (open_into Append c Over name body V.files).files) good))) g
      by false bad =
          cant Append V W a b old parent p ev Over name body (bad_effect Append name body Over ToAppend bad e) (sym (ap (λ c. (open_into Append c Over name body V.files).next) bad)) (sym (ap (λ c. (open_into Append c Over name body V.files).files) bad)) refl g

  pub opens_now : (profile : Profile) (mode : Mode) (name : Name) (body : Tree) → Part profile V a b old parent p (opening p mode name body) → After profile V W p a b old parent (opening p mode name body)
  opens_now profile Input name body g = opens_input profile name body g
  opens_now profile Fresh name body g = opens_fresh profile name body g
  opens_now profile Over name body g = opens_over profile name body g
