-- Each node's value is made of what its parts gave, and each fault that a part returned is due.
use Rattle.std.proofs.Common.{◌≡◌, ◌<◌, true, false, ap, sym, ◌∙◌, refl, subst, Ok, Some, [], length, rules}
use Rattle.std.specs.Prelude.{option_copied}
use Rattle.std.proofs.lemmas.Result.{err_from_is_err_and}
use Rattle.sh_tree.specs.Tree.{pipe, redir, tree_of}
use Rattle.mem_files.specs.Name.{is_openable}
use Rattle.mem_files.specs.Files.{files, with_file}
use Rattle.mem_files.specs.Listing.{max_size}
use Rattle.meaning_model.specs.Inputs.{found}
use Rattle.meaning_model.specs.Limits.{Outgrows}
use Rattle.meaning_model.specs.Meaning.{meaning, over_end}
use Rattle.plain_run.specs.Gives.{Gives, IsDue}
use Rattle.plain_run.specs.Tells.{Tells}
use Rattle.plain_run.specs.Again.{TellsAgain}
use Rattle.plain_run.specs.Held.{held}
use Rattle.plain_run.specs.Means.{Means}
use Rattle.plain_run.proofs.AgainSteps.{from_again, into_again, list_again, pipe_again, unopened_again, unopened_gives, unopened_tells}
use Rattle.plain_run.proofs.CatPipes.{after_cat_again, after_cat_gives, after_cat_tells, into_cat}
use Rattle.plain_run.proofs.Steps.{from_gives, due_right, due_later, list_gives, pipe_gives, still_there, into_gives, due_body, due_end}
use Rattle.plain_run.proofs.Verdicts.{from_tells, into_tells, list_tells, pipe_tells}
use Rattle.plain_run.proofs.run.Runner.+tree.Goals as goal

pub run_from_file-returns : goal.run_from_file-returns
run_from_file-returns g t c =
    let P = c.args.self.now.profile in
    let T = tree_of c.args.body.now in
    let F = files c.args.self.now.store in
    let bytes = c.as_slice.result.now in
    let V = c.in_ok-ran.ran.verdict in
    let is : found F c.args.name.now ≡ Some bytes =
    sym c.find.ensures ∙ ap option_copied c.in-Some.is ∙ ap Some (sym (c.as_slice.ensures ∙ c.in_ok-bytes.ensures))
    in
    record {
      profile = c.run_tree.ensures.profile;
      gives = from_gives P c.args.name.now T c.args.input.now bytes c.args.self.now.out.items c.run_tree.new.self.out.items c.in_ok-ran.ran.rest.now F (files c.run_tree.new.self.store) is c.in_ok-ran.ensures.gives;
      tells = from_tells P c.args.name.now T c.args.input.now bytes F V.is_loose c.with_looseness.result.is_loose V.soft.items c.with_looseness.result.soft.items is c.in_ok-ran.ensures.tells c.with_looseness.ensures.loose (c.with_looseness.ensures.soft ∙ c.in_ok-into_file.ensures.soft);
      again = from_again P c.args.name.now T c.args.input.now bytes F V.is_loose V.reuses c.with_looseness.result.reuses V.again.items V.soft.items c.with_looseness.result.again.items is c.in_ok-ran.ensures.tells c.in_ok-ran.ensures.again (c.with_looseness.ensures.again ∙ c.in_ok-into_file.ensures.again) (c.with_looseness.ensures.reuses ∙ c.in_ok-into_file.ensures.reuses);
      large = tt;
    }

pub run_into_file-returns-in_err-ran : goal.run_into_file-returns-in_err-ran
run_into_file-returns-in_err-ran g t c =
    record {
      profile = c.run_tree.ensures.profile;
      gives = search rules;
      tells = search rules;
      again = search rules;
      large = (
          let p = err_from_is_err_and c.from_residual-in_err-ran.result c.from_residual-in_err-ran.ensures.1 in
          let open' = c.in_ok-open_output.ensures.opened (ap Ok c.if-not-branch.false) in
          let good : is_openable c.args.name.now ≡ true = sym c.in_ok-open_output.ensures.answer ∙ c.if-not-branch.false in
          rw (p.1, p.2) (due_body c.args.self.now.profile c.args.mode c.args.name.now (tree_of c.args.body.now) c.args.input.now (files c.args.self.now.store) (files c.open_output.new.store) c.in_err-ran.field-0.0 c.requires good open' c.in_err-ran.ensures.large)
          );
    }

pub run_into_file-returns-in_err-close_output : goal.run_into_file-returns-in_err-close_output
run_into_file-returns-in_err-close_output g t c =
    record {
      profile = c.run_tree.ensures.profile;
      gives = search rules;
      tells = search rules;
      again = search rules;
      large = (
          let P = c.args.self.now.profile in
          let T = tree_of c.args.body.now in
          let G = files c.run_tree.new.self.store in
          let written = c.run_tree.new.self.out.items in
          let rest = c.in_ok-ran.ran.rest.now in
          let p = err_from_is_err_and c.from_residual-in_err-close_output.result c.from_residual-in_err-close_output.ensures.1 in
          let open' = c.in_ok-open_output.ensures.opened (ap Ok c.if-not-branch.false) in
          let good : is_openable c.args.name.now ≡ true = sym c.in_ok-open_output.ensures.answer ∙ c.if-not-branch.false in
          let none = ap (λ out. out.items) c.replace-out.ensures.after ∙ c.new.ensures.items in
          let gives = subst (λ F. Gives (meaning P T c.args.input.now F) [] written rest G) open'
          (subst (λ old. Gives (meaning P T c.args.input.now (files c.open_output.new.store)) old written rest G) none c.in_ok-ran.ensures.gives)
          in
          let large = subst (λ Q. IsDue (max_size < length (over_end Q (held c.args.mode (files c.args.self.now.store) c.args.name.now) written)) c.in_err-close_output.field-0.0) c.run_tree.ensures.profile
          (subst (λ w. IsDue (max_size < length (over_end c.run_tree.new.self.profile (held c.args.mode (files c.args.self.now.store) c.args.name.now) w.items)) c.in_err-close_output.field-0.0) c.replace-written.ensures.value
          (subst (λ h. IsDue (max_size < length (over_end c.run_tree.new.self.profile h c.replace-written.result.items)) c.in_err-close_output.field-0.0) c.in_ok-held.ensures c.in_err-close_output.ensures.large))
          in
          rw (p.1, p.2) (due_end P c.args.mode c.args.name.now T c.args.input.now written rest (files c.args.self.now.store) G c.in_err-close_output.field-0.0 c.requires good gives large)
          );
    }

pub run_into_file-close_output-requires-clause-present : goal.run_into_file-close_output-requires-clause-present
run_into_file-close_output-requires-clause-present g t c =
    let P = c.args.self.now.profile in
    let T = tree_of c.args.body.now in
    let G = files c.run_tree.new.self.store in
    let written = c.run_tree.new.self.out.items in
    let rest = c.in_ok-ran.ran.rest.now in
    let open' = c.in_ok-open_output.ensures.opened (ap Ok c.if-not-branch.false) in
    let none = ap (λ out. out.items) c.replace-out.ensures.after ∙ c.new.ensures.items in
    let gives = subst (λ F. Gives (meaning P T c.args.input.now F) [] written rest G) open'
    (subst (λ old. Gives (meaning P T c.args.input.now (files c.open_output.new.store)) old written rest G) none c.in_ok-ran.ensures.gives)
    in
    still_there P c.args.mode c.args.name.now T c.args.input.now written rest (files c.args.self.now.store) G c.requires gives

pub run_into_file-returns : goal.run_into_file-returns
run_into_file-returns g t c =
    let P = c.args.self.now.profile in
    let T = tree_of c.args.body.now in
    let name = c.args.name.now in
    let F = files c.args.self.now.store in
    let V = c.in_ok-ran.ran.verdict in
    let open' = c.in_ok-open_output.ensures.opened (ap Ok c.if-not-branch.false) in
    let good : is_openable name ≡ true = sym c.in_ok-open_output.ensures.answer ∙ c.if-not-branch.false in
    record {
      profile = c.run_tree.ensures.profile;
      gives = (
          let G = files c.run_tree.new.self.store in
          let written = c.run_tree.new.self.out.items in
          let rest = c.in_ok-ran.ran.rest.now in
          let H = files c.close_output.new.store in
          let none = ap (λ out. out.items) c.replace-out.ensures.after ∙ c.new.ensures.items in
          let kept = ap (λ out. out.items) (c.replace-written.ensures.after ∙ c.replace-out.ensures.value) in
          let gives = subst (λ F'. Gives (meaning P T c.args.input.now F') [] written rest G) open'
          (subst (λ old. Gives (meaning P T c.args.input.now (files c.open_output.new.store)) old written rest G) none c.in_ok-ran.ensures.gives)
          in
          let end = c.in_ok-close_output.ensures.closed ∙ ap (λ h. with_file G name (over_end c.run_tree.new.self.profile h c.replace-written.result.items)) c.in_ok-held.ensures
          ∙ ap (λ w. with_file G name (over_end c.run_tree.new.self.profile (held c.args.mode F name) w.items)) c.replace-written.ensures.value
          ∙ ap (λ Q. with_file G name (over_end Q (held c.args.mode F name) written)) c.run_tree.ensures.profile
          in
          subst (λ new. Gives (meaning P (redir c.args.mode name T) c.args.input.now F) c.args.self.now.out.items new rest H) (sym kept)
          (into_gives P c.args.mode name T c.args.input.now c.args.self.now.out.items written rest F G H c.requires good gives end)
          );
      tells = into_tells P c.args.mode name T c.args.input.now F (files c.open_output.new.store) V.is_loose c.in_ok-into_file.field-0.is_loose V.soft.items c.in_ok-into_file.field-0.soft.items c.requires good open' c.in_ok-ran.ensures.tells c.in_ok-into_file.ensures.loose c.in_ok-into_file.ensures.soft;
      again = into_again P c.args.mode name T c.args.input.now F (files c.open_output.new.store) V.is_loose V.reuses c.in_ok-into_file.field-0.reuses V.again.items V.soft.items c.in_ok-into_file.field-0.again.items c.requires good open' c.in_ok-ran.ensures.tells c.in_ok-ran.ensures.again c.in_ok-into_file.ensures.again c.in_ok-into_file.ensures.reuses;
      large = tt;
    }

pub run_list-returns-in_err-second : goal.run_list-returns-in_err-second
run_list-returns-in_err-second g t c =
    record {
      profile = c.run_tree-2.ensures.profile ∙ c.run_tree.ensures.profile;
      gives = search rules;
      tells = search rules;
      again = search rules;
      large = (
          let R = tree_of c.args.right.now in
          let rest = c.in_ok-first.first.rest.now in
          let G = files c.run_tree.new.self.store in
          let p = err_from_is_err_and c.from_residual-in_err-second.result c.from_residual-in_err-second.ensures.1 in
          let large = subst (λ P. IsDue (Outgrows P R rest G) c.in_err-second.field-0.0) c.run_tree.ensures.profile c.in_err-second.ensures.large in
          rw (p.1, p.2) (due_later c.args.self.now.profile (tree_of c.args.left.now) R c.args.input.now c.args.self.now.out.items c.run_tree.new.self.out.items rest (files c.args.self.now.store) G c.in_err-second.field-0.0 c.in_ok-first.ensures.gives large)
          );
    }

pub run_list-returns : goal.run_list-returns
run_list-returns g t c =
    let P = c.args.self.now.profile in
    let L = tree_of c.args.left.now in
    let R = tree_of c.args.right.now in
    let input = c.args.input.now in
    let old = c.args.self.now.out.items in
    let middle = c.run_tree.new.self.out.items in
    let rest = c.in_ok-first.first.rest.now in
    let F = files c.args.self.now.store in
    let G = files c.run_tree.new.self.store in
    let V = c.in_ok-first.first.verdict in
    let W = c.in_ok-second.second.verdict in
    let X = c.in_ok-verdict.verdict in
    let same = c.run_tree.ensures.profile in
    let told = subst (λ Q. Tells (meaning Q R rest G) W.is_loose W.soft.items) same c.in_ok-second.ensures.tells in
    record {
      profile = c.run_tree-2.ensures.profile ∙ same;
      gives = (
          let new = c.run_tree-2.new.self.out.items in
          let left = c.in_ok-second.second.rest.now in
          let H = files c.run_tree-2.new.self.store in
          let second = subst (λ Q. Gives (meaning Q R rest G) middle new left H) same c.in_ok-second.ensures.gives in
          list_gives P L R input old middle new rest left F G H c.in_ok-first.ensures.gives second
          );
      tells = list_tells P L R input old middle rest F G V.is_loose W.is_loose X.is_loose V.soft.items W.soft.items X.soft.items c.in_ok-first.ensures.gives c.in_ok-first.ensures.tells told c.in_ok-verdict.ensures.loose c.in_ok-verdict.ensures.soft;
      again = (
          let right = subst (λ Q. TellsAgain Q R rest G W.again.items W.reuses) same c.in_ok-second.ensures.again in
          list_again P L R input old middle rest F G V.is_loose W.is_loose V.reuses W.reuses X.reuses V.again.items V.soft.items W.again.items W.soft.items X.again.items c.in_ok-first.ensures.gives c.in_ok-first.ensures.tells c.in_ok-first.ensures.again told right c.in_ok-verdict.ensures.again c.in_ok-verdict.ensures.reuses
          );
      large = tt;
    }

pub run_sides-returns-in_err-second : goal.run_sides-returns-in_err-second
run_sides-returns-in_err-second g t c =
    record {
      profile = c.run_tree-2.ensures.profile ∙ c.run_tree.ensures.profile;
      gives = search rules;
      tells = search rules;
      again = search rules;
      large = (
          let P = c.args.self.now.profile in
          let L = tree_of c.args.left.now in
          let R = tree_of c.args.right.now in
          let F = files c.args.self.now.store in
          let G = files c.run_tree.new.self.store in
          let middle = c.run_tree.new.self.out.items in
          let rest = c.in_ok-first.first.rest.now in
          let p = err_from_is_err_and c.from_residual-in_err-second.result c.from_residual-in_err-second.ensures.1 in
          let none = ap (λ out. out.items) c.replace-out.ensures.after ∙ c.new.ensures.items in
          let read = c.as_slice.ensures.value ∙ ap (λ out. out.items) c.replace-middle.ensures.value in
          let first = subst (λ old. Gives (meaning P L c.args.input.now F) old middle rest G) none c.in_ok-first.ensures.gives in
          let large = subst (λ Q. IsDue (Outgrows Q R middle G) c.in_err-second.field-0.0) c.run_tree.ensures.profile
          (subst (λ m. IsDue (Outgrows c.run_tree.new.self.profile R m G) c.in_err-second.field-0.0) read c.in_err-second.ensures.large)
          in
          rw (p.1, p.2) (due_right P L R c.args.input.now middle rest F G c.in_err-second.field-0.0 first large)
          );
    }

pub run_sides-returns : goal.run_sides-returns
run_sides-returns g t c =
    let P = c.args.self.now.profile in
    let L = tree_of c.args.left.now in
    let R = tree_of c.args.right.now in
    let input = c.args.input.now in
    let middle = c.run_tree.new.self.out.items in
    let rest = c.in_ok-first.first.rest.now in
    let left = c.in_ok-second.second.rest.now in
    let F = files c.args.self.now.store in
    let G = files c.run_tree.new.self.store in
    let V = c.in_ok-first.first.verdict in
    let W = c.in_ok-second.second.verdict in
    let X = c.in_ok-verdict.verdict in
    let same = c.run_tree.ensures.profile in
    let Q = c.run_tree.new.self.profile in
    let none = ap (λ out. out.items) c.replace-out.ensures.after ∙ c.new.ensures.items in
    let read = c.as_slice.ensures.value ∙ ap (λ out. out.items) c.replace-middle.ensures.value in
    let first = subst (λ old. Gives (meaning P L input F) old middle rest G) none c.in_ok-first.ensures.gives in
    let unread = c.in_ok-second.ensures.gives.rest ∙ ap (λ m. (meaning Q R m G).rest) read ∙ ap (λ P'. (meaning P' R middle G).rest) same in
    let told = subst (λ P'. Tells (meaning P' R middle G) W.is_loose W.soft.items) same (subst (λ m. Tells (meaning Q R m G) W.is_loose W.soft.items) read c.in_ok-second.ensures.tells) in
    record {
      profile = c.run_tree-2.ensures.profile ∙ same;
      gives = (
          let old = c.args.self.now.out.items in
          let new = c.run_tree-2.new.self.out.items in
          let H = files c.run_tree-2.new.self.store in
          let kept = ap (λ out. out.items) (c.replace-middle.ensures.after ∙ c.replace-out.ensures.value) in
          let second = subst (λ before. Gives (meaning P R middle G) before new left H) kept
          (subst (λ P'. Gives (meaning P' R middle G) c.replace-middle.new.dest.items new left H) same
          (subst (λ m. Gives (meaning Q R m G) c.replace-middle.new.dest.items new left H) read c.in_ok-second.ensures.gives))
          in
          pipe_gives P L R input middle old new rest left F G H first second
          );
      tells = pipe_tells P L R input middle rest left F G c.is_cut-is_cut.result V.is_loose W.is_loose X.is_loose V.soft.items W.soft.items X.soft.items first c.in_ok-first.ensures.tells unread told c.is_cut-is_cut.ensures c.in_ok-verdict.ensures.loose c.in_ok-verdict.ensures.soft;
      again = (
          let right = subst (λ P'. TellsAgain P' R middle G W.again.items W.reuses) same (subst (λ m. TellsAgain Q R m G W.again.items W.reuses) read c.in_ok-second.ensures.again) in
          pipe_again P L R input middle rest left F G c.is_cut-is_cut.result V.is_loose W.is_loose V.reuses W.reuses X.reuses V.again.items V.soft.items W.again.items W.soft.items X.again.items first c.in_ok-first.ensures.tells c.in_ok-first.ensures.again unread told right c.is_cut-is_cut.ensures c.in_ok-verdict.ensures.again c.in_ok-verdict.ensures.reuses
          );
      large = tt;
    }

pub run_pipe-returns-then-is_bare_cat : goal.run_pipe-returns-then-is_bare_cat
run_pipe-returns-then-is_bare_cat g t c =
    let L = tree_of c.args.left.now in
    subst (λ R. Means c.args.self.now c.run_tree.new.self (pipe L R) c.args.input.now c.run_tree.result) (sym (c.is_bare_cat.ensures.0 c.if-is_bare_cat.true))
    (into_cat c.args.self.now c.run_tree.new.self L c.args.input.now c.run_tree.result c.run_tree.ensures)

pub run_pipe-returns-then-is_bare_cat-2 : goal.run_pipe-returns-then-is_bare_cat-2
run_pipe-returns-then-is_bare_cat-2 g t c =
    subst (λ L. Means c.args.self.now c.run_after_cat.new.self (pipe L (tree_of c.args.right.now)) c.args.input.now c.run_after_cat.result) (sym (c.is_bare_cat-2.ensures.0 c.if-is_bare_cat-2.true))
    c.run_after_cat.ensures

pub run_after_cat-returns : goal.run_after_cat-returns
run_after_cat-returns g t c =
    let P = c.args.self.now.profile in
    let R = tree_of c.args.right.now in
    let F = files c.args.self.now.store in
    let V = c.in_ok-ran.ran.verdict in
    let W = c.with_looseness.result in
    record {
      profile = c.run_tree.ensures.profile;
      gives = after_cat_gives P R c.args.input.now c.args.self.now.out.items c.run_tree.new.self.out.items c.in_ok-ran.ran.rest.now F (files c.run_tree.new.self.store) c.in_ok-ran.ensures.gives;
      tells = after_cat_tells P R c.args.input.now c.in_ok-ran.ran.rest.now F V.is_loose c.is_cut-is_cut.result W.is_loose V.soft.items W.soft.items c.in_ok-ran.ensures.gives.rest c.in_ok-ran.ensures.tells c.is_cut-is_cut.ensures c.with_looseness.ensures.loose c.with_looseness.ensures.soft;
      again = after_cat_again P R c.args.input.now F W.again.items W.reuses (subst (λ b. TellsAgain P R c.args.input.now F W.again.items b) (sym c.with_looseness.ensures.reuses) (subst (λ ns. TellsAgain P R c.args.input.now F ns V.reuses) (sym c.with_looseness.ensures.again) c.in_ok-ran.ensures.again));
      large = tt;
    }

pub run_tree-returns-in-Redir : goal.run_tree-returns-in-Redir
run_tree-returns-in-Redir g t c =
    let is : tree_of c.args.tree.now ≡ redir c.in-Redir.mode c.as_slice-in-Redir.result.now (tree_of c.deref-in-Redir.result.now) =
    ap tree_of c.in-Redir.is ∙ (λ i. redir c.in-Redir.mode (sym c.as_slice-in-Redir.ensures i) (tree_of (sym c.deref-in-Redir.ensures i)))
    in
    subst (λ T. Means c.args.self.now c.run_into_file.new.self T c.args.input.now c.run_into_file.result) (sym is) c.run_into_file.ensures

pub run_into_file-returns-then-not-branch : goal.run_into_file-returns-then-not-branch
run_into_file-returns-then-not-branch g t c =
    let P = c.args.self.now.profile in
    let T = tree_of c.args.body.now in
    let F = files c.args.self.now.store in
    let V = c.nothing.result.verdict in
    let shut : is_openable c.args.name.now ≡ false = sym c.in_ok-open_output.ensures.answer ∙ c.if-not-branch.true in
    record {
      profile = refl;
      gives = unopened_gives P c.args.mode c.args.name.now T c.args.input.now c.args.self.now.out.items c.nothing.result.rest.now F (files c.open_output.new.store) c.requires shut c.nothing.ensures.rest (ap files (c.in_ok-open_output.ensures.refused (ap Ok c.if-not-branch.true)));
      tells = unopened_tells P c.args.mode c.args.name.now T c.args.input.now F V.is_loose V.soft.items c.requires shut c.nothing.ensures.loose c.nothing.ensures.soft;
      again = unopened_again P c.args.mode c.args.name.now T c.args.input.now F V.again.items V.reuses c.requires shut c.nothing.ensures.again c.nothing.ensures.reuses;
      large = tt;
    }
