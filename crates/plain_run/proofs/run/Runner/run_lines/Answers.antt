use Rattle.std.proofs.Common.{◌≡◌, ◌&&◌, not, ◌∙◌, get_or, ◌<◌, ◌+◌, [], length, drop, take, ap, arith, refl, subst, sym}
use Rattle.std.specs.Prelude.{All, map}
use Rattle.std.specs.List.{list_any}
use Rattle.std.proofs.lemmas.List.{get_or-map, length-map}
use Rattle.std.proofs.lemmas.List.Elements.{All-append, All-nil}
use Rattle.std.proofs.lemmas.Result.{err_from_is_err_and}
use Rattle.mem_files.specs.Files.{files}
use Rattle.prog_parts.specs.NameSets.{both}
use Rattle.prog_parts.specs.Program.{is_empty}
use Rattle.conflict_check.specs.Names.{uses_input}
use Rattle.meaning_model.specs.Limits.{Outgrows}
use Rattle.script_load.specs.Line.{line_of, cd}
use Rattle.meaning_model.specs.Meaning.{meaning, line_tree}
use Rattle.plain_run.specs.Gives.{Gives, IsDue}
use Rattle.plain_run.specs.Again.{TellsAgain}
use Rattle.plain_run.specs.Reasons.{IsReason}
use Rattle.plain_run.specs.Spans.{all_names}
use Rattle.plain_run.specs.Tells.{Tells}
use Rattle.plain_run.specs.Told.{IsBeside, is_some, line_reasons}
use Rattle.plain_run.proofs.Lines.{IsRunTo, IsToldTo, told_none, told_one, told_all, run_none, run_one, line_due, run_all, next_line, no_line}
use Rattle.plain_run.proofs.SettledLines.{IsSettledTo, settled_none, settled_one, settled_all, apart_words, meet_words, more_names}
use Rattle.plain_run.proofs.Telling.{AreLoose, before_more, before_none, line_each, line_empty, loose_more, loose_told, settled_by, value_told}
use Rattle.plain_run.proofs.run.Runner.run_lines.Goals as goal

pub loop-i-preserved : goal.loop-i-preserved
loop-i-preserved g c =
    let P = c.args.self.now.profile in
    let lines = c.args.lines.now in
    let all = map line_of lines in
    let input = c.args.input.now in
    let F = files c.args.self.now.store in
    let i = c.loop-i.i in
    let line = c.index-lines-i.result in
    let inside : i < length lines = omega arith in
    let later = map line_of (drop (i + 1) lines) in
    let rest = c.loop-i.rest.now in
    let G = files c.loop-i.self.store in
    let left = c.in_ok-ran.ran.rest.now in
    let H = files c.run_line.new.self.store in
    let old = c.loop-i.told in
    let new = c.in_ok-told.told in
    let own = c.in_ok-ran.ran.verdict in
    let here = ap line_of c.index-lines-i.is in
    let at = here ∙ sym (get_or-map line_of lines i line (cd []) inside) in
    let next = next_line lines i line inside in
    let so_far = subst (λ ls. IsRunTo P all input F c.args.self.now.out.items ls rest G c.loop-i.self.out.items) next c.loop-i.invariant.runs in
    let same = c.loop-i.invariant.profile in
    let tree = line_tree (line_of line) in
    let run_gives = subst (λ Q. Gives (meaning Q tree rest G) c.loop-i.self.out.items c.run_line.new.self.out.items left H) same c.in_ok-ran.ensures.gives in
    let run_tells = subst (λ Q. Tells (meaning Q tree rest G) own.is_loose own.soft.items) same c.in_ok-ran.ensures.tells in
    let run_again = subst (λ Q. TellsAgain Q tree rest G own.again.items own.reuses) same c.in_ok-ran.ensures.again in
    let gives = subst (λ l. Gives (meaning P (line_tree l) rest G) c.loop-i.self.out.items c.run_line.new.self.out.items left H) here run_gives in
    let tells = subst (λ l. Tells (meaning P (line_tree l) rest G) own.is_loose own.soft.items) here run_tells in
    let again = subst (λ l. TellsAgain P (line_tree l) rest G own.again.items own.reuses) here run_again in
    let told = subst (λ ls. IsToldTo P all input F ls rest G (is_some old.loose) old.soft.items) next c.loop-i.invariant.tells in
    let settled = subst (λ ls. IsSettledTo P all input F (all_names (take i lines)) ls rest G (is_empty old.reasons.items) (is_some old.loose)) next c.loop-i.invariant.settled in
    let others = both (all_names (drop (i + 1) lines)) (all_names (take i lines)) in
    let meets = list_any others own.soft.items in
    let uses = uses_input tree in
    let met : is_empty c.in_ok-beside.beside.items ≡ not meets = c.in_ok-beside.ensures.met ∙ ap (λ words. not (list_any others words)) c.as_slice.ensures.value in
    let besides = subst (λ words. All (IsBeside lines i words) c.in_ok-beside.beside.items) c.as_slice.ensures.value c.in_ok-beside.ensures.each in
    let alone = settled_by P (line_tree (line_of (get_or lines i line))) rest G own.again.items own.reuses again in
    let in' = subst (λ n. i < n) (sym (length-map lines line_of)) inside in
    record {
      profile = c.run_line.ensures.profile ∙ same;
      runs = run_one P all input F c.args.self.now.out.items _ later rest c.loop-i.self.out.items c.run_line.new.self.out.items left G H so_far gives;
      tells = told_one P all input F _ later rest c.loop-i.self.out.items c.run_line.new.self.out.items left G H (is_some old.loose) own.is_loose (is_some new.loose) old.soft.items own.soft.items new.soft.items told gives tells (loose_told old.loose own.is_loose (i + 1) new.loose c.in_ok-told.ensures.loose) c.in_ok-told.ensures.soft;
      spans = c.in_ok-beside.ensures.told;
      settled = settled_one P all input F (all_names (take i lines)) (all_names (take (i + 1) lines)) (line_of (get_or lines i line)) later rest c.loop-i.self.out.items c.run_line.new.self.out.items left G H
          (is_empty old.reasons.items) (is_empty own.again.items && not own.reuses) (is_empty new.reasons.items) (is_some old.loose) own.is_loose (is_some new.loose) meets own.soft.items
          settled gives tells alone (apart_words own.soft.items others meets refl) (meet_words own.soft.items others meets refl) (more_names lines i line inside)
          (line_empty old.reasons.items new.reasons.items (i + 1) own.again.items c.in_ok-beside.beside.items own.reuses old.loose uses meets c.in_ok-told.ensures.reasons met
          ∙ ap (λ l. ((is_empty old.reasons.items && (is_empty own.again.items && not own.reuses)) && not meets) && not (is_some old.loose && uses_input (line_tree l))) here)
          (loose_told old.loose own.is_loose (i + 1) new.loose c.in_ok-told.ensures.loose);
      before = before_more P all input F i (cd []) rest c.loop-i.self.out.items c.run_line.new.self.out.items left G H in' c.loop-i.invariant.before
          (subst (λ l. Gives (meaning P (line_tree l) rest G) c.loop-i.self.out.items c.run_line.new.self.out.items left H) at run_gives);
      loose = loose_more P all input F i old.loose new.loose own.is_loose c.in_ok-told.ensures.loose
          (λ is. value_told P all input F i rest G own.is_loose own.soft.items c.loop-i.invariant.before (subst (λ l. Tells (meaning P (line_tree l) rest G) own.is_loose own.soft.items) at run_tells) is)
          c.loop-i.invariant.loose;
      each = subst (All (IsReason P all input F)) (sym c.in_ok-told.ensures.reasons)
          (All-append (IsReason P all input F) old.reasons.items (line_reasons (i + 1) own.again.items c.in_ok-beside.beside.items own.reuses old.loose uses) c.loop-i.invariant.each
          (line_each P lines input F i rest G own.again.items own.soft.items c.in_ok-beside.beside.items own.reuses own.is_loose uses old.loose inside c.loop-i.invariant.before
          (subst (λ l. TellsAgain P (line_tree l) rest G own.again.items own.reuses) at run_again)
          (subst (λ l. Tells (meaning P (line_tree l) rest G) own.is_loose own.soft.items) at run_tells)
          besides c.loop-i.invariant.loose (ap (λ l. uses_input (line_tree l)) at)));
    }

pub returns-in_err-ran : goal.returns-in_err-ran
returns-in_err-ran g c =
    let p = err_from_is_err_and c.from_residual.result c.from_residual.ensures.1 in
    let lines = c.args.lines.now in
    let i = c.loop-i.i in
    let inside : i < length lines = omega arith in
    let so_far = subst (λ ls. IsRunTo c.args.self.now.profile (map line_of lines) c.args.input.now (files c.args.self.now.store) c.args.self.now.out.items ls c.loop-i.rest.now (files c.loop-i.self.store) c.loop-i.self.out.items) (next_line lines i c.index-lines-i.result inside) c.loop-i.invariant.runs in
    let here = ap line_of c.index-lines-i.is in
    rw (p.1, p.2) (record {
      gives = tt;
      tells = tt;
      settled = tt;
      each = tt;
      large = line_due c.args.self.now.profile (map line_of lines) c.args.input.now (files c.args.self.now.store) c.args.self.now.out.items _ (map line_of (drop (i + 1) lines)) c.loop-i.rest.now c.loop-i.self.out.items (files c.loop-i.self.store) c.in_err-ran.field-0.0 so_far
          (subst (λ line. IsDue (Outgrows c.args.self.now.profile (line_tree line) c.loop-i.rest.now (files c.loop-i.self.store)) c.in_err-ran.field-0.0) here
          (subst (λ Q. IsDue (Outgrows Q (line_tree (line_of c.index-lines-i.result)) c.loop-i.rest.now (files c.loop-i.self.store)) c.in_err-ran.field-0.0) c.loop-i.invariant.profile c.in_err-ran.ensures.large));
    })

pub loop-i-init : goal.loop-i-init
loop-i-init g c =
    let P = c.args.self.now.profile in
    let all = map line_of c.args.lines.now in
    let input = c.args.input.now in
    let F = files c.args.self.now.store in
    let none = c.nothing-told in
    record {
      profile = refl;
      runs = run_none P all input c.args.self.now.out.items F;
      tells = told_none P all input F (is_some none.result.loose) none.result.soft.items (ap is_some none.ensures.loose) none.ensures.soft;
      spans = tt;
      settled = settled_none P all input F (is_empty none.result.reasons.items) (is_some none.result.loose) (ap is_empty none.ensures.reasons) (ap is_some none.ensures.loose);
      before = before_none P all input F;
      loose = subst (AreLoose P all input F 0) (sym none.ensures.loose) tt;
      each = subst (All (IsReason P all input F)) (sym none.ensures.reasons) (All-nil (IsReason P all input F));
    }

pub returns : goal.returns
returns g c =
    let P = c.args.self.now.profile in
    let all = map line_of c.args.lines.now in
    let input = c.args.input.now in
    let F = files c.args.self.now.store in
    let left = map line_of (drop c.loop-i.i c.args.lines.now) in
    let none = no_line c.args.lines.now c.loop-i.i (omega arith) in
    let told = c.loop-i.told in
    record {
      gives = run_all P all input F c.args.self.now.out.items left c.loop-i.rest.now c.loop-i.self.out.items (files c.loop-i.self.store) none c.loop-i.invariant.runs;
      tells = told_all P all input F left c.loop-i.rest.now (files c.loop-i.self.store) (is_some told.loose) told.soft.items none c.loop-i.invariant.tells;
      settled = settled_all P all input F (all_names (take c.loop-i.i c.args.lines.now)) left c.loop-i.rest.now (files c.loop-i.self.store) (is_empty told.reasons.items) (is_some told.loose) none c.loop-i.invariant.settled;
      each = c.loop-i.invariant.each;
      large = tt;
    }
