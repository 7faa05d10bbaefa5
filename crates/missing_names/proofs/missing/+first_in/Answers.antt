use Rattle.std.proofs.Common.{◌≡◌, ◌++◌, ap, map, sym, ◌∙◌, Some, None, inl, inr}
use Rattle.std.specs.List.{find}
use Rattle.std.specs.Option.{option_copied}
use Rattle.sh_tree.specs.Tree.{tree_of}
use Rattle.script_load.specs.Line.{line_of}
use Rattle.conflict_check.specs.Occurrences.{occurrences}
use Rattle.conflict_check.proofs.Sharing.{found_early, found_late}
use Rattle.missing_names.specs.Missing.{is_missing}
use Rattle.missing_names.proofs.missing.+first_in.Goals as goal

pub returns-in-Some : goal.returns-in-Some
returns-in-Some g t c =
    let test = is_missing (map line_of c.args.among.now.lines.now) c.args.among.now.files.now in
    let first = occurrences (tree_of c.in-Pipe.first.value) in
    let second = occurrences (tree_of c.in-Pipe.second.value) in
    let whole : occurrences (tree_of c.args.part.now) ≡ first ++ second =
    elim c.in-Pipe.is [ inl p ↦ ap (λ x. occurrences (tree_of x)) p | inr p ↦ ap (λ x. occurrences (tree_of x)) p ] in
    let early : Some c.in-Some.name.now ≡ find test first =
    ap option_copied (sym c.in-Some.is) ∙ c.first_in-in-Pipe.ensures ∙ ap (λ x. find test (occurrences (tree_of x))) c.deref-in-Pipe.ensures in
    found_early test first second c.in-Some.name.now early ∙ ap (find test) (sym whole)

pub returns-in-None : goal.returns-in-None
returns-in-None g t c =
    let test = is_missing (map line_of c.args.among.now.lines.now) c.args.among.now.files.now in
    let first = occurrences (tree_of c.in-Pipe.first.value) in
    let second = occurrences (tree_of c.in-Pipe.second.value) in
    let whole : occurrences (tree_of c.args.part.now) ≡ first ++ second =
    elim c.in-Pipe.is [ inl p ↦ ap (λ x. occurrences (tree_of x)) p | inr p ↦ ap (λ x. occurrences (tree_of x)) p ] in
    let early : None ≡ find test first =
    ap option_copied (sym c.in-None.is) ∙ c.first_in-in-Pipe.ensures ∙ ap (λ x. find test (occurrences (tree_of x))) c.deref-in-Pipe.ensures in
    let late = c.first_in-in-None.ensures ∙ ap (λ x. find test (occurrences (tree_of x))) c.deref-in-None.ensures in
    found_late test first second (option_copied c.first_in-in-None.result) early late ∙ ap (find test) (sym whole)
