-- What is kept fits.
use Rattle.std.proofs.Common.{◌∙◌, ◌≡◌, ◌≤◌, ap, sym, subst, length, arith}
use Rattle.std.proofs.lemmas.List.{take_all}
use Rattle.user_calls.specs.Limits.{block_size}
use Rattle.user_progs.specs.State.{works, searching}
use Rattle.user_progs.specs.Turn.{turn_by}
use Rattle.user_progs.specs.View.{search_of, source_of_code, found_of, FoundFits}
use Rattle.user_progs.specs.declared.grep.Found.{Found}
use Rattle.user_progs.proofs.grep.keep.Goals as goal

pub returns-in-Keeps : goal.returns-in-Keeps
returns-in-Keeps g c =
    let pattern = c.args.grep.now.pattern.now in
    let few : length c.in-Keeps.bytes.now ≤ 1023 = subst FoundFits c.in-Keeps.is c.requires in
    let whole : c.refill.new.self ≡ c.in-Keeps.bytes.now = c.refill.ensures ∙ take_all block_size c.in-Keeps.bytes.now (omega (arith, few)) in
    (λ i. works (search_of (c.at.ensures.search i) (c.at.ensures.pattern i) (whole i)) (c.at.ensures.source i))
    ∙ sym (ap (λ (f : Found). (turn_by (found_of pattern f) (searching pattern) (source_of_code c.args.grep.now.source)).next) c.in-Keeps.is)

pub returns-in-Matches : goal.returns-in-Matches
returns-in-Matches g c =
    let pattern = c.args.grep.now.pattern.now in
    let few : length c.in-Matches.rest.now ≤ block_size = subst FoundFits c.in-Matches.is c.requires in
    let whole : c.refill-in-Matches.new.self ≡ c.in-Matches.rest.now = c.refill-in-Matches.ensures ∙ take_all block_size c.in-Matches.rest.now few in
    (λ i. works (search_of (c.at-in-Matches.ensures.search i) (c.at-in-Matches.ensures.pattern i) (whole i)) (c.at-in-Matches.ensures.source i))
    ∙ sym (ap (λ (f : Found). (turn_by (found_of pattern f) (searching pattern) (source_of_code c.args.grep.now.source)).next) c.in-Matches.is)
