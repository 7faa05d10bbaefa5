use Rattle.std.proofs.Common.{map, ◌≡◌, ◌<◌, List, Some, length, sym, ap, subst, ◌∙◌}
use Rattle.std.proofs.lemmas.List.{get_or-map}
use Rattle.std.specs.Prelude.{slice_index_or, option_map, Option}
use Rattle.closed_search.specs.Searched.{IsReached, IsLed, listed, IsLonger}
use Rattle.closed_search.proofs.Growing.{if_ok_more, longer_by, longer_here, move_first, listed_here}
use Rattle.closed_search.proofs.searching.take_move.Goals as goal

pub returns-then-leads_nowhere-clause-has : goal.returns-then-leads_nowhere-clause-has
returns-then-leads_nowhere-clause-has g c = λ d t is.
    let v = g.T.Node.state in
    let xs = c.args.pool.now.nodes.items in
    let at : slice_index_or (map v xs) c.args.place d ≡ v c.index.result.now = get_or-map v xs c.args.place c.index.result.now d c.requires.place ∙ ap v (sym c.index.ensures) in
    let step : g.T.Node.step (v c.index.result.now) c.args.step_number ≡ Some t = sym (ap (λ (s : g.T.Node.State). g.T.Node.step s c.args.step_number) at) ∙ is in
    let stands : g.T.Node.stands t (v c.index.result.now) = c.leads_nowhere.ensures c.if-leads_nowhere.true t step in
    listed t (listed_here v g.T.Node.stands xs c.args.place c.index.result.now t c.requires.place (subst (λ (x : _). g.T.Node.stands t (v x)) c.index.ensures stands))

pub returns-then-leads_nowhere-clause-grown : goal.returns-then-leads_nowhere-clause-grown
returns-then-leads_nowhere-clause-grown g c = longer_here _ (map g.T.Node.state c.args.pool.now.nodes.items)

pub returns-in-Some-clause-has : goal.returns-in-Some-clause-has
returns-in-Some-clause-has g c =
    let v = g.T.Node.state in
    let old : List g.T.Node.State = map v c.args.pool.now.nodes.items in
    let now : List g.T.Node.State = map v c.add_settled.new.pool.nodes.items in
    let L : g.T.Node.State → Type 0 = λ t. IsLed g.T.Node.step g.T.Node.stands g.T.Node.private now t in
    if_ok_more (λ _. L (v c.in-Some.node)) (λ _. (d t : g.T.Node.State) → g.T.Node.step (slice_index_or old c.args.place d) c.args.step_number ≡ Some t → L t) c.add_settled.result
    (λ _ led d t is.
    let both : ◌≡◌ {A = Option g.T.Node.State} (Some (v c.in-Some.node)) (Some t) = sym (ap (option_map v) c.in-Some.is) ∙ c.in_ok-found.ensures.next d ∙ is in
    let same : v c.in-Some.node ≡ t = cc in
    subst L same led) c.add_settled.ensures.has

pub returns-in-Some-clause-grown : goal.returns-in-Some-clause-grown
returns-in-Some-clause-grown g c =
    let v = g.T.Node.state in
    let old : List g.T.Node.State = map v c.args.pool.now.nodes.items in
    let now : List g.T.Node.State = map v c.add_settled.new.pool.nodes.items in
    let first : (d : g.T.Node.State) → g.T.Node.step (slice_index_or old c.args.place d) c.args.step_number ≡ Some (v c.in-Some.node) = λ d. sym (c.in_ok-found.ensures.next d) ∙ ap (option_map v) c.in-Some.is in
    let P : g.T.Node.State → Type 0 = λ t. IsReached g.T.Node.step (v c.in-Some.node) t in
    let Q : g.T.Node.State → Type 0 = λ t. (d : g.T.Node.State) → IsReached g.T.Node.step (slice_index_or old c.args.place d) t in
    if_ok_more (λ _. IsLonger P (map v c.after_at.new.pool.nodes.items) now) (λ _. IsLonger Q old now) c.add_settled.result
    (λ _ grown. longer_by P Q old now (λ t is d. move_first g.T.Node.step (slice_index_or old c.args.place d) (v c.in-Some.node) t c.args.step_number (first d) is)
    (subst (λ (l : List g.T.Node.State). IsLonger P l now) c.after_at.ensures.same grown)) c.add_settled.ensures.grown
