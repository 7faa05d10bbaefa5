use Rattle.std.proofs.Common.{rules, ◌≡◌, ◌∙◌, sym, ap, ◌||◌, arith, take}
use Rattle.std.specs.Prelude.{map}
use Rattle.std.specs.Str.{bytes_eq}
use Rattle.std.proofs.Math.Bool.{or_comm}
use Rattle.std.proofs.lemmas.List.{take_all}
use Rattle.std.proofs.lemmas.List.Folds.{list_any_more}
use Rattle.prog_parts.specs.NameSets.{among}
use Rattle.plain_run.proofs.NameSets.{among_put}
use Rattle.plain_run.proofs.ordered.set_of.Goals as goal

pub loop-name-init : goal.loop-name-init
loop-name-init g c = λ name. ap (λ keys. among (map (λ key. key.items) keys) name) c.new-set.ensures.empty

pub loop-name-preserved : goal.loop-name-preserved
loop-name-preserved g c = λ name.
    let names = c.args.names.now in
    let i = c.loop-name.name-index in
    let key = c.in_ok-to_vec.field-0 in
    let own : key.items ≡ c.name-item.result = search rules in
    ap (λ keys. among (map (λ k. k.items) keys) name) c.in_ok-insert.ensures.keys
    ∙ among_put (λ k. k.items) c.loop-name.set.keys key name
    ∙ ap (λ b. bytes_eq name key.items || b) (c.loop-name.invariant name)
    ∙ or_comm (bytes_eq name key.items) (among (take i names) name)
    ∙ ap (λ n. among (take i names) name || bytes_eq name n) (own ∙ c.name-item.is)
    ∙ sym (list_any_more (bytes_eq name) names i c.name-item.result (omega arith))

pub returns : goal.returns
returns g c = λ name. c.loop-name.invariant name ∙ ap (λ ns. among ns name) (take_all c.loop-name.name-index c.args.names.now (omega arith))
