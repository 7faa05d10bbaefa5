use Rattle.std.proofs.Common.{refl, ◌∙◌, sym, ap, ◌||◌, take, arith}
use Rattle.std.specs.Str.{bytes_eq}
use Rattle.std.proofs.lemmas.List.{take_all}
use Rattle.std.proofs.lemmas.List.Folds.{list_any_more}
use Rattle.prog_parts.specs.NameSets.{among}
use Rattle.plain_run.specs.Spans.{span_of, reached}
use Rattle.plain_run.proofs.Spans.{reached_again}
use Rattle.plain_run.proofs.name_lines.NameLines.reach_all.Goals as goal

pub loop-name-init : goal.loop-name-init
loop-name-init g c = λ other. refl

pub loop-name-preserved : goal.loop-name-preserved
loop-name-preserved g c = λ other.
    let names = c.args.names.now in
    let i = c.loop-name.name-index in
    c.in_ok-reach.ensures other
    ∙ ap (reached (bytes_eq other c.as_slice.result.now) c.args.line) (c.loop-name.invariant other)
    ∙ reached_again (among (take i names) other) (bytes_eq other c.as_slice.result.now) c.args.line (span_of c.args.self.now other)
    ∙ ap (λ n. reached (among (take i names) other || bytes_eq other n) c.args.line (span_of c.args.self.now other)) (c.as_slice.ensures ∙ c.name-item.is)
    ∙ ap (λ b. reached b c.args.line (span_of c.args.self.now other)) (sym (list_any_more (bytes_eq other) names i c.name-item.result (omega arith)))

pub returns : goal.returns
returns g c = λ other.
    c.loop-name.invariant other ∙ ap (λ ns. reached (among ns other) c.args.line (span_of c.args.self.now other)) (take_all c.loop-name.name-index c.args.names.now (omega arith))
