use Rattle.std.proofs.Common.{[], ◌∷◌, codes, false, sym, ◌∙◌, ap, subst}
use Rattle.std.specs.Prelude.{map}
use Rattle.clap.specs.Simple.{app_of_fields}
use Rattle.clap.specs.Walk.{rule_of}
use Rattle.clap.specs.declared.builder.arg.Arg.{Arg}
use Rattle.xvsh_words.specs.Program.{files_rule, flag_rule, number_rule, word_rule}
use Rattle.xvsh_words.proofs.Adds.{AreLocal, command_made}
use Rattle.xvsh_words.proofs.words.grade_command.Goals as goal

pub returns : goal.returns
returns c free =
    let items = c.in_ok-args.ensures.items in
    let json_is = c.in_ok-json-2.ensures free ∙ c.in_ok-json.ensures free in
    let tap_is = c.in_ok-tap.ensures free in
    let json = ap rule_of json_is ∙ c.flag.ensures.rule in
    let tap = ap rule_of tap_is ∙ c.flag-2.ensures.rule in
    let json_local = ap {A = Arg} (λ a. a.global) json_is ∙ c.flag.ensures.local in
    let tap_local = ap {A = Arg} (λ a. a.global) tap_is ∙ c.flag-2.ensures.local in
    command_made c.in_ok-args.args.items (flag_rule (codes "json") ∷ flag_rule (codes "tap") ∷ flag_rule (codes "gradescope") ∷ number_rule (codes "jobs") c.args.most_jobs ∷ number_rule (codes "states") c.args.most_states ∷ word_rule (codes "suite") ∷ files_rule ∷ []) (codes "grade") c.about.result c.args-2.result c.args-2.ensures
    (subst AreLocal (sym items) (json_local, (tap_local, (c.flag-3.ensures.local, (c.number_option.ensures.local, (c.number_option-2.ensures.local, (c.needed_word.ensures.local, (c.last_words.ensures.local, tt))))))))
    (ap (map rule_of) items ∙ (λ i. json i ∷ tap i ∷ c.flag-3.ensures.rule i ∷ c.number_option.ensures.rule i ∷ c.number_option-2.ensures.rule i ∷ c.needed_word.ensures.rule i ∷ c.last_words.ensures.rule i ∷ []))
    (ap app_of_fields c.about.ensures ∙ c.new.ensures.app)
    (ap (λ f. f.has_globals) c.about.ensures ∙ c.new.ensures.local)
