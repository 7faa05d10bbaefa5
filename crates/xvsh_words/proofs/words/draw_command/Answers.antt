use Rattle.std.proofs.Common.{[], ◌∷◌, codes, false, sym, ◌∙◌, ap, subst}
use Rattle.std.specs.Prelude.{map}
use Rattle.clap.specs.Simple.{app_of_fields}
use Rattle.clap.specs.Walk.{rule_of}
use Rattle.xvsh_words.specs.Program.{flag_rule, number_rule, other_rule, word_rule}
use Rattle.xvsh_words.proofs.Adds.{AreLocal, command_made}
use Rattle.xvsh_words.proofs.words.draw_command.Goals as goal

pub returns : goal.returns
returns c =
    let items = c.in_ok-args.ensures.items in
    command_made c.in_ok-args.args.items (number_rule (codes "from") c.args.most_turns ∷ number_rule (codes "to") c.args.most_turns ∷ flag_rule (codes "svg") ∷ word_rule (codes "trace") ∷ other_rule (codes "other") ∷ []) (codes "draw") c.about.result c.args-2.result c.args-2.ensures
    (subst AreLocal (sym items) (c.number_option.ensures.local, (c.number_option-2.ensures.local, (c.flag.ensures.local, (c.needed_word.ensures.local, (c.other_word.ensures.local, tt))))))
    (ap (map rule_of) items ∙ (λ i. c.number_option.ensures.rule i ∷ c.number_option-2.ensures.rule i ∷ c.flag.ensures.rule i ∷ c.needed_word.ensures.rule i ∷ c.other_word.ensures.rule i ∷ []))
    (ap app_of_fields c.about.ensures ∙ c.new.ensures.app)
    (ap (λ f. f.has_globals) c.about.ensures ∙ c.new.ensures.local)
