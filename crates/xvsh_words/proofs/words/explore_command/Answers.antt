use Rattle.std.proofs.Common.{[], ◌∷◌, codes, false, sym, ◌∙◌, ap, subst}
use Rattle.std.specs.Prelude.{map}
use Rattle.clap.specs.Simple.{app_of_fields}
use Rattle.clap.specs.Walk.{rule_of}
use Rattle.xvsh_words.specs.Program.{files_rule, flag_rule, input_rule, most_mebibytes, number_rule, path_rule, text_rule, word_rule}
use Rattle.xvsh_words.proofs.Adds.{AreLocal, command_made}
use Rattle.xvsh_words.proofs.words.explore_command.Goals as goal

pub returns : goal.returns
returns c =
    let items = c.in_ok-args.ensures.items in
    command_made c.in_ok-args.args.items (number_rule (codes "states") c.args.most_states ∷ number_rule (codes "memory") most_mebibytes ∷ flag_rule (codes "all") ∷ flag_rule (codes "full") ∷ path_rule (codes "witness") ∷ path_rule (codes "draw") ∷ path_rule (codes "play") ∷ path_rule (codes "pair") ∷ flag_rule (codes "json") ∷ flag_rule (codes "append") ∷ input_rule ∷ text_rule ∷ word_rule (codes "script") ∷ files_rule ∷ []) (codes "explore") c.about.result c.args-2.result c.args-2.ensures
    (subst AreLocal (sym items) (c.number_option.ensures.local, (c.number_option-2.ensures.local, (c.flag.ensures.local, (c.flag-2.ensures.local, (c.path_option.ensures.local, (c.path_option-2.ensures.local, (c.path_option-3.ensures.local, (c.path_option-4.ensures.local, (c.flag-3.ensures.local, (c.flag-4.ensures.local, (c.input_option.ensures.local, (c.text_flag.ensures.local, (c.script_word.ensures.local, (c.file_words.ensures.local, tt)))))))))))))))
    (ap (map rule_of) items ∙ (λ i. c.number_option.ensures.rule i ∷ c.number_option-2.ensures.rule i ∷ c.flag.ensures.rule i ∷ c.flag-2.ensures.rule i ∷ c.path_option.ensures.rule i ∷ c.path_option-2.ensures.rule i ∷ c.path_option-3.ensures.rule i ∷ c.path_option-4.ensures.rule i ∷ c.flag-3.ensures.rule i ∷ c.flag-4.ensures.rule i ∷ c.input_option.ensures.rule i ∷ c.text_flag.ensures.rule i ∷ c.script_word.ensures.rule i ∷ c.file_words.ensures.rule i ∷ []))
    (ap app_of_fields c.about.ensures ∙ c.new.ensures.app)
    (ap (λ f. f.has_globals) c.about.ensures ∙ c.new.ensures.local)
