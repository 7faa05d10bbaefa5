use Rattle.std.proofs.Common.{[], ◌∷◌, codes, false, sym, ◌∙◌, ap, subst}
use Rattle.std.specs.Prelude.{map}
use Rattle.clap.specs.Simple.{app_of_fields}
use Rattle.clap.specs.Walk.{rule_of}
use Rattle.xvsh_words.specs.Program.{files_rule, flag_rule, input_rule, path_rule, text_rule, word_rule}
use Rattle.xvsh_words.proofs.Adds.{AreLocal, command_made}
use Rattle.xvsh_words.proofs.words.step_command.Goals as goal

pub returns : goal.returns
returns c =
    let items = c.in_ok-args.ensures.items in
    command_made c.in_ok-args.args.items (path_rule (codes "schedule") ∷ flag_rule (codes "append") ∷ flag_rule (codes "json") ∷ input_rule ∷ text_rule ∷ word_rule (codes "script") ∷ files_rule ∷ []) (codes "step") c.about.result c.args-2.result c.args-2.ensures
    (subst AreLocal (sym items) (c.path_option.ensures.local, (c.flag.ensures.local, (c.flag-2.ensures.local, (c.path_option-2.ensures.local, (c.text_flag.ensures.local, (c.needed_word.ensures.local, (c.file_words.ensures.local, tt))))))))
    (ap (map rule_of) items ∙ (λ i. c.path_option.ensures.rule i ∷ c.flag.ensures.rule i ∷ c.flag-2.ensures.rule i ∷ c.path_option-2.ensures.rule i ∷ c.text_flag.ensures.rule i ∷ c.needed_word.ensures.rule i ∷ c.file_words.ensures.rule i ∷ []))
    (ap app_of_fields c.about.ensures ∙ c.new.ensures.app)
    (ap (λ f. f.has_globals) c.about.ensures ∙ c.new.ensures.local)
