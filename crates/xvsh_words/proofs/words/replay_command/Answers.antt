use Rattle.std.proofs.Common.{[], ◌∷◌, codes, false, sym, ◌∙◌, ap, subst}
use Rattle.std.specs.Prelude.{map}
use Rattle.clap.specs.Simple.{app_of_fields}
use Rattle.clap.specs.Walk.{rule_of}
use Rattle.clap.specs.declared.builder.arg.Arg.{Arg}
use Rattle.xvsh_words.specs.Program.{files_rule, flag_rule, input_rule, path_rule, text_rule, word_rule}
use Rattle.xvsh_words.proofs.Adds.{AreLocal, command_made}
use Rattle.xvsh_words.proofs.words.replay_command.Goals as goal

pub returns : goal.returns
returns c free =
    let items = c.in_ok-args.ensures.items in
    let lines_is = c.in_ok-lines.ensures free in
    let lines = ap rule_of lines_is ∙ c.flag.ensures.rule in
    let lines_local = ap {A = Arg} (λ a. a.global) lines_is ∙ c.flag.ensures.local in
    command_made c.in_ok-args.args.items (path_rule (codes "files-to") ∷ path_rule (codes "trace") ∷ flag_rule (codes "lines") ∷ flag_rule (codes "append") ∷ flag_rule (codes "files") ∷ flag_rule (codes "json") ∷ input_rule ∷ text_rule ∷ word_rule (codes "events") ∷ word_rule (codes "script") ∷ files_rule ∷ []) (codes "replay") c.about.result c.args-2.result c.args-2.ensures
    (subst AreLocal (sym items) (c.path_option.ensures.local, (c.path_option-2.ensures.local, (lines_local, (c.flag-2.ensures.local, (c.flag-3.ensures.local, (c.flag-4.ensures.local, (c.input_option.ensures.local, (c.text_flag.ensures.local, (c.needed_word.ensures.local, (c.script_word.ensures.local, (c.file_words.ensures.local, tt))))))))))))
    (ap (map rule_of) items ∙ (λ i. c.path_option.ensures.rule i ∷ c.path_option-2.ensures.rule i ∷ lines i ∷ c.flag-2.ensures.rule i ∷ c.flag-3.ensures.rule i ∷ c.flag-4.ensures.rule i ∷ c.input_option.ensures.rule i ∷ c.text_flag.ensures.rule i ∷ c.needed_word.ensures.rule i ∷ c.script_word.ensures.rule i ∷ c.file_words.ensures.rule i ∷ []))
    (ap app_of_fields c.about.ensures ∙ c.new.ensures.app)
    (ap (λ f. f.has_globals) c.about.ensures ∙ c.new.ensures.local)
