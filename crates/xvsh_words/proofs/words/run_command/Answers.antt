use Rattle.std.proofs.Common.{[], ◌∷◌, codes, false, sym, ◌∙◌, ap, subst}
use Rattle.std.specs.Prelude.{map}
use Rattle.clap.specs.Simple.{app_of_fields}
use Rattle.clap.specs.Walk.{rule_of}
use Rattle.clap.specs.declared.builder.arg.Arg.{Arg}
use Rattle.xvsh_words.specs.Program.{files_rule, flag_rule, input_rule, most_seed, number_rule, path_rule, text_rule, word_rule}
use Rattle.xvsh_words.proofs.Adds.{AreLocal, command_made}
use Rattle.xvsh_words.proofs.words.run_command.Goals as goal

pub returns : goal.returns
returns c free =
    let items = c.in_ok-args.ensures.items in
    let seed_is = c.in_ok-seed.ensures free in
    let alone_is = c.in_ok-alone.ensures free in
    let order_is = c.in_ok-order.ensures free ∙ alone_is in
    let lines_is = c.in_ok-lines.ensures free in
    let seed = ap rule_of seed_is ∙ c.number_option-seed.ensures.rule in
    let order = ap rule_of order_is ∙ c.path_option-order.ensures.rule in
    let lines = ap rule_of lines_is ∙ c.flag.ensures.rule in
    let seed_local = ap {A = Arg} (λ a. a.global) seed_is ∙ c.number_option-seed.ensures.local in
    let order_local = ap {A = Arg} (λ a. a.global) order_is ∙ c.path_option-order.ensures.local in
    let lines_local = ap {A = Arg} (λ a. a.global) lines_is ∙ c.flag.ensures.local in
    command_made c.in_ok-args.args.items (number_rule (codes "harts") c.args.most_harts ∷ number_rule (codes "turns") c.args.most_turns ∷ number_rule (codes "seed") most_seed ∷ path_rule (codes "order") ∷ flag_rule (codes "schedule") ∷ path_rule (codes "schedule-to") ∷ path_rule (codes "files-to") ∷ path_rule (codes "trace") ∷ flag_rule (codes "lines") ∷ flag_rule (codes "strict") ∷ flag_rule (codes "append") ∷ flag_rule (codes "files") ∷ flag_rule (codes "quiet") ∷ flag_rule (codes "json") ∷ input_rule ∷ text_rule ∷ word_rule (codes "script") ∷ files_rule ∷ []) (codes "run") c.about.result c.args-2.result c.args-2.ensures
    (subst AreLocal (sym items) (c.number_option.ensures.local, (c.number_option-2.ensures.local, (seed_local, (order_local, (c.flag-2.ensures.local, (c.path_option.ensures.local, (c.path_option-2.ensures.local, (c.path_option-3.ensures.local, (lines_local, (c.flag-3.ensures.local, (c.flag-4.ensures.local, (c.flag-5.ensures.local, (c.flag-6.ensures.local, (c.flag-7.ensures.local, (c.input_option.ensures.local, (c.text_flag.ensures.local, (c.script_word.ensures.local, (c.file_words.ensures.local, tt)))))))))))))))))))
    (ap (map rule_of) items ∙ (λ i. c.number_option.ensures.rule i ∷ c.number_option-2.ensures.rule i ∷ seed i ∷ order i ∷ c.flag-2.ensures.rule i ∷ c.path_option.ensures.rule i ∷ c.path_option-2.ensures.rule i ∷ c.path_option-3.ensures.rule i ∷ lines i ∷ c.flag-3.ensures.rule i ∷ c.flag-4.ensures.rule i ∷ c.flag-5.ensures.rule i ∷ c.flag-6.ensures.rule i ∷ c.flag-7.ensures.rule i ∷ c.input_option.ensures.rule i ∷ c.text_flag.ensures.rule i ∷ c.script_word.ensures.rule i ∷ c.file_words.ensures.rule i ∷ []))
    (ap app_of_fields c.about.ensures ∙ c.new.ensures.app)
    (ap (λ f. f.has_globals) c.about.ensures ∙ c.new.ensures.local)
