use Rattle.std.proofs.Common.{[], ◌∷◌, codes, false, sym, ◌∙◌, ap, subst}
use Rattle.std.specs.Prelude.{map}
use Rattle.clap.specs.Simple.{app_of_fields}
use Rattle.clap.specs.Walk.{rule_of}
use Rattle.clap.specs.declared.builder.arg.Arg.{Arg}
use Rattle.xvsh_words.specs.Program.{files_rule, flag_rule, input_rule, text_rule, word_rule}
use Rattle.xvsh_words.proofs.Adds.{AreLocal, command_made}
use Rattle.xvsh_words.proofs.words.explain_command.Goals as goal

pub returns : goal.returns
returns c free =
    let items = c.in_ok-args.ensures.items in
    let fix_is = c.in_ok-fix.ensures free in
    let fix = ap rule_of fix_is ∙ c.flag-flagged.ensures.rule in
    let fix_local = ap {A = Arg} (λ a. a.global) fix_is ∙ c.flag-flagged.ensures.local in
    command_made c.in_ok-args.args.items (flag_rule (codes "why") ∷ flag_rule (codes "fix") ∷ flag_rule (codes "append") ∷ flag_rule (codes "json") ∷ input_rule ∷ text_rule ∷ word_rule (codes "script") ∷ files_rule ∷ []) (codes "explain") c.about.result c.args-2.result c.args-2.ensures
    (subst AreLocal (sym items) (c.flag.ensures.local, (fix_local, (c.flag-2.ensures.local, (c.flag-3.ensures.local, (c.input_option.ensures.local, (c.text_flag.ensures.local, (c.script_word.ensures.local, (c.file_words.ensures.local, tt)))))))))
    (ap (map rule_of) items ∙ (λ i. c.flag.ensures.rule i ∷ fix i ∷ c.flag-2.ensures.rule i ∷ c.flag-3.ensures.rule i ∷ c.input_option.ensures.rule i ∷ c.text_flag.ensures.rule i ∷ c.script_word.ensures.rule i ∷ c.file_words.ensures.rule i ∷ []))
    (ap app_of_fields c.about.ensures ∙ c.new.ensures.app)
    (ap (λ f. f.has_globals) c.about.ensures ∙ c.new.ensures.local)
