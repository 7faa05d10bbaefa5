use Rattle.std.proofs.Common.{[], ◌∷◌, codes, false, sym, ◌∙◌, ap, subst}
use Rattle.std.specs.Prelude.{map}
use Rattle.clap.specs.Simple.{app_of_fields}
use Rattle.clap.specs.Walk.{rule_of}
use Rattle.clap.specs.declared.builder.arg.Arg.{Arg}
use Rattle.xvsh_words.specs.Program.{files_rule, flag_rule, input_rule, text_rule, word_rule}
use Rattle.xvsh_words.proofs.Adds.{AreLocal, command_made}
use Rattle.xvsh_words.proofs.words.check_command.Goals as goal

pub returns : goal.returns
returns c free =
    let items = c.in_ok-args.ensures.items in
    let files_is = c.in_ok-files.ensures free in
    let input_is = c.in_ok-input.ensures free in
    let files = ap rule_of files_is ∙ c.file_words.ensures.rule in
    let input = ap rule_of input_is ∙ c.input_option.ensures.rule in
    let room_is = c.in_ok-room.ensures free in
    let room = ap rule_of room_is ∙ c.flag-flagged.ensures.rule in
    let room_local = ap {A = Arg} (λ a. a.global) room_is ∙ c.flag-flagged.ensures.local in
    let input_local = ap {A = Arg} (λ a. a.global) input_is ∙ c.input_option.ensures.local in
    let local = ap {A = Arg} (λ a. a.global) files_is ∙ c.file_words.ensures.local in
    command_made c.in_ok-args.args.items (flag_rule (codes "turns") ∷ flag_rule (codes "room") ∷ flag_rule (codes "strict") ∷ flag_rule (codes "json") ∷ input_rule ∷ text_rule ∷ word_rule (codes "script") ∷ files_rule ∷ []) (codes "check") c.about.result c.args-2.result c.args-2.ensures
    (subst AreLocal (sym items) (c.flag.ensures.local, (room_local, (c.flag-2.ensures.local, (c.flag-3.ensures.local, (input_local, (c.text_flag.ensures.local, (c.script_word.ensures.local, (local, tt)))))))))
    (ap (map rule_of) items ∙ (λ i. c.flag.ensures.rule i ∷ room i ∷ c.flag-2.ensures.rule i ∷ c.flag-3.ensures.rule i ∷ input i ∷ c.text_flag.ensures.rule i ∷ c.script_word.ensures.rule i ∷ files i ∷ []))
    (ap app_of_fields c.about.ensures ∙ c.new.ensures.app)
    (ap (λ f. f.has_globals) c.about.ensures ∙ c.new.ensures.local)
