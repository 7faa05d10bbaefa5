use Rattle.std.proofs.Common.{◌≡◌, false, rules}
use Rattle.mem_files.specs.Files.{files}
use Rattle.script_load.specs.Line.{lines_of}
use Rattle.order_search.proofs.Looking.{never}
use Rattle.grade_verdicts.proofs.Known.{firm_of, found, meant, not_both, wrong}
use Rattle.grade_verdicts.proofs.judging.judge_by_meaning.Goals as goal

pub wrong-requires : goal.wrong-requires
wrong-requires c =
    let task = c.args.task.now in
    let script = c.args.script.now in
    let value = c.in-Ok.value in
    let says = c.in-Ok.ensures in
    let lines = lines_of script.lines in
    let known = found task lines script.profile value.soft c.as_slice.result.now value.out (files value.files) c.requires script.small c.are_files.ensures (says.settled.0 c.if-not-value.false) c.as_slice.ensures says.out says.files says.soft (c.are_firm.ensures.0 c.if-not-are_firm.false) in
    let is = wrong task lines value.soft c.as_slice.result.now (files value.files) known (λ agrees. not_both c.in_ok-difference.difference c.in-Some.difference c.in-Some.is (c.in_ok-difference.ensures.1 agrees)) in
    record { whole = λ _. is; part = λ no. absurd (let z : ⊥ = cc in z) }

pub judge_room-requires-clause-meant : goal.judge_room-requires-clause-meant
judge_room-requires-clause-meant c =
    let task = c.args.task.now in
    let script = c.args.script.now in
    let value = c.in-Ok.value in
    let says = c.in-Ok.ensures in
    let lines = lines_of script.lines in
    let known = found task lines script.profile value.soft c.as_slice.result.now value.out (files value.files) c.requires script.small c.are_files.ensures (says.settled.0 c.if-not-value.false) c.as_slice.ensures says.out says.files says.soft (c.are_firm.ensures.0 c.if-not-are_firm.false) in
    meant task lines value.soft c.as_slice.result.now (files value.files) known (c.in_ok-difference.ensures.0 c.in-None.is)

pub returns-then-not-are_firm-clause-unknown : goal.returns-then-not-are_firm-clause-unknown
returns-then-not-are_firm-clause-unknown c = λ none known.
    let script = c.args.script.now in
    let firm = firm_of c.args.task.now (lines_of script.lines) script.profile c.in-Ok.value.soft c.requires c.in-Ok.ensures.soft known in
    let soft : c.are_firm.result ≡ false = search rules in
    never c.are_firm.result (c.are_firm.ensures.1 firm) soft
