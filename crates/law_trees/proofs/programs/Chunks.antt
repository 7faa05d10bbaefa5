-- Over any replies that a program alone may be given, what it wrote and what it still does are what it does at all.
use Rattle.std.proofs.Common.{◌≡◌, ◌∙◌, ℕ, List, [], ◌∷◌, ◌++◌, append-nil, append_assoc, Some, true, refl, sym, ap, subst}
use Rattle.mem_files.specs.Name.{Bytes}
use Rattle.mem_files.specs.Files.{FileMap}
use Rattle.prog_parts.specs.declared.program.Program.{Program}
use Rattle.user_calls.specs.declared.calls.Call.{Call}
use Rattle.user_calls.specs.declared.calls.Call.TheVariants.{Exec, Exit}
use Rattle.user_calls.specs.declared.calls.Reply.{Reply}
use Rattle.meaning_model.specs.Value.{Value}
use Rattle.meaning_model.specs.Programs.{program_value}
use Rattle.user_progs.specs.State.{Work, cat_reads, cat_writes, head_reads, head_writes, wc_reads, wc_writes, grep_reads, grep_writes, Tee, tee_opens, tee_reads, tee_writes, tee_gives, State, begins, echo_word, echo_space, opens, works, closes, tees, told, ended}
use Rattle.user_progs.specs.Turn.{turn, fd_of}
use Rattle.tree_model.specs.Alone.{World, May, after_call, to_out}
use Rattle.tree_model.specs.Still.{still, after_bytes}
use Rattle.tree_model.specs.Waits.{BeginsShort, WorkWaits, TeeWaits, Waits}
use Rattle.tree_model.specs.ProgramRuns.{Process, first_process, after_reply, after_replies, MayBe, Comes}
use Rattle.tree_model.specs.Fits.{Fits}
use Rattle.law_trees.proofs.programs.Keeps.{call_kept}
use Rattle.law_trees.proofs.programs.Fitting.{fits_on}
use Rattle.law_trees.proofs.programs.Waiting.{waits_on}

-- all that a process writes, leaves and does to files, with what it did
abbrev whole : Process → Value
whole p = after_bytes (p.out ++ to_out p.call) (still p.state p.world)

whole_kept : (p : Process) (reply : Reply) → Waits p.state p.call p.world → Fits p.state p.world → May p.call reply p.world → whole (after_reply p reply) ≡ whole p
whole_kept p reply waits fits may =
    let next = turn p.state reply in
    let later = still next.next (after_call p.call reply p.world) in
    ap (λ (o : Bytes). record later { out = o }) (append_assoc (p.out ++ to_out p.call) (to_out next.call) later.out)
    ∙ ap (λ (v : Value). after_bytes (p.out ++ to_out p.call) v) (sym (call_kept p.state p.call reply p.world waits fits may))

-- over any replies
whole_along : (p : Process) (replies : List Reply) → Waits p.state p.call p.world → Fits p.state p.world → MayBe p replies →
    (whole (after_replies p replies) ≡ whole p) × Waits (after_replies p replies).state (after_replies p replies).call (after_replies p replies).world
whole_along p [] waits fits may = (refl, waits)
whole_along p (reply ∷ replies) waits fits may =
    let rest = whole_along (after_reply p reply) replies (waits_on p.state p.call reply p.world waits may.0) (fits_on p.state p.call reply p.world waits fits may.0) may.1 in
    (rest.0 ∙ whole_kept p reply waits fits may.0, rest.1)

-- a state that waits for the reply to Exit does nothing more
work_goes_on : (work : Work) (fd : ℕ) → WorkWaits work fd Exit → ⊥
work_goes_on cat_reads fd waits = cc
work_goes_on cat_writes fd waits = cc
work_goes_on (head_reads lines wanted) fd waits = cc
work_goes_on (head_writes lines wanted) fd waits = cc
work_goes_on (wc_reads l w c inside) fd waits = cc
work_goes_on wc_writes fd waits = cc
work_goes_on (grep_reads pattern kept) fd waits = cc
work_goes_on (grep_writes pattern rest) fd waits = cc

tee_goes_on : (tee : Tee) (world : World) → TeeWaits tee Exit world → ⊥
tee_goes_on (tee_opens fds name later) world waits = cc
tee_goes_on (tee_reads fds) world waits = cc
tee_goes_on (tee_writes fds bytes) world waits = cc
tee_goes_on (tee_gives fds at bytes) world waits = cc

pub has_ended : (state : State) (world : World) → Waits state Exit world → state ≡ ended
has_ended (begins program arguments) world waits = cc
has_ended (echo_word later) world waits = cc
has_ended (echo_space later) world waits = cc
has_ended (opens filter name later) world waits = cc
has_ended (works work source) world waits = absurd (work_goes_on work (fd_of source) waits.0)
has_ended (closes filter later) world waits = cc
has_ended (tees tee) world waits = absurd (tee_goes_on tee world waits)
has_ended told world waits = cc
has_ended ended world waits = refl

begun_waits : (program : Program) (arguments : List Bytes) (world : World) → BeginsShort program arguments → Waits (begins program arguments) (Exec true) world
begun_waits program arguments world short = (refl, short)

-- what comes of a process that is whole
comes_of : (p : Process) (value : Value) → whole p ≡ value → Waits p.state p.call p.world → Comes p value
comes_of p value is waits = record {
  so_far = (to_out p.call ++ (still p.state p.world).out, sym (ap (λ (v : Value). v.out) is) ∙ append_assoc p.out (to_out p.call) (still p.state p.world).out);
  out = λ e. sym (append-nil p.out) ∙ sym (append-nil (p.out ++ [])) ∙ ap (λ (v : Value). v.out) (at_end e);
  rest = λ e. ap (λ (v : Value). v.rest) (at_end e);
  files = λ e name. ap (λ (v : Value). v.files name) (at_end e);
}
  where
    at_end : p.call ≡ Exit → after_bytes (p.out ++ []) (still ended p.world) ≡ value
    at_end e =
        ap (λ (s : State). after_bytes (p.out ++ []) (still s p.world)) (sym (has_ended p.state p.world (subst (λ (c : Call). Waits p.state c p.world) e waits)))
        ∙ ap (λ (c : Call). after_bytes (p.out ++ to_out c) (still p.state p.world)) (sym e)
        ∙ is

pub chunks : (program : Program) (arguments : List Bytes) (input : Bytes) (F : FileMap) (replies : List Reply) → BeginsShort program arguments →
    MayBe (first_process program arguments input F) replies →
    Comes (after_replies (first_process program arguments input F) replies) (program_value (Some program) arguments input F)
chunks program arguments input F replies short may =
    let first = first_process program arguments input F in
    let along = whole_along first replies (begun_waits program arguments first.world short) tt may in
    comes_of (after_replies first replies) (program_value (Some program) arguments input F) along.0 along.1
