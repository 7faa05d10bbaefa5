-- What a program goes on to, where it is no tee: what holds of the states of the others, and of how tee begins, holds of the
-- next state.
use Rattle.std.proofs.Common.{◌≡◌, ℕ, Bool, true, false, List, [], ◌∷◌, refl}
use Rattle.mem_files.specs.Name.{Name, Bytes}
use Rattle.prog_parts.specs.declared.program.Program.{Program}
use Rattle.prog_parts.specs.declared.program.Program.TheVariants.{Cat, Echo, Grep, Head, Tee as Tee', Wc}
use Rattle.prog_parts.specs.Head.{head_files, has_wrong_option}
use Rattle.user_calls.specs.declared.calls.Reply.{Reply}
use Rattle.prog_parts.specs.Head.{line_count}
use Rattle.user_progs.specs.State.{Filter, copying, heading, counting, searching, Source, standard, file, Work, Tee, State, begins, echo_word, echo_space, opens, works, closes, tees, told, ended}
use Rattle.user_progs.specs.Turn.{Answer, yields, denies, strays, Step, reads, writes, finishes, fails, quits, fd_in, done_in, turn, turn_by, first_step, work_step, filter_of, name_of, opened_by, closed_by, opens_next, begins_filter, begins_head, begins_program, echo_next, echo_end, tee_opens_next, tee_turn}

pub record Goes (Q : State → Type 0) : Type 0 where
  pub ends : Q ended
  pub tells : Q told
  pub word : (later : List Bytes) → Q (echo_word later)
  pub space : (later : List Bytes) → Q (echo_space later)
  pub ready : (filter : Filter) (name : Name) (later : List Name) → Q (opens filter name later)
  pub work : (work : Work) (source : Source) → Q (works work source)
  pub close : (filter : Filter) (later : List Name) → Q (closes filter later)

module _ (Q : State → Type 0) (goes : Goes Q) where
  step_next : (step : Step) (filter : Filter) (source : Source) → Q (turn_by step filter source).next
  step_next (reads most work) filter source = goes.work work source
  step_next (writes bytes work) filter source = goes.work work source
  step_next finishes filter standard = goes.ends
  step_next finishes filter (file fd name later) = goes.close filter later
  step_next (fails message) filter source = goes.tells
  step_next quits filter source = goes.ends

  opens_next_next : (filter : Filter) (names : List Name) → Q (opens_next filter names).next
  opens_next_next filter [] = goes.ends
  opens_next_next filter (name ∷ later) = goes.ready filter name later

  filter_next : (filter : Filter) (names : List Name) → Q (begins_filter filter names).next
  filter_next filter [] = step_next (first_step filter) filter standard
  filter_next filter (name ∷ later) = goes.ready filter name later

  head_next : (wrong : Bool) (arguments : List Bytes) → Q (begins_head wrong arguments).next
  head_next true arguments = goes.tells
  head_next false arguments = filter_next (heading (line_count arguments)) (head_files arguments)

  echo_word_next : (later : List Bytes) → Q (echo_next later).next
  echo_word_next [] = goes.ends
  echo_word_next (argument ∷ later) = goes.word later

  echo_end_next : (later : List Bytes) → Q (echo_end later).next
  echo_end_next [] = goes.tells
  echo_end_next (argument ∷ later) = goes.space (argument ∷ later)

  program_next : ((names : List Name) → Q (tee_opens_next [] names).next) → (program : Program) (arguments : List Bytes) → Q (begins_program program arguments).next
  program_next tee Cat arguments = filter_next copying arguments
  program_next tee Echo arguments = echo_word_next arguments
  program_next tee Grep [] = goes.tells
  program_next tee Grep (pattern ∷ names) = filter_next (searching pattern) names
  program_next tee Head arguments = head_next (has_wrong_option arguments) arguments
  program_next tee Tee' arguments = tee arguments
  program_next tee Wc arguments = filter_next counting arguments

  opened_next : (filter : Filter) (name : Name) (later : List Name) (said : Answer ℕ) → Q (opened_by filter name later said).next
  opened_next filter name later (yields fd) = step_next (first_step filter) filter (file fd name later)
  opened_next filter name later denies = goes.tells
  opened_next filter name later strays = goes.ends

  closed_next : (filter : Filter) (later : List Name) (said : Answer (Unit {0})) → Q (closed_by filter later said).next
  closed_next filter later (yields done) = opens_next_next filter later
  closed_next filter later denies = goes.ends
  closed_next filter later strays = goes.ends

  pub turn_next : ((names : List Name) → Q (tee_opens_next [] names).next) → (state : State) (reply : Reply) → ((tee : Tee) → state ≡ tees tee → Q (tee_turn tee reply).next) → Q (turn state reply).next
  turn_next first (begins program arguments) reply tee = program_next first program arguments
  turn_next first (echo_word later) reply tee = echo_end_next later
  turn_next first (echo_space later) reply tee = echo_word_next later
  turn_next first (opens filter name later) reply tee = opened_next filter name later (fd_in reply)
  turn_next first (works work source) reply tee = step_next (work_step work (name_of source) reply) (filter_of work) source
  turn_next first (closes filter later) reply tee = closed_next filter later (done_in reply)
  turn_next first (tees t) reply tee = tee t refl
  turn_next first told reply tee = goes.ends
  turn_next first ended reply tee = goes.ends
