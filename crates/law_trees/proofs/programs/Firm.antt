-- What is left of a program depends on no order: it is never loose, and has no soft names.
use Rattle.std.proofs.Common.{◌∷◌, Some}
use Rattle.meaning_model.specs.Firm.{IsFirm}
use Rattle.meaning_model.specs.Tee.{are_openable}
use Rattle.meaning_model.proofs.Firm.{firm_if, firm_program, is_firm}
use Rattle.user_progs.specs.State.{standard, file, tee_opens, tee_reads, tee_writes, tee_gives, State, begins, echo_word, echo_space, opens, works, closes, tees, told, ended}
use Rattle.tree_model.specs.Alone.{World}
use Rattle.tree_model.specs.Still.{still}

pub still_firm : (state : State) (world : World) → IsFirm (still state world)
still_firm (begins program arguments) world = firm_program (Some program) arguments world.input world.files
still_firm (echo_word later) world = is_firm _ _ _
still_firm (echo_space later) world = is_firm _ _ _
still_firm (opens filter name later) world = is_firm _ _ _
still_firm (works work standard) world = is_firm _ _ _
still_firm (works work (file fd name later)) world = is_firm _ _ _
still_firm (closes filter later) world = is_firm _ _ _
still_firm (tees (tee_opens fds name later)) world = firm_if (are_openable (name ∷ later)) _ _ (is_firm _ _ _) (is_firm _ _ _)
still_firm (tees (tee_reads fds)) world = is_firm _ _ _
still_firm (tees (tee_writes fds bytes)) world = is_firm _ _ _
still_firm (tees (tee_gives fds at bytes)) world = is_firm _ _ _
still_firm told world = is_firm _ _ _
still_firm ended world = is_firm _ _ _
