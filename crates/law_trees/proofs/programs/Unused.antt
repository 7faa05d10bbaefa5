-- A program that doesn't use its input does the same whatever that is, and leaves it.
use Rattle.std.proofs.Common.{◌≡◌, zero, suc, Bool, true, false, List, [], ◌∷◌, Some, refl, arith}
use Rattle.std.specs.Prelude.{◌&&◌, not, if◌then◌else◌}
use Rattle.mem_files.specs.Name.{Name, Bytes}
use Rattle.mem_files.specs.Files.{FileMap}
use Rattle.prog_parts.specs.declared.program.Program.{Program}
use Rattle.prog_parts.specs.declared.program.Program.TheVariants.{Cat, Echo, Grep, Head, Tee as Tee', Wc}
use Rattle.prog_parts.specs.Program.{program_uses_input, is_empty}
use Rattle.prog_parts.specs.Head.{head_files, has_wrong_option, first_lines, after_lines, line_count}
use Rattle.user_calls.specs.declared.calls.Call.{Call}
use Rattle.meaning_model.specs.Value.{nothing}
use Rattle.meaning_model.specs.Inputs.{filter_value}
use Rattle.prog_parts.specs.Wc.{wc_line}
use Rattle.meaning_model.specs.Programs.{program_value}
use Rattle.user_progs.specs.State.{Source, standard, file, Work, State, begins, echo_word, echo_space, opens, works, closes, tees, told, ended}
use Rattle.tree_model.specs.Ahead.{still_uses}
use Rattle.tree_model.specs.Alone.{World}
use Rattle.tree_model.specs.Still.{work_still, still}
use Rattle.tree_model.specs.Waits.{IsOpen, Waits}

filter_unused : (write : Name → Bytes → Bytes) (left : Bytes → Bytes) (names : List Name) (before input : Bytes) (F : FileMap) → is_empty names ≡ false →
    filter_value write left names input F ≡ record (filter_value write left names before F) { rest = input }
filter_unused write left [] before input F none = cc
filter_unused write left (name ∷ later) before input F none = refl

head_unused : (arguments : List Bytes) (before input : Bytes) (F : FileMap) → program_uses_input Head arguments ≡ false →
    program_value (Some Head) arguments input F ≡ record (program_value (Some Head) arguments before F) { rest = input }
head_unused arguments before input F = go (has_wrong_option arguments) (is_empty (head_files arguments)) (filter_unused (λ name. first_lines (line_count arguments)) (after_lines (line_count arguments)) (head_files arguments) before input F)
  where
    go : (wrong none : Bool) →
        (none ≡ false → filter_value (λ name. first_lines (line_count arguments)) (after_lines (line_count arguments)) (head_files arguments) input F
        ≡ record (filter_value (λ name. first_lines (line_count arguments)) (after_lines (line_count arguments)) (head_files arguments) before F) { rest = input }) →
        (none && not wrong) ≡ false →
        (if wrong then nothing input F else filter_value (λ name. first_lines (line_count arguments)) (after_lines (line_count arguments)) (head_files arguments) input F)
        ≡ record (if wrong then nothing before F else filter_value (λ name. first_lines (line_count arguments)) (after_lines (line_count arguments)) (head_files arguments) before F) { rest = input }
    go true none kept e = refl
    go false true kept e = cc
    go false false kept e = kept refl

begins_unused : (program : Program) (arguments : List Bytes) (before input : Bytes) (F : FileMap) → program_uses_input program arguments ≡ false →
    program_value (Some program) arguments input F ≡ record (program_value (Some program) arguments before F) { rest = input }
begins_unused Cat arguments before input F none = filter_unused (λ name bytes. bytes) (λ bytes. []) arguments before input F none
begins_unused Echo arguments before input F none = refl
begins_unused Grep [] before input F none = refl
begins_unused Grep (pattern ∷ []) before input F none = cc
begins_unused Grep (pattern ∷ name ∷ later) before input F none = refl
begins_unused Head arguments before input F none = head_unused arguments before input F none
begins_unused Tee' arguments before input F none = cc
begins_unused Wc arguments before input F none = filter_unused wc_line (λ bytes. []) arguments before input F none

work_unused : (work : Work) (source : Source) (world : World) (input : Bytes) → IsOpen source world → still_uses (works work source) ≡ false →
    work_still work source (record world { input = input }) ≡ record (work_still work source world) { rest = input }
work_unused work standard world input ready none = cc
work_unused work (file zero name later) world input ready none = absurd (omega (arith, ready.0))
work_unused work (file (suc fd) name later) world input ready none = refl

pub unused : (state : State) (call : Call) (world : World) (input : Bytes) → Waits state call world → still_uses state ≡ false →
    still state (record world { input = input }) ≡ record (still state world) { rest = input }
unused (begins program arguments) call world input waits none = begins_unused program arguments world.input input world.files none
unused (echo_word later) call world input waits none = refl
unused (echo_space later) call world input waits none = refl
unused (opens filter name later) call world input waits none = refl
unused (works work source) call world input waits none = work_unused work source world input waits.1 none
unused (closes filter later) call world input waits none = refl
unused (tees tee) call world input waits none = cc
unused told call world input waits none = refl
unused ended call world input waits none = refl
