-- A run of tee over a file that is named twice: the replies are allowed, and what comes of them computes. And how many bytes
-- some programs read.
use Rattle.std.proofs.Common.{◌≡◌, [], ◌∷◌, List, Some, refl, arith}
use Rattle.std.specs.Prelude.{codes}
use Rattle.mem_files.specs.Files.{FileMap, no_files, with_file}
use Rattle.prog_parts.specs.declared.program.Program.TheVariants.{Cat, Grep, Head, Tee}
use Rattle.user_calls.specs.declared.calls.Call.TheVariants.{Exit}
use Rattle.user_calls.specs.declared.calls.Reply.{Reply}
use Rattle.user_calls.specs.declared.calls.Reply.TheVariants.{Done, Bytes, Fd}
use Rattle.tree_model.specs.Reads.{bytes_of_function}
use Rattle.tree_model.specs.ProgramRuns.{Process, first_process, after_replies, MayBe}

abbrev first : Process
first = first_process Tee (codes "x" ∷ codes "x" ∷ []) (codes "ab") no_files

abbrev replies : List Reply
replies =
    Done ∷ Fd 3 ∷ Fd 4 ∷ Bytes (codes "a") ∷ Done ∷ Done ∷ Done ∷ Bytes (codes "b") ∷ Done ∷ Done ∷ Done ∷ Bytes [] ∷ []

abbrev last : Process
last = after_replies first replies

may_be : MayBe first replies
may_be = (
  refl,
  (
    (3, refl, (omega arith, refl)),
    (
      (4, refl, (omega arith, refl)),
      (
        (codes "a", refl, record { more = codes "b"; prefix = refl; few = omega arith; some = λ none. cc }),
        (
          refl,
          (
            refl,
            (
              refl,
              (
                (codes "b", refl, record { more = []; prefix = refl; few = omega arith; some = λ none. cc }),
                (
                  refl,
                  (
                    refl,
                    (
                      refl,
                      (([], refl, record { more = []; prefix = refl; few = omega arith; some = λ none. refl }), tt),
                    ),
                  ),
                ),
              ),
            ),
          ),
        ),
      ),
    ),
  ),
)

at_exit : last.call ≡ Exit
at_exit = refl

out : last.out ≡ codes "ab"
out = refl

in_file : last.world.files (codes "x") ≡ Some (codes "ab")
in_file = refl

-- of its input head reads the first line, and grep all
of_head : bytes_of_function Head (codes "-1" ∷ []) (codes "a\nbcd\n") no_files ≡ 2
of_head = refl

of_grep : bytes_of_function Grep (codes "x" ∷ []) (codes "ax\nb") no_files ≡ 4
of_grep = refl

-- of files those up to the first that is missing, and no input
abbrev files : FileMap
files = with_file (with_file no_files (codes "f") (codes "abc")) (codes "g") (codes "defg")

of_cat : bytes_of_function Cat (codes "f" ∷ codes "none" ∷ codes "g" ∷ []) (codes "input") files ≡ 3
of_cat = refl
