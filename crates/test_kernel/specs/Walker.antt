-- The machine of the tests: its state is what is left of its script. No public clause cites this module.
use Rattle.std.specs.Prelude.{ℕ, ◌+◌, ◌%◌, ◌==◌, if◌then◌else◌, List, [], ◌∷◌, take, replicate}
use Rattle.user_calls.specs.declared.calls.Call.{Call}
use Rattle.user_calls.specs.declared.calls.Call.TheVariants.{Exit, Wait, MakePipe, Read, Write, OpenFile}
use Rattle.user_calls.specs.declared.calls.Mode.TheVariants.{Input}

-- the call of a letter, on this descriptor: Z waits, p makes a pipe, r reads, w writes a byte and W 700, o opens the file p, and any other exits
abbrev pub letter_call : ℕ → ℕ → Call
letter_call b fd =
    if b == 90 then Wait
    else (if b == 112 then MakePipe
    else (if b == 114 then Read fd 512
    else (if b == 119 then Write fd (120 ∷ [])
    else (if b == 87 then Write fd (take 1024 (replicate 700 121))
    else (if b == 111 then OpenFile (112 ∷ []) Input
    else Exit)))))

-- a call is a letter with the digit of its descriptor; the script that is used up exits
abbrev pub walker_call : List ℕ → Call
walker_call [] = Exit
walker_call (b ∷ []) = Exit
walker_call (b ∷ fd ∷ rest) = letter_call b (fd % 16)

-- what is left after the first call: Z goes on for ever
abbrev pub walker_next : List ℕ → List ℕ
walker_next [] = []
walker_next (b ∷ []) = []
walker_next (b ∷ fd ∷ rest) = if b == 90 then b ∷ fd ∷ rest else rest
