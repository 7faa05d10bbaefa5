-- The words of a command, and the first word of a line.
use Rattle.std.proofs.Common.{◌≡◌, ℕ, List, ap, inl, inr, sym}
use Rattle.step_commands.specs.declared.name.Name.{Name}
use Rattle.step_commands.specs.declared.command.Command.{Command}
use Rattle.step_commands.specs.Commands.{Spells, StandsFor, spelled, word_of}

-- the words are those of the command
pub exact : (first second third : List ℕ) (command : Command) → spelled command ≡ (first, second, third) → Spells command (first, second, third)
exact first second third command is =
    (inl (sym (ap (λ (w : List ℕ × List ℕ × List ℕ). w.0) is)), ap (λ (w : List ℕ × List ℕ × List ℕ). w.1) is, ap (λ (w : List ℕ × List ℕ × List ℕ). w.2) is)

-- the first word stands for the name of the command
pub standing : (first second third : List ℕ) (name : Name) (command : Command) → StandsFor first name → spelled command ≡ (word_of name, second, third) → Spells command (first, second, third)
standing first second third name command stands is =
    (inr (name, ap (λ (w : List ℕ × List ℕ × List ℕ). w.0) is, stands), ap (λ (w : List ℕ × List ℕ × List ℕ). w.1) is, ap (λ (w : List ℕ × List ℕ × List ℕ). w.2) is)
