-- Codes for the states of users, which distinguish them: `ghost coded` and `ghost code` need them.
use Rattle.std.specs.Prelude.{◌≡◌, ◌⊎◌, ℕ, zero, suc, List, refl}
use Rattle.std.proofs.Common.{inl, inr}
use Rattle.std.specs.Coded.{Coded, code_by, coded×, coded⊎, coded_list, coded_ℕ}
use base.Stored.{coded_unit}
use Rattle.sh_tree.specs.declared.tree.Mode.{Mode}
use Rattle.sh_tree.specs.declared.tree.Mode.TheVariants.{Input, Fresh, Over}
use Rattle.sh_tree.specs.Codes.{tree_code}
use Rattle.sh_tree.specs.Tree.{Tree}
use Rattle.mem_files.specs.Name.{Name, Bytes}
use Rattle.script_load.specs.declared.profile.Profile.{Profile}
use Rattle.script_load.specs.declared.profile.Profile.TheVariants.{Xv6, Append}
use Rattle.script_load.specs.Codes.{line_code}
use Rattle.script_load.specs.Line.{ScriptLine}
use Rattle.user_progs.specs.Codes.{state_code}
use Rattle.user_progs.specs.State.{State}
use Rattle.sh_machine.specs.declared.state.Phase.{Phase}
use Rattle.sh_machine.specs.declared.state.Phase.TheVariants.{Starts, Forks, Waits, ToldCd}
use Rattle.sh_machine.specs.declared.state.Side.{Side}
use Rattle.sh_machine.specs.declared.state.Side.TheVariants.{Closes, Dups, ClosesReader, ClosesWriter}
use Rattle.sh_machine.specs.State.{Parent, makes, forks_writer, forks_reader, closes_reader, closes_writer, waits_first, waits_second, Shell, top, unknown, closes_old, opens_file, forks_left, waits_left, pipes, side, forks_back, told, ended, User, init, shell, program}

abbrev mode_number : Mode → ℕ
mode_number Input = 0
mode_number Fresh = 1
mode_number Over = 2

abbrev mode_of_number : ℕ → Mode
mode_of_number zero = Input
mode_of_number (suc zero) = Fresh
mode_of_number (suc (suc n)) = Over

pub mode_of_its_number : (m : Mode) → mode_of_number (mode_number m) ≡ m
mode_of_its_number Input = refl
mode_of_its_number Fresh = refl
mode_of_its_number Over = refl

abbrev mode_code : Coded Mode
mode_code = code_by ℕ coded_ℕ mode_number mode_of_number mode_of_its_number

abbrev profile_number : Profile → ℕ
profile_number Xv6 = 0
profile_number Append = 1

abbrev profile_of_number : ℕ → Profile
profile_of_number zero = Xv6
profile_of_number (suc n) = Append

pub profile_of_its_number : (p : Profile) → profile_of_number (profile_number p) ≡ p
profile_of_its_number Xv6 = refl
profile_of_its_number Append = refl

abbrev profile_code : Coded Profile
profile_code = code_by ℕ coded_ℕ profile_number profile_of_number profile_of_its_number

abbrev phase_number : Phase → ℕ
phase_number Starts = 0
phase_number Forks = 1
phase_number Waits = 2
phase_number ToldCd = 3

abbrev phase_of_number : ℕ → Phase
phase_of_number zero = Starts
phase_of_number (suc zero) = Forks
phase_of_number (suc (suc zero)) = Waits
phase_of_number (suc (suc (suc n))) = ToldCd

pub phase_of_its_number : (p : Phase) → phase_of_number (phase_number p) ≡ p
phase_of_its_number Starts = refl
phase_of_its_number Forks = refl
phase_of_its_number Waits = refl
phase_of_its_number ToldCd = refl

abbrev phase_code : Coded Phase
phase_code = code_by ℕ coded_ℕ phase_number phase_of_number phase_of_its_number

abbrev SideParts : Type 0
SideParts = (ℕ × (ℕ × ℕ)) ⊎ ((ℕ × ℕ) ⊎ (ℕ ⊎ Unit {0}))

abbrev side_parts : Side → SideParts
side_parts (Closes kept reader writer) = inl (kept, (reader, writer))
side_parts (Dups reader writer) = inr (inl (reader, writer))
side_parts (ClosesReader writer) = inr (inr (inl writer))
side_parts ClosesWriter = inr (inr (inr tt))

abbrev from_side_parts : SideParts → Side
from_side_parts (inl p) = Closes p.0 p.1.0 p.1.1
from_side_parts (inr (inl p)) = Dups p.0 p.1
from_side_parts (inr (inr (inl writer))) = ClosesReader writer
from_side_parts (inr (inr (inr u))) = ClosesWriter

pub from_parts_of_side : (s : Side) → from_side_parts (side_parts s) ≡ s
from_parts_of_side (Closes kept reader writer) = refl
from_parts_of_side (Dups reader writer) = refl
from_parts_of_side (ClosesReader writer) = refl
from_parts_of_side ClosesWriter = refl

abbrev side_code : Coded Side
side_code =
    code_by SideParts (coded⊎ (coded× coded_ℕ (coded× coded_ℕ coded_ℕ)) (coded⊎ (coded× coded_ℕ coded_ℕ) (coded⊎ coded_ℕ coded_unit)))
    side_parts from_side_parts from_parts_of_side

abbrev ParentParts : Type 0
ParentParts =
    (Tree × Tree) ⊎ (((Tree × Tree) × (ℕ × ℕ)) ⊎ ((Tree × (ℕ × ℕ)) ⊎ (ℕ ⊎ (Unit {0} ⊎ (Unit {0} ⊎ Unit {0})))))

abbrev parent_parts : Parent → ParentParts
parent_parts (makes left right) = inl (left, right)
parent_parts (forks_writer left right reader writer) = inr (inl ((left, right), (reader, writer)))
parent_parts (forks_reader right reader writer) = inr (inr (inl (right, (reader, writer))))
parent_parts (closes_reader writer) = inr (inr (inr (inl writer)))
parent_parts closes_writer = inr (inr (inr (inr (inl tt))))
parent_parts waits_first = inr (inr (inr (inr (inr (inl tt)))))
parent_parts waits_second = inr (inr (inr (inr (inr (inr tt)))))

abbrev from_parent_parts : ParentParts → Parent
from_parent_parts (inl p) = makes p.0 p.1
from_parent_parts (inr (inl p)) = forks_writer p.0.0 p.0.1 p.1.0 p.1.1
from_parent_parts (inr (inr (inl p))) = forks_reader p.0 p.1.0 p.1.1
from_parent_parts (inr (inr (inr (inl writer)))) = closes_reader writer
from_parent_parts (inr (inr (inr (inr (inl u))))) = closes_writer
from_parent_parts (inr (inr (inr (inr (inr (inl u)))))) = waits_first
from_parent_parts (inr (inr (inr (inr (inr (inr u)))))) = waits_second

pub from_parts_of_parent : (p : Parent) → from_parent_parts (parent_parts p) ≡ p
from_parts_of_parent (makes left right) = refl
from_parts_of_parent (forks_writer left right reader writer) = refl
from_parts_of_parent (forks_reader right reader writer) = refl
from_parts_of_parent (closes_reader writer) = refl
from_parts_of_parent closes_writer = refl
from_parts_of_parent waits_first = refl
from_parts_of_parent waits_second = refl

abbrev parent_code : Coded Parent
parent_code =
    code_by ParentParts
    (coded⊎ (coded× tree_code tree_code) (coded⊎ (coded× (coded× tree_code tree_code) (coded× coded_ℕ coded_ℕ)) (coded⊎ (coded× tree_code (coded× coded_ℕ coded_ℕ)) (coded⊎ coded_ℕ (coded⊎ coded_unit (coded⊎ coded_unit coded_unit))))))
    parent_parts from_parent_parts from_parts_of_parent

abbrev ShellParts : Type 0
ShellParts =
    (Phase × List ScriptLine) ⊎ (Bytes ⊎ ((Mode × (Name × Tree)) ⊎ ((Name × Tree) ⊎ ((Tree × Tree) ⊎ (Tree ⊎ (Parent ⊎ ((Side × Tree) ⊎ (Tree ⊎ (Unit {0} ⊎ Unit {0})))))))))

abbrev shell_parts : Shell → ShellParts
shell_parts (top phase lines) = inl (phase, lines)
shell_parts (unknown name) = inr (inl name)
shell_parts (closes_old mode name body) = inr (inr (inl (mode, (name, body))))
shell_parts (opens_file name body) = inr (inr (inr (inl (name, body))))
shell_parts (forks_left left right) = inr (inr (inr (inr (inl (left, right)))))
shell_parts (waits_left right) = inr (inr (inr (inr (inr (inl right)))))
shell_parts (pipes parent) = inr (inr (inr (inr (inr (inr (inl parent))))))
shell_parts (side at tree) = inr (inr (inr (inr (inr (inr (inr (inl (at, tree))))))))
shell_parts (forks_back body) = inr (inr (inr (inr (inr (inr (inr (inr (inl body))))))))
shell_parts told = inr (inr (inr (inr (inr (inr (inr (inr (inr (inl tt)))))))))
shell_parts ended = inr (inr (inr (inr (inr (inr (inr (inr (inr (inr tt)))))))))

abbrev from_shell_parts : ShellParts → Shell
from_shell_parts (inl p) = top p.0 p.1
from_shell_parts (inr (inl name)) = unknown name
from_shell_parts (inr (inr (inl p))) = closes_old p.0 p.1.0 p.1.1
from_shell_parts (inr (inr (inr (inl p)))) = opens_file p.0 p.1
from_shell_parts (inr (inr (inr (inr (inl p))))) = forks_left p.0 p.1
from_shell_parts (inr (inr (inr (inr (inr (inl right)))))) = waits_left right
from_shell_parts (inr (inr (inr (inr (inr (inr (inl parent))))))) = pipes parent
from_shell_parts (inr (inr (inr (inr (inr (inr (inr (inl p)))))))) = side p.0 p.1
from_shell_parts (inr (inr (inr (inr (inr (inr (inr (inr (inl body))))))))) = forks_back body
from_shell_parts (inr (inr (inr (inr (inr (inr (inr (inr (inr (inl u)))))))))) = told
from_shell_parts (inr (inr (inr (inr (inr (inr (inr (inr (inr (inr u)))))))))) = ended

pub from_parts_of_shell : (s : Shell) → from_shell_parts (shell_parts s) ≡ s
from_parts_of_shell (top phase lines) = refl
from_parts_of_shell (unknown name) = refl
from_parts_of_shell (closes_old mode name body) = refl
from_parts_of_shell (opens_file name body) = refl
from_parts_of_shell (forks_left left right) = refl
from_parts_of_shell (waits_left right) = refl
from_parts_of_shell (pipes parent) = refl
from_parts_of_shell (side at tree) = refl
from_parts_of_shell (forks_back body) = refl
from_parts_of_shell told = refl
from_parts_of_shell ended = refl

abbrev shell_code : Coded Shell
shell_code =
    code_by ShellParts
    (coded⊎ (coded× phase_code (coded_list line_code)) (coded⊎ (coded_list coded_ℕ) (coded⊎ (coded× mode_code (coded× (coded_list coded_ℕ) tree_code)) (coded⊎ (coded× (coded_list coded_ℕ) tree_code) (coded⊎ (coded× tree_code tree_code) (coded⊎ tree_code (coded⊎ parent_code (coded⊎ (coded× side_code tree_code) (coded⊎ tree_code (coded⊎ coded_unit coded_unit))))))))))
    shell_parts from_shell_parts from_parts_of_shell

abbrev UserParts : Type 0
UserParts = Unit {0} ⊎ ((Profile × Shell) ⊎ State)

abbrev user_parts : User → UserParts
user_parts init = inl tt
user_parts (shell profile state) = inr (inl (profile, state))
user_parts (program state) = inr (inr state)

abbrev from_user_parts : UserParts → User
from_user_parts (inl u) = init
from_user_parts (inr (inl p)) = shell p.0 p.1
from_user_parts (inr (inr state)) = program state

pub from_parts_of_user : (u : User) → from_user_parts (user_parts u) ≡ u
from_parts_of_user init = refl
from_parts_of_user (shell profile state) = refl
from_parts_of_user (program state) = refl

abbrev pub user_code : Coded User
user_code = code_by UserParts (coded⊎ coded_unit (coded⊎ (coded× profile_code shell_code) state_code)) user_parts from_user_parts from_parts_of_user
