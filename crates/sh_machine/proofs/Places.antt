-- The parts of a command stand at the places behind its own.
use Rattle.std.proofs.Common.{◌≡◌, ◌+◌, ◌-◌, ◌^◌, ◌≤◌, ℕ, suc, List, [], ◌∷◌, Option, Some, None, ap, ◌∙◌, arith, drop, length}
use Rattle.std.specs.Prelude.{slice_get}
use Rattle.sh_tree.specs.declared.tree.Mode.{Mode}
use Rattle.sh_tree.specs.Tree.{Tree, redir, pipe, list, back}
use Rattle.script_load.specs.Line.{ScriptLine, command}
use Rattle.sh_machine.specs.declared.place.Place.{Place}
use Rattle.sh_machine.specs.End.{IsEnd}
use Rattle.sh_machine.specs.Place.{IsLater, IsPlaced, part_of, part_of_first, size_of}
use Rattle.sh_machine.proofs.Parts.{left_part, line_part_later, part_first, right_part}

-- part k of a command stands k places later
placed_later : (script : List ScriptLine) (place : Option Place) (s : Tree) (k : ℕ) (u : Tree) (later : Option Place)
    → part_of s k ≡ Some u → IsPlaced script place s → IsLater place k later → IsPlaced script later u
placed_later script place s k u None part placed is = tt
placed_later script None s k u (Some later) part placed is = absurd is
placed_later script (Some place) s k u (Some later) part placed is =
    ap (λ (n : ℕ). part_of_first (drop (length script - n) script) later.before) is.0
    ∙ ap (part_of_first (drop (length script - place.lines) script)) is.1
    ∙ line_part_later (drop (length script - place.lines) script) place.before s k u part placed

-- two steps are one
pub later_twice : (place : Option Place) (m : ℕ) (next : Option Place) (n : ℕ) (later : Option Place) → IsLater place m next → IsLater next n later → IsLater place (m + n) later
later_twice None m None n None one two = tt
later_twice None m (Some next) n None one two = absurd one
later_twice (Some place) m None n None one two = let far : 2 ^ 64 ≤ place.before + (m + n) = omega (arith, one) in far
later_twice (Some place) m (Some next) n None one two = let far : 2 ^ 64 ≤ place.before + (m + n) = omega (arith, one.1, two) in far
later_twice place m None n (Some later) one two = absurd two
later_twice None m (Some next) n (Some later) one two = absurd one
later_twice (Some place) m (Some next) n (Some later) one two = (two.0 ∙ one.0, omega arith)

first_command : (lines : List ScriptLine) (tree : Tree) → slice_get lines 0 ≡ Some (command tree) → part_of_first lines 0 ≡ Some tree
first_command [] tree e = cc
first_command (line ∷ later) tree e =
    let same : line ≡ command tree = cc in ap (λ (l : ScriptLine). part_of_first (l ∷ later) 0) same ∙ part_first tree

pub line_placed : (script lines : List ScriptLine) (tree : Tree) → IsEnd script lines → slice_get lines 0 ≡ Some (command tree)
    → IsPlaced script (Some (record { lines = length lines; before = 0 })) tree
line_placed script lines tree end first = ap (λ (ls : List ScriptLine). part_of_first ls 0) end ∙ first_command lines tree first

pub body_placed : (script : List ScriptLine) (place : Option Place) (mode : Mode) (file : List ℕ) (body : Tree) (next : Option Place)
    → IsPlaced script place (redir mode file body) → IsLater place 1 next → IsPlaced script next body
body_placed script place mode file body next placed is = placed_later script place (redir mode file body) 1 body next (part_first body) placed is

pub back_placed : (script : List ScriptLine) (place : Option Place) (body : Tree) (next : Option Place)
    → IsPlaced script place (back body) → IsLater place 1 next → IsPlaced script next body
back_placed script place body next placed is = placed_later script place (back body) 1 body next (part_first body) placed is

pub pipe_left : (script : List ScriptLine) (place : Option Place) (left right : Tree) (next : Option Place)
    → IsPlaced script place (pipe left right) → IsLater place 1 next → IsPlaced script next left
pipe_left script place left right next placed is = placed_later script place (pipe left right) 1 left next (left_part left right) placed is

pub pipe_right : (script : List ScriptLine) (place : Option Place) (left right : Tree) (next later : Option Place)
    → IsPlaced script place (pipe left right) → IsLater place 1 next → IsLater next (size_of left) later → IsPlaced script later right
pipe_right script place left right next later placed one two =
    let place' : 1 + size_of left ≡ suc (size_of left) = omega arith in
    placed_later script place (pipe left right) (1 + size_of left) right later (ap (part_of (pipe left right)) place' ∙ right_part left right) placed (later_twice place 1 next (size_of left) later one two)

pub list_left : (script : List ScriptLine) (place : Option Place) (left right : Tree) (next : Option Place)
    → IsPlaced script place (list left right) → IsLater place 1 next → IsPlaced script next left
list_left script place left right next placed is = placed_later script place (list left right) 1 left next (left_part left right) placed is

pub list_right : (script : List ScriptLine) (place : Option Place) (left right : Tree) (next later : Option Place)
    → IsPlaced script place (list left right) → IsLater place 1 next → IsLater next (size_of left) later → IsPlaced script later right
list_right script place left right next later placed one two =
    let place' : 1 + size_of left ≡ suc (size_of left) = omega arith in
    placed_later script place (list left right) (1 + size_of left) right later (ap (part_of (list left right)) place' ∙ right_part left right) placed (later_twice place 1 next (size_of left) later one two)
