-- Which items a search over the text's bytes has reached: state n stands for item n, and the state after those for the
-- end of the items. States behind that one count for nothing. No public clause cites this module.
use Rattle.std.specs.Prelude.{ℕ, Bool, true, false, ◌&&◌, ◌||◌, List, [], ◌∷◌, Option, Some, None}
use Rattle.grep_match.specs.declared.item.Item.{Item}
use Rattle.grep_match.specs.declared.item.Item.TheVariants.{One, Star, End}
use Rattle.grep_match.specs.Pattern.{stands_for}
use Rattle.grep_match.specs.Match.{can_fit}

-- from some state that is reached on, the items can fit the text
abbrev pub alive : List Bool → List Item → List ℕ → Bool
alive [] items text = false
alive (here ∷ later) [] text = here
alive (here ∷ later) (item ∷ items) text = here && can_fit (item ∷ items) text || alive later items text

-- c stands for the next byte, if there is one
abbrev pub stands_next : ℕ → Option ℕ → Bool
stands_next c None = false
stands_next c (Some b) = stands_for c b

-- there is no next byte
abbrev pub is_at_end : Option ℕ → Bool
is_at_end None = true
is_at_end (Some b) = false

-- the last state is reached before the next byte; the first is also if `reached`
abbrev pub comes_through : Option ℕ → Bool → List Bool → List Item → Bool
comes_through next reached [] items = false
comes_through next reached (here ∷ later) [] = here || reached
comes_through next reached (here ∷ later) (One c ∷ items) = comes_through next false later items
comes_through next reached (here ∷ later) (Star c ∷ items) = comes_through next (here || reached) later items
comes_through next reached (here ∷ later) (End ∷ items) = comes_through next ((here || reached) && is_at_end next) later items

-- the states that are reached behind the next byte; the first is also if `arrived`
abbrev pub moved : Option ℕ → Bool → Bool → List Bool → List Item → List Bool
moved next reached arrived [] items = []
moved next reached arrived (here ∷ later) [] = arrived ∷ later
moved next reached arrived (here ∷ later) (One c ∷ items) =
    arrived ∷ moved next false ((here || reached) && stands_next c next) later items
moved next reached arrived (here ∷ later) (Star c ∷ items) =
    (arrived || (here || reached) && stands_next c next) ∷ moved next (here || reached) false later items
moved next reached arrived (here ∷ later) (End ∷ items) = arrived ∷ moved next ((here || reached) && is_at_end next) false later items
