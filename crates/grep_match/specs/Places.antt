-- Marks on the places of a text: mark n is on the place before byte n, and the one that follows those on bytes on the
-- text's end. Marks behind that one count for nothing. No public clause cites this module.
use Rattle.std.specs.Prelude.{ℕ, Bool, false, ◌&&◌, ◌||◌, List, [], ◌∷◌}
use Rattle.grep_match.specs.declared.item.Item.{Item}
use Rattle.grep_match.specs.Pattern.{stands_for}
use Rattle.grep_match.specs.Match.{can_fit}

-- from some marked place on, the items can fit
abbrev pub leads : List Bool → List Item → List ℕ → Bool
leads [] items text = false
leads (here ∷ later) items [] = here && can_fit items []
leads (here ∷ later) items (b ∷ text) = here && can_fit items (b ∷ text) || leads later items text

-- the marks before bytes that c stands for: as marks on the text without its first byte, they are behind those bytes
abbrev pub before_byte : ℕ → List Bool → List ℕ → List Bool
before_byte c marks [] = marks
before_byte c [] (b ∷ text) = []
before_byte c (here ∷ later) (b ∷ text) = (here && stands_for c b) ∷ before_byte c later text

-- the marks, and one behind each byte that c stands for and that a mark precedes; the first also if `carried`
abbrev pub behind_bytes : ℕ → Bool → List Bool → List ℕ → List Bool
behind_bytes c carried [] text = []
behind_bytes c carried (here ∷ later) [] = (here || carried) ∷ later
behind_bytes c carried (here ∷ later) (b ∷ text) =
    (here || carried) ∷ behind_bytes c ((here || carried) && stands_for c b) later text
