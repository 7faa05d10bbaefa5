-- The places of notes stand in order and inside the line.
use Rattle.std.proofs.Common.{◌≡◌, ◌≢◌, ℕ, ◌≤◌, Bool, true, false, cond, ◌&&◌, List, [], ◌∷◌, ◌++◌, length, sym, subst, arith}
use Rattle.std.specs.Prelude.{map, filter}
use Rattle.std.specs.Str.{bytes_eq}
use Rattle.sh_lexer.specs.declared.token.Token.{Token}
use Rattle.sh_lexer.specs.Tokens.{IsToken, AreTokensFrom, IsTokenList}
use Rattle.sh_tree.specs.declared.fault.ParseFault.{ParseFault}
use Rattle.sh_tree.specs.declared.fault.ParseFault.TheVariants.{MissingFile, MissingParen, TooManyWords, Unexpected, Leftover, Memory}
use Rattle.sh_tree.specs.Fault.{HasFault, StopsAt, place_of, place_told}
use Rattle.mem_files.specs.Name.{Bytes}
use Rattle.script_notes.specs.declared.span.Span.{Span}
use Rattle.script_notes.specs.Spans.{AreSpansFrom}
use Rattle.script_notes.specs.Letters.{text_of}
use Rattle.script_notes.specs.Segments.{is_word}
use Rattle.script_notes.specs.Whole.{places_of}

-- places that stand from a byte on stand from each earlier one on
from_earlier : (text : Bytes) (earlier from : ℕ) (spans : List Span) → earlier ≤ from → AreSpansFrom text from spans → AreSpansFrom text earlier spans
from_earlier text earlier from [] before are = tt
from_earlier text earlier from (span ∷ spans) before are = (omega (arith, are.0), are.1, are.2, are.3)

abbrev span_of : Token → Span
span_of t = record { first = t.first; past = t.past }

-- one word more, if it is the name
one_more : (text : Bytes) (from : ℕ) (t : Token) (ts : List Token) (is : Bool) → from ≤ t.first → IsToken text t → AreSpansFrom text t.past (map span_of ts) → AreSpansFrom text from (map span_of (cond is (t ∷ ts) ts))
one_more text from t ts true before token later = (before, omega (arith, token.nonempty), token.inside, later)
one_more text from t ts false before token later = from_earlier text from t.past (map span_of ts) (omega (arith, before, token.nonempty)) later

-- the words of a line that are some name
pub words_inside : (text name : Bytes) (from : ℕ) (ts : List Token) → AreTokensFrom text from ts → AreSpansFrom text from (places_of text name ts)
words_inside text name from [] are = tt
words_inside text name from (t ∷ ts) are =
    one_more text from t (filter (λ t. is_word t.kind && bytes_eq (text_of text t) name) ts) (is_word t.kind && bytes_eq (text_of text t) name) are.0 are.2
    (words_inside text name t.past ts are.3)

-- where a list of tokens is cut, the line goes on inside it
cut_inside : (line : Bytes) (from : ℕ) (before rest : List Token) → AreTokensFrom line from (before ++ rest) → place_of line rest ≤ length line
cut_inside line from [] [] are = omega arith
cut_inside line from [] (t ∷ rest) are = omega (arith, are.2.nonempty, are.2.inside)
cut_inside line from (t ∷ before) rest are = cut_inside line t.past before rest are.3

stop_inside : (line : Bytes) (ts : List Token) (fault : ParseFault) → IsTokenList line ts → StopsAt line ts fault → place_told fault ≤ length line
stop_inside line ts fault list stops =
    subst (λ place. place ≤ length line) (sym stops.place)
    (cut_inside line 0 stops.before stops.rest (subst (λ all. AreTokensFrom line 0 all) stops.split list))

-- a fault's place is in the line or at its end
pub fault_inside : (line : Bytes) (fault : ParseFault) → fault ≢ Memory → HasFault line fault → place_told fault ≤ length line
fault_inside line (MissingFile at) other has = stop_inside line has.0 (MissingFile at) has.1 has.2
fault_inside line (MissingParen at) other has = stop_inside line has.0 (MissingParen at) has.1 has.2
fault_inside line (TooManyWords at) other has = stop_inside line has.0 (TooManyWords at) has.1 has.2
fault_inside line (Unexpected at) other has = stop_inside line has.0 (Unexpected at) has.1 has.2
fault_inside line (Leftover at) other has = stop_inside line has.0 (Leftover at) has.1 has.2
fault_inside line Memory other has = omega arith

-- the first of these tokens
pub first_token : (text : Bytes) (from : ℕ) (all : List Token) (t : Token) (after : List Token) → all ≡ t ∷ after → AreTokensFrom text from all → AreTokensFrom text from (t ∷ after)
first_token text from all t after cut are = subst (AreTokensFrom text from) cut are
