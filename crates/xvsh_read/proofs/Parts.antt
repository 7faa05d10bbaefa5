-- Parts of what is written.
use Rattle.std.proofs.Common.{◌≡◌, ◌≢◌, ℕ, List, [], ◌∷◌, ◌++◌, take, drop, Option, sym, ◌∙◌, ap, append_assoc, append-nil, take-append-drop, refl, subst}
use Rattle.std.specs.Io.KnownBytes.{Appends, Keeps}
use Rattle.std.proofs.KnownBytes.{Appends-nil, Appends-trans, Appends-kept}
use Rattle.xvsh_read.specs.Writing.{AppendsPart}

pub no_bytes : (a b : List ℕ) → a ++ b ≡ [] → (a ≡ []) × (b ≡ [])
no_bytes [] b none = (refl, none)
no_bytes (x ∷ a) b none = cc

-- a part of a text is one of the text with more behind it
pub part_before : (old new : Option (List ℕ)) (a b : List ℕ) → AppendsPart old new a → AppendsPart old new (a ++ b)
part_before old new a b part = record {
  written = part.written;
  rest = part.rest ++ b;
  split = ap (λ t. t ++ b) part.split ∙ append_assoc part.written part.rest b;
  unfinished = λ none. part.unfinished (no_bytes part.rest b none).0;
  writes = part.writes;
}

-- what was written before it belongs to it
pub part_behind : (old mid new : Option (List ℕ)) (a b : List ℕ) → Appends old mid a → AppendsPart mid new b → AppendsPart old new (a ++ b)
part_behind old mid new a b first part = record {
  written = a ++ part.written;
  rest = part.rest;
  split = ap (λ t. a ++ t) part.split ∙ sym (append_assoc a part.written part.rest);
  unfinished = part.unfinished;
  writes = Appends-trans old mid new a part.written first part.writes;
}

-- of these bytes the rest is left, and those before it were written
pub record Begun (old new : Option (List ℕ)) (bytes rest : List ℕ) : Type 0 where
  pub written : List ℕ
  pub split : bytes ≡ written ++ rest
  pub writes : Appends old new written

pub begun_none : (old : Option (List ℕ)) (bytes : List ℕ) → Begun old old bytes bytes
begun_none old bytes = record { written = []; split = refl; writes = Appends-nil old }

pub begun_more : (old mid new : Option (List ℕ)) (bytes rest : List ℕ) (count : ℕ) → Begun old mid bytes rest → Appends mid new (take count rest) → Begun old new bytes (drop count rest)
begun_more old mid new bytes rest count begun wrote = record {
  written = begun.written ++ take count rest;
  split = begun.split ∙ ap (λ t. begun.written ++ t) (sym (take-append-drop count rest)) ∙ sym (append_assoc begun.written (take count rest) (drop count rest));
  writes = Appends-trans old mid new begun.written (take count rest) begun.writes wrote;
}

pub begun_kept : (old mid new : Option (List ℕ)) (bytes rest : List ℕ) → Begun old mid bytes rest → Keeps mid new → Begun old new bytes rest
begun_kept old mid new bytes rest begun kept = record { written = begun.written; split = begun.split; writes = Appends-kept old mid new begun.written begun.writes kept }

pub begun_all : (old new : Option (List ℕ)) (bytes rest : List ℕ) → Begun old new bytes rest → rest ≡ [] → Appends old new bytes
begun_all old new bytes rest begun none = subst (Appends old new) (sym (begun.split ∙ ap (λ t. begun.written ++ t) none ∙ append-nil begun.written)) begun.writes

pub begun_part : (old new : Option (List ℕ)) (bytes rest : List ℕ) → Begun old new bytes rest → rest ≢ [] → AppendsPart old new bytes
begun_part old new bytes rest begun some = record { written = begun.written; rest = rest; split = begun.split; unfinished = some; writes = begun.writes }
