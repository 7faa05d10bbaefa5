-- Tests with a script of their own, and the others, one more at a time.
use Rattle.std.proofs.Common.{◌≡◌, ℕ, ◌+◌, ◌<◌, true, false, List, [], ◌∷◌, ◌++◌, Some, None, IsSomeAnd, is_some, cond, get_or, length, take, sym, ap, subst, ◌∙◌, append-nil}
use Rattle.std.specs.List.{AllZip}
use Rattle.std.proofs.lemmas.List.Elements.{filter_more}
use Rattle.std.proofs.lemmas.Slice.Zip.{all_zipped_more}
use Rattle.grade_tests.specs.declared.test.Loaded.{Loaded}
use Rattle.xvsh_grades.specs.Jobs.{IsOwnPiece, IsPieceOf}
use Rattle.xvsh_grades.specs.Marks.{own_tests}
use Rattle.xvsh_grades.specs.declared.marks.Piece.{Piece}

module _ (tests : List Loaded) (i : ℕ) (x : Loaded) (inside : i < length tests) (is : x ≡ get_or tests i x) where
  own_kept : is_some x.script ≡ false → own_tests (take (i + 1) tests) ≡ own_tests (take i tests)
  own_kept none =
      filter_more (λ t. is_some t.script) tests i x inside
      ∙ ap (λ b. own_tests (take i tests) ++ cond b (get_or tests i x ∷ []) []) (ap (λ t. is_some t.script) (sym is) ∙ none) ∙ append-nil (own_tests (take i tests))

  own_added : is_some x.script ≡ true → own_tests (take (i + 1) tests) ≡ own_tests (take i tests) ++ x ∷ []
  own_added some =
      filter_more (λ t. is_some t.script) tests i x inside
      ∙ ap (λ b. own_tests (take i tests) ++ cond b (get_or tests i x ∷ []) []) (ap (λ t. is_some t.script) (sym is) ∙ some) ∙ ap (λ t. own_tests (take i tests) ++ t ∷ []) (sym is)

  -- a test without a script has no piece
  pub no_piece : (pieces : List Piece) → AllZip IsOwnPiece (own_tests (take i tests)) pieces → x.script ≡ None → AllZip IsOwnPiece (own_tests (take (i + 1) tests)) pieces
  no_piece pieces before none = subst (λ own. AllZip IsOwnPiece own pieces) (sym (own_kept (ap is_some none))) before

  -- and one with a script has one
  pub one_piece : {bytes : _} (pieces more : List Piece) (piece : Piece) → AllZip IsOwnPiece (own_tests (take i tests)) pieces → x.script ≡ Some bytes → IsPieceOf None bytes.items x piece
      → more ≡ pieces ++ piece ∷ [] → AllZip IsOwnPiece (own_tests (take (i + 1) tests)) more
  one_piece pieces more piece before some has added =
      let own : IsOwnPiece x piece = subst (λ o. IsSomeAnd o (λ bytes. IsPieceOf None bytes.items x piece)) (sym some) has in
      subst (λ own. AllZip IsOwnPiece own more) (sym (own_added (ap is_some some))) (subst (AllZip IsOwnPiece (own_tests (take i tests) ++ x ∷ [])) (sym added) (all_zipped_more IsOwnPiece (own_tests (take i tests)) pieces x piece before own))
