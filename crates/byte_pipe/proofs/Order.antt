-- Over any calls on a pipe, what was taken and then what is held is what was held and then what was put.
use Rattle.std.proofs.Common.{◌≡◌, ℕ, List, [], ◌∷◌, ◌++◌, Bool, true, false, length, take, drop, min, refl, sym, ap, ◌∙◌, append_assoc, append-nil, arith}
use Rattle.std.proofs.Math.Seq.{take-nil, drop-nil, take-append_seam}
use Rattle.std.proofs.lemmas.List.{length-take, take_min, take-append-drop, nil_from_length}
use Rattle.std.proofs.lemmas.Bool.{eqb-true}
use Rattle.std.specs.Prelude.{not, ◌==◌, if◌then◌else◌}
use Rattle.byte_pipe.specs.declared.Put.TheVariants.{Took, Full, Closed}
use Rattle.byte_pipe.specs.declared.Take.TheVariants.{Got, Empty, End}
use Rattle.byte_pipe.specs.PipeState.{PipeState, room, put_answer, appended, take_answer, filled}
use Rattle.byte_pipe.specs.PipeCall.{PipeCall, puts, takes, closes_read, closes_write, after_call, told_put, told_taken, put_by, taken_by, after_calls, all_put, all_taken}

-- an open reader: the result says what was appended
told_by_room : (r : ℕ) (xs : List ℕ) (full : Bool) → (r == 0) ≡ full → told_put (if full then Full else Took (min r (length xs))) xs ≡ take r xs
told_by_room r xs true e = let none : r ≡ 0 = eqb-true r 0 e in ap (λ (n : ℕ). take n xs) (sym none)
told_by_room r xs false e = take_min r xs

told_by_reader : (reader : Bool) (r : ℕ) (xs : List ℕ) → told_put (if not reader then Closed else (if r == 0 then Full else Took (min r (length xs)))) xs ≡ (if reader then take r xs else [])
told_by_reader true r xs = told_by_room r xs (r == 0) refl
told_by_reader false r xs = refl

none_appended : (reader : Bool) (r : ℕ) → ◌≡◌ {A = List ℕ} (if reader then take r [] else []) []
none_appended true r = take-nil r
none_appended false r = refl

told_by_length : (reader : Bool) (r : ℕ) (xs : List ℕ) (none : Bool) → (length xs == 0) ≡ none → told_put (if none then Took 0 else (if not reader then Closed else (if r == 0 then Full else Took (min r (length xs))))) xs ≡ (if reader then take r xs else [])
told_by_length reader r xs true e =
    sym (ap (λ (ys : List ℕ). if reader then take r ys else []) (nil_from_length xs (eqb-true (length xs) 0 e)) ∙ none_appended reader r)
told_by_length reader r xs false e = told_by_reader reader r xs

-- the result of a put says what was appended
told_is_appended : (p : PipeState) (xs : List ℕ) → told_put (put_answer p xs) xs ≡ appended p xs
told_is_appended p xs = told_by_length p.reader (room p) xs (length xs == 0) refl

empty_by_writer : (writer : Bool) (buffer : List ℕ) → told_taken (if writer then Empty else End) buffer ≡ []
empty_by_writer true buffer = refl
empty_by_writer false buffer = refl

-- the first of a filled buffer are the bytes that moved
first_filled : (held buffer : List ℕ) → take (min (length held) (length buffer)) (take (length buffer) held ++ drop (length held) buffer) ≡ take (length buffer) held
first_filled held buffer =
    let count : min (length held) (length buffer) ≡ length (take (length buffer) held) = omega (arith, length-take (length buffer) held) in
    ap (λ (n : ℕ). take n (take (length buffer) held ++ drop (length held) buffer)) count ∙ take-append_seam (take (length buffer) held) (drop (length held) buffer)

told_by_held : (writer : Bool) (held buffer : List ℕ) (none : Bool) → (length held == 0) ≡ none → told_taken (if none then (if writer then Empty else End) else Got (min (length held) (length buffer))) (take (length buffer) held ++ drop (length held) buffer) ++ drop (length buffer) held ≡ held
told_by_held writer held buffer true e =
    let nothing : held ≡ [] = nil_from_length held (eqb-true (length held) 0 e) in
    ap (λ (ys : List ℕ). ys ++ drop (length buffer) held) (empty_by_writer writer (take (length buffer) held ++ drop (length held) buffer))
    ∙ ap (λ (ys : List ℕ). drop (length buffer) ys) nothing
    ∙ drop-nil (length buffer)
    ∙ sym nothing
told_by_held writer held buffer false e =
    ap (λ (ys : List ℕ). ys ++ drop (length buffer) held) (first_filled held buffer) ∙ take-append-drop (length buffer) held

-- what a take returns and what it leaves are what was held
told_and_left : (p : PipeState) (buffer : List ℕ) → told_taken (take_answer p (length buffer)) (filled p buffer) ++ drop (length buffer) p.bytes ≡ p.bytes
told_and_left p buffer = told_by_held p.writer p.bytes buffer (length p.bytes == 0) refl

-- one call
one_call : (p : PipeState) (c : PipeCall) → taken_by p c ++ (after_call p c).bytes ≡ p.bytes ++ put_by p c
one_call p (puts xs) = ap (λ (ys : List ℕ). p.bytes ++ ys) (sym (told_is_appended p xs))
one_call p (takes buffer) = told_and_left p buffer ∙ sym (append-nil p.bytes)
one_call p closes_read = sym (append-nil p.bytes)
one_call p closes_write = sym (append-nil p.bytes)

pub order_law : (p : PipeState) (calls : List PipeCall) → all_taken p calls ++ (after_calls p calls).bytes ≡ p.bytes ++ all_put p calls
order_law p [] = sym (append-nil p.bytes)
order_law p (c ∷ cs) =
    append_assoc (taken_by p c) (all_taken (after_call p c) cs) (after_calls (after_call p c) cs).bytes
    ∙ ap (λ (ys : List ℕ). taken_by p c ++ ys) (order_law (after_call p c) cs)
    ∙ sym (append_assoc (taken_by p c) (after_call p c).bytes (all_put (after_call p c) cs))
    ∙ ap (λ (ys : List ℕ). ys ++ all_put (after_call p c) cs) (one_call p c)
    ∙ append_assoc p.bytes (put_by p c) (all_put (after_call p c) cs)
