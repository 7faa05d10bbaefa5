-- A number is written without spaces and line ends; so two of them are written in one way, and an event too.
use Rattle.std.proofs.Common.{◌≡◌, ◌≢◌, ℕ, zero, suc, ◌+◌, ◌<◌, ◌≤◌, ◌^◌, ◌%◌, List, [], ◌∷◌, ◌++◌, refl, arith}
use Rattle.std.specs.Prelude.{All}
use Rattle.std.specs.Fmt.{decimal}
use Rattle.std.proofs.lemmas.Fmt.{decimal_by_steps, decimal_injective}
use Rattle.std.proofs.lemmas.List.Elements.{All-push, All-append}
use Rattle.kernel_model.specs.declared.events.Event.{Event}
use Rattle.kernel_model.specs.declared.events.Event.TheVariants.{Dispatch, Trap}
use Rattle.prog_parts.specs.Lines.{HasNoLf}
use Rattle.schedule_lines.specs.EventLines.{numbers_text, event_text, HasNoSpace, IsHeld}

abbrev IsVisible : List ℕ → Type 0
IsVisible text = All (λ byte. 33 ≤ byte) text

all_none : {X : Type 0} (P : X → Type 0) → All P []
all_none P k d inside = absurd (omega arith)

all_cons : {X : Type 0} (P : X → Type 0) (x : X) (xs : List X) → P x → All P xs → All P (x ∷ xs)
all_cons P x xs first rest zero d inside = first
all_cons P x xs first rest (suc k) d inside = rest k d (omega arith)

pub all_rest : {X : Type 0} (P : X → Type 0) (x : X) (xs : List X) → All P (x ∷ xs) → All P xs
all_rest P x xs all k d inside = all (suc k) d (omega arith)

digit : (n : ℕ) → n < 10 → IsVisible ((48 + n) ∷ [])
digit n small = all_cons (λ b. 33 ≤ b) (48 + n) [] (omega arith) (all_none (λ b. 33 ≤ b))

visible : (n : ℕ) → n < 2 ^ 64 → IsVisible (decimal n)
visible n small =
    decimal_by_steps (λ n ds. IsVisible ds) digit
    (λ n ds far before. All-push (λ b. 33 ≤ b) ds (48 + n % 10) before (omega arith)) n small

pub no_space : (n : ℕ) → n < 2 ^ 64 → HasNoSpace (decimal n)
no_space n small k d inside is = let seen = visible n small k d inside in omega (arith, seen, is)

number_no_lf : (n : ℕ) → n < 2 ^ 64 → HasNoLf (decimal n)
number_no_lf n small k d inside is = let seen = visible n small k d inside in omega (arith, seen, is)

after_letter : (letter hart pid : ℕ) → letter ≢ 10 → hart < 2 ^ 8 → pid < 2 ^ 64 → HasNoLf (letter ∷ 32 ∷ numbers_text hart pid)
after_letter letter hart pid other small few =
    all_cons (λ b. b ≢ 10) letter (32 ∷ numbers_text hart pid) other
    (all_cons (λ b. b ≢ 10) 32 (numbers_text hart pid) (λ is. omega (arith, is))
    (All-append (λ b. b ≢ 10) (decimal hart) (32 ∷ decimal pid) (number_no_lf hart (omega arith))
    (all_cons (λ b. b ≢ 10) 32 (decimal pid) (λ is. omega (arith, is)) (number_no_lf pid few))))

-- an event is on one line
pub one_line : (event : Event) → IsHeld event → HasNoLf (event_text event)
one_line (Dispatch hart pid) held = after_letter 68 hart pid (λ is. omega (arith, is)) held.0 (omega (arith, held.1))
one_line (Trap hart pid) held = after_letter 84 hart pid (λ is. omega (arith, is)) held.0 (omega (arith, held.1))

-- what stands before the first space, and after it
pub one_space : (a b c d : List ℕ) → HasNoSpace a → HasNoSpace c → a ++ 32 ∷ b ≡ c ++ 32 ∷ d → (a ≡ c) × (b ≡ d)
one_space [] b [] d no_a no_c same = (refl, cc)
one_space [] b (x ∷ c) d no_a no_c same = let head : x ≡ 32 = cc in absurd (no_c 0 0 (omega arith) head)
one_space (x ∷ a) b [] d no_a no_c same = let head : x ≡ 32 = cc in absurd (no_a 0 0 (omega arith) head)
one_space (x ∷ a) b (y ∷ c) d no_a no_c same =
    let heads : x ≡ y = cc in
    let tails : a ++ 32 ∷ b ≡ c ++ 32 ∷ d = cc in
    let later = one_space a b c d (all_rest (λ b. b ≢ 32) x a no_a) (all_rest (λ b. b ≢ 32) y c no_c) tails in
    let firsts = later.0 in
    (cc, later.1)

pub one_numbers : (hart pid h p : ℕ) → hart < 2 ^ 8 → pid < 2 ^ 64 → h < 2 ^ 8 → p < 2 ^ 64 → numbers_text hart pid ≡ numbers_text h p → (hart ≡ h) × (pid ≡ p)
one_numbers hart pid h p small few low less same =
    let cut = one_space (decimal hart) (decimal pid) (decimal h) (decimal p) (no_space hart (omega arith)) (no_space h (omega arith)) same in
    (decimal_injective hart h (omega arith) (omega arith) cut.0, decimal_injective pid p few less cut.1)

two_rest : (x y : ℕ) (xs ys : List ℕ) → x ∷ 32 ∷ xs ≡ y ∷ 32 ∷ ys → xs ≡ ys
two_rest x y xs ys same = cc

first_same : (x y : ℕ) (xs ys : List ℕ) → x ∷ xs ≡ y ∷ ys → x ≡ y
first_same x y xs ys same = cc

pub one_event : (e f : Event) → IsHeld e → IsHeld f → event_text e ≡ event_text f → e ≡ f
one_event (Dispatch hart pid) (Dispatch h p) held kept same =
    let own = one_numbers hart pid h p held.0 (omega (arith, held.1)) kept.0 (omega (arith, kept.1)) (two_rest 68 68 _ _ same) in
    let harts = own.0 in let pids = own.1 in cc
one_event (Dispatch hart pid) (Trap h p) held kept same = let wrong : 68 ≡ 84 = first_same 68 84 _ _ same in absurd (omega (arith, wrong))
one_event (Trap hart pid) (Dispatch h p) held kept same = let wrong : 84 ≡ 68 = first_same 84 68 _ _ same in absurd (omega (arith, wrong))
one_event (Trap hart pid) (Trap h p) held kept same =
    let own = one_numbers hart pid h p held.0 (omega (arith, held.1)) kept.0 (omega (arith, kept.1)) (two_rest 84 84 _ _ same) in
    let harts = own.0 in let pids = own.1 in cc

pub space_inside : (a b : List ℕ) → HasNoSpace (a ++ 32 ∷ b) → ⊥
space_inside [] b none = none 0 0 (omega arith) refl
space_inside (x ∷ a) b none = space_inside a b (all_rest (λ b. b ≢ 32) x (a ++ 32 ∷ b) none)
