-- Each name has a place of its own among all names.
use Rattle.std.proofs.Common.{◌≡◌, ◌≢◌, ℕ, suc, zero, ◌<◌, ◌∙◌, ap, get_or, refl, sym, arith}
use Rattle.step_commands.specs.declared.name.Name.{Name}
use Rattle.step_commands.specs.declared.name.Name.TheVariants.{Go, Back, Until, Ps, Pipes, Fds, Files, Out, Why, Answers, Watch, Schedule, Save, Help, Quit}
use Rattle.step_commands.specs.declared.name.TheConstants.{NAMES}

pub place_of : (name : Name) → (k : ℕ) × (k < 15) × (get_or NAMES k Go ≡ name)
place_of Go = (0, omega arith, refl)
place_of Back = (1, omega arith, refl)
place_of Until = (2, omega arith, refl)
place_of Ps = (3, omega arith, refl)
place_of Pipes = (4, omega arith, refl)
place_of Fds = (5, omega arith, refl)
place_of Files = (6, omega arith, refl)
place_of Out = (7, omega arith, refl)
place_of Why = (8, omega arith, refl)
place_of Answers = (9, omega arith, refl)
place_of Watch = (10, omega arith, refl)
place_of Schedule = (11, omega arith, refl)
place_of Save = (12, omega arith, refl)
place_of Help = (13, omega arith, refl)
place_of Quit = (14, omega arith, refl)

-- its place, of a name that is at a place
placed : (k : ℕ) → k < 15 → (place_of (get_or NAMES k Go)).0 ≡ k
unfolding place_of
placed zero h = refl
placed (suc zero) h = refl
placed (suc (suc zero)) h = refl
placed (suc (suc (suc zero))) h = refl
placed (suc (suc (suc (suc zero)))) h = refl
placed (suc (suc (suc (suc (suc zero))))) h = refl
placed (suc (suc (suc (suc (suc (suc zero)))))) h = refl
placed (suc (suc (suc (suc (suc (suc (suc zero))))))) h = refl
placed (suc (suc (suc (suc (suc (suc (suc (suc zero)))))))) h = refl
placed (suc (suc (suc (suc (suc (suc (suc (suc (suc zero))))))))) h = refl
placed (suc (suc (suc (suc (suc (suc (suc (suc (suc (suc zero)))))))))) h = refl
placed (suc (suc (suc (suc (suc (suc (suc (suc (suc (suc (suc zero))))))))))) h = refl
placed (suc (suc (suc (suc (suc (suc (suc (suc (suc (suc (suc (suc zero)))))))))))) h = refl
placed (suc (suc (suc (suc (suc (suc (suc (suc (suc (suc (suc (suc (suc zero))))))))))))) h = refl
placed (suc (suc (suc (suc (suc (suc (suc (suc (suc (suc (suc (suc (suc (suc zero)))))))))))))) h = refl
placed (suc (suc (suc (suc (suc (suc (suc (suc (suc (suc (suc (suc (suc (suc (suc k))))))))))))))) h = absurd (omega arith)

pub names_differ : (j k : ℕ) → j < k → k < 15 → get_or NAMES j Go ≢ get_or NAMES k Go
names_differ j k below within same =
    let e : j ≡ k = sym (placed j (omega arith)) ∙ ap (λ (name : Name). (place_of name).0) same ∙ placed k within in
    omega arith
