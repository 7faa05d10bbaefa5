use Rattle.std.proofs.Common.{◌≡◌, ◌<◌, refl, ℕ, zero, suc, List, [], ◌∷◌, arith}
use Rattle.std.specs.Prelude.{count_by, slice_index}
use Rattle.kernel_model.specs.declared.events.Event.{Event}
use Rattle.kernel_events.specs.Harts.{is_of_hart}
use Rattle.kernel_events.proofs.kernel.by_hart.Goals as goal

eight : (es : List Event) (a0 a1 a2 a3 a4 a5 a6 a7 : ℕ) → a0 ≡ count_by (is_of_hart 0) es → a1 ≡ count_by (is_of_hart 1) es → a2 ≡ count_by (is_of_hart 2) es → a3 ≡ count_by (is_of_hart 3) es → a4 ≡ count_by (is_of_hart 4) es → a5 ≡ count_by (is_of_hart 5) es → a6 ≡ count_by (is_of_hart 6) es → a7 ≡ count_by (is_of_hart 7) es → (h : ℕ) → h < 8 → slice_index (a0 ∷ a1 ∷ a2 ∷ a3 ∷ a4 ∷ a5 ∷ a6 ∷ a7 ∷ []) h ≡ count_by (is_of_hart h) es
eight es a0 a1 a2 a3 a4 a5 a6 a7 e0 e1 e2 e3 e4 e5 e6 e7 zero lt = e0
eight es a0 a1 a2 a3 a4 a5 a6 a7 e0 e1 e2 e3 e4 e5 e6 e7 (suc zero) lt = e1
eight es a0 a1 a2 a3 a4 a5 a6 a7 e0 e1 e2 e3 e4 e5 e6 e7 (suc (suc zero)) lt = e2
eight es a0 a1 a2 a3 a4 a5 a6 a7 e0 e1 e2 e3 e4 e5 e6 e7 (suc (suc (suc zero))) lt = e3
eight es a0 a1 a2 a3 a4 a5 a6 a7 e0 e1 e2 e3 e4 e5 e6 e7 (suc (suc (suc (suc zero)))) lt = e4
eight es a0 a1 a2 a3 a4 a5 a6 a7 e0 e1 e2 e3 e4 e5 e6 e7 (suc (suc (suc (suc (suc zero))))) lt = e5
eight es a0 a1 a2 a3 a4 a5 a6 a7 e0 e1 e2 e3 e4 e5 e6 e7 (suc (suc (suc (suc (suc (suc zero)))))) lt = e6
eight es a0 a1 a2 a3 a4 a5 a6 a7 e0 e1 e2 e3 e4 e5 e6 e7 (suc (suc (suc (suc (suc (suc (suc zero))))))) lt = e7
eight es a0 a1 a2 a3 a4 a5 a6 a7 e0 e1 e2 e3 e4 e5 e6 e7 (suc (suc (suc (suc (suc (suc (suc (suc h)))))))) lt = absurd (omega arith)

pub returns : goal.returns
returns c = (refl, eight c.args.events.now c.count_of_hart.result c.count_of_hart-2.result c.count_of_hart-3.result c.count_of_hart-4.result c.count_of_hart-5.result c.count_of_hart-6.result c.count_of_hart-7.result c.count_of_hart-8.result c.count_of_hart.ensures c.count_of_hart-2.ensures c.count_of_hart-3.ensures c.count_of_hart-4.ensures c.count_of_hart-5.ensures c.count_of_hart-6.ensures c.count_of_hart-7.ensures c.count_of_hart-8.ensures)
