-- What of a kernel is compared where kernels that were seen are found again.
use Rattle.std.specs.Prelude.{◌≡◌, ℕ, suc, ◌==◌, if◌then◌else◌, [], ◌∷◌}
use Rattle.kernel_model.specs.Pipes.{Pipes}
use Rattle.kernel_model.specs.KernelState.{KernelState}
use Rattle.kernel_model.specs.Idle.{idle_kernel}

-- the place of the pipe of that name, from 0; a name that no pipe has gets one past all places
abbrev pub place_in : Pipes → ℕ → ℕ
place_in [] id = id
place_in (p ∷ rest) id = if id == p.0 then 0 else suc (place_in rest id)

-- the kernel if nobody ran, each pipe were called by its place, and no event had happened
abbrev pub key : {S : Type 0} → KernelState S → KernelState S
key k = idle_kernel (place_in k.pipes) 0 k

abbrev pub SameKey : {S : Type 0} → KernelState S → KernelState S → Type 0
SameKey k l = key k ≡ key l
