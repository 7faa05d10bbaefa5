-- What is done with bytes that were read, where there are some and they fit a block.
use Rattle.std.proofs.Common.{◌≡◌, ◌≤◌, ◌<◌, ◌∷◌, [], List, ℕ, ◌∙◌, Bool, true, cond, nat_lt, slice_index_or, length, ap, arith, sym}
use Rattle.std.proofs.lemmas.Bool.Decides.{nat_tests}
use Rattle.std.proofs.lemmas.List.{take_all}
use Rattle.mem_files.specs.Name.{Bytes}
use Rattle.user_calls.specs.Limits.{block_size}
use Rattle.user_calls.specs.declared.calls.Call.TheVariants.{Write}
use Rattle.user_progs.specs.State.{cat_writes, tees, tee_writes, tee_gives}
use Rattle.user_progs.specs.Turn.{writes, Turn, block, cat_got, tee_got, tee_gives_next, tee_waits, yields}

pub cat_some : (bytes : Bytes) → 0 < length bytes → length bytes ≤ block_size → writes (block bytes) cat_writes ≡ cat_got (yields bytes)
cat_some [] some fits = absurd (omega (arith, some))
cat_some (byte ∷ bytes) some fits = ap (λ (b : Bytes). writes b cat_writes) (take_all block_size (byte ∷ bytes) fits)

pub tee_some_call : (fds : List ℕ) (bytes : Bytes) → 0 < length bytes → length bytes ≤ block_size → Write 1 (block bytes) ≡ (tee_got fds (yields bytes)).call
tee_some_call fds [] some fits = absurd (omega (arith, some))
tee_some_call fds (byte ∷ bytes) some fits = ap (λ (b : Bytes). Write 1 b) (take_all block_size (byte ∷ bytes) fits)

pub tee_some_next : (fds : List ℕ) (bytes : Bytes) → 0 < length bytes → length bytes ≤ block_size → tees (tee_writes fds (block bytes)) ≡ (tee_got fds (yields bytes)).next
tee_some_next fds [] some fits = absurd (omega (arith, some))
tee_some_next fds (byte ∷ bytes) some fits = ap (λ (b : Bytes). tees (tee_writes fds b)) (take_all block_size (byte ∷ bytes) fits)

pub tee_gives_call : (fds : List ℕ) (at : ℕ) (bytes : Bytes) → at < length fds → length bytes ≤ block_size →
    Write (slice_index_or fds at 0) (block bytes) ≡ (tee_gives_next fds at bytes).call
tee_gives_call fds at bytes below fits =
    let within : nat_lt at (length fds) ≡ true = grind (arith, nat_tests) in
    let given : Turn = record { call = Write (slice_index_or fds at 0) bytes; next = tees (tee_gives fds at bytes) } in
    ap (λ (b : Bytes). Write (slice_index_or fds at 0) b) (take_all block_size bytes fits)
    ∙ sym (ap (λ (t : Bool). (cond t given (tee_waits fds)).call) within)
