-- What the work on one input writes next, and what comes after it, it was still to write.
use Rattle.std.proofs.Common.{◌≡◌, ℕ, zero, suc, ◌+◌, ◌-◌, ◌*◌, ◌≤◌, nat_le, Bool, true, false, [], ◌∷◌, ◌++◌, length, refl, sym, ap, subst, arith}
use Rattle.std.specs.Prelude.{if◌then◌else◌}
use Rattle.std.proofs.lemmas.List.{length-append, length-take}
use Rattle.mem_files.specs.Name.{Name, Bytes}
use Rattle.grep_match.specs.Match.{matches}
use Rattle.prog_parts.specs.Grep.{is_whole, tested}
use Rattle.prog_parts.specs.Lines.{HasNoLf}
use Rattle.user_calls.specs.Limits.{block_size}
use Rattle.user_calls.specs.declared.calls.Reply.{Reply}
use Rattle.user_progs.specs.State.{Filter, heading, searching, Source, standard, file, Work, cat_reads, cat_writes, head_reads, head_writes, wc_reads, wc_writes, grep_reads, grep_writes}
use Rattle.user_progs.specs.Turn.{Answer, yields, denies, strays, Turn, Step, reads, writes, finishes, fails, quits, bytes_in, done_in, turn, turn_by, work_step, filter_of, block, cat_got, cat_wrote, head_got, head_goes_on, head_wrote, wc_got, counts_line, grep_got, grep_goes_on, grep_lines}
use Rattle.user_progs.proofs.Buffer.{at_match, at_other}
use Rattle.tree_model.specs.Exits.{bytes_told}
use Rattle.law_trees.proofs.programs.Search.{by_lines}
use Rattle.tree_model.specs.ProgramBytes.{call_bytes, passes, for_each, inputs_after, work_bytes, later_bytes}

-- a turn writes no more than so many bytes, where it reads so many more
abbrev pub Pays : ℕ → ℕ → Turn → Type 0
Pays r credit turn = call_bytes turn.call 0 + later_bytes turn.next r ≤ credit

pub block_few : (bytes : Bytes) → length (block bytes) ≤ length bytes
block_few bytes = omega (arith, length-take block_size bytes)

pub block_most : (bytes : Bytes) → length (block bytes) ≤ block_size
block_most bytes = omega (arith, length-take block_size bytes)

-- the work on one input

abbrev pub step_bytes : Step → Filter → ℕ → ℕ
step_bytes (reads most work) filter r = work_bytes work r
step_bytes (writes bytes work) filter r = length bytes + work_bytes work r
step_bytes finishes filter r = passes filter r
step_bytes (fails message) filter r = 0
step_bytes quits filter r = 0

-- the work goes on as it began
abbrev pub IsOf : Step → Filter → Type 0
IsOf (reads most work) filter = filter_of work ≡ filter
IsOf (writes bytes work) filter = filter_of work ≡ filter
IsOf finishes filter = Unit {0}
IsOf (fails message) filter = Unit {0}
IsOf quits filter = Unit {0}

pub step_pays : (r credit : ℕ) (step : Step) (filter : Filter) (source : Source) → IsOf step filter → step_bytes step filter r ≤ credit → Pays r (credit + for_each filter * inputs_after source) (turn_by step filter source)
step_pays r credit (reads most work) filter source is few = omega (arith, few, ap (λ f. for_each f * inputs_after source) is)
step_pays r credit (writes bytes work) filter source is few = omega (arith, few, ap (λ f. for_each f * inputs_after source) is)
step_pays r credit finishes filter standard is few = omega arith
step_pays r credit finishes filter (file fd name later) is few = omega (arith, few)
step_pays r credit (fails message) filter source is few = omega arith
step_pays r credit quits filter source is few = omega arith

-- grep writes of its buffer no more than it holds
abbrev BufferBytes : Bytes → ℕ → Bytes → Type 0
BufferBytes pattern r buffer = (step_bytes (grep_goes_on pattern buffer) (searching pattern) r ≤ length buffer + r) × IsOf (grep_goes_on pattern buffer) (searching pattern)

abbrev Both : Bytes → ℕ → ℕ → Step → Type 0
Both pattern r most s = (step_bytes s (searching pattern) r ≤ most + r) × IsOf s (searching pattern)

no_line : (pattern : Bytes) (r : ℕ) (buffer : Bytes) → tested buffer ≡ [] → BufferBytes pattern r buffer
no_line pattern r buffer nothing = subst (Both pattern r (length buffer)) (sym (ap (λ ls. grep_lines pattern ls buffer) nothing)) (go (nat_le 1023 (length buffer)))
  where
    go : (full : Bool) → Both pattern r (length buffer) (if full then finishes else reads (1023 - length buffer) (grep_reads pattern buffer))
    go true = (omega arith, tt)
    go false = (omega arith, refl)

one_line : (pattern : Bytes) (r : ℕ) (line rest : Bytes) → HasNoLf line → is_whole line ≡ true → BufferBytes pattern r rest → BufferBytes pattern r (line ++ 10 ∷ rest)
one_line pattern r line rest none whole again = go (matches pattern line) refl
  where
    size : length (line ++ 10 ∷ rest) ≡ length line + 1 + length rest
    size = omega (arith, length-append line (10 ∷ rest))

    go : (is : Bool) → matches pattern line ≡ is → BufferBytes pattern r (line ++ 10 ∷ rest)
    go true is =
        subst (Both pattern r (length (line ++ 10 ∷ rest))) (sym (at_match pattern line rest (line ++ 10 ∷ rest) none refl whole is))
        (omega (arith, size, block_few (line ++ 10 ∷ []), length-append line (10 ∷ [])), refl)
    go false is = subst (Both pattern r (length (line ++ 10 ∷ rest))) (sym (at_other pattern line rest (line ++ 10 ∷ rest) none refl whole is)) (omega (arith, size, again.0), again.1)

buffer_bytes : (pattern : Bytes) (r : ℕ) (buffer : Bytes) → BufferBytes pattern r buffer
buffer_bytes pattern r buffer = by_lines (BufferBytes pattern r) (no_line pattern r) (one_line pattern r) (length buffer) buffer (omega arith)

abbrev pub Works : Work → ℕ → ℕ → Step → Type 0
Works work r more s = (step_bytes s (filter_of work) more ≤ work_bytes work r) × IsOf s (filter_of work)

cat_got_pays : (got : Answer Bytes) (r more : ℕ) → more + bytes_told got ≤ r → Works cat_reads r more (cat_got got)
cat_got_pays (yields []) r more few = (omega (arith, few), tt)
cat_got_pays (yields (byte ∷ bytes)) r more few = (omega (arith, few), refl)
cat_got_pays denies r more few = (omega arith, tt)
cat_got_pays strays r more few = (omega arith, tt)

cat_wrote_pays : (said : Answer (Unit {0})) (r more : ℕ) → more ≤ r → Works cat_writes r more (cat_wrote said)
cat_wrote_pays (yields done) r more few = (few, refl)
cat_wrote_pays denies r more few = (omega arith, tt)
cat_wrote_pays strays r more few = (omega arith, tt)

pub head_goes_pays : (lines wanted r more : ℕ) → more ≤ r → (step_bytes (head_goes_on lines wanted) (heading lines) more ≤ r) × IsOf (head_goes_on lines wanted) (heading lines)
head_goes_pays lines zero r more few = (few, tt)
head_goes_pays lines (suc wanted) r more few = (few, refl)

head_got_pays : (lines wanted : ℕ) (got : Answer Bytes) (r more : ℕ) → more + bytes_told got ≤ r → Works (head_reads lines wanted) r more (head_got lines wanted got)
head_got_pays lines wanted (yields []) r more few = (omega (arith, few), tt)
head_got_pays lines zero (yields (byte ∷ bytes)) r more few = (omega (arith, few), tt)
head_got_pays lines (suc wanted) (yields (byte ∷ bytes)) r more few = (omega (arith, few), refl)
head_got_pays lines wanted denies r more few = (omega arith, tt)
head_got_pays lines wanted strays r more few = (omega arith, tt)

head_wrote_pays : (lines wanted : ℕ) (said : Answer (Unit {0})) (r more : ℕ) → more ≤ r → Works (head_writes lines wanted) r more (head_wrote lines wanted said)
head_wrote_pays lines wanted (yields done) r more few = head_goes_pays lines wanted r more few
head_wrote_pays lines wanted denies r more few = (omega arith, tt)
head_wrote_pays lines wanted strays r more few = (omega arith, tt)

wc_got_pays : (l w c : ℕ) (inside : Bool) (name : Name) (got : Answer Bytes) (r more : ℕ) → Works (wc_reads l w c inside) r more (wc_got l w c inside name got)
wc_got_pays l w c inside name (yields []) r more = (omega (arith, block_most (counts_line l w c name)), refl)
wc_got_pays l w c inside name (yields (byte ∷ bytes)) r more = (omega arith, refl)
wc_got_pays l w c inside name denies r more = (omega arith, tt)
wc_got_pays l w c inside name strays r more = (omega arith, tt)

grep_got_pays : (pattern kept : Bytes) (got : Answer Bytes) (r more : ℕ) → more + bytes_told got ≤ r → Works (grep_reads pattern kept) r more (grep_got pattern kept got)
grep_got_pays pattern kept (yields []) r more few = (omega (arith, few), tt)
grep_got_pays pattern kept (yields (byte ∷ bytes)) r more few =
    let b = byte ∷ bytes in
    let h = buffer_bytes pattern more (block (kept ++ b)) in
    (omega (arith, few, h.0, block_few (kept ++ b), length-append kept b), h.1)
grep_got_pays pattern kept denies r more few = (omega (arith, few), tt)
grep_got_pays pattern kept strays r more few = (omega arith, tt)

pub work_pays : (work : Work) (name : Name) (reply : Reply) (r more : ℕ) → more + bytes_told (bytes_in reply) ≤ r → Works work r more (work_step work name reply)
work_pays cat_reads name reply r more few = cat_got_pays (bytes_in reply) r more few
work_pays cat_writes name reply r more few = cat_wrote_pays (done_in reply) r more (omega (arith, few))
work_pays (head_reads lines wanted) name reply r more few = head_got_pays lines wanted (bytes_in reply) r more few
work_pays (head_writes lines wanted) name reply r more few = head_wrote_pays lines wanted (done_in reply) r more (omega (arith, few))
work_pays (wc_reads l w c inside) name reply r more few = wc_got_pays l w c inside name (bytes_in reply) r more
work_pays wc_writes name reply r more few = (omega arith, tt)
work_pays (grep_reads pattern kept) name reply r more few = grep_got_pays pattern kept (bytes_in reply) r more few
work_pays (grep_writes pattern rest) name reply r more few = let h = buffer_bytes pattern more rest in (omega (arith, few, h.0), h.1)
