-- At the start three entries have names, and the top shell is the one process in the tree.
use Rattle.std.proofs.Common.{◌≡◌, ℕ, zero, suc, List, ◌∷◌, Option, Some, None, refl, sym, ap, ◌∙◌, subst, arith}
use Rattle.std.specs.Prelude.{replicate}
use Rattle.mem_files.specs.Name.{Name, Bytes}
use Rattle.mem_files.specs.Files.{files}
use Rattle.script_load.specs.Line.{ScriptLine}
use Rattle.script_load.specs.declared.profile.Profile.{Profile}
use Rattle.meaning_model.specs.Meaning.{script_tree}
use Rattle.fd_table.specs.declared.names.Object.TheVariants.{Input, Out, Diag}
use Rattle.fd_table.specs.Entries.{Entries, OpenFile, entry_at, opened}
use Rattle.proc_table.specs.Slots.{at}
use Rattle.run_model.specs.ScriptRun.{script_kernel}
use Rattle.tree_model.specs.Runs.{first_stage}
use Rattle.sh_machine.specs.State.{User, shell, top}
use Rattle.process_model.specs.Seen.{input, out, diag, free, seen_slot, view}
use Rattle.process_model.specs.Shows.{IsNamed, first_name, first_names}
use Rattle.process_model.specs.Shape.{reads_lines, same, is_used}
use Rattle.process_model.specs.Standing.{Stands}
use Rattle.process_model.specs.Part.{calls_left}
use Rattle.process_model.proofs.Counts.{same_self, same_other}

abbrev first_entries : ℕ → Entries
first_entries n = Some (opened Input) ∷ Some (opened Out) ∷ Some (opened Diag) ∷ replicate n None

nothing_at : (n e : ℕ) (f : OpenFile) → entry_at (replicate n None) e ≡ Some f → ⊥
nothing_at zero e f is = let z : ⊥ = cc in z
nothing_at (suc n) zero f is = let z : ⊥ = cc in z
nothing_at (suc n) (suc e) f is = nothing_at n e f is

module _ (F : Name → Option Bytes) where
  first_named : (n e : ℕ) (f : OpenFile) → entry_at (first_entries n) e ≡ Some f → IsNamed first_names F 1 (first_name e) f.object f.offset
  first_named n zero f is = let z : opened Input ≡ f = cc in subst (λ (f : OpenFile). IsNamed first_names F 1 input f.object f.offset) z refl
  first_named n (suc zero) f is = let z : opened Out ≡ f = cc in subst (λ (f : OpenFile). IsNamed first_names F 1 out f.object f.offset) z refl
  first_named n (suc (suc zero)) f is = let z : opened Diag ≡ f = cc in subst (λ (f : OpenFile). IsNamed first_names F 1 diag f.object f.offset) z refl
  first_named n (suc (suc (suc e))) f is = absurd (nothing_at n e f is)

first_apart : (n e d : ℕ) (f h : OpenFile) → entry_at (first_entries n) e ≡ Some f → entry_at (first_entries n) d ≡ Some h → first_name e ≡ first_name d → e ≡ d
first_apart n zero zero f h is it same = refl
first_apart n zero (suc zero) f h is it same = absurd (let z : ⊥ = cc in z)
first_apart n zero (suc (suc d)) f h is it same = absurd (let z : ⊥ = cc in z)
first_apart n (suc zero) zero f h is it same = absurd (let z : ⊥ = cc in z)
first_apart n (suc zero) (suc zero) f h is it same = refl
first_apart n (suc zero) (suc (suc d)) f h is it same = absurd (let z : ⊥ = cc in z)
first_apart n (suc (suc e)) zero f h is it same = absurd (let z : ⊥ = cc in z)
first_apart n (suc (suc e)) (suc zero) f h is it same = absurd (let z : ⊥ = cc in z)
first_apart n (suc (suc zero)) (suc (suc zero)) f h is it same = refl
first_apart n (suc (suc (suc e))) (suc (suc d)) f h is it same = absurd (nothing_at n e f is)
first_apart n (suc (suc zero)) (suc (suc (suc d))) f h is it same = absurd (nothing_at n d h it)

none_seen : (n q : ℕ) → seen_slot first_name (at {S = User} (replicate n None) q) ≡ free
none_seen zero q = refl
none_seen (suc n) zero = refl
none_seen (suc n) (suc q) = none_seen n q

pub start_stands : (profile : Profile) (lines : List ScriptLine) (bytes : Bytes) (list : List (Name × Bytes)) → Stands profile (script_kernel profile lines bytes list) (first_stage (script_tree lines) bytes (files list))
start_stands profile lines bytes list = record {
  names = first_names;
  tree = reads_lines 1 lines;
  shows = record {
    named = first_named (files list) 97;
    apart = first_apart 97;
    holds = λ id p is. absurd (let z : ⊥ = cc in z);
  };
  shape = record {
    has = refl;
    all = used;
    once = λ k. omega arith;
    known = λ k l. absurd (omega (arith, l));
  };
  left = refl;
  files = refl;
  input = refl;
  out = refl;
}
  where
    used : (q : ℕ) → same q 1 ≡ is_used ((view first_names (script_kernel profile lines bytes list)).slots q)
    used zero = same_other 0 1 (λ e. absurd (omega (arith, e)))
    used (suc zero) = same_self 1
    used (suc (suc q)) = same_other (suc (suc q)) 1 (λ e. absurd (omega (arith, e))) ∙ sym (ap is_used (none_seen 62 q))

-- and its shell has nothing to do yet but what the machine does
pub start_calls : (profile : Profile) (lines : List ScriptLine) (bytes : Bytes) (list : List (Name × Bytes)) → calls_left (start_stands profile lines bytes list).tree ≡ 0
unfolding start_stands
start_calls profile lines bytes list = refl
