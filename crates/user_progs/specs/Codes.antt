-- Codes for the states of programs, which distinguish them: `ghost coded` and `ghost code` need them.
use Rattle.std.specs.Prelude.{◌≡◌, ◌⊎◌, ℕ, zero, suc, Bool, List, refl}
use Rattle.std.proofs.Common.{inl, inr}
use Rattle.std.specs.Coded.{Coded, code_by, coded×, coded⊎, coded_list, coded_bool, coded_ℕ}
use base.Stored.{coded_unit}
use Rattle.mem_files.specs.Name.{Name, Bytes}
use Rattle.prog_parts.specs.declared.program.Program.{Program}
use Rattle.prog_parts.specs.declared.program.Program.TheVariants.{Cat, Echo, Grep, Head, Tee as Tee', Wc}
use Rattle.user_progs.specs.State.{Filter, copying, heading, counting, searching, Source, standard, file, Work, cat_reads, cat_writes, head_reads, head_writes, wc_reads, wc_writes, grep_reads, grep_writes, Tee, tee_opens, tee_reads, tee_writes, tee_gives, State, begins, echo_word, echo_space, opens, works, closes, tees, told, ended}

abbrev number_of_program : Program → ℕ
number_of_program Cat = 0
number_of_program Echo = 1
number_of_program Grep = 2
number_of_program Head = 3
number_of_program Tee' = 4
number_of_program Wc = 5

abbrev program_of_number : ℕ → Program
program_of_number zero = Cat
program_of_number (suc zero) = Echo
program_of_number (suc (suc zero)) = Grep
program_of_number (suc (suc (suc zero))) = Head
program_of_number (suc (suc (suc (suc zero)))) = Tee'
program_of_number (suc (suc (suc (suc (suc n))))) = Wc

pub program_of_its_number : (p : Program) → program_of_number (number_of_program p) ≡ p
program_of_its_number Cat = refl
program_of_its_number Echo = refl
program_of_its_number Grep = refl
program_of_its_number Head = refl
program_of_its_number Tee' = refl
program_of_its_number Wc = refl

abbrev program_code : Coded Program
program_code = code_by ℕ coded_ℕ number_of_program program_of_number program_of_its_number

abbrev names_code : Coded (List Name)
names_code = coded_list (coded_list coded_ℕ)

abbrev FilterParts : Type 0
FilterParts = Unit {0} ⊎ (ℕ ⊎ (Unit {0} ⊎ Bytes))

abbrev filter_parts : Filter → FilterParts
filter_parts copying = inl tt
filter_parts (heading n) = inr (inl n)
filter_parts counting = inr (inr (inl tt))
filter_parts (searching pattern) = inr (inr (inr pattern))

abbrev from_filter_parts : FilterParts → Filter
from_filter_parts (inl u) = copying
from_filter_parts (inr (inl n)) = heading n
from_filter_parts (inr (inr (inl u))) = counting
from_filter_parts (inr (inr (inr pattern))) = searching pattern

pub from_parts_of_filter : (f : Filter) → from_filter_parts (filter_parts f) ≡ f
from_parts_of_filter copying = refl
from_parts_of_filter (heading n) = refl
from_parts_of_filter counting = refl
from_parts_of_filter (searching pattern) = refl

abbrev filter_code : Coded Filter
filter_code = code_by FilterParts (coded⊎ coded_unit (coded⊎ coded_ℕ (coded⊎ coded_unit (coded_list coded_ℕ)))) filter_parts from_filter_parts from_parts_of_filter

abbrev SourceParts : Type 0
SourceParts = Unit {0} ⊎ (ℕ × (Name × List Name))

abbrev source_parts : Source → SourceParts
source_parts standard = inl tt
source_parts (file fd name later) = inr (fd, (name, later))

abbrev from_source_parts : SourceParts → Source
from_source_parts (inl u) = standard
from_source_parts (inr p) = file p.0 p.1.0 p.1.1

pub from_parts_of_source : (s : Source) → from_source_parts (source_parts s) ≡ s
from_parts_of_source standard = refl
from_parts_of_source (file fd name later) = refl

abbrev source_code : Coded Source
source_code = code_by SourceParts (coded⊎ coded_unit (coded× coded_ℕ (coded× (coded_list coded_ℕ) names_code))) source_parts from_source_parts from_parts_of_source

abbrev WorkParts : Type 0
WorkParts =
    Unit {0} ⊎ (Unit {0} ⊎ ((ℕ × ℕ) ⊎ ((ℕ × ℕ) ⊎ (((ℕ × ℕ) × (ℕ × Bool)) ⊎ (Unit {0} ⊎ ((Bytes × Bytes) ⊎ (Bytes × Bytes)))))))

abbrev work_parts : Work → WorkParts
work_parts cat_reads = inl tt
work_parts cat_writes = inr (inl tt)
work_parts (head_reads n k) = inr (inr (inl (n, k)))
work_parts (head_writes n k) = inr (inr (inr (inl (n, k))))
work_parts (wc_reads l w b i) = inr (inr (inr (inr (inl ((l, w), (b, i))))))
work_parts wc_writes = inr (inr (inr (inr (inr (inl tt)))))
work_parts (grep_reads p k) = inr (inr (inr (inr (inr (inr (inl (p, k)))))))
work_parts (grep_writes p k) = inr (inr (inr (inr (inr (inr (inr (p, k)))))))

abbrev from_work_parts : WorkParts → Work
from_work_parts (inl u) = cat_reads
from_work_parts (inr (inl u)) = cat_writes
from_work_parts (inr (inr (inl p))) = head_reads p.0 p.1
from_work_parts (inr (inr (inr (inl p)))) = head_writes p.0 p.1
from_work_parts (inr (inr (inr (inr (inl p))))) = wc_reads p.0.0 p.0.1 p.1.0 p.1.1
from_work_parts (inr (inr (inr (inr (inr (inl u)))))) = wc_writes
from_work_parts (inr (inr (inr (inr (inr (inr (inl p))))))) = grep_reads p.0 p.1
from_work_parts (inr (inr (inr (inr (inr (inr (inr p))))))) = grep_writes p.0 p.1

pub from_parts_of_work : (w : Work) → from_work_parts (work_parts w) ≡ w
from_parts_of_work cat_reads = refl
from_parts_of_work cat_writes = refl
from_parts_of_work (head_reads n k) = refl
from_parts_of_work (head_writes n k) = refl
from_parts_of_work (wc_reads l w b i) = refl
from_parts_of_work wc_writes = refl
from_parts_of_work (grep_reads p k) = refl
from_parts_of_work (grep_writes p k) = refl

abbrev work_code : Coded Work
work_code =
    code_by WorkParts
    (coded⊎ coded_unit (coded⊎ coded_unit (coded⊎ (coded× coded_ℕ coded_ℕ) (coded⊎ (coded× coded_ℕ coded_ℕ) (coded⊎ (coded× (coded× coded_ℕ coded_ℕ) (coded× coded_ℕ coded_bool)) (coded⊎ coded_unit (coded⊎ (coded× (coded_list coded_ℕ) (coded_list coded_ℕ)) (coded× (coded_list coded_ℕ) (coded_list coded_ℕ)))))))))
    work_parts from_work_parts from_parts_of_work

abbrev TeeParts : Type 0
TeeParts = (List ℕ × (Name × List Name)) ⊎ (List ℕ ⊎ ((List ℕ × Bytes) ⊎ (List ℕ × (ℕ × Bytes))))

abbrev tee_parts : Tee → TeeParts
tee_parts (tee_opens fds name later) = inl (fds, (name, later))
tee_parts (tee_reads fds) = inr (inl fds)
tee_parts (tee_writes fds bytes) = inr (inr (inl (fds, bytes)))
tee_parts (tee_gives fds at bytes) = inr (inr (inr (fds, (at, bytes))))

abbrev from_tee_parts : TeeParts → Tee
from_tee_parts (inl p) = tee_opens p.0 p.1.0 p.1.1
from_tee_parts (inr (inl fds)) = tee_reads fds
from_tee_parts (inr (inr (inl p))) = tee_writes p.0 p.1
from_tee_parts (inr (inr (inr p))) = tee_gives p.0 p.1.0 p.1.1

pub from_parts_of_tee : (t : Tee) → from_tee_parts (tee_parts t) ≡ t
from_parts_of_tee (tee_opens fds name later) = refl
from_parts_of_tee (tee_reads fds) = refl
from_parts_of_tee (tee_writes fds bytes) = refl
from_parts_of_tee (tee_gives fds at bytes) = refl

abbrev tee_code : Coded Tee
tee_code =
    code_by TeeParts
    (coded⊎ (coded× (coded_list coded_ℕ) (coded× (coded_list coded_ℕ) names_code)) (coded⊎ (coded_list coded_ℕ) (coded⊎ (coded× (coded_list coded_ℕ) (coded_list coded_ℕ)) (coded× (coded_list coded_ℕ) (coded× coded_ℕ (coded_list coded_ℕ))))))
    tee_parts from_tee_parts from_parts_of_tee

abbrev StateParts : Type 0
StateParts =
    (Program × List Bytes) ⊎ (List Bytes ⊎ (List Bytes ⊎ ((Filter × (Name × List Name)) ⊎ ((Work × Source) ⊎ ((Filter × List Name) ⊎ (Unit {0} ⊎ (Unit {0} ⊎ Tee)))))))

abbrev state_parts : State → StateParts
state_parts (begins p args) = inl (p, args)
state_parts (echo_word args) = inr (inl args)
state_parts (echo_space args) = inr (inr (inl args))
state_parts (opens f name later) = inr (inr (inr (inl (f, (name, later)))))
state_parts (works w s) = inr (inr (inr (inr (inl (w, s)))))
state_parts (closes f later) = inr (inr (inr (inr (inr (inl (f, later))))))
state_parts told = inr (inr (inr (inr (inr (inr (inl tt))))))
state_parts ended = inr (inr (inr (inr (inr (inr (inr (inl tt)))))))
state_parts (tees t) = inr (inr (inr (inr (inr (inr (inr (inr t)))))))

abbrev from_state_parts : StateParts → State
from_state_parts (inl p) = begins p.0 p.1
from_state_parts (inr (inl args)) = echo_word args
from_state_parts (inr (inr (inl args))) = echo_space args
from_state_parts (inr (inr (inr (inl p)))) = opens p.0 p.1.0 p.1.1
from_state_parts (inr (inr (inr (inr (inl p))))) = works p.0 p.1
from_state_parts (inr (inr (inr (inr (inr (inl p)))))) = closes p.0 p.1
from_state_parts (inr (inr (inr (inr (inr (inr (inl u))))))) = told
from_state_parts (inr (inr (inr (inr (inr (inr (inr (inl u)))))))) = ended
from_state_parts (inr (inr (inr (inr (inr (inr (inr (inr t)))))))) = tees t

pub from_parts_of_state : (s : State) → from_state_parts (state_parts s) ≡ s
from_parts_of_state (begins p args) = refl
from_parts_of_state (echo_word args) = refl
from_parts_of_state (echo_space args) = refl
from_parts_of_state (opens f name later) = refl
from_parts_of_state (works w s) = refl
from_parts_of_state (closes f later) = refl
from_parts_of_state told = refl
from_parts_of_state ended = refl
from_parts_of_state (tees t) = refl

abbrev pub state_code : Coded State
state_code =
    code_by StateParts
    (coded⊎ (coded× program_code names_code) (coded⊎ names_code (coded⊎ names_code (coded⊎ (coded× filter_code (coded× (coded_list coded_ℕ) names_code)) (coded⊎ (coded× work_code source_code) (coded⊎ (coded× filter_code names_code) (coded⊎ coded_unit (coded⊎ coded_unit tee_code))))))))
    state_parts from_state_parts from_parts_of_state
