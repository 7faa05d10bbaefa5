-- What arguments and commands make of a command to which they are added.
use Rattle.std.proofs.Common.{◌≡◌, Bool, true, false, ◌&&◌, ◌||◌, not, length, ne_eqb, arith, List, [], ◌∷◌, ◌++◌, Result, Ok, Err, refl, sym, ◌∙◌, ap, subst}
use Rattle.std.specs.Prelude.{IfOk, map}
use Rattle.clap.specs.Adds.{AddsConflicts, AddsRequirements}
use Rattle.clap.specs.Built.{AddsArg, AddsInTurn, AddsSubcommand}
use Rattle.clap.specs.Simple.{App, Shape, app_of, new_app, with_rule, with_subcommand}
use Rattle.clap.specs.Walk.{Rule, Text, is_empty, rule_of}
use Rattle.clap.specs.declared.builder.arg.Arg.{Arg}
use Rattle.clap.specs.declared.builder.command.Command.{Command}
use Rattle.clap.specs.declared.builder.command.Command.TheViews.{out-Command}
use Rattle.xvsh_words.specs.Program.{IsCommand}

-- rules that are added in turn
abbrev pub with_rules : App → List Rule → App
with_rules app [] = app
with_rules app (rule ∷ rules) = with_rules (with_rule app rule) rules

-- none is an argument of subcommands too
abbrev pub AreLocal : List Arg → Type 0
AreLocal [] = Unit {0}
AreLocal (arg ∷ args) = (arg.global ≡ false) × AreLocal args

args_added : (args : List Arg) (old new : Command) → AddsInTurn AddsArg old args new → AreLocal args → (out-Command old).has_globals ≡ false → (app_of new ≡ with_rules (app_of old) (map rule_of args)) × ((out-Command new).has_globals ≡ false)
args_added [] old new same local none = (ap app_of (sym same), subst (λ c. (out-Command c).has_globals ≡ false) same none)
args_added (arg ∷ args) old new (mid, step, rest) local none =
    let globals : (out-Command mid).has_globals ≡ false = step.globals ∙ ap (λ b. b || arg.global) none ∙ local.0 in
    let later = args_added args mid new rest local.1 globals in
    (later.0 ∙ ap (λ app. with_rules app (map rule_of args)) (step.shape local.0), later.1)

pub command_made : {X : Type 0} (args : List Arg) (rules : List Rule) (name : Text) (start : Command) (result : Result Command X) → IfOk result (λ new. AddsInTurn AddsArg start args new) → AreLocal args → map rule_of args ≡ rules → app_of start ≡ new_app name → (out-Command start).has_globals ≡ false → IfOk result (IsCommand (with_rules (new_app name) rules).top)
command_made args rules name start (Err error) adds local same named none = tt
command_made args rules name start (Ok new) adds local same named none =
    let added = args_added args start new adds local none in
    (ap (λ app. app.top) (added.0 ∙ ap (λ app. with_rules app (map rule_of args)) named ∙ ap (with_rules (new_app name)) same), added.1)

some_last : {X : Type 0} (xs : List X) (x : X) → is_empty (xs ++ x ∷ []) ≡ false
some_last [] x = ne_eqb 1 0 (omega arith)
some_last (y ∷ xs) x = ne_eqb (length (y ∷ (xs ++ x ∷ []))) 0 (omega arith)

never : (exclusive conflicts later : Bool) → (not exclusive && (conflicts && (false && later))) ≡ false
never true conflicts later = refl
never false true later = refl
never false false later = refl

-- an argument that needs another has a rule on another
pub needing_rule : (old new : Arg) (needs : _) → AddsRequirements old new (needs ∷ []) → rule_of new ≡ record (rule_of old) { is_free = false }
needing_rule old new needs adds =
    let some : is_empty new.needs.items ≡ false = ap is_empty adds.1 ∙ some_last old.needs.items needs in
    ap rule_of adds.0
    ∙ ap (λ b. record (rule_of old) { is_free = not old.exclusive && (is_empty old.conflicts.items && (b && (is_empty old.r_ifs.items && (is_empty old.r_ifs_all.items && (is_empty old.r_unless.items && is_empty old.r_unless_all.items))))) }) some
    ∙ ap (λ b. record (rule_of old) { is_free = b }) (never old.exclusive (is_empty old.conflicts.items) (is_empty old.r_ifs.items && (is_empty old.r_ifs_all.items && (is_empty old.r_unless.items && is_empty old.r_unless_all.items))))

unfree : (exclusive later : Bool) → (not exclusive && (false && later)) ≡ false
unfree true later = refl
unfree false later = refl

-- an argument that can't be beside another has a rule on another
pub apart_rule : (old new : Arg) (other : _) → AddsConflicts old new (other ∷ []) → rule_of new ≡ record (rule_of old) { is_free = false }
apart_rule old new other adds =
    let some : is_empty new.conflicts.items ≡ false = ap is_empty adds.1 ∙ some_last old.conflicts.items other in
    let later = is_empty old.needs.items && (is_empty old.r_ifs.items && (is_empty old.r_ifs_all.items && (is_empty old.r_unless.items && is_empty old.r_unless_all.items))) in
    ap rule_of adds.0
    ∙ ap (λ b. record (rule_of old) { is_free = not old.exclusive && (b && later) }) some
    ∙ ap (λ b. record (rule_of old) { is_free = b }) (unfree old.exclusive later)

-- the same of what is returned
pub apart_last : {X : Type 0} (rule : Rule) (old : Arg) (other : _) (result : Result Arg X) → IfOk result (λ new. AddsConflicts old new (other ∷ [])) → rule_of old ≡ record rule { is_free = false } → old.global ≡ false → IfOk result (λ arg. (rule_of arg ≡ record rule { is_free = false }) × (arg.global ≡ false))
apart_last rule old other (Err error) adds is local = tt
apart_last rule old other (Ok new) adds is local =
    (apart_rule old new other adds ∙ ap {A = Rule} (λ r. record r { is_free = false }) is, ap {A = Arg} (λ a. a.global) adds.0 ∙ local)

pub added : (shape : Shape) (app : App) (old sub new : Command) → AddsSubcommand old sub new → IsCommand shape sub → app_of old ≡ app → app_of new ≡ with_subcommand app shape
added shape app old sub new adds is known =
    adds.shape is.1 ∙ ap (λ s. with_subcommand (app_of old) s) is.0 ∙ ap (λ a. with_subcommand a shape) known

pub added_last : {X : Type 0} (shape : Shape) (app : App) (old sub : Command) (result : Result Command X) → IfOk result (λ new. AddsSubcommand old sub new) → IsCommand shape sub → app_of old ≡ app → IfOk result (λ new. app_of new ≡ with_subcommand app shape)
added_last shape app old sub (Err error) adds is known = tt
added_last shape app old sub (Ok new) adds is known = added shape app old sub new adds is known
