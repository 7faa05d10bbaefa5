-- What is named and used again in a command is what is so in its parts, and what one part says of the other.
use Rattle.std.proofs.Common.{◌≡◌, ◌≢◌, Bool, true, false, ◌||◌, ◌&&◌, not, List, [], ◌∷◌, ◌++◌, cond, Some, Option, ℕ, ◌+◌, ◌<◌, length, take, get_or, append_assoc, refl, sym, ap, ap₂, subst, ◌∙◌}
use Rattle.std.specs.List.{filter}
use Rattle.std.specs.Str.{bytes_eq}
use Rattle.std.proofs.lemmas.Bool.{false≢true}
use Rattle.std.proofs.lemmas.List.{append-nil, take_more}
use Rattle.std.proofs.lemmas.Slice.Eq.{bytes_eq-Decides}
use Rattle.sh_tree.specs.declared.tree.Mode.{Mode}
use Rattle.sh_tree.specs.declared.tree.Mode.TheVariants.{Input, Fresh, Over}
use Rattle.sh_tree.specs.Tree.{Tree, redir, pipe, list}
use Rattle.mem_files.specs.Name.{Name, Bytes, is_openable}
use Rattle.mem_files.specs.Files.{FileMap}
use Rattle.prog_parts.specs.NameSets.{Names, no_names, among, both}
use Rattle.prog_parts.specs.Program.{is_empty}
use Rattle.conflict_check.specs.Names.{names, writes, uses_input}
use Rattle.script_load.specs.declared.profile.Profile.{Profile}
use Rattle.meaning_model.specs.Inputs.{found}
use Rattle.meaning_model.specs.Meaning.{meaning, opened, output_value, written_value}
use Rattle.meaning_model.specs.Settled.{with_name}
use Rattle.meaning_model.specs.Value.{is_cut, nothing}
use Rattle.plain_run.specs.Gives.{Gives}
use Rattle.plain_run.specs.Again.{TellsAgain, if_found, named_again, reuses_input}
use Rattle.plain_run.specs.Tells.{Tells, all_again, only_if, with_lost}
use Rattle.plain_run.proofs.Again.{again_outside}
use Rattle.plain_run.proofs.Verdicts.{among_two, among_lost}

pick : (t s p a : Bool) → (s ≡ true → p ≡ t) → cond t (s || (a && p)) (a && p) ≡ ((s || a) && p)
pick true true p a same = sym (same refl)
pick true false p a same = refl
pick false true true a same = absurd (false≢true (sym (same refl)))
pick false true false true same = refl
pick false true false false same = refl
pick false false p a same = refl

kept : (t : Bool) (w name : Name) (ws : List Name) → among (cond t (w ∷ ws) ws) name ≡ cond t (bytes_eq name w || among ws name) (among ws name)
kept true w name ws = refl
kept false w name ws = refl

-- the words that are among some names
pub among_filter : (those : Names) (words : List Name) (name : Name) → among (filter those words) name ≡ (among words name && those name)
among_filter those [] name = refl
among_filter those (w ∷ ws) name =
    kept (those w) w name (filter those ws)
    ∙ ap (λ a. cond (those w) (bytes_eq name w || a) a) (among_filter those ws name)
    ∙ pick (those w) (bytes_eq name w) (those name) (among ws name) (λ e. ap those ((bytes_eq-Decides name w).0 e))

-- one word more
first_kept : (t : Bool) (word : Name) → cond t (word ∷ []) [] ≡ only_if t word
first_kept true word = refl
first_kept false word = refl

later_kept : (t : Bool) (w : Name) (all ws end : List Name) → all ≡ ws ++ end → cond t (w ∷ all) all ≡ cond t (w ∷ ws) ws ++ end
later_kept true w all ws end is = ap (λ xs. w ∷ xs) is
later_kept false w all ws end is = is

filter_one : (those : Names) (words : List Name) (word : Name) → filter those (words ++ word ∷ []) ≡ filter those words ++ only_if (those word) word
filter_one those [] word = first_kept (those word) word
filter_one those (w ∷ ws) word = later_kept (those w) w (filter those (ws ++ word ∷ [])) (filter those ws) (only_if (those word) word) (filter_one those ws word)

pub filter_more : (those : Names) (old new before : List Name) (words : List Name) (i : ℕ) (d word : Name) (t : Bool) → i < length words → word ≡ get_or words i d → t ≡ those word → new ≡ old ++ only_if t word → old ≡ before ++ filter those (take i words) → new ≡ before ++ filter those (take (i + 1) words)
filter_more those old new before words i d word t inside here is e so_far =
    e ∙ ap₂ (λ a b. a ++ only_if b word) so_far is
    ∙ append_assoc before (filter those (take i words)) (only_if (those word) word)
    ∙ ap (λ xs. before ++ xs) (sym (filter_one those (take i words) word) ∙ ap (λ w. filter those (take i words ++ w ∷ [])) here ∙ ap (filter those) (sym (take_more words i d inside)))

or_false : (a : Bool) → (a || false) ≡ a
or_false true = refl
or_false false = refl

crossed : (a b p q : Bool) → (((a || b) || p) || q) ≡ ((a || p) || (b || q))
crossed true b p q = refl
crossed false true true q = refl
crossed false true false q = refl
crossed false false p q = refl

shared : (s c x : Bool) → ((s || c) && x) ≡ ((s && x) || (c && x))
shared true true x = twice x where
  twice : (x : Bool) → x ≡ (x || x)
  twice true = refl
  twice false = refl
shared true false x = sym (or_false x)
shared false c x = refl

last_or : (a b p r q : Bool) → (((a || b) || (p || r)) || q) ≡ (((a || p) || (b || q)) || r)
last_or true b p r q = refl
last_or false true true r q = refl
last_or false true false r q = refl
last_or false false true r q = refl
last_or false false false true true = refl
last_or false false false true false = refl
last_or false false false false q = sym (or_false q)

-- the names of the lists of two sides
all_among : (L R : Tree) (first soft second then : List Name) (name : Name) → among (all_again L first soft R second then) name ≡ (((among first name || among second name) || (among soft name && names R name)) || (among then name && names L name))
all_among L R first soft second then name =
    among_two ((first ++ second) ++ filter (names R) soft) (filter (names L) then) name
    ∙ ap₂ ◌||◌ (among_two (first ++ second) (filter (names R) soft) name ∙ ap₂ ◌||◌ (among_two first second name) (among_filter (names R) soft name)) (among_filter (names L) then name)

-- one side of a command, where the other one has these names
one_side : (profile : Profile) (T : Tree) (those : Names) (input : Bytes) (F : FileMap) (name : Name) → ((named_again profile T no_names input F name) || ((meaning profile T input F).soft name && those name)) ≡ named_again profile T (both those no_names) input F name
one_side profile T those input F name =
    ap (λ b. named_again profile T no_names input F name || ((meaning profile T input F).soft name && b)) (sym (or_false (those name)))
    ∙ sym (again_outside profile T (both those no_names) input F name)

module _ (profile : Profile) (L R : Tree) (input : Bytes) (F : FileMap) where
  list_named : (first soft second then : List Name) → (let V = meaning profile L input F in let W = meaning profile R V.rest V.files in
      ((name : Name) → among first name ≡ named_again profile L no_names input F name) → ((name : Name) → among soft name ≡ V.soft name)
      → ((name : Name) → among second name ≡ named_again profile R no_names V.rest V.files name) → ((name : Name) → among then name ≡ W.soft name)
      → (name : Name) → among (all_again L first soft R second then) name ≡ named_again profile (list L R) no_names input F name)
  list_named first soft second then one s other t name =
      let V = meaning profile L input F in
      let W = meaning profile R V.rest V.files in
      all_among L R first soft second then name
      ∙ crossed (among first name) (among second name) (among soft name && names R name) (among then name && names L name)
      ∙ ap₂ (λ a b. (a || (b && names R name)) || (among second name || (among then name && names L name))) (one name) (s name)
      ∙ ap₂ (λ a b. (named_again profile L no_names input F name || (V.soft name && names R name)) || (a || (b && names L name))) (other name) (t name)
      ∙ ap₂ ◌||◌ (one_side profile L (names R) input F name) (one_side profile R (names L) V.rest V.files name)

  pipe_named : (cut : Bool) (first soft second then : List Name) → (let V = meaning profile L input F in let W = meaning profile R V.out V.files in
      cut ≡ is_cut W
      → ((name : Name) → among first name ≡ named_again profile L no_names input F name) → ((name : Name) → among soft name ≡ V.soft name)
      → ((name : Name) → among second name ≡ named_again profile R no_names V.out V.files name) → ((name : Name) → among then name ≡ W.soft name)
      → (name : Name) → among (all_again L first (with_lost cut soft L) R second then) name ≡ named_again profile (pipe L R) no_names input F name)
  pipe_named cut first soft second then is one s other t name =
      let V = meaning profile L input F in
      let W = meaning profile R V.out V.files in
      all_among L R first (with_lost cut soft L) second then name
      ∙ ap (λ b. ((among first name || among second name) || (b && names R name)) || (among then name && names L name)) (among_lost cut soft L name)
      ∙ ap (λ b. ((among first name || among second name) || b) || (among then name && names L name)) (shared (among soft name) (cut && writes L name) (names R name))
      ∙ last_or (among first name) (among second name) (among soft name && names R name) ((cut && writes L name) && names R name) (among then name && names L name)
      ∙ ap₂ (λ a b. ((a || (b && names R name)) || (among second name || (among then name && names L name))) || ((cut && writes L name) && names R name)) (one name) (s name)
      ∙ ap₂ (λ a b. ((named_again profile L no_names input F name || (V.soft name && names R name)) || (a || (b && names L name))) || ((cut && writes L name) && names R name)) (other name) (t name)
      ∙ ap₂ ◌||◌ (ap₂ ◌||◌ (one_side profile L (names R) input F name) (one_side profile R (names L) V.out V.files name)) (ap₂ (λ c x. (c && writes L name) && x) is (sym (or_false (names R name))))

-- one command and then another
pub list_again : (profile : Profile) (L R : Tree) (input old mid rest : Bytes) (F F1 : FileMap) (one other r1 r2 r : Bool) (first soft second then all : List Name) → Gives (meaning profile L input F) old mid rest F1 → Tells (meaning profile L input F) one soft → TellsAgain profile L input F first r1 → Tells (meaning profile R rest F1) other then → TellsAgain profile R rest F1 second r2 → all ≡ all_again L first soft R second then → r ≡ ((r1 || r2) || (one && uses_input R)) → TellsAgain profile (list L R) input F all r
list_again profile L R input old mid rest F F1 one other r1 r2 r first soft second then all gives told left later right is e =
    let V = meaning profile L input F in
    let right' = subst (λ G. TellsAgain profile R V.rest G second r2) gives.files (subst (λ i. TellsAgain profile R i F1 second r2) gives.rest right) in
    let later' = subst (λ G. Tells (meaning profile R V.rest G) other then) gives.files (subst (λ i. Tells (meaning profile R i F1) other then) gives.rest later) in
    record {
      named = λ name. ap (λ ns. among ns name) is ∙ list_named profile L R input F first soft second then left.named told.soft right'.named later'.soft name;
      reused = e ∙ ap₂ (λ a b. (a || b) || (one && uses_input R)) left.reused right'.reused ∙ ap (λ b. (reuses_input profile L input F || reuses_input profile R V.rest V.files) || (b && uses_input R)) told.loose;
    }

-- a pipe
pub pipe_again : (profile : Profile) (L R : Tree) (input middle rest unread : Bytes) (F F1 : FileMap) (cut one other r1 r2 r : Bool) (first soft second then all : List Name) → Gives (meaning profile L input F) [] middle rest F1 → Tells (meaning profile L input F) one soft → TellsAgain profile L input F first r1 → unread ≡ (meaning profile R middle F1).rest → Tells (meaning profile R middle F1) other then → TellsAgain profile R middle F1 second r2 → cut ≡ (not (is_empty unread) || other) → all ≡ all_again L first (with_lost cut soft L) R second then → r ≡ (r1 || r2) → TellsAgain profile (pipe L R) input F all r
pipe_again profile L R input middle rest unread F F1 cut one other r1 r2 r first soft second then all gives told left left' later right c is e =
    let V = meaning profile L input F in
    let right' = subst (λ G. TellsAgain profile R V.out G second r2) gives.files (subst (λ i. TellsAgain profile R i F1 second r2) gives.out right) in
    let later' = subst (λ G. Tells (meaning profile R V.out G) other then) gives.files (subst (λ i. Tells (meaning profile R i F1) other then) gives.out later) in
    let end = subst (λ G. unread ≡ (meaning profile R V.out G).rest) gives.files (subst (λ i. unread ≡ (meaning profile R i F1).rest) gives.out left') in
    let cuts : cut ≡ is_cut (meaning profile R V.out V.files) = c ∙ ap₂ (λ b lo. not (is_empty b) || lo) end later'.loose in
    record {
      named = λ name. ap (λ ns. among ns name) is ∙ pipe_named profile L R input F cut first soft second then cuts left.named told.soft right'.named later'.soft name;
      reused = e ∙ ap₂ ◌||◌ left.reused right'.reused;
    }

-- a body beside the name of its redirection
body_named : (profile : Profile) (file : Name) (T : Tree) (input : Bytes) (F : FileMap) (first soft : List Name) → ((name : Name) → among first name ≡ named_again profile T no_names input F name) → ((name : Name) → among soft name ≡ (meaning profile T input F).soft name) → (name : Name) → among (first ++ filter (λ word. bytes_eq word file) soft) name ≡ named_again profile T (with_name file no_names) input F name
body_named profile file T input F first soft one s name =
    among_two first (filter (λ word. bytes_eq word file) soft) name
    ∙ ap₂ ◌||◌ (one name) (among_filter (λ word. bytes_eq word file) soft name ∙ ap₂ (λ a b. a && b) (s name) (sym (or_false (bytes_eq name file))))
    ∙ sym (again_outside profile T (with_name file no_names) input F name)

found_is : (o : Option Bytes) (bytes : Bytes) (p : Bytes → Bool) → o ≡ Some bytes → if_found o p ≡ p bytes
found_is o bytes p is = ap (λ q. if_found q p) is

-- a command under <
pub from_again : (profile : Profile) (file : Name) (T : Tree) (input bytes : Bytes) (F : FileMap) (loose r r' : Bool) (first soft all : List Name) → found F file ≡ Some bytes → Tells (meaning profile T bytes F) loose soft → TellsAgain profile T bytes F first r → all ≡ first ++ filter (λ word. bytes_eq word file) soft → r' ≡ r → TellsAgain profile (redir Input file T) input F all r'
from_again profile file T input bytes F loose r r' first soft all is told body a e = record {
  named = λ name. ap (λ ns. among ns name) a ∙ body_named profile file T bytes F first soft body.named told.soft name ∙ sym (found_is (found F file) bytes (λ b. named_again profile T (with_name file no_names) b F name) is);
  reused = e ∙ body.reused ∙ sym (found_is (found F file) bytes (λ b. reuses_input profile T b F) is);
}

and_true : (b x : Bool) → b ≡ true → x ≡ (b && x)
and_true true x is = refl
and_true false x is = absurd (false≢true is)

-- a command under > or >>
pub into_again : (profile : Profile) (mode : Mode) (file : Name) (T : Tree) (input : Bytes) (F F1 : FileMap) (loose r r' : Bool) (first soft all : List Name) → mode ≢ Input → is_openable file ≡ true → F1 ≡ opened mode file F → Tells (meaning profile T input F1) loose soft → TellsAgain profile T input F1 first r → all ≡ first ++ filter (λ word. bytes_eq word file) soft → r' ≡ r → TellsAgain profile (redir mode file T) input F all r'
into_again profile Input file T input F F1 loose r r' first soft all writes good is told body a e = absurd (writes (λ _. Input))
into_again profile Fresh file T input F F1 loose r r' first soft all writes good is told body a e =
    let told' = subst (λ G. Tells (meaning profile T input G) loose soft) is told in
    let body' = subst (λ G. TellsAgain profile T input G first r) is body in
    record {
      named = λ name. ap (λ ns. among ns name) a ∙ body_named profile file T input (opened Fresh file F) first soft body'.named told'.soft name ∙ and_true (is_openable file) (named_again profile T (with_name file no_names) input (opened Fresh file F) name) good;
      reused = e ∙ body'.reused ∙ and_true (is_openable file) (reuses_input profile T input (opened Fresh file F)) good;
    }
into_again profile Over file T input F F1 loose r r' first soft all writes good is told body a e =
    let told' = subst (λ G. Tells (meaning profile T input G) loose soft) is told in
    let body' = subst (λ G. TellsAgain profile T input G first r) is body in
    record {
      named = λ name. ap (λ ns. among ns name) a ∙ body_named profile file T input (opened Over file F) first soft body'.named told'.soft name ∙ and_true (is_openable file) (named_again profile T (with_name file no_names) input (opened Over file F) name) good;
      reused = e ∙ body'.reused ∙ and_true (is_openable file) (reuses_input profile T input (opened Over file F)) good;
    }

-- a redirection whose file can't be opened
pub unopened_again : (profile : Profile) (mode : Mode) (file : Name) (T : Tree) (input : Bytes) (F : FileMap) (again : List Name) (r : Bool) → mode ≢ Input → is_openable file ≡ false → again ≡ [] → r ≡ false → TellsAgain profile (redir mode file T) input F again r
unopened_again profile Input file T input F again r writes shut a e = absurd (writes (λ _. Input))
unopened_again profile Fresh file T input F again r writes shut a e = record {
  named = λ name. ap (λ ns. among ns name) a ∙ ap (λ b. b && named_again profile T (with_name file no_names) input (opened Fresh file F) name) (sym shut);
  reused = e ∙ ap (λ b. b && reuses_input profile T input (opened Fresh file F)) (sym shut);
}
unopened_again profile Over file T input F again r writes shut a e = record {
  named = λ name. ap (λ ns. among ns name) a ∙ ap (λ b. b && named_again profile T (with_name file no_names) input (opened Over file F) name) (sym shut);
  reused = e ∙ ap (λ b. b && reuses_input profile T input (opened Over file F)) (sym shut);
}

unopened_value : (profile : Profile) (mode : Mode) (file : Name) (T : Tree) (input : Bytes) (F : FileMap) → mode ≢ Input → is_openable file ≡ false → meaning profile (redir mode file T) input F ≡ nothing input F
unopened_value profile Input file T input F writes shut = absurd (writes (λ _. Input))
unopened_value profile Fresh file T input F writes shut = ap (λ b. output_value b input F (written_value profile Fresh file F (meaning profile T input (opened Fresh file F)))) shut
unopened_value profile Over file T input F writes shut = ap (λ b. output_value b input F (written_value profile Over file F (meaning profile T input (opened Over file F)))) shut

pub unopened_gives : (profile : Profile) (mode : Mode) (file : Name) (T : Tree) (input old rest : Bytes) (F G : FileMap) → mode ≢ Input → is_openable file ≡ false → rest ≡ input → G ≡ F → Gives (meaning profile (redir mode file T) input F) old old rest G
unopened_gives profile mode file T input old rest F G writes shut r f =
    subst (λ v. Gives v old old rest G) (sym (unopened_value profile mode file T input F writes shut)) (record { out = sym (append-nil old); rest = r; files = f })

pub unopened_tells : (profile : Profile) (mode : Mode) (file : Name) (T : Tree) (input : Bytes) (F : FileMap) (loose : Bool) (soft : List Name) → mode ≢ Input → is_openable file ≡ false → loose ≡ false → soft ≡ [] → Tells (meaning profile (redir mode file T) input F) loose soft
unopened_tells profile mode file T input F loose soft writes shut l s =
    subst (λ v. Tells v loose soft) (sym (unopened_value profile mode file T input F writes shut)) (record { loose = l; soft = λ name. ap (λ ns. among ns name) s })
