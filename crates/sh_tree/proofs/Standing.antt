-- What has been read where the automaton stands: how many parentheses are open, which lexeme was the last, and the simple command.
use Rattle.std.proofs.Common.{◌≡◌, ◌≢◌, ℕ, zero, suc, ◌+◌, List, [], ◌∷◌, ◌++◌, length, Bool, true, false, Option, Some, None, option_and_then, refl, sym, ◌∙◌, ap, subst, arith, count_by, append_assoc, length-append, cond}
use Rattle.std.proofs.lemmas.List.{append-nil}
use Rattle.std.proofs.lemmas.List.Sums.{sum_by-append}
use Rattle.sh_tree.specs.declared.automaton.Place.{Place}
use Rattle.sh_tree.specs.declared.automaton.State.{State}
use Rattle.sh_tree.specs.declared.automaton.State.TheVariants.{Begin, Simple, Target, Closed, ClosedTarget, Backed}
use Rattle.sh_tree.specs.declared.tree.Mode.{Mode}
use Rattle.sh_tree.specs.Automaton.{after_command, one_more, step, run}
use Rattle.sh_tree.specs.Fault.{last_of, is_redirection_sign, may_begin_after, is_left, is_right, EndsInCommand}
use Rattle.sh_tree.specs.Grammar.{IsMode, reads, writes, writes_over, AreParts, parts_end, parts_word, parts_redir}
use Rattle.sh_tree.specs.Lexeme.{Lexeme, word, less, more, more_more, bar, amp, semi, left, right}

pub last_of-snoc : (ts : List Lexeme) (t : Lexeme) → last_of (ts ++ t ∷ []) ≡ Some t
last_of-snoc [] t = refl
last_of-snoc (u ∷ []) t = refl
last_of-snoc (u ∷ v ∷ ts) t = last_of-snoc (v ∷ ts) t

count-snoc : (p : Lexeme → Bool) (ts : List Lexeme) (t : Lexeme) → count_by p (ts ++ t ∷ []) ≡ count_by p ts + count_by p (t ∷ [])
count-snoc p ts t = sum_by-append (λ l. cond (p l) 1 0) ts (t ∷ [])

abbrev pub awaits_file : State → Bool
awaits_file (Target n) = true
awaits_file ClosedTarget = true
awaits_file s = false

abbrev pub is_begin : State → Bool
is_begin Begin = true
is_begin s = false

-- one more word or redirection
parts_more_word : {ts : List Lexeme} {ws : List (List ℕ)} {rs : List (Mode × List ℕ)} → AreParts ts [] ws rs → (w : List ℕ) → AreParts (ts ++ word w ∷ []) [] (ws ++ w ∷ []) rs
parts_more_word parts_end w = parts_word parts_end
parts_more_word (parts_word parts) w = parts_word (parts_more_word parts w)
parts_more_word (parts_redir mode parts) w = parts_redir mode (parts_more_word parts w)

parts_more_redir : {ts : List Lexeme} {ws : List (List ℕ)} {rs : List (Mode × List ℕ)} {k : Lexeme} {m : Mode} → AreParts ts [] ws rs → IsMode k m → (n : List ℕ) → AreParts (ts ++ k ∷ word n ∷ []) [] ws (rs ++ (m, n) ∷ [])
parts_more_redir parts_end mode n = parts_redir mode parts_end
parts_more_redir (parts_word parts) mode n = parts_word (parts_more_redir parts mode n)
parts_more_redir (parts_redir other parts) mode n = parts_redir other (parts_more_redir parts mode n)

-- the lexemes end in a simple command that may have n more words
pub record InCommand (n : ℕ) (before : List Lexeme) : Type 0 where
  pub ends : EndsInCommand before
  pub room : length ends.words + n ≡ 9

-- and after that comes the sign of a redirection
pub record InTarget (n : ℕ) (before : List Lexeme) : Type 0 where
  pub front : List Lexeme
  pub sign : Lexeme
  pub mode : Mode
  pub split : before ≡ front ++ sign ∷ []
  pub is_mode : IsMode sign mode
  pub command : InCommand n front

abbrev pub HasCommand : State → List Lexeme → Type 0
HasCommand (Simple n) before = (c : InCommand n before) × (c.ends.command ≢ [])
HasCommand (Target n) before = InTarget n before
HasCommand s before = Unit {0}

pub record Stands (d : ℕ) (s : State) (before : List Lexeme) : Type 0 where
  pub depth : count_by is_left before ≡ count_by is_right before + d
  pub sign : is_redirection_sign (last_of before) ≡ awaits_file s
  pub begins : may_begin_after (last_of before) ≡ is_begin s
  pub command : HasCommand s before

abbrev StandsIf : Option Place → List Lexeme → Type 0
StandsIf None before = Unit {0}
StandsIf (Some p) before = Stands p.depth p.state before

snoc_not_nil : (ts : List Lexeme) (t : Lexeme) → ts ++ t ∷ [] ≢ []
snoc_not_nil [] t h = cc
snoc_not_nil (u ∷ ts) t h = cc

-- a command that is about to begin
no_command : (before : List Lexeme) → may_begin_after (last_of before) ≡ true → InCommand 9 before
no_command before begins = record {
  ends = record { front = before; command = []; split = sym (append-nil before); begins = begins; words = []; redirections = []; parts = parts_end };
  room = refl;
}

-- one more word of it
more_word : (n : ℕ) (before : List Lexeme) (w : List ℕ) → InCommand (suc n) before → HasCommand (Simple n) (before ++ word w ∷ [])
more_word n before w c = (
  record {
    ends = record {
      front = c.ends.front;
      command = c.ends.command ++ word w ∷ [];
      split = ap (λ l. l ++ word w ∷ []) c.ends.split ∙ append_assoc c.ends.front c.ends.command (word w ∷ []);
      begins = c.ends.begins;
      words = c.ends.words ++ w ∷ [];
      redirections = c.ends.redirections;
      parts = parts_more_word c.ends.parts w;
    };
    room = simp length-append (omega (arith, c.room));
  },
  snoc_not_nil c.ends.command (word w),
)

-- the name of a redirection of it
more_name : (n : ℕ) (before : List Lexeme) (w : List ℕ) → InTarget n before → HasCommand (Simple n) (before ++ word w ∷ [])
more_name n before w t =
    let c = t.command.ends in (
      record {
        ends = record {
          front = c.front;
          command = c.command ++ t.sign ∷ word w ∷ [];
          split = ap (λ l. l ++ word w ∷ []) t.split ∙ append_assoc t.front (t.sign ∷ []) (word w ∷ []) ∙ ap (λ l. l ++ t.sign ∷ word w ∷ []) c.split ∙ append_assoc c.front c.command (t.sign ∷ word w ∷ []);
          begins = c.begins;
          words = c.words;
          redirections = c.redirections ++ (t.mode, w) ∷ [];
          parts = parts_more_redir c.parts t.is_mode w;
        };
        room = t.command.room;
      },
      λ h. two_not_nil c.command t.sign (word w) h,
    )
  where
    two_not_nil : (ts : List Lexeme) (t u : Lexeme) → ts ++ t ∷ u ∷ [] ≢ []
    two_not_nil [] t u h = cc
    two_not_nil (v ∷ ts) t u h = cc

to_target : (n : ℕ) (before : List Lexeme) {k : Lexeme} {m : Mode} → IsMode k m → InCommand n before → InTarget n (before ++ k ∷ [])
to_target n before {k = k} {m = m} mode c = record { front = before; sign = k; mode = m; split = refl; is_mode = mode; command = c }

-- the facts on the last lexeme, and the number of open parentheses
stands : (before : List Lexeme) (t : Lexeme) (d e : ℕ) (s : State) → count_by is_left before ≡ count_by is_right before + d → count_by is_left (t ∷ []) + d ≡ count_by is_right (t ∷ []) + e → is_redirection_sign (Some t) ≡ awaits_file s → may_begin_after (Some t) ≡ is_begin s → HasCommand s (before ++ t ∷ []) → Stands e s (before ++ t ∷ [])
stands before t d e s depth change sign begins command = record {
  depth = omega (arith, count-snoc is_left before t, count-snoc is_right before t);
  sign = ap is_redirection_sign (last_of-snoc before t) ∙ sign;
  begins = ap may_begin_after (last_of-snoc before t) ∙ begins;
  command = command;
}

stands_after : (d : ℕ) (before : List Lexeme) (t : Lexeme) → count_by is_left before ≡ count_by is_right before + d → StandsIf (after_command d t) (before ++ t ∷ [])
stands_after d before bar depth = stands before bar d d Begin depth refl refl refl tt
stands_after d before amp depth = stands before amp d d Backed depth refl refl refl tt
stands_after d before semi depth = stands before semi d d Begin depth refl refl refl tt
stands_after (suc d) before right depth = stands before right (suc d) d Closed depth (omega arith) refl refl tt
stands_after zero before right depth = tt
stands_after d before (word w) depth = tt
stands_after d before less depth = tt
stands_after d before more depth = tt
stands_after d before more_more depth = tt
stands_after d before left depth = tt

stands_word : (d n : ℕ) (before : List Lexeme) (w : List ℕ) → count_by is_left before ≡ count_by is_right before + d → InCommand n before → StandsIf (one_more d n) (before ++ word w ∷ [])
stands_word d zero before w depth c = tt
stands_word d (suc n) before w depth c = stands before (word w) d d (Simple n) depth refl refl refl (more_word n before w c)

-- one more lexeme
stands_step : (d : ℕ) (s : State) (before : List Lexeme) (t : Lexeme) → Stands d s before → StandsIf (step d s t) (before ++ t ∷ [])
stands_step d Begin before (word w) so = stands before (word w) d d (Simple 8) so.depth refl refl refl (more_word 8 before w (no_command before so.begins))
stands_step d Begin before less so = stands before less d d (Target 9) so.depth refl refl refl (to_target 9 before reads (no_command before so.begins))
stands_step d Begin before more so = stands before more d d (Target 9) so.depth refl refl refl (to_target 9 before writes (no_command before so.begins))
stands_step d Begin before more_more so = stands before more_more d d (Target 9) so.depth refl refl refl (to_target 9 before writes_over (no_command before so.begins))
stands_step d Begin before left so = stands before left d (suc d) Begin so.depth (omega arith) refl refl tt
stands_step d Begin before bar so = stands_after d before bar so.depth
stands_step d Begin before amp so = stands_after d before amp so.depth
stands_step d Begin before semi so = stands_after d before semi so.depth
stands_step d Begin before right so = stands_after d before right so.depth
stands_step d (Simple n) before (word w) so = stands_word d n before w so.depth so.command.0
stands_step d (Simple n) before less so = stands before less d d (Target n) so.depth refl refl refl (to_target n before reads so.command.0)
stands_step d (Simple n) before more so = stands before more d d (Target n) so.depth refl refl refl (to_target n before writes so.command.0)
stands_step d (Simple n) before more_more so = stands before more_more d d (Target n) so.depth refl refl refl (to_target n before writes_over so.command.0)
stands_step d (Simple n) before bar so = stands_after d before bar so.depth
stands_step d (Simple n) before amp so = stands_after d before amp so.depth
stands_step d (Simple n) before semi so = stands_after d before semi so.depth
stands_step d (Simple n) before left so = tt
stands_step d (Simple n) before right so = stands_after d before right so.depth
stands_step d (Target n) before (word w) so = stands before (word w) d d (Simple n) so.depth refl refl refl (more_name n before w so.command)
stands_step d (Target n) before t so = tt
stands_step d Closed before less so = stands before less d d ClosedTarget so.depth refl refl refl tt
stands_step d Closed before more so = stands before more d d ClosedTarget so.depth refl refl refl tt
stands_step d Closed before more_more so = stands before more_more d d ClosedTarget so.depth refl refl refl tt
stands_step d Closed before (word w) so = tt
stands_step d Closed before left so = tt
stands_step d Closed before bar so = stands_after d before bar so.depth
stands_step d Closed before amp so = stands_after d before amp so.depth
stands_step d Closed before semi so = stands_after d before semi so.depth
stands_step d Closed before right so = stands_after d before right so.depth
stands_step d ClosedTarget before (word w) so = stands before (word w) d d Closed so.depth refl refl refl tt
stands_step d ClosedTarget before t so = tt
stands_step d Backed before bar so = tt
stands_step d Backed before amp so = stands_after d before amp so.depth
stands_step d Backed before semi so = stands_after d before semi so.depth
stands_step d Backed before right so = stands_after d before right so.depth
stands_step d Backed before t so = tt

stands_run : (d : ℕ) (s : State) (before ts : List Lexeme) → Stands d s before → StandsIf (run d s ts) (before ++ ts)
stands_run d s before [] so = subst (Stands d s) (sym (append-nil before)) so
stands_run d s before (t ∷ ts) so =
    let whole : (before ++ t ∷ []) ++ ts ≡ before ++ t ∷ ts = append_assoc before (t ∷ []) ts in
    elim (step d s t) as (λ o. StandsIf o (before ++ t ∷ []) → StandsIf (option_and_then (λ p. run p.depth p.state ts) o) (before ++ t ∷ ts)) [
      | None ↦ λ none. tt
      | Some p ↦ λ some. subst (StandsIf (run p.depth p.state ts)) whole (stands_run p.depth p.state (before ++ t ∷ []) ts some)
    ] (stands_step d s before t so)

-- where the automaton stands after these lexemes
pub stands_at : (before : List Lexeme) (p : Place) → run 0 Begin before ≡ Some p → Stands p.depth p.state before
stands_at before p taken =
    subst (λ o. StandsIf o before) taken
    (stands_run 0 Begin [] before (record { depth = refl; sign = refl; begins = refl; command = tt }))
