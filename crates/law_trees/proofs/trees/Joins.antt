-- How the values of parts keep the value of the whole.
use Rattle.std.proofs.Common.{◌≡◌, Bool, true, false, [], ◌++◌, refl, sym, ap, ◌∙◌, append_assoc}
use Rattle.std.specs.Prelude.{◌||◌, ◌&&◌, not}
use Rattle.std.proofs.lemmas.Bool.{or_from}
use Rattle.mem_files.specs.Name.{Name, Bytes}
use Rattle.prog_parts.specs.NameSets.{Names, both}
use Rattle.prog_parts.specs.Program.{is_empty}
use Rattle.meaning_model.specs.Met.{seq_met}
use Rattle.meaning_model.specs.Value.{Value, seq_value, from_value, is_cut}
use Rattle.tree_model.specs.Final.{piped_value, pipe_met}
use Rattle.law_trees.proofs.trees.Bools.{and_less, and_first, none3, all3, none4, all4}
use Rattle.law_trees.proofs.trees.Values.{Agree, Alike, Keeps}
use Rattle.meaning_model.proofs.Bools.{not_left, not_right}

pub keeps_refl : (v : Value) {m : Names} → ((n : Name) → m n ≡ false) → Keeps [] v v m
keeps_refl v b = record { out = refl; files = record { at = λ n h. refl }; rest = λ e. refl; loose = λ e. e; soft = λ n e. e; met = b }

-- what follows v, where the files differ in what is soft of v, and the input if v is loose
pub record Follow (v x y : Value) (mx my : Names) : Type 0 where
  pub out : x.out ≡ y.out
  pub files : Agree (λ n. v.soft n ≡ false) x.files y.files
  pub rest : v.loose ≡ false → x.rest ≡ y.rest
  pub loose : x.loose ≡ y.loose
  pub soft : x.soft ≡ y.soft
  pub met : mx ≡ my

pub keeps_seq : (ns : Names) (u : Bool) (w : Bytes) (v v' x x' : Value) (mv mx : Names) {mv' mx' : Names} → Keeps w v v' mv' → ((n : Name) → seq_met ns u v mv mx n ≡ false) → Follow v x x' mx mx' → Keeps w (seq_value v x) (seq_value v' x') (seq_met ns u v' mv' mx')
keeps_seq ns u w v v' x x' mv mx {mv' = mv'} {mx' = mx'} k b f = record {
  out = (λ t. k.out t ++ f.out t) ∙ append_assoc w v'.out x'.out;
  files = record { at = λ n e. f.files.at n (not_left (v.soft n) (x.soft n) e) };
  rest = λ e. f.rest (not_left v.loose x.loose e);
  loose = λ e. or_from v'.loose x'.loose (k.loose (not_left v.loose x.loose e)) (sym f.loose ∙ not_right v.loose x.loose e);
  soft = λ n e. or_from (v'.soft n) (x'.soft n) (k.soft n (not_left (v.soft n) (x.soft n) e)) (sym (ap (λ s. s n) f.soft) ∙ not_right (v.soft n) (x.soft n) e);
  met = λ n.
      let h = none4 (mv n) (mx n) (v.soft n && ns n) (v.loose && u) (b n) in
      all4 (mv' n) (mx' n) (v'.soft n && ns n) (v'.loose && u) (k.met n) (sym (ap (λ s. s n) f.met) ∙ h.two)
      (and_less (v.soft n) (v'.soft n) (ns n) (ns n) (k.soft n) (λ e. e) h.three)
      (and_less v.loose v'.loose u u k.loose (λ e. e) h.four);
}

-- a step of the left side
pub keeps_left : (ws ws' : Names) (us us' : Bool) (w : Bytes) (v v' x x' : Value) {mv' mx mx' : Names} → Keeps w v v' mv' → ((n : Name) → mx n ≡ false) → ((n : Name) → ws n ≡ false → ws' n ≡ false) → (us ≡ false → us' ≡ false) → Alike (λ n. v.soft n ≡ false) x x' mx mx' → Keeps [] (piped_value false ws us v x) (piped_value false ws' us' v' x') (both mv' mx')
keeps_left ws ws' us us' w v v' x x' {mv' = mv'} {mx' = mx'} k b less less_use a =
    let same_cut : is_cut x ≡ is_cut x' = λ t. not (is_empty (a.rest t)) || a.loose t in
    record {
      out = a.out;
      files = record { at = λ n e. a.files.at n ((none3 (v.soft n) (x.soft n) (is_cut x && ws n) e).one) };
      rest = λ e. k.rest (not_left v.loose (is_cut x && us) e);
      loose = λ e. or_from v'.loose (is_cut x' && us') (k.loose (not_left v.loose (is_cut x && us) e))
          (and_less (is_cut x) (is_cut x') us us' (λ h. sym same_cut ∙ h) less_use (not_right v.loose (is_cut x && us) e));
      soft = λ n e.
          let h = none3 (v.soft n) (x.soft n) (is_cut x && ws n) e in
          all3 (v'.soft n) (x'.soft n) (is_cut x' && ws' n) (k.soft n h.one) (sym (ap (λ s. s n) a.soft) ∙ h.two)
          (and_less (is_cut x) (is_cut x') (ws n) (ws' n) (λ g. sym same_cut ∙ g) (less n) h.three);
      met = λ n. or_from (mv' n) (mx' n) (k.met n) (sym (ap (λ s. s n) a.met) ∙ b n);
    }

-- a step of a left side that no process reads any more, with a lost write before or now
pub keeps_lost : (l : Bool) (ws ws' : Names) (us us' : Bool) (v v' x x' : Value) {mx mx' : Names} → ((n : Name) → mx n ≡ false) → ((n : Name) → ws n ≡ false → ws' n ≡ false) → (us ≡ false → us' ≡ false) → (l ≡ false → is_cut x ≡ true) → (us ≡ false → v.rest ≡ v'.rest) → x.out ≡ x'.out → Agree (λ n. ws n ≡ false) x.files x'.files → x.soft ≡ x'.soft → mx ≡ mx' → Keeps [] (piped_value l ws us v x) (piped_value true ws' us' v' x') mx'
keeps_lost true ws ws' us us' v v' x x' b less less_use cut rest out files soft met = record {
  out = out;
  files = record { at = λ n e. files.at n (not_right (x.soft n) (ws n) e) };
  rest = rest;
  loose = less_use;
  soft = λ n e. or_from (x'.soft n) (ws' n) (sym (ap (λ s. s n) soft) ∙ not_left (x.soft n) (ws n) e) (less n (not_right (x.soft n) (ws n) e));
  met = λ n. sym (ap (λ s. s n) met) ∙ b n;
}
keeps_lost false ws ws' us us' v v' x x' b less less_use cut rest out files soft met =
    let unread : (v.loose || (is_cut x && us)) ≡ false → us ≡ false =
    λ e. and_first (is_cut x) us (cut refl) (not_right v.loose (is_cut x && us) e) in
    let unwritten : (n : Name) → (v.soft n || x.soft n || (is_cut x && ws n)) ≡ false → ws n ≡ false =
    λ n e. and_first (is_cut x) (ws n) (cut refl) ((none3 (v.soft n) (x.soft n) (is_cut x && ws n) e).three) in
    record {
      out = out;
      files = record { at = λ n e. files.at n (unwritten n e) };
      rest = λ e. rest (unread e);
      loose = λ e. less_use (unread e);
      soft = λ n e. or_from (x'.soft n) (ws' n) (sym (ap (λ s. s n) soft) ∙ (none3 (v.soft n) (x.soft n) (is_cut x && ws n) e).two) (less n (unwritten n e));
      met = λ n. sym (ap (λ s. s n) met) ∙ b n;
    }

-- a step of the right side
pub less_cut : (x x' : Value) (w : Bytes) {m : Names} → Keeps w x x' m → is_cut x ≡ false → is_cut x' ≡ false
less_cut x x' w k e =
    let t = not_right (not (is_empty x.rest)) x.loose e in
    or_from (not (is_empty x'.rest)) x'.loose (ap (λ z. not (is_empty z)) (sym (k.rest t)) ∙ not_left (not (is_empty x.rest)) x.loose e) (k.loose t)

pub keeps_right : {N : Name → Type 0} (l : Bool) (ws : Names) (us : Bool) (w : Bytes) (v v' x x' : Value) (mv mx : Names) {mv' mx' : Names} → ((n : Name) → pipe_met l mv mx n ≡ false) → Alike N v v' mv mv' → Keeps w x x' mx' → Keeps w (piped_value l ws us v x) (piped_value l ws us v' x') (pipe_met l mv' mx')
keeps_right true ws us w v v' x x' mv mx b a k = record {
  out = k.out;
  files = record { at = λ n e. k.files.at n (not_left (x.soft n) (ws n) e) };
  rest = λ e. a.rest;
  loose = λ e. e;
  soft = λ n e. or_from (x'.soft n) (ws n) (k.soft n (not_left (x.soft n) (ws n) e)) (not_right (x.soft n) (ws n) e);
  met = k.met;
}
keeps_right false ws us w v v' x x' mv mx {mv' = mv'} {mx' = mx'} b a k = record {
  out = k.out;
  files = record { at = λ n e. k.files.at n ((none3 (v.soft n) (x.soft n) (is_cut x && ws n) e).two) };
  rest = λ e. a.rest;
  loose = λ e. or_from v'.loose (is_cut x' && us) (sym a.loose ∙ not_left v.loose (is_cut x && us) e)
      (and_less (is_cut x) (is_cut x') us us (less_cut x x' w k) (λ h. h) (not_right v.loose (is_cut x && us) e));
  soft = λ n e.
      let h = none3 (v.soft n) (x.soft n) (is_cut x && ws n) e in
      all3 (v'.soft n) (x'.soft n) (is_cut x' && ws n) (sym (ap (λ s. s n) a.soft) ∙ h.one) (k.soft n h.two)
      (and_less (is_cut x) (is_cut x') (ws n) (ws n) (less_cut x x' w k) (λ g. g) h.three);
  met = λ n. or_from (mv' n) (mx' n) (sym (ap (λ s. s n) a.met) ∙ not_left (mv n) (mx n) (b n)) (k.met n);
}

pub keeps_from : (i : Bytes) (w : Bytes) (v v' : Value) {m : Names} → Keeps w v v' m → Keeps w (from_value i v) (from_value i v') m
keeps_from i w v v' k = record { out = k.out; files = k.files; rest = λ h. refl; loose = λ h. refl; soft = k.soft; met = k.met }
