-- A fork divides what its process has with the child; who takes a zombie away gets what that had.
use Rattle.std.proofs.Common.{◌≡◌, ◌≢◌, ◌⊎◌, inl, inr, ℕ, ◌+◌, ◌<◌, ◌≤◌, refl, sym, ap, ◌∙◌, subst, arith}
use Rattle.std.proofs.lemmas.Bool.{cases_eq}
use Rattle.user_calls.specs.declared.calls.Reply.TheVariants.{Child, Done}
use Rattle.process_model.specs.Seen.{Fds, Act, act_of, Seen, free, zombie, live, View}
use Rattle.process_model.specs.Shape.{same, is_used}
use Rattle.process_model.specs.Effect.{Forks, Reaps}
use Rattle.process_model.proofs.Counts.{same_self, same_other}
use Rattle.law_runs.specs.Seen.{TakesAway}
use Rattle.law_limits.proofs.behind.Sums.{put, put_here, put_there, total, total_one, where_any}
use Rattle.law_limits.proofs.behind.Fits.{ActFits}
use Rattle.law_limits.proofs.behind.Budget.{kid, kids, owed, none_owed, SlotFits, slot_is, Budget, InRange}

used_live : (s : Seen) (parent n : ℕ) (act : Act) (d : Fds) → s ≡ live parent act n d → 1 ≤ is_used s
used_live s parent n act d is = omega (arith, ap is_used is)

used_zombie : (s : Seen) (parent : ℕ) → s ≡ zombie parent → 1 ≤ is_used s
used_zombie s parent is = omega (arith, ap is_used is)

module _ (V W : View) (most : ℕ) (B : Budget V most) (within : InRange V) (after : InRange W) where
  -- ---- fork

  module _ (p parent n : ℕ) (act : Act) (d : Fds) (slot : V.slots p ≡ live parent act n d) (f : Forks V W p parent act d) where
    abbrev c : ℕ
    c = f.child

    apart : c ≢ p
    apart e = let z : free ≡ live parent act n d = sym f.was_free ∙ (ap V.slots e ∙ slot) in let w : ⊥ = cc in w

    here : (p ≢ 0) × (p < 64)
    here = within p (used_live (V.slots p) parent n act d slot)

    child_here : (c ≢ 0) × (c < 64)
    child_here = after c (used_live (W.slots c) p 0 (act_of act.next Child) d f.child_is)

    -- the child gets `share`, the parent keeps `rest`, and the child is to give `gives` back
    module _ (share rest gives : ℕ) (parts : rest + share ≡ B.w p) (some : 1 ≤ share) (stays : 1 ≤ rest) where
      abbrev half : ℕ → ℕ
      half = put B.w p rest

      abbrev w : ℕ → ℕ
      w = put half c share

      abbrev g : ℕ → ℕ
      g = put B.g c gives

      w_parent : w p ≡ rest
      w_parent = put_there half c share p (λ e. apart (sym e)) ∙ put_here B.w p rest

      w_other : (q : ℕ) → q ≢ p → q ≢ c → w q ≡ B.w q
      w_other q ne other = put_there half c share q other ∙ put_there B.w p rest q ne

      sum : total w 0 64 ≤ most
      sum =
          omega (
            arith,
            total_one B.w half p 0 64 (put_there B.w p rest) (omega arith) (omega (arith, here.1)),
            put_here B.w p rest,
            total_one half w c 0 64 (put_there half c share) (omega arith) (omega (arith, child_here.1)),
            put_here half c share,
            parts,
            B.sum,
          )

      kin : (r q : ℕ) → q ≢ c → kid r (W.slots q) ≡ kid r (V.slots q)
      kin r q other = by (cases_eq q p)
        where
          by : (q ≡ p) ⊎ (q ≢ p) → kid r (W.slots q) ≡ kid r (V.slots q)
          by (inl is) = ap (λ x. kid r (W.slots x)) is ∙ (ap (kid r) f.here ∙ sym (ap (λ x. kid r (V.slots x)) is ∙ ap (kid r) slot))
          by (inr ne) = ap (kid r) (f.others q ne other)

      new_kids : (r : ℕ) → kids W r ≡ kids V r + same r p
      new_kids r =
          omega (
            arith,
            total_one (λ x. kid r (V.slots x)) (λ x. kid r (W.slots x)) c 0 64 (kin r) (omega arith) (omega (arith, child_here.1)),
            ap (kid r) f.was_free,
            ap (kid r) f.child_is,
          )

      new_owed : (r : ℕ) → owed W g r ≡ owed V B.g r + where_any (same r p) gives
      new_owed r =
          omega (
            arith,
            total_one (λ x. where_any (kid r (V.slots x)) (B.g x)) (λ x. where_any (kid r (W.slots x)) (g x)) c 0 64
                (λ q other. ap (where_any (kid r (W.slots q))) (put_there B.g c gives q other) ∙ ap (λ x. where_any x (B.g q)) (kin r q other)) (omega arith) (omega (arith, child_here.1)),
            ap (λ s. where_any (kid r s) (B.g c)) f.was_free,
            ap (λ s. where_any (kid r s) (g c)) f.child_is,
            ap (where_any (same r p)) (put_here B.g c gives),
          )

      kids_other : (q : ℕ) → q ≢ p → kids W q ≡ kids V q
      kids_other q ne = omega (arith, new_kids q, same_other q p ne)

      owed_other : (q : ℕ) → q ≢ p → owed W g q ≡ owed V B.g q
      owed_other q ne = omega (arith, new_owed q, ap (λ x. where_any x gives) (same_other q p ne))

      pub fork_keeps : ActFits share gives (owed V B.g c) 0 d (act_of act.next Child) → ActFits rest (B.g p) (owed V B.g p + gives) (kids V p + 1) d (act_of act.next Done) → Budget W most
      fork_keeps child_fits parent_fits = record {
        w = w;
        g = g;
        sum = sum;
        init = omega (arith, w_other 0 (λ e. here.0 (sym e)) (λ e. child_here.0 (sym e)), B.init);
        fits = λ q high. by q high (cases_eq q c) (cases_eq q p);
      }
        where
          was : SlotFits p (B.w p) (B.g p) (owed V B.g p) (kids V p) (live parent act n d)
          was = subst (SlotFits p (B.w p) (B.g p) (owed V B.g p) (kids V p)) slot (B.fits p here.0)

          childless : kids V c ≡ 0
          childless = subst (SlotFits c (B.w c) (B.g c) (owed V B.g c) (kids V c)) f.was_free (B.fits c child_here.0)

          at_child : SlotFits c (w c) (g c) (owed W g c) (kids W c) (W.slots c)
          at_child =
              slot_is c share (w c) gives (g c) _ _ 0 _ (live p (act_of act.next Child) 0 d) (W.slots c) (put_here half c share) (put_here B.g c gives) (owed_other c apart) (kids_other c apart ∙ childless) f.child_is
              ((λ e. apart (sym e)), some, child_fits)

          at_parent : SlotFits p (w p) (g p) (owed W g p) (kids W p) (W.slots p)
          at_parent =
              slot_is p rest (w p) (B.g p) (g p) _ _ _ _ (live parent (act_of act.next Done) 0 d) (W.slots p) w_parent (put_there B.g c gives p (λ e. apart (sym e)))
              (new_owed p ∙ ap (λ x. owed V B.g p + where_any x gives) (same_self p)) (new_kids p ∙ ap (λ x. kids V p + x) (same_self p)) f.here
              (was.0, stays, parent_fits)

          by : (q : ℕ) → q ≢ 0 → (q ≡ c) ⊎ (q ≢ c) → (q ≡ p) ⊎ (q ≢ p) → SlotFits q (w q) (g q) (owed W g q) (kids W q) (W.slots q)
          by q high (inl is) own = subst (λ x. SlotFits x (w x) (g x) (owed W g x) (kids W x) (W.slots x)) (sym is) at_child
          by q high (inr other) (inl is) = subst (λ x. SlotFits x (w x) (g x) (owed W g x) (kids W x) (W.slots x)) (sym is) at_parent
          by q high (inr other) (inr ne) =
              slot_is q (B.w q) (w q) (B.g q) (g q) _ _ _ _ (V.slots q) (W.slots q) (w_other q ne other) (put_there B.g c gives q other) (owed_other q ne) (kids_other q ne) (f.others q ne other) (B.fits q high)

  -- ---- a zombie goes, the child of r, which gets what it had

  module _ (p c : ℕ) (apart : c ≢ p) (within_p : p < 64) (dead : V.slots c ≡ zombie p) (gone : W.slots c ≡ free) where
    at_c : (c ≢ 0) × (c < 64)
    at_c = within c (used_zombie (V.slots c) p dead)

    abbrev less : ℕ → ℕ
    less = put B.w c 0

    abbrev left : ℕ → ℕ
    left = put less p (B.w p + B.w c)

    zombie_fits : (p ≢ c) × (kids V c ≡ 0) × (1 ≤ B.w c) × (B.g c ≤ B.w c)
    zombie_fits = subst (SlotFits c (B.w c) (B.g c) (owed V B.g c) (kids V c)) dead (B.fits c at_c.0)

    left_here : left p ≡ B.w p + B.w c
    left_here = put_here less p (B.w p + B.w c)

    left_other : (q : ℕ) → q ≢ p → q ≢ c → left q ≡ B.w q
    left_other q ne other = put_there less p (B.w p + B.w c) q ne ∙ put_there B.w c 0 q other

    sum_left : total left 0 64 ≤ most
    sum_left =
        omega (
          arith,
          total_one B.w less c 0 64 (put_there B.w c 0) (omega arith) (omega (arith, at_c.1)),
          put_here B.w c 0,
          total_one less left p 0 64 (put_there less p (B.w p + B.w c)) (omega arith) (omega (arith, within_p)),
          left_here,
          put_there B.w c 0 p (λ e. apart (sym e)),
          B.sum,
        )

    module _ (kin : (r q : ℕ) → q ≢ c → kid r (W.slots q) ≡ kid r (V.slots q)) where
      fewer_kids : (r : ℕ) → kids W r + same r p ≡ kids V r
      fewer_kids r =
          omega (
            arith,
            total_one (λ x. kid r (V.slots x)) (λ x. kid r (W.slots x)) c 0 64 (kin r) (omega arith) (omega (arith, at_c.1)),
            ap (kid r) dead,
            ap (kid r) gone,
          )

      less_owed : (r : ℕ) → owed W B.g r + where_any (same r p) (B.g c) ≡ owed V B.g r
      less_owed r =
          omega (
            arith,
            total_one (λ x. where_any (kid r (V.slots x)) (B.g x)) (λ x. where_any (kid r (W.slots x)) (B.g x)) c 0 64 (λ q other. ap (λ x. where_any x (B.g q)) (kin r q other)) (omega arith) (omega (arith, at_c.1)),
            ap (λ s. where_any (kid r s) (B.g c)) dead,
            ap (λ s. where_any (kid r s) (B.g c)) gone,
          )

      kids_as_before : (q : ℕ) → q ≢ p → kids W q ≡ kids V q
      kids_as_before q ne = omega (arith, fewer_kids q, same_other q p ne)

      owed_as_before : (q : ℕ) → q ≢ p → owed W B.g q ≡ owed V B.g q
      owed_as_before q ne = omega (arith, less_owed q, ap (λ x. where_any x (B.g c)) (same_other q p ne))

      freed_fits : SlotFits c (left c) (B.g c) (owed W B.g c) (kids W c) (W.slots c)
      freed_fits = slot_is c (left c) (left c) (B.g c) (B.g c) _ _ 0 _ free (W.slots c) refl refl refl (kids_as_before c apart ∙ zombie_fits.1) gone refl

  -- wait
  module _ (p parent n : ℕ) (act : Act) (d : Fds) (slot : V.slots p ≡ live parent act n d) (f : Reaps V W p parent act d) where
    not_own : f.child ≢ p
    not_own e = let z : zombie p ≡ live parent act n d = sym f.was ∙ (ap V.slots e ∙ slot) in let w : ⊥ = cc in w

    at_p : (p ≢ 0) × (p < 64)
    at_p = within p (used_live (V.slots p) parent n act d slot)

    kin_still : (r q : ℕ) → q ≢ f.child → kid r (W.slots q) ≡ kid r (V.slots q)
    kin_still r q other = by (cases_eq q p)
      where
        by : (q ≡ p) ⊎ (q ≢ p) → kid r (W.slots q) ≡ kid r (V.slots q)
        by (inl is) = ap (λ x. kid r (W.slots x)) is ∙ (ap (kid r) f.here ∙ sym (ap (λ x. kid r (V.slots x)) is ∙ ap (kid r) slot))
        by (inr ne) = ap (kid r) (f.others q ne other)

    abbrev now : ℕ → ℕ
    now = left p f.child not_own at_p.1 f.was f.gone

    pub reap_keeps : ((w o k : ℕ) → B.w p + owed V B.g p ≤ w + o → k + 1 ≡ kids V p → (k ≡ 0 → o ≡ 0) → ActFits w (B.g p) o k d (act_of act.next Done)) → Budget W most
    reap_keeps then = record {
      w = now;
      g = B.g;
      sum = sum_left p f.child not_own at_p.1 f.was f.gone;
      init = omega (arith, left_other p f.child not_own at_p.1 f.was f.gone 0 (λ e. at_p.0 (sym e)) (λ e. (at_c p f.child not_own at_p.1 f.was f.gone).0 (sym e)), B.init);
      fits = λ q high. by q high (cases_eq q f.child) (cases_eq q p);
    }
      where
        dead : (p ≢ f.child) × (kids V f.child ≡ 0) × (1 ≤ B.w f.child) × (B.g f.child ≤ B.w f.child)
        dead = zombie_fits p f.child not_own at_p.1 f.was f.gone

        was : SlotFits p (B.w p) (B.g p) (owed V B.g p) (kids V p) (live parent act n d)
        was = subst (SlotFits p (B.w p) (B.g p) (owed V B.g p) (kids V p)) slot (B.fits p at_p.0)

        now_here : now p ≡ B.w p + B.w f.child
        now_here = left_here p f.child not_own at_p.1 f.was f.gone

        owed_now : owed W B.g p + B.g f.child ≡ owed V B.g p
        owed_now = omega (arith, less_owed p f.child not_own at_p.1 f.was f.gone kin_still p, ap (λ x. where_any x (B.g f.child)) (same_self p))

        kids_now : kids W p + 1 ≡ kids V p
        kids_now = omega (arith, fewer_kids p f.child not_own at_p.1 f.was f.gone kin_still p, same_self p)

        at_parent : SlotFits p (now p) (B.g p) (owed W B.g p) (kids W p) (live parent (act_of act.next Done) 0 d)
        at_parent = (was.0, omega (arith, now_here, was.1), then (now p) (owed W B.g p) (kids W p) (omega (arith, now_here, owed_now, dead.3)) kids_now (none_owed W B.g p))

        by : (q : ℕ) → q ≢ 0 → (q ≡ f.child) ⊎ (q ≢ f.child) → (q ≡ p) ⊎ (q ≢ p) → SlotFits q (now q) (B.g q) (owed W B.g q) (kids W q) (W.slots q)
        by q high (inl is) own = subst (λ x. SlotFits x (now x) (B.g x) (owed W B.g x) (kids W x) (W.slots x)) (sym is) (freed_fits p f.child not_own at_p.1 f.was f.gone kin_still)
        by q high (inr other) (inl is) =
            subst (λ x. SlotFits x (now x) (B.g x) (owed W B.g x) (kids W x) (W.slots x)) (sym is)
            (subst (SlotFits p (now p) (B.g p) (owed W B.g p) (kids W p)) (sym f.here) at_parent)
        by q high (inr other) (inr ne) =
            slot_is q (B.w q) (now q) (B.g q) (B.g q) _ _ _ _ (V.slots q) (W.slots q) (left_other p f.child not_own at_p.1 f.was f.gone q ne other) refl
            (owed_as_before p f.child not_own at_p.1 f.was f.gone kin_still q ne) (kids_as_before p f.child not_own at_p.1 f.was f.gone kin_still q ne) (f.others q ne other) (B.fits q high)

  -- and init's wait
  module _ (t : TakesAway V W) where
    up : (t.child ≢ 0) × (t.child < 64)
    up = within t.child (used_zombie (V.slots t.child) 0 t.was)

    abbrev taken : ℕ → ℕ
    taken = left 0 t.child up.0 (omega arith) t.was t.gone

    pub take_keeps : Budget W most
    take_keeps = record {
      w = taken;
      g = B.g;
      sum = sum_left 0 t.child up.0 (omega arith) t.was t.gone;
      init = omega (arith, left_here 0 t.child up.0 (omega arith) t.was t.gone, B.init);
      fits = λ q high. by q high (cases_eq q t.child);
    }
      where
        kin : (r q : ℕ) → q ≢ t.child → kid r (W.slots q) ≡ kid r (V.slots q)
        kin r q other = ap (kid r) (t.others q other)

        by : (q : ℕ) → q ≢ 0 → (q ≡ t.child) ⊎ (q ≢ t.child) → SlotFits q (taken q) (B.g q) (owed W B.g q) (kids W q) (W.slots q)
        by q high (inl is) = subst (λ x. SlotFits x (taken x) (B.g x) (owed W B.g x) (kids W x) (W.slots x)) (sym is) (freed_fits 0 t.child up.0 (omega arith) t.was t.gone kin)
        by q high (inr other) =
            slot_is q (B.w q) (taken q) (B.g q) (B.g q) _ _ _ _ (V.slots q) (W.slots q) (left_other 0 t.child up.0 (omega arith) t.was t.gone q high other) refl
            (owed_as_before 0 t.child up.0 (omega arith) t.was t.gone kin q high) (kids_as_before 0 t.child up.0 (omega arith) t.was t.gone kin q high) (t.others q other) (B.fits q high)
