-- What a value keeps through what the host may do, and what usage a hint gives.
use Rattle.std.proofs.Common.{◌≡◌, ◌≢◌, ◌≤◌, ◌+◌, Bool, true, false, Some, nat_eq, if◌then◌else◌, refl, ap, sym, ◌∙◌, inl, inr, arith, subst}
use Rattle.cmm_types.specs.declared.page.Usage.TheVariants.{S, U, P, V}
use Rattle.cmm_types.specs.declared.page.Tag.{Tag}
use Rattle.essa_state.specs.PageValue.{PageValue, Contents, Bytes, Blank, Lost, StandsWith, MayBecome}
use Rattle.guest_pages.specs.declared.info.PageInfo.{PageInfo}
use Rattle.guest_pages.specs.PagesView.{free_info}
use Rattle.guest_rules.specs.Hint.{hint, can_be_fetched_again}
use Rattle.guest_rules.specs.Fit.{one_if_lost}

-- a free page is unused
pub hint-free : hint free_info ≡ U
unfolding hint
hint-free = refl

never_unused : (first second : Bool) → (if first then (if second then V else P) else S) ≡ U → ⊥
never_unused true true e = cc
never_unused true false e = cc
never_unused false second e = cc

-- a page with a tag isn't unused
pub hint-tagged : (info : PageInfo) (tag : Tag) → info.tag ≡ Some tag → hint info ≢ U
unfolding hint
hint-tagged info tag e h = never_unused (can_be_fetched_again info) (nat_eq info.writers 0) (rw e at h)

-- a page that isn't up to date is stable
pub hint-stale : (info : PageInfo) (tag : Tag) → info.tag ≡ Some tag → info.uptodate ≡ false → hint info ≡ S
unfolding hint
hint-stale info tag e stale = rw (e, stale) refl

-- a page that is dirty is stable
pub hint-dirty : (info : PageInfo) (tag : Tag) → info.tag ≡ Some tag → info.dirty ≡ true → hint info ≡ S
unfolding hint
hint-dirty info tag tagged dirty = grind arith

pub may-usage : (x y : PageValue) → MayBecome x y → y.usage ≡ x.usage
may-usage x y (inl e) = ap (λ (z : PageValue). z.usage) e
may-usage x y (inr (inl d)) = ap (λ (z : PageValue). z.usage) d.value
may-usage x y (inr (inr s)) = s.still_unused ∙ sym s.unused

pub may-unchanged : (x y : PageValue) → MayBecome x y → x.changed ≡ false → y.changed ≡ false
may-unchanged x y (inl e) same = ap (λ (z : PageValue). z.changed) e ∙ same
may-unchanged x y (inr (inl d)) same = ap (λ (z : PageValue). z.changed) d.value
may-unchanged x y (inr (inr s)) same = unless y.changed (λ e. sym (s.changed e) ∙ same)
  where
    unless : (b : Bool) → (b ≡ true → true ≡ false) → b ≡ false
    unless true f = f refl
    unless false f = refl

-- an unused page isn't lost
pub lost_of : (x : PageValue) → StandsWith x.contents U x.changed → one_if_lost x ≡ 0
lost_of x stands = of x.contents x.changed stands
  where
    of : (contents : Contents) (changed : Bool) → StandsWith contents U changed → one_if_lost (record { usage = U; changed = changed; contents = contents; count = 0 }) ≡ 0
    of (Bytes bytes) changed h = refl
    of Blank changed h = refl
    of Lost changed h = let bad : false ≡ true = h.0 in cc

-- a page that is lost from now on was counted
pub may-faults : (x y : PageValue) → MayBecome x y → x.count + one_if_lost y ≤ y.count + one_if_lost x
may-faults x y (inl e) = subst (λ z. x.count + one_if_lost z ≤ z.count + one_if_lost x) (sym e) (omega arith)
may-faults x y (inr (inl d)) = subst (λ z. x.count + one_if_lost z ≤ z.count + one_if_lost x) (sym d.value) (omega arith)
may-faults x y (inr (inr s)) = omega (arith, lost_at, s.count)
  where
    lost_at : one_if_lost y ≡ 0
    lost_at = grind arith
