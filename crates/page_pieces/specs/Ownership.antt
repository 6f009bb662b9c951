-- What the owners of a block, of its room and of its pages own. A block's pages are borrowed for a lifetime a.
use Rattle.std.specs.Prelude.{ℕ, zero, suc, [], ◌∷◌}
use Rattle.std.specs.Borrow.{Fml}
use Rattle.core.specs.Allocator.{array_of}
use Rattle.cmm_types.specs.declared.page.TheConstants.{PAGE}
use base.Fraction.{full_share}
use base.Fml.{Share, ftrue, fsep, fex, fwand, flft, fbor, fobor, flent}
use mir.Syntax.{Ty}
use denote.RawPtr.{Ptr, room_for, ◌+ₚ◌}
use denote.Builtin.{u8}

-- n bytes at p, whatever they hold
abbrev pub room_owns : Ptr → ℕ → Fml
room_owns p n = room_for (array_of u8 n) p

-- the right, t's, to free the block of n bytes at p
abbrev pub claim_owns : (Ty → Ptr → Fml) → Ptr → ℕ → Fml
claim_owns t p n = t (array_of u8 n) p

-- a's token, and the room once a has ended
abbrev pub block_owns : ℕ → Ptr → ℕ → Fml
block_owns a p n = fsep (flft (a ∷ []) full_share) (flent (a ∷ []) (room_owns p n))

-- the borrow of the page at p
abbrev pub page_owns : ℕ → Ptr → Fml
page_owns a p = fbor (a ∷ []) (room_owns p PAGE)

-- the borrows of n pages from p on
abbrev pub pages_owns : ℕ → ℕ → Ptr → Fml
pages_owns a zero p = ftrue
pages_owns a (suc n) p = fsep (page_owns a p) (pages_owns a n (p +ₚ PAGE))

module _ (p : Ptr) (X : Type 0) (own : X → Fml) where
  -- w is the owner's lifetime and its share of that token, which keeps out a share of the token of a block's lifetime,
  -- which keeps out the page at p
  abbrev pub tether_held : X → ℕ × Share × ℕ × Share → Fml
  tether_held x w =
      fsep (fwand (flft (w.0 ∷ []) w.1) (own x))
      (fsep (fobor (w.0 ∷ []) w.1 (flft (w.2 ∷ []) w.3)) (fobor (w.2 ∷ []) w.3 (room_owns p PAGE)))

  -- what an owner x of the block has while its page is out
  abbrev pub tether_owns : Fml
  tether_owns = fex X (λ x. fex (ℕ × Share × ℕ × Share) (tether_held x))
