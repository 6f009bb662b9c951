-- The ghost steps of a block's pages. Assumes `Logic`.
use Rattle.std.proofs.Common.{◌≡◌, ℕ, zero, suc, ◌+◌, ◌-◌, ◌*◌, ◌<◌, [], ◌∷◌, refl, subst, arith}
use seplogic.Ra.Ura.{Ura}
use mir.Syntax.{w8, ty_int, ty_array}
use base.Fraction.{full_share}
use base.Logic.{SProp, ent, sep, never_e, fst∗, id⊢, upd_i}
use base.Fml.{Lft, Share, Fml, ftrue, fsep, fseps, fwand, fupd, flft, fdead, fbor, froom}
use types.Logic.{Logic, sem}
use types.Kit.{‵, ◌⊛◌, later, ◌$◌, ◌∵◌, !, qed, by, move, keep, drop, use0, use1, use2, split, split3, join, fsplit, fjoin, rewrite, assume, suffices, await, updating, now, done}
use types.Tokens.{bor_new, bor_open, obor_alter, lft_end, lent_back}
use denote.RawPtr.{Ptr, block_ptr, null_ptr, ◌+ₚ◌}
use denote.RawPtr.Room.{past_bytes, room_cut, room_glue}
use denote.Steps.{nothing}
use Rattle.cmm_types.specs.declared.page.TheConstants.{PAGE}
use Rattle.page_pieces.specs.Ownership.{room_owns, block_owns, page_owns, pages_owns}

module _ {M : Type 1} {𝓤 : Ura M} (𝓛 : Logic 𝓤) where
  open 𝓛 use {H}

  abbrev ⟦◌⟧ : Fml → SProp 𝓤
  ⟦ P ⟧ = sem 𝓛 P

  pub cut_room : (p : Ptr) (m n : ℕ) → ent 𝓤 ⟦ room_owns p (m + n) ⟧ (sep 𝓤 ⟦ room_owns p m ⟧ ⟦ room_owns (p +ₚ m) n ⟧)
  cut_room (block_ptr b o) m n =
      subst (λ (j : ℕ). ent 𝓤 ⟦ room_owns (block_ptr b o) (m + n) ⟧ (sep 𝓤 ⟦ room_owns (block_ptr b o) m ⟧ ⟦ froom (ty_array (ty_int w8) n) b j ⟧)) (past_bytes m o)
      (room_cut 𝓛 (ty_int w8) m n b o)
  cut_room null_ptr m n = never_e 𝓤 _

  pub glue_room : (p : Ptr) (m n : ℕ) → ent 𝓤 (sep 𝓤 ⟦ room_owns p m ⟧ ⟦ room_owns (p +ₚ m) n ⟧) ⟦ room_owns p (m + n) ⟧
  glue_room (block_ptr b o) m n =
      subst (λ (j : ℕ). ent 𝓤 (sep 𝓤 ⟦ room_owns (block_ptr b o) m ⟧ ⟦ froom (ty_array (ty_int w8) n) b j ⟧) ⟦ room_owns (block_ptr b o) (m + n) ⟧) (past_bytes m o)
      (room_glue 𝓛 (ty_int w8) m n b o)
  glue_room null_ptr m n = fst∗ 𝓤 ⟦ room_owns null_ptr m ⟧ ⟦ room_owns null_ptr n ⟧

  module _ (a : ℕ) where
    abbrev κ : Lft
    κ = a ∷ []

    -- a borrow of room for a page and more is that of the page and that of what is behind it
    first_page : (q : Share) (p : Ptr) (n : ℕ) → ent 𝓤 (sep 𝓤 ⟦ fbor κ (room_owns p (PAGE + n)) ⟧ ⟦ flft κ q ⟧)
        (H.⇛ (sep 𝓤 ⟦ page_owns a p ⟧ (sep 𝓤 ⟦ fbor κ (room_owns (p +ₚ PAGE) n) ⟧ ⟦ flft κ q ⟧)))
    unfolding fseps
    first_page q p n =
        let P : Fml = room_owns p PAGE in
        let Q : Fml = room_owns (p +ₚ PAGE) n in
        let Whole : Fml = room_owns p (PAGE + n) in
        qed 𝓛 (‵ (fbor κ Whole) ∷ ‵ (flft κ q) ∷ []) ∵ updating ! $ bor_open ! tt $ move ! (1 ∷ []) $
        use1 𝓛 (‵ P ⊛ ‵ Q) (cut_room p PAGE n) $ split ! $ nothing ! $ move ! (2 ∷ 0 ∷ []) $ fjoin ! $ move ! (1 ∷ 0 ∷ []) $ fjoin ! $
        use0 𝓛 (‵ (fwand (fsep (fdead κ) (fseps (P ∷ Q ∷ []))) (fupd Whole)))
        (qed 𝓛 [] ∵ assume ! (‵ (fdead κ) ⊛ ‵ P ⊛ ‵ Q ⊛ ‵ ftrue) $ split ! $ drop ! $ split3 ! $ join ! $ keep ! (0 ∷ []) $
        suffices ! _ (upd_i 𝓤 ⟦ Whole ⟧) $ by ! (glue_room p PAGE n)) $
        move ! (2 ∷ 1 ∷ 0 ∷ []) $ obor_alter ! tt (P ∷ Q ∷ []) $ use1 𝓛 (‵ (fbor κ P) ⊛ ‵ (fbor κ Q) ⊛ ‵ ftrue) (id⊢ 𝓤 _) $ split3 ! $ now ! $ keep ! (0 ∷ 1 ∷ 3 ∷ []) $ done !

    each_page : (q : Share) (n : ℕ) (p : Ptr) → ent 𝓤 (sep 𝓤 ⟦ fbor κ (room_owns p (n * PAGE)) ⟧ ⟦ flft κ q ⟧) (H.⇛ (sep 𝓤 ⟦ pages_owns a n p ⟧ ⟦ flft κ q ⟧))
    each_page q zero p = qed 𝓛 (‵ (fbor κ (room_owns p (0 * PAGE))) ∷ ‵ (flft κ q) ∷ []) ∵ updating ! $ now ! $ drop ! $ nothing ! $ done !
    each_page q (suc n) p =
        let one_more : suc n * PAGE ≡ PAGE + n * PAGE = omega arith in
        qed 𝓛 (‵ (fbor κ (room_owns p (suc n * PAGE))) ∷ ‵ (flft κ q) ∷ []) ∵ updating ! $ rewrite ! 0 (λ (k : ℕ). ‵ (fbor κ (room_owns p k))) one_more refl $
        use2 𝓛 (later (‵ (page_owns a p) ⊛ ‵ (fbor κ (room_owns (p +ₚ PAGE) (n * PAGE))) ⊛ ‵ (flft κ q))) (first_page q p (n * PAGE)) $ await ! tt $ split3 ! $ move ! (1 ∷ 2 ∷ []) $
        use2 𝓛 (later (‵ (pages_owns a n (p +ₚ PAGE)) ⊛ ‵ (flft κ q))) (each_page q n (p +ₚ PAGE)) $ await ! tt $ split ! $ move ! (2 ∷ 0 ∷ []) $ fjoin ! $ now ! $ done !

    -- all of a block's room is lent, as pages
    pub lend_pages : (p : Ptr) (n count : ℕ) → n ≡ count * PAGE → ent 𝓤 (sep 𝓤 ⟦ room_owns p n ⟧ ⟦ flft κ full_share ⟧) (H.⇛ (sep 𝓤 ⟦ block_owns a p n ⟧ ⟦ pages_owns a count p ⟧))
    lend_pages p n count whole =
        qed 𝓛 (‵ (room_owns p n) ∷ ‵ (flft κ full_share) ∷ []) ∵ updating ! $ bor_new ! tt κ $ rewrite ! 0 (λ (k : ℕ). ‵ (fbor κ (room_owns p k))) whole refl $ move ! (0 ∷ 2 ∷ []) $
        use2 𝓛 (later (‵ (pages_owns a count p) ⊛ ‵ (flft κ full_share))) (each_page full_share count p) $ await ! tt $ split ! $ move ! (1 ∷ 2 ∷ []) $ fjoin ! $ now ! $ done !

    -- and is back once the lifetime ends
    pub take_back : (p : Ptr) (n : ℕ) → ent 𝓤 ⟦ block_owns a p n ⟧ (H.⇛ ⟦ room_owns p n ⟧)
    take_back p n = qed 𝓛 (‵ (block_owns a p n) ∷ []) ∵ updating ! $ fsplit ! $ lft_end ! tt $ lent_back ! tt $ now ! $ done !

    pub part_pages : (n : ℕ) (p : Ptr) → 0 < n → ent 𝓤 ⟦ pages_owns a n p ⟧ (sep 𝓤 ⟦ page_owns a p ⟧ ⟦ pages_owns a (n - 1) (p +ₚ PAGE) ⟧)
    part_pages zero p some = absurd (omega arith)
    part_pages (suc n) p some =
        let fewer : n ≡ suc n - 1 = omega arith in
        qed 𝓛 (‵ (pages_owns a (suc n) p) ∷ []) ∵ fsplit ! $ move ! (1 ∷ []) $ rewrite ! 0 (λ (k : ℕ). ‵ (pages_owns a k (p +ₚ PAGE))) fewer refl $ move ! (1 ∷ 0 ∷ []) $ done !
