-- `lodge` at a call, over room in which nothing is written, and `dislodge`, which gives the room back. Assumes `Logic`.
use Rattle.std.proofs.Common.{◌≡◌, ℕ, ◌+◌, ◌-◌, ◌*◌, ◌^◌, ◌<◌, ◌≤◌, List, [], ◌∷◌, length, refl, sym, ap, ◌∙◌, arith, Vec}
use seplogic.Ra.Ura.{Ura}
use mir.Syntax.{w8, w64, ty_int, ty_array}
use mir.Val.{Val, vint, vptr}
use base.Fraction.{full_share}
use base.Logic.{SProp, ent, ex, guard, emp, never, never_e, id⊢}
use base.Fml.{ftrue, fsep, feq, flft, froom}
use prog.Memory.{Memory}
use prog.Routine.{Routine}
use contract.Monad.{Fun, fact, fact_i}
use contract.BorrowLft.{◌⊑◌, ⊑_refl}
use types.Logic.{Logic, sem}
use types.Kit.{‵, raw, ◌⊛◌, some, later, ◌$◌, ◌∵◌, !, qed, by, move, keep, use0, use1, use2, drop}
use types.Kit.{split, split3, join, pick, fsplit, fsplit3, fjoin, fjoin3, feq_l, feq_i, flt_l, flt_i, rewrite, check, show, await, updating, now, done}
use denote.Builtin.{u8, usize}
use denote.Exit.{no, left}
use denote.Param.{param}
use denote.Array.{Array}
use denote.RawPtr.{Ptr, block_ptr, null_ptr, lies_at, in_block, in_a_block, ◌+ₚ◌}
use denote.RawPtr.Bytes.{bytes, bytes_apart, bytes-room}
use denote.Steps.{nothing, heard, only}
use Rattle.std.specs.Allocator.{block_with_items}
use Rattle.std_alloc.specs.Vec.Ownership.{lodged, owns_if, has_block}
use Rattle.std_alloc.specs.contracts.vec.Vec as V
use Rattle.std_alloc.specs.contracts.vec.lodged.Lodged as L
use Rattle.std_alloc.specs.contracts.vec.lodged.LodgedAllocator.TheImpl.{ghosts}
use Rattle.std_alloc.specs.declared.vec.lodged.Lodged.{Lodged}
use Rattle.std_alloc.proofs.OfLodged.{lodging}
use Rattle.std_alloc.proofs.VecSteps.Opens.{is_live}
use Rattle.std_alloc.proofs.VecSteps.Rows.{empty}
use Rattle.bytes.proofs.Lodging.{byte_laws, Housed, Lodges, Dislodges, at_dislodge}
use Rattle.page_pieces.specs.Ownership.{room_owns}
use Rattle.page_pieces.proofs.Loans.{glue_room}

module _ {M : Type 1} {𝓤 : Ura M} (𝓛 : Logic 𝓤) (at_mem : Memory → SProp 𝓤) (run : Routine → Fun 𝓤) (b o c : ℕ) where
  open 𝓛 use {H}

  abbrev pub at_lodge : (Lodges 𝓛 at_mem run).Ghost
  at_lodge = ((([], tt), (full_share, tt), tt, (block_ptr b o, (0, (c, tt))), (vptr b o ∷ [], (vint w64 0 ∷ [], (vint w64 c ∷ [], tt)))), [])

  abbrev pub IsLodged : Vec ℕ Lodged → Type 0
  IsLodged r = (r.items ≡ []) × (r.len ≡ 0) × (r.cap ≡ c) × (r.ptr ≡ block_ptr b o)

  pub lodge_goes : 0 < c → c < 2 ^ 63 → ent 𝓤 (sem 𝓛 (room_owns (block_ptr b o) c)) ((Lodges 𝓛 at_mem run).pre at_lodge)
  lodge_goes some_room small =
      let p = block_ptr b o in
      let Asked : Type 0 = (0 ≡ length {A = ℕ} []) × (0 ≤ c) × (c < 2 ^ 63) in
      let here : o ≡ o + 0 * 1 = omega arith in let all : c ≡ c - 0 = omega arith in
      qed 𝓛 (‵ (room_owns p c) ∷ []) ∵
      rewrite ! 0 (λ j. ‵ (froom (ty_array (ty_int w8) c) b j)) here refl $
      rewrite ! 0 (λ k. ‵ (froom (ty_array (ty_int w8) k) b (o + 0 * 1))) all refl $ nothing ! $ move ! (1 ∷ 0 ∷ []) $
      use0 𝓛 (‵ (lies_at (Array u8 0) full_share p [])) (empty (lodging u8 byte_laws) 𝓛 [] b o refl) $ fjoin3 ! $
      rewrite ! 0 (λ y. ‵ (owns_if y (block_with_items (λ _ _. ftrue) u8 p 0 c []))) (sym (is_live c some_room)) refl $ flt_i ! (c * 1) (2 ^ 63) (omega arith) $ fjoin ! $
      use0 𝓛 (raw (fact 𝓤 Asked)) (fact_i 𝓤 Asked (emp 𝓤) (refl, omega arith, small)) $ join ! $
      use0 𝓛 (raw (fact 𝓤 ([] ⊑ []))) (fact_i 𝓤 ([] ⊑ []) (emp 𝓤) (⊑_refl [])) $ join ! $
      nothing ! $ flt_i ! c (2 ^ 64) (omega arith) $ feq_i ! (List Val) (vint w64 c ∷ []) (vint w64 c ∷ []) refl $ fjoin ! $ fjoin ! $
      flt_i ! 0 (2 ^ 64) (omega arith) $ feq_i ! (List Val) (vint w64 0 ∷ []) (vint w64 0 ∷ []) refl $ fjoin ! $ fjoin ! $
      feq_i ! (List Val) (vptr b o ∷ []) (vptr b o ∷ []) refl $ fjoin ! $ nothing ! $ use0 𝓛 (‵ (flft [] full_share)) (𝓛.lfts.lft-nil full_share) $ join ! $ join ! $ done !

  pub lodge_gives : (v : Val) → ent 𝓤 ((Lodges 𝓛 at_mem run).post at_lodge v) (H.⇛ (ex 𝓤 (λ (r : Vec ℕ Lodged). guard 𝓤 (IsLodged r) (sem 𝓛 (Housed.own_val r (v ∷ []))))))
  lodge_gives v =
      qed 𝓛 (raw ((Lodges 𝓛 at_mem run).post at_lodge v) ∷ []) ∵ updating ! $
      use1 𝓛 (later (some (λ (r : Vec ℕ Lodged). ((‵ (flft [] full_share) ⊛ ‵ ftrue) ⊛ ‵ (Housed.own_val r (v ∷ [])))
      ⊛ some (λ (ws : Unit {0} × (Unit {0} × (Unit {0} × Unit {0}))). ‵ (fsep ftrue (fsep ftrue (fsep ftrue ftrue))) ⊛ raw (fact 𝓤 (IsLodged r)))))) (id⊢ 𝓤 _) $ await ! tt $ pick ! (λ r.
      split ! $ move ! (1 ∷ []) $ pick ! (λ ws. split ! $ drop ! $ heard ! (IsLodged r) (λ is. split ! $ drop ! $ now ! $
      show ! (λ (z : Vec ℕ Lodged). guard 𝓤 (IsLodged z) (sem 𝓛 (Housed.own_val z (v ∷ [])))) r $ check ! is $ done !)))

module _ {M : Type 1} {𝓤 : Ura M} (𝓛 : Logic 𝓤) where
  -- bytes and the room behind them, whatever they hold
  all_room : (p : Ptr) (len cap : ℕ) (xs : List ℕ) → len ≤ cap → ent 𝓤 (sem 𝓛 (block_with_items (λ _ _. ftrue) u8 p len cap xs)) (sem 𝓛 (room_owns p cap))
  all_room (block_ptr b o) len cap xs fits =
      let whole : len + (cap - len) ≡ cap = omega arith in let behind : len * 1 ≡ len = omega arith in
      qed 𝓛 (‵ (block_with_items (λ _ _. ftrue) u8 (block_ptr b o) len cap xs) ∷ []) ∵ fsplit3 ! $
      use1 𝓛 (‵ (fsep (feq ℕ (length xs) len) (bytes full_share xs b o))) (bytes_apart 𝓛 full_share len xs b o) $ fsplit ! $ feq_l ! (λ long.
      use1 𝓛 (‵ (room_owns (block_ptr b o) (length xs))) (bytes-room 𝓛 xs b o) $ rewrite ! 0 (λ k. ‵ (room_owns (block_ptr b o) k)) long refl $
      rewrite ! 1 (λ k. ‵ (room_owns (block_ptr b o +ₚ k) (cap - len))) behind refl $ keep ! (0 ∷ 1 ∷ []) $
      use2 𝓛 (‵ (room_owns (block_ptr b o) (len + (cap - len)))) (glue_room 𝓛 (block_ptr b o) len (cap - len)) $
      rewrite ! 0 (λ k. ‵ (room_owns (block_ptr b o) k)) whole refl $ done !)
  all_room null_ptr len cap xs fits = qed 𝓛 (‵ (block_with_items (λ _ _. ftrue) u8 null_ptr len cap xs) ∷ []) ∵ fsplit ! $ keep ! (0 ∷ []) $ by ! (never_e 𝓤 _)

  module _ (at_mem : Memory → SProp 𝓤) (run : Routine → Fun 𝓤) (d : Vec ℕ Lodged) (u : Val) where
    open 𝓛 use {H}

    pub dislodge_gives : 0 < d.cap → (v : Val) → ent 𝓤 ((Dislodges 𝓛 at_mem run).post (at_dislodge 𝓛 at_mem run d u) v)
        (H.⇛ (guard 𝓤 ((v ≡ vint w64 d.len) × (d.len < 2 ^ 64)) (sem 𝓛 (room_owns d.ptr d.cap))))
    dislodge_gives roomy v =
        let Blk = λ (p : Ptr). block_with_items (λ _ _. ftrue) u8 p d.len d.cap d.items in
        qed 𝓛 (raw ((Dislodges 𝓛 at_mem run).post (at_dislodge 𝓛 at_mem run d u) v) ∷ []) ∵ updating ! $
        use1 𝓛 (later (some (λ (r : ℕ). ((‵ (flft [] full_share) ⊛ ‵ ftrue) ⊛ ‵ (usize.own_val r (v ∷ [])))
        ⊛ some (λ (ws : Unit {0} × Unit {0}). ‵ (fsep (left ((V.the_row (param 0 u8) L.the_row ghosts).exit no) d ws.0) ftrue) ⊛ raw (fact 𝓤 (r ≡ d.len))
        ⊛ ‵ (lodged u8 d.ptr d.len d.cap d.items))))) (id⊢ 𝓤 _) $ await ! tt $ pick ! (λ r.
        split ! $ move ! (1 ∷ []) $ pick ! (λ ws. split3 ! $ drop ! $ heard ! (r ≡ d.len) (λ is. move ! (1 ∷ []) $ split ! $ drop ! $ fsplit ! $ feq_l ! (λ e. flt_l ! (λ f. now ! $
        check ! (ap only e ∙ ap (vint w64) is, omega arith) $ fsplit ! $ drop ! $
        in_a_block ! d.ptr (λ p. in_block p (owns_if (has_block d.cap) (Blk p))) (id⊢ 𝓤 (never 𝓤)) (λ b o at.
        rewrite ! 0 (λ y. ‵ (owns_if y (Blk (block_ptr b o)))) (is_live d.cap roomy) refl $ rewrite ! 0 (λ p. ‵ (Blk p)) (sym at) refl $ keep ! (0 ∷ []) $
        by ! (all_room d.ptr d.len d.cap d.items d.ok.1)))))))
