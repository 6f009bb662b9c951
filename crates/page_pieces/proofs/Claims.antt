-- What a `Claim` and a triple own is taken apart and made, and the layout of the block that it stands for. Assumes `Logic`.
use Rattle.std.proofs.Common.{◌≡◌, ℕ, ◌*◌, ◌^◌, ◌<◌, List, [], ◌∷◌, ◌++◌, refl, ap, ◌∙◌, arith}
use seplogic.Ra.Ura.{Ura}
use mir.Syntax.{Ty, Args, a_type, dcons, dnil, w8, w64, ty_int, ty_array}
use mir.Val.{Val, vint, vptr, vstruct, vcons, vnil, of_list}
use mir.Raw.{raw as bare}
use prog.Memory.{size, align, capped}
use prog.Capped.{capped_is}
use prog.RawLaws.{size-raw, align-raw}
use types.Logic.{Logic}
use types.Kit.{Goal, Step, step, Seq, Item, ‵, ◌$◌, move, drop, fsplit, fjoin, fpick, fpack, feq_l, feq_i, flt_l}
use denote.RattleType.{RattleType, Valss}
use denote.Param.{param, bounded}
use denote.RawPtr.{Ptr, block_ptr, ptr_val}
use denote.Shadow.{pure_i}
use denote.Steps.{nothing}
use denote.Struct.Struct.{Struct, within}
use denote.Struct.Owning.{shape}
use Rattle.core.proofs.alloc.Calls.{Al, token}
use Rattle.bytes.proofs.Walks.{none, plainly}
use Rattle.page_pieces.specs.contracts.room.Claim as C

-- the type that a block of n bytes is for
abbrev pub row_ty : ℕ → Ty
row_ty n = bare (ty_array (ty_int w8) n)

pub row_size : (n : ℕ) → n < 2 ^ 64 → capped (size (row_ty n)) ≡ n
row_size n fits = let one : n * 1 ≡ n = omega arith in ap capped (size-raw (ty_array (ty_int w8) n)) ∙ ap capped one ∙ capped_is n fits

pub row_align : (n : ℕ) → capped (align (row_ty n)) ≡ 1
row_align n = ap capped (align-raw (ty_array (ty_int w8) n))

abbrev pub claim_val : Ptr → ℕ → Val
claim_val p n = vstruct (vcons (ptr_val p) (vcons (vint w64 n) (vcons none vnil)))

abbrev pub three : Val → Val → Val → Val
three u v w = vstruct (vcons u (vcons v (vcons w vnil)))

module _ {M : Type 1} {𝓤 : Ura M} {𝓛 : Logic 𝓤} {K : Type 0} {Γ : List (Item 𝓤)} {G : Goal 𝓤 𝓛.H} where
  -- a struct of three fields
  pub three_made : K → (R S T : RattleType) (x : R.Denot) (y : S.Denot) (z : T.Denot) (u v w : Val)
      → Step K 𝓛 (‵ ((plainly (R ∷ S ∷ T ∷ [])).own_val (x, (y, (z, tt))) (three u v w ∷ [])) ∷ Γ) G
      (‵ (R.own_val x (u ∷ [])) ∷ ‵ (S.own_val y (v ∷ [])) ∷ ‵ (T.own_val z (w ∷ [])) ∷ Γ) G
  three_made t R S T x y z u v w = step (λ s.
      nothing t $ move t (3 ∷ 0 ∷ []) $ fjoin t $ move t (2 ∷ 0 ∷ []) $ fjoin t $ move t (1 ∷ 0 ∷ []) $ fjoin t $
      feq_i t (List Val) (three u v w ∷ []) (three u v w ∷ []) refl $ fjoin t $
      fpack t (Valss (R ∷ S ∷ T ∷ [])) (within (record { name = []; args = []; types = []; fields = R ∷ S ∷ T ∷ [] }) (x, (y, (z, tt))) (three u v w ∷ [])) (u ∷ [], (v ∷ [], (w ∷ [], tt))) $ s)

module _ (Z : Al) where
  abbrev pub args : Args
  args = bounded (a_type ∷ []) (Z.row, tt) (dcons Z.d (dcons Z.drops dnil))

  abbrev pub P : RattleType
  P = param 0 Z.row

  abbrev pub Claimed : RattleType
  Claimed = C.the_row P Z.g

  abbrev pub made : Z.row.Denot → ℕ → ℕ → ℕ → Claimed.Denot
  made a b o n = record { ptr = block_ptr b o; len = n; by = record {}; alloc = a }

module _ (Z : Al) {M : Type 1} {𝓤 : Ura M} {𝓛 : Logic 𝓤} {K : Type 0} {Γ : List (Item 𝓤)} {G : Goal 𝓤 𝓛.H} where
  pub claim_had : K → (d : (Claimed Z).Denot) (vs : List Val)
      → (vs ≡ claim_val d.ptr d.len ∷ [] → d.len < 2 ^ 64 → Seq K 𝓛 (‵ (token Z d.alloc (row_ty d.len) d.ptr) ∷ Γ) G) → Seq K 𝓛 (‵ ((Claimed Z).own_val d vs) ∷ Γ) G
  claim_had t d vs k =
      fsplit t $ fpick t (λ vss. fsplit t $ feq_l t (λ all. fsplit t $ feq_l t (λ e₀. fsplit t $ fsplit t $
      feq_l t (λ e₁. flt_l t (λ fits. fsplit t $ fpick t (λ empty. fsplit t $ feq_l t (λ e₂. drop t $ drop t $
      k (all ∙ (λ i. vstruct (of_list (e₀ i ++ (e₁ i ++ (e₂ i ++ [])))) ∷ [])) fits)))))))

  pub claim_made : K → (a : Z.row.Denot) (b o n : ℕ) → n < 2 ^ 64
      → Step K 𝓛 (‵ ((Claimed Z).own_val (made Z a b o n) (claim_val (block_ptr b o) n ∷ [])) ∷ Γ) G (‵ (token Z a (row_ty n) (block_ptr b o)) ∷ Γ) G
  claim_made t a b o n fits = step (λ s.
      pure_i t ((Struct (shape (C.the_type (P Z) Z.g))).own_val (block_ptr b o, (n, (tt, tt))) (claim_val (block_ptr b o) n ∷ [])) (λ vss. (tt, (tt, ((tt, tt), ((λ uss. (tt, tt)), tt)))))
      ((vptr b o ∷ [], (vint w64 n ∷ [], (none ∷ [], tt))), (refl, (refl, ((refl, fits), ((tt, (refl, tt)), tt))))) $ fjoin t $ s)
