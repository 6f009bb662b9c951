-- `reserve` asks the allocator for a row of bytes, and keeps its room. Assumes `Logic`.
use Rattle.std.proofs.Common.{◌≡◌, ℕ, ◌^◌, ◌<◌, List, [], ◌∷◌, ◌++◌, true, false, refl, sym, subst, lit<}
use seplogic.Ra.Ura.{Ura}
use mir.Syntax.{Fn, Body, named, w64}
use mir.MapTy.{inst_fn}
use mir.Val.{Val, vptr, vint, vstruct, vcons, vnil, WT}
use base.Logic.{SProp, ent}
use base.Fml.{Lft, Share, ftrue, flft, Incl-trans}
use prog.Memory.{Memory}
use prog.Routine.{Routine}
use prog.Wp.{Wp, Env, Calls, Loops, WpFn, Tables, after_seq, at_return}
use contract.Monad.{Fun, fact}
use contract.BorrowLft.{◌⊑◌}
use contract.Running.{tables, tables_of}
use sound.WpLaws.{WpFn-mono, FmC, fm_of}
use types.Logic.{Logic}
use types.Kit.{Post as After, any_q, Item, ⋆, ‵, raw, ◌⊛◌, later, await, at_ret, ◌$◌, ◌∵◌, !, qed, by}
use types.Kit.{move, keep, use1, use2, split, join, fsplit, fsplit3, fjoin, feq_l, feq_i, flt_l, suffices, frame, done}
use types.Part.{whole, agg}
use types.Match.{live, vrt, in_variant}
use types.Run.{stop, fld, lit, of_opd, and_then, no_more, first, exec, returns, enter, switches_on}
use types.ByLocal.{alloc_all, pass_all, free_all, look_at, get, get_in, get_tag, sets, sets_last, lands_as, env}
use denote.Exit.{yes}
use denote.RattleType.{RattleType, owns}
use denote.Memory.{hidden_shr}
use denote.RawPtr.{Ptr, RawPtr, InBlock, block_ptr}
use denote.Ref.{Bor, ShrRef}
use denote.Builtin.{RefOf, usize}
use denote.Laws.{Is}
use denote.Signature.{plain}
use denote.Steps.{nothing, owned, heard}
use denote.Struct.Struct.{Struct, Struct-Makes}
use denote.Struct.Declared as Declared
use denote.Struct.Tuple.{Tuple}
use denote.Triple.Call.{calls_at}
use denote.Triple.Clauses.{Clauses, Ended, closing}
use denote.Triple.Entry.{on_entry}
use denote.Triple.Spec.{Meets, triple_of}
use denote.Triple.Statement.{Triple}
use denote.Triple.Table.{entered}
use denote.Triple.Walked.{says, Stays, stay_dropped, walk_of, ends_at, Goes-dropped, walk_Meets}
use Rattle.std.specs.Prelude.{IfOk, Ok, Err}
use Rattle.core.specs.contracts.result.Result as RS
use Rattle.core.specs.contracts.alloc.AllocError as AE
use Rattle.core.proofs.alloc.Calls.{Al, Answer-typed, takes_key, Takes, at_takes, Answered, Takes-goes, Takes-gives, answers}
use Rattle.std_alloc.proofs.VecSteps.Shapes.{after, head, arm_body}
use Rattle.std_alloc.proofs.ResultValues.{ok_of, err_of}
use Rattle.bytes.proofs.Walks.{none, none_made}
use Rattle.page_pieces.specs.contracts.room.Room as Room
use Rattle.page_pieces.proofs.Claims.{row_ty, row_size, row_align, claim_val, three, three_made, args, P, Claimed, made, claim_made}
use Rattle.page_pieces.specs.contracts.room.reserve as F
use Rattle.page_pieces.specs.contracts.room.reserve.Key.{name as #self}
use Rattle.page_pieces.proofs.room.reserve.Statement as stated
use Rattle.page_pieces.proofs.room.reserve.Code as code

module _ (Z : Al) where
  abbrev function : Fn
  function = inst_fn (args Z) code.function

  abbrev ended : Ended
  ended = F.ended Z.row Z.g Z.d Z.drops

  abbrev clauses : {M : Type 1} {𝓤 : Ura M} (𝓛 : Logic 𝓤) → (Memory → SProp 𝓤) → (Routine → Fun 𝓤) → Clauses 𝓤 ended
  clauses 𝓛 = F.clauses Z.row Z.g Z.d Z.drops 𝓛

  abbrev Triplet : RattleType
  Triplet = Tuple (RawPtr ∷ Room.the_row ∷ Claimed Z ∷ [])

  abbrev Out : RattleType
  Out = RS.the_row Triplet AE.the_row

  abbrev stayed : Stays ended.signature.params ended.kept
  stayed = (stay_dropped (RefOf (0 ∷ []) tt (plain (λ _. P Z)) (λ _. tt)) yes, (stay_dropped (plain (λ _. usize)) yes, tt))

module _ (Z : Al) {M : Type 1} {𝓤 : Ura M} (𝓛 : Logic 𝓤) (at_mem : Memory → SProp 𝓤) (run : Routine → Fun 𝓤) (C : Calls 𝓤 𝓛.H) (Λ : Loops 𝓤 𝓛.H)
    (fm : FmC 𝓤 𝓛.H 𝓛.laws C) (callee : Triple 𝓤 (C (takes_key Z)) (Takes Z 𝓛 at_mem run))
    (κ κ₁ : Lft) (q q₁ : Share) (short : κ ⊑ κ₁) (within : κ₁ ⊑ Z.row.lives) (rb ro : ℕ) (a : Z.row.Denot) (len : ℕ) (us0 us1 : List Val) where
  open 𝓛 use {H, A}

  abbrev self : Bor Z.row.Denot
  self = record { ref_ptr = (rb, ro); now = a }

  abbrev others : Item 𝓤
  others = ‵ (flft κ₁ q₁) ⊛ ‵ ftrue

  abbrev bound : (walk_of 𝓛 (ended Z) (stayed Z) (clauses Z 𝓛 at_mem run)).Ghost
  bound = (((κ, (κ₁, tt)), (q, (q₁, tt)), (short, tt), (self, (len, tt)), (us0, (us1, tt))), tt)

  abbrev Post : Val → SProp 𝓤
  Post = (walk_of 𝓛 (ended Z) (stayed Z) (clauses Z 𝓛 at_mem run)).post bound

  exits : (r : (Out Z).Denot) (v : Val) → IfOk r (λ made. InBlock made.0 × (made.1.ptr ≡ made.0) × (made.1.len ≡ len) × (made.2.ptr ≡ made.0) × (made.2.len ≡ len) × (made.2.alloc ≡ a))
      → ent 𝓤 (⋆ 𝓛 (‵ ((Out Z).own_val r (v ∷ [])) ∷ ‵ (flft κ q) ∷ others ∷ [])) (Post v)
  exits r v g =
      qed 𝓛 (‵ ((Out Z).own_val r (v ∷ [])) ∷ ‵ (flft κ q) ∷ others ∷ []) ∵
      suffices ! _ (ends_at 𝓛 (ended Z) (stayed Z) (clauses Z 𝓛 at_mem run) bound v r (tt, (tt, tt)) (tt, (tt, tt))) $ says ! g $
      move ! (1 ∷ 2 ∷ []) $ join ! $ frame ! $ nothing ! $ nothing ! $ fjoin ! $ nothing ! $ fjoin ! $ done !

  abbrev Had : List (Item 𝓤)
  Had = ‵ (hidden_shr (P Z) κ a rb ro) ∷ ‵ (flft κ q) ∷ others ∷ []

  walk : len < 2 ^ 64 → ent 𝓤 (⋆ 𝓛 Had) (WpFn 𝓤 H C Λ (function Z) (vptr rb ro ∷ vint w64 len ∷ []) Post)
  walk fits =
      qed 𝓛 Had ∵ enter ! C Λ (function Z) (vptr rb ro ∷ vint w64 len ∷ []) _ $ alloc_all ! (λ l. pass_all ! refl ((tt, tt), ((tt, record { fits = fits }), tt)) $
      let En : Env 𝓤 H = env (function Z).locals l in
      let both : Body = head (after 1 (function Z).body) in
      let Then : After 𝓤 H = any_q (after_seq 𝓤 H (Wp 𝓤 H C Λ En (after 2 (function Z).body) (at_return 𝓤 H En Post)) (at_return 𝓤 H En Post)) in
      let y : (Takes Z 𝓛 at_mem run).Ghost = at_takes Z 𝓛 at_mem run κ q (rb, ro) a len 1 (row_ty len) in
      use2 𝓛 (raw ((Takes Z 𝓛 at_mem run).pre y)) (Takes-goes Z 𝓛 at_mem run κ q (rb, ro) a (Incl-trans short within) len 1 (row_ty len) (row_size len fits) (row_align len) fits (lit< tt)) $
      calls_at ! fm (Takes Z 𝓛 at_mem run) callee y (and_then ! (get ! refl) (and_then ! (get ! refl) (and_then ! (lit ! tt) (no_more !)))) (λ v.
      use1 𝓛 (later (raw (Answered Z 𝓛 at_mem run a (row_ty len) v) ⊛ ‵ (flft κ q))) (Takes-gives Z 𝓛 at_mem run κ q (rb, ro) a len 1 (row_ty len) v) $ await ! tt $ split ! $
      answers Z ! at_mem run a (row_ty len) v
      (λ b o e.
      let p : Ptr = block_ptr b o in
      let room : (Room.the_row).Denot = record { ptr = p; len = len } in
      let mine : (Claimed Z).Denot = made Z a b o len in
      let claim : Val = claim_val p len in
      let all : Val = three (vptr b o) none claim in
      let words : WT claim = (tt, (record { fits = fits }, (tt, tt))) in
      let good : WT (live 0 (vcons all vnil)) = (record { fits = lit< tt }, ((tt, (tt, (words, tt))), tt)) in
      lands_as ! e refl (Answer-typed true b o) $ first ! $ switches_on ! (get_tag ! (vrt ! refl (fld ! refl (stop !))) (whole !)) $ exec ! C Λ En (arm_body 0 both) Then $
      sets ! (of_opd ! (get_in ! (vrt ! refl (fld ! refl (stop !))) (in_variant ! 0 0 refl refl (whole !)))) refl (tt, tt) $
      sets ! (agg ! (no_more !)) refl (tt, tt) $
      sets ! (agg ! (no_more !)) refl (tt, tt) $
      sets ! (agg ! (and_then ! (get ! refl) (and_then ! (get ! refl) (and_then ! (get ! refl) (no_more !))))) refl (tt, words) $
      sets ! (agg ! (and_then ! (get ! refl) (and_then ! (get ! refl) (and_then ! (get ! refl) (no_more !))))) refl (tt, (tt, (tt, (words, tt)))) $
      sets_last ! (agg ! (and_then ! (lit ! tt) (and_then ! (get ! refl) (no_more !)))) refl (tt, good) $
      exec ! C Λ En (after 2 (function Z).body) (at_ret En Post) $ sets ! (of_opd ! (get ! refl)) refl (tt, good) $
      move ! (1 ∷ []) $ claim_made Z ! a b o len fits $ move ! (1 ∷ []) $ none_made ! $ fjoin ! $ feq_i ! (List Val) (vptr b o ∷ []) (vptr b o ∷ []) refl $
      three_made ! RawPtr Room.the_row (Claimed Z) p room mine (vptr b o) none claim $
      use1 𝓛 (‵ ((Out Z).own_val (Ok (p, room, mine)) (live 0 (vcons all vnil) ∷ []))) (ok_of 𝓛 (Triplet Z) AE.the_row (p, room, mine) all) $
      returns ! (look_at ! 0 refl) $ free_all ! refl $ keep ! (0 ∷ 1 ∷ 2 ∷ []) $ by ! (exits (Ok (p, room, mine)) (live 0 (vcons all vnil)) (tt, refl, refl, refl, refl, refl)))
      (λ e.
      let Refusal : RattleType = Struct (Declared.shape AE.the_type) in
      let refused : Val = live 1 (vcons (vstruct vnil) vnil) in
      lands_as ! e refl (Answer-typed false 0 0) $ first ! $ switches_on ! (get_tag ! (vrt ! refl (fld ! refl (stop !))) (whole !)) $ exec ! C Λ En (arm_body 1 both) Then $
      sets ! (of_opd ! (get_in ! (vrt ! refl (fld ! refl (stop !))) (in_variant ! 1 0 refl refl (whole !)))) refl (tt, tt) $
      sets_last ! (agg ! (and_then ! (lit ! tt) (and_then ! (get ! refl) (no_more !)))) refl (tt, (record { fits = lit< tt }, (tt, tt))) $
      exec ! C Λ En (after 2 (function Z).body) (at_ret En Post) $ sets ! (of_opd ! (get ! refl)) refl (tt, (record { fits = lit< tt }, (tt, tt))) $
      owned ! Refusal (Is Refusal) (Struct-Makes 𝓛 (Declared.shape AE.the_type) tt) tt (vstruct vnil ∷ []) (tt, (refl, tt)) $
      use1 𝓛 (‵ ((Out Z).own_val (Err (record {})) (refused ∷ []))) (err_of 𝓛 (Triplet Z) AE.the_row (record {}) (vstruct vnil)) $
      returns ! (look_at ! 0 refl) $ free_all ! refl $ keep ! (0 ∷ 1 ∷ 2 ∷ []) $ by ! (exits (Err (record {})) refused tt))))

  entry : ent 𝓤 (on_entry 𝓛 (ended Z).signature (κ, (κ₁, tt)) (q, (q₁, tt)) (self, (len, tt)) (us0, (us1, tt))) (WpFn 𝓤 H C Λ (function Z) (us0 ++ (us1 ++ [])) Post)
  entry =
      qed 𝓛 ((‵ (flft κ q) ⊛ others) ∷ ‵ (owns (ShrRef (named 0) κ (P Z) ∷ usize ∷ []) (self, (len, tt)) (us0, (us1, tt))) ∷ []) ∵ split ! $ move ! (2 ∷ []) $ fsplit3 ! $ fsplit ! $ feq_l ! (λ e0.
      move ! (1 ∷ []) $ fsplit ! $ feq_l ! (λ e1. flt_l ! (λ fits. keep ! (0 ∷ 2 ∷ 3 ∷ []) $
      by ! (subst (λ (ws : List Val × List Val). ent 𝓤 (⋆ 𝓛 Had) (WpFn 𝓤 H C Λ (function Z) (ws.0 ++ (ws.1 ++ [])) Post)) (λ j. (sym e0 j, sym e1 j)) (walk fits)))))

meets : (Z : Al) {M : Type 1} {𝓤 : Ura M} (𝓛 : Logic 𝓤) (at_mem : Memory → SProp 𝓤) (run : Routine → Fun 𝓤) (𝓣 : Tables 𝓤 𝓛.H) → Triple 𝓤 (𝓣.C (takes_key Z)) (Takes Z 𝓛 at_mem run)
    → Meets 𝓛 (ended Z).signature (WpFn 𝓤 𝓛.H 𝓣.C 𝓣.Λ (function Z)) (closing 𝓛 (ended Z) (clauses Z 𝓛 at_mem run))
meets Z {𝓤 = 𝓤} 𝓛 at_mem run 𝓣 callee =
    walk_Meets 𝓛 (ended Z) (stayed Z) (Goes-dropped 𝓛 2 (RefOf (0 ∷ []) tt (plain (λ _. P Z)) (λ _. tt)) yes (λ κs x f. refl), (Goes-dropped 𝓛 2 (plain (λ _. usize)) yes (λ κs x f. refl), tt))
    (clauses Z 𝓛 at_mem run) (WpFn 𝓤 𝓛.H 𝓣.C 𝓣.Λ (function Z)) (WpFn-mono 𝓤 𝓛.H 𝓛.laws 𝓣 (function Z))
    (λ z. let κs = z.0.0 in let qs = z.0.1 in let a = z.0.3 in let vss = z.0.4 in
    let Goal = WpFn 𝓤 𝓛.H 𝓣.C 𝓣.Λ (function Z) (vss.0 ++ (vss.1.0 ++ [])) ((walk_of 𝓛 (ended Z) (stayed Z) (clauses Z 𝓛 at_mem run)).post z) in
    qed 𝓛 (raw (on_entry 𝓛 (ended Z).signature κs qs a vss) ∷ (raw (fact 𝓤 (κs.1.0 ⊑ Z.row.lives)) ⊛ raw (fact 𝓤 (a.1.0 < 2 ^ 63))) ∷ []) ∵
    move ! (1 ∷ []) $ split ! $ heard ! (κs.1.0 ⊑ Z.row.lives) (λ within. heard ! (a.1.0 < 2 ^ 63) (λ small.
    by ! (entry Z 𝓛 at_mem run 𝓣.C 𝓣.Λ (fm_of 𝓤 𝓛.H 𝓛.laws 𝓣) callee κs.0 κs.1.0 qs.0 qs.1.0 z.0.2.0 within a.0.ref_ptr.0 a.0.ref_ptr.1 a.0.now a.1.0 vss.0 vss.1.0))))

pub reserve_spec : {M : Type 1} → stated.statement M
unfolding tables_of
reserve_spec 𝓤 𝓛 𝓜 𝓡 wired W LW g d dd met md =
    let Z : Al = record { row = W; laws = LW; g = g; d = d; drops = dd } in
    let 𝓣 : Tables 𝓤 𝓛.H = tables_of 𝓤 𝓛.H 𝓜 (tables 𝓤 𝓛.H 𝓜 𝓡 𝓡.env) in
    entered 𝓤 𝓛.H (triple_of 𝓛 (ended Z).signature (F.spec W g d dd 𝓛 𝓜.mem 𝓡.returns)) 𝓣.C 𝓣.Λ (#self (args Z)) (function Z) (code.unfolded 𝓤 𝓛.H 𝓜 𝓡 wired (W, tt) d dd)
    (meets Z 𝓛 𝓜.mem 𝓡.returns 𝓣 (met.allocate dd))
