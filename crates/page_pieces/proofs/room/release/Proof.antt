-- `release` hands the block back, with its room and the right to free it. Assumes `Logic`.
use Rattle.std.proofs.Common.{◌≡◌, ℕ, List, [], ◌∷◌, ◌++◌, refl, sym, ap, ◌∙◌, subst, lit<}
use lib.Dec.{T}
use seplogic.Ra.Ura.{Ura}
use mir.Syntax.{Fn, ty_unit}
use mir.MapTy.{inst_fn}
use mir.Val.{Val, vunit, vptr, has_ty, WT}
use base.Logic.{SProp, ent, id⊢, never}
use base.Fml.{ftrue, flft, Incl-trans}
use prog.Memory.{Memory}
use prog.Routine.{Routine}
use prog.Wp.{Env, WpFn, Tables}
use contract.BorrowLft.{◌⊑◌}
use contract.Monad.{Fun, fact}
use contract.Running.{tables, tables_of}
use sound.WpLaws.{fm_of, WpFn-mono}
use types.Logic.{Logic}
use types.Kit.{‵, raw, ◌⊛◌, later, given, at_ret, ◌$◌, ◌∵◌, !, qed, move, keep, use1, use3, learn, split, join, rewrite, fsplit, fsplit3, fjoin, feq_i, feq_l, suffices, await, done}
use types.Part.{whole, sub}
use types.Run.{stop, fld, lit, unit_lit, no_more, and_then, of_opd, first, blocks, exec, returns, enter}
use types.ByLocal.{alloc_all, pass_all, free_all, look_at, get, get_in, sets, lands_last, env}
use denote.Exit.{yes, no}
use denote.RattleType.{owns}
use denote.Builtin.{RefOf}
use denote.RawPtr.{Ptr, block_ptr, in_a_block}
use denote.Signature.{plain, types_at}
use denote.Steps.{heard, nothing}
use denote.Triple.Call.{calls_at_last}
use denote.Triple.Clauses.{Clauses, Ended, closing}
use denote.Triple.Spec.{Meets, triple_of}
use denote.Triple.Statement.{Triple}
use denote.Triple.Table.{entered}
use denote.Triple.Walked.{Stays, stay_dropped, walk_of, ends_at, Goes-dropped, walk_Meets}
use Rattle.std.proofs.alloc.Calls.{Goes-blank}
use Rattle.core.proofs.alloc.Calls.{Al, token, gives_key, Gives, at_gives, Gives-goes, Gives-Gives}
use Rattle.std_alloc.proofs.VecSteps.Shapes.{after}
use Rattle.bytes.proofs.Walks.{none, none_had}
use Rattle.page_pieces.specs.Ownership.{room_owns}
use Rattle.page_pieces.specs.contracts.room.Room as Room
use Rattle.page_pieces.proofs.Claims.{row_ty, row_size, row_align, claim_val, args, P, Claimed, claim_had}
use Rattle.page_pieces.specs.contracts.room.release as F
use Rattle.page_pieces.specs.contracts.room.release.Key.{name as #self}
use Rattle.page_pieces.proofs.room.release.Statement as stated
use Rattle.page_pieces.proofs.room.release.Code as code

module _ (Z : Al) where
  abbrev here : Fn
  here = inst_fn (args Z) code.function

  abbrev ended : Ended
  ended = F.ended Z.row Z.g Z.d Z.drops

  abbrev stayed : Stays ended.signature.params ended.kept
  stayed = (stay_dropped (RefOf (0 ∷ []) tt (plain (λ _. P Z)) (λ _. tt)) yes, (stay_dropped (plain (λ _. Room.the_row)) yes, (stay_dropped (plain (λ _. Claimed Z)) no, tt)))

  module _ {M : Type 1} {𝓤 : Ura M} (𝓛 : Logic 𝓤) (at_mem : Memory → SProp 𝓤) (run : Routine → Fun 𝓤) (𝓣 : Tables 𝓤 𝓛.H) (callee : Triple 𝓤 (𝓣.C (gives_key Z)) (Gives Z 𝓛 at_mem run)) where
    open 𝓛 use {H}

    abbrev held : Clauses 𝓤 ended
    held = F.clauses Z.row Z.g Z.d Z.drops 𝓛 at_mem run

    abbrev Bound : Type 0
    Bound = (walk_of 𝓛 ended stayed held).Ghost

    abbrev Goes : Bound → Type 1
    Goes y = ent 𝓤 ((walk_of 𝓛 ended stayed held).pre y) (WpFn 𝓤 H 𝓣.C 𝓣.Λ here ((walk_of 𝓛 ended stayed held).args y) ((walk_of 𝓛 ended stayed held).post y))

    walk : (z : Bound) → Goes z
    walk z =
        let κ = z.0.0.0 in let κ₁ = z.0.0.1.0 in let q = z.0.1.0 in let q₁ = z.0.1.1.0 in
        let hp : ℕ × ℕ = z.0.3.0.ref_ptr in let a : Z.row.Denot = z.0.3.0.now in let r = z.0.3.1.0 in let d : (Claimed Z).Denot = z.0.3.1.1.0 in let vss = z.0.4 in
        let Post : Val → SProp 𝓤 = (walk_of 𝓛 ended stayed held).post z in
        let Ok : Type 0 = (d.ptr ≡ r.ptr) × (d.len ≡ r.len) × (d.alloc ≡ a) in
        let n : ℕ = d.len in
        qed 𝓛 (((‵ (flft κ q) ⊛ ‵ (flft κ₁ q₁) ⊛ ‵ ftrue) ⊛ ‵ (owns (types_at ended.signature.params z.0.0) z.0.3 vss))
        ∷ (raw (fact 𝓤 (κ₁ ⊑ Z.row.lives)) ⊛ raw (fact 𝓤 Ok)) ∷ []) ∵
        move ! (1 ∷ []) $ split ! $ heard ! (κ₁ ⊑ Z.row.lives) (λ inZ. heard ! Ok (λ ok.
        split ! $ split ! $ move ! (2 ∷ []) $ fsplit3 ! $ fsplit ! $ feq_l ! (λ e₀. move ! (1 ∷ []) $ fsplit ! $ none_had ! vss.1.0 (λ e₁.
        rewrite ! 0 (λ k. ‵ (room_owns r.ptr k)) (sym ok.1) refl $ rewrite ! 0 (λ p. ‵ (room_owns p n)) (sym ok.0) refl $
        in_a_block ! d.ptr (λ p. room_owns p n) (id⊢ 𝓤 (never 𝓤)) (λ b o at_d.
        move ! (2 ∷ []) $ fsplit ! $ claim_had Z ! d vss.1.1.0 (λ e₂ fits.
        rewrite ! 0 (λ (p : Ptr). ‵ (token Z d.alloc (row_ty n) p)) at_d refl $ rewrite ! 0 (λ (c : Z.row.Denot). ‵ (token Z c (row_ty n) (block_ptr b o))) ok.2 refl $
        keep ! (2 ∷ 0 ∷ 3 ∷ 4 ∷ 5 ∷ []) $
        -- [the room; the right to free it; the handle; its token; the other tokens]
        let us : List Val = vptr hp.0 hp.1 ∷ none ∷ claim_val (block_ptr b o) n ∷ [] in
        let e₃ : vss.1.1.0 ≡ claim_val (block_ptr b o) n ∷ [] = e₂ ∙ ap (λ (p : Ptr). claim_val p n ∷ []) at_d in
        let Run : List Val → SProp 𝓤 = λ ws. WpFn 𝓤 H 𝓣.C 𝓣.Λ here ws Post in
        suffices ! (Run us) (subst (λ (ws : List Val). ent 𝓤 (Run us) (Run ws)) (sym (λ k. e₀ k ++ (e₁ k ++ (e₃ k ++ [])))) (id⊢ 𝓤 (Run us))) $
        enter ! 𝓣.C 𝓣.Λ here us Post $ alloc_all ! (λ l. pass_all ! refl ((tt, tt), ((tt, tt), ((tt, (tt, (record { fits = fits }, (tt, tt)))), tt))) $
        let En : Env 𝓤 H = env here.locals l in
        let y : (Gives Z 𝓛 at_mem run).Ghost = at_gives Z 𝓛 at_mem run κ q hp a b o n 1 (row_ty n) in
        sets ! (of_opd ! (get_in ! (fld ! refl (stop !)) (sub ! 0 refl (whole !)))) refl (tt, tt) $
        sets ! (of_opd ! (get_in ! (fld ! refl (stop !)) (sub ! 1 refl (whole !)))) refl (tt, record { fits = fits }) $ first ! $ blocks ! $
        move ! (2 ∷ 3 ∷ []) $ join ! $ move ! (1 ∷ 2 ∷ 0 ∷ []) $ use3 𝓛 (raw ((Gives Z 𝓛 at_mem run).pre y))
        (Gives-goes Z 𝓛 at_mem run κ q hp a (Incl-trans z.0.2.0 inZ) b o n 1 (row_ty n) (row_size n fits) (row_align n) fits (lit< tt)) $
        calls_at_last ! (fm_of 𝓤 H 𝓛.laws 𝓣) (Gives Z 𝓛 at_mem run) callee y (and_then ! (get ! refl) (and_then ! (get ! refl) (and_then ! (get ! refl) (and_then ! (lit ! tt) (no_more !))))) (λ v.
        use1 𝓛 (later (given (v ≡ vunit) (‵ (flft κ q)))) (Gives-Gives Z 𝓛 at_mem run κ q hp a b o n 1 (row_ty n) v) $ await ! tt $ learn ! (λ e.
        lands_last ! refl (subst (λ (u : Val). T (has_ty ty_unit u) × WT u) (sym e) (tt, tt)) $ exec ! 𝓣.C 𝓣.Λ En (after 3 here.body) (at_ret En Post) $
        sets ! (of_opd ! (unit_lit !)) refl (tt, tt) $ returns ! (look_at ! 0 refl) $ free_all ! refl $
        suffices ! _ (ends_at 𝓛 ended stayed held z vunit tt (tt, (tt, (tt, tt))) (tt, (tt, (tt, tt)))) $
        join ! $ feq_i ! (List Val) (vunit ∷ []) (vunit ∷ []) refl $ nothing ! $ nothing ! $ fjoin ! $ nothing ! $ fjoin ! $ nothing ! $ fjoin ! $ join ! $ move ! (1 ∷ 0 ∷ []) $ join ! $
        nothing ! $ keep ! (1 ∷ 0 ∷ []) $ done !)))))))))

    meets : Meets 𝓛 ended.signature (WpFn 𝓤 H 𝓣.C 𝓣.Λ here) (closing 𝓛 ended held)
    meets =
        walk_Meets 𝓛 ended stayed (
          Goes-dropped 𝓛 2 (RefOf (0 ∷ []) tt (plain (λ _. P Z)) (λ _. tt)) yes (λ κs x f. refl),
          (Goes-blank 𝓛 2 (plain (λ _. Room.the_row)) yes (λ κs x f. tt), (Goes-blank 𝓛 2 (plain (λ _. Claimed Z)) no (λ κs x f. tt), tt)),
        ) held
        (WpFn 𝓤 H 𝓣.C 𝓣.Λ here) (WpFn-mono 𝓤 H 𝓛.laws 𝓣 here) walk

pub release_spec : {M : Type 1} → stated.statement M
unfolding tables_of
release_spec 𝓤 𝓛 𝓜 𝓡 wired W LW g d dd met md =
    let Z : Al = record { row = W; laws = LW; g = g; d = d; drops = dd } in
    let 𝓣 : Tables 𝓤 𝓛.H = tables_of 𝓤 𝓛.H 𝓜 (tables 𝓤 𝓛.H 𝓜 𝓡 𝓡.env) in
    entered 𝓤 𝓛.H (triple_of 𝓛 (ended Z).signature (closing 𝓛 (ended Z) (held Z 𝓛 𝓜.mem 𝓡.returns 𝓣 (met.deallocate dd)))) 𝓣.C 𝓣.Λ
    (#self (args Z)) (here Z) (code.unfolded 𝓤 𝓛.H 𝓜 𝓡 wired (W, tt) d dd)
    (meets Z 𝓛 𝓜.mem 𝓡.returns 𝓣 (met.deallocate dd))
