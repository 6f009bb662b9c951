-- How the release of a claimed page shows what a reclaim answers.
use Rattle.std.specs.Prelude.{◌≡◌, ℕ, [], ◌∷◌, ◌++◌, Bool, true, false, Option, None, refl, is_ok, if◌then◌else◌}
use Rattle.std.proofs.Common.{ap, sym, ◌∙◌, append_assoc}
use Rattle.cmm_types.specs.declared.page.Move.{Move}
use Rattle.cmm_types.specs.declared.page.Move.TheVariants.{Discard, Preserve}
use Rattle.essa_state.specs.declared.fields.Fields.{Fields}
use Rattle.essa_state.specs.Moves.{discard_answer, reclaiming}
use Rattle.essa_state.specs.PageBody.{Body}
use Rattle.state_words.specs.SeatView.{Tried, Moved, SeatView}
use Rattle.state_words.specs.Steps.{claimed_view, moved_view, FindsBusy}
use Rattle.host_shared.specs.Looks.{Look}
use Rattle.host_shared.specs.Reclaiming.{HasCause, Reclaims}
use Rattle.host_shared.specs.declared.reclaim.Outcome.{Outcome}
use Rattle.host_shared.specs.declared.reclaim.Outcome.TheVariants.{Busy}

abbrev pub look_at : ℕ → Fields → Option Move → Look
look_at page word action = record { page = page; word = word; action = action }

-- a page that was claimed and given back
pub gave_back : (outcome : Outcome) (page : ℕ) (urgent : Bool) (v u w : SeatView) (word : Fields) (there : Body) (action : Option Move) (faults risen : ℕ) →
    u ≡ claimed_view v page word there → w ≡ moved_view u page action → word.busy ≡ false → HasCause outcome urgent (look_at page word action) faults risen →
    Reclaims outcome page urgent v w faults risen
gave_back outcome page urgent v u w word there action faults risen claimed moved free cause = record {
  look = look_at page word action;
  of_page = refl;
  steps = ap (λ (q : SeatView). q.steps) moved ∙ ap (λ (q : SeatView). q.steps ++ Moved page action ∷ []) claimed ∙ append_assoc v.steps (Tried page word ∷ []) (Moved page action ∷ [])
      ∙ ap (λ (b : Bool). v.steps ++ (Tried page word ∷ (if b then [] else Moved page action ∷ []))) (sym free);
  cause = cause;
}

-- a page that somebody else holds
pub found_busy : (page : ℕ) (urgent : Bool) (v w : SeatView) (raw faults risen : ℕ) → FindsBusy page v raw w → Reclaims (Busy raw) page urgent v w faults risen
found_busy page urgent v w raw faults risen found = record {
  look = look_at page found.word None;
  of_page = refl;
  steps = ap (λ (q : SeatView). q.steps) found.view ∙ ap (λ (b : Bool). v.steps ++ (Tried page found.word ∷ (if b then [] else Moved page None ∷ []))) (sym found.busy);
  cause = (found.written, found.busy);
}

either_move : (b : Bool) → ((if b then Discard else Preserve) ≡ Discard → ⊥) → (if b then Discard else Preserve) ≡ Preserve
either_move true other = absurd (other refl)
either_move false other = refl

pub not_discard : (w : Fields) → (reclaiming w ≡ Discard → ⊥) → reclaiming w ≡ Preserve
not_discard w other = either_move (is_ok (discard_answer w)) other
