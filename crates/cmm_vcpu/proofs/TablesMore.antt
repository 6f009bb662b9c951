-- The words of one more guest.
use Rattle.std.specs.Prelude.{◌≡◌, ◌<◌, ◌+◌, ◌++◌, ℕ, List, [], ◌∷◌, length, map, take, get_or, None}
use Rattle.std.proofs.Common.{sym, ap, subst, ◌∙◌}
use Rattle.std.proofs.lemmas.List.{map-append, take_more}
use Rattle.std.proofs.lemmas.List.Elements.{All-push}
use Rattle.cmm_types.specs.declared.plan.GuestPlan.{GuestPlan}
use Rattle.state_words.specs.SeatView.{WordsView, Seated, IsGuestSeat, guest_first}
use Rattle.frame_pool.specs.Seats.{PoolId}
use Rattle.cmm_vcpu.specs.Opening.{IsFirstSeat, AreTables}

pub tables_more : (plans : List GuestPlan) (i : ℕ) (d : GuestPlan) (pool : PoolId) (words : List WordsView) (guests hosts : List Seated) (w : WordsView) (g h : Seated) → i < length plans
    → AreTables (take i plans) pool words guests hosts → w.pages ≡ (get_or plans i d).pages → w.house ≡ pool.table → g.words ≡ w → IsGuestSeat g → g.view ≡ guest_first w.pages w.house
    → h.words ≡ w → h.view.held ≡ None → AreTables (take (i + 1) plans) pool (words ++ w ∷ []) (guests ++ g ∷ []) (hosts ++ h ∷ [])
tables_more plans i d pool words guests hosts w g h below tables pages house of_guest seat first of_host idle = record {
  pages = map-append (λ (q : WordsView). q.pages) words (w ∷ []) ∙ (λ k. tables.pages k ++ pages k ∷ [])
      ∙ sym (map-append (λ (p : GuestPlan). p.pages) (take i plans) (get_or plans i d ∷ [])) ∙ ap (λ ps. map (λ (p : GuestPlan). p.pages) ps) (sym (take_more plans i d below));
  housed = All-push (λ (q : WordsView). q.house ≡ pool.table) words w tables.housed house;
  guests_are = map-append (λ (s : Seated). s.words) guests (g ∷ []) ∙ (λ k. tables.guests_are k ++ of_guest k ∷ []);
  first = All-push IsFirstSeat guests g tables.first (seat, first ∙ ap (λ (v : WordsView). guest_first v.pages v.house) (sym of_guest));
  hosts_are = map-append (λ (s : Seated). s.words) hosts (h ∷ []) ∙ (λ k. tables.hosts_are k ++ of_host k ∷ []);
  idle = All-push (λ (s : Seated). s.view.held ≡ None) hosts h tables.idle idle;
}

-- the same of equal lists
pub tables_same : (plans : List GuestPlan) (pool : PoolId) (ws words : List WordsView) (gs guests hs hosts : List Seated) → ws ≡ words → gs ≡ guests → hs ≡ hosts
    → AreTables plans pool words guests hosts → AreTables plans pool ws gs hs
tables_same plans pool ws words gs guests hs hosts same_words same_guests same_hosts tables =
    subst (λ q. AreTables plans pool q gs hs) (sym same_words)
    (subst (λ q. AreTables plans pool words q hs) (sym same_guests)
    (subst (λ q. AreTables plans pool words guests q) (sym same_hosts) tables))
