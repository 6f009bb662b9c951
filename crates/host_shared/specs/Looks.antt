-- What a seat of the host does at a page, and what its record tells of many pages.
use Rattle.std.specs.Prelude.{◌≡◌, ℕ, zero, suc, ◌+◌, ◌==◌, List, [], ◌∷◌, ◌++◌, map, All, Bool, false, Option, Some, None, if◌then◌else◌}
use Rattle.std.specs.List.{sum_by, flat_map}
use Rattle.cmm_types.specs.declared.page.Move.{Move}
use Rattle.cmm_types.specs.declared.page.Move.TheVariants.{Discard, Preserve, Bring, Age}
use Rattle.essa_state.specs.declared.fields.Fields.{Fields}
use Rattle.state_words.specs.SeatView.{SeatStep, Looked, Tried, Left, Moved, SeatView, Seated}

-- one look at a page: a claim that found this word and, where that won the page, a release with this move or with none
pub record Look : Type 0 where
  pub page : ℕ
  pub word : Fields
  pub action : Option Move

abbrev pub look_steps : Look → List SeatStep
look_steps l = Tried l.page l.word ∷ (if l.word.busy then [] else Moved l.page l.action ∷ [])

-- the record grew by looks of this kind, one at each of these pages in this order
pub record GrewByLooks (IsKind : Look → Type 0) (pages : List ℕ) (v w : SeatView) : Type 0 where
  pub looks : List Look
  pub steps : w.steps ≡ v.steps ++ flat_map look_steps looks
  pub pages_are : map (λ l. l.page) looks ≡ pages
  pub each : All IsKind looks

abbrev pub is_page : Option ℕ → ℕ → Bool
is_page None page = false
is_page (Some skip) page = page == skip

-- so many pages from one on, in order, but for one that is skipped
abbrev pub pages_but : Option ℕ → (from count : ℕ) → List ℕ
pages_but skip from zero = []
pages_but skip from (suc n) = pages_but skip from n ++ (if is_page skip (from + n) then [] else (from + n) ∷ [])

-- a discard and a preserve free a frame
abbrev pub freed_by : Option Move → ℕ
freed_by None = 0
freed_by (Some Discard) = 1
freed_by (Some Preserve) = 1
freed_by (Some Bring) = 0
freed_by (Some Age) = 0

abbrev pub freed_at : SeatStep → ℕ
freed_at (Looked page word) = 0
freed_at (Tried page word) = 0
freed_at (Left page) = 0
freed_at (Moved page action) = freed_by action

-- how many frames the seat has freed, by its record
abbrev pub freed_in : SeatView → ℕ
freed_in v = sum_by freed_at v.steps

-- how many frames all these seats have freed
abbrev pub freed_in_all : List Seated → ℕ
freed_in_all seats = sum_by (λ s. freed_in s.view) seats
