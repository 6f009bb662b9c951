-- What a reclaim of one page does and why it answers what it does, and what a pass over all pages does.
use Rattle.std.specs.Prelude.{◌≡◌, ℕ, ◌+◌, ◌<◌, List, ◌++◌, length, map, All, Bool, true, false, not, ◌&&◌, Some, None, Ok, Err, slice_index_or}
use Rattle.cmm_types.specs.declared.page.Move.{Move}
use Rattle.cmm_types.specs.declared.page.Move.TheVariants.{Discard, Preserve, Age}
use Rattle.cmm_io.specs.Faults.{HasRisen}
use Rattle.cmm_io.specs.declared.failed.Failed.{Failed}
use Rattle.cmm_pager.specs.PagerCall.{PagerCall, Put}
use Rattle.essa_state.specs.declared.fields.Fields.{Fields}
use Rattle.essa_state.specs.StateWord.{is_resident, number_of}
use Rattle.essa_state.specs.Moves.{reclaiming}
use Rattle.state_words.specs.SeatView.{SeatView, WordsView, Seated}
use Rattle.frame_pool.specs.Seats.{PoolId, PoolSeatView}
use Rattle.host_shared.specs.Looks.{Look, look_steps, GrewByLooks, pages_but, freed_in_all}
use Rattle.host_shared.specs.declared.reclaim.Outcome.{Outcome}
use Rattle.host_shared.specs.declared.reclaim.Outcome.TheVariants.{Discarded, Preserved, Aged, Left, Busy, Paging}

-- a page that was used is spared this time, where it isn't urgent
abbrev pub is_spared : (urgent : Bool) → Fields → Bool
is_spared urgent w = not urgent && w.referenced

-- a free page that is resident and isn't spared, so that its frame is to be got by this move
pub record IsToMove (urgent : Bool) (w : Fields) (action : Move) : Type 0 where
  pub free : w.busy ≡ false
  pub resident : is_resident w.content ≡ true
  pub not_spared : is_spared urgent w ≡ false
  pub chosen : reclaiming w ≡ action

-- why a reclaim gives this answer, by its one look. The pager's faults before and after it show a failed put
abbrev pub HasCause : Outcome → (urgent : Bool) → Look → (faults risen : ℕ) → Type 0
HasCause (Busy raw) urgent l faults risen = (number_of l.word ≡ raw) × (l.word.busy ≡ true)
HasCause (Left raw) urgent l faults risen = (number_of l.word ≡ raw) × (l.word.busy ≡ false) × (is_resident l.word.content ≡ false) × (l.action ≡ None)
HasCause Aged urgent l faults risen = (l.word.busy ≡ false) × (is_resident l.word.content ≡ true) × (is_spared urgent l.word ≡ true) × (l.action ≡ Some Age)
HasCause Discarded urgent l faults risen = IsToMove urgent l.word Discard × (l.action ≡ Some Discard)
HasCause Preserved urgent l faults risen = IsToMove urgent l.word Preserve × (l.action ≡ Some Preserve)
HasCause Paging urgent l faults risen = IsToMove urgent l.word Preserve × (l.action ≡ None) × HasRisen faults risen

-- the seat's record grew by one look at the page, which is why the reclaim gave this answer
pub record Reclaims (outcome : Outcome) (page : ℕ) (urgent : Bool) (v w : SeatView) (faults risen : ℕ) : Type 0 where
  pub look : Look
  pub of_page : look.page ≡ page
  pub steps : w.steps ≡ v.steps ++ look_steps look
  pub cause : HasCause outcome urgent look faults risen

-- a look by some reclaim, in which the pager's faults rose at most from and to these
abbrev pub IsReclaim : (urgent : Bool) → (faults risen : ℕ) → Look → Type 0
IsReclaim urgent faults risen l = (outcome : Outcome) × HasCause outcome urgent l faults risen

-- how many frames the answer tells of
abbrev pub freed_of : Outcome → ℕ
freed_of Discarded = 1
freed_of Preserved = 1
freed_of Aged = 0
freed_of (Left raw) = 0
freed_of (Busy raw) = 0
freed_of Paging = 0

-- the one put of a reclaim, which was good or failed; another answer makes no call of the pager
module _ {P B : Type 0} (step : P → PagerCall B → P → Type 0) where
  abbrev pub PutsOnce : Outcome → P → P → Type 0
  PutsOnce Discarded p q = q ≡ p
  PutsOnce Preserved p q = (before : B) × (after : B) × (bytes : List ℕ) × step p (Put before bytes (Ok tt) after) q
  PutsOnce Aged p q = q ≡ p
  PutsOnce (Left raw) p q = q ≡ p
  PutsOnce (Busy raw) p q = q ≡ p
  PutsOnce Paging p q = (before : B) × (after : B) × (bytes : List ℕ) × (failed : Failed) × step p (Put before bytes (Err failed) after) q

-- the seat after it gave so many frames to its pool
abbrev pub given_more : PoolSeatView → ℕ → PoolSeatView
given_more seat count = record seat { given = seat.given + count }

-- a seat of a guest's words, which holds no page; a seat of the pool; and the words have the pool for their house
pub record CanLook (words : WordsView) (pool : PoolId) (seat : Seated) (pool_seat : PoolSeatView) : Type 0 where
  pub of_words : seat.words ≡ words
  pub none_held : seat.view.held ≡ None
  pub of_pool : pool_seat.pool ≡ pool
  pub housed : words.house ≡ pool.table

-- a seat of each guest's words, in the words' order, which hold no page; a seat of the pool; and all words have the pool for
-- their house
pub record CanReclaim (words : List WordsView) (pool : PoolId) (seats : List Seated) (seat : PoolSeatView) : Type 0 where
  pub seats_are : map (λ s. s.words) seats ≡ words
  pub none_held : All (λ s. s.view.held ≡ None) seats
  pub of_pool : seat.pool ≡ pool
  pub housed : All (λ w. w.house ≡ pool.table) words

-- each guest's seat looked at each of the guest's pages once, in their order, while the pager's faults rose from and to these,
-- and so many frames were freed
pub record Passes (old new : List Seated) (faults risen freed : ℕ) : Type 0 where
  pub each : (guest : ℕ) (d : Seated) → guest < length old →
      GrewByLooks (IsReclaim false faults risen) (pages_but None 0 (slice_index_or old guest d).words.pages) (slice_index_or old guest d).view (slice_index_or new guest d).view
  pub freed_is : freed + freed_in_all old ≡ freed_in_all new
