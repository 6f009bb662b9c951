-- A guest's storage over shared words: what it keeps between two turns, what the guest sees of it, and what each call does.
use Rattle.std.specs.Prelude.{◌≡◌, ℕ, ◌+◌, ◌<◌, ◌^◌, ◌==◌, List, [], ◌∷◌, ◌++◌, map, Bool, true, false, Option, Some, None, Result, Ok, Err, slice_get, if◌then◌else◌}
use Rattle.std.specs.List.{sum_by}
use Rattle.std.specs.Option.{option_map}
use Rattle.cmm_types.specs.declared.page.Content.{Content}
use Rattle.cmm_types.specs.declared.page.Content.TheVariants.{Zero}
use Rattle.cmm_io.specs.FailurePlan.{FailurePlan}
use Rattle.cmm_io.specs.Faults.{raised}
use Rattle.essa_state.specs.StateWord.{is_resident}
use Rattle.essa_state.specs.PageValue.{PageValue}
use Rattle.essa_state.specs.PageBody.{actual}
use Rattle.cmm_storage.specs.declared.storage.Trap.{Trap}
use Rattle.cmm_storage.specs.declared.storage.Trap.TheVariants.{Discarded, Paging, NoFrame}
use Rattle.cmm_storage.specs.StorageCall.{StorageCall, Take, Touch, Give, TakeChange, Fetch, Store, Put}
use Rattle.cmm_storage.specs.StorageView.{StorageView, Follows}
use Rattle.state_words.specs.SeatView.{Hold, SeatStep, Looked, Tried, Left, Moved, WordsView, Seated, IsGuestSeat, value_at, guest_values}
use Rattle.state_words.specs.Accesses.{Leads}
use Rattle.state_words.specs.Steps.{FindsBusy, claimed_view}
use Rattle.frame_pool.specs.Seats.{PoolId, PoolSeatView}
use Rattle.host_shared.specs.Bodies.{lent_body, body_house}
use Rattle.host_shared.specs.Holding.{HeldState, IsHeldPage, IsTouched}
use Rattle.host_shared.specs.Reclaiming.{CanReclaim}
use Rattle.host_shared.specs.Searching.{FoundNone}
use Rattle.host_shared.specs.PagerCalls.{PagerCalled}

-- the guest's number and its seat, a seat of the host at each guest's words, the seat at the pool, the pager's calls, the page
-- that is held, and how often no frame was found
pub record StorageState : Type 0 where
  pub guest : ℕ
  pub seat : Seated
  pub hosts : List Seated
  pub pool : PoolSeatView
  pub pager : FailurePlan
  pub held : Option HeldState
  pub no_frames : ℕ

abbrev pub page_of_hold : Option Hold → Option ℕ
page_of_hold hold = option_map (λ (h : Hold). h.page) hold

abbrev pub held_page : Option HeldState → Option ℕ
held_page held = option_map (λ (h : HeldState). h.page) held

-- the storage holds the page that the guest's seat holds, and the guest's orders and accesses have made its word and body of
-- those that the claim found
pub record IsTied (seat : Seated) (held : Option HeldState) : Type 0 where
  pub page : page_of_hold seat.view.held ≡ held_page held
  pub leads : (hold : Hold) (h : HeldState) → seat.view.held ≡ Some hold → held ≡ Some h → Leads hold.word hold.body h.word (lent_body h.parts)
  pub housed : (h : HeldState) → held ≡ Some h → body_house h.parts ≡ seat.words.house

pub record IsStorage (s : StorageState) : Type 0 where
  pub seat : IsGuestSeat s.seat
  pub tied : IsTied s.seat s.held
  pub sound : (h : HeldState) → s.held ≡ Some h → IsHeldPage h
  pub few : s.no_frames < 2 ^ 64

-- how often no frame was found, after this answer of a touch
abbrev pub raised_at : Result Unit Trap → ℕ → ℕ
raised_at (Ok done) count = count
raised_at (Err Discarded) count = count
raised_at (Err Paging) count = count
raised_at (Err (NoFrame looks)) count = raised count

-- and after this call
abbrev pub no_frames_after : StorageCall → ℕ → ℕ
no_frames_after (Take page answer) count = count
no_frames_after (Touch page answer) count = raised_at answer count
no_frames_after (Give page code old) count = count
no_frames_after (TakeChange page changed) count = count
no_frames_after (Fetch page off bytes) count = count
no_frames_after (Store page off bytes) count = count
no_frames_after (Put page) count = count

-- claims that found a page busy
abbrev pub missed_at : SeatStep → ℕ
missed_at (Looked page word) = 0
missed_at (Tried page word) = if word.busy then 1 else 0
missed_at (Left page) = 0
missed_at (Moved page action) = 0

-- the value of a page: of the held one that of its word and body now, else what the guest's seat knows
abbrev pub value_in : Option HeldState → List PageValue → ℕ → PageValue
value_in None values page = value_at values page
value_in (Some h) values page = if page == h.page then actual h.word (lent_body h.parts) else value_at values page

abbrev pub is_touched : Option HeldState → Bool
is_touched None = false
is_touched (Some h) = h.touched

abbrev pub content_of : Option HeldState → Content
content_of None = Zero
content_of (Some h) = h.word.content

-- a guest's seat, the page that it holds, and the two counts, as the guest sees them
abbrev pub seen_of : Seated → Option HeldState → (faults no_frames : ℕ) → StorageView
seen_of seat held faults no_frames = record {
  pages = seat.words.pages;
  values = value_in held (guest_values seat.view.role);
  held = held_page held;
  touched = is_touched held;
  faults = faults;
  misses = sum_by missed_at seat.view.steps + no_frames;
  quiet = false;
  tells = true;
  content = content_of held;
}

-- what the guest sees. Its misses are the claims that found a page busy, and the touches that found no frame
abbrev pub storage_view : StorageState → StorageView
storage_view s = seen_of s.seat s.held s.pager.faults s.no_frames

-- the words of each seat, the pool and the guest stay
pub record StaysBound (s t : StorageState) : Type 0 where
  pub guest : t.guest ≡ s.guest
  pub words : t.seat.words ≡ s.seat.words
  pub hosts : map (λ h. h.words) t.hosts ≡ map (λ h. h.words) s.hosts
  pub pool : t.pool.pool ≡ s.pool.pool
  pub pager : PagerCalled s.pager t.pager

-- the seats of the host, the pool's seat and the pager are as before
pub record LeavesHost (s t : StorageState) : Type 0 where
  pub hosts : t.hosts ≡ s.hosts
  pub pool : t.pool ≡ s.pool
  pub pager : t.pager ≡ s.pager

-- the one claim of a good take found the page free, and its word and body are held as they were found
pub record TakesFound (page : ℕ) (s t : StorageState) : Type 0 where
  pub held : HeldState
  pub is_held : t.held ≡ Some held
  pub of_page : held.page ≡ page
  pub free : held.word.busy ≡ false
  pub untouched : held.touched ≡ false
  pub claimed : t.seat.view ≡ claimed_view s.seat.view page held.word (lent_body held.parts)

-- the held page is as a good touch makes it: resident, and used
abbrev pub HoldsTouched : StorageState → StorageState → Type 0
HoldsTouched s t = (h : HeldState) → s.held ≡ Some h → (k : HeldState) × (t.held ≡ Some k) × IsTouched h k

-- only a touch needs the host, and not for a page that is resident or discarded. After a trap the held page is as before. A
-- take is one claim in the record of the guest's seat, and where that found the page busy the answer is the word that it
-- found. Where a touch found no frame each page word but the held one was looked at
abbrev pub Uses : StorageState → StorageCall → StorageState → Type 0
Uses s (Take page (Ok got)) t = LeavesHost s t × TakesFound page s t
Uses s (Take page (Err busy)) t = LeavesHost s t × (t.held ≡ s.held) × FindsBusy page s.seat.view busy.word t.seat.view
Uses s (Touch page (Ok done)) t = (t.seat ≡ s.seat) × HoldsTouched s t × (is_resident (content_of s.held) ≡ true → LeavesHost s t)
Uses s (Touch page (Err Discarded)) t = (t.seat ≡ s.seat) × (t.held ≡ s.held) × LeavesHost s t
Uses s (Touch page (Err Paging)) t = (t.seat ≡ s.seat) × (t.held ≡ s.held)
Uses s (Touch page (Err (NoFrame looks))) t = (t.seat ≡ s.seat) × (t.held ≡ s.held) × FoundNone s.guest page s.hosts t.hosts s.pool.dry t.pool.dry looks
Uses s (Give page code old) t = LeavesHost s t × (t.seat ≡ s.seat)
Uses s (TakeChange page changed) t = LeavesHost s t × (t.seat ≡ s.seat)
Uses s (Fetch page off bytes) t = t ≡ s
Uses s (Store page off bytes) t = LeavesHost s t × (t.seat ≡ s.seat)
Uses s (Put page) t = LeavesHost s t × (t.seat.view.steps ≡ s.seat.view.steps ++ Left page ∷ [])

-- a call of a bound storage
pub record BoundStep (s : StorageState) (call : StorageCall) (t : StorageState) : Type 0 where
  pub follows : Follows (storage_view s) call (storage_view t)
  pub counted : t.no_frames ≡ no_frames_after call s.no_frames
  pub stays : StaysBound s t
  pub uses : Uses s call t

-- the seats are of these words and of this pool
pub record IsBoundTo (words : List WordsView) (pool : PoolId) (s : StorageState) : Type 0 where
  pub can : CanReclaim words pool s.hosts s.pool
  pub guest : slice_get words s.guest ≡ Some s.seat.words
  pub few : sum_by (λ (w : WordsView). w.pages) words < 2 ^ 32
