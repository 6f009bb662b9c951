-- The host of several guests, and what each call on the pages of the one that it serves does. Nothing is left free.
use Rattle.std.specs.Prelude.{◌≡◌, ◌≢◌, ℕ, ◌+◌, ◌-◌, ◌≤◌, ◌<◌, List, [], length, take, drop, Bool, true, false, ◌||◌}
use Rattle.std.specs.Prelude.{Option, Some, None, Ok, Err, is_ok, is_some, slice_get, slice_index_or, slice_set, map, sum, Result}
use Rattle.std.specs.List.{range_with_len}
use Rattle.cmm_types.specs.declared.page.TheConstants.{PAGE}
use Rattle.cmm_types.specs.declared.page.Content.{Content}
use Rattle.cmm_types.specs.declared.page.Content.TheVariants.{Zero}
use Rattle.cmm_types.specs.declared.page.Move.{Move}
use Rattle.cmm_io.specs.Faults.{HasRisen}
use Rattle.cmm_io.specs.FailurePlan.{FailurePlan}
use Rattle.essa_state.specs.declared.fields.Fields.{Fields}
use Rattle.essa_state.specs.StateWord.{is_resident}
use Rattle.essa_state.specs.Moves.{move_answer}
use Rattle.essa_state.specs.Orders.{after_order}
use Rattle.essa_state.specs.PageValue.{PageValue, MayBecome}
use Rattle.essa_state.specs.PageBody.{frame_bytes}
use Rattle.cmm_storage.specs.StorageCall.{StorageCall, Take, Touch, Give, TakeChange, Fetch, Store, Put}
use Rattle.cmm_storage.specs.StorageView.{StorageView, Follows}
use Rattle.cmm_storage.specs.Views.{page_called}
use Rattle.host_plain.specs.MemoryState.{MemoryState, IsMemory, word_at, body_at, memory_value_at, with_word, stored_at, old_of, opening_memory}
use Rattle.host_plain.specs.Numbering.{number_at}
use Rattle.host_plain.specs.HostMoves.{Applied, Reclaimed, applied, reclaimed}
use Rattle.host_plain.specs.Touches.{Touched, touched_page}
use Rattle.host_plain.specs.declared.moves.ApplyError.{ApplyError}
use Rattle.host_plain.specs.declared.moves.ApplyError.TheVariants.{Refused, Paging}
use Rattle.host_plain.specs.Keeping.{SamePage, faults_of}

-- the memory; the place of each guest's first page, and behind them the number of all pages; each guest's pager, and
-- the host's own; and the guest that is served, its page that is held, and whether that was touched in this hold
pub record HostState : Type 0 where
  pub memory : MemoryState
  pub starts : List ℕ
  pub pagers : List FailurePlan
  pub own : FailurePlan
  pub guest : ℕ
  pub held : Option ℕ
  pub touched : Bool

abbrev pub first_place : HostState → ℕ → ℕ
first_place h guest = slice_index_or h.starts guest 0

-- how many pages a guest has
abbrev pub pages_of : HostState → ℕ → ℕ
pages_of h guest = first_place h (guest + 1) - first_place h guest

abbrev pub no_pager : FailurePlan
no_pager = record { calls = 0; planned = []; faults = 0 }

-- the pager of a guest
abbrev pub pager_of : HostState → ℕ → FailurePlan
pager_of h guest = slice_index_or h.pagers guest no_pager

-- where the served guest's page stands
abbrev pub list_place : HostState → ℕ → ℕ
list_place h page = first_place h h.guest + page

abbrev pub held_word : Fields → Bool → Fields
held_word word busy = record word { busy = busy }

-- what a guest's page is for it
abbrev pub value_of : HostState → ℕ → ℕ → PageValue
value_of h guest page = memory_value_at h.memory (first_place h guest + page)

-- each page of each guest is what the host may have made of it
abbrev pub HostMayMake : HostState → HostState → Type 0
HostMayMake h k = (guest page : ℕ) → MayBecome (value_of h guest page) (value_of k guest page)

-- the page's word is busy while it is held
abbrev pub taken : HostState → ℕ → HostState
taken h page = record h { memory = with_word h.memory (list_place h page) (held_word (word_at h.memory (list_place h page)) true); held = Some page; touched = false }

abbrev pub given_back : HostState → ℕ → HostState
given_back h page = record h { memory = with_word h.memory (list_place h page) (held_word (word_at h.memory (list_place h page)) false); held = None }

-- a touch, by the served guest's pager
unfoldable pub touch_of : HostState → ℕ → Touched
touch_of h page = touched_page h.memory (list_place h page) (pager_of h h.guest)

abbrev pub touch_after : HostState → ℕ → HostState
touch_after h page = record h {
  memory = (touch_of h page).memory;
  pagers = slice_set h.pagers h.guest (touch_of h page).pager;
  touched = is_ok (touch_of h page).answer || h.touched;
}

abbrev pub with_host_word : HostState → ℕ → Fields → HostState
with_host_word h page word = record h { memory = with_word h.memory (list_place h page) word }

abbrev pub host_word : HostState → ℕ → Fields
host_word h page = word_at h.memory (list_place h page)

abbrev pub host_bytes : HostState → ℕ → List ℕ
host_bytes h page = frame_bytes (body_at h.memory (list_place h page))

abbrev pub page_stored : HostState → ℕ → ℕ → List ℕ → HostState
page_stored h page off bytes = record h { memory = stored_at h.memory (list_place h page) off bytes }

-- each answer and each state after a call is a function of what was before
abbrev pub HostStep : HostState → StorageCall → HostState → Type 0
HostStep h (Take page r) k = (r ≡ Ok tt) × (k ≡ taken h page)
HostStep h (Touch page r) k = (r ≡ (touch_of h page).answer) × (k ≡ touch_after h page)
HostStep h (Give page code old) k = (old ≡ old_of (host_word h page) code) × (k ≡ with_host_word h page (after_order (host_word h page) code))
HostStep h (TakeChange page changed) k = (changed ≡ (host_word h page).changed) × (k ≡ with_host_word h page (record (host_word h page) { changed = false }))
HostStep h (Fetch page off bytes) k = (bytes ≡ take (length bytes) (drop off (host_bytes h page))) × (k ≡ h)
HostStep h (Store page off bytes) k = k ≡ page_stored h page off bytes
HostStep h (Put page) k = k ≡ given_back h page

-- what a call on a page of the served guest leaves alone: where pages stand and whom they are of, the host's own
-- pager and those of other guests, and every other page, of any guest, but for what the host may have made of it
pub record SparesOthers (h : HostState) (page : ℕ) (k : HostState) : Type 0 where
  pub starts : k.starts ≡ h.starts
  pub guest : k.guest ≡ h.guest
  pub own : k.own ≡ h.own
  pub count : length k.pagers ≡ length h.pagers
  pub pagers : (guest : ℕ) → guest ≢ h.guest → pager_of k guest ≡ pager_of h guest
  pub frames : k.memory.frames ≡ h.memory.frames
  pub values : (place : ℕ) → place ≢ list_place h page → MayBecome (memory_value_at h.memory place) (memory_value_at k.memory place)

-- what each call asks of the host before it
abbrev pub CanCall : HostState → StorageCall → Type 0
CanCall h (Take page r) = (page < pages_of h h.guest) × (h.held ≡ None)
CanCall h (Touch page r) = h.held ≡ Some page
CanCall h (Give page code old) = h.held ≡ Some page
CanCall h (TakeChange page changed) = h.held ≡ Some page
CanCall h (Fetch page off bytes) = (h.held ≡ Some page) × (h.touched ≡ true)
CanCall h (Store page off bytes) = (h.held ≡ Some page) × (h.touched ≡ true) × (off + length bytes ≤ PAGE)
CanCall h (Put page) = h.held ≡ Some page

-- where the contents of the held page are, by its word
abbrev pub held_content : HostState → Option ℕ → Content
held_content h None = Zero
held_content h (Some page) = (host_word h page).content

-- what the served guest may know. The host is quiet: no page is ever busy, and a frame is always found
abbrev pub host_view : HostState → StorageView
host_view h = record {
  pages = pages_of h h.guest;
  values = λ page. memory_value_at h.memory (list_place h page);
  held = h.held;
  touched = h.touched;
  faults = faults_of (pager_of h h.guest);
  misses = 0;
  quiet = true;
  tells = true;
  content = held_content h h.held;
}

-- the host serves another guest
abbrev pub served : HostState → ℕ → HostState
served h guest = record h { guest = guest }

-- the words of a guest's pages
abbrev pub guest_words : HostState → ℕ → List Fields
guest_words h guest = take (pages_of h guest) (drop (first_place h guest) h.memory.words)

-- the host's own move on a page of a guest, by its own pager
abbrev pub move_of : HostState → ℕ → ℕ → Move → Applied
move_of h guest page action = applied h.memory (first_place h guest + page) action h.own

abbrev pub after_move : HostState → ℕ → ℕ → Move → HostState
after_move h guest page action = record h { memory = (move_of h guest page action).memory; own = (move_of h guest page action).pager }

-- the word of a guest's page
abbrev pub word_of : HostState → ℕ → ℕ → Fields
word_of h guest page = word_at h.memory (first_place h guest + page)

-- what an answer tells: the page's word is that of the table; or the table refuses the move, and nothing changed; or
-- a call of the host's own pager failed, and the page is as it was
abbrev pub ApplyTells : Result Unit ApplyError → HostState → ℕ → ℕ → Move → HostState → Type 0
ApplyTells (Ok done) h guest page action k = move_answer (word_of h guest page) action ≡ Ok (word_of k guest page)
ApplyTells (Err (Refused why)) h guest page action k = (move_answer (word_of h guest page) action ≡ Err why) × (k ≡ h)
ApplyTells (Err Paging) h guest page action k =
    (is_ok (move_answer (word_of h guest page) action) ≡ true) × SamePage h.memory (first_place h guest + page) k.memory
    × HasRisen (faults_of h.own) (faults_of k.own)

-- the reclaiming of so many victims, by the host's own pager
abbrev pub reclaim_of : HostState → ℕ → Reclaimed
reclaim_of h count = reclaimed h.memory h.own count

abbrev pub after_reclaim : HostState → ℕ → HostState
after_reclaim h count = record h { memory = (reclaim_of h count).memory; own = (reclaim_of h count).pager }

-- a guest's pages begin where those of the guests before it end
abbrev pub starts_of : List ℕ → List ℕ
starts_of pages = map (λ guest. sum (take guest pages)) (range_with_len 0 (length pages + 1))

-- guests with so many pages each and these pagers, one block a page, and so many frames; the first guest is served
abbrev pub host_opening : List ℕ → ℕ → List (List ℕ) → List FailurePlan → FailurePlan → HostState
host_opening pages frames blocks pagers own = record {
  memory = opening_memory blocks frames;
  starts = starts_of pages;
  pagers = pagers;
  own = own;
  guest = 0;
  held = None;
  touched = false;
}

-- where the held page stands
abbrev pub held_place : HostState → Option ℕ → Option ℕ
held_place h None = None
held_place h (Some page) = Some (list_place h page)

-- each guest's pages stand behind those of the guests before it
pub record AreStarts (starts : List ℕ) (guests pages : ℕ) : Type 0 where
  pub count : length starts ≡ guests + 1
  pub rises : (guest : ℕ) → guest < guests → slice_index_or starts guest 0 < slice_index_or starts (guest + 1) 0
  pub all : slice_index_or starts guests 0 ≡ pages

-- the held page is one of the served guest's, its word alone is busy, and it is resident while it is touched
pub record IsHost (h : HostState) : Type 0 where
  pub memory : IsMemory h.memory
  pub starts : AreStarts h.starts (length h.pagers) (length h.memory.words)
  pub guest : h.guest < length h.pagers
  pub below : (page : ℕ) → h.held ≡ Some page → page < pages_of h h.guest
  pub busy : (page : ℕ) → h.held ≡ Some page → (host_word h page).busy ≡ true
  pub others : (place : ℕ) → (word_at h.memory place).busy ≡ true → held_place h h.held ≡ Some place
  pub resident : (page : ℕ) → h.held ≡ Some page → h.touched ≡ true → is_resident (host_word h page).content ≡ true

-- the number of the frame of a guest's page
abbrev pub frame_of : HostState → ℕ → ℕ → Option ℕ
frame_of h guest page = number_at h.memory.numbers (first_place h guest + page)

-- each resident page, and no other, has a frame of the host's; no other page of any guest has the same one, and it
-- isn't free
pub record HaveOwnFrames (h : HostState) : Type 0 where
  pub resident : (guest page : ℕ) → is_some (frame_of h guest page) ≡ is_resident (word_of h guest page).content
  pub below : (guest page number : ℕ) → frame_of h guest page ≡ Some number → number < h.memory.frames
  pub apart : (guest page other at number : ℕ) → guest < length h.pagers → page < pages_of h guest → other < length h.pagers → at < pages_of h other →
      frame_of h guest page ≡ Some number → frame_of h other at ≡ Some number → (guest ≡ other) × (page ≡ at)
  pub free : (guest page k number : ℕ) → frame_of h guest page ≡ Some number → slice_get h.memory.numbers.spare k ≡ Some number → ⊥

-- what every call on a page of the served guest leaves: a sound host, and all else alone
pub record Leaves (h : HostState) (page : ℕ) (k : HostState) : Type 0 where
  pub sound : IsHost k
  pub below : page < pages_of h h.guest
  pub spares : SparesOthers h page k

-- a call on a page of the served guest: the step that it is of the host, which is what a storage's call is to do, and
-- which leaves the rest of the host alone
pub record Serves (h : HostState) (call : StorageCall) (k : HostState) : Type 0 where
  pub step : HostStep h call k
  pub follows : Follows (host_view h) call (host_view k)
  pub leaves : Leaves h (page_called call) k

-- what a whole run on the served guest's pages leaves: a sound host, and the pages of every other guest as the host may
-- have made them
pub record RunLeaves (h k : HostState) : Type 0 where
  pub sound : IsHost k
  pub starts : k.starts ≡ h.starts
  pub guest : k.guest ≡ h.guest
  pub own : k.own ≡ h.own
  pub count : length k.pagers ≡ length h.pagers
  pub pagers : (other : ℕ) → other ≢ h.guest → pager_of k other ≡ pager_of h other
  pub frames : k.memory.frames ≡ h.memory.frames
  pub others : (other page : ℕ) → other < length h.pagers → other ≢ h.guest → page < pages_of h other → MayBecome (value_of h other page) (value_of k other page)
