-- What a guest may know of its pages, and what each call does to it.
use Rattle.std.specs.Prelude.{◌≡◌, ◌≢◌, ℕ, ◌≤◌, List, [], length, take, drop, Bool, true, false, not, Option, Some, None, Ok, Err}
use Rattle.cmm_types.specs.Bytes.{zero_page, with_bytes}
use Rattle.cmm_types.specs.declared.page.TheConstants.{PAGE}
use Rattle.cmm_types.specs.declared.page.Usage.{Usage}
use Rattle.cmm_types.specs.declared.page.Usage.TheVariants.{S, U, P, V}
use Rattle.cmm_types.specs.declared.page.Content.{Content}
use Rattle.cmm_types.specs.declared.page.Content.TheVariants.{Resident}
use Rattle.cmm_io.specs.Faults.{HasRisen}
use Rattle.essa_state.specs.declared.fields.Fields.{Fields}
use Rattle.essa_state.specs.declared.orders.Old.{Old}
use Rattle.essa_state.specs.declared.orders.Order.{Order}
use Rattle.essa_state.specs.declared.orders.Order.TheVariants.{Get, SetStable, SetUnused, SetVolatile, SetPotential, SetStableResident, SetStableIf}
use Rattle.essa_state.specs.Orders.{unpreserved}
use Rattle.essa_state.specs.StateWord.{is_permitted, is_preserved, is_resident, is_unused, is_zero, number_of}
use Rattle.essa_state.specs.PageValue.{PageValue, Contents, Bytes, Blank, Lost, IsValue, OrderStep, MayBecome, is_lost}
use Rattle.cmm_storage.specs.declared.storage.Trap.TheVariants.{Discarded, Paging, NoFrame}
use Rattle.cmm_storage.specs.StorageCall.{StorageCall, Take, Touch, Give, TakeChange, Fetch, Store, Put}

-- the number of pages; for each page what it is for its guest now, whether or not it is held; the page that is held,
-- and whether it was touched in this hold; how many calls of the pager failed; how many calls found a page busy or no
-- frame; whether none ever does; whether the storage tells contracts the bytes of its pages; and where the host has the
-- held page's contents, which means nothing while no page is held
pub record StorageView : Type 0 where
  pub pages : ℕ
  pub values : ℕ → PageValue
  pub held : Option ℕ
  pub touched : Bool
  pub faults : ℕ
  pub misses : ℕ
  pub quiet : Bool
  pub tells : Bool
  pub content : Content

-- the bytes, where they are told; nobody knows more of others than that there are some
abbrev pub told : (tells : Bool) → List ℕ → List ℕ
told true bytes = bytes
told false bytes = []

-- the contents that a good touch leaves
abbrev pub touched_contents : (tells : Bool) → Contents → Contents
touched_contents tells (Bytes bytes) = Bytes bytes
touched_contents tells Blank = Bytes (told tells zero_page)
touched_contents tells Lost = Lost

-- the bytes of a page, as a guest reads them
abbrev pub bytes_of : Contents → List ℕ
bytes_of (Bytes bytes) = bytes
bytes_of Blank = zero_page
bytes_of Lost = zero_page

abbrev pub has_bytes : Contents → Bool
has_bytes (Bytes bytes) = true
has_bytes Blank = false
has_bytes Lost = false

-- a whole page of bytes
pub record IsWhole (contents : Contents) : Type 0 where
  pub all : List ℕ
  pub are : contents ≡ Bytes all
  pub size : length all ≡ PAGE

-- a store writes its bytes and sets the change bit
abbrev pub stored_value : (tells : Bool) → PageValue → ℕ → List ℕ → PageValue
stored_value tells value off new = record value { changed = true; contents = Bytes (told tells (with_bytes (bytes_of value.contents) off new)) }

-- a page may be written while it is stable or potentially volatile
abbrev pub can_store : Usage → Bool
can_store S = true
can_store U = false
can_store P = true
can_store V = false

-- the word that a claim found, which somebody else's claim had made busy
pub record IsBusyWord (raw : ℕ) : Type 0 where
  pub word : Fields
  pub permitted : is_permitted word ≡ true
  pub written : number_of word ≡ raw
  pub busy : word.busy ≡ true

-- a page is nowhere exactly where its value has no bytes, and an unused page isn't preserved
pub record IsPlaced (place : Content) (value : PageValue) : Type 0 where
  pub zero : is_zero place ≡ not (has_bytes value.contents)
  pub unused : is_unused value.usage ≡ true → is_preserved place ≡ false

-- where a page is after an order: that it is unused gives its copy in the paging store up, and no other order moves it
abbrev pub content_after : Order → Content → Content
content_after Get place = place
content_after SetStable place = place
content_after SetUnused place = unpreserved place
content_after SetVolatile place = place
content_after SetPotential place = place
content_after SetStableResident place = place
content_after SetStableIf place = place

-- what an order answers of the page before it
pub record IsOld (value : PageValue) (place : Content) (old : Old) : Type 0 where
  pub usage : old.usage ≡ value.usage
  pub content : old.content ≡ place

-- what every call keeps. Another page than the one that the call names may change as the host may change it
pub record Keeps (v : StorageView) (page : ℕ) (w : StorageView) : Type 0 where
  pub pages : w.pages ≡ v.pages
  pub others : (i : ℕ) → i ≢ page → MayBecome (v.values i) (w.values i)
  pub faults : v.faults ≤ w.faults
  pub misses : v.misses ≤ w.misses
  pub quiet : w.quiet ≡ v.quiet
  pub tells : w.tells ≡ v.tells

-- a call that finds neither a busy page nor a want of frames misses nothing
abbrev pub MissesNothing : StorageView → StorageView → Type 0
MissesNothing v w = w.misses ≡ v.misses

-- a call that misses, which a quiet storage never does
pub record Misses (v w : StorageView) : Type 0 where
  pub not_quiet : v.quiet ≡ false
  pub risen : HasRisen v.misses w.misses

-- over a quiet storage no other page changes
abbrev pub IsStill : StorageView → ℕ → StorageView → Type 0
IsStill v page w = v.quiet ≡ true → (i : ℕ) → i ≢ page → w.values i ≡ v.values i

-- the page is held, and was or wasn't touched in this hold
abbrev pub Holds : StorageView → ℕ → (touched : Bool) → Type 0
Holds w page touched = (w.held ≡ Some page) × (w.touched ≡ touched)

-- the page is held and has the value that it had
abbrev pub HoldsSame : StorageView → ℕ → StorageView → Type 0
HoldsSame v page w = Holds w page v.touched × (w.values page ≡ v.values page)

-- what each call with its answer does. A touch of a page that is resident already succeeds, and changes no other page
-- of a quiet storage. A page stays resident while it is held.
abbrev pub Follows : StorageView → StorageCall → StorageView → Type 0
Follows v (Take page (Ok got)) w =
    Keeps v page w × MissesNothing v w × IsStill v page w × Holds w page false
    × MayBecome (v.values page) (w.values page) × IsValue (w.values page) × (v.quiet ≡ true → w.values page ≡ v.values page)
    × IsPlaced w.content (w.values page)
Follows v (Take page (Err busy)) w =
    Keeps v page w × Misses v w × IsBusyWord busy.word × (w.held ≡ None) × MayBecome (v.values page) (w.values page)
Follows v (Touch page (Ok got)) w =
    Keeps v page w × MissesNothing v w × Holds w page true × (is_lost (v.values page).contents ≡ false)
    × (w.values page ≡ record (v.values page) { contents = touched_contents v.tells (v.values page).contents })
    × (v.tells ≡ true → IsWhole (w.values page).contents) × (w.content ≡ Resident)
    × (is_resident v.content ≡ true → IsStill v page w)
Follows v (Touch page (Err Discarded)) w =
    Keeps v page w × MissesNothing v w × IsStill v page w × HoldsSame v page w × (is_lost (v.values page).contents ≡ true)
    × (w.content ≡ v.content)
Follows v (Touch page (Err Paging)) w =
    Keeps v page w × MissesNothing v w × HoldsSame v page w × (is_lost (v.values page).contents ≡ false) × (v.touched ≡ false)
    × HasRisen v.faults w.faults × (w.content ≡ v.content) × (is_resident v.content ≡ false)
Follows v (Touch page (Err (NoFrame looks))) w =
    Keeps v page w × Misses v w × HoldsSame v page w × (is_lost (v.values page).contents ≡ false) × (v.touched ≡ false)
    × (w.content ≡ v.content) × (is_resident v.content ≡ false)
Follows v (Give page code old) w =
    Keeps v page w × MissesNothing v w × IsStill v page w × Holds w page v.touched
    × IsOld (v.values page) v.content old × OrderStep (v.values page) code old.done (w.values page)
    × (w.content ≡ content_after code v.content) × IsPlaced w.content (w.values page)
Follows v (TakeChange page changed) w =
    Keeps v page w × MissesNothing v w × IsStill v page w × Holds w page v.touched
    × (changed ≡ (v.values page).changed) × (w.values page ≡ record (v.values page) { changed = false })
    × (w.content ≡ v.content)
Follows v (Fetch page off bytes) w =
    Keeps v page w × MissesNothing v w × IsStill v page w × HoldsSame v page w
    × (v.tells ≡ true → bytes ≡ take (length bytes) (drop off (bytes_of (v.values page).contents)))
    × (w.content ≡ v.content)
Follows v (Store page off bytes) w =
    Keeps v page w × MissesNothing v w × IsStill v page w × Holds w page v.touched
    × (w.values page ≡ stored_value v.tells (v.values page) off bytes) × (w.content ≡ v.content)
Follows v (Put page) w =
    Keeps v page w × MissesNothing v w × IsStill v page w × (w.held ≡ None) × (w.values page ≡ v.values page)
