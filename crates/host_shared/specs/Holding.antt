-- The page that a storage holds, with its word and its body as the guest's calls have made them.
use Rattle.std.specs.Prelude.{◌≡◌, ℕ, Bool, true, false}
use Rattle.cmm_io.specs.Faults.{HasRisen}
use Rattle.essa_state.specs.declared.fields.Fields.{Fields}
use Rattle.essa_state.specs.StateWord.{is_permitted, is_resident, is_discarded}
use Rattle.essa_state.specs.PageBody.{FitsWord}
use Rattle.cmm_storage.specs.declared.storage.Trap.{Trap}
use Rattle.cmm_storage.specs.declared.storage.Trap.TheVariants.{Discarded, Paging, NoFrame}
use Rattle.state_words.specs.Accesses.{touched_word, touched_body}
use Rattle.host_shared.specs.Bodies.{BodyParts, IsPageBody, lent_body}

-- the page, its word and its body now, and whether it was touched in this hold
pub record HeldState : Type 0 where
  pub page : ℕ
  pub word : Fields
  pub parts : BodyParts
  pub touched : Bool

pub record IsHeldPage (h : HeldState) : Type 0 where
  pub permitted : is_permitted h.word ≡ true
  pub fits : FitsWord h.word (lent_body h.parts)
  pub whole : IsPageBody h.parts
  pub resident : h.touched ≡ true → is_resident h.word.content ≡ true

-- what a good touch does to the held page
pub record IsTouched (h h' : HeldState) : Type 0 where
  pub page : h'.page ≡ h.page
  pub word : h'.word ≡ touched_word h.word
  pub body : lent_body h'.parts ≡ touched_body h.word.content (lent_body h.parts)
  pub pool : h'.parts.pool ≡ h.parts.pool
  pub touched : h'.touched ≡ true

-- why a touch didn't make the page resident
abbrev pub TrapCause : Trap → HeldState → (faults risen : ℕ) → Type 0
TrapCause Discarded h faults risen = is_discarded h.word ≡ true
TrapCause Paging h faults risen = (is_discarded h.word ≡ false) × (is_resident h.word.content ≡ false) × HasRisen faults risen
TrapCause (NoFrame looks) h faults risen = (is_discarded h.word ≡ false) × (is_resident h.word.content ≡ false)
