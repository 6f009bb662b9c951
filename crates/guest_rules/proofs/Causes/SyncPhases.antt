-- Where a sync is: it looks at a page of its file, or writes one back.
use Rattle.std.proofs.Common.{◌≡◌, ◌⊎◌, ℕ, refl, sym, ap, subst, inl, inr, ◌∙◌}
use Rattle.cmm_types.specs.declared.page.Tag.TheVariants.{File}
use Rattle.cmm_types.specs.declared.command.Op.TheVariants.{Sync}
use Rattle.guest_rules.specs.declared.processor.Phase.TheVariants.{Start, Fill, Room as AtRoom, Sync as AtSync, SyncWrite}
use Rattle.guest_rules.specs.GuestState.{GuestState, processor_at}
use Rattle.guest_rules.specs.Fit.{HasLocked}
use Rattle.guest_rules.specs.Cause.{index_of, IsLooking, IsAtTag}

-- the processor's sync looks at page `index` of its file; a sync begins with page 0
abbrev pub LooksAt : GuestState → (cpu index : ℕ) → Type 0
LooksAt g cpu index = (((processor_at g cpu).phase ≡ Start) × (index ≡ 0)) ⊎ ((processor_at g cpu).phase ≡ AtSync index)

-- g the guest, cpu the processor, index the page of the file that its sync is at
module _ (g : GuestState) (cpu index : ℕ) where
  pub looks-index : LooksAt g cpu index → index_of (processor_at g cpu).phase ≡ index
  looks-index (inl (start, first)) = ap index_of start ∙ sym first
  looks-index (inr at) = ap index_of at

  -- so it doesn't fill a page, nor write one back
  pub looks_not_fills : (page : ℕ) → LooksAt g cpu index → (processor_at g cpu).phase ≡ Fill page → ⊥
  looks_not_fills page (inl (start, first)) fills = let bad : Start ≡ Fill page = sym start ∙ fills in cc
  looks_not_fills page (inr at) fills = let bad : AtSync index ≡ Fill page = sym at ∙ fills in cc

  pub looks_not_writes : (i page : ℕ) → LooksAt g cpu index → (processor_at g cpu).phase ≡ SyncWrite i page → ⊥
  looks_not_writes i page (inl (start, first)) writes = let bad : Start ≡ SyncWrite i page = sym start ∙ writes in cc
  looks_not_writes i page (inr at) writes = let bad : AtSync index ≡ SyncWrite i page = sym at ∙ writes in cc

  pub looks_not_pages_out : (page : ℕ) → LooksAt g cpu index → (processor_at g cpu).phase ≡ AtRoom page → ⊥
  looks_not_pages_out page (inl (start, first)) out = let bad : Start ≡ AtRoom page = sym start ∙ out in cc
  looks_not_pages_out page (inr at) out = let bad : AtSync index ≡ AtRoom page = sym at ∙ out in cc

  -- and has locked nothing
  pub looks_unlocked : (page : ℕ) → LooksAt g cpu index → HasLocked g cpu page → ⊥
  looks_unlocked page looks (inl fills) = looks_not_fills page looks fills
  looks_unlocked page looks (inr (inl (i, writes))) = looks_not_writes i page looks writes
  looks_unlocked page looks (inr (inr out)) = looks_not_pages_out page looks out

  pub looks-looking : LooksAt g cpu index → IsLooking (processor_at g cpu).phase
  looks-looking (inl (start, first)) = subst IsLooking (sym start) tt
  looks-looking (inr at) = subst IsLooking (sym at) tt

  -- the tag that its turn is at is that of the file's page
  pub looks-tag : (file : ℕ) → LooksAt g cpu index → IsAtTag g cpu (Sync file) (processor_at g cpu).phase (File file index)
  looks-tag file (inl (start, first)) =
      let tag : File file index ≡ File file 0 = ap (λ n. File file n) first in
      subst (λ p. IsAtTag g cpu (Sync file) p (File file index)) (sym start) (inr (file, refl, tag))
  looks-tag file (inr at) = subst (λ p. IsAtTag g cpu (Sync file) p (File file index)) (sym at) (file, refl, refl)
