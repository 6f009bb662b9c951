-- What a storage answered in a turn that has to be taken again.
use Rattle.std.specs.Prelude.{ℕ, Err}
use Rattle.cmm_types.specs.declared.turn.Turn.{Turn}
use Rattle.cmm_types.specs.declared.turn.Turn.TheVariants.{Moved, Finished, Waits, Again, Idle}
use Rattle.cmm_types.specs.declared.turn.Why.{Why}
use Rattle.cmm_types.specs.declared.turn.Why.TheVariants.{Busy as WasBusy, NoFrame as HadNoFrame}
use Rattle.cmm_storage.specs.declared.storage.Trap.TheVariants.{NoFrame}
use Rattle.cmm_storage.specs.StorageCall.{StorageCall, Take, Touch}

-- some calls led from one storage to the other
pub data Calls {S : Type 0} (step : S → StorageCall → S → Type 0) (s : S) : S → Type 0 where
  none : Calls step s s
  more : (m t : S) (call : StorageCall) → Calls step s m → step m call t → Calls step s t

-- this was one of the calls
pub record IsCalled {S : Type 0} (step : S → StorageCall → S → Type 0) (s : S) (call : StorageCall) (t : S) : Type 0 where
  pub before : S
  pub after : S
  pub sooner : Calls step s before
  pub called : step before call after
  pub later : Calls step after t

-- the take of the page answered that busy word; or a touch answered that no frame was free
abbrev pub HasMissed : {S : Type 0} → (S → StorageCall → S → Type 0) → S → Why → S → Type 0
HasMissed step s (WasBusy page word) t = IsCalled step s (Take page (Err (record { word = word }))) t
HasMissed step s (HadNoFrame looks) t = (page : ℕ) × IsCalled step s (Touch page (Err (NoFrame looks))) t

-- why a turn has to be taken again, where it has
abbrev pub WhyAgain : {S : Type 0} → (S → StorageCall → S → Type 0) → S → Turn → S → Type 0
WhyAgain step s Moved t = Unit {0}
WhyAgain step s Finished t = Unit {0}
WhyAgain step s (Waits page owner) t = Unit {0}
WhyAgain step s (Again why) t = HasMissed step s why t
WhyAgain step s Idle t = Unit {0}
