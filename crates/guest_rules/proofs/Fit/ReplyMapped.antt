-- Fit after a file was mapped, or pages of a mapping of its own.
use Rattle.std.proofs.Common.{◌≡◌, ◌<◌, ◌≤◌, ◌+◌, ◌*◌, if◌then◌else◌, nat_le, ℕ, Bool, true, false, length, Option, Some, None, refl, ap, ◌∙◌, subst, arith}
use Rattle.cmm_types.specs.declared.page.TheConstants.{PAGE}
use Rattle.cmm_types.specs.declared.page.Tag.TheVariants.{Anon}
use Rattle.cmm_types.specs.declared.plan.TheConstants.{MAX_LIVE_MAPPINGS}
use Rattle.cmm_types.specs.declared.command.Op.{Op}
use Rattle.cmm_types.specs.declared.command.Op.TheVariants.{MapFile, MapAnon}
use Rattle.cmm_types.specs.declared.command.Reply.{Reply}
use Rattle.cmm_types.specs.declared.command.Reply.TheVariants.{Done}
use Rattle.cmm_types.specs.declared.command.FlatRefusal.TheVariants.{AlreadyMapped, OutOfRange, TooManyMaps}
use Rattle.cmm_types.specs.Bytes.{zeros, bytes_at}
use Rattle.cmm_types.specs.InRange.{OpInRange}
use Rattle.cmm_io.specs.DiskView.{DiskView}
use Rattle.cmm_flat.specs.declared.mapping.Shown.{Shown as FlatShown}
use Rattle.cmm_flat.specs.declared.mapping.Shown.TheVariants.{OfFile as FlatFile, Anonymous}
use Rattle.cmm_flat.specs.State.{FlatState, IsSound}
use Rattle.cmm_flat.specs.Flat.{effect, flat_step, with_mapping as flat_with_mapping}
use Rattle.cmm_flat.specs.Laws.FlatLaws.{sound-flat_step}
use Rattle.cmm_flat.specs.Laws.StepLaws.{step_done}
use Rattle.cmm_flat.specs.Legal.{process_of, flat_of}
use Rattle.cmm_storage.specs.StorageView.{StorageView}
use Rattle.guest_cache.specs.CacheView.{IsTag}
use Rattle.guest_maps.specs.declared.slot.Shown.{Shown}
use Rattle.guest_maps.specs.declared.slot.Shown.TheVariants.{File as OfFile, Anon as OfItsOwn}
use Rattle.guest_maps.specs.MapsView.{slot_at, find_slot, free_slot, live_slots, with_slot_mapped}
use Rattle.guest_maps.specs.Laws.MapsLaws.{free_slot-is}
use Rattle.guest_rules.specs.declared.parts.Parts.{Parts}
use Rattle.guest_rules.specs.declared.processor.Phase.TheVariants.{Start}
use Rattle.guest_rules.specs.GuestState.{GuestState, processor_at, with_parts, entered}
use Rattle.guest_rules.specs.Turns.{file_has_bytes, refusal_of_new}
use Rattle.guest_rules.specs.Fit.{Fit, without_bytes, flat_shown, own_bytes, current}
use Rattle.guest_rules.proofs.Cases.TurnCases.{Starts}
use Rattle.cmm_flat.specs.Laws.CommandLaws.{command_in_range}
use Rattle.guest_rules.proofs.Kept.SlotsKept.{NewMapping, new_flat, SlotsFit-mapped}
use Rattle.guest_rules.proofs.Kept.EntriesKept.{EntriesFit-new}
use Rattle.guest_rules.proofs.Kept.PinsKept.{PinsFit-new}
use Rattle.guest_rules.proofs.Kept.LocksKept.{locks_none, LocksFit-passed}
use Rattle.guest_rules.proofs.Kept.TeardownsKept.{KeepsTorn, keeps_tearing-all, keeps_torn-new, untagged-same, TeardownsFit-kept}
use Rattle.guest_rules.proofs.Fit.FitOthers.{FitAt-others}
use Rattle.guest_rules.proofs.Fit.FitChanged.{keeps_ended, JournalFit-kept}
use Rattle.guest_rules.proofs.Fit.NewMapping.{IsNew, TagsStand-new, FlatFit-new, zeros-new}
use Rattle.guest_rules.proofs.Cases.WantedTags.{has_bytes-file}
use Rattle.guest_rules.proofs.Fit.Replies.{Fit-stepped, refused-same}

-- a new mapping that isn't refused
accepted_new : (g : GuestState) (are_there : Bool) (o : Option ℕ) → refusal_of_new g are_there o ≡ None → (o ≡ None) × (are_there ≡ true)
accepted_new g are_there (Some slot) e = let bad : Some AlreadyMapped ≡ None = e in absurd cc
accepted_new g are_there None e = (refl, of are_there (nat_le MAX_LIVE_MAPPINGS (live_slots g.parts.maps)) e)
  where
    of : (b full : Bool) → (if b then (if full then Some TooManyMaps else None) else Some OutOfRange) ≡ None → b ≡ true
    of true full e = refl
    of false full e = let bad : Some OutOfRange ≡ None = e in absurd cc

whole_pages : (first count pages : ℕ) → PAGE * first + PAGE * count ≤ PAGE * pages → first + count ≤ pages
whole_pages first count pages h = omega (arith, h)

-- a mapping that isn't refused, which the flat machine has from then on
record MapsNew (g : GuestState) (v : StorageView) (d : DiskView) (cpu : ℕ) (op : Op) (slot number count : ℕ) (shown : Shown) (flat : FlatShown) : Type 0 where
  starts : Starts g cpu op
  fresh : NewMapping g.parts slot (process_of g.plan cpu) number shown count
  shape : without_bytes flat ≡ flat_shown shown
  does : effect (flat_of g.plan g.journal) (process_of g.plan cpu) op ≡ (flat_with_mapping (flat_of g.plan g.journal) (process_of g.plan cpu) number (new_flat flat count), Done)
  mine : (index : ℕ) → shown ≡ OfItsOwn → index < count → bytes_at (own_bytes (Some (new_flat flat count))) (PAGE * index) PAGE ≡ current g.parts v d (Anon slot index)

Fit-new : (g : GuestState) (v : StorageView) (d : DiskView) (cpu : ℕ) (op : Op) (slot number count : ℕ) (shown : Shown) (flat : FlatShown) → Fit g v d
    → MapsNew g v d cpu op slot number count shown flat
    → Fit (entered (with_parts g (record g.parts { maps = with_slot_mapped g.parts.maps slot (process_of g.plan cpu) number shown count })) cpu op Done) v d
Fit-new g v d cpu op slot number count shown flat f k =
    Fit-stepped (with_parts g new) v d cpu op Done later
    (FitAt-others state later g v d new.maps g.journal g.processors f (FlatFit-new state g v d slot process number count shown flat f is_new sound k.mine) refl (record {
      slots = SlotsFit-mapped state g.parts new slot process number count shown flat f.slots k.fresh k.shape refl;
      entries = EntriesFit-new g.parts new slot process number count shown f.entries is_free.1 refl;
      pins = PinsFit-new state g.parts new slot process number count shown f.pins f.slots is_free.1 refl;
      tags = TagsStand-new state g v d slot process number count shown f is_new;
      locks = LocksFit-passed g (with_parts g new) cpu Start f.locks refl refl refl refl k.starts.start (λ q n. refl) (locks_none g cpu Start k.starts.start tt) tt tt;
      teardowns = TeardownsFit-kept state g (with_parts g new) f.slots f.teardowns (keeps_tearing-all g (with_parts g new) refl refl) torn (untagged-same g.parts g.parts.cache refl);
      journal = JournalFit-kept g (with_parts g new) f.journal refl refl refl (λ q. refl) refl (keeps_ended g (with_parts g new) f.teardowns (keeps_tearing-all g (with_parts g new) refl refl) torn);
    }))
    (record { below = k.starts.has.below; command = k.starts.has.command }) k.starts.start step
  where
    state : FlatState
    state = flat_of g.plan g.journal

    process : ℕ
    process = process_of g.plan cpu

    new : Parts
    new = record g.parts { maps = with_slot_mapped g.parts.maps slot process number shown count }

    later : FlatState
    later = flat_with_mapping state process number (new_flat flat count)

    is_free : (slot < length g.parts.maps.slots) × (slot_at g.parts.maps slot ≡ None)
    is_free = free_slot-is g.parts.maps slot k.fresh.free

    is_new : IsNew state g slot process number
    is_new = record { below = is_free.0; free = is_free.1; none = k.fresh.none }

    torn : KeepsTorn g.parts.maps new.maps
    torn = keeps_torn-new g.parts.maps slot process number shown count is_free.0 is_free.1

    step : flat_step state process op ≡ (later, Done)
    step = step_done state process op (refused-same g v d cpu op f k.starts.has ∙ k.starts.accepted) ∙ k.does

    sound : IsSound later
    sound = subst IsSound (ap (λ (out : FlatState × Reply). out.0) step)
        (sound-flat_step state process op (command_in_range g.plan cpu (processor_at g cpu).place op f.sizes.range k.starts.has.command) f.flat.sound)

pub Fit-mapped : (g : GuestState) (v : StorageView) (d : DiskView) (cpu number file first count : ℕ) (writable : Bool) (slot : ℕ) → Fit g v d
    → Starts g cpu (MapFile number file first count writable) → free_slot g.parts.maps ≡ Some slot
    → Fit (entered (with_parts g (record g.parts { maps = with_slot_mapped g.parts.maps slot (process_of g.plan cpu) number (OfFile file first writable) count })) cpu
    (MapFile number file first count writable) Done) v d
Fit-mapped g v d cpu number file first count writable slot f starts free =
    Fit-new g v d cpu (MapFile number file first count writable) slot number count (OfFile file first writable) (FlatFile file first writable) f
    (record { starts = starts; fresh = fresh; shape = refl; does = refl; mine = λ index never. absurd (cc never) })
  where
    accepted : (find_slot g.parts.maps (process_of g.plan cpu) number ≡ None) × (file_has_bytes g.plan.files file (PAGE * first) (PAGE * count) ≡ true)
    accepted = accepted_new g (file_has_bytes g.plan.files file (PAGE * first) (PAGE * count)) (find_slot g.parts.maps (process_of g.plan cpu) number) starts.accepted

    fresh : NewMapping g.parts slot (process_of g.plan cpu) number (OfFile file first writable) count
    fresh =
        let bytes = has_bytes-file g v d file (PAGE * first) (PAGE * count) f.sizes accepted.1 in
        let range = command_in_range g.plan cpu (processor_at g cpu).place (MapFile number file first count writable) f.sizes.range starts.has.command in
        record { free = free; none = accepted.0; some = range.2.some; few = range.2.most; shows = (bytes.file_below, whole_pages first count _ bytes.within) }

-- pages of its own
pub Fit-mapped_own : (g : GuestState) (v : StorageView) (d : DiskView) (cpu number count slot : ℕ) → Fit g v d → Starts g cpu (MapAnon number count) → free_slot g.parts.maps ≡ Some slot
    → Fit (entered (with_parts g (record g.parts { maps = with_slot_mapped g.parts.maps slot (process_of g.plan cpu) number OfItsOwn count })) cpu (MapAnon number count) Done) v d
Fit-mapped_own g v d cpu number count slot f starts free =
    Fit-new g v d cpu (MapAnon number count) slot number count OfItsOwn (Anonymous (zeros (PAGE * count))) f
    (record { starts = starts; fresh = fresh; shape = refl; does = refl; mine = λ index its below. zeros-new flat g v d slot process number count index f is_new (is_tag index below) below })
  where
    flat : FlatState
    flat = flat_of g.plan g.journal

    process : ℕ
    process = process_of g.plan cpu

    range : OpInRange (MapAnon number count)
    range = command_in_range g.plan cpu (processor_at g cpu).place (MapAnon number count) f.sizes.range starts.has.command

    fresh : NewMapping g.parts slot process number OfItsOwn count
    fresh =
        let accepted = accepted_new g true (find_slot g.parts.maps process number) starts.accepted in
        record { free = free; none = accepted.0; some = range.1.some; few = range.1.most; shows = tt }

    is_new : IsNew flat g slot process number
    is_new = let is_free = free_slot-is g.parts.maps slot free in record { below = is_free.0; free = is_free.1; none = fresh.none }

    is_tag : (index : ℕ) → index < count → IsTag g.parts.cache (Anon slot index)
    is_tag index below = (omega (arith, is_new.below, f.slots.slots, f.sizes.slots), omega (arith, below, fresh.few))
