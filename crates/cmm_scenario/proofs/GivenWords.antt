-- Commands and events that are read are in their ranges.
use Rattle.std.proofs.Common.{◌≡◌, ℕ, ◌+◌, ◌%◌, ◌<◌, ◌≤◌, true, List, length, arith}
use Rattle.std.specs.Prelude.{◌&&◌, nat_le, nat_lt, slice_get, codes}
use Rattle.std.specs.Str.{bytes_eq}
use Rattle.std.specs.Option.{ok_or}
use Rattle.std.proofs.lemmas.Bool.{and_parts, leb-true, ltb-true}
use Rattle.cmm_types.specs.declared.page.TheConstants.{PAGE}
use Rattle.cmm_types.specs.declared.bytes.TheConstants.{MAX_BYTES}
use Rattle.cmm_types.specs.declared.page.Move.{Move}
use Rattle.cmm_types.specs.declared.page.Move.TheVariants.{Discard, Preserve, Bring, Age}
use Rattle.cmm_types.specs.declared.plan.GuestPlan.{GuestPlan}
use Rattle.cmm_types.specs.InRange.{IsPiece, OpInRange, GuestHas, EventInRange}
use Rattle.cmm_scenario.specs.declared.fault.Kind.TheVariants.{Range}
use Rattle.cmm_scenario.specs.Words.{leading_word, after_word, take_number, take_end, take_bytes, within}
use Rattle.cmm_scenario.specs.Commands.{piece_of, read_of, write_of, sync_of, take_mode, mapfile_of, mapanon_of, unmap_of, load_of, store_of, mapping_page_of, pin_of, unpin_of, op_named, op_of}
use Rattle.cmm_scenario.specs.Events.{existing, pair_of, processor_of, guest_page_of, cpu_turn_of, alone_of, host_move_of, reclaiming_of, event_named, event_of}
use Rattle.cmm_scenario.proofs.Given.{Given, given_then, given_next, given_any, given_checked, given_if, ok_or-Some}

abbrev pub Between : ℕ → ℕ → ℕ → Type 0
Between low high n = (low ≤ n) × (n ≤ high)

pub within-given : (low high n : ℕ) → Given (Between low high) (within low high n)
unfolding within
within-given low high n = given_checked (Between low high) (nat_le low n && nat_le n high) n Range
    (λ h. (leb-true low n (and_parts (nat_le low n) (nat_le n high) h).0, leb-true n high (and_parts (nat_le low n) (nat_le n high) h).1))

is_piece : (start len : ℕ) → Between 0 4194303 start → (nat_le 1 len && nat_le len MAX_BYTES && nat_le (start % PAGE + len) PAGE) ≡ true → IsPiece start len
is_piece start len within h =
    let few : (nat_le 1 len && nat_le len MAX_BYTES) ≡ true = (and_parts (nat_le 1 len && nat_le len MAX_BYTES) (nat_le (start % PAGE + len) PAGE) h).0 in
    record {
      start = omega (arith, within.1);
      some = leb-true 1 len (and_parts (nat_le 1 len) (nat_le len MAX_BYTES) few).0;
      most = leb-true len MAX_BYTES (and_parts (nat_le 1 len) (nat_le len MAX_BYTES) few).1;
      within_page = leb-true (start % PAGE + len) PAGE (and_parts (nat_le 1 len && nat_le len MAX_BYTES) (nat_le (start % PAGE + len) PAGE) h).1;
    }

piece-given : (off len : ℕ) → Given (λ start. IsPiece start len) (piece_of off len)
unfolding piece_of
piece-given off len =
    given_next (Between 0 4194303) _ (within 0 4194303 off) _ (within-given 0 4194303 off)
    (λ start h. given_checked (λ s. IsPiece s len) (nat_le 1 len && nat_le len MAX_BYTES && nat_le (start % PAGE + len) PAGE) start Range (is_piece start len h))

pub read-given : (text : List ℕ) → Given OpInRange (read_of text)
unfolding read_of
read-given text =
    given_any OpInRange (take_number text) _ (λ file. given_any OpInRange (take_number file.1) _ (λ off. given_any OpInRange (take_number off.1) _ (λ len. given_any OpInRange (take_end len.1) _ (λ _.
    given_next (Between 0 63) OpInRange (within 0 63 file.0) _ (within-given 0 63 file.0) (λ number h.
    given_next (λ s. IsPiece s len.0) OpInRange (piece_of off.0 len.0) _ (piece-given off.0 len.0) (λ start piece. (omega (arith, h.1), piece)))))))

write-given : (text : List ℕ) → Given OpInRange (write_of text)
unfolding write_of
write-given text =
    given_any OpInRange (take_number text) _ (λ file. given_any OpInRange (take_number file.1) _
    (λ off. given_any OpInRange (take_bytes off.1) _ (λ bytes. given_any OpInRange (take_end bytes.1) _ (λ _.
    given_next (Between 0 63) OpInRange (within 0 63 file.0) _ (within-given 0 63 file.0) (λ number h.
    given_next (λ s. IsPiece s (length bytes.0)) OpInRange (piece_of off.0 (length bytes.0)) _ (piece-given off.0 (length bytes.0)) (λ start piece. (omega (arith, h.1), piece)))))))

sync-given : (text : List ℕ) → Given OpInRange (sync_of text)
unfolding sync_of
sync-given text =
    given_any OpInRange (take_number text) _ (λ file. given_any OpInRange (take_end file.1) _ (λ _.
    given_next (Between 0 63) OpInRange (within 0 63 file.0) _ (within-given 0 63 file.0) (λ number h. omega (arith, h.1))))

mapfile-given : (text : List ℕ) → Given OpInRange (mapfile_of text)
unfolding mapfile_of
mapfile-given text =
    given_any OpInRange (take_number text) _ (λ map. given_any OpInRange (take_number map.1) _
    (λ file. given_any OpInRange (take_number file.1) _ (λ first. given_any OpInRange (take_number first.1) _
    (λ count. given_any OpInRange (take_mode count.1) _ (λ mode. given_any OpInRange (take_end mode.1) _ (λ _.
    given_next (Between 0 255) OpInRange (within 0 255 map.0) _ (within-given 0 255 map.0) (λ number m.
    given_next (Between 0 63) OpInRange (within 0 63 file.0) _ (within-given 0 63 file.0) (λ from f.
    given_next (Between 0 1023) OpInRange (within 0 1023 first.0) _ (within-given 0 1023 first.0) (λ start s.
    given_next (Between 1 1024) OpInRange (within 1 1024 count.0) _ (within-given 1 1024 count.0) (λ pages p.
    (omega (arith, m.1), omega (arith, f.1), record { start = omega (arith, s.1); some = p.0; most = p.1 })))))))))))

mapanon-given : (text : List ℕ) → Given OpInRange (mapanon_of text)
unfolding mapanon_of
mapanon-given text =
    given_any OpInRange (take_number text) _ (λ map. given_any OpInRange (take_number map.1) _ (λ count. given_any OpInRange (take_end count.1) _ (λ _.
    given_next (Between 0 255) OpInRange (within 0 255 map.0) _ (within-given 0 255 map.0) (λ number m.
    given_next (Between 1 1024) OpInRange (within 1 1024 count.0) _ (within-given 1 1024 count.0) (λ pages p.
    (omega (arith, m.1), record { start = omega arith; some = p.0; most = p.1 }))))))

unmap-given : (text : List ℕ) → Given OpInRange (unmap_of text)
unfolding unmap_of
unmap-given text =
    given_any OpInRange (take_number text) _ (λ map. given_any OpInRange (take_end map.1) _ (λ _.
    given_next (Between 0 255) OpInRange (within 0 255 map.0) _ (within-given 0 255 map.0) (λ number m. omega (arith, m.1))))

load-given : (text : List ℕ) → Given OpInRange (load_of text)
unfolding load_of
load-given text =
    given_any OpInRange (take_number text) _ (λ map. given_any OpInRange (take_number map.1) _ (λ off. given_any OpInRange (take_number off.1) _ (λ len. given_any OpInRange (take_end len.1) _ (λ _.
    given_next (Between 0 255) OpInRange (within 0 255 map.0) _ (within-given 0 255 map.0) (λ number h.
    given_next (λ s. IsPiece s len.0) OpInRange (piece_of off.0 len.0) _ (piece-given off.0 len.0) (λ start piece. (omega (arith, h.1), piece)))))))

store-given : (text : List ℕ) → Given OpInRange (store_of text)
unfolding store_of
store-given text =
    given_any OpInRange (take_number text) _ (λ map. given_any OpInRange (take_number map.1) _ (λ off. given_any OpInRange (take_bytes off.1) _ (λ bytes. given_any OpInRange (take_end bytes.1) _ (λ _.
    given_next (Between 0 255) OpInRange (within 0 255 map.0) _ (within-given 0 255 map.0) (λ number h.
    given_next (λ s. IsPiece s (length bytes.0)) OpInRange (piece_of off.0 (length bytes.0)) _ (piece-given off.0 (length bytes.0)) (λ start piece. (omega (arith, h.1), piece)))))))

abbrev IsMappingPage : ℕ × ℕ → Type 0
IsMappingPage at = (at.0 < 256) × (at.1 < 1024)

page-given : (text : List ℕ) → Given IsMappingPage (mapping_page_of text)
unfolding mapping_page_of
page-given text =
    given_any IsMappingPage (take_number text) _ (λ map. given_any IsMappingPage (take_number map.1) _ (λ page. given_any IsMappingPage (take_end page.1) _ (λ _.
    given_next (Between 0 255) IsMappingPage (within 0 255 map.0) _ (within-given 0 255 map.0) (λ number m.
    given_next (Between 0 1023) IsMappingPage (within 0 1023 page.0) _ (within-given 0 1023 page.0) (λ index p. (omega (arith, m.1), omega (arith, p.1)))))))

pin-given : (text : List ℕ) → Given OpInRange (pin_of text)
unfolding pin_of
pin-given text = given_next IsMappingPage OpInRange (mapping_page_of text) _ (page-given text) (λ at h. h)

unpin-given : (text : List ℕ) → Given OpInRange (unpin_of text)
unfolding unpin_of
unpin-given text = given_next IsMappingPage OpInRange (mapping_page_of text) _ (page-given text) (λ at h. h)

pub op-given : (text : List ℕ) → Given OpInRange (op_of text)
unfolding op_named
op-given text =
    let name = leading_word text in
    let rest = after_word text in
    given_if OpInRange (bytes_eq name (codes "read")) _ _ (read-given rest) (
    given_if OpInRange (bytes_eq name (codes "write")) _ _ (write-given rest) (
    given_if OpInRange (bytes_eq name (codes "sync")) _ _ (sync-given rest) (
    given_if OpInRange (bytes_eq name (codes "mapfile")) _ _ (mapfile-given rest) (
    given_if OpInRange (bytes_eq name (codes "mapanon")) _ _ (mapanon-given rest) (
    given_if OpInRange (bytes_eq name (codes "unmap")) _ _ (unmap-given rest) (
    given_if OpInRange (bytes_eq name (codes "load")) _ _ (load-given rest) (
    given_if OpInRange (bytes_eq name (codes "store")) _ _ (store-given rest) (
    given_if OpInRange (bytes_eq name (codes "pin")) _ _ (pin-given rest) (
    given_if OpInRange (bytes_eq name (codes "unpin")) _ _ (unpin-given rest) tt)))))))))

-- ---- events

existing-given : (limit number : ℕ) → Given (λ n. n < limit) (existing limit number)
unfolding existing
existing-given limit number = given_checked (λ n. n < limit) (nat_lt number limit) number Range (λ h. ltb-true number limit h)

abbrev HasCpu : List GuestPlan → ℕ × ℕ → Type 0
HasCpu guests at = GuestHas guests at.0 (λ plan. at.1 < length plan.cpus)

processor-given : (guests : List GuestPlan) (text : List ℕ) → Given (HasCpu guests) (processor_of guests text)
unfolding processor_of
processor-given guests text =
    given_any (HasCpu guests) (pair_of text) _ (λ pair. given_any (HasCpu guests) (within 0 15 pair.0) _ (λ guest.
    given_then (HasCpu guests) (ok_or (slice_get guests guest) Range) _ (λ plan there. given_any (HasCpu guests) (within 0 7 pair.1) _ (λ number.
    given_next (λ n. n < length plan.cpus) (HasCpu guests) (existing (length plan.cpus) number) _ (existing-given (length plan.cpus) number)
    (λ cpu lt. (plan, ok_or-Some (slice_get guests guest) Range plan there, lt))))))

abbrev HasPage : List GuestPlan → ℕ × ℕ → Type 0
HasPage guests at = GuestHas guests at.0 (λ plan. at.1 < plan.pages)

guest_page-given : (guests : List GuestPlan) (text : List ℕ) → Given (HasPage guests) (guest_page_of guests text)
unfolding guest_page_of
guest_page-given guests text =
    given_any (HasPage guests) (pair_of text) _ (λ pair. given_any (HasPage guests) (within 0 15 pair.0) _ (λ guest.
    given_then (HasPage guests) (ok_or (slice_get guests guest) Range) _ (λ plan there. given_any (HasPage guests) (within 0 4095 pair.1) _ (λ number.
    given_next (λ n. n < plan.pages) (HasPage guests) (existing plan.pages number) _ (existing-given plan.pages number)
    (λ page lt. (plan, ok_or-Some (slice_get guests guest) Range plan there, lt))))))

cpu_turn-given : (guests : List GuestPlan) (text : List ℕ) → Given (EventInRange guests) (cpu_turn_of guests text)
unfolding cpu_turn_of
cpu_turn-given guests text = given_next (HasCpu guests) (EventInRange guests) (processor_of guests text) _ (processor-given guests text) (λ at h. h)

alone-given : (guests : List GuestPlan) (text : List ℕ) → Given (EventInRange guests) (alone_of guests text)
unfolding alone_of
alone-given guests text = given_next (HasCpu guests) (EventInRange guests) (processor_of guests text) _ (processor-given guests text) (λ at h. h)

move-given : (action : Move) (guests : List GuestPlan) (text : List ℕ) → Given (EventInRange guests) (host_move_of action guests text)
unfolding host_move_of
move-given action guests text = given_next (HasPage guests) (EventInRange guests) (guest_page_of guests text) _ (guest_page-given guests text) (λ at h. h)

reclaim-given : (guests : List GuestPlan) (text : List ℕ) → Given (EventInRange guests) (reclaiming_of text)
unfolding reclaiming_of
reclaim-given guests text =
    given_any (EventInRange guests) (take_number text) _ (λ number. given_any (EventInRange guests) (take_end number.1) _ (λ _.
    given_next (Between 1 65536) (EventInRange guests) (within 1 65536 number.0) _ (within-given 1 65536 number.0) (λ count h. h)))

pub event-given : (guests : List GuestPlan) (text : List ℕ) → Given (EventInRange guests) (event_of guests text)
unfolding event_named
event-given guests text =
    let name = leading_word text in
    let rest = after_word text in
    given_if (EventInRange guests) (bytes_eq name (codes "cpu")) _ _ (cpu_turn-given guests rest) (
    given_if (EventInRange guests) (bytes_eq name (codes "alone")) _ _ (alone-given guests rest) (
    given_if (EventInRange guests) (bytes_eq name (codes "discard")) _ _ (move-given Discard guests rest) (
    given_if (EventInRange guests) (bytes_eq name (codes "preserve")) _ _ (move-given Preserve guests rest) (
    given_if (EventInRange guests) (bytes_eq name (codes "bring")) _ _ (move-given Bring guests rest) (
    given_if (EventInRange guests) (bytes_eq name (codes "age")) _ _ (move-given Age guests rest) (
    given_if (EventInRange guests) (bytes_eq name (codes "reclaim")) _ _ (reclaim-given guests rest) tt))))))
