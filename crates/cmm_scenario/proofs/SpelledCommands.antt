-- What is spelled of a command reads back.
use Rattle.std.proofs.Common.{◌≡◌, ◌≤◌, ◌+◌, ◌%◌, ℕ, Bool, true, false, List, [], ◌∷◌, ◌++◌, length, codes, Result, Ok, refl, arith}
use Rattle.std.specs.Prelude.{◌&&◌, nat_le}
use Rattle.std.specs.Fmt.{decimal}
use Rattle.std.proofs.lemmas.Bool.{and_from, le-leb}
use Rattle.hex.specs.Hex.{encode_lower, IsBytes}
use Rattle.cmm_types.specs.declared.page.TheConstants.{PAGE}
use Rattle.cmm_types.specs.declared.bytes.TheConstants.{MAX_BYTES}
use Rattle.cmm_types.specs.declared.command.Op.{Op}
use Rattle.cmm_types.specs.declared.command.Op.TheVariants.{Read, Write, Sync, MapFile, MapAnon, Unmap, Load, Store, Pin, Unpin}
use Rattle.cmm_types.specs.InRange.{IsPiece, ArePages, OpInRange}
use Rattle.cmm_scenario.specs.declared.fault.Kind.{Kind}
use Rattle.cmm_scenario.specs.declared.fault.Kind.TheVariants.{Range}
use Rattle.cmm_scenario.specs.Words.{take_end}
use Rattle.cmm_scenario.specs.Commands.{piece_of, read_of, write_of, sync_of, take_mode, mapfile_of, mapanon_of, unmap_of, load_of, store_of, mapping_page_of, pin_of, unpin_of, op_named, op_of}
use Rattle.cmm_scenario.specs.Spelling.{spaced, mode_word, op_text, WritesBytes}
use Rattle.cmm_scenario.proofs.SpelledWords.{then_ok, no_space, ends_word-spaced, first_word-append, after_word-append, word_at-append, number_at-spaced, bytes_at-spaced, checked-holds, within-is}

piece_of-is : (off len : ℕ) → IsPiece off len → piece_of off len ≡ Ok off
unfolding piece_of
piece_of-is off len p =
    then_ok _ _ _ _ (within-is 0 4194303 off (omega arith) (omega (arith, p.start)))
    (checked-holds (nat_le 1 len && nat_le len MAX_BYTES && nat_le (off % PAGE + len) PAGE) off Range
    (and_from (nat_le 1 len && nat_le len MAX_BYTES) (nat_le (off % PAGE + len) PAGE)
    (and_from (nat_le 1 len) (nat_le len MAX_BYTES) (le-leb 1 len p.some) (le-leb len MAX_BYTES p.most))
    (le-leb (off % PAGE + len) PAGE p.within_page)))

read_of-spelled : (file off len : ℕ) → file ≤ 63 → IsPiece off len → read_of (spaced (decimal file ∷ decimal off ∷ decimal len ∷ [])) ≡ Ok (Read file off len)
unfolding read_of take_end
read_of-spelled file off len few p =
    then_ok _ _ _ _ (number_at-spaced file (decimal off ∷ decimal len ∷ []) (omega arith))
    (then_ok _ _ _ _ (number_at-spaced off (decimal len ∷ []) (omega (arith, p.start)))
    (then_ok _ _ _ _ (number_at-spaced len [] (omega (arith, p.most)))
    (then_ok _ _ _ _ (within-is 0 63 file (omega arith) few)
    (then_ok _ _ _ _ (piece_of-is off len p) refl))))

load_of-spelled : (map off len : ℕ) → map ≤ 255 → IsPiece off len → load_of (spaced (decimal map ∷ decimal off ∷ decimal len ∷ [])) ≡ Ok (Load map off len)
unfolding load_of take_end
load_of-spelled map off len few p =
    then_ok _ _ _ _ (number_at-spaced map (decimal off ∷ decimal len ∷ []) (omega arith))
    (then_ok _ _ _ _ (number_at-spaced off (decimal len ∷ []) (omega (arith, p.start)))
    (then_ok _ _ _ _ (number_at-spaced len [] (omega (arith, p.most)))
    (then_ok _ _ _ _ (within-is 0 255 map (omega arith) few)
    (then_ok _ _ _ _ (piece_of-is off len p) refl))))

write_of-spelled : (file off : ℕ) (bytes : List ℕ) → file ≤ 63 → IsPiece off (length bytes) → IsBytes bytes
    → write_of (spaced (decimal file ∷ decimal off ∷ encode_lower bytes ∷ [])) ≡ Ok (Write file off bytes)
unfolding write_of take_end
write_of-spelled file off bytes few p h =
    then_ok _ _ _ _ (number_at-spaced file (decimal off ∷ encode_lower bytes ∷ []) (omega arith))
    (then_ok _ _ _ _ (number_at-spaced off (encode_lower bytes ∷ []) (omega (arith, p.start)))
    (then_ok _ _ _ _ (bytes_at-spaced bytes [] p.some p.most h)
    (then_ok _ _ _ _ (within-is 0 63 file (omega arith) few)
    (then_ok _ _ _ _ (piece_of-is off (length bytes) p) refl))))

store_of-spelled : (map off : ℕ) (bytes : List ℕ) → map ≤ 255 → IsPiece off (length bytes) → IsBytes bytes
    → store_of (spaced (decimal map ∷ decimal off ∷ encode_lower bytes ∷ [])) ≡ Ok (Store map off bytes)
unfolding store_of take_end
store_of-spelled map off bytes few p h =
    then_ok _ _ _ _ (number_at-spaced map (decimal off ∷ encode_lower bytes ∷ []) (omega arith))
    (then_ok _ _ _ _ (number_at-spaced off (encode_lower bytes ∷ []) (omega (arith, p.start)))
    (then_ok _ _ _ _ (bytes_at-spaced bytes [] p.some p.most h)
    (then_ok _ _ _ _ (within-is 0 255 map (omega arith) few)
    (then_ok _ _ _ _ (piece_of-is off (length bytes) p) refl))))

sync_of-spelled : (file : ℕ) → file ≤ 63 → sync_of (spaced (decimal file ∷ [])) ≡ Ok (Sync file)
unfolding sync_of take_end
sync_of-spelled file few =
    then_ok _ _ _ _ (number_at-spaced file [] (omega arith))
    (then_ok _ _ _ _ (within-is 0 63 file (omega arith) few) refl)

mode_at-spaced : (writable : Bool) → take_mode (spaced (mode_word writable ∷ [])) ≡ Ok (writable, [])
unfolding take_mode
mode_at-spaced true = then_ok _ _ _ _ (word_at-append (codes "rw") [] refl refl) refl
mode_at-spaced false = then_ok _ _ _ _ (word_at-append (codes "ro") [] refl refl) refl

mapfile_of-spelled : (map file first count : ℕ) (writable : Bool) → map ≤ 255 → file ≤ 63 → ArePages first count
    → mapfile_of (spaced (decimal map ∷ decimal file ∷ decimal first ∷ decimal count ∷ mode_word writable ∷ [])) ≡ Ok (MapFile map file first count writable)
unfolding mapfile_of take_end
mapfile_of-spelled map file first count writable m f p =
    then_ok _ _ _ _ (number_at-spaced map (decimal file ∷ decimal first ∷ decimal count ∷ mode_word writable ∷ []) (omega arith))
    (then_ok _ _ _ _ (number_at-spaced file (decimal first ∷ decimal count ∷ mode_word writable ∷ []) (omega arith))
    (then_ok _ _ _ _ (number_at-spaced first (decimal count ∷ mode_word writable ∷ []) (omega (arith, p.start)))
    (then_ok _ _ _ _ (number_at-spaced count (mode_word writable ∷ []) (omega (arith, p.most)))
    (then_ok _ _ _ _ (mode_at-spaced writable)
    (then_ok _ _ _ _ (within-is 0 255 map (omega arith) m)
    (then_ok _ _ _ _ (within-is 0 63 file (omega arith) f)
    (then_ok _ _ _ _ (within-is 0 1023 first (omega arith) (omega (arith, p.start)))
    (then_ok _ _ _ _ (within-is 1 1024 count p.some p.most) refl))))))))

mapanon_of-spelled : (map count : ℕ) → map ≤ 255 → ArePages 0 count → mapanon_of (spaced (decimal map ∷ decimal count ∷ [])) ≡ Ok (MapAnon map count)
unfolding mapanon_of take_end
mapanon_of-spelled map count m p =
    then_ok _ _ _ _ (number_at-spaced map (decimal count ∷ []) (omega arith))
    (then_ok _ _ _ _ (number_at-spaced count [] (omega (arith, p.most)))
    (then_ok _ _ _ _ (within-is 0 255 map (omega arith) m)
    (then_ok _ _ _ _ (within-is 1 1024 count p.some p.most) refl)))

unmap_of-spelled : (map : ℕ) → map ≤ 255 → unmap_of (spaced (decimal map ∷ [])) ≡ Ok (Unmap map)
unfolding unmap_of take_end
unmap_of-spelled map m =
    then_ok _ _ _ _ (number_at-spaced map [] (omega arith))
    (then_ok _ _ _ _ (within-is 0 255 map (omega arith) m) refl)

page_of-spelled : (map page : ℕ) → map ≤ 255 → page ≤ 1023 → mapping_page_of (spaced (decimal map ∷ decimal page ∷ [])) ≡ Ok (map, page)
unfolding mapping_page_of take_end
page_of-spelled map page m p =
    then_ok _ _ _ _ (number_at-spaced map (decimal page ∷ []) (omega arith))
    (then_ok _ _ _ _ (number_at-spaced page [] (omega arith))
    (then_ok _ _ _ _ (within-is 0 255 map (omega arith) m)
    (then_ok _ _ _ _ (within-is 0 1023 page (omega arith) p) refl)))

op_of-named : (name : List ℕ) (words : List (List ℕ)) (read : Result Op Kind) → no_space name ≡ true → op_named name (spaced words) ≡ read → op_of (name ++ spaced words) ≡ read
op_of-named name words read plain h =
    let ends = ends_word-spaced words in
    let first = first_word-append name (spaced words) plain ends in
    let after = after_word-append name (spaced words) plain ends in
    rw (first, after) h

pub op_of-text : (op : Op) → OpInRange op → WritesBytes op → op_of (op_text op) ≡ Ok op
unfolding op_named op_text pin_of unpin_of
op_of-text (Read file off len) h w = op_of-named (codes "read") (decimal file ∷ decimal off ∷ decimal len ∷ []) _ refl (read_of-spelled file off len (omega (arith, h.0)) h.1)
op_of-text (Write file off bytes) h w = op_of-named (codes "write") (decimal file ∷ decimal off ∷ encode_lower bytes ∷ []) _ refl (write_of-spelled file off bytes (omega (arith, h.0)) h.1 w)
op_of-text (Sync file) h w = op_of-named (codes "sync") (decimal file ∷ []) _ refl (sync_of-spelled file (omega (arith, h)))
op_of-text (MapFile map file first count writable) h w = op_of-named (codes "mapfile") (decimal map ∷ decimal file ∷ decimal first ∷ decimal count ∷ mode_word writable ∷ []) _ refl
    (mapfile_of-spelled map file first count writable (omega (arith, h.0)) (omega (arith, h.1)) h.2)
op_of-text (MapAnon map count) h w = op_of-named (codes "mapanon") (decimal map ∷ decimal count ∷ []) _ refl (mapanon_of-spelled map count (omega (arith, h.0)) h.1)
op_of-text (Unmap map) h w = op_of-named (codes "unmap") (decimal map ∷ []) _ refl (unmap_of-spelled map (omega (arith, h)))
op_of-text (Load map off len) h w = op_of-named (codes "load") (decimal map ∷ decimal off ∷ decimal len ∷ []) _ refl (load_of-spelled map off len (omega (arith, h.0)) h.1)
op_of-text (Store map off bytes) h w = op_of-named (codes "store") (decimal map ∷ decimal off ∷ encode_lower bytes ∷ []) _ refl (store_of-spelled map off bytes (omega (arith, h.0)) h.1 w)
op_of-text (Pin map page) h w = op_of-named (codes "pin") (decimal map ∷ decimal page ∷ []) _ refl (then_ok _ _ _ _ (page_of-spelled map page (omega (arith, h.0)) (omega (arith, h.1))) refl)
op_of-text (Unpin map page) h w = op_of-named (codes "unpin") (decimal map ∷ decimal page ∷ []) _ refl (then_ok _ _ _ _ (page_of-spelled map page (omega (arith, h.0)) (omega (arith, h.1))) refl)
