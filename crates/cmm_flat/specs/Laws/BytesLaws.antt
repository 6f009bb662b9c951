-- Laws of bytes at a place.
use Rattle.std.proofs.Common.{◌≡◌, ◌≤◌, ◌+◌, ◌++◌, length, ℕ, List, take, drop, arith}
use Rattle.std.proofs.lemmas.List.{length-append, length-take-le, length-drop}
use Rattle.cmm_types.specs.Bytes.{with_bytes}

-- new bytes take the key of as many old ones
pub length-with_bytes : (all : List ℕ) (off : ℕ) (bytes : List ℕ) → off + length bytes ≤ length all → length (with_bytes all off bytes) ≡ length all
length-with_bytes all off bytes within =
    let front : length (take off all) ≡ off = length-take-le off all (omega arith) in
    omega (arith, length-append (take off all ++ bytes) (drop (off + length bytes) all), length-append (take off all) bytes, length-drop (off + length bytes) all, front)
