-- Laws of byte ranges: what a write leaves of other ranges, and what it makes of a range round it.
use Rattle.std.proofs.Common.{◌≡◌, ◌≤◌, ◌+◌, ◌-◌, ◌++◌, length, ℕ, List, take, drop, arith, ap, sym, ◌∙◌, refl, append_assoc}
use Rattle.std.proofs.lemmas.List.{length-append, length-take-le, length-drop, take-take, drop-take, take-append-le, drop-append-le, drop-drop, drop_at, take_at}
use Rattle.std.proofs.Math.Seq.{take-append-add}
use Rattle.cmm_types.specs.Bytes.{bytes_at, with_bytes}

-- the bytes that were written stand there
pub bytes_at-with_bytes : (all : List ℕ) (off : ℕ) (bytes : List ℕ) → off + length bytes ≤ length all → bytes_at (with_bytes all off bytes) off (length bytes) ≡ bytes
bytes_at-with_bytes all off bytes within =
    let front : length (take off all) ≡ off = length-take-le off all (omega arith) in
    let rest = drop (off + length bytes) all in
    ap (λ xs. take (length bytes) (drop off xs)) (append_assoc (take off all) bytes rest)
    ∙ ap (take (length bytes)) (drop_at (take off all) (bytes ++ rest) off front)
    ∙ take_at bytes rest (length bytes) refl

-- bytes below a write stay
pub bytes_at-with_bytes_below : (all : List ℕ) (off : ℕ) (bytes : List ℕ) (from len : ℕ) → off ≤ length all → from + len ≤ off → bytes_at (with_bytes all off bytes) from len ≡ bytes_at all from len
bytes_at-with_bytes_below all off bytes from len within below =
    let front : length (take off all) ≡ off = length-take-le off all within in
    let rest = bytes ++ drop (off + length bytes) all in
    let start : from ≤ length (take off all) = omega (arith, front) in
    let room : len ≤ length (drop from (take off all)) = omega (arith, front, length-drop from (take off all)) in
    let split : off ≡ from + (off - from) = omega arith in
    ap (λ xs. take len (drop from xs)) (append_assoc (take off all) bytes (drop (off + length bytes) all))
    ∙ ap (take len) (drop-append-le from (take off all) rest start)
    ∙ take-append-le len (drop from (take off all)) rest room
    ∙ ap (λ n. take len (drop from (take n all))) split
    ∙ ap (take len) (drop-take from (off - from) all)
    ∙ take-take len (off - from) (drop from all) (omega arith)

-- bytes above a write stay
pub bytes_at-with_bytes_above : (all : List ℕ) (off : ℕ) (bytes : List ℕ) (from len : ℕ) → off + length bytes ≤ length all → off + length bytes ≤ from
    → bytes_at (with_bytes all off bytes) from len ≡ bytes_at all from len
bytes_at-with_bytes_above all off bytes from len within above =
    let end = off + length bytes in
    let front : length (take off all) ≡ off = length-take-le off all (omega arith) in
    let both : length (take off all ++ bytes) ≡ end = omega (arith, front, length-append (take off all) bytes) in
    let split : from ≡ end + (from - end) = omega arith in
    ap (take len)
    (ap (λ n. drop n (with_bytes all off bytes)) split
    ∙ sym (drop-drop (from - end) end (with_bytes all off bytes))
    ∙ ap (drop (from - end)) (drop_at (take off all ++ bytes) (drop end all) end both)
    ∙ drop-drop (from - end) end all
    ∙ ap (λ n. drop n all) (sym split))

-- a range that holds the whole write has it at its own place
pub bytes_at-with_bytes_round : (all : List ℕ) (off : ℕ) (bytes : List ℕ) (from len : ℕ) → off + length bytes ≤ length all → from ≤ off → off + length bytes ≤ from + len
    → bytes_at (with_bytes all off bytes) from len ≡ with_bytes (bytes_at all from len) (off - from) bytes
bytes_at-with_bytes_round all off bytes from len within start end =
    let n = length bytes in
    let d = off - from in
    let m = len - d in
    let part = drop from all in
    let rest = drop (off + n) all in
    let front : length (take off all) ≡ off = length-take-le off all (omega arith) in
    let split : off ≡ from + d = omega arith in
    let before : drop from (take off all) ≡ take d part = ap (λ k. drop from (take k all)) split ∙ drop-take from d all in
    let short : length (take d part) ≡ d = length-take-le d part (omega (arith, length-drop from all)) in
    let len_is : len ≡ length (take d part) + m = omega (arith, short) in
    let m_is : m ≡ n + (m - n) = omega arith in
    let tail : drop (d + n) (take len part) ≡ take (m - n) rest =
    ap (λ k. drop (d + n) (take k part)) (omega arith) ∙ drop-take (d + n) (m - n) part ∙ ap (take (m - n)) (drop-drop (d + n) from all ∙ ap (λ k. drop k all) (omega arith)) in
    ap (λ xs. take len (drop from xs)) (append_assoc (take off all) bytes rest)
    ∙ ap (take len) (drop-append-le from (take off all) (bytes ++ rest) (omega (arith, front)) ∙ ap (λ xs. xs ++ (bytes ++ rest)) before)
    ∙ ap (λ k. take k (take d part ++ (bytes ++ rest))) len_is
    ∙ take-append-add (take d part) (bytes ++ rest) m
    ∙ ap (λ xs. take d part ++ xs) (ap (λ k. take k (bytes ++ rest)) m_is ∙ take-append-add bytes rest (m - n))
    ∙ sym (append_assoc (take d part) bytes (take (m - n) rest))
    ∙ ap (λ xs. xs ++ bytes ++ take (m - n) rest) (sym (take-take d len part (omega arith)))
    ∙ ap (λ xs. take d (take len part) ++ bytes ++ xs) (sym tail)

-- a range of a range
pub bytes_at-bytes_at : (all : List ℕ) (from len off n : ℕ) → off + n ≤ len → bytes_at (bytes_at all from len) off n ≡ bytes_at all (from + off) n
bytes_at-bytes_at all from len off n within =
    ap (λ k. take n (drop off (take k (drop from all)))) (omega arith)
    ∙ ap (take n) (drop-take off (len - off) (drop from all))
    ∙ take-take n (len - off) (drop off (drop from all)) (omega arith)
    ∙ ap (take n) (drop-drop off from all)
