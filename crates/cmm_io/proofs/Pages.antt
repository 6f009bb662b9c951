use Rattle.std.proofs.Common.{◌≡◌, ◌∙◌, ℕ, ◌+◌, ◌-◌, ◌*◌, ◌<◌, ◌≤◌, List, ◌++◌, length, take, drop, replicate, min, sym, ap, ⊎_elim, arith}
use Rattle.std.proofs.Math.Nat.{mul-le-mul_left}
use Rattle.std.proofs.Math.Seq.{take-append-add, drop-append-add}
use Rattle.std.proofs.lemmas.Bool.{cases_lt}
use Rattle.std.proofs.lemmas.List.{length-take, length-drop, take-append-le, drop-append-le, append-nil, take_all, drop_all, take_min, drop_min, take-replicate, drop-replicate}
use Rattle.cmm_types.specs.declared.page.TheConstants.{PAGE}
use Rattle.cmm_types.specs.declared.plan.FilePlan.{FilePlan}
use Rattle.cmm_io.specs.DiskOf.{page_at, file_bytes}
use Rattle.cmm_io.specs.Padded.{padded}

take-append-any : (n : ℕ) (xs ys : List ℕ) → take n (xs ++ ys) ≡ take n xs ++ take (n - length xs) ys
take-append-any n xs ys =
    ⊎_elim
    (λ (short : n < length xs).
    let none : n - length xs ≡ 0 = omega arith in
    let within : n ≤ length xs = omega arith in
    take-append-le n xs ys within ∙ sym (append-nil _) ∙ ap (λ k. take n xs ++ take k ys) (sym none))
    (λ (long : length xs ≤ n).
    let whole : length xs + (n - length xs) ≡ n = omega arith in
    ap (λ k. take k (xs ++ ys)) (sym whole) ∙ take-append-add xs ys (n - length xs) ∙ ap (λ l. l ++ take (n - length xs) ys) (sym (take_all n xs long)))
    (cases_lt n (length xs))

drop-append-any : (n : ℕ) (xs ys : List ℕ) → drop n (xs ++ ys) ≡ drop n xs ++ drop (n - length xs) ys
drop-append-any n xs ys =
    ⊎_elim
    (λ (short : n < length xs).
    let none : n - length xs ≡ 0 = omega arith in
    let within : n ≤ length xs = omega arith in
    drop-append-le n xs ys within ∙ ap (λ k. drop n xs ++ drop k ys) (sym none))
    (λ (long : length xs ≤ n).
    let whole : length xs + (n - length xs) ≡ n = omega arith in
    ap (λ k. drop k (xs ++ ys)) (sym whole) ∙ drop-append-add xs ys (n - length xs) ∙ ap (λ l. l ++ drop (n - length xs) ys) (sym (drop_all n xs long)))
    (cases_lt n (length xs))

-- a part of size p from d on of some bytes with zeros behind them up to t
filled_part : (p d t : ℕ) (head : List ℕ) → d + p ≤ t → length head ≤ t
    → take p (drop d (head ++ replicate (t - length head) 0)) ≡ take p (drop d head) ++ replicate (p - length (take p (drop d head))) 0
filled_part p d t head part fits =
    let room : p - length (drop d head) ≤ (t - length head) - (d - length head) = omega (arith, length-drop d head) in
    let rest : p - length (drop d head) ≡ p - length (take p (drop d head)) = omega (arith, length-take p (drop d head)) in
    ap (take p) (drop-append-any d head _ ∙ ap (λ l. drop d head ++ l) (drop-replicate (d - length head) (t - length head) 0))
    ∙ take-append-any p (drop d head) _
    ∙ ap (λ l. take p (drop d head) ++ l) (take-replicate _ _ 0 room ∙ ap (λ n. replicate n 0) rest)

-- the slice that the disk copies
piece_of : (p d : ℕ) (head : List ℕ) (from to : ℕ) → from ≡ min (length head) d → to ≡ min (length head) (from + p) → take (to - from) (drop from head) ≡ take p (drop d head)
piece_of p d head from to f t =
    let start : from ≡ min d (length head) = omega arith in
    let size : to - from ≡ min p (length (drop d head)) = omega (arith, length-drop d head) in
    ap (λ n. take (to - from) (drop n head)) start
    ∙ ap (take (to - from)) (drop_min d head)
    ∙ ap (λ n. take n (drop d head)) size
    ∙ take_min p (drop d head)

-- the block that is made of the slice is the file's page
pub page_of_file : (file : FilePlan) (head block : List ℕ) (index from to : ℕ) → head ≡ file.head → length file.head ≤ PAGE * file.pages → index < file.pages
    → from ≡ min (length head) (PAGE * index) → to ≡ min (length head) (from + PAGE) → block ≡ padded (take (to - from) (drop from head)) → block ≡ page_at (file_bytes file) index
page_of_file file head block index from to same fits below f t is =
    let next : index + 1 ≤ file.pages = omega arith in
    let part : PAGE * index + PAGE ≤ PAGE * file.pages = omega (arith, mul-le-mul_left PAGE next) in
    is
    ∙ ap padded (piece_of PAGE (PAGE * index) head from to f t ∙ ap (λ bytes. take PAGE (drop (PAGE * index) bytes)) same)
    ∙ sym (filled_part PAGE (PAGE * index) (PAGE * file.pages) file.head part fits)

pub filled : (bytes head : List ℕ) (n : ℕ) → bytes ≡ head → n ≡ length head → length head ≤ PAGE → take PAGE bytes ++ replicate (PAGE - n) 0 ≡ padded head
filled bytes head n same size fits =
    ap (λ l. l ++ replicate (PAGE - n) 0) (ap (take PAGE) same ∙ take_all PAGE head fits) ∙ ap (λ k. head ++ replicate (PAGE - k) 0) size
