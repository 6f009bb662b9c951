use Rattle.std.proofs.Common.{◌≡◌, ◌∙◌, ℕ, ◌+◌, ◌-◌, ◌*◌, ◌<◌, ◌≤◌, List, [], ◌∷◌, ◌++◌, length, drop, replicate, map, sym, ap, subst, arith, All}
use Rattle.std.proofs.Math.Nat.{mul-le-mul_left}
use Rattle.std.specs.List.{flat_map, range_with_len, sum_by}
use Rattle.std.proofs.lemmas.List.{length-append, length-take, length-drop, length-replicate, append_assoc}
use Rattle.std.proofs.lemmas.List.Elements.{All-append, All-map, All-replicate, All-head, All-tail, All-nil}
use Rattle.std.proofs.lemmas.List.Concat.{length-flat_map}
use mathlib.Core.Path.{fun_ext}
use Rattle.std.proofs.lemmas.List.FromFn.{length-range_with_len, length-map-range_with_len, get_or-range_with_len, map-range_with_len_more}
use Rattle.cmm_types.specs.declared.page.TheConstants.{PAGE}
use Rattle.cmm_types.specs.declared.plan.FilePlan.{FilePlan}
use Rattle.cmm_types.specs.InRange.{FileInRange, file_pages_of}
use Rattle.cmm_io.specs.DiskOf.{page_at, file_bytes, file_blocks, disk_of}
use Rattle.cmm_types.specs.Bytes.{zero_page}
use Rattle.cmm_types.specs.Laws.BytesLaws.{length-zero_page}

length-file_bytes : (file : FilePlan) → length file.head ≤ PAGE * file.pages → length (file_bytes file) ≡ PAGE * file.pages
length-file_bytes file fits =
    let zeros_of : List ℕ = replicate (PAGE * file.pages - length file.head) 0 in
    let size : length zeros_of ≡ PAGE * file.pages - length file.head = length-replicate {A = ℕ} _ _ in
    omega (arith, length-append file.head zeros_of)

length-page_at : (bytes : List ℕ) (pages index : ℕ) → length bytes ≡ PAGE * pages → index < pages → length (page_at bytes index) ≡ PAGE
length-page_at bytes pages index size below =
    let next : index + 1 ≤ pages = omega arith in
    omega (arith, mul-le-mul_left PAGE next, length-take PAGE (drop (PAGE * index) bytes), length-drop (PAGE * index) bytes)

below : (n : ℕ) → All (λ k. k < n) (range_with_len 0 n)
below n k d l =
    let size : k < n = subst (λ m. k < m) (length-range_with_len 0 n) l in
    subst (λ x. x < n) (sym (get_or-range_with_len 0 n k d size)) (omega arith)

whole_file : (file : FilePlan) → FileInRange file → All (λ bytes. length bytes ≡ PAGE) (file_blocks file)
whole_file file r =
    All-map (λ bytes. length bytes ≡ PAGE) (page_at (file_bytes file)) (range_with_len 0 file.pages)
    (λ k d l. length-page_at (file_bytes file) file.pages _ (length-file_bytes file r.head) (below file.pages k d l))

whole_files : (files : List FilePlan) → All FileInRange files → All (λ bytes. length bytes ≡ PAGE) (flat_map file_blocks files)
whole_files [] r = All-nil (λ bytes. length bytes ≡ PAGE)
whole_files (file ∷ files) r =
    All-append (λ bytes. length bytes ≡ PAGE) (file_blocks file) (flat_map file_blocks files) (whole_file file (All-head FileInRange file files r))
    (whole_files files (All-tail FileInRange file files r))

pub whole_disk : (files : List FilePlan) (swap : ℕ) → All FileInRange files → All (λ bytes. length bytes ≡ PAGE) (disk_of files swap)
whole_disk files swap r = All-append (λ bytes. length bytes ≡ PAGE) (flat_map file_blocks files) (replicate swap zero_page) (whole_files files r)
    (All-replicate (λ bytes. length bytes ≡ PAGE) swap zero_page length-zero_page)

pub length-disk_of : (files : List FilePlan) (swap : ℕ) → length (disk_of files swap) ≡ file_pages_of files + swap
length-disk_of files swap =
    length-append (flat_map file_blocks files) (replicate swap zero_page)
    ∙ ap (λ n. length (flat_map file_blocks files) + n) (length-replicate swap zero_page)
    ∙ ap (λ n. n + swap) (length-flat_map file_blocks files ∙ ap (λ f. sum_by f files) (fun_ext (λ file. length-map-range_with_len (page_at (file_bytes file)) 0 file.pages)))

-- one more page behind the blocks
pub page_more : (before blocks : List (List ℕ)) (block : List ℕ) (f : ℕ → List ℕ) (n : ℕ) → blocks ≡ before ++ map f (range_with_len 0 n) → block ≡ f n
    → blocks ++ block ∷ [] ≡ before ++ map f (range_with_len 0 (n + 1))
page_more before blocks block f n e b =
    ap (λ l. l ++ block ∷ []) e ∙ append_assoc before _ _ ∙ ap (λ x. before ++ (map f (range_with_len 0 n) ++ x ∷ [])) b ∙ ap (λ l. before ++ l) (sym (map-range_with_len_more f 0 n n (omega arith)))
