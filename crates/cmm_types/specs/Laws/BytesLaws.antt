-- The length of a page of zeros.
use Rattle.std.proofs.Common.{◌≡◌, ℕ, length}
use Rattle.std.proofs.lemmas.List.{length-replicate}
use Rattle.cmm_types.specs.declared.page.TheConstants.{PAGE}
use Rattle.cmm_types.specs.Bytes.{zero_page}

pub length-zero_page : length zero_page ≡ PAGE
unfolding zero_page
length-zero_page = length-replicate {A = ℕ} PAGE 0
