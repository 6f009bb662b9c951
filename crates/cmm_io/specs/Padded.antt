-- Bytes filled up with zeros to a page's size.
use Rattle.std.specs.Prelude.{ℕ, ◌-◌, List, ◌++◌, length, replicate}
use Rattle.cmm_types.specs.declared.page.TheConstants.{PAGE}

abbrev pub padded : List ℕ → List ℕ
padded bytes = bytes ++ replicate (PAGE - length bytes) 0
