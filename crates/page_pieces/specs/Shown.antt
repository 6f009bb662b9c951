-- What a piece shows of the bytes that were written to it.
use Rattle.std.specs.Prelude.{ℕ, List, ◌-◌, ◌++◌, length, replicate}
use Rattle.cmm_types.specs.declared.page.TheConstants.{PAGE}

-- the bytes that were written, and zeros up to a page's size
abbrev pub shown : List ℕ → List ℕ
shown written = written ++ replicate (PAGE - length written) 0
