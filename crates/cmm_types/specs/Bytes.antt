-- Bytes at a place of a list of bytes, and a page of zeros.
use Rattle.std.specs.Prelude.{ℕ, ◌+◌, ◌++◌, List, take, drop, length, replicate}
use Rattle.cmm_types.specs.declared.page.TheConstants.{PAGE}

-- n bytes 0
unfoldable pub zeros : ℕ → List ℕ
zeros n = replicate n 0

unfoldable pub zero_page : List ℕ
zero_page = replicate PAGE 0

-- the len bytes from off on
abbrev pub bytes_at : List ℕ → ℕ → ℕ → List ℕ
bytes_at all off len = take len (drop off all)

-- the same but for the bytes from off on, of which there are as many as the new ones
abbrev pub with_bytes : List ℕ → ℕ → List ℕ → List ℕ
with_bytes all off bytes = take off all ++ bytes ++ drop (off + length bytes) all
