-- What writing a text does to a sink: to the bytes that it tells as written, and to its count of faults.
use Rattle.std.specs.Prelude.{◌≡◌, ℕ, ◌≤◌, List, length, take, Option, Result, OnOk, OnErr}
use Rattle.std.specs.Io.KnownBytes.{Appends}
use Rattle.cmm_io.specs.Faults.{raised}

-- some front of these bytes was written behind what was written before
abbrev pub AppendsFront : Option (List ℕ) → Option (List ℕ) → List ℕ → Type 0
AppendsFront old new bytes = (n : ℕ) × (n ≤ length bytes) × Appends old new (take n bytes)

-- the whole text was written behind what was written before, or a write failed behind a front of it
pub record Writes {K : Type 0} (faults : K → ℕ) (written : K → Option (List ℕ)) (old new : K) (text : List ℕ) {T E : Type 0} (result : Result T E) : Type 0 where
  pub whole : OnOk result (Appends (written old) (written new) text)
  pub no_fault : OnOk result (faults new ≡ faults old)
  pub front : OnErr result (AppendsFront (written old) (written new) text)
  pub fault : OnErr result (faults new ≡ raised (faults old))
  pub never_falls : faults old ≤ faults new
