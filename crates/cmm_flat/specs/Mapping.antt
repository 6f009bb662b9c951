-- A mapping and its key, in the order of processes and numbers, and as data.
use Rattle.std.specs.Prelude.{ℕ, ◌+◌, ◌*◌, ◌≤◌, Bool, true, List, length, refl, ◌≡◌, ◌⊎◌, set}
use Rattle.std.specs.Ordering.{nat_cmp, ordering_then}
use Rattle.std.specs.Coded.{Coded, code_by, coded×, coded⊎, coded_ℕ, coded_bool, coded_list}
use Rattle.std.proofs.Common.{inl, inr, Ordering}
use Rattle.cmm_types.specs.declared.page.TheConstants.{PAGE}
use Rattle.cmm_flat.specs.declared.mapping.MappingKey.{MappingKey}
use Rattle.cmm_flat.specs.declared.mapping.Mapping.{Mapping}
use Rattle.cmm_flat.specs.declared.mapping.Shown.{Shown}
use Rattle.cmm_flat.specs.declared.mapping.Shown.TheVariants.{OfFile, Anonymous}
use Rattle.cmm_types.specs.Bytes.{with_bytes}

-- by process, and then by number
abbrev pub key_cmp : MappingKey → MappingKey → Ordering
key_cmp a b = ordering_then (nat_cmp a.process b.process) (nat_cmp a.map b.map)

abbrev pub coded_key : Coded MappingKey
coded_key = code_by (ℕ × ℕ) (coded× coded_ℕ coded_ℕ) (λ p. (p.process, p.map)) (λ p. record { process = p.0; map = p.1 }) (λ _. refl)

abbrev parts : Shown → ((ℕ × (ℕ × Bool)) ⊎ List ℕ)
parts (OfFile file first writable) = inl (file, (first, writable))
parts (Anonymous bytes) = inr bytes

abbrev whole : ((ℕ × (ℕ × Bool)) ⊎ List ℕ) → Shown
whole (inl p) = OfFile p.0 p.1.0 p.1.1
whole (inr bytes) = Anonymous bytes

pub whole-parts : (shown : Shown) → whole (parts shown) ≡ shown
whole-parts (OfFile file first writable) = refl
whole-parts (Anonymous bytes) = refl

abbrev pub coded_shown : Coded Shown
coded_shown = code_by ((ℕ × (ℕ × Bool)) ⊎ List ℕ) (coded⊎ (coded× coded_ℕ (coded× coded_ℕ coded_bool)) (coded_list coded_ℕ)) parts whole whole-parts

abbrev pub coded_mapping : Coded Mapping
coded_mapping = code_by (Shown × List Bool) (coded× coded_shown (coded_list coded_bool)) (λ m. (m.shown, m.pins)) (λ p. record { shown = p.0; pins = p.1 }) (λ _. refl)

-- its pages in bytes
abbrev pub length_of : Mapping → ℕ
length_of mapping = PAGE * length mapping.pins

-- anonymous mappings are writable
abbrev pub shows_writable : Shown → Bool
shows_writable (OfFile file first writable) = writable
shows_writable (Anonymous bytes) = true

-- bytes of its own, if it has such, reach to len bytes from off on
abbrev pub HasRoom : Shown → ℕ → ℕ → Type 0
HasRoom (OfFile file first writable) off len = Unit {0}
HasRoom (Anonymous own) off len = off + len ≤ length own

-- the mapping with these bytes of its own from off on
abbrev pub written : Mapping → ℕ → List ℕ → Mapping
written mapping off bytes = record mapping { shown = of mapping.shown }
  where
    of : Shown → Shown
    of (OfFile file first writable) = OfFile file first writable
    of (Anonymous own) = Anonymous (with_bytes own off bytes)

-- the mapping with the page pinned, or not
abbrev pub with_pin : Mapping → ℕ → Bool → Mapping
with_pin mapping page pin = record mapping { pins = set mapping.pins page pin }
