-- What the flat machine has, and how it opens: the files' bytes, and the live mappings by process and number.
use Rattle.std.specs.Prelude.{ℕ, ◌+◌, ◌*◌, ◌-◌, ◌<◌, ◌≤◌, ◌++◌, ◌≡◌, List, [], map, length, get_or, Option, IfSome, refl}
use Rattle.std.specs.Coded.{Coded, code_by, coded×, coded_list, coded_ℕ}
use Rattle.std.specs.FinMap as finite
use Rattle.cmm_types.specs.declared.page.TheConstants.{PAGE}
use Rattle.cmm_types.specs.declared.command.TheConstants.{MAX_MAPPING_PAGES}
use Rattle.cmm_types.specs.declared.plan.FilePlan.{FilePlan}
use Rattle.cmm_flat.specs.declared.mapping.MappingKey.{MappingKey}
use Rattle.cmm_flat.specs.declared.mapping.Mapping.{Mapping}
use Rattle.cmm_flat.specs.declared.mapping.Shown.{Shown}
use Rattle.cmm_flat.specs.declared.mapping.Shown.TheVariants.{OfFile, Anonymous}
use Rattle.cmm_types.specs.Bytes.{zeros}
use Rattle.cmm_flat.specs.Mapping.{key_cmp, coded_key, coded_mapping}

pub record FlatState : Type 0 where
  pub files : List (List ℕ)
  pub mappings : finite.FinMap key_cmp Mapping

abbrev pub coded_state : Coded FlatState
coded_state = code_by (List (List ℕ) × finite.FinMap key_cmp Mapping) (coded× (coded_list (coded_list coded_ℕ)) (finite.code coded_key coded_mapping)) (λ s. (s.files, s.mappings))
    (λ p. record { files = p.0; mappings = p.1 }) (λ _. refl)

-- a file's head, followed by zeros
abbrev pub opening_file : FilePlan → List ℕ
opening_file plan = plan.head ++ zeros (PAGE * plan.pages - length plan.head)

-- the files as planned, and no mapping
abbrev pub opening : List FilePlan → FlatState
opening plans = record { files = map opening_file plans; mappings = finite.empty }

abbrev pub key_of : ℕ → ℕ → MappingKey
key_of process number = record { process = process; map = number }

-- the live mapping with this number in this process
abbrev pub mapping_at : FlatState → ℕ → ℕ → Option Mapping
mapping_at state process number = finite.get state.mappings (key_of process number)

-- a file's bytes; none where there is no such file
abbrev pub file_at : List (List ℕ) → ℕ → List ℕ
file_at files file = get_or files file []

-- a file has the pages that are shown of it, and anonymous bytes are as many as the pages hold
abbrev pub ShowsPages : List (List ℕ) → Shown → ℕ → Type 0
ShowsPages files (OfFile file first writable) count = (file < length files) × (PAGE * (first + count) ≤ length (file_at files file))
ShowsPages files (Anonymous bytes) count = length bytes ≡ PAGE * count

abbrev pub Shows : List (List ℕ) → Mapping → Type 0
Shows files mapping = (length mapping.pins ≤ MAX_MAPPING_PAGES) × ShowsPages files mapping.shown (length mapping.pins)

-- each live mapping shows what there is
abbrev pub IsSound : FlatState → Type 0
IsSound state = (process number : ℕ) → IfSome (mapping_at state process number) (Shows state.files)
