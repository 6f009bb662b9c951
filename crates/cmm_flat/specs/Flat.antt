-- One step of the flat machine: the refusals of each operation, and what it does otherwise.
use Rattle.std.specs.Prelude.{ℕ, ◌+◌, ◌*◌, Bool, true, false, not, ◌&&◌, nat_lt, nat_le, if◌then◌else◌, List, [], ◌∷◌, length, get_or, set, replicate, Option, Some, None, is_some}
use Rattle.std.specs.List.{list_any}
use Rattle.std.specs.FinMap as finite
use Rattle.cmm_types.specs.declared.page.TheConstants.{PAGE}
use Rattle.cmm_types.specs.declared.plan.TheConstants.{MAX_LIVE_MAPPINGS}
use Rattle.cmm_types.specs.declared.command.Op.{Op}
use Rattle.cmm_types.specs.declared.command.Op.TheVariants.{Read, Write, Sync, MapFile, MapAnon, Unmap, Load, Store, Pin, Unpin}
use Rattle.cmm_types.specs.declared.command.Reply.{Reply}
use Rattle.cmm_types.specs.declared.command.Reply.TheVariants.{Done, Bytes, Refused}
use Rattle.cmm_types.specs.declared.command.FlatRefusal.{FlatRefusal}
use Rattle.cmm_types.specs.declared.command.FlatRefusal.TheVariants.{NoMapping, AlreadyMapped, OutOfRange, ReadOnly, Pinned, NotPinned, TooManyMaps}
use Rattle.cmm_flat.specs.declared.mapping.Mapping.{Mapping}
use Rattle.cmm_flat.specs.declared.mapping.Shown.{Shown}
use Rattle.cmm_flat.specs.declared.mapping.Shown.TheVariants.{OfFile, Anonymous}
use Rattle.cmm_types.specs.Bytes.{zeros, bytes_at, with_bytes}
use Rattle.cmm_flat.specs.Mapping.{length_of, shows_writable, written, with_pin}
use Rattle.cmm_flat.specs.State.{FlatState, key_of, mapping_at, file_at}

-- a test of the live mapping, which fails where there is none
abbrev pub of_live : (Mapping → Bool) → Option Mapping → Bool
of_live test None = false
of_live test (Some mapping) = test mapping

abbrev pub is_live : FlatState → ℕ → ℕ → Bool
is_live state process number = is_some (mapping_at state process number)

-- the guest has as many live mappings as it may
abbrev pub is_full : FlatState → Bool
is_full state = nat_le MAX_LIVE_MAPPINGS (finite.len state.mappings)

-- there is such a file, and it has len bytes from off on
abbrev pub in_file : List (List ℕ) → ℕ → ℕ → ℕ → Bool
in_file files file off len = nat_lt file (length files) && nat_le (off + len) (length (file_at files file))

-- the mapping has len bytes from off on
abbrev pub in_mapping : ℕ → ℕ → Mapping → Bool
in_mapping off len mapping = nat_le (off + len) (length_of mapping)

abbrev pub has_page : ℕ → Mapping → Bool
has_page page mapping = nat_lt page (length mapping.pins)

abbrev pub pins_page : ℕ → Mapping → Bool
pins_page page mapping = get_or mapping.pins page false

abbrev pub has_pin : Mapping → Bool
has_pin mapping = list_any (λ pin. pin) mapping.pins

-- the reasons to refuse an operation, with their tests, in the order in which they are tried
abbrev pub refusals : FlatState → ℕ → Op → List (Bool × FlatRefusal)
refusals state process (Read file off len) = (not (in_file state.files file off len), OutOfRange) ∷ []
refusals state process (Write file off bytes) = (not (in_file state.files file off (length bytes)), OutOfRange) ∷ []
refusals state process (Sync file) = (not (nat_lt file (length state.files)), OutOfRange) ∷ []
refusals state process (MapFile number file first count writable) =
    (is_live state process number, AlreadyMapped)
    ∷ (not (in_file state.files file (PAGE * first) (PAGE * count)), OutOfRange)
    ∷ (is_full state, TooManyMaps) ∷ []
refusals state process (MapAnon number count) = (is_live state process number, AlreadyMapped) ∷ (is_full state, TooManyMaps) ∷ []
refusals state process (Unmap number) =
    let mapping = mapping_at state process number in
    (not (is_some mapping), NoMapping) ∷ (of_live has_pin mapping, Pinned) ∷ []
refusals state process (Load number off len) =
    let mapping = mapping_at state process number in
    (not (is_some mapping), NoMapping) ∷ (not (of_live (in_mapping off len) mapping), OutOfRange) ∷ []
refusals state process (Store number off bytes) =
    let mapping = mapping_at state process number in
    (not (is_some mapping), NoMapping)
    ∷ (not (of_live (in_mapping off (length bytes)) mapping), OutOfRange)
    ∷ (not (of_live (λ m. shows_writable m.shown) mapping), ReadOnly) ∷ []
refusals state process (Pin number page) =
    let mapping = mapping_at state process number in
    (not (is_some mapping), NoMapping)
    ∷ (not (of_live (has_page page) mapping), OutOfRange)
    ∷ (of_live (pins_page page) mapping, Pinned) ∷ []
refusals state process (Unpin number page) =
    let mapping = mapping_at state process number in
    (not (is_some mapping), NoMapping)
    ∷ (not (of_live (has_page page) mapping), OutOfRange)
    ∷ (not (of_live (pins_page page) mapping), NotPinned) ∷ []

abbrev pub first_refusal : List (Bool × FlatRefusal) → Option FlatRefusal
first_refusal [] = None
first_refusal (reason ∷ reasons) = if reason.0 then Some reason.1 else first_refusal reasons

-- the refusal of an operation, if it is refused
abbrev pub refusal_of : FlatState → ℕ → Op → Option FlatRefusal
refusal_of state process op = first_refusal (refusals state process op)

-- the bytes of what a mapping shows
abbrev pub loaded : List (List ℕ) → Shown → ℕ → ℕ → List ℕ
loaded files (OfFile file first writable) off len = bytes_at (file_at files file) (PAGE * first + off) len
loaded files (Anonymous own) off len = bytes_at own off len

-- the bytes stand in the file at off
abbrev pub with_file_bytes : FlatState → ℕ → ℕ → List ℕ → FlatState
with_file_bytes state file off bytes = record state { files = set state.files file (with_bytes (file_at state.files file) off bytes) }

-- the mapping is live
abbrev pub with_mapping : FlatState → ℕ → ℕ → Mapping → FlatState
with_mapping state process number mapping = record state { mappings = finite.insert state.mappings (key_of process number) mapping }

-- the number isn't live
abbrev pub without_mapping : FlatState → ℕ → ℕ → FlatState
without_mapping state process number = record state { mappings = finite.remove state.mappings (key_of process number) }

-- the bytes stand in what the mapping shows
abbrev pub stored : FlatState → ℕ → ℕ → Mapping → Shown → ℕ → List ℕ → FlatState
stored state process number mapping (OfFile file first writable) off bytes = with_file_bytes state file (PAGE * first + off) bytes
stored state process number mapping (Anonymous own) off bytes = with_mapping state process number (written mapping off bytes)

abbrev pub none_pinned : ℕ → List Bool
none_pinned count = replicate count false

-- what an operation of a live mapping does
abbrev pub on_live : FlatState → Option Mapping → (Mapping → FlatState × Reply) → FlatState × Reply
on_live state None does = (state, Done)
on_live state (Some mapping) does = does mapping

-- what an operation that isn't refused does
abbrev pub effect : FlatState → ℕ → Op → FlatState × Reply
effect state process (Read file off len) = (state, Bytes (bytes_at (file_at state.files file) off len))
effect state process (Write file off bytes) = (with_file_bytes state file off bytes, Done)
effect state process (Sync file) = (state, Done)
effect state process (MapFile number file first count writable) =
    (with_mapping state process number (record { shown = OfFile file first writable; pins = none_pinned count }), Done)
effect state process (MapAnon number count) =
    (with_mapping state process number (record { shown = Anonymous (zeros (PAGE * count)); pins = none_pinned count }), Done)
effect state process (Unmap number) = (without_mapping state process number, Done)
effect state process (Load number off len) =
    on_live state (mapping_at state process number) (λ mapping. (state, Bytes (loaded state.files mapping.shown off len)))
effect state process (Store number off bytes) =
    on_live state (mapping_at state process number) (λ mapping. (stored state process number mapping mapping.shown off bytes, Done))
effect state process (Pin number page) =
    on_live state (mapping_at state process number) (λ mapping. (with_mapping state process number (with_pin mapping page true), Done))
effect state process (Unpin number page) =
    on_live state (mapping_at state process number) (λ mapping. (with_mapping state process number (with_pin mapping page false), Done))

-- a refusal leaves the state
abbrev pub unless_refused : FlatState → Option FlatRefusal → FlatState × Reply → FlatState × Reply
unless_refused state (Some refusal) outcome = (state, Refused refusal)
unless_refused state None outcome = outcome

-- the state after an operation of a process, and its reply
abbrev pub flat_step : FlatState → ℕ → Op → FlatState × Reply
flat_step state process op = unless_refused state (refusal_of state process op) (effect state process op)
