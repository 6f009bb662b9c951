-- Laws of the flat step of operations that are not refused, and of what is mapped after a change.
use Rattle.std.proofs.Common.{◌≡◌, ◌≢◌, ◌*◌, not, ℕ, true, false, cond, List, [], ◌∷◌, length, Some, None, is_some, refl, ap, ◌∙◌}
use Rattle.std.specs.FinMap as finite
use Rattle.std.specs.Ordering.{eq_by_cmp, is_eq}
use Rattle.std.specs.declared.cmp.Ordering.TheVariants.{Less, Equal, Greater}
use Rattle.std.specs.Cmp.{tied_itself}
use Rattle.cmm_types.specs.declared.page.TheConstants.{PAGE}
use Rattle.cmm_types.specs.declared.command.Op.{Op}
use Rattle.cmm_types.specs.declared.command.Op.TheVariants.{Read, MapAnon, Unmap, Load, Store}
use Rattle.cmm_types.specs.declared.command.Reply.TheVariants.{Done, Bytes, Refused}
use Rattle.cmm_types.specs.declared.command.FlatRefusal.{FlatRefusal}
use Rattle.cmm_types.specs.declared.command.FlatRefusal.TheVariants.{NoMapping, AlreadyMapped, OutOfRange, ReadOnly, Pinned, TooManyMaps}
use Rattle.cmm_flat.specs.declared.mapping.MappingKey.{MappingKey}
use Rattle.cmm_flat.specs.declared.mapping.Mapping.{Mapping}
use Rattle.cmm_flat.specs.declared.mapping.Shown.TheVariants.{Anonymous}
use Rattle.cmm_types.specs.Bytes.{zeros, bytes_at}
use Rattle.cmm_flat.specs.Mapping.{key_cmp, shows_writable}
use Rattle.cmm_flat.specs.Laws.KeyLaws.{exact_keys, keys_total}
use Rattle.cmm_flat.specs.State.{FlatState, key_of, mapping_at, file_at}
use Rattle.cmm_flat.specs.Flat.{of_live, is_full, in_file, in_mapping, has_pin, first_refusal, refusal_of, loaded}
use Rattle.cmm_flat.specs.Flat.{with_mapping, without_mapping, stored, none_pinned, on_live, effect, unless_refused, flat_step}

pub mapping_at-with_mapping : (state : FlatState) (process number : ℕ) (mapping : Mapping) → mapping_at (with_mapping state process number mapping) process number ≡ Some mapping
mapping_at-with_mapping state process number mapping =
    let q = key_of process number in
    finite.get-insert keys_total state.mappings q mapping q ∙ ap (λ r. cond (is_eq r) (Some mapping) (finite.get state.mappings q)) (tied_itself keys_total q)

pub mapping_at-without_mapping : (state : FlatState) (process number : ℕ) → mapping_at (without_mapping state process number) process number ≡ None
mapping_at-without_mapping state process number =
    let q = key_of process number in
    finite.get-remove keys_total state.mappings q q ∙ ap (λ r. cond (is_eq r) None (finite.get state.mappings q)) (tied_itself keys_total q)

-- keys that differ compare so
pub apart : (a b : MappingKey) → a ≢ b → eq_by_cmp key_cmp a b ≡ false
apart a b differ =
    elim (key_cmp a b) as (λ r. key_cmp a b ≡ r → is_eq r ≡ false) [
      | Less ↦ λ _. refl
      | Equal ↦ λ p. absurd (differ (exact_keys a b p))
      | Greater ↦ λ _. refl
    ] refl

-- another process, or another number, keeps its mapping
pub mapping_at-with_mapping_other : (state : FlatState) (process number : ℕ) (mapping : Mapping) (p n : ℕ) → key_of p n ≢ key_of process number
    → mapping_at (with_mapping state process number mapping) p n ≡ mapping_at state p n
mapping_at-with_mapping_other state process number mapping p n differ =
    finite.get-insert keys_total state.mappings (key_of process number) mapping (key_of p n)
    ∙ ap (λ b. cond b (Some mapping) (mapping_at state p n)) (apart (key_of p n) (key_of process number) differ)

pub mapping_at-without_mapping_other : (state : FlatState) (process number p n : ℕ) → key_of p n ≢ key_of process number
    → mapping_at (without_mapping state process number) p n ≡ mapping_at state p n
mapping_at-without_mapping_other state process number p n differ =
    finite.get-remove keys_total state.mappings (key_of process number) (key_of p n) ∙ ap (λ b. cond b None (mapping_at state p n)) (apart (key_of p n) (key_of process number) differ)

-- an operation without a refusal has its effect
pub step_done : (state : FlatState) (process : ℕ) (op : Op) → refusal_of state process op ≡ None → flat_step state process op ≡ effect state process op
step_done state process op none = ap (λ r. unless_refused state r (effect state process op)) none

pub step_refused : (state : FlatState) (process : ℕ) (op : Op) (refusal : FlatRefusal) → refusal_of state process op ≡ Some refusal → flat_step state process op ≡ (state, Refused refusal)
step_refused state process op refusal some = ap (λ r. unless_refused state r (effect state process op)) some

pub step_read : (state : FlatState) (process file off len : ℕ) → in_file state.files file off len ≡ true
    → flat_step state process (Read file off len) ≡ (state, Bytes (bytes_at (file_at state.files file) off len))
step_read state process file off len within = step_done state process (Read file off len) (ap (λ b. first_refusal ((not b, OutOfRange) ∷ [])) within)

pub step_map_anon : (state : FlatState) (process number count : ℕ) → mapping_at state process number ≡ None → is_full state ≡ false
    → flat_step state process (MapAnon number count) ≡ (with_mapping state process number (record { shown = Anonymous (zeros (PAGE * count)); pins = none_pinned count }), Done)
step_map_anon state process number count new room =
    step_done state process (MapAnon number count) (λ i. first_refusal ((is_some (new i), AlreadyMapped) ∷ (room i, TooManyMaps) ∷ []))

pub step_unmap : (state : FlatState) (process number : ℕ) (mapping : Mapping) → mapping_at state process number ≡ Some mapping → has_pin mapping ≡ false
    → flat_step state process (Unmap number) ≡ (without_mapping state process number, Done)
step_unmap state process number mapping at free =
    step_done state process (Unmap number)
    (ap (λ o. first_refusal ((not (is_some o), NoMapping) ∷ (of_live has_pin o, Pinned) ∷ [])) at ∙ ap (λ b. first_refusal ((b, Pinned) ∷ [])) free)

-- an operation of a mapping that isn't live is refused
pub step_no_mapping_load : (state : FlatState) (process number off len : ℕ) → mapping_at state process number ≡ None → flat_step state process (Load number off len) ≡ (state, Refused NoMapping)
step_no_mapping_load state process number off len none =
    step_refused state process (Load number off len) NoMapping (ap (λ o. first_refusal ((not (is_some o), NoMapping) ∷ (not (of_live (in_mapping off len) o), OutOfRange) ∷ [])) none)

-- a load within a live mapping isn't refused
pub load_accepted : (state : FlatState) (process number off len : ℕ) (mapping : Mapping) → mapping_at state process number ≡ Some mapping → in_mapping off len mapping ≡ true
    → refusal_of state process (Load number off len) ≡ None
load_accepted state process number off len mapping at within =
    ap (λ o. first_refusal ((not (is_some o), NoMapping) ∷ (not (of_live (in_mapping off len) o), OutOfRange) ∷ [])) at ∙ ap (λ b. first_refusal ((not b, OutOfRange) ∷ [])) within

pub step_load : (state : FlatState) (process number off len : ℕ) (mapping : Mapping) → mapping_at state process number ≡ Some mapping → in_mapping off len mapping ≡ true
    → flat_step state process (Load number off len) ≡ (state, Bytes (loaded state.files mapping.shown off len))
step_load state process number off len mapping at within =
    step_done state process (Load number off len) (load_accepted state process number off len mapping at within)
    ∙ ap (λ o. on_live state o (λ (m : Mapping). (state, Bytes (loaded state.files m.shown off len)))) at

pub step_store : (state : FlatState) (process number off : ℕ) (bytes : List ℕ) (mapping : Mapping) → mapping_at state process number ≡ Some mapping → in_mapping off (length bytes) mapping ≡ true
    → shows_writable mapping.shown ≡ true
    → flat_step state process (Store number off bytes) ≡ (stored state process number mapping mapping.shown off bytes, Done)
step_store state process number off bytes mapping at within writable =
    step_done state process (Store number off bytes)
    (ap (λ o. first_refusal ((not (is_some o), NoMapping) ∷ (not (of_live (in_mapping off (length bytes)) o), OutOfRange) ∷ (not (of_live (λ m. shows_writable m.shown) o), ReadOnly) ∷ [])) at
    ∙ (λ i. first_refusal ((not (within i), OutOfRange) ∷ (not (writable i), ReadOnly) ∷ [])))
    ∙ ap (λ o. on_live state o (λ (m : Mapping). (stored state process number m m.shown off bytes, Done))) at
