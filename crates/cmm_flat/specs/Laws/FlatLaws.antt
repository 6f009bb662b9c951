-- Laws of the flat step: it never fails, files keep their lengths, mappings stay sound, and what a refusal depends on.
use Rattle.std.proofs.Common.{◌≡◌, ◌≤◌, ◌<◌, ◌+◌, ◌*◌, ◌&&◌, not, nat_lt, nat_le, ℕ, zero, suc, Bool, true, false, List}
use Rattle.std.proofs.Common.{[], ◌∷◌, map, length, get_or, set, Option, Some, None, IfSome, refl, ap, sym, ◌∙◌, subst, arith}
use Rattle.std.proofs.lemmas.List.{length-map, map-set, set-get_or}
use borrow.Author.Tests.{leb-true}
use Rattle.cmm_types.specs.declared.page.TheConstants.{PAGE}
use Rattle.cmm_types.specs.declared.command.Op.{Op}
use Rattle.cmm_types.specs.declared.command.Op.TheVariants.{Read, Write, Sync, MapFile, MapAnon, Unmap, Load, Store, Pin, Unpin}
use Rattle.cmm_types.specs.declared.command.Reply.{Reply}
use Rattle.cmm_types.specs.declared.command.Reply.TheVariants.{Done, Refused, Fail}
use Rattle.cmm_types.specs.declared.command.Cause.{Cause}
use Rattle.cmm_types.specs.declared.command.FlatRefusal.{FlatRefusal}
use Rattle.cmm_types.specs.declared.command.FlatRefusal.TheVariants.{AlreadyMapped, OutOfRange, TooManyMaps}
use Rattle.cmm_types.specs.InRange.{OpInRange}
use Rattle.cmm_flat.specs.declared.mapping.Mapping.{Mapping}
use Rattle.cmm_flat.specs.declared.mapping.Shown.{Shown}
use Rattle.cmm_flat.specs.declared.mapping.Shown.TheVariants.{OfFile, Anonymous}
use Rattle.cmm_types.specs.Bytes.{zeros, with_bytes}
use Rattle.cmm_flat.specs.Laws.BytesLaws.{length-with_bytes}
use Rattle.cmm_flat.specs.Mapping.{length_of, written, with_pin}
use Rattle.cmm_flat.specs.State.{FlatState, ShowsPages, Shows, IsSound, mapping_at, file_at}
use Rattle.cmm_flat.specs.Flat.{of_live, is_live, is_full, in_file, in_mapping, first_refusal, refusals, refusal_of, stored, none_pinned, on_live, effect, unless_refused, flat_step}
use Rattle.cmm_flat.specs.Laws.SoundLaws.{sound_inserted, sound_removed, shows_pinned, shows_written, has_room, shows_zeros, within_file, shows_file}

-- what holds of a refusal and of the effect holds of the step
pub by_refusal : (P : FlatState × Reply → Type 0) (state : FlatState) (process : ℕ) (op : Op) → ((refusal : FlatRefusal) → P (state, Refused refusal))
    → (refusal_of state process op ≡ None → P (effect state process op)) → P (flat_step state process op)
by_refusal P state process op refused done =
    elim (refusal_of state process op) as (λ r. refusal_of state process op ≡ r → P (unless_refused state r (effect state process op))) [
      | Some refusal ↦ λ _. refused refusal
      | None ↦ done
    ] refl

-- the same for an operation of a live mapping
pub by_live : (P : FlatState × Reply → Type 0) (state : FlatState) (o : Option Mapping) (does : Mapping → FlatState × Reply) → P (state, Done)
    → ((mapping : Mapping) → o ≡ Some mapping → P (does mapping)) → P (on_live state o does)
by_live P state None does none some = none
by_live P state (Some mapping) does none some = some mapping refl

-- where no reason holds, the first doesn't, and none of the rest does
pub no_reason : (b : Bool) (refusal : FlatRefusal) (rest : List (Bool × FlatRefusal)) → first_refusal ((b, refusal) ∷ rest) ≡ None → (b ≡ false) × (first_refusal rest ≡ None)
no_reason true refusal rest e = cc
no_reason false refusal rest e = (refl, e)

-- none of the tests holds
abbrev pub AllFail : List (Bool × FlatRefusal) → Type 0
AllFail [] = Unit {0}
AllFail (reason ∷ reasons) = (reason.0 ≡ false) × AllFail reasons

-- an operation that isn't refused fails each test
pub all_fail : (reasons : List (Bool × FlatRefusal)) → first_refusal reasons ≡ None → AllFail reasons
all_fail [] none = tt
all_fail (reason ∷ reasons) none =
    let here = no_reason reason.0 reason.1 reasons none in
    (here.0, all_fail reasons here.1)

passed : (b : Bool) → not b ≡ false → b ≡ true
passed true e = refl
passed false e = cc

-- the step never fails
pub never_fails : (state : FlatState) (process : ℕ) (op : Op) (cause : Cause) → (flat_step state process op).1 ≡ Fail cause → ⊥
never_fails state process op cause = by_refusal (λ out. out.1 ≡ Fail cause → ⊥) state process op (λ refusal e. cc) (λ _. done op)
  where
    done : (op : Op) → (effect state process op).1 ≡ Fail cause → ⊥
    done (Read file off len) e = cc
    done (Write file off bytes) e = cc
    done (Sync file) e = cc
    done (MapFile number file first count writable) e = cc
    done (MapAnon number count) e = cc
    done (Unmap number) e = cc
    done (Load number off len) e = by_live (λ out. out.1 ≡ Fail cause → ⊥) state (mapping_at state process number) _ (λ e. cc) (λ m _ e. cc) e
    done (Store number off bytes) e = by_live (λ out. out.1 ≡ Fail cause → ⊥) state (mapping_at state process number) _ (λ e. cc) (λ m _ e. cc) e
    done (Pin number page) e = by_live (λ out. out.1 ≡ Fail cause → ⊥) state (mapping_at state process number) _ (λ e. cc) (λ m _ e. cc) e
    done (Unpin number page) e = by_live (λ out. out.1 ≡ Fail cause → ⊥) state (mapping_at state process number) _ (λ e. cc) (λ m _ e. cc) e

-- a file's length, read from the list of lengths
pub length-file_at : (files : List (List ℕ)) (file : ℕ) → length (file_at files file) ≡ get_or (map length files) file 0
length-file_at [] file = refl
length-file_at (f ∷ files) zero = refl
length-file_at (f ∷ files) (suc file) = length-file_at files file

-- bytes that are written within a file leave the files' lengths
pub lengths-with_file_bytes : (files : List (List ℕ)) (file off : ℕ) (bytes : List ℕ) → off + length bytes ≤ length (file_at files file)
    → map length (set files file (with_bytes (file_at files file) off bytes)) ≡ map length files
lengths-with_file_bytes files file off bytes within =
    map-set length files file (with_bytes (file_at files file) off bytes)
    ∙ ap (set (map length files) file) (length-with_bytes (file_at files file) off bytes within ∙ length-file_at files file)
    ∙ set-get_or (map length files) file 0

-- files of the same lengths show the same mappings
pub shows-lengths : (files others : List (List ℕ)) (mapping : Mapping) → map length others ≡ map length files → Shows files mapping → Shows others mapping
shows-lengths files others mapping same shows = (shows.0, pages mapping.shown shows.1)
  where
    fewer : length others ≡ length files
    fewer = sym (length-map others length) ∙ ap length same ∙ length-map files length

    file_same : (file : ℕ) → length (file_at others file) ≡ length (file_at files file)
    file_same file = length-file_at others file ∙ ap (λ ns. get_or ns file 0) same ∙ sym (length-file_at files file)

    pages : (shown : Shown) → ShowsPages files shown (length mapping.pins) → ShowsPages others shown (length mapping.pins)
    pages (OfFile file first writable) h = (subst (λ n. file < n) (sym fewer) h.0, subst (λ n. PAGE * (first + length mapping.pins) ≤ n) (sym (file_same file)) h.1)
    pages (Anonymous bytes) h = h

each : {X : Type 0} (P Q : X → Type 0) (o : Option X) → ((x : X) → P x → Q x) → IfSome o P → IfSome o Q
each P Q None f h = h
each P Q (Some x) f h = f x h

pub sound-lengths : (files others : List (List ℕ)) (state : FlatState) → state.files ≡ files → map length others ≡ map length files → IsSound state → IsSound (record state { files = others })
sound-lengths files others state is same sound process number =
    each (Shows state.files) (Shows others) (mapping_at state process number) (λ m shows. shows-lengths files others m same (subst (λ (fs : List (List ℕ)). Shows fs m) is shows))
    (sound process number)

-- what a live mapping of a sound state shows
pub shown_soundly : (state : FlatState) (process number : ℕ) (mapping : Mapping) → IsSound state → mapping_at state process number ≡ Some mapping → Shows state.files mapping
shown_soundly state process number mapping sound at = subst (λ o. IfSome o (Shows state.files)) at (sound process number)

-- where a store isn't refused, the mapping has the bytes
pub store_within : (state : FlatState) (process number off : ℕ) (bytes : List ℕ) (mapping : Mapping) → mapping_at state process number ≡ Some mapping
    → refusal_of state process (Store number off bytes) ≡ None → off + length bytes ≤ length_of mapping
store_within state process number off bytes mapping at none =
    let fails = all_fail (refusals state process (Store number off bytes)) none in
    leb-true _ _ (passed (in_mapping off (length bytes) mapping) (subst (λ o. not (of_live (in_mapping off (length bytes)) o) ≡ false) at fails.1.0))

-- bytes that are stored within a mapping leave the files' lengths
pub lengths-stored : (state : FlatState) (process number : ℕ) (mapping : Mapping) (shown : Shown) (off : ℕ) (bytes : List ℕ) → ShowsPages state.files shown (length mapping.pins)
    → off + length bytes ≤ length_of mapping → map length (stored state process number mapping shown off bytes).files ≡ map length state.files
lengths-stored state process number mapping (OfFile file first writable) off bytes shows within = lengths-with_file_bytes state.files file (PAGE * first + off) bytes (omega (arith, shows.1))
lengths-stored state process number mapping (Anonymous own) off bytes shows within = refl

-- no step changes how many files there are, or how long one is
pub lengths-flat_step : (state : FlatState) (process : ℕ) (op : Op) → IsSound state → map length (flat_step state process op).0.files ≡ map length state.files
lengths-flat_step state process op sound = by_refusal (λ out. map length out.0.files ≡ map length state.files) state process op (λ _. refl) (done op)
  where
    done : (op : Op) → refusal_of state process op ≡ None → map length (effect state process op).0.files ≡ map length state.files
    done (Read file off len) none = refl
    done (Write file off bytes) none = lengths-with_file_bytes state.files file off bytes
        (within_file state.files file off (length bytes) (passed (in_file state.files file off (length bytes)) (all_fail (refusals state process (Write file off bytes)) none).0)).1
    done (Sync file) none = refl
    done (MapFile number file first count writable) none = refl
    done (MapAnon number count) none = refl
    done (Unmap number) none = refl
    done (Load number off len) none = by_live (λ out. map length out.0.files ≡ map length state.files) state (mapping_at state process number) _ refl (λ _ _. refl)
    done (Store number off bytes) none =
        by_live (λ out. map length out.0.files ≡ map length state.files) state (mapping_at state process number) _ refl
        (λ m at. lengths-stored state process number m m.shown off bytes (shown_soundly state process number m sound at).1 (store_within state process number off bytes m at none))
    done (Pin number page) none = by_live (λ out. map length out.0.files ≡ map length state.files) state (mapping_at state process number) _ refl (λ _ _. refl)
    done (Unpin number page) none = by_live (λ out. map length out.0.files ≡ map length state.files) state (mapping_at state process number) _ refl (λ _ _. refl)

sound-stored : (state : FlatState) (process number : ℕ) (mapping : Mapping) (shown : Shown) (off : ℕ) (bytes : List ℕ) → shown ≡ mapping.shown → Shows state.files mapping
    → off + length bytes ≤ length_of mapping → IsSound state → IsSound (stored state process number mapping shown off bytes)
sound-stored state process number mapping (OfFile file first writable) off bytes is shows within sound =
    sound-lengths state.files _ state refl (lengths-with_file_bytes state.files file (PAGE * first + off) bytes
    (omega (arith, (subst (λ (shown : Shown). ShowsPages state.files shown (length mapping.pins)) (sym is) shows.1).1))) sound
sound-stored state process number mapping (Anonymous own) off bytes is shows within sound =
    sound_inserted state.files state.mappings _ process number (written mapping off bytes) refl
    (shows_written state.files mapping off bytes (has_room state.files mapping.shown (length mapping.pins) off (length bytes) shows.1 within) shows) sound

-- a sound state stays sound
pub sound-flat_step : (state : FlatState) (process : ℕ) (op : Op) → OpInRange op → IsSound state → IsSound (flat_step state process op).0
sound-flat_step state process op range sound = by_refusal (λ out. IsSound out.0) state process op (λ _. sound) (done op range)
  where
    done : (op : Op) → OpInRange op → refusal_of state process op ≡ None → IsSound (effect state process op).0
    done (Read file off len) range none = sound
    done (Write file off bytes) range none =
        sound-lengths state.files _ state refl (lengths-with_file_bytes state.files file off bytes
        (within_file state.files file off (length bytes) (passed (in_file state.files file off (length bytes)) (all_fail (refusals state process (Write file off bytes)) none).0)).1) sound
    done (Sync file) range none = sound
    done (MapFile number file first count writable) range none =
        sound_inserted state.files state.mappings _ process number (record { shown = OfFile file first writable; pins = none_pinned count }) refl
        (shows_file state.files file first count writable (none_pinned count)
        (passed (in_file state.files file (PAGE * first) (PAGE * count)) (all_fail (refusals state process (MapFile number file first count writable)) none).1.0) refl range.2.most) sound
    done (MapAnon number count) range none =
        sound_inserted state.files state.mappings _ process number (record { shown = Anonymous (zeros (PAGE * count)); pins = none_pinned count }) refl
        (shows_zeros state.files (zeros (PAGE * count)) (none_pinned count) count refl refl range.1.most) sound
    done (Unmap number) range none = sound_removed state.files state.mappings _ process number refl sound
    done (Load number off len) range none = by_live (λ out. IsSound out.0) state (mapping_at state process number) _ sound (λ _ _. sound)
    done (Store number off bytes) range none =
        by_live (λ out. IsSound out.0) state (mapping_at state process number) _ sound
        (λ m at. sound-stored state process number m m.shown off bytes refl (shown_soundly state process number m sound at) (store_within state process number off bytes m at none) sound)
    done (Pin number page) range none =
        by_live (λ out. IsSound out.0) state (mapping_at state process number) _ sound
        (λ m at. sound_inserted state.files state.mappings _ process number (with_pin m page true) refl (shows_pinned state.files m page true (shown_soundly state process number m sound at)) sound)
    done (Unpin number page) range none =
        by_live (λ out. IsSound out.0) state (mapping_at state process number) _ sound
        (λ m at. sound_inserted state.files state.mappings _ process number (with_pin m page false) refl (shows_pinned state.files m page false (shown_soundly state process number m sound at)) sound)

in_file-lengths : (files others : List (List ℕ)) (file off len : ℕ) → map length others ≡ map length files → in_file others file off len ≡ in_file files file off len
in_file-lengths files others file off len same = λ i. nat_lt file (fewer i) && nat_le (off + len) (file_same i)
  where
    fewer : length others ≡ length files
    fewer = sym (length-map others length) ∙ ap length same ∙ length-map files length

    file_same : length (file_at others file) ≡ length (file_at files file)
    file_same = length-file_at others file ∙ ap (λ ns. get_or ns file 0) same ∙ sym (length-file_at files file)

-- a refusal depends on the files' lengths and on the live mappings alone
pub refusal-lengths : (files others : List (List ℕ)) (state : FlatState) (process : ℕ) (op : Op) → state.files ≡ files → map length others ≡ map length files
    → refusal_of (record state { files = others }) process op ≡ refusal_of state process op
refusal-lengths files others state process (Read file off len) is same =
    ap (λ b. first_refusal ((not b, OutOfRange) ∷ [])) (in_file-lengths files others file off len same ∙ ap (λ (fs : List (List ℕ)). in_file fs file off len) (sym is))
refusal-lengths files others state process (Write file off bytes) is same =
    ap (λ b. first_refusal ((not b, OutOfRange) ∷ [])) (in_file-lengths files others file off (length bytes) same ∙ ap (λ (fs : List (List ℕ)). in_file fs file off (length bytes)) (sym is))
refusal-lengths files others state process (Sync file) is same =
    ap (λ n. first_refusal ((not (nat_lt file n), OutOfRange) ∷ [])) (sym (length-map others length) ∙ ap length same ∙ length-map files length ∙ ap length (sym is))
refusal-lengths files others state process (MapFile number file first count writable) is same =
    ap (λ b. first_refusal ((is_live state process number, AlreadyMapped) ∷ (not b, OutOfRange) ∷ (is_full state, TooManyMaps) ∷ []))
    (in_file-lengths files others file (PAGE * first) (PAGE * count) same ∙ ap (λ (fs : List (List ℕ)). in_file fs file (PAGE * first) (PAGE * count)) (sym is))
refusal-lengths files others state process (MapAnon number count) is same = refl
refusal-lengths files others state process (Unmap number) is same = refl
refusal-lengths files others state process (Load number off len) is same = refl
refusal-lengths files others state process (Store number off bytes) is same = refl
refusal-lengths files others state process (Pin number page) is same = refl
refusal-lengths files others state process (Unpin number page) is same = refl
