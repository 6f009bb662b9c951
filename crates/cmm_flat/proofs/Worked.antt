-- The worked journals are legal, and no longer with another byte, number or order.
use Rattle.std.proofs.Common.{◌≡◌, ◌*◌, ◌++◌, nat_le, suc, ℕ, false, [], ◌∷◌, length, get_or, None, refl, ap, ◌∙◌, inr, arith}
use Rattle.std.proofs.lemmas.List.{length-replicate}
use Rattle.std.specs.FinMap as finite
use Rattle.cmm_types.specs.declared.page.TheConstants.{PAGE}
use Rattle.cmm_types.specs.declared.command.Entry.{Entry}
use Rattle.cmm_types.specs.declared.command.Op.TheVariants.{Read, MapAnon, Unmap, Load, Store}
use Rattle.cmm_types.specs.declared.command.Reply.{Reply}
use Rattle.cmm_types.specs.declared.command.Reply.TheVariants.{Done, Bytes, Refused, Fail}
use Rattle.cmm_types.specs.declared.command.FlatRefusal.TheVariants.{NoMapping}
use Rattle.cmm_types.specs.declared.command.Cause.TheVariants.{NoPage}
use Rattle.cmm_flat.specs.declared.mapping.MappingKey.{MappingKey}
use Rattle.cmm_flat.specs.declared.mapping.Mapping.{Mapping}
use Rattle.cmm_flat.specs.declared.mapping.Shown.TheVariants.{Anonymous}
use Rattle.cmm_types.specs.Bytes.{zeros, bytes_at}
use Rattle.cmm_flat.specs.Mapping.{key_cmp, written}
use Rattle.cmm_flat.specs.State.{FlatState, opening, mapping_at, key_of}
use Rattle.cmm_flat.specs.Flat.{refusal_of, is_full, with_mapping, without_mapping, none_pinned, flat_step}
use Rattle.cmm_flat.specs.Laws.StepLaws.{mapping_at-with_mapping, mapping_at-without_mapping, step_read, step_map_anon, step_unmap, step_no_mapping_load, load_accepted, step_load, step_store}
use Rattle.cmm_flat.specs.Laws.SumLaws.{sum_over-empty, sum_over-insert, number_before}
use Rattle.cmm_flat.specs.Legal.{Walk, IsNext, after, Legal, anonymous_pages, sum_over, over_live, start_of}
use Rattle.cmm_flat.specs.Laws.LegalLaws.{LegalFrom-step}
use Rattle.cmm_flat.specs.WorkedJournals.{entry, hello, hellp, reads_twice, read_twice, stores_twice, stored_twice, unmaps_and_loads, unmapped_first, loaded_first}

length-file : length (hello ++ zeros 4091) ≡ 4096
unfolding zeros
length-file = ap (λ n. suc (suc (suc (suc (suc n))))) (length-replicate {A = ℕ} 4091 0)

abbrev read : FlatState
read = (start_of reads_twice).flat

reads : flat_step read 0 (Read 0 0 5) ≡ (read, Bytes hello)
reads = step_read read 0 0 0 5 (ap (λ n. nat_le 5 n) length-file)

abbrev read_0 : Entry
read_0 = entry 0 0 (Read 0 0 5) (Bytes hello)

abbrev read_1 : Entry
read_1 = entry 0 1 (Read 0 0 5) (Bytes hello)

abbrev reading : Walk
reading = record { flat = read; cpus = (after reads_twice (start_of reads_twice) read_0).cpus }

pub legal_read : Legal reads_twice (read_twice 1 hello)
legal_read =
    LegalFrom-step reads_twice (start_of reads_twice) read_0 (read_1 ∷ []) read refl refl reads
    (LegalFrom-step reads_twice reading read_1 [] read refl refl reads (tt {0}))

pub other_number : Legal reads_twice (read_twice 2 hello) → ⊥
other_number legal = absurd (omega (arith, legal.1.0.number))

last_of : Reply → ℕ
last_of (Bytes bytes) = get_or bytes 4 0
last_of Done = 0
last_of (Refused refusal) = 0
last_of (Fail cause) = 0

different : Bytes hellp ≡ Bytes hello → ⊥
unfolding last_of
different e = let last : 0x70 ≡ 0x6f = ap last_of e in absurd (omega (arith, last))

pub other_byte : Legal reads_twice (read_twice 1 hellp) → ⊥
other_byte legal =
    different
    (legal.1.0.reply ∙ ap (λ (flat : FlatState). (flat_step flat 0 (Read 0 0 5)).1) (ap (λ (out : FlatState × Reply). out.0) reads) ∙ ap (λ (out : FlatState × Reply). out.1) reads)

-- an unmap before a load
abbrev none : FlatState
none = opening []

unmapped : (process number : ℕ) → mapping_at none process number ≡ None
unmapped process number = finite.get-empty key_cmp (key_of process number)

empty_room : is_full none ≡ false
empty_room = ap (λ n. nat_le 256 n) (finite.len-empty key_cmp Mapping)

abbrev own : ℕ → Mapping
own count = record { shown = Anonymous (zeros (PAGE * count)); pins = none_pinned count }

abbrev mapped : ℕ → FlatState
mapped count = with_mapping none 0 0 (own count)

maps : (count : ℕ) → flat_step none 0 (MapAnon 0 count) ≡ (mapped count, Done)
maps count = step_map_anon none 0 0 count (unmapped 0 0) empty_room

abbrev gone : FlatState
gone = without_mapping (mapped 1) 0 0

unmaps : flat_step (mapped 1) 0 (Unmap 0) ≡ (gone, Done)
unmaps = step_unmap (mapped 1) 0 0 (own 1) (mapping_at-with_mapping none 0 0 (own 1)) refl

refuses : flat_step gone 0 (Load 0 0 1) ≡ (gone, Refused NoMapping)
refuses = step_no_mapping_load gone 0 0 0 1 (mapping_at-without_mapping (mapped 1) 0 0)

abbrev map_entry : Entry
map_entry = entry 0 0 (MapAnon 0 1) Done

abbrev unmap_entry : Entry
unmap_entry = entry 1 0 (Unmap 0) Done

abbrev load_entry : Entry
load_entry = entry 0 1 (Load 0 0 1) (Refused NoMapping)

abbrev after_map : Walk
after_map = record { flat = mapped 1; cpus = (after unmaps_and_loads (start_of unmaps_and_loads) map_entry).cpus }

abbrev after_unmap : Walk
after_unmap = record { flat = gone; cpus = (after unmaps_and_loads after_map unmap_entry).cpus }

pub legal_unmap : Legal unmaps_and_loads unmapped_first
legal_unmap =
    LegalFrom-step unmaps_and_loads (start_of unmaps_and_loads) map_entry (unmap_entry ∷ load_entry ∷ []) (mapped 1) refl refl (maps 1)
    (LegalFrom-step unmaps_and_loads after_map unmap_entry (load_entry ∷ []) gone refl refl unmaps
    (LegalFrom-step unmaps_and_loads after_unmap load_entry [] gone refl refl refuses (tt {0})))

pub other_order : Legal unmaps_and_loads loaded_first → ⊥
other_order legal =
    let loads : flat_step (mapped 1) 0 (Load 0 0 1) ≡ (mapped 1, Bytes (bytes_at (zeros (PAGE * 1)) 0 1)) =
    step_load (mapped 1) 0 0 0 1 (own 1) (mapping_at-with_mapping none 0 0 (own 1)) refl in
    let same : Refused NoMapping ≡ Bytes (bytes_at (zeros (PAGE * 1)) 0 1) =
    legal.1.0.reply ∙ ap (λ (flat : FlatState). (flat_step flat 0 (Load 0 0 1)).1) (ap (λ (out : FlatState × Reply). out.0) (maps 1)) ∙ ap (λ (out : FlatState × Reply). out.1) loads in
    cc

-- anonymous bytes without a swap slot
abbrev first_stored : Mapping
first_stored = written (own 3) 0 (0x61 ∷ [])

abbrev both_stored : Mapping
both_stored = written first_stored 4096 (0x62 ∷ [])

abbrev stored_one : FlatState
stored_one = with_mapping (mapped 3) 0 0 first_stored

abbrev stored_two : FlatState
stored_two = with_mapping stored_one 0 0 both_stored

stores_first : flat_step (mapped 3) 0 (Store 0 0 (0x61 ∷ [])) ≡ (stored_one, Done)
stores_first = step_store (mapped 3) 0 0 0 (0x61 ∷ []) (own 3) (mapping_at-with_mapping none 0 0 (own 3)) refl refl

stores_second : flat_step stored_one 0 (Store 0 4096 (0x62 ∷ [])) ≡ (stored_two, Done)
stores_second = step_store stored_one 0 0 4096 (0x62 ∷ []) first_stored (mapping_at-with_mapping (mapped 3) 0 0 first_stored) refl refl

accepts : refusal_of stored_two 0 (Load 0 8192 1) ≡ None
accepts = load_accepted stored_two 0 0 8192 1 both_stored (mapping_at-with_mapping stored_one 0 0 both_stored) refl

abbrev pages : MappingKey × Mapping → ℕ
pages live = anonymous_pages live.1

-- three anonymous pages are live
three : over_live anonymous_pages stored_two ≡ 3
three =
    let q = key_of 0 0 in
    let one = sum_over-insert pages none.mappings q (own 3) in
    let two = sum_over-insert pages (mapped 3).mappings q first_stored in
    let last = sum_over-insert pages stored_one.mappings q both_stored in
    let before_one : number_before pages q (finite.get none.mappings q) ≡ 0 = ap (number_before pages q) (unmapped 0 0) in
    let before_two : number_before pages q (finite.get (mapped 3).mappings q) ≡ 3 = ap (number_before pages q) (mapping_at-with_mapping none 0 0 (own 3)) in
    let before_last : number_before pages q (finite.get stored_one.mappings q) ≡ 3 = ap (number_before pages q) (mapping_at-with_mapping (mapped 3) 0 0 first_stored) in
    let start : sum_over pages (finite.entries none.mappings) ≡ 0 = sum_over-empty pages in
    omega (arith, one, two, last, before_one, before_two, before_last, start)

abbrev map_three : Entry
map_three = entry 0 0 (MapAnon 0 3) Done

abbrev store_first : Entry
store_first = entry 0 1 (Store 0 0 (0x61 ∷ [])) Done

abbrev store_second : Entry
store_second = entry 0 2 (Store 0 4096 (0x62 ∷ [])) Done

abbrev load_third : ℕ → ℕ → Entry
load_third pinned unslotted = entry 0 3 (Load 0 8192 1) (Fail (NoPage pinned unslotted))

abbrev after_three : Walk
after_three = record { flat = mapped 3; cpus = (after stores_twice (start_of stores_twice) map_three).cpus }

abbrev after_first : Walk
after_first = record { flat = stored_one; cpus = (after stores_twice after_three store_first).cpus }

abbrev after_second : Walk
after_second = record { flat = stored_two; cpus = (after stores_twice after_first store_second).cpus }

fails : IsNext stores_twice after_second (load_third 0 2)
fails = record {
  number = refl;
  command = refl;
  reply = (tt {0}, accepts, record { all_pages = refl; as_pinned = omega arith; as_anonymous = inr (omega (arith, three)) });
}

pub legal_fail : Legal stores_twice (stored_twice 0 2)
legal_fail =
    LegalFrom-step stores_twice (start_of stores_twice) map_three (store_first ∷ store_second ∷ load_third 0 2 ∷ []) (mapped 3) refl refl (maps 3)
    (LegalFrom-step stores_twice after_three store_first (store_second ∷ load_third 0 2 ∷ []) stored_one refl refl stores_first
    (LegalFrom-step stores_twice after_first store_second (load_third 0 2 ∷ []) stored_two refl refl stores_second (fails, tt {0})))

pub other_count : Legal stores_twice (stored_twice 0 3) → ⊥
other_count legal = absurd (omega (arith, legal.1.1.1.0.reply.2.all_pages))
