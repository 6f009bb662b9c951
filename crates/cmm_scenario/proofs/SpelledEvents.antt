-- What is spelled of an event reads back.
use Rattle.std.proofs.Common.{◌≡◌, ◌<◌, ◌≤◌, ◌^◌, ℕ, true, List, [], ◌∷◌, ◌++◌, length, get_or, codes, Option, Some, Result, Ok, refl, ap, subst, arith}
use Rattle.std.specs.Prelude.{nat_lt, slice_get}
use Rattle.std.specs.Option.{ok_or}
use Rattle.std.specs.Fmt.{decimal}
use Rattle.std.proofs.lemmas.Bool.{lt-ltb}
use Rattle.std.proofs.lemmas.Option.{slice_get_within, get_or_from_slice_get}
use Rattle.cmm_types.specs.declared.page.Move.{Move}
use Rattle.cmm_types.specs.declared.page.Move.TheVariants.{Discard, Preserve, Bring, Age}
use Rattle.cmm_types.specs.declared.event.Event.{Event}
use Rattle.cmm_types.specs.declared.event.Event.TheVariants.{Cpu, Alone, Host, Reclaim}
use Rattle.cmm_types.specs.declared.plan.GuestPlan.{GuestPlan}
use Rattle.cmm_types.specs.InRange.{GuestInRange, GuestsInRange, EventInRange}
use Rattle.cmm_scenario.specs.declared.fault.Kind.{Kind}
use Rattle.cmm_scenario.specs.declared.fault.Kind.TheVariants.{Range}
use Rattle.cmm_scenario.specs.Words.{take_end}
use Rattle.cmm_scenario.specs.Events.{existing, pair_of, processor_of, guest_page_of, cpu_turn_of, alone_of, host_move_of, reclaiming_of, event_named, event_of}
use Rattle.cmm_scenario.specs.Spelling.{spaced, move_name, event_text}
use Rattle.cmm_scenario.proofs.SpelledWords.{then_ok, no_space, ends_word-spaced, first_word-append, after_word-append, number_at-spaced, checked-holds, within-is}

existing-is : (limit n : ℕ) → n < limit → existing limit n ≡ Ok n
unfolding existing
existing-is limit n lt = checked-holds (nat_lt n limit) n Range (lt-ltb n limit lt)

pair_of-spelled : (first second : ℕ) → first < 10 ^ 10 → second < 10 ^ 10 → pair_of (spaced (decimal first ∷ decimal second ∷ [])) ≡ Ok (first, second)
unfolding pair_of take_end
pair_of-spelled first second small fits =
    then_ok _ _ _ _ (number_at-spaced first (decimal second ∷ []) small)
    (then_ok _ _ _ _ (number_at-spaced second [] fits) refl)

processor_of-spelled : (guests : List GuestPlan) (guest cpu : ℕ) (plan : GuestPlan) → guest ≤ 15 → slice_get guests guest ≡ Some plan → cpu ≤ 7 → cpu < length plan.cpus
    → processor_of guests (spaced (decimal guest ∷ decimal cpu ∷ [])) ≡ Ok (guest, cpu)
unfolding processor_of
processor_of-spelled guests guest cpu plan few there least lt =
    then_ok _ _ _ _ (pair_of-spelled guest cpu (omega arith) (omega arith))
    (then_ok _ _ _ _ (within-is 0 15 guest (omega arith) few)
    (then_ok _ _ _ _ (ap (λ (o : Option GuestPlan). ok_or o Range) there)
    (then_ok _ _ _ _ (within-is 0 7 cpu (omega arith) least)
    (then_ok _ _ _ _ (existing-is (length plan.cpus) cpu lt) refl))))

guest_page_of-spelled : (guests : List GuestPlan) (guest page : ℕ) (plan : GuestPlan) → guest ≤ 15 → slice_get guests guest ≡ Some plan → page ≤ 4095 → page < plan.pages
    → guest_page_of guests (spaced (decimal guest ∷ decimal page ∷ [])) ≡ Ok (guest, page)
unfolding guest_page_of
guest_page_of-spelled guests guest page plan few there least lt =
    then_ok _ _ _ _ (pair_of-spelled guest page (omega arith) (omega arith))
    (then_ok _ _ _ _ (within-is 0 15 guest (omega arith) few)
    (then_ok _ _ _ _ (ap (λ (o : Option GuestPlan). ok_or o Range) there)
    (then_ok _ _ _ _ (within-is 0 4095 page (omega arith) least)
    (then_ok _ _ _ _ (existing-is plan.pages page lt) refl))))

reclaim_of-spelled : (count : ℕ) → 1 ≤ count → count ≤ 65536 → reclaiming_of (spaced (decimal count ∷ [])) ≡ Ok (Reclaim count)
unfolding reclaiming_of take_end
reclaim_of-spelled count some most =
    then_ok _ _ _ _ (number_at-spaced count [] (omega arith))
    (then_ok _ _ _ _ (within-is 1 65536 count some most) refl)

-- the guest of a number, and that it is in range
guest_there : (guests : List GuestPlan) (guest : ℕ) (plan : GuestPlan) → GuestsInRange guests → slice_get guests guest ≡ Some plan → (guest ≤ 15) × GuestInRange plan
guest_there guests guest plan h there =
    let lt : guest < length guests = slice_get_within guests guest plan there in
    let same : get_or guests guest plan ≡ plan = get_or_from_slice_get guests guest plan plan there in
    (omega (arith, h.few), subst GuestInRange same (h.each guest plan lt))

event_of-named : (guests : List GuestPlan) (name : List ℕ) (words : List (List ℕ)) (read : Result Event Kind) → no_space name ≡ true → event_named guests name (spaced words) ≡ read
    → event_of guests (name ++ spaced words) ≡ read
event_of-named guests name words read plain h =
    let ends = ends_word-spaced words in
    let first = first_word-append name (spaced words) plain ends in
    let after = after_word-append name (spaced words) plain ends in
    rw (first, after) h

host_of-spelled : (guests : List GuestPlan) (action : Move) (guest page : ℕ) → guest_page_of guests (spaced (decimal guest ∷ decimal page ∷ [])) ≡ Ok (guest, page)
    → event_of guests (move_name action ++ spaced (decimal guest ∷ decimal page ∷ [])) ≡ Ok (Host guest page action)
unfolding event_named host_move_of
host_of-spelled guests Discard guest page h = event_of-named guests (codes "discard") (decimal guest ∷ decimal page ∷ []) _ refl (then_ok _ _ _ _ h refl)
host_of-spelled guests Preserve guest page h = event_of-named guests (codes "preserve") (decimal guest ∷ decimal page ∷ []) _ refl (then_ok _ _ _ _ h refl)
host_of-spelled guests Bring guest page h = event_of-named guests (codes "bring") (decimal guest ∷ decimal page ∷ []) _ refl (then_ok _ _ _ _ h refl)
host_of-spelled guests Age guest page h = event_of-named guests (codes "age") (decimal guest ∷ decimal page ∷ []) _ refl (then_ok _ _ _ _ h refl)

pub event_of-text : (guests : List GuestPlan) (event : Event) → GuestsInRange guests → EventInRange guests event → event_of guests (event_text event) ≡ Ok event
unfolding event_named event_text cpu_turn_of alone_of
event_of-text guests (Cpu guest cpu) all h =
    let at = guest_there guests guest h.0 all h.1 in
    event_of-named guests (codes "cpu") (decimal guest ∷ decimal cpu ∷ []) _ refl
    (then_ok _ _ _ _ (processor_of-spelled guests guest cpu h.0 at.0 h.1 (omega (arith, h.2, at.1.cpus.few)) h.2) refl)
event_of-text guests (Alone guest cpu) all h =
    let at = guest_there guests guest h.0 all h.1 in
    event_of-named guests (codes "alone") (decimal guest ∷ decimal cpu ∷ []) _ refl
    (then_ok _ _ _ _ (processor_of-spelled guests guest cpu h.0 at.0 h.1 (omega (arith, h.2, at.1.cpus.few)) h.2) refl)
event_of-text guests (Host guest page action) all h =
    let at = guest_there guests guest h.0 all h.1 in
    host_of-spelled guests action guest page (guest_page_of-spelled guests guest page h.0 at.0 h.1 (omega (arith, h.2, at.1.pages)) h.2)
event_of-text guests (Reclaim count) all h =
    event_of-named guests (codes "reclaim") (decimal count ∷ []) _ refl (reclaim_of-spelled count h.0 h.1)
