-- The groups of a machine before it runs.
use Rattle.std.specs.Prelude.{◌≡◌, ◌<◌, ◌+◌, ◌-◌, ◌++◌, ◌^◌, ℕ, List, [], ◌∷◌, length, map, drop, Option, Some, None, All, sum, slice_get, slice_index_or}
use Rattle.std.specs.List.{sum_by}
use Rattle.std.specs.Option.{option_map}
use Rattle.std.proofs.Common.{refl, sym, ap, subst, arith, inl, inr, ◌∙◌}
use Rattle.std.proofs.lemmas.Bool.{cases_eq}
use Rattle.std.proofs.lemmas.List.{get_or-map, get_or-drop, get_or_append_left, length-map, length-append, length-drop, drop-drop}
use Rattle.std.proofs.Math.Seq.{get_or-append_seam}
use Rattle.std.proofs.lemmas.List.Elements.{All-push}
use Rattle.std.proofs.lemmas.List.Sums.{sum-map}
use Rattle.std.proofs.lemmas.Option.{slice_get-map, slice_get-get_or}
use Rattle.cmm_types.specs.declared.plan.GuestPlan.{GuestPlan}
use Rattle.cmm_io.specs.FailurePlan.{FailurePlan, failure_plan_of}
use Rattle.state_words.specs.SeatView.{WordsView, Seated, guest_first}
use Rattle.frame_pool.specs.Seats.{PoolId, PoolSeatView}
use Rattle.host_shared.specs.Reclaiming.{CanReclaim}
use Rattle.host_shared.specs.Binding.{StorageState}
use Rattle.cmm_vcpu.specs.KernelState.{KernelState, IsOpening, words_in, opening_kernel}
use Rattle.cmm_vcpu.specs.Machines.{GroupState, IsReady, no_group}
use Rattle.cmm_types.specs.NoPlan.{no_plan}
use Rattle.cmm_vcpu.specs.Opening.{AreTables, CanSeat, IsFirstSeat, IsGuestGroup}
use Rattle.cmm_vcpu.proofs.KernelTurns.{can_bind}

-- seats that were made from others of the host
pub can_reclaim : (words : List WordsView) (pool : PoolId) (hosts seats : List Seated) (seat : PoolSeatView) → CanSeat pool words hosts → map (λ (s : Seated). s.words) seats ≡ words
    → All (λ (s : Seated). s.view.held ≡ None) seats → seat.pool ≡ pool → CanReclaim words pool seats seat
can_reclaim words pool hosts seats seat can are idle of_pool = record { seats_are = are; none_held = idle; of_pool = of_pool; housed = can.housed }

-- a storage over such seats
abbrev pub first_storage : (number : ℕ) (guest : Seated) (seats : List Seated) → PoolSeatView → FailurePlan → StorageState
first_storage number guest seats seat pager = record { guest = number; seat = guest; hosts = seats; pool = seat; pager = pager; held = None; no_frames = 0 }

pub opening_storage : (plan : GuestPlan) (words : List WordsView) (pool : PoolId) (hosts seats : List Seated) (seat : PoolSeatView) (number : ℕ) (guest : Seated) → CanSeat pool words hosts
    → map (λ (s : Seated). s.words) seats ≡ words → All (λ (s : Seated). s.view.held ≡ None) seats → seat.pool ≡ pool → IsFirstSeat guest → guest.words.pages ≡ plan.pages
    → slice_get words number ≡ Some guest.words → IsOpening plan (first_storage number guest seats seat (failure_plan_of plan.pager_fail))
opening_storage plan words pool hosts seats seat number guest can are idle of_pool first pages there = record {
  pages = pages;
  view = first.1 ∙ ap (λ (n : ℕ). guest_first n guest.words.house) pages;
  none_held = refl;
  pager = refl;
  bound = can_bind words pool made (record { can = can_reclaim words pool hosts seats seat can are idle of_pool; guest = there; few = can.few_pages });
}
  where
    made : StorageState
    made = first_storage number guest seats seat (failure_plan_of plan.pager_fail)

-- the group of a guest over its storage
abbrev pub first_group : KernelState → List ℕ → GroupState
first_group k cpus = record { kernel = Some k; reclaimer = None; cpus = cpus }

pub guest_group : (plan : GuestPlan) (storage : StorageState) (k : KernelState) (cpus : List ℕ) → IsOpening plan storage → k ≡ opening_kernel plan storage → length cpus ≡ length plan.cpus
    → IsGuestGroup plan (words_in storage) storage.pool.pool storage.guest (first_group k cpus)
guest_group plan storage k cpus opening is size =
    subst (λ (l : KernelState). IsGuestGroup plan (words_in storage) storage.pool.pool storage.guest (first_group l cpus)) (sym is) (record {
      ready = record { kernel = record { words_are = refl; pool_is = refl; threads_few = omega (arith, size) }; reclaimer = tt };
      there = refl;
      plan_is = refl;
      own = opening.bound.guest;
    })

-- the groups of the first guests, whose seats were taken
pub record GuestsSo (plans : List GuestPlan) (words : List WordsView) (pool : PoolId) (seats rest : List Seated) (groups : List GroupState) (count : ℕ) : Type 0 where
  pub rest_is : rest ≡ drop count seats
  pub size : length groups ≡ count
  pub each : (j : ℕ) → j < count → IsGuestGroup (slice_index_or plans j no_plan) words pool j (slice_index_or groups j no_group)

pub guests_none : (plans : List GuestPlan) (words : List WordsView) (pool : PoolId) (seats : List Seated) → GuestsSo plans words pool seats seats [] 0
guests_none plans words pool seats = record { rest_is = refl; size = refl; each = λ j lt. absurd (omega (arith, lt)) }

pub guests_more : (plans : List GuestPlan) (words : List WordsView) (pool : PoolId) (seats old rest : List Seated) (groups : List GroupState) (count : ℕ) (g : GroupState)
    → GuestsSo plans words pool seats old groups count → rest ≡ drop 1 old → IsGuestGroup (slice_index_or plans count no_plan) words pool count g
    → GuestsSo plans words pool seats rest (groups ++ g ∷ []) (count + 1)
guests_more plans words pool seats old rest groups count g so rest_is group = record {
  rest_is = rest_is ∙ ap (λ (l : List Seated). drop 1 l) so.rest_is ∙ drop-drop 1 count seats;
  size = omega (arith, length-append groups (g ∷ []), so.size);
  each = λ j lt. elim (cases_eq j count) [
    | inl here ↦ subst (λ (q : ℕ). IsGuestGroup (slice_index_or plans q no_plan) words pool q (slice_index_or (groups ++ g ∷ []) q no_group)) (sym here)
        (subst (λ (q : ℕ). IsGuestGroup (slice_index_or plans count no_plan) words pool count (slice_index_or (groups ++ g ∷ []) q no_group)) so.size
        (subst (λ (q : GroupState). IsGuestGroup (slice_index_or plans count no_plan) words pool count q) (sym (get_or-append_seam groups g [] no_group)) group))
    | inr other ↦
        let before : j < count = omega (arith, lt, other) in
        subst (λ (q : GroupState). IsGuestGroup (slice_index_or plans j no_plan) words pool j q)
        (sym (get_or_append_left groups (g ∷ []) no_group j (omega (arith, before, so.size)))) (so.each j before)
  ];
}

-- what the tables have of one guest
pub record SeatAt (plans : List GuestPlan) (words : List WordsView) (number : ℕ) (guest : Seated) : Type 0 where
  pub there : slice_get words number ≡ Some guest.words
  pub first : IsFirstSeat guest
  pub pages : guest.words.pages ≡ (slice_index_or plans number no_plan).pages

pub tables_size : (plans : List GuestPlan) (pool : PoolId) (words : List WordsView) (guests hosts : List Seated) → AreTables plans pool words guests hosts → length guests ≡ length plans
tables_size plans pool words guests hosts tables =
    sym (length-map guests (λ (s : Seated). s.words)) ∙ ap (λ (l : List WordsView). length l) tables.guests_are
    ∙ sym (length-map words (λ (w : WordsView). w.pages)) ∙ ap (λ (l : List ℕ). length l) tables.pages ∙ length-map plans (λ (p : GuestPlan). p.pages)

pub seat_at : (plans : List GuestPlan) (pool : PoolId) (words : List WordsView) (guests hosts : List Seated) (number : ℕ) (guest : Seated) → AreTables plans pool words guests hosts
    → number < length plans → guest ≡ slice_index_or (drop number guests) 0 guest → SeatAt plans words number guest
seat_at plans pool words guests hosts number guest tables below is = record {
  there = subst (λ (l : List WordsView). slice_get l number ≡ Some guest.words) tables.guests_are
      (slice_get-map (λ (s : Seated). s.words) guests number ∙ ap (λ (o : Option Seated). option_map (λ (s : Seated). s.words) o) found);
  first = subst IsFirstSeat (sym at) (tables.first number guest within);
  pages = pages;
}
  where
    within : number < length guests
    within = omega (arith, below, tables_size plans pool words guests hosts tables)

    at : guest ≡ slice_index_or guests number guest
    at = is ∙ get_or-drop number guests 0 guest ∙ ap (λ (n : ℕ). slice_index_or guests n guest) (omega arith)

    found : slice_get guests number ≡ Some guest
    found = slice_get-get_or guests number guest within ∙ ap (λ (s : Seated). Some s) (sym at)

    placed : number < length words
    placed = omega (arith, within, length-map guests (λ (s : Seated). s.words), ap (λ (l : List WordsView). length l) tables.guests_are)

    pages : guest.words.pages ≡ (slice_index_or plans number no_plan).pages
    pages =
        ap (λ (s : Seated). s.words.pages) at
        ∙ ap (λ (w : WordsView). w.pages) (sym (get_or-map (λ (s : Seated). s.words) guests number guest guest.words within)
        ∙ ap (λ (l : List WordsView). slice_index_or l number guest.words) tables.guests_are)
        ∙ sym (get_or-map (λ (w : WordsView). w.pages) words number guest.words 0 placed)
        ∙ ap (λ (l : List ℕ). slice_index_or l number 0) tables.pages
        ∙ get_or-map (λ (p : GuestPlan). p.pages) plans number no_plan 0 below

-- the pages of all words are those of the plans
pub tables_pages : (plans : List GuestPlan) (pool : PoolId) (words : List WordsView) (guests hosts : List Seated) → AreTables plans pool words guests hosts
    → sum_by (λ (w : WordsView). w.pages) words ≡ sum_by (λ (p : GuestPlan). p.pages) plans
tables_pages plans pool words guests hosts tables =
    sym (sum-map (λ (w : WordsView). w.pages) words) ∙ ap (λ (l : List ℕ). sum l) tables.pages ∙ sum-map (λ (p : GuestPlan). p.pages) plans

pub can_seat : (plans : List GuestPlan) (pool : PoolId) (words : List WordsView) (guests hosts : List Seated) → AreTables plans pool words guests hosts
    → sum_by (λ (p : GuestPlan). p.pages) plans < 2 ^ 32 → CanSeat pool words hosts
can_seat plans pool words guests hosts tables few = record { hosts_are = tables.hosts_are; housed = tables.housed; few_pages = omega (arith, few, tables_pages plans pool words guests hosts tables) }

-- the groups before, and behind them so many reclaimers' groups
pub record ReclaimersSo (words : List WordsView) (pool : PoolId) (first groups : List GroupState) (count : ℕ) : Type 0 where
  pub size : length groups ≡ length first + count
  pub kept : (i : ℕ) → i < length first → slice_index_or groups i no_group ≡ slice_index_or first i no_group
  pub ready : All (IsReady words pool) groups

pub reclaimers_none : (words : List WordsView) (pool : PoolId) (first : List GroupState) → All (IsReady words pool) first → ReclaimersSo words pool first first 0
reclaimers_none words pool first ready = record { size = omega arith; kept = λ i lt. refl; ready = ready }

pub reclaimers_more : (words : List WordsView) (pool : PoolId) (first groups : List GroupState) (count : ℕ) (g : GroupState) → ReclaimersSo words pool first groups count → IsReady words pool g
    → ReclaimersSo words pool first (groups ++ g ∷ []) (count + 1)
reclaimers_more words pool first groups count g so ready = record {
  size = omega (arith, so.size, length-append groups (g ∷ []));
  kept = λ i lt. get_or_append_left groups (g ∷ []) no_group i (omega (arith, lt, so.size)) ∙ so.kept i lt;
  ready = All-push (IsReady words pool) groups g so.ready ready;
}

-- a guest's seat is left
pub rest_some : (plans : List GuestPlan) (pool : PoolId) (words : List WordsView) (guests hosts rest : List Seated) (number : ℕ) → AreTables plans pool words guests hosts → number < length plans
    → rest ≡ drop number guests → 0 < length rest
rest_some plans pool words guests hosts rest number tables below is =
    let size : length rest ≡ length guests - number = ap (λ (l : List Seated). length l) is ∙ length-drop number guests in
    omega (arith, size, below, tables_size plans pool words guests hosts tables)

pub seat_of_rest : (plans : List GuestPlan) (pool : PoolId) (words : List WordsView) (guests hosts rest : List Seated) (number : ℕ) (guest : Seated) → AreTables plans pool words guests hosts
    → number < length plans → rest ≡ drop number guests → guest ≡ slice_index_or rest 0 guest → SeatAt plans words number guest
seat_of_rest plans pool words guests hosts rest number guest tables below rest_is is =
    seat_at plans pool words guests hosts number guest tables below (is ∙ ap (λ (l : List Seated). slice_index_or l 0 guest) rest_is)

-- the same of equal lists and numbers
pub can_same : (pool : PoolId) (ws words : List WordsView) (hs hosts : List Seated) → ws ≡ words → hs ≡ hosts → CanSeat pool words hosts → CanSeat pool ws hs
can_same pool ws words hs hosts same_words same_hosts can =
    subst (λ (q : List WordsView). CanSeat pool q hs) (sym same_words) (subst (λ (q : List Seated). CanSeat pool words q) (sym same_hosts) can)

pub there_same : (ws words : List WordsView) (n number : ℕ) (w : WordsView) → ws ≡ words → n ≡ number → slice_get words number ≡ Some w → slice_get ws n ≡ Some w
there_same ws words n number w same_words same there =
    subst (λ (q : List WordsView). slice_get q n ≡ Some w) (sym same_words) (subst (λ (q : ℕ). slice_get words q ≡ Some w) (sym same) there)

pub group_same : (plan planned : GuestPlan) (ws words : List WordsView) (p pool : PoolId) (n number : ℕ) (g : GroupState) → plan ≡ planned → ws ≡ words → p ≡ pool → n ≡ number
    → IsGuestGroup plan ws p n g → IsGuestGroup planned words pool number g
group_same plan planned ws words p pool n number g same_plan same_words same_pool same group =
    subst (λ (q : GuestPlan). IsGuestGroup q words pool number g) same_plan
    (subst (λ (q : List WordsView). IsGuestGroup plan q pool number g) same_words
    (subst (λ (q : PoolId). IsGuestGroup plan ws q number g) same_pool (subst (λ (q : ℕ). IsGuestGroup plan ws p q g) same group)))
