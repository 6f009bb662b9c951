use Rattle.std.proofs.Common.{arith, sym, subst, ◌≡◌, ◌<◌, ◌^◌, ◌∙◌, All, None, List}
use Rattle.std.specs.List.{sum_by}
use Rattle.cmm_types.specs.declared.plan.GuestPlan.{GuestPlan}
use Rattle.state_words.specs.SeatView.{WordsView, Seated}
use Rattle.cmm_vcpu.specs.Machines.{IsReady}
use Rattle.cmm_vcpu.proofs.OpenGroups.{can_seat, can_same}
use Rattle.cmm_vcpu.proofs.OpenMachine.{all_ready, words_size, are_open}
use Rattle.cmm_vcpu.proofs.opening.open_all.Goals as goal

pub add_reclaimers-requires-clause-can : goal.add_reclaimers-requires-clause-can
add_reclaimers-requires-clause-can c =
    let plans = c.as_slice-plans.result.now in
    let tables = c.in_ok-tables.tables in
    let few : sum_by (λ (p : GuestPlan). p.pages) plans < 2 ^ 32 =
    subst (λ (l : List GuestPlan). sum_by (λ (p : GuestPlan). p.pages) l < 2 ^ 32) (sym c.as_slice-plans.ensures) (omega (arith, c.requires.range.guests.pages_in_all)) in
    can_same c.args.pool.now _ tables.words.items _ tables.hosts.items c.open_guests.ensures.words c.open_guests.ensures.hosts
    (can_seat plans c.args.pool.now tables.words.items tables.guests.items tables.hosts.items c.in_ok-tables.ensures.tables few)

pub add_reclaimers-requires-clause-ready : goal.add_reclaimers-requires-clause-ready
add_reclaimers-requires-clause-ready c =
    subst (λ (ws : List WordsView). All (IsReady ws c.args.pool.now) c.in_ok-groups.groups.items) (sym c.open_guests.ensures.words)
    (all_ready c.as_slice-plans.result.now c.in_ok-tables.tables.words.items c.args.pool.now c.in_ok-groups.groups.items c.in_ok-groups.ensures.count c.in_ok-groups.ensures.each)

pub returns-clause-filled : goal.returns-clause-filled
returns-clause-filled c =
    let plans = c.as_slice-plans.result.now in
    let tables = c.in_ok-tables.tables in
    let are = c.in_ok-tables.ensures.tables in
    let made = c.add_reclaimers.new in
    let few : sum_by (λ (p : GuestPlan). p.pages) plans < 2 ^ 32 =
    subst (λ (l : List GuestPlan). sum_by (λ (p : GuestPlan). p.pages) l < 2 ^ 32) (sym c.as_slice-plans.ensures) (omega (arith, c.requires.range.guests.pages_in_all)) in
    let words : made.tables.words.items ≡ tables.words.items = c.add_reclaimers.ensures.words ∙ c.open_guests.ensures.words in
    let hosts : made.tables.hosts.items ≡ tables.hosts.items = c.add_reclaimers.ensures.hosts ∙ c.open_guests.ensures.hosts in
    are_open c.args.plan.now plans tables.words.items c.open_guests.new.tables.words.items made.tables.words.items c.args.pool.now made.tables.hosts.items c.in_ok-groups.groups.items
    made.groups.items c.as_slice-plans.ensures c.add_reclaimers.ensures.words c.open_guests.ensures.words
    (can_same c.args.pool.now made.tables.words.items tables.words.items made.tables.hosts.items tables.hosts.items words hosts
    (can_seat plans c.args.pool.now tables.words.items tables.guests.items tables.hosts.items are few))
    (subst (λ (l : List Seated). All (λ (s : Seated). s.view.held ≡ None) l) (sym hosts) are.idle)
    (words_size plans c.args.pool.now tables.words.items tables.guests.items tables.hosts.items are) c.in_ok-groups.ensures.count c.in_ok-groups.ensures.each c.add_reclaimers.ensures.kept
    c.in_ok-add_reclaimers.ensures.count c.add_reclaimers.ensures.ready
