use Rattle.std.proofs.Common.{rules, arith, sym, ap, subst, ◌≡◌, ◌<◌, ◌+◌, ◌∙◌, List, length, slice_index_or, vec_len}
use Rattle.std.proofs.lemmas.List.{get_or_default}
use Rattle.cmm_types.specs.declared.plan.GuestPlan.{GuestPlan}
use Rattle.cmm_vcpu.specs.Machines.{GroupState}
use Rattle.cmm_types.specs.NoPlan.{no_plan}
use Rattle.cmm_vcpu.proofs.OpenGroups.{GuestsSo, SeatAt, can_seat, can_same, there_same, group_same, rest_some, seat_of_rest, guests_more}
use Rattle.cmm_vcpu.proofs.opening.open_guests.Goals as goal

pub take_first-guest-requires : goal.take_first-guest-requires
take_first-guest-requires c =
    let words0 = c.args.tables.now.words.items in
    let guests0 = c.args.tables.now.guests.items in
    let hosts0 = c.args.tables.now.hosts.items in
    let at = c.loop-plan.plan-index in
    let now = c.loop-plan.invariant in
    let below : at < length c.args.plans.now = search (rules, arith) in
    rest_some c.args.plans.now c.args.pool.now words0 guests0 hosts0 c.loop-plan.tables.guests.items at c.requires.tables below now.3.rest_is

pub open_storage-requires-clause-can : goal.open_storage-requires-clause-can
open_storage-requires-clause-can c =
    let now = c.loop-plan.invariant in
    can_same c.args.pool.now _ c.args.tables.now.words.items _ c.args.tables.now.hosts.items (c.take_first-guest.ensures.words ∙ now.0) (c.take_first-guest.ensures.hosts ∙ now.1)
    (can_seat c.args.plans.now c.args.pool.now c.args.tables.now.words.items c.args.tables.now.guests.items c.args.tables.now.hosts.items c.requires.tables c.requires.few_pages)

pub open_storage-requires-clause-words : goal.open_storage-requires-clause-words
open_storage-requires-clause-words c =
    let words0 = c.args.tables.now.words.items in
    let guests0 = c.args.tables.now.guests.items in
    let hosts0 = c.args.tables.now.hosts.items in
    let at = c.loop-plan.plan-index in
    let now = c.loop-plan.invariant in
    let below : at < length c.args.plans.now = search (rules, arith) in
    let long : vec_len c.loop-plan.groups ≡ length c.loop-plan.groups.items = search rules in
    let number : c.len-number.result ≡ at = omega (arith, c.len-number.ensures, long, now.3.size) in
    let seat : SeatAt c.args.plans.now words0 at c.take_first-guest.result =
    seat_of_rest c.args.plans.now c.args.pool.now words0 guests0 hosts0 c.loop-plan.tables.guests.items at c.take_first-guest.result c.requires.tables below now.3.rest_is
    c.take_first-guest.ensures.first in
    there_same _ words0 c.len-number.result at c.take_first-guest.result.words (c.take_first-guest.ensures.words ∙ now.0) number seat.there

pub open_storage-requires-clause-first : goal.open_storage-requires-clause-first
open_storage-requires-clause-first c =
    let words0 = c.args.tables.now.words.items in
    let guests0 = c.args.tables.now.guests.items in
    let hosts0 = c.args.tables.now.hosts.items in
    let at = c.loop-plan.plan-index in
    let now = c.loop-plan.invariant in
    let below : at < length c.args.plans.now = search (rules, arith) in
    let seat : SeatAt c.args.plans.now words0 at c.take_first-guest.result =
    seat_of_rest c.args.plans.now c.args.pool.now words0 guests0 hosts0 c.loop-plan.tables.guests.items at c.take_first-guest.result c.requires.tables below now.3.rest_is
    c.take_first-guest.ensures.first in
    seat.first

pub open_storage-requires-clause-pages : goal.open_storage-requires-clause-pages
open_storage-requires-clause-pages c =
    let words0 = c.args.tables.now.words.items in
    let guests0 = c.args.tables.now.guests.items in
    let hosts0 = c.args.tables.now.hosts.items in
    let at = c.loop-plan.plan-index in
    let now = c.loop-plan.invariant in
    let below : at < length c.args.plans.now = search (rules, arith) in
    let seat : SeatAt c.args.plans.now words0 at c.take_first-guest.result =
    seat_of_rest c.args.plans.now c.args.pool.now words0 guests0 hosts0 c.loop-plan.tables.guests.items at c.take_first-guest.result c.requires.tables below now.3.rest_is
    c.take_first-guest.ensures.first in
    let is : c.plan-item.result ≡ slice_index_or c.args.plans.now at c.plan-item.result = c.plan-item.is in
    let planned : c.plan-item.result ≡ slice_index_or c.args.plans.now at no_plan = is ∙ get_or_default c.args.plans.now at c.plan-item.result no_plan below in
    seat.pages ∙ sym (ap (λ (p : GuestPlan). p.pages) planned)

pub loop-plan-preserved : goal.loop-plan-preserved
loop-plan-preserved c =
    let words0 = c.args.tables.now.words.items in
    let guests0 = c.args.tables.now.guests.items in
    let hosts0 = c.args.tables.now.hosts.items in
    let at = c.loop-plan.plan-index in
    let now = c.loop-plan.invariant in
    let below : at < length c.args.plans.now = search (rules, arith) in
    let long : vec_len c.loop-plan.groups ≡ length c.loop-plan.groups.items = search rules in
    let number : c.len-number.result ≡ at = omega (arith, c.len-number.ensures, long, now.3.size) in
    let is : c.plan-item.result ≡ slice_index_or c.args.plans.now at c.plan-item.result = c.plan-item.is in
    let planned : c.plan-item.result ≡ slice_index_or c.args.plans.now at no_plan = is ∙ get_or_default c.args.plans.now at c.plan-item.result no_plan below in
    let made = c.open_storage.ensures in
    let first = c.take_first-guest.ensures in
    let of = c.in_ok-storage.ensures in
    let group =
    group_same c.plan-item.result (slice_index_or c.args.plans.now at no_plan) _ words0 _ c.args.pool.now _ at c.in_ok-open_guest.field-0 planned (of.of_words ∙ first.words ∙ now.0) of.of_pool
    (of.number ∙ number) c.in_ok-open_guest.ensures in
    let more =
    guests_more c.args.plans.now words0 c.args.pool.now guests0 c.loop-plan.tables.guests.items c.open_storage.new.tables.guests.items c.loop-plan.groups.items at c.in_ok-open_guest.field-0 now.3
    (made.guests ∙ first.rest) group in (
      made.words ∙ first.words ∙ now.0,
      made.hosts ∙ first.hosts ∙ now.1,
      made.same ∙ now.2,
      subst (λ (gs : List GroupState). GuestsSo c.args.plans.now words0 c.args.pool.now guests0 c.open_storage.new.tables.guests.items gs (at + 1)) (sym c.in_ok-push.ensures.items) more,
    )
