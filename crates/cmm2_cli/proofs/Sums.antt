-- The sums over a world's guests, and that none is too large.
use Rattle.std.specs.Prelude.{◌≡◌, ◌<◌, ◌≤◌, ℕ, ◌+◌, ◌*◌, ◌^◌, List, map, length, slice_index_or}
use Rattle.std.specs.List.{range_with_len}
use Rattle.std.proofs.Common.{sym, ap, subst, arith, ◌∙◌}
use Rattle.std.proofs.lemmas.List.{length-map, get_or-map}
use Rattle.std.proofs.lemmas.List.FromFn.{sum_by-map-range_with_len_more}
use Rattle.cmm_types.specs.declared.plan.GuestPlan.{GuestPlan}
use Rattle.cmm_types.specs.declared.plan.Scenario.{Scenario}
use Rattle.cmm_types.specs.declared.plan.TheConstants.{MAX_GUEST_PAGES}
use Rattle.cmm_types.specs.InRange.{ScenarioInRange, GuestInRange}
use Rattle.cmm_flat.specs.Laws.CountLaws.{legal-most}
use Rattle.cmm_report.specs.Report.{GuestReport}
use Rattle.guest_rules.specs.GuestState.{GuestState, opening_guest}
use Rattle.cmm_flat.specs.Laws.CommandLaws.{all_commands-bound}
use Rattle.cmm_types.specs.NoPlan.{no_plan}
use Rattle.cmm_world.specs.WorldState.{WorldState, guest_at}
use Rattle.cmm_world.specs.WorldView.{WorldView, plans_of, discards_of}
use Rattle.cmm2_cli.specs.Playing.{HasPlayed}
use Rattle.cmm2_cli.specs.Reports.{guest_report}
use Rattle.cmm2_cli.specs.Demo.{entries_in_all, discards_in_all, faults_in_all}

-- the reports of the first guests
abbrev pub first_reports : WorldState → ℕ → List GuestReport
first_reports w guest = map (guest_report w) (range_with_len 0 guest)

-- these are the sums over the first guests, and none is too large
pub record AreSums (w : WorldState) (guest entries discards faults : ℕ) : Type 0 where
  pub entries_are : entries ≡ entries_in_all (first_reports w guest)
  pub discards_are : discards ≡ discards_in_all (first_reports w guest)
  pub faults_are : faults ≡ faults_in_all (first_reports w guest)
  pub few_entries : entries ≤ guest * 80000
  pub few_discards : discards ≤ guest * (MAX_GUEST_PAGES * 2 ^ 32)
  pub few_faults : faults ≤ discards

-- how many entries, discards and faults a guest has
pub record IsFew (w : WorldState) (guest : ℕ) : Type 0 where
  pub entries : length (guest_at w guest).journal ≤ 80000
  pub faults : (guest_at w guest).parts.faults ≤ discards_of w guest

pub few : (plan : Scenario) (v : WorldView) (guest : ℕ) → ScenarioInRange plan → HasPlayed plan v → guest < length v.state.guests → IsFew v.state guest
few plan v guest range has below =
    let w = v.state in
    let plans : plans_of w ≡ plan.guests = ap plans_of has.state ∙ has.legal.plans in
    let count : length w.guests ≡ length plan.guests = sym (length-map w.guests (λ (g : GuestState). g.plan)) ∙ ap (λ (ps : List GuestPlan). length ps) plans in
    let within : guest < length plan.guests = omega (arith, below, count) in
    let its : GuestInRange (guest_at w guest).plan =
    subst GuestInRange (sym (ap (λ ps. slice_index_or ps guest no_plan) plans) ∙ get_or-map (λ (g : GuestState). g.plan) w.guests guest (opening_guest no_plan) no_plan below)
    (range.guests.each guest no_plan within) in
    record {
      entries = omega (arith, legal-most (guest_at w guest).plan (guest_at w guest).journal (has.fit guest below).journal.legal, all_commands-bound (guest_at w guest).plan its);
      faults = subst (λ (x : WorldState). (guest_at x guest).parts.faults ≤ discards_of x guest) (sym has.state) (has.legal.faults guest within);
    }

pub sums_next : (w : WorldState) (guest entries discards faults : ℕ) → AreSums w guest entries discards faults → IsFew w guest → discards_of w guest ≤ MAX_GUEST_PAGES * 2 ^ 32
    → AreSums w (guest + 1) (entries + length (guest_at w guest).journal) (discards + discards_of w guest) (faults + (guest_at w guest).parts.faults)
sums_next w guest entries discards faults sums its most = record {
  entries_are = ap (λ n. n + length (guest_at w guest).journal) sums.entries_are
      ∙ sym (sum_by-map-range_with_len_more (λ (r : GuestReport). length r.journal) (guest_report w) 0 guest guest (omega arith));
  discards_are = ap (λ n. n + discards_of w guest) sums.discards_are ∙ sym (sum_by-map-range_with_len_more (λ (r : GuestReport). r.discards) (guest_report w) 0 guest guest (omega arith));
  faults_are = ap (λ n. n + (guest_at w guest).parts.faults) sums.faults_are ∙ sym (sum_by-map-range_with_len_more (λ (r : GuestReport). r.faults) (guest_report w) 0 guest guest (omega arith));
  few_entries = omega (arith, sums.few_entries, its.entries);
  few_discards = omega (arith, sums.few_discards, most);
  few_faults = omega (arith, sums.few_faults, its.faults);
}
