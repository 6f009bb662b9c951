-- The report of a plan's run is accepted.
use Rattle.std.specs.Prelude.{◌≡◌, ◌<◌, ℕ, suc, ◌-◌, ◌^◌, List, [], ◌∷◌, true, false, length, map, All}
use Rattle.std.specs.List.{range_with_len}
use Rattle.std.proofs.Common.{refl, sym, ap, subst, arith, ◌∙◌}
use Rattle.std.proofs.lemmas.List.{length-map}
use Rattle.cmm_types.specs.declared.event.Event.{Event}
use Rattle.cmm_types.specs.declared.plan.GuestPlan.{GuestPlan}
use Rattle.cmm_types.specs.declared.plan.Scenario.{Scenario}
use Rattle.cmm_types.specs.InRange.{ScenarioInRange}
use Rattle.cmm_report.specs.Report.{report_of}
use Rattle.cmm_check.specs.declared.verdict.Verdict.TheVariants.{Accepted}
use Rattle.cmm_check.specs.Answers.{AnswerFits}
use Rattle.cmm_check.specs.Accepted.{IsLegalGuest, AreLegalGuests}
use Rattle.cmm_check.specs.Verdict.{verdict_of}
use Rattle.cmm_check.proofs.LegalLaws.{legal_is_accepted, legal_guests}
use Rattle.guest_rules.specs.GuestState.{GuestState, opening_guest}
use Rattle.cmm_types.specs.NoPlan.{no_plan}
use Rattle.cmm_world.specs.WorldState.{WorldState, opening_world, guest_at}
use Rattle.cmm_world.specs.WorldView.{WorldView, plans_of, discards_of}
use Rattle.cmm_world.specs.Run.{world_step, answers_of, run_of}
use Rattle.cmm2_cli.specs.Playing.{HasPlayed}
use Rattle.cmm2_cli.specs.Reports.{guest_report, reports_of}

-- an answer to each event
answers_many : (w : WorldState) (events : List Event) → length (answers_of w events) ≡ length events
answers_many w [] = refl
answers_many w (event ∷ events) = ap suc (answers_many (world_step w event).1 events)

pub run_accepted : (plan : Scenario) (v : WorldView) → ScenarioInRange plan → HasPlayed plan v → All AnswerFits v.answers
    → ((guest : ℕ) → guest < length v.state.guests → discards_of v.state guest < 2 ^ 64)
    → verdict_of plan (report_of false (run_of plan).0 (reports_of (run_of plan).1)) ≡ Accepted
run_accepted plan v range has numbers counts =
    legal_is_accepted plan (report_of false (run_of plan).0 (reports_of x)) range (record {
      run = false;
      answers = (run_of plan).0;
      guests = reports_of x;
      text = refl;
      answered = record { each_event = answers_many (opening_world plan) plan.schedule; numbers = subst (All AnswerFits) has.answers numbers };
      legal = subst (λ ps. AreLegalGuests false ps (reports_of x)) has.legal.plans legal;
    })
  where
    x : WorldState
    x = (run_of plan).1

    count : length x.guests ≡ length plan.guests
    count = sym (length-map x.guests (λ (g : GuestState). g.plan)) ∙ ap (λ (ps : List GuestPlan). length ps) has.legal.plans

    each : (guest : ℕ) → guest < length x.guests → IsLegalGuest false (guest_at x guest).plan (guest_report x guest)
    each guest below =
        let within : guest < length plan.guests = omega (arith, below, count) in
        record {
          legal = has.legal.legal guest within;
          complete = λ run. (let bad : false ≡ true = run in absurd cc);
          by_disk = (has.legal.failures guest within).by_disk;
          by_pager = (has.legal.failures guest within).by_pager;
          faults = has.legal.faults guest within;
          counted = subst (λ (w : WorldState). discards_of w guest < 2 ^ 64) has.state (counts guest (omega (arith, below, ap (λ (w : WorldState). length w.guests) has.state)));
        }

    legal : AreLegalGuests false (plans_of x) (reports_of x)
    legal =
        let all : length x.guests - 0 ≡ length x.guests = omega arith in
        subst (λ n. AreLegalGuests false (plans_of x) (map (guest_report x) (range_with_len 0 n))) (sym all)
        (legal_guests false (λ (g : GuestState). g.plan) (opening_guest no_plan) (guest_report x) x.guests each)
