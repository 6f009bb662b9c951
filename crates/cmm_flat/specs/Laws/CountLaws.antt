-- A legal journal has at most an entry for each command, and one for each exactly where it is complete.
use Rattle.std.proofs.Common.{◌≡◌, ◌≤◌, ◌<◌, ◌+◌, ◌∙◌, ℕ, zero, suc, List, [], ◌∷◌, length, map, set, get_or, slice_get, Option, Some, None, refl, sym, ap, subst, arith}
use Rattle.std.specs.Prelude.{sum_by}
use Rattle.std.proofs.lemmas.Option.{slice_get_within}
use Rattle.std.proofs.lemmas.List.Sums.{sum_by-cons, sum_by-set}
use Rattle.cmm_types.specs.declared.plan.CpuPlan.{CpuPlan}
use Rattle.cmm_types.specs.declared.plan.GuestPlan.{GuestPlan}
use Rattle.cmm_types.specs.declared.command.Entry.{Entry}
use Rattle.cmm_types.specs.declared.command.Op.{Op}
use Rattle.cmm_flat.specs.Legal.{Walk, Progress, at_start, start_of, progress_of, command_of, process_of, pages_ended, all_commands, after, walk_of, IsNext, LegalFrom, Legal, Complete}

abbrev next_of : Progress → ℕ
next_of p = p.next

abbrev many : CpuPlan → ℕ
many cpu = length cpu.commands

-- each processor has no more entries than commands
abbrev Within : List Progress → List CpuPlan → Type 0
Within [] [] = Unit {0}
Within [] (c ∷ cpus) = ⊥
Within (p ∷ ps) [] = ⊥
Within (p ∷ ps) (c ∷ cpus) = (p.next ≤ many c) × Within ps cpus

within-start : (cpus : List CpuPlan) → Within (map (λ cpu. at_start) cpus) cpus
within-start [] = tt
within-start (c ∷ cpus) = (omega arith, within-start cpus)

within-set : (ps : List Progress) (cpus : List CpuPlan) (q : ℕ) (its : CpuPlan) (p : Progress) → Within ps cpus → slice_get cpus q ≡ Some its → p.next ≤ many its → Within (set ps q p) cpus
within-set [] [] q its p within at few = tt
within-set [] (c ∷ cpus) q its p within at few = absurd within
within-set (x ∷ ps) [] q its p within at few = absurd within
within-set (x ∷ ps) (c ∷ cpus) zero its p within at few = let is : c ≡ its = cc in (subst (λ (cpu : CpuPlan). p.next ≤ many cpu) (sym is) few, within.1)
within-set (x ∷ ps) (c ∷ cpus) (suc q) its p within at few = (within.0, within-set ps cpus q its p within.1 at few)

within-sum : (ps : List Progress) (cpus : List CpuPlan) → Within ps cpus → sum_by next_of ps ≤ sum_by many cpus
within-sum [] [] within = omega arith
within-sum [] (c ∷ cpus) within = absurd within
within-sum (p ∷ ps) [] within = absurd within
within-sum (p ∷ ps) (c ∷ cpus) within = omega (arith, within.0, within-sum ps cpus within.1, sum_by-cons next_of p ps, sum_by-cons many c cpus)

within-same : (ps : List Progress) (cpus : List CpuPlan) → Within ps cpus → sum_by next_of ps ≡ sum_by many cpus → map next_of ps ≡ map many cpus
within-same [] [] within e = refl
within-same [] (c ∷ cpus) within e = absurd within
within-same (p ∷ ps) [] within e = absurd within
within-same (p ∷ ps) (c ∷ cpus) within e =
    let rest = within-sum ps cpus within.1 in
    let here : p.next ≡ many c = omega (arith, within.0, rest, e, sum_by-cons next_of p ps, sum_by-cons many c cpus) in
    let there : sum_by next_of ps ≡ sum_by many cpus = omega (arith, here, e, sum_by-cons next_of p ps, sum_by-cons many c cpus) in
    ap (λ n. n ∷ map next_of ps) here ∙ ap (λ ns. many c ∷ ns) (within-same ps cpus within.1 there)

same-sum : (ps : List Progress) (cpus : List CpuPlan) → map next_of ps ≡ map many cpus → sum_by next_of ps ≡ sum_by many cpus
same-sum [] [] e = refl
same-sum [] (c ∷ cpus) e = absurd (omega (arith, ap (λ (ns : List ℕ). length ns) e))
same-sum (p ∷ ps) [] e = absurd (omega (arith, ap (λ (ns : List ℕ). length ns) e))
same-sum (p ∷ ps) (c ∷ cpus) e =
    let here : p.next ≡ many c = ap (λ (ns : List ℕ). get_or ns 0 0) e in
    let there = same-sum ps cpus (ap tail_of e) in
    omega (arith, here, there, sum_by-cons next_of p ps, sum_by-cons many c cpus)
  where
    tail_of : List ℕ → List ℕ
    tail_of [] = []
    tail_of (n ∷ ns) = ns

within-length : (ps : List Progress) (cpus : List CpuPlan) → Within ps cpus → length ps ≡ length cpus
within-length [] [] within = refl
within-length [] (c ∷ cpus) within = absurd within
within-length (p ∷ ps) [] within = absurd within
within-length (p ∷ ps) (c ∷ cpus) within = ap suc (within-length ps cpus within.1)

-- the plan of a processor that has this command
pub record Commanded (plan : GuestPlan) (cpu k : ℕ) (op : Op) : Type 0 where
  pub its : CpuPlan
  pub there : slice_get plan.cpus cpu ≡ Some its
  pub command : slice_get its.commands k ≡ Some op

pub commanded : (plan : GuestPlan) (cpu k : ℕ) (op : Op) → command_of plan cpu k ≡ Some op → Commanded plan cpu k op
commanded plan cpu k op e = of (slice_get plan.cpus cpu) refl
  where
    of : (o : Option CpuPlan) → slice_get plan.cpus cpu ≡ o → Commanded plan cpu k op
    of None z = let bad : None ≡ Some op = (rw (z, command_of) at e) in absurd cc
    of (Some its) z = record { its = its; there = z; command = rw (z, command_of) at e }

within-after : (plan : GuestPlan) (walk : Walk) (entry : Entry) → Within walk.cpus plan.cpus → IsNext plan walk entry → Within (after plan walk entry).cpus plan.cpus
within-after plan walk entry within next =
    let at = commanded plan entry.cpu entry.k entry.op next.command in
    let below = slice_get_within at.its.commands entry.k entry.op at.command in
    let few : (progress_of walk entry.cpu).next + 1 ≤ many at.its = omega (arith, below, next.number) in
    within-set walk.cpus plan.cpus entry.cpu at.its
    (record { next = (progress_of walk entry.cpu).next + 1; ended = pages_ended walk.flat (process_of plan entry.cpu) entry.op entry.reply }) within at.there few

sum-after : (plan : GuestPlan) (walk : Walk) (entry : Entry) → Within walk.cpus plan.cpus → IsNext plan walk entry → sum_by next_of (after plan walk entry).cpus ≡ sum_by next_of walk.cpus + 1
sum-after plan walk entry within next =
    let at = commanded plan entry.cpu entry.k entry.op next.command in
    let below = slice_get_within plan.cpus entry.cpu at.its at.there in
    let there : entry.cpu < length walk.cpus = omega (arith, below, within-length walk.cpus plan.cpus within) in
    omega (
      arith,
      sum_by-set next_of walk.cpus entry.cpu (record { next = (progress_of walk entry.cpu).next + 1; ended = pages_ended walk.flat (process_of plan entry.cpu) entry.op entry.reply }) at_start there,
    )

-- a walk after which each processor has no more entries than commands, with as many more in all as the journal has
record Counted (plan : GuestPlan) (start : Walk) (journal : List Entry) : Type 0 where
  within : Within (walk_of plan start journal).cpus plan.cpus
  more : sum_by next_of (walk_of plan start journal).cpus ≡ sum_by next_of start.cpus + length journal

counted : (plan : GuestPlan) (walk : Walk) (journal : List Entry) → Within walk.cpus plan.cpus → LegalFrom plan walk journal → Counted plan walk journal
counted plan walk [] within legal = record { within = within; more = omega arith }
counted plan walk (entry ∷ journal) within legal =
    let rest = counted plan (after plan walk entry) journal (within-after plan walk entry within legal.0) legal.1 in
    record { within = rest.within; more = omega (arith, rest.more, sum-after plan walk entry within legal.0) }

none-yet : (cpus : List CpuPlan) → sum_by next_of (map (λ cpu. at_start) cpus) ≡ 0
none-yet [] = refl
none-yet (c ∷ cpus) = omega (arith, sum_by-cons next_of at_start (map (λ (cpu : CpuPlan). at_start) cpus), none-yet cpus)

entries : (plan : GuestPlan) (journal : List Entry) → Legal plan journal → sum_by next_of (walk_of plan (start_of plan) journal).cpus ≡ length journal
entries plan journal legal = omega (arith, (counted plan (start_of plan) journal (within-start plan.cpus) legal).more, none-yet plan.cpus)

pub legal-most : (plan : GuestPlan) (journal : List Entry) → Legal plan journal → length journal ≤ all_commands plan
legal-most plan journal legal =
    omega (arith, entries plan journal legal, within-sum (walk_of plan (start_of plan) journal).cpus plan.cpus (counted plan (start_of plan) journal (within-start plan.cpus) legal).within)

pub complete-all : (plan : GuestPlan) (journal : List Entry) → Complete plan journal → length journal ≡ all_commands plan
complete-all plan journal complete = omega (arith, entries plan journal complete.0, same-sum (walk_of plan (start_of plan) journal).cpus plan.cpus complete.1)

pub complete-from_all : (plan : GuestPlan) (journal : List Entry) → Legal plan journal → length journal ≡ all_commands plan → Complete plan journal
complete-from_all plan journal legal all =
    let all_walked : sum_by next_of (walk_of plan (start_of plan) journal).cpus ≡ sum_by many plan.cpus = omega (arith, entries plan journal legal, all) in
    (legal, within-same (walk_of plan (start_of plan) journal).cpus plan.cpus (counted plan (start_of plan) journal (within-start plan.cpus) legal).within all_walked)
