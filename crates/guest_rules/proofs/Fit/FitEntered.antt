-- An entry with a legal reply, at a processor in phase Start, keeps fit.
use Rattle.std.proofs.Common.{◌≡◌, ◌≢◌, ◌⊎◌, ◌<◌, ◌≤◌, ◌+◌, ◌++◌, ℕ, [], ◌∷◌, set, length, Some, refl, ap, sym, ◌∙◌, inl, inr, subst, arith, length-set, get_or-set_same, get_or-set_other}
use Rattle.std.proofs.lemmas.Bool.{cases_eq}
use Rattle.std.proofs.lemmas.List.{length_push}
use Rattle.std.proofs.lemmas.List.Sums.{sum_by-set}
use Rattle.cmm_types.specs.declared.plan.GuestPlan.{GuestPlan}
use Rattle.cmm_types.specs.declared.command.Op.{Op}
use Rattle.cmm_types.specs.declared.command.Reply.{Reply}
use Rattle.cmm_types.specs.declared.command.Entry.{Entry}
use Rattle.cmm_io.specs.DiskView.{DiskView}
use Rattle.cmm_flat.specs.State.{FlatState}
use Rattle.cmm_flat.specs.Legal.{Walk, Progress, at_start, IsReply, start_of, progress_of, process_of, command_of, flat_of, flat_after, pages_ended, after, walk_of}
use Rattle.cmm_flat.specs.Laws.LegalLaws.{walk_of-push, LegalFrom-push, progress_of-after_other, next-after, length-cpus, length-start}
use Rattle.cmm_storage.specs.StorageView.{StorageView}
use Rattle.guest_maps.specs.MapsView.{slot_at}
use Rattle.guest_rules.specs.declared.processor.Phase.TheVariants.{Start, Teardown}
use Rattle.guest_rules.specs.declared.processor.Processor.{Processor}
use Rattle.guest_rules.specs.GuestState.{GuestState, first_processor, processor_at, entered}
use Rattle.guest_rules.specs.Fit.{JournalFit, FitAt, Fit, command_count, answered_early, entries_of, own_pages}
use Rattle.guest_rules.proofs.Kept.LocksKept.{locks_none, LocksFit-passed}
use Rattle.guest_rules.proofs.Kept.TeardownsKept.{OneProcessor, one-set, KeepsTearing, keeps_tearing-one, keeps_torn-same, untagged-same, TeardownsFit-kept}
use Rattle.guest_rules.proofs.Fit.FitOthers.{FlatFit-others, FitAt-others}
use Rattle.guest_rules.proofs.Fit.FitChanged.{keeps_ended}
use Rattle.guest_rules.proofs.Kept.TagsKept.{tags_stand}
use Rattle.guest_rules.proofs.Cases.Commands.{command-below}

-- the entry of the processor's command
abbrev pub entry_of : GuestState → ℕ → Op → Reply → Entry
entry_of g cpu op reply = record { cpu = cpu; k = (processor_at g cpu).place; op = op; reply = reply }

abbrev pub walk_at : GuestState → Walk
walk_at g = walk_of g.plan (start_of g.plan) g.journal

-- a legal reply to the command of a processor in phase Start, which goes on as another processor
pub record Answers (g : GuestState) (cpu : ℕ) (op : Op) (reply : Reply) (processor : Processor) : Type 0 where
  pub below : cpu < length g.processors
  pub start : (processor_at g cpu).phase ≡ Start
  pub command : command_of g.plan cpu (processor_at g cpu).place ≡ Some op
  pub reply_is : IsReply g.plan (walk_at g) (process_of g.plan cpu) op reply
  -- with one entry more in the journal
  pub entries : entries_of processor ≡ (processor_at g cpu).place + 1

-- how many pages of its own the mapping had that an entry ends
ended-after : (plan : GuestPlan) (walk : Walk) (entry : Entry) → entry.cpu < length walk.cpus
    → (progress_of (after plan walk entry) entry.cpu).ended ≡ pages_ended walk.flat (process_of plan entry.cpu) entry.op entry.reply
ended-after plan walk entry there = ap (λ (p : Progress). p.ended) (get_or-set_same walk.cpus entry.cpu _ at_start there)

-- a processor that tears a mapping down in the end did so before, or has ended this mapping by this entry
abbrev pub IsEnded : GuestState → GuestState → (cpu : ℕ) → Op → Reply → (q slot : ℕ) → Type 0
IsEnded g h cpu op reply q slot =
    ((q ≢ cpu) × (at : ℕ) × ((processor_at g q).phase ≡ Teardown slot at) × (own_pages (slot_at h.parts.maps slot) ≡ own_pages (slot_at g.parts.maps slot)))
    ⊎ ((q ≡ cpu) × (pages_ended (flat_of g.plan g.journal) (process_of g.plan cpu) op reply ≡ own_pages (slot_at h.parts.maps slot)))

abbrev pub EndsAs : GuestState → GuestState → (cpu : ℕ) → Op → Reply → Type 0
EndsAs g h cpu op reply = (q slot index : ℕ) → (processor_at h q).phase ≡ Teardown slot index → IsEnded g h cpu op reply q slot

pub JournalFit-entered : (g h : GuestState) (cpu : ℕ) (op : Op) (reply : Reply) (processor : Processor) → JournalFit g → length g.processors ≡ length g.plan.cpus
    → Answers g cpu op reply processor → h.plan ≡ g.plan → h.journal ≡ g.journal ++ entry_of g cpu op reply ∷ [] → h.processors ≡ set g.processors cpu processor → EndsAs g h cpu op reply
    → JournalFit h
JournalFit-entered g h cpu op reply processor f size k plan journal processors ended = record {
  legal = rw (plan, journal) (LegalFrom-push g.plan (start_of g.plan) g.journal entry f.legal (record { number = sym (f.places cpu k.below ∙ before); command = k.command; reply = k.reply_is }));
  ended = λ q slot index e. rw (plan, journal, walk_of-push g.plan (start_of g.plan) g.journal entry) (ends q slot (ended q slot index e));
  places = λ q lt. rw (plan, journal, walk_of-push g.plan (start_of g.plan) g.journal entry) (place q (rw (processors, length-set) at lt));
  within = λ q lt. rw plan (room q (rw (processors, length-set) at lt));
  counted = rw (journal, processors) (more _ _ _ _ _ _ _ (length_push g.journal entry) (sum_by-set entries_of g.processors cpu processor first_processor k.below) f.counted before k.entries);
}
  where
    entry : Entry
    entry = entry_of g cpu op reply

    before : entries_of (processor_at g cpu) ≡ (processor_at g cpu).place
    before = ap (λ p. (processor_at g cpu).place + answered_early p) k.start ∙ omega arith

    more : (after count sums old was new place : ℕ) → after ≡ count + 1 → sums + was ≡ old + new → count ≡ old → was ≡ place → new ≡ place + 1 → after ≡ sums
    more after count sums old was new place a b c d e = omega (arith, a, b, c, d, e)

    cpus : cpu < length (walk_at g).cpus
    cpus = rw (length-cpus g.plan (start_of g.plan) g.journal, length-start g.plan, ← size) k.below

    place : (q : ℕ) → q < length g.processors → (progress_of (after g.plan (walk_at g) entry) q).next ≡ entries_of (processor_at h q)
    place q lt = elim (cases_eq q cpu) [
      | inl z ↦ rw (processors, z, get_or-set_same g.processors cpu processor first_processor k.below)
          (next-after g.plan (walk_at g) entry cpus ∙ ap (λ n. n + 1) (f.places cpu k.below ∙ before) ∙ sym k.entries)
      | inr n ↦ rw (processors, get_or-set_other g.processors cpu q processor first_processor n)
          (ap (λ (p : Progress). p.next) (progress_of-after_other g.plan (walk_at g) entry q n) ∙ f.places q lt)
    ]

    ends : (q slot : ℕ) → IsEnded g h cpu op reply q slot → (progress_of (after g.plan (walk_at g) entry) q).ended ≡ own_pages (slot_at h.parts.maps slot)
    ends q slot (inl (n, at, before, same)) = ap (λ (p : Progress). p.ended) (progress_of-after_other g.plan (walk_at g) entry q n) ∙ f.ended q slot at before ∙ sym same
    ends q slot (inr (z, same)) = ap (λ x. (progress_of (after g.plan (walk_at g) entry) x).ended) z ∙ ended-after g.plan (walk_at g) entry cpus ∙ same

    room : (q : ℕ) → q < length g.processors → entries_of (processor_at h q) ≤ command_count g.plan q
    room q lt = elim (cases_eq q cpu) [
      | inl z ↦
          let most : (processor_at g cpu).place + 1 ≤ command_count g.plan cpu = omega (arith, command-below g.plan cpu (processor_at g cpu).place op k.command) in
          rw (processors, z, get_or-set_same g.processors cpu processor first_processor k.below) (subst (λ n. n ≤ command_count g.plan cpu) (sym k.entries) most)
      | inr n ↦ rw (processors, get_or-set_other g.processors cpu q processor first_processor n) (f.within q lt)
    ]

-- the flat state that the journal leads to then
pub flat-entered : (g : GuestState) (cpu : ℕ) (op : Op) (reply : Reply)
    → flat_of g.plan (g.journal ++ entry_of g cpu op reply ∷ []) ≡ flat_after (flat_of g.plan g.journal) (process_of g.plan cpu) op reply
flat-entered g cpu op reply = ap (λ (walk : Walk). walk.flat) (walk_of-push g.plan (start_of g.plan) g.journal (entry_of g cpu op reply))

abbrev next_one : GuestState → ℕ → Processor
next_one g cpu = record { place = (processor_at g cpu).place + 1; phase = Start }

-- the reply is legal, and the guest fits the state after it
pub Fit-entered : (g : GuestState) (v : StorageView) (d : DiskView) (cpu : ℕ) (op : Op) (reply : Reply) → FitAt (flat_after (flat_of g.plan g.journal) (process_of g.plan cpu) op reply) g v d
    → cpu < length g.processors
    → (processor_at g cpu).phase ≡ Start → command_of g.plan cpu (processor_at g cpu).place ≡ Some op → IsReply g.plan (walk_at g) (process_of g.plan cpu) op reply → Fit (entered g cpu op reply) v d
unfolding entered
Fit-entered g v d cpu op reply f below start command reply_is =
    subst (λ (state : FlatState). FitAt state (entered g cpu op reply) v d) (sym (flat-entered g cpu op reply))
    (FitAt-others later later g v d g.parts.maps (g.journal ++ entry_of g cpu op reply ∷ []) (set g.processors cpu (next_one g cpu)) f
    (FlatFit-others later g v d g.parts.maps (g.journal ++ entry_of g cpu op reply ∷ []) (set g.processors cpu (next_one g cpu)) f.flat (λ slot live. refl)) one.size (record {
      slots = f.slots;
      entries = f.entries;
      pins = f.pins;
      tags = tags_stand g.parts v f.tags;
      locks = LocksFit-passed g (entered g cpu op reply) cpu Start f.locks refl refl refl one.size (ap (λ (p : Processor). p.phase) one.here) one.others (locks_none g cpu Start start tt) tt tt;
      teardowns = TeardownsFit-kept later g (entered g cpu op reply) f.slots f.teardowns tearing (keeps_torn-same g.parts.maps g.parts.maps refl) (untagged-same g.parts g.parts.cache refl);
      journal = JournalFit-entered g (entered g cpu op reply) cpu op reply (next_one g cpu) f.journal f.sizes.processors
          (record { below = below; start = start; command = command; reply_is = reply_is; entries = omega arith }) refl refl refl ended;
    }))
  where
    later : FlatState
    later = flat_after (flat_of g.plan g.journal) (process_of g.plan cpu) op reply

    one : OneProcessor g.processors (set g.processors cpu (next_one g cpu)) cpu (next_one g cpu)
    one = one-set g.processors cpu (next_one g cpu) below

    tearing : KeepsTearing g (entered g cpu op reply)
    tearing = keeps_tearing-one g (entered g cpu op reply) cpu (next_one g cpu) refl one start refl

    ended : EndsAs g (entered g cpu op reply) cpu op reply
    ended q slot index e =
        let was = keeps_ended g (entered g cpu op reply) f.teardowns tearing (keeps_torn-same g.parts.maps g.parts.maps refl) q slot index e in
        let other : q ≢ cpu = λ z.
        (let bad : Start ≡ Teardown slot index = ap (λ (p : Processor). p.phase) (sym one.here) ∙ ap (λ x. (processor_at (entered g cpu op reply) x).phase) (sym z) ∙ e in cc) in
        inl (other, was.0, was.1, was.2)
