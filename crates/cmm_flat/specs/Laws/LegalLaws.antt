-- Laws of journals: one more entry, whose numbers it changes, and what a failure leaves.
use Rattle.std.proofs.Common.{◌≡◌, ◌≢◌, Some, ◌<◌, ◌+◌, ℕ, List, [], ◌∷◌, ◌++◌, length, ap, sym, ◌∙◌, refl, subst}
use Rattle.std.proofs.lemmas.List.{get_or-set_other, get_or-set_same, length-set, length-map}
use Rattle.cmm_types.specs.declared.plan.GuestPlan.{GuestPlan}
use Rattle.cmm_types.specs.declared.command.Entry.{Entry}
use Rattle.cmm_types.specs.declared.command.Reply.{Reply}
use Rattle.cmm_types.specs.declared.command.Op.{Op}
use Rattle.cmm_types.specs.declared.command.Reply.TheVariants.{Done, Bytes, Refused, Fail}
use Rattle.cmm_types.specs.declared.command.Cause.{Cause}
use Rattle.std.specs.List.{AllByRecursion}
use Rattle.cmm_types.specs.InRange.{OpInRange}
use Rattle.cmm_flat.specs.State.{FlatState, IsSound, opening}
use Rattle.cmm_flat.specs.Laws.SoundLaws.{sound_without}
use Rattle.cmm_flat.specs.Flat.{flat_step}
use Rattle.cmm_flat.specs.Laws.FlatLaws.{never_fails, sound-flat_step}
use Rattle.cmm_flat.specs.Legal.{Walk, Progress, IsReply, command_of, at_start, start_of, progress_of, process_of, flat_after, after, IsNext, walk_of, LegalFrom}

pub walk_of-push : (plan : GuestPlan) (walk : Walk) (journal : List Entry) (entry : Entry) → walk_of plan walk (journal ++ entry ∷ []) ≡ after plan (walk_of plan walk journal) entry
walk_of-push plan walk [] entry = refl
walk_of-push plan walk (e ∷ journal) entry = walk_of-push plan (after plan walk e) journal entry

pub LegalFrom-push : (plan : GuestPlan) (walk : Walk) (journal : List Entry) (entry : Entry) → LegalFrom plan walk journal → IsNext plan (walk_of plan walk journal) entry
    → LegalFrom plan walk (journal ++ entry ∷ [])
LegalFrom-push plan walk [] entry legal next = (next, tt)
LegalFrom-push plan walk (e ∷ journal) entry legal next = (legal.0, LegalFrom-push plan (after plan walk e) journal entry legal.1 next)

pub LegalFrom-front : (plan : GuestPlan) (walk : Walk) (journal : List Entry) (entry : Entry) → LegalFrom plan walk (journal ++ entry ∷ [])
    → LegalFrom plan walk journal × IsNext plan (walk_of plan walk journal) entry
LegalFrom-front plan walk [] entry legal = (tt, legal.0)
LegalFrom-front plan walk (e ∷ journal) entry legal =
    let rest = LegalFrom-front plan (after plan walk e) journal entry legal.1 in
    ((legal.0, rest.0), rest.1)

-- an entry leaves where the other processors are
pub progress_of-after_other : (plan : GuestPlan) (walk : Walk) (entry : Entry) (cpu : ℕ) → cpu ≢ entry.cpu → progress_of (after plan walk entry) cpu ≡ progress_of walk cpu
progress_of-after_other plan walk entry cpu other = get_or-set_other walk.cpus entry.cpu cpu _ at_start other

-- an entry's processor has the next number
pub next-after : (plan : GuestPlan) (walk : Walk) (entry : Entry) → entry.cpu < length walk.cpus → (progress_of (after plan walk entry) entry.cpu).next ≡ (progress_of walk entry.cpu).next + 1
next-after plan walk entry there = ap (λ (p : Progress). p.next) (get_or-set_same walk.cpus entry.cpu _ at_start there)

pub length-cpus : (plan : GuestPlan) (walk : Walk) (journal : List Entry) → length (walk_of plan walk journal).cpus ≡ length walk.cpus
length-cpus plan walk [] = refl
length-cpus plan walk (e ∷ journal) = length-cpus plan (after plan walk e) journal ∙ length-set walk.cpus e.cpu _

pub length-start : (plan : GuestPlan) → length (start_of plan).cpus ≡ length plan.cpus
length-start plan = length-map plan.cpus (λ cpu. at_start)

-- a failure leaves the state
pub flat-after_failure : (plan : GuestPlan) (walk : Walk) (entry : Entry) (cause : Cause) → entry.reply ≡ Fail cause → (after plan walk entry).flat ≡ walk.flat
flat-after_failure plan walk entry cause failed = ap (flat_after walk.flat (process_of plan entry.cpu) entry.op) failed

-- the flat machine's reply is a reply
pub IsReply-from_step : (plan : GuestPlan) (walk : Walk) (process : ℕ) (op : Op) (reply : Reply) → reply ≡ (flat_step walk.flat process op).1 → IsReply plan walk process op reply
IsReply-from_step plan walk process op Done e = e
IsReply-from_step plan walk process op (Bytes bytes) e = e
IsReply-from_step plan walk process op (Refused refusal) e = e
IsReply-from_step plan walk process op (Fail cause) e = absurd (never_fails walk.flat process op cause (sym e))

-- and leads where the flat machine's step does
pub flat_after-from_step : (flat : FlatState) (process : ℕ) (op : Op) (reply : Reply) → reply ≡ (flat_step flat process op).1 → flat_after flat process op reply ≡ (flat_step flat process op).0
flat_after-from_step flat process op Done e = refl
flat_after-from_step flat process op (Bytes bytes) e = refl
flat_after-from_step flat process op (Refused refusal) e = refl
flat_after-from_step flat process op (Fail cause) e = absurd (never_fails flat process op cause (sym e))

-- an entry with the flat machine's reply, and a legal rest from the state after it
pub LegalFrom-step : (plan : GuestPlan) (walk : Walk) (entry : Entry) (rest : List Entry) (state : FlatState) → entry.k ≡ (progress_of walk entry.cpu).next
    → command_of plan entry.cpu entry.k ≡ Some entry.op → flat_step walk.flat (process_of plan entry.cpu) entry.op ≡ (state, entry.reply)
    → LegalFrom plan (record { flat = state; cpus = (after plan walk entry).cpus }) rest → LegalFrom plan walk (entry ∷ rest)
LegalFrom-step plan walk entry rest state number command step legal =
    let process = process_of plan entry.cpu in
    let reply : entry.reply ≡ (flat_step walk.flat process entry.op).1 = sym (ap (λ (out : FlatState × Reply). out.1) step) in
    let leads : flat_after walk.flat process entry.op entry.reply ≡ state = flat_after-from_step walk.flat process entry.op entry.reply reply ∙ ap (λ (out : FlatState × Reply). out.0) step in (
      record { number = number; command = command; reply = IsReply-from_step plan walk process entry.op entry.reply reply },
      subst (λ (flat : FlatState). LegalFrom plan (record { flat = flat; cpus = (after plan walk entry).cpus }) rest) (sym leads) legal,
    )

-- a sound state stays sound after an entry
pub sound-after : (plan : GuestPlan) (walk : Walk) (entry : Entry) → OpInRange entry.op → IsSound walk.flat → IsSound (after plan walk entry).flat
sound-after plan walk entry range sound = of entry.reply
  where
    of : (reply : Reply) → IsSound (flat_after walk.flat (process_of plan entry.cpu) entry.op reply)
    of Done = sound-flat_step walk.flat (process_of plan entry.cpu) entry.op range sound
    of (Bytes bytes) = sound-flat_step walk.flat (process_of plan entry.cpu) entry.op range sound
    of (Refused refusal) = sound-flat_step walk.flat (process_of plan entry.cpu) entry.op range sound
    of (Fail cause) = sound

-- a guest opens soundly
pub sound-start : (plan : GuestPlan) → IsSound (start_of plan).flat
sound-start plan = sound_without (opening plan.files).files (opening plan.files).mappings refl

-- where a journal of commands in range leads is sound
pub sound-walk_of : (plan : GuestPlan) (walk : Walk) (journal : List Entry) → AllByRecursion (λ entry. OpInRange entry.op) journal → IsSound walk.flat → IsSound (walk_of plan walk journal).flat
sound-walk_of plan walk [] range sound = sound
sound-walk_of plan walk (entry ∷ journal) range sound = sound-walk_of plan (after plan walk entry) journal range.1 (sound-after plan walk entry range.0 sound)
