-- What an event keeps of the counts of failures.
use Rattle.std.specs.Prelude.{◌≡◌, ◌<◌, ◌≤◌, ℕ, List, [], length, Bool, true, false, slice_set, slice_index_or, Ok, take, drop}
use Rattle.std.proofs.Common.{sym, subst, inl, inr, ◌∙◌, length-set, get_or-set_other, get_or-set_same}
use Rattle.std.proofs.lemmas.Bool.{cases_eq, cases_lt}
use Rattle.std.proofs.lemmas.List.{get_or_past}
use Rattle.cmm_io.specs.DiskCall.{DiskCall}
use Rattle.cmm_io.specs.DiskState.{DiskState, DiskStep, disk_view, opened, next_call}
use Rattle.cmm_io.specs.FailurePlan.{FailurePlan, after_next, fails_next}
use Rattle.cmm_io.specs.Counted.{IsCounted}
use Rattle.cmm_io.proofs.Counted.{counted-next}
use Rattle.essa_state.specs.Orders.{after_order}
use Rattle.cmm_storage.specs.StorageCall.{StorageCall}
use Rattle.cmm_storage.specs.Program.{Program, done, take_page, touch_page, order_page, take_change, fetch_page, store_page, put_page, read_block, write_block, Does}
use Rattle.host_plain.specs.MemoryState.{old_of}
use Rattle.host_plain.specs.HostState.{HostState, HostStep, host_view, served, pager_of, no_pager, taken, given_back}
use Rattle.host_plain.specs.HostState.{touch_of, touch_after, with_host_word, host_word, host_bytes, page_stored, list_place}
use Rattle.host_plain.specs.Keeping.{faults_of}
use Rattle.host_plain.proofs.PagerCalls.{touched_page-keeps}
use Rattle.guest_rules.specs.GuestState.{GuestState, opening_guest}
use Rattle.guest_rules.specs.Failures.{FailuresFit, paging_failures}
use Rattle.cmm_types.specs.NoPlan.{no_plan}
use Rattle.cmm_world.specs.WorldState.{WorldState, guest_at, disk_at}
use Rattle.cmm_world.specs.WorldFit.{IsWorld, view_of}
use Rattle.cmm_world.specs.Failures.{AreCounted, WorldCounted}
use Rattle.cmm_world.specs.Exec.{exec, call_answered, after_write}
use Rattle.cmm_world.proofs.ExecRuns.{does_exec}
use Rattle.cmm_world.proofs.Kept.{KeepsOthers}

-- what each call keeps of a plan of failing calls, a run keeps of the disk's and of each guest's pager's
module _ (Keeps : FailurePlan → Type 0) (next : (plan : FailurePlan) → Keeps plan → Keeps (after_next plan)) where
  written-keeps : (d : DiskState) (block : ℕ) (bytes : List ℕ) (fails : Bool) → Keeps d.failures → Keeps (after_write d block bytes fails).failures
  written-keeps d block bytes true kept = next d.failures kept
  written-keeps d block bytes false kept = next d.failures kept

  pub exec_disk : {A : Type 0} (p : Program A) (h : HostState) (d : DiskState) → Keeps d.failures → Keeps (exec p h d).2.failures
  exec_disk (done a) h d kept = kept
  exec_disk (take_page page k) h d kept = exec_disk (k (Ok tt)) (taken h page) d kept
  exec_disk (touch_page page k) h d kept = exec_disk (k (touch_of h page).answer) (touch_after h page) d kept
  exec_disk (order_page page code k) h d kept = exec_disk (k (old_of (host_word h page) code).done) (with_host_word h page (after_order (host_word h page) code)) d kept
  exec_disk (take_change page k) h d kept = exec_disk (k (host_word h page).changed) (with_host_word h page (record (host_word h page) { changed = false })) d kept
  exec_disk (fetch_page page off len k) h d kept = exec_disk (k (take len (drop off (host_bytes h page)))) h d kept
  exec_disk (store_page page off bytes k) h d kept = exec_disk k (page_stored h page off bytes) d kept
  exec_disk (put_page page k) h d kept = exec_disk k (given_back h page) d kept
  exec_disk (read_block block k) h d kept = exec_disk (k (call_answered (fails_next d.failures) (slice_index_or d.blocks block []))) h (next_call d) (next d.failures kept)
  exec_disk (write_block block bytes k) h d kept =
      exec_disk (k (call_answered (fails_next d.failures) tt)) h (after_write d block bytes (fails_next d.failures)) (written-keeps d block bytes (fails_next d.failures) kept)

  touched-keeps : (h : HostState) (page guest : ℕ) → Keeps (pager_of h guest) → Keeps (pager_of (touch_after h page) guest)
  unfolding touch_of
  touched-keeps h page guest kept = elim (cases_eq guest h.guest) [
    | inl same ↦ elim (cases_lt h.guest (length h.pagers)) [
      | inl below ↦
          rw (same, get_or-set_same h.pagers h.guest (touch_of h page).pager no_pager below)
          (touched_page-keeps Keeps next h.memory (list_place h page) (pager_of h h.guest) (rw same at kept))
      | inr past ↦
          let none : pager_of h guest ≡ no_pager = get_or_past h.pagers guest no_pager (rw same past) in
          let still : pager_of (touch_after h page) guest ≡ no_pager = get_or_past (slice_set h.pagers h.guest (touch_of h page).pager) guest no_pager (rw (same, length-set) past) in
          subst Keeps (none ∙ sym still) kept
    ]
    | inr other ↦ subst Keeps (sym (get_or-set_other h.pagers h.guest guest (touch_of h page).pager no_pager other)) kept
  ]

  pub exec_pager : {A : Type 0} (p : Program A) (h : HostState) (d : DiskState) (guest : ℕ) → Keeps (pager_of h guest) → Keeps (pager_of (exec p h d).1 guest)
  exec_pager (done a) h d guest kept = kept
  exec_pager (take_page page k) h d guest kept = exec_pager (k (Ok tt)) (taken h page) d guest kept
  exec_pager (touch_page page k) h d guest kept = exec_pager (k (touch_of h page).answer) (touch_after h page) d guest (touched-keeps h page guest kept)
  exec_pager (order_page page code k) h d guest kept = exec_pager (k (old_of (host_word h page) code).done) (with_host_word h page (after_order (host_word h page) code)) d guest kept
  exec_pager (take_change page k) h d guest kept = exec_pager (k (host_word h page).changed) (with_host_word h page (record (host_word h page) { changed = false })) d guest kept
  exec_pager (fetch_page page off len k) h d guest kept = exec_pager (k (take len (drop off (host_bytes h page)))) h d guest kept
  exec_pager (store_page page off bytes k) h d guest kept = exec_pager k (page_stored h page off bytes) d guest kept
  exec_pager (put_page page k) h d guest kept = exec_pager k (given_back h page) d guest kept
  exec_pager (read_block block k) h d guest kept = exec_pager (k (call_answered (fails_next d.failures) (slice_index_or d.blocks block []))) h (next_call d) guest kept
  exec_pager (write_block block bytes k) h d guest kept = exec_pager (k (call_answered (fails_next d.failures) tt)) h (after_write d block bytes (fails_next d.failures)) guest kept

-- what a guest's calls leave of its disk's plan and its pager's
pub record PlansKept (w : WorldState) (guest : ℕ) (k : HostState) (e : DiskState) : Type 0 where
  pub disk : IsCounted (guest_at w guest).plan.disk_fail e.failures
  pub pager : IsCounted (guest_at w guest).plan.pager_fail (pager_of k guest)

module _ {S D : Type 0} (ss : S → StorageCall → S → Type 0) (ds : D → DiskCall → D → Type 0) (sv : S → HostState) (dv : D → DiskState)
    (sm : (s : S) (call : StorageCall) (t : S) → ss s call t → HostStep (sv s) call (sv t))
    (dm : (d : D) (call : DiskCall) (e : D) → ds d call e → DiskStep (dv d) call (dv e)) where
  pub plans_kept : {A : Type 0} (p : Program A) (w : WorldState) (guest : ℕ) (s : S) (d : D) (a : A) (t : S) (e : D) → IsWorld w → guest < length w.guests
      → sv s ≡ served w.host guest → dv d ≡ disk_at w guest → Does ss ds p s d a t e → PlansKept w guest (sv t) (dv e)
  plans_kept {A} p w guest s d a t e world below is_host is_disk run =
      let plan = (guest_at w guest).plan in
      let range = (world.fit guest below).sizes.range in
      let before = world.failures guest below in
      let ran : ◌≡◌ {A = A × HostState × DiskState} (a, sv t, dv e) (exec p (sv s) (dv d)) = does_exec ss ds sv dv sm dm p s d a t e run in
      let disk : IsCounted plan.disk_fail (dv d).failures = subst (λ (q : DiskState). IsCounted plan.disk_fail q.failures) (sym is_disk) before.disk_calls in
      let pager : IsCounted plan.pager_fail (pager_of (sv s) guest) = subst (λ (q : HostState). IsCounted plan.pager_fail (pager_of q guest)) (sym is_host) before.pager_calls in
      record {
        disk = subst (λ (q : A × HostState × DiskState). IsCounted plan.disk_fail q.2.failures) (sym ran)
            (exec_disk (IsCounted plan.disk_fail) (λ q. counted-next plan.disk_fail q range.disk_fail.most) p (sv s) (dv d) disk);
        pager = subst (λ (q : A × HostState × DiskState). IsCounted plan.pager_fail (pager_of q.1 guest)) (sym ran)
            (exec_pager (IsCounted plan.pager_fail) (λ q. counted-next plan.pager_fail q range.pager_fail.most) p (sv s) (dv d) guest pager);
      }

-- the failures of the guest that took its turn, over what its host and disk told
pub failures_fit : (w : WorldState) (guest : ℕ) → IsWorld w → guest < length w.guests → FailuresFit (guest_at w guest) (view_of w guest) (disk_view (disk_at w guest))
failures_fit w guest world below = let before = world.failures guest below in record { disk = before.by_disk; paging = before.by_pager }

-- a guest took its turn
pub counted_turn : (w : WorldState) (guest : ℕ) (g : GuestState) (k : HostState) (e : DiskState) → IsWorld w → guest < length w.guests → KeepsOthers (served w.host guest) k
    → g.plan ≡ (guest_at w guest).plan → FailuresFit g (host_view k) (disk_view e) → PlansKept w guest k e
    → WorldCounted (record { guests = slice_set w.guests guest g; disks = slice_set w.disks guest e; host = k })
counted_turn w guest g k e world below keeps plan failures kept i lt = elim (cases_eq i guest) [
  | inl same ↦ rw (same, get_or-set_same w.guests guest g (opening_guest no_plan) below, get_or-set_same w.disks guest e (opened [] 0 []) has_disk) its
  | inr other ↦ rw (get_or-set_other w.guests guest i g (opening_guest no_plan) other, get_or-set_other w.disks guest i e (opened [] 0 []) other, keeps.pagers i other)
      (world.failures i (rw length-set at lt))
]
  where
    has_disk : guest < length w.disks
    has_disk = rw world.disks below

    its : AreCounted g e (pager_of k guest)
    its = record {
      by_disk = failures.disk;
      by_pager = subst (λ q. paging_failures g.journal ≤ faults_of (pager_of k q)) keeps.serves failures.paging;
      disk_calls = rw plan kept.disk;
      pager_calls = rw plan kept.pager;
    }
