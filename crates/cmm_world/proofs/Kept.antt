-- What an event keeps of the worlds in which every guest fits.
use Rattle.std.specs.Prelude.{◌≡◌, ◌≢◌, ◌<◌, ℕ, ◌+◌, ◌-◌, [], length, slice_set, slice_index_or, None}
use Rattle.std.proofs.Common.{refl, sym, ap, subst, inl, inr, ◌∙◌, length-set, get_or-set_other, get_or-set_same}
use Rattle.std.proofs.lemmas.Bool.{cases_eq}
use Rattle.cmm_io.specs.DiskState.{DiskState, disk_view, opened}
use Rattle.cmm_io.specs.DiskView.{DiskView}
use Rattle.essa_state.specs.PageValue.{MayBecome}
use Rattle.essa_state.specs.Laws.PageValueLaws.{MayBecome-trans}
use Rattle.host_plain.specs.HostState.{HostState, Leaves, HostMayMake, first_place, pages_of, pager_of, no_pager, value_of, served, host_view}
use Rattle.guest_rules.specs.GuestState.{GuestState, opening_guest}
use Rattle.guest_rules.specs.Fit.{Fit}
use Rattle.host_plain.proofs.Others.{places-apart}
use Rattle.guest_rules.proofs.Cases.TurnCases.{AllMay}
use Rattle.guest_rules.proofs.Fit.FitMay.{FitAt-may}
use Rattle.cmm_types.specs.NoPlan.{no_plan}
use Rattle.cmm_world.specs.WorldState.{WorldState, guest_at, disk_at}
use Rattle.cmm_world.specs.Failures.{AreCounted, WorldCounted}
use Rattle.cmm_world.specs.WorldFit.{IsWorld}

-- what a guest's calls keep of the host: other guests' pages go as the host may change them
pub record KeepsOthers (h k : HostState) : Type 0 where
  pub starts : k.starts ≡ h.starts
  pub serves : k.guest ≡ h.guest
  pub own : k.own ≡ h.own
  pub count : length k.pagers ≡ length h.pagers
  pub pagers : (guest : ℕ) → guest ≢ h.guest → pager_of k guest ≡ pager_of h guest
  pub others : (guest page : ℕ) → guest < length h.pagers → guest ≢ h.guest → page < pages_of h guest → MayBecome (value_of h guest page) (value_of k guest page)

pub keeps_others : (h : HostState) (page : ℕ) (k : HostState) → Leaves h page k → KeepsOthers h k
keeps_others h page k leaves =
    let spares = leaves.spares in
    let size : (guest : ℕ) → pages_of k guest ≡ pages_of h guest = λ guest. ap (λ q. slice_index_or q (guest + 1) 0 - slice_index_or q guest 0) spares.starts in
    let start : (guest : ℕ) → first_place k guest ≡ first_place h guest = λ guest. ap (λ q. slice_index_or q guest 0) spares.starts in
    record {
      starts = spares.starts;
      serves = spares.guest;
      own = spares.own;
      count = spares.count;
      pagers = spares.pagers;
      others = λ guest at below other inside.
          let apart : first_place k guest + at ≢ first_place k h.guest + page =
          places-apart k guest h.guest at page leaves.sound (rw spares.count below) (rw (← spares.guest) leaves.sound.guest) other (rw (size guest) inside) (rw (size h.guest) leaves.below) in
          let may = spares.values (first_place h guest + at) (λ same. apart (rw (start guest, start h.guest) same)) in
          rw (start guest) may;
    }

pub KeepsOthers-same : (h k : HostState) → k ≡ h → KeepsOthers h k
KeepsOthers-same h k same = record {
  starts = ap (λ q. q.starts) same;
  serves = ap (λ q. q.guest) same;
  own = ap (λ q. q.own) same;
  count = ap (λ q. length q.pagers) same;
  pagers = λ guest other. ap (λ q. pager_of q guest) same;
  others = λ guest page below other within. inl (ap (λ q. value_of q guest page) same);
}

pub KeepsOthers-trans : (h k l : HostState) → KeepsOthers h k → KeepsOthers k l → KeepsOthers h l
KeepsOthers-trans h k l a b = record {
  starts = b.starts ∙ a.starts;
  serves = b.serves ∙ a.serves;
  own = b.own ∙ a.own;
  count = b.count ∙ a.count;
  pagers = λ guest other. b.pagers guest (rw a.serves other) ∙ a.pagers guest other;
  others = λ guest page below other within.
      MayBecome-trans _ _ _ (a.others guest page below other within) (b.others guest page (rw a.count below) (rw a.serves other) (rw a.starts within));
}

-- what the host's own moves keep: every page goes as the host may change it
pub record MovesKeep (h k : HostState) : Type 0 where
  pub starts : k.starts ≡ h.starts
  pub pagers : k.pagers ≡ h.pagers
  pub held : k.held ≡ h.held
  pub pages : HostMayMake h k

-- a page's value, where the guest is served
may_at : (h k : HostState) (guest page : ℕ) → k.starts ≡ h.starts → MayBecome (value_of h guest page) (value_of k guest page)
    → MayBecome ((host_view (served h guest)).values page) ((host_view (served k guest)).values page)
may_at h k guest page starts may = may

pub all_may : (h k : HostState) (d : DiskView) (guest : ℕ) → MovesKeep h k → guest < length h.pagers → h.held ≡ None
    → AllMay (host_view (served h guest)) d (host_view (served k guest)) d
all_may h k d guest keeps below held = record {
  pages = rw keeps.starts refl;
  tells = refl;
  held = keeps.held ∙ held;
  values = λ page lt. may_at h k guest page keeps.starts (keeps.pages guest page);
  count = refl;
  blocks = refl;
}

-- the pages of a guest that isn't served
pub others_may : (h k : HostState) (d : DiskView) (guest : ℕ) → KeepsOthers h k → guest < length h.pagers → guest ≢ h.guest → h.held ≡ None → k.held ≡ None
    → AllMay (host_view (served h guest)) d (host_view (served k guest)) d
others_may h k d guest keeps below other held held' = record {
  pages = rw keeps.starts refl;
  tells = refl;
  held = held';
  values = λ page lt. may_at h k guest page keeps.starts (keeps.others guest page below other lt);
  count = refl;
  blocks = refl;
}

-- a guest took its turn
pub kept_turn : (w : WorldState) (guest : ℕ) (g : GuestState) (k : HostState) (e : DiskState) → IsWorld w → guest < length w.guests → KeepsOthers (served w.host guest) k → k.held ≡ None
    → Fit g (host_view k) (disk_view e) → WorldCounted (record { guests = slice_set w.guests guest g; disks = slice_set w.disks guest e; host = k })
    → IsWorld (record { guests = slice_set w.guests guest g; disks = slice_set w.disks guest e; host = k })
kept_turn w guest g k e world below keeps held fit failures = record {
  few = rw (length-set w.guests guest g) world.few;
  disks = length-set w.disks guest e ∙ world.disks ∙ sym (length-set w.guests guest g);
  pagers = keeps.count ∙ world.pagers ∙ sym (length-set w.guests guest g);
  none_held = held;
  fit = λ i lt. elim (cases_eq i guest) [
    | inl same ↦ rw (same, get_or-set_same w.guests guest g no_guest below, get_or-set_same w.disks guest e no_disk has_disk, ← keeps.serves) fit
    | inr other ↦ rw (get_or-set_other w.guests guest i g no_guest other, get_or-set_other w.disks guest i e no_disk other)
        (FitAt-may _ _ _ _ _ _ (world.fit i (rw length-set at lt)) (others_may (served w.host guest) k _ i keeps (rw world.pagers (rw length-set at lt)) other world.none_held held))
  ];
  failures = failures;
}
  where
    no_guest : GuestState
    no_guest = opening_guest no_plan

    no_disk : DiskState
    no_disk = opened [] 0 []

    has_disk : guest < length w.disks
    has_disk = rw world.disks below

-- the host made moves of its own
pub kept_moves : (w : WorldState) (k : HostState) → IsWorld w → MovesKeep w.host k → IsWorld (record { guests = w.guests; disks = w.disks; host = k })
kept_moves w k world keeps = record {
  few = world.few;
  disks = world.disks;
  pagers = ap length keeps.pagers ∙ world.pagers;
  none_held = keeps.held ∙ world.none_held;
  fit = λ i lt. FitAt-may _ _ _ _ _ _ (world.fit i lt) (all_may w.host k _ i keeps (rw world.pagers lt) world.none_held);
  failures = λ i lt. subst (λ pagers. AreCounted (guest_at w i) (disk_at w i) (slice_index_or pagers i no_pager)) (sym keeps.pagers) (world.failures i lt);
}
