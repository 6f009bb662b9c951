-- The locks stay fit: where one processor's phase and one page's lock change, and where no lock does.
use Rattle.std.proofs.Common.{◌≡◌, ◌≢◌, ◌<◌, ◌⊎◌, ℕ, List, true, false, length, get_or, refl, Some, None, ap, sym, ◌∙◌, inl, inr, subst}
use Rattle.std.proofs.lemmas.Bool.{cases_eq}
use Rattle.cmm_types.specs.declared.page.Tag.{Tag}
use Rattle.cmm_types.specs.declared.command.Op.{Op}
use Rattle.cmm_flat.specs.Legal.{command_of, CanNeedPage}
use Rattle.guest_pages.specs.declared.info.PageInfo.{PageInfo}
use Rattle.guest_pages.specs.PagesView.{PagesView, info_at}
use Rattle.guest_cache.specs.CacheView.{CacheView, backing_of}
use Rattle.guest_rules.specs.declared.processor.Phase.{Phase}
use Rattle.guest_rules.specs.declared.processor.Phase.TheVariants.{Start, Fill, Room as AtRoom, Sync as AtSync, SyncWrite, Teardown}
use Rattle.guest_rules.specs.declared.processor.Processor.{Processor}
use Rattle.guest_rules.specs.GuestState.{GuestState, first_processor, processor_at}
use Rattle.guest_rules.specs.Fit.{IsFilling, IsPagingOut, IsSyncing, IsWriting, HasLocked, LocksFit}
use Rattle.guest_rules.proofs.Kept.Changes.{InfoChange, PhaseChange}
use Rattle.guest_rules.proofs.Kept.PageFits.{backing_of-same}

-- what another processor fills is as it was
pub filling_other : (g h : GuestState) (q i : ℕ) → h.plan ≡ g.plan → processor_at h q ≡ processor_at g q → length h.parts.pages.infos ≡ length g.parts.pages.infos
    → info_at h.parts.pages i ≡ info_at g.parts.pages i → IsFilling g q i → IsFilling h q i
filling_other g h q i plan processor size info k = record {
  op = k.op;
  command = rw (plan, processor) k.command;
  needs = k.needs;
  below = rw size k.below;
  owner = rw info k.owner;
  stale = rw info k.stale;
  tag = k.tag;
  tagged = rw info k.tagged;
}

-- a tag that has a block keeps it
abbrev pub KeepsBlocks : (old new : CacheView) → Type 0
KeepsBlocks old new = (tag : Tag) (block : ℕ) → backing_of old tag ≡ Some block → backing_of new tag ≡ Some block

pub blocks-same : (old new : CacheView) → new.files ≡ old.files → new.swap ≡ old.swap → KeepsBlocks old new
blocks-same old new files swap tag block backs = backing_of-same old new tag files swap ∙ backs

pub blocks-kept : (old new : CacheView) → new ≡ old → KeepsBlocks old new
blocks-kept old new same tag block backs = ap (λ (c : CacheView). backing_of c tag) same ∙ backs

-- what another processor writes back to make room is as it was
pub paging_out_other : (g h : GuestState) (q i : ℕ) → h.plan ≡ g.plan → processor_at h q ≡ processor_at g q → length h.processors ≡ length g.processors
    → length h.parts.pages.infos ≡ length g.parts.pages.infos → KeepsBlocks g.parts.cache h.parts.cache
    → info_at h.parts.pages i ≡ info_at g.parts.pages i → IsPagingOut g q i → IsPagingOut h q i
paging_out_other g h q i plan processor count size blocks info k = record {
  cpu_below = rw count k.cpu_below;
  op = k.op;
  command = rw (plan, processor) k.command;
  needs = k.needs;
  below = rw size k.below;
  owner = rw info k.owner;
  uptodate = rw info k.uptodate;
  tag = k.tag;
  tagged = rw info k.tagged;
  block = k.block;
  backs = blocks k.tag k.block k.backs;
}

-- another processor's sync is where it was
pub syncing_other : (g h : GuestState) (q file index : ℕ) → h.plan ≡ g.plan → processor_at h q ≡ processor_at g q → length h.processors ≡ length g.processors → IsSyncing g q file index
    → IsSyncing h q file index
syncing_other g h q file index plan processor count k = record {
  cpu_below = rw count k.cpu_below;
  command = rw (plan, processor) k.command;
  file_below = rw plan k.file_below;
  within = rw plan k.within;
}

-- and so is what it writes back
pub writing_other : (g h : GuestState) (q index i : ℕ) → h.plan ≡ g.plan → processor_at h q ≡ processor_at g q → length h.processors ≡ length g.processors
    → length h.parts.pages.infos ≡ length g.parts.pages.infos
    → info_at h.parts.pages i ≡ info_at g.parts.pages i → IsWriting g q index i → IsWriting h q index i
writing_other g h q index i plan processor count size info k = record {
  file = k.file;
  syncing = syncing_other g h q k.file index plan processor count k.syncing;
  below = rw size k.below;
  owner = rw info k.owner;
  tagged = rw info k.tagged;
  uptodate = rw info k.uptodate;
}

-- the phase is one in which the page is locked
abbrev pub LocksPage : Phase → (page : ℕ) → Type 0
LocksPage phase page = (phase ≡ Fill page) ⊎ (((index : ℕ) × (phase ≡ SyncWrite index page)) ⊎ (phase ≡ AtRoom page))

-- and what it has locked
pub locked_other : (g h : GuestState) (q i : ℕ) → processor_at h q ≡ processor_at g q → HasLocked g q i → HasLocked h q i
locked_other g h q i processor k = subst (λ (p : Processor). LocksPage p.phase i) (sym processor) k

-- what a processor has locked is locked by it
pub locked-owner : (g : GuestState) (q i : ℕ) → LocksFit g → HasLocked g q i → (info_at g.parts.pages i).owner ≡ Some q
locked-owner g q i f (inl fills) = (f.filling q i fills).1.owner
locked-owner g q i f (inr (inl (index, writes))) = (f.writing q index i writes).owner
locked-owner g q i f (inr (inr pages_out)) = (f.paging_out q i pages_out).owner

pub locked_alone : (g : GuestState) (cpu page : ℕ) → LocksFit g → (info_at g.parts.pages page).owner ≡ Some cpu → (q : ℕ) → HasLocked g q page → q ≡ cpu
locked_alone g cpu page f owner q k = let both : Some q ≡ Some cpu = sym (locked-owner g q page f k) ∙ owner in cc

-- nobody has a page locked that has no owner
pub locked_by_none : (g : GuestState) (page : ℕ) → LocksFit g → (info_at g.parts.pages page).owner ≡ None → (q : ℕ) → HasLocked g q page → ⊥
locked_by_none g page f none q k = let bad : None ≡ Some q = sym none ∙ locked-owner g q page f k in cc

-- a processor has the page of its phase locked, and no other
abbrev pub LocksAlone : Phase → (page : ℕ) → Type 0
LocksAlone Start page = Unit {0}
LocksAlone (Fill i) page = i ≡ page
LocksAlone (AtRoom i) page = i ≡ page
LocksAlone (AtSync index) page = Unit {0}
LocksAlone (SyncWrite index i) page = i ≡ page
LocksAlone (Teardown slot index) page = Unit {0}

pub locks_alone : (g : GuestState) (cpu page : ℕ) (phase : Phase) → (processor_at g cpu).phase ≡ phase → LocksAlone phase page → (i : ℕ) → HasLocked g cpu i → i ≡ page
locks_alone g cpu page phase is alone i k = of k (subst (λ q. LocksAlone q page) (sym is) alone)
  where
    of : HasLocked g cpu i → LocksAlone (processor_at g cpu).phase page → i ≡ page
    of (inl fills) now = subst (λ q. LocksAlone q page) fills now
    of (inr (inl (index, writes))) now = subst (λ q. LocksAlone q page) writes now
    of (inr (inr pages_out)) now = subst (λ q. LocksAlone q page) pages_out now

-- the tag's page is up to date, and the processor has it locked
pub record LockedPage (g : GuestState) (cpu page : ℕ) (tag : Tag) : Type 0 where
  pub below : page < length g.parts.pages.infos
  pub owner : (info_at g.parts.pages page).owner ≡ Some cpu
  pub tagged : (info_at g.parts.pages page).tag ≡ Some tag
  pub uptodate : (info_at g.parts.pages page).uptodate ≡ true

-- what fit of the locks says of a processor by its phase
abbrev pub PhaseFits : GuestState → (cpu : ℕ) → Phase → Type 0
PhaseFits h cpu Start = Unit {0}
PhaseFits h cpu (Fill page) = (cpu < length h.processors) × IsFilling h cpu page
PhaseFits h cpu (AtRoom page) = IsPagingOut h cpu page
PhaseFits h cpu (AtSync index) = (file : ℕ) × IsSyncing h cpu file index
PhaseFits h cpu (SyncWrite index page) = IsWriting h cpu index page
PhaseFits h cpu (Teardown slot index) = Unit {0}

-- what fit says of a page's info: one that isn't up to date is clean, and locked where it has a tag
pub record LockInfo (info : PageInfo) : Type 0 where
  pub clean : info.uptodate ≡ false → info.dirty ≡ false
  pub stale : (tag : Tag) → info.tag ≡ Some tag → info.owner ≡ None → info.uptodate ≡ true

pub lock-info : (g : GuestState) (page : ℕ) → LocksFit g → LockInfo (info_at g.parts.pages page)
lock-info g page f = record { clean = f.stale_clean page; stale = f.stale page }

-- each page's info fits where that of the changed one does
lock_infos : (g h : GuestState) (page : ℕ) (info : PageInfo) → LocksFit g → InfoChange g.parts.pages h.parts.pages page info → LockInfo info → (i : ℕ) → LockInfo (info_at h.parts.pages i)
lock_infos g h page info f change fits i = elim (cases_eq i page) [
  | inl z ↦ rw (z, change.here) fits
  | inr n ↦ rw (change.others i n) (lock-info g i f)
]

-- one page's info and one processor's phase change; no other processor has the page locked, and the processor no other page
pub record LockStep (g h : GuestState) (cpu page : ℕ) (phase : Phase) (info : PageInfo) : Type 0 where
  pub plan : h.plan ≡ g.plan
  pub info_change : InfoChange g.parts.pages h.parts.pages page info
  pub phase_change : PhaseChange g.processors h.processors cpu phase
  pub blocks : KeepsBlocks g.parts.cache h.parts.cache
  pub only : (q : ℕ) → HasLocked g q page → q ≡ cpu
  pub own : (i : ℕ) → HasLocked g cpu i → i ≡ page
  pub fits : LockInfo info
  pub now : PhaseFits h cpu phase
  pub locked : (q : ℕ) → info.owner ≡ Some q → HasLocked h q page

pub LocksFit-step : (g h : GuestState) (cpu page : ℕ) (phase : Phase) (info : PageInfo) → LocksFit g → LockStep g h cpu page phase info → LocksFit h
LocksFit-step g h cpu page phase info f k = record {
  stale_clean = λ i. (lock_infos g h page info f change k.fits i).clean;
  filling = λ q i e. elim (cases_eq q cpu) [
    | inl z ↦ subst (λ x. (x < length h.processors) × IsFilling h x i) (sym z) (subst (λ x. PhaseFits h cpu x) (here q (Fill i) z e) k.now)
    | inr n ↦
        let before : (processor_at g q).phase ≡ Fill i = was q (Fill i) n e in
        let kept = f.filling q i before in
        (rw count kept.0, filling_other g h q i k.plan (others q n) change.size (change.others i (λ z. n (k.only q (subst (λ x. HasLocked g q x) z (inl before))))) kept.1)
  ];
  paging_out = λ q i e. elim (cases_eq q cpu) [
    | inl z ↦ subst (λ x. IsPagingOut h x i) (sym z) (subst (λ x. PhaseFits h cpu x) (here q (AtRoom i) z e) k.now)
    | inr n ↦
        let before : (processor_at g q).phase ≡ AtRoom i = was q (AtRoom i) n e in
        paging_out_other g h q i k.plan (others q n) count change.size k.blocks (change.others i (λ z. n (k.only q (subst (λ x. HasLocked g q x) z (inr (inr before)))))) (f.paging_out q i before)
  ];
  syncing = λ q index e. elim (cases_eq q cpu) [
    | inl z ↦ subst (λ x. (file : ℕ) × IsSyncing h x file index) (sym z) (subst (λ x. PhaseFits h cpu x) (here q (AtSync index) z e) k.now)
    | inr n ↦ let kept = f.syncing q index (was q (AtSync index) n e) in (kept.0, syncing_other g h q kept.0 index k.plan (others q n) count kept.1)
  ];
  writing = λ q index i e. elim (cases_eq q cpu) [
    | inl z ↦ subst (λ x. IsWriting h x index i) (sym z) (subst (λ x. PhaseFits h cpu x) (here q (SyncWrite index i) z e) k.now)
    | inr n ↦
        let before : (processor_at g q).phase ≡ SyncWrite index i = was q (SyncWrite index i) n e in
        writing_other g h q index i k.plan (others q n) count change.size (change.others i (λ z. n (k.only q (subst (λ x. HasLocked g q x) z (inr (inl (index, before)))))))
        (f.writing q index i before)
  ];
  locked = λ q i e. elim (cases_eq i page) [
    | inl z ↦ subst (λ x. HasLocked h q x) (sym z) (k.locked q (ap (λ (x : PageInfo). x.owner) (sym change.here) ∙ ap (λ x. (info_at h.parts.pages x).owner) (sym z) ∙ e))
    | inr m ↦
        let before = f.locked q i (ap (λ (x : PageInfo). x.owner) (sym (change.others i m)) ∙ e) in
        let n : q ≢ cpu = λ z. m (k.own i (subst (λ x. HasLocked g x i) z before)) in
        locked_other g h q i (others q n) before
  ];
  stale = λ i. (lock_infos g h page info f change k.fits i).stale;
}
  where
    change : InfoChange g.parts.pages h.parts.pages page info
    change = k.info_change

    count : length h.processors ≡ length g.processors
    count = k.phase_change.size

    others : (q : ℕ) → q ≢ cpu → processor_at h q ≡ processor_at g q
    others = k.phase_change.others

    here : (q : ℕ) (at : Phase) → q ≡ cpu → (processor_at h q).phase ≡ at → phase ≡ at
    here q at z e = sym (ap (λ (p : Processor). p.phase) k.phase_change.here) ∙ ap (λ x. (processor_at h x).phase) (sym z) ∙ e

    was : (q : ℕ) (at : Phase) → q ≢ cpu → (processor_at h q).phase ≡ at → (processor_at g q).phase ≡ at
    was q at n e = ap (λ (p : Processor). p.phase) (sym (others q n)) ∙ e

-- a processor in phase Start locks a page that nobody has locked
pub LocksFit-begun : (g h : GuestState) (cpu page : ℕ) (op : Op) (info : PageInfo) (tag : Tag) → LocksFit g → h.plan ≡ g.plan → cpu < length g.processors → page < length g.parts.pages.infos
    → command_of g.plan cpu (processor_at g cpu).place ≡ Some op → CanNeedPage op → (processor_at g cpu).phase ≡ Start → (info_at g.parts.pages page).owner ≡ None
    → InfoChange g.parts.pages h.parts.pages page info → PhaseChange g.processors h.processors cpu (Fill page) → info.owner ≡ Some cpu → info.uptodate ≡ false → info.dirty ≡ false
    → info.tag ≡ Some tag → KeepsBlocks g.parts.cache h.parts.cache → LocksFit h
LocksFit-begun g h cpu page op info tag f plan lt below command needs start unlocked change phase owner stale clean tagged blocks =
    LocksFit-step g h cpu page (Fill page) info f (record {
      plan = plan;
      info_change = change;
      phase_change = phase;
      blocks = blocks;
      only = λ q k. absurd (locked_by_none g page f unlocked q k);
      own = locks_alone g cpu page Start start tt;
      fits = record { clean = λ u. clean; stale = λ t e none. let bad : Some cpu ≡ None = sym owner ∙ none in absurd cc };
      now = (rw phase.size lt, mine);
      locked = λ q e. let both : Some cpu ≡ Some q = sym owner ∙ e in let same : cpu ≡ q = cc in subst (λ x. HasLocked h x page) same (inl (ap (λ (p : Processor). p.phase) phase.here));
    })
  where
    mine : IsFilling h cpu page
    mine = record {
      op = op;
      command = rw (plan, phase.here) command;
      needs = needs;
      below = rw change.size below;
      owner = rw change.here owner;
      stale = rw change.here stale;
      tag = tag;
      tagged = rw change.here tagged;
    }

-- a page isn't locked any more, and its processor is in phase Start
pub LocksFit-released : (g h : GuestState) (cpu page : ℕ) (info : PageInfo) → LocksFit g → h.plan ≡ g.plan → InfoChange g.parts.pages h.parts.pages page info
    → PhaseChange g.processors h.processors cpu Start → info.owner ≡ None
    → HasLocked g cpu page → LockInfo info → KeepsBlocks g.parts.cache h.parts.cache → LocksFit h
LocksFit-released g h cpu page info f plan change phase owner mine fits blocks = LocksFit-step g h cpu page Start info f (record {
  plan = plan;
  info_change = change;
  phase_change = phase;
  blocks = blocks;
  only = locked_alone g cpu page f (locked-owner g cpu page f mine);
  own = own mine;
  fits = fits;
  now = tt;
  locked = λ q e. let bad : None ≡ Some q = sym owner ∙ e in absurd cc;
})
  where
    own : HasLocked g cpu page → (i : ℕ) → HasLocked g cpu i → i ≡ page
    own (inl fills) i k = locks_alone g cpu page (Fill page) fills (λ j. page) i k
    own (inr (inl (index, writes))) i k = locks_alone g cpu page (SyncWrite index page) writes (λ j. page) i k
    own (inr (inr pages_out)) i k = locks_alone g cpu page (AtRoom page) pages_out (λ j. page) i k

-- what locks depend on
pub record SameLock (old new : PageInfo) : Type 0 where
  pub tag : new.tag ≡ old.tag
  pub owner : new.owner ≡ old.owner
  pub uptodate : new.uptodate ≡ old.uptodate

-- a page's lock stays as it was
pub LocksFit-kept : (g h : GuestState) (page : ℕ) (info : PageInfo) → LocksFit g → h.plan ≡ g.plan → h.processors ≡ g.processors → InfoChange g.parts.pages h.parts.pages page info
    → info.tag ≡ (info_at g.parts.pages page).tag
    → info.owner ≡ (info_at g.parts.pages page).owner → info.uptodate ≡ (info_at g.parts.pages page).uptodate → (info.uptodate ≡ false → info.dirty ≡ false)
    → KeepsBlocks g.parts.cache h.parts.cache → LocksFit h
LocksFit-kept g h page info f plan processors change tags owners uptodates clean blocks = record {
  stale_clean = λ i. (infos i).clean;
  filling = λ q i e.
      let was = f.filling q i (rw processors at e) in (
        rw processors was.0,
        record {
          op = was.1.op;
          command = rw (plan, processors) was.1.command;
          needs = was.1.needs;
          below = rw change.size was.1.below;
          owner = (same i).owner ∙ was.1.owner;
          stale = (same i).uptodate ∙ was.1.stale;
          tag = was.1.tag;
          tagged = (same i).tag ∙ was.1.tagged;
        },
      );
  paging_out = λ q i e.
      let was = f.paging_out q i (rw processors at e) in
      record {
        cpu_below = rw processors was.cpu_below;
        op = was.op;
        command = rw (plan, processors) was.command;
        needs = was.needs;
        below = rw change.size was.below;
        owner = (same i).owner ∙ was.owner;
        uptodate = (same i).uptodate ∙ was.uptodate;
        tag = was.tag;
        tagged = (same i).tag ∙ was.tagged;
        block = was.block;
        backs = blocks was.tag was.block was.backs;
      };
  syncing = λ q index e. let was = f.syncing q index (rw processors at e) in (was.0, syncing q was.0 index was.1);
  writing = λ q index i e.
      let was = f.writing q index i (rw processors at e) in
      record {
        file = was.file;
        syncing = syncing q was.file index was.syncing;
        below = rw change.size was.below;
        owner = (same i).owner ∙ was.owner;
        tagged = (same i).tag ∙ was.tagged;
        uptodate = (same i).uptodate ∙ was.uptodate;
      };
  locked = λ q i e. rw processors (f.locked q i (sym (same i).owner ∙ e));
  stale = λ i. (infos i).stale;
}
  where
    same : (i : ℕ) → SameLock (info_at g.parts.pages i) (info_at h.parts.pages i)
    same i = elim (cases_eq i page) [
      | inl z ↦ rw (z, change.here) (record { tag = tags; owner = owners; uptodate = uptodates })
      | inr n ↦ rw (change.others i n) (record { tag = refl; owner = refl; uptodate = refl })
    ]

    infos : (i : ℕ) → LockInfo (info_at h.parts.pages i)
    infos = lock_infos g h page info f change (record { clean = clean; stale = λ t e none. uptodates ∙ f.stale page t (sym tags ∙ e) (sym owners ∙ none) })

    syncing : (q file index : ℕ) → IsSyncing g q file index → IsSyncing h q file index
    syncing q file index was = syncing_other g h q file index plan (ap (λ ps. get_or ps q first_processor) processors) (ap (λ (ps : List Processor). length ps) processors) was

-- a page that isn't locked changes, and isn't locked
pub LocksFit-unlocked : (g h : GuestState) (page : ℕ) (info : PageInfo) → LocksFit g → h.plan ≡ g.plan → h.processors ≡ g.processors → InfoChange g.parts.pages h.parts.pages page info
    → (info_at g.parts.pages page).owner ≡ None → info.owner ≡ None → LockInfo info → KeepsBlocks g.parts.cache h.parts.cache → LocksFit h
LocksFit-unlocked g h page info f plan processors change none owner fits blocks = record {
  stale_clean = λ i. (lock_infos g h page info f change fits i).clean;
  filling = λ q i e.
      let before : (processor_at g q).phase ≡ Fill i = rw processors at e in
      let kept = f.filling q i before in
      (rw processors kept.0, filling_other g h q i plan (same q) change.size (change.others i (other q i (inl before))) kept.1);
  paging_out = λ q i e.
      let before : (processor_at g q).phase ≡ AtRoom i = rw processors at e in
      paging_out_other g h q i plan (same q) count change.size blocks (change.others i (other q i (inr (inr before)))) (f.paging_out q i before);
  syncing = λ q index e. let kept = f.syncing q index (rw processors at e) in (kept.0, syncing_other g h q kept.0 index plan (same q) count kept.1);
  writing = λ q index i e.
      let before : (processor_at g q).phase ≡ SyncWrite index i = rw processors at e in
      writing_other g h q index i plan (same q) count change.size (change.others i (other q i (inr (inl (index, before))))) (f.writing q index i before);
  locked = λ q i e. elim (cases_eq i page) [
    | inl z ↦ let bad : None ≡ Some q = sym owner ∙ ap (λ (x : PageInfo). x.owner) (sym change.here) ∙ ap (λ x. (info_at h.parts.pages x).owner) (sym z) ∙ e in absurd cc
    | inr m ↦ locked_other g h q i (same q) (f.locked q i (ap (λ (x : PageInfo). x.owner) (sym (change.others i m)) ∙ e))
  ];
  stale = λ i. (lock_infos g h page info f change fits i).stale;
}
  where
    same : (q : ℕ) → processor_at h q ≡ processor_at g q
    same q = ap (λ ps. get_or ps q first_processor) processors

    count : length h.processors ≡ length g.processors
    count = ap (λ (ps : List Processor). length ps) processors

    other : (q i : ℕ) → HasLocked g q i → i ≢ page
    other q i k z = locked_by_none g page f none q (subst (λ x. HasLocked g q x) z k)

-- a processor that has no page locked in this phase
abbrev pub LocksNone : Phase → Type 0
LocksNone Start = Unit {0}
LocksNone (Fill page) = ⊥
LocksNone (AtRoom page) = ⊥
LocksNone (AtSync index) = Unit {0}
LocksNone (SyncWrite index page) = ⊥
LocksNone (Teardown slot index) = Unit {0}

pub locks_none : (g : GuestState) (cpu : ℕ) (phase : Phase) → (processor_at g cpu).phase ≡ phase → LocksNone phase → (i : ℕ) → HasLocked g cpu i → ⊥
locks_none g cpu phase is none i (inl fills) = subst (λ q. LocksNone q) (sym is ∙ fills) none
locks_none g cpu phase is none i (inr (inl (index, writes))) = subst (λ q. LocksNone q) (sym is ∙ writes) none
locks_none g cpu phase is none i (inr (inr pages_out)) = subst (λ q. LocksNone q) (sym is ∙ pages_out) none

-- one processor that has no page locked goes on, with none locked
pub LocksFit-passed : (g h : GuestState) (cpu : ℕ) (phase : Phase) → LocksFit g → h.plan ≡ g.plan → h.parts.pages ≡ g.parts.pages → h.parts.cache ≡ g.parts.cache
    → length h.processors ≡ length g.processors → (processor_at h cpu).phase ≡ phase → ((q : ℕ) → q ≢ cpu → processor_at h q ≡ processor_at g q)
    → ((i : ℕ) → HasLocked g cpu i → ⊥) → LocksNone phase → PhaseFits h cpu phase → LocksFit h
LocksFit-passed g h cpu phase f plan pages cache count is others own none now = record {
  stale_clean = λ i u. rw pages (f.stale_clean i (rw pages at u));
  filling = λ q i e. elim (cases_eq q cpu) [
    | inl z ↦ absurd (subst (λ x. LocksNone x) (here q (Fill i) z e) none)
    | inr n ↦ let kept = f.filling q i (was q (Fill i) n e) in (rw count kept.0, filling_other g h q i plan (others q n) size (info i) kept.1)
  ];
  paging_out = λ q i e. elim (cases_eq q cpu) [
    | inl z ↦ absurd (subst (λ x. LocksNone x) (here q (AtRoom i) z e) none)
    | inr n ↦ paging_out_other g h q i plan (others q n) count size blocks (info i) (f.paging_out q i (was q (AtRoom i) n e))
  ];
  syncing = λ q index e. elim (cases_eq q cpu) [
    | inl z ↦ subst (λ x. (file : ℕ) × IsSyncing h x file index) (sym z) (subst (λ x. PhaseFits h cpu x) (here q (AtSync index) z e) now)
    | inr n ↦ let kept = f.syncing q index (was q (AtSync index) n e) in (kept.0, syncing_other g h q kept.0 index plan (others q n) count kept.1)
  ];
  writing = λ q index i e. elim (cases_eq q cpu) [
    | inl z ↦ absurd (subst (λ x. LocksNone x) (here q (SyncWrite index i) z e) none)
    | inr n ↦ writing_other g h q index i plan (others q n) count size (info i) (f.writing q index i (was q (SyncWrite index i) n e))
  ];
  locked = λ q i e.
      let before = f.locked q i (rw pages at e) in
      let n : q ≢ cpu = λ z. own i (subst (λ x. HasLocked g x i) z before) in
      locked_other g h q i (others q n) before;
  stale = λ i t e unlocked. rw pages (f.stale i t (rw pages at e) (rw pages at unlocked));
}
  where
    size : length h.parts.pages.infos ≡ length g.parts.pages.infos
    size = ap (λ (p : PagesView). length p.infos) pages

    info : (i : ℕ) → info_at h.parts.pages i ≡ info_at g.parts.pages i
    info i = ap (λ (p : PagesView). info_at p i) pages

    blocks : KeepsBlocks g.parts.cache h.parts.cache
    blocks = blocks-kept g.parts.cache h.parts.cache cache

    here : (q : ℕ) (at : Phase) → q ≡ cpu → (processor_at h q).phase ≡ at → phase ≡ at
    here q at z e = sym is ∙ ap (λ x. (processor_at h x).phase) (sym z) ∙ e

    was : (q : ℕ) (at : Phase) → q ≢ cpu → (processor_at h q).phase ≡ at → (processor_at g q).phase ≡ at
    was q at n e = ap (λ (p : Processor). p.phase) (sym (others q n)) ∙ e
