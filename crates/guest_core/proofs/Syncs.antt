-- What the tables of a guest give the calls of a sync's turn.
use Rattle.std.proofs.Common.{◌≡◌, ◌<◌, ◌+◌, ◌^◌, ℕ, Some, ap, sym, subst, ◌∙◌, arith}
use Rattle.cmm_types.specs.declared.page.Tag.TheVariants.{File}
use Rattle.cmm_types.specs.declared.command.Op.{Op}
use Rattle.cmm_types.specs.declared.command.Op.TheVariants.{Sync}
use Rattle.cmm_flat.specs.Legal.{command_of}
use Rattle.cmm_io.specs.DiskView.{DiskView}
use Rattle.cmm_storage.specs.StorageView.{StorageView}
use Rattle.guest_cache.specs.CacheView.{page_of}
use Rattle.guest_rules.specs.declared.processor.Phase.TheVariants.{Sync as AtSync, SyncWrite}
use Rattle.guest_rules.specs.GuestState.{GuestState, processor_at}
use Rattle.guest_rules.specs.Calls.{CanTake}
use Rattle.guest_rules.specs.Fit.{Fit, IsSyncing}
use Rattle.guest_rules.proofs.Ready.ReadyCalls.{file-few, syncing-tag}
use Rattle.guest_core.specs.Between.{IsFit}
use Rattle.guest_core.proofs.Ready.{found_takes}

-- the page that has the tag of the page that a sync is at can be taken
pub sync-takes : (g : GuestState) (v : StorageView) (cpu file index page : ℕ) → IsFit g v → IsSyncing g cpu file index → page_of g.parts.cache (File file index) ≡ Some page
    → CanTake g.parts v page
sync-takes g v cpu file index page fit k found = found_takes g v page (File file index) fit (syncing-tag g v fit.0 cpu file index fit.1 k) found

-- a processor in the phase of a sync has one
pub at-sync : (g : GuestState) (v : StorageView) (cpu : ℕ) (op : Op) (file index : ℕ) → IsFit g v → command_of g.plan cpu (processor_at g cpu).place ≡ Some op → op ≡ Sync file
    → (processor_at g cpu).phase ≡ AtSync index → IsSyncing g cpu file index
at-sync g v cpu op file index fit command is phase =
    let k = fit.1.locks.syncing cpu index phase in
    let both : Some (Sync k.0) ≡ Some (Sync file) = sym k.1.command ∙ command ∙ ap Some is in
    let same : k.0 ≡ file = cc in
    subst (λ n. IsSyncing g cpu n index) same k.1

-- a file has few pages
pub write-next : (g : GuestState) (v : StorageView) (d : DiskView) (cpu index page : ℕ) → Fit g v d → (processor_at g cpu).phase ≡ SyncWrite index page → index + 1 < 2 ^ 32
write-next g v d cpu index page f phase = let k = f.locks.writing cpu index page phase in omega (arith, k.syncing.within, file-few g v d k.file f)
