-- What the programs on a held page do to its value.
use Rattle.std.specs.Prelude.{◌≡◌, ◌≢◌, ℕ, Bool, true, false, Some, None, Result, Ok, Err, refl}
use Rattle.std.proofs.Common.{sym, ap, inl, inr, ◌∙◌}
use Rattle.cmm_types.specs.declared.page.Usage.{Usage}
use Rattle.cmm_types.specs.declared.page.Usage.TheVariants.{S, U, P, V}
use Rattle.cmm_io.specs.DiskView.{DiskView}
use Rattle.essa_state.specs.declared.orders.Order.TheVariants.{SetStableIf}
use Rattle.essa_state.specs.PageValue.{PageValue, IsMadeUnused, OrderStep, is_lost, is_blank}
use Rattle.cmm_storage.specs.StorageView.{StorageView, Keeps}
use Rattle.cmm_storage.specs.Program.{done, put_page, bind}
use Rattle.cmm_storage.specs.Views.{Seen, unbind, Keeps-trans, Keeps-refl}
use Rattle.guest_pages.specs.PagesView.{info_at}
use Rattle.guest_rules.specs.declared.parts.Parts.{Parts}
use Rattle.guest_rules.specs.declared.outcome.Gone.{Gone}
use Rattle.guest_rules.specs.Hint.{hint}
use Rattle.guest_rules.specs.Rows.{handler, handled, tell, rehint, with_change, make_stable, make_stable_done}
use Rattle.guest_rules.proofs.Rows.Values.{let_go, stable_if}

-- the page is still held, and the disk is as it was
pub record StaysHeld (page : ℕ) (v : StorageView) (d : DiskView) (w : StorageView) (e : DiskView) : Type 0 where
  pub keeps : Keeps v page w
  pub held : w.held ≡ Some page
  pub disk : e ≡ d

stays_at : (page : ℕ) (v : StorageView) (d : DiskView) (m w : StorageView) (e : DiskView) → w ≡ m → e ≡ d → Keeps v page m → m.held ≡ Some page → StaysHeld page v d w e
stays_at page v d m w e em ed keeps held = record { keeps = rw em keeps; held = rw em held; disk = ed }

-- the discarded page was handled
pub record IsHandled (parts : Parts) (page : ℕ) (v : StorageView) (d : DiskView) (a : Parts) (w : StorageView) (e : DiskView) : Type 0 where
  pub stays : StaysHeld page v d w e
  pub tables : a ≡ handled parts page
  pub unused : IsMadeUnused (v.values page) (w.values page)

pub seen_handler : (parts : Parts) (page : ℕ) (v : StorageView) (d : DiskView) (a : Parts) (w : StorageView) (e : DiskView)
    → Seen (handler parts page) v d a w e → IsHandled parts page v d a w e
unfolding handler
seen_handler parts page v d a w e (old, m, (keeps, nothing, still, holds, is_old, (was_done, unused), _, _), (ea, em, ed)) =
    record { stays = stays_at page v d m w e em ed keeps holds.0; tables = ea; unused = rw em unused }

-- where a held page is made stable: as it was, or handled as discarded
abbrev pub Stabled : Parts → ℕ → StorageView → DiskView → Parts → Result Unit Gone → StorageView → DiskView → Type 0
Stabled parts page v d a (Ok u) w e =
    StaysHeld page v d w e × (a ≡ parts) × (is_lost (v.values page).contents ≡ false) × (w.values page ≡ record (v.values page) { usage = S })
Stabled parts page v d a (Err gone) w e = IsHandled parts page v d a w e × (is_lost (v.values page).contents ≡ true)

made_stable : (parts : Parts) (page : ℕ) (v m : StorageView) (d : DiskView) (a : Parts) (r : Result Unit Gone) (w : StorageView) (e : DiskView) (was_done : Bool)
    → Keeps v page m → m.held ≡ Some page → OrderStep (v.values page) SetStableIf was_done (m.values page)
    → Seen (make_stable_done parts page was_done) m d (a, r) w e → Stabled parts page v d a r w e
made_stable parts page v m d a r w e true keeps held step (ea, em, ed) =
    let er : r ≡ Ok tt = ap (λ q. q.1) ea in
    elim (stable_if _ _ _ step) [
      | inl h ↦ absurd (cc h.1)
      | inr h ↦ rw er (stays_at page v d m w e em ed keeps held, ap (λ q. q.0) ea, h.0, rw em h.2)
    ]
made_stable parts page v m d a r w e false keeps held step run =
    let x = unbind (handler parts page) (λ q. done (q, Err (record {}))) m d (a, r) w e run in
    let h = seen_handler parts page m d x.answer x.storage x.disk x.first in
    let er : r ≡ Err (record {}) = ap (λ q. q.1) x.second.0 in
    let ea : a ≡ x.answer = ap (λ q. q.0) x.second.0 in
    elim (stable_if _ _ _ step) [
      | inl k ↦ rw er (
        record {
          stays = stays_at page v d x.storage w e x.second.1 (x.second.2 ∙ h.stays.disk) (Keeps-trans v m x.storage page keeps h.stays.keeps) h.stays.held;
          tables = ea ∙ h.tables;
          unused = rw (x.second.1, ← k.2) h.unused;
        },
        k.0,
      )
      | inr k ↦ absurd (cc k.1)
    ]

pub seen_make_stable : (parts : Parts) (page : ℕ) (v : StorageView) (d : DiskView) (a : Parts) (r : Result Unit Gone) (w : StorageView) (e : DiskView)
    → Seen (make_stable parts page) v d (a, r) w e → Stabled parts page v d a r w e
unfolding make_stable
seen_make_stable parts page v d a r w e (old, m, (keeps, nothing, still, holds, is_old, step, _, _), run) =
    made_stable parts page v m d a r w e old.done keeps holds.0 step run

-- a held stable page was told to be of this usage
record IsTold (usage : Usage) (parts : Parts) (page : ℕ) (v : StorageView) (d : DiskView) (a : Parts) (w : StorageView) (e : DiskView) : Type 0 where
  stays : StaysHeld page v d w e
  tables : a ≡ parts
  value : w.values page ≡ record (v.values page) { usage = usage }

seen_tell : (usage : Usage) (parts : Parts) (page : ℕ) (v : StorageView) (d : DiskView) (a : Parts) (w : StorageView) (e : DiskView)
    → usage ≢ U → v.held ≡ Some page → (v.values page).usage ≡ S → is_blank (v.values page).contents ≡ false → Seen (tell usage parts page) v d a w e → IsTold usage parts page v d a w e
seen_tell S parts page v d a w e used held stable there (ea, em, ed) = record {
  stays = stays_at page v d v w e em ed (Keeps-refl v page) held;
  tables = ea;
  value = rw em (ap (λ q. record (v.values page) { usage = q }) stable);
}
seen_tell U parts page v d a w e used held stable there run = absurd (used refl)
seen_tell P parts page v d a w e used held stable there (old, m, (keeps, nothing, still, holds, is_old, step, _, _), (ea, em, ed)) =
    record { stays = stays_at page v d m w e em ed keeps holds.0; tables = ea; value = rw em (let_go _ _ P _ there step) }
seen_tell V parts page v d a w e used held stable there (old, m, (keeps, nothing, still, holds, is_old, step, _, _), (ea, em, ed)) =
    record { stays = stays_at page v d m w e em ed keeps holds.0; tables = ea; value = rw em (let_go _ _ V _ there step) }

-- the page has a tag, so it isn't unused
abbrev pub IsUsed : Parts → ℕ → Type 0
IsUsed parts page = (changed : Bool) → hint (info_at (with_change parts page changed).pages page) ≢ U

-- a page whose hint is told again: its change bit moved into what is known of it
abbrev pub rehinted_value : Parts → ℕ → PageValue → PageValue
rehinted_value after page old = record old { usage = hint (info_at after.pages page); changed = false }

pub record IsHinted (parts : Parts) (page : ℕ) (v : StorageView) (d : DiskView) (a : Parts) (w : StorageView) (e : DiskView) : Type 0 where
  pub stays : StaysHeld page v d w e
  pub tables : a ≡ with_change parts page (v.values page).changed
  pub value : w.values page ≡ rehinted_value a page (v.values page)

pub seen_rehint : (parts : Parts) (page : ℕ) (v : StorageView) (d : DiskView) (a : Parts) (w : StorageView) (e : DiskView)
    → IsUsed parts page → (v.values page).usage ≡ S → is_blank (v.values page).contents ≡ false → Seen (rehint parts page) v d a w e → IsHinted parts page v d a w e
unfolding rehint
seen_rehint parts page v d a w e used stable there (changed, m, (keeps, nothing, still, holds, was, value, _), run) =
    let after = with_change parts page changed in
    let t = seen_tell _ after page m d a w e (used changed) holds.0 (ap (λ q. q.usage) value ∙ stable) (ap (λ q. is_blank q.contents) value ∙ there) run in
    record {
      stays = record { keeps = Keeps-trans v m w page keeps t.stays.keeps; held = t.stays.held; disk = t.stays.disk };
      tables = t.tables ∙ ap (λ q. with_change parts page q) was;
      value = t.value ∙ ap (λ (q : PageValue). record q { usage = hint (info_at after.pages page) }) value ∙ ap (λ q. rehinted_value q page (v.values page)) (sym t.tables);
    }

-- the hint of the held page was told again, and it was given back
pub record Settled {R : Type 0} (parts : Parts) (r : R) (page : ℕ) (v : StorageView) (d : DiskView) (a : Parts × R) (w : StorageView) (e : DiskView) : Type 0 where
  pub answer : a.1 ≡ r
  pub tables : a.0 ≡ with_change parts page (v.values page).changed
  pub keeps : Keeps v page w
  pub held : w.held ≡ None
  pub disk : e ≡ d
  pub value : w.values page ≡ rehinted_value a.0 page (v.values page)

pub seen_settle : {R : Type 0} (parts : Parts) (r : R) (page : ℕ) (v : StorageView) (d : DiskView) (a : Parts × R) (w : StorageView) (e : DiskView)
    → IsUsed parts page → (v.values page).usage ≡ S → is_blank (v.values page).contents ≡ false
    → Seen {A = Parts × R} (bind (rehint parts page) (λ after. put_page page (done (after, r)))) v d a w e → Settled parts r page v d a w e
seen_settle {R} parts r page v d a w e used stable there run =
    let x = unbind (rehint parts page) (λ after. put_page page (done (after, r))) v d a w e run in
    let h = seen_rehint parts page v d x.answer x.storage x.disk used stable there x.first in
    put_back x.answer x.storage x.disk h x.second
  where
    put_back : (after : Parts) (n : StorageView) (y : DiskView) → IsHinted parts page v d after n y → Seen {A = Parts × R} (put_page page (done (after, r))) n y a w e → Settled parts r page v d a w e
    put_back after n y h (m, (keeps, nothing, still, held, value), (ea, em, ed)) = record {
      answer = ap (λ q. q.1) ea;
      tables = ap (λ q. q.0) ea ∙ h.tables;
      keeps = rw em (Keeps-trans v n m page h.stays.keeps keeps);
      held = rw em held;
      disk = ed ∙ h.stays.disk;
      value = rw em (value ∙ h.value ∙ ap (λ q. rehinted_value q.0 page (v.values page)) (sym ea));
    }
