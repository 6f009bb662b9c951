-- A load or a store that goes through an entry leaves its page resident and referenced at the host, and a stored page changed.
use Rattle.std.specs.Prelude.{◌≡◌, ◌<◌, ℕ, List, length, Bool, true, false, ◌||◌, Some, Result, Ok, Err, is_ok, if◌then◌else◌}
use Rattle.std.proofs.Common.{sym, ap, subst, ◌∙◌, length-set, get_or-set_same}
use Rattle.cmm_io.specs.DiskCall.{DiskCall}
use Rattle.cmm_io.specs.FailurePlan.{FailurePlan}
use Rattle.essa_state.specs.declared.fields.Fields.{Fields}
use Rattle.essa_state.specs.StateWord.{is_resident, is_discarded, opening_word}
use Rattle.cmm_storage.specs.declared.storage.Busy.{Busy}
use Rattle.cmm_storage.specs.declared.storage.Trap.{Trap}
use Rattle.cmm_storage.specs.declared.storage.Trap.TheVariants.{Discarded, Paging, NoFrame}
use Rattle.cmm_storage.specs.StorageCall.{StorageCall, Take, Touch, Fetch, Store, Put}
use Rattle.cmm_storage.specs.Program.{done, put_page, Does}
use Rattle.cmm_storage.specs.Views.{page_called}
use Rattle.host_plain.specs.MemoryState.{MemoryState, word_at, with_use}
use Rattle.host_plain.specs.Eviction.{Paged, frame_freed}
use Rattle.host_plain.specs.Touches.{Touched, touched_page, used_after, filled_after}
use Rattle.host_plain.specs.HostState.{HostState, HostStep, IsHost, Leaves, pages_of, pager_of, list_place, host_word, held_word, touch_of, touch_after, page_stored, given_back}
use Rattle.host_plain.proofs.Places.{place-below}
use Rattle.guest_rules.specs.declared.parts.Parts.{Parts}
use Rattle.guest_rules.specs.declared.outcome.Missed.{Missed}
use Rattle.guest_rules.specs.declared.outcome.Missed.TheVariants.{Gone as WasGone}
use Rattle.guest_rules.specs.Rows.{handler, touch_missed, load_touched, load_taken, load_page, store_touched, store_taken, store_through}
use Rattle.cmm_world.proofs.Unbound.{halfway}

-- the served guest's page was reached
pub record IsReached (h : HostState) (page : ℕ) (writes : Bool) : Type 0 where
  pub below : page < pages_of h h.guest
  pub resident : is_resident (host_word h page).content ≡ true
  pub referenced : (host_word h page).referenced ≡ true
  pub changed : writes ≡ true → (host_word h page).changed ≡ true

-- a good touch of the page at a place sets its reference bit
abbrev IsUsed : ℕ → Touched → Type 0
IsUsed place t = place < length t.memory.words → t.answer ≡ Ok tt → (word_at t.memory place).referenced ≡ true

with_use-used : (m : MemoryState) (place : ℕ) → place < length (with_use m place).words → (word_at (with_use m place) place).referenced ≡ true
with_use-used m place below =
    ap (λ (word : Fields). word.referenced) (get_or-set_same m.words place (record (word_at m place) { referenced = true }) opening_word (rw length-set at below))

never_good : (trap : Trap) → ◌≡◌ {A = Result Unit Trap} (Err trap) (Ok tt) → ⊥
never_good trap same = cc

used_after-used : (step : Paged) (place : ℕ) → IsUsed place (used_after step place)
used_after-used step place = at step.done
  where
    at : (is : Bool) → IsUsed place (if is then record { answer = Ok tt; memory = with_use step.memory place; pager = step.pager }
        else record { answer = Err Paging; memory = step.memory; pager = step.pager })
    at true below good = with_use-used step.memory place below
    at false below good = absurd (never_good Paging good)

touched_page-used : (m : MemoryState) (place : ℕ) (pager : FailurePlan) → IsUsed place (touched_page m place pager)
unfolding touched_page
touched_page-used m place pager = lost (is_discarded (word_at m place)) (is_resident (word_at m place).content)
  where
    lost : (is resident : Bool) → IsUsed place (if is then record { answer = Err Discarded; memory = m; pager = pager }
        else if resident then record { answer = Ok tt; memory = with_use m place; pager = pager } else used_after (filled_after (frame_freed m pager) place) place)
    lost true resident below good = absurd (never_good Discarded good)
    lost false true below good = with_use-used m place below
    lost false false below good = used_after-used (filled_after (frame_freed m pager) place) place below good

-- the states that a good touch, a store and the giving back lead to
touch-reaches : (h : HostState) (page : ℕ) → IsHost (touch_after h page) → h.held ≡ Some page → page < pages_of h h.guest → (touch_of h page).answer ≡ Ok tt → IsReached (touch_after h page) page false
unfolding touch_of
touch-reaches h page is held below good = record {
  below = below;
  resident = is.resident page held (ap (λ (r : Result Unit Trap). is_ok r || h.touched) good);
  referenced = touched_page-used h.memory (list_place h page) (pager_of h h.guest) (place-below (touch_after h page) h.guest page is is.guest below) good;
  changed = λ writes. let bad : false ≡ true = writes in absurd cc;
}

store-reaches : (h : HostState) (page off : ℕ) (bytes : List ℕ) → IsHost h → IsReached h page false → IsReached (page_stored h page off bytes) page true
store-reaches h page off bytes is r =
    let same : host_word (page_stored h page off bytes) page ≡ record (host_word h page) { changed = true } =
    get_or-set_same h.memory.words (list_place h page) (record (host_word h page) { changed = true }) opening_word (place-below h h.guest page is is.guest r.below) in
    record {
      below = r.below;
      resident = ap (λ (word : Fields). is_resident word.content) same ∙ r.resident;
      referenced = ap (λ (word : Fields). word.referenced) same ∙ r.referenced;
      changed = λ writes. ap (λ (word : Fields). word.changed) same;
    }

give-reaches : (h : HostState) (page : ℕ) (writes : Bool) → IsHost h → IsReached h page writes → IsReached (given_back h page) page writes
give-reaches h page writes is r =
    let same : host_word (given_back h page) page ≡ held_word (host_word h page) false =
    get_or-set_same h.memory.words (list_place h page) (held_word (host_word h page) false) opening_word (place-below h h.guest page is is.guest r.below) in
    record {
      below = r.below;
      resident = ap (λ (word : Fields). is_resident word.content) same ∙ r.resident;
      referenced = ap (λ (word : Fields). word.referenced) same ∙ r.referenced;
      changed = λ is_written. ap (λ (word : Fields). word.changed) same ∙ r.changed is_written;
    }

-- what a load or a store through an entry leaves, where it was answered
pub record Through (parts : Parts) (page : ℕ) (writes : Bool) (after : Parts) (k : HostState) : Type 0 where
  pub tables : after ≡ parts
  pub reached : IsReached k page writes

no_answer : {A : Type 0} (after parts : Parts) (x : A) (missed : Missed) → ◌≡◌ {A = Parts × Result A Missed} (after, Ok x) (parts, Err missed) → ⊥
no_answer {A} after parts x missed same = let bad : ◌≡◌ {A = Result A Missed} (Ok x) (Err missed) = ap (λ (q : Parts × Result A Missed). q.1) same in cc

module _ {S D : Type 0} (ss : S → StorageCall → S → Type 0) (ds : D → DiskCall → D → Type 0) (sv : S → HostState)
    (sm : (s : S) (call : StorageCall) (t : S) → ss s call t → HostStep (sv s) call (sv t))
    (sl : (s : S) (call : StorageCall) (t : S) → ss s call t → Leaves (sv s) (page_called call) (sv t)) where
  touch_good : (s : S) (page : ℕ) (u : Unit) (m : S) → (sv s).held ≡ Some page → ss s (Touch page (Ok u)) m → IsReached (sv m) page false
  touch_good s page u m held now =
      let q = sm s (Touch page (Ok u)) m now in
      let leaves = sl s (Touch page (Ok u)) m now in
      subst (λ (k : HostState). IsReached k page false) (sym q.1) (touch-reaches (sv s) page (subst IsHost q.1 leaves.sound) held leaves.below (sym q.0))

  put_reaches : (s : S) (page : ℕ) (writes : Bool) (m : S) → IsHost (sv s) → IsReached (sv s) page writes → ss s (Put page) m → IsReached (sv m) page writes
  put_reaches s page writes m is r now = subst (λ (k : HostState). IsReached k page writes) (sym (sm s (Put page) m now)) (give-reaches (sv s) page writes is r)

  take_held : (s : S) (page : ℕ) (r : Result Unit Busy) (m : S) → ss s (Take page r) m → (sv m).held ≡ Some page
  take_held s page r m now = ap (λ (k : HostState). k.held) (sm s (Take page r) m now).1

  put_missed : {A : Type 0} (page : ℕ) (parts after : Parts) (missed : Missed) (x : A) (s : S) (d : D) (t : S) (e : D)
      → Does {A = Parts × Result A Missed} ss ds (put_page page (done (parts, Err missed))) s d (after, Ok x) t e → ⊥
  put_missed page parts after missed x s d t e (m, now, (ea, es, ed)) = no_answer after parts x missed ea

  touch_missed-never : {A : Type 0} (page : ℕ) (parts after : Parts) (trap : Trap) (x : A) (s : S) (d : D) (t : S) (e : D)
      → Does {A = Parts × Result A Missed} ss ds (touch_missed page parts trap) s d (after, Ok x) t e → ⊥
  touch_missed-never {A} page parts after Discarded x s d t e run =
      let y = halfway ss ds (handler parts page) (λ (p : Parts). put_page page (done (p, Err WasGone))) s d (after, Ok x) t e run in
      put_missed {A = A} page y.answer after WasGone x y.storage y.disk t e y.second
  touch_missed-never page parts after Paging x s d t e run = put_missed page parts after _ x s d t e run
  touch_missed-never page parts after (NoFrame looks) x s d t e run = put_missed page parts after _ x s d t e run

  load_answered : (parts : Parts) (page off len : ℕ) (r : Result Unit Trap) (s m : S) (d : D) (after : Parts) (bytes : List ℕ) (t : S) (e : D)
      → (sv s).held ≡ Some page → ss s (Touch page r) m → Does {A = Parts × Result (List ℕ) Missed} ss ds (load_touched page off len parts r) m d (after, Ok bytes) t e
      → Through parts page false after (sv t)
  load_answered parts page off len (Ok u) s m d after bytes t e held now (got, m2, len_is, fetched, (m3, put, (ea, es, ed))) =
      let good : IsReached (sv m2) page false = subst (λ (k : HostState). IsReached k page false) (sym (sm m (Fetch page off got) m2 fetched).1) (touch_good s page u m held now) in
      record {
        tables = ap (λ (q : Parts × Result (List ℕ) Missed). q.0) ea;
        reached = subst (λ q. IsReached (sv q) page false) (sym es) (put_reaches m2 page false m3 (sl m (Fetch page off got) m2 fetched).sound good put);
      }
  load_answered parts page off len (Err trap) s m d after bytes t e held now run = absurd (touch_missed-never page parts after trap bytes m d t e run)

  load_held : (parts : Parts) (page off len : ℕ) (r : Result Unit Busy) (s m : S) (d : D) (after : Parts) (bytes : List ℕ) (t : S) (e : D)
      → ss s (Take page r) m → Does {A = Parts × Result (List ℕ) Missed} ss ds (load_taken parts page off len r) m d (after, Ok bytes) t e → Through parts page false after (sv t)
  load_held parts page off len (Ok u) s m d after bytes t e now (r, n, touched, rest) =
      load_answered parts page off len r m n d after bytes t e (take_held s page (Ok u) m now) touched rest
  load_held parts page off len (Err busy) s m d after bytes t e now (ea, es, ed) = absurd (no_answer after parts bytes _ ea)

  -- a load that was answered with bytes
  pub load-through : (parts : Parts) (page off len : ℕ) (s : S) (d : D) (after : Parts) (bytes : List ℕ) (t : S) (e : D)
      → Does {A = Parts × Result (List ℕ) Missed} ss ds (load_page parts page off len) s d (after, Ok bytes) t e → Through parts page false after (sv t)
  unfolding load_page
  load-through parts page off len s d after bytes t e (r, m, now, rest) = load_held parts page off len r s m d after bytes t e now rest

  store_answered : (parts : Parts) (page off : ℕ) (bytes : List ℕ) (r : Result Unit Trap) (s m : S) (d : D) (after : Parts) (u : Unit) (t : S) (e : D)
      → (sv s).held ≡ Some page → ss s (Touch page r) m → Does {A = Parts × Result Unit Missed} ss ds (store_touched page off bytes parts r) m d (after, Ok u) t e
      → Through parts page true after (sv t)
  store_answered parts page off bytes (Ok v) s m d after u t e held now (m2, was_stored, (m3, put, (ea, es, ed))) =
      let there : IsReached (sv m) page false = touch_good s page v m held now in
      let good : IsReached (sv m2) page true =
      subst (λ (k : HostState). IsReached k page true) (sym (sm m (Store page off bytes) m2 was_stored)) (store-reaches (sv m) page off bytes (sl s (Touch page (Ok v)) m now).sound there) in
      record {
        tables = ap (λ (q : Parts × Result Unit Missed). q.0) ea;
        reached = subst (λ q. IsReached (sv q) page true) (sym es) (put_reaches m2 page true m3 (sl m (Store page off bytes) m2 was_stored).sound good put);
      }
  store_answered parts page off bytes (Err trap) s m d after u t e held now run = absurd (touch_missed-never page parts after trap u m d t e run)

  store_held : (parts : Parts) (page off : ℕ) (bytes : List ℕ) (r : Result Unit Busy) (s m : S) (d : D) (after : Parts) (u : Unit) (t : S) (e : D)
      → ss s (Take page r) m → Does {A = Parts × Result Unit Missed} ss ds (store_taken parts page off bytes r) m d (after, Ok u) t e → Through parts page true after (sv t)
  store_held parts page off bytes (Ok v) s m d after u t e now (r, n, touched, rest) =
      store_answered parts page off bytes r m n d after u t e (take_held s page (Ok v) m now) touched rest
  store_held parts page off bytes (Err busy) s m d after u t e now (ea, es, ed) = absurd (no_answer after parts u _ ea)

  -- a store that was answered
  pub store-through : (parts : Parts) (page off : ℕ) (bytes : List ℕ) (s : S) (d : D) (after : Parts) (u : Unit) (t : S) (e : D)
      → Does {A = Parts × Result Unit Missed} ss ds (store_through parts page off bytes) s d (after, Ok u) t e → Through parts page true after (sv t)
  unfolding store_through
  store-through parts page off bytes s d after u t e (r, m, now, rest) = store_held parts page off bytes r s m d after u t e now rest
