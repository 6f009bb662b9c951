-- What a whole run of calls leaves alone.
use Rattle.std.specs.Prelude.{◌≡◌, refl, ℕ}
use Rattle.std.proofs.Common.{sym, subst, ◌∙◌}
use Rattle.cmm_io.specs.DiskCall.{DiskCall}
use Rattle.essa_state.specs.Laws.PageValueLaws.{MayBecome-refl, MayBecome-trans}
use Rattle.cmm_storage.specs.StorageCall.{StorageCall}
use Rattle.cmm_storage.specs.Program.{Program, done, take_page, touch_page, order_page, take_change, fetch_page, store_page, put_page, read_block, write_block, Does, block_read}
use Rattle.cmm_storage.specs.Views.{page_called}
use Rattle.host_plain.specs.HostState.{HostState, IsHost, Leaves, RunLeaves, pages_of, value_of}
use Rattle.host_plain.proofs.Others.{other_guest}

run-none : (h : HostState) → IsHost h → RunLeaves h h
run-none h is = record {
  sound = is;
  starts = refl;
  guest = refl;
  own = refl;
  count = refl;
  pagers = λ other not_served. refl;
  frames = refl;
  others = λ other page below not_served inside. MayBecome-refl (value_of h other page);
}

pages-same : (h m : HostState) (guest : ℕ) → m.starts ≡ h.starts → pages_of m guest ≡ pages_of h guest
pages-same h m guest same = rw same refl

-- one call, and then a run
run-more : (h m k : HostState) (page : ℕ) → IsHost h → Leaves h page m → RunLeaves m k → RunLeaves h k
run-more h m k page is first rest =
    let spares = first.spares in
    record {
      sound = rest.sound;
      starts = rest.starts ∙ spares.starts;
      guest = rest.guest ∙ spares.guest;
      own = rest.own ∙ spares.own;
      count = rest.count ∙ spares.count;
      pagers = λ other not_served. rest.pagers other (λ e. not_served (e ∙ spares.guest)) ∙ spares.pagers other not_served;
      frames = rest.frames ∙ spares.frames;
      others = λ other at below not_served inside.
          MayBecome-trans (value_of h other at) (value_of m other at) (value_of k other at) (other_guest h page m other at is first below not_served inside)
          (rest.others other at (rw spares.count below) (λ e. not_served (e ∙ spares.guest)) (rw (pages-same h m other spares.starts) inside));
    }

module _ {S D : Type 0} (ss : S → StorageCall → S → Type 0) (ds : D → DiskCall → D → Type 0) (host : S → HostState)
    (leaves : (s : S) (call : StorageCall) (t : S) → ss s call t → Leaves (host s) (page_called call) (host t)) where
  pub run_leaves : {A : Type 0} (p : Program A) (s : S) (d : D) (a : A) (t : S) (e : D) → IsHost (host s) → Does ss ds p s d a t e → RunLeaves (host s) (host t)
  run_leaves (done x) s d a t e is (ea, es, ed) = subst (λ q. RunLeaves (host s) (host q)) (sym es) (run-none (host s) is)
  run_leaves (take_page p k) s d a t e is (r, m, now, rest) = let one = leaves s _ m now in run-more (host s) (host m) (host t) p is one (run_leaves (k r) m d a t e one.sound rest)
  run_leaves (touch_page p k) s d a t e is (r, m, now, rest) = let one = leaves s _ m now in run-more (host s) (host m) (host t) p is one (run_leaves (k r) m d a t e one.sound rest)
  run_leaves (order_page p c k) s d a t e is (r, m, now, rest) = let one = leaves s _ m now in run-more (host s) (host m) (host t) p is one (run_leaves (k r.done) m d a t e one.sound rest)
  run_leaves (take_change p k) s d a t e is (r, m, now, rest) = let one = leaves s _ m now in run-more (host s) (host m) (host t) p is one (run_leaves (k r) m d a t e one.sound rest)
  run_leaves (fetch_page p off len k) s d a t e is (r, m, len_is, now, rest) = let one = leaves s _ m now in run-more (host s) (host m) (host t) p is one (run_leaves (k r) m d a t e one.sound rest)
  run_leaves (store_page p off bytes k) s d a t e is (m, now, rest) = let one = leaves s _ m now in run-more (host s) (host m) (host t) p is one (run_leaves k m d a t e one.sound rest)
  run_leaves (put_page p k) s d a t e is (m, now, rest) = let one = leaves s _ m now in run-more (host s) (host m) (host t) p is one (run_leaves k m d a t e one.sound rest)
  run_leaves (read_block n k) s d a t e is (r, bytes, m, now, rest) = run_leaves (k (block_read r bytes)) s m a t e is rest
  run_leaves (write_block n bytes k) s d a t e is (r, m, now, rest) = run_leaves (k r) s m a t e is rest
