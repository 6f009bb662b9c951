-- A load of each page's word, in the pages' order.
use Rattle.std.specs.Prelude.{◌≡◌, ◌<◌, ◌≤◌, ◌+◌, ◌++◌, ℕ, suc, List, [], ◌∷◌, length}
use Rattle.std.proofs.Common.{refl, sym, ap, arith, subst, ◌∙◌}
use Rattle.std.proofs.lemmas.List.{append-nil, append_assoc, length-append}
use Rattle.std.proofs.lemmas.List.Sums.{sum_by-append, sum_by-cons}
use Rattle.essa_state.specs.declared.fields.Fields.{Fields}
use Rattle.state_words.specs.SeatView.{SeatStep, Looked}
use Rattle.guest_rules.specs.GuestState.{GuestState}
use Rattle.cmm_types.specs.Sums.{sum_below}
use Rattle.cmm_vcpu.specs.KernelState.{KernelState, IsKernel, pages_seen, words_of, own_words, pool_of}
use Rattle.cmm_vcpu.proofs.Looked.{kernel_looked}
use Rattle.cmm_vcpu.specs.LastLooks.{looked_kernel, looks_from, discards_in, HasLooked}

-- the discards that the guest knows of, of one page
abbrev known : KernelState → ℕ → ℕ
known k page = ((pages_seen k).values page).count

-- the kernel after a load of each of the first pages
pub record LooksSo (k m : KernelState) (page : ℕ) : Type 0 where
  pub kernel : IsKernel m
  pub guest : m.guest ≡ k.guest
  pub words : words_of m ≡ words_of k
  pub own : own_words m ≡ own_words k
  pub pool : pool_of m ≡ pool_of k
  pub count : length m.looked ≡ page
  pub steps : m.storage.seat.view.steps ≡ k.storage.seat.view.steps ++ looks_from 0 m.looked
  pub counted : sum_below (known m) page ≤ discards_in m.looked

-- the loads with one more
looks_more : (page : ℕ) (words : List Fields) (word : Fields) → looks_from page (words ++ word ∷ []) ≡ looks_from page words ++ Looked (page + length words) word ∷ []
looks_more page [] word = let same : page ≡ page + 0 = omega arith in ap (λ (p : ℕ). Looked p word ∷ []) same
looks_more page (w ∷ words) word =
    let same : page + 1 + length words ≡ page + length (w ∷ words) = omega arith in
    ap (λ (l : List SeatStep). Looked page w ∷ l) (looks_more (page + 1) words word ∙ ap (λ (p : ℕ). looks_from (page + 1) words ++ Looked p word ∷ []) same)

sum_more : (f : ℕ → ℕ) (n : ℕ) → sum_below f (n + 1) ≡ sum_below f n + f n
sum_more f n = let next : suc n ≡ n + 1 = omega arith in subst (λ (q : ℕ). sum_below f q ≡ sum_below f n + f n) next refl

discards_more : (words : List Fields) (word : Fields) → discards_in (words ++ word ∷ []) ≡ discards_in words + word.count
discards_more words word = sum_by-append (λ (w : Fields). w.count) words (word ∷ []) ∙ omega (arith, sum_by-cons (λ (w : Fields). w.count) word [])

-- what was looked at before is forgotten
abbrev pub forgot : KernelState → KernelState
forgot k = record k { looked = [] }

abbrev pub kept_look : KernelState → (page : ℕ) → Fields → KernelState
kept_look m page word = record (looked_kernel m page word) { looked = m.looked ++ word ∷ [] }

pub kernel_forgot : (k : KernelState) → IsKernel k → IsKernel (forgot k)
kernel_forgot k kernel = record { fits = kernel.fits; bound = kernel.bound; looked_few = omega arith }

pub looks_none : (k : KernelState) → IsKernel k → LooksSo k (forgot k) 0
looks_none k kernel =
    record { kernel = kernel_forgot k kernel; guest = refl; words = refl; own = refl; pool = refl; count = refl; steps = sym (append-nil k.storage.seat.view.steps); counted = omega arith }

pub looks_next : (k m : KernelState) (page : ℕ) (word : Fields) → page < k.guest.plan.pages → LooksSo k m page → known m page ≤ word.count → LooksSo k (kept_look m page word) (page + 1)
looks_next k m page word below so counted = record {
  kernel = record { fits = looked.fits; bound = looked.bound; looked_few = few };
  guest = so.guest;
  words = so.words;
  own = so.own;
  pool = so.pool;
  count = omega (arith, so.count, length-append m.looked (word ∷ []));
  steps = steps;
  counted = omega (arith, so.counted, counted, sum_more (known m) page, discards_more m.looked word);
}
  where
    looked : IsKernel (looked_kernel m page word)
    looked = kernel_looked m page word so.kernel

    within : page < m.guest.plan.pages
    within = subst (λ (g : GuestState). page < g.plan.pages) (sym so.guest) below

    few : length (m.looked ++ word ∷ []) ≤ m.guest.plan.pages
    few = omega (arith, within, so.count, length-append m.looked (word ∷ []))

    at : 0 + length m.looked ≡ page
    at = omega (arith, so.count)

    all : looks_from 0 (m.looked ++ word ∷ []) ≡ looks_from 0 m.looked ++ Looked page word ∷ []
    all = looks_more 0 m.looked word ∙ ap (λ (p : ℕ). looks_from 0 m.looked ++ Looked p word ∷ []) at

    steps : m.storage.seat.view.steps ++ Looked page word ∷ [] ≡ k.storage.seat.view.steps ++ looks_from 0 (m.looked ++ word ∷ [])
    steps =
        ap (λ (l : List SeatStep). l ++ Looked page word ∷ []) so.steps
        ∙ append_assoc k.storage.seat.view.steps (looks_from 0 m.looked) (Looked page word ∷ [])
        ∙ ap (λ (l : List SeatStep). k.storage.seat.view.steps ++ l) (sym all)

pub looks_done : (k m : KernelState) (pages : ℕ) → LooksSo k m pages → pages ≡ k.guest.plan.pages → HasLooked k m
looks_done k m pages so is = record {
  kernel = so.kernel;
  guest = so.guest;
  words = so.words;
  own = so.own;
  pool = so.pool;
  looks = record { one_each = so.count ∙ own; before = k.storage.seat.view.steps; steps = so.steps };
  faults = omega (arith, so.kernel.fits.fit.faults, counted);
}
  where
    own : pages ≡ m.guest.plan.pages
    own = is ∙ ap (λ g. g.plan.pages) (sym so.guest)

    counted : sum_below (known m) (pages_seen m).pages ≤ discards_in m.looked
    counted = subst (λ (q : ℕ). sum_below (known m) q ≤ discards_in m.looked) (own ∙ sym so.kernel.fits.fit.sizes.pages) so.counted
