-- What holds of each value that a step of reading gives.
use Rattle.std.proofs.Common.{◌≡◌, zero, suc, Bool, true, false, List, ◌∷◌, Option, Some, None, Result, Ok, Err, refl, arith}
use Rattle.std.specs.Prelude.{if◌then◌else◌, All}
use Rattle.std.specs.Option.{ok_or}
use Rattle.cmm_scenario.specs.Outcome.{◌>>=◌, checked}

abbrev pub Given : {A E : Type 0} → (A → Type 0) → Result A E → Type 0
Given P (Ok x) = P x
Given P (Err e) = Unit {0}

pub given_then : {A B E : Type 0} (P : B → Type 0) (r : Result A E) (f : A → Result B E) → ((x : A) → r ≡ Ok x → Given P (f x)) → Given P (r >>= f)
given_then P (Ok x) f h = h x refl
given_then P (Err e) f h = tt

pub given_next : {A B E : Type 0} (Q : A → Type 0) (P : B → Type 0) (r : Result A E) (f : A → Result B E) → Given Q r → ((x : A) → Q x → Given P (f x)) → Given P (r >>= f)
given_next Q P (Ok x) f q h = h x q
given_next Q P (Err e) f q h = tt

pub given_any : {A B E : Type 0} (P : B → Type 0) (r : Result A E) (f : A → Result B E) → ((x : A) → Given P (f x)) → Given P (r >>= f)
given_any P (Ok x) f h = h x
given_any P (Err e) f h = tt

pub given_map : {A E : Type 0} (P Q : A → Type 0) (r : Result A E) → ((x : A) → P x → Q x) → Given P r → Given Q r
given_map P Q (Ok x) h p = h x p
given_map P Q (Err e) h p = tt

pub given_checked : {A E : Type 0} (P : A → Type 0) (b : Bool) (x : A) (e : E) → (b ≡ true → P x) → Given P (checked b x e)
given_checked P true x e h = h refl
given_checked P false x e h = tt

pub given_if : {A E : Type 0} (P : A → Type 0) (b : Bool) (r s : Result A E) → Given P r → Given P s → Given P (if b then r else s)
given_if P true r s p q = p
given_if P false r s p q = q

pub ok_or-Some : {A E : Type 0} (o : Option A) (e : E) (x : A) → ok_or o e ≡ Ok x → o ≡ Some x
ok_or-Some None e x h = absurd cc
ok_or-Some (Some y) e x h = cc

pub All-cons : {A : Type 0} (P : A → Type 0) (x : A) (xs : List A) → P x → All P xs → All P (x ∷ xs)
All-cons P x xs p ps zero d lt = p
All-cons P x xs p ps (suc k) d lt = ps k d (omega arith)
