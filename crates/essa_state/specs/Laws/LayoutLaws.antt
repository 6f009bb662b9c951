-- Fields, written as a number and read again, are the same.
use Rattle.std.specs.Prelude.{◌≡◌, ℕ, ◌+◌, ◌*◌, ◌/◌, ◌%◌, ◌^◌, ◌<◌, ◌==◌, Bool, true, false, refl}
use Rattle.std.proofs.Common.{arith, ap, ◌∙◌, lit<}
use Rattle.cmm_types.specs.declared.page.Usage.{Usage}
use Rattle.cmm_types.specs.declared.page.Usage.TheVariants.{S, U, P, V}
use Rattle.cmm_types.specs.declared.page.Content.{Content}
use Rattle.cmm_types.specs.declared.page.Content.TheVariants.{Resident, Preserved, Zero}
use Rattle.essa_state.specs.declared.fields.Fields.{Fields}
use Rattle.essa_state.specs.StateWord.{usage_code, content_code, bit_code, low_of, number_of}
use Rattle.essa_state.specs.Layout.{usage_with_code, content_with_code, fields_at, fields_from}

pub usage_code-small : (u : Usage) → usage_code u < 4
usage_code-small S = lit< tt
usage_code-small U = lit< tt
usage_code-small P = lit< tt
usage_code-small V = lit< tt

pub content_code-small : (c : Content) → content_code c < 3
content_code-small Resident = lit< tt
content_code-small Preserved = lit< tt
content_code-small Zero = lit< tt

pub bit_code-small : (b : Bool) → bit_code b < 2
bit_code-small false = lit< tt
bit_code-small true = lit< tt

usage_with_code-usage_code : (u : Usage) → usage_with_code (usage_code u) ≡ u
usage_with_code-usage_code S = refl
usage_with_code-usage_code U = refl
usage_with_code-usage_code P = refl
usage_with_code-usage_code V = refl

content_with_code-content_code : (c : Content) → content_with_code (content_code c) ≡ c
content_with_code-content_code Resident = refl
content_with_code-content_code Preserved = refl
content_with_code-content_code Zero = refl

is_one-bit_code : (b : Bool) → (bit_code b == 1) ≡ b
is_one-bit_code false = refl
is_one-bit_code true = refl

-- the five parts of bits 0 to 6, as numbers
pub record Parts (u c r h b : ℕ) : Type 0 where
  pub usage : (u + 4 * c + 16 * r + 32 * h + 64 * b) % 4 ≡ u
  pub content : (u + 4 * c + 16 * r + 32 * h + 64 * b) / 4 % 4 ≡ c
  pub referenced : (u + 4 * c + 16 * r + 32 * h + 64 * b) / 16 % 2 ≡ r
  pub changed : (u + 4 * c + 16 * r + 32 * h + 64 * b) / 32 % 2 ≡ h
  pub busy : (u + 4 * c + 16 * r + 32 * h + 64 * b) / 64 % 2 ≡ b

parts : (u c r h b : ℕ) → u < 4 → c < 3 → r < 2 → h < 2 → b < 2 → Parts u c r h b
parts u c r h b u_small c_small r_small h_small b_small = record {
  usage = omega arith;
  content = omega arith;
  referenced = omega arith;
  changed = omega arith;
  busy = omega arith;
}

pub low_of-small : (w : Fields) → low_of w < 128
low_of-small w =
    omega (arith, usage_code-small w.usage, content_code-small w.content, bit_code-small w.referenced, bit_code-small w.changed, bit_code-small w.busy)

parts_of : (w : Fields) → Parts (usage_code w.usage) (content_code w.content) (bit_code w.referenced) (bit_code w.changed) (bit_code w.busy)
parts_of w = parts _ _ _ _ _ (usage_code-small w.usage) (content_code-small w.content) (bit_code-small w.referenced) (bit_code-small w.changed) (bit_code-small w.busy)

same_fields : (u u' : Usage) (c c' : Content) (r r' h h' b b' : Bool) (n : ℕ) → u ≡ u' → c ≡ c' → r ≡ r' → h ≡ h' → b ≡ b' →
    let left : Fields = record { usage = u; content = c; referenced = r; changed = h; busy = b; count = n } in
    let right : Fields = record { usage = u'; content = c'; referenced = r'; changed = h'; busy = b'; count = n } in
    left ≡ right
same_fields u u' c c' r r' h h' b b' n eu ec er eh eb = cc

fields_from-low_of : (w : Fields) → fields_from (low_of w) w.count ≡ w
fields_from-low_of w =
    let p = parts_of w in
    same_fields _ _ _ _ _ _ _ _ _ _ w.count
    (ap usage_with_code p.usage ∙ usage_with_code-usage_code w.usage)
    (ap content_with_code p.content ∙ content_with_code-content_code w.content)
    (ap (λ n. n == 1) p.referenced ∙ is_one-bit_code w.referenced)
    (ap (λ n. n == 1) p.changed ∙ is_one-bit_code w.changed)
    (ap (λ n. n == 1) p.busy ∙ is_one-bit_code w.busy)

pub high-number : (low count : ℕ) → low < 128 → (low + 2 ^ 32 * count) / 2 ^ 32 ≡ count
high-number low count h = omega arith

pub low-number : (low count : ℕ) → low < 128 → (low + 2 ^ 32 * count) % 2 ^ 32 ≡ low
low-number low count h = omega arith

pub fields_at-number_of : (w : Fields) → fields_at (number_of w) ≡ w
fields_at-number_of w =
    rw (high-number (low_of w) w.count (low_of-small w), low-number (low_of w) w.count (low_of-small w))
    (fields_from-low_of w)

pub fields_at-number : (raw : ℕ) (w : Fields) → raw ≡ number_of w → fields_at raw ≡ w
fields_at-number raw w e = ap fields_at e ∙ fields_at-number_of w
