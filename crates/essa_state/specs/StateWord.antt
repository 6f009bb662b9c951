-- Which fields a page's state word may have, and the number that stands for them.
use Rattle.std.specs.Prelude.{◌≡◌, ℕ, ◌+◌, ◌*◌, ◌^◌, Bool, true, false, not, ◌&&◌, ◌||◌}
use Rattle.cmm_types.specs.declared.page.Usage.{Usage}
use Rattle.cmm_types.specs.declared.page.Usage.TheVariants.{S, U, P, V}
use Rattle.cmm_types.specs.declared.page.Content.{Content}
use Rattle.cmm_types.specs.declared.page.Content.TheVariants.{Resident, Preserved, Zero}
use Rattle.essa_state.specs.declared.fields.Fields.{Fields}

abbrev pub is_stable : Usage → Bool
is_stable S = true
is_stable U = false
is_stable P = false
is_stable V = false

abbrev pub is_unused : Usage → Bool
is_unused S = false
is_unused U = true
is_unused P = false
is_unused V = false

-- only while it is unchanged
abbrev pub is_potential : Usage → Bool
is_potential S = false
is_potential U = false
is_potential P = true
is_potential V = false

-- at any time
abbrev pub is_fully_volatile : Usage → Bool
is_fully_volatile S = false
is_fully_volatile U = false
is_fully_volatile P = false
is_fully_volatile V = true

-- unused, without contents, and never discarded: the word of every page at the start
abbrev pub opening_word : Fields
opening_word = record { usage = U; content = Zero; referenced = false; changed = false; busy = false; count = 0 }

-- volatile or potentially volatile: the guest could fetch the contents again
abbrev pub is_discardable : Usage → Bool
is_discardable S = false
is_discardable U = false
is_discardable P = true
is_discardable V = true

abbrev pub is_resident : Content → Bool
is_resident Resident = true
is_resident Preserved = false
is_resident Zero = false

abbrev pub is_preserved : Content → Bool
is_preserved Resident = false
is_preserved Preserved = true
is_preserved Zero = false

abbrev pub is_zero : Content → Bool
is_zero Resident = false
is_zero Preserved = false
is_zero Zero = true

abbrev pub fields_of : Usage → Content → Bool → Bool → Bool → ℕ → Fields
fields_of usage content referenced changed busy count = record {
  usage = usage;
  content = content;
  referenced = referenced;
  changed = changed;
  busy = busy;
  count = count;
}

-- an unused page isn't preserved, only a resident page is referenced, and a page without contents isn't changed
abbrev pub is_permitted : Fields → Bool
is_permitted w =
    not (is_unused w.usage && is_preserved w.content)
    && (is_resident w.content || not w.referenced)
    && not (is_zero w.content && w.changed)

-- the contents are lost, and the guest doesn't know it yet
abbrev pub is_discarded : Fields → Bool
is_discarded w = is_zero w.content && is_discardable w.usage

abbrev pub usage_code : Usage → ℕ
usage_code S = 0
usage_code U = 1
usage_code P = 2
usage_code V = 3

abbrev pub content_code : Content → ℕ
content_code Resident = 0
content_code Preserved = 1
content_code Zero = 2

abbrev pub bit_code : Bool → ℕ
bit_code false = 0
bit_code true = 1

-- bits 0 and 1, 2 and 3, 4, 5, and 6
abbrev pub low_of : Fields → ℕ
low_of w =
    usage_code w.usage + 4 * content_code w.content
    + 16 * bit_code w.referenced + 32 * bit_code w.changed + 64 * bit_code w.busy

-- the fields above in bits 0 to 6, and the count in bits 32 to 63
abbrev pub number_of : Fields → ℕ
number_of w = low_of w + 2 ^ 32 * w.count

-- a number that some permitted fields are written as
pub record IsWord (raw : ℕ) : Type 0 where
  pub fields : Fields
  pub permitted : is_permitted fields ≡ true
  pub written : number_of fields ≡ raw
