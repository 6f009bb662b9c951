-- The flat machine's mappings but for bytes of their own.
use Rattle.std.proofs.Common.{◌≡◌, ℕ, Bool, List, [], Option, Some, None, refl, ap}
use Rattle.cmm_flat.specs.declared.mapping.Mapping.{Mapping}
use Rattle.cmm_flat.specs.declared.mapping.Shown.{Shown as FlatShown}
use Rattle.cmm_flat.specs.declared.mapping.Shown.TheVariants.{OfFile as FlatFile, Anonymous}
use Rattle.cmm_flat.specs.Mapping.{with_pin}
use Rattle.guest_rules.specs.Fit.{shape_of}

pub shape_none : (o : Option Mapping) → shape_of o ≡ None → o ≡ None
shape_none None e = refl
shape_none (Some mapping) e = let bad : Some _ ≡ None = e in absurd cc

pub shape_some : (o : Option Mapping) (shape : Mapping) → shape_of o ≡ Some shape → (mapping : Mapping) × (o ≡ Some mapping) × (shape_of (Some mapping) ≡ Some shape)
shape_some None shape e = let bad : None ≡ Some shape = e in absurd cc
shape_some (Some mapping) shape e = (mapping, refl, e)

abbrev shown_in : FlatShown → Option Mapping → FlatShown
shown_in other None = other
shown_in other (Some mapping) = mapping.shown

abbrev pins_in : List Bool → Option Mapping → List Bool
pins_in other None = other
pins_in other (Some mapping) = mapping.pins

never_own : (bytes : List ℕ) (file first : ℕ) (writable : Bool) → ◌≡◌ {A = FlatShown} (Anonymous bytes) (FlatFile file first writable) → ⊥
never_own bytes file first writable e = cc

never_file : (bytes : List ℕ) (file first : ℕ) (writable : Bool) → ◌≡◌ {A = FlatShown} (FlatFile file first writable) (Anonymous bytes) → ⊥
never_file bytes file first writable e = cc

-- a mapping of a file has no bytes of its own
pub shape_file : (o : Option Mapping) (file first : ℕ) (writable : Bool) (pins : List Bool) → shape_of o ≡ Some (record { shown = FlatFile file first writable; pins = pins })
    → o ≡ Some (record { shown = FlatFile file first writable; pins = pins })
shape_file None file first writable pins e = let bad : None ≡ Some _ = e in absurd cc
shape_file (Some mapping) file first writable pins e = of mapping.shown mapping.pins e
  where
    of : (shown : FlatShown) (own : List Bool) → shape_of (Some (record { shown = shown; pins = own })) ≡ Some (record { shown = FlatFile file first writable; pins = pins })
        → ◌≡◌ {A = Option Mapping} (Some (record { shown = shown; pins = own })) (Some (record { shown = FlatFile file first writable; pins = pins }))
    of (FlatFile f at w) own e = e
    of (Anonymous bytes) own e = absurd (never_own [] file first writable (ap (shown_in (Anonymous [])) e))

pub shape_own : (o : Option Mapping) (pins : List Bool) → shape_of o ≡ Some (record { shown = Anonymous []; pins = pins })
    → (bytes : List ℕ) × (o ≡ Some (record { shown = Anonymous bytes; pins = pins }))
shape_own None pins e = let bad : None ≡ Some _ = e in absurd cc
shape_own (Some mapping) pins e = of mapping.shown mapping.pins e
  where
    of : (shown : FlatShown) (own : List Bool) → shape_of (Some (record { shown = shown; pins = own })) ≡ Some (record { shown = Anonymous []; pins = pins })
        → (bytes : List ℕ) × ◌≡◌ {A = Option Mapping} (Some (record { shown = shown; pins = own })) (Some (record { shown = Anonymous bytes; pins = pins }))
    of (FlatFile f at w) own e = absurd (never_file [] f at w (ap (shown_in (FlatFile f at w)) e))
    of (Anonymous bytes) own e = (bytes, ap (λ (q : List Bool). let out : Option Mapping = Some (record { shown = Anonymous bytes; pins = q }) in out) (ap (pins_in pins) e))

abbrev pinned_in : (index : ℕ) (pin : Bool) → Option Mapping → Option Mapping
pinned_in index pin None = None
pinned_in index pin (Some mapping) = Some (with_pin mapping index pin)

-- the same pages are pinned
pub shape_pins : (mapping shape : Mapping) → shape_of (Some mapping) ≡ Some shape → mapping.pins ≡ shape.pins
shape_pins mapping shape e = ap (pins_in shape.pins) e

-- a page is pinned, or unpinned
pub shape_pinned : (mapping shape : Mapping) (index : ℕ) (pin : Bool) → shape_of (Some mapping) ≡ Some shape → shape_of (Some (with_pin mapping index pin)) ≡ Some (with_pin shape index pin)
shape_pinned mapping shape index pin e = ap (pinned_in index pin) e
