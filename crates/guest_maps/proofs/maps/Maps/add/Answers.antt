use Rattle.std.proofs.Common.{◌≡◌, true, None, Some, Option, is_none, refl, sym, ◌∙◌}
use Rattle.std.proofs.lemmas.List.Quantifiers.{position-Some}
use Rattle.std.proofs.lemmas.Bool.{both_ways}
use Rattle.guest_maps.specs.declared.slot.Slot.{Slot}
use Rattle.guest_maps.proofs.maps.Maps.add.Goals as goal

none_from_test : (slot : Option Slot) → is_none slot ≡ true → slot ≡ None
none_from_test None none = refl
none_from_test (Some slot) none = absurd (both_ways _ refl none)

pub add-requires-clause-free : goal.add-requires-clause-free
add-requires-clause-free c = none_from_test _ (position-Some is_none c.self.inside.slots c.unwrap-slot.result None (sym c.free_slot.ensures ∙ c.unwrap-slot.ensures)).1
