-- An unmap that is behind a page of its mapping goes on to the next page, or ends.
use Rattle.std.specs.Prelude.{◌≡◌, ◌<◌, ◌≤◌, ℕ, ◌+◌, Bool, true, false, nat_lt, if◌then◌else◌, refl}
use Rattle.std.proofs.Common.{ap}
use Rattle.std.proofs.lemmas.Bool.{ltb-true, ltb-false}
use Rattle.cmm_types.specs.declared.turn.Turn.{Turn}
use Rattle.cmm_types.specs.declared.turn.Turn.TheVariants.{Moved, Finished}
use Rattle.guest_maps.specs.MapsView.{freed_slot}
use Rattle.guest_rules.specs.declared.processor.Phase.TheVariants.{Teardown}
use Rattle.guest_rules.specs.GuestState.{GuestState, with_parts, with_phase, next_command}
use Rattle.guest_rules.specs.Turns.{torn_past}

pub data HasTornPast (g : GuestState) (cpu slot index count : ℕ) (h : GuestState) (t : Turn) : Type 0 where
  -- the mapping has a next page
  tears_on : index + 1 < count → h ≡ with_phase g cpu (Teardown slot (index + 1)) → t ≡ Moved → HasTornPast g cpu slot index count h t
  -- it was the last
  has_ended : count ≤ index + 1 → h ≡ next_command (with_parts g (record g.parts { maps = freed_slot g.parts.maps slot })) cpu → t ≡ Finished → HasTornPast g cpu slot index count h t

pub has_torn_past : (g : GuestState) (cpu slot index count : ℕ) (h : GuestState) (t : Turn) → ◌≡◌ {A = GuestState × Turn} (h, t) (torn_past g cpu slot index count)
    → HasTornPast g cpu slot index count h t
has_torn_past g cpu slot index count h t past = of (nat_lt (index + 1) count) refl past
  where
    of : (more : Bool) → nat_lt (index + 1) count ≡ more
        → ◌≡◌ {A = GuestState × Turn} (h, t) (if more then (with_phase g cpu (Teardown slot (index + 1)), Moved) else (
          next_command
              (with_parts g (record g.parts { maps = freed_slot g.parts.maps slot })) cpu,
          Finished,
        ))
        → HasTornPast g cpu slot index count h t
    of true e is = tears_on (ltb-true _ _ e) (ap (λ q. q.0) is) (ap (λ q. q.1) is)
    of false e is = has_ended (ltb-false _ _ e) (ap (λ q. q.0) is) (ap (λ q. q.1) is)
