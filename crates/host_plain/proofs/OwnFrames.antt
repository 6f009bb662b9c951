-- Each resident page has a frame of its own.
use Rattle.std.specs.Prelude.{◌≡◌, ℕ, ◌+◌, ◌<◌, length}
use Rattle.std.proofs.Common.{arith, sym, subst, inl, inr}
use Rattle.std.proofs.lemmas.Bool.{cases_eq}
use Rattle.host_plain.specs.HostState.{HostState, IsHost, HaveOwnFrames, first_place, pages_of}
use Rattle.host_plain.proofs.Numbers.{are_apart}
use Rattle.host_plain.proofs.Others.{places-apart}

pub have_own_frames : (h : HostState) → IsHost h → HaveOwnFrames h
have_own_frames h is =
    let numbers = is.memory.numbers in
    let apart = are_apart h.memory.frames h.memory.words h.memory.numbers numbers in
    record {
      resident = λ guest page. numbers.resident (first_place h guest + page);
      below = λ guest page number there. apart.below (first_place h guest + page) number there;
      apart = λ guest page other at number below inside under within first second. one_page guest page other at is below inside under within
          (apart.pages (first_place h guest + page) (first_place h other + at) number first second);
      free = λ guest page k number there spare. apart.free (first_place h guest + page) k number there spare;
    }
  where
    one_page : (guest page other at : ℕ) → IsHost h → guest < length h.pagers → page < pages_of h guest → other < length h.pagers → at < pages_of h other →
        first_place h guest + page ≡ first_place h other + at → (guest ≡ other) × (page ≡ at)
    one_page guest page other at is below inside under within same = elim (cases_eq guest other) [
      | inl one ↦
          let there : first_place h guest + page ≡ first_place h guest + at = subst (λ g. first_place h guest + page ≡ first_place h g + at) (sym one) same in
          (one, omega (arith, there))
      | inr two ↦ absurd (places-apart h guest other page at is below under two inside within same)
    ]
