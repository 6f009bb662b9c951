-- What each step on the pool's table tells: of the step, the seat before, the number found and the seat after.
use Rattle.std.specs.Prelude.{◌≡◌, ◌≢◌, ℕ, ◌+◌, ◌<◌, ◌==◌, ◌∷◌, Option, Some, None, cond, nat_lt}
use Rattle.atomic_table.specs.Table.{Me, Step, rest}
use Rattle.page_arena.specs.FrameView.{RegionView, FrameView}
use Rattle.frame_pool.specs.PoolRule.{IsFrameOf}
use Rattle.frame_pool.specs.declared.view.PoolView.{PoolView}
use Rattle.frame_pool.specs.declared.view.Named.{Named}
use Rattle.frame_pool.specs.declared.view.Named.TheVariants.{Idle, Taken, Lent, Pair, Spent}

abbrev pub PoolSeated : Type 0
PoolSeated = Me (Option FrameView) PoolView

abbrev pub Tells : Type 1
Tells = Step (Option FrameView) → PoolSeated → ℕ → PoolSeated → Type 0

abbrev pub view : RegionView → Named → ℕ → ℕ → ℕ → ℕ → ℕ → PoolView
view region named run next dry taken given = record { region = region; named = named; run = run; next = next; dry = dry; taken = taken; given = given }

abbrev pub first_view : RegionView → PoolView
first_view region = view region Idle 0 0 0 0 0

abbrev pub spent_view : PoolView
spent_view = view (record { name = 0; count = 0 }) Spent 0 0 0 0 0

-- the same record, and another word is named
abbrev pub naming : PoolView → Named → PoolView
naming v named = view v.region named v.run v.next v.dry v.taken v.given

-- another record of what was found out
abbrev pub recorded : PoolView → ℕ → ℕ → ℕ → PoolView
recorded v run next dry = view v.region v.named run next dry v.taken v.given

-- a seat that is split off for another thread, and has taken and put back nothing
abbrev pub split_off : PoolView → PoolView
split_off v = view v.region Idle v.run v.next v.dry 0 0

-- the seat that goes into a loan
abbrev pub lending : PoolView → PoolView
lending v = view v.region v.named v.run v.next v.dry 0 0

-- another seat was joined into it
abbrev pub joined : PoolView → PoolView → PoolView
joined v w = view v.region v.named v.run v.next v.dry (v.taken + w.taken) (v.given + w.given)

-- the word after i, round the end of n words
abbrev pub next_round : ℕ → ℕ → ℕ
next_round n i = cond (nat_lt (i + 1) n) (i + 1) 0

-- how long the run is once the word i was found out
abbrev pub run_with : PoolView → ℕ → ℕ
run_with v i = cond (i == v.next) (v.run + 1) 1

-- one of n words, i, was found out
abbrev pub found_out_at : ℕ → ℕ → PoolView → PoolView
found_out_at n i v = cond (nat_lt (run_with v i) n) (recorded v (run_with v i) (next_round n i) v.dry) (recorded v 0 (next_round n i) (v.dry + 1))

-- all words were found out at once
abbrev pub dried : PoolView → PoolView
dried v = recorded v 0 v.next (v.dry + 1)

-- the seat that won the word i, whose slot it has
abbrev pub taking : ℕ → PoolView → PoolView
taking i v = view v.region (Taken i) 0 v.next v.dry (v.taken + 1) v.given

-- a load of the spare count, the word behind the frame words
abbrev pub spare_counted : Tells
spare_counted st m found m' = (st.word ≡ st.slots) × (found ≡ 0 → m' ≡ (dried m.0, m.1)) × (found ≢ 0 → m' ≡ m)

-- a load of a frame word
abbrev pub looked : Tells
looked st m found m' = (st.word < st.slots) × (found ≡ 0 → m' ≡ m) × (found ≢ 0 → m' ≡ (found_out_at st.slots st.word m.0, m.1))

-- a compare and exchange of a frame word from in to out
abbrev pub claimed : Tells
claimed st m found m' =
    (st.word < st.slots)
    × (found ≡ 0 → (f : FrameView) × (m' ≡ (taking st.word m.0, (st.word, Some f) ∷ m.1)) × IsFrameOf m.0.region st.word f)
    × (found ≢ 0 → m' ≡ (found_out_at st.slots st.word m.0, m.1))

abbrev pub named_lent : Named → Named
named_lent Idle = Idle
named_lent (Taken i) = Lent i
named_lent (Lent i) = Lent i
named_lent (Pair i k) = Pair i k
named_lent Spent = Spent

abbrev pub named_word : Named → ℕ
named_word Idle = 0
named_word (Taken i) = i
named_word (Lent i) = i
named_word (Pair i k) = i
named_word Spent = 0

abbrev pub second_of : Named → ℕ
second_of Idle = 0
second_of (Taken i) = 0
second_of (Lent i) = 0
second_of (Pair i k) = k
second_of Spent = 0

-- the slot went home empty, and the frame is no longer spare
abbrev pub lends : Tells
lends st m found m' = m' ≡ (naming m.0 (named_lent m.0.named), rest m.1)

-- the empty slot is taken again, and the frame is spare
abbrev pub fetches : Tells
fetches st m found m' = m' ≡ (naming m.0 (Taken (named_word m.0.named)), (named_word m.0.named, None) ∷ m.1)

-- the seat that put its frame back
abbrev pub returning : PoolView → PoolView
returning v = view v.region Idle v.run v.next v.dry v.taken (v.given + 1)

-- the slot of the word went home with its frame
abbrev pub returns : Tells
returns st m found m' = (m.0.named ≡ Taken st.word) × (m' ≡ (returning m.0, rest m.1))

-- the seats of two loans are one
abbrev pub paired : PoolView → PoolView → PoolView
paired v w = naming v (Pair (named_word v.named) (named_word w.named))

-- a load by a seat that names two words
abbrev pub compared : Tells
compared st m found m' = (m' ≡ m) × (named_word m.0.named ≢ second_of m.0.named)
