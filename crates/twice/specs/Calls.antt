-- What each call makes of the whole store: all its bytes, those beyond the places too, and the position.
use Rattle.std.specs.Prelude.{◌≡◌, ℕ, ◌+◌, ◌-◌, ◌/◌, ◌<◌, List, [], length, Some, None, Ok, Err, Option, ◌≢◌}
use Rattle.model.specs.declared.refusal.Refusal.TheVariants.{Full, BadRecord}
use Rattle.model.specs.Refusals.{Answer}
use Rattle.backends.specs.Slices.{Placed}
use Rattle.twice.specs.declared.TwiceStore.{TwiceStore}
use Rattle.twice.specs.Places.{first_of, put_twice, second_of, twice_at, twice_room}

-- The whole of a store: the same slice is lent, with these bytes, at this position.
pub record TwiceHolds (s t : TwiceStore) (bytes : List ℕ) (pos : ℕ) : Type 0 where
  pub lent : t.bytes.ghost_name ≡ s.bytes.ghost_name
  pub content : t.bytes.now ≡ bytes
  pub stands : t.pos ≡ pos

-- A write puts the word into both bytes of the slot at the position and moves on; it is refused exactly where there is no slot, and then
-- changes nothing.
abbrev pub TwiceWrote : TwiceStore → ℕ → Answer (Unit {0}) → TwiceStore → Type 0
TwiceWrote s w (Ok _) t = (twice_at s < twice_room s) × TwiceHolds s t (put_twice s.bytes.now (twice_at s) w) (twice_at s + 1)
TwiceWrote s w (Err e) t = (twice_at s ≡ twice_room s) × (e ≡ Full) × (t ≡ s)

-- A read gives the word that both bytes of the slot before the position are, and moves back; none at the beginning; or the slot's number,
-- where the bytes differ. It changes no byte, and without a word nothing at all.
abbrev pub TwicePopped : TwiceStore → Answer (Option ℕ) → TwiceStore → Type 0
TwicePopped s (Ok (Some w)) t =
    (0 < twice_at s)
    × (first_of s.bytes.now (twice_at s - 1) ≡ w)
    × (second_of s.bytes.now (twice_at s - 1) ≡ w)
    × TwiceHolds s t s.bytes.now (twice_at s - 1)
TwicePopped s (Ok None) t = (twice_at s ≡ 0) × (t ≡ s)
TwicePopped s (Err e) t =
    (0 < twice_at s)
    × (first_of s.bytes.now (twice_at s - 1) ≢ second_of s.bytes.now (twice_at s - 1))
    × (e ≡ BadRecord (twice_at s - 1))
    × (t ≡ s)

-- An opened store: the lent bytes of this name and content, at the position, with the number of slots for its capacity; or an empty one
-- at 0, which takes nothing, where no store can stand there.
pub record TwiceOpened (lender : ℕ) (bytes : List ℕ) (pos : ℕ) (s : TwiceStore) : Type 0 where
  pub opened : Placed (length bytes / 2) pos → (s.bytes.ghost_name ≡ lender) × (s.bytes.now ≡ bytes) × (s.pos ≡ pos)
  pub room : Placed (length bytes / 2) pos → twice_room s ≡ length bytes / 2
  pub empty : (Placed (length bytes / 2) pos → ⊥) → (s.bytes.now ≡ []) × (s.pos ≡ 0)
  pub takes_nothing : (Placed (length bytes / 2) pos → ⊥) → twice_room s ≡ 0
