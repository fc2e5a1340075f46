-- The reversed cursor: a lent slice of words and a position, filled from its end down.
use Rattle.std.specs.Prelude.{◌≡◌, ℕ, ◌-◌, ◌<◌, List, reverse, length, Ok, Err, slice_set}
use Rattle.model.specs.Cells.{Place}
use Rattle.model.specs.Refusals.{Answer}
use Rattle.model.specs.declared.refusal.Refusal.TheVariants.{Full}
use Rattle.cursors.specs.declared.cursor.Cursor.{Cursor}
use Rattle.cursors.specs.declared.reverse.Reverse.{Reverse}
use Rattle.cursors.specs.Cursors.{Holds, at, queued, room_of, stacked}

-- As a stack it holds the words from the last slot down to the position, oldest first; as a source those below the position, next first.
abbrev pub turned_stack : {W : Type 0} → (W → ℕ) → Reverse (Cursor W) → List Place
turned_stack value r = reverse (queued value r.0)

abbrev pub turned_queue : {W : Type 0} → (W → ℕ) → Reverse (Cursor W) → List Place
turned_queue value r = reverse (stacked value r.0)

-- its capacity is the slice's length
abbrev pub turned_room : {W : Type 0} → Reverse (Cursor W) → ℕ
turned_room r = room_of r.0

-- A word is put into the slot below the position, which moves there; at the beginning that is refused, and changes nothing.
abbrev pub PutBelow : {W : Type 0} → Cursor W → W → Answer (Unit {0}) → Cursor W → Type 0
PutBelow s x (Ok _) t = (0 < at s) × Holds s t (slice_set s.buf.now (at s - 1) x) (at s - 1)
PutBelow s x (Err e) t = (at s ≡ 0) × (e ≡ Full) × (t ≡ s)

-- what a write makes of the whole
abbrev pub TurnedWrote : {W : Type 0} → Reverse (Cursor W) → W → Answer (Unit {0}) → Reverse (Cursor W) → Type 0
TurnedWrote s x r t = PutBelow s.0 x r t.0

-- A turn: the same slice is lent, its elements stand in the opposite order, and the position counts from the other end.
abbrev pub Turned : {W : Type 0} → Cursor W → Cursor W → Type 0
Turned s t = Holds s t (reverse s.buf.now) (length s.buf.now - at s)

-- a cursor and a reversed cursor that are the same store
pub record SameStore {W : Type 0} (value : W → ℕ) (s : Cursor W) (r : Reverse (Cursor W)) : Type 0 where
  pub stack : turned_stack value r ≡ stacked value s
  pub queue : turned_queue value r ≡ queued value s
  pub room : turned_room r ≡ room_of s

-- t turned is s again
abbrev pub TurnsBack : {W : Type 0} → Cursor W → Cursor W → Type 0
TurnsBack {W} s t = (u : Cursor W) → Turned t u → Holds s u s.buf.now s.pos
