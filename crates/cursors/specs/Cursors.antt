-- The cursor: a lent slice of words and a position.
use Rattle.std.specs.Prelude.{◌≡◌, ℕ, ◌+◌, ◌-◌, ◌<◌, ◌≤◌, List, [], length, Some, None, Ok, Err, Option, Result, slice_index_or, slice_set}
use Rattle.model.specs.Cells.{Place}
use Rattle.model.specs.declared.refusal.Refusal.TheVariants.{Full}
use Rattle.model.specs.Refusals.{Answer}
use Rattle.cursors.specs.declared.cursor.Cursor.{Cursor}
use Rattle.backends.specs.declared.fault.SeekError.{SeekError}
use Rattle.backends.specs.Slices.{Placed, before, front, rest, spread, word_at}

-- As a stack it holds the words before the position, oldest first; as a source those from it on, next first.
abbrev pub stacked : {W : Type 0} → (W → ℕ) → Cursor W → List Place
stacked value c = front (word_at value) c.buf.now c.pos

abbrev pub queued : {W : Type 0} → (W → ℕ) → Cursor W → List Place
queued value c = rest (word_at value) c.buf.now c.pos

-- its capacity is the slice's length
abbrev pub room_of : {W : Type 0} → Cursor W → ℕ
room_of c = spread c.buf.now

-- the position, as it counts
abbrev pub at : {W : Type 0} → Cursor W → ℕ
at c = before c.buf.now c.pos

-- The whole of a cursor: the same slice is lent, with these elements, at this position.
pub record Holds {W : Type 0} (s t : Cursor W) (elements : List W) (pos : ℕ) : Type 0 where
  pub lent : t.buf.ghost_name ≡ s.buf.ghost_name
  pub slots : t.buf.now ≡ elements
  pub stands : t.pos ≡ pos

-- A write puts the word into the slot at the position and moves on; at the slice's end it is refused, and changes nothing.
abbrev pub CursorWrote : {W : Type 0} → Cursor W → W → Answer (Unit {0}) → Cursor W → Type 0
CursorWrote s x (Ok _) t = (at s < room_of s) × Holds s t (slice_set s.buf.now (at s) x) (at s + 1)
CursorWrote s x (Err e) t = (at s ≡ room_of s) × (e ≡ Full) × (t ≡ s)

-- A read as a stack gives the word before the position and moves back, and changes no slot; at the beginning it gives none, and changes
-- nothing.
abbrev pub CursorPopped : {W : Type 0} → Cursor W → Answer (Option W) → Cursor W → Type 0
CursorPopped s (Ok (Some x)) t = (0 < at s) × (x ≡ slice_index_or s.buf.now (at s - 1) x) × Holds s t s.buf.now (at s - 1)
CursorPopped s (Ok None) t = (at s ≡ 0) × (t ≡ s)
CursorPopped s (Err e) t = ⊥

-- A read as a queue gives the word at the position and moves on, and changes no slot; at the end it gives none, and changes nothing.
abbrev pub CursorTook : {W : Type 0} → Cursor W → Answer (Option W) → Cursor W → Type 0
CursorTook s (Ok (Some x)) t = (at s < room_of s) × (x ≡ slice_index_or s.buf.now (at s) x) × Holds s t s.buf.now (at s + 1)
CursorTook s (Ok None) t = (at s ≡ room_of s) × (t ≡ s)
CursorTook s (Err e) t = ⊥

-- what the check before an opening answers
abbrev pub Checked : ℕ → ℕ → Result (Unit {0}) SeekError → Type 0
Checked size pos (Ok _) = Placed size pos
Checked size pos (Err e) = Placed size pos → ⊥

-- An opened cursor: the lent slice of this name and these elements, at the position, with the slice's length for its capacity; or an
-- empty one at 0, which takes nothing, where no cursor can stand there.
pub record OpenedAt {W : Type 0} (lender : ℕ) (elements : List W) (pos : ℕ) (c : Cursor W) : Type 0 where
  pub opened : Placed (length elements) pos → (c.buf.ghost_name ≡ lender) × (c.buf.now ≡ elements) × (c.pos ≡ pos)
  pub room : Placed (length elements) pos → room_of c ≡ length elements
  pub empty : (Placed (length elements) pos → ⊥) → (c.buf.now ≡ []) × (c.pos ≡ 0)
  pub takes_nothing : (Placed (length elements) pos → ⊥) → room_of c ≡ 0

-- The position moves, and nothing else changes; refused past the end of the slice, and nothing changes.
abbrev pub Sought : {W : Type 0} → Cursor W → ℕ → Result (Unit {0}) SeekError → Cursor W → Type 0
Sought s pos (Ok _) t = (pos ≤ room_of s) × Holds s t s.buf.now pos
Sought s pos (Err e) t = (room_of s < pos) × (t ≡ s)
