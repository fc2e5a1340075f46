-- What the private functions promise, from which the checker proves the calls by itself.
use Rattle.std.specs.Prelude.{◌≡◌, ℕ, ◌+◌, ◌-◌, ◌%◌, ◌^◌, ◌<◌, List, reverse, length, Some, None, Ok, Err, Result, ◌≢◌}
use Rattle.model.specs.Cells.{word, fault}
use Rattle.model.specs.declared.refusal.Refusal.TheVariants.{BadRecord}
use Rattle.model.specs.Stores.{SourceRead, StackWritten}
use Rattle.backends.specs.declared.fault.ReadFault.{ReadFault}
use Rattle.twice.specs.Places.{first_of, places_of, put_twice, second_of, slot_at, slots_before, slots_of}

-- Slot i is read as the word that both bytes are, or as its fault: by the bytes, and by the place.
abbrev pub SlotRead : List ℕ → ℕ → Result ℕ ReadFault → Type 0
SlotRead bytes i (Ok w) = (first_of bytes i ≡ w) × (second_of bytes i ≡ w) × (slot_at bytes i ≡ word (w % 2 ^ 8))
SlotRead bytes i (Err f) = (first_of bytes i ≢ second_of bytes i) × (f.place ≡ i) × (slot_at bytes i ≡ fault f.place)

-- n slots are held; and what a read and a write then mean for the list of places, so that no call has to look into the list.
pub record TwiceHeld (bytes : List ℕ) (pos n : ℕ) : Type 0 where
  pub at : n ≡ slots_before bytes pos
  pub listed : n ≡ length (places_of bytes pos)
  pub turned : n ≡ length (reverse (places_of bytes pos))
  -- a read: none, a word or a fault
  pub none : n ≡ 0 → SourceRead (reverse (places_of bytes pos)) (Ok None) (reverse (places_of bytes pos))
  pub good : (w : ℕ) → 0 < n → slot_at bytes (n - 1) ≡ word w → SourceRead (reverse (places_of bytes pos)) (Ok (Some w)) (reverse (places_of bytes (n - 1)))
  pub bad : (k : ℕ) → 0 < n → slot_at bytes (n - 1) ≡ fault k → SourceRead (reverse (places_of bytes pos)) (Err (BadRecord k)) (reverse (places_of bytes pos))
  -- a write: one place more, and as much room
  pub more : (w : ℕ) (put : List ℕ) → n < slots_of bytes → put ≡ put_twice bytes n w → StackWritten (slots_of bytes) (places_of bytes pos) (w % 2 ^ 8) (Ok tt) (places_of put (n + 1))
  pub room : (w : ℕ) (put : List ℕ) → put ≡ put_twice bytes n w → slots_of put ≡ slots_of bytes
