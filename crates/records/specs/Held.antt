-- How many records stand before a record number, and what a read and a write there make of the places, so that no call has to look into
-- the list.
use Rattle.std.specs.Prelude.{◌≡◌, ℕ, ◌+◌, ◌-◌, ◌%◌, ◌^◌, ◌<◌, List, reverse, length, Some, None, Ok, Err}
use Rattle.model.specs.Cells.{word, fault}
use Rattle.model.specs.declared.refusal.Refusal.TheVariants.{BadRecord}
use Rattle.model.specs.Stores.{SourceRead, StackWritten}
use Rattle.records.specs.Records.{place_at, put_record, record_at, record_queue, record_room, record_stack}

pub record RecordsHeld (bytes : List ℕ) (pos n : ℕ) : Type 0 where
  pub at : n ≡ record_at bytes pos
  pub listed : n ≡ length (record_stack bytes pos)
  pub turned : n ≡ length (reverse (record_stack bytes pos))
  pub left : record_room bytes - n ≡ length (record_queue bytes pos)
  -- a read of the newest: none, a word or a fault
  pub none_before : n ≡ 0 → SourceRead (reverse (record_stack bytes pos)) (Ok None) (reverse (record_stack bytes pos))
  pub word_before : (w : ℕ) → 0 < n → place_at bytes (n - 1) ≡ word w → SourceRead (reverse (record_stack bytes pos)) (Ok (Some w)) (reverse (record_stack bytes (n - 1)))
  pub fault_before : (k : ℕ) → 0 < n → place_at bytes (n - 1) ≡ fault k → SourceRead (reverse (record_stack bytes pos)) (Err (BadRecord k)) (reverse (record_stack bytes pos))
  -- a read of the next
  pub none_left : n ≡ record_room bytes → SourceRead (record_queue bytes pos) (Ok None) (record_queue bytes pos)
  pub word_next : (w : ℕ) → n < record_room bytes → place_at bytes n ≡ word w → SourceRead (record_queue bytes pos) (Ok (Some w)) (record_queue bytes (n + 1))
  pub fault_next : (k : ℕ) → n < record_room bytes → place_at bytes n ≡ fault k → SourceRead (record_queue bytes pos) (Err (BadRecord k)) (record_queue bytes pos)
  -- a write: one place more, and as much room
  pub more : (w : ℕ) (put : List ℕ) → n < record_room bytes → w < 2 ^ 32 → put ≡ put_record bytes n w → StackWritten (record_room bytes) (record_stack bytes pos) (w % 2 ^ 32) (Ok tt) (record_stack put (n + 1))
  pub room : (w : ℕ) (put : List ℕ) → put ≡ put_record bytes n w → record_room put ≡ record_room bytes
