-- Records in bytes with a record number: what they hold, and what each call makes of the whole.
use Rattle.std.specs.Prelude.{◌≡◌, ℕ, ◌+◌, ◌-◌, ◌/◌, List, [], length, Some, None, Ok, Err, Option}
use denote.Ref.{MutBor}
use Rattle.model.specs.Cells.{Place}
use Rattle.model.specs.Refusals.{Answer}
use Rattle.records.specs.declared.byte_records.ByteRecords.{ByteRecords}
use Rattle.records.specs.Faults.{RecordsPlaced}
use Rattle.records.specs.Records.{record_stack, record_queue, record_room, record_at, put_record}

-- Over bytes of any kind, of which `items` tells what they are.
module _ {B : Type 0} (items : B → List ℕ) where
  abbrev pub store_stack : ByteRecords B → List Place
  store_stack s = record_stack (items s.bytes) s.pos

  abbrev pub store_queue : ByteRecords B → List Place
  store_queue s = record_queue (items s.bytes) s.pos

  -- its capacity is the number of records
  abbrev pub store_room : ByteRecords B → ℕ
  store_room s = record_room (items s.bytes)

  -- the record number, as it counts
  abbrev pub store_at : ByteRecords B → ℕ
  store_at s = record_at (items s.bytes) s.pos

  -- The whole after a read of a word: the same bytes, at this record number.
  pub record StoreStands (s t : ByteRecords B) (pos : ℕ) : Type 0 where
    pub lent : t.bytes ≡ s.bytes
    pub stands : t.pos ≡ pos

  -- A read of the newest word makes the record number one less; none and a fault change nothing.
  abbrev pub StorePopped : ByteRecords B → Answer (Option ℕ) → ByteRecords B → Type 0
  StorePopped s (Ok (Some x)) t = StoreStands s t (store_at s - 1)
  StorePopped s (Ok None) t = t ≡ s
  StorePopped s (Err e) t = t ≡ s

  -- A read of the next word makes it one more.
  abbrev pub StoreTook : ByteRecords B → Answer (Option ℕ) → ByteRecords B → Type 0
  StoreTook s (Ok (Some x)) t = StoreStands s t (store_at s + 1)
  StoreTook s (Ok None) t = t ≡ s
  StoreTook s (Err e) t = t ≡ s

  -- What is opened: the bytes that are lent, at the record number, with the number of records for its capacity; or none at 0, which takes
  -- nothing, where the check refuses.
  pub record StoreOpened (bytes : B) (pos : ℕ) (s : ByteRecords B) : Type 0 where
    pub opened : RecordsPlaced (length (items bytes)) pos → (s.bytes ≡ bytes) × (s.pos ≡ pos)
    pub room : RecordsPlaced (length (items bytes)) pos → store_room s ≡ length (items bytes) / 5
    pub empty : (RecordsPlaced (length (items bytes)) pos → ⊥) → (items s.bytes ≡ []) × (s.pos ≡ 0)
    pub takes_nothing : (RecordsPlaced (length (items bytes)) pos → ⊥) → store_room s ≡ 0

-- The whole of a store that is written: the same slice is lent, with these bytes, at this record number.
pub record StoreHolds (s t : ByteRecords (MutBor (List ℕ))) (bytes : List ℕ) (pos : ℕ) : Type 0 where
  pub lent : t.bytes.ghost_name ≡ s.bytes.ghost_name
  pub content : t.bytes.now ≡ bytes
  pub stands : t.pos ≡ pos

-- A write puts the word's record at the record number, and makes that one more; a refused one changes nothing.
abbrev pub StoreWrote : ByteRecords (MutBor (List ℕ)) → ℕ → Answer (Unit {0}) → ByteRecords (MutBor (List ℕ)) → Type 0
StoreWrote s x (Ok _) t =
    StoreHolds s t (put_record s.bytes.now (record_at s.bytes.now s.pos) x) (record_at s.bytes.now s.pos + 1)
StoreWrote s x (Err e) t = t ≡ s
