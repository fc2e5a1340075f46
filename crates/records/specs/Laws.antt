-- Lemmas: the laws of the record store as a sink and as a stack.
use Rattle.std.proofs.Common.{◌≡◌, ℕ, ◌^◌, ◌≤◌, List, length, Some, None, Ok, Err, Option, refl, ap, arith}
use Rattle.model.specs.Refusals.{Answer}
use Rattle.records.specs.declared.byte_records.ByteRecords.{ByteRecords}
use Rattle.records.specs.Records.{record_room}
use Rattle.records.specs.ByteRecords.{StorePopped, store_at, store_room, store_stack}
use Rattle.records.specs.Places.{many}

module _ {B : Type 0} (items : B → List ℕ) where
  -- the records never exceed the capacity, and that is at most 2^56
  pub store_within : (s : ByteRecords B) → length (store_stack items s) ≤ store_room items s
  store_within s = let n = many (items s.bytes) s.pos (store_at items s) refl in omega arith

  pub store_bounded : (s : ByteRecords B) → store_room items s ≤ 2 ^ 56
  store_bounded s = omega arith

  -- no read changes the capacity
  pub store_kept : (s t : ByteRecords B) (r : Answer (Option ℕ)) → StorePopped items s r t → store_room items t ≡ store_room items s
  store_kept s t (Ok (Some x)) h = ap (λ b. record_room (items b)) h.lent
  store_kept s t (Ok None) h = ap (store_room items) h
  store_kept s t (Err e) h = ap (store_room items) h
