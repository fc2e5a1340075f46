-- Which bytes and record numbers make a record store, and the refusals of the others.
use Rattle.std.specs.Prelude.{◌≡◌, ℕ, ◌/◌, ◌%◌, Ok, Err, Result}
use Rattle.model.specs.declared.refusal.Refusal.{Refusal}
use Rattle.model.specs.declared.refusal.Refusal.TheVariants as refused
use Rattle.backends.specs.Slices.{Placed}
use Rattle.records.specs.declared.fault.RecordError.{RecordError}
use Rattle.records.specs.declared.fault.RecordError.TheVariants.{Ragged, Misplaced}

abbrev pub record_refusal : RecordError → Refusal
record_refusal Ragged = refused.Ragged
record_refusal Misplaced = refused.Misplaced

-- so many bytes are whole records, and the record number is a place of a store among them
abbrev pub RecordsPlaced : ℕ → ℕ → Type 0
RecordsPlaced len pos = (len % 5 ≡ 0) × Placed (len / 5) pos

-- what the check before an opening answers: that the bytes are no whole records goes before all else
abbrev pub RecordsChecked : ℕ → ℕ → Result (Unit {0}) RecordError → Type 0
RecordsChecked len pos (Ok _) = RecordsPlaced len pos
RecordsChecked len pos (Err Ragged) = len % 5 ≡ 0 → ⊥
RecordsChecked len pos (Err Misplaced) = (len % 5 ≡ 0) × (Placed (len / 5) pos → ⊥)
