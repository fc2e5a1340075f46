-- Byte records of 32-bit words: the word's four bytes, lowest first, and then how many one bits it has.
use Rattle.std.specs.Prelude.{◌≡◌, ℕ, ◌+◌, ◌*◌, ◌/◌, ◌%◌, ◌^◌, min, cond, List, length, Ok, Err, Result, ◌==◌, count_ones, slice_index, slice_set}
use Rattle.std.specs.List.{range_with_len}
use Rattle.model.specs.Bytes.{number_at}
use Rattle.model.specs.Cells.{Place, word, fault}
use Rattle.backends.specs.declared.fault.ReadFault.{ReadFault}
use Rattle.backends.specs.Slices.{front, rest}

-- the word in the first four bytes of record i (bytes are below 256, so the remainder is the number itself)
abbrev pub word_in : List ℕ → ℕ → ℕ
word_in bytes i = number_at bytes (5 * i) % 2 ^ 32

-- Record i is its word where the fifth byte says how many one bits that has, and else the fault i.
abbrev pub place_at : List ℕ → ℕ → Place
place_at bytes i = cond (slice_index bytes (5 * i + 4) == count_ones (word_in bytes i)) (word (word_in bytes i)) (fault i)

-- the numbers of the whole records
abbrev pub numbers : List ℕ → List ℕ
numbers bytes = range_with_len 0 (length bytes / 5)

-- As a stack a store holds the records before the record number, oldest first; as a source those from it on, next first.
abbrev pub record_stack : List ℕ → ℕ → List Place
record_stack bytes pos = front (place_at bytes) (numbers bytes) pos

abbrev pub record_queue : List ℕ → ℕ → List Place
record_queue bytes pos = rest (place_at bytes) (numbers bytes) pos

-- as many records as can be places, which is the capacity
abbrev pub record_room : List ℕ → ℕ
record_room bytes = min (2 ^ 56) (length bytes / 5)

-- the record number, as it counts
abbrev pub record_at : List ℕ → ℕ → ℕ
record_at bytes pos = min pos (record_room bytes)

-- what one record is read as
abbrev pub RecordRead : Place → Result ℕ ReadFault → Type 0
RecordRead p (Ok w) = p ≡ word (w % 2 ^ 32)
RecordRead p (Err f) = p ≡ fault f.place

-- the bytes once the record of a word is written at a record number
abbrev pub put_record : List ℕ → ℕ → ℕ → List ℕ
put_record bytes at w =
    slice_set (slice_set (slice_set (slice_set (slice_set bytes (5 * at) (w % 256)) (5 * at + 1) (w / 256 % 256)) (5 * at + 2) (w / 65536 % 256)) (5 * at + 3) (w / 16777216 % 256)) (5 * at + 4) (count_ones w)
