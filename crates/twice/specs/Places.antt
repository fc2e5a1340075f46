-- What a value of the store means: its places and its capacity.
use Rattle.std.specs.Prelude.{ℕ, ◌+◌, ◌*◌, ◌/◌, ◌%◌, ◌^◌, min, cond, List, map, length, ◌==◌, slice_index, slice_set}
use Rattle.std.specs.List.{range_with_len}
use Rattle.model.specs.Cells.{Place, word, fault}
use Rattle.twice.specs.declared.TwiceStore.{TwiceStore}

-- the two bytes of slot i
abbrev pub first_of : List ℕ → ℕ → ℕ
first_of bytes i = slice_index bytes (2 * i)

abbrev pub second_of : List ℕ → ℕ → ℕ
second_of bytes i = slice_index bytes (2 * i + 1)

-- Slot i is its byte where both are equal, and else the fault i. (Bytes are below 256, so the remainder is the byte itself. With it every
-- place fits, whatever the list.)
abbrev pub slot_at : List ℕ → ℕ → Place
slot_at bytes i = cond (first_of bytes i == second_of bytes i) (word (first_of bytes i % 2 ^ 8)) (fault i)

-- How many slots can be places, and how many of them stand before a position. (An opening sees to it that neither bound cuts anything off.)
abbrev pub slots_of : List ℕ → ℕ
slots_of bytes = min (2 ^ 56) (length bytes / 2)

abbrev pub slots_before : List ℕ → ℕ → ℕ
slots_before bytes pos = min pos (slots_of bytes)

-- the places of bytes at a position, oldest first
abbrev pub places_of : List ℕ → ℕ → List Place
places_of bytes pos = map (slot_at bytes) (range_with_len 0 (slots_before bytes pos))

-- The same of the store: its capacity, its position, as it counts, and its places.
abbrev pub twice_room : TwiceStore → ℕ
twice_room s = slots_of s.bytes.now

abbrev pub twice_at : TwiceStore → ℕ
twice_at s = slots_before s.bytes.now s.pos

abbrev pub twice_stack : TwiceStore → List Place
twice_stack s = places_of s.bytes.now s.pos

-- the bytes once a word is in slot i
abbrev pub put_twice : List ℕ → ℕ → ℕ → List ℕ
put_twice bytes i w = slice_set (slice_set bytes (2 * i) w) (2 * i + 1) w
