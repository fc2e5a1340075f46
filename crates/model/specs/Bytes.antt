-- Rows as bytes: 8 bytes a row, first one node number and then the other, each with its lowest byte first.
use Rattle.std.specs.Prelude.{ℕ, zero, suc, ◌+◌, ◌*◌, ◌/◌, List, [], ◌∷◌, ◌++◌, length, slice_index}
use Rattle.model.specs.declared.link.Row.{Row}

-- the 32-bit number in the four bytes from an index on
abbrev pub number_at : List ℕ → ℕ → ℕ
number_at bytes i = slice_index bytes i + slice_index bytes (i + 1) * 256 + slice_index bytes (i + 2) * 65536 + slice_index bytes (i + 3) * 16777216

-- the row at an index, from 0
abbrev pub row_at : List ℕ → ℕ → Row
row_at bytes k = record { first = number_at bytes (8 * k); second = number_at bytes (8 * k + 4) }

-- the first n rows
abbrev pub first_rows : List ℕ → ℕ → List Row
first_rows bytes zero = []
first_rows bytes (suc n) = first_rows bytes n ++ (row_at bytes n ∷ [])

-- how many whole rows there are
abbrev pub whole_rows : List ℕ → ℕ
whole_rows bytes = length bytes / 8
