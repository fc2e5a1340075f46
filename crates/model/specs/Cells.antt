-- Places of stores, and cells: what a coder holds, bit for bit.
use Rattle.std.specs.Prelude.{ℕ, ◌^◌, ◌<◌, Bool, true, List, [], ◌∷◌, ◌++◌, map, replicate}
use Rattle.model.specs.Bits.{low_bits, zeros}

-- A place of a store: a word, by its value, or a numbered fault, which cannot be read.
pub data Place : Type 0 where
  word : ℕ → Place
  fault : ℕ → Place

-- a place of a store of words of w bits: a word is below 2 ^ w
abbrev pub Fits : ℕ → Place → Type 0
Fits w (word n) = n < 2 ^ w
Fits w (fault k) = Unit {0}

-- places that are all words
abbrev pub word_places : List ℕ → List Place
word_places ws = map word ws

-- A cell: a bit, or one of the w cells of a fault place, with the fault's number.
pub data Cell : Type 0 where
  bit : Bool → Cell
  bad : ℕ → Cell

-- bits as cells
abbrev pub bits : List Bool → List Cell
bits [] = []
bits (b ∷ bs) = bit b ∷ bits bs

-- the w cells of a place: a word's bits from its lowest, and a fault counts as many
abbrev pub cells_at : ℕ → Place → List Cell
cells_at w (word n) = bits (low_bits w n)
cells_at w (fault k) = replicate w (bad k)

-- the cells of places, in their order
abbrev pub cells_of : ℕ → List Place → List Cell
cells_of w [] = []
cells_of w (p ∷ ps) = cells_at w p ++ cells_of w ps

-- What a coder of width w holds, oldest first: its store's places, then the bits of its partial word.
unfoldable pub held_by : ℕ → List Place → List Bool → List Cell
held_by w ps bs = cells_of w ps ++ bits bs

-- the bits before the first fault
abbrev pub ahead : List Cell → List Bool
ahead [] = []
ahead (bit b ∷ cs) = b ∷ ahead cs
ahead (bad k ∷ cs) = []

-- what is left once these bits are taken: nothing, or all from the first fault on
abbrev pub beyond : List Cell → List Cell
beyond [] = []
beyond (bit b ∷ cs) = beyond cs
beyond (bad k ∷ cs) = bad k ∷ cs

-- a one bit, then n zeros: the mark that a seal leaves
abbrev pub mark : ℕ → List Cell
mark n = bits (true ∷ zeros n)
