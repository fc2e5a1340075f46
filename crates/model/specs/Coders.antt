-- What each call on a coder does to the cells that it holds, with its answer and each of its refusals.
-- w is the word width, C the capacity of the store; h are the cells held before the call, oldest first, and h' those after it. Which of
-- them stand in the store and which in the partial word is no part of the meaning.
use Rattle.std.specs.Prelude.{◌≡◌, ℕ, ◌+◌, ◌-◌, ◌*◌, ◌/◌, ◌%◌, ◌<◌, ◌≤◌, min, Bool, true, false, ◌&&◌, ◌⊎◌, List, [], ◌∷◌, ◌++◌, reverse, length, take, Some, None, Ok, Err, Option, ◌≢◌}
use Rattle.model.specs.declared.refusal.Refusal.{Refusal}
use Rattle.model.specs.declared.refusal.Refusal.TheVariants.{Full, OffEdge, Unsealed, BadRecord}
use Rattle.model.specs.Bits.{zeros}
use Rattle.model.specs.Cells.{Place, Cell, bit, bad, bits, ahead, cells_of, mark}
use Rattle.model.specs.Codebooks.{Outcome, Decoded}
use Rattle.model.specs.Refusals.{Answer}
use Rattle.model.specs.Sinks.{Sink, Encoded, reversed}

-- ---- writing

-- how many cells there can be: a word more than the store takes, since a full partial word waits
abbrev pub room : ℕ → ℕ → ℕ
room w C = (C + 1) * w

-- a coder as a bit sink
abbrev pub as_sink : ℕ → ℕ → List Cell → Sink
as_sink w C h = record { taken = h; limit = room w C }

-- write_bit: one more bit, or refused, exactly where there is no room for it.
abbrev pub BitWritten : ℕ → ℕ → List Cell → Bool → Answer (Unit {0}) → List Cell → Type 0
BitWritten w C h b (Ok _) h' = (length h < room w C) × (h' ≡ h ++ (bit b ∷ []))
BitWritten w C h b (Err e) h' = (e ≡ Full) × (length h ≡ room w C) × (h' ≡ h)

-- encode_symbol of a queue encoder, by the symbol's codeword: its bits are added from the first to the last.
abbrev pub PrefixWritten : ℕ → ℕ → List Cell → Option (List Bool) → Answer (Unit {0}) → List Cell → Type 0
PrefixWritten w C h codeword r h' = Encoded codeword (as_sink w C h) r (as_sink w C h')

-- encode_symbol of a stack coder: they are added from the last to the first, so that a reader meets them in order.
abbrev pub SuffixWritten : ℕ → ℕ → List Cell → Option (List Bool) → Answer (Unit {0}) → List Cell → Type 0
SuffixWritten w C h codeword r h' = PrefixWritten w C h (reversed codeword) r h'

-- seal: a one bit, and zeros to the word's edge; or refused, exactly where the store cannot take all words.
abbrev pub SealWritten : ℕ → ℕ → List Cell → Answer (Unit {0}) → List Cell → Type 0
SealWritten w C h (Ok _) h' = (length h / w + 1 ≤ C) × (h' ≡ h ++ mark (w - 1 - length h % w))
SealWritten w C h (Err e) h' = (e ≡ Full) × (C < length h / w + 1) × (h' ≡ h)

-- how many words of w bits so many cells need
abbrev pub words_for : ℕ → List Cell → ℕ
words_for w h = (length h + (w - 1)) / w

-- flush: zeros to the word's edge; or refused, exactly where the store cannot take all words.
abbrev pub FlushWritten : ℕ → ℕ → List Cell → Answer (Unit {0}) → List Cell → Type 0
FlushWritten w C h (Ok _) h' = (words_for w h ≤ C) × (h' ≡ h ++ bits (zeros (words_for w h * w - length h)))
FlushWritten w C h (Err e) h' = (e ≡ Full) × (C < words_for w h) × (h' ≡ h)

-- after an accepted seal or flush all cells stand in the store, whose places are ps
abbrev pub AllStored : ℕ → List Cell → List Place → Type 0
AllStored w h ps = h ≡ cells_of w ps

-- taking apart: the store keeps the places ps of the first whole words, as many as it takes; the other bits are lost
abbrev pub TakenApart : ℕ → ℕ → List Cell → List Place → Type 0
TakenApart w C h ps = (length ps ≡ min (length h / w) C) × (cells_of w ps ≡ take (length ps * w) h)

-- ---- reading

-- the newest cell is of the fault place of number k
abbrev pub EndsInFault : List Cell → ℕ → Type 0
EndsInFault h k = (front : List Cell) × (h ≡ front ++ (bad k ∷ []))

-- read_bit of a stack coder: the newest bit, which is taken; none where nothing is held; or the newest place's fault, which stays.
abbrev pub BitRead : List Cell → Answer (Option Bool) → List Cell → Type 0
BitRead h (Ok (Some b)) h' = h ≡ h' ++ (bit b ∷ [])
BitRead h (Ok None) h' = (h ≡ []) × (h' ≡ [])
BitRead h (Err e) h' = (k : ℕ) × EndsInFault h k × (e ≡ BadRecord k) × (h' ≡ h)

-- decode_symbol of a stack coder, by what decoding comes to: the cells to come are those held, newest first.
abbrev pub SymbolRead : {S : Type 0} → List Cell → (List Bool → Outcome S) → Answer S → List Cell → Type 0
SymbolRead h outcome r h' = Decoded (outcome (ahead (reverse h))) (reverse h) r (reverse h')

-- the newest cells were a one bit and fewer than w zeros above it, and were removed
abbrev pub MarkTaken : ℕ → List Cell → List Cell → Type 0
MarkTaken w h h' = (z : ℕ) × (z < w) × (h ≡ h' ++ mark z)

-- the newest w cells are zero bits
abbrev pub EndsInZeros : ℕ → List Cell → Type 0
EndsInZeros w h = (front : List Cell) × (h ≡ front ++ bits (zeros w))

-- Why unseal refuses: the cells end off a word's edge; else the last place is a fault; else the last word is zero.
abbrev pub SealMissed : ℕ → List Cell → Refusal → Type 0
SealMissed w h e =
    ((e ≡ OffEdge) × (length h % w ≢ 0))
    ⊎ (((k : ℕ) × (e ≡ BadRecord k) × (length h % w ≡ 0) × EndsInFault h k)
    ⊎ ((e ≡ Unsealed) × (length h % w ≡ 0) × EndsInZeros w h))

-- unseal: takes the highest one bit of the last w cells and the zeros above it. Where nothing is held it does nothing, and a refusal
-- changes nothing.
abbrev pub SealTaken : ℕ → List Cell → Answer (Unit {0}) → List Cell → Type 0
SealTaken w h (Ok _) h' = (length h % w ≡ 0) × (((h ≡ []) × (h' ≡ [])) ⊎ MarkTaken w h h')
SealTaken w h (Err e) h' = SealMissed w h e × (h' ≡ h)

-- ---- the queue decoder

-- The cells to come, next first: the bits that are left of the word at hand, lowest first, then those of the source's places. A bit read
-- and a symbol read are those of a bit source (`Read`, `Decoded`).
abbrev pub coming_from : ℕ → List Bool → List Place → List Cell
coming_from w left ps = bits left ++ cells_of w ps

abbrev pub all_zero : List Bool → Bool
all_zero [] = true
all_zero (b ∷ bs) = eqb_false b && all_zero bs
  where
    eqb_false : Bool → Bool
    eqb_false true = false
    eqb_false false = true

abbrev pub no_place : List Place → Bool
no_place [] = true
no_place (p ∷ ps) = false

-- maybe_exhausted: no place remains, and the bits that are left of the word at hand are zero.
abbrev pub maybe_exhausted : List Bool → List Place → Bool
maybe_exhausted left ps = all_zero left && no_place ps
