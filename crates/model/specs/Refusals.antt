-- The number, the word and the values of each refusal.
use Rattle.std.specs.Prelude.{ℕ, List, [], ◌∷◌, codes, Result}
use Rattle.model.specs.declared.refusal.Refusal.{Refusal}
use Rattle.model.specs.declared.refusal.Refusal.TheVariants.{Full, Unlisted, Dry, Garbled, OffEdge, Unsealed, Misplaced, BadRecord, TableFull, SelfLink, Clash, Ragged, Bare, TooFar, Overspare}

-- What a call answers: a value, or one refusal.
abbrev pub Answer : Type 0 → Type 0
Answer A = Result A Refusal

abbrev pub number_of : Refusal → ℕ
number_of Full = 1
number_of Unlisted = 2
number_of Dry = 3
number_of Garbled = 4
number_of OffEdge = 5
number_of Unsealed = 6
number_of Misplaced = 7
number_of (BadRecord k) = 8
number_of TableFull = 9
number_of SelfLink = 10
number_of Clash = 11
number_of Ragged = 12
number_of Bare = 13
number_of TooFar = 14
number_of Overspare = 15

-- the bytes of its word
abbrev pub word_of : Refusal → List ℕ
word_of Full = codes "full"
word_of Unlisted = codes "unlisted"
word_of Dry = codes "dry"
word_of Garbled = codes "garbled"
word_of OffEdge = codes "off edge"
word_of Unsealed = codes "unsealed"
word_of Misplaced = codes "misplaced"
word_of (BadRecord k) = codes "bad record"
word_of TableFull = codes "table full"
word_of SelfLink = codes "self link"
word_of Clash = codes "clash"
word_of Ragged = codes "ragged"
word_of Bare = codes "bare"
word_of TooFar = codes "too far"
word_of Overspare = codes "overspare"

-- the values that it carries: the number of the fault place that is read, and else none
abbrev pub values_of : Refusal → List ℕ
values_of Full = []
values_of Unlisted = []
values_of Dry = []
values_of Garbled = []
values_of OffEdge = []
values_of Unsealed = []
values_of Misplaced = []
values_of (BadRecord k) = k ∷ []
values_of TableFull = []
values_of SelfLink = []
values_of Clash = []
values_of Ragged = []
values_of Bare = []
values_of TooFar = []
values_of Overspare = []
