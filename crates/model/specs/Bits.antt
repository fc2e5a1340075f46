-- Bits of numbers. A list of bits is read from its first element on.
use Rattle.std.specs.Prelude.{ℕ, zero, suc, ◌+◌, ◌*◌, ◌/◌, ◌%◌, ◌^◌, Bool, true, false, List, [], ◌∷◌, length, replicate, ◌==◌}

abbrev pub bit_value : Bool → ℕ
bit_value true = 1
bit_value false = 0

-- the k lowest bits of n, lowest first: the bits of a word of k bits, in the order in which coders count them
abbrev pub low_bits : ℕ → ℕ → List Bool
low_bits zero n = []
low_bits (suc k) n = (n % 2 == 1) ∷ low_bits k (n / 2)

-- the number that bits stand for, lowest first
abbrev pub low_value : List Bool → ℕ
low_value [] = 0
low_value (b ∷ bs) = bit_value b + 2 * low_value bs

-- the k lowest bits of n, highest first: how codewords write a number
abbrev pub in_bits : ℕ → ℕ → List Bool
in_bits zero n = []
in_bits (suc k) n = (n / 2 ^ k % 2 == 1) ∷ in_bits k n

-- the number that bits stand for, highest first
abbrev pub value : List Bool → ℕ
value [] = 0
value (b ∷ bs) = bit_value b * 2 ^ length bs + value bs

abbrev pub zeros : ℕ → List Bool
zeros n = replicate n false
