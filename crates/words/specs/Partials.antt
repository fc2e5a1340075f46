-- Partial words: a word and a mask that together hold up to w bits, the newest highest.
use Rattle.std.specs.Prelude.{◌≡◌, ℕ, ◌-◌, ◌/◌, ◌^◌, ◌<◌, ◌≤◌, Bool, true, List, [], ◌∷◌, ◌++◌, length, Some, None, Ok, Err, Option, Result}
use Rattle.std.specs.Int.Count.{count_leading_zeros}
use Rattle.model.specs.Bits.{low_bits, zeros}

-- how many bits the mask tells: none at mask 0, and k + 1 at mask 2 ^ k
abbrev pub size_at : ℕ → ℕ → ℕ
size_at w mask = w - count_leading_zeros w mask

-- the mask is zero or a single bit
abbrev pub Single : ℕ → ℕ → Type 0
Single w mask = mask ≡ 2 ^ size_at w mask / 2

-- no bit of the word stands above the mask's, and none is set at mask 0
abbrev pub Below : ℕ → ℕ → ℕ → Type 0
Below w mask word = word < 2 ^ size_at w mask

-- the bits held, oldest first
abbrev pub held_at : ℕ → ℕ → ℕ → List Bool
held_at w mask word = low_bits (size_at w mask) word

-- What holds of every partial word of width w.
pub record Masked (w mask word : ℕ) (held : List Bool) : Type 0 where
  pub single : Single w mask
  pub below : Below w mask word
  pub holds : held ≡ held_at w mask word

-- bits, a one bit, then z zeros
abbrev pub sealed_by : List Bool → ℕ → List Bool
sealed_by bs z = bs ++ true ∷ zeros z

-- A bit written: it is the newest then; or refused, exactly where w bits are held, without effect.
abbrev pub PartWritten : {E : Type 0} → ℕ → List Bool → Bool → Result (Unit {0}) E → List Bool → Type 0
PartWritten w bs b (Ok _) bs' = (length bs < w) × (bs' ≡ bs ++ (b ∷ []))
PartWritten w bs b (Err _) bs' = (length bs ≡ w) × (bs' ≡ bs)

-- A bit read: the newest, which is taken; or none, where none is held.
abbrev pub PartRead : List Bool → Option Bool → List Bool → Type 0
PartRead bs (Some b) bs' = bs ≡ bs' ++ (b ∷ [])
PartRead bs None bs' = (bs ≡ []) × (bs' ≡ [])

-- With a bit more, the newest; or none, exactly where w bits are held.
abbrev pub PartPushed : {P : Type 0} → ℕ → (P → List Bool) → List Bool → Bool → Option P → Type 0
PartPushed w held bs b (Some p) = (length bs < w) × (held p ≡ bs ++ (b ∷ []))
PartPushed w held bs b None = length bs ≡ w

-- The newest bit, and what is held without it; or none, where none is held.
abbrev pub PartPopped : {P : Type 0} → (P → List Bool) → List Bool → Option (Bool × P) → Type 0
PartPopped held bs (Some (b, p)) = bs ≡ held p ++ (b ∷ [])
PartPopped held bs None = bs ≡ []

-- ---- words of w bits, by their bits

-- The word that a program has with these w bits: its number is what they stand for.
abbrev pub IsWord : {W : Type 0} → ℕ → (W → ℕ) → (W → ℕ) → List Bool → W → Type 0
IsWord w number value bs x = (low_bits w (value x) ≡ bs) × (number x ≡ value x)

-- The word of the bits bs, if they are w.
abbrev pub Whole : {W : Type 0} → ℕ → (W → ℕ) → (W → ℕ) → List Bool → Option W → Type 0
Whole w number value bs (Some x) = IsWord w number value bs x
Whole w number value bs None = length bs < w

-- The word of the bits bs, a one bit and zeros to the edge, if there is room for the one bit.
abbrev pub SealedWord : {W : Type 0} → ℕ → (W → ℕ) → (W → ℕ) → List Bool → Option W → Type 0
SealedWord w number value bs (Some x) = (length bs < w) × IsWord w number value (sealed_by bs (w - 1 - length bs)) x
SealedWord w number value bs None = length bs ≡ w

-- The bits bs, a one bit and zeros to the edge are those of the number n.
abbrev pub Unseals : ℕ → ℕ → List Bool → Type 0
Unseals w n bs = (z : ℕ) × (z < w) × (low_bits w n ≡ sealed_by bs z)

-- The bits below the highest one bit of a word, or none where all are zero.
abbrev pub UnsealedWord : {P : Type 0} → ℕ → (P → List Bool) → ℕ → Option P → Type 0
UnsealedWord w held n (Some p) = Unseals w n (held p)
UnsealedWord w held n None = low_bits w n ≡ zeros w

-- A number as a word of w bits, if it is one.
abbrev pub NumberWord : {W : Type 0} → ℕ → (W → ℕ) → ℕ → Option W → Type 0
NumberWord w number n (Some x) = (n < 2 ^ w) × (number x ≡ n)
NumberWord w number n None = n < 2 ^ w → ⊥

-- ---- unsigned integer types

-- What holds of an unsigned integer type of w bits, and of the numbers of its values.
pub record UnsignedLaws {X : Type 0} (w : ℕ) (number : X → ℕ) (word : ℕ → X) : Type 0 where
  pub some : 0 < w
  pub most : w ≤ 64
  pub back : (x : X) → word (number x) ≡ x
  pub there : (n : ℕ) → number (word n) ≡ n
