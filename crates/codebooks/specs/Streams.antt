-- Several bits at once: what the single calls that they stand for come to.
use Rattle.std.specs.Prelude.{◌≡◌, ℕ, ◌-◌, ◌^◌, ◌<◌, ◌≤◌, min, Bool, true, List, [], ◌∷◌, ◌++◌, length, Some, None, Ok, Err, Option}
use Rattle.model.specs.declared.refusal.Refusal.{Refusal}
use Rattle.model.specs.declared.refusal.Refusal.TheVariants.{BadRecord}
use Rattle.model.specs.Bits.{low_bits, value, zeros}
use Rattle.model.specs.Cells.{Cell, bad, bits}
use Rattle.model.specs.Refusals.{Answer}

-- the bits of a number that are handed over at once: the lowest `count`, at most 64, lowest first
abbrev pub handed : ℕ → ℕ → List Bool
handed n count = low_bits (min count 64) n

-- The bits v are taken, and then a fault is met, which stays.
abbrev pub FaultAfter : List Bool → List Cell → Refusal → List Cell → Type 0
FaultAfter v cs e cs' = (k : ℕ) × (rest : List Cell) × (cs ≡ bits v ++ (bad k ∷ rest)) × (e ≡ BadRecord k) × (cs' ≡ bad k ∷ rest)

-- What came of so many bits: the number that they stand for, the first the highest, and how many they are.
pub record Number : Type 0 where
  pub number : ℕ
  pub count : ℕ

-- Up to `most` bits are read: fewer only where the end comes first.
abbrev pub ManyRead : ℕ → List Cell → Answer Number → List Cell → Type 0
ManyRead most cs (Ok n) cs' =
    (v : List Bool) × (length v ≡ n.count) × (value v ≡ n.number) × (cs ≡ bits v ++ cs') × (n.count ≤ most) × (n.count < most → cs' ≡ [])
ManyRead most cs (Err e) cs' = (v : List Bool) × (length v < most) × FaultAfter v cs e cs'

-- Zero bits and the first one bit are read: how many zeros there were, staying at 2 ^ 64 - 1; or zero bits alone, up to the end.
abbrev pub OneRead : List Cell → Answer (Option ℕ) → List Cell → Type 0
OneRead cs (Ok (Some m)) cs' = (z : ℕ) × (m ≡ min z (2 ^ 64 - 1)) × (cs ≡ bits (zeros z) ++ (bits (true ∷ []) ++ cs'))
OneRead cs (Ok None) cs' = (z : ℕ) × (cs ≡ bits (zeros z)) × (cs' ≡ [])
OneRead cs (Err e) cs' = (z : ℕ) × FaultAfter (zeros z) cs e cs'
