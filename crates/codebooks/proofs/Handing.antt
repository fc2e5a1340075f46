-- The bits of a number that are handed over at once.
use Rattle.std.proofs.Common.{◌≡◌, ℕ, zero, suc, ◌/◌, ◌%◌, ◌^◌, ◌<◌, ◌≤◌, min, Bool, eqb, List, [], ◌∷◌, ◌++◌, sym, ap, ◌∙◌, one-add, arith, shr-shr}
use Rattle.model.specs.Bits.{low_bits}
use Rattle.codebooks.specs.Streams.{handed}

pub handed_is : (n count : ℕ) → count ≤ 64 → handed n count ≡ low_bits count n
handed_is n count h = let e : min count 64 ≡ count = omega arith in ap (λ k. low_bits k n) e

half_again : (k n : ℕ) → n / 2 / 2 ^ k ≡ n / 2 ^ suc k
half_again k n = shr-shr n 1 k ∙ ap (λ j. n / 2 ^ j) (one-add k)

-- one bit more
pub low_more : (k n : ℕ) → low_bits (suc k) n ≡ low_bits k n ++ (eqb (n / 2 ^ k % 2) 1 ∷ [])
low_more zero n = let e : n / 2 ^ 0 ≡ n = omega arith in ap (λ x. eqb (x % 2) 1 ∷ []) (sym e)
low_more (suc k) n = ap (λ t. eqb (n % 2) 1 ∷ t) (low_more k (n / 2) ∙ ap (λ x. low_bits k (n / 2) ++ (eqb (x % 2) 1 ∷ [])) (half_again k n))

-- the first bits of more, and the one behind them
pub low_from : (i k n : ℕ) → i < k → (rest : List Bool) × (low_bits k n ≡ low_bits i n ++ (eqb (n / 2 ^ i % 2) 1 ∷ rest))
low_from i zero n h = absurd (omega arith)
low_from zero (suc k) n h = let e : n / 2 ^ 0 ≡ n = omega arith in (low_bits k (n / 2), ap (λ x. eqb (x % 2) 1 ∷ low_bits k (n / 2)) (sym e))
low_from (suc i) (suc k) n h =
    let p = low_from i k (n / 2) (omega arith) in
    (p.0, ap (λ t. eqb (n % 2) 1 ∷ t) (p.1 ∙ ap (λ x. low_bits i (n / 2) ++ (eqb (x % 2) 1 ∷ p.0)) (half_again i n)))
