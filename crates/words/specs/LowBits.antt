-- Lemmas: the laws of `low_bits` and of a mask's size, over the width.

use Rattle.std.specs.Prelude.{◌≡◌, ℕ, zero, suc, ◌+◌, ◌-◌, ◌*◌, ◌/◌, ◌%◌, ◌^◌, ◌<◌, ◌≤◌, Bool, true, false, [], ◌∷◌, ◌++◌, ◌==◌, bit_and, refl}
use Rattle.std.proofs.Common.{ap, ap₂, ◌∙◌, append_assoc, zero-add, suc-add, one-mul, zero-mul, pow-suc, arith, pow_pos, add-one}
use Rattle.std.proofs.Math.Arith.{lt-one}
use Rattle.std.specs.Int.Bits.{block_half, block_odd, and_shifted, and_zero_r}
use Rattle.std.proofs.lemmas.Nat.{and_comm, and_block}
use Rattle.std.specs.Int.{from_bool}
use Rattle.std.specs.Int.Count.{count_leading_zeros, leading_of_zero, leading_unique}
use Rattle.std.proofs.Math.Pow.{field, mod-mod-pow}
use Rattle.model.specs.Bits.{low_bits, zeros}
use Rattle.words.specs.Partials.{size_at, sealed_by}

-- bits past the k lowest do not matter
pub low_mod : (k n : ℕ) → low_bits k (n % 2 ^ k) ≡ low_bits k n
low_mod zero n = refl
low_mod (suc k) n =
    let low : n % 2 ^ suc k % 2 ≡ n % 2 = rw add-one at (mod-mod-pow n k 1) in
    let high : n % 2 ^ suc k / 2 ≡ n / 2 % 2 ^ k = rw add-one at (field n k 1) in
    ap₂ (λ x xs. (x == 1) ∷ xs) low (ap (low_bits k) high ∙ low_mod k (n / 2))

pub push_low : (k n : ℕ) (b : Bool) → n < 2 ^ k → low_bits (suc k) (from_bool b * 2 ^ k + n) ≡ low_bits k n ++ (b ∷ [])
push_low zero n true h = rw (lt-one h)
push_low zero n false h = rw (lt-one h)
push_low (suc k) n b h =
    let lt : n / 2 < 2 ^ k = omega arith in
    rw (block_odd (from_bool b) k n, block_half (from_bool b) k n) (ap (λ xs. (n % 2 == 1) ∷ xs) (push_low k (n / 2) b lt))

pub zero_low : (k : ℕ) → low_bits k 0 ≡ zeros k
zero_low zero = refl
zero_low (suc k) = ap (λ xs. false ∷ xs) (zero_low k)

pub more_low : (k z n : ℕ) → n < 2 ^ k → low_bits (k + z) n ≡ low_bits k n ++ zeros z
more_low zero z n h = rw (zero-add z, lt-one h) (zero_low z)
more_low (suc k) z n h =
    let lt : n / 2 < 2 ^ k = omega arith in
    rw (suc-add k z) (ap (λ xs. (n % 2 == 1) ∷ xs) (more_low k z (n / 2) lt))

pub seal_low : (w k n : ℕ) → k < w → n < 2 ^ k → low_bits w (2 ^ k + n) ≡ sealed_by (low_bits k n) (w - 1 - k)
seal_low w k n h lt =
    let lt2 : 2 ^ k + n < 2 ^ suc k = omega (arith, pow-suc 2 k) in
    let e : suc k + (w - 1 - k) ≡ w = omega arith in
    let m : low_bits w (2 ^ k + n) ≡ low_bits (suc k) (2 ^ k + n) ++ zeros (w - 1 - k) = rw e at (more_low (suc k) (w - 1 - k) (2 ^ k + n) lt2) in
    let p : low_bits (suc k) (2 ^ k + n) ≡ low_bits k n ++ (true ∷ []) = rw one-mul at (push_low k n true lt) in
    m ∙ (ap (λ xs. xs ++ zeros (w - 1 - k)) p ∙ append_assoc (low_bits k n) (true ∷ []) (zeros (w - 1 - k)))

-- a word whose highest one bit is at j
pub unseal_low : (w j n : ℕ) → j < w → 2 ^ j ≤ n → n < 2 ^ suc j → low_bits w n ≡ sealed_by (low_bits j (n - 2 ^ j)) (w - 1 - j)
unseal_low w j n h le lt =
    let lt2 : n - 2 ^ j < 2 ^ j = omega (arith, pow-suc 2 j) in
    let e : 2 ^ j + (n - 2 ^ j) ≡ n = omega arith in
    rw e at (seal_low w j (n - 2 ^ j) h lt2)

-- the highest of k + 1 bits is zero, or one
pub low_zero : (k n : ℕ) → n < 2 ^ k → low_bits (suc k) n ≡ low_bits k n ++ (false ∷ [])
low_zero k n h = rw (zero-mul, zero-add) at (push_low k n false h)

pub low_one : (k n : ℕ) → 2 ^ k ≤ n → n < 2 ^ suc k → low_bits (suc k) n ≡ low_bits k (n - 2 ^ k) ++ (true ∷ [])
low_one k n le lt =
    let lt2 : n - 2 ^ k < 2 ^ k = omega (arith, pow-suc 2 k) in
    let e : 1 * 2 ^ k + (n - 2 ^ k) ≡ n = omega arith in
    rw e at (push_low k (n - 2 ^ k) true lt2)

-- the bit at k, of a number of k + 1 bits
pub and_zero : (k n : ℕ) → n < 2 ^ k → bit_and n (2 ^ k) ≡ 0
and_zero k n h = and_comm n (2 ^ k) ∙ (rw one-mul at (and_shifted 1 k n h))

pub and_one : (k n : ℕ) → 2 ^ k ≤ n → n < 2 ^ suc k → bit_and n (2 ^ k) ≡ 2 ^ k
and_one k n le lt =
    let lt2 : n - 2 ^ k < 2 ^ k = omega (arith, pow-suc 2 k) in
    let a : 1 * 2 ^ k + (n - 2 ^ k) ≡ n = omega arith in
    let b : 1 * 2 ^ k + 0 ≡ 2 ^ k = omega arith in
    let e : bit_and n (2 ^ k) ≡ 1 * 2 ^ k + bit_and (n - 2 ^ k) 0 = rw (a, b) at (and_block k 1 1 (n - 2 ^ k) 0 lt2 (pow_pos k)) in
    omega (arith, and_zero_r (n - 2 ^ k))

pub size_le : (w m : ℕ) → size_at w m ≤ w
size_le w m = omega arith

pub size_zero : (w : ℕ) → size_at w 0 ≡ 0
size_zero w = omega (arith, leading_of_zero w)

pub size_pow : (w k : ℕ) → k < w → size_at w (2 ^ k) ≡ suc k
size_pow w k h =
    let e : w - suc k ≡ count_leading_zeros w (2 ^ k) = leading_unique w (2 ^ k) (w - suc k) (suc k) (omega arith) (omega (arith, pow-suc 2 k, pow_pos k)) (omega (arith, pow-suc 2 k)) in
    omega arith
