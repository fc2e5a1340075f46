-- Lemmas: what each operation of a partial word does to its mask, its word and the bits held, over the width.

use Rattle.std.specs.Prelude.{◌≡◌, ℕ, zero, suc, ◌+◌, ◌-◌, ◌*◌, ◌/◌, ◌%◌, ◌^◌, ◌<◌, ◌≤◌, Bool, true, false, not, List, [], ◌∷◌, ◌++◌, length, ◌==◌, ◌≢◌, bit_and, bit_or, refl}
use Rattle.std.proofs.Common.{sym, ap, ◌∙◌, inl, inr, mod-eq_of_lt, pow-suc, arith, ne_eqb, pow_pos, pow_mono, shl_exact}
use Rattle.std.specs.Int.{from_bool}
use Rattle.std.specs.Int.Bits.{or_shifted_r}
use Rattle.std.specs.Int.Count.{count_leading_zeros, leading_unique}
use Rattle.std.proofs.lemmas.Bool.{cases_lt}
use Rattle.std.proofs.lemmas.Nat.{and_mask, leading_length, one_shl}
use Rattle.std.proofs.Math.Nat.{mod-eq-sub-mod}
use Rattle.model.specs.Bits.{low_bits, zeros}
use Rattle.model.proofs.Packing.{length-low_bits}
use Rattle.words.specs.Partials.{size_at, held_at, sealed_by, Single, Below}
use Rattle.words.specs.LowBits.{size_le, more_low, low_mod, low_zero, low_one, push_low, and_zero, and_one, unseal_low, size_zero, size_pow}

-- A sound mask is 0, or a power of two.
pub data View (w m : ℕ) : Type 0 where
  none : m ≡ 0 → size_at w m ≡ 0 → View w m
  some : (k : ℕ) → k < w → m ≡ 2 ^ k → size_at w m ≡ suc k → View w m

view_at : (w m n : ℕ) → size_at w m ≡ n → m ≡ 2 ^ n / 2 → View w m
view_at w m zero e h = none h e
view_at w m (suc k) e h = some k (omega arith) (omega (arith, pow-suc 2 k)) e

pub view : (w m : ℕ) → Single w m → View w m
view w m h = view_at w m (size_at w m) refl h

-- What the numbers of a partial word are, and the bits held.
pub record Part (w m x : ℕ) (bs : List Bool) : Type 0 where
  pub single : Single w m
  pub below : Below w m x
  pub holds : held_at w m x ≡ bs

-- by how many bits they are
part_at : (w m x k : ℕ) → size_at w m ≡ k → m ≡ 2 ^ k / 2 → x < 2 ^ k → Part w m x (low_bits k x)
part_at w m x k e h b = record { single = rw e h; below = rw e b; holds = rw e }

-- the numbers of a partial word are words
pub mask_small : (w m : ℕ) → Single w m → m < 2 ^ w
mask_small w m h = omega (arith, pow_pos (size_at w m), pow_mono (size_le w m))

pub word_small : (w m x : ℕ) → Below w m x → x < 2 ^ w
word_small w m x b = omega (arith, pow_mono (size_le w m))

pub held_length : (w m x : ℕ) → length (held_at w m x) ≡ size_at w m
held_length w m x = length-low_bits (size_at w m) x

pub held_few : (w m x : ℕ) → length (held_at w m x) ≤ w
held_few w m x = omega (arith, held_length w m x)

-- None.

pub empty : (w : ℕ) → Part w 0 0 []
empty w = part_at w 0 0 0 (size_zero w) refl (pow_pos 0)

-- The number of bits, as the code counts them.

pub size_wide : (w m : ℕ) → w ≤ 64 → m < 2 ^ w → size_at 64 m ≡ size_at w m
size_wide w m le h =
    let l = leading_length w m h in
    let e : 64 - l.0 ≡ count_leading_zeros 64 m = leading_unique 64 m (64 - l.0) l.0 (omega arith) l.2 l.3 in
    omega arith

-- All bits of a word.

pub whole : (w x : ℕ) → 0 < w → w ≤ 64 → x < 2 ^ w → Part w ((1 * 2 ^ (w - 1)) % 2 ^ 64) x (low_bits w (x % 2 ^ w))
whole w x p le h =
    let e : suc (w - 1) ≡ w = omega arith in
    let m : 2 ^ (w - 1) ≡ 2 ^ suc (w - 1) / 2 = omega (arith, pow-suc 2 (w - 1)) in
    rw (one_shl (w - 1) 64 (omega arith), mod-eq_of_lt h) (part_at w (2 ^ (w - 1)) x w (size_pow w (w - 1) (omega arith) ∙ e) (rw e at m) h)

-- One more.

push_small : (k x : ℕ) (b : Bool) → x < 2 ^ k → from_bool b * 2 ^ k + x < 2 ^ suc k
push_small k x true h = omega (arith, pow-suc 2 k)
push_small k x false h = omega (arith, pow-suc 2 k)

push_at : (w m x k : ℕ) (b : Bool) → size_at w m ≡ k → Below w m x → k < w → Part w (2 ^ k) (from_bool b * 2 ^ k + x) (held_at w m x ++ (b ∷ []))
push_at w m x k b e h lt =
    let less : x < 2 ^ k = rw e at h in
    let r = part_at w (2 ^ k) (from_bool b * 2 ^ k + x) (suc k) (size_pow w k lt) (omega (arith, pow-suc 2 k)) (push_small k x b less) in
    record { single = r.single; below = r.below; holds = r.holds ∙ (rw e (push_low k x b less)) }

one_small : (b : Bool) → from_bool b < 2 ^ 1
one_small true = omega arith
one_small false = omega arith

-- as the code puts the bit b there, whose number is n, above the k bits held
pub push : (w m x k n : ℕ) (b : Bool) → w ≤ 64 → Below w m x → k ≡ length (held_at w m x) → k < w → n ≡ from_bool b → Part w ((1 * 2 ^ k) % 2 ^ 64) (bit_or x ((n * 2 ^ k) % 2 ^ 64)) (held_at w m x ++ (b ∷ []))
push w m x k n b le h l lt e =
    let s : size_at w m ≡ k = sym (l ∙ held_length w m x) in
    let less : x < 2 ^ k = rw s at h in
    let word : bit_or x ((n * 2 ^ k) % 2 ^ 64) ≡ from_bool b * 2 ^ k + x = rw (e, shl_exact {a = from_bool b} 1 k 64 (one_small b) (omega arith)) (or_shifted_r (from_bool b) k x less) in
    rw (one_shl k 64 (omega arith), word) (push_at w m x k b s h lt)

-- One less.

half_size : (w k : ℕ) → k < w → size_at w (2 ^ k / 2) ≡ k
half_size w zero h = size_zero w
half_size w (suc k) h = let e : 2 ^ suc k / 2 ≡ 2 ^ k = omega (arith, pow-suc 2 k) in rw e (size_pow w k (omega arith))

-- what is left of m and x without the newest bit, b
pub record Popped (w m x : ℕ) (b : Bool) : Type 0 where
  pub bits : List Bool
  pub rest : Part w (m / 2) (bit_and x (m - 1)) bits
  pub held : held_at w m x ≡ bits ++ (b ∷ [])

without_high : (k x : ℕ) → 2 ^ k ≤ x → x < 2 ^ suc k → x % 2 ^ k ≡ x - 2 ^ k
without_high k x most b = mod-eq-sub-mod most ∙ mod-eq_of_lt (omega (arith, pow-suc 2 k))

-- the newest bit of a number of k + 1 bits, and the number without it
high_bit : (k x : ℕ) → x < 2 ^ suc k → low_bits (suc k) x ≡ low_bits k (x % 2 ^ k) ++ (not (bit_and x (2 ^ k) == 0) ∷ [])
high_bit k x b =
    elim (cases_lt x (2 ^ k)) [
      | inl less ↦ rw (mod-eq_of_lt less, and_zero k x less) (low_zero k x less)
      | inr most ↦ rw (without_high k x most b, and_one k x most b, ne_eqb (2 ^ k) 0 (omega (arith, pow_pos k))) (low_one k x most b)
    ]

pop_at : (w m x k : ℕ) → k < w → m ≡ 2 ^ k → size_at w m ≡ suc k → x < 2 ^ suc k → Popped w m x (not (bit_and x m == 0))
pop_at w m x k lt e s b =
    let half : size_at w (m / 2) ≡ k = ap (λ y. size_at w (y / 2)) e ∙ half_size w k lt in
    let rest : bit_and x (m - 1) ≡ x % 2 ^ k = ap (λ y. bit_and x (y - 1)) e ∙ and_mask x k in
    record {
      bits = low_bits k (x % 2 ^ k);
      rest = rw rest (part_at w (m / 2) (x % 2 ^ k) k half (ap (λ y. y / 2) e) (omega (arith, pow_pos k)));
      held = rw (s, e) (high_bit k x b);
    }

pub pop : (w m x : ℕ) → Single w m → Below w m x → (m ≢ 0) → Popped w m x (not (bit_and x m == 0))
pop w m x h b ne =
    elim (view w m h) [
      | none e s ↦ absurd (ne e)
      | some k lt e s ↦ pop_at w m x k lt e s (rw s at b)
    ]

-- The word of a partial word.

pub padded_held : (w m x : ℕ) → Below w m x → low_bits w x ≡ held_at w m x ++ zeros (w - length (held_at w m x))
padded_held w m x b =
    let k = size_at w m in
    let e : w ≡ k + (w - k) = omega (arith, size_le w m) in
    ap (λ n. low_bits n x) e ∙ more_low k (w - k) x b ∙ ap (λ n. held_at w m x ++ zeros (w - n)) (sym (held_length w m x))

pub padded : (w m x : ℕ) → Below w m x → (low_bits w (x % 2 ^ w) ≡ held_at w m x ++ zeros (w - length (held_at w m x))) × (x ≡ x % 2 ^ w)
padded w m x b = (low_mod w x ∙ padded_held w m x b, sym (mod-eq_of_lt (word_small w m x b)))

pub full : (w m x : ℕ) → Below w m x → w ≤ length (held_at w m x) → (low_bits w (x % 2 ^ w) ≡ held_at w m x) × (x ≡ x % 2 ^ w)
full w m x b h =
    let e : size_at w m ≡ w = omega (arith, size_le w m, held_length w m x) in
    (low_mod w x ∙ rw e refl, (padded w m x b).1)

-- The bits below the highest one bit.

pub record Unsealed (w n m x : ℕ) : Type 0 where
  pub bits : List Bool
  pub rest : Part w m x bits
  pub zeros : ℕ
  pub few : zeros < w
  pub held : low_bits w n ≡ sealed_by bits zeros

pub log_small : (w k n : ℕ) → 2 ^ k ≤ n → n < 2 ^ w → k < w
log_small w k n most h = elim (cases_lt k w) [ inl less ↦ less | inr more ↦ absurd (omega (arith, pow_mono more)) ]

-- as the code makes the mark at k
pub unseal : (w n k : ℕ) → w ≤ 64 → 2 ^ k ≤ n → n < 2 ^ w → n < 2 * 2 ^ k → Unsealed w (n % 2 ^ w) ((1 * 2 ^ k) % 2 ^ 64 / 2) (bit_and n ((1 * 2 ^ k) % 2 ^ 64 - 1))
unseal w n k le most h b =
    let lt = log_small w k n most h in
    let less : n < 2 ^ suc k = omega (arith, pow-suc 2 k) in
    rw (one_shl k 64 (omega arith), mod-eq_of_lt h) record {
      bits = low_bits k (n - 2 ^ k);
      rest = rw (and_mask n k, without_high k n most less) (part_at w (2 ^ k / 2) (n - 2 ^ k) k (half_size w k lt) refl (omega arith));
      zeros = w - 1 - k;
      few = omega arith;
      held = unseal_low w k n lt most less;
    }
