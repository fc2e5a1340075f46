-- Numbers in bits, and their logarithm.
use Rattle.std.proofs.Common.{◌≡◌, ℕ, zero, suc, ◌+◌, ◌*◌, ◌/◌, ◌%◌, ◌^◌, ◌<◌, ◌≤◌, Bool, true, false, eqb, List, [], ◌∷◌, ◌++◌, length, replicate, sym, refl, ap, ◌∙◌, ap₂, ⊎_elim, append_assoc, mod-lt, one-mul, pow-suc, add-one, one-add, arith, pow_pos, shr_lt, le-ltb, lt-ltb}
use native.Mathlib.Nat.{mod-mod}
use lib.Pow.{field, mod-mod-pow, high, low, split}
use mir.Val.{bool_byte}
use Rattle.std.proofs.lemmas.List.{length_push, replicate_more}
use Rattle.std.proofs.lemmas.Bool.{cases_lt}
use Rattle.model.specs.Bits.{in_bits, bit_value, value}
use Rattle.model.specs.Golomb.{halvings, log2}

-- ---- log2

pub two_pow : (k : ℕ) → 2 ^ suc k ≡ 2 ^ k + 2 ^ k
two_pow k = pow-suc 2 k ∙ omega arith

-- halvings finds the k with 2 ^ k ≤ n < 2 ^ (k + 1)
halvings_is : (d n k : ℕ) → n ≤ d → 2 ^ k ≤ n → n < 2 ^ suc k → halvings d n ≡ k
unfolding halvings
halvings_is zero n k a b c = absurd (omega (arith, pow_pos k))
halvings_is (suc d) n zero a b c = rw (lt-ltb n 2 c)
halvings_is (suc d) n (suc k) a b c =
    let two : 2 ≤ n = omega (arith, two_pow k, pow_pos k) in
    rw (le-ltb n 2 two) (ap suc (halvings_is d (n / 2) k (omega arith) (omega (arith, two_pow k)) (omega (arith, two_pow k, two_pow (suc k)))))

halvings_of : (d n : ℕ) → n ≤ d → 0 < n → (2 ^ halvings d n ≤ n) × (n < 2 ^ suc (halvings d n))
unfolding halvings
halvings_of zero n a b = absurd (omega arith)
halvings_of (suc d) n a b =
    ⊎_elim (λ l. rw (lt-ltb n 2 l) (omega arith, l))
    (λ l. let half : n / 2 ≤ d = omega arith in
    let pos : 0 < n / 2 = omega arith in
    let h = halvings_of d (n / 2) half pos in
    let j = halvings d (n / 2) in
    rw (le-ltb n 2 l) (omega (arith, h, two_pow j), omega (arith, h, two_pow j, two_pow (suc j))))
    (cases_lt n 2)

pub log2_is : (n k : ℕ) → 2 ^ k ≤ n → n < 2 ^ suc k → log2 n ≡ k
unfolding log2
log2_is n k a b = halvings_is n n k (omega arith) a b

pub log2_of : (n : ℕ) → 0 < n → (2 ^ log2 n ≤ n) × (n < 2 ^ suc (log2 n))
unfolding log2
log2_of n h = halvings_of n n (omega arith) h

-- ---- bits

pub length-in_bits : (k n : ℕ) → length (in_bits k n) ≡ k
length-in_bits zero n = refl
length-in_bits (suc k) n = ap suc (length-in_bits k n)

-- the k lowest bits depend on n % 2 ^ k alone
pub in_bits_mod : (k n : ℕ) → in_bits k (n % 2 ^ k) ≡ in_bits k n
in_bits_mod zero n = refl
in_bits_mod (suc k) n =
    let e : n % 2 ^ suc k / 2 ^ k ≡ n / 2 ^ k % 2 = rw one-add at (field n 1 k) in
    let m : n % 2 ^ suc k % 2 ^ k ≡ n % 2 ^ k = rw one-add at (mod-mod-pow n 1 k) in
    ap₂ (λ x t. eqb x 1 ∷ t) (ap (λ x. x % 2) e ∙ mod-mod (n / 2 ^ k) 2)
    (sym (in_bits_mod k (n % 2 ^ suc k)) ∙ ap (in_bits k) m ∙ in_bits_mod k n)

-- a digit above k bits
pub in_bits-cons : (d k v : ℕ) → v < 2 ^ k → in_bits (suc k) (d * 2 ^ k + v) ≡ eqb (d % 2) 1 ∷ in_bits k v
in_bits-cons d k v h =
    ap₂ (λ x t. eqb (x % 2) 1 ∷ t) (high d k h) (sym (in_bits_mod k (d * 2 ^ k + v)) ∙ ap (in_bits k) (low d k h))

pub in_bits_top : (k v : ℕ) → v < 2 ^ k → in_bits (suc k) (2 ^ k + v) ≡ true ∷ in_bits k v
in_bits_top k v h = ap (λ n. in_bits (suc k) (n + v)) (sym (one-mul (2 ^ k))) ∙ in_bits-cons 1 k v h

pub digit : (q : ℕ) → q < 2 → bit_value (eqb q 1) ≡ q
digit zero h = refl
digit (suc zero) h = refl
digit (suc (suc q)) h = absurd (omega arith)

pub value-in_bits : (k v : ℕ) → v < 2 ^ k → value (in_bits k v) ≡ v
value-in_bits zero v h = omega arith
value-in_bits (suc k) v h =
    let q : v / 2 ^ k < 2 = shr_lt 1 k (rw one-add h) in
    let d : bit_value (eqb (v / 2 ^ k % 2) 1) ≡ v / 2 ^ k = digit (v / 2 ^ k % 2) (omega arith) ∙ omega (arith, q) in
    let r : value (in_bits k v) ≡ v % 2 ^ k = ap value (sym (in_bits_mod k v)) ∙ value-in_bits k (v % 2 ^ k) (mod-lt v (pow_pos k)) in
    ap (λ l. bit_value (eqb (v / 2 ^ k % 2) 1) * 2 ^ l + value (in_bits k v)) (length-in_bits k v)
    ∙ ap₂ (λ x l. x * 2 ^ k + l) d r ∙ split v k

pub value_lt : (bs : List Bool) → value bs < 2 ^ length bs
value_lt [] = omega arith
value_lt (true ∷ bs) = omega (arith, value_lt bs, two_pow (length bs))
value_lt (false ∷ bs) = omega (arith, value_lt bs, two_pow (length bs))

pub in_bits-value : (bs : List Bool) → in_bits (length bs) (value bs) ≡ bs
in_bits-value [] = refl
in_bits-value (true ∷ bs) = in_bits-cons 1 (length bs) (value bs) (value_lt bs) ∙ ap (λ t. true ∷ t) (in_bits-value bs)
in_bits-value (false ∷ bs) = in_bits-cons 0 (length bs) (value bs) (value_lt bs) ∙ ap (λ t. false ∷ t) (in_bits-value bs)

pub value_push : (bs : List Bool) (b : Bool) → value (bs ++ (b ∷ [])) ≡ 2 * value bs + bit_value b
value_push [] b = omega arith
value_push (c ∷ bs) b =
    let p : 2 ^ length (bs ++ (b ∷ [])) ≡ 2 ^ length bs + 2 ^ length bs = ap (λ n. 2 ^ n) (length_push bs b ∙ add-one (length bs)) ∙ two_pow (length bs) in
    elim c as (λ d. bit_value d * 2 ^ length (bs ++ (b ∷ [])) + value (bs ++ (b ∷ [])) ≡ 2 * (bit_value d * 2 ^ length bs + value bs) + bit_value b) [ true ↦ omega (arith, value_push bs b) | false ↦ omega (arith, value_push bs b) ]

-- what stands above the lowest bits
pub in_bits_split : (k i n : ℕ) → i ≤ k → (front : List Bool) × (in_bits k n ≡ front ++ in_bits i n)
in_bits_split zero i n h = let e : zero ≡ i = omega arith in ([], ap (λ j. in_bits j n) e)
in_bits_split (suc k) i n h =
    ⊎_elim (λ l. let p = in_bits_split k i n (omega arith) in (eqb (n / 2 ^ k % 2) 1 ∷ p.0, ap (λ t. eqb (n / 2 ^ k % 2) 1 ∷ t) p.1))
    (λ l. let e : suc k ≡ i = omega arith in ([], ap (λ j. in_bits j n) e)) (cases_lt i (suc k))

-- a bit as the code casts it
pub byte_is : (b : Bool) → bool_byte b ≡ bit_value b
byte_is true = refl
byte_is false = refl

pub byte_le : (b : Bool) → bool_byte b ≤ 1
byte_le true = omega arith
byte_le false = omega arith

pub zeros-more : (z : ℕ) (t : List Bool) → replicate z false ++ (false ∷ t) ≡ replicate (z + 1) false ++ t
zeros-more z t = sym (append_assoc (replicate z false) (false ∷ []) t) ∙ ap (λ s. s ++ t) (replicate_more z false)
