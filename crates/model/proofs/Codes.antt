-- The Exp-Golomb code: its codewords and its parse.
use Rattle.std.proofs.Common.{◌≡◌, ℕ, zero, suc, ◌+◌, ◌-◌, ◌^◌, ◌<◌, ◌≤◌, Bool, true, false, ◌⊎◌, List, [], ◌∷◌, ◌++◌, reverse, length, take, drop, replicate, sym, refl, ap, ◌∙◌, ap₂, inl, inr, ⊎_elim, append_assoc, append-nil, add-zero, zero-add, add-one, arith, length-append, pow_pos, pow_mono, le-ltb, lt-ltb}
use mathlib.Core.List.{reverse-cons, reverse-append}
use lib.ListN.{length-replicate}
use Rattle.std.proofs.lemmas.List.{take_at, length-take-le, take-append-drop, replicate_more}
use Rattle.std.proofs.lemmas.Bool.{cases_lt}
use Rattle.model.specs.Codebooks.{Outcome, symbol, refused, short, garbled}
use Rattle.model.specs.Bits.{in_bits, value}
use Rattle.model.specs.Golomb.{log2, codeword, parse_rest, parse_from, parse}
use Rattle.model.proofs.Numbers.{two_pow, log2_is, log2_of, length-in_bits, in_bits_top, value-in_bits, value_lt, in_bits-value}

-- the codeword, from n + 1 as a power of two and what is left
pub codeword_is : (n k v : ℕ) → n + 1 ≡ 2 ^ k + v → v < 2 ^ k → codeword n ≡ replicate k false ++ (true ∷ in_bits k v)
unfolding codeword
codeword_is n k v e h =
    let l : log2 (n + 1) ≡ k = log2_is (n + 1) k (omega arith) (omega (arith, two_pow k)) in
    ap₂ (λ j m. replicate j false ++ in_bits (suc j) m) l e ∙ ap (λ t. replicate k false ++ t) (in_bits_top k v h)

-- every n has such a k and v
pub parts : (n : ℕ) → (k : ℕ) × (v : ℕ) × (n + 1 ≡ 2 ^ k + v) × (v < 2 ^ k)
parts n =
    let b = log2_of (n + 1) (omega arith) in
    let p : n + 1 ≡ 2 ^ log2 (n + 1) + ((n + 1) - 2 ^ log2 (n + 1)) = omega (arith, b) in
    (log2 (n + 1), (n + 1) - 2 ^ log2 (n + 1), p, omega (arith, b, two_pow (log2 (n + 1))))

pub length-codeword : (n k v : ℕ) → n + 1 ≡ 2 ^ k + v → v < 2 ^ k → length (codeword n) ≡ k + 1 + k
length-codeword n k v e h = ap length (codeword_is n k v e h) ∙ length-append (replicate k false) (true ∷ in_bits k v) ∙ ap₂ (λ a b. a + suc b) (length-replicate k false) (length-in_bits k v) ∙ omega arith

-- ---- the parse

pub parse-zeros : (B z i : ℕ) (bits : List Bool) → parse_from B i (replicate z false ++ bits) ≡ parse_from B (z + i) bits
unfolding parse_from
parse-zeros B zero i bits = ap (λ n. parse_from B n bits) (sym (zero-add i))
parse-zeros B (suc z) i bits = parse-zeros B z (i + 1) bits ∙ ap (λ n. parse_from B n bits) (omega arith)

-- what follows z zero bits and a one
pub parse-one : (B z : ℕ) (bits : List Bool) → parse B (replicate z false ++ (true ∷ bits)) ≡ parse_rest B z bits
unfolding parse_from
parse-one B z bits = parse-zeros B z 0 (true ∷ bits) ∙ ap (λ n. parse_rest B n bits) (add-zero z)

-- zero bits alone
pub parse_none : (B z : ℕ) → parse B (replicate z false) ≡ short garbled
unfolding parse_from
parse_none B z = ap (parse_from B 0) (sym (append-nil (replicate z false))) ∙ parse-zeros B z 0 []

-- zero bits alone, or zero bits and a one
pub first_one : (bits : List Bool) → ((z : ℕ) × (bits ≡ replicate z false)) ⊎ ((z : ℕ) × (rest : List Bool) × (bits ≡ replicate z false ++ (true ∷ rest)))
first_one [] = inl (0, refl)
first_one (true ∷ bits) = inr (0, bits, refl)
first_one (false ∷ bits) = ⊎_elim (λ p. inl (suc p.0, ap (λ t. false ∷ t) p.1)) (λ p. inr (suc p.0, p.1, ap (λ t. false ∷ t) p.2)) (first_one bits)

-- ---- parse_rest, by its three tests

pub rest_many : (B z : ℕ) (bits : List Bool) → B < z → parse_rest B z bits ≡ refused garbled (z + 1)
unfolding parse_rest
rest_many B z bits h = rw (lt-ltb B z h)

pub rest-short : (B z : ℕ) (bits : List Bool) → z ≤ B → length bits < z → parse_rest B z bits ≡ short garbled
unfolding parse_rest
rest-short B z bits h l = rw (le-ltb B z h, lt-ltb (length bits) z l)

pub rest_symbol : (B z : ℕ) (w rest : List Bool) → z ≤ B → length w ≡ z → (2 ^ z - 1) + value w < 2 ^ B → parse_rest B z (w ++ rest) ≡ symbol ((2 ^ z - 1) + value w) (z + 1 + z)
unfolding parse_rest
rest_symbol B z w rest h l f = rw (le-ltb B z h, le-ltb (length (w ++ rest)) z (omega (arith, length-append w rest)), take_at w rest z l, lt-ltb ((2 ^ z - 1) + value w) (2 ^ B) f)

pub rest_past : (B z : ℕ) (w rest : List Bool) → z ≤ B → length w ≡ z → 2 ^ B ≤ (2 ^ z - 1) + value w → parse_rest B z (w ++ rest) ≡ refused garbled (z + 1 + z)
unfolding parse_rest
rest_past B z w rest h l f = rw (le-ltb B z h, le-ltb (length (w ++ rest)) z (omega (arith, length-append w rest)), take_at w rest z l, le-ltb ((2 ^ z - 1) + value w) (2 ^ B) f)

-- ---- the laws

pub pow_le : (i j : ℕ) → 2 ^ i ≤ 2 ^ j → i ≤ j
pow_le i j h = ⊎_elim (λ l. absurd (omega (arith, pow_mono l, two_pow j, pow_pos j))) (λ l. l) (cases_lt j i)

-- the codeword of an n of B bits is parsed as n
pub parse-codeword : (B n : ℕ) (rest : List Bool) → n < 2 ^ B → parse B (codeword n ++ rest) ≡ symbol n (length (codeword n))
parse-codeword B n rest h =
    let p = parts n in
    let k = p.0 in
    let v = p.1 in
    let e : codeword n ++ rest ≡ replicate k false ++ (true ∷ (in_bits k v ++ rest)) = ap (λ t. t ++ rest) (codeword_is n k v p.2 p.3) ∙ append_assoc (replicate k false) (true ∷ in_bits k v) rest in
    let m : (2 ^ k - 1) + value (in_bits k v) ≡ n = ap (λ t. (2 ^ k - 1) + t) (value-in_bits k v p.3) ∙ omega (arith, p.2, pow_pos k) in
    let kB : k ≤ B = pow_le k B (omega (arith, p.2)) in
    ap (parse B) e ∙ parse-one B k (in_bits k v ++ rest) ∙ rest_symbol B k (in_bits k v) rest kB (length-in_bits k v) (rw m h)
    ∙ ap₂ (λ a b. symbol a b) m (sym (length-codeword n k v p.2 p.3))

-- what is parsed as a symbol begins with its codeword
pub parse-found : (B s n : ℕ) (bits : List Bool) → parse B bits ≡ symbol s n → (s < 2 ^ B) × (codeword s ≡ take n bits) × (n ≤ length bits)
parse-found B s n bits e =
    ⊎_elim
    (λ p. let x : ◌≡◌ {A = Outcome ℕ} (short garbled) (symbol s n) = sym (ap (parse B) p.1 ∙ parse_none B p.0) ∙ e in
    let no : ◌≡◌ {A = ℕ} 0 1 = cc in absurd (omega arith))
    (λ p. let z = p.0 in
    let rest = p.1 in
    let r : parse_rest B z rest ≡ symbol s n = sym (ap (parse B) p.2 ∙ parse-one B z rest) ∙ e in
    ⊎_elim (λ l. let x = sym (rest_many B z rest l) ∙ r in let no : ◌≡◌ {A = ℕ} 0 1 = cc in absurd (omega arith))
    (λ zB. ⊎_elim (λ l. let x = sym (rest-short B z rest zB l) ∙ r in let no : ◌≡◌ {A = ℕ} 0 1 = cc in absurd (omega arith))
    (λ l. let w = take z rest in
    let lw : length w ≡ z = length-take-le z rest l in
    let cut : w ++ drop z rest ≡ rest = take-append-drop z rest in
    ⊎_elim
    (λ f. let x : symbol ((2 ^ z - 1) + value w) (z + 1 + z) ≡ symbol s n = sym (ap (parse_rest B z) (sym cut) ∙ rest_symbol B z w (drop z rest) zB lw f) ∙ r in
    let es : s ≡ (2 ^ z - 1) + value w = cc in
    let en : n ≡ z + 1 + z = cc in
    let vl : value w < 2 ^ z = rw lw at (value_lt w) in
    let c : codeword s ≡ replicate z false ++ (true ∷ w) = codeword_is s z (value w) (omega (arith, pow_pos z)) vl ∙ ap (λ t. replicate z false ++ (true ∷ t)) (ap (λ j. in_bits j (value w)) (sym lw) ∙ in_bits-value w) in
    let b : bits ≡ (replicate z false ++ (true ∷ w)) ++ drop z rest = p.2 ∙ ap (λ t. replicate z false ++ (true ∷ t)) (sym cut) ∙ sym (append_assoc (replicate z false) (true ∷ w) (drop z rest)) in
    let ln : length (replicate z false ++ (true ∷ w)) ≡ n = length-append (replicate z false) (true ∷ w) ∙ omega (arith, length-replicate z false) in
    (omega arith, c ∙ sym (ap (take n) b ∙ take_at (replicate z false ++ (true ∷ w)) (drop z rest) n ln), omega (arith, ap length b, length-append (replicate z false ++ (true ∷ w)) (drop z rest))))
    (λ f. let x = sym (ap (parse_rest B z) (sym cut) ∙ rest_past B z w (drop z rest) zB lw f) ∙ r in let no : ◌≡◌ {A = ℕ} 0 1 = cc in absurd (omega arith))
    (cases_lt ((2 ^ z - 1) + value w) (2 ^ B)))
    (cases_lt (length rest) z))
    (cases_lt B z))
    (first_one bits)

-- the codeword, last bit first
reverse-zeros : (k : ℕ) → reverse (replicate k false) ≡ replicate k false
reverse-zeros zero = refl
reverse-zeros (suc k) = reverse-cons false (replicate k false) ∙ ap (λ t. t ++ (false ∷ [])) (reverse-zeros k) ∙ replicate_more k false ∙ ap (λ n. replicate n false) (add-one k)

pub reversed_is : (n k v : ℕ) → n + 1 ≡ 2 ^ k + v → v < 2 ^ k → reverse (codeword n) ≡ reverse (in_bits k v) ++ (true ∷ replicate k false)
reversed_is n k v e h =
    ap reverse (codeword_is n k v e h) ∙ reverse-append (replicate k false) (true ∷ in_bits k v)
    ∙ ap₂ (λ s t. s ++ t) (reverse-cons true (in_bits k v)) (reverse-zeros k) ∙ append_assoc (reverse (in_bits k v)) (true ∷ []) (replicate k false)

-- a number that was parsed and not refused is one of B bits
pub fits_width : (B z v r : ℕ) → z ≤ B → v < 2 ^ z → r + 1 ≡ 2 ^ z → ((z ≡ B) × (v ≡ 0)) ⊎ (z ≡ B → ⊥) → r + v < 2 ^ B
fits_width B z v r h l e (inl (zB, v0)) = omega (arith, pow_mono h)
fits_width B z v r h l e (inr ne) =
    let m : suc z ≤ B = omega arith in
    omega (arith, pow_mono m, two_pow z)
