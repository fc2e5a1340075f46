-- Bits in words, words in places, and the seal.
use Rattle.std.proofs.Common.{◌≡◌, ℕ, zero, suc, ◌+◌, ◌-◌, ◌*◌, ◌/◌, ◌%◌, ◌^◌, ◌<◌, Bool, true, false, eqb, ◌⊎◌, List, [], ◌∷◌, ◌++◌, length, take, drop, replicate, sym, refl, ap, ◌∙◌, ap₂, inl, inr, append_assoc, arith, length-append, length-drop}
use lib.ListN.{length-replicate}
use Rattle.std.proofs.lemmas.List.{take_at, drop_at, length-take-le, take-append-drop, nil_from_length}
use Rattle.std.proofs.lemmas.Nat.{div-mul-add, mod-mul-add}
use Rattle.model.specs.Bits.{low_bits, low_value, zeros}
use Rattle.model.specs.Cells.{Place, word, fault, Fits, word_places, Cell, bit, bad, bits, cells_at, cells_of, mark}
use Rattle.model.specs.Links.{Each}
use Rattle.model.specs.Runs.{sealed, first_words, words_of, sealed_words}
use Rattle.model.proofs.CellLists.{length-bits, bits-append}
use Rattle.model.proofs.Numbers.{digit, two_pow}

-- ---- a word

pub length-low_bits : (k n : ℕ) → length (low_bits k n) ≡ k
length-low_bits zero n = refl
length-low_bits (suc k) n = ap suc (length-low_bits k (n / 2))

pub low_value-low_bits : (k n : ℕ) → n < 2 ^ k → low_value (low_bits k n) ≡ n
low_value-low_bits zero n h = omega arith
low_value-low_bits (suc k) n h = omega (arith, digit (n % 2) (omega arith), low_value-low_bits k (n / 2) (omega (arith, two_pow k)))

pub low_bits-low_value : (bs : List Bool) → low_bits (length bs) (low_value bs) ≡ bs
low_bits-low_value [] = refl
low_bits-low_value (true ∷ bs) =
    let v = low_value bs in
    let q : (1 + 2 * v) / 2 ≡ v = omega arith in
    let r : (1 + 2 * v) % 2 ≡ 1 = omega arith in
    ap₂ (λ x y. eqb x 1 ∷ low_bits (length bs) y) r q ∙ ap (λ t. true ∷ t) (low_bits-low_value bs)
low_bits-low_value (false ∷ bs) =
    let v = low_value bs in
    let q : (0 + 2 * v) / 2 ≡ v = omega arith in
    let r : (0 + 2 * v) % 2 ≡ 0 = omega arith in
    ap₂ (λ x y. eqb x 1 ∷ low_bits (length bs) y) r q ∙ ap (λ t. false ∷ t) (low_bits-low_value bs)

-- zero bits alone, or a last one bit with zeros above it
pub last_one : (bs : List Bool) → (bs ≡ zeros (length bs)) ⊎ ((a : List Bool) × (z : ℕ) × (bs ≡ a ++ (true ∷ zeros z)))
last_one [] = inl refl
last_one (b ∷ bs) = more b (last_one bs)
  where
    more : (c : Bool) → (bs ≡ zeros (length bs)) ⊎ ((a : List Bool) × (z : ℕ) × (bs ≡ a ++ (true ∷ zeros z))) → (c ∷ bs ≡ zeros (suc (length bs))) ⊎ ((a : List Bool) × (z : ℕ) × (c ∷ bs ≡ a ++ (true ∷ zeros z)))
    more c (inr (a, z, e)) = inr (c ∷ a, z, ap (λ t. c ∷ t) e)
    more true (inl e) = inr ([], length bs, ap (λ t. true ∷ t) e)
    more false (inl e) = inl (ap (λ t. false ∷ t) e)

-- ---- cells

pub bits-same : (v w : List Bool) → bits v ≡ bits w → v ≡ w
bits-same [] [] e = refl
bits-same [] (b ∷ w) e = let no : ◌≡◌ {A = ℕ} 0 1 = cc in absurd (omega arith)
bits-same (a ∷ v) [] e = let no : ◌≡◌ {A = ℕ} 0 1 = cc in absurd (omega arith)
bits-same (a ∷ v) (b ∷ w) e =
    let c : bit a ≡ bit b = cc in
    let h : a ≡ b = cc in
    let t : bits v ≡ bits w = cc in
    ap₂ ◌∷◌ h (bits-same v w t)

take-bits : (n : ℕ) (v : List Bool) → take n (bits v) ≡ bits (take n v)
take-bits zero v = refl
take-bits (suc n) [] = refl
take-bits (suc n) (b ∷ v) = ap (λ t. bit b ∷ t) (take-bits n v)

drop_of_bits : (n : ℕ) (v : List Bool) → drop n (bits v) ≡ bits (drop n v)
drop_of_bits zero v = refl
drop_of_bits (suc n) [] = refl
drop_of_bits (suc n) (b ∷ v) = drop_of_bits n v

length-cells_at : (w : ℕ) (p : Place) → length (cells_at w p) ≡ w
length-cells_at w (word n) = length-bits (low_bits w n) ∙ length-low_bits w n
length-cells_at w (fault k) = length-replicate w (bad k)

pub length-cells_of : (w : ℕ) (ps : List Place) → length (cells_of w ps) ≡ length ps * w
length-cells_of w [] = omega arith
length-cells_of w (p ∷ ps) = length-append (cells_at w p) (cells_of w ps) ∙ omega (arith, length-cells_at w p, length-cells_of w ps)

-- places end at a word's edge
pub at_edge : (w : ℕ) (ps : List Place) → 0 < w → length (cells_of w ps) % w ≡ 0
at_edge w ps pos = ap (λ l. l % w) (length-cells_of w ps ∙ omega arith) ∙ mod-mul-add (length ps) w 0 pos

pub cells_of-append : (w : ℕ) (ps qs : List Place) → cells_of w (ps ++ qs) ≡ cells_of w ps ++ cells_of w qs
cells_of-append w [] qs = refl
cells_of-append w (p ∷ ps) qs = ap (λ t. cells_at w p ++ t) (cells_of-append w ps qs) ∙ sym (append_assoc (cells_at w p) (cells_of w ps) (cells_of w qs))

-- ---- words

-- the words of bits hold these bits
cells_words : (w n : ℕ) (bs : List Bool) → length bs ≡ n * w → cells_of w (word_places (first_words w n bs)) ≡ bits bs
cells_words w zero bs h = ap bits (sym (nil_from_length bs (omega arith)))
cells_words w (suc n) bs h =
    let lt : length (take w bs) ≡ w = length-take-le w bs (omega arith) in
    let a : low_bits w (low_value (take w bs)) ≡ take w bs = ap (λ k. low_bits k (low_value (take w bs))) (sym lt) ∙ low_bits-low_value (take w bs) in
    ap₂ ◌++◌ (ap bits a) (cells_words w n (drop w bs) (omega (arith, length-drop w bs)))
    ∙ sym (bits-append (take w bs) (drop w bs)) ∙ ap bits (take-append-drop w bs)

fault_no_bit : (w k : ℕ) (cs : List Cell) (bs : List Bool) → 0 < w → replicate w (bad k) ++ cs ≡ bits bs → ⊥
fault_no_bit zero k cs bs pos e = omega arith
fault_no_bit (suc w) k cs [] pos e = let no : ◌≡◌ {A = ℕ} 0 1 = cc in omega arith
fault_no_bit (suc w) k cs (b ∷ bs) pos e = let no : ◌≡◌ {A = ℕ} 0 1 = cc in omega arith

-- places that hold bits alone are the words of these bits
places_words : (w : ℕ) (ps : List Place) (bs : List Bool) → 0 < w → Each (Fits w) ps → cells_of w ps ≡ bits bs → ps ≡ word_places (first_words w (length ps) bs)
places_words w [] bs pos f e = refl
places_words w (word n ∷ ps) bs pos f e =
    let l : length (bits (low_bits w n)) ≡ w = length-cells_at w (word n) in
    let a : bits (low_bits w n) ≡ bits (take w bs) = sym (take_at (bits (low_bits w n)) (cells_of w ps) w l) ∙ ap (take w) e ∙ take-bits w bs in
    let v : n ≡ low_value (take w bs) = sym (low_value-low_bits w n f.0) ∙ ap low_value (bits-same (low_bits w n) (take w bs) a) in
    let r : cells_of w ps ≡ bits (drop w bs) = sym (drop_at (bits (low_bits w n)) (cells_of w ps) w l) ∙ ap (drop w) e ∙ drop_of_bits w bs in
    ap₂ (λ m t. word m ∷ t) v (places_words w ps (drop w bs) pos f.1 r)
places_words w (fault k ∷ ps) bs pos f e = absurd (fault_no_bit w k (cells_of w ps) bs pos e)

-- ---- the seal

seal_length : (w : ℕ) (bs : List Bool) → 0 < w → length (sealed w bs) ≡ (length bs / w + 1) * w
unfolding sealed
seal_length w bs h =
    let z = (w - 1) - length bs % w in
    length-append bs (true ∷ zeros z) ∙ omega (arith, length-replicate z false)

-- the cells of sealed words
pub cells_sealed : (w : ℕ) (bs : List Bool) → 0 < w → cells_of w (word_places (sealed_words w bs)) ≡ bits (sealed w bs)
unfolding sealed_words words_of
cells_sealed w bs h =
    let n = length bs / w + 1 in
    let q : length (sealed w bs) / w ≡ n = ap (λ l. l / w) (seal_length w bs h ∙ omega arith) ∙ div-mul-add n w 0 h in
    ap (λ k. cells_of w (word_places (first_words w k (sealed w bs)))) q ∙ cells_words w n (sealed w bs) (seal_length w bs h)

pub sealed-mark : (w : ℕ) (bs : List Bool) → bits (sealed w bs) ≡ bits bs ++ mark ((w - 1) - length bs % w)
unfolding sealed
sealed-mark w bs = bits-append bs (true ∷ zeros ((w - 1) - length bs % w))

-- how many zeros fill a word
pad : (w l z q : ℕ) → l + suc z ≡ q * w → z < w → (w - 1) - l % w ≡ z
pad w l z zero e h = absurd (omega arith)
pad w l z (suc p) e h =
    let r : l ≡ p * w + ((w - 1) - z) = omega arith in
    let m : l % w ≡ (w - 1) - z = ap (λ n. n % w) r ∙ mod-mul-add p w ((w - 1) - z) (omega arith) in
    omega arith

-- places that hold bits and a mark are the sealed words of these bits
pub places_sealed : (w : ℕ) (ps : List Place) (bs : List Bool) (z : ℕ) → 0 < w → Each (Fits w) ps → z < w → cells_of w ps ≡ bits bs ++ mark z → ps ≡ word_places (sealed_words w bs)
unfolding sealed_words words_of sealed
places_sealed w ps bs z pos f h e =
    let all = bs ++ (true ∷ zeros z) in
    let c : cells_of w ps ≡ bits all = e ∙ sym (bits-append bs (true ∷ zeros z)) in
    let n : length all ≡ length ps * w = sym (length-bits all) ∙ ap length (sym c) ∙ length-cells_of w ps in
    let l : length bs + suc z ≡ length ps * w = omega (arith, length-append bs (true ∷ zeros z), length-replicate z false) in
    let s : sealed w bs ≡ all = ap (λ k. bs ++ (true ∷ zeros k)) (pad w (length bs) z (length ps) l h) in
    let q : length all / w ≡ length ps = ap (λ k. k / w) (n ∙ omega arith) ∙ div-mul-add (length ps) w 0 pos in
    places_words w ps all pos f c ∙ ap (λ k. word_places (first_words w k all)) (sym q) ∙ ap (λ t. word_places (first_words w (length t / w) t)) (sym s)
