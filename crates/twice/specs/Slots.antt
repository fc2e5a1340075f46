-- Lemmas: the places before a position, one more or one less.
use Rattle.std.proofs.Common.{◌≡◌, ℕ, ◌+◌, ◌-◌, ◌*◌, ◌/◌, ◌%◌, ◌^◌, ◌<◌, min, List, [], ◌∷◌, ◌++◌, map, reverse, length, ap, ◌∙◌, arith}
use Rattle.std.specs.List.{range_with_len}
use Rattle.std.proofs.lemmas.Grind.{common_steps}
use Rattle.std.proofs.lemmas.List.{length-set}
use Rattle.std.proofs.lemmas.List.FromFn.{length-map-range_with_len, get_or-map-range_with_len, map-range_with_len_more, fill_by_all}
use Rattle.model.specs.Cells.{Place, word, Fits}
use Rattle.backends.specs.Sources.{AllFit}
use Rattle.backends.specs.StoreLaws.{all_fit, each-reverse}
use Rattle.twice.specs.Places.{slot_at, slots_of, slots_before, places_of, put_twice}

-- ---- the words fit

slot_fits : (bytes : List ℕ) (i : ℕ) → Fits 8 (slot_at bytes i)
slot_fits bytes i = grind (arith, common_steps)

pub all_fits : (bytes : List ℕ) (pos : ℕ) → AllFit 8 (reverse (places_of bytes pos))
all_fits bytes pos =
    each-reverse (Fits 8) (places_of bytes pos) (all_fit 8 (slot_at bytes) (slot_fits bytes) (range_with_len 0 (slots_before bytes pos)))

-- ---- a word in slot i

module _ (bytes : List ℕ) (i w : ℕ) where
  pub same-room : slots_of (put_twice bytes i w) ≡ slots_of bytes
  same-room = ap (λ k. min (2 ^ 56) (k / 2)) (simp length-set)

  -- no other slot changes
  other_slot : (j : ℕ) → (j ≡ i → ⊥) → slot_at (put_twice bytes i w) j ≡ slot_at bytes j
  other_slot j other = grind (arith, common_steps)

  -- and this one is the word
  this_slot : 2 * i + 1 < length bytes → slot_at (put_twice bytes i w) i ≡ word (w % 2 ^ 8)
  this_slot has = grind (arith, common_steps)

-- ---- the places

module _ (bytes : List ℕ) (pos n : ℕ) (is : n ≡ slots_before bytes pos) where
  pub many : length (places_of bytes pos) ≡ n
  many = grind (arith, common_steps, length-map-range_with_len)

  pub none : n ≡ 0 → reverse (places_of bytes pos) ≡ []
  none z = grind (arith, common_steps)

  pub newest : (p : Place) → 0 < n → slot_at bytes (n - 1) ≡ p → reverse (places_of bytes pos) ≡ p ∷ reverse (places_of bytes (n - 1))
  newest p some e = grind (arith, common_steps, map-range_with_len_more (slot_at bytes) 0 (n - 1) (n - 1))

  same-before : (w : ℕ) → map (slot_at (put_twice bytes n w)) (range_with_len 0 n) ≡ map (slot_at bytes) (range_with_len 0 n)
  same-before w =
      let f = slot_at (put_twice bytes n w) in
      fill_by_all (slot_at bytes) (map f (range_with_len 0 n)) n (word 0) (length-map-range_with_len f 0 n) (λ k lt.
      get_or-map-range_with_len f 0 n k k (word 0) lt (omega arith) ∙ other_slot bytes n w k (λ e. omega arith))

  pub more : (w : ℕ) → n < slots_of bytes → places_of (put_twice bytes n w) (n + 1) ≡ places_of bytes pos ++ (word (w % 2 ^ 8) ∷ [])
  more w free =
      grind (arith, common_steps, map-range_with_len_more (slot_at (put_twice bytes n w)) 0 n n, same-before w, this_slot bytes n w)
