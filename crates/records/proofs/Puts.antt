-- What writing one record does to the places.
use Rattle.std.proofs.Common.{◌≡◌, ℕ, ◌+◌, ◌*◌, ◌/◌, ◌%◌, ◌^◌, ◌<◌, ◌≤◌, min, List, [], ◌∷◌, ◌++◌, map, length, get_or, take, sym, ap, ◌∙◌, arith, length-set}
use Rattle.std.specs.List.{range_with_len}
use Rattle.std.proofs.lemmas.Grind.{common_steps}
use Rattle.std.proofs.lemmas.List.{take-map}
use Rattle.std.proofs.lemmas.List.FromFn.{length-map-range_with_len, get_or-map-range_with_len, take-map-range_with_len, map-range_with_len_more, fill_by_all}
use Rattle.model.specs.Cells.{Place, word}
use Rattle.backends.specs.Slices.{before}
use Rattle.records.specs.Records.{place_at, numbers, record_stack, record_room, record_at, put_record}
use Rattle.records.specs.Places.{many_numbers, stands}

-- so many bytes as before
long : (bytes : List ℕ) (at w : ℕ) → length (put_record bytes at w) ≡ length bytes
long bytes at w = simp length-set

module _ (bytes : List ℕ) (at w : ℕ) where
  -- a byte of no other record changes
  put_other : (i : ℕ) → (5 * at ≤ i → i < 5 * at + 5 → ⊥) → get_or (put_record bytes at w) i 0 ≡ get_or bytes i 0
  put_other i out = grind (arith, common_steps)

  -- nor does the place of another record
  pub same_place : (j : ℕ) → (j ≡ at → ⊥) → place_at (put_record bytes at w) j ≡ place_at bytes j
  same_place j other =
      let e0 = put_other (5 * j) (λ a b. other (omega arith)) in
      let e1 = put_other (5 * j + 1) (λ a b. other (omega arith)) in
      let e2 = put_other (5 * j + 2) (λ a b. other (omega arith)) in
      let e3 = put_other (5 * j + 3) (λ a b. other (omega arith)) in
      let e4 = put_other (5 * j + 4) (λ a b. other (omega arith)) in
      cc

  -- the word is there
  pub placed : 5 * at + 5 ≤ length bytes → w < 2 ^ 32 → place_at (put_record bytes at w) at ≡ word (w % 2 ^ 32)
  placed has small = grind (arith, common_steps)

-- ---- the stack

taken : (f : ℕ → Place) (m k : ℕ) → k ≤ m → map f (take k (range_with_len 0 m)) ≡ map f (range_with_len 0 k)
taken f m k h = sym (take-map f k (range_with_len 0 m)) ∙ take-map-range_with_len f 0 m k h

module _ (bytes : List ℕ) (pos n w : ℕ) (is : n ≡ record_at bytes pos) where
  pub same-room : record_room (put_record bytes n w) ≡ record_room bytes
  same-room = ap (λ k. min (2 ^ 56) (k / 5)) (long bytes n w)

  same-before : map (place_at (put_record bytes n w)) (range_with_len 0 n) ≡ map (place_at bytes) (range_with_len 0 n)
  same-before =
      let f = place_at (put_record bytes n w) in
      fill_by_all (place_at bytes) (map f (range_with_len 0 n)) n (word 0) (length-map-range_with_len f 0 n) (λ k lt.
      get_or-map-range_with_len f 0 n k k (word 0) lt (omega arith) ∙ same_place bytes n w k (λ e. omega arith))

  -- one record more
  pub one_more : n < record_room bytes → w < 2 ^ 32 → record_stack (put_record bytes n w) (n + 1) ≡ record_stack bytes pos ++ (word (w % 2 ^ 32) ∷ [])
  one_more h small =
      let f = place_at (put_record bytes n w) in
      let l = many_numbers bytes in
      let m = many_numbers (put_record bytes n w) in
      let k = long bytes n w in
      let up : before (numbers (put_record bytes n w)) (n + 1) ≡ n + 1 = omega arith in
      let then = taken f (length bytes / 5) (n + 1) (omega arith) in
      let now = taken (place_at bytes) (length bytes / 5) n (omega arith) in
      let one = map-range_with_len_more f 0 n n (omega arith) in
      let here = placed bytes n w (omega arith) small in
      let others = same-before in
      let at = stands bytes pos n is in
      cc
