-- The places of a slice that is filled from its end down, and of a slice that is turned.
use Rattle.std.proofs.Common.{◌≡◌, ℕ, ◌+◌, ◌-◌, ◌^◌, ◌≤◌, min, List, ◌∷◌, ◌++◌, map, reverse, length, take, drop, set, Ok, Err, sym, refl, ap, ◌∙◌, ap₂, arith, length-drop, length-set, take-append-drop, take_all, take_at, drop_at}
use mathlib.Core.List.{reverse-append, reverse-cons, reverse-reverse}
use lib.Seq.{take-set-lt}
use Rattle.std.proofs.lemmas.List.{drop-set, length-reverse, length-take-le}
use Rattle.model.specs.Cells.{Place}
use Rattle.model.specs.Refusals.{Answer}
use Rattle.model.specs.Stores.{StackWritten}
use Rattle.cursors.specs.declared.cursor.Cursor.{Cursor}
use Rattle.cursors.specs.Cursors.{at, queued, room_of}
use Rattle.cursors.specs.Reversed.{PutBelow}
use Rattle.backends.specs.Slices.{spread, before, front, rest, word_at}
use Rattle.backends.specs.Fronts.{how_many_left, map-reverse}

turned-spread : {A : Type 0} (xs : List A) → spread (reverse xs) ≡ spread xs
turned-spread xs = ap (λ k. min (2 ^ 56) k) (length-reverse xs)

module _ {A : Type 0} (place : A → Place) (xs : List A) (pos n : ℕ) (is : n ≡ before xs pos) where
  -- the slot below the position is written
  rest_less : (x : A) → (n ≡ 0 → ⊥) → rest place (set xs (n - 1) x) (n - 1) ≡ place x ∷ rest place xs pos
  rest_less x some =
      let l = length-set xs (n - 1) x in
      let here : before (set xs (n - 1) x) (n - 1) ≡ n - 1 = omega arith in
      let wide : spread (set xs (n - 1) x) ≡ spread xs = omega arith in
      let long : length (take (spread xs) xs) ≡ spread xs = length-take-le (spread xs) xs (omega arith) in
      let next : (n - 1) + 1 ≡ before xs pos = omega arith in
      ap₂ (λ k m. map place (drop k (take m (set xs (n - 1) x)))) here wide
      ∙ ap (λ t. map place (drop (n - 1) t)) (take-set-lt (spread xs) xs (n - 1) x (omega arith))
      ∙ ap (map place) (drop-set (take (spread xs) xs) (n - 1) x (omega arith))
      ∙ ap (λ k. place x ∷ map place (drop k (take (spread xs) xs))) next

  -- the turned slice, with the position counted from its end
  module _ (few : length xs ≤ 2 ^ 56) where
    halves : reverse xs ≡ reverse (drop n xs) ++ reverse (take n xs)
    halves = ap reverse (sym (take-append-drop n xs)) ∙ reverse-append (take n xs) (drop n xs)

    size : length (reverse (drop n xs)) ≡ length xs - n
    size = length-reverse (drop n xs) ∙ length-drop n xs

    there : before (reverse xs) (length xs - n) ≡ length xs - n
    there = let l = length-reverse xs in omega arith

    all : take (spread (reverse xs)) (reverse xs) ≡ reverse xs
    all = let l = length-reverse xs in take_all (spread (reverse xs)) (reverse xs) (omega arith)

    turned-rest : rest place (reverse xs) (length xs - n) ≡ reverse (front place xs pos)
    turned-rest =
        ap₂ (λ k t. map place (drop k t)) there (all ∙ halves)
        ∙ ap (map place) (drop_at (reverse (drop n xs)) (reverse (take n xs)) (length xs - n) size)
        ∙ map-reverse place (take n xs)
        ∙ ap (λ k. reverse (map place (take k xs))) is

    turned-front : front place (reverse xs) (length xs - n) ≡ reverse (rest place xs pos)
    turned-front =
        let m : length xs ≤ spread xs = omega arith in
        ap₂ (λ k t. map place (take k t)) there halves
        ∙ ap (map place) (take_at (reverse (drop n xs)) (reverse (take n xs)) (length xs - n) size)
        ∙ map-reverse place (drop n xs)
        ∙ ap₂ (λ k t. reverse (map place (drop k t))) is (sym (take_all (spread xs) xs m))

-- a slice that is another one turned, and a position counted from its other end
module _ {A : Type 0} (place : A → Place) (xs ys : List A) (pos k : ℕ) (turn : ys ≡ reverse xs) (other_end : k ≡ length xs - before xs pos) (few : length xs ≤ 2 ^ 56) where
  pub rest_of_turned : rest place ys k ≡ reverse (front place xs pos)
  rest_of_turned = ap₂ (λ zs p. rest place zs p) turn other_end ∙ turned-rest place xs pos (before xs pos) refl few

  pub front_of_turned : front place ys k ≡ reverse (rest place xs pos)
  front_of_turned = ap₂ (λ zs p. front place zs p) turn other_end ∙ turned-front place xs pos (before xs pos) refl few

  pub rest_turned_back : reverse (rest place ys k) ≡ front place xs pos
  rest_turned_back = ap reverse rest_of_turned ∙ reverse-reverse (front place xs pos)

  pub front_turned_back : reverse (front place ys k) ≡ rest place xs pos
  front_turned_back = ap reverse front_of_turned ∙ reverse-reverse (rest place xs pos)

pub spread_of_turned : {A : Type 0} (xs ys : List A) → ys ≡ reverse xs → spread ys ≡ spread xs
spread_of_turned xs ys turn = ap spread turn ∙ turned-spread xs

-- what makes a turned cursor the same store
pub ruleset turning = (rest_of_turned, front_of_turned, rest_turned_back, front_turned_back, spread_of_turned)

-- A word put below the position is a write to the stack of the reversed cursor.
module _ {W : Type 0} (value : W → ℕ) (s t : Cursor W) (x : W) where
  many : length (reverse (queued value s)) ≡ room_of s - at s
  many = length-reverse (queued value s) ∙ how_many_left (word_at value) s.buf.now s.pos (at s) refl

  pub put_means : (r : Answer (Unit {0})) → PutBelow s x r t → StackWritten (room_of s) (reverse (queued value s)) (value x) r (reverse (queued value t))
  put_means (Ok _) (some, put) =
      let l = many in (
        omega arith,
        ap₂ (λ ys p. reverse (rest (word_at value) ys p)) put.slots put.stands
            ∙ ap reverse (rest_less (word_at value) s.buf.now s.pos (at s) refl x (λ z. omega arith))
            ∙ reverse-cons (word_at value x) (queued value s),
      )
  put_means (Err e) (none, full, still) = (many ∙ omega arith, full, ap (λ c. reverse (queued value c)) still)
