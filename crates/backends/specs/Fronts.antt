-- Lemmas: the places of a slice before and after a position, one more or one less.
use Rattle.std.specs.Prelude.{◌≡◌, ℕ, ◌+◌, ◌-◌, ◌^◌, ◌<◌, ◌≤◌, List, [], ◌∷◌, ◌++◌, map, reverse, length, take, drop, ◌≢◌, slice_index_or, refl}
use Rattle.std.proofs.Common.{sym, ap, ap₂, ◌∙◌, arith, length-drop}
use mathlib.Core.List.{reverse-append, reverse-cons}
use Rattle.std.proofs.lemmas.List.{take_more, map-append, length-take-le, drop_more, get_or-take, length-map, nil_from_length}
use Rattle.model.specs.Cells.{Place}
use Rattle.backends.specs.Slices.{spread, before, front, rest}

-- what is made of a list that is turned
pub map-reverse : {A B : Type 0} (f : A → B) (xs : List A) → map f (reverse xs) ≡ reverse (map f xs)
map-reverse f [] = refl
map-reverse f (x ∷ xs) =
    ap (map f) (reverse-cons x xs)
    ∙ map-append f (reverse xs) (x ∷ [])
    ∙ ap (λ t. t ++ (f x ∷ [])) (map-reverse f xs)
    ∙ sym (reverse-cons (f x) (map f xs))

module _ {A : Type 0} (place : A → Place) (xs : List A) (pos n : ℕ) (is : n ≡ before xs pos) where
  pub within : n ≤ spread xs
  within = omega arith

  pub how_many : length (front place xs pos) ≡ n
  how_many = length-map (take (before xs pos) xs) place ∙ length-take-le (before xs pos) xs (omega arith) ∙ sym is

  pub how_many_left : length (rest place xs pos) ≡ spread xs - n
  how_many_left =
      length-map (drop (before xs pos) (take (spread xs) xs)) place
      ∙ length-drop (before xs pos) (take (spread xs) xs)
      ∙ ap₂ (λ a b. a - b) (length-take-le (spread xs) xs (omega arith)) (sym is)

  front_at : front place xs pos ≡ map place (take n xs)
  front_at = ap (λ k. map place (take k xs)) (sym is)

  -- one less
  pub front_last : (d : A) → (n ≢ 0) → front place xs pos ≡ front place xs (n - 1) ++ (place (slice_index_or xs (n - 1) d) ∷ [])
  front_last d some =
      let w = within in
      let e : n ≡ (n - 1) + 1 = omega arith in
      let u : n - 1 ≡ before xs (n - 1) = omega arith in
      let lt : n - 1 < length xs = omega arith in
      front_at
      ∙ ap (λ k. map place (take k xs)) e
      ∙ ap (map place) (take_more xs (n - 1) d lt)
      ∙ map-append place (take (n - 1) xs) (slice_index_or xs (n - 1) d ∷ [])
      ∙ ap (λ k. map place (take k xs) ++ (place (slice_index_or xs (n - 1) d) ∷ [])) u

  pub newest_first : (d : A) → (n ≢ 0) → reverse (front place xs pos) ≡ place (slice_index_or xs (n - 1) d) ∷ reverse (front place xs (n - 1))
  newest_first d some = ap reverse (front_last d some) ∙ reverse-append (front place xs (n - 1)) (place (slice_index_or xs (n - 1) d) ∷ [])

  pub none_before : n ≡ 0 → front place xs pos ≡ []
  none_before z = front_at ∙ ap (λ k. map place (take k xs)) z

  -- the next
  pub rest_next : (d : A) → n < length xs → n < 2 ^ 56 → rest place xs pos ≡ place (slice_index_or xs n d) ∷ rest place xs (n + 1)
  rest_next d h b =
      let u : n + 1 ≡ before xs (n + 1) = omega arith in
      let long : length (take (spread xs) xs) ≡ spread xs = length-take-le (spread xs) xs (omega arith) in
      let lt : n < length (take (spread xs) xs) = omega arith in
      ap (λ k. map place (drop k (take (spread xs) xs))) (sym is)
      ∙ ap (map place) (drop_more (take (spread xs) xs) n d lt)
      ∙ ap₂ (λ x k. place x ∷ map place (drop k (take (spread xs) xs))) (get_or-take (spread xs) xs n d (omega arith)) u

  pub none_left : spread xs ≤ n → rest place xs pos ≡ []
  none_left h = nil_from_length (rest place xs pos) (how_many_left ∙ omega arith)
