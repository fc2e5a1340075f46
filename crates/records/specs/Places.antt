-- Lemmas: the places of byte records before and after a record number.
use Rattle.std.proofs.Common.{◌≡◌, ℕ, ◌+◌, ◌-◌, ◌/◌, ◌^◌, ◌<◌, ◌≤◌, min, List, [], ◌∷◌, reverse, length, get_or, take, drop, sym, ap, ◌∙◌, arith}
use Rattle.std.proofs.lemmas.List.{length-reverse}
use Rattle.std.proofs.lemmas.List.FromFn.{length-range_with_len, get_or-range_with_len}
use Rattle.std.proofs.lemmas.Grind.{common_steps}
use Rattle.model.specs.Cells.{Place, Fits}
use Rattle.backends.specs.Slices.{spread, before}
use Rattle.backends.specs.Sources.{AllFit}
use Rattle.backends.specs.Fronts.{how_many, how_many_left, newest_first, none_before, rest_next, none_left}
use Rattle.backends.specs.StoreLaws.{all_fit, each-reverse}
use Rattle.records.specs.Records.{place_at, numbers, record_stack, record_queue, record_room, record_at}

-- ---- the words fit

place_fits : (bytes : List ℕ) (i : ℕ) → Fits 32 (place_at bytes i)
place_fits bytes i = grind (arith, common_steps)

pub stack_fits : (bytes : List ℕ) (pos : ℕ) → AllFit 32 (reverse (record_stack bytes pos))
stack_fits bytes pos =
    each-reverse (Fits 32) (record_stack bytes pos) (
    all_fit 32 (place_at bytes) (place_fits bytes) (take (before (numbers bytes) pos) (numbers bytes)))

pub queue_fits : (bytes : List ℕ) (pos : ℕ) → AllFit 32 (record_queue bytes pos)
queue_fits bytes pos =
    all_fit 32 (place_at bytes) (place_fits bytes) (drop (before (numbers bytes) pos) (take (spread (numbers bytes)) (numbers bytes)))

-- ---- how many there are

pub many_numbers : (bytes : List ℕ) → length (numbers bytes) ≡ length bytes / 5
many_numbers bytes = length-range_with_len 0 (length bytes / 5)

pub room_is : (bytes : List ℕ) → spread (numbers bytes) ≡ record_room bytes
room_is bytes = ap (λ k. min (2 ^ 56) k) (many_numbers bytes)

module _ (bytes : List ℕ) (pos n : ℕ) (is : n ≡ record_at bytes pos) where
  pub stands : n ≡ before (numbers bytes) pos
  stands = is ∙ ap (λ k. min pos k) (sym (room_is bytes))

  pub many : length (record_stack bytes pos) ≡ n
  many = how_many (place_at bytes) (numbers bytes) pos n stands

  pub many_turned : length (reverse (record_stack bytes pos)) ≡ n
  many_turned = length-reverse (record_stack bytes pos) ∙ many

  pub many_left : length (record_queue bytes pos) ≡ record_room bytes - n
  many_left = how_many_left (place_at bytes) (numbers bytes) pos n stands ∙ ap (λ k. k - n) (room_is bytes)

  -- ---- the newest record, and the next

  pub newest : (p : Place) → (n ≡ 0 → ⊥) → place_at bytes (n - 1) ≡ p → reverse (record_stack bytes pos) ≡ p ∷ reverse (record_stack bytes (n - 1))
  newest p some e =
      let first = newest_first (place_at bytes) (numbers bytes) pos n stands 0 some in
      let number : get_or (numbers bytes) (n - 1) 0 ≡ n - 1 = get_or-range_with_len 0 (length bytes / 5) (n - 1) 0 (omega arith) ∙ omega arith in
      cc

  pub none_held : n ≡ 0 → reverse (record_stack bytes pos) ≡ []
  none_held z = ap reverse (none_before (place_at bytes) (numbers bytes) pos n stands z)

  pub next : (p : Place) → n < record_room bytes → place_at bytes n ≡ p → record_queue bytes pos ≡ p ∷ record_queue bytes (n + 1)
  next p h e =
      let l = many_numbers bytes in
      let first = rest_next (place_at bytes) (numbers bytes) pos n stands 0 (omega arith) (omega arith) in
      let number : get_or (numbers bytes) n 0 ≡ n = get_or-range_with_len 0 (length bytes / 5) n 0 (omega arith) ∙ omega arith in
      cc

  pub none_to_come : record_room bytes ≤ n → record_queue bytes pos ≡ []
  none_to_come h = let r = room_is bytes in none_left (place_at bytes) (numbers bytes) pos n stands (omega arith)
