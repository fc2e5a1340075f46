-- The bits of a codeword, as they are handed over several at a time.
use Rattle.std.proofs.Common.{◌≡◌, ℕ, zero, suc, ◌+◌, ◌-◌, ◌*◌, ◌^◌, ◌<◌, ◌≤◌, true, false, [], ◌∷◌, ◌++◌, reverse, Some, sym, refl, ap, ◌∙◌, ap₂, ⊎_elim, arith}
use mathlib.Core.List.{reverse-cons}
use Rattle.std.proofs.lemmas.Bool.{cases_lt}
use Rattle.model.specs.Bits.{in_bits, low_bits}
use Rattle.model.specs.Golomb.{code_at}
use Rattle.model.specs.Sinks.{reversed}
use Rattle.model.proofs.Clause.{code-at}
use Rattle.model.proofs.Numbers.{two_pow, in_bits-cons, in_bits_top}
use Rattle.model.proofs.Codes.{codeword_is, reversed_is}
use Rattle.words.specs.LowBits.{low_one, low_zero, zero_low}
use Rattle.codebooks.specs.Streams.{handed}
use Rattle.codebooks.proofs.Handing.{handed_is}

low_in : (k v : ℕ) → v < 2 ^ k → reverse (in_bits k v) ≡ low_bits k v
low_in zero v h = refl
low_in (suc k) v h =
    ⊎_elim
    (λ l.
    let e : 0 * 2 ^ k + v ≡ v = omega arith in
    ap (λ n. reverse (in_bits (suc k) n)) (sym e) ∙ ap reverse (in_bits-cons 0 k v l) ∙ reverse-cons false (in_bits k v)
    ∙ ap (λ t. t ++ (false ∷ [])) (low_in k v l) ∙ sym (low_zero k v l))
    (λ g.
    let e : 2 ^ k + (v - 2 ^ k) ≡ v = omega arith in
    let l : v - 2 ^ k < 2 ^ k = omega (arith, two_pow k) in
    ap (λ n. reverse (in_bits (suc k) n)) (sym e) ∙ ap reverse (in_bits_top k (v - 2 ^ k) l) ∙ reverse-cons true (in_bits k (v - 2 ^ k))
    ∙ ap (λ t. t ++ (true ∷ [])) (low_in k (v - 2 ^ k) l) ∙ sym (low_one k v g h))
    (cases_lt v (2 ^ k))

-- the number and one more are a power of two and what is left
module _ (w n k v : ℕ) (small : n < 2 ^ w) (sum : n + 1 ≡ 2 ^ k + v) (within : v < 2 ^ k) (few : k ≤ 64) where
  -- the codeword from its first bit to its last, by a number whose bits are those of v in the other order
  pub first_handed : (turned : ℕ) → low_bits k turned ≡ in_bits k v → code_at w n ≡ Some (handed 0 k ++ ((true ∷ []) ++ handed turned k))
  first_handed turned is =
      code-at w n small
      ∙ ap Some (codeword_is n k v sum within ∙ ap₂ (λ x y. x ++ (true ∷ y)) (sym (handed_is 0 k few ∙ zero_low k)) (sym (handed_is turned k few ∙ is)))

  -- and from its last to its first
  pub last_handed : reversed (code_at w n) ≡ Some (handed v k ++ ((true ∷ []) ++ handed 0 k))
  last_handed =
      ap reversed (code-at w n small)
      ∙ ap Some (reversed_is n k v sum within ∙ ap₂ (λ x y. x ++ (true ∷ y)) (low_in k v within ∙ sym (handed_is v k few)) (sym (handed_is 0 k few ∙ zero_low k)))
