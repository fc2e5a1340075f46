-- Bits among cells.
use Rattle.std.proofs.Common.{◌≡◌, ℕ, zero, suc, ◌≤◌, Bool, List, [], ◌∷◌, ◌++◌, reverse, length, take, drop, sym, refl, ap, ◌∙◌, arith}
use mathlib.Core.List.{reverse-cons}
use Rattle.std.proofs.lemmas.List.{drop_at}
use Rattle.model.specs.Cells.{Cell, bit, bad, bits, ahead}

pub length-bits : (bs : List Bool) → length (bits bs) ≡ length bs
length-bits [] = refl
length-bits (b ∷ bs) = ap suc (length-bits bs)

pub bits-append : (v w : List Bool) → bits (v ++ w) ≡ bits v ++ bits w
bits-append [] w = refl
bits-append (b ∷ v) w = ap (λ t. bit b ∷ t) (bits-append v w)

pub reverse_bits : (v : List Bool) → reverse (bits v) ≡ bits (reverse v)
reverse_bits [] = refl
reverse_bits (x ∷ v) =
    reverse-cons (bit x) (bits v) ∙ ap (λ t. t ++ (bit x ∷ [])) (reverse_bits v) ∙ sym (bits-append (reverse v) (x ∷ [])) ∙ ap bits (sym (reverse-cons x v))

pub ahead-bits : (v : List Bool) (cs : List Cell) → ahead (bits v ++ cs) ≡ v ++ ahead cs
ahead-bits [] cs = refl
ahead-bits (x ∷ v) cs = ap (λ t. x ∷ t) (ahead-bits v cs)

pub drop_bits : (v : List Bool) (cs : List Cell) → drop (length v) (bits v ++ cs) ≡ cs
drop_bits v cs = drop_at (bits v) cs (length v) (length-bits v)

-- the first cells to come are the first bits
pub first_bits : (n : ℕ) (cs : List Cell) → n ≤ length (ahead cs) → cs ≡ bits (take n (ahead cs)) ++ drop n cs
first_bits zero cs h = refl
first_bits (suc n) [] h = absurd (omega arith)
first_bits (suc n) (bit b ∷ cs) h = ap (λ t. bit b ∷ t) (first_bits n cs (omega arith))
first_bits (suc n) (bad k ∷ cs) h = absurd (omega arith)
