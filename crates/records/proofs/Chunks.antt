-- The bytes of chunks.
use Rattle.std.proofs.Common.{◌≡◌, ℕ, zero, suc, ◌+◌, ◌*◌, ◌<◌, List, [], get_or, drop, ap, ◌∙◌, arith}
use Rattle.std.specs.Simd.{first_chunks}
use Rattle.std.proofs.lemmas.List.{get_or-take, get_or-drop}

-- byte j of chunk i, of k chunks of n bytes
pub chunk_byte : (n k i j : ℕ) (xs : List ℕ) → i < k → j < n → get_or (get_or (first_chunks n k xs) i []) j 0 ≡ get_or xs (n * i + j) 0
chunk_byte n zero i j xs lt b = absurd (omega arith)
chunk_byte n (suc k) zero j xs lt b = get_or-take n xs j 0 b ∙ ap (λ m. get_or xs m 0) (omega arith)
chunk_byte n (suc k) (suc i) j xs lt b =
    chunk_byte n k i j (drop n xs) (omega arith) b
    ∙ get_or-drop n xs (n * i + j) 0
    ∙ ap (λ m. get_or xs m 0) (omega arith)
