-- Bytes of a text that are neither '0' nor '1'.
use Rattle.std.proofs.Common.{◌≡◌, ℕ, ne_eqb}
use Rattle.model.specs.Cells.{bad}
use Rattle.codebook_edges.specs.Texts.{cell_of}

pub other_byte : (c : ℕ) → (c ≡ 48 → ⊥) → (c ≡ 49 → ⊥) → cell_of c ≡ bad c
other_byte c n m = rw (ne_eqb c 48 n, ne_eqb c 49 m)
