-- Lemma: the law of a scratch as a sink.
use Rattle.std.specs.Prelude.{◌≡◌, ◌≤◌, length}
use Rattle.std.proofs.Common.{arith}
use Rattle.std.proofs.lemmas.List.{length-map}
use Rattle.model.specs.Cells.{bit, bits}
use Rattle.codebooks.specs.declared.scratch.Scratch.{Scratch}
use Rattle.codebooks.specs.Scratches.{scratch_bits, scratch_sink}

-- it never holds more bits than it has room for
pub scratch_within : (s : Scratch) → length (scratch_sink s).taken ≤ (scratch_sink s).limit
scratch_within s = let few = s.within in let l : length (bits (scratch_bits s)) ≡ length (scratch_bits s) = length-map (scratch_bits s) bit in omega arith
