use Rattle.std.proofs.Common.{◌≡◌, ℕ, ◌-◌, ◌^◌, min, length}
use Rattle.model.specs.Bits.{zeros}
use Rattle.codebooks.proofs.ReadChains.{Past}
use Rattle.codebooks.proofs.each.read_to_one.Given as goal

abbrev pub invariant-loop-one : goal.invariant-loop-one
invariant-loop-one g l = (z : ℕ) × (l.zeros ≡ min z (2 ^ 64 - 1)) × Past g.R.BitSource.coming g.R.BitSource.reads (zeros z) l.initial.source l.source

abbrev pub decreases-loop-one : goal.decreases-loop-one
decreases-loop-one g l = length (g.R.BitSource.coming l.source)
