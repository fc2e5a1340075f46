use Rattle.std.proofs.Common.{◌≡◌, Bool, List, length}
use Rattle.model.specs.Bits.{value}
use Rattle.codebooks.proofs.ReadChains.{Past}
use Rattle.codebooks.proofs.each.read_each.Given as goal

abbrev pub invariant-loop-i : goal.invariant-loop-i
invariant-loop-i g l =
    (v : List Bool) × (length v ≡ l.i) × (l.number ≡ value v) × Past g.R.BitSource.coming g.R.BitSource.reads v l.initial.source l.source
