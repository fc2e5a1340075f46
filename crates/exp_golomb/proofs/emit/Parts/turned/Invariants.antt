use Rattle.std.proofs.Common.{◌≡◌, ◌^◌, ◌<◌}
use Rattle.model.specs.Bits.{in_bits, low_bits}
use Rattle.exp_golomb.proofs.emit.Parts.turned.Given as goal

abbrev pub invariant-loop-i : goal.invariant-loop-i
invariant-loop-i l = (l.out < 2 ^ l.i) × (low_bits l.i l.out ≡ in_bits l.i l.self.low)
