use Rattle.std.proofs.Common.{◌≡◌, Bool, List, ◌++◌, reverse, Ok}
use Rattle.codebooks.specs.Scratches.{scratch_bits}
use Rattle.codebooks.specs.Sent.{Sent}
use Rattle.codebooks.proofs.default.emit_turned.Given as goal

abbrev pub invariant-loop-bit : goal.invariant-loop-bit
invariant-loop-bit g l =
    (v : List Bool) × (reverse (scratch_bits l.scratch) ≡ v ++ reverse l.bit-iterator.iter.rest.now) × Sent g.K.BitSink.held g.K.BitSink.emits v l.initial.sink (Ok tt) l.sink
