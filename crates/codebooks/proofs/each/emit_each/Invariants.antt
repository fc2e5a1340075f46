use Rattle.std.proofs.Common.{Ok}
use Rattle.model.specs.Bits.{low_bits}
use Rattle.codebooks.specs.Sent.{Sent}
use Rattle.codebooks.proofs.each.emit_each.Given as goal

abbrev pub invariant-loop-i : goal.invariant-loop-i
invariant-loop-i g l = Sent g.K.BitSink.held g.K.BitSink.emits (low_bits l.i l.number) l.initial.sink (Ok tt) l.sink
