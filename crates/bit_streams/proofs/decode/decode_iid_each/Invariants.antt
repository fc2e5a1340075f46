use Rattle.std.proofs.Common.{length, replicate}
use Rattle.bit_streams.proofs.ReadChains.{ReadSoFar}
use Rattle.bit_streams.proofs.decode.decode_iid_each.Given as goal

abbrev pub invariant-loop-read : goal.invariant-loop-read
invariant-loop-read g l = ReadSoFar (g.K.ReadBitStream.decodes g.row.C-Symbol.Denot) l.initial.stream (replicate (length l.initial.symbols) (g.C.Codebook.outcome l.book)) l.initial.symbols l.read-counter l.symbols l.stream
