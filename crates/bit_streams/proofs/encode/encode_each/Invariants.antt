use Rattle.std.proofs.Common.{Bool, List, Option}
use Rattle.bit_streams.specs.Several.{Gives, code_of_lent}
use Rattle.bit_streams.proofs.Chained.{Onward}
use Rattle.bit_streams.proofs.encode.encode_each.Given as goal

abbrev pub invariant-loop-symbol : goal.invariant-loop-symbol
invariant-loop-symbol g l =
    let it = goal.iterator-loop-symbol g in
    let code = code_of_lent g.C.Codebook.code in
    it.can_next l.symbol-iterator × it.is_finite l.symbol-iterator
    × ((codes : List (Option (List Bool))) → Gives it.next_gives code l.initial.symbol-iterator codes → Onward g.K.WriteBitStream.encodes it.next_gives code l.initial.stream codes l.symbol-iterator l.stream)
