use Rattle.links.specs.Bytes.{Accepted}
use Rattle.links.proofs.table.LinkTable.add_rows.Given as goal

abbrev pub invariant-loop-i : goal.invariant-loop-i
invariant-loop-i l = Accepted l.initial.self l.bytes l.i l.repeats l.self
