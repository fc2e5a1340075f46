use Rattle.backends.specs.Slices.{word_at}
use Rattle.backends.proofs.Extending.{Written}
use Rattle.backends.proofs.generic.write_all.Given as goal

abbrev pub invariant-loop-word : goal.invariant-loop-word
invariant-loop-word g l =
    Written g.B.WriteWords.writes g.B.WriteWords.places g.B.WriteWords.capacity (word_at g.W.Word.value) l.initial.store l.words l.word-index l.store
